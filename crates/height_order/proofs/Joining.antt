-- The joins of maps, one height after the other.
use Rattle.std.proofs.Common.{◌≡◌, ℕ, ◌+◌, ◌<◌, List, [], ◌∷◌, ◌++◌, length, get_or, map, take, sym, ap, ◌∙◌, arith}
use Rattle.std.specs.List.{flat_map}
use Rattle.std.proofs.lemmas.List.{take_more, append-nil}
use Rattle.std.proofs.lemmas.List.Concat.{flat_map-append}
use Rattle.diagram_terms.specs.Dual.{upto}
use Rattle.height_order.specs.declared.classes.Join.{Join}
use Rattle.height_order.specs.Shapes.{as_map}
use Rattle.height_order.specs.Places.{place}
use Rattle.std.specs.List.{Contains}
use Rattle.colimit_laws.proofs.Membership.{contains_map, contains_index}
use Rattle.diagram_terms.specs.HeightClasses.{HeightShape, member, IsHeightMap}
use Rattle.diagram_terms.specs.HeightClasses as height_classes
use Rattle.height_order.specs.declared.height_map.HeightMap.{HeightMap}
use Rattle.height_order.specs.Places.{AreMembers, joins_of}
use Rattle.std.proofs.lemmas.List.{append_assoc}
use Rattle.std.proofs.lemmas.List.FromFn.{map-range_with_len_more}

-- the places that a height of a map joins
abbrev pub join_at : List ℕ → ℕ → ℕ → List ℕ → ℕ → Join
join_at first from to heights i = record { one = place first (member from i); other = place first (member to (get_or heights i 0)) }

pub map_among : (maps : List HeightMap) (k : ℕ) (m : HeightMap) → k < length maps → m ≡ get_or maps k m → Contains (map as_map maps) (as_map m)
map_among maps k m l e = contains_map as_map maps m (contains_index maps k m m l (sym e))

module _ (H : HeightShape) (first : List ℕ) (members : List (ℕ × ℕ)) (a : AreMembers H.lengths first members) (m : height_classes.HeightMap)
    (v : IsHeightMap H m) where
  pub one-below : (i : ℕ) → i < length m.heights → place first (member m.from i) < length members
  one-below i l = let n = v.heights_len in a.within m.from i v.from (omega arith)

  pub other-below : (i : ℕ) → i < length m.heights → place first (member m.to (get_or m.heights i 0)) < length members
  other-below i l = a.within m.to (get_or m.heights i 0) v.to (v.below.below i l)

-- one more height of a map
pub joins-push : (front joins joins' : List Join) (first : List ℕ) (from to : ℕ) (heights : List ℕ) (h : ℕ) (x : Join)
    → joins ≡ front ++ map (join_at first from to heights) (upto h) → joins' ≡ joins ++ x ∷ []
    → x.one ≡ get_or first from 0 + h → x.other ≡ get_or first to 0 + get_or heights h 0
    → joins' ≡ front ++ map (join_at first from to heights) (upto (h + 1))
joins-push front joins joins' first from to heights h x e p one other =
    let f : ℕ → Join = join_at first from to heights in
    let same : x ≡ f h = λ i. record { one = one i; other = other i } in
    let more : map f (upto (h + 1)) ≡ map f (upto h) ++ f h ∷ [] = map-range_with_len_more f 0 h h (omega arith) in
    p ∙ ap (λ (js : List Join). js ++ x ∷ []) e ∙ append_assoc front (map f (upto h)) (x ∷ [])
    ∙ ap (λ (y : Join). front ++ (map f (upto h) ++ y ∷ [])) same ∙ ap (λ (js : List Join). front ++ js) (sym more)

-- all heights of a map
pub joins-map : (joins : List Join) (first : List ℕ) (maps : List height_classes.HeightMap) (k : ℕ) (m : height_classes.HeightMap) (h : ℕ)
    → joins ≡ flat_map (joins_of first) (take k maps) ++ map (join_at first m.from m.to m.heights) (upto h)
    → k < length maps → get_or maps k m ≡ m → h ≡ length m.heights → joins ≡ flat_map (joins_of first) (take (k + 1) maps)
joins-map joins first maps k m h e l at_k all =
    let f : height_classes.HeightMap → List Join = joins_of first in
    e ∙ ap (λ (n : ℕ). flat_map f (take k maps) ++ map (join_at first m.from m.to m.heights) (upto n)) all
    ∙ ap (λ (js : List Join). flat_map f (take k maps) ++ js) (sym (append-nil (f m)))
    ∙ sym (ap (flat_map f) (take_more maps k m l ∙ ap (λ (n : height_classes.HeightMap). take k maps ++ n ∷ []) at_k) ∙ flat_map-append f (take k maps) (m ∷ []))
