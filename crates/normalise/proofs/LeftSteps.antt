-- Loops that gather legs, forms and what is left.
use Rattle.std.proofs.Common.{◌≡◌, ℕ, suc, ◌<◌, ◌+◌, List, [], ◌∷◌, ◌++◌, ◌⊎◌, length, map, take, get_or, Bool, true, false, cond, refl, sym, ap, subst, ◌∙◌, arith, inl, inr}
use Rattle.std.specs.List.{Contains, filter, flat_map}
use Rattle.std.proofs.lemmas.Bool.{cases_Bool}
use Rattle.std.proofs.lemmas.List.{map-append, take_more, length_push, get_or_append_left, get_or_push, append-nil}
use Rattle.std.proofs.lemmas.List.Concat.{flat_map-append}
use Rattle.std.proofs.lemmas.List.Elements.{filter-append, Contains-append_cases}
use Rattle.std.proofs.lemmas.List.FromFn.{map-range_with_len_more}
use Rattle.diagram_terms.specs.Dual.{upto, tab}
use Rattle.diagram_terms.specs.Nodes.{picked}
use Rattle.diagram_terms.specs.Tree.{Tree, nil, zig, zag, sings}
use Rattle.normal_form_laws.proofs.Members.{in_none, in_cases}
use Rattle.hashcons.specs.Contents.{Contents, Grows, diagram_at, leg_of}
use Rattle.hashcons.specs.NormalTrees.{TreeLeg}
use Rattle.hashcons.specs.Nodes.{AreArrowChildren, AreDiagramChildren}
use Rattle.hashcons.proofs.Growth.{gathers-below, gathers-picked, gathers-diagrams_grow, gathers-arrows_grow}
use Rattle.hashcons.proofs.TableTrees.{picked-agree}
use Rattle.normalise.specs.declared.parts.Forms.{Forms}
use Rattle.normalise.specs.declared.left.Left.{Left}
use Rattle.normalise.specs.declared.level.Level.{Level}
use Rattle.normalise.specs.LegSlices.{reg_leg_tree, regular_slice_trees, slices_to, slice_trees_over}
use Rattle.normalise.specs.FormTrees.{reg_normal, sing_normal, fwd_tree, bwd_tree, is_kept_tree, kept_below, assembled_tree}
use Rattle.normalise.specs.StoreForms.{legs_of, IsLegInto, AreLegsWith, AreForms, Picks, IsLeftOf, IsLevelOf, IsEmptyLeft, IsMoreLeft, added}

-- ---- one more

pub upto_more : (n : ℕ) → upto (n + 1) ≡ upto n ++ n ∷ []
upto_more n = sym (map_same (upto (n + 1))) ∙ map-range_with_len_more (λ i. i) 0 n n (omega arith) ∙ ap (λ xs. xs ++ n ∷ []) (map_same (upto n))
  where
    map_same : (xs : List ℕ) → map (λ (i : ℕ). i) xs ≡ xs
    map_same [] = refl
    map_same (x ∷ xs) = ap (λ ys. x ∷ ys) (map_same xs)

pub filter_one : {X : Type 0} (f : X → Bool) (xs : List X) (x : X) → filter f (xs ++ x ∷ []) ≡ added (f x) (filter f xs) x
filter_one f xs x = filter-append f xs (x ∷ []) ∙ elim (cases_Bool (f x)) [
  | inl p ↦ ap (λ b. filter f xs ++ cond b (x ∷ []) []) p ∙ sym (ap (λ b. added b (filter f xs) x) p)
  | inr q ↦ ap (λ b. filter f xs ++ cond b (x ∷ []) []) q ∙ append-nil (filter f xs) ∙ sym (ap (λ b. added b (filter f xs) x) q)
]

pub map_added : {X Y : Type 0} (f : X → Y) (b : Bool) (xs : List X) (x : X) → map f (added b xs x) ≡ added b (map f xs) (f x)
map_added f true xs x = map-append f xs (x ∷ [])
map_added f false xs x = refl

pub kept_more : (t : Tree) (gs : List TreeLeg) (n : ℕ) → kept_below t gs (n + 1) ≡ added (is_kept_tree t gs n) (kept_below t gs n) n
kept_more t gs n = ap (filter (is_kept_tree t gs)) (upto_more n) ∙ filter_one (is_kept_tree t gs) (upto n) n

-- a fact of one more
pub more_in : {X : Type 0} (P : X → Type 0) (xs : List X) (x : X) → ((y : X) → Contains xs y → P y) → P x
    → (y : X) → Contains (xs ++ x ∷ []) y → P y
more_in P xs x all p y c = elim (Contains-append_cases xs (x ∷ []) y c) [
  | inl o ↦ all y o
  | inr o ↦ elim (in_cases x y [] o) [ inl e ↦ subst P e p | inr n ↦ absurd (in_none y n) ]
]

-- ---- legs

-- one leg more
pub legs_push : (c : Contents) (t : Tree) (gs : List TreeLeg) (xs : List (ℕ × ℕ)) (x : ℕ × ℕ) (g : TreeLeg) → AreLegsWith c t gs xs → IsLegInto c t x
    → leg_of c x ≡ g → AreLegsWith c t (gs ++ g ∷ []) (xs ++ x ∷ [])
legs_push c t gs xs x g h p e = record {
  into = more_in (IsLegInto c t) xs x h.into p;
  trees = map-append (leg_of c) xs (x ∷ []) ∙ (λ i. h.trees i ++ e i ∷ []);
}

pub legs_none : (c : Contents) (t : Tree) → AreLegsWith c t [] []
legs_none c t = record { into = λ x n. absurd (in_none x n); trees = refl }

-- and more legs
pub legs_append : (c : Contents) (t : Tree) (gs hs : List TreeLeg) (xs ys : List (ℕ × ℕ)) → AreLegsWith c t gs xs → AreLegsWith c t hs ys
    → AreLegsWith c t (gs ++ hs) (xs ++ ys)
legs_append c t gs hs xs ys h k = record {
  into = λ x m. elim (Contains-append_cases xs ys x m) [ inl p ↦ h.into x p | inr q ↦ k.into x q ];
  trees = map-append (leg_of c) xs ys ∙ (λ i. h.trees i ++ k.trees i);
}

-- the trees of the first legs, and of one more
pub taken_more : (c : Contents) (xs : List (ℕ × ℕ)) (i : ℕ) → i < length xs
    → legs_of c (take (i + 1) xs) ≡ legs_of c (take i xs) ++ leg_of c (get_or xs i (0, 0)) ∷ []
taken_more c xs i l = ap (legs_of c) (take_more xs i (0, 0) l) ∙ map-append (leg_of c) (take i xs) (get_or xs i (0, 0) ∷ [])

pub regular_more : (c : Contents) (xs : List (ℕ × ℕ)) (i j : ℕ) → i < length xs
    → regular_slice_trees (legs_of c (take (i + 1) xs)) j ≡ regular_slice_trees (legs_of c (take i xs)) j ++ reg_leg_tree j (leg_of c (get_or xs i (0, 0))) ∷ []
regular_more c xs i j l =
    ap (map (reg_leg_tree j)) (taken_more c xs i l) ∙ map-append (reg_leg_tree j) (legs_of c (take i xs)) (leg_of c (get_or xs i (0, 0)) ∷ [])

pub over_more : (c : Contents) (xs : List (ℕ × ℕ)) (i k : ℕ) → i < length xs
    → slice_trees_over (legs_of c (take (i + 1) xs)) k ≡ slice_trees_over (legs_of c (take i xs)) k ++ slices_to k (leg_of c (get_or xs i (0, 0)))
over_more c xs i k l =
    let g = leg_of c (get_or xs i (0, 0)) in
    ap (flat_map (slices_to k)) (taken_more c xs i l) ∙ flat_map-append (slices_to k) (legs_of c (take i xs)) (g ∷ [])
    ∙ ap (λ ys. flat_map (slices_to k) (legs_of c (take i xs)) ++ ys) (append-nil (slices_to k g))

-- ---- ids that pick trees

pub picks-none : (ts : List Tree) → Picks ts [] []
picks-none ts = record { below = record { below = λ i l. absurd (omega arith) }; are = refl }

pub picks-push : (ts : List Tree) (ids : List ℕ) (us : List Tree) (x : ℕ) (u : Tree) → Picks ts ids us → x < length ts → get_or ts x nil ≡ u
    → Picks ts (ids ++ x ∷ []) (us ++ u ∷ [])
picks-push ts ids us x u h l e = record {
  below = record {
    below = λ i m. elim (cases i m) [
      | inl q ↦ subst (λ (j : ℕ). j < length ts) (sym (get_or_append_left ids (x ∷ []) 0 i q)) (h.below.below i q)
      | inr q ↦ subst (λ (j : ℕ). j < length ts) (sym (get_or_push ids x 0 i q)) l
    ];
  };
  are = map-append (λ i. get_or ts i nil) ids (x ∷ []) ∙ (λ i. h.are i ++ e i ∷ []);
}
  where
    cases : (i : ℕ) → i < length (ids ++ x ∷ []) → (i < length ids) ⊎ (length ids ≡ i)
    cases i m = let n = length_push ids x in grind arith

pub picks-added : (ts : List Tree) (b : Bool) (ids : List ℕ) (us : List Tree) (x : ℕ) (u : Tree) → Picks ts ids us → x < length ts → get_or ts x nil ≡ u
    → Picks ts (added b ids x) (added b us u)
picks-added ts true ids us x u h l e = picks-push ts ids us x u h l e
picks-added ts false ids us x u h l e = h

pub picks-diagrams_grow : (old new : Contents) (ids : List ℕ) (us : List Tree) → Grows old new → Picks old.diagrams ids us → Picks new.diagrams ids us
picks-diagrams_grow old new ids us g h = record {
  below = record { below = λ i l. g.diagrams (get_or ids i 0) (h.below.below i l) };
  are = sym (picked-agree (length old.diagrams) old.diagrams new.diagrams ids h.below (λ j l. sym (g.diagram_trees j l))) ∙ h.are;
}

pub picks-arrows_grow : (old new : Contents) (ids : List ℕ) (us : List Tree) → Grows old new → Picks old.arrows ids us → Picks new.arrows ids us
picks-arrows_grow old new ids us g h = record {
  below = record { below = λ i l. g.arrows (get_or ids i 0) (h.below.below i l) };
  are = sym (picked-agree (length old.arrows) old.arrows new.arrows ids h.below (λ j l. sym (g.arrow_trees j l))) ∙ h.are;
}

-- ---- what is left

pub left-grows : (old new : Contents) (t : Tree) (gs : List TreeLeg) (n : ℕ) (left : Left) → Grows old new → IsLeftOf old t gs n left → IsLeftOf new t gs n left
left-grows old new t gs n left g h = record {
  heights = h.heights;
  regs = picks-diagrams_grow old new _ _ g h.regs;
  sings = picks-diagrams_grow old new _ _ g h.sings;
  fwds = picks-arrows_grow old new _ _ g h.fwds;
  bwds = picks-arrows_grow old new _ _ g h.bwds;
  arrows = picks-arrows_grow old new _ _ g h.arrows;
}

pub left-none : (c : Contents) (t : Tree) (gs : List TreeLeg) (left : Left) → IsEmptyLeft left → IsLeftOf c t gs 0 left
left-none c t gs left e = record {
  heights = e.heights;
  regs = subst (λ (ids : List ℕ). Picks c.diagrams ids []) (sym e.regs) (picks-none c.diagrams);
  sings = subst (λ (ids : List ℕ). Picks c.diagrams ids []) (sym e.sings) (picks-none c.diagrams);
  fwds = subst (λ (ids : List ℕ). Picks c.arrows ids []) (sym e.fwds) (picks-none c.arrows);
  bwds = subst (λ (ids : List ℕ). Picks c.arrows ids []) (sym e.bwds) (picks-none c.arrows);
  arrows = subst (λ (ids : List ℕ). Picks c.arrows ids []) (sym e.arrows) (picks-none c.arrows);
}

module _ (t : Tree) (gs : List TreeLeg) (n : ℕ) (b : Bool) (kept : b ≡ is_kept_tree t gs n) where
  heights_then : added b (kept_below t gs n) n ≡ kept_below t gs (n + 1)
  heights_then = ap (λ x. added x (kept_below t gs n) n) kept ∙ sym (kept_more t gs n)

  -- one more in a list of parts
  part_more : (ts : List Tree) (f : ℕ → Tree) (ids more : List ℕ) (x : ℕ) → Picks ts ids (map f (kept_below t gs n)) → more ≡ added b ids x
      → x < length ts → get_or ts x nil ≡ f n → Picks ts more (map f (kept_below t gs (n + 1)))
  part_more ts f ids more x h e l is =
      let p = picks-added ts b ids (map f (kept_below t gs n)) x (f n) h l is in
      let q = sym (map_added f b (kept_below t gs n) n) ∙ ap (map f) heights_then in
      subst (λ (ks : List ℕ). Picks ts ks (map f (kept_below t gs (n + 1)))) (sym e) (subst (Picks ts (added b ids x)) q p)

pub left-more : (c : Contents) (t : Tree) (gs : List TreeLeg) (n r : ℕ) (x : Level) (left more : Left) → IsLeftOf c t gs n left → IsLevelOf c t gs n x
    → r < length c.diagrams → diagram_at c r ≡ (reg_normal t gs n).source → IsMoreLeft left n r x more → IsLeftOf c t gs (n + 1) more
left-more c t gs n r x left more h v l e m = record {
  heights = m.heights ∙ ap (λ hs. added x.kept hs n) h.heights ∙ heights_then t gs n x.kept v.kept;
  regs = part_more t gs n x.kept v.kept c.diagrams (λ k. (reg_normal t gs k).source) left.regs.items more.regs.items r h.regs m.regs l e;
  sings = part_more t gs n x.kept v.kept c.diagrams (λ k. (sing_normal t gs k).source) left.sings.items more.sings.items x.source h.sings m.sings v.form.of_store.source
      (ap (λ (g : TreeLeg). g.source) v.form.trees);
  fwds = part_more t gs n x.kept v.kept c.arrows (fwd_tree t gs) left.fwds.items more.fwds.items x.fwd h.fwds m.fwds v.fwd.of_store v.fwd.tree;
  bwds = part_more t gs n x.kept v.kept c.arrows (bwd_tree t gs) left.bwds.items more.bwds.items x.bwd h.bwds m.bwds v.bwd.of_store v.bwd.tree;
  arrows = part_more t gs n x.kept v.kept c.arrows (λ k. (sing_normal t gs k).arrow) left.arrows.items more.arrows.items x.arrow h.arrows m.arrows v.form.of_store.arrow
      (ap (λ (g : TreeLeg). g.arrow) v.form.trees);
}

-- ---- what the nodes describe

module _ (c : Contents) (t : Tree) (gs : List TreeLeg) (last : ℕ) (e : last ≡ length (sings t)) (left : Left) (h : IsLeftOf c t gs last left)
    (forms : Forms) (f : AreForms c t gs (suc last) forms) where
  module _ (regs : List ℕ) (is : regs ≡ left.regs.items ++ get_or forms.sources.items last 0 ∷ []) where
    regs_there : Picks c.diagrams regs (map (λ k. (reg_normal t gs k).source) (kept_below t gs last ++ last ∷ []))
    regs_there =
        let one = picks-push c.diagrams left.regs.items _ (get_or forms.sources.items last 0) ((reg_normal t gs last).source) h.regs
        (f.sources.of_store last (omega arith)) (f.sources.are last (omega arith)) in
        subst (λ (ids : List ℕ). Picks c.diagrams ids (map (λ k. (reg_normal t gs k).source) (kept_below t gs last ++ last ∷ []))) (sym is)
        (subst (Picks c.diagrams (left.regs.items ++ get_or forms.sources.items last 0 ∷ []))
        (sym (map-append (λ k. (reg_normal t gs k).source) (kept_below t gs last) (last ∷ []))) one)

    pub source_children : AreDiagramChildren (length c.arrows) (length c.diagrams) regs left.sings.items left.fwds.items left.bwds.items
    source_children = record { regs = regs_there.below; sings = h.sings.below; fwds = h.fwds.below; bwds = h.bwds.below }

    pub described_source : zig (picked c.diagrams regs) (picked c.diagrams left.sings.items) (picked c.arrows left.fwds.items) (picked c.arrows left.bwds.items)
        ≡ (assembled_tree t gs).source
    described_source =
        let put = λ (n : ℕ). zig (map (λ k. (reg_normal t gs k).source) (kept_below t gs n ++ n ∷ [])) (map (λ k. (sing_normal t gs k).source) (kept_below t gs n))
        (map (fwd_tree t gs) (kept_below t gs n)) (map (bwd_tree t gs) (kept_below t gs n)) in
        let p = regs_there.are in
        let q = h.sings.are in
        let u = h.fwds.are in
        let v = h.bwds.are in
        (λ i. zig (p i) (q i) (u i) (v i)) ∙ ap put e

  pub arrow_children : AreArrowChildren (length c.arrows) forms.arrows.items left.arrows.items
  arrow_children = record { regs = gathers-below c.arrows forms.arrows.items _ _ f.arrows; sings = h.arrows.below }

  pub described_form : zag left.heights.items (picked c.arrows forms.arrows.items) (picked c.arrows left.arrows.items) ≡ (assembled_tree t gs).arrow
  described_form =
      let put = λ (n : ℕ). zag (kept_below t gs n) (tab (λ j. (reg_normal t gs j).arrow) (suc n)) (map (λ k. (sing_normal t gs k).arrow) (kept_below t gs n)) in
      let p = h.heights in
      let q = gathers-picked c.arrows forms.arrows.items _ _ f.arrows in
      let u = h.arrows.are in
      (λ i. zag (p i) (q i) (u i)) ∙ ap put e

pub forms-grow : (old new : Contents) (t : Tree) (gs : List TreeLeg) (n : ℕ) (forms : Forms) → Grows old new → AreForms old t gs n forms → AreForms new t gs n forms
forms-grow old new t gs n forms g h = record {
  sources = gathers-diagrams_grow old new _ _ _ g h.sources;
  arrows = gathers-arrows_grow old new _ _ _ g h.arrows;
}
