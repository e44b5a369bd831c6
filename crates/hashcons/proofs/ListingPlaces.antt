-- The places of ids in a listing, and the nodes made of them.
use Rattle.std.proofs.Common.{◌≡◌, ℕ, zero, suc, ◌+◌, ◌<◌, ◌≤◌, Bool, true, false, true≢false, not, cond, List, [], ◌∷◌, ◌++◌, length, map, get_or, slice_get, Option, Some, None, refl, sym, ap, subst, ◌∙◌, arith, ◌⊎◌, inl, inr, nat_lt}
use Rattle.std.specs.List.{position, position_or_len}
use Rattle.std.proofs.lemmas.Bool.{cond-true, lt-ltb}
use Rattle.std.proofs.lemmas.List.{length_push, get_or_append_left, get_or_push, get_or-map, length-map, get_or_read}
use Rattle.std.proofs.lemmas.Option.{same_Some}
use Rattle.hashcons.specs.declared.id.AnyId.{AnyId}
use Rattle.hashcons.specs.declared.id.AnyId.TheVariants as id
use Rattle.hashcons.specs.Ids.{id_at}
use Rattle.hashcons.specs.Listing.{StandsIn, IsFirstPlace, AllStandIn, ArePlacesOf, diagram_ids, arrow_ids}
use Rattle.hashcons.proofs.TableTrees.{slice_get-below}
use Rattle.hashcons.specs.EqualIds.{id_eq}
use Rattle.hashcons.proofs.IdsOfTrees.{id_decides}

-- ---- the place that the look-up finds

record FirstOf (ids : List AnyId) (x : AnyId) (p q : ℕ) : Type 0 where
  least : p ≤ q
  there : slice_get ids p ≡ Some x

first_cons : (y : AnyId) (ids : List AnyId) (x : AnyId) (q : ℕ) (b : Bool) → id_eq x y ≡ b → slice_get (y ∷ ids) q ≡ Some x
    → ((k : ℕ) → slice_get ids k ≡ Some x → FirstOf ids x (position_or_len (id_eq x) ids) k)
    → FirstOf (y ∷ ids) x (position_or_len (id_eq x) (y ∷ ids)) q
first_cons y ids x q true e at rest =
    let z : position_or_len (id_eq x) (y ∷ ids) ≡ 0 = ap (λ b. cond (not b) (1 + position_or_len (id_eq x) ids) 0) e in
    record { least = omega arith; there = ap (slice_get (y ∷ ids)) z ∙ ap Some (sym ((id_decides x y).0 e)) }
first_cons y ids x zero false e at rest = absurd (true≢false (sym ((id_decides x y).1 (sym (same_Some y x at))) ∙ e))
first_cons y ids x (suc q) false e at rest =
    let r = rest q at in
    let p = position_or_len (id_eq x) ids in
    let z : position_or_len (id_eq x) (y ∷ ids) ≡ 1 + p = ap (λ b. cond (not b) (1 + p) 0) e in
    let s : 1 + p ≡ suc p = omega arith in
    record { least = let l = r.least in omega arith; there = ap (slice_get (y ∷ ids)) (z ∙ s) ∙ r.there }

first_of : (ids : List AnyId) (x : AnyId) (q : ℕ) → slice_get ids q ≡ Some x
    → FirstOf ids x (position_or_len (id_eq x) ids) q
first_of [] x q at = cc
first_of (y ∷ ids) x q at = first_cons y ids x q (id_eq x y) refl at (first_of ids x)

pub record FoundAt (ids : List AnyId) (x : AnyId) (r : Option ℕ) : Type 0 where
  pub place : ℕ
  pub is : r ≡ Some place
  pub first : IsFirstPlace ids x place

pub found_at : (ids : List AnyId) (x : AnyId) (r : Option ℕ) → StandsIn ids x → r ≡ position (id_eq x) ids → FoundAt ids x r
found_at ids x r h e =
    let p = position_or_len (id_eq x) ids in
    let f = first_of ids x h.place h.there in
    let l : p < length ids = slice_get-below ids p x f.there in
    record {
      place = p;
      is = e ∙ cond-true (nat_lt p (length ids)) (Some p) None (lt-ltb p (length ids) l);
      first = record { there = f.there; first = λ k at. (first_of ids x k at).least };
    }

-- ---- lists of them

at_map : (f : ℕ → AnyId) (xs : List ℕ) (i x : ℕ) → i < length xs → x ≡ get_or xs i x → id_at (map f xs) i ≡ f x
at_map f xs i x l read = get_or-map f xs i 0 (id.Diagram 0) l ∙ ap f (sym (get_or_read xs i x l read 0))

pub diagram_stands : (ids : List AnyId) (ds : List ℕ) (i d : ℕ) → AllStandIn ids (diagram_ids ds) → i < length ds
    → d ≡ get_or ds i d → StandsIn ids (id.Diagram d)
diagram_stands ids ds i d h l read =
    let m = length-map ds (λ d. id.Diagram d) in
    subst (StandsIn ids) (at_map (λ d. id.Diagram d) ds i d l read) (h.stand i (omega arith))

pub arrow_stands : (ids : List AnyId) (xs : List ℕ) (i a : ℕ) → AllStandIn ids (arrow_ids xs) → i < length xs
    → a ≡ get_or xs i a → StandsIn ids (id.Arrow a)
arrow_stands ids xs i a h l read =
    let m = length-map xs (λ a. id.Arrow a) in
    subst (StandsIn ids) (at_map (λ a. id.Arrow a) xs i a l read) (h.stand i (omega arith))

pub root_stands : (ids roots : List AnyId) (i : ℕ) (x : AnyId) → AllStandIn ids roots → i < length roots
    → x ≡ get_or roots i x → StandsIn ids x
root_stands ids roots i x h l read = subst (StandsIn ids) (sym (get_or_read roots i x l read (id.Diagram 0))) (h.stand i l)

pub places-none : (ids xs : List AnyId) → ArePlacesOf ids xs 0 []
places-none ids xs = record { len = refl; are = λ j l. absurd (omega arith) }

pub places-more : (ids xs : List AnyId) (n : ℕ) (ps : List ℕ) (x : AnyId) (p : ℕ) → ArePlacesOf ids xs n ps → id_at xs n ≡ x
    → IsFirstPlace ids x p → ArePlacesOf ids xs (n + 1) (ps ++ p ∷ [])
places-more ids xs n ps x p h e f = record {
  len = let l = h.len in let k = length_push ps p in omega arith;
  are = λ j l. by j (cut j l);
}
  where
    cut : (j : ℕ) → j < n + 1 → (j < n) ⊎ (n ≡ j)
    cut j l = grind arith

    by : (j : ℕ) → (j < n) ⊎ (n ≡ j) → IsFirstPlace ids (id_at xs j) (get_or (ps ++ p ∷ []) j 0)
    by j (inl q) = subst (IsFirstPlace ids (id_at xs j))
        (sym (get_or_append_left ps (p ∷ []) 0 j (let l = h.len in omega arith))) (h.are j q)
    by j (inr q) =
        subst (λ k. IsFirstPlace ids (id_at xs k) (get_or (ps ++ p ∷ []) k 0)) q
        (subst (IsFirstPlace ids (id_at xs n)) (sym (get_or_push ps p 0 n h.len))
        (subst (λ y. IsFirstPlace ids y p) (sym e) f))

pub diagram_places-more : (ids : List AnyId) (ds : List ℕ) (n : ℕ) (ps : List ℕ) (d p : ℕ)
    → ArePlacesOf ids (diagram_ids ds) n ps → n < length ds → d ≡ get_or ds n d → IsFirstPlace ids (id.Diagram d) p
    → ArePlacesOf ids (diagram_ids ds) (n + 1) (ps ++ p ∷ [])
diagram_places-more ids ds n ps d p h l read f = places-more ids (diagram_ids ds) n ps (id.Diagram d) p h
    (at_map (λ d. id.Diagram d) ds n d l read) f

pub arrow_places-more : (ids : List AnyId) (xs : List ℕ) (n : ℕ) (ps : List ℕ) (a p : ℕ)
    → ArePlacesOf ids (arrow_ids xs) n ps → n < length xs → a ≡ get_or xs n a → IsFirstPlace ids (id.Arrow a) p
    → ArePlacesOf ids (arrow_ids xs) (n + 1) (ps ++ p ∷ [])
arrow_places-more ids xs n ps a p h l read f = places-more ids (arrow_ids xs) n ps (id.Arrow a) p h
    (at_map (λ a. id.Arrow a) xs n a l read) f

pub root_places-more : (ids roots : List AnyId) (n : ℕ) (ps : List ℕ) (x : AnyId) (p : ℕ) → ArePlacesOf ids roots n ps
    → n < length roots → x ≡ get_or roots n x → IsFirstPlace ids x p
    → ArePlacesOf ids roots (n + 1) (ps ++ p ∷ [])
root_places-more ids roots n ps x p h l read f = places-more ids roots n ps x p h
    (sym (get_or_read roots n x l read (id.Diagram 0))) f
