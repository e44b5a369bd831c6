-- No name stands twice among those of a part, so each place has one name.
use Rattle.std.proofs.Common.{◌≡◌, ℕ, zero, suc, ◌+◌, ◌<◌, List, [], ◌∷◌, ◌++◌, length, get_or, map, refl, sym, ap, ◌∙◌, subst, arith, inl, inr}
use Rattle.std.specs.List.{Contains, flat_map, range_with_len}
use Rattle.std.proofs.lemmas.List.Elements.{Contains-append_cases, Contains-get_or}
use Rattle.diagram_terms.specs.declared.place.Height.{Height}
use Rattle.diagram_terms.specs.declared.place.Height.TheVariants as slice
use Rattle.diagram_terms.specs.Dual.{upto, dual}
use Rattle.diagram_terms.specs.Ranks.{Ranks, ranks_of}
use Rattle.diagram_terms.specs.ClassParts.{SliceName, named, place_of, stretch, how_many, names, place}
use Rattle.colimit_laws.proofs.Membership.{contains_none, contains_head, contains_tail, contains_cases, from_map, from_flat, from_range, contains_index}
use Rattle.colimit_laws.proofs.Names.{from_stretch, place_of-found}

-- no element stands twice
pub record Distinct {X : Type 0} (xs : List X) : Type 0 where
  pub once : (i j : ℕ) (d : X) → i < length xs → j < length xs → get_or xs i d ≡ get_or xs j d → i ≡ j

distinct-nil : {X : Type 0} → Distinct {X = X} []
distinct-nil = record { once = λ i j d l m e. absurd (omega arith) }

distinct-cons : {X : Type 0} (x : X) (xs : List X) → (Contains xs x → ⊥) → Distinct xs → Distinct (x ∷ xs)
distinct-cons {X} x xs new rest = record { once = go }
  where
    go : (i j : ℕ) (d : X) → i < suc (length xs) → j < suc (length xs) → get_or (x ∷ xs) i d ≡ get_or (x ∷ xs) j d → i ≡ j
    go zero zero d l m e = refl
    go zero (suc j) d l m e = absurd (new (contains_index xs j d x (omega arith) (sym e)))
    go (suc i) zero d l m e = absurd (new (contains_index xs i d x (omega arith) e))
    go (suc i) (suc j) d l m e = ap suc (rest.once i j d (omega arith) (omega arith) e)

distinct-new : {X : Type 0} (x : X) (xs : List X) → Distinct (x ∷ xs) → Contains xs x → ⊥
distinct-new x xs u c = let l = c.1 in let e = u.once 0 (suc c.0) x (omega arith) (omega arith) (sym c.2) in omega arith

distinct-rest : {X : Type 0} (x : X) (xs : List X) → Distinct (x ∷ xs) → Distinct xs
distinct-rest x xs u = record {
  once = λ i j d l m e. let s = u.once (suc i) (suc j) d (omega arith) (omega arith) e in omega arith;
}

distinct-append : {X : Type 0} (xs ys : List X) → Distinct xs → Distinct ys → ((z : X) → Contains xs z → Contains ys z → ⊥) → Distinct (xs ++ ys)
distinct-append [] ys u v apart = v
distinct-append (x ∷ xs) ys u v apart = distinct-cons x (xs ++ ys)
    (λ c. elim (Contains-append_cases xs ys x c) [
      | inl h ↦ distinct-new x xs u h
      | inr h ↦ apart x (contains_head x xs) h
    ])
    (distinct-append xs ys (distinct-rest x xs u) v (λ z h k. apart z (contains_tail x z xs h) k))

distinct-map : {X Y : Type 0} (f : X → Y) → ((a b : X) → f a ≡ f b → a ≡ b) → (xs : List X) → Distinct xs → Distinct (map f xs)
distinct-map f inj [] u = distinct-nil
distinct-map f inj (x ∷ xs) u = distinct-cons (f x) (map f xs)
    (λ c. let r = from_map f xs (f x) c in distinct-new x xs u (subst (Contains xs) (inj r.0 x r.2) r.1))
    (distinct-map f inj xs (distinct-rest x xs u))

distinct-stretch : (a n : ℕ) → Distinct (stretch a n)
distinct-stretch a zero = distinct-nil
distinct-stretch a (suc zero) = distinct-cons (slice.S a) [] (λ c. contains_none (slice.S a) c) distinct-nil
distinct-stretch a (suc (suc n)) = distinct-cons (slice.S a) (slice.R (suc a) ∷ stretch (suc a) (suc n))
    (λ c. elim (contains_cases (slice.R (suc a)) (slice.S a) (stretch (suc a) (suc n)) c) [
      | inl e ↦ (let f : slice.R (suc a) ≡ slice.S a = e in cc)
      | inr h ↦ (let w = from_stretch (suc a) (suc n) (slice.S a) h in let l = w.0 in omega arith)
    ])
    (distinct-cons (slice.R (suc a)) (stretch (suc a) (suc n))
    (λ h. let w = from_stretch (suc a) (suc n) (slice.R (suc a)) h in let l = w.0 in omega arith)
    (distinct-stretch (suc a) (suc n)))

distinct-range : (a n : ℕ) → Distinct (range_with_len a n)
distinct-range a zero = distinct-nil
distinct-range a (suc n) = distinct-cons a (range_with_len (a + 1) n)
    (λ c. let w = from_range (a + 1) n a c in let l = w.0 in omega arith) (distinct-range (a + 1) n)

same_object : (x y : ℕ) (g h : Height) → named x g ≡ named y h → x ≡ y
same_object x y g h e = ap (λ (a : SliceName). a.object) e

same_slice : (x : ℕ) (g h : Height) → named x g ≡ named x h → g ≡ h
same_slice x g h e = ap (λ (a : SliceName). a.height) e

distinct-flat : (f : ℕ → List Height) → ((x : ℕ) → Distinct (f x)) → (xs : List ℕ) → Distinct xs
    → Distinct (flat_map (λ x. map (named x) (f x)) xs)
distinct-flat f each [] u = distinct-nil
distinct-flat f each (x ∷ xs) u = distinct-append (map (named x) (f x)) (flat_map (λ x. map (named x) (f x)) xs)
    (distinct-map (named x) (same_slice x) (f x) (each x)) (distinct-flat f each xs (distinct-rest x xs u))
    (λ z c e.
    let p = from_map (named x) (f x) z c in
    let q = from_flat (λ x. map (named x) (f x)) xs z e in
    let s = from_map (named q.0) (f q.0) z q.2 in
    let same : q.0 ≡ x = same_object q.0 x s.0 p.0 (s.2 ∙ sym p.2) in
    distinct-new x xs u (subst (Contains xs) same q.1))

pub distinct-names : (r : Ranks) (k : ℕ) → Distinct (names r k)
unfolding names
distinct-names r k = distinct-flat (λ x. stretch (dual (ranks_of r x) k) (how_many r k x))
    (λ x. distinct-stretch (dual (ranks_of r x) k) (how_many r k x)) (upto (length r.ranks)) (distinct-range 0 (length r.ranks))

-- the place of the name at j is j
pub place-of_name : (r : Ranks) (k j : ℕ) (d : SliceName) → j < length (names r k)
    → place r k (get_or (names r k) j d).object (get_or (names r k) j d).height ≡ j
unfolding place
place-of_name r k j d l =
    let a : SliceName = get_or (names r k) j d in
    let f = place_of-found (names r k) a d (Contains-get_or (names r k) j d l) in
    (distinct-names r k).once (place_of (names r k) a) j d f.0 l f.1
