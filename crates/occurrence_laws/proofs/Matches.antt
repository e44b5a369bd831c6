-- The list of the offsets at which one diagram is inside another.
use Rattle.std.proofs.Common.{◌≡◌, ℕ, zero, suc, ◌+◌, ◌-◌, ◌<◌, ◌≤◌, List, [], ◌∷◌, ◌++◌, length, get_or, map, Bool, true, false, cond, ◌↔◌, ◌⊎◌, refl, subst, sym, ap, ◌∙◌, inl, inr, arith}
use Rattle.std.specs.List.{Contains, filter, flat_map, range_with_len}
use Rattle.std.proofs.lemmas.Bool.{cases_Bool, cases_eq}
use Rattle.std.proofs.lemmas.List.{get_or_default}
use Rattle.diagram_terms.specs.Family.{Dia, reg}
use Rattle.diagram_terms.specs.Labels.{same_label}
use Rattle.diagram_terms.specs.Cone.{source}
use Rattle.diagram_terms.proofs.Decisions.{same_label_decides}
use Rattle.diagram_terms.specs.Segments.{segment}
use Rattle.diagram_terms.specs.Occurrences.{slices_swapped, InsideZig, Inside, matches, AreOffsetsBefore}
use Rattle.diagram_terms.specs.SameDiagrams.{same_diagram}
use Rattle.occurrence_laws.specs.Laws.{MatchesAreOccurrences, MatchesAreInOrder}
use Rattle.occurrence_laws.proofs.RefusedSteps.{same_diagram_decides}

-- ---- what a list has

abbrev Offsets : Type 0
Offsets = List ℕ

Among : List Offsets → Offsets → Type 0
Among [] e = ⊥
Among (m ∷ ms) e = (m ≡ e) ⊎ Among ms e

to_contains : (ms : List Offsets) (e : Offsets) → Among ms e → Contains ms e
unfolding Among
to_contains [] e h = absurd h
to_contains (m ∷ ms) e (inl p) = (0, omega arith, p)
to_contains (m ∷ ms) e (inr h) = let r = to_contains ms e h in let l = r.1 in (suc r.0, omega arith, r.2)

from_index : (ms : List Offsets) (e : Offsets) (k : ℕ) → k < length ms → get_or ms k e ≡ e → Among ms e
unfolding Among
from_index [] e k l p = absurd (omega arith)
from_index (m ∷ ms) e zero l p = inl p
from_index (m ∷ ms) e (suc k) l p = inr (from_index ms e k (omega arith) p)

among_first : (xs ys : List Offsets) (e : Offsets) → Among xs e → Among (xs ++ ys) e
unfolding Among
among_first [] ys e h = absurd h
among_first (x ∷ xs) ys e (inl p) = inl p
among_first (x ∷ xs) ys e (inr h) = inr (among_first xs ys e h)

among_second : (xs ys : List Offsets) (e : Offsets) → Among ys e → Among (xs ++ ys) e
unfolding Among
among_second [] ys e h = h
among_second (x ∷ xs) ys e h = inr (among_second xs ys e h)

among_cases : (xs ys : List Offsets) (e : Offsets) → Among (xs ++ ys) e → Among xs e ⊎ Among ys e
unfolding Among
among_cases [] ys e h = inr h
among_cases (x ∷ xs) ys e (inl p) = inl (inl p)
among_cases (x ∷ xs) ys e (inr h) = elim (among_cases xs ys e h) [ inl q ↦ inl (inr q) | inr q ↦ inr q ]

among_map : (o : ℕ) (ms : List Offsets) (e : Offsets) → Among ms e → Among (map (λ e. o ∷ e) ms) (o ∷ e)
unfolding Among
among_map o [] e h = absurd h
among_map o (m ∷ ms) e (inl p) = inl (ap (λ (v : Offsets). o ∷ v) p)
among_map o (m ∷ ms) e (inr h) = inr (among_map o ms e h)

from_map : (o : ℕ) (ms : List Offsets) (e : Offsets) → Among (map (λ e. o ∷ e) ms) e → (v : Offsets) × Among ms v × (o ∷ v ≡ e)
unfolding Among
from_map o [] e h = absurd h
from_map o (m ∷ ms) e (inl p) = (m, inl refl, p)
from_map o (m ∷ ms) e (inr h) = let r = from_map o ms e h in (r.0, inr r.1, r.2)

among_filter : (p : Offsets → Bool) (ms : List Offsets) (e : Offsets) → p e ≡ true → Among ms e → Among (filter p ms) e
unfolding Among
among_filter p [] e t h = absurd h
among_filter p (m ∷ ms) e t (inl q) = rw (ap p q ∙ t) (inl q)
among_filter p (m ∷ ms) e t (inr h) = elim (cases_Bool (p m)) [
  | inl y ↦ rw y (inr (among_filter p ms e t h))
  | inr n ↦ rw n (among_filter p ms e t h)
]

from_filter : (p : Offsets → Bool) (ms : List Offsets) (e : Offsets) → Among (filter p ms) e → (p e ≡ true) × Among ms e
unfolding Among
from_filter p [] e h = absurd h
from_filter p (m ∷ ms) e h = elim (cases_Bool (p m)) [
  | inl y ↦ elim (rw y at h) [
    | inl q ↦ (sym (ap p q) ∙ y, inl q)
    | inr r ↦ (let w = from_filter p ms e r in (w.0, inr w.1))
  ]
  | inr n ↦ (let w = from_filter p ms e (rw n at h) in (w.0, inr w.1))
]

-- ---- one list for each number

module _ (f : ℕ → List Offsets) where
  among_each : (n a o : ℕ) (e : Offsets) → a ≤ o → o < a + n → Among (f o) e → Among (flat_map f (range_with_len a n)) e
  among_each zero a o e l m h = absurd (omega arith)
  among_each (suc n) a o e l m h = elim (cases_eq a o) [
    | inl p ↦ among_first (f a) (flat_map f (range_with_len (a + 1) n)) e (rw p h)
    | inr p ↦ among_second (f a) (flat_map f (range_with_len (a + 1) n)) e (among_each n (a + 1) o e (omega arith) (omega arith) h)
  ]

  from_each : (n a : ℕ) (e : Offsets) → Among (flat_map f (range_with_len a n)) e → (o : ℕ) × (a ≤ o) × (o < a + n) × Among (f o) e
  unfolding Among
  from_each zero a e h = absurd h
  from_each (suc n) a e h = elim (among_cases (f a) (flat_map f (range_with_len (a + 1) n)) e h) [
    | inl p ↦ (a, omega arith, omega arith, p)
    | inr p ↦ (let r = from_each n (a + 1) e p in let u = r.1 in let v = r.2 in (r.0, omega arith, omega arith, r.3))
  ]

-- ---- the offsets are those at which S is inside B

-- those that begin with o
abbrev passes : (d : ℕ) → Dia (suc d) → Dia (suc d) → ℕ → Offsets → Bool
passes d B S o e = same_diagram (suc d) (segment d B o (o + length S.sings)) (slices_swapped d (reg d B o) e (source d S) S)

abbrev beginning : (d : ℕ) → Dia (suc d) → Dia (suc d) → ℕ → List Offsets
beginning d B S o = map (λ e. o ∷ e) (filter (λ e. passes d B S o e) (matches d (reg d B o) (source d S)))

-- by what is among them
abbrev AmongMatches : ℕ → Type 0
AmongMatches d = (B S : Dia d) (e : Offsets) → Among (matches d B S) e ↔ Inside d B e S

one_if : (b : Bool) (e : Offsets) → Among (cond b ([] ∷ []) []) e → (b ≡ true) × ([] ≡ e)
unfolding Among
one_if true e (inl p) = (refl, p)
one_if true e (inr h) = absurd h
one_if false e h = absurd h

is_one : (b : Bool) → b ≡ true → Among (cond b ([] ∷ []) []) []
unfolding Among
is_one b t = rw t (inl refl)

among_zero : AmongMatches zero
among_zero B S [] = (
  λ h. (same_label_decides B S).0 (one_if (same_label B S) [] h).0,
  λ h. is_one (same_label B S) ((same_label_decides B S).1 h),
)
among_zero B S (o ∷ e) = (λ h. (let p : [] ≡ o ∷ e = (one_if (same_label B S) (o ∷ e) h).1 in cc), λ h. absurd h)

module _ (d : ℕ) (ih : AmongMatches d) (B S : Dia (suc d)) where
  -- behind the first offset
  from_beginning : (o u : ℕ) (e : Offsets) → Among (beginning d B S u) (o ∷ e) → (u ≡ o) × (passes d B S o e ≡ true) × Among (matches d (reg d B o) (source d S)) e
  from_beginning o u e h =
      let r = from_map u (filter (λ e. passes d B S u e) (matches d (reg d B u) (source d S))) (o ∷ e) h in
      let w = from_filter (λ e. passes d B S u e) (matches d (reg d B u) (source d S)) r.0 r.1 in
      let whole = r.2 in
      let p : u ≡ o = cc in
      let q : r.0 ≡ e = cc in
      let t : passes d B S o e ≡ true = sym (ap (λ (k : ℕ). passes d B S k e) p) ∙ sym (ap (passes d B S u) q) ∙ w.0 in
      let a : Among (matches d (reg d B o) (source d S)) e =
      subst (λ (k : ℕ). Among (matches d (reg d B k) (source d S)) e) p (subst (Among (matches d (reg d B u) (source d S))) q w.1) in
      (p, t, a)

  among_to_inside : (e : Offsets) → Among (matches (suc d) B S) e → Inside (suc d) B e S
  among_to_inside [] h =
      let r = from_each (beginning d B S) (suc (length B.sings) - length S.sings) 0 [] h in
      let s = from_map r.0 (filter (λ e. passes d B S r.0 e) (matches d (reg d B r.0) (source d S))) [] r.3 in
      let p : r.0 ∷ s.0 ≡ [] = s.2 in
      cc
  among_to_inside (o ∷ e) h =
      let r = from_each (beginning d B S) (suc (length B.sings) - length S.sings) 0 (o ∷ e) h in
      let w = from_beginning o r.0 e r.3 in
      let same : r.0 ≡ o = w.0 in
      let below = r.2 in
      record {
        fits = omega arith;
        first = (ih (reg d B o) (source d S) e).0 w.2;
        part = (same_diagram_decides (suc d) _ _).0 w.1;
      }

  inside_to_among : (o : ℕ) (e : Offsets) → InsideZig d (λ C s. Inside d C e s) B o e S → Among (matches (suc d) B S) (o ∷ e)
  inside_to_among o e i =
      let fits = i.fits in
      among_each (beginning d B S) (suc (length B.sings) - length S.sings) 0 o (o ∷ e) (omega arith) (omega arith)
      (among_map o _ e (among_filter (λ e. passes d B S o e) (matches d (reg d B o) (source d S)) e
      ((same_diagram_decides (suc d) _ _).1 i.part) ((ih (reg d B o) (source d S) e).1 i.first)))

among_suc : (d : ℕ) → AmongMatches d → AmongMatches (suc d)
among_suc d ih B S [] = (among_to_inside d ih B S [], λ h. absurd h)
among_suc d ih B S (o ∷ e) = (among_to_inside d ih B S (o ∷ e), λ h. inside_to_among d ih B S o e h)

among_matches : (d : ℕ) → AmongMatches d
among_matches zero = among_zero
among_matches (suc d) = among_suc d (among_matches d)

pub matches_are_occurrences : (d : ℕ) → MatchesAreOccurrences d
matches_are_occurrences d B S e = (
  λ h. (among_matches d B S e).0 (let l = h.1 in from_index (matches d B S) e h.0 l h.2),
  λ h. to_contains (matches d B S) e ((among_matches d B S e).1 h),
)

-- ---- and they come in order

IsInOrder : List Offsets → Type 0
IsInOrder [] = Unit {0}
IsInOrder (m ∷ ms) = ((e : Offsets) → Among ms e → AreOffsetsBefore m e) × IsInOrder ms

order_append : (xs ys : List Offsets) → IsInOrder xs → IsInOrder ys → ((x y : Offsets) → Among xs x → Among ys y → AreOffsetsBefore x y) → IsInOrder (xs ++ ys)
unfolding IsInOrder Among
order_append [] ys p q c = q
order_append (x ∷ xs) ys p q c = (
  λ e h. elim (among_cases xs ys e h) [ inl i ↦ p.0 e i | inr i ↦ c x e (inl refl) i ],
  order_append xs ys p.1 q (λ u v i j. c u v (inr i) j),
)

order_map : (o : ℕ) (ms : List Offsets) → IsInOrder ms → IsInOrder (map (λ e. o ∷ e) ms)
unfolding IsInOrder
order_map o [] p = tt
order_map o (m ∷ ms) p = (
  λ e h. (let r = from_map o ms e h in let b : AreOffsetsBefore (o ∷ m) (o ∷ r.0) = inr (refl, p.0 r.0 r.1) in subst (AreOffsetsBefore (o ∷ m)) r.2 b),
  order_map o ms p.1,
)

order_filter : (t : Offsets → Bool) (ms : List Offsets) → IsInOrder ms → IsInOrder (filter t ms)
unfolding IsInOrder
order_filter t [] p = tt
order_filter t (m ∷ ms) p = elim (cases_Bool (t m)) [
  | inl y ↦ rw y (λ e h. p.0 e (from_filter t ms e h).1, order_filter t ms p.1)
  | inr n ↦ rw n (order_filter t ms p.1)
]

-- those that begin with a smaller number come before
module _ (lists : ℕ → List Offsets) where
  abbrev each : ℕ → List Offsets
  each o = map (λ e. o ∷ e) (lists o)

  order_each : ((o : ℕ) → IsInOrder (lists o)) → (n a : ℕ) → IsInOrder (flat_map (λ o. each o) (range_with_len a n))
  unfolding IsInOrder
  order_each p zero a = tt
  order_each p (suc n) a =
      order_append (each a) (flat_map (λ o. each o) (range_with_len (a + 1) n)) (order_map a (lists a) (p a)) (order_each p n (a + 1))
      (λ x y i j.
      let r = from_map a (lists a) x i in
      let s = from_each (λ o. each o) n (a + 1) y j in
      let t = from_map s.0 (lists s.0) y s.3 in
      let low = s.1 in
      let b : AreOffsetsBefore (a ∷ r.0) (s.0 ∷ t.0) = inl (omega arith) in
      subst (λ (u : Offsets). AreOffsetsBefore u y) r.2 (subst (AreOffsetsBefore (a ∷ r.0)) t.2 b))

by_index : (ms : List Offsets) → IsInOrder ms → (i j : ℕ) → i < j → j < length ms → AreOffsetsBefore (get_or ms i []) (get_or ms j [])
unfolding IsInOrder
by_index [] p i j l h = absurd (omega arith)
by_index (m ∷ ms) p i zero l h = absurd (omega arith)
by_index (m ∷ ms) p zero (suc j) l h = p.0 (get_or ms j []) (from_index ms (get_or ms j []) j (omega arith) (get_or_default ms j (get_or ms j []) [] (omega arith)))
by_index (m ∷ ms) p (suc i) (suc j) l h = by_index ms p.1 i j (omega arith) (omega arith)

in_order_if : (b : Bool) → IsInOrder (cond b ([] ∷ []) [])
unfolding IsInOrder Among
in_order_if true = (λ e h. absurd h, tt)
in_order_if false = tt

in_order : (d : ℕ) (B S : Dia d) → IsInOrder (matches d B S)
in_order zero B S = in_order_if (same_label B S)
in_order (suc d) B S =
    order_each (λ o. filter (λ e. passes d B S o e) (matches d (reg d B o) (source d S)))
    (λ o. order_filter (λ e. passes d B S o e) (matches d (reg d B o) (source d S)) (in_order d (reg d B o) (source d S)))
    (suc (length B.sings) - length S.sings) 0

pub matches_are_in_order : (d : ℕ) → MatchesAreInOrder d
matches_are_in_order d B S i j l h = by_index (matches d B S) (in_order d B S) i j l h
