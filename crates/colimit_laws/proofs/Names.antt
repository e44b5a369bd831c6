-- The names of the slices of a part, and their places.
use Rattle.std.proofs.Common.{◌≡◌, ℕ, zero, suc, ◌+◌, ◌<◌, ◌≤◌, List, [], ◌∷◌, length, get_or, Bool, true, false, ◌&&◌, nat_eq, refl, sym, ap, ap₂, ◌∙◌, subst, arith, inl, inr}
use Rattle.std.specs.Prelude.{◌⊎◌, if◌then◌else◌}
use Rattle.std.specs.List.{Contains}
use Rattle.std.proofs.lemmas.Bool.{cases_lt}
use Rattle.diagram_terms.specs.declared.place.Height.{Height}
use Rattle.diagram_terms.specs.declared.place.Height.TheVariants as slice
use Rattle.diagram_terms.specs.Dual.{IsMonotone, upto, dual}
use Rattle.diagram_terms.proofs.Duals.{dual_mono}
use Rattle.diagram_terms.specs.Ranks.{Ranks, ranks_of}
use Rattle.diagram_terms.specs.ClassParts.{SliceName, named, same_height, same_name, place_of, stretch, how_many, names, place}
use Rattle.colimit_laws.proofs.Membership.{contains_none, contains_head, contains_tail, contains_cases, contains_map, from_map, contains_flat, from_flat, contains_range, from_range}

-- ---- the place of a name

same_number : (n : ℕ) → nat_eq n n ≡ true
same_number n = grind arith

one_number : (m n : ℕ) → nat_eq m n ≡ true → m ≡ n
one_number m n e = grind arith

same_height-refl : (h : Height) → same_height h h ≡ true
same_height-refl (slice.R i) = same_number i
same_height-refl (slice.S i) = same_number i

one_height : (g h : Height) → same_height g h ≡ true → g ≡ h
one_height (slice.R i) (slice.R j) e = ap slice.R (one_number i j e)
one_height (slice.S i) (slice.S j) e = ap slice.S (one_number i j e)
one_height (slice.R i) (slice.S j) e = cc
one_height (slice.S i) (slice.R j) e = cc

and_both : (a b : Bool) → (a && b) ≡ true → (a ≡ true) × (b ≡ true)
and_both true true e = (refl, refl)
and_both true false e = cc
and_both false b e = cc

same_name-refl : (a : SliceName) → same_name a a ≡ true
same_name-refl a = ap₂ ◌&&◌ (same_number a.object) (same_height-refl a.height)

one_name : (a b : SliceName) → same_name a b ≡ true → a ≡ b
one_name a b e =
    let p = and_both (nat_eq a.object b.object) (same_height a.height b.height) e in
    let x : a.object ≡ b.object = one_number a.object b.object p.0 in
    let h : a.height ≡ b.height = one_height a.height b.height p.1 in
    λ i. record { object = x i; height = h i }

true_or_false : (b : Bool) → (b ≡ true) ⊎ (b ≡ false)
true_or_false true = inl refl
true_or_false false = inr refl

place_here : (b a : SliceName) (bs : List SliceName) → same_name b a ≡ true → place_of (b ∷ bs) a ≡ 0
place_here b a bs e = ap (λ (t : Bool). if t then 0 else suc (place_of bs a)) e

place_later : (b a : SliceName) (bs : List SliceName) → same_name b a ≡ false → place_of (b ∷ bs) a ≡ suc (place_of bs a)
place_later b a bs e = ap (λ (t : Bool). if t then 0 else suc (place_of bs a)) e

-- a name stands at its place
pub place_of-found : (bs : List SliceName) (a d : SliceName) → Contains bs a → (place_of bs a < length bs) × (get_or bs (place_of bs a) d ≡ a)
place_of-found [] a d c = contains_none a c
place_of-found (b ∷ bs) a d c = elim (true_or_false (same_name b a)) [
  | inl e ↦ (let p = place_here b a bs e in (omega arith, ap (λ (n : ℕ). get_or (b ∷ bs) n d) p ∙ one_name b a e))
  | inr e ↦ (
      let p = place_later b a bs e in
      let rest : Contains bs a = elim (contains_cases b a bs c) [
        | inl same ↦ (let f : true ≡ false = sym (same_name-refl a) ∙ ap (λ (t : SliceName). same_name t a) (sym same) ∙ e in cc)
        | inr t ↦ t
      ] in
      let r = place_of-found bs a d rest in
      (let l = r.0 in omega arith, ap (λ (n : ℕ). get_or (b ∷ bs) n d) p ∙ r.1))
]

-- ---- a stretch

-- h is a singular height from a on, below b, or a regular one between two of them
abbrev pub IsWithin : ℕ → ℕ → Height → Type 0
IsWithin a b (slice.S i) = (a ≤ i) × (i < b)
IsWithin a b (slice.R t) = (a < t) × (t < b)

within_wider : (a n : ℕ) (h : Height) → IsWithin (suc a) (suc a + n) h → IsWithin a (a + suc n) h
within_wider a n (slice.S i) w = let l = w.0 in let u = w.1 in (omega arith, omega arith)
within_wider a n (slice.R t) w = let l = w.0 in let u = w.1 in (omega arith, omega arith)

pub from_stretch : (a n : ℕ) (h : Height) → Contains (stretch a n) h → IsWithin a (a + n) h
from_stretch a zero h c = contains_none h c
from_stretch a (suc zero) h c = elim (contains_cases (slice.S a) h [] c) [
  | inl e ↦ subst (IsWithin a (a + 1)) e (omega arith, omega arith)
  | inr t ↦ contains_none h t
]
from_stretch a (suc (suc n)) h c = elim (contains_cases (slice.S a) h (slice.R (suc a) ∷ stretch (suc a) (suc n)) c) [
  | inl e ↦ subst (IsWithin a (a + suc (suc n))) e (omega arith, omega arith)
  | inr t ↦ elim (contains_cases (slice.R (suc a)) h (stretch (suc a) (suc n)) t) [
    | inl e ↦ subst (IsWithin a (a + suc (suc n))) e (omega arith, omega arith)
    | inr u ↦ within_wider a (suc n) h (from_stretch (suc a) (suc n) h u)
  ]
]

in_stretch-sing : (a n i : ℕ) → a ≤ i → i < a + n → Contains (stretch a n) (slice.S i)
in_stretch-sing a zero i l u = absurd (omega arith)
in_stretch-sing a (suc zero) i l u =
    let e : a ≡ i = omega arith in
    subst (λ t. Contains (slice.S a ∷ []) (slice.S t)) e (contains_head (slice.S a) [])
in_stretch-sing a (suc (suc n)) i l u = elim (cases_lt a i) [
  | inl m ↦ contains_tail (slice.S a) (slice.S i) (slice.R (suc a) ∷ stretch (suc a) (suc n))
      (contains_tail (slice.R (suc a)) (slice.S i) (stretch (suc a) (suc n)) (in_stretch-sing (suc a) (suc n) i (omega arith) (omega arith)))
  | inr m ↦ (
      let e : a ≡ i = omega arith in
      let rest : List Height = slice.R (suc a) ∷ stretch (suc a) (suc n) in
      subst (λ t. Contains (slice.S a ∷ rest) (slice.S t)) e (contains_head (slice.S a) rest))
]

in_stretch-reg : (a n t : ℕ) → a < t → t < a + n → Contains (stretch a n) (slice.R t)
in_stretch-reg a zero t l u = absurd (omega arith)
in_stretch-reg a (suc zero) t l u = absurd (omega arith)
in_stretch-reg a (suc (suc n)) t l u = contains_tail (slice.S a) (slice.R t) (slice.R (suc a) ∷ stretch (suc a) (suc n)) (elim (cases_lt (suc a) t) [
  | inl m ↦ contains_tail (slice.R (suc a)) (slice.R t) (stretch (suc a) (suc n)) (in_stretch-reg (suc a) (suc n) t (omega arith) (omega arith))
  | inr m ↦ (
      let e : suc a ≡ t = omega arith in
      let rest : List Height = stretch (suc a) (suc n) in
      subst (λ t. Contains (slice.R (suc a) ∷ rest) (slice.R t)) e (contains_head (slice.R (suc a)) rest))
])

in_stretch : (a n : ℕ) (h : Height) → IsWithin a (a + n) h → Contains (stretch a n) h
in_stretch a n (slice.S i) w = in_stretch-sing a n i w.0 w.1
in_stretch a n (slice.R t) w = in_stretch-reg a n t w.0 w.1

-- ---- the names of a part

-- the slice of x at h is one of those of the part of rank k
pub record IsInPart (r : Ranks) (k x : ℕ) (h : Height) : Type 0 where
  pub object : x < length r.ranks
  pub height : IsWithin (dual (ranks_of r x) k) (dual (ranks_of r x) (suc k)) h

abbrev pub AllMonotone : Ranks → Type 0
AllMonotone r = (x : ℕ) → x < length r.ranks → IsMonotone (ranks_of r x)

module _ (r : Ranks) (k : ℕ) (m : AllMonotone r) where
  pub from_names : (a : SliceName) → Contains (names r k) a → IsInPart r k a.object a.height
  unfolding names
  from_names a c =
      let f = from_flat _ (upto (length r.ranks)) a c in
      let x : ℕ = f.0 in
      let w = from_range 0 (length r.ranks) x f.1 in
      let g = from_map (named x) _ a f.2 in
      let lx : x < length r.ranks = let t = w.1 in omega arith in
      let up = dual_mono (ranks_of r x) (m x lx) k (suc k) (omega arith) in
      let s = from_stretch (dual (ranks_of r x) k) (how_many r k x) g.0 g.1 in
      let e : dual (ranks_of r x) k + how_many r k x ≡ dual (ranks_of r x) (suc k) = omega arith in
      subst (λ (b : SliceName). IsInPart r k b.object b.height) g.2
      (record { object = lx; height = subst (λ (n : ℕ). IsWithin (dual (ranks_of r x) k) n g.0) e s })

  pub in_names : (x : ℕ) (h : Height) → IsInPart r k x h → Contains (names r k) (named x h)
  unfolding names
  in_names x h p =
      let up = dual_mono (ranks_of r x) (m x p.object) k (suc k) (omega arith) in
      let e : dual (ranks_of r x) (suc k) ≡ dual (ranks_of r x) k + how_many r k x = omega arith in
      contains_flat _ (upto (length r.ranks)) x (named x h) (contains_range 0 (length r.ranks) x (omega arith) (let l = p.object in omega arith))
      (contains_map (named x) _ h (in_stretch (dual (ranks_of r x) k) (how_many r k x) h (subst (λ (n : ℕ). IsWithin (dual (ranks_of r x) k) n h) e p.height)))

  pub place-within : (x : ℕ) (h : Height) → IsInPart r k x h → place r k x h < length (names r k)
  unfolding place
  place-within x h p = (place_of-found (names r k) (named x h) (named x h) (in_names x h p)).0

  pub name-at_place : (x : ℕ) (h : Height) (d : SliceName) → IsInPart r k x h → get_or (names r k) (place r k x h) d ≡ named x h
  unfolding place
  name-at_place x h d p = (place_of-found (names r k) (named x h) d (in_names x h p)).1
