-- The laws that the crate states.
use Rattle.std.proofs.Common.{◌≡◌, ℕ, ◌+◌, ◌-◌, ◌<◌, ◌≤◌, ◌↔◌, inl, inr, List, length, get_or, ap, arith, add-one}
use Rattle.std.specs.List.{Contains}
use Rattle.std.proofs.lemmas.Bool.{cases_lt}
use Rattle.diagram_terms.specs.Dual.{IsMonotone, IsIncreasing, AreBelow, dual, after, upto}
use Rattle.diagram_terms.proofs.Duals.{lt-dual, dual-lt, in_fibre, fibre_low, fibre_high, dual-after, dual-upto}
use Rattle.diagram_terms.proofs.Injections.{increasing_hits, below_contained, same_increasing, same_factor}
use Rattle.monotone_dual.specs.declared.refusal.MonoRefusal.{MonoRefusal}
use Rattle.monotone_dual.specs.declared.refusal.MonoRefusal.TheVariants.{OutOfRange, NotMonotone}
use Rattle.monotone_dual.specs.Refusals.{IsFirstOutside, IsFirstFall, IsRefusal}
use Rattle.monotone_dual.specs.Injections.{IsSkip}
use Rattle.monotone_dual.specs.Laws.{HasOneRefusal}

pub threshold : (f : List ℕ) → IsMonotone f → (i j : ℕ) → i < length f → (i < dual f j) ↔ (get_or f i 0 < j)
threshold f m i j l = (λ p. dual-lt f m i j p, λ p. lt-dual f m i j l p)

pub fibres_are_intervals : (f : List ℕ) → IsMonotone f → (i k : ℕ) → i < length f
    → (get_or f i 0 ≡ k) ↔ ((dual f k ≤ i) × (i < dual f (k + 1)))
fibres_are_intervals f m i k l = (
  λ e. (fibre_low f m i k e, rw add-one (fibre_high f m i k l e)),
  λ p. in_fibre f m i k p.0 (rw add-one at p.1),
)

pub dual_of_composite : (g f : List ℕ) → IsMonotone g → AreBelow f (length g) → (k : ℕ) → dual (after g f) k ≡ dual f (dual g k)
dual_of_composite = dual-after

pub dual_of_identity : (n k : ℕ) → k ≤ n → dual (upto n) k ≡ k
dual_of_identity = dual-upto

pub injections_hit_every_height : (f : List ℕ) (m : ℕ) → IsIncreasing f → AreBelow f m → (j : ℕ) → j ≤ length f
    → (k : ℕ) × (k ≤ m) × (dual f k ≡ j)
injections_hit_every_height = increasing_hits

pub one_factor : (e f g : List ℕ) → IsIncreasing e → AreBelow f (length e) → AreBelow g (length e) → after e f ≡ after e g → f ≡ g
one_factor = same_factor

-- what one of two such injections hits, the other hits
skip_hits : (m : ℕ) (dropped f g : List ℕ) → IsSkip m dropped f → IsSkip m dropped g → (h : ℕ) → Contains f h → Contains g h
skip_hits m dropped f g s t h c =
    let l : h < m = below_contained f m h s.below c in
    (t.hit h l).1 ((s.hit h l).0 c)

pub one_skip : (m : ℕ) (dropped f g : List ℕ) → IsSkip m dropped f → IsSkip m dropped g → f ≡ g
one_skip m dropped f g s t =
    same_increasing f g s.increasing t.increasing (skip_hits m dropped f g s t) (skip_hits m dropped g f t s)

-- ---- refusals

same_outside : (heights : List ℕ) (m i j : ℕ) → IsFirstOutside heights m i → IsFirstOutside heights m j → i ≡ j
same_outside heights m i j p q =
    let a = p.outside in
    let b = q.outside in
    elim (cases_lt i j) [
      | inl l ↦ absurd (let c = q.first i l in omega arith)
      | inr l ↦ elim (cases_lt j i) [
        | inl k ↦ absurd (let c = p.first j k in omega arith)
        | inr k ↦ omega arith
      ]
    ]

same_fall : (heights : List ℕ) (i j : ℕ) → IsFirstFall heights i → IsFirstFall heights j → i ≡ j
same_fall heights i j p q =
    let a = p.falls in
    let b = q.falls in
    elim (cases_lt i j) [
      | inl l ↦ absurd (let c = q.first i p.after_first l in omega arith)
      | inr l ↦ elim (cases_lt j i) [
        | inl k ↦ absurd (let c = p.first j q.after_first k in omega arith)
        | inr k ↦ omega arith
      ]
    ]

not_below : (heights : List ℕ) (m i : ℕ) → AreBelow heights m → IsFirstOutside heights m i → ⊥
not_below heights m i b p =
    let a = p.outside in
    let c = b.below i p.within in
    omega arith

one_reason : (heights : List ℕ) (m : ℕ) (r s : MonoRefusal) → IsRefusal heights m r → IsRefusal heights m s → r ≡ s
one_reason heights m (OutOfRange i) (OutOfRange j) p q = ap OutOfRange (same_outside heights m i j p q)
one_reason heights m (OutOfRange i) (NotMonotone j) p q = absurd (not_below heights m i q.0 p)
one_reason heights m (NotMonotone i) (OutOfRange j) p q = absurd (not_below heights m j p.0 q)
one_reason heights m (NotMonotone i) (NotMonotone j) p q = ap NotMonotone (same_fall heights i j p.1 q.1)

no_reason : (heights : List ℕ) (m : ℕ) (r : MonoRefusal) → IsMonotone heights → AreBelow heights m → IsRefusal heights m r → ⊥
no_reason heights m (OutOfRange i) mono below p = not_below heights m i below p
no_reason heights m (NotMonotone i) mono below p =
    let l = p.1.after_first in
    let a = p.1.falls in
    let b : get_or heights (i - 1) 0 ≤ get_or heights i 0 = mono.rises (i - 1) i (omega arith) p.1.within in
    omega arith

pub one_refusal : HasOneRefusal
one_refusal = record { one = one_reason; none = no_reason }
