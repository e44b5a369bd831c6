-- The parts of the factor of one arrow through another.
use Rattle.std.proofs.Common.{◌≡◌, ℕ, zero, suc, ◌-◌, ◌<◌, ◌≤◌, length, map, refl, ap, ◌∙◌, arith, inl, inr}
use Rattle.std.proofs.lemmas.Bool.{cases_lt}
use Rattle.std.proofs.lemmas.List.{get_or-map, length-map, get_or_default, get_or_past}
use Rattle.diagram_terms.specs.Family.{Dia, Arr, no_arr, height, arrow_reg, arrow_sing}
use Rattle.diagram_terms.specs.Dual.{dual}
use Rattle.diagram_terms.specs.Degeneracy.{DegeneracyByShape}
use Rattle.diagram_terms.proofs.Duals.{length-tab, get-tab, dual_full}
use Rattle.diagram_terms.proofs.Injections.{increasing-dual_same}
use Rattle.map_laws.proofs.ValidParts.{height_within}
use Rattle.diagram_terms.specs.Factors.{regular_over, factor_through}

-- ---- in dimension 0

pub factor-from : (e f : Arr zero) → (factor_through zero e f).from ≡ f.from
unfolding factor_through
factor-from e f = refl

pub factor-to : (e f : Arr zero) → (factor_through zero e f).to ≡ e.from
unfolding factor_through
factor-to e f = refl

-- ---- above

pub factor-heights : (d : ℕ) (e f : Arr (suc d)) → (factor_through (suc d) e f).heights ≡ map (dual e.heights) f.heights
unfolding factor_through
factor-heights d e f = refl

pub factor-heights_len : (d : ℕ) (e f : Arr (suc d)) → length (factor_through (suc d) e f).heights ≡ length f.heights
unfolding factor_through
factor-heights_len d e f = length-map f.heights (dual e.heights)

pub factor-height : (d : ℕ) (e f : Arr (suc d)) (i : ℕ) → i < length f.heights
    → height d (factor_through (suc d) e f) i ≡ dual e.heights (height d f i)
unfolding factor_through
factor-height d e f i l = get_or-map (dual e.heights) f.heights i 0 0 l

pub factor-regs_len : (d : ℕ) (e f : Arr (suc d)) → length (factor_through (suc d) e f).regs ≡ suc (length e.sings)
unfolding factor_through
factor-regs_len d e f = length-tab _ (suc (length e.sings))

pub factor-reg : (d : ℕ) (e f : Arr (suc d)) (j : ℕ) → j ≤ length e.sings
    → arrow_reg d (factor_through (suc d) e f) j
    ≡ factor_through d (arrow_reg d e (regular_over d e j)) (arrow_reg d f (regular_over d e j))
unfolding factor_through
factor-reg d e f j l = get-tab
    (λ j. factor_through d (arrow_reg d e (regular_over d e j)) (arrow_reg d f (regular_over d e j)))
    (suc (length e.sings)) j (no_arr d) (omega arith)

pub factor-sings_len : (d : ℕ) (e f : Arr (suc d)) → length (factor_through (suc d) e f).sings ≡ length f.sings
unfolding factor_through
factor-sings_len d e f = length-tab _ (length f.sings)

pub factor-sing : (d : ℕ) (e f : Arr (suc d)) (i : ℕ) → i < length f.sings
    → arrow_sing d (factor_through (suc d) e f) i
    ≡ factor_through d (arrow_sing d e (dual e.heights (height d f i))) (arrow_sing d f i)
unfolding factor_through
factor-sing d e f i l = get-tab
    (λ i. factor_through d (arrow_sing d e (dual e.heights (height d f i))) (arrow_sing d f i)) (length f.sings) i (no_arr d) l

-- ---- the regular height of the target that stands for j

module _ (d : ℕ) (R T : Dia (suc d)) (e : Arr (suc d)) (q : DegeneracyByShape (suc d) R T e) where
  pub over-below : (j : ℕ) → j < length R.sings → regular_over d e j ≡ height d e j
  over-below j l = get_or_default e.heights j (length e.regs - 1) 0 (let a = q.valid.heights_len in omega arith)

  pub over-last : (j : ℕ) → length R.sings ≤ j → regular_over d e j ≡ length T.sings
  over-last j l =
      let a = q.valid.heights_len in
      let b = q.valid.regs_len in
      get_or_past e.heights j (length e.regs - 1) (omega arith) ∙ (let z : length e.regs - 1 ≡ length T.sings = omega arith in z)

  pub over_within : (j : ℕ) → regular_over d e j ≤ length T.sings
  over_within j = elim (cases_lt j (length R.sings)) [
    | inl p ↦ (let a = over-below j p in let b = height_within d R T e q.valid j p in omega arith)
    | inr p ↦ (let a = over-last j p in omega arith)
  ]

  pub over-dual : (j : ℕ) → j ≤ length R.sings → dual e.heights (regular_over d e j) ≡ j
  over-dual j l = elim (cases_lt j (length R.sings)) [
    | inl p ↦ ap (dual e.heights) (over-below j p)
        ∙ increasing-dual_same e.heights q.increasing j (let a = q.valid.heights_len in omega arith)
    | inr p ↦ ap (dual e.heights) (over-last j p)
        ∙ dual_full e.heights q.valid.monotone (length T.sings) (length T.sings) q.valid.below (omega arith)
        ∙ (let a = q.valid.heights_len in let z : length e.heights ≡ j = omega arith in z)
  ]
