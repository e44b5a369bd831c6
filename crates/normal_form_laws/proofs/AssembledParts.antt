-- The parts of the diagram that is assembled at the kept heights, and of its arrow.
use Rattle.std.proofs.Common.{◌≡◌, ℕ, suc, ◌-◌, ◌<◌, ◌≤◌, List, [], ◌∷◌, ◌++◌, length, get_or, sym, ap, ◌∙◌, arith, inl, inr}
use Rattle.std.proofs.lemmas.Bool.{cases_lt}
use Rattle.std.proofs.lemmas.List.{get_or-map, length-map, length_push, get_or_default, get_or_past, get_or_push, get_or_append_left}
use Rattle.diagram_terms.specs.Family.{Dia, Arr, no_dia, no_arr, reg, sing, fwd, bwd, arrow_reg, arrow_sing}
use Rattle.diagram_terms.specs.Dual.{IsIncreasing, AreBelow, dual}
use Rattle.diagram_terms.specs.Least.{Leg}
use Rattle.diagram_terms.proofs.Duals.{dual_full}
use Rattle.diagram_terms.proofs.Injections.{increasing-dual_same, increasing_mono}
use Rattle.diagram_terms.specs.Factors.{regular_over}
use Rattle.diagram_terms.specs.NormalForms.{Parts, reg_part, sing_part, fwd_between, bwd_between, assembled}

-- the height that stands for the regular height j of the assembled diagram
abbrev pub stand : List ℕ → ℕ → ℕ → ℕ
stand kept top j = get_or kept j top

module _ (kept : List ℕ) (top : ℕ) (up : IsIncreasing kept) (low : AreBelow kept top) where
  pub stand_within : (j : ℕ) → stand kept top j ≤ top
  stand_within j = elim (cases_lt j (length kept)) [
    | inl p ↦ (let a = get_or_default kept j top 0 p in let b = low.below j p in omega arith)
    | inr p ↦ (let a = get_or_past kept j top p in omega arith)
  ]

  pub stand-dual : (j : ℕ) → j ≤ length kept → dual kept (stand kept top j) ≡ j
  stand-dual j l = elim (cases_lt j (length kept)) [
    | inl p ↦ ap (dual kept) (get_or_default kept j top 0 p) ∙ increasing-dual_same kept up j p
    | inr p ↦ ap (dual kept) (get_or_past kept j top p) ∙ dual_full kept (increasing_mono kept up) top top low (omega arith)
        ∙ (let z : length kept ≡ j = omega arith in z)
  ]

  pub stand-below : (j : ℕ) → j < length kept → stand kept top j ≡ get_or kept j 0
  stand-below j l = get_or_default kept j top 0 l

module _ (d : ℕ) (T : Dia (suc d)) (p : Parts d) (kept : List ℕ) where
  abbrev n : ℕ
  n = length T.sings

  abbrev N : Dia (suc d)
  N = (assembled d T p kept).source

  abbrev D : Arr (suc d)
  D = (assembled d T p kept).arrow

  -- ---- the diagram

  pub assembled-regs_len : length N.regs ≡ suc (length kept)
  assembled-regs_len = length-map (kept ++ n ∷ []) (λ k. (reg_part d p k).source) ∙ (let a = length_push kept n in omega arith)

  pub assembled-sings_len : length N.sings ≡ length kept
  assembled-sings_len = length-map kept (λ k. (sing_part d p k).source)

  pub assembled-fwds_len : length N.fwds ≡ length kept
  assembled-fwds_len = length-map kept (fwd_between d T p)

  pub assembled-bwds_len : length N.bwds ≡ length kept
  assembled-bwds_len = length-map kept (bwd_between d T p)

  place : (j : ℕ) → j ≤ length kept → get_or (kept ++ n ∷ []) j 0 ≡ stand kept n j
  place j l = elim (cases_lt j (length kept)) [
    | inl q ↦ get_or_append_left kept (n ∷ []) 0 j q ∙ get_or_default kept j 0 n q
    | inr q ↦ get_or_push kept n 0 j (omega arith) ∙ sym (get_or_past kept j n q)
  ]

  pub assembled-reg : (j : ℕ) → j ≤ length kept → reg d N j ≡ (reg_part d p (stand kept n j)).source
  assembled-reg j l =
      get_or-map (λ k. (reg_part d p k).source) (kept ++ n ∷ []) j 0 (no_dia d) (let a = length_push kept n in omega arith)
      ∙ ap (λ k. (reg_part d p k).source) (place j l)

  pub assembled-sing : (i : ℕ) → i < length kept → sing d N i ≡ (sing_part d p (get_or kept i 0)).source
  assembled-sing i l = get_or-map (λ k. (sing_part d p k).source) kept i 0 (no_dia d) l

  pub assembled-fwd : (i : ℕ) → i < length kept → fwd d N i ≡ fwd_between d T p (get_or kept i 0)
  assembled-fwd i l = get_or-map (fwd_between d T p) kept i 0 (no_arr d) l

  pub assembled-bwd : (i : ℕ) → i < length kept → bwd d N i ≡ bwd_between d T p (get_or kept i 0)
  assembled-bwd i l = get_or-map (bwd_between d T p) kept i 0 (no_arr d) l

  -- ---- its arrow

  pub arrow-regs_len : length D.regs ≡ length p.regs
  arrow-regs_len = length-map p.regs (λ (r : Leg d). r.arrow)

  pub arrow-sings_len : length D.sings ≡ length kept
  arrow-sings_len = length-map kept (λ k. (sing_part d p k).arrow)

  pub arrow-reg : (k : ℕ) → k < length p.regs → arrow_reg d D k ≡ (reg_part d p k).arrow
  arrow-reg k l = get_or-map (λ (r : Leg d). r.arrow) p.regs k (record { source = no_dia d; arrow = no_arr d }) (no_arr d) l

  pub arrow-sing : (i : ℕ) → i < length kept → arrow_sing d D i ≡ (sing_part d p (get_or kept i 0)).arrow
  arrow-sing i l = get_or-map (λ k. (sing_part d p k).arrow) kept i 0 (no_arr d) l

  pub arrow-over : length p.regs ≡ suc n → (j : ℕ) → regular_over d D j ≡ stand kept n j
  arrow-over e j = ap (λ (m : ℕ). get_or kept j (m - 1)) (arrow-regs_len ∙ e) ∙ (let z : suc n - 1 ≡ n = omega arith in ap (λ (m : ℕ). get_or kept j m) z)
