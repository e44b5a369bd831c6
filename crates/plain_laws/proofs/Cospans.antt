-- Cospans of valid plain arrows.
use Rattle.std.proofs.Common.{ℕ, zero, suc, ◌<◌, refl, arith}
use Rattle.diagram_terms.specs.Family.{Dia, Arr, reg, sing, fwd, bwd}
use Rattle.diagram_terms.specs.Plain.{PlainArrow, Plain}
use Rattle.diagram_terms.specs.Valid.{ValidArrow, Valid}
use Rattle.diagram_terms.specs.Cone.{cospan}

-- what holds at 0 holds below 1, and what holds at 0 and at 1 holds below 2
pub below_one : (P : ℕ → Type 0) → P 0 → (k : ℕ) → k < 1 → P k
below_one P at0 zero l = at0
below_one P at0 (suc k) l = absurd (omega arith)

pub below_two : (P : ℕ → Type 0) → P 0 → P 1 → (k : ℕ) → k < 2 → P k
below_two P at0 at1 zero l = at0
below_two P at0 at1 (suc zero) l = at1
below_two P at0 at1 (suc (suc k)) l = absurd (omega arith)

module _ (d : ℕ) (S : Dia d) (f : Arr d) (M : Dia d) (g : Arr d) (T : Dia d) where
  pub valid_cospan : Valid d S → Valid d M → Valid d T → ValidArrow d S M f → ValidArrow d T M g
      → Valid (suc d) (cospan d S f M g T)
  valid_cospan vS vM vT vf vg =
      let C : Dia (suc d) = cospan d S f M g T in
      record {
        regs_len = refl;
        fwds_len = refl;
        bwds_len = refl;
        regs = λ j l. below_two (λ j. Valid d (reg d C j)) vS vT j (omega arith);
        sings = below_one (λ i. Valid d (sing d C i)) vM;
        fwds = below_one (λ k. ValidArrow d (reg d C k) (sing d C k) (fwd d C k)) vf;
        bwds = below_one (λ k. ValidArrow d (reg d C (suc k)) (sing d C k) (bwd d C k)) vg;
      }

  pub plain_cospan : Plain d S → Plain d M → Plain d T → PlainArrow d f → PlainArrow d g
      → Plain (suc d) (cospan d S f M g T)
  plain_cospan pS pM pT pf pg =
      let C : Dia (suc d) = cospan d S f M g T in
      record {
        regs = below_two (λ j. Plain d (reg d C j)) pS pT;
        sings = below_one (λ i. Plain d (sing d C i)) pM;
        fwds = below_one (λ k. PlainArrow d (fwd d C k)) pf;
        bwds = below_one (λ k. PlainArrow d (bwd d C k)) pg;
      }
