-- A plain degeneracy with such a source factors through its rival: its regular slices are those of the rival, and its
-- singular slices factor by the dimension below.
use Rattle.std.proofs.Common.{◌≡◌, ℕ, zero, suc, ◌<◌, ◌≤◌, length, sym, ap, ◌∙◌, subst, arith, inl, inr}
use Rattle.diagram_terms.specs.Family.{Dia, Arr, reg, sing, fwd, bwd, height, arrow_reg, arrow_sing}
use Rattle.diagram_terms.specs.Dual.{dual}
use Rattle.diagram_terms.specs.Composite.{comp, ident}
use Rattle.diagram_terms.specs.Valid.{ValidArrow}
use Rattle.diagram_terms.specs.Degeneracy.{DegeneracyByShape}
use Rattle.diagram_terms.specs.Least.{Leg, FactorsBy, Factors, IsSliceOver, LeadsInto}
use Rattle.diagram_terms.proofs.Duals.{in_fibre}
use Rattle.diagram_terms.proofs.Injections.{same_place}
use Rattle.diagram_terms.proofs.Parts.{comp-from, comp-to, comp-sing, same_ends}
use Rattle.map_laws.proofs.Neutral.{neutral_after}
use Rattle.map_laws.proofs.ValidParts.{dual_within, height_within}
use Rattle.normal_form_laws.proofs.BuiltFactors.{built_factor}
use Rattle.normal_form_laws.proofs.FoundFactors.{found_factor}
use Rattle.normal_form_laws.proofs.PlainShapes.{fixed, over, left_fixed, right_fixed, over_fwd, over_bwd}
use Rattle.diagram_terms.specs.Factors.{factor_through}
use Rattle.normal_form_laws.proofs.PlainRivals.{PlainRivals, PlainRivalsFactor, legs_into, rival_height, rival_hits}

plain_base : PlainRivalsFactor zero
plain_base S R T a e G r =
    let qa = r.qa in
    let qe = r.qe in
    let same : S ≡ R = sym qa.0.from ∙ qa.1 ∙ qa.0.to ∙ sym qe.0.to ∙ sym qe.1 ∙ qe.0.from in (
      a,
      record {
        valid = record { from = qa.0.from; to = sym qa.1 ∙ qa.0.from ∙ same; order = inl same };
        composite = same_ends (comp zero e a) a (comp-from e a) (comp-to e a ∙ qe.0.to ∙ sym qa.0.to);
      },
    )

module _ (d : ℕ) (ih : PlainRivalsFactor d) (S R T : Dia (suc d)) (a e : Arr (suc d)) (G : Leg (suc d) → Type 0)
    (r : PlainRivals (suc d) S R T a e G) where
  -- ---- the regular slices

  reg_by : (k : ℕ) → k ≤ length T.sings → FactorsBy d (reg d S (dual a.heights k)) (reg d R (dual e.heights k))
      (arrow_reg d a k) (arrow_reg d e k) (arrow_reg d a k)
  reg_by k l =
      let ra = r.qa.valid.regs k l in
      let fe = fixed d R T e r.vR r.vT r.qe r.pe k l in
      record {
        valid = subst (λ (X : Dia d). ValidArrow d (reg d S (dual a.heights k)) X (arrow_reg d a k)) (sym fe.0) ra;
        composite = ap (λ (t : Arr d). comp d t (arrow_reg d a k)) (fe.1 ∙ ap (ident d) fe.0)
            ∙ neutral_after d _ _ (arrow_reg d a k) (r.vT.regs k l) ra;
      }

  -- at a height i of R over the same height of T
  module _ (j i : ℕ) (lj : j < length S.sings) (li : i < length R.sings) (at : height d e i ≡ height d a j) where
    abbrev n : ℕ
    n = height d a j

    one_height : (m : ℕ) → m < length R.sings → height d e m ≡ n → m ≡ i
    one_height m lm same = let l = r.qe.valid.heights_len in same_place e.heights r.qe.increasing m i (omega arith) (omega arith) (same ∙ sym at)

    slice_shape : DegeneracyByShape d (sing d R i) (sing d T n) (arrow_sing d e i)
    slice_shape = subst (λ (t : ℕ). DegeneracyByShape d (sing d R i) (sing d T t) (arrow_sing d e i)) at (r.qe.sings i li)

    leg_by : (b : Leg d) → IsSliceOver d G j b → Factors d b.source (sing d R i) (comp d (arrow_sing d a j) b.arrow) (arrow_sing d e i)
    leg_by b x =
        let y = x.0 in
        let g : Leg (suc d) = y.g in
        let h : Arr (suc d) = (r.rival g y.is_leg).0 in
        let by = (r.rival g y.is_leg).1 in
        let vg = (r.legs g y.is_leg).arrow in
        let lh = height_within d g.source R h by.valid y.i y.within in
        let goes : height d h y.i ≡ i = one_height (height d h y.i) lh (rival_height d ih S R T a e G r g y.is_leg y.i y.within ∙ ap (height d a) y.goes) in
        subst (λ (t : Leg d). Factors d t.source (sing d R i) (comp d (arrow_sing d a j) t.arrow) (arrow_sing d e i)) (sym x.1) (
          arrow_sing d h y.i,
          record {
            valid = subst (λ (t : ℕ). ValidArrow d (sing d g.source y.i) (sing d R t) (arrow_sing d h y.i)) goes (by.valid.sings y.i y.within);
            composite = ap (λ (t : ℕ). comp d (arrow_sing d e t) (arrow_sing d h y.i)) (sym goes)
                ∙ sym (comp-sing d e h y.i (let l = by.valid.sings_len in let w = y.within in omega arith))
                ∙ ap (λ (t : Arr (suc d)). arrow_sing d t y.i) by.composite
                ∙ comp-sing d a g.arrow y.i (let l = vg.sings_len in let w = y.within in omega arith)
                ∙ ap (λ (t : ℕ). comp d (arrow_sing d a t) (arrow_sing d g.arrow y.i)) y.goes;
          },
        )

    -- the regular slices of S and of R there are those of T
    left_same : reg d R i ≡ reg d S j
    left_same = left_fixed d R T e r.vR r.vT r.qe r.pe i li ∙ ap (reg d T) at ∙ sym (left_fixed d S T a r.vS r.vT r.qa r.pa j lj)

    right_same : reg d R (suc i) ≡ reg d S (suc j)
    right_same = right_fixed d R T e r.vR r.vT r.qe r.pe i li ∙ ap (λ (t : ℕ). reg d T (suc t)) at
        ∙ sym (right_fixed d S T a r.vS r.vT r.qa r.pa j lj)

    slice_factors : Factors d (sing d S j) (sing d R i) (arrow_sing d a j) (arrow_sing d e i)
    slice_factors =
        let ln = over d S T a r.vS r.vT r.qa r.pa j lj in
        ih (sing d S j) (sing d R i) (sing d T n) (arrow_sing d a j) (arrow_sing d e i) (λ b. LeadsInto d S G j b) (record {
          vS = r.vS.sings j lj;
          vR = r.vR.sings i li;
          vT = r.vT.sings n ln;
          pT = r.pT.sings n ln;
          qa = r.qa.sings j lj;
          pa = r.pa.sings j (let x = r.qa.valid.sings_len in omega arith);
          qe = slice_shape;
          pe = r.pe.sings i (let x = r.qe.valid.sings_len in omega arith);
          legs = legs_into d ih S R T a e G r j lj;
          rival = λ b p.
              let P : Leg d → Type 0 = λ t. Factors d t.source (sing d R i) (comp d (arrow_sing d a j) t.arrow) (arrow_sing d e i) in
              elim p [
                | inl z ↦ leg_by b z
                | inr w ↦ elim w [
                  | inl z ↦ subst P (sym z) (
                    fwd d R i,
                    record {
                      valid = subst (λ (X : Dia d). ValidArrow d X (sing d R i) (fwd d R i)) left_same (r.vR.fwds i li);
                      composite = over_fwd d R T e r.vR r.vT r.qe r.pe i li ∙ ap (fwd d T) at ∙ sym (over_fwd d S T a r.vS r.vT r.qa r.pa j lj);
                    },
                  )
                  | inr z ↦ subst P (sym z) (
                    bwd d R i,
                    record {
                      valid = subst (λ (X : Dia d). ValidArrow d X (sing d R i) (bwd d R i)) right_same (r.vR.bwds i li);
                      composite = over_bwd d R T e r.vR r.vT r.qe r.pe i li ∙ ap (bwd d T) at ∙ sym (over_bwd d S T a r.vS r.vT r.qa r.pa j lj);
                    },
                  )
                ]
              ];
          reduced = r.reduced.sings j lj;
        })

  plain_step : Factors (suc d) S R a e
  plain_step = (
    factor_through (suc d) e a,
    built_factor d S R T a e (record {
      vW = r.vS;
      vR = r.vR;
      vT = r.vT;
      vf = r.qa.valid;
      qe = r.qe;
      hits = rival_hits d ih S R T a e G r;
      regs = λ k l. found_factor d _ _ _ (arrow_reg d a k) (arrow_reg d e k) (arrow_reg d a k) (r.qe.regs k l) (reg_by k l);
      sings = λ j lj.
          let i : ℕ = dual e.heights (height d a j) in
          let h = rival_hits d ih S R T a e G r j lj in
          let w = dual_within d R T e r.qe.valid (suc (height d a j)) in
          let li : i < length R.sings = omega arith in
          let at : height d e i ≡ height d a j = in_fibre e.heights r.qe.valid.monotone i (height d a j) (omega arith) h in
          let f = slice_factors j i lj li at in
          found_factor d _ _ _ (arrow_sing d a j) (arrow_sing d e i) f.0 (r.qe.sings i li) f.1;
    }),
  )

pub plain_rivals_factor : (d : ℕ) → PlainRivalsFactor d
plain_rivals_factor zero = plain_base
plain_rivals_factor (suc d) = plain_step d (plain_rivals_factor d)
