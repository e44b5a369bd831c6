-- A quiet point has the label and the normal form of a point over the regular height before.
use Rattle.std.proofs.Common.{ℕ, suc, ◌∷◌, refl, sym, ap, ◌∙◌, subst, arith}
use Rattle.diagram_terms.specs.declared.place.Height.TheVariants as height_kind
use Rattle.diagram_terms.specs.Family.{Dia, reg, sing, fwd, bwd}
use Rattle.diagram_terms.specs.Valid.{Valid}
use Rattle.plain_laws.proofs.Cospans.{below_one, below_two}
use Rattle.diagram_terms.specs.Constants.{ConstantArrow, Constant}
use Rattle.diagram_terms.specs.NormalForms.{normal_diagram}
use Rattle.normal_form_laws.proofs.ConstantForms.{constants_have_one_normal_form}
use Rattle.normal_form_laws.proofs.NormalDiagrams.{identity_diagrams_keep_normal_forms}
use Rattle.diagram_terms.specs.Neighbourhoods.{neighbourhood, identity_cospan}
use Rattle.region_laws.proofs.QuietPoints.{quiet_points}
use Rattle.typing_laws.specs.Laws.{QuietPointsHaveTwins}
use Rattle.typing_laws.proofs.Turns.{neighbourhood_valid}

identity_cospan_constant : (d : ℕ) (E : Dia d) → Constant d E 1 (identity_cospan d E)
identity_cospan_constant d E =
    let C : Dia (suc d) = identity_cospan d E in
    record {
      regs = λ j l. below_two (λ j. Constant d E 0 (reg d C j)) refl refl j (omega arith);
      sings = below_one (λ i. Constant d E 0 (sing d C i)) refl;
      fwds = below_one (λ k. ConstantArrow d E 0 (fwd d C k)) refl;
      bwds = below_one (λ k. ConstantArrow d E 0 (bwd d C k)) refl;
    }

pub quiet_points_have_twins : (d : ℕ) → QuietPointsHaveTwins d
quiet_points_have_twins d X k hs v q quiet =
    let n = quiet_points d X k hs v q quiet in
    let E : Dia d = neighbourhood d (sing d X k) hs in
    let vC = subst (Valid (suc d)) n.around (neighbourhood_valid (suc d) X (height_kind.S k ∷ hs) v q) in
    record {
      is_point = n.is_point.1;
      label = n.label;
      normal = ap (normal_diagram (suc d)) n.before
          ∙ identity_diagrams_keep_normal_forms d E
          ∙ sym (constants_have_one_normal_form d E 1 (identity_cospan d E) (neighbourhood_valid d (sing d X k) hs (v.sings k q.0) q.1) vC (identity_cospan_constant d E))
          ∙ ap (normal_diagram (suc d)) (sym n.around);
    }
