-- Relabelling keeps all rules.
use Rattle.std.proofs.Common.{◌≡◌, ℕ, zero, suc, refl, sym, ap, ◌∙◌, arith, inl, inr}
use Rattle.diagram_terms.specs.declared.label.Label.{Label}
use Rattle.diagram_terms.specs.Family.{Ends}
use Rattle.diagram_terms.specs.Labels.{IsAtMost}
use Rattle.diagram_terms.specs.Composite.{comp, ident}
use Rattle.diagram_terms.specs.Valid.{ValidArrow}
use Rattle.diagram_terms.specs.Relabelling.{relabelled, relabelled_arrow, RisesWithDimension}
use Rattle.normal_form_laws.specs.Carried.{RelabellingCarriesOver}
use Rattle.normal_form_laws.proofs.Carried.{carries_over}
use Rattle.normal_form_laws.proofs.ImageParts.{KeepsAll}
use Rattle.normal_form_laws.proofs.ImageSteps.{next_keeps}

module _ (image : Label → Label) (up : RisesWithDimension image) where
  still_at_most : (x y : Label) → IsAtMost x y → IsAtMost (image x) (image y)
  still_at_most x y h = elim h [
    | inl e ↦ inl (ap image e)
    | inr l ↦ inr (up.rises x y l)
  ]

  -- two labels in order with one image are one
  one_before : (x y : Label) → IsAtMost x y → image x ≡ image y → x ≡ y
  one_before x y h e = elim h [
    | inl s ↦ s
    | inr l ↦ absurd (let a = up.rises x y l in let b : (image x).dim ≡ (image y).dim = ap (λ (t : Label). t.dim) e in omega arith)
  ]

  only_before : (x y : Label) (f : Ends) → ValidArrow zero x y f → image f.from ≡ image f.to → f.from ≡ f.to
  only_before x y f v e = v.from ∙ one_before x y v.order (ap image (sym v.from) ∙ e ∙ ap image v.to) ∙ sym v.to

  base_keeps : KeepsAll zero zero (relabelled image zero) (relabelled_arrow image zero)
  unfolding relabelled relabelled_arrow comp ident
  base_keeps = record {
    diagrams = λ x v. tt;
    arrows = λ x y f vx vy v. record { from = ap image v.from; to = ap image v.to; order = still_at_most x y v.order };
    identities = λ x. refl;
    composites = λ x y z f g vf vg. refl;
    still_identities = λ f e. ap image e;
    only_identities = λ x y f v e. only_before x y f v e;
    plain_arrows = λ f p. tt;
    plain_diagrams = λ x p. tt;
    shapes = λ x y f vx vy q. (
      record { from = ap image q.0.from; to = ap image q.0.to; order = still_at_most x y q.0.order },
      ap image q.1,
    );
    reduced = λ x G v vl r. tt;
    plain_reduced = λ x G v vl r. tt;
  }

  pub relabelling_keeps : (d : ℕ) → KeepsAll d d (relabelled image d) (relabelled_arrow image d)
  unfolding relabelled relabelled_arrow
  relabelling_keeps zero = base_keeps
  relabelling_keeps (suc d) = next_keeps d d (relabelled image d) (relabelled_arrow image d) (relabelling_keeps d)

pub relabelling_carries_over : (d : ℕ) → RelabellingCarriesOver d
relabelling_carries_over d image up = carries_over d d (relabelled image d) (relabelled_arrow image d) (relabelling_keeps image up d)
