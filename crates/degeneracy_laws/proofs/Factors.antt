-- Factors through arrows of the shape of a degeneracy.
use Rattle.std.proofs.Common.{◌≡◌, ℕ, sym, ap, ◌∙◌, subst}
use Rattle.diagram_terms.specs.Family.{Dia, Arr}
use Rattle.diagram_terms.specs.Composite.{comp, ident}
use Rattle.diagram_terms.specs.Valid.{Valid}
use Rattle.diagram_terms.specs.Degeneracy.{DegeneracyByShape}
use Rattle.diagram_terms.specs.Least.{FactorsBy, Factors}
use Rattle.map_laws.proofs.Associativity.{associative}
use Rattle.map_laws.proofs.ValidComposites.{composites_are_valid}
use Rattle.map_laws.proofs.ValidIdentities.{identities_are_valid}
use Rattle.map_laws.proofs.Neutral.{neutral_before}
use Rattle.map_laws.proofs.IdentityShapes.{shape_means_identity}
use Rattle.map_laws.proofs.Inverses.{invertible_means_identity}
use Rattle.degeneracy_laws.proofs.Cancellation.{shapes_are_mono, first_parts_have_shape}
use Rattle.degeneracy_laws.proofs.ShapeComposites.{shape_valid}

-- the factor of such an arrow through one has the shape
pub factor_shape : (d : ℕ) (S R T : Dia d) (a e g : Arr d) → Valid d S → Valid d R → Valid d T
    → DegeneracyByShape d S T a → DegeneracyByShape d R T e → FactorsBy d S R a e g → DegeneracyByShape d S R g
factor_shape d S R T a e g vS vR vT qa qe f =
    first_parts_have_shape d S R T g e vS vR vT f.valid qe (subst (DegeneracyByShape d S T) (sym f.composite) qa)

-- where x : X → T is y n and y : Y → T is x m, the composite m n is the identity
round_trip : (d : ℕ) (X Y T : Dia d) (x y m n : Arr d) → Valid d X → Valid d Y → DegeneracyByShape d X T x
    → FactorsBy d Y X y x m → FactorsBy d X Y x y n → comp d m n ≡ ident d X
round_trip d X Y T x y m n vX vY qx there back =
    shapes_are_mono d _ _ _ x (comp d m n) (ident d X) qx
    (composites_are_valid d _ _ _ n m vX vY vX back.valid there.valid) (identities_are_valid d X vX)
    (associative d _ _ _ _ n m x back.valid there.valid (shape_valid d _ _ x qx) ∙ ap (λ (t : Arr d). comp d t n) there.composite
    ∙ back.composite ∙ sym (neutral_before d _ _ x vX (shape_valid d _ _ x qx)))

-- two that factor through one another have one source, and are one arrow
pub mutual_factors : (d : ℕ) (X Y T : Dia d) (x y : Arr d) → Valid d X → Valid d Y → DegeneracyByShape d X T x → DegeneracyByShape d Y T y
    → Factors d Y X y x → Factors d X Y x y → (X ≡ Y) × (x ≡ y)
mutual_factors d X Y T x y vX vY qx qy there back =
    let m : Arr d = there.0 in
    let n : Arr d = back.0 in
    let mn = round_trip d X Y T x y m n vX vY qx there.1 back.1 in
    let nm = round_trip d Y X T y x n m vY vX qy back.1 there.1 in
    let is_identity = invertible_means_identity d X Y n m vX vY back.1.valid there.1.valid mn nm in
    let one = shape_means_identity d X Y n vX vY back.1.valid is_identity in (
      one.0,
      sym back.1.composite ∙ ap (comp d y) (one.1 ∙ ap (ident d) one.0) ∙ neutral_before d Y T y vY (shape_valid d Y T y qy),
    )
