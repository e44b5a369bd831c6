-- The laws of degeneracies, from those of their shape.
use Rattle.std.proofs.Common.{ℕ, sym, ◌∙◌}
use Rattle.diagram_terms.specs.Composite.{comp, ident}
use Rattle.map_laws.proofs.ValidIdentities.{identities_are_valid}
use Rattle.map_laws.proofs.IdentityShapes.{identities_have_shape}
use Rattle.degeneracy_laws.specs.Laws.{IdentitiesAreDegeneracies, DegeneraciesCompose, DegeneraciesAreMono, FactorsAreUnique, FirstPartsAreDegeneracies}
use Rattle.degeneracy_laws.proofs.Cancellation.{shapes_are_mono, first_parts_have_shape}
use Rattle.degeneracy_laws.proofs.ShapeComposites.{identity_shape, shapes_compose}
use Rattle.degeneracy_laws.proofs.Shapes.{degeneracy_ends, degeneracies_have_shape}
use Rattle.degeneracy_laws.proofs.Splits.{shape_means_degeneracy}

pub identities_are_degeneracies : (d : ℕ) → IdentitiesAreDegeneracies d
identities_are_degeneracies d X v = shape_means_degeneracy d X X (ident d X) v v
    (identity_shape d X X (ident d X) (identities_are_valid d X v) (identities_have_shape d X v))

pub degeneracies_compose : (d : ℕ) → DegeneraciesCompose d
degeneracies_compose d X Y Z f g qf qg =
    let x = degeneracy_ends d X Y f qf in
    let z = degeneracy_ends d Y Z g qg in
    shape_means_degeneracy d X Z (comp d g f) x.0 z.1 (shapes_compose d X Y Z f g x.0 x.1 z.1
    (degeneracies_have_shape d X Y f qf) (degeneracies_have_shape d Y Z g qg))

pub degeneracies_are_mono : (d : ℕ) → DegeneraciesAreMono d
degeneracies_are_mono d W X Y e g h q vg vh same = shapes_are_mono d W X Y e g h (degeneracies_have_shape d X Y e q) vg vh same

pub factors_are_unique : (d : ℕ) → FactorsAreUnique d
factors_are_unique d W X Y f e g h q a b = degeneracies_are_mono d W X Y e g h q a.valid b.valid (a.composite ∙ sym b.composite)

pub first_parts_are_degeneracies : (d : ℕ) → FirstPartsAreDegeneracies d
first_parts_are_degeneracies d X Y Z g e vg qe qc =
    let x = degeneracy_ends d X Z (comp d e g) qc in
    let y = degeneracy_ends d Y Z e qe in
    shape_means_degeneracy d X Y g x.0 y.0 (first_parts_have_shape d X Y Z g e x.0 y.0 y.1 vg
    (degeneracies_have_shape d Y Z e qe) (degeneracies_have_shape d X Z (comp d e g) qc))
