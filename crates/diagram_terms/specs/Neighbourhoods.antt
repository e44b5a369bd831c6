-- The neighbourhoods of points, and the diagram of one height.
use Rattle.std.specs.Prelude.{ℕ, suc, List}
use Rattle.diagram_terms.specs.declared.place.Height.{Height}
use Rattle.diagram_terms.specs.Composite.{ident}
use Rattle.diagram_terms.specs.Cone.{cospan}
use Rattle.diagram_terms.specs.Cuts.{cut_arrow, cut_diagram}
use Rattle.diagram_terms.specs.Family.{Dia, reg, sing, fwd, bwd}
use Rattle.diagram_terms.specs.PointRegions.{point_region}
use Rattle.diagram_terms.specs.Preimages.{preimage}
use Rattle.diagram_terms.specs.Regions.{Reg}

-- the neighbourhood of a point: the cut at its region
abbrev pub neighbourhood : (d : ℕ) → Dia d → List Height → Dia d
neighbourhood d X hs = cut_diagram d X (point_region d X hs)

-- the diagram of the one height k of X
abbrev pub one_height : (d : ℕ) → Dia (suc d) → ℕ → Dia (suc d)
one_height d X k = cospan d (reg d X k) (fwd d X k) (sing d X k) (bwd d X k) (reg d X (suc k))

-- the same, cut at the region W of its singular slice and at the preimages of W along the two legs
abbrev pub cut_height : (d : ℕ) → Dia (suc d) → ℕ → Reg d → Dia (suc d)
cut_height d X k W =
    cospan d (cut_diagram d (reg d X k) (preimage d (reg d X k) (fwd d X k) W)) (cut_arrow d (fwd d X k) W) (cut_diagram d (sing d X k) W)
    (cut_arrow d (bwd d X k) W) (cut_diagram d (reg d X (suc k)) (preimage d (reg d X (suc k)) (bwd d X k) W))

-- E → E ← E with identities as legs
abbrev pub identity_cospan : (d : ℕ) → Dia d → Dia (suc d)
identity_cospan d E = cospan d E (ident d E) E (ident d E) E
