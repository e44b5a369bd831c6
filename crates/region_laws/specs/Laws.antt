-- The laws of regions, preimages and cuts, each at one dimension.
use Rattle.std.specs.Prelude.{◌≡◌, ℕ, suc, List, ◌∷◌, ◌++◌}
use Rattle.diagram_terms.specs.declared.place.Height.{Height}
use Rattle.diagram_terms.specs.declared.place.Height.TheVariants as height_kind
use Rattle.diagram_terms.specs.Composite.{identity_diagram, ident, comp}
use Rattle.diagram_terms.specs.Degeneracy.{DegeneracyByShape}
use Rattle.diagram_terms.specs.Family.{Dia, Arr, reg, sing}
use Rattle.diagram_terms.specs.Identity.{IsIdentity}
use Rattle.diagram_terms.specs.Plain.{PlainArrow, Plain}
use Rattle.diagram_terms.specs.Points.{points}
use Rattle.diagram_terms.specs.Valid.{ValidArrow, Valid}
use Rattle.diagram_terms.specs.Regions.{Reg, IsRegionOf, whole_region}
use Rattle.diagram_terms.specs.Preimages.{preimage}
use Rattle.region_laws.specs.PreimageCases.{PreimageCases}
use Rattle.diagram_terms.specs.ClosedRegions.{IsClosedRegion}
use Rattle.diagram_terms.specs.Paths.{IsPathOf, IsPointOf, IsOnlyPath}
use Rattle.diagram_terms.specs.PointRegions.{point_region, LiesIn}
use Rattle.diagram_terms.specs.PointOrder.{ListsPoints}
use Rattle.diagram_terms.specs.Cuts.{cut_arrow, cut_diagram}
use Rattle.diagram_terms.specs.CutsOfCuts.{uncut_region}
use Rattle.diagram_terms.specs.Neighbourhoods.{neighbourhood, cut_height}
use Rattle.region_laws.specs.PointsInCuts.{SeesOneHeight, IsPointInCut, IsPointOfCut, GoesOnInCut}
use Rattle.diagram_terms.specs.PulledPoints.{pulled_point, PullsBack, IsQuiet}
use Rattle.region_laws.specs.PulledPoints.{IsPulledPoint, HasQuietNeighbourhood, LiesUnderDeepPoint}

-- ---- preimages

-- the preimage under a valid arrow X → Y, out of a valid diagram, of a region of Y is a region of X
abbrev pub PreimagesAreRegions : ℕ → Type 0
PreimagesAreRegions d = (X Y : Dia d) (f : Arr d) (W : Reg d) → Valid d X → ValidArrow d X Y f
    → IsRegionOf d Y W → IsRegionOf d X (preimage d X f W)

-- under a valid arrow between valid diagrams, that of a closed region is a closed region
abbrev pub PreimagesAreClosed : ℕ → Type 0
PreimagesAreClosed d = (X Y : Dia d) (f : Arr d) (W : Reg d) → Valid d X → Valid d Y → ValidArrow d X Y f
    → IsClosedRegion d Y W → IsClosedRegion d X (preimage d X f W)

-- the preimage under a composite is that of the preimage
abbrev pub PreimagesCompose : ℕ → Type 0
PreimagesCompose d = (X Y Z : Dia d) (f g : Arr d) (W : Reg d) → Valid d X → Valid d Y → Valid d Z
    → ValidArrow d X Y f → ValidArrow d Y Z g → IsClosedRegion d Z W
    → preimage d X (comp d g f) W ≡ preimage d X f (preimage d Y g W)

-- the preimage under an identity is the region itself
abbrev pub PreimagesUnderIdentities : ℕ → Type 0
PreimagesUnderIdentities d = (X : Dia d) (W : Reg d) → Valid d X → IsClosedRegion d X W → preimage d X (ident d X) W ≡ W

-- the cases of a preimage agree
abbrev pub PreimageCasesAgree : ℕ → Type 0
PreimageCasesAgree d = (X Y : Dia (suc d)) (f : Arr (suc d)) (W : Reg (suc d)) → Valid (suc d) X → Valid (suc d) Y
    → ValidArrow (suc d) X Y f → IsClosedRegion (suc d) Y W → PreimageCases d X Y f W

-- ---- whole regions

-- the whole of a valid diagram is a closed region
abbrev pub WholeRegionsAreClosed : ℕ → Type 0
WholeRegionsAreClosed d = (X : Dia d) → Valid d X → IsClosedRegion d X (whole_region d X)

-- the preimage of the whole is the whole
abbrev pub PreimagesOfWholeRegions : ℕ → Type 0
PreimagesOfWholeRegions d = (X Y : Dia d) (f : Arr d) → Valid d X → ValidArrow d X Y f
    → preimage d X f (whole_region d Y) ≡ whole_region d X

-- a cut at the whole is what was cut
abbrev pub CutsAtWholeRegions : ℕ → Type 0
CutsAtWholeRegions d = (X : Dia d) → Valid d X → cut_diagram d X (whole_region d X) ≡ X

-- the cut of an arrow at the whole of its target is the arrow
abbrev pub CutsOfArrowsAtWholeRegions : ℕ → Type 0
CutsOfArrowsAtWholeRegions d = (X Y : Dia d) (f : Arr d) → ValidArrow d X Y f → cut_arrow d f (whole_region d Y) ≡ f

-- ---- points

-- the points of a diagram are listed once each, in order, with their labels
abbrev pub PointsAreListed : ℕ → Type 0
PointsAreListed d = (X : Dia d) → ListsPoints d X (points d X)

-- a point is a path
abbrev pub PointsArePaths : ℕ → Type 0
PointsArePaths d = (X : Dia d) (hs : List Height) → IsPointOf d X hs → IsPathOf d X hs

-- the region of a path of a valid diagram is a closed region
abbrev pub PathRegionsAreClosed : ℕ → Type 0
PathRegionsAreClosed d = (X : Dia d) (hs : List Height) → Valid d X → IsPathOf d X hs → IsClosedRegion d X (point_region d X hs)

-- the region of a point of a valid diagram is a closed region
abbrev pub PointRegionsAreClosed : ℕ → Type 0
PointRegionsAreClosed d = (X : Dia d) (hs : List Height) → Valid d X → IsPointOf d X hs → IsClosedRegion d X (point_region d X hs)

-- the region of an only path of a valid diagram is the whole
abbrev pub OnlyPathsAreWhole : ℕ → Type 0
OnlyPathsAreWhole d = (X : Dia d) (hs : List Height) → Valid d X → IsOnlyPath d X hs → point_region d X hs ≡ whole_region d X

-- ---- cuts

-- the cut of a valid diagram at a closed region is valid
abbrev pub CutsOfDiagramsAreValid : ℕ → Type 0
CutsOfDiagramsAreValid d = (X : Dia d) (W : Reg d) → Valid d X → IsClosedRegion d X W → Valid d (cut_diagram d X W)

-- the cut of a valid arrow X → Y at a closed region of Y is a valid arrow from the cut at the preimage to the cut of Y
abbrev pub CutsOfArrowsAreValid : ℕ → Type 0
CutsOfArrowsAreValid d = (X Y : Dia d) (f : Arr d) (W : Reg d) → Valid d X → Valid d Y → ValidArrow d X Y f
    → IsClosedRegion d Y W → ValidArrow d (cut_diagram d X (preimage d X f W)) (cut_diagram d Y W) (cut_arrow d f W)

-- the cut of a composite is the composite of the cuts
abbrev pub CutsKeepComposites : ℕ → Type 0
CutsKeepComposites d = (X Y Z : Dia d) (f g : Arr d) (W : Reg d) → Valid d X → Valid d Y → Valid d Z
    → ValidArrow d X Y f → ValidArrow d Y Z g → IsClosedRegion d Z W
    → cut_arrow d (comp d g f) W ≡ comp d (cut_arrow d g W) (cut_arrow d f (preimage d Y g W))

-- the cut of an identity is the identity of the cut
abbrev pub CutsKeepIdentities : ℕ → Type 0
CutsKeepIdentities d = (X : Dia d) (W : Reg d) → Valid d X → IsRegionOf d X W
    → cut_arrow d (ident d X) W ≡ ident d (cut_diagram d X W)

-- the cut of an arrow that has the shape of an identity has it
abbrev pub CutsOfIdentitiesAreIdentities : ℕ → Type 0
CutsOfIdentitiesAreIdentities d = (X Y : Dia d) (f : Arr d) (W : Reg d) → Valid d X → Valid d Y → ValidArrow d X Y f
    → IsClosedRegion d Y W → IsIdentity d f → IsIdentity d (cut_arrow d f W)

-- the cut of a plain arrow is plain
abbrev pub CutsOfPlainArrowsArePlain : ℕ → Type 0
CutsOfPlainArrowsArePlain d = (X Y : Dia d) (f : Arr d) (W : Reg d) → Valid d X → Valid d Y → ValidArrow d X Y f
    → IsClosedRegion d Y W → PlainArrow d f → PlainArrow d (cut_arrow d f W)

-- the cut of a plain diagram is plain
abbrev pub CutsOfPlainDiagramsArePlain : ℕ → Type 0
CutsOfPlainDiagramsArePlain d = (X : Dia d) (W : Reg d) → Valid d X → IsClosedRegion d X W → Plain d X
    → Plain d (cut_diagram d X W)

-- the cut of an arrow that has the shape of a degeneracy has it
abbrev pub CutsOfDegeneraciesHaveShape : ℕ → Type 0
CutsOfDegeneraciesHaveShape d = (X Y : Dia d) (e : Arr d) (W : Reg d) → Valid d X → Valid d Y → DegeneracyByShape d X Y e
    → IsClosedRegion d Y W → DegeneracyByShape d (cut_diagram d X (preimage d X e W)) (cut_diagram d Y W) (cut_arrow d e W)

-- ---- neighbourhoods

-- the neighbourhood of a point over a regular height is the identity diagram of that in the regular slice
abbrev pub RegularNeighbourhoods : ℕ → Type 0
RegularNeighbourhoods d = (X : Dia (suc d)) (j : ℕ) (hs : List Height)
    → neighbourhood (suc d) X (height_kind.R j ∷ hs) ≡ identity_diagram d (neighbourhood d (reg d X j) hs)

-- the neighbourhood of a point over a singular height, where W is the region of the rest: the singular slice cut at W, the
-- two regular slices at the preimages of W, and the legs cut at W
abbrev pub SingularNeighbourhoods : ℕ → Type 0
SingularNeighbourhoods d = (X : Dia (suc d)) (k : ℕ) (hs : List Height)
    → neighbourhood (suc d) X (height_kind.S k ∷ hs) ≡ cut_height d X k (point_region d (sing d X k) hs)

-- a neighbourhood depends on one height of the diagram alone
abbrev pub NeighbourhoodsSeeOneHeight : ℕ → Type 0
NeighbourhoodsSeeOneHeight d = (X : Dia (suc d)) (k : ℕ) (hs : List Height) → SeesOneHeight d X k hs

-- ---- cuts of cuts

-- a region V of the cut at W is, as a region of what was cut, a region
abbrev pub UncutRegionsAreRegions : ℕ → Type 0
UncutRegionsAreRegions d = (X : Dia d) (W V : Reg d) → IsRegionOf d X W → IsRegionOf d (cut_diagram d X W) V
    → IsRegionOf d X (uncut_region d W V)

-- it is closed if W is closed and V is
abbrev pub UncutRegionsAreClosed : ℕ → Type 0
UncutRegionsAreClosed d = (X : Dia d) (W V : Reg d) → Valid d X → IsClosedRegion d X W → IsClosedRegion d (cut_diagram d X W) V
    → IsClosedRegion d X (uncut_region d W V)

-- its preimage under f is that of V under the cut of f, as a region of what was cut
abbrev pub PreimagesOfUncutRegions : ℕ → Type 0
PreimagesOfUncutRegions d = (X Y : Dia d) (f : Arr d) (W V : Reg d) → Valid d X → Valid d Y → ValidArrow d X Y f
    → IsClosedRegion d Y W → IsRegionOf d (cut_diagram d Y W) V
    → preimage d X f (uncut_region d W V)
    ≡ uncut_region d (preimage d X f W) (preimage d (cut_diagram d X (preimage d X f W)) (cut_arrow d f W) V)

-- a cut of a cut is one cut
abbrev pub CutsOfCuts : ℕ → Type 0
CutsOfCuts d = (X : Dia d) (W V : Reg d) → Valid d X → IsRegionOf d X W → IsRegionOf d (cut_diagram d X W) V
    → cut_diagram d (cut_diagram d X W) V ≡ cut_diagram d X (uncut_region d W V)

-- and so is a cut of the cut of a valid arrow
abbrev pub CutsOfCutArrows : ℕ → Type 0
CutsOfCutArrows d = (X Y : Dia d) (f : Arr d) (W V : Reg d) → ValidArrow d X Y f → IsRegionOf d Y W → IsRegionOf d (cut_diagram d Y W) V
    → cut_arrow d (cut_arrow d f W) V ≡ cut_arrow d f (uncut_region d W V)

-- a region of the cut at the whole is itself
abbrev pub UncutOfWholeRegions : ℕ → Type 0
UncutOfWholeRegions d = (X : Dia d) (V : Reg d) → IsRegionOf d X V → uncut_region d (whole_region d X) V ≡ V

-- ---- points and paths in cuts

-- a point of a valid diagram that lies in a closed region is a point of the cut there
abbrev pub PointsLieInCuts : ℕ → Type 0
PointsLieInCuts d = (X : Dia d) (W : Reg d) (hs : List Height) → Valid d X → IsClosedRegion d X W → IsPointOf d X hs → LiesIn d W hs
    → IsPointInCut d X W hs

-- each point of a cut is one of them
abbrev pub PointsOfCuts : ℕ → Type 0
PointsOfCuts d = (X : Dia d) (W : Reg d) (hs : List Height) → IsRegionOf d X W → IsPointOf d (cut_diagram d X W) hs → IsPointOfCut d X W hs

-- a path goes on in the cut at the region of its beginning
abbrev pub PathsGoOnInCuts : ℕ → Type 0
PathsGoOnInCuts d = (X : Dia d) (us vs : List Height) → Valid d X → IsPathOf d X (us ++ vs) → GoesOnInCut d X us vs

-- where the cut of f : X → Y at the region of a path of Y is an identity, so is that at the region of each path that goes on
abbrev pub IdentityCutsGoOn : ℕ → Type 0
IdentityCutsGoOn d = (X Y : Dia d) (f : Arr d) (us vs : List Height) → Valid d X → Valid d Y → ValidArrow d X Y f → IsPathOf d Y (us ++ vs)
    → IsIdentity d (cut_arrow d f (point_region d Y us)) → IsIdentity d (cut_arrow d f (point_region d Y (us ++ vs)))

-- ---- points pulled back

-- where no height on the way of a point has two over it, the point is pulled back
abbrev pub PointsPullBack : ℕ → Type 0
PointsPullBack d = (X Y : Dia d) (f : Arr d) (hs : List Height) → Valid d X → Valid d Y → ValidArrow d X Y f → IsPointOf d Y hs
    → PullsBack d Y f hs → IsPulledPoint d X Y f hs

-- along a degeneracy each point of the target is pulled back
abbrev pub DegeneraciesPullBack : ℕ → Type 0
DegeneraciesPullBack d = (X Y : Dia d) (e : Arr d) (hs : List Height) → DegeneracyByShape d X Y e → IsPointOf d Y hs → PullsBack d Y e hs

-- the cut of the degeneracy is one from the neighbourhood of the point that is pulled back
abbrev pub DegeneraciesOfNeighbourhoods : ℕ → Type 0
DegeneraciesOfNeighbourhoods d = (X Y : Dia d) (e : Arr d) (hs : List Height) → Valid d X → Valid d Y → DegeneracyByShape d X Y e → IsPointOf d Y hs
    → DegeneracyByShape d (neighbourhood d X (pulled_point d Y e hs)) (neighbourhood d Y hs) (cut_arrow d e (point_region d Y hs))

-- and each point of the source is one that is pulled back
abbrev pub EveryPointIsPulled : ℕ → Type 0
EveryPointIsPulled d = (X Y : Dia d) (e : Arr d) (hs : List Height) → DegeneracyByShape d X Y e → IsPointOf d X hs
    → (ps : List Height) × IsPointOf d Y ps × (pulled_point d Y e ps ≡ hs)

-- an arrow whose cut at the region of a point is an identity pulls the point back, with its neighbourhood
abbrev pub IdentityCutsPullBack : ℕ → Type 0
IdentityCutsPullBack d = (X Y : Dia d) (f : Arr d) (hs : List Height) → Valid d X → Valid d Y → ValidArrow d X Y f → IsPointOf d Y hs
    → IsIdentity d (cut_arrow d f (point_region d Y hs))
    → PullsBack d Y f hs × (neighbourhood d X (pulled_point d Y f hs) ≡ neighbourhood d Y hs)

-- a quiet point has a quiet neighbourhood
abbrev pub QuietPoints : ℕ → Type 0
QuietPoints d = (X : Dia (suc d)) (k : ℕ) (hs : List Height) → Valid (suc d) X → IsPointOf (suc d) X (height_kind.S k ∷ hs) → IsQuiet d X k hs
    → HasQuietNeighbourhood d X k hs

-- a path that begins as a quiet one is quiet
abbrev pub QuietPathsGoOn : ℕ → Type 0
QuietPathsGoOn d = (X : Dia (suc d)) (k : ℕ) (us vs : List Height) → Valid (suc d) X → IsPathOf (suc d) X (height_kind.S k ∷ us ++ vs)
    → IsQuiet d X k us → IsQuiet d X k (us ++ vs)

-- under a valid arrow each point lies under a deep one
abbrev pub PointsLieUnderDeepPoints : ℕ → Type 0
PointsLieUnderDeepPoints d = (X Y : Dia d) (f : Arr d) (hs : List Height) → Valid d X → Valid d Y → ValidArrow d X Y f → IsPointOf d X hs
    → LiesUnderDeepPoint d X Y f hs
