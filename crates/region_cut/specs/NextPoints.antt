-- The next point of a diagram after one, in order, and walks over the points of a diagram of a store.
use Rattle.std.specs.Prelude.{◌≡◌, ◌⊎◌, ℕ, List, Option, None, Some, Vec, reverse}
use Rattle.std.specs.Global.{Global}
use Rattle.diagram_terms.specs.declared.place.Height.{Height}
use Rattle.diagram_terms.specs.Decoded.{dia}
use Rattle.diagram_terms.specs.Family.{Dia}
use Rattle.diagram_terms.specs.OnTrees.{on_diagram}
use Rattle.diagram_terms.specs.Paths.{IsPointOf}
use Rattle.diagram_terms.specs.PointOrder.{IsBefore}
use Rattle.diagram_terms.specs.Shape.{IsDiagram}
use Rattle.diagram_terms.specs.Tree.{Tree}
use Rattle.hashcons.specs.Contents.{Contents, IsDiagramOf, diagram_at}
use Rattle.region_cut.specs.declared.walk.PointWalk.{PointWalk}
use Rattle.region_cut.specs.PointTrees.{IsPointIn}

-- the heights come after the last ones, where there are some
abbrev pub IsAfter : Option (List Height) → List Height → Type 0
IsAfter None hs = Unit {0}
IsAfter (Some gs) hs = IsBefore gs hs

-- gs is the first point of X after the last one
pub record IsFirstAfter (d : ℕ) (X : Dia d) (last : Option (List Height)) (gs : List Height) : Type 0 where
  pub point : IsPointOf d X gs
  pub after : IsAfter last gs
  pub first : (hs : List Height) → IsPointOf d X hs → IsAfter last hs → (hs ≡ gs) ⊎ IsBefore gs hs

-- the first point of X after the last one, and None exactly where no point comes after it
abbrev pub IsNextPoint : (d : ℕ) → Dia d → Option (List Height) → Option (List Height) → Type 0
IsNextPoint d X last None = (hs : List Height) → IsPointOf d X hs → IsAfter last hs → ⊥
IsNextPoint d X last (Some gs) = IsFirstAfter d X last gs

-- ---- on trees

abbrev pub IsNextPointIn : Tree → Option (List Height) → Option (List Height) → Type 0
IsNextPointIn t last next = on_diagram (λ d X. IsNextPoint d X last next) t

-- the heights are those of a point of the diagram t, of dimension d
pub record IsPointAt (d : ℕ) (t : Tree) (hs : List Height) : Type 0 where
  pub shape : IsDiagram d t
  pub point : IsPointOf d (dia d t) hs

-- ---- walks

-- the heights that a value lists, and those that it lists from the innermost on
abbrev pub listed : Option (Vec Height Global) → Option (List Height)
listed None = None
listed (Some v) = Some v.items

abbrev pub listed_back : Option (Vec Height Global) → Option (List Height)
listed_back None = None
listed_back (Some v) = Some (reverse v.items)

-- what was given last, if there is one, is a point of the diagram t
abbrev pub IsLastIn : Tree → Option (Vec Height Global) → Type 0
IsLastIn t None = Unit {0}
IsLastIn t (Some v) = IsPointIn t v.items

-- the diagram of the walk is of the store, and what it gave last is a point of it
pub record IsWalkOf (c : Contents) (w : PointWalk) : Type 0 where
  pub of_store : IsDiagramOf c w.diagram
  pub last : IsLastIn (diagram_at c w.diagram) w.last

-- the last point that was given: the one that is given now, and else the one before
abbrev pub last_given : Option (Vec Height Global) → Option (Vec Height Global) → Option (List Height)
last_given given before = elim given [ None ↦ listed before | Some v ↦ Some v.items ]
