-- The laws of plain arrows, parallel diagrams, cones and types, each at one dimension.
use Rattle.std.specs.Prelude.{◌≡◌, ◌≤◌, ℕ, suc, length}
use Rattle.diagram_terms.specs.declared.label.Label.{Label}
use Rattle.diagram_terms.specs.Family.{Dia, Arr, reg, arrow_reg}
use Rattle.diagram_terms.specs.Dual.{dual}
use Rattle.diagram_terms.specs.Composite.{comp, ident}
use Rattle.diagram_terms.specs.Plain.{PlainArrow, Plain}
use Rattle.diagram_terms.specs.Valid.{ValidArrow, Valid}
use Rattle.diagram_terms.specs.Cone.{source, Parallel, cone, mid, type_over, HasLabelsBelow}
use Rattle.plain_laws.specs.Cones.{HasSlicesParallelTo, HasGoodCone}

-- the regular slice j of a valid plain arrow X → Y is the identity of one diagram, which X and Y have there
abbrev pub PlainArrowsUnfold : ℕ → Type 0
PlainArrowsUnfold d = (X Y : Dia (suc d)) (f : Arr (suc d)) → Valid (suc d) X → Valid (suc d) Y
    → ValidArrow (suc d) X Y f → PlainArrow (suc d) f → (j : ℕ) → j ≤ length Y.sings
    → (reg d X (dual f.heights j) ≡ reg d Y j) × (arrow_reg d f j ≡ ident d (reg d Y j))

-- a valid plain arrow goes between parallel diagrams
abbrev pub PlainArrowsHaveParallelEnds : ℕ → Type 0
PlainArrowsHaveParallelEnds d = (X Y : Dia (suc d)) (f : Arr (suc d)) → Valid (suc d) X → Valid (suc d) Y
    → ValidArrow (suc d) X Y f → PlainArrow (suc d) f → Parallel (suc d) X Y

-- to be parallel is an equivalence
abbrev pub ParallelIsReflexive : ℕ → Type 0
ParallelIsReflexive d = (S : Dia d) → Parallel d S S

abbrev pub ParallelIsSymmetric : ℕ → Type 0
ParallelIsSymmetric d = (S T : Dia d) → Parallel d S T → Parallel d T S

abbrev pub ParallelIsTransitive : ℕ → Type 0
ParallelIsTransitive d = (S T U : Dia d) → Parallel d S T → Parallel d T U → Parallel d S U

-- each slice of a valid plain diagram is parallel to the source, and so to every other slice
abbrev pub SlicesAreParallel : ℕ → Type 0
SlicesAreParallel d = (X : Dia (suc d)) → Valid (suc d) X → Plain (suc d) X → HasSlicesParallelTo d (source d X) X

-- the cones over parallel diagrams with one label end in one diagram
abbrev pub ParallelDiagramsHaveOneMid : ℕ → Type 0
ParallelDiagramsHaveOneMid d = (S T : Dia d) (x : Label) → Parallel d S T → mid d S x ≡ mid d T x

-- a valid plain diagram whose labels have smaller dimensions than x has a good cone with the label x
abbrev pub ConesAreGood : ℕ → Type 0
ConesAreGood d = (D : Dia d) (x : Label) → Valid d D → Plain d D → HasLabelsBelow x.dim d D → HasGoodCone d D x

-- the cone over Y after a valid plain arrow X → Y between valid diagrams is the cone over X
abbrev pub ConesAbsorbPlainArrows : ℕ → Type 0
ConesAbsorbPlainArrows d = (X Y : Dia d) (g : Arr d) (x : Label) → Valid d X → Valid d Y
    → ValidArrow d X Y g → PlainArrow d g → comp d (cone d Y x) g ≡ cone d X x

-- the type over parallel valid plain diagrams, whose labels have smaller dimensions than x, is valid and plain
abbrev pub TypesAreGood : ℕ → Type 0
TypesAreGood d = (S T : Dia d) (x : Label) → Valid d S → Plain d S → HasLabelsBelow x.dim d S
    → Valid d T → Plain d T → HasLabelsBelow x.dim d T → Parallel d S T
    → Valid (suc d) (type_over d S T x) × Plain (suc d) (type_over d S T x)
