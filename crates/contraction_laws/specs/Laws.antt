-- The laws of contraction and of settling, each at one dimension, and of their trees.
use Rattle.std.specs.Prelude.{◌≡◌, ◌↔◌, ◌+◌, ◌<◌, ℕ, suc, Bool, true, List, [], ◌∷◌, length, get_or, take, Ok, Err}
use Rattle.diagram_terms.specs.declared.label.Label.{Label}
use Rattle.diagram_terms.specs.declared.place.Bias.{Bias}
use Rattle.diagram_terms.specs.Decoded.{dia}
use Rattle.diagram_terms.specs.Dimension.{dimension_of}
use Rattle.diagram_terms.specs.Family.{Dia, Arr, sing, length_of}
use Rattle.diagram_terms.specs.Slices.{AreParallel}
use Rattle.diagram_terms.specs.Tree.{Tree}
use Rattle.diagram_terms.specs.Composite.{ident, identity_diagram}
use Rattle.diagram_terms.specs.Cone.{source, target, Parallel, cospan}
use Rattle.diagram_terms.specs.Good.{GoodDiagram, GoodArrow}
use Rattle.diagram_terms.specs.Segments.{segment, diagram_sum}
use Rattle.diagram_terms.specs.Merging.{MergesAlong, MergesInSlice}
use Rattle.diagram_terms.specs.Shapes.{IsShape}
use Rattle.diagram_terms.specs.Cocones.{leg}
use Rattle.diagram_terms.specs.Contraction.{two_heights, ContractsTo, ContractsAlong, ContractionFault, RefusesAlong, Contraction, contract_from, stored_contraction}
use Rattle.contraction_laws.specs.Lists.{HasContractedLists, HasSliceLists}
use Rattle.diagram_terms.specs.GoodTrees.{IsGoodTree, IsGoodArrowTree}
use Rattle.diagram_terms.specs.ContractionTrees.{ContractionTrees, trees_of_contraction, contraction_trees}
use Rattle.diagram_terms.specs.SettlingTrees.{settling_heights, settled_tree, settling_tree}
use Rattle.contraction_laws.specs.StepPoints.{PassesAtEachPoint}
use Rattle.diagram_terms.specs.Settling.{Step, settled, all_steps, IsSettled, Settles, settle}

-- ---- contraction

-- two heights of a valid plain diagram that follow one another are a shape
abbrev pub TwoHeightsAreShapes : ℕ → Type 0
TwoHeightsAreShapes d = (C : Dia (suc d)) (k : ℕ) → GoodDiagram (suc d) C → suc k < length C.sings → IsShape d (two_heights d C k)

-- along a path that begins with step n the program answers with a contraction exactly where it is that of the rule, and with
-- a fault exactly where it refuses
abbrev pub ContractionsAreComputed : ℕ → Type 0
ContractionsAreComputed d = (n : ℕ) (C : Dia d) (path : List ℕ) (k : ℕ) (biases : List Bias) (c : Contraction d) → GoodDiagram d C
    → (contract_from n d C path k biases ≡ Ok c) ↔ ContractsAlong d C path k biases c.result c.arrow

abbrev pub ContractionFaultsAreComputed : ℕ → Type 0
ContractionFaultsAreComputed d = (n : ℕ) (C : Dia d) (path : List ℕ) (k : ℕ) (biases : List Bias) (e : ContractionFault) → GoodDiagram d C
    → (contract_from n d C path k biases ≡ Err e) ↔ RefusesAlong n d C path k biases e

-- a contraction merges the two heights by a cocone
abbrev pub ContractionsMerge : ℕ → Type 0
ContractionsMerge d = (C : Dia d) (path : List ℕ) (k : ℕ) (biases : List Bias) (X : Dia d) (f : Arr d) → GoodDiagram d C
    → ContractsAlong d C path k biases X f → MergesAlong d C path k X f

-- the arrow to the contracted diagram is valid and plain, as both diagrams are
abbrev pub ContractionsAreGood : ℕ → Type 0
ContractionsAreGood d = (C : Dia d) (path : List ℕ) (k : ℕ) (biases : List Bias) (X : Dia d) (f : Arr d) → GoodDiagram d C
    → ContractsAlong d C path k biases X f → GoodArrow d C X f

-- they have one boundary
abbrev pub ContractionsHaveOneBoundary : ℕ → Type 0
ContractionsHaveOneBoundary d = (C : Dia d) (path : List ℕ) (k : ℕ) (biases : List Bias) (X : Dia d) (f : Arr d) → GoodDiagram d C
    → ContractsAlong d C path k biases X f → Parallel d C X

-- and the diagram C → X ← X that is stored is valid and plain
abbrev pub StoredContractionsAreGood : ℕ → Type 0
StoredContractionsAreGood d = (C : Dia d) (path : List ℕ) (k : ℕ) (biases : List Bias) (X : Dia d) (f : Arr d) → GoodDiagram d C
    → ContractsAlong d C path k biases X f → GoodDiagram (suc d) (cospan d C f X (ident d X) X)

-- a contraction without a bias is that under every list of biases
abbrev pub UnbiasedContractionsStay : ℕ → Type 0
UnbiasedContractionsStay d = (C : Dia d) (path : List ℕ) (k : ℕ) (biases : List Bias) (X : Dia d) (f : Arr d)
    → ContractsAlong d C path k [] X f → ContractsAlong d C path k biases X f

-- in lists: at the end of the path one height stands in the place of two, and in the slices around it another singular
-- slice in the place of one
abbrev pub ContractionsHaveLists : ℕ → Type 0
ContractionsHaveLists d = (C : Dia (suc d)) (k : ℕ) (biases : List Bias) (X : Dia (suc d)) (f : Arr (suc d)) → GoodDiagram (suc d) C
    → (t : ContractsTo d C k biases X f) → HasContractedLists d C k t.colimit.apex (leg d t.colimit 0) (leg d t.colimit 2) X f

abbrev pub SliceContractionsHaveLists : ℕ → Type 0
SliceContractionsHaveLists d = (C : Dia (suc d)) (p : ℕ) (path : List ℕ) (k : ℕ) (biases : List Bias) (X : Dia (suc d)) (f : Arr (suc d))
    → GoodDiagram (suc d) C → (t : MergesInSlice d (λ S m. ContractsAlong d (sing d C p) path k biases S m) C p X f)
    → HasSliceLists d C p t.slice t.slice_arrow X f

-- so with an empty path there is one height less, and else there are as many
abbrev pub ContractionsAreShorter : ℕ → Type 0
ContractionsAreShorter d = (C : Dia (suc d)) (k : ℕ) (biases : List Bias) (X : Dia (suc d)) (f : Arr (suc d)) → GoodDiagram (suc d) C
    → ContractsAlong (suc d) C [] k biases X f → suc (length X.sings) ≡ length C.sings

abbrev pub SliceContractionsAreAsLong : ℕ → Type 0
SliceContractionsAreAsLong d = (C : Dia (suc d)) (p : ℕ) (path : List ℕ) (k : ℕ) (biases : List Bias) (X : Dia (suc d)) (f : Arr (suc d))
    → GoodDiagram (suc d) C → ContractsAlong (suc d) C (p ∷ path) k biases X f → length X.sings ≡ length C.sings

-- ---- settling, under a test of the diagrams that are stored

-- the program answers with the steps of the rule, and with no others
abbrev pub SettlingIsComputed : ℕ → Type 0
SettlingIsComputed d = (accept : Dia (suc (suc d)) → Bool) (C : Dia (suc d)) (steps : List (Step (suc d))) → GoodDiagram (suc d) C
    → (settle d accept C ≡ steps) ↔ Settles d accept C steps

-- in the end no height is open
abbrev pub SettlingEnds : ℕ → Type 0
SettlingEnds d = (accept : Dia (suc (suc d)) → Bool) (C : Dia (suc d)) (steps : List (Step (suc d)))
    → Settles d accept C steps → IsSettled d accept (settled (suc d) C steps)

-- there are as many heights less as there are steps
abbrev pub SettlingShortens : ℕ → Type 0
SettlingShortens d = (accept : Dia (suc (suc d)) → Bool) (C : Dia (suc d)) (steps : List (Step (suc d))) → GoodDiagram (suc d) C
    → Settles d accept C steps → length (settled (suc d) C steps).sings + length steps ≡ length C.sings

-- what is left is valid and plain, and so is the diagram that holds the steps
abbrev pub SettledIsGood : ℕ → Type 0
SettledIsGood d = (accept : Dia (suc (suc d)) → Bool) (C : Dia (suc d)) (steps : List (Step (suc d))) → GoodDiagram (suc d) C
    → Settles d accept C steps → GoodDiagram (suc d) (settled (suc d) C steps)

abbrev pub StepsAreGood : ℕ → Type 0
StepsAreGood d = (accept : Dia (suc (suc d)) → Bool) (C : Dia (suc d)) (steps : List (Step (suc d))) → GoodDiagram (suc d) C
    → Settles d accept C steps → GoodDiagram (suc (suc d)) (all_steps (suc d) C steps)

-- that diagram leads from C to what is left, and is the sum of the diagrams that are stored for the steps
abbrev pub StepsHaveEnds : ℕ → Type 0
StepsHaveEnds d = (C : Dia d) (steps : List (Step d))
    → (source d (all_steps d C steps) ≡ C) × (target d (all_steps d C steps) ≡ settled d C steps)

abbrev pub StepsAreSums : ℕ → Type 0
StepsAreSums d = (C : Dia d) (s : Step d) (steps : List (Step d))
    → all_steps d C (s ∷ steps) ≡ diagram_sum d (stored_contraction d C s.contraction) (all_steps d s.contraction.result steps)

-- and its segment at a height is the diagram that is stored for the step there
abbrev pub StepsAreSegments : ℕ → Type 0
StepsAreSegments d = (C : Dia d) (steps : List (Step d)) (i : ℕ) (s : Step d) → i < length steps → get_or steps i s ≡ s
    → segment d (all_steps d C steps) i (suc i) ≡ stored_contraction d (settled d C (take i steps)) s.contraction

-- where all that is accepted passes another test at each point and, if there are no steps, the identity diagram of C does, so
-- does the diagram that holds the steps
abbrev pub StepsKeepPoints : ℕ → Type 0
StepsKeepPoints d = (accept : Dia (suc (suc d)) → Bool) (test : Dia (suc (suc d)) → Label → Bool) (C : Dia (suc d)) (steps : List (Step (suc d)))
    → ((D : Dia (suc (suc d))) → accept D ≡ true → PassesAtEachPoint (suc (suc d)) test D)
    → (length steps ≡ 0 → PassesAtEachPoint (suc (suc d)) test (identity_diagram (suc d) C))
    → Settles d accept C steps → PassesAtEachPoint (suc (suc d)) test (all_steps (suc d) C steps)

-- ---- trees

-- the trees are those of the contraction, and a tree is refused exactly where its diagram is
abbrev pub ContractionTreesAreComputed : Type 0
ContractionTreesAreComputed = (t : Tree) (path : List ℕ) (k : ℕ) (biases : List Bias) (c : Contraction (dimension_of t)) → IsGoodTree t
    → ContractsAlong (dimension_of t) (dia (dimension_of t) t) path k biases c.result c.arrow
    → contraction_trees t path k biases ≡ trees_of_contraction (dimension_of t) (dia (dimension_of t) t) (Ok c)

abbrev pub ContractionTreesAreRefused : Type 0
ContractionTreesAreRefused = (t : Tree) (path : List ℕ) (k : ℕ) (biases : List Bias) (e : ContractionFault) → IsGoodTree t
    → (contraction_trees t path k biases ≡ Err e) ↔ RefusesAlong 0 (dimension_of t) (dia (dimension_of t) t) path k biases e

-- the arrow to the contracted diagram, on trees
abbrev pub ContractionTreesAreGood : Type 0
ContractionTreesAreGood = (t : Tree) (path : List ℕ) (k : ℕ) (biases : List Bias) (c : ContractionTrees) → IsGoodTree t
    → contraction_trees t path k biases ≡ Ok c → IsGoodArrowTree t c.result c.arrow

abbrev pub ContractionTreesAreParallel : Type 0
ContractionTreesAreParallel = (t : Tree) (path : List ℕ) (k : ℕ) (biases : List Bias) (c : ContractionTrees) → IsGoodTree t
    → contraction_trees t path k biases ≡ Ok c → AreParallel t c.result

-- and the diagram that is stored, of one dimension more
abbrev pub StoredTreesAreGood : Type 0
StoredTreesAreGood = (t : Tree) (path : List ℕ) (k : ℕ) (biases : List Bias) (c : ContractionTrees) → IsGoodTree t
    → contraction_trees t path k biases ≡ Ok c → IsGoodTree c.stored × (dimension_of c.stored ≡ suc (dimension_of t))

-- what is left of a tree by settling, and the diagram that holds the steps, of one dimension more
abbrev pub SettledTreesAreGood : Type 0
SettledTreesAreGood = (accept : Tree → Bool) (t : Tree) → IsGoodTree t
    → IsGoodTree (settled_tree accept t) × (dimension_of (settled_tree accept t) ≡ dimension_of t)

abbrev pub SettlingTreesAreGood : Type 0
SettlingTreesAreGood = (accept : Tree → Bool) (t : Tree) → IsGoodTree t
    → IsGoodTree (settling_tree accept t) × (dimension_of (settling_tree accept t) ≡ suc (dimension_of t))

-- the length of what is left and the number of steps are the length of the tree
abbrev pub SettledTreesAreShorter : Type 0
SettledTreesAreShorter = (accept : Tree → Bool) (t : Tree) → IsGoodTree t
    → length_of (dimension_of t) (dia (dimension_of t) (settled_tree accept t)) + length (settling_heights accept t)
    ≡ length_of (dimension_of t) (dia (dimension_of t) t)
