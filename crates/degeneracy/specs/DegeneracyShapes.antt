-- The shape of a degeneracy f : s → t, part by part, on the trees that a store holds.
use Rattle.std.specs.Prelude.{◌≡◌, ℕ, suc, ◌<◌, length, get_or}
use Rattle.diagram_terms.specs.Dual.{IsIncreasing, dual}
use Rattle.diagram_terms.specs.Shape.{reg_at, sing_at, fwd_at, bwd_at}
use Rattle.diagram_terms.specs.Tree.{Tree, heights, regs, sings}
use Rattle.diagram_terms.specs.Operations.{composite_tree}
use Rattle.degeneracy.specs.DegeneracyTrees.{IsDegeneracyTree}

-- its regular slices are degeneracies
abbrev pub HasDegenerateRegs : Tree → Tree → Tree → Type 0
HasDegenerateRegs s t f = (k : ℕ) → k < length (regs f) → IsDegeneracyTree (reg_at s (dual (heights f) k)) (reg_at t k) (reg_at f k)

-- its singular slices are
abbrev pub HasDegenerateSings : Tree → Tree → Tree → Type 0
HasDegenerateSings s t f =
    (i : ℕ) → i < length (heights f) → IsDegeneracyTree (sing_at s i) (sing_at t (get_or (heights f) i 0)) (sing_at f i)

-- and so are the two composites into the singular slice at k
pub record HasDegenerateEdges (s t f : Tree) (k : ℕ) : Type 0 where
  pub fwd : IsDegeneracyTree (reg_at s (dual (heights f) k)) (sing_at t k) (composite_tree (fwd_at t k) (reg_at f k))
  pub bwd : IsDegeneracyTree (reg_at s (dual (heights f) (suc k))) (sing_at t k) (composite_tree (bwd_at t k) (reg_at f (suc k)))

-- if no height goes to k
abbrev pub IsDegenerateWhereMissed : Tree → Tree → Tree → ℕ → Type 0
IsDegenerateWhereMissed s t f k = dual (heights f) k ≡ dual (heights f) (suc k) → HasDegenerateEdges s t f k

abbrev pub HasDegenerateMissed : Tree → Tree → Tree → Type 0
HasDegenerateMissed s t f = (k : ℕ) → k < length (sings t) → IsDegenerateWhereMissed s t f k

pub record HasDegeneracyShape (s t f : Tree) : Type 0 where
  pub increasing : IsIncreasing (heights f)
  pub regs : HasDegenerateRegs s t f
  pub sings : HasDegenerateSings s t f
  pub missed : HasDegenerateMissed s t f
