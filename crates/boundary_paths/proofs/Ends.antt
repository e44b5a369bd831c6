-- The ends of a diagram of a store.
use Rattle.std.proofs.Common.{◌<◌, length, arith}
use Rattle.diagram_terms.specs.Dimension.{dimension_of}
use Rattle.diagram_terms.specs.Tree.{Tree, nil, num, pair, regs}
use Rattle.hashcons.proofs.PartsOfNodes.{picks}
use Rattle.diagram_terms.proofs.Dimensions.{diagram_dimensions}
use Rattle.boundary_paths.proofs.SlicesAtHeights.{no_slice, regular_slice, no_regular_slice, singular_slice, no_singular_slice}

-- a tree above dimension 0 has a regular slice
pub has_first : (t : Tree) → 0 < dimension_of t → 0 < length (regs t)
unfolding dimension_of regs
has_first nil l = absurd (omega arith)
has_first (num n) l = absurd (omega arith)
has_first (pair k nil) l = absurd (omega arith)
has_first (pair k (num n)) l = absurd (omega arith)
has_first (pair k (pair nil rest)) l = absurd (omega arith)
has_first (pair k (pair (num n) rest)) l = absurd (omega arith)
has_first (pair k (pair (pair r rs) rest)) l = omega arith

pub ruleset ends = (picks, diagram_dimensions, has_first)

pub ruleset slices = (no_slice, regular_slice, no_regular_slice, singular_slice, no_singular_slice)
