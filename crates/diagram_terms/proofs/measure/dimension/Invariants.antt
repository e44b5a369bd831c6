use Rattle.std.proofs.Common.{◌≡◌, ℕ, ◌<◌, ◌^◌, ◌+◌}
use Rattle.diagram_terms.specs.Shape.{IsDiagram}
use Rattle.diagram_terms.specs.Values.{tree_of_diagram}
use Rattle.diagram_terms.proofs.measure.dimension.Given as goal

-- what is left below `current` is a diagram of the dimension that is not counted yet
abbrev pub invariant-loop-current : goal.invariant-loop-current
invariant-loop-current l = (n : ℕ) → n < 2 ^ 64 → IsDiagram n (tree_of_diagram l.fn.d) → (m : ℕ) × (l.count + m ≡ n) × IsDiagram m (tree_of_diagram l.current)
