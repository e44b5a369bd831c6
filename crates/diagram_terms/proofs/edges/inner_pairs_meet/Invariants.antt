use Rattle.std.proofs.Common.{◌≡◌, ◌≤◌, ◌<◌, ℕ, true}
use Rattle.diagram_terms.specs.Edges.{AreEdges}
use Rattle.diagram_terms.specs.Family.{Arr}
use Rattle.diagram_terms.proofs.EdgeTests.{inner_test}
use Rattle.diagram_terms.proofs.edges.inner_pairs_meet.Given as goal

abbrev pub invariant-loop-i : goal.invariant-loop-i
invariant-loop-i l = (d : ℕ) (enter leave : ℕ → Arr d) (n : ℕ) → l.b ≤ n → AreEdges d enter n l.enters → AreEdges d leave n l.leaves
    → (j : ℕ) → l.a ≤ j → j < l.i → inner_test d enter leave j ≡ true
