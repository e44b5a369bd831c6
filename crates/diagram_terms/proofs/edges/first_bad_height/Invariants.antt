use Rattle.std.proofs.Common.{◌≡◌, ℕ, suc}
use Rattle.diagram_terms.specs.Dual.{dual}
use Rattle.diagram_terms.specs.Edges.{HoldsEdges}
use Rattle.diagram_terms.specs.Family.{Arr, Dia}
use Rattle.diagram_terms.proofs.EdgeTests.{CommuteBefore}
use Rattle.diagram_terms.proofs.edges.first_bad_height.Given as goal

abbrev pub invariant-loop-k : goal.invariant-loop-k
invariant-loop-k l = (d : ℕ) (X Y : Dia (suc d)) (f : Arr (suc d)) → (r : HoldsEdges d X Y f l.heights l.lefts l.rights l.enters l.leaves)
    → (l.a ≡ dual l.heights l.k) × CommuteBefore d X Y f l.heights l.lefts l.rights l.enters l.leaves r l.k
