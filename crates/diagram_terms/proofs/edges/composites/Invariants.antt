use Rattle.std.proofs.Common.{ℕ}
use Rattle.diagram_terms.specs.Composite.{comp}
use Rattle.diagram_terms.specs.Edges.{AreEdges, HoldsPairs}
use Rattle.diagram_terms.specs.Family.{Arr}
use Rattle.diagram_terms.proofs.edges.composites.Given as goal

abbrev pub invariant-loop-k : goal.invariant-loop-k
invariant-loop-k l = (d : ℕ) (g f : ℕ → Arr d) → HoldsPairs d g f l.second l.first → AreEdges d (λ i. comp d (g i) (f i)) l.k l.made.items
