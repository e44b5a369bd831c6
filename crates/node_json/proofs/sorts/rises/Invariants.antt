use Rattle.std.proofs.Common.{◌≡◌, drop}
use Rattle.diagram_terms.specs.Nodes.{rises_from}
use Rattle.node_json.proofs.sorts.rises.Given as goal

-- what is left to test decides
abbrev pub invariant-loop-height : goal.invariant-loop-height
invariant-loop-height l = rises_from l.low l.limit (drop l.height-index l.heights) ≡ rises_from 0 l.limit l.heights
