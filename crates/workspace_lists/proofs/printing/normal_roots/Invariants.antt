use Rattle.std.proofs.Common.{◌≡◌, take}
use Rattle.workspace_lists.specs.Roots.{normal_ids}
use Rattle.workspace_lists.proofs.printing.normal_roots.Given as goal

abbrev pub invariant-loop-factor : goal.invariant-loop-factor
invariant-loop-factor l = l.ids.items ≡ normal_ids l.fn.source l.fn.arrow (take l.factor-index l.factors)
