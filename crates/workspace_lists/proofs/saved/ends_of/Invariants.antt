use Rattle.std.proofs.Common.{◌≡◌, take}
use Rattle.workspace_lists.specs.Roots.{end_ids}
use Rattle.workspace_lists.proofs.saved.ends_of.Given as goal

abbrev pub invariant-loop-generator : goal.invariant-loop-generator
invariant-loop-generator l = l.ends.items ≡ end_ids (take l.generator-index l.generators)
