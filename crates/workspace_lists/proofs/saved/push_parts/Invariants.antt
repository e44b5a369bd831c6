use Rattle.std.proofs.Common.{◌≡◌, ◌++◌, take}
use Rattle.workspace_lists.specs.Roots.{part_ids}
use Rattle.workspace_lists.proofs.saved.push_parts.Given as goal

abbrev pub invariant-loop-named : goal.invariant-loop-named
invariant-loop-named l = l.ids.items ≡ l.initial.ids.items ++ part_ids (take l.named-index l.maps)
