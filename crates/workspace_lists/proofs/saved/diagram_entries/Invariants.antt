use Rattle.std.proofs.Common.{◌≡◌, ℕ, map, take}
use Rattle.hashcons.specs.declared.id.AnyId.{AnyId}
use Rattle.workspace_lists.specs.Roots.{diagram_ids, named_at}
use Rattle.workspace_lists.proofs.saved.diagram_entries.Given as goal

abbrev pub invariant-loop-i : goal.invariant-loop-i
invariant-loop-i l = (place : AnyId → ℕ) → l.places ≡ map place (diagram_ids l.diagrams)
    → l.entries.items ≡ map (named_at place) (take l.i l.diagrams)
