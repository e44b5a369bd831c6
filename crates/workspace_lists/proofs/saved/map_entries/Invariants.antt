use Rattle.std.proofs.Common.{◌≡◌, ℕ, length, map, take}
use Rattle.hashcons.specs.declared.id.AnyId.{AnyId}
use Rattle.workspace_lists.specs.Roots.{map_entry_at, part_ids}
use Rattle.workspace_lists.proofs.saved.map_entries.Given as goal

abbrev pub invariant-loop-named : goal.invariant-loop-named
invariant-loop-named l = (l.at ≡ length (part_ids (take l.named-index l.maps)))
    × ((place : AnyId → ℕ) → l.places ≡ map place (part_ids l.maps) → l.entries.items ≡ map (map_entry_at place) (take l.named-index l.maps))
