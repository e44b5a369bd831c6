use Rattle.std.proofs.Common.{◌≡◌, ℕ, length, map, take}
use Rattle.hashcons.specs.declared.id.AnyId.{AnyId}
use Rattle.workspace_lists.specs.Roots.{end_ids, generator_at}
use Rattle.workspace_lists.proofs.saved.generator_entries.Given as goal

abbrev pub invariant-loop-generator : goal.invariant-loop-generator
invariant-loop-generator l = (l.at ≡ length (end_ids (take l.generator-index l.generators)))
    × ((place : AnyId → ℕ) → l.places ≡ map place (end_ids l.generators)
    → l.entries.items ≡ map (generator_at place) (take l.generator-index l.generators))
