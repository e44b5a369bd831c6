use Rattle.std.proofs.Common.{ℕ, ◌+◌, ◌*◌, ◌<◌}
use Rattle.diagram_terms.specs.Shape.{sing_at}
use Rattle.hashcons.specs.Contents.{arrow_at}
use Rattle.plain_maps.specs.PlainKeeps.{ArePlain}
use Rattle.plain_maps.specs.Plainness.{IsPlainTree}
use Rattle.plain_maps.proofs.plain_arrows.+plain_parts.Given as goal

abbrev pub decreases-is_plain_once : goal.decreases-is_plain_once
decreases-is_plain_once l = 3 * l.dim + 2

abbrev pub decreases-has_plain_parts : goal.decreases-has_plain_parts
decreases-has_plain_parts l = 3 * l.dim + 1

abbrev pub decreases-sings_are_plain : goal.decreases-sings_are_plain
decreases-sings_are_plain l = 3 * l.dim

abbrev pub invariant-sings_are_plain-loop-i : goal.invariant-sings_are_plain-loop-i
invariant-sings_are_plain-loop-i l = record {
  kept : ArePlain l.store l.kept;
  passed : (i : ℕ) → i < l.i → IsPlainTree (sing_at (arrow_at l.store l.a) i);
}
