use Rattle.std.proofs.Common.{ℕ, ◌+◌, ◌*◌, ◌<◌, IfSome}
use Rattle.diagram_terms.specs.Shape.{sing_at}
use Rattle.hashcons.specs.Contents.{arrow_at}
use Rattle.plain_maps.specs.Plainness.{IsPlainTree}
use Rattle.plain_maps.proofs.plainness.+plain_parts.Given as goal

abbrev pub decreases-is_plain : goal.decreases-is_plain
decreases-is_plain l = 2 * l.dim + 1

abbrev pub decreases-sings_are_plain : goal.decreases-sings_are_plain
decreases-sings_are_plain l = 2 * l.dim

abbrev pub invariant-sings_are_plain-loop-i : goal.invariant-sings_are_plain-loop-i
invariant-sings_are_plain-loop-i l = record {
  before : IfSome l.before (λ s. IsPlainTree (arrow_at l.store s));
  passed : (i : ℕ) → i < l.i → IsPlainTree (sing_at (arrow_at l.store l.a) i);
}
