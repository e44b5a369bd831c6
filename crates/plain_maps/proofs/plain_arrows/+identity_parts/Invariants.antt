use Rattle.std.proofs.Common.{ℕ, ◌+◌, ◌*◌, ◌<◌}
use Rattle.diagram_terms.specs.Shape.{reg_at, sing_at}
use Rattle.hashcons.specs.Contents.{arrow_at}
use Rattle.plain_maps.specs.PlainKeeps.{ArePlain}
use Rattle.plain_maps.specs.Plainness.{IsIdentityTree}
use Rattle.plain_maps.proofs.plain_arrows.+identity_parts.Given as goal

abbrev pub decreases-is_identity_once : goal.decreases-is_identity_once
decreases-is_identity_once l = 3 * l.dim + 2

abbrev pub decreases-has_identity_parts : goal.decreases-has_identity_parts
decreases-has_identity_parts l = 3 * l.dim + 1

abbrev pub decreases-regs_are_identities : goal.decreases-regs_are_identities
decreases-regs_are_identities l = 3 * l.dim

abbrev pub decreases-sings_are_identities : goal.decreases-sings_are_identities
decreases-sings_are_identities l = 3 * l.dim

abbrev pub invariant-regs_are_identities-loop-j : goal.invariant-regs_are_identities-loop-j
invariant-regs_are_identities-loop-j l = record {
  kept : ArePlain l.store l.kept;
  passed : (j : ℕ) → j < l.j → IsIdentityTree (reg_at (arrow_at l.store l.a) j);
}

abbrev pub invariant-sings_are_identities-loop-i : goal.invariant-sings_are_identities-loop-i
invariant-sings_are_identities-loop-i l = record {
  kept : ArePlain l.store l.kept;
  passed : (i : ℕ) → i < l.i → IsIdentityTree (sing_at (arrow_at l.store l.a) i);
}
