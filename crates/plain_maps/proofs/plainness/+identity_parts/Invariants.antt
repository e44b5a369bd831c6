use Rattle.std.proofs.Common.{ℕ, ◌+◌, ◌*◌, ◌<◌, ◌≤◌, IfSome}
use Rattle.diagram_terms.specs.Shape.{reg_at, sing_at}
use Rattle.hashcons.specs.Contents.{arrow_at}
use Rattle.plain_maps.specs.Plainness.{IsIdentityTree}
use Rattle.plain_maps.proofs.plainness.+identity_parts.Given as goal

abbrev pub decreases-is_identity : goal.decreases-is_identity
decreases-is_identity l = 2 * l.dim + 1

abbrev pub decreases-regs_are_identities : goal.decreases-regs_are_identities
decreases-regs_are_identities l = 2 * l.dim

abbrev pub decreases-sings_are_identities : goal.decreases-sings_are_identities
decreases-sings_are_identities l = 2 * l.dim

abbrev pub invariant-regs_are_identities-loop-j : goal.invariant-regs_are_identities-loop-j
invariant-regs_are_identities-loop-j l = record {
  before : IsIdentityTree (arrow_at l.store l.before);
  passed : (j : ℕ) → j ≤ l.j → IsIdentityTree (reg_at (arrow_at l.store l.a) j);
}

abbrev pub invariant-sings_are_identities-loop-i : goal.invariant-sings_are_identities-loop-i
invariant-sings_are_identities-loop-i l = record {
  before : IfSome l.before (λ s. IsIdentityTree (arrow_at l.store s));
  passed : (i : ℕ) → i < l.i → IsIdentityTree (sing_at (arrow_at l.store l.a) i);
}
