use Rattle.std.proofs.Common.{◌+◌, length, false, refl, rules, arith}
use Rattle.diagram_terms.specs.Tree.{regs, sings}
use Rattle.diagram_terms.specs.Shape.{reg_at, sing_at}
use Rattle.hashcons.specs.Contents.{arrow_at}
use Rattle.plain_maps.specs.Plainness.{IsIdentityTree}
use Rattle.plain_maps.proofs.PlainSlices.{identity_decides, identity_heights_fail, identity_regs_fail, sings_len, has_reg, arrow_reg_slice, arrow_sing_slice, one_fails, all_pass}
use Rattle.plain_maps.proofs.plainness.+identity_parts.Goals as goal

pub is_identity-returns-then-not-has_identity_heights : goal.is_identity-returns-then-not-has_identity_heights
is_identity-returns-then-not-has_identity_heights t c =
    identity_heights_fail _ c.requires.arrow.shape (omega arith) c.has_identity_heights.result false c.has_identity_heights.ensures c.if-not-has_identity_heights.true refl

pub is_identity-returns-then-regs_are_identities : goal.is_identity-returns-then-regs_are_identities
is_identity-returns-then-regs_are_identities t c =
    let heights = c.has_identity_heights.ensures.0 c.if-not-has_identity_heights.false in
    let regs = c.regs_are_identities.ensures.0 c.if-regs_are_identities.true in
    identity_decides _ c.requires.arrow.shape (omega arith) c.sings_are_identities.result heights regs c.sings_are_identities.ensures

pub is_identity-returns-else-regs_are_identities : goal.is_identity-returns-else-regs_are_identities
is_identity-returns-else-regs_are_identities t c =
    identity_regs_fail _ c.requires.arrow.shape (omega arith) c.regs_are_identities.result c.regs_are_identities.result c.regs_are_identities.ensures c.if-regs_are_identities.false c.if-regs_are_identities.false

-- ---- regular slices

pub regs_are_identities-is_identity-requires : goal.regs_are_identities-is_identity-requires
regs_are_identities-is_identity-requires t c = (
  search rules,
  (
    arrow_reg_slice c.args.store.now c.args.dim c.args.a c.arrow_reg-before.result c.requires.arrow c.requires.above c.arrow_reg-before.ensures.of_store
        0 (has_reg _ _ _ c.requires.arrow c.requires.above) c.arrow_reg-before.ensures.tree,
    c.requires.store,
  ),
)

pub regs_are_identities-returns-then-not-is_identity : goal.regs_are_identities-returns-then-not-is_identity
regs_are_identities-returns-then-not-is_identity t c =
    let u = arrow_at c.args.store.now c.args.a in
    one_fails IsIdentityTree (reg_at u) (length (regs u)) 0 _ c.is_identity.result (has_reg _ _ _ c.requires.arrow c.requires.above) c.arrow_reg-before.ensures.tree c.is_identity.ensures c.if-not-is_identity.true

pub regs_are_identities-is_identity-requires-then-ne : goal.regs_are_identities-is_identity-requires-then-ne
regs_are_identities-is_identity-requires-then-ne t c = (
  search rules,
  (
    arrow_reg_slice c.args.store.now c.args.dim c.args.a c.arrow_reg-slice.result c.requires.arrow c.requires.above c.arrow_reg-slice.ensures.of_store
        (c.loop-j.j + 1) (omega arith) c.arrow_reg-slice.ensures.tree,
    c.requires.store,
  ),
)

-- ---- singular slices

pub sings_are_identities-arrow_sing-slice-requires-clause-within : goal.sings_are_identities-arrow_sing-slice-requires-clause-within
sings_are_identities-arrow_sing-slice-requires-clause-within t c =
    let len = sings_len _ _ _ c.requires.arrow c.requires.above in
    omega arith

pub sings_are_identities-is_identity-requires : goal.sings_are_identities-is_identity-requires
sings_are_identities-is_identity-requires t c =
    let len = sings_len _ _ _ c.requires.arrow c.requires.above in (
      search rules,
      (
        arrow_sing_slice c.args.store.now c.args.dim c.args.a c.arrow_sing-slice.result c.requires.arrow c.requires.above c.arrow_sing-slice.ensures.of_store
            c.loop-i.i (omega arith) c.arrow_sing-slice.ensures.tree,
        c.requires.store,
      ),
    )

pub sings_are_identities-returns-then-not-is_identity : goal.sings_are_identities-returns-then-not-is_identity
sings_are_identities-returns-then-not-is_identity t c =
    let len = sings_len _ _ _ c.requires.arrow c.requires.above in
    let u = arrow_at c.args.store.now c.args.a in
    one_fails IsIdentityTree (sing_at u) (length (sings u)) c.loop-i.i _ c.is_identity.result (omega arith) c.arrow_sing-slice.ensures.tree c.is_identity.ensures c.if-not-is_identity.true

pub sings_are_identities-returns : goal.sings_are_identities-returns
sings_are_identities-returns t c =
    let len = sings_len _ _ _ c.requires.arrow c.requires.above in
    let u = arrow_at c.args.store.now c.args.a in
    all_pass IsIdentityTree (sing_at u) (length (sings u)) (λ i l. c.loop-i.invariant.passed i (omega arith))
