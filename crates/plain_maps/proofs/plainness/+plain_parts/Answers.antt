use Rattle.std.proofs.Common.{length, refl, rules, arith}
use Rattle.diagram_terms.specs.Tree.{sings}
use Rattle.diagram_terms.specs.Shape.{sing_at}
use Rattle.hashcons.specs.Contents.{arrow_at}
use Rattle.plain_maps.specs.Plainness.{IsPlainTree}
use Rattle.plain_maps.proofs.PlainSlices.{plain_zero, plain_decides, plain_regs_fail, sings_len, arrow_sing_slice, one_fails, all_pass}
use Rattle.plain_maps.proofs.plainness.+plain_parts.Goals as goal

pub is_plain-returns-then-dim-eq0 : goal.is_plain-returns-then-dim-eq0
is_plain-returns-then-dim-eq0 t c = (λ yes. plain_zero _ (omega arith), λ p. refl)

pub is_plain-returns-then-regs_are_identities : goal.is_plain-returns-then-regs_are_identities
is_plain-returns-then-regs_are_identities t c =
    let regs = c.regs_are_identities.ensures.0 c.if-regs_are_identities.true in
    plain_decides _ c.requires.arrow.shape (omega arith) c.sings_are_plain.result regs c.sings_are_plain.ensures

pub is_plain-returns-else-regs_are_identities : goal.is_plain-returns-else-regs_are_identities
is_plain-returns-else-regs_are_identities t c =
    plain_regs_fail _ c.requires.arrow.shape (omega arith) c.regs_are_identities.result c.regs_are_identities.result c.regs_are_identities.ensures c.if-regs_are_identities.false c.if-regs_are_identities.false

pub sings_are_plain-arrow_sing-slice-requires-clause-within : goal.sings_are_plain-arrow_sing-slice-requires-clause-within
sings_are_plain-arrow_sing-slice-requires-clause-within t c =
    let len = sings_len _ _ _ c.requires.arrow c.requires.above in
    omega arith

pub sings_are_plain-is_plain-requires : goal.sings_are_plain-is_plain-requires
sings_are_plain-is_plain-requires t c =
    let len = sings_len _ _ _ c.requires.arrow c.requires.above in (
      search rules,
      (
        arrow_sing_slice c.args.store.now c.args.dim c.args.a c.arrow_sing-slice.result c.requires.arrow c.requires.above c.arrow_sing-slice.ensures.of_store
            c.loop-i.i (omega arith) c.arrow_sing-slice.ensures.tree,
        c.requires.store,
      ),
    )

pub sings_are_plain-returns-then-not-is_plain : goal.sings_are_plain-returns-then-not-is_plain
sings_are_plain-returns-then-not-is_plain t c =
    let len = sings_len _ _ _ c.requires.arrow c.requires.above in
    let u = arrow_at c.args.store.now c.args.a in
    one_fails IsPlainTree (sing_at u) (length (sings u)) c.loop-i.i _ c.is_plain.result (omega arith) c.arrow_sing-slice.ensures.tree c.is_plain.ensures c.if-not-is_plain.true

pub sings_are_plain-returns : goal.sings_are_plain-returns
sings_are_plain-returns t c =
    let len = sings_len _ _ _ c.requires.arrow c.requires.above in
    let u = arrow_at c.args.store.now c.args.a in
    all_pass IsPlainTree (sing_at u) (length (sings u)) (λ i l. c.loop-i.invariant.passed i (omega arith))
