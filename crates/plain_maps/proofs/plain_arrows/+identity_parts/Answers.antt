use Rattle.std.proofs.Common.{length, IsTrue, ◌↔◌, false, refl, rules, arith}
use Rattle.std.proofs.lemmas.Result.{IfOk-weaker}
use Rattle.diagram_terms.specs.Tree.{sings}
use Rattle.diagram_terms.specs.Shape.{sing_at}
use Rattle.hashcons.specs.declared.id.AnyId.TheVariants as id
use Rattle.hashcons.specs.Contents.{arrow_at}
use Rattle.found_ids.proofs.FoundStays.{one_more_found}
use Rattle.plain_maps.specs.Plainness.{IsIdentityTree, HasIdentitySings}
use Rattle.plain_maps.proofs.PlainSlices.{identity_decides, identity_heights_fail, identity_regs_fail, sings_len, arrow_reg_slice, arrow_sing_slice, one_fails, all_pass}
use Rattle.plain_maps.proofs.plain_arrows.+identity_parts.Goals as goal

pub has_identity_parts-returns-then-not-has_identity_heights-clause-exact : goal.has_identity_parts-returns-then-not-has_identity_heights-clause-exact
has_identity_parts-returns-then-not-has_identity_heights-clause-exact t c =
    identity_heights_fail _ c.requires.arrow.shape (omega arith) c.has_identity_heights.result false c.has_identity_heights.ensures c.if-not-has_identity_heights.true refl

pub has_identity_parts-returns-then-not-branch-clause-exact : goal.has_identity_parts-returns-then-not-branch-clause-exact
has_identity_parts-returns-then-not-branch-clause-exact t c =
    let regs = c.in_ok-regs_are_identities in
    identity_regs_fail _ c.requires.arrow.shape (omega arith) regs.field-0 false regs.ensures.exact c.if-not-branch.true refl

pub has_identity_parts-returns-clause-exact : goal.has_identity_parts-returns-clause-exact
has_identity_parts-returns-clause-exact t c =
    let u = arrow_at c.args.store.now c.args.a in
    let heights = c.has_identity_heights.ensures.0 c.if-not-has_identity_heights.false in
    let regs = c.in_ok-regs_are_identities.ensures.exact.0 c.if-not-branch.false in
    IfOk-weaker c.sings_are_identities.result (λ r. IsTrue r ↔ HasIdentitySings u) (λ r. IsTrue r ↔ IsIdentityTree u)
    (λ r decides. identity_decides u c.requires.arrow.shape (omega arith) r heights regs decides) c.sings_are_identities.ensures.exact

-- ---- regular slices

pub regs_are_identities-is_identity_once-requires : goal.regs_are_identities-is_identity_once-requires
regs_are_identities-is_identity_once-requires t c = (
  search rules,
  (
    arrow_reg_slice c.args.store.now c.args.dim c.args.a c.arrow_reg-slice.result c.requires.arrow c.requires.above c.arrow_reg-slice.ensures.of_store
        c.loop-j.j (omega arith) c.arrow_reg-slice.ensures.tree,
    (c.loop-j.invariant.kept, c.requires.store),
  ),
)

pub regs_are_identities-is_identity_once-requires-2 : goal.regs_are_identities-is_identity_once-requires-2
regs_are_identities-is_identity_once-requires-2 t c = (
  search rules,
  (
    arrow_reg_slice c.args.store.now c.args.dim c.args.a c.arrow_reg-slice-2.result c.requires.arrow c.requires.above c.arrow_reg-slice-2.ensures.of_store
        c.target_len-last.result (omega arith) c.arrow_reg-slice-2.ensures.tree,
    (c.loop-j.invariant.kept, c.requires.store),
  ),
)

-- ---- singular slices

pub sings_are_identities-arrow_sing-slice-requires-clause-within : goal.sings_are_identities-arrow_sing-slice-requires-clause-within
sings_are_identities-arrow_sing-slice-requires-clause-within t c =
    let len = sings_len _ _ _ c.requires.arrow c.requires.above in
    omega arith

pub sings_are_identities-is_identity_once-requires : goal.sings_are_identities-is_identity_once-requires
sings_are_identities-is_identity_once-requires t c =
    let len = sings_len _ _ _ c.requires.arrow c.requires.above in (
      search rules,
      (
        arrow_sing_slice c.args.store.now c.args.dim c.args.a c.arrow_sing-slice.result c.requires.arrow c.requires.above c.arrow_sing-slice.ensures.of_store
            c.loop-i.i (omega arith) c.arrow_sing-slice.ensures.tree,
        (c.loop-i.invariant.kept, c.requires.store),
      ),
    )

pub sings_are_identities-returns-then-not-branch-clause-exact : goal.sings_are_identities-returns-then-not-branch-clause-exact
sings_are_identities-returns-then-not-branch-clause-exact t c =
    let len = sings_len _ _ _ c.requires.arrow c.requires.above in
    let u = arrow_at c.args.store.now c.args.a in
    let found = c.in_ok-is_identity_once in
    one_fails IsIdentityTree (sing_at u) (length (sings u)) c.loop-i.i _ found.field-0 (omega arith) c.arrow_sing-slice.ensures.tree found.ensures.exact c.if-not-branch.true

pub sings_are_identities-returns-clause-exact : goal.sings_are_identities-returns-clause-exact
sings_are_identities-returns-clause-exact t c =
    let len = sings_len _ _ _ c.requires.arrow c.requires.above in
    let u = arrow_at c.args.store.now c.args.a in
    all_pass IsIdentityTree (sing_at u) (length (sings u)) (λ i l. c.loop-i.invariant.passed i (omega arith))

-- ---- an arrow, looked at once

pub is_identity_once-returns-then-has-clause-exact : goal.is_identity_once-returns-then-has-clause-exact
is_identity_once-returns-then-has-clause-exact t c = (λ yes. c.requires.kept.identities.are (id.Arrow c.args.a) (c.has.ensures.0 c.if-has.true), λ p. refl)

pub is_identity_once-returns-in_err-keep-clause-kept : goal.is_identity_once-returns-in_err-keep-clause-kept
is_identity_once-returns-in_err-keep-clause-kept t c =
    let made = c.in_ok-has_identity_parts.ensures in
    record {
      arrows = made.kept.arrows;
      identities = one_more_found _ IsIdentityTree _ _ _ made.kept.identities c.keep.ensures.others c.requires.arrow.of_store (made.exact.0 c.if-not-branch.false);
      passed = made.kept.passed;
    }

pub is_identity_once-returns-clause-kept : goal.is_identity_once-returns-clause-kept
is_identity_once-returns-clause-kept t c =
    let made = c.in_ok-has_identity_parts.ensures in
    record {
      arrows = made.kept.arrows;
      identities = one_more_found _ IsIdentityTree _ _ _ made.kept.identities c.keep.ensures.others c.requires.arrow.of_store (made.exact.0 c.if-not-branch.false);
      passed = made.kept.passed;
    }
