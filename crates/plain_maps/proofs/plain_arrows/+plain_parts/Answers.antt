use Rattle.std.proofs.Common.{length, IsTrue, ◌↔◌, false, refl, rules, arith}
use Rattle.std.proofs.lemmas.Result.{IfOk-weaker}
use Rattle.diagram_terms.specs.Tree.{sings}
use Rattle.diagram_terms.specs.Shape.{sing_at}
use Rattle.hashcons.specs.declared.id.AnyId.TheVariants as id
use Rattle.hashcons.specs.Contents.{arrow_at}
use Rattle.found_ids.proofs.FoundStays.{one_more_found}
use Rattle.plain_maps.specs.Plainness.{IsPlainTree, HasPlainSings}
use Rattle.plain_maps.proofs.PlainSlices.{plain_zero, plain_decides, plain_regs_fail, sings_len, arrow_sing_slice, one_fails, all_pass}
use Rattle.plain_maps.proofs.plain_arrows.+plain_parts.Goals as goal

pub has_plain_parts-returns-then-dim-eq0-clause-exact : goal.has_plain_parts-returns-then-dim-eq0-clause-exact
has_plain_parts-returns-then-dim-eq0-clause-exact t c = (λ yes. plain_zero _ (omega arith), λ p. refl)

pub has_plain_parts-returns-then-not-branch-clause-exact : goal.has_plain_parts-returns-then-not-branch-clause-exact
has_plain_parts-returns-then-not-branch-clause-exact t c =
    let regs = c.in_ok-regs_are_identities in
    plain_regs_fail _ c.requires.arrow.shape (omega arith) regs.field-0 false regs.ensures.exact c.if-not-branch.true refl

pub has_plain_parts-returns-clause-exact : goal.has_plain_parts-returns-clause-exact
has_plain_parts-returns-clause-exact t c =
    let u = arrow_at c.args.store.now c.args.a in
    let regs = c.in_ok-regs_are_identities.ensures.exact.0 c.if-not-branch.false in
    IfOk-weaker c.sings_are_plain.result (λ r. IsTrue r ↔ HasPlainSings u) (λ r. IsTrue r ↔ IsPlainTree u)
    (λ r decides. plain_decides u c.requires.arrow.shape (omega arith) r regs decides) c.sings_are_plain.ensures.exact

pub sings_are_plain-arrow_sing-slice-requires-clause-within : goal.sings_are_plain-arrow_sing-slice-requires-clause-within
sings_are_plain-arrow_sing-slice-requires-clause-within t c =
    let len = sings_len _ _ _ c.requires.arrow c.requires.above in
    omega arith

pub sings_are_plain-is_plain_once-requires : goal.sings_are_plain-is_plain_once-requires
sings_are_plain-is_plain_once-requires t c =
    let len = sings_len _ _ _ c.requires.arrow c.requires.above in (
      search rules,
      (
        arrow_sing_slice c.args.store.now c.args.dim c.args.a c.arrow_sing-slice.result c.requires.arrow c.requires.above c.arrow_sing-slice.ensures.of_store
            c.loop-i.i (omega arith) c.arrow_sing-slice.ensures.tree,
        (c.loop-i.invariant.kept, c.requires.store),
      ),
    )

pub sings_are_plain-returns-then-not-branch-clause-exact : goal.sings_are_plain-returns-then-not-branch-clause-exact
sings_are_plain-returns-then-not-branch-clause-exact t c =
    let len = sings_len _ _ _ c.requires.arrow c.requires.above in
    let u = arrow_at c.args.store.now c.args.a in
    let found = c.in_ok-is_plain_once in
    one_fails IsPlainTree (sing_at u) (length (sings u)) c.loop-i.i _ found.field-0 (omega arith) c.arrow_sing-slice.ensures.tree found.ensures.exact c.if-not-branch.true

pub sings_are_plain-returns-clause-exact : goal.sings_are_plain-returns-clause-exact
sings_are_plain-returns-clause-exact t c =
    let len = sings_len _ _ _ c.requires.arrow c.requires.above in
    let u = arrow_at c.args.store.now c.args.a in
    all_pass IsPlainTree (sing_at u) (length (sings u)) (λ i l. c.loop-i.invariant.passed i (omega arith))

pub is_plain_once-returns-then-has-clause-exact : goal.is_plain_once-returns-then-has-clause-exact
is_plain_once-returns-then-has-clause-exact t c = (λ yes. c.requires.kept.arrows.are (id.Arrow c.args.a) (c.has.ensures.0 c.if-has.true), λ p. refl)

pub is_plain_once-returns-in_err-keep-clause-kept : goal.is_plain_once-returns-in_err-keep-clause-kept
is_plain_once-returns-in_err-keep-clause-kept t c =
    let made = c.in_ok-has_plain_parts.ensures in
    record {
      arrows = one_more_found _ IsPlainTree _ _ _ made.kept.arrows c.keep.ensures.others c.requires.arrow.of_store (made.exact.0 c.if-not-branch.false);
      identities = made.kept.identities;
      passed = made.kept.passed;
    }

pub is_plain_once-returns-clause-kept : goal.is_plain_once-returns-clause-kept
is_plain_once-returns-clause-kept t c =
    let made = c.in_ok-has_plain_parts.ensures in
    record {
      arrows = one_more_found _ IsPlainTree _ _ _ made.kept.arrows c.keep.ensures.others c.requires.arrow.of_store (made.exact.0 c.if-not-branch.false);
      identities = made.kept.identities;
      passed = made.kept.passed;
    }
