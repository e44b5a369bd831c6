use Rattle.std.proofs.Common.{Some, ap, ◌∙◌}
use Rattle.plain_maps.proofs.LooseTests.{leg_is_plain, leg_is_loose}
use Rattle.plain_maps.proofs.loose.leg_fault.Goals as goal

pub returns-then-branch-clause-exact : goal.returns-then-branch-clause-exact
returns-then-branch-clause-exact c = leg_is_plain _ (c.in_ok-is_plain_once.ensures.exact.0 c.if-branch.true)

pub returns-clause-exact : goal.returns-clause-exact
returns-clause-exact c =
    let plain = c.in_ok-is_plain_once.ensures.exact in
    ap Some c.place_here.ensures ∙ leg_is_loose _ (λ p. absurd (let holds = plain.1 p in cc))
