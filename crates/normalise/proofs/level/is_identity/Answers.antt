use Rattle.std.proofs.Common.{◌∙◌}
use Rattle.normalise.proofs.FormsInStore.{identity_told}
use Rattle.normalise.proofs.level.is_identity.Goals as goal

pub returns-clause-exact : goal.returns-clause-exact
returns-clause-exact c =
    let made = c.in_ok-made.ensures.made in
    c.eq.ensures ∙ identity_told c.args.store.now c.identity.new.store c.args.source c.args.arrow c.in_ok-made.made.arrow
    made.grows (made.grows.store c.requires.store) c.requires.out made.of_store made.tree
