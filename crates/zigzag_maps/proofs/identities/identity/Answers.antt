use Rattle.zigzag_maps.proofs.ValidMaps.{identity_is_valid}
use Rattle.zigzag_maps.proofs.identities.identity.Goals as goal

pub returns-clause-valid : goal.returns-clause-valid
returns-clause-valid c v =
    let made = c.in_ok-arrow.ensures in
    identity_is_valid c.args.store.now c.identity_arrow.new.store made.grows c.args.d c.in_ok-arrow.arrow v made.of_store made.tree
