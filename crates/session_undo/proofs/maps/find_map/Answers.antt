use Rattle.std.proofs.Common.{sym}
use Rattle.session_state.specs.States.{present_of}
use Rattle.session_undo.proofs.StoredMaps.{map_rule, valid_of}
use Rattle.session_undo.proofs.maps.find_map.Goals as goal

pub returns-clause-valid : goal.returns-clause-valid
returns-clause-valid c =
    let s = c.args.state.now in
    valid_of s.store c.in-Some.map _ (map_rule (present_of s).maps _ _ c.requires.history.present.rule.valid (sym c.in-Some.ensures.map)) c.in-Some.ensures.of_store
