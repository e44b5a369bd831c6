use Rattle.std.proofs.Common.{refl, arith}
use Rattle.session_state.proofs.StateGrowth.{grown_state, grown_stays}
use Rattle.session_undo.proofs.BroughtMaps.{is_arrow, is_diagram}
use Rattle.session_undo.proofs.maps.put_brought.Goals as goal

pub returns-in_err-ids-clause-state : goal.returns-in_err-ids-clause-state
returns-in_err-ids-clause-state c = grown_state c.args.state.now c.put_nodes.new.self c.args.state.now.signature c.put_nodes.ensures.grows refl (omega arith) c.requires.state

pub returns-in_err-ids-clause-stays : goal.returns-in_err-ids-clause-stays
returns-in_err-ids-clause-stays c = grown_stays c.args.state.now c.put_nodes.new.self c.args.state.now.signature c.put_nodes.ensures.grows refl (omega arith) c.requires.state

pub diagram_of-requires : goal.diagram_of-requires
diagram_of-requires c =
    let new = c.put_nodes.new.self in
    is_diagram c.args.nodes.now c.requires.brought.nodes_are new c.in_ok-ids.ids.items c.in_ok-ids.ensures.ids (c.put_nodes.ensures.grows.store c.allocator-allocator.ensures)
    c.args.source c.requires.brought.source_is c.index.result.now c.index.ensures

pub diagram_of-requires-2 : goal.diagram_of-requires-2
diagram_of-requires-2 c =
    let new = c.put_nodes.new.self in
    is_diagram c.args.nodes.now c.requires.brought.nodes_are new c.in_ok-ids.ids.items c.in_ok-ids.ensures.ids (c.put_nodes.ensures.grows.store c.allocator-allocator.ensures)
    c.args.target c.requires.brought.target_is c.index-2.result.now c.index-2.ensures

pub arrow_of-requires : goal.arrow_of-requires
arrow_of-requires c =
    let new = c.put_nodes.new.self in
    is_arrow c.args.nodes.now c.requires.brought.nodes_are new c.in_ok-ids.ids.items c.in_ok-ids.ensures.ids (c.put_nodes.ensures.grows.store c.allocator-allocator.ensures)
    c.args.arrow c.requires.brought.arrow_is c.index-3.result.now c.index-3.ensures

pub returns-clause-state : goal.returns-clause-state
returns-clause-state c = grown_state c.args.state.now c.put_nodes.new.self c.args.state.now.signature c.put_nodes.ensures.grows refl (omega arith) c.requires.state

pub returns-clause-stays : goal.returns-clause-stays
returns-clause-stays c = grown_stays c.args.state.now c.put_nodes.new.self c.args.state.now.signature c.put_nodes.ensures.grows refl (omega arith) c.requires.state
