use Rattle.std.proofs.Common.{sym, ◌∙◌}
use Rattle.zigzag_maps.proofs.FaultSteps.{map_at_from}
use Rattle.zigzag_maps.proofs.Verdicts.{yes_is_valid_map, valid_map-dims, fault_is_not_valid}
use Rattle.zigzag_maps.proofs.faults.squares.Goals as goal
use Rattle.zigzag_maps.proofs.faults.squares.Goals.{then-source_dim-dim-via-then-source_dim-dim, then-source_dim-dim-via-else-source_dim-dim+then-target_dim-dim}

pub map_fault-requires-clause-map : goal.map_fault-requires-clause-map
map_fault-requires-clause-map c =
    map_at_from c.args.store.now c.dim-dim.result c.args.f c.dim-dim.ensures.store c.requires.source c.requires.target c.requires.arrow (sym c.dim-dim.ensures.dim)
    (sym c.dim-source_dim.ensures.dim ∙ c.if-source_dim-dim.false) (sym c.dim-target_dim.ensures.dim ∙ c.if-target_dim-dim.false)

pub returns-then-source_dim-dim-clause-yes : goal.returns-then-source_dim-dim-clause-yes
returns-then-source_dim-dim-clause-yes c =
    fault_is_not_valid c.args.store.now c.args.f c.place_here.result (λ v.
    let dims = valid_map-dims c.args.store.now c.args.f v in
    elim c.then-source_dim-dim.branch [
      | then-source_dim-dim-via-then-source_dim-dim w ↦ w.if-source_dim-dim.true (c.dim-source_dim.ensures.dim ∙ dims.0 ∙ sym c.dim-dim.ensures.dim)
      | then-source_dim-dim-via-else-source_dim-dim+then-target_dim-dim w ↦ w.if-target_dim-dim.true (c.dim-target_dim.ensures.dim ∙ dims.1 ∙ sym c.dim-dim.ensures.dim)
    ])

pub returns-clause-yes : goal.returns-clause-yes
returns-clause-yes c =
    yes_is_valid_map c.args.store.now c.map_fault.new.store c.dim-dim.result c.args.f c.outcome_of.result c.in_ok-found.ensures.grows
    (map_at_from c.args.store.now c.dim-dim.result c.args.f c.dim-dim.ensures.store c.requires.source c.requires.target c.requires.arrow (sym c.dim-dim.ensures.dim)
    (sym c.dim-source_dim.ensures.dim ∙ c.if-source_dim-dim.false) (sym c.dim-target_dim.ensures.dim ∙ c.if-target_dim-dim.false))
    (c.outcome_of.ensures ∙ c.in_ok-found.ensures.exact)
