use Rattle.std.proofs.Common.{◌≡◌, IfOk, Option, subst, arith}
use Rattle.diagram_terms.specs.declared.place.Place.{Place}
use Rattle.diagram_terms.specs.FaultsOnTrees.{tests_between}
use Rattle.diagram_terms.specs.Places.{first_failure}
use Rattle.zigzag_maps.proofs.TestsByParts.{legs_len}
use Rattle.zigzag_maps.proofs.ValiditySteps.{fwd_leg}
use Rattle.zigzag_maps.proofs.validity.fwd_fault.Goals as goal

pub fwd-requires-clause-within : goal.fwd-requires-clause-within
fwd-requires-clause-within c =
    let n = legs_len c.args.dim _ c.requires.above c.requires.diagram.shape in
    omega (arith, n.0)

pub map_fault-requires-clause-map : goal.map_fault-requires-clause-map
map_fault-requires-clause-map c =
    fwd_leg c.args.store.now c.args.d (record { source = c.reg.result; target = c.sing.result; arrow = c.fwd.result }) c.reg.ensures.of_store c.sing.ensures.of_store c.fwd.ensures.of_store
    c.args.dim c.args.k c.requires.above c.requires.diagram c.requires.parts c.requires.within c.reg.ensures.tree c.sing.ensures.tree c.fwd.ensures.tree

pub returns-clause-exact : goal.returns-clause-exact
returns-clause-exact c =
    subst (λ (x : Option Place). IfOk c.map_fault.result (λ found. found ≡ x))
    (λ i. first_failure (tests_between (c.reg.ensures.tree i) (c.sing.ensures.tree i) (c.fwd.ensures.tree i))) c.map_fault.ensures.exact
