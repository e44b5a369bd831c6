use Rattle.std.proofs.Common.{◌≡◌, ℕ, suc, ◌+◌, IfOk, Option, ap, ◌∙◌, subst, arith}
use Rattle.diagram_terms.specs.declared.place.Place.{Place}
use Rattle.diagram_terms.specs.FaultsOnTrees.{tests_between}
use Rattle.diagram_terms.specs.Shape.{reg_at}
use Rattle.hashcons.specs.Contents.{Contents, diagram_at}
use Rattle.diagram_terms.specs.Places.{first_failure}
use Rattle.zigzag_maps.proofs.TestsByParts.{legs_len}
use Rattle.zigzag_maps.proofs.ValiditySteps.{bwd_leg}
use Rattle.zigzag_maps.proofs.validity.bwd_fault.Goals as goal

-- the regular slice behind a height
behind : (c : Contents) (d k r : ℕ) → diagram_at c r ≡ reg_at (diagram_at c d) (k + 1) → diagram_at c r ≡ reg_at (diagram_at c d) (suc k)
behind c d k r e = let n : k + 1 ≡ suc k = omega arith in e ∙ ap (reg_at (diagram_at c d)) n

pub bwd-requires-clause-within : goal.bwd-requires-clause-within
bwd-requires-clause-within c =
    let n = legs_len c.args.dim _ c.requires.above c.requires.diagram.shape in
    omega (arith, n.1)

pub map_fault-requires-clause-map : goal.map_fault-requires-clause-map
map_fault-requires-clause-map c =
    bwd_leg c.args.store.now c.args.d (record { source = c.reg.result; target = c.sing.result; arrow = c.bwd.result }) c.reg.ensures.of_store c.sing.ensures.of_store c.bwd.ensures.of_store
    c.args.dim c.args.k c.requires.above c.requires.diagram c.requires.parts c.requires.within (behind c.args.store.now c.args.d c.args.k c.reg.result c.reg.ensures.tree) c.sing.ensures.tree c.bwd.ensures.tree

pub returns-clause-exact : goal.returns-clause-exact
returns-clause-exact c =
    subst (λ (x : Option Place). IfOk c.map_fault.result (λ found. found ≡ x))
    (λ i. first_failure (tests_between (behind c.args.store.now c.args.d c.args.k c.reg.result c.reg.ensures.tree i) (c.sing.ensures.tree i) (c.bwd.ensures.tree i))) c.map_fault.ensures.exact

pub overflow_add-k : goal.overflow_add-k
overflow_add-k c = let l = c.length.ensures.length in omega arith
