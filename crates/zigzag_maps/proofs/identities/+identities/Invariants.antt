use Rattle.std.proofs.Common.{◌+◌, ◌*◌}
use Rattle.diagram_terms.specs.Shape.{reg_at, sing_at}
use Rattle.hashcons.specs.Contents.{Grows, diagram_at}
use Rattle.hashcons.specs.Gathers.{Gathers}
use Rattle.diagram_terms.specs.Operations.{identity_tree}
use Rattle.zigzag_maps.proofs.identities.+identities.Given as goal

abbrev pub decreases-identity_arrow : goal.decreases-identity_arrow
decreases-identity_arrow l = 3 * l.dim + 2

abbrev pub decreases-identity_anew : goal.decreases-identity_anew
decreases-identity_anew l = 3 * l.dim + 1

abbrev pub decreases-regular_identities : goal.decreases-regular_identities
decreases-regular_identities l = 3 * l.dim

abbrev pub decreases-singular_identities : goal.decreases-singular_identities
decreases-singular_identities l = 3 * l.dim

abbrev pub invariant-regular_identities-loop-i : goal.invariant-regular_identities-loop-i
invariant-regular_identities-loop-i l = record {
  grows : Grows l.fn.store l.store;
  gathers : Gathers l.store.arrows l.ids.items (l.i + 1) (λ j. identity_tree (reg_at (diagram_at l.fn.store l.d) j));
}

abbrev pub invariant-singular_identities-loop-i : goal.invariant-singular_identities-loop-i
invariant-singular_identities-loop-i l = record {
  grows : Grows l.fn.store l.store;
  gathers : Gathers l.store.arrows l.ids.items l.i (λ i. identity_tree (sing_at (diagram_at l.fn.store l.d) i));
}
