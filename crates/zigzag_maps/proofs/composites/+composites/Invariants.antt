use Rattle.std.proofs.Common.{◌≡◌, ◌+◌, ◌*◌, get_or}
use Rattle.diagram_terms.specs.Dual.{dual}
use Rattle.diagram_terms.specs.Shape.{reg_at, sing_at}
use Rattle.diagram_terms.specs.Tree.{heights}
use Rattle.hashcons.specs.Contents.{Grows, arrow_at}
use Rattle.hashcons.specs.Gathers.{Gathers}
use Rattle.diagram_terms.specs.Operations.{composite_tree}
use Rattle.zigzag_maps.proofs.composites.+composites.Given as goal

abbrev pub decreases-composite : goal.decreases-composite
decreases-composite l = 3 * l.dim + 2

abbrev pub decreases-composite_anew : goal.decreases-composite_anew
decreases-composite_anew l = 3 * l.dim + 1

abbrev pub decreases-regular_composites : goal.decreases-regular_composites
decreases-regular_composites l = 3 * l.dim

abbrev pub decreases-singular_composites : goal.decreases-singular_composites
decreases-singular_composites l = 3 * l.dim

abbrev pub invariant-regular_composites-loop-k : goal.invariant-regular_composites-loop-k
invariant-regular_composites-loop-k l = record {
  grows : Grows l.fn.store l.store;
  below : l.below ≡ dual (heights (arrow_at l.fn.store l.g)) l.k;
  gathers : Gathers l.store.arrows l.ids.items (l.k + 1)
      (λ k. composite_tree (reg_at (arrow_at l.fn.store l.g) k) (reg_at (arrow_at l.fn.store l.f) (dual (heights (arrow_at l.fn.store l.g)) k)));
}

abbrev pub invariant-singular_composites-loop-i : goal.invariant-singular_composites-loop-i
invariant-singular_composites-loop-i l = record {
  grows : Grows l.fn.store l.store;
  gathers : Gathers l.store.arrows l.ids.items l.i
      (λ i. composite_tree (sing_at (arrow_at l.fn.store l.g) (get_or (heights (arrow_at l.fn.store l.f)) i 0)) (sing_at (arrow_at l.fn.store l.f) i));
}
