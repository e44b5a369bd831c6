use Rattle.std.proofs.Common.{◌+◌, ◌*◌}
use Rattle.hashcons.specs.Contents.{Grows, diagram_at}
use Rattle.hashcons.specs.Gathers.{Gathers}
use Rattle.normalise.specs.FormTrees.{reg_normal}
use Rattle.normalise.specs.StoreForms.{IsLeftOf, legs_of}
use Rattle.normalise.proofs.forms.+forms.Given as goal

abbrev pub decreases-note_form : goal.decreases-note_form
decreases-note_form l = 5 * l.dim + 4

abbrev pub decreases-form_anew : goal.decreases-form_anew
decreases-form_anew l = 5 * l.dim + 3

abbrev pub decreases-regular_forms : goal.decreases-regular_forms
decreases-regular_forms l = 5 * l.dim + 1

abbrev pub decreases-regular_form : goal.decreases-regular_form
decreases-regular_form l = 5 * l.dim

abbrev pub decreases-kept_levels : goal.decreases-kept_levels
decreases-kept_levels l = 5 * l.dim + 1

abbrev pub decreases-singular_form : goal.decreases-singular_form
decreases-singular_form l = 5 * l.dim

abbrev pub invariant-regular_forms-loop-k : goal.invariant-regular_forms-loop-k
invariant-regular_forms-loop-k l = record {
  grows : Grows l.fn.store l.store;
  sources : Gathers l.store.diagrams l.sources.items (l.k + 1) (λ j. (reg_normal (diagram_at l.fn.store l.key.target) (legs_of l.fn.store l.key.legs.items) j).source);
  arrows : Gathers l.store.arrows l.arrows.items (l.k + 1) (λ j. (reg_normal (diagram_at l.fn.store l.key.target) (legs_of l.fn.store l.key.legs.items) j).arrow);
}

abbrev pub invariant-kept_levels-loop-k : goal.invariant-kept_levels-loop-k
invariant-kept_levels-loop-k l = record {
  grows : Grows l.fn.store l.store;
  left : IsLeftOf l.store (diagram_at l.fn.store l.key.target) (legs_of l.fn.store l.key.legs.items) l.k l.left;
}
