-- The order of labels is transitive and antisymmetric.
use Rattle.std.proofs.Common.{◌≡◌, arith}
use Rattle.diagram_terms.specs.declared.label.Label.{Label}
use Rattle.diagram_terms.specs.Labels.{IsAtMost}

pub at_most_trans : (x y z : Label) → IsAtMost x y → IsAtMost y z → IsAtMost x z
at_most_trans x y z a b = grind arith

pub at_most_antisym : (x y : Label) → IsAtMost x y → IsAtMost y x → x ≡ y
at_most_antisym x y a b = grind arith
