-- A list of labels has at most one join or first clash.
use Rattle.std.specs.Prelude.{◌≡◌, List}
use Rattle.diagram_terms.specs.declared.label.Label.{Label}
use Rattle.diagram_terms.specs.Labels.{IsJoin, IsFirstClash}

pub record JoinsOrClashes : Type 0 where
  pub one_join : (labels : List Label) (x y : Label) → IsJoin labels x → IsJoin labels y → x ≡ y
  pub not_both : (labels : List Label) (x one other : Label) → IsJoin labels x → IsFirstClash labels one other → ⊥
