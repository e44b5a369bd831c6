-- The kinds of what a workspace holds, and how many of each an edit puts and takes.
use Rattle.std.specs.Prelude.{◌≡◌, ℕ, ◌+◌, List, [], ◌∷◌}
use Rattle.session_state.specs.declared.edit.Edit.{Edit}
use Rattle.session_state.specs.declared.edit.Edit.TheVariants as edit

pub data Kind : Type 0 where
  of_generators : Kind
  of_diagrams : Kind
  of_maps : Kind

abbrev pub puts : Kind → Edit → ℕ
puts of_generators (edit.PutGenerator g m) = 1
puts of_diagrams (edit.PutDiagram place d) = 1
puts of_maps (edit.PutMap place m) = 1
puts k e = 0

abbrev pub takes : Kind → Edit → ℕ
takes of_generators edit.TakeGenerator = 1
takes of_diagrams (edit.TakeDiagram place) = 1
takes of_maps (edit.TakeMap place) = 1
takes k e = 0

-- edits together: so much room they want
abbrev pub total_put : Kind → List Edit → ℕ
total_put k [] = 0
total_put k (e ∷ es) = puts k e + total_put k es

-- What one edit puts the other takes, and the other way round. Nothing is said of which one.
pub record AreOpposite (e other : Edit) : Type 0 where
  pub put : (k : Kind) → puts k other ≡ takes k e
  pub taken : (k : Kind) → takes k other ≡ puts k e
