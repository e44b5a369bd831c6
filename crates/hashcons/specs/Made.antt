-- What a call that puts trees into a store answers for. The store grows, whatever the answer is.
use Rattle.std.specs.Prelude.{◌≡◌, ℕ, Result, IfOk}
use Rattle.smallvec.specs.SmallVec.{SmallVec}
use Rattle.diagram_terms.specs.Tree.{Tree}
use Rattle.hashcons.specs.declared.id.AnyId.{AnyId}
use Rattle.hashcons.specs.declared.id.AnyId.TheVariants as id
use Rattle.hashcons.specs.Contents.{Contents, Grows}
use Rattle.hashcons.specs.Gathers.{Gathers}
use Rattle.hashcons.specs.Ids.{IsOf, tree_of}

-- the answer names an id of the store, with this tree
pub record Makes {X E : Type 0} (name : X → AnyId) (old new : Contents) (t : Tree) (r : Result X E) : Type 0 where
  pub grows : Grows old new
  pub of_store : IfOk r (λ x. IsOf new (name x))
  pub tree : IfOk r (λ x. tree_of new (name x) ≡ t)

-- the answer is an id, of a diagram, or of an arrow
abbrev pub MakesId : {E : Type 0} → Contents → Contents → Tree → Result AnyId E → Type 0
MakesId old new t r = Makes (λ x. x) old new t r

abbrev pub MakesDiagram : {E : Type 0} → Contents → Contents → Tree → Result ℕ E → Type 0
MakesDiagram old new t r = Makes (λ d. id.Diagram d) old new t r

abbrev pub MakesArrow : {E : Type 0} → Contents → Contents → Tree → Result ℕ E → Type 0
MakesArrow old new t r = Makes (λ a. id.Arrow a) old new t r

-- the answer is n ids of arrows, of which the j-th has the tree f j
pub record MakesArrows {E : Type 0} (old new : Contents) (n : ℕ) (f : ℕ → Tree) (r : Result (SmallVec ℕ) E) : Type 0 where
  pub grows : Grows old new
  pub gathers : IfOk r (λ ids. Gathers new.arrows ids.items n f)
