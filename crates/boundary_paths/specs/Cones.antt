-- Cones over diagrams of a store.
use Rattle.std.specs.Prelude.{◌≡◌, ℕ, nat_eq, Some, Result, IfOk}
use Rattle.std.specs.HashMap as map
use Rattle.diagram_terms.specs.declared.label.Label.{Label}
use Rattle.diagram_terms.specs.ConeTrees.{cone_tree, mid_tree}
use Rattle.hashcons.specs.Contents.{Contents, Grows, IsDiagramOf, IsArrowOf, diagram_at, arrow_at}
use Rattle.zigzag_maps.specs.declared.map.Map.{Map}
use Rattle.boundary_paths.specs.declared.made.MadeCones.{MadeCones}

-- m is the cone over d with the label x
pub record IsConeOf (c : Contents) (x : Label) (d : ℕ) (m : Map) : Type 0 where
  pub over : IsDiagramOf c d
  pub source : m.source ≡ d
  pub target_of_store : IsDiagramOf c m.target
  pub target : diagram_at c m.target ≡ mid_tree (diagram_at c d) x
  pub arrow_of_store : IsArrowOf c m.arrow
  pub arrow : arrow_at c m.arrow ≡ cone_tree (diagram_at c d) x

-- the answer is that cone, and the store grows whatever it is
pub record MakesCone {E : Type 0} (old new : Contents) (x : Label) (d : ℕ) (r : Result Map E) : Type 0 where
  pub grows : Grows old new
  pub cone : IfOk r (IsConeOf new x d)

-- the cones that were made are cones with the label x
pub record AreCones (c : Contents) (x : Label) (made : MadeCones) : Type 0 where
  pub cones : (d : ℕ) (m : Map) → map.get nat_eq made.cones d ≡ Some m → IsConeOf c x d m
