-- Normal forms over a store, by their trees.
use Rattle.std.specs.Prelude.{ℕ, List, [], ◌∷◌, length}
use Rattle.diagram_terms.specs.Dual.{AreBelow}
use Rattle.hashcons.specs.Contents.{Contents}
use Rattle.normalise.specs.declared.normal.Normal.{Normal}
use Rattle.workspace_json.specs.Maps.{NamedMap}
use Rattle.workspace_json.specs.NormalSteps.{NormalTrees}
use Rattle.workspace_lists.specs.Held.{IsMapOf, map_called, normal_over}
use Rattle.zigzag_maps.specs.declared.map.Map.{Map}

-- maps under these names, in their order
abbrev pub maps_called : Contents → List (List ℕ) → List Map → List NamedMap
maps_called c [] ms = []
maps_called c (name ∷ names) [] = []
maps_called c (name ∷ names) (m ∷ ms) = map_called c name m ∷ maps_called c names ms

-- the ids of a normal form are of the store
pub record IsNormalHeld (c : Contents) (n : Normal) : Type 0 where
  pub map : IsMapOf c n.map
  pub factors : AreBelow n.factors.items (length c.arrows)

-- its trees
abbrev pub normal_in : Contents → Normal → NormalTrees
normal_in c n = normal_over c n.map.source n.map.arrow n.factors.items
