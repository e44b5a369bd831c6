-- What the call answers with.
use Rattle.std.specs.Prelude.{◌≡◌, ℕ, ◌<◌, List, length, get_or, map}
use Rattle.diagram_terms.specs.declared.place.Keep.TheVariants as keep
use Rattle.diagram_terms.specs.Decoded.{dia, arr}
use Rattle.diagram_terms.specs.Dual.{tab}
use Rattle.diagram_terms.specs.Least.{Leg, ReducedFor}
use Rattle.diagram_terms.specs.Nodes.{picked}
use Rattle.diagram_terms.specs.Shape.{IsDiagram}
use Rattle.diagram_terms.specs.Tree.{Tree, nil}
use Rattle.hashcons.specs.Contents.{Contents, Key, diagram_at}
use Rattle.hashcons.specs.Notes as notes
use Rattle.hashcons.specs.NormalTrees.{TreeLeg, tree_leg_at}
use Rattle.zigzag_maps.specs.declared.map.Map.{Map}
use Rattle.zigzag_maps.specs.Found.{IsValidMap}
use Rattle.normalise.specs.declared.normal.Normal.{Normal}
use Rattle.normalise.specs.StoreForms.{legs_of}

abbrev pub no_map : Map
no_map = record { source = 0; target = 0; arrow = 0 }

-- the maps are valid, into the diagram t
pub record AreMapsInto (c : Contents) (t : ℕ) (ms : List Map) : Type 0 where
  pub valid : (i : ℕ) → i < length ms → IsValidMap c (get_or ms i no_map)
  pub into : (i : ℕ) → i < length ms → (get_or ms i no_map).target ≡ t

-- a map as a leg, and the key of a target and its legs, in their order
abbrev pub as_leg : Map → ℕ × ℕ
as_leg m = (m.source, m.arrow)

abbrev pub key_for : ℕ → List Map → Key
key_for t ms = record { target = t; legs = map as_leg ms }

-- an answer as it is noted
abbrev pub as_noted : Normal → notes.Normal
as_noted n = record { source = n.map.source; arrow = n.map.arrow; factors = n.factors.items }

-- the factors fs of the legs gs, with the sources of these
abbrev pub factor_legs : (d : ℕ) → List TreeLeg → List Tree → List (Leg d)
factor_legs d gs fs = tab (λ i. record { source = dia d (tree_leg_at gs i).source; arrow = arr d (get_or fs i nil) }) (length gs)

-- the diagram s is reduced for these factors
pub record IsReducedTree (s : Tree) (gs : List TreeLeg) (fs : List Tree) : Type 0 where
  pub dim : ℕ
  pub shape : IsDiagram dim s
  pub reduced : ReducedFor keep.Free dim (dia dim s) (factor_legs dim gs fs)

-- the source of an answer is reduced for the factors of the legs
abbrev pub HasReducedSource : Contents → List Map → Normal → Type 0
HasReducedSource c ms n = IsReducedTree (diagram_at c n.map.source) (legs_of c (map as_leg ms)) (picked c.arrows n.factors.items)
