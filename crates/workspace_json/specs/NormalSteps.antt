-- The command that takes normal forms: the first refusal in the order of its tests, or else its reply and the workspace
-- after it.
use Rattle.std.specs.Prelude.{ℕ, List, [], ◌∷◌, map, Result, Ok}
use Rattle.std.specs.List.{list_all}
use Rattle.diagram_terms.specs.declared.place.Keep.TheVariants as keep
use Rattle.diagram_terms.specs.Completion.{distinct_subtrees, place_in, places_in, same_tree, subtree_nodes}
use Rattle.diagram_terms.specs.Decoded.{arr, arr_tree, dia, dia_tree}
use Rattle.diagram_terms.specs.Dimension.{dimension_of}
use Rattle.diagram_terms.specs.Factors.{factor_legs}
use Rattle.diagram_terms.specs.Least.{Leg}
use Rattle.diagram_terms.specs.NormalForms.{normal_form}
use Rattle.diagram_terms.specs.Tree.{Tree}
use Rattle.workspace_json.specs.declared.refusal.Refusal.{Refusal}
use Rattle.workspace_json.specs.declared.refusal.Refusal.TheVariants as refusal
use Rattle.workspace_json.specs.declared.reply.Reply.{Reply}
use Rattle.workspace_json.specs.declared.reply.Reply.TheVariants as reply
use Rattle.workspace_json.specs.Maps.{NamedMap}
use Rattle.workspace_json.specs.MapSteps.{known_map}
use Rattle.workspace_json.specs.Steps.{◌>>=◌, Changed, new_name, referred, refuse_unless}
use Rattle.workspace_json.specs.Workspaces.{Workspace, with_map}

-- ---- normal forms of trees

-- a normal form and the arrow from it, and the factors of the legs
pub record NormalTrees : Type 0 where
  pub source : Tree
  pub arrow : Tree
  pub factors : List Tree

-- a map as a leg of dimension d
abbrev pub map_leg : (d : ℕ) → NamedMap → Leg d
map_leg d m = record { source = dia d m.source; arrow = arr d m.arrow }

abbrev pub map_legs : (d : ℕ) → List NamedMap → List (Leg d)
map_legs d ms = map (map_leg d) ms

-- the trees of a leg through which other legs factor, and of the factors
abbrev pub trees_through : (d : ℕ) → List (Leg d) → Leg d → NormalTrees
trees_through d legs form = record {
  source = dia_tree d form.source;
  arrow = arr_tree d form.arrow;
  factors = map (λ (f : Leg d). arr_tree d f.arrow) (factor_legs d form.arrow legs);
}

-- the normal form of t relative to some maps into it: the least degeneracy through which all of them factor
unfoldable pub normal_trees : Tree → List NamedMap → NormalTrees
normal_trees t ms =
    let d : ℕ = dimension_of t in
    let legs : List (Leg d) = map_legs d ms in
    trees_through d legs (normal_form keep.Free d (dia d t) legs)

-- ---- the command

-- the maps that names name
abbrev pub known_maps : Workspace → List (List ℕ) → Result (List NamedMap) Refusal
known_maps W [] = Ok []
known_maps W (name ∷ names) = do
  m ← known_map W name
  ms ← known_maps W names
  Ok (m ∷ ms)

-- the roots are the normal form, then the arrow from it, and then the factors in the order of the legs
abbrev pub normal_roots : NormalTrees → List Tree
normal_roots n = n.source ∷ n.arrow ∷ n.factors

-- the printed form of these, with the places of the roots
abbrev pub normal_reply : List ℕ → NormalTrees → Reply
normal_reply name n =
    let ts : List Tree = distinct_subtrees (normal_roots n) in
    reply.Normalise (place_in ts n.arrow) (places_in ts n.factors) name (subtree_nodes (normal_roots n)) (place_in ts n.source)

-- the map from a normal form into t
abbrev pub normal_map : List ℕ → Tree → NormalTrees → NamedMap
normal_map name t n = record { name = name; source = n.source; target = t; arrow = n.arrow }

-- that map is added
abbrev pub with_normal : Workspace → List ℕ → Tree → NormalTrees → Changed
with_normal W name t n = record { reply = normal_reply name n; workspace = with_map W (normal_map name t n) }

-- all maps have the target t
abbrev pub are_into : Tree → List NamedMap → Result (Unit {0}) Refusal
are_into t ms = refuse_unless (list_all (λ m. same_tree m.target t) ms) refusal.EndsDiffer

-- `normalise`: the map from the normal form of a reference, relative to maps into it, is added
unfoldable pub normalise_change : Workspace → List ℕ → List ℕ → List (List ℕ) → Result Changed Refusal
normalise_change W name of legs = do
  new ← new_name W name
  t ← referred W of
  ms ← known_maps W legs
  meet ← are_into t ms
  Ok (with_normal W name t (normal_trees t ms))
