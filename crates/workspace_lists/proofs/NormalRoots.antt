-- The roots of a normal form over a store: their ids are of the store, and their trees are those of the normal form.
use Rattle.std.proofs.Common.{◌≡◌, ◌∙◌, ℕ, zero, suc, ◌<◌, List, [], ◌∷◌, length, map, refl, sym, ap, subst, arith}
use Rattle.std.proofs.lemmas.List.{get_or-map, length-map}
use Rattle.diagram_terms.specs.Completion.{distinct_subtrees, place_in, places_in, root_places, subtree_nodes}
use Rattle.diagram_terms.specs.declared.node.Node.{Node}
use Rattle.diagram_terms.specs.Dual.{AreBelow}
use Rattle.diagram_terms.specs.Nodes.{picked}
use Rattle.diagram_terms.specs.Tree.{Tree}
use Rattle.hashcons.specs.declared.id.AnyId.{AnyId}
use Rattle.hashcons.specs.declared.id.AnyId.TheVariants as id
use Rattle.hashcons.specs.Contents.{Contents, IsArrowOf, IsDiagramOf}
use Rattle.hashcons.specs.Ids.{IsOf, id_at, tree_of}
use Rattle.hashcons.specs.Listing.{AreOf}
use Rattle.workspace_json.specs.NormalSteps.{NormalTrees, normal_roots}
use Rattle.workspace_lists.specs.Held.{normal_over}
use Rattle.workspace_lists.specs.Roots.{normal_ids}

module _ (c : Contents) (source arrow : ℕ) (factors : List ℕ) where
  arrow_ids : List AnyId
  arrow_ids = map (λ a. id.Arrow a) factors

  each_of_store : IsDiagramOf c source → IsArrowOf c arrow → AreBelow factors (length c.arrows) → (i : ℕ) → i < length (normal_ids source arrow factors) → IsOf c (id_at (normal_ids source arrow factors) i)
  each_of_store s a f zero l = s
  each_of_store s a f (suc zero) l = a
  each_of_store s a f (suc (suc i)) l =
      let m : i < length factors = let e = length-map factors (λ (a : ℕ). id.Arrow a) in omega arith in
      subst (IsOf c) (sym (get_or-map (λ (a : ℕ). id.Arrow a) factors i 0 (id.Diagram 0) m)) (f.below i m)

  pub normal_ids-of_store : (ids : List AnyId) → ids ≡ normal_ids source arrow factors → IsDiagramOf c source → IsArrowOf c arrow → AreBelow factors (length c.arrows) → AreOf c ids
  normal_ids-of_store ids e s a f = subst (AreOf c) (sym e) (record { of_store = each_of_store s a f })

arrow_trees : (c : Contents) (factors : List ℕ) → map (tree_of c) (map (λ a. id.Arrow a) factors) ≡ picked c.arrows factors
arrow_trees c [] = refl
arrow_trees c (a ∷ factors) = ap (λ ts. tree_of c (id.Arrow a) ∷ ts) (arrow_trees c factors)

pub normal_ids-trees : (c : Contents) (source arrow : ℕ) (factors : List ℕ)
    → map (tree_of c) (normal_ids source arrow factors) ≡ normal_roots (normal_over c source arrow factors)
normal_ids-trees c source arrow factors = ap (λ ts. tree_of c (id.Diagram source) ∷ tree_of c (id.Arrow arrow) ∷ ts) (arrow_trees c factors)

-- the places of the roots in their order
pub normal_places : (c : Contents) (source arrow : ℕ) (factors : List ℕ) (ids : List AnyId) (places : List ℕ) → ids ≡ normal_ids source arrow factors
    → places ≡ root_places (map (tree_of c) ids)
    → (let n : NormalTrees = normal_over c source arrow factors in
    let ts : List Tree = distinct_subtrees (normal_roots n) in
    places ≡ place_in ts n.source ∷ place_in ts n.arrow ∷ places_in ts n.factors)
normal_places c source arrow factors ids places e p =
    p ∙ ap (λ x. root_places (map (tree_of c) x)) e ∙ ap root_places (normal_ids-trees c source arrow factors)

pub normal_nodes : (c : Contents) (source arrow : ℕ) (factors : List ℕ) (ids : List AnyId) (nodes : List Node) → ids ≡ normal_ids source arrow factors
    → nodes ≡ subtree_nodes (map (tree_of c) ids) → nodes ≡ subtree_nodes (normal_roots (normal_over c source arrow factors))
normal_nodes c source arrow factors ids nodes e p =
    p ∙ ap (λ x. subtree_nodes (map (tree_of c) x)) e ∙ ap subtree_nodes (normal_ids-trees c source arrow factors)
