-- The roots of a workspace over a store: their ids are of the store, and their trees are those of the workspace.
use Rattle.std.proofs.Common.{◌≡◌, ◌∙◌, ℕ, List, [], ◌∷◌, ◌++◌, map, Option, Some, None, refl, sym, ap, subst}
use Rattle.std.proofs.lemmas.List.{map-append}
use Rattle.std.proofs.lemmas.List.Elements.{All-nil, All-cons, All-head, All-tail, All-append, All-map}
use Rattle.std.specs.List.{All, flat_map}
use Rattle.hashcons.specs.declared.id.AnyId.{AnyId}
use Rattle.hashcons.specs.declared.id.AnyId.TheVariants as id
use Rattle.hashcons.specs.Contents.{Contents, diagram_at}
use Rattle.hashcons.specs.Ids.{IsOf, tree_of}
use Rattle.hashcons.specs.Listing.{AreOf}
use Rattle.typecheck.specs.Signatures.{IsBoundaryOf, generator_in}
use Rattle.workspace_json.specs.Maps.{map_trees}
use Rattle.workspace_json.specs.Workspaces.{boundary_trees, roots_of}
use Rattle.workspace_lists.specs.Held.{IsGeneratorOf, IsHeld, IsMapOf, diagrams_over, generators_over, map_over, maps_over, workspace_in}
use Rattle.workspace_lists.specs.Roots.{boundary_ids, diagram_ids, end_ids, map_ids, part_ids, root_ids, top_ids}
use Rattle.workspace_lists.specs.declared.workspace.Generator.{Generator}
use Rattle.workspace_lists.specs.declared.workspace.Named.{Named}
use Rattle.workspace_lists.specs.declared.workspace.NamedMap.{NamedMap}
use Rattle.workspace_lists.specs.declared.workspace.Workspace.{Workspace}

module _ (c : Contents) where
  -- ---- their trees

  boundary_ids-trees : (b : Option (ℕ × ℕ)) → map (tree_of c) (boundary_ids b) ≡ boundary_trees (generator_in c b)
  boundary_ids-trees None = refl
  boundary_ids-trees (Some (s, t)) = refl

  end_ids-trees : (gs : List Generator) → map (tree_of c) (end_ids gs) ≡ flat_map (λ g. boundary_trees g.generator) (generators_over c gs)
  end_ids-trees [] = refl
  end_ids-trees (g ∷ gs) =
      map-append (tree_of c) (boundary_ids g.boundary) (end_ids gs)
      ∙ ap (λ ts. ts ++ map (tree_of c) (end_ids gs)) (boundary_ids-trees g.boundary)
      ∙ ap (λ ts. boundary_trees (generator_in c g.boundary) ++ ts) (end_ids-trees gs)

  diagram_ids-trees : (ds : List Named) → map (tree_of c) (diagram_ids ds) ≡ map (λ d. d.tree) (diagrams_over c ds)
  diagram_ids-trees [] = refl
  diagram_ids-trees (d ∷ ds) = ap (λ ts. diagram_at c d.root ∷ ts) (diagram_ids-trees ds)

  part_ids-trees : (ms : List NamedMap) → map (tree_of c) (part_ids ms) ≡ flat_map map_trees (maps_over c ms)
  part_ids-trees [] = refl
  part_ids-trees (m ∷ ms) = map-append (tree_of c) (map_ids m) (part_ids ms) ∙ ap (λ ts. map_trees (map_over c m) ++ ts) (part_ids-trees ms)

  top_ids-trees : (w : Workspace) → map (tree_of c) (top_ids w)
      ≡ flat_map (λ g. boundary_trees g.generator) (generators_over c w.generators.items) ++ map (λ d. d.tree) (diagrams_over c w.diagrams.items)
  top_ids-trees w =
      map-append (tree_of c) (end_ids w.generators.items) (diagram_ids w.diagrams.items)
      ∙ ap (λ ts. ts ++ map (tree_of c) (diagram_ids w.diagrams.items)) (end_ids-trees w.generators.items)
      ∙ ap (λ ts. flat_map (λ g. boundary_trees g.generator) (generators_over c w.generators.items) ++ ts) (diagram_ids-trees w.diagrams.items)

  pub root_ids-trees : (w : Workspace) → map (tree_of c) (root_ids w) ≡ roots_of (workspace_in c w)
  root_ids-trees w = map-append (tree_of c) (top_ids w) (part_ids w.maps.items) ∙ (λ i. top_ids-trees w i ++ part_ids-trees w.maps.items i)

  -- ---- they are of the store

  boundary_ids-held : (b : Option (ℕ × ℕ)) → IsBoundaryOf c b → All (IsOf c) (boundary_ids b)
  boundary_ids-held None of = All-nil (IsOf c)
  boundary_ids-held (Some (s, t)) of =
      All-cons (IsOf c) (id.Diagram s) (id.Diagram t ∷ []) of.source
      (All-cons (IsOf c) (id.Diagram t) [] of.target (All-nil (IsOf c)))

  end_ids-held : (gs : List Generator) → All (IsGeneratorOf c) gs → All (IsOf c) (end_ids gs)
  end_ids-held [] all = All-nil (IsOf c)
  end_ids-held (g ∷ gs) all =
      All-append (IsOf c) (boundary_ids g.boundary) (end_ids gs)
      (boundary_ids-held g.boundary (All-head (IsGeneratorOf c) g gs all).of_store)
      (end_ids-held gs (All-tail (IsGeneratorOf c) g gs all))

  part_ids-held : (ms : List NamedMap) → All (λ (m : NamedMap). IsMapOf c m.map) ms → All (IsOf c) (part_ids ms)
  part_ids-held [] all = All-nil (IsOf c)
  part_ids-held (m ∷ ms) all =
      let here = All-head (λ (n : NamedMap). IsMapOf c n.map) m ms all in
      All-cons (IsOf c) (id.Diagram m.map.source) (id.Diagram m.map.target ∷ id.Arrow m.map.arrow ∷ part_ids ms) here.source
      (All-cons (IsOf c) (id.Diagram m.map.target) (id.Arrow m.map.arrow ∷ part_ids ms) here.target
      (All-cons (IsOf c) (id.Arrow m.map.arrow) (part_ids ms) here.arrow
      (part_ids-held ms (All-tail (λ (n : NamedMap). IsMapOf c n.map) m ms all))))

  root_ids-held : (w : Workspace) → IsHeld c w → All (IsOf c) (root_ids w)
  root_ids-held w held =
      All-append (IsOf c) (top_ids w) (part_ids w.maps.items)
      (All-append (IsOf c) (end_ids w.generators.items) (diagram_ids w.diagrams.items)
      (end_ids-held w.generators.items held.generators)
      (All-map (IsOf c) (λ (d : Named). id.Diagram d.root) w.diagrams.items held.diagrams))
      (part_ids-held w.maps.items held.maps)

  root_ids-of_store : (w : Workspace) → IsHeld c w → AreOf c (root_ids w)
  root_ids-of_store w held = let all = root_ids-held w held in record { of_store = λ i l. all i (id.Diagram 0) l }

  pub roots-of_store : (w : Workspace) (ids : List AnyId) → IsHeld c w → ids ≡ root_ids w → AreOf c ids
  roots-of_store w ids held are = subst (AreOf c) (sym are) (root_ids-of_store w held)
