-- The entries of a document, from the places of the roots.
use Rattle.std.proofs.Common.{◌≡◌, ◌∙◌, ℕ, ◌+◌, ◌<◌, ◌≤◌, List, [], ◌∷◌, ◌++◌, length, get_or, map, take, drop, Option, Some, None, refl, sym, ap, arith}
use Rattle.std.proofs.lemmas.Simd.{map-map}
use Rattle.std.proofs.lemmas.List.{append-nil, map-append, length-append, length-map, take_more, take_at, drop_at, map_more, get_or-map}
use Rattle.std.proofs.lemmas.List.Concat.{flat_map-append, get_or-flat_map}
use Rattle.std.proofs.lemmas.List.Folds.{length-flat_map-take}
use Rattle.diagram_terms.specs.declared.node.Node.{Node}
use Rattle.diagram_terms.specs.Completion.{place_in, root_places, subtree_nodes}
use Rattle.hashcons.specs.declared.id.AnyId.{AnyId}
use Rattle.hashcons.specs.declared.id.AnyId.TheVariants as id
use Rattle.hashcons.specs.Contents.{Contents}
use Rattle.hashcons.specs.Ids.{tree_of}
use Rattle.node_json.specs.declared.document.DiagramEntry.{DiagramEntry}
use Rattle.node_json.specs.declared.document.Document.{Document}
use Rattle.node_json.specs.declared.document.GeneratorEntry.{GeneratorEntry}
use Rattle.node_json.specs.declared.document.MapEntry.{MapEntry}
use Rattle.typecheck.specs.Signatures.{generator_in}
use Rattle.workspace_json.specs.Saved.{boundary_places, diagram_entry, document_of, generator_entry, map_entry, subtrees_of}
use Rattle.workspace_lists.specs.Held.{diagrams_over, generators_over, maps_over, workspace_in}
use Rattle.workspace_lists.specs.Roots.{boundary_ids, diagram_ids, end_ids, ends_at, ends_from, generator_at, map_entry_at, named_at, part_ids, root_ids, top_ids}
use Rattle.workspace_lists.specs.declared.workspace.Generator.{Generator}
use Rattle.workspace_lists.specs.declared.workspace.Named.{Named}
use Rattle.workspace_lists.specs.declared.workspace.NamedMap.{NamedMap}
use Rattle.workspace_lists.specs.declared.workspace.Workspace.{Workspace}
use Rattle.workspace_lists.proofs.HeldRoots.{root_ids-trees}

-- ---- the ids of the generators before one

pub end_ids-more : (gs : List Generator) (i : ℕ) (d : Generator) → i < length gs
    → end_ids (take (i + 1) gs) ≡ end_ids (take i gs) ++ boundary_ids (get_or gs i d).boundary
end_ids-more gs i d l =
    ap end_ids (take_more gs i d l)
    ∙ flat_map-append (λ (g : Generator). boundary_ids g.boundary) (take i gs) (get_or gs i d ∷ [])
    ∙ ap (λ xs. end_ids (take i gs) ++ xs) (append-nil (boundary_ids (get_or gs i d).boundary))

pub end_ids-length_more : (gs : List Generator) (i : ℕ) (d : Generator) → i < length gs
    → length (end_ids (take (i + 1) gs)) ≡ length (end_ids (take i gs)) + length (boundary_ids (get_or gs i d).boundary)
end_ids-length_more gs i d l =
    ap length (end_ids-more gs i d l) ∙ length-append (end_ids (take i gs)) (boundary_ids (get_or gs i d).boundary)

pub end_ids-within : (gs : List Generator) (i : ℕ) (d : Generator) → i < length gs
    → length (end_ids (take i gs)) + length (boundary_ids (get_or gs i d).boundary) ≤ length (end_ids gs)
end_ids-within gs i d l = length-flat_map-take (λ (g : Generator). boundary_ids g.boundary) gs i d l

module _ (gs : List Generator) (i at : ℕ) (g : Generator) (l : i < length gs) (is : g ≡ get_or gs i g)
    (start : at ≡ length (end_ids (take i gs))) where
  same_length : length (boundary_ids g.boundary) ≡ length (boundary_ids (get_or gs i g).boundary)
  same_length = ap (λ (h : Generator). length (boundary_ids h.boundary)) is

  pub ends-within : (places : List ℕ) → length places ≡ length (end_ids gs) → at + length (boundary_ids g.boundary) ≤ length places
  ends-within places len = let k = end_ids-within gs i g l in let same = same_length in omega arith

  pub start-more : (n : ℕ) → n ≡ length (boundary_ids g.boundary) → at + n ≡ length (end_ids (take (i + 1) gs))
  start-more n more = let k = end_ids-length_more gs i g l in let same = same_length in omega arith

-- ---- the entries, one more

module _ (place : AnyId → ℕ) where
  place_read : (gs : List Generator) (i j n : ℕ) (d : Generator) (x : AnyId) → i < length gs
      → j < length (boundary_ids (get_or gs i d).boundary) → get_or (boundary_ids (get_or gs i d).boundary) j (id.Diagram 0) ≡ x
      → n ≡ length (end_ids (take i gs)) + j → get_or (map place (end_ids gs)) n 0 ≡ place x
  place_read gs i j n d x l m is at =
      let k = end_ids-within gs i d l in
      ap (λ n. get_or (map place (end_ids gs)) n 0) at
      ∙ get_or-map place (end_ids gs) (length (end_ids (take i gs)) + j) (id.Diagram 0) 0 (omega arith)
      ∙ ap place (get_or-flat_map (λ (g : Generator). boundary_ids g.boundary) gs i j d (id.Diagram 0) l m ∙ is)

  ends_read : (gs : List Generator) (i at : ℕ) (d : Generator) (b : Option (ℕ × ℕ)) → i < length gs → (get_or gs i d).boundary ≡ b
      → at ≡ length (end_ids (take i gs)) → ends_from (map place (end_ids gs)) at b ≡ ends_at place b
  ends_read gs i at d None l is start = refl
  ends_read gs i at d (Some (s, t)) l is start =
      let ids : boundary_ids (get_or gs i d).boundary ≡ id.Diagram s ∷ id.Diagram t ∷ [] = ap boundary_ids is in
      let two : length (boundary_ids (get_or gs i d).boundary) ≡ 2 = ap length ids in
      let first = place_read gs i 0 at d (id.Diagram s) l (omega arith) (ap (λ xs. get_or xs 0 (id.Diagram 0)) ids) (omega arith) in
      let second = place_read gs i 1 (at + 1) d (id.Diagram t) l (omega arith) (ap (λ xs. get_or xs 1 (id.Diagram 0)) ids) (omega arith) in
      ap (λ a. Some (a, get_or (map place (end_ids gs)) (at + 1) 0)) first ∙ ap (λ b. Some (place (id.Diagram s), b)) second

  more_generators : (gs : List Generator) (i at : ℕ) (d : Generator) (places : List ℕ) (entries : List GeneratorEntry)
      (name : List ℕ) (boundary : Option (ℕ × ℕ))
      → i < length gs → at ≡ length (end_ids (take i gs)) → places ≡ map place (end_ids gs)
      → entries ≡ map (generator_at place) (take i gs)
      → name ≡ (get_or gs i d).name → boundary ≡ ends_from places at (get_or gs i d).boundary
      → entries ++ record { name = name; boundary = boundary } ∷ [] ≡ map (generator_at place) (take (i + 1) gs)
  more_generators gs i at d places entries name boundary l start are so_far names ends =
      let read : boundary ≡ ends_at place (get_or gs i d).boundary
      = ends ∙ ap (λ ps. ends_from ps at (get_or gs i d).boundary) are ∙ ends_read gs i at d (get_or gs i d).boundary l refl start in
      rw (so_far, names, read) (sym (map_more (generator_at place) gs i d l))

  more_named : (ds : List Named) (i : ℕ) (d : Named) (places : List ℕ) (entries : List DiagramEntry) (name : List ℕ) (root : ℕ)
      → i < length ds → places ≡ map place (diagram_ids ds)
      → entries ≡ map (named_at place) (take i ds)
      → name ≡ (get_or ds i d).name → root ≡ get_or places i 0
      → entries ++ record { name = name; root = root } ∷ [] ≡ map (named_at place) (take (i + 1) ds)
  more_named ds i d places entries name root l are so_far names roots =
      let len = length-map ds (λ (d : Named). id.Diagram d.root) in
      let read : root ≡ place (id.Diagram (get_or ds i d).root)
      = roots ∙ ap (λ ps. get_or ps i 0) are ∙ get_or-map place (diagram_ids ds) i (id.Diagram d.root) 0 (omega arith)
      ∙ ap place (get_or-map (λ (d : Named). id.Diagram d.root) ds i d (id.Diagram d.root) l) in
      rw (so_far, names, read) (sym (map_more (named_at place) ds i d l))

  pub generators-more : (gs : List Generator) (i at : ℕ) (g : Generator) (places : List ℕ) (entries : List GeneratorEntry)
      (name : List ℕ) (boundary : Option (ℕ × ℕ))
      → i < length gs → g ≡ get_or gs i g → at ≡ length (end_ids (take i gs)) → places ≡ map place (end_ids gs)
      → entries ≡ map (generator_at place) (take i gs)
      → name ≡ g.name → boundary ≡ ends_from places at g.boundary
      → entries ++ record { name = name; boundary = boundary } ∷ [] ≡ map (generator_at place) (take (i + 1) gs)
  generators-more gs i at g places entries name boundary l is start are so_far names ends =
      more_generators gs i at g places entries name boundary l start are so_far
      (names ∙ ap (λ (h : Generator). h.name) is) (ends ∙ ap (λ (h : Generator). ends_from places at h.boundary) is)

  pub named-more : (ds : List Named) (i : ℕ) (d : Named) (places : List ℕ) (entries : List DiagramEntry) (name : List ℕ) (root : ℕ)
      → i < length ds → d ≡ get_or ds i d → places ≡ map place (diagram_ids ds)
      → entries ≡ map (named_at place) (take i ds)
      → name ≡ d.name → root ≡ get_or places i 0
      → entries ++ record { name = name; root = root } ∷ [] ≡ map (named_at place) (take (i + 1) ds)
  named-more ds i d places entries name root l is are so_far names roots =
      more_named ds i d places entries name root l are so_far (names ∙ ap (λ (e : Named). e.name) is) roots

-- ---- the entries over a store

module _ (c : Contents) (w : Workspace) where
  -- the place of an id among the distinct subtrees of the workspace
  abbrev pub place_over : AnyId → ℕ
  place_over x = place_in (subtrees_of (workspace_in c w)) (tree_of c x)

  -- the places of the three kinds of roots
  abbrev end_places : List ℕ
  end_places = map place_over (end_ids w.generators.items)

  abbrev diagram_places : List ℕ
  diagram_places = map place_over (diagram_ids w.diagrams.items)

  abbrev part_places : List ℕ
  part_places = map place_over (part_ids w.maps.items)

  diagrams_count : length diagram_places ≡ length w.diagrams.items
  diagrams_count = length-map (diagram_ids w.diagrams.items) place_over ∙ length-map w.diagrams.items (λ (d : Named). id.Diagram d.root)

  module _ (ids : List AnyId) (places : List ℕ) (roots : ids ≡ root_ids w)
      (are : places ≡ root_places (map (tree_of c) ids)) (maps : ℕ) (at_maps : maps ≡ length (top_ids w)) where
    places_over : places ≡ (end_places ++ diagram_places) ++ part_places
    places_over =
        are ∙ ap (λ xs. root_places (map (tree_of c) xs)) roots ∙ ap root_places (root_ids-trees c w)
        ∙ ap (map (place_in (subtrees_of (workspace_in c w)))) (sym (root_ids-trees c w))
        ∙ map-map (place_in (subtrees_of (workspace_in c w))) (tree_of c) (root_ids w)
        ∙ map-append place_over (top_ids w) (part_ids w.maps.items)
        ∙ ap (λ ps. ps ++ part_places) (map-append place_over (end_ids w.generators.items) (diagram_ids w.diagrams.items))

    front_length : length (end_places ++ diagram_places) ≡ maps
    front_length =
        ap length (sym (map-append place_over (end_ids w.generators.items) (diagram_ids w.diagrams.items)))
        ∙ length-map (top_ids w) place_over ∙ sym at_maps

    pub maps-within : maps ≤ length places
    maps-within =
        let all = ap length places_over in
        let sum = length-append (end_places ++ diagram_places) part_places in
        let front = front_length in
        omega arith

    pub parts-places : (parts : List ℕ) → parts ≡ drop maps places → parts ≡ part_places
    parts-places parts back = back ∙ ap (drop maps) places_over ∙ drop_at (end_places ++ diagram_places) part_places maps front_length

    pub parts-length : (parts : List ℕ) → parts ≡ drop maps places → length parts ≡ length (part_ids w.maps.items)
    parts-length parts back = ap length (parts-places parts back) ∙ length-map (part_ids w.maps.items) place_over

    module _ (front : List ℕ) (cut : front ≡ take maps places) (diagrams : ℕ) (at_diagrams : diagrams ≡ length (end_ids w.generators.items)) where
      front_is : front ≡ end_places ++ diagram_places
      front_is = cut ∙ ap (take maps) places_over ∙ take_at (end_places ++ diagram_places) part_places maps front_length

      ends_length : length end_places ≡ diagrams
      ends_length = length-map (end_ids w.generators.items) place_over ∙ sym at_diagrams

      pub diagrams-within : diagrams ≤ length front
      diagrams-within =
          let all = ap length front_is in
          let sum = length-append end_places diagram_places in
          let ends = ends_length in
          omega arith

      pub ends-places : (ends : List ℕ) → ends ≡ take diagrams front → ends ≡ end_places
      ends-places ends first = first ∙ ap (take diagrams) front_is ∙ take_at end_places diagram_places diagrams ends_length

      pub tops-places : (tops : List ℕ) → tops ≡ drop diagrams front → tops ≡ diagram_places
      tops-places tops last = last ∙ ap (drop diagrams) front_is ∙ drop_at end_places diagram_places diagrams ends_length

      pub ends-length : (ends : List ℕ) → ends ≡ take diagrams front → length ends ≡ length (end_ids w.generators.items)
      ends-length ends first = ap length (ends-places ends first) ∙ length-map (end_ids w.generators.items) place_over

      pub tops-length : (tops : List ℕ) → tops ≡ drop diagrams front → length tops ≡ length w.diagrams.items
      tops-length tops last = ap length (tops-places tops last) ∙ diagrams_count

  ends_over : (b : Option (ℕ × ℕ)) → ends_at place_over b ≡ boundary_places (subtrees_of (workspace_in c w)) (generator_in c b)
  ends_over None = refl
  ends_over (Some (s, t)) = refl

  generators_are : (gs : List Generator)
      → map (generator_at place_over) gs ≡ map (generator_entry (subtrees_of (workspace_in c w))) (generators_over c gs)
  generators_are [] = refl
  generators_are (g ∷ gs) = let here = ends_over g.boundary in let more = generators_are gs in cc

  named_are : (ds : List Named)
      → map (named_at place_over) ds ≡ map (diagram_entry (subtrees_of (workspace_in c w))) (diagrams_over c ds)
  named_are [] = refl
  named_are (d ∷ ds) = ap (λ es. named_at place_over d ∷ es) (named_are ds)

  maps_are : (ms : List NamedMap)
      → map (map_entry_at place_over) ms ≡ map (map_entry (subtrees_of (workspace_in c w))) (maps_over c ms)
  maps_are [] = refl
  maps_are (m ∷ ms) = ap (λ es. map_entry_at place_over m ∷ es) (maps_are ms)

  -- the document of these parts, where gs, ds and ms are the lists of the workspace
  pub document-over : (ids : List AnyId) (nodes : List Node) (ends tops parts : List ℕ) (gs : List Generator) (ds : List Named) (ms : List NamedMap)
      (generators : List GeneratorEntry) (named : List DiagramEntry) (maps : List MapEntry)
      → ids ≡ root_ids w → nodes ≡ subtree_nodes (map (tree_of c) ids)
      → gs ≡ w.generators.items → ds ≡ w.diagrams.items → ms ≡ w.maps.items
      → ends ≡ end_places → tops ≡ diagram_places → parts ≡ part_places
      → ((place : AnyId → ℕ) → ends ≡ map place (end_ids gs) → generators ≡ map (generator_at place) gs)
      → ((place : AnyId → ℕ) → tops ≡ map place (diagram_ids ds) → named ≡ map (named_at place) ds)
      → ((place : AnyId → ℕ) → parts ≡ map place (part_ids ms) → maps ≡ map (map_entry_at place) ms)
      → let D : Document = record { generators = generators; diagrams = named; maps = maps; nodes = nodes } in D ≡ document_of (workspace_in c w)
  document-over ids nodes ends tops parts gs ds ms generators named maps roots shown gs_are ds_are ms_are front back last first second third =
      rw (
        first place_over (front ∙ ap (λ xs. map place_over (end_ids xs)) (sym gs_are)) ∙ ap (map (generator_at place_over)) gs_are
            ∙ generators_are w.generators.items,
        second place_over (back ∙ ap (λ xs. map place_over (diagram_ids xs)) (sym ds_are)) ∙ ap (map (named_at place_over)) ds_are
            ∙ named_are w.diagrams.items,
        third place_over (last ∙ ap (λ xs. map place_over (part_ids xs)) (sym ms_are)) ∙ ap (map (map_entry_at place_over)) ms_are
            ∙ maps_are w.maps.items,
        shown ∙ ap (λ xs. subtree_nodes (map (tree_of c) xs)) roots ∙ ap subtree_nodes (root_ids-trees c w),
      ) refl
