-- Tables that tell what names stand for, before and after an edit.
use Rattle.std.proofs.Common.{◌≡◌, ℕ, zero, suc, ◌-◌, List, [], ◌∷◌, ◌++◌, length, take, drop, map, cond, Bool, true, false, refl, sym, ap, subst, ◌∙◌}
use Rattle.std.specs.List.{insert}
use Rattle.std.specs.Prelude.{bytes_eq}
use Rattle.std.proofs.lemmas.List.{length-map, map-append, take-map}
use Rattle.std.proofs.lemmas.Slice.Eq.{bytes_eq-Decides}
use Rattle.diagram_terms.specs.GeneratorTypes.{type_of_generator}
use Rattle.hashcons.specs.Contents.{Contents, IsDiagramOf, arrow_at, diagram_at}
use Rattle.typecheck.specs.Signatures.{generator_in}
use Rattle.workspace_json.specs.Workspaces.{IsWorkspace, Workspace}
use Rattle.workspace_lists.specs.declared.names.Meaning.{Meaning}
use Rattle.workspace_lists.specs.declared.names.Meaning.TheVariants as meaning
use Rattle.workspace_lists.specs.declared.names.Names.{Names}
use Rattle.workspace_lists.specs.declared.workspace.Generator.{Generator}
use Rattle.workspace_lists.specs.declared.workspace.Named.{Named}
use Rattle.workspace_lists.specs.declared.workspace.NamedMap.{NamedMap}
use Rattle.workspace_lists.specs.Held.{IsMapOf, Lists, diagram_over, diagrams_over, generator_over, generators_over, map_over, maps_over, trees_in}
use Rattle.workspace_lists.specs.Names.{meaning_in}
use Rattle.session_state.specs.Edits.{IsTypeOf}
use Rattle.session_state.specs.Meanings.{IsMeaningOf, Stands, Tell, arrow_between, diagram, free, generator, meaning_over, stands_for}
use Rattle.session_state.proofs.EditsBack.{front_of}
use Rattle.session_state.proofs.GainedNames.{Gains, gains_diagram, gains_generator, gains_map, with_diagram_at, with_last, with_map_at}

-- the table after a name got another meaning
abbrev pub Replaces : Names → Names → List ℕ → Meaning → Type 0
Replaces old new name m = (other : List ℕ) → meaning_in new other ≡ cond (bytes_eq other name) m (meaning_in old other)

module _ (c : Contents) (less more : Workspace) (name : List ℕ) (here : Stands) (gains : Gains less more name here) (old new : Names) (m : Meaning)
    (replaced : Replaces old new name m) where
  of_store_by : (other : List ℕ) (b : Bool) → bytes_eq other name ≡ b → IsMeaningOf c m → IsMeaningOf c (meaning_in old other) → IsMeaningOf c (meaning_in new other)
  of_store_by other true e h k = subst (IsMeaningOf c) (sym (replaced other ∙ ap (λ b. cond b m (meaning_in old other)) e)) h
  of_store_by other false e h k = subst (IsMeaningOf c) (sym (replaced other ∙ ap (λ b. cond b m (meaning_in old other)) e)) k

  gain_by : (other : List ℕ) (b : Bool) → bytes_eq other name ≡ b → meaning_over c m ≡ here → meaning_over c (meaning_in old other) ≡ stands_for less other
      → meaning_over c (meaning_in new other) ≡ stands_for more other
  gain_by other true e h k =
      let same : other ≡ name = (bytes_eq-Decides other name).0 e in
      ap (meaning_over c) (replaced other ∙ ap (λ b. cond b m (meaning_in old other)) e) ∙ h ∙ sym gains.now ∙ ap (stands_for more) (sym same)
  gain_by other false e h k =
      ap (meaning_over c) (replaced other ∙ ap (λ b. cond b m (meaning_in old other)) e) ∙ k ∙ sym (gains.others other e)

  -- the name is there from now on
  pub gained : IsMeaningOf c m → meaning_over c m ≡ here → Tell c less old → Tell c more new
  gained h k tell = record {
    of_store = λ other. of_store_by other (bytes_eq other name) refl h (tell.of_store other);
    means = λ other. gain_by other (bytes_eq other name) refl k (tell.means other);
  }

  lose_by : (other : List ℕ) (b : Bool) → bytes_eq other name ≡ b → meaning_over c m ≡ free → meaning_over c (meaning_in old other) ≡ stands_for more other
      → meaning_over c (meaning_in new other) ≡ stands_for less other
  lose_by other true e h k =
      let same : other ≡ name = (bytes_eq-Decides other name).0 e in
      ap (meaning_over c) (replaced other ∙ ap (λ b. cond b m (meaning_in old other)) e) ∙ h ∙ sym gains.before ∙ ap (stands_for less) (sym same)
  lose_by other false e h k =
      ap (meaning_over c) (replaced other ∙ ap (λ b. cond b m (meaning_in old other)) e) ∙ k ∙ gains.others other e

  -- the name is free from now on
  pub lost : IsMeaningOf c m → meaning_over c m ≡ free → Tell c more old → Tell c less new
  lost h k tell = record {
    of_store = λ other. of_store_by other (bytes_eq other name) refl h (tell.of_store other);
    means = λ other. lose_by other (bytes_eq other name) refl k (tell.means other);
  }

-- ---- the edits

-- lists of the three kinds
abbrev pub lists_at : List Generator → List Named → List NamedMap → Lists
lists_at gs ds ms = record { generators = gs; diagrams = ds; maps = ms }

-- a list with one item more, and what it is over a store
map-insert : {X Y : Type 0} (f : X → Y) (xs : List X) (i : ℕ) (x : X) → map f (insert xs i x) ≡ insert (map f xs) i (f x)
map-insert {X} f xs i x = map-append f (take i xs) (x ∷ drop i xs) ∙ (λ j. sym (take-map f i xs) j ++ f x ∷ sym (drop-map i xs) j)
  where
    drop-map : (n : ℕ) (ys : List X) → drop n (map f ys) ≡ map f (drop n ys)
    drop-map zero ys = refl
    drop-map (suc n) [] = refl
    drop-map (suc n) (y ∷ ys) = drop-map n ys

module _ (c : Contents) (gs : List Generator) (ds : List Named) (ms : List NamedMap) where
  abbrev before : Workspace
  before = trees_in c (lists_at gs ds ms)

  module _ (g : Generator) where
    abbrev with_generator : Workspace
    with_generator = trees_in c (lists_at (gs ++ g ∷ []) ds ms)

    abbrev its_type : Stands
    its_type = generator (type_of_generator (length gs) (generator_in c g.boundary))

    pushed : with_generator ≡ with_last (generators_over c gs) (diagrams_over c ds) (maps_over c ms) (generator_over c g)
    pushed = ap (λ hs. let w : Workspace = record { generators = hs; diagrams = diagrams_over c ds; maps = maps_over c ms } in w) (map-append (generator_over c) gs (g ∷ []))

    generator_gains : IsWorkspace with_generator → Gains before with_generator g.name its_type
    generator_gains rule =
        let w = subst IsWorkspace pushed rule in
        subst (λ W. Gains before W g.name its_type) (sym pushed)
        (subst (λ n. Gains before (with_last (generators_over c gs) (diagrams_over c ds) (maps_over c ms) (generator_over c g)) g.name (generator (type_of_generator n (generator_in c g.boundary)))) (length-map gs (generator_over c))
        (gains_generator (generators_over c gs) (diagrams_over c ds) (maps_over c ms) (generator_over c g) w.once))

    pub tell_put_generator : (m : Meaning) (old new : Names) → Replaces old new g.name m → IsTypeOf c (length gs) g m
        → IsWorkspace with_generator → Tell c before old → Tell c with_generator new
    tell_put_generator m old new replaced typed rule tell =
        gained c before with_generator g.name its_type (generator_gains rule) old new m replaced typed.of_store typed.tree tell

    pub tell_take_generator : (old new : Names) → Replaces old new g.name meaning.Free → IsWorkspace with_generator → Tell c with_generator old → Tell c before new
    tell_take_generator old new replaced rule tell =
        lost c before with_generator g.name its_type (generator_gains rule) old new meaning.Free replaced tt refl tell

    -- what the name stood for is the type
    pub type_was_there : (old : Names) → IsWorkspace with_generator → Tell c with_generator old → IsTypeOf c (length gs) g (meaning_in old g.name)
    type_was_there old rule tell = record {
      of_store = tell.of_store g.name;
      tree = tell.means g.name ∙ (generator_gains rule).now;
    }

  module _ (i : ℕ) (d : Named) where
    abbrev with_diagram : Workspace
    with_diagram = trees_in c (lists_at gs (insert ds i d) ms)

    diagram_inserted : with_diagram ≡ with_diagram_at (generators_over c gs) (diagrams_over c ds) (maps_over c ms) i (diagram_over c d)
    diagram_inserted = ap (λ es. let w : Workspace = record { generators = generators_over c gs; diagrams = es; maps = maps_over c ms } in w) (map-insert (diagram_over c) ds i d)

    diagram_gains : IsWorkspace with_diagram → Gains before with_diagram d.name (diagram (diagram_at c d.root))
    diagram_gains rule =
        let w = subst IsWorkspace diagram_inserted rule in
        subst (λ W. Gains before W d.name (diagram (diagram_at c d.root))) (sym diagram_inserted)
        (gains_diagram (generators_over c gs) (diagrams_over c ds) (maps_over c ms) i (diagram_over c d) w.once)

    pub tell_put_diagram : (old new : Names) → Replaces old new d.name (meaning.Diagram d.root) → IsDiagramOf c d.root
        → IsWorkspace with_diagram → Tell c before old → Tell c with_diagram new
    tell_put_diagram old new replaced of_store rule tell =
        gained c before with_diagram d.name (diagram (diagram_at c d.root)) (diagram_gains rule) old new (meaning.Diagram d.root) replaced of_store refl tell

    pub tell_take_diagram : (old new : Names) → Replaces old new d.name meaning.Free → IsWorkspace with_diagram → Tell c with_diagram old → Tell c before new
    tell_take_diagram old new replaced rule tell =
        lost c before with_diagram d.name (diagram (diagram_at c d.root)) (diagram_gains rule) old new meaning.Free replaced tt refl tell

  module _ (i : ℕ) (m : NamedMap) where
    abbrev with_map : Workspace
    with_map = trees_in c (lists_at gs ds (insert ms i m))

    abbrev its_trees : Stands
    its_trees = arrow_between (diagram_at c m.map.source) (diagram_at c m.map.target) (arrow_at c m.map.arrow)

    map_inserted : with_map ≡ with_map_at (generators_over c gs) (diagrams_over c ds) (maps_over c ms) i (map_over c m)
    map_inserted = ap (λ ns. let w : Workspace = record { generators = generators_over c gs; diagrams = diagrams_over c ds; maps = ns } in w) (map-insert (map_over c) ms i m)

    map_gains : IsWorkspace with_map → Gains before with_map m.name its_trees
    map_gains rule =
        let w = subst IsWorkspace map_inserted rule in
        subst (λ W. Gains before W m.name its_trees) (sym map_inserted)
        (gains_map (generators_over c gs) (diagrams_over c ds) (maps_over c ms) i (map_over c m) w.once)

    pub tell_put_map : (old new : Names) → Replaces old new m.name (meaning.Map m.map) → IsMapOf c m.map
        → IsWorkspace with_map → Tell c before old → Tell c with_map new
    tell_put_map old new replaced of_store rule tell =
        gained c before with_map m.name its_trees (map_gains rule) old new (meaning.Map m.map) replaced of_store refl tell

    pub tell_take_map : (old new : Names) → Replaces old new m.name meaning.Free → IsWorkspace with_map → Tell c with_map old → Tell c before new
    tell_take_map old new replaced rule tell =
        lost c before with_map m.name its_trees (map_gains rule) old new meaning.Free replaced tt refl tell

-- a generator went from the end
pub taken_generator : (old new : List Generator) (g : Generator) (ds : List Named) (ms : List NamedMap) → old ≡ new ++ g ∷ []
    → lists_at new ds ms ≡ lists_at (take (length old - 1) old) ds ms
taken_generator old new g ds ms e =
    ap (λ (xs : List Generator). lists_at xs ds ms) (sym (front_of new g) ∙ ap (λ (xs : List Generator). take (length xs - 1) xs) (sym e))
