-- Entries that were read have the form.
use Rattle.std.proofs.Common.{◌≡◌, ℕ, ◌<◌, ◌≤◌, List, [], ◌∷◌, ◌++◌, length, map, codes, Bool, true, false, not, ◌&&◌, nat_lt, Option, Some, None, inl, inr, ◌⊎◌, cond, Result, Ok, refl, sym, ap, subst, ◌∙◌, arith, append_assoc, append-nil, length-append}
use Rattle.std.proofs.lemmas.Bool.{ltb-true}
use Rattle.std.proofs.lemmas.Cmp.{nat_list_eq_equiv}
use Rattle.std.proofs.lemmas.List.{map-append}
use Rattle.std.proofs.lemmas.List.Elements.{All-push}
use Rattle.std.proofs.lemmas.Map.Keys.{IsDistinct-push}
use Rattle.std.proofs.lemmas.Option.{slice_get_cases, get_or_from_slice_get}
use Rattle.std.specs.List.{All, IsDistinct, slice_get}
use Rattle.serde_json.specs.Data.{Data}
use Rattle.diagram_terms.specs.declared.limits.TheConstants.{MAX_GENERATORS}
use Rattle.diagram_terms.specs.declared.node.Node.{Node}
use Rattle.diagram_terms.specs.declared.node.Sort.{Sort}
use Rattle.diagram_terms.specs.declared.node.Sort.TheVariants as sort
use Rattle.diagram_terms.specs.Nodes.{sorts_of}
use Rattle.node_json.specs.declared.document.GeneratorEntry.{GeneratorEntry}
use Rattle.node_json.specs.declared.document.DiagramEntry.{DiagramEntry}
use Rattle.node_json.specs.declared.document.MapEntry.{MapEntry}
use Rattle.node_json.specs.declared.fault.Field.TheVariants as field
use Rattle.node_json.specs.declared.fault.FormFault.{FormFault}
use Rattle.node_json.specs.Step.{when}
use Rattle.node_json.specs.Json.{has_keys, number_at, text_at}
use Rattle.node_json.specs.Names.{is_good_name, is_among, also}
use Rattle.node_json.specs.Entries.{is_diagram, is_arrow, diagram_place, arrow_place, name_in, point_entry, cell_entry, generator_entry, diagram_entry, map_entry, entry_fault, generator_names, diagram_names, map_names, generator_at, diagram_at, map_at, generators_in, diagrams_in, maps_in}
use Rattle.node_json.specs.Documents.{IsDiagramPlace, IsArrowPlace, IsBoundary, IsMapEntry, IsGoodName, AreNames}
use Rattle.node_json.proofs.NameSets.{also_is_among}
use Rattle.diagram_terms.proofs.NodeForms.{length-sorts_of}
use Rattle.node_json.proofs.Passed.{gave, passed, each_keeps}

-- ---- tests

pub both : (a b : Bool) → a && b ≡ true → (a ≡ true) × (b ≡ true)
both true true e = (refl, refl)
both true false e = absurd (cc)
both false b e = absurd (cc)

not_true : (b : Bool) → not b ≡ true → b ≡ false
not_true true e = absurd (cc)
not_true false e = refl

-- ---- places

diagram_stands : (o : Option Sort) → is_diagram o ≡ true → (d : ℕ) × (o ≡ Some (sort.Diagram d))
diagram_stands None e = absurd (cc)
diagram_stands (Some (sort.Diagram d)) e = (d, refl)
diagram_stands (Some (sort.Arrow d)) e = absurd (cc)

arrow_stands : (o : Option Sort) → is_arrow o ≡ true → (d : ℕ) × (o ≡ Some (sort.Arrow d))
arrow_stands None e = absurd (cc)
arrow_stands (Some (sort.Diagram d)) e = absurd (cc)
arrow_stands (Some (sort.Arrow d)) e = (d, refl)

pub inside : {X : Type 0} (xs : List X) (i : ℕ) (x : X) → slice_get xs i ≡ Some x → i < length xs
inside xs i x is = elim (slice_get_cases xs i).1 [ inl w ↦ w.1 | inr w ↦ absurd (cc (is, w.1)) ]

pub is_diagram_place : (nodes : List Node) (i : ℕ) → is_diagram (slice_get (sorts_of nodes) i) ≡ true → IsDiagramPlace nodes i
is_diagram_place nodes i stands =
    let s = diagram_stands (slice_get (sorts_of nodes) i) stands in
    record {
      within = omega (arith, inside (sorts_of nodes) i (sort.Diagram s.0) s.1, length-sorts_of nodes);
      dim = s.0;
      stands = get_or_from_slice_get (sorts_of nodes) i (sort.Diagram s.0) (sort.Diagram 0) s.1;
    }

is_arrow_place : (nodes : List Node) (i : ℕ) → is_arrow (slice_get (sorts_of nodes) i) ≡ true → IsArrowPlace nodes i
is_arrow_place nodes i stands =
    let s = arrow_stands (slice_get (sorts_of nodes) i) stands in
    record {
      within = omega (arith, inside (sorts_of nodes) i (sort.Arrow s.0) s.1, length-sorts_of nodes);
      dim = s.0;
      stands = get_or_from_slice_get (sorts_of nodes) i (sort.Arrow s.0) (sort.Diagram 0) s.1;
    }

module _ (e : FormFault) (nodes : List Node) (key : List ℕ) (d : Data) (i : ℕ) where
  pub diagram_place_is : diagram_place e (sorts_of nodes) key d ≡ Ok i → IsDiagramPlace nodes i
  diagram_place_is is =
      let g = gave (number_at e key d) _ i is in
      let h = gave (when (is_diagram (slice_get (sorts_of nodes) g.value)) e) _ i g.then in
      let same : g.value ≡ i = cc (h.then) in
      rw (← same) (is_diagram_place nodes g.value (passed (is_diagram (slice_get (sorts_of nodes) g.value)) e h.value h.was))

  pub arrow_place_is : arrow_place e (sorts_of nodes) key d ≡ Ok i → IsArrowPlace nodes i
  arrow_place_is is =
      let g = gave (number_at e key d) _ i is in
      let h = gave (when (is_arrow (slice_get (sorts_of nodes) g.value)) e) _ i g.then in
      let same : g.value ≡ i = cc (h.then) in
      rw (← same) (is_arrow_place nodes g.value (passed (is_arrow (slice_get (sorts_of nodes) g.value)) e h.value h.was))

-- ---- names

-- a good name that is not among these
pub record IsNew (names : List (List ℕ)) (name : List ℕ) : Type 0 where
  pub good : is_good_name name ≡ true
  pub free : is_among names name ≡ false

pub are_names_push : (names : List (List ℕ)) (name : List ℕ) → AreNames names → IsNew names name → AreNames (names ++ name ∷ [])
are_names_push names name are is = record {
  good = All-push IsGoodName names name are.good is.good;
  distinct = IsDistinct-push nat_list_eq_equiv names name are.distinct is.free;
}

name_is_new : (e : FormFault) (before names : List (List ℕ)) (d : Data) (name : List ℕ) → name_in e (also (is_among before) names) d ≡ Ok name → IsNew (before ++ names) name
name_is_new e before names d name is =
    let g = gave (text_at e (codes "name") d) _ name is in
    let h = gave (when (is_good_name g.value && not (also (is_among before) names g.value)) e) _ name g.then in
    let same : g.value ≡ name = cc (h.then) in
    let t = both (is_good_name g.value) (not (also (is_among before) names g.value)) (passed _ e h.value h.was) in
    rw (← same) (record { good = t.0; free = ap (λ t. t g.value) (sym (also_is_among before names)) ∙ not_true _ t.1 })

-- ---- one entry

either_way : {A : Type 0} (b : Bool) (p q : Result A FormFault) (y : A) → cond b p q ≡ Ok y → (p ≡ Ok y) ⊎ (q ≡ Ok y)
either_way true p q y is = inl is
either_way false p q y is = inr is

module _ (e : FormFault) (nodes : List Node) (before names : List (List ℕ)) (d : Data) where
  point_entry_is : (g : GeneratorEntry) → point_entry e (also (is_among before) names) d ≡ Ok g → IsNew (before ++ names) g.name × IsBoundary nodes g.boundary
  point_entry_is g is =
      let n = gave (name_in e (also (is_among before) names) d) _ g is in
      let made : GeneratorEntry = record { name = n.value; boundary = None } in
      let same : made ≡ g = cc (n.then) in
      let P : GeneratorEntry → Type 0 = λ x. IsNew (before ++ names) x.name × IsBoundary nodes x.boundary in
      subst P same (name_is_new e before names d n.value n.was, tt)

  cell_entry_is : (g : GeneratorEntry) → cell_entry e (sorts_of nodes) (also (is_among before) names) d ≡ Ok g → IsNew (before ++ names) g.name × IsBoundary nodes g.boundary
  cell_entry_is g is =
      let k = gave (when (has_keys (codes "name" ∷ codes "source" ∷ codes "target" ∷ []) d) e) _ g is in
      let n = gave (name_in e (also (is_among before) names) d) _ g k.then in
      let s = gave (diagram_place e (sorts_of nodes) (codes "source") d) _ g n.then in
      let t = gave (diagram_place e (sorts_of nodes) (codes "target") d) _ g s.then in
      let made : GeneratorEntry = record { name = n.value; boundary = Some (s.value, t.value) } in
      let same : made ≡ g = cc (t.then) in
      let P : GeneratorEntry → Type 0 = λ x. IsNew (before ++ names) x.name × IsBoundary nodes x.boundary in
      subst P same (name_is_new e before names d n.value n.was, (diagram_place_is e nodes (codes "source") d s.value s.was, diagram_place_is e nodes (codes "target") d t.value t.was))

  generator_entry_is : (g : GeneratorEntry) → generator_entry e (sorts_of nodes) (also (is_among before) names) d ≡ Ok g → IsNew (before ++ names) g.name × IsBoundary nodes g.boundary
  unfolding generator_entry
  generator_entry_is g is = elim (either_way (has_keys (codes "name" ∷ []) d) _ _ g is) [ inl p ↦ point_entry_is g p | inr q ↦ cell_entry_is g q ]

  diagram_entry_is : (g : DiagramEntry) → diagram_entry e (sorts_of nodes) (also (is_among before) names) d ≡ Ok g → IsNew (before ++ names) g.name × IsDiagramPlace nodes g.root
  unfolding diagram_entry
  diagram_entry_is g is =
      let k = gave (when (has_keys (codes "name" ∷ codes "root" ∷ []) d) e) _ g is in
      let n = gave (name_in e (also (is_among before) names) d) _ g k.then in
      let r = gave (diagram_place e (sorts_of nodes) (codes "root") d) _ g n.then in
      let made : DiagramEntry = record { name = n.value; root = r.value } in
      let same : made ≡ g = cc (r.then) in
      let P : DiagramEntry → Type 0 = λ x. IsNew (before ++ names) x.name × IsDiagramPlace nodes x.root in
      subst P same (name_is_new e before names d n.value n.was, diagram_place_is e nodes (codes "root") d r.value r.was)

  map_entry_is : (g : MapEntry) → map_entry e (sorts_of nodes) (also (is_among before) names) d ≡ Ok g → IsNew (before ++ names) g.name × IsMapEntry nodes g
  unfolding map_entry
  map_entry_is g is =
      let k = gave (when (has_keys (codes "arrow" ∷ codes "name" ∷ codes "source" ∷ codes "target" ∷ []) d) e) _ g is in
      let n = gave (name_in e (also (is_among before) names) d) _ g k.then in
      let s = gave (diagram_place e (sorts_of nodes) (codes "source") d) _ g n.then in
      let t = gave (diagram_place e (sorts_of nodes) (codes "target") d) _ g s.then in
      let f = gave (arrow_place e (sorts_of nodes) (codes "arrow") d) _ g t.then in
      let made : MapEntry = record { name = n.value; source = s.value; target = t.value; arrow = f.value } in
      let same : made ≡ g = cc (f.then) in
      let P : MapEntry → Type 0 = λ x. IsNew (before ++ names) x.name × IsMapEntry nodes x in
      subst P same (
        name_is_new e before names d n.value n.was,
        record {
          source = diagram_place_is e nodes (codes "source") d s.value s.was;
          target = diagram_place_is e nodes (codes "target") d t.value t.was;
          arrow = arrow_place_is e nodes (codes "arrow") d f.value f.was;
        },
      )

-- ---- the entries of a list

-- entries that have the form, with good names that differ from one another and from those before
pub record AreEntries {E : Type 0} (name : E → List ℕ) (fits : E → Type 0) (before : List (List ℕ)) (entries : List E) : Type 0 where
  pub each_fits : All fits entries
  pub names : AreNames (before ++ map name entries)

entries_push : {E : Type 0} (name : E → List ℕ) (fits : E → Type 0) (before : List (List ℕ)) (done : List E) (e : E)
    → AreEntries name fits before done → IsNew (before ++ map name done) (name e) × fits e → AreEntries name fits before (done ++ e ∷ [])
entries_push name fits before done e are new = record {
  each_fits = All-push fits done e are.each_fits new.1;
  names = rw (map-append name done (e ∷ []), ← append_assoc) (are_names_push (before ++ map name done) (name e) are.names new.0);
}

no_names : AreNames []
unfolding IsDistinct
no_names = record { good = λ k d h. absurd (omega arith); distinct = tt }

entries_none : {E : Type 0} (name : E → List ℕ) (fits : E → Type 0) (before : List (List ℕ)) → AreNames before → AreEntries name fits before []
entries_none name fits before are = record { each_fits = λ k d h. absurd (omega arith); names = simp append-nil are }

pub record AreGenerators (nodes : List Node) (generators : List GeneratorEntry) : Type 0 where
  pub entries : AreEntries (λ e. e.name) (λ e. IsBoundary nodes e.boundary) [] generators
  pub count : length generators ≤ MAX_GENERATORS

module _ (nodes : List Node) where
  generators_push : (done : List GeneratorEntry) (d : Data) (g : GeneratorEntry) → AreGenerators nodes done
      → generator_at (sorts_of nodes) (is_among []) done d ≡ Ok g → AreGenerators nodes (done ++ g ∷ [])
  unfolding generator_at
  generators_push done d g are is =
      let r = gave (when (nat_lt (length done) MAX_GENERATORS) (entry_fault field.Generators (length done))) _ g is in
      let room : nat_lt (length done) MAX_GENERATORS ≡ true = passed _ _ r.value r.was in
      let within : length done < MAX_GENERATORS = ltb-true (length done) MAX_GENERATORS room in
      record {
        entries = entries_push (λ e. e.name) (λ e. IsBoundary nodes e.boundary) [] done g are.entries
            (generator_entry_is (entry_fault field.Generators (length done)) nodes [] (generator_names done) d g r.then);
        count = omega (arith, length-append done (g ∷ []));
      }

  pub are_generators : (ds : List Data) (generators : List GeneratorEntry) → generators_in (sorts_of nodes) (is_among []) ds ≡ Ok generators → AreGenerators nodes generators
  are_generators ds generators is = each_keeps (AreGenerators nodes) (generator_at (sorts_of nodes) (is_among [])) generators_push [] ds generators (record {
    entries = entries_none (λ e. e.name) (λ e. IsBoundary nodes e.boundary) [] no_names;
    count = omega arith;
  }) is

  module _ (before : List (List ℕ)) where
    diagrams_push : (done : List DiagramEntry) (d : Data) (g : DiagramEntry) → AreEntries (λ e. e.name) (λ e. IsDiagramPlace nodes e.root) before done
        → diagram_at (sorts_of nodes) (is_among before) done d ≡ Ok g → AreEntries (λ e. e.name) (λ e. IsDiagramPlace nodes e.root) before (done ++ g ∷ [])
    unfolding diagram_at
    diagrams_push done d g are is = entries_push (λ e. e.name) (λ e. IsDiagramPlace nodes e.root) before done g are
        (diagram_entry_is (entry_fault field.Diagrams (length done)) nodes before (diagram_names done) d g is)

    pub are_diagrams : AreNames before → (ds : List Data) (diagrams : List DiagramEntry) → diagrams_in (sorts_of nodes) (is_among before) ds ≡ Ok diagrams
        → AreEntries (λ e. e.name) (λ e. IsDiagramPlace nodes e.root) before diagrams
    are_diagrams names ds diagrams is = each_keeps (AreEntries (λ e. e.name) (λ e. IsDiagramPlace nodes e.root) before) (diagram_at (sorts_of nodes) (is_among before)) diagrams_push [] ds diagrams
        (entries_none (λ e. e.name) (λ e. IsDiagramPlace nodes e.root) before names) is

    maps_push : (done : List MapEntry) (d : Data) (g : MapEntry) → AreEntries (λ e. e.name) (IsMapEntry nodes) before done
        → map_at (sorts_of nodes) (is_among before) done d ≡ Ok g → AreEntries (λ e. e.name) (IsMapEntry nodes) before (done ++ g ∷ [])
    unfolding map_at
    maps_push done d g are is = entries_push (λ e. e.name) (IsMapEntry nodes) before done g are
        (map_entry_is (entry_fault field.Maps (length done)) nodes before (map_names done) d g is)

    pub are_maps : AreNames before → (ds : List Data) (maps : List MapEntry) → maps_in (sorts_of nodes) (is_among before) ds ≡ Ok maps
        → AreEntries (λ e. e.name) (IsMapEntry nodes) before maps
    are_maps names ds maps is = each_keeps (AreEntries (λ e. e.name) (IsMapEntry nodes) before) (map_at (sorts_of nodes) (is_among before)) maps_push [] ds maps
        (entries_none (λ e. e.name) (IsMapEntry nodes) before names) is
