-- Entries of the form are read back from what is printed for them.
use Rattle.std.proofs.Common.{◌≡◌, ℕ, ◌<◌, List, [], ◌∷◌, ◌++◌, length, map, get_or, Bool, true, false, not, ◌&&◌, ◌||◌, nat_lt, bytes_eq, Option, Some, None, Result, Ok, refl, sym, ap, ◌∙◌, subst, arith, append_assoc, length-append}
use Rattle.std.proofs.lemmas.Bool.{lt-ltb}
use Rattle.std.proofs.lemmas.Cmp.{nat_list_eq_equiv}
use Rattle.std.proofs.lemmas.List.{map-append}
use Rattle.std.proofs.lemmas.List.Elements.{recursion_from_All, All-from_recursion}
use Rattle.std.proofs.lemmas.Option.{slice_get-get_or}
use Rattle.std.specs.List.{IsDistinct, slice_get}
use Rattle.serde_json.specs.View.{items_of}
use Rattle.diagram_terms.specs.declared.limits.TheConstants.{MAX_GENERATORS}
use Rattle.diagram_terms.specs.declared.node.Node.{Node}
use Rattle.diagram_terms.specs.declared.node.Sort.TheVariants as sort
use Rattle.diagram_terms.specs.Nodes.{sorts_of}
use Rattle.diagram_terms.proofs.NodeForms.{length-sorts_of}
use Rattle.node_json.specs.declared.document.GeneratorEntry.{GeneratorEntry}
use Rattle.node_json.specs.declared.document.DiagramEntry.{DiagramEntry}
use Rattle.node_json.specs.declared.document.MapEntry.{MapEntry}
use Rattle.node_json.specs.declared.fault.Field.TheVariants as field
use Rattle.node_json.specs.declared.fault.FormFault.{FormFault}
use Rattle.node_json.specs.Step.{◌>>=◌, when}
use Rattle.node_json.specs.Json.{items_list}
use Rattle.node_json.specs.Names.{is_good_name, is_among, also}
use Rattle.node_json.specs.Entries.{is_diagram, is_arrow, generator_entry, diagram_entry, map_entry, entry_fault, generator_names, diagram_names, map_names, generator_at, diagram_at, map_at, generators_in, diagrams_in, maps_in}
use Rattle.node_json.specs.Documents.{IsDiagramPlace, IsArrowPlace, IsBoundary, IsMapEntry, IsGoodName, AreNames}
use Rattle.node_json.specs.Printing.{named_data, generator_data, diagram_data, map_data}
use Rattle.node_json.proofs.NameSets.{also_is_among}
use Rattle.node_json.proofs.EntriesKept.{IsNew, AreEntries, AreGenerators}
use Rattle.node_json.proofs.PrintedLists.{tested, list_reads, all_front, all_middle, fits_middle}

-- ---- places

stands_at : {S : Type 0} (sorts : List S) (i n : ℕ) (s d : S) → length sorts ≡ n → i < n → get_or sorts i d ≡ s → slice_get sorts i ≡ Some s
stands_at sorts i n s d len within is = slice_get-get_or sorts i d (omega arith) ∙ ap Some is

pub diagram_there : (nodes : List Node) (i : ℕ) → IsDiagramPlace nodes i → is_diagram (slice_get (sorts_of nodes) i) ≡ true
diagram_there nodes i is = ap is_diagram (stands_at (sorts_of nodes) i (length nodes) (sort.Diagram is.dim) (sort.Diagram 0) (length-sorts_of nodes) is.within is.stands)

pub arrow_there : (nodes : List Node) (i : ℕ) → IsArrowPlace nodes i → is_arrow (slice_get (sorts_of nodes) i) ≡ true
arrow_there nodes i is = ap is_arrow (stands_at (sorts_of nodes) i (length nodes) (sort.Arrow is.dim) (sort.Diagram 0) (length-sorts_of nodes) is.within is.stands)

-- ---- names

distinct_front : (xs ys : List (List ℕ)) → IsDistinct bytes_eq (xs ++ ys) → IsDistinct bytes_eq xs
unfolding IsDistinct
distinct_front [] ys h = tt
distinct_front (x ∷ xs) ys h = (all_front (λ y. bytes_eq x y ≡ false) xs ys h.0, distinct_front xs ys h.1)

pub are_names_front : (xs ys : List (List ℕ)) → AreNames (xs ++ ys) → AreNames xs
are_names_front xs ys are = record {
  good = All-from_recursion IsGoodName xs (all_front IsGoodName xs ys (recursion_from_All IsGoodName (xs ++ ys) are.good));
  distinct = distinct_front xs ys are.distinct;
}

-- a name differs from those before it
free_behind : (before : List (List ℕ)) (name : List ℕ) (rest : List (List ℕ)) → IsDistinct bytes_eq (before ++ name ∷ rest) → is_among before name ≡ false
unfolding IsDistinct
free_behind [] name rest h = refl
free_behind (x ∷ xs) name rest h =
    let apart : bytes_eq name x ≡ false = nat_list_eq_equiv.symm name x ∙ all_middle (λ y. bytes_eq x y ≡ false) xs name rest h.0 in
    ap (λ b. b || is_among xs name) apart ∙ free_behind xs name rest h.1

new_behind : (before : List (List ℕ)) (name : List ℕ) (rest : List (List ℕ)) → AreNames (before ++ name ∷ rest) → IsNew before name
new_behind before name rest are = record {
  good = fits_middle IsGoodName before name rest are.good;
  free = free_behind before name rest are.distinct;
}

entry_is_new : {E : Type 0} (name : E → List ℕ) (fits : E → Type 0) (before : List (List ℕ)) (done : List E) (e : E) (rest : List E)
    → AreEntries name fits before (done ++ e ∷ rest) → IsNew (before ++ map name done) (name e)
entry_is_new name fits before done e rest are =
    let same : before ++ map name (done ++ e ∷ rest) ≡ (before ++ map name done) ++ name e ∷ map name rest =
    ap (λ names. before ++ names) (map-append name done (e ∷ rest)) ∙ sym (append_assoc before (map name done) (name e ∷ map name rest)) in
    new_behind (before ++ map name done) (name e) (map name rest) (subst AreNames same are.names)

allowed : (good taken : Bool) → good ≡ true → taken ≡ false → good && not taken ≡ true
allowed true true p q = absurd (cc)
allowed true false p q = refl
allowed false taken p q = absurd (cc)

-- ---- one entry

module _ (e : FormFault) (nodes : List Node) (before names : List (List ℕ)) where
  abbrev taken : List ℕ → Bool
  taken = also (is_among before) names

  name_passes : (name : List ℕ) → IsNew (before ++ names) name → is_good_name name && not (taken name) ≡ true
  name_passes name is = allowed (is_good_name name) (taken name) is.good (ap (λ t. t name) (also_is_among before names) ∙ is.free)

  then_named : {A : Type 0} (name : List ℕ) (next : List ℕ → Result A FormFault) → IsNew (before ++ names) name
      → ((when (is_good_name name && not (taken name)) e >>= λ free. Ok name) >>= next) ≡ next name
  then_named name next is = ap (λ (r : Result (List ℕ) FormFault). r >>= next) (tested (is_good_name name && not (taken name)) e (Ok name) (name_passes name is))

  then_diagram : {A : Type 0} (i : ℕ) (next : ℕ → Result A FormFault) → IsDiagramPlace nodes i
      → ((when (is_diagram (slice_get (sorts_of nodes) i)) e >>= λ stands. Ok i) >>= next) ≡ next i
  then_diagram i next is = ap (λ (r : Result ℕ FormFault). r >>= next) (tested (is_diagram (slice_get (sorts_of nodes) i)) e (Ok i) (diagram_there nodes i is))

  then_arrow : {A : Type 0} (i : ℕ) (next : ℕ → Result A FormFault) → IsArrowPlace nodes i
      → ((when (is_arrow (slice_get (sorts_of nodes) i)) e >>= λ stands. Ok i) >>= next) ≡ next i
  then_arrow i next is = ap (λ (r : Result ℕ FormFault). r >>= next) (tested (is_arrow (slice_get (sorts_of nodes) i)) e (Ok i) (arrow_there nodes i is))

  generator_reads : (name : List ℕ) (boundary : Option (ℕ × ℕ)) → IsNew (before ++ names) name → IsBoundary nodes boundary
      → generator_entry e (sorts_of nodes) taken (named_data name boundary) ≡ Ok (record { name = name; boundary = boundary })
  unfolding generator_entry
  generator_reads name None new is = then_named name _ new
  generator_reads name (Some (i, j)) new is = then_named name _ new ∙ then_diagram i _ is.0 ∙ then_diagram j _ is.1

  diagram_reads : (d : DiagramEntry) → IsNew (before ++ names) d.name → IsDiagramPlace nodes d.root
      → diagram_entry e (sorts_of nodes) taken (diagram_data d) ≡ Ok d
  unfolding diagram_entry
  diagram_reads d new is = then_named d.name _ new ∙ then_diagram d.root _ is

  map_reads : (m : MapEntry) → IsNew (before ++ names) m.name → IsMapEntry nodes m
      → map_entry e (sorts_of nodes) taken (map_data m) ≡ Ok m
  unfolding map_entry
  map_reads m new is = then_named m.name _ new ∙ then_diagram m.source _ is.source ∙ then_diagram m.target _ is.target ∙ then_arrow m.arrow _ is.arrow

-- ---- the entries of a list

module _ (nodes : List Node) where
  generator_behind : (done : List GeneratorEntry) (g : GeneratorEntry) (rest : List GeneratorEntry) → AreGenerators nodes (done ++ g ∷ rest)
      → generator_at (sorts_of nodes) (is_among []) done (generator_data g) ≡ Ok g
  unfolding generator_at
  generator_behind done g rest are =
      let wrong = entry_fault field.Generators (length done) in
      let room : length done < MAX_GENERATORS = omega (arith, are.count, length-append done (g ∷ rest)) in
      let new = entry_is_new (λ x. x.name) (λ x. IsBoundary nodes x.boundary) [] done g rest are.entries in
      tested (nat_lt (length done) MAX_GENERATORS) wrong _ (lt-ltb (length done) MAX_GENERATORS room)
      ∙ generator_reads wrong nodes [] (generator_names done) g.name g.boundary new
      (fits_middle (λ x. IsBoundary nodes x.boundary) done g rest are.entries.each_fits)

  pub generators_read : (generators : List GeneratorEntry) → AreGenerators nodes generators
      → generators_in (sorts_of nodes) (is_among []) (items_list (items_of (map generator_data generators))) ≡ Ok generators
  generators_read generators are = list_reads (AreGenerators nodes) (generator_at (sorts_of nodes) (is_among [])) generator_data generator_behind generators are

  module _ (before : List (List ℕ)) where
    diagram_behind : (done : List DiagramEntry) (d : DiagramEntry) (rest : List DiagramEntry)
        → AreEntries (λ x. x.name) (λ x. IsDiagramPlace nodes x.root) before (done ++ d ∷ rest)
        → diagram_at (sorts_of nodes) (is_among before) done (diagram_data d) ≡ Ok d
    unfolding diagram_at
    diagram_behind done d rest are = diagram_reads (entry_fault field.Diagrams (length done)) nodes before (diagram_names done) d
        (entry_is_new (λ x. x.name) (λ x. IsDiagramPlace nodes x.root) before done d rest are)
        (fits_middle (λ x. IsDiagramPlace nodes x.root) done d rest are.each_fits)

    pub diagrams_read : (diagrams : List DiagramEntry) → AreEntries (λ x. x.name) (λ x. IsDiagramPlace nodes x.root) before diagrams
        → diagrams_in (sorts_of nodes) (is_among before) (items_list (items_of (map diagram_data diagrams))) ≡ Ok diagrams
    diagrams_read diagrams are = list_reads (AreEntries (λ x. x.name) (λ x. IsDiagramPlace nodes x.root) before) (diagram_at (sorts_of nodes) (is_among before)) diagram_data
        diagram_behind diagrams are

    map_behind : (done : List MapEntry) (m : MapEntry) (rest : List MapEntry) → AreEntries (λ x. x.name) (IsMapEntry nodes) before (done ++ m ∷ rest)
        → map_at (sorts_of nodes) (is_among before) done (map_data m) ≡ Ok m
    unfolding map_at
    map_behind done m rest are = map_reads (entry_fault field.Maps (length done)) nodes before (map_names done) m
        (entry_is_new (λ x. x.name) (IsMapEntry nodes) before done m rest are)
        (fits_middle (IsMapEntry nodes) done m rest are.each_fits)

    pub maps_read : (maps : List MapEntry) → AreEntries (λ x. x.name) (IsMapEntry nodes) before maps
        → maps_in (sorts_of nodes) (is_among before) (items_list (items_of (map map_data maps))) ≡ Ok maps
    maps_read maps are = list_reads (AreEntries (λ x. x.name) (IsMapEntry nodes) before) (map_at (sorts_of nodes) (is_among before)) map_data map_behind maps are
