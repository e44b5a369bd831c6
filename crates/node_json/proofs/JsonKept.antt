-- The fault of a JSON text is never that it is no JSON.
use Rattle.std.proofs.Common.{◌≡◌, ℕ, List, [], ◌∷◌, ◌++◌, codes, Bool, true, false, not, ◌&&◌, cond, nat_lt, Option, Some, None, length, Result, Ok, Err, refl, subst}
use Rattle.std.specs.Prelude.{option_and_then, slice_get}
use Rattle.serde_json.specs.Data.{Data}
use Rattle.serde_json.specs.Find.{get}
use Rattle.diagram_terms.specs.declared.limits.TheConstants.{MAX_GENERATORS}
use Rattle.diagram_terms.specs.declared.node.Node.{Node}
use Rattle.diagram_terms.specs.declared.node.Sort.{Sort}
use Rattle.diagram_terms.specs.Nodes.{labels_within_limits, places_below, sort_of, sorts_of}
use Rattle.node_json.specs.declared.document.Document.{Document}
use Rattle.node_json.specs.declared.fault.Field.TheVariants as field
use Rattle.node_json.specs.declared.fault.FormFault.{FormFault}
use Rattle.node_json.specs.declared.fault.FormFault.TheVariants as fault
use Rattle.node_json.specs.Step.{◌>>=◌, when, or_fault, each, Gives}
use Rattle.node_json.specs.Json.{json_of, has_keys, whole_of, number_at, text_at, list_at, numbers_at}
use Rattle.node_json.specs.Names.{is_good_name, is_among, also}
use Rattle.node_json.specs.NodeForms.{label_in, labels_in, label_node, labels_node, diagram_node, arrow_node, form_of, written_at, sort_behind, node_at, nodes_in}
use Rattle.node_json.specs.Entries.{is_diagram, is_arrow, diagram_place, arrow_place, name_in, cell_entry, generator_entry, diagram_entry, map_entry, entry_fault, generator_names, diagram_names, map_names, generator_at, diagram_at, map_at, generators_in, diagrams_in, maps_in}
use Rattle.node_json.specs.Reading.{field_fault, document_keys, is_one, entries_of, document_of, exact_document}

-- a fault of a JSON text
abbrev IsOther : FormFault → Type 0
IsOther fault.NotJson = ⊥
IsOther e = Unit {0}

abbrev Others : {A : Type 0} → Result A FormFault → Type 0
Others (Ok x) = Unit {0}
Others (Err e) = IsOther e

then_other : {A B : Type 0} (read : Result A FormFault) (f : A → Result B FormFault) → Others read → ((x : A) → Others (f x)) → Others (read >>= f)
then_other (Ok x) f first next = next x
then_other (Err e) f first next = first

either_other : {A : Type 0} (b : Bool) (p q : Result A FormFault) → Others p → Others q → Others (cond b p q)
either_other true p q one other = one
either_other false p q one other = other

each_other : {A B : Type 0} (step : List B → A → Result B FormFault) → ((done : List B) (x : A) → Others (step done x)) → (done : List B) (xs : List A) → Others (each step done xs)
each_other step others done [] = tt
each_other step others done (x ∷ xs) = then_other (step done x) _ (others done x) (λ y. each_other step others (done ++ y ∷ []) xs)

module _ (e : FormFault) (other : IsOther e) where
  when_other : (b : Bool) → Others (when b e)
  when_other true = tt
  when_other false = other

  or_other : {A : Type 0} (o : Option A) → Others (or_fault e o)
  or_other (Some x) = tt
  or_other None = other

  numbers_other : (key : List ℕ) (d : Data) → Others (numbers_at e key d)
  numbers_other key d = then_other (list_at e key d) _ (or_other _) (λ ds. each_other (λ done x. or_fault e (whole_of x)) (λ done x. or_other _) [] ds)

  label_other : (d : Data) → Others (label_node e d)
  label_other d = then_other (or_fault e (get (codes "label") d)) _ (or_other _) (λ pair. then_other (label_in e pair) _ (or_other _) (λ x. tt))

  pairs_other : (ds : List Data) → Others (labels_in e ds)
  pairs_other [] = other
  pairs_other (a ∷ []) = other
  pairs_other (a ∷ b ∷ []) = then_other (label_in e a) _ (or_other _) (λ x. then_other (label_in e b) _ (or_other _) (λ y. tt))
  pairs_other (a ∷ b ∷ c ∷ ds) = other

  labels_other : (d : Data) → Others (labels_node e d)
  labels_other d = then_other (list_at e (codes "labels") d) _ (or_other _) pairs_other

  diagram_other : (d : Data) → Others (diagram_node e d)
  diagram_other d =
      then_other (numbers_at e (codes "regs") d) _ (numbers_other (codes "regs") d) (λ rs.
      then_other (numbers_at e (codes "sings") d) _ (numbers_other (codes "sings") d) (λ ss.
      then_other (numbers_at e (codes "fwds") d) _ (numbers_other (codes "fwds") d) (λ fs.
      then_other (numbers_at e (codes "bwds") d) _ (numbers_other (codes "bwds") d) (λ bs. tt))))

  arrow_other : (d : Data) → Others (arrow_node e d)
  arrow_other d =
      then_other (numbers_at e (codes "heights") d) _ (numbers_other (codes "heights") d) (λ hs.
      then_other (numbers_at e (codes "regs") d) _ (numbers_other (codes "regs") d) (λ rs.
      then_other (numbers_at e (codes "sings") d) _ (numbers_other (codes "sings") d) (λ ss. tt)))

  form_other : (d : Data) → Others (form_of e d)
  form_other d =
      either_other (has_keys (codes "label" ∷ []) d) _ _ (label_other d)
      (either_other (has_keys (codes "labels" ∷ []) d) _ _ (labels_other d)
      (either_other (has_keys (codes "bwds" ∷ codes "fwds" ∷ codes "regs" ∷ codes "sings" ∷ []) d) _ _ (diagram_other d)
      (either_other (has_keys (codes "heights" ∷ codes "regs" ∷ codes "sings" ∷ []) d) _ _ (arrow_other d) other)))

  module _ (sorts : List Sort) (taken : List ℕ → Bool) (d : Data) where
    diagram_place_other : (key : List ℕ) → Others (diagram_place e sorts key d)
    diagram_place_other key = then_other (number_at e key d) _ (or_other _) (λ i. then_other (when (is_diagram (slice_get sorts i)) e) _ (when_other _) (λ t. tt))

    arrow_place_other : (key : List ℕ) → Others (arrow_place e sorts key d)
    arrow_place_other key = then_other (number_at e key d) _ (or_other _) (λ i. then_other (when (is_arrow (slice_get sorts i)) e) _ (when_other _) (λ t. tt))

    name_other : Others (name_in e taken d)
    name_other = then_other (text_at e (codes "name") d) _ (or_other _) (λ name. then_other (when (is_good_name name && not (taken name)) e) _ (when_other _) (λ t. tt))

    cell_other : Others (cell_entry e sorts taken d)
    cell_other =
        then_other (when (has_keys (codes "name" ∷ codes "source" ∷ codes "target" ∷ []) d) e) _ (when_other _) (λ t.
        then_other (name_in e taken d) _ name_other (λ name.
        then_other (diagram_place e sorts (codes "source") d) _ (diagram_place_other (codes "source")) (λ i.
        then_other (diagram_place e sorts (codes "target") d) _ (diagram_place_other (codes "target")) (λ j. tt))))

    generator_other : Others (generator_entry e sorts taken d)
    unfolding generator_entry
    generator_other = either_other (has_keys (codes "name" ∷ []) d) _ _ (then_other (name_in e taken d) _ name_other (λ name. tt)) cell_other

    root_other : Others (diagram_entry e sorts taken d)
    unfolding diagram_entry
    root_other =
        then_other (when (has_keys (codes "name" ∷ codes "root" ∷ []) d) e) _ (when_other _) (λ t.
        then_other (name_in e taken d) _ name_other (λ name.
        then_other (diagram_place e sorts (codes "root") d) _ (diagram_place_other (codes "root")) (λ i. tt)))

    map_other : Others (map_entry e sorts taken d)
    unfolding map_entry
    map_other =
        then_other (when (has_keys (codes "arrow" ∷ codes "name" ∷ codes "source" ∷ codes "target" ∷ []) d) e) _ (when_other _) (λ t.
        then_other (name_in e taken d) _ name_other (λ name.
        then_other (diagram_place e sorts (codes "source") d) _ (diagram_place_other (codes "source")) (λ i.
        then_other (diagram_place e sorts (codes "target") d) _ (diagram_place_other (codes "target")) (λ j.
        then_other (arrow_place e sorts (codes "arrow") d) _ (arrow_place_other (codes "arrow")) (λ k. tt)))))

node_other : (done : List Node) (d : Data) → Others (node_at done d)
unfolding node_at
node_other done d =
    then_other (written_at (length done) d) _
    (then_other (form_of (fault.Shape (length done)) d) _ (form_other (fault.Shape (length done)) tt d) (λ n.
    then_other (when (labels_within_limits n) (fault.Label (length done))) _ (when_other (fault.Label (length done)) tt _) (λ t. tt))) (λ n.
    then_other (sort_behind (sorts_of done) n) _
    (then_other (when (places_below (length (sorts_of done)) n) (fault.Early (length (sorts_of done)))) _ (when_other (fault.Early (length (sorts_of done))) tt _) (λ t.
    or_other (fault.Shape (length (sorts_of done))) tt (sort_of (sorts_of done) n))) (λ s. tt))

module _ (sorts : List Sort) (taken : List ℕ → Bool) (ds : List Data) where
  generators_other : Others (generators_in sorts taken ds)
  unfolding generator_at
  generators_other = each_other (generator_at sorts taken) (λ done d.
      then_other (when (nat_lt (length done) MAX_GENERATORS) (entry_fault field.Generators (length done))) _ (when_other (entry_fault field.Generators (length done)) tt _) (λ t.
      generator_other (entry_fault field.Generators (length done)) tt sorts (also taken (generator_names done)) d)) [] ds

  diagrams_other : Others (diagrams_in sorts taken ds)
  unfolding diagram_at
  diagrams_other = each_other (diagram_at sorts taken) (λ done d. root_other (entry_fault field.Diagrams (length done)) tt sorts (also taken (diagram_names done)) d) [] ds

  maps_other : Others (maps_in sorts taken ds)
  unfolding map_at
  maps_other = each_other (map_at sorts taken) (λ done d. map_other (entry_fault field.Maps (length done)) tt sorts (also taken (map_names done)) d) [] ds

entries_other : (nodes : List Node) (d : Data) → Others (entries_of nodes d)
unfolding entries_of
entries_other nodes d =
    then_other (list_at (field_fault field.Generators) (codes "generators") d >>= generators_in (sorts_of nodes) (is_among [])) _
    (then_other (list_at (field_fault field.Generators) (codes "generators") d) _ (or_other (field_fault field.Generators) tt _) (generators_other (sorts_of nodes) (is_among []))) (λ gs.
    then_other (list_at (field_fault field.Diagrams) (codes "diagrams") d >>= diagrams_in (sorts_of nodes) (is_among (generator_names gs))) _
    (then_other (list_at (field_fault field.Diagrams) (codes "diagrams") d) _ (or_other (field_fault field.Diagrams) tt _) (diagrams_other (sorts_of nodes) _)) (λ es.
    then_other (list_at (field_fault field.Maps) (codes "maps") d >>= maps_in (sorts_of nodes) (is_among (generator_names gs ++ diagram_names es))) _
    (then_other (list_at (field_fault field.Maps) (codes "maps") d) _ (or_other (field_fault field.Maps) tt _) (maps_other (sorts_of nodes) _)) (λ ms. tt)))

document_other : (d : Data) → Others (document_of d)
unfolding document_of
document_other d =
    then_other (when (has_keys document_keys d) (field_fault field.Document)) _ (when_other (field_fault field.Document) tt _) (λ t.
    then_other (when (is_one (option_and_then whole_of (get (codes "format") d))) (field_fault field.Format)) _ (when_other (field_fault field.Format) tt _) (λ u.
    then_other (list_at (field_fault field.Nodes) (codes "nodes") d >>= nodes_in) _
    (then_other (list_at (field_fault field.Nodes) (codes "nodes") d) _ (or_other (field_fault field.Nodes) tt _) (each_other node_at node_other [])) (λ nodes.
    entries_other nodes d)))

no_json_at : (o : Option Data) → (or_fault fault.NotJson o >>= document_of) ≡ Err fault.NotJson → o ≡ None
no_json_at None is = refl
no_json_at (Some d) is = absurd (let P : Result Document FormFault → Type 0 = Others in subst P is (document_other d))

pub exact_no_json : (bytes : List ℕ) → exact_document bytes ≡ Err fault.NotJson → json_of bytes ≡ None
exact_no_json bytes is = no_json_at (json_of bytes) is

-- so a call that gives it answers `NotJson` only where the bytes are not JSON
pub no_json_given : (bytes : List ℕ) (answer : Result Document FormFault) → Gives (λ (d : Document). d) answer (exact_document bytes)
    → answer ≡ Err fault.NotJson → json_of bytes ≡ None
no_json_given bytes answer given is =
    let there : Gives (λ (d : Document). d) (Err fault.NotJson) (exact_document bytes) = subst (λ (r : Result Document FormFault). Gives (λ (d : Document). d) r (exact_document bytes)) is given in
    exact_no_json bytes there
