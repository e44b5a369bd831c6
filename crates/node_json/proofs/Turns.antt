-- One turn of a loop that reads the values of a list.
use Rattle.std.proofs.Common.{◌≡◌, ℕ, ◌+◌, ◌<◌, List, [], ◌∷◌, ◌++◌, length, drop, get_or, map, Bool, Result, Ok, refl, ap, sym, ◌∙◌, add-one, drop-cons}
use Rattle.std.proofs.lemmas.List.{map-append}
use Rattle.serde_json.specs.Data.{Data}
use Rattle.serde_json.specs.View.{view}
use Rattle.serde_json.specs.declared.value.Value.{Value}
use Rattle.node_json.specs.declared.fault.FormFault.{FormFault}
use Rattle.node_json.specs.Step.{each}
use Rattle.node_json.specs.Names.{also}
use Rattle.node_json.proofs.NameSets.{also-push}

left : (list : List Value) (i : ℕ) (v : Value) → i < length list → v ≡ get_or list i v → map view (drop i list) ≡ view v ∷ map view (drop (i + 1) list)
left list i v within is = rw (drop-cons list i v, ← is, add-one) refl

-- what is left to read after one more value was read
pub turn : {B : Type 0} (step : List B → Data → Result B FormFault) (done : List B) (y : B) (list : List Value) (i : ℕ) (v : Value) (total : Result (List B) FormFault)
    → i < length list → v ≡ get_or list i v → step done (view v) ≡ Ok y → each step done (map view (drop i list)) ≡ total
    → each step (done ++ y ∷ []) (map view (drop (i + 1) list)) ≡ total
turn step done y list i v total within is read rest =
    let next : each step done (view v ∷ map view (drop (i + 1) list)) ≡ each step (done ++ y ∷ []) (map view (drop (i + 1) list)) = rw read refl in
    sym next ∙ ap (each step done) (sym (left list i v within is)) ∙ rest

-- the names that are taken after one more entry
pub names_turn : {E : Type 0} (name : E → List ℕ) (taken old new : List ℕ → Bool) (done : List E) (e : E)
    → old ≡ also taken (map name done) → new ≡ also old (name e ∷ []) → new ≡ also taken (map name (done ++ e ∷ []))
names_turn name taken old new done e before after =
    after ∙ ap (λ t. also t (name e ∷ [])) before ∙ also-push taken (map name done) (name e) ∙ ap (also taken) (sym (map-append name done (e ∷ [])))
