-- The maps that names name, one after the other, and whether they are into one diagram.
use Rattle.std.proofs.Common.{◌≡◌, ◌∙◌, ℕ, ◌<◌, List, [], ◌∷◌, ◌++◌, ◌+◌, length, get_or, take, drop, All, true, eqb, Option, Some, None, Result, Ok, Err, refl, sym, ap, arith}
use Rattle.std.specs.List.{list_all}
use Rattle.std.specs.Prelude.{◌&&◌}
use Rattle.std.proofs.lemmas.Bool.{and_parts, eqb-true}
use Rattle.std.proofs.lemmas.List.{drop_more, length-take-le, take-append-drop, take_more}
use Rattle.std.proofs.lemmas.List.Elements.{All-cons, All-from_get_or, All-get_or, All-head, All-nil, All-tail}
use Rattle.diagram_terms.specs.Completion.{same_tree}
use Rattle.diagram_terms.specs.Tree.{Tree}
use Rattle.diagram_terms.specs.ValidTrees.{IsValidTree}
use Rattle.hashcons.specs.Contents.{Contents, Grows, IsDiagramOf, IsStore, diagram_at}
use Rattle.zigzag_maps.specs.declared.map.Map.{Map}
use Rattle.zigzag_maps.specs.Found.{IsValidMap}
use Rattle.normalise.specs.NormalMaps.{AreMapsInto, no_map}
use Rattle.workspace_json.specs.declared.refusal.Refusal.{Refusal}
use Rattle.workspace_json.specs.declared.refusal.Refusal.TheVariants as refusal
use Rattle.workspace_json.specs.Maps.{NamedMap}
use Rattle.workspace_json.specs.MapSteps.{known_map}
use Rattle.workspace_json.specs.NormalSteps.{known_maps}
use Rattle.workspace_json.specs.Steps.{◌>>=◌, or_refuse, referred}
use Rattle.workspace_json.specs.Workspaces.{IsWorkspace, Workspace, reference}
use Rattle.workspace_json.proofs.MapRules.{gave}
use Rattle.workspace_json.proofs.SoundTerms.{reference_is_sound}
use Rattle.workspace_lists.specs.Held.{map_called}
use Rattle.session_undo.specs.NormalForms.{maps_called}
use Rattle.session_undo.proofs.EqualIds.{same_ids}
use Rattle.session_undo.proofs.StoredMaps.{called_kept}

-- ---- names, one after the other

abbrev found : List NamedMap → Result (List NamedMap) Refusal
found ms = Ok ms

was_found : (xs ys : List NamedMap) → found xs ≡ found ys → xs ≡ ys
was_found xs ys e = cc

known_push : (W : Workspace) (names : List (List ℕ)) (name : List ℕ) (ms : List NamedMap) (m : NamedMap) → known_maps W names ≡ Ok ms → known_map W name ≡ Ok m
    → known_maps W (names ++ name ∷ []) ≡ Ok (ms ++ m ∷ [])
known_push W [] name ms m e f = ap (λ r. r >>= λ n. found (n ∷ [])) f ∙ ap (λ ns. found (ns ++ m ∷ [])) (was_found [] ms e)
known_push W (other ∷ names) name ms m e f =
    let a = gave (known_map W other) _ ms e in
    let b = gave (known_maps W names) _ ms a.rest in
    ap (λ r. r >>= λ n. known_maps W (names ++ name ∷ []) >>= λ ns. found (n ∷ ns)) a.was
    ∙ ap (λ r. r >>= λ ns. found (a.value ∷ ns)) (known_push W names name b.value m b.was f)
    ∙ ap (λ ns. found (ns ++ m ∷ [])) (was_found (a.value ∷ b.value) ms b.rest)

known_stops : (W : Workspace) (names more : List (List ℕ)) (name : List ℕ) (ms : List NamedMap) (r : Refusal) → known_maps W names ≡ Ok ms → known_map W name ≡ Err r
    → known_maps W (names ++ name ∷ more) ≡ Err r
known_stops W [] more name ms r e f = ap (λ r. r >>= λ n. known_maps W more >>= λ ns. found (n ∷ ns)) f
known_stops W (other ∷ names) more name ms r e f =
    let a = gave (known_map W other) _ ms e in
    let b = gave (known_maps W names) _ ms a.rest in
    ap (λ r. r >>= λ n. known_maps W (names ++ name ∷ more) >>= λ ns. found (n ∷ ns)) a.was
    ∙ ap (λ r. r >>= λ ns. found (a.value ∷ ns)) (known_stops W names more name b.value r b.was f)

called_push : (c : Contents) (names : List (List ℕ)) (name : List ℕ) (ms : List Map) (m : Map) → length names ≡ length ms
    → maps_called c (names ++ name ∷ []) (ms ++ m ∷ []) ≡ maps_called c names ms ++ map_called c name m ∷ []
called_push c [] name [] m e = refl
called_push c [] name (n ∷ ms) m e = absurd (let z : ⊥ = omega arith in z)
called_push c (other ∷ names) name [] m e = absurd (let z : ⊥ = omega arith in z)
called_push c (other ∷ names) name (n ∷ ms) m e = ap (λ ns. map_called c other n ∷ ns) (called_push c names name ms m (omega arith))

-- up to a place of the names
pub found_next : (W : Workspace) (c : Contents) (names : List (List ℕ)) (i : ℕ) (name : List ℕ) (ms : List Map) (m : Map) → i < length names → name ≡ get_or names i name
    → length ms ≡ i → known_maps W (take i names) ≡ Ok (maps_called c (take i names) ms) → known_map W name ≡ Ok (map_called c name m)
    → known_maps W (take (i + 1) names) ≡ Ok (maps_called c (take (i + 1) names) (ms ++ m ∷ []))
found_next W c names i name ms m l is len e f =
    let more : take (i + 1) names ≡ take i names ++ name ∷ [] = take_more names i name l ∙ ap (λ x. take i names ++ x ∷ []) (sym is) in
    let k = length-take-le i names (omega arith) in
    ap (known_maps W) more ∙ known_push W (take i names) name (maps_called c (take i names) ms) (map_called c name m) e f
    ∙ ap found (sym (called_push c (take i names) name ms m (omega arith)) ∙ ap (λ ns. maps_called c ns (ms ++ m ∷ [])) (sym more))

pub found_stops : (W : Workspace) (c : Contents) (names : List (List ℕ)) (i : ℕ) (name : List ℕ) (ms : List Map) (r : Refusal) → i < length names → name ≡ get_or names i name
    → known_maps W (take i names) ≡ Ok (maps_called c (take i names) ms) → known_map W name ≡ Err r → known_maps W names ≡ Err r
found_stops W c names i name ms r l is e f =
    let whole : take i names ++ name ∷ drop (i + 1) names ≡ names =
    ap (λ x. take i names ++ x ∷ drop (i + 1) names) is ∙ ap (λ xs. take i names ++ xs) (sym (drop_more names i name l)) ∙ take-append-drop i names in
    ap (known_maps W) (sym whole) ∙ known_stops W (take i names) (drop (i + 1) names) name (maps_called c (take i names) ms) r e f

-- ---- the same over a store that grew

pub called-kept : (old new : Contents) → Grows old new → (names : List (List ℕ)) (ms : List Map) → All (IsValidMap old) ms
    → maps_called new names ms ≡ maps_called old names ms
called-kept old new g [] ms all = refl
called-kept old new g (name ∷ names) [] all = refl
called-kept old new g (name ∷ names) (m ∷ ms) all =
    let v = All-head (IsValidMap old) m ms all in
    let here = called_kept old new m g (record { source = v.source.of_store; target = v.target.of_store; arrow = v.arrow }) name in
    let more = called-kept old new g names ms (All-tail (IsValidMap old) m ms all) in
    λ i. here i ∷ more i

-- ---- maps into one diagram

pub into_trees : (c : Contents) → IsStore c → (t : ℕ) → IsDiagramOf c t → (names : List (List ℕ)) (ms : List Map) → length names ≡ length ms → All (IsValidMap c) ms
    → list_all (λ (m : Map). eqb m.target t) ms ≡ list_all (λ (m : NamedMap). same_tree m.target (diagram_at c t)) (maps_called c names ms)
into_trees c store t l [] [] e all = refl
into_trees c store t l [] (m ∷ ms) e all = absurd (let z : ⊥ = omega arith in z)
into_trees c store t l (name ∷ names) [] e all = absurd (let z : ⊥ = omega arith in z)
into_trees c store t l (name ∷ names) (m ∷ ms) e all =
    let v = All-head (IsValidMap c) m ms all in
    let here = same_ids c store m.target t v.target.of_store l in
    let more = into_trees c store t l names ms (omega arith) (All-tail (IsValidMap c) m ms all) in
    λ i. here i && more i

pub into_ids : (t : ℕ) (ms : List Map) → list_all (λ (m : Map). eqb m.target t) ms ≡ true → All (λ (m : Map). m.target ≡ t) ms
into_ids t [] e = All-nil (λ (m : Map). m.target ≡ t)
into_ids t (m ∷ ms) e =
    let p = and_parts (eqb m.target t) (list_all (λ (n : Map). eqb n.target t) ms) e in
    All-cons (λ (n : Map). n.target ≡ t) m ms (eqb-true m.target t p.0) (into_ids t ms p.1)

pub are_maps_into : (c : Contents) (t : ℕ) (ms : List Map) → All (IsValidMap c) ms → All (λ (m : Map). m.target ≡ t) ms → AreMapsInto c t ms
are_maps_into c t ms valid into = record {
  valid = λ i l. All-get_or (IsValidMap c) ms i no_map l valid;
  into = λ i l. All-get_or (λ (m : Map). m.target ≡ t) ms i no_map l into;
}

pub all_valid : (c : Contents) (t : ℕ) (ms : List Map) → AreMapsInto c t ms → All (IsValidMap c) ms
all_valid c t ms h = All-from_get_or (IsValidMap c) ms no_map h.valid

-- ---- a reference stands for a valid diagram

is_referred : (r : Refusal) (o : Option Tree) (t : Tree) → or_refuse r o ≡ Ok t → o ≡ Some t
is_referred r None t e = absurd (let z : ⊥ = cc in z)
is_referred r (Some u) t e = cc

pub valid_reference : (W : Workspace) → IsWorkspace W → (of : List ℕ) (t : Tree) → referred W of ≡ Ok t → IsValidTree t
valid_reference W rule of t e = (reference_is_sound W rule of t (is_referred (refusal.Unknown of) (reference W of) t e)).valid
