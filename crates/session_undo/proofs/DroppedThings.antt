-- A stored diagram or a stored map is dropped: the first of its name, which no other has.
use Rattle.std.proofs.Common.{◌≡◌, ℕ, zero, suc, ◌+◌, ◌<◌, ◌≤◌, List, [], ◌∷◌, length, map, cond, Bool, true, false, not, ◌||◌, Option, Some, None, option_map, refl, sym, ap, subst, ◌∙◌, arith, add-zero}
use Rattle.std.specs.List.{filter, position_from, remove}
use Rattle.std.specs.Prelude.{bytes_eq, is_some, position}
use Rattle.std.proofs.lemmas.Iterator.Adapters.{position_from-zero}
use Rattle.std.proofs.lemmas.List.{length-map}
use Rattle.std.proofs.lemmas.List.Sums.{sum_by-cons}
use Rattle.hashcons.specs.Contents.{IsDiagramOf}
use Rattle.workspace_json.specs.Maps.{NamedMap as NamedTrees}
use Rattle.workspace_json.specs.Workspaces.{IsWorkspace, NamedDiagram, Workspace, can_be_dropped, diagram_named, map_named, names_of, without}
use Rattle.workspace_json.proofs.KeptRules.{count_all, count_of, diagram_names, drops_keep_rule, generator_names, map_names}
use Rattle.workspace_lists.specs.declared.workspace.Named.{Named}
use Rattle.workspace_lists.specs.declared.workspace.NamedMap.{NamedMap}
use Rattle.workspace_lists.specs.Held.{IsMapOf, diagram_over, map_over, trees_in}
use Rattle.workspace_lists.specs.Names.{knows}
use Rattle.session_state.specs.declared.edit.Edit.{Edit}
use Rattle.session_state.specs.declared.edit.Edit.TheVariants as edit
use Rattle.session_state.specs.declared.state.State.{State}
use Rattle.session_state.specs.Edits.{edited}
use Rattle.session_state.specs.Kinds.{of_diagrams, of_maps}
use Rattle.session_state.specs.States.{CanAccept, HasRoomForEdit, HasRoomForOne, IsState, lists_of, present_of}
use Rattle.session_state.proofs.OppositeEdits.{total_put-le}
use Rattle.session_undo.specs.Outcomes.{taking, taking_by}
use Rattle.session_undo.proofs.WorkspaceRules.{all_removed}

-- ---- the first place

module _ {X : Type 0} (p : X → Bool) where
  abbrev first_place : List X → Option ℕ
  first_place [] = None
  first_place (x ∷ xs) = cond (p x) (Some 0) (option_map (λ k. suc k) (first_place xs))

  shift : (i : ℕ) (b : Bool) (o : Option ℕ) → cond b (Some i) (option_map (λ k. (i + 1) + k) o) ≡ option_map (λ k. i + k) (cond b (Some 0) (option_map (λ k. suc k) o))
  shift i true o = ap Some (sym (add-zero i))
  shift i false None = refl
  shift i false (Some k) = ap Some (omega arith)

  from_first : (i : ℕ) (xs : List X) → position_from p i xs ≡ option_map (λ k. i + k) (first_place xs)
  from_first i [] = refl
  from_first i (x ∷ xs) = ap (cond (p x) (Some i)) (from_first (i + 1) xs) ∙ shift i (p x) (first_place xs)

  same_option : (o : Option ℕ) → option_map (λ k. 0 + k) o ≡ o
  same_option None = refl
  same_option (Some k) = ap Some (omega arith)

  position_is : (xs : List X) → position p xs ≡ first_place xs
  position_is xs = position_from-zero p xs ∙ from_first 0 xs ∙ same_option (first_place xs)

  -- where none has it, all stay
  none_by : (b : Bool) (o : Option ℕ) (x : X) (us xs : List X) → cond b (Some 0) (option_map (λ k. suc k) o) ≡ None → (o ≡ None → us ≡ xs) → cond (not b) (x ∷ us) us ≡ x ∷ xs
  none_by true o x us xs e h = absurd (let z : ⊥ = cc in z)
  none_by false None x us xs e h = ap (λ ys. x ∷ ys) (h refl)
  none_by false (Some k) x us xs e h = absurd (let z : ⊥ = cc in z)

  none_goes : (xs : List X) → first_place xs ≡ None → filter (λ x. not (p x)) xs ≡ xs
  none_goes [] e = refl
  none_goes (x ∷ xs) e = none_by (p x) (first_place xs) x (filter (λ x. not (p x)) xs) xs e (none_goes xs)

-- the same place in lists that go over into each other
place_over : {X Y : Type 0} (g : X → Y) (p : Y → Bool) (xs : List X) → first_place p (map g xs) ≡ first_place (λ x. p (g x)) xs
place_over g p [] = refl
place_over g p (x ∷ xs) = ap (λ o. cond (p (g x)) (Some 0) (option_map (λ k. suc k) o)) (place_over g p xs)

map-remove : {X Y : Type 0} (f : X → Y) (xs : List X) (i : ℕ) → map f (remove xs i) ≡ remove (map f xs) i
map-remove f [] zero = refl
map-remove f [] (suc i) = refl
map-remove f (x ∷ xs) zero = refl
map-remove f (x ∷ xs) (suc i) = ap (λ ys. f x ∷ ys) (map-remove f xs i)

-- ---- names that stand once

module _ {X : Type 0} (f : X → List ℕ) (name : List ℕ) where
  abbrev has : X → Bool
  has x = bytes_eq (f x) name

  abbrev others : List X → List X
  others xs = filter (λ x. not (bytes_eq (f x) name)) xs

  counted : (x : X) (xs : List X) → count_of name (map f (x ∷ xs)) ≡ cond (has x) 1 0 + count_of name (map f xs)
  counted x xs = sum_by-cons (λ o. cond (bytes_eq o name) 1 0) (f x) (map f xs)

  keep_by : (b : Bool) (x : X) (us xs : List X) (n : ℕ) → cond b 1 0 + n ≡ 0 → (n ≡ 0 → us ≡ xs) → cond (not b) (x ∷ us) us ≡ x ∷ xs
  keep_by true x us xs n e h = absurd (omega arith)
  keep_by false x us xs n e h = ap (λ ys. x ∷ ys) (h (omega arith))

  keeps_all : (xs : List X) → count_of name (map f xs) ≡ 0 → others xs ≡ xs
  keeps_all [] e = refl
  keeps_all (x ∷ xs) e = keep_by (has x) x (others xs) xs (count_of name (map f xs)) (sym (counted x xs) ∙ e) (keeps_all xs)

  -- the place is one of the list, and the others are those without it
  record IsTaken (xs : List X) (place : ℕ) : Type 0 where
    within : place < length xs
    rest : others xs ≡ remove xs place
    once : 1 ≤ count_of name (map f xs)

  module _ (x : X) (xs : List X) (place : ℕ) where
    taken_by : (b : Bool) (o : Option ℕ) → has x ≡ b → first_place has xs ≡ o → cond b (Some 0) (option_map (λ k. suc k) o) ≡ Some place
        → cond b 1 0 + count_of name (map f xs) ≤ 1 → ((k : ℕ) → first_place has xs ≡ Some k → IsTaken xs k) → IsTaken (x ∷ xs) place
    taken_by true o b e g most h =
        let at : 0 ≡ place = cc in
        let sum = counted x xs ∙ ap (λ c. cond c 1 0 + count_of name (map f xs)) b in
        subst (IsTaken (x ∷ xs)) at record {
          within = omega arith;
          rest = ap (λ c. cond (not c) (x ∷ others xs) (others xs)) b ∙ keeps_all xs (omega arith);
          once = omega arith;
        }
    taken_by false None b e g most h = absurd (let z : ⊥ = cc in z)
    taken_by false (Some k) b e g most h =
        let at : suc k ≡ place = cc in
        let inner = h k e in
        let sum = counted x xs ∙ ap (λ c. cond c 1 0 + count_of name (map f xs)) b in
        subst (IsTaken (x ∷ xs)) at record {
          within = let w = inner.within in omega arith;
          rest = ap (λ c. cond (not c) (x ∷ others xs) (others xs)) b ∙ ap (λ ys. x ∷ ys) inner.rest;
          once = let o = inner.once in omega arith;
        }

  taken : (xs : List X) (place : ℕ) → count_of name (map f xs) ≤ 1 → first_place has xs ≡ Some place → IsTaken xs place
  taken [] place most e = absurd (let z : ⊥ = cc in z)
  taken (x ∷ xs) place most e =
      let sum = counted x xs in
      taken_by x xs place (has x) (first_place has xs) refl refl e (omega arith) (λ k g. taken xs k (omega arith) g)

-- ---- what is stored

abbrev diagram_name : NamedDiagram → List ℕ
diagram_name d = d.name

abbrev map_name : NamedTrees → List ℕ
map_name m = m.name

there_by : {Y : Type 0} (b : Bool) (y : Y) (o : Option Y) (u : Option ℕ) → is_some o ≡ is_some u → is_some (cond b (Some y) o) ≡ is_some (cond b (Some 0) (option_map (λ k. suc k) u))
there_by true y o u e = refl
there_by false y o None e = e
there_by false y o (Some k) e = e

diagram_there : (name : List ℕ) (ds : List NamedDiagram) → is_some (diagram_named ds name) ≡ is_some (first_place (has diagram_name name) ds)
diagram_there name [] = refl
diagram_there name (d ∷ ds) = there_by (bytes_eq d.name name) d.tree (diagram_named ds name) (first_place (has diagram_name name) ds) (diagram_there name ds)

map_there : (name : List ℕ) (ms : List NamedTrees) → is_some (map_named ms name) ≡ is_some (first_place (has map_name name) ms)
map_there name [] = refl
map_there name (m ∷ ms) = there_by (bytes_eq m.name name) m (map_named ms name) (first_place (has map_name name) ms) (map_there name ms)

-- ---- what a session keeps

-- An edit drops what a name names.
pub record Drops (s : State) (name : List ℕ) (e : Edit) : Type 0 where
  pub can : CanAccept s e
  pub there : can_be_dropped (present_of s) name ≡ true
  pub after : trees_in s.store (edited (lists_of s.entries) e) ≡ without (present_of s) name
  pub room : (other : List ℕ) → HasRoomForOne s other → HasRoomForEdit s e

module _ (s : State) (is : IsState s) (name : List ℕ) where
  abbrev W : Workspace
  W = present_of s

  abbrev diagram_place : Option ℕ
  diagram_place = position (λ (d : Named). bytes_eq d.name name) s.entries.workspace.diagrams.items

  abbrev map_place : Option ℕ
  map_place = position (λ (m : NamedMap). bytes_eq m.name name) s.entries.workspace.maps.items

  diagram_at_place : first_place (has diagram_name name) W.diagrams ≡ diagram_place
  diagram_at_place =
      place_over (diagram_over s.store) (has diagram_name name) s.entries.workspace.diagrams.items
      ∙ sym (position_is (λ (d : Named). bytes_eq d.name name) s.entries.workspace.diagrams.items)

  map_at_place : first_place (has map_name name) W.maps ≡ map_place
  map_at_place =
      place_over (map_over s.store) (has map_name name) s.entries.workspace.maps.items
      ∙ sym (position_is (λ (m : NamedMap). bytes_eq m.name name) s.entries.workspace.maps.items)

  can_drop_is : (o u : Option ℕ) → diagram_place ≡ o → map_place ≡ u → can_be_dropped W name ≡ (is_some o || is_some u)
  can_drop_is o u e f =
      (λ i. diagram_there name W.diagrams i || map_there name W.maps i)
      ∙ (λ i. is_some (diagram_at_place i) || is_some (map_at_place i)) ∙ (λ i. is_some (e i) || is_some (f i))

  rule_after : (e : Edit) → trees_in s.store (edited (lists_of s.entries) e) ≡ without W name → IsWorkspace (trees_in s.store (edited (lists_of s.entries) e))
  rule_after e after = subst IsWorkspace (sym after) (drops_keep_rule W name is.history.present.rule)

  -- the diagram goes, and no map has the name
  drops_diagram : (place : ℕ) (u : Option ℕ) → diagram_place ≡ Some place → map_place ≡ u → Drops s name (edit.TakeDiagram place)
  drops_diagram place u e f =
      let here = is.history.present in
      let all = count_all name (generator_names W) (diagram_names W) (map_names W) in
      let most : count_of name (names_of W) ≤ 1 = here.rule.once name in
      let gone = taken diagram_name name W.diagrams place (omega arith) (diagram_at_place ∙ e) in
      let once = gone.once in
      let maps_stay = keeps_all map_name name W.maps (omega arith) in
      let within : place < length s.entries.workspace.diagrams.items = let w = gone.within in let n = length-map s.entries.workspace.diagrams.items (diagram_over s.store) in omega arith in
      let after : trees_in s.store (edited (lists_of s.entries) (edit.TakeDiagram place)) ≡ without W name =
      (λ i. let w : Workspace = record {
        generators = W.generators;
        diagrams = (map-remove (diagram_over s.store) s.entries.workspace.diagrams.items place ∙ sym gone.rest) i;
        maps = sym maps_stay i;
      } in w) in
      let few = total_put-le of_diagrams s.past.items in
      let few_maps = total_put-le of_maps s.past.items in
      record {
        can = record {
          generators = is.generators;
          names = is.names;
          history = is.history;
          fits = record { within = within; type_of = tt };
          good = record {
            held = record {
              generators = here.held.generators;
              diagrams = all_removed (λ (d : Named). IsDiagramOf s.store d.root) place s.entries.workspace.diagrams.items here.held.diagrams;
              maps = here.held.maps;
            };
            known = record {
              generators = here.known.generators;
              diagrams = all_removed (λ (d : Named). knows s.entries.names d.name ≡ true) place s.entries.workspace.diagrams.items here.known.diagrams;
              maps = here.known.maps;
            };
            rule = rule_after (edit.TakeDiagram place) after;
          };
          forth = refl;
        };
        there = can_drop_is (Some place) u e f;
        after = after;
        room = λ other room. record {
          past = room.past;
          future = room.future;
          generators = let r = room.generators in omega arith;
          diagrams = let r = room.diagrams in omega arith;
          maps = let r = room.maps in omega arith;
        };
      }

  -- no diagram has the name, and the map goes
  drops_map : (place : ℕ) → diagram_place ≡ None → map_place ≡ Some place → Drops s name (edit.TakeMap place)
  drops_map place e f =
      let here = is.history.present in
      let all = count_all name (generator_names W) (diagram_names W) (map_names W) in
      let most : count_of name (names_of W) ≤ 1 = here.rule.once name in
      let gone = taken map_name name W.maps place (omega arith) (map_at_place ∙ f) in
      let diagrams_stay = none_goes (has diagram_name name) W.diagrams (diagram_at_place ∙ e) in
      let within : place < length s.entries.workspace.maps.items = let w = gone.within in let n = length-map s.entries.workspace.maps.items (map_over s.store) in omega arith in
      let after : trees_in s.store (edited (lists_of s.entries) (edit.TakeMap place)) ≡ without W name =
      (λ i. let w : Workspace = record {
        generators = W.generators;
        diagrams = sym diagrams_stay i;
        maps = (map-remove (map_over s.store) s.entries.workspace.maps.items place ∙ sym gone.rest) i;
      } in w) in
      let few = total_put-le of_diagrams s.past.items in
      let few_maps = total_put-le of_maps s.past.items in
      record {
        can = record {
          generators = is.generators;
          names = is.names;
          history = is.history;
          fits = record { within = within; type_of = tt };
          good = record {
            held = record {
              generators = here.held.generators;
              diagrams = here.held.diagrams;
              maps = all_removed (λ (m : NamedMap). IsMapOf s.store m.map) place s.entries.workspace.maps.items here.held.maps;
            };
            known = record {
              generators = here.known.generators;
              diagrams = here.known.diagrams;
              maps = all_removed (λ (m : NamedMap). knows s.entries.names m.name ≡ true) place s.entries.workspace.maps.items here.known.maps;
            };
            rule = rule_after (edit.TakeMap place) after;
          };
          forth = refl;
        };
        there = can_drop_is None (Some place) e f;
        after = after;
        room = λ other room. record {
          past = room.past;
          future = room.future;
          generators = let r = room.generators in omega arith;
          diagrams = let r = room.diagrams in omega arith;
          maps = let r = room.maps in omega arith;
        };
      }

  drops_by : (o u : Option ℕ) (e : Edit) → diagram_place ≡ o → map_place ≡ u → taking_by o u ≡ Some e → Drops s name e
  drops_by (Some place) u e f g h = let same : edit.TakeDiagram place ≡ e = cc in subst (Drops s name) same (drops_diagram place u f g)
  drops_by None (Some place) e f g h = let same : edit.TakeMap place ≡ e = cc in subst (Drops s name) same (drops_map place f g)
  drops_by None None e f g h = absurd (let z : ⊥ = cc in z)

  pub drops : (e : Edit) → taking (lists_of s.entries) name ≡ Some e → Drops s name e
  drops e h = drops_by diagram_place map_place e refl refl h

  none_dropped : (o u : Option ℕ) → diagram_place ≡ o → map_place ≡ u → taking_by o u ≡ None → can_be_dropped W name ≡ false
  none_dropped (Some place) u f g h = absurd (let z : ⊥ = cc in z)
  none_dropped None (Some place) f g h = absurd (let z : ⊥ = cc in z)
  none_dropped None None f g h = can_drop_is None None f g

  pub no_drop : taking (lists_of s.entries) name ≡ None → can_be_dropped W name ≡ false
  no_drop h = none_dropped diagram_place map_place refl refl h
