-- A map is added to what a session keeps.
use Rattle.std.proofs.Common.{◌≡◌, ℕ, List, [], ◌∷◌, ◌++◌, length, map, cond, Bool, true, false, Option, Some, All, refl, sym, ap, subst, ◌∙◌, arith}
use Rattle.std.specs.List.{insert}
use Rattle.std.proofs.lemmas.List.{map-append}
use Rattle.std.proofs.lemmas.List.Edits.{insert_end}
use Rattle.std.proofs.lemmas.List.Elements.{All-head, All-push, All-tail}
use Rattle.hashcons.specs.Contents.{Contents, Grows}
use Rattle.workspace_json.specs.Maps.{IsMap, NamedMap as NamedTrees}
use Rattle.workspace_json.specs.Workspaces.{IsWorkspace, Workspace, map_named, with_map}
use Rattle.workspace_lists.specs.declared.workspace.NamedMap.{NamedMap}
use Rattle.workspace_lists.specs.Held.{IsMapOf, Lists, map_called, map_over, trees_in}
use Rattle.zigzag_maps.specs.declared.map.Map.{Map}
use Rattle.zigzag_maps.specs.Found.{IsValidMap}
use Rattle.std.specs.Prelude.{bytes_eq}
use Rattle.workspace_lists.specs.Names.{knows}
use Rattle.session_state.specs.declared.edit.Edit.{Edit}
use Rattle.session_state.specs.declared.edit.Edit.TheVariants as edit
use Rattle.session_state.specs.declared.state.State.{State}
use Rattle.session_state.specs.Edits.{edited}
use Rattle.session_state.specs.Kinds.{of_diagrams, of_maps}
use Rattle.session_state.specs.States.{CanAccept, HasRoomForEdit, HasRoomForOne, IsState, lists_of, present_of}
use Rattle.session_state.proofs.OppositeEdits.{total_put-le}

pub with_map_in : (c : Contents) (l : Lists) (place : ℕ) (m : NamedMap) → place ≡ length l.maps
    → trees_in c (edited l (edit.PutMap place m)) ≡ with_map (trees_in c l) (map_over c m)
with_map_in c l place m e =
    ap (λ ms. let w : Workspace = record { generators = (trees_in c l).generators; diagrams = (trees_in c l).diagrams; maps = ms } in w)
    (ap (λ ms. map (map_over c) ms) (ap (λ n. insert l.maps n m) e ∙ insert_end l.maps m) ∙ map-append (map_over c) l.maps (m ∷ []))

-- a map over a store that grew
pub called_kept : (old new : Contents) (m : Map) → Grows old new → IsMapOf old m → (name : List ℕ) → map_called new name m ≡ map_called old name m
called_kept old new m grows of name = λ i.
    let t : NamedTrees = record { name = name; source = grows.diagram_trees m.source of.source i; target = grows.diagram_trees m.target of.target i; arrow = grows.arrow_trees m.arrow of.arrow i } in t

-- a stored map is by the rule
named_by : (b : Bool) (m x : NamedTrees) (o : Option NamedTrees) → cond b (Some m) o ≡ Some x → IsMap m → (o ≡ Some x → IsMap x) → IsMap x
named_by true m x o e is h = let same : m ≡ x = cc in subst IsMap same is
named_by false m x o e is h = h e

pub map_rule : (ms : List NamedTrees) (name : List ℕ) (x : NamedTrees) → All IsMap ms → map_named ms name ≡ Some x → IsMap x
map_rule [] name x all e = absurd (let z : ⊥ = cc in z)
map_rule (m ∷ ms) name x all e = named_by (bytes_eq m.name name) m x (map_named ms name) e (All-head IsMap m ms all) (map_rule ms name x (All-tail IsMap m ms all))

pub valid_of : (c : Contents) (m : Map) (name : List ℕ) → IsMap (map_called c name m) → IsMapOf c m → IsValidMap c m
valid_of c m name is of = record {
  source = record { of_store = of.source; valid = is.source };
  target = record { of_store = of.target; valid = is.target };
  arrow = of.arrow;
  between = is.arrow;
}

module _ (s : State) (is : IsState s) (m : NamedMap) (place : ℕ) (last : place ≡ length s.entries.workspace.maps.items) where
  abbrev put : Edit
  put = edit.PutMap place m

  longer : (edited (lists_of s.entries) put).maps ≡ s.entries.workspace.maps.items ++ m ∷ []
  longer = ap (λ n. insert s.entries.workspace.maps.items n m) last ∙ insert_end s.entries.workspace.maps.items m

  pub can_put_map : IsWorkspace (with_map (present_of s) (map_over s.store m)) → IsMapOf s.store m.map → knows s.entries.names m.name ≡ true → CanAccept s put
  can_put_map rule of_store known =
      let here = is.history.present in record {
        generators = is.generators;
        names = is.names;
        history = is.history;
        fits = record { within = omega arith; type_of = tt };
        good = record {
          held = record {
            generators = here.held.generators;
            diagrams = here.held.diagrams;
            maps = subst (All (λ (n : NamedMap). IsMapOf s.store n.map)) (sym longer) (All-push (λ (n : NamedMap). IsMapOf s.store n.map) s.entries.workspace.maps.items m here.held.maps of_store);
          };
          known = record {
            generators = here.known.generators;
            diagrams = here.known.diagrams;
            maps = subst (All (λ (n : NamedMap). knows s.entries.names n.name ≡ true)) (sym longer) (All-push (λ (n : NamedMap). knows s.entries.names n.name ≡ true) s.entries.workspace.maps.items m here.known.maps known);
          };
          rule = subst IsWorkspace (sym (with_map_in s.store (lists_of s.entries) place m last)) rule;
        };
        forth = refl;
      }

  pub room_to_put_map : (name : List ℕ) → HasRoomForOne s name → HasRoomForEdit s put
  room_to_put_map name room =
      let few = total_put-le of_diagrams s.past.items in
      let few_maps = total_put-le of_maps s.past.items in record {
        past = room.past;
        future = room.future;
        generators = let r = room.generators in omega arith;
        diagrams = let r = room.diagrams in omega arith;
        maps = let r = room.maps in omega arith;
      }
