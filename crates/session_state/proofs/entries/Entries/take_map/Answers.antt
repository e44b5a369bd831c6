use Rattle.std.proofs.Common.{◌≡◌, List, length, true, subst, sym, ap, arith}
use Rattle.std.proofs.lemmas.List.Edits.{length-remove}
use Rattle.std.proofs.lemmas.List.Elements.{All-get_or}
use Rattle.workspace_json.specs.Workspaces.{IsWorkspace}
use Rattle.workspace_lists.specs.declared.names.Meaning.TheVariants as meaning
use Rattle.workspace_lists.specs.declared.workspace.NamedMap.{NamedMap}
use Rattle.workspace_lists.specs.Names.{knows}
use Rattle.workspace_lists.specs.Held.{trees_in}
use Rattle.session_state.specs.Meanings.{Tell}
use Rattle.session_state.proofs.EditsBack.{back_in}
use Rattle.session_state.proofs.ToldMeanings.{lists_at, tell_take_map, Replaces}
use Rattle.session_state.proofs.OppositeEdits.{map_put}
use Rattle.session_state.proofs.entries.Entries.take_map.Goals as goal

pub replace-taken-requires : goal.replace-taken-requires
replace-taken-requires c =
    let ms = c.args.self.now.workspace.maps.items in
    let m = c.remove-map.result in
    subst (λ name. knows c.args.self.now.names name ≡ true) (sym c.as_str.ensures)
    (subst (λ (e : NamedMap). knows c.args.self.now.names e.name ≡ true) (sym c.remove-map.ensures.value)
    (All-get_or (λ (e : NamedMap). knows c.args.self.now.names e.name ≡ true) ms c.args.place m c.requires.within c.requires.known.maps))

pub returns-clause-lists : goal.returns-clause-lists
returns-clause-lists c = ap (λ (xs : List NamedMap). lists_at c.args.self.now.workspace.generators.items c.args.self.now.workspace.diagrams.items xs) c.remove-map.ensures.items

pub returns-clause-within : goal.returns-clause-within
returns-clause-within c =
    let n = length-remove c.args.self.now.workspace.maps.items c.args.place c.requires.within in
    let same = ap length c.remove-map.ensures.items in
    omega arith

pub returns-clause-back : goal.returns-clause-back
returns-clause-back c =
    ap (λ (xs : List NamedMap). lists_at c.args.self.now.workspace.generators.items c.args.self.now.workspace.diagrams.items xs)
    (back_in c.args.self.now.workspace.maps.items c.remove-map.new.self.items c.args.place c.remove-map.result c.remove-map.ensures.value c.remove-map.ensures.items c.requires.within)

pub returns-clause-names : goal.returns-clause-names
returns-clause-names c = λ k tell typed held held' rule rule'.
    let gs = c.args.self.now.workspace.generators.items in
    let ds = c.args.self.now.workspace.diagrams.items in
    let ms = c.remove-map.new.self.items in
    let m = c.remove-map.result in
    let i = c.args.place in
    let names = c.args.self.now.names in
    let back = sym (back_in c.args.self.now.workspace.maps.items ms i m c.remove-map.ensures.value c.remove-map.ensures.items c.requires.within) in
    let replaced : Replaces names c.replace-taken.new.self m.name meaning.Free =
    subst (λ name. Replaces names c.replace-taken.new.self name meaning.Free) c.as_str.ensures c.replace-taken.ensures.meanings in
    record {
      tell = tell_take_map k gs ds ms i m names c.replace-taken.new.self replaced
          (subst (λ (xs : List NamedMap). IsWorkspace (trees_in k (lists_at gs ds xs))) back rule)
          (subst (λ (xs : List NamedMap). Tell k (trees_in k (lists_at gs ds xs)) names) back tell);
      type_of = tt;
    }

pub returns-clause-opposite : goal.returns-clause-opposite
returns-clause-opposite c = map_put c.args.place c.args.place c.remove-map.result
