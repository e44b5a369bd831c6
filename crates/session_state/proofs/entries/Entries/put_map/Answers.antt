use Rattle.std.proofs.Common.{◌≡◌, List, All, subst, sym}
use Rattle.std.specs.List.{insert}
use Rattle.workspace_json.specs.Workspaces.{IsWorkspace}
use Rattle.workspace_lists.specs.declared.names.Meaning.TheVariants as meaning
use Rattle.workspace_lists.specs.declared.workspace.NamedMap.{NamedMap}
use Rattle.workspace_lists.specs.Held.{IsMapOf, trees_in}
use Rattle.session_state.specs.Meanings.{Tell}
use Rattle.session_state.proofs.EditsBack.{all_put}
use Rattle.session_state.proofs.ToldMeanings.{lists_at, tell_put_map, Replaces}
use Rattle.session_state.proofs.entries.Entries.put_map.Goals as goal

pub returns-clause-names : goal.returns-clause-names
returns-clause-names c = λ k tell typed held held' rule rule'.
    let gs = c.args.self.now.workspace.generators.items in
    let ds = c.args.self.now.workspace.diagrams.items in
    let ms = c.args.self.now.workspace.maps.items in
    let m = c.args.map in
    let i = c.args.place in
    let names = c.args.self.now.names in
    let put : c.insert.new.self.items ≡ insert ms i m = c.in-Ok.ensures.items in
    let replaced : Replaces names c.replace-free.new.self m.name (meaning.Map m.map) =
    subst (λ name. Replaces names c.replace-free.new.self name (meaning.Map m.map)) c.as_str.ensures c.replace-free.ensures.meanings in
    let of_store : IsMapOf k m.map = all_put (λ (e : NamedMap). IsMapOf k e.map) ms i m c.requires.within (subst (All (λ (e : NamedMap). IsMapOf k e.map)) put held'.maps) in
    record {
      tell = subst (λ (xs : List NamedMap). Tell k (trees_in k (lists_at gs ds xs)) c.replace-free.new.self) (sym put)
          (tell_put_map k gs ds ms i m names c.replace-free.new.self replaced of_store
          (subst (λ (xs : List NamedMap). IsWorkspace (trees_in k (lists_at gs ds xs))) put rule') tell);
      type_of = tt;
    }
