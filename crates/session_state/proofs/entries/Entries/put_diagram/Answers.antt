use Rattle.std.proofs.Common.{◌≡◌, List, All, subst, sym}
use Rattle.std.specs.List.{insert}
use Rattle.hashcons.specs.Contents.{IsDiagramOf}
use Rattle.workspace_json.specs.Workspaces.{IsWorkspace}
use Rattle.workspace_lists.specs.declared.names.Meaning.TheVariants as meaning
use Rattle.workspace_lists.specs.declared.workspace.Named.{Named}
use Rattle.workspace_lists.specs.Held.{trees_in}
use Rattle.session_state.specs.Meanings.{Tell}
use Rattle.session_state.proofs.EditsBack.{all_put}
use Rattle.session_state.proofs.ToldMeanings.{lists_at, tell_put_diagram, Replaces}
use Rattle.session_state.proofs.entries.Entries.put_diagram.Goals as goal

pub returns-clause-names : goal.returns-clause-names
returns-clause-names c = λ k tell typed held held' rule rule'.
    let gs = c.args.self.now.workspace.generators.items in
    let ds = c.args.self.now.workspace.diagrams.items in
    let ms = c.args.self.now.workspace.maps.items in
    let d = c.args.diagram in
    let i = c.args.place in
    let names = c.args.self.now.names in
    let put : c.insert.new.self.items ≡ insert ds i d = c.in-Ok.ensures.items in
    let replaced : Replaces names c.replace-free.new.self d.name (meaning.Diagram d.root) =
    subst (λ name. Replaces names c.replace-free.new.self name (meaning.Diagram d.root)) c.as_str.ensures c.replace-free.ensures.meanings in
    let of_store : IsDiagramOf k d.root = all_put (λ (e : Named). IsDiagramOf k e.root) ds i d c.requires.within (subst (All (λ (e : Named). IsDiagramOf k e.root)) put held'.diagrams) in
    record {
      tell = subst (λ (xs : List Named). Tell k (trees_in k (lists_at gs xs ms)) c.replace-free.new.self) (sym put)
          (tell_put_diagram k gs ds ms i d names c.replace-free.new.self replaced of_store
          (subst (λ (xs : List Named). IsWorkspace (trees_in k (lists_at gs xs ms))) put rule') tell);
      type_of = tt;
    }
