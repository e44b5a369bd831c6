use Rattle.std.proofs.Common.{◌≡◌, ◌++◌, ◌∷◌, [], List, subst, sym}
use Rattle.workspace_json.specs.Workspaces.{IsWorkspace}
use Rattle.workspace_lists.specs.declared.workspace.Generator.{Generator}
use Rattle.workspace_lists.specs.Held.{trees_in}
use Rattle.session_state.specs.Meanings.{Tell}
use Rattle.session_state.proofs.ToldMeanings.{lists_at, tell_put_generator, Replaces}
use Rattle.session_state.proofs.entries.Entries.put_generator.Goals as goal

pub returns-clause-names : goal.returns-clause-names
returns-clause-names c = λ k tell typed held held' rule rule'.
    let gs = c.args.self.now.workspace.generators.items in
    let ds = c.args.self.now.workspace.diagrams.items in
    let ms = c.args.self.now.workspace.maps.items in
    let replaced : Replaces c.args.self.now.names c.replace-free.new.self c.args.generator.name c.args.meaning =
    subst (λ name. Replaces c.args.self.now.names c.replace-free.new.self name c.args.meaning) c.as_str.ensures c.replace-free.ensures.meanings in
    let pushed : c.push_reserved.new.self.items ≡ gs ++ c.args.generator ∷ [] = c.push_reserved.ensures.items in
    record {
      tell = subst (λ (xs : List Generator). Tell k (trees_in k (lists_at xs ds ms)) c.replace-free.new.self) (sym pushed)
          (tell_put_generator k gs ds ms c.args.generator c.args.meaning c.args.self.now.names c.replace-free.new.self replaced typed
          (subst (λ (xs : List Generator). IsWorkspace (trees_in k (lists_at xs ds ms))) pushed rule') tell);
      type_of = tt;
    }
