use Rattle.std.proofs.Common.{◌≡◌, List, length, true, subst, sym, ap, arith}
use Rattle.std.proofs.lemmas.List.Edits.{length-remove}
use Rattle.std.proofs.lemmas.List.Elements.{All-get_or}
use Rattle.workspace_json.specs.Workspaces.{IsWorkspace}
use Rattle.workspace_lists.specs.declared.names.Meaning.TheVariants as meaning
use Rattle.workspace_lists.specs.declared.workspace.Named.{Named}
use Rattle.workspace_lists.specs.Names.{knows}
use Rattle.workspace_lists.specs.Held.{trees_in}
use Rattle.session_state.specs.Meanings.{Tell}
use Rattle.session_state.proofs.EditsBack.{back_in}
use Rattle.session_state.proofs.ToldMeanings.{lists_at, tell_take_diagram, Replaces}
use Rattle.session_state.proofs.OppositeEdits.{diagram_put}
use Rattle.session_state.proofs.entries.Entries.take_diagram.Goals as goal

pub replace-taken-requires : goal.replace-taken-requires
replace-taken-requires c =
    let ds = c.args.self.now.workspace.diagrams.items in
    let d = c.remove-diagram.result in
    subst (λ name. knows c.args.self.now.names name ≡ true) (sym c.as_str.ensures)
    (subst (λ (e : Named). knows c.args.self.now.names e.name ≡ true) (sym c.remove-diagram.ensures.value)
    (All-get_or (λ (e : Named). knows c.args.self.now.names e.name ≡ true) ds c.args.place d c.requires.within c.requires.known.diagrams))

pub returns-clause-lists : goal.returns-clause-lists
returns-clause-lists c = ap (λ (xs : List Named). lists_at c.args.self.now.workspace.generators.items xs c.args.self.now.workspace.maps.items) c.remove-diagram.ensures.items

pub returns-clause-within : goal.returns-clause-within
returns-clause-within c =
    let n = length-remove c.args.self.now.workspace.diagrams.items c.args.place c.requires.within in
    let same = ap length c.remove-diagram.ensures.items in
    omega arith

pub returns-clause-back : goal.returns-clause-back
returns-clause-back c =
    ap (λ (xs : List Named). lists_at c.args.self.now.workspace.generators.items xs c.args.self.now.workspace.maps.items)
    (back_in c.args.self.now.workspace.diagrams.items c.remove-diagram.new.self.items c.args.place c.remove-diagram.result c.remove-diagram.ensures.value c.remove-diagram.ensures.items c.requires.within)

pub returns-clause-names : goal.returns-clause-names
returns-clause-names c = λ k tell typed held held' rule rule'.
    let gs = c.args.self.now.workspace.generators.items in
    let ms = c.args.self.now.workspace.maps.items in
    let ds = c.remove-diagram.new.self.items in
    let d = c.remove-diagram.result in
    let i = c.args.place in
    let names = c.args.self.now.names in
    let back = sym (back_in c.args.self.now.workspace.diagrams.items ds i d c.remove-diagram.ensures.value c.remove-diagram.ensures.items c.requires.within) in
    let replaced : Replaces names c.replace-taken.new.self d.name meaning.Free =
    subst (λ name. Replaces names c.replace-taken.new.self name meaning.Free) c.as_str.ensures c.replace-taken.ensures.meanings in
    record {
      tell = tell_take_diagram k gs ds ms i d names c.replace-taken.new.self replaced
          (subst (λ (xs : List Named). IsWorkspace (trees_in k (lists_at gs xs ms))) back rule)
          (subst (λ (xs : List Named). Tell k (trees_in k (lists_at gs xs ms)) names) back tell);
      type_of = tt;
    }

pub returns-clause-opposite : goal.returns-clause-opposite
returns-clause-opposite c = diagram_put c.args.place c.args.place c.remove-diagram.result
