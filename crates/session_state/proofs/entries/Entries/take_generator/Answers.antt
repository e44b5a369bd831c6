use Rattle.std.proofs.Common.{◌≡◌, ◌∙◌, ◌++◌, ◌∷◌, [], List, length, true, All, subst, sym, ap}
use Rattle.workspace_json.specs.Workspaces.{IsWorkspace}
use Rattle.workspace_lists.specs.declared.names.Meaning.TheVariants as meaning
use Rattle.workspace_lists.specs.declared.workspace.Generator.{Generator}
use Rattle.workspace_lists.specs.Names.{knows, meaning_in}
use Rattle.workspace_lists.specs.Held.{trees_in}
use Rattle.session_state.specs.Edits.{IsTypeOf}
use Rattle.session_state.specs.Meanings.{Tell}
use Rattle.session_state.proofs.EditsBack.{all_last}
use Rattle.session_state.proofs.ToldMeanings.{lists_at, tell_take_generator, taken_generator, type_was_there, Replaces}
use Rattle.session_state.proofs.OppositeEdits.{generator_put}
use Rattle.session_state.proofs.entries.Entries.take_generator.Goals as goal

pub replace-meaning-requires : goal.replace-meaning-requires
replace-meaning-requires c =
    subst (λ name. knows c.args.self.now.names name ≡ true) (sym c.as_str.ensures)
    (all_last (λ (g : Generator). knows c.args.self.now.names g.name ≡ true) c.take_last-generator.new.self.items c.take_last-generator.result
    (subst (All (λ (g : Generator). knows c.args.self.now.names g.name ≡ true)) c.take_last-generator.ensures.items c.requires.known.generators))

pub returns-clause-lists : goal.returns-clause-lists
returns-clause-lists c = taken_generator c.args.self.now.workspace.generators.items c.take_last-generator.new.self.items c.take_last-generator.result c.args.self.now.workspace.diagrams.items c.args.self.now.workspace.maps.items c.take_last-generator.ensures.items

pub returns-clause-back : goal.returns-clause-back
returns-clause-back c = ap (λ (xs : List Generator). lists_at xs c.args.self.now.workspace.diagrams.items c.args.self.now.workspace.maps.items) (sym c.take_last-generator.ensures.items)

pub returns-clause-names : goal.returns-clause-names
returns-clause-names c = λ k tell typed held held' rule rule'.
    let gs = c.take_last-generator.new.self.items in
    let ds = c.args.self.now.workspace.diagrams.items in
    let ms = c.args.self.now.workspace.maps.items in
    let g = c.take_last-generator.result in
    let names = c.args.self.now.names in
    let replaced : Replaces names c.replace-meaning.new.self g.name meaning.Free =
    subst (λ name. Replaces names c.replace-meaning.new.self name meaning.Free) c.as_str.ensures c.replace-meaning.ensures.meanings in
    let rule_there : IsWorkspace (trees_in k (lists_at (gs ++ g ∷ []) ds ms)) = subst (λ (xs : List Generator). IsWorkspace (trees_in k (lists_at xs ds ms))) c.take_last-generator.ensures.items rule in
    let tell_there : Tell k (trees_in k (lists_at (gs ++ g ∷ []) ds ms)) names = subst (λ (xs : List Generator). Tell k (trees_in k (lists_at xs ds ms)) names) c.take_last-generator.ensures.items tell in
    record {
      tell = tell_take_generator k gs ds ms g names c.replace-meaning.new.self replaced rule_there tell_there;
      type_of = subst (IsTypeOf k (length gs) g) (sym (c.replace-meaning.ensures.before ∙ ap (meaning_in names) c.as_str.ensures)) (type_was_there k gs ds ms g names rule_there tell_there);
    }

pub returns-clause-opposite : goal.returns-clause-opposite
returns-clause-opposite c = generator_put c.take_last-generator.result c.replace-meaning.result
