use Rattle.std.proofs.Common.{◌≡◌, ◌≤◌, ◌∙◌, List, length, true, subst, sym, ap}
use Rattle.workspace_lists.specs.declared.workspace.Named.{Named}
use Rattle.workspace_lists.specs.declared.workspace.NamedMap.{NamedMap}
use Rattle.workspace_lists.specs.Names.{knows}
use Rattle.session_state.specs.declared.edit.Edit.{Edit}
use Rattle.session_state.specs.declared.edit.Edit.TheVariants as edit
use Rattle.session_state.specs.Edits.{AreKnown, IsWithin, edited}
use Rattle.session_state.specs.States.{lists_of}
use Rattle.session_state.specs.Kinds.{AreOpposite}
use Rattle.session_state.proofs.OppositeEdits.{diagram_taken, generator_taken, map_taken}
use Rattle.session_state.proofs.EditsBack.{all_put, remove-insert}
use Rattle.session_state.proofs.ToldMeanings.{lists_at}
use Rattle.session_state.proofs.entries.Entries.make.Goals as goal

pub put_diagram-requires-clause-known : goal.put_diagram-requires-clause-known
put_diagram-requires-clause-known c =
    let l = lists_of c.args.self.now in
    let within : c.in-PutDiagram.place ≤ length l.diagrams = subst (IsWithin l) c.in-PutDiagram.is c.requires.within in
    let known : AreKnown c.args.self.now.names (edited l (edit.PutDiagram c.in-PutDiagram.place c.in-PutDiagram.diagram)) =
    subst (λ (e : Edit). AreKnown c.args.self.now.names (edited l e)) c.in-PutDiagram.is c.requires.known_after in
    all_put (λ (e : Named). knows c.args.self.now.names e.name ≡ true) l.diagrams c.in-PutDiagram.place c.in-PutDiagram.diagram within known.diagrams

pub returns-in-PutDiagram-clause-back : goal.returns-in-PutDiagram-clause-back
returns-in-PutDiagram-clause-back c =
    let l = lists_of c.args.self.now in
    let within : c.in-PutDiagram.place ≤ length l.diagrams = subst (IsWithin l) c.in-PutDiagram.is c.requires.within in
    (λ i. edited (c.put_diagram.ensures.lists i) (c.put_diagram.ensures.back i))
    ∙ ap (λ (xs : List Named). lists_at l.generators xs l.maps) (remove-insert l.diagrams c.in-PutDiagram.place c.in-PutDiagram.diagram within)

pub put_map-requires-clause-known : goal.put_map-requires-clause-known
put_map-requires-clause-known c =
    let l = lists_of c.args.self.now in
    let within : c.in-PutMap.place ≤ length l.maps = subst (IsWithin l) c.in-PutMap.is c.requires.within in
    let known : AreKnown c.args.self.now.names (edited l (edit.PutMap c.in-PutMap.place c.in-PutMap.map)) =
    subst (λ (e : Edit). AreKnown c.args.self.now.names (edited l e)) c.in-PutMap.is c.requires.known_after in
    all_put (λ (e : NamedMap). knows c.args.self.now.names e.name ≡ true) l.maps c.in-PutMap.place c.in-PutMap.map within known.maps

pub returns-in-PutMap-clause-back : goal.returns-in-PutMap-clause-back
returns-in-PutMap-clause-back c =
    let l = lists_of c.args.self.now in
    let within : c.in-PutMap.place ≤ length l.maps = subst (IsWithin l) c.in-PutMap.is c.requires.within in
    (λ i. edited (c.put_map.ensures.lists i) (c.put_map.ensures.back i))
    ∙ ap (λ (xs : List NamedMap). lists_at l.generators l.diagrams xs) (remove-insert l.maps c.in-PutMap.place c.in-PutMap.map within)

pub returns-in-PutGenerator-clause-opposite : goal.returns-in-PutGenerator-clause-opposite
returns-in-PutGenerator-clause-opposite c =
    let g = c.in-PutGenerator.generator in
    let m = c.in-PutGenerator.meaning in
    subst (λ (e : Edit). AreOpposite e c.put_generator.result) (sym c.in-PutGenerator.is)
    (subst (λ (e : Edit). AreOpposite (edit.PutGenerator g m) e) (sym c.put_generator.ensures.back) (generator_taken g m))

pub returns-in-PutDiagram-clause-opposite : goal.returns-in-PutDiagram-clause-opposite
returns-in-PutDiagram-clause-opposite c =
    let place = c.in-PutDiagram.place in
    let d = c.in-PutDiagram.diagram in
    subst (λ (e : Edit). AreOpposite e c.put_diagram.result) (sym c.in-PutDiagram.is)
    (subst (λ (e : Edit). AreOpposite (edit.PutDiagram place d) e) (sym c.put_diagram.ensures.back) (diagram_taken place place d))

pub returns-in-PutMap-clause-opposite : goal.returns-in-PutMap-clause-opposite
returns-in-PutMap-clause-opposite c =
    let place = c.in-PutMap.place in
    let m = c.in-PutMap.map in
    subst (λ (e : Edit). AreOpposite e c.put_map.result) (sym c.in-PutMap.is)
    (subst (λ (e : Edit). AreOpposite (edit.PutMap place m) e) (sym c.put_map.ensures.back) (map_taken place place m))
