use Rattle.std.proofs.Common.{◌≡◌, ◌∙◌, List, length, true, false, Ok, sym, ap, subst}
use Rattle.std.specs.List.{list_all}
use Rattle.std.proofs.lemmas.Result.{err_from_is_err_and}
use Rattle.diagram_terms.specs.Completion.{same_tree}
use Rattle.hashcons.specs.Contents.{diagram_at}
use Rattle.hashcons.proofs.Growth.{Grows-trans}
use Rattle.zigzag_maps.specs.declared.map.Map.{Map}
use Rattle.workspace_json.specs.NormalSteps.{known_maps, normal_map, normal_trees, with_normal}
use Rattle.workspace_json.specs.Sessions.{change}
use Rattle.workspace_json.specs.Steps.{new_name, referred}
use Rattle.workspace_json.specs.Workspaces.{IsWorkspace, with_map}
use Rattle.workspace_json.proofs.NormalRules.{normal_forms_keep_rule}
use Rattle.workspace_lists.specs.Held.{map_called}
use Rattle.session_state.specs.States.{present_of, session_of}
use Rattle.session_undo.specs.NormalForms.{maps_called, normal_in}
use Rattle.session_undo.proofs.LegMaps.{valid_reference}
use Rattle.session_undo.proofs.TestedCommands.{comes_by, normalise_no_leg, normalise_tested, normalise_unknown, normalise_unnamed, stopped}
use Rattle.session_undo.proofs.normal_forms.normalise_command.Goals as goal

pub returns-in_err-new_name-clause-comes : goal.returns-in_err-new_name-clause-comes
returns-in_err-new_name-clause-comes c =
    let p = err_from_is_err_and c.from_residual.result c.from_residual.ensures.1 in
    let W = present_of c.args.state.now in
    rw (p.1, p.2) (stopped (new_name W c.args.name.now) _ (session_of c.args.state.now) c.in_err-new_name.field-0.0 c.in_err-new_name.ensures
    (normalise_unnamed W c.args.name.now c.args.of.now c.args.legs.now))

pub returns-in_err-target-clause-comes : goal.returns-in_err-target-clause-comes
returns-in_err-target-clause-comes c =
    let p = err_from_is_err_and c.from_residual-in_err-target.result c.from_residual-in_err-target.ensures.1 in
    let W = present_of c.args.state.now in
    rw (p.1, p.2) (stopped (referred W c.args.of.now) _ (session_of c.args.state.now) c.in_err-target.field-0.0 c.in_err-target.ensures.answer
    (λ r e. normalise_unknown W c.args.name.now c.args.of.now c.args.legs.now r c.in_ok-new_name.ensures e))

pub returns-in_err-maps-clause-comes : goal.returns-in_err-maps-clause-comes
returns-in_err-maps-clause-comes c =
    let p = err_from_is_err_and c.from_residual-in_err-maps.result c.from_residual-in_err-maps.ensures.1 in
    let s = c.args.state.now in
    let W = present_of s in
    rw (p.1, p.2) (stopped (known_maps W c.args.legs.now) _ (session_of s) c.in_err-maps.field-0.0 c.in_err-maps.ensures.answer
    (λ r e. normalise_no_leg W c.args.name.now c.args.of.now c.args.legs.now _ r c.in_ok-new_name.ensures c.in_ok-target.ensures.answer e))

pub normal_of-requires-clause-target : goal.normal_of-requires-clause-target
normal_of-requires-clause-target c =
    let s = c.args.state.now in
    record {
      of_store = c.in_ok-target.ensures.of_store;
      valid = valid_reference (present_of s) c.requires.history.present.rule c.args.of.now (diagram_at s.store c.in_ok-target.target) c.in_ok-target.ensures.answer;
    }

pub add_normal-requires-clause-rule : goal.add_normal-requires-clause-rule
add_normal-requires-clause-rule c =
    let s = c.args.state.now in
    let u = c.normal_of.new.state in
    let W = present_of s in
    let name = c.args.name.now in
    let legs = c.args.legs.now in
    let t = diagram_at s.store c.in_ok-target.target in
    let n = c.in_ok-normal.normal in
    let ms = c.in_ok-maps.maps.items in
    let named = maps_called s.store legs ms in
    let seen : c.deref.result.now ≡ ms = c.deref.ensures.value in
    let read : c.deref-then-are_into.result.now ≡ ms = c.deref-then-are_into.ensures.value in
    let meet : list_all (λ m. same_tree m.target t) named ≡ true =
    subst (λ (xs : List Map). list_all (λ m. same_tree m.target t) (maps_called s.store legs xs) ≡ true) seen
    (sym (c.if-are_into.ensures.trees legs (sym (ap length seen ∙ c.in_ok-maps.ensures.count)))) in
    let done = normalise_tested W name c.args.of.now legs t named true c.in_ok-new_name.ensures c.in_ok-target.ensures.answer c.in_ok-maps.ensures.answer meet in
    let trees : normal_in u.store n ≡ normal_trees t named =
    c.in_ok-normal.ensures.trees legs (sym (ap length read ∙ c.in_ok-maps.ensures.count)) ∙ ap (λ (xs : List Map). normal_trees t (maps_called s.store legs xs)) read in
    let at : diagram_at u.store n.map.target ≡ t =
    ap (diagram_at u.store) c.in_ok-normal.ensures.target ∙ c.in_ok-normal.ensures.stays.grows.diagram_trees c.in_ok-target.target c.in_ok-target.ensures.of_store in
    let present : present_of u ≡ W = c.in_ok-normal.ensures.stays.present in
    let there : with_map W (normal_map name t (normal_trees t named)) ≡ with_map (present_of u) (map_called u.store name n.map) =
    (λ i. with_map (sym present i) (normal_map name (sym at i) (sym trees i))) in
    subst IsWorkspace there
    (normal_forms_keep_rule W name c.args.of.now legs (with_normal W name t (normal_trees t named)) c.requires.history.present.rule done)

pub returns-then-are_into-clause-grows : goal.returns-then-are_into-clause-grows
returns-then-are_into-clause-grows c = Grows-trans _ _ _ c.in_ok-normal.ensures.stays.grows c.add_normal.ensures.grows

pub returns-then-are_into-clause-comes : goal.returns-then-are_into-clause-comes
returns-then-are_into-clause-comes c =
    let s = c.args.state.now in
    let u = c.normal_of.new.state in
    let W = present_of s in
    let name = c.args.name.now in
    let legs = c.args.legs.now in
    let t = diagram_at s.store c.in_ok-target.target in
    let n = c.in_ok-normal.normal in
    let ms = c.in_ok-maps.maps.items in
    let named = maps_called s.store legs ms in
    let seen : c.deref.result.now ≡ ms = c.deref.ensures.value in
    let read : c.deref-then-are_into.result.now ≡ ms = c.deref-then-are_into.ensures.value in
    let meet : list_all (λ m. same_tree m.target t) named ≡ true =
    subst (λ (xs : List Map). list_all (λ m. same_tree m.target t) (maps_called s.store legs xs) ≡ true) seen
    (sym (c.if-are_into.ensures.trees legs (sym (ap length seen ∙ c.in_ok-maps.ensures.count)))) in
    let done = normalise_tested W name c.args.of.now legs t named true c.in_ok-new_name.ensures c.in_ok-target.ensures.answer c.in_ok-maps.ensures.answer meet in
    let trees : normal_in u.store n ≡ normal_trees t named =
    c.in_ok-normal.ensures.trees legs (sym (ap length read ∙ c.in_ok-maps.ensures.count)) ∙ ap (λ (xs : List Map). normal_trees t (maps_called s.store legs xs)) read in
    let at : diagram_at u.store n.map.target ≡ t =
    ap (diagram_at u.store) c.in_ok-normal.ensures.target ∙ c.in_ok-normal.ensures.stays.grows.diagram_trees c.in_ok-target.target c.in_ok-target.ensures.of_store in
    let present : present_of u ≡ W = c.in_ok-normal.ensures.stays.present in
    comes_by (session_of u) (session_of s) (session_of c.add_normal.new.state) _ _ c.add_normal.result c.in_ok-normal.ensures.stays.session
    ((λ i. Ok (with_normal (present i) name (at i) (trees i))) ∙ sym done) c.add_normal.ensures.comes

pub returns-clause-comes : goal.returns-clause-comes
returns-clause-comes c =
    let s = c.args.state.now in
    let W = present_of s in
    let legs = c.args.legs.now in
    let t = diagram_at s.store c.in_ok-target.target in
    let ms = c.in_ok-maps.maps.items in
    let named = maps_called s.store legs ms in
    let seen : c.deref.result.now ≡ ms = c.deref.ensures.value in
    let apart : list_all (λ m. same_tree m.target t) named ≡ false =
    subst (λ (xs : List Map). list_all (λ m. same_tree m.target t) (maps_called s.store legs xs) ≡ false) seen
    (sym (c.if-are_into.ensures.trees legs (sym (ap length seen ∙ c.in_ok-maps.ensures.count)))) in
    ap (change (session_of s)) (normalise_tested W c.args.name.now c.args.of.now legs t named false c.in_ok-new_name.ensures c.in_ok-target.ensures.answer c.in_ok-maps.ensures.answer apart)
