use Rattle.std.proofs.Common.{◌≡◌, ◌∙◌, ◌++◌, option_map, ap, sym}
use Rattle.std.specs.Prelude.{codes}
use Rattle.workspace_json.specs.Maps.{NamedMap}
use Rattle.workspace_json.specs.Workspaces.{end_named}
use Rattle.workspace_json.proofs.References.{no_end, source_end, target_end}
use Rattle.session_state.specs.States.{present_of}
use Rattle.session_state.proofs.state.State.end_named.Goals as goal

pub returns-in-Some-map_named-clause-tree : goal.returns-in-Some-map_named-clause-tree
returns-in-Some-map_named-clause-tree c =
    let ms = (present_of c.args.self.now).maps in
    let cut = c.in-Some.ensures.cases in
    let whole : c.args.text.now ≡ c.in-Some.name.now ++ codes ":source" = cut.1.1 ∙ ap (λ n. n ++ codes ":source") (sym cut.2) in
    ap (option_map (λ (m : NamedMap). m.source)) c.in-Some-map_named.ensures.map ∙ sym (source_end ms c.in-Some.name.now) ∙ ap (end_named ms) (sym whole)

pub returns-in-None-clause-tree : goal.returns-in-None-clause-tree
returns-in-None-clause-tree c =
    let ms = (present_of c.args.self.now).maps in
    let cut = c.in-Some.ensures.cases in
    let whole : c.args.text.now ≡ c.in-Some.name.now ++ codes ":source" = cut.1.1 ∙ ap (λ n. n ++ codes ":source") (sym cut.2) in
    ap (option_map (λ (m : NamedMap). m.source)) c.in-None.ensures.map ∙ sym (source_end ms c.in-Some.name.now) ∙ ap (end_named ms) (sym whole)

pub returns-in-Some-map_named-2-clause-tree : goal.returns-in-Some-map_named-2-clause-tree
returns-in-Some-map_named-2-clause-tree c =
    let ms = (present_of c.args.self.now).maps in
    let cut = c.in-Some-strip_suffix.ensures.cases in
    let whole : c.args.text.now ≡ c.in-Some-strip_suffix.name.now ++ codes ":target" = cut.1.1 ∙ ap (λ n. n ++ codes ":target") (sym cut.2) in
    ap (option_map (λ (m : NamedMap). m.target)) c.in-Some-map_named-2.ensures.map ∙ sym (target_end ms c.in-Some-strip_suffix.name.now) ∙ ap (end_named ms) (sym whole)

pub returns-in-None-map_named-clause-tree : goal.returns-in-None-map_named-clause-tree
returns-in-None-map_named-clause-tree c =
    let ms = (present_of c.args.self.now).maps in
    let cut = c.in-Some-strip_suffix.ensures.cases in
    let whole : c.args.text.now ≡ c.in-Some-strip_suffix.name.now ++ codes ":target" = cut.1.1 ∙ ap (λ n. n ++ codes ":target") (sym cut.2) in
    ap (option_map (λ (m : NamedMap). m.target)) c.in-None-map_named.ensures.map ∙ sym (target_end ms c.in-Some-strip_suffix.name.now) ∙ ap (end_named ms) (sym whole)

pub returns-clause-tree : goal.returns-clause-tree
returns-clause-tree c =
    sym (no_end (present_of c.args.self.now).maps c.args.text.now (λ name e. c.in_default.ensures.cases name (sym e)) (λ name e. c.in_default-strip_suffix.ensures.cases name (sym e)))
