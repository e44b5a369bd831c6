use Rattle.std.proofs.Common.{◌≡◌, ◌≤◌, ◌∙◌, true, false, refl, sym, ap, subst, arith}
use Rattle.std.specs.Prelude.{nat_lt}
use Rattle.std.proofs.lemmas.Bool.Decides.{nat_tests}
use Rattle.std.proofs.lemmas.Result.{err_from_is_err_and}
use Rattle.diagram_terms.specs.declared.limits.TheConstants.{GREATEST_DIM}
use Rattle.diagram_terms.specs.Dimension.{IsDiagramTree, dimension_of}
use Rattle.diagram_terms.specs.Shape.{IsDiagram}
use Rattle.diagram_terms.specs.Tree.{Tree}
use Rattle.hashcons.specs.Contents.{diagram_at}
use Rattle.workspace_json.specs.Sessions.{change}
use Rattle.workspace_json.specs.declared.reply.Word.TheVariants as word
use Rattle.workspace_json.specs.Steps.{known, new_name, stored}
use Rattle.session_state.specs.States.{present_of, session_of}
use Rattle.session_undo.proofs.TestedCommands.{boundary_tested, boundary_unknown, boundary_unnamed, comes_by, stopped}
use Rattle.session_undo.proofs.LowTerms.{end_dimension, term_is_low}
use Rattle.session_undo.proofs.diagrams.boundary_command.Goals as goal

pub returns-in_err-new_name-clause-comes : goal.returns-in_err-new_name-clause-comes
returns-in_err-new_name-clause-comes c =
    let p = err_from_is_err_and c.from_residual.result c.from_residual.ensures.1 in
    let W = present_of c.args.state.now in
    rw (p.1, p.2) (stopped (new_name W c.args.name.now) _ (session_of c.args.state.now) c.in_err-new_name.field-0.0 c.in_err-new_name.ensures (boundary_unnamed W c.args.name.now c.args.of.now c.args.side))

pub returns-in_err-d-clause-comes : goal.returns-in_err-d-clause-comes
returns-in_err-d-clause-comes c =
    let p = err_from_is_err_and c.from_residual-in_err-d.result c.from_residual-in_err-d.ensures.1 in
    let W = present_of c.args.state.now in
    rw (p.1, p.2) (stopped (known W c.args.of.now) _ (session_of c.args.state.now) c.in_err-d.field-0.0 c.in_err-d.ensures.answer
    (λ r e. boundary_unknown W c.args.name.now c.args.of.now c.args.side r c.in_ok-new_name.ensures e))

pub returns-then-dim-eq0-clause-comes : goal.returns-then-dim-eq0-clause-comes
returns-then-dim-eq0-clause-comes c =
    let W = present_of c.args.state.now in
    let t = diagram_at c.args.state.now.store c.in_ok-d.d in
    let flat : nat_lt 0 (dimension_of t) ≡ false = let h = c.if-dim-eq0.true in let k = c.dim.ensures.dim in grind (arith, nat_tests) in
    ap (change (session_of c.args.state.now)) (boundary_tested W c.args.name.now c.args.of.now c.args.side t false c.in_ok-new_name.ensures c.in_ok-d.ensures.answer flat)

pub store_diagram-requires-clause-low : goal.store_diagram-requires-clause-low
store_diagram-requires-clause-low c =
    let s = c.args.state.now in
    let t = diagram_at s.store c.in_ok-d.d in
    let low : dimension_of t ≤ GREATEST_DIM = term_is_low (present_of s) c.requires.history.present.rule c.args.of.now t c.in_ok-d.ensures.answer in
    let k = c.dim.ensures.dim in
    let h = c.if-dim-eq0.false in
    let shape : IsDiagramTree t = subst (λ n. IsDiagram n t) k c.dim.ensures.shape in
    let e = end_dimension c.args.side t shape (omega arith) in
    let same = ap dimension_of c.end-root.ensures.tree in
    omega arith

pub returns-clause-comes : goal.returns-clause-comes
returns-clause-comes c =
    let s = c.args.state.now in
    let W = present_of s in
    let t = diagram_at s.store c.in_ok-d.d in
    let above : nat_lt 0 (dimension_of t) ≡ true = let h = c.if-dim-eq0.false in let k = c.dim.ensures.dim in grind (arith, nat_tests) in
    let done = boundary_tested W c.args.name.now c.args.of.now c.args.side t true c.in_ok-new_name.ensures c.in_ok-d.ensures.answer above in
    comes_by (session_of s) (session_of s) (session_of c.store_diagram.new.state) _ _ c.store_diagram.result refl
    (ap (λ (u : Tree). stored W word.Boundary c.args.name.now u) c.end-root.ensures.tree ∙ sym done) c.store_diagram.ensures.comes
