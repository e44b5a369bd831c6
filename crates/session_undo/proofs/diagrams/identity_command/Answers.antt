use Rattle.std.proofs.Common.{◌≡◌, ◌∙◌, suc, true, false, sym, ap, arith}
use Rattle.std.specs.Prelude.{nat_lt}
use Rattle.std.proofs.lemmas.Bool.Decides.{nat_tests}
use Rattle.std.proofs.lemmas.Result.{err_from_is_err_and}
use Rattle.diagram_terms.specs.declared.limits.TheConstants.{GREATEST_DIM}
use Rattle.diagram_terms.specs.ConeTrees.{identity_diagram_tree}
use Rattle.diagram_terms.specs.Dimension.{dimension_of}
use Rattle.hashcons.specs.Contents.{diagram_at}
use Rattle.hashcons.proofs.Growth.{Grows-trans}
use Rattle.workspace_json.specs.Sessions.{change}
use Rattle.workspace_json.specs.declared.reply.Word.TheVariants as word
use Rattle.workspace_json.specs.Steps.{known, new_name, stored}
use Rattle.session_state.specs.States.{present_of, session_of}
use Rattle.session_undo.proofs.TestedCommands.{comes_by, identity_tested, identity_unknown, identity_unnamed, stopped}
use Rattle.session_undo.proofs.TreeLengths.{identity_dimension}
use Rattle.session_undo.proofs.diagrams.identity_command.Goals as goal

pub returns-in_err-new_name-clause-comes : goal.returns-in_err-new_name-clause-comes
returns-in_err-new_name-clause-comes c =
    let p = err_from_is_err_and c.from_residual.result c.from_residual.ensures.1 in
    let W = present_of c.args.state.now in
    rw (p.1, p.2) (stopped (new_name W c.args.name.now) _ (session_of c.args.state.now) c.in_err-new_name.field-0.0 c.in_err-new_name.ensures (identity_unnamed W c.args.name.now c.args.of.now))

pub returns-in_err-d-clause-comes : goal.returns-in_err-d-clause-comes
returns-in_err-d-clause-comes c =
    let p = err_from_is_err_and c.from_residual-in_err-d.result c.from_residual-in_err-d.ensures.1 in
    let W = present_of c.args.state.now in
    rw (p.1, p.2) (stopped (known W c.args.of.now) _ (session_of c.args.state.now) c.in_err-d.field-0.0 c.in_err-d.ensures.answer
    (λ r e. identity_unknown W c.args.name.now c.args.of.now r c.in_ok-new_name.ensures e))

pub returns-then-dim-ge-GREATEST_DIM-clause-comes : goal.returns-then-dim-ge-GREATEST_DIM-clause-comes
returns-then-dim-ge-GREATEST_DIM-clause-comes c =
    let W = present_of c.args.state.now in
    let t = diagram_at c.args.state.now.store c.in_ok-d.d in
    let high : nat_lt (dimension_of t) GREATEST_DIM ≡ false = let h = c.if-dim-ge-GREATEST_DIM.true in let k = c.dim.ensures.dim in grind (arith, nat_tests) in
    ap (change (session_of c.args.state.now)) (identity_tested W c.args.name.now c.args.of.now t false c.in_ok-new_name.ensures c.in_ok-d.ensures.answer high)

pub store_diagram-requires-clause-low : goal.store_diagram-requires-clause-low
store_diagram-requires-clause-low c =
    let t = diagram_at c.args.state.now.store c.in_ok-d.d in
    let e : dimension_of (diagram_at c.identity_of.new.state.store c.in_ok-root.root) ≡ suc (dimension_of t) = ap dimension_of c.in_ok-root.ensures.made.tree ∙ identity_dimension c.dim.result t c.dim.ensures.shape in
    let h = c.if-dim-ge-GREATEST_DIM.false in
    let k = c.dim.ensures.dim in
    omega arith

pub returns-clause-grows : goal.returns-clause-grows
returns-clause-grows c = Grows-trans _ _ _ c.in_ok-root.ensures.stays.grows c.store_diagram.ensures.grows

pub returns-clause-comes : goal.returns-clause-comes
returns-clause-comes c =
    let s = c.args.state.now in
    let u = c.identity_of.new.state in
    let W = present_of s in
    let t = diagram_at s.store c.in_ok-d.d in
    let low : nat_lt (dimension_of t) GREATEST_DIM ≡ true = let h = c.if-dim-ge-GREATEST_DIM.false in let k = c.dim.ensures.dim in grind (arith, nat_tests) in
    let done = identity_tested W c.args.name.now c.args.of.now t true c.in_ok-new_name.ensures c.in_ok-d.ensures.answer low in
    let tree : diagram_at u.store c.in_ok-root.root ≡ identity_diagram_tree t = c.in_ok-root.ensures.made.tree in
    comes_by (session_of u) (session_of s) (session_of c.store_diagram.new.state) _ _ c.store_diagram.result c.in_ok-root.ensures.stays.session
    ((λ i. stored (c.in_ok-root.ensures.stays.present i) word.Identity c.args.name.now (tree i)) ∙ sym done) c.store_diagram.ensures.comes
