use Rattle.std.proofs.Common.{length, get_or, sym, ap, ◌∙◌, subst, arith}
use Rattle.std.proofs.lemmas.List.{length-map}
use Rattle.diagram_terms.specs.Shape.{IsDiagram}
use Rattle.diagram_terms.specs.Tree.{nil}
use Rattle.diagram_terms.specs.Values.{tree_of_diagram, trees_of_diagrams}
use Rattle.diagram_terms.proofs.ValuesAsTrees.{diagram_above, diagram_at_zero, first_tree}
use Rattle.diagram_terms.proofs.measure.dimension.Goals as goal

pub returns-in-None : goal.returns-in-None
returns-in-None c = λ n l h.
    let i = c.loop-current.invariant n l h in
    let a = diagram_above i.0 _ _ _ _ _ c.in-Zig.is i.2 in
    let e = ap length c.deref.ensures.value in
    let none = c.in-None.ensures.item.3 in
    let m = length-map c.in-Zig.regs.items tree_of_diagram in
    absurd (omega (arith, a.nonempty))

pub loop-current-preserved : goal.loop-current-preserved
loop-current-preserved c = λ n l h.
    let i = c.loop-current.invariant n l h in
    let a = diagram_above i.0 _ _ _ _ _ c.in-Zig.is i.2 in
    let e = c.deref.ensures.value in
    let some = c.in-Some.ensures.item.3.0 in
    let f = first_tree _ c.in-Some.next.now some c.in-Some.ensures.item.1 in
    (a.below, omega (arith, a.above, i.1, c.saturating_add-count.ensures), subst (IsDiagram a.below) (ap (λ ds. get_or (trees_of_diagrams ds) 0 nil) (sym e) ∙ f) a.first_is)

pub returns : goal.returns
returns c = λ n l h.
    let i = c.loop-current.invariant n l h in
    let z = diagram_at_zero i.0 _ _ c.in_default.is i.2 in
    omega (arith, i.1)
