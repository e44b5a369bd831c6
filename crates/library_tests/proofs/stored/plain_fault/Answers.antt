use Rattle.std.proofs.Common.{sym, subst}
use Rattle.std.proofs.lemmas.Result.{IfOk-weaker}
use Rattle.diagram_terms.specs.Shape.{IsDiagram}
use Rattle.diagram_terms.proofs.NodeShapes.{diagram_at}
use Rattle.library_tests.proofs.PlacedDiagrams.{fault_of_tree}
use Rattle.library_tests.proofs.stored.plain_fault.Goals as goal

pub first_bad_square-requires : goal.first_bad_square-requires
first_bad_square-requires c =
    let place = c.requires.diagram in
    let shape = diagram_at c.args.nodes.now c.requires.form c.args.place place.dim place.within place.stands in
    (place.dim, subst (IsDiagram place.dim) (sym c.in_ok-tree.ensures) shape)

pub returns : goal.returns
returns c =
    IfOk-weaker c.first_bad_square.result _ _ (λ found is.
    let place = c.requires.diagram in
    let shape = diagram_at c.args.nodes.now c.requires.form c.args.place place.dim place.within place.stands in
    fault_of_tree _ _ place.dim shape c.in_ok-tree.ensures found is) c.first_bad_square.ensures.place
