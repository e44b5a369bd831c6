use Rattle.std.proofs.Common.{sym, ◌∙◌}
use Rattle.diagram_terms.specs.Values.{tree_of_diagram}
use Rattle.diagram_terms.proofs.Fronts.{same_step, same_there}
use Rattle.diagram_terms.proofs.ValuesAsTrees.{equal_zigs}
use Rattle.diagram_terms.proofs.compare.+diagrams.Goals as goal

pub all_diagrams_equal-returns-then-not-equal_trees : goal.all_diagrams_equal-returns-then-not-equal_trees
all_diagrams_equal-returns-then-not-equal_trees t c =
    (λ f. cc, λ e. sym c.if-not-equal_trees.true ∙ c.equal_trees.ensures.1 (same_there tree_of_diagram _ _ _ _ _ c.loop-i-test.true c.loop-i.invariant.0 c.index-xs-i.is c.index-ys-i.is e))

pub all_diagrams_equal-loop-i-preserved : goal.all_diagrams_equal-loop-i-preserved
all_diagrams_equal-loop-i-preserved t c =
    (c.loop-i.invariant.0, same_step tree_of_diagram _ _ _ _ _ c.loop-i-test.true c.loop-i.invariant.0 c.index-xs-i.is c.index-ys-i.is c.loop-i.invariant.1 (c.equal_trees.ensures.0 c.if-not-equal_trees.false))

pub equal_trees-returns-then-not-all_diagrams_equal : goal.equal_trees-returns-then-not-all_diagrams_equal
equal_trees-returns-then-not-all_diagrams_equal t c =
    let i = equal_zigs _ _ _ _ _ _ _ _ _ _ c.in-Zig-Zig.is-0 c.in-Zig-Zig.is-1 in
    (λ f. cc, λ e. let h = (i.0 e).0 in sym c.if-not-all_diagrams_equal.true ∙ c.all_diagrams_equal.ensures.1 (cc))

pub equal_trees-returns-then-not-all_diagrams_equal-2 : goal.equal_trees-returns-then-not-all_diagrams_equal-2
equal_trees-returns-then-not-all_diagrams_equal-2 t c =
    let i = equal_zigs _ _ _ _ _ _ _ _ _ _ c.in-Zig-Zig.is-0 c.in-Zig-Zig.is-1 in
    (λ f. cc, λ e. let h = (i.0 e).1 in sym c.if-not-all_diagrams_equal-2.true ∙ c.all_diagrams_equal-in-Zig-Zig.ensures.1 (cc))

pub equal_trees-returns-then-not-all_arrows_equal : goal.equal_trees-returns-then-not-all_arrows_equal
equal_trees-returns-then-not-all_arrows_equal t c =
    let i = equal_zigs _ _ _ _ _ _ _ _ _ _ c.in-Zig-Zig.is-0 c.in-Zig-Zig.is-1 in
    (λ f. cc, λ e. let h = (i.0 e).2 in sym c.if-not-all_arrows_equal.true ∙ c.all_arrows_equal.ensures.1 (cc))

pub equal_trees-returns-else-not-all_arrows_equal : goal.equal_trees-returns-else-not-all_arrows_equal
equal_trees-returns-else-not-all_arrows_equal t c =
    let i = equal_zigs _ _ _ _ _ _ _ _ _ _ c.in-Zig-Zig.is-0 c.in-Zig-Zig.is-1 in
    let a = c.all_diagrams_equal.ensures.0 c.if-not-all_diagrams_equal.false in
    let b = c.all_diagrams_equal-in-Zig-Zig.ensures.0 c.if-not-all_diagrams_equal-2.false in
    let e = c.all_arrows_equal.ensures.0 c.if-not-all_arrows_equal.false in
    (λ f. let g = c.all_arrows_equal-in-Zig-Zig.ensures.0 f in i.1 (cc, cc, cc, cc), λ e. c.all_arrows_equal-in-Zig-Zig.ensures.1 (let h = (i.0 e).3 in cc))
