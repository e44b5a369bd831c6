use Rattle.std.proofs.Common.{sym, ◌∙◌}
use Rattle.diagram_terms.specs.Values.{tree_of_arrow}
use Rattle.diagram_terms.proofs.Fronts.{same_step, same_there}
use Rattle.diagram_terms.proofs.ValuesAsTrees.{equal_zags}
use Rattle.diagram_terms.proofs.compare.+arrows.Goals as goal

pub all_arrows_equal-returns-then-not-equal_arrows : goal.all_arrows_equal-returns-then-not-equal_arrows
all_arrows_equal-returns-then-not-equal_arrows t c =
    (λ f. cc, λ e. sym c.if-not-equal_arrows.true ∙ c.equal_arrows.ensures.1 (same_there tree_of_arrow _ _ _ _ _ c.loop-i-test.true c.loop-i.invariant.0 c.index-xs-i.is c.index-ys-i.is e))

pub all_arrows_equal-loop-i-preserved : goal.all_arrows_equal-loop-i-preserved
all_arrows_equal-loop-i-preserved t c =
    (c.loop-i.invariant.0, same_step tree_of_arrow _ _ _ _ _ c.loop-i-test.true c.loop-i.invariant.0 c.index-xs-i.is c.index-ys-i.is c.loop-i.invariant.1 (c.equal_arrows.ensures.0 c.if-not-equal_arrows.false))

pub equal_arrows-returns-then-not-equal_heights : goal.equal_arrows-returns-then-not-equal_heights
equal_arrows-returns-then-not-equal_heights t c =
    let i = equal_zags _ _ _ _ _ _ _ _ c.in-Zig-Zig.is-0 c.in-Zig-Zig.is-1 in
    (λ f. cc, λ e. let h = (i.0 e).0 in sym c.if-not-equal_heights.true ∙ c.equal_heights.ensures.1 (cc))

pub equal_arrows-returns-then-not-all_arrows_equal : goal.equal_arrows-returns-then-not-all_arrows_equal
equal_arrows-returns-then-not-all_arrows_equal t c =
    let i = equal_zags _ _ _ _ _ _ _ _ c.in-Zig-Zig.is-0 c.in-Zig-Zig.is-1 in
    (λ f. cc, λ e. let h = (i.0 e).1 in sym c.if-not-all_arrows_equal.true ∙ c.all_arrows_equal.ensures.1 (cc))

pub equal_arrows-returns-else-not-all_arrows_equal : goal.equal_arrows-returns-else-not-all_arrows_equal
equal_arrows-returns-else-not-all_arrows_equal t c =
    let i = equal_zags _ _ _ _ _ _ _ _ c.in-Zig-Zig.is-0 c.in-Zig-Zig.is-1 in
    let a = c.equal_heights.ensures.0 c.if-not-equal_heights.false in
    let b = c.all_arrows_equal.ensures.0 c.if-not-all_arrows_equal.false in
    (λ f. let g = c.all_arrows_equal-in-Zig-Zig.ensures.0 f in i.1 (cc, cc, cc), λ e. c.all_arrows_equal-in-Zig-Zig.ensures.1 (let h = (i.0 e).2 in cc))
