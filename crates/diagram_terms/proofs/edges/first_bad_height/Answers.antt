use Rattle.std.proofs.Common.{◌≤◌, ◌<◌, ◌+◌, length, sym, ◌∙◌, arith}
use Rattle.diagram_terms.specs.Dual.{dual}
use Rattle.diagram_terms.specs.Valid.{enter_edge, leave_edge}
use Rattle.diagram_terms.proofs.Composites.{dual_later}
use Rattle.diagram_terms.proofs.EdgeTests.{heights_monotone, held_dual, lefts_len, dual_start, square_answer, all_commute, one_does_not, one_more_commutes}
use Rattle.diagram_terms.proofs.edges.first_bad_height.Goals as goal

pub loop-k-init : goal.loop-k-init
loop-k-init c = λ d X Y f r. (dual_start d X Y f _ _ _ _ _ r, λ i l. absurd (omega arith))

pub square_meets-requires : goal.square_meets-requires
square_meets-requires c =
    let r = c.requires in
    let k = c.loop-k.k in
    let hs = c.args.heights.now in
    let at = (c.loop-k.invariant r.0 r.1 r.2 r.3 r.4).0 in
    let up : dual hs k ≤ dual hs (k + 1) = dual_later hs k in
    let b_is = c.dual_from-b.ensures (heights_monotone r.0 r.1 r.2 r.3 _ _ _ _ _ r.4) (omega arith) in
    let high = held_dual r.0 r.1 r.2 r.3 _ _ _ _ _ r.4 (k + 1) in
    (r.0, enter_edge r.0 r.1 r.3, leave_edge r.0 r.1 r.3, length r.1.sings, omega arith, r.4.enters_are, r.4.leaves_are)

pub returns-then-not-square_meets : goal.returns-then-not-square_meets
returns-then-not-square_meets c = λ d X Y f r.
    let k = c.loop-k.k in
    let hs = c.args.heights.now in
    let i = c.loop-k.invariant d X Y f r in
    let at = i.0 in
    let n = lefts_len d X Y f _ _ _ _ _ r in
    let l : k < length Y.sings = omega arith in
    let up : dual hs k ≤ dual hs (k + 1) = dual_later hs k in
    let b_is = c.dual_from-b.ensures (heights_monotone d X Y f _ _ _ _ _ r) (omega arith) in
    let answer = square_answer d X Y f _ _ _ _ _ r k _ _ _ _ _ l at b_is c.index-lefts-k.is c.index-rights-k.is c.square_meets.ensures in
    one_does_not d X Y f _ _ _ _ _ r k l i.1 (sym answer ∙ c.if-not-square_meets.true)

pub loop-k-preserved : goal.loop-k-preserved
loop-k-preserved c = λ d X Y f r.
    let k = c.loop-k.k in
    let hs = c.args.heights.now in
    let i = c.loop-k.invariant d X Y f r in
    let at = i.0 in
    let n = lefts_len d X Y f _ _ _ _ _ r in
    let l : k < length Y.sings = omega arith in
    let up : dual hs k ≤ dual hs (k + 1) = dual_later hs k in
    let b_is = c.dual_from-b.ensures (heights_monotone d X Y f _ _ _ _ _ r) (omega arith) in
    let answer = square_answer d X Y f _ _ _ _ _ r k _ _ _ _ _ l at b_is c.index-lefts-k.is c.index-rights-k.is c.square_meets.ensures in
    (b_is, one_more_commutes d X Y f _ _ _ _ _ r k i.1 (sym answer ∙ c.if-not-square_meets.false))

pub returns : goal.returns
returns c = λ d X Y f r.
    let n = lefts_len d X Y f _ _ _ _ _ r in
    all_commute d X Y f _ _ _ _ _ r c.loop-k.k (omega arith) (c.loop-k.invariant d X Y f r).1
