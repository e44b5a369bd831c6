use Rattle.std.proofs.Common.{◌<◌, ◌+◌, length, suc, rules, sym, ◌∙◌, arith}
use Rattle.diagram_terms.proofs.EdgeTests.{edges_length, edge_at, compared, inner_passed, inner_failed, inner_more, next_edge_at}
use Rattle.diagram_terms.proofs.edges.inner_pairs_meet.Goals as goal

leave_inside : goal.bounds-leaves-i
leave_inside c =
    let r = c.requires.held in
    let n = edges_length r.0 r.2 r.3 _ r.6 in
    let high = r.4 in
    omega arith

pub bounds-leaves-i : goal.bounds-leaves-i
bounds-leaves-i = leave_inside

pub offset_bounds-leaves-i : goal.offset_bounds-leaves-i
offset_bounds-leaves-i c =
    let r = c.requires.held in
    let n = edges_length r.0 r.2 r.3 _ r.6 in
    let high = r.4 in
    let l : c.loop-i.i < length c.args.leaves.now = omega arith in
    search rules

enter_inside : goal.bounds-enters-i
enter_inside c =
    let r = c.requires.held in
    let n = edges_length r.0 r.1 r.3 _ r.5 in
    let high = r.4 in
    omega arith

pub bounds-enters-i : goal.bounds-enters-i
bounds-enters-i = enter_inside

pub offset_bounds-enters-i : goal.offset_bounds-enters-i
offset_bounds-enters-i c =
    let r = c.requires.held in
    let n = edges_length r.0 r.1 r.3 _ r.5 in
    let high = r.4 in
    let l : c.loop-i.i + 1 < length c.args.enters.now = omega arith in
    search rules

pub returns-then-not-equal_arrows : goal.returns-then-not-equal_arrows
returns-then-not-equal_arrows c = λ d enter leave n high p q.
    let i = c.loop-i.i in
    let same = compared d (leave i) (enter (suc i)) _ _ _ (edge_at d leave n _ q i _ (omega arith) c.index-leaves-i.is)
    (next_edge_at d enter n _ p i _ (omega arith) c.index-enters-i.is) c.equal_arrows.ensures in
    inner_failed d enter leave _ _ i (omega arith) (omega arith) (sym same ∙ c.if-not-equal_arrows.true)

pub loop-i-preserved : goal.loop-i-preserved
loop-i-preserved c = λ d enter leave n high p q.
    let i = c.loop-i.i in
    let same = compared d (leave i) (enter (suc i)) _ _ _ (edge_at d leave n _ q i _ (omega arith) c.index-leaves-i.is)
    (next_edge_at d enter n _ p i _ (omega arith) c.index-enters-i.is) c.equal_arrows.ensures in
    inner_more d enter leave _ i (c.loop-i.invariant d enter leave n high p q) (sym same ∙ c.if-not-equal_arrows.false)

pub returns : goal.returns
returns c = λ d enter leave n high p q.
    inner_passed d enter leave _ _ c.loop-i.i (omega arith) (omega arith) (c.loop-i.invariant d enter leave n high p q)
