use Rattle.std.proofs.Common.{◌<◌, ◌-◌, length, rules, sym, ◌∙◌, arith}
use Rattle.diagram_terms.proofs.EdgeTests.{edges_length, edge_at, compared, empty_square, first_differs, last_differs, inner_decides}
use Rattle.diagram_terms.proofs.edges.square_meets.Goals as goal

pub bounds-enters-a : goal.bounds-enters-a
bounds-enters-a c =
    let r = c.requires in
    let n = edges_length r.0 r.1 r.3 _ r.5 in
    let high = r.4 in
    omega arith

pub offset_bounds-enters-a : goal.offset_bounds-enters-a
offset_bounds-enters-a c =
    let r = c.requires in
    let n = edges_length r.0 r.1 r.3 _ r.5 in
    let high = r.4 in
    let l : c.args.a < length c.args.enters.now = omega arith in
    search rules

pub bounds-leaves-b : goal.bounds-leaves-b
bounds-leaves-b c =
    let r = c.requires in
    let n = edges_length r.0 r.2 r.3 _ r.6 in
    let high = r.4 in
    omega arith

pub offset_bounds-leaves-b : goal.offset_bounds-leaves-b
offset_bounds-leaves-b c =
    let r = c.requires in
    let n = edges_length r.0 r.2 r.3 _ r.6 in
    let high = r.4 in
    let l : c.args.b - 1 < length c.args.leaves.now = omega arith in
    search rules

pub returns-then-a-b : goal.returns-then-a-b
returns-then-a-b c = λ d p q enter leave n high l r e h.
    compared d p q _ _ _ l r c.equal_arrows.ensures ∙ empty_square d enter leave p q _ _ (omega arith)

pub returns-then-not-equal_arrows : goal.returns-then-not-equal_arrows
returns-then-not-equal_arrows c = λ d p q enter leave n high l r e h.
    let first = compared d p (enter c.args.a) _ _ _ l (edge_at d enter n _ e c.args.a _ (omega arith) c.index-enters-a.is) c.equal_arrows-2.ensures in
    first_differs d enter leave p q _ _ (omega arith) (sym first ∙ c.if-not-equal_arrows.true)

pub returns-then-not-equal_arrows-2 : goal.returns-then-not-equal_arrows-2
returns-then-not-equal_arrows-2 c = λ d p q enter leave n high l r e h.
    let first = compared d p (enter c.args.a) _ _ _ l (edge_at d enter n _ e c.args.a _ (omega arith) c.index-enters-a.is) c.equal_arrows-2.ensures in
    let last = compared d q (leave (c.args.b - 1)) _ _ _ r (edge_at d leave n _ h (c.args.b - 1) _ (omega arith) c.index-leaves-b.is) c.equal_arrows-3.ensures in
    last_differs d enter leave p q _ _ (omega arith) (sym first ∙ c.if-not-equal_arrows.false) (sym last ∙ c.if-not-equal_arrows-2.true)

pub returns : goal.returns
returns c = λ d p q enter leave n high l r e h.
    let first = compared d p (enter c.args.a) _ _ _ l (edge_at d enter n _ e c.args.a _ (omega arith) c.index-enters-a.is) c.equal_arrows-2.ensures in
    let last = compared d q (leave (c.args.b - 1)) _ _ _ r (edge_at d leave n _ h (c.args.b - 1) _ (omega arith) c.index-leaves-b.is) c.equal_arrows-3.ensures in
    c.inner_pairs_meet.ensures d enter leave n high e h
    ∙ inner_decides d enter leave p q _ _ (omega arith) (sym first ∙ c.if-not-equal_arrows.false) (sym last ∙ c.if-not-equal_arrows-2.false)
