use Rattle.std.proofs.Common.{◌<◌, ◌≤◌, length, get_or, inl, inr, arith}
use Rattle.std.proofs.lemmas.Bool.{cases_lt}
use Rattle.diagram_terms.specs.Dual.{dual}
use Rattle.diagram_terms.proofs.Duals.{dual-lt, lt-dual, dual-le-length}
use Rattle.diagram_terms.proofs.dual.dual_from.Goals as goal

pub returns-then-heights-i : goal.returns-then-heights-i
returns-then-heights-i c = λ m l.
    let hs = c.args.heights.now in
    let high = c.loop-i.invariant m l in
    elim (cases_lt c.loop-i.i (dual hs c.args.k)) [
      | inl p ↦ absurd (let q : get_or hs c.loop-i.i 0 < c.args.k = dual-lt hs m c.loop-i.i c.args.k p in omega arith)
      | inr p ↦ omega arith
    ]

pub loop-i-preserved : goal.loop-i-preserved
loop-i-preserved c = λ m l.
    let more : c.loop-i.i < dual c.args.heights.now c.args.k = lt-dual c.args.heights.now m c.loop-i.i c.args.k (omega arith) (omega arith) in
    omega arith

pub returns : goal.returns
returns c = λ m l.
    let high = c.loop-i.invariant m l in
    let full : dual c.args.heights.now c.args.k ≤ length c.args.heights.now = dual-le-length c.args.heights.now c.args.k in
    omega arith
