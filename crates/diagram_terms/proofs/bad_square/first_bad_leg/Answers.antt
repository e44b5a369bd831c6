use Rattle.std.proofs.Common.{Some, sym, ◌∙◌, ap, suc, arith}
use Rattle.diagram_terms.specs.Family.{reg, sing, fwd, bwd}
use Rattle.diagram_terms.specs.Places.{leg_tests}
use Rattle.diagram_terms.proofs.DiagramLevels.{legs_regs_len, legs_fwds_len, legs_bwds_len, fwd_between, bwd_between, fwd_fails, bwd_fails, both_pass, legs_pass}
use Rattle.diagram_terms.proofs.Visiting.{one_more_passes}
use Rattle.diagram_terms.proofs.bad_square.first_bad_leg.Goals as goal

pub bounds-fwds-k : goal.bounds-fwds-k
bounds-fwds-k c = let r = c.requires in let n = legs_fwds_len r.0 r.1 _ _ _ _ r.2 in omega arith

pub bounds-regs-k : goal.bounds-regs-k
bounds-regs-k c = let r = c.requires in let n = legs_regs_len r.0 r.1 _ _ _ _ r.2 in omega arith

pub bounds-bwds-k : goal.bounds-bwds-k
bounds-bwds-k c = let r = c.requires in let n = legs_bwds_len r.0 r.1 _ _ _ _ r.2 in omega arith

pub bounds-regs-k-in-loop-k : goal.bounds-regs-k-in-loop-k
bounds-regs-k-in-loop-k c = let r = c.requires in let n = legs_regs_len r.0 r.1 _ _ _ _ r.2 in omega arith

pub first_bad_in_arrow-requires : goal.first_bad_in_arrow-requires
first_bad_in_arrow-requires c =
    let r = c.requires in
    let k = c.loop-k.k in
    let between = fwd_between r.0 r.1 _ _ _ _ r.2 k c.loop-k-test.true _ _ _ c.index-sings-k.is c.index-fwds-k.is c.index-regs-k.is in
    (r.0, fwd r.0 r.1 k, reg r.0 r.1 k, sing r.0 r.1 k, between)

pub first_bad_in_arrow-requires-in-loop-k : goal.first_bad_in_arrow-requires-in-loop-k
first_bad_in_arrow-requires-in-loop-k c =
    let r = c.requires in
    let k = c.loop-k.k in
    let between = bwd_between r.0 r.1 _ _ _ _ r.2 k c.loop-k-test.true _ _ _ c.index-sings-k-in-loop-k.is c.index-bwds-k.is c.index-regs-k-in-loop-k.is in
    (r.0, bwd r.0 r.1 k, reg r.0 r.1 (suc k), sing r.0 r.1 k, between)

pub returns-in-Some : goal.returns-in-Some
returns-in-Some c = λ d X r.
    let k = c.loop-k.k in
    let l = c.loop-k-test.true in
    let between = fwd_between d X _ _ _ _ r k l _ _ _ c.index-sings-k.is c.index-fwds-k.is c.index-regs-k.is in
    ap Some c.in_ok-place_under.ensures
    ∙ fwd_fails d X _ _ _ _ r k _ l (c.loop-k.invariant d X r) (sym c.in-Some.is ∙ c.in_ok-place.ensures d _ _ _ between)

pub returns-in-Some-2 : goal.returns-in-Some-2
returns-in-Some-2 c = λ d X r.
    let k = c.loop-k.k in
    let l = c.loop-k-test.true in
    let between = fwd_between d X _ _ _ _ r k l _ _ _ c.index-sings-k.is c.index-fwds-k.is c.index-regs-k.is in
    let between2 = bwd_between d X _ _ _ _ r k l _ _ _ c.index-sings-k-in-loop-k.is c.index-bwds-k.is c.index-regs-k-in-loop-k.is in
    ap Some c.in_ok-place_under-2.ensures
    ∙ bwd_fails d X _ _ _ _ r k _ l (c.loop-k.invariant d X r) (sym c.in_default.is ∙ c.in_ok-place.ensures d _ _ _ between)
    (sym c.in-Some-2.is ∙ c.in_ok-place-2.ensures d _ _ _ between2)

pub loop-k-preserved : goal.loop-k-preserved
loop-k-preserved c = λ d X r.
    let k = c.loop-k.k in
    let l = c.loop-k-test.true in
    let between = fwd_between d X _ _ _ _ r k l _ _ _ c.index-sings-k.is c.index-fwds-k.is c.index-regs-k.is in
    let between2 = bwd_between d X _ _ _ _ r k l _ _ _ c.index-sings-k-in-loop-k.is c.index-bwds-k.is c.index-regs-k-in-loop-k.is in
    one_more_passes (leg_tests d X) k (c.loop-k.invariant d X r)
    (both_pass d X _ _ _ _ r k (sym c.in_default.is ∙ c.in_ok-place.ensures d _ _ _ between) (sym c.in_default-2.is ∙ c.in_ok-place-2.ensures d _ _ _ between2))

pub returns : goal.returns
returns c = λ d X r. legs_pass d X _ _ _ _ r c.loop-k.k (omega arith) (c.loop-k.invariant d X r)
