use Rattle.std.proofs.Common.{Some, sym, ◌∙◌, ap, rules, arith}
use Rattle.std.proofs.lemmas.Result.{IfOk-weaker}
use Rattle.diagram_terms.specs.declared.tree.Diagram.TheViews.{the_lemmas}
use Rattle.diagram_terms.proofs.DiagramLevels.{slice_shape, slice_answer, reg_slice_test, reg_slice_fails, reg_slice_passes, reg_slices_pass, sing_slice_test, sing_slice_fails, sing_slice_passes, sing_slices_pass, label_has_none, dimension_above, found_in_zigzag, the_diagram, holds_regs, holds_sings, reg_slice_found, sing_slice_found, legs_decide, holds_legs}
use Rattle.diagram_terms.proofs.Visiting.{one_more_passes}
use Rattle.diagram_terms.proofs.bad_square.+bad_squares.Goals as goal

pub first_bad_reg_slice-first_bad_in_diagram-requires : goal.first_bad_reg_slice-first_bad_in_diagram-requires
first_bad_reg_slice-first_bad_in_diagram-requires t c =
    let r = c.requires in
    (search (rules, the_lemmas), (r.0, slice_shape r.0 r.1 _ r.2 c.loop-j.j _ c.loop-j-test.true c.index-slices-j.is))

pub first_bad_reg_slice-returns-in-Some : goal.first_bad_reg_slice-returns-in-Some
first_bad_reg_slice-returns-in-Some t c = λ d slices r.
    let k = c.loop-j.j in
    let l = c.loop-j-test.true in
    ap Some c.in_ok-place_under.ensures
    ∙ reg_slice_fails d slices _ r k _ l (c.loop-j.invariant d slices r)
    (sym c.in-Some.is ∙ slice_answer d slices _ r k _ l c.index-slices-j.is _ c.in_ok-place.ensures)

pub first_bad_reg_slice-loop-j-preserved : goal.first_bad_reg_slice-loop-j-preserved
first_bad_reg_slice-loop-j-preserved t c = λ d slices r.
    let k = c.loop-j.j in
    let l = c.loop-j-test.true in
    one_more_passes (reg_slice_test d slices _ r) k (c.loop-j.invariant d slices r)
    (reg_slice_passes d slices _ r k (sym c.in_default.is ∙ slice_answer d slices _ r k _ l c.index-slices-j.is _ c.in_ok-place.ensures))

pub first_bad_reg_slice-returns : goal.first_bad_reg_slice-returns
first_bad_reg_slice-returns t c = λ d slices r. reg_slices_pass d slices _ r c.loop-j.j (omega arith) (c.loop-j.invariant d slices r)

pub first_bad_sing_slice-first_bad_in_diagram-requires : goal.first_bad_sing_slice-first_bad_in_diagram-requires
first_bad_sing_slice-first_bad_in_diagram-requires t c =
    let r = c.requires in
    (search (rules, the_lemmas), (r.0, slice_shape r.0 r.1 _ r.2 c.loop-i.i _ c.loop-i-test.true c.index-slices-i.is))

pub first_bad_sing_slice-returns-in-Some : goal.first_bad_sing_slice-returns-in-Some
first_bad_sing_slice-returns-in-Some t c = λ d slices r.
    let k = c.loop-i.i in
    let l = c.loop-i-test.true in
    ap Some c.in_ok-place_under.ensures
    ∙ sing_slice_fails d slices _ r k _ l (c.loop-i.invariant d slices r)
    (sym c.in-Some.is ∙ slice_answer d slices _ r k _ l c.index-slices-i.is _ c.in_ok-place.ensures)

pub first_bad_sing_slice-loop-i-preserved : goal.first_bad_sing_slice-loop-i-preserved
first_bad_sing_slice-loop-i-preserved t c = λ d slices r.
    let k = c.loop-i.i in
    let l = c.loop-i-test.true in
    one_more_passes (sing_slice_test d slices _ r) k (c.loop-i.invariant d slices r)
    (sing_slice_passes d slices _ r k (sym c.in_default.is ∙ slice_answer d slices _ r k _ l c.index-slices-i.is _ c.in_ok-place.ensures))

pub first_bad_sing_slice-returns : goal.first_bad_sing_slice-returns
first_bad_sing_slice-returns t c = λ d slices r. sing_slices_pass d slices _ r c.loop-i.i (omega arith) (c.loop-i.invariant d slices r)

pub first_bad_in_diagram-returns-in_default : goal.first_bad_in_diagram-returns-in_default
first_bad_in_diagram-returns-in_default t c = label_has_none _ _ c.in_default.is

pub first_bad_in_diagram-first_bad_reg_slice-requires : goal.first_bad_in_diagram-first_bad_reg_slice-requires
first_bad_in_diagram-first_bad_reg_slice-requires t c =
    let r = c.requires in
    let z = dimension_above _ _ _ _ _ c.in-Zig.is r.0 r.1 in
    (search (rules, the_lemmas), (z.0, (the_diagram _ _ _ _ _ c.in-Zig.is z.0 z.1).regs, holds_regs _ _ _ _ _ c.in-Zig.is z.0 z.1 _ c.deref.ensures.value))

pub first_bad_in_diagram-returns-in-Some : goal.first_bad_in_diagram-returns-in-Some
first_bad_in_diagram-returns-in-Some t c =
    found_in_zigzag _ _ _ _ _ c.in-Zig.is _ (λ d h. reg_slice_found _ _ _ _ _ c.in-Zig.is d h _ (sym c.in-Some.is ∙ c.in_ok-place.ensures d (the_diagram _ _ _ _ _ c.in-Zig.is d h).regs (holds_regs _ _ _ _ _ c.in-Zig.is d h _ c.deref.ensures.value)))

pub first_bad_in_diagram-first_bad_sing_slice-requires : goal.first_bad_in_diagram-first_bad_sing_slice-requires
first_bad_in_diagram-first_bad_sing_slice-requires t c =
    let r = c.requires in
    let z = dimension_above _ _ _ _ _ c.in-Zig.is r.0 r.1 in
    (search (rules, the_lemmas), (z.0, (the_diagram _ _ _ _ _ c.in-Zig.is z.0 z.1).sings, holds_sings _ _ _ _ _ c.in-Zig.is z.0 z.1 _ c.deref-2.ensures.value))

pub first_bad_in_diagram-returns-in-Some-2 : goal.first_bad_in_diagram-returns-in-Some-2
first_bad_in_diagram-returns-in-Some-2 t c =
    found_in_zigzag _ _ _ _ _ c.in-Zig.is _ (λ d h.
    let no_reg = sym c.in_default-2.is ∙ c.in_ok-place.ensures d (the_diagram _ _ _ _ _ c.in-Zig.is d h).regs (holds_regs _ _ _ _ _ c.in-Zig.is d h _ c.deref.ensures.value) in
    sing_slice_found _ _ _ _ _ c.in-Zig.is d h no_reg _ (sym c.in-Some-2.is ∙ c.in_ok-place-2.ensures d (the_diagram _ _ _ _ _ c.in-Zig.is d h).sings (holds_sings _ _ _ _ _ c.in-Zig.is d h _ c.deref-2.ensures.value)))

pub first_bad_in_diagram-first_bad_leg-requires : goal.first_bad_in_diagram-first_bad_leg-requires
first_bad_in_diagram-first_bad_leg-requires t c =
    let r = c.requires in
    let z = dimension_above _ _ _ _ _ c.in-Zig.is r.0 r.1 in
    let no_reg = sym c.in_default-2.is ∙ c.in_ok-place.ensures z.0 (the_diagram _ _ _ _ _ c.in-Zig.is z.0 z.1).regs (holds_regs _ _ _ _ _ c.in-Zig.is z.0 z.1 _ c.deref.ensures.value) in
    let no_sing = sym c.in_default-3.is ∙ c.in_ok-place-2.ensures z.0 (the_diagram _ _ _ _ _ c.in-Zig.is z.0 z.1).sings (holds_sings _ _ _ _ _ c.in-Zig.is z.0 z.1 _ c.deref-2.ensures.value) in
    (z.0, (the_diagram _ _ _ _ _ c.in-Zig.is z.0 z.1), holds_legs _ _ _ _ _ c.in-Zig.is z.0 z.1 no_reg no_sing _ _ _ _ c.deref-3.ensures.value c.deref-4.ensures.value c.deref-5.ensures.value c.deref-6.ensures.value)

pub first_bad_in_diagram-returns : goal.first_bad_in_diagram-returns
first_bad_in_diagram-returns t c = IfOk-weaker _ _ _ (λ found legs. found_in_zigzag _ _ _ _ _ c.in-Zig.is found (λ d h.
    let no_reg = sym c.in_default-2.is ∙ c.in_ok-place.ensures d (the_diagram _ _ _ _ _ c.in-Zig.is d h).regs (holds_regs _ _ _ _ _ c.in-Zig.is d h _ c.deref.ensures.value) in
    let no_sing = sym c.in_default-3.is ∙ c.in_ok-place-2.ensures d (the_diagram _ _ _ _ _ c.in-Zig.is d h).sings (holds_sings _ _ _ _ _ c.in-Zig.is d h _ c.deref-2.ensures.value) in
    legs d (the_diagram _ _ _ _ _ c.in-Zig.is d h) (holds_legs _ _ _ _ _ c.in-Zig.is d h no_reg no_sing _ _ _ _ c.deref-3.ensures.value c.deref-4.ensures.value c.deref-5.ensures.value c.deref-6.ensures.value) ∙ legs_decide _ _ _ _ _ c.in-Zig.is d h no_reg no_sing)) c.first_bad_leg.ensures
