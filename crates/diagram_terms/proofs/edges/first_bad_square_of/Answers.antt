use Rattle.std.proofs.Common.{◌≤◌, length, rules, suc}
use Rattle.diagram_terms.specs.Family.{fwd, bwd, arrow_reg, arrow_sing}
use Rattle.diagram_terms.proofs.HeldArrows.{held_parts, no_pair_above}
use Rattle.diagram_terms.proofs.HeldDiagrams.{held_slices, no_label_above}
use Rattle.diagram_terms.proofs.SquareParts.{regs_not_empty, left_pairs, right_pairs, enter_pairs, leave_pairs, edges_held}
use Rattle.diagram_terms.proofs.edges.first_bad_square_of.Goals as goal

pub unreachable-requires : goal.unreachable-requires
unreachable-requires c = let r = c.requires in no_pair_above r.0 r.1 _ _ _ c.in_default.is r.4.leg_is

pub unreachable-requires-in_default-from : goal.unreachable-requires-in_default-from
unreachable-requires-in_default-from c = let r = c.requires in no_label_above r.0 r.2 _ _ c.in_default-from.is r.4.from_is

pub unreachable-requires-in_default-to : goal.unreachable-requires-in_default-to
unreachable-requires-in_default-to c = let r = c.requires in no_label_above r.0 r.3 _ _ c.in_default-to.is r.4.to_is

pub composites-requires : goal.composites-requires
composites-requires c =
    let r = c.requires in
    let p = held_parts r.0 r.1 _ _ _ _ c.in-Zig.is r.4.leg_is in
    let x = held_slices r.0 r.2 _ _ _ _ _ c.in-Zig-from.is r.4.from_is in
    let y = held_slices r.0 r.3 _ _ _ _ _ c.in-Zig-to.is r.4.to_is in
    (r.0, (λ k. fwd r.0 r.3 k), (λ k. arrow_reg r.0 r.1 k), left_pairs r.0 r.1 r.2 r.3 r.5 _ _ _ _ _ _ _ _ _ _ _ p x y _ _ c.deref.ensures.value c.deref-2.ensures.value)

pub slice_bounds-composites-count : goal.slice_bounds-composites-count
slice_bounds-composites-count c =
    let r = c.requires in
    let p = held_parts r.0 r.1 _ _ _ _ c.in-Zig.is r.4.leg_is in
    let x = held_slices r.0 r.2 _ _ _ _ _ c.in-Zig-from.is r.4.from_is in
    let y = held_slices r.0 r.3 _ _ _ _ _ c.in-Zig-to.is r.4.to_is in
    regs_not_empty r.0 r.1 r.2 r.3 r.5 _ _ _ _ _ _ _ _ _ _ _ p x y _ c.deref-4.ensures.value

pub slice_bounds-composites-start : goal.slice_bounds-composites-start
slice_bounds-composites-start c =
    let r = c.requires in
    let p = held_parts r.0 r.1 _ _ _ _ c.in-Zig.is r.4.leg_is in
    let x = held_slices r.0 r.2 _ _ _ _ _ c.in-Zig-from.is r.4.from_is in
    let y = held_slices r.0 r.3 _ _ _ _ _ c.in-Zig-to.is r.4.to_is in
    let l : 1 ≤ length c.deref-4.result.now = regs_not_empty r.0 r.1 r.2 r.3 r.5 _ _ _ _ _ _ _ _ _ _ _ p x y _ c.deref-4.ensures.value in
    search rules

pub composites-requires-2 : goal.composites-requires-2
composites-requires-2 c =
    let r = c.requires in
    let p = held_parts r.0 r.1 _ _ _ _ c.in-Zig.is r.4.leg_is in
    let x = held_slices r.0 r.2 _ _ _ _ _ c.in-Zig-from.is r.4.from_is in
    let y = held_slices r.0 r.3 _ _ _ _ _ c.in-Zig-to.is r.4.to_is in
    (r.0, (λ k. bwd r.0 r.3 k), (λ k. arrow_reg r.0 r.1 (suc k)), right_pairs r.0 r.1 r.2 r.3 r.5 _ _ _ _ _ _ _ _ _ _ _ p x y _ _ c.deref-3.ensures.value c.deref-4.ensures.value)

pub composites-requires-3 : goal.composites-requires-3
composites-requires-3 c =
    let r = c.requires in
    let p = held_parts r.0 r.1 _ _ _ _ c.in-Zig.is r.4.leg_is in
    let x = held_slices r.0 r.2 _ _ _ _ _ c.in-Zig-from.is r.4.from_is in
    let y = held_slices r.0 r.3 _ _ _ _ _ c.in-Zig-to.is r.4.to_is in
    (r.0, (λ i. arrow_sing r.0 r.1 i), (λ i. fwd r.0 r.2 i), enter_pairs r.0 r.1 r.2 r.3 r.5 _ _ _ _ _ _ _ _ _ _ _ p x y _ _ c.deref-5.ensures.value c.deref-6.ensures.value)

pub composites-requires-4 : goal.composites-requires-4
composites-requires-4 c =
    let r = c.requires in
    let p = held_parts r.0 r.1 _ _ _ _ c.in-Zig.is r.4.leg_is in
    let x = held_slices r.0 r.2 _ _ _ _ _ c.in-Zig-from.is r.4.from_is in
    let y = held_slices r.0 r.3 _ _ _ _ _ c.in-Zig-to.is r.4.to_is in
    (r.0, (λ i. arrow_sing r.0 r.1 i), (λ i. bwd r.0 r.2 i), leave_pairs r.0 r.1 r.2 r.3 r.5 _ _ _ _ _ _ _ _ _ _ _ p x y _ _ c.deref-7.ensures.value c.deref-8.ensures.value)

pub first_bad_height-requires : goal.first_bad_height-requires
first_bad_height-requires c =
    let r = c.requires in
    let p = held_parts r.0 r.1 _ _ _ _ c.in-Zig.is r.4.leg_is in
    let x = held_slices r.0 r.2 _ _ _ _ _ c.in-Zig-from.is r.4.from_is in
    let y = held_slices r.0 r.3 _ _ _ _ _ c.in-Zig-to.is r.4.to_is in
    let held =
    edges_held r.0 r.1 r.2 r.3 r.5 _ _ _ _ _ _ _ _ _ _ _ p x y _ _ _ _ _ _ _ _ _ _ _ _ _ c.deref-9.ensures.value
    c.deref.ensures.value c.deref-3.ensures.value c.deref-5.ensures.value c.deref-7.ensures.value c.deref-10.ensures.value c.deref-11.ensures.value c.deref-12.ensures.value c.deref-13.ensures.value
    (c.in_ok-lefts.ensures r.0 (λ k. fwd r.0 r.3 k) (λ k. arrow_reg r.0 r.1 k) (left_pairs r.0 r.1 r.2 r.3 r.5 _ _ _ _ _ _ _ _ _ _ _ p x y _ _ c.deref.ensures.value c.deref-2.ensures.value))
    (c.in_ok-rights.ensures r.0 (λ k. bwd r.0 r.3 k) (λ k. arrow_reg r.0 r.1 (suc k)) (right_pairs r.0 r.1 r.2 r.3 r.5 _ _ _ _ _ _ _ _ _ _ _ p x y _ _ c.deref-3.ensures.value c.deref-4.ensures.value))
    (c.in_ok-enters.ensures r.0 (λ i. arrow_sing r.0 r.1 i) (λ i. fwd r.0 r.2 i) (enter_pairs r.0 r.1 r.2 r.3 r.5 _ _ _ _ _ _ _ _ _ _ _ p x y _ _ c.deref-5.ensures.value c.deref-6.ensures.value))
    (c.in_ok-leaves.ensures r.0 (λ i. arrow_sing r.0 r.1 i) (λ i. bwd r.0 r.2 i) (leave_pairs r.0 r.1 r.2 r.3 r.5 _ _ _ _ _ _ _ _ _ _ _ p x y _ _ c.deref-7.ensures.value c.deref-8.ensures.value))
    in
    (r.0, r.2, r.3, r.1, held)

pub returns : goal.returns
returns c = λ d f X Y s v.
    let p = held_parts d f _ _ _ _ c.in-Zig.is s.leg_is in
    let x = held_slices d X _ _ _ _ _ c.in-Zig-from.is s.from_is in
    let y = held_slices d Y _ _ _ _ _ c.in-Zig-to.is s.to_is in
    let held =
    edges_held d f X Y v _ _ _ _ _ _ _ _ _ _ _ p x y _ _ _ _ _ _ _ _ _ _ _ _ _ c.deref-9.ensures.value
    c.deref.ensures.value c.deref-3.ensures.value c.deref-5.ensures.value c.deref-7.ensures.value c.deref-10.ensures.value c.deref-11.ensures.value c.deref-12.ensures.value c.deref-13.ensures.value
    (c.in_ok-lefts.ensures d (λ k. fwd d Y k) (λ k. arrow_reg d f k) (left_pairs d f X Y v _ _ _ _ _ _ _ _ _ _ _ p x y _ _ c.deref.ensures.value c.deref-2.ensures.value))
    (c.in_ok-rights.ensures d (λ k. bwd d Y k) (λ k. arrow_reg d f (suc k)) (right_pairs d f X Y v _ _ _ _ _ _ _ _ _ _ _ p x y _ _ c.deref-3.ensures.value c.deref-4.ensures.value))
    (c.in_ok-enters.ensures d (λ i. arrow_sing d f i) (λ i. fwd d X i) (enter_pairs d f X Y v _ _ _ _ _ _ _ _ _ _ _ p x y _ _ c.deref-5.ensures.value c.deref-6.ensures.value))
    (c.in_ok-leaves.ensures d (λ i. arrow_sing d f i) (λ i. bwd d X i) (leave_pairs d f X Y v _ _ _ _ _ _ _ _ _ _ _ p x y _ _ c.deref-7.ensures.value c.deref-8.ensures.value))
    in
    c.first_bad_height.ensures d X Y f held
