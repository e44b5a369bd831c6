use Rattle.std.proofs.Common.{rules, ◌≡◌, ◌<◌, length, refl, arith}
use Rattle.diagram_terms.specs.Tree.{regs}
use Rattle.hashcons.specs.Contents.{arrow_at}
use Rattle.zigzag_maps.proofs.SharedSlices.{all_same}
use Rattle.zigzag_maps.proofs.sharing.has_regs.Goals as goal

pub returns : goal.returns
returns c =
    let n = c.regs_len.ensures in
    let m = c.if-slices-regs_len.false in
    let len : length c.args.slices.now ≡ length (regs (arrow_at c.args.store.now c.args.a)) = omega arith in
    (λ t. all_same c.args.store.now c.args.a c.args.slices.now len (λ j l. c.loop-at.invariant j (omega arith)), λ e. refl)
