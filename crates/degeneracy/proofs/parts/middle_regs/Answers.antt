use Rattle.std.proofs.Common.{sym, ◌∙◌}
use Rattle.hashcons.proofs.Growth.{gathers-push}
use Rattle.degeneracy.proofs.PartsOnTrees.{middle_reg-is}
use Rattle.degeneracy.proofs.parts.middle_regs.Goals as goal

pub loop-k-preserved : goal.loop-k-preserved
loop-k-preserved c =
    let slice = c.reg_slice-slice.ensures in
    rw c.in_ok-push.ensures.ok (gathers-push _ _ _ _ _ c.loop-k.invariant slice.valid.source.of_store (slice.is.source ∙ sym (middle_reg-is _ _ c.loop-k.k)))
