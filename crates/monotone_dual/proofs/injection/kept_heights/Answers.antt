use Rattle.std.proofs.Common.{arith}
use Rattle.monotone_dual.proofs.Skips.{kept_none, kept_without, kept_with, kept_all}
use Rattle.monotone_dual.proofs.injection.kept_heights.Goals as goal
use Rattle.monotone_dual.proofs.injection.kept_heights.Goals.{then-next-dropped+then-dropped-next, else-next-dropped+in_ok-push, else-next-dropped-via-then-next-dropped+else-dropped-next, else-next-dropped-via-else-next-dropped}

pub loop-height-init : goal.loop-height-init
loop-height-init c = rw c.new-kept.ensures (kept_none c.args.dropped.now c.requires.increasing)

pub loop-height-preserved : goal.loop-height-preserved
loop-height-preserved c =
    let dropped = c.args.dropped.now in
    let at = c.loop-height in
    elim c.if-next-dropped.branch [
      | then-next-dropped+then-dropped-next w ↦ rw (w.kept-is, w.next-is)
          (kept_without dropped c.requires.increasing at.height at.next at.kept at.invariant w.if-next-dropped.true w.if-dropped-next.true)
      | else-next-dropped+in_ok-push w ↦ rw (w.kept-is, w.in_ok-push.ensures.ok, w.next-is)
          (kept_with dropped c.requires.increasing at.height at.next at.kept at.invariant (elim w.else-next-dropped.branch [
            | else-next-dropped-via-then-next-dropped+else-dropped-next w' ↦ λ l e. w'.if-dropped-next.false e
            | else-next-dropped-via-else-next-dropped w' ↦ λ l e. absurd (omega (arith, w'.if-next-dropped.false))
          ]))
    ]

pub returns-clause-count : goal.returns-clause-count
returns-clause-count c =
    let at = c.loop-height in
    (kept_all c.args.dropped.now c.requires.increasing at.height at.next at.kept at.invariant c.args.target_len c.requires.below (omega arith)).1
