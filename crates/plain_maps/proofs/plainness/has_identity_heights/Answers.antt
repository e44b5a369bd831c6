use Rattle.std.proofs.Common.{refl, arith}
use Rattle.diagram_terms.specs.Tree.{heights}
use Rattle.hashcons.specs.Contents.{arrow_at}
use Rattle.plain_maps.proofs.PlainSlices.{heights_upto, upto_heights}
use Rattle.plain_maps.proofs.plainness.has_identity_heights.Goals as goal

pub returns-then-height-i : goal.returns-then-height-i
returns-then-height-i c = (
  λ yes. absurd (cc),
  λ h. (let is = upto_heights (heights (arrow_at c.args.store.now c.args.a)) h.are c.loop-i.i (omega arith) in absurd (omega arith)),
)

pub returns : goal.returns
returns c = (
  λ yes. record {
    are = heights_upto (heights (arrow_at c.args.store.now c.args.a)) (λ k l. c.loop-i.invariant k (omega arith));
    regs_len = omega arith;
  },
  λ h. refl,
)
