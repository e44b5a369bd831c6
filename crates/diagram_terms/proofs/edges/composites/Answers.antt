use Rattle.std.proofs.Common.{ap, ◌∙◌, arith}
use Rattle.diagram_terms.specs.Composite.{comp}
use Rattle.diagram_terms.specs.Values.{trees_of_arrows}
use Rattle.diagram_terms.proofs.Composites.{more_made}
use Rattle.diagram_terms.proofs.EdgeTests.{pair_first, pair_second, composites_done}
use Rattle.diagram_terms.proofs.edges.composites.Goals as goal

pub composite-requires : goal.composite-requires
composite-requires c =
    let r = c.requires in
    let k = c.loop-k.k in
    let l = c.loop-k-test.true in (
      r.0,
      r.1 k,
      r.2 k,
      r.3.composable k l,
      pair_second r.0 r.1 r.2 _ _ r.3 k _ c.index-first-k.result l c.index-second-k.is,
      pair_first r.0 r.1 r.2 _ _ r.3 k c.index-second-k.result _ l c.index-first-k.is,
    )

pub loop-k-preserved : goal.loop-k-preserved
loop-k-preserved c = λ d g f r.
    let k = c.loop-k.k in
    let l = c.loop-k-test.true in
    ap trees_of_arrows c.in_ok-push.ensures.items
    ∙ more_made d (λ i. comp d (g i) (f i)) _ k _ (c.loop-k.invariant d g f r)
    (c.in_ok-composite.ensures d (g k) (f k) (r.composable k l)
    (pair_second d g f _ _ r k _ c.index-first-k.result l c.index-second-k.is)
    (pair_first d g f _ _ r k c.index-second-k.result _ l c.index-first-k.is))

pub returns : goal.returns
returns c = λ d g f r. composites_done d (λ i. comp d (g i) (f i)) _ _ _ (omega arith) (c.loop-k.invariant d g f r)
