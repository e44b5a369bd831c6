use Rattle.std.proofs.Common.{◌∙◌}
use Rattle.hashcons.proofs.Growth.{Grows-trans, gathers-arrow_more}
use Rattle.degeneracy.specs.SplitTrees.{parallel_sing}
use Rattle.degeneracy.proofs.parts.parallel_sings.Goals as goal

pub loop-k-preserved : goal.loop-k-preserved
loop-k-preserved c =
    let inv = c.loop-k.invariant in
    let v = c.requires.valid in
    let one = c.in_ok-parallel_sing.ensures in
    let pt = inv.grows.diagram_trees c.args.f.now.target v.target.of_store in
    let pf = inv.grows.arrow_trees c.args.f.now.arrow v.arrow in
    record {
      grows = Grows-trans _ _ _ inv.grows one.grows;
      gathers = rw c.in_ok-push.ensures.ok (gathers-arrow_more _ _ _ _ _ _ inv.gathers one.grows one.of_store
          (one.tree ∙ (λ i. parallel_sing (pt i) (pf i) c.loop-k.k)));
    }
