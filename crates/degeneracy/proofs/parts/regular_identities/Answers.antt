use Rattle.std.proofs.Common.{sym, ap, ◌∙◌}
use Rattle.std.proofs.lemmas.Result.{IfOk-from_err}
use Rattle.diagram_terms.specs.Dual.{dual}
use Rattle.diagram_terms.specs.Operations.{identity_tree}
use Rattle.diagram_terms.specs.Shape.{reg_at}
use Rattle.diagram_terms.specs.Tree.{heights}
use Rattle.hashcons.proofs.Growth.{Grows-trans, gathers-arrow_more}
use Rattle.zigzag_maps.proofs.KeptMaps.{valid_map-grows}
use Rattle.degeneracy.proofs.PartsOnTrees.{simple_reg-is}
use Rattle.degeneracy.proofs.parts.regular_identities.Goals as goal

pub loop-k-preserved : goal.loop-k-preserved
loop-k-preserved c =
    let inv = c.loop-k.invariant in
    let v = c.requires.valid in
    let made = c.in_ok-made.ensures.made in
    let ps = inv.grows.diagram_trees c.args.f.now.source v.source.of_store in
    let pf = inv.grows.arrow_trees c.args.f.now.arrow v.arrow in
    record {
      grows = Grows-trans _ _ _ inv.grows made.grows;
      gathers = rw c.in_ok-push.ensures.ok (gathers-arrow_more _ _ _ _ _ _ inv.gathers made.grows made.of_store
          (made.tree ∙ ap identity_tree c.reg_slice-slice.ensures.is.source ∙ (λ i. identity_tree (reg_at (ps i) (dual (heights (pf i)) c.loop-k.k))) ∙ sym (simple_reg-is _ _ c.loop-k.k)));
    }

pub reg_slice-slice-requires-clause-valid : goal.reg_slice-slice-requires-clause-valid
reg_slice-slice-requires-clause-valid c = valid_map-grows _ _ c.args.f.now c.loop-k.invariant.grows c.requires.valid

pub returns-in_err-made : goal.returns-in_err-made
returns-in_err-made c = record {
  grows = Grows-trans _ _ _ c.loop-k.invariant.grows c.in_err-made.ensures.made.grows;
  gathers = IfOk-from_err _ _ c.from_residual.ensures.0;
}
