use Rattle.std.proofs.Common.{◌∙◌}
use Rattle.diagram_terms.specs.Shape.{sing_at}
use Rattle.hashcons.proofs.Growth.{Grows-trans, gathers-arrow_more}
use Rattle.zigzag_maps.proofs.IdentitySlices.{slice_identity}
use Rattle.degeneracy.proofs.parts.singular_identities.Goals as goal

pub loop-i-preserved : goal.loop-i-preserved
loop-i-preserved c =
    let inv = c.loop-i.invariant in
    let made = c.in_ok-made.ensures.made in
    record {
      grows = Grows-trans _ _ _ inv.grows made.grows;
      gathers = rw c.in_ok-push.ensures.ok (gathers-arrow_more _ _ _ _ _ _ inv.gathers made.grows made.of_store
          (made.tree ∙ slice_identity c.args.store.now c.loop-i.store c.args.d c.sing-slice.result (λ u. sing_at u c.loop-i.i) inv.grows c.requires.of_store c.sing-slice.ensures.tree));
    }
