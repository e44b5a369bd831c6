use Rattle.hashcons.proofs.Growth.{Grows-trans}
use Rattle.boundary_paths.proofs.ConeSteps.{cone_over_label}
use Rattle.boundary_paths.proofs.cones.cone_over_label.Goals as goal

pub returns : goal.returns
returns c = record {
  grows = Grows-trans _ _ _ c.put_diagram.ensures.made.grows c.put_arrow.ensures.made.grows;
  cone = cone_over_label _ _ _ c.args.d c.in_ok-target.target c.in_ok-arrow.arrow c.args.x c.label-y.result c.requires.of_store c.label-y.ensures
      c.in_ok-target.ensures.made c.in_ok-arrow.ensures.made;
}
