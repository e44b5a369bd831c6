use Rattle.std.proofs.Common.{◌≡◌, length, subst, ap₂, ◌∙◌}
use Rattle.diagram_terms.specs.Dual.{AreBelow, after}
use Rattle.diagram_terms.proofs.Duals.{mono-after, below-after}
use Rattle.monotone_dual.proofs.composite.compose.Goals as goal

pub invariant_of-result : goal.invariant_of-result
invariant_of-result c =
    let g = c.args.g.now in
    let f = c.args.f.now in
    let e : c.in_ok-heights.heights ≡ after g.heights f.heights = c.in_ok-heights.ensures ∙ ap₂ after c.as_slice.ensures c.as_slice-2.ensures in
    let inside : AreBelow f.heights (length g.heights) = subst (AreBelow f.heights) c.requires f.in_range in
    record {
      monotone = rw e (mono-after g.heights f.heights g.monotone f.monotone inside);
      in_range = rw e (below-after g.heights f.heights g.target_len g.in_range inside);
    }
