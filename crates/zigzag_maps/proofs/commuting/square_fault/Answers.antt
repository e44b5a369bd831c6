use Rattle.std.proofs.Common.{◌+◌, [], length, Some, sym, ap, ◌∙◌, arith}
use Rattle.diagram_terms.specs.declared.place.End.TheVariants as at_end
use Rattle.diagram_terms.specs.Dual.{dual}
use Rattle.diagram_terms.specs.Places.{here, first_failure}
use Rattle.diagram_terms.specs.Tree.{heights, sings}
use Rattle.zigzag_maps.proofs.Visiting.{visit_start, visit_fails, visit_passes}
use Rattle.hashcons.specs.Contents.{diagram_at, arrow_at}
use Rattle.hashcons.proofs.OneMoreTree.{Grows-refl}
use Rattle.hashcons.proofs.Growth.{Grows-trans}
use Rattle.zigzag_maps.specs.Visits.{square_tests, square_holds}
use Rattle.zigzag_maps.proofs.CompositeSlices.{zero_dual}
use Rattle.zigzag_maps.proofs.CompositeSteps.{dual_rises}
use Rattle.zigzag_maps.proofs.EdgeSteps.{has_edges, slicewise-grows}
use Rattle.zigzag_maps.proofs.FaultSteps.{map_trees}
use Rattle.zigzag_maps.proofs.commuting.square_fault.Goals as goal

pub loop-k-init : goal.loop-k-init
loop-k-init c =
    let old = c.args.store.now in
    let m = c.args.f.now in
    let has = has_edges c.args.store.now c.args.dim c.args.f.now c.requires.slicewise in
    record {
      grows = Grows-refl _;
      slicewise = c.requires.slicewise;
      from = zero_dual _ (c.requires.store.arrows _ c.requires.slicewise.map.arrow) (omega (arith, has.dim));
      rest = visit_start (square_tests (diagram_at old m.source) (diagram_at old m.target) (arrow_at old m.arrow)) (length (sings (diagram_at old m.target)));
    }

pub dual_from-to-requires-clause-above : goal.dual_from-to-requires-clause-above
dual_from-to-requires-clause-above c =
    let has = has_edges c.loop-k.store c.args.dim c.args.f.now c.loop-k.invariant.slicewise in
    omega (arith, has.dim)

pub dual_from-to-requires-clause-within : goal.dual_from-to-requires-clause-within
dual_from-to-requires-clause-within c =
    dual_rises c.args.store.now c.loop-k.store c.args.f.now.arrow c.loop-k.k c.loop-k.from c.loop-k.invariant.grows c.requires.slicewise.map.arrow c.loop-k.invariant.from

pub returns-then-not-branch-clause-exact : goal.returns-then-not-branch-clause-exact
returns-then-not-branch-clause-exact c =
    let old = c.args.store.now in
    let inv = c.loop-k.invariant in
    let m = c.args.f.now in
    let k = c.loop-k.k in
    let same = map_trees (λ s t f. square_holds s t f k) old c.loop-k.store c.args.dim m inv.grows c.requires.slicewise.map in
    let fails = sym same ∙ sym c.in_ok-square_commutes.ensures.exact ∙ c.if-not-branch.true in
    let tests = square_tests (diagram_at old m.source) (diagram_at old m.target) (arrow_at old m.arrow) in
    let n = length (sings (diagram_at old m.target)) in
    ap Some c.place_here.ensures
    ∙ sym (visit_fails tests n k (record { steps = []; end = at_end.Square k }) (omega arith) (ap (λ b. first_failure (here (at_end.Square k) b)) fails))
    ∙ inv.rest

pub loop-k-preserved : goal.loop-k-preserved
loop-k-preserved c =
    let old = c.args.store.now in
    let inv = c.loop-k.invariant in
    let made = c.in_ok-square_commutes.ensures in
    let m = c.args.f.now in
    let k = c.loop-k.k in
    let same = map_trees (λ s t f. square_holds s t f k) old c.loop-k.store c.args.dim m inv.grows c.requires.slicewise.map in
    let holds = sym same ∙ sym made.exact in
    let tests = square_tests (diagram_at old m.source) (diagram_at old m.target) (arrow_at old m.arrow) in
    let n = length (sings (diagram_at old m.target)) in
    record {
      grows = Grows-trans _ _ _ inv.grows made.grows;
      slicewise = slicewise-grows _ _ _ _ made.grows inv.slicewise;
      from = c.dual_from-to.ensures ∙ ap (λ u. dual (heights u) (k + 1)) (inv.grows.arrow_trees m.arrow c.requires.slicewise.map.arrow);
      rest = sym (visit_passes tests n k (omega arith) (ap (λ b. first_failure (here (at_end.Square k) b)) (holds ∙ c.if-not-branch.false))) ∙ inv.rest;
    }
