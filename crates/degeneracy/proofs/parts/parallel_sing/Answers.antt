use Rattle.std.proofs.Common.{◌+◌, sym, ap, ◌∙◌, arith}
use Rattle.diagram_terms.specs.Operations.{composite_tree}
use Rattle.diagram_terms.specs.Shape.{sing_at}
use Rattle.diagram_terms.specs.Tree.{heights}
use Rattle.hashcons.specs.Contents.{arrow_at, diagram_at}
use Rattle.hashcons.proofs.OneMoreTree.{Grows-refl}
use Rattle.degeneracy.proofs.DegeneraciesInStore.{one_id}
use Rattle.degeneracy.proofs.PartsInStore.{lengths_of, hit_now, missed_now}
use Rattle.degeneracy.proofs.PartsOnTrees.{parallel_sing-hit, parallel_sing-missed}
use Rattle.degeneracy.proofs.parts.parallel_sing.Goals as goal

pub arrow_sing-requires-clause-within : goal.arrow_sing-requires-clause-within
arrow_sing-requires-clause-within c =
    let has = lengths_of c.args.store.now c.args.f.now c.requires.valid c.requires.above in
    let d = has.dual_in (c.args.k + 1) in
    let n = has.sings_len in
    omega arith

pub returns-then-at-dual_of : goal.returns-then-at-dual_of
returns-then-at-dual_of c =
    let s = diagram_at c.args.store.now c.args.f.now.source in
    let t = diagram_at c.args.store.now c.args.f.now.target in
    let f = arrow_at c.args.store.now c.args.f.now.arrow in
    let l = hit_now (heights f) c.args.k _ _ c.dual_of-at.ensures c.dual_of.ensures c.if-at-dual_of.true in
    record {
      grows = Grows-refl _;
      of_store = c.arrow_sing.ensures.of_store;
      tree = c.arrow_sing.ensures.tree ∙ ap (sing_at f) c.dual_of-at.ensures ∙ sym (parallel_sing-hit s t f c.args.k l);
    }

pub fwd_map-leg-requires-clause-above : goal.fwd_map-leg-requires-clause-above
fwd_map-leg-requires-clause-above c = (lengths_of c.args.store.now c.args.f.now c.requires.valid c.requires.above).target_above

pub reg_slice-slice-requires-clause-within : goal.reg_slice-slice-requires-clause-within
reg_slice-slice-requires-clause-within c =
    let n = (lengths_of c.args.store.now c.args.f.now c.requires.valid c.requires.above).regs_len in
    omega arith

pub compose-requires-clause-meet : goal.compose-requires-clause-meet
compose-requires-clause-meet c =
    let leg = c.fwd_map-leg.ensures in
    let slice = c.reg_slice-slice.ensures in
    one_id c.args.store.now c.reg_slice-slice.result.target c.fwd_map-leg.result.source c.requires.store
    slice.valid.target.of_store leg.valid.source.of_store (slice.is.target ∙ sym leg.is.source)

pub returns : goal.returns
returns c =
    let s = diagram_at c.args.store.now c.args.f.now.source in
    let t = diagram_at c.args.store.now c.args.f.now.target in
    let f = arrow_at c.args.store.now c.args.f.now.arrow in
    let l = missed_now (heights f) c.args.k _ _ c.dual_of-at.ensures c.dual_of.ensures c.if-at-dual_of.false in
    let made = c.in_ok-made.ensures.made in
    let leg = c.fwd_map-leg.ensures.is.arrow in
    let slice = c.reg_slice-slice.ensures.is.arrow in
    record {
      grows = made.grows;
      of_store = made.of_store;
      tree = made.tree ∙ (λ i. composite_tree (leg i) (slice i)) ∙ sym (parallel_sing-missed s t f c.args.k l);
    }
