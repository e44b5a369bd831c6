use Rattle.std.proofs.Common.{◌≡◌, ◌+◌, ◌<◌, length, sym, ap, subst, ◌∙◌, rules, arith}
use Rattle.diagram_terms.specs.Dimension.{dimension_of, IsArrowTree}
use Rattle.diagram_terms.specs.Dual.{dual}
use Rattle.diagram_terms.specs.Tree.{heights, regs, sings}
use Rattle.hashcons.specs.Contents.{arrow_at}
use Rattle.hashcons.proofs.OneMoreTree.{Grows-refl}
use Rattle.hashcons.proofs.Growth.{Grows-trans, made-children, composite-made, Makes-before, Makes-last, gathers-none, makes-more}
use Rattle.zigzag_maps.proofs.CompositeSlices.{IsArrowTree-composite_tree, zero_dual, arrow-regs, composable-dimension, composable-inner_sings}
use Rattle.zigzag_maps.proofs.CompositeSteps.{reg_pair, sing_pair, reg_made, sing_made, reg_dim, sing_dim, dual_within, dual_rises, described_composite}
use Rattle.zigzag_maps.proofs.composites.+composites.Goals as goal

pub composite-note_composite-requires : goal.composite-note_composite-requires
composite-note_composite-requires t c = composite-made _ _ _ _ _ c.requires.outer c.requires.inner c.in_ok-arrow.ensures

pub composite-returns-clause-made : goal.composite-returns-clause-made
composite-returns-clause-made t c = Makes-before _ _ _ _ _ _ c.in_ok-arrow.ensures c.note_composite.ensures.grows

pub composite_anew-put_sharing-requires-clause-shape : goal.composite_anew-put_sharing-requires-clause-shape
composite_anew-put_sharing-requires-clause-shape t c =
    let is =
    described_composite c.args.store.now c.regular_composites.new.store c.singular_composites.new.store c.args.g c.args.f c.in_ok-heights.heights.items _ _
    c.requires.outer c.requires.inner c.requires.composable (omega arith) c.in_ok-heights.ensures c.in_ok-regs.ensures c.in_ok-sings.ensures
    in
    subst IsArrowTree (sym is) (IsArrowTree-composite_tree _ _ c.requires.composable)

pub composite_anew-put_sharing-requires-clause-children : goal.composite_anew-put_sharing-requires-clause-children
composite_anew-put_sharing-requires-clause-children t c = made-children _ _ _ _ _ _ _ _ _ c.in_ok-regs.ensures c.in_ok-sings.ensures

pub composite_anew-put_sharing-requires-clause-above : goal.composite_anew-put_sharing-requires-clause-above
composite_anew-put_sharing-requires-clause-above t c =
    let grows = Grows-trans _ _ _ c.in_ok-regs.ensures.grows c.in_ok-sings.ensures.grows in
    let e = ap dimension_of (grows.arrow_trees c.args.g c.requires.outer) in
    omega (arith, composable-dimension _ _ c.requires.composable)

pub composite_anew-returns : goal.composite_anew-returns
composite_anew-returns t c =
    let is =
    described_composite c.args.store.now c.regular_composites.new.store c.singular_composites.new.store c.args.g c.args.f c.in_ok-heights.heights.items _ _
    c.requires.outer c.requires.inner c.requires.composable (omega arith) c.in_ok-heights.ensures c.in_ok-regs.ensures c.in_ok-sings.ensures
    in
    Makes-last _ _ _ _ _ _ _ (Grows-trans _ _ _ c.in_ok-regs.ensures.grows c.in_ok-sings.ensures.grows) is c.put_sharing.ensures

pub regular_composites-composite-requires : goal.regular_composites-composite-requires
regular_composites-composite-requires t c =
    let now = c.args.store.now in
    let zero = zero_dual (arrow_at now c.args.g) (c.requires.store.arrows c.args.g c.requires.outer) (omega (arith, composable-dimension _ _ c.requires.composable)) in
    let l : 0 < length (regs (arrow_at now c.args.f)) = dual_within now now c.args.g c.args.f 0 0 (Grows-refl now) c.requires.outer c.requires.inner c.requires.composable (omega arith) zero in (
      search rules,
      (
        c.arrow_reg-outer.ensures.of_store,
        (
          c.arrow_reg-inner.ensures.of_store,
          (
            reg_dim now c.args.f c.arrow_reg-inner.result 0 c.args.dim c.requires.store c.requires.inner c.requires.dim c.requires.above l c.arrow_reg-inner.ensures.tree,
            reg_pair now now c.args.g c.args.f (Grows-refl now) c.requires.outer c.requires.inner c.requires.composable (omega arith) c.arrow_reg-outer.result c.arrow_reg-inner.result 0 0
                (arrow-regs _ (c.requires.store.arrows c.args.g c.requires.outer) (omega (arith, composable-dimension _ _ c.requires.composable))) zero c.arrow_reg-outer.ensures.tree c.arrow_reg-inner.ensures.tree,
          ),
        ),
      ),
    )

pub regular_composites-loop-k-init : goal.regular_composites-loop-k-init
regular_composites-loop-k-init t c =
    let now = c.args.store.now in
    let made = c.in_ok-composite.ensures.made in
    let zero = zero_dual (arrow_at now c.args.g) (c.requires.store.arrows c.args.g c.requires.outer) (omega (arith, composable-dimension _ _ c.requires.composable)) in
    let is =
    reg_made now now c.args.g c.args.f (Grows-refl now) c.requires.outer c.requires.inner c.arrow_reg-outer.result c.arrow_reg-inner.result 0 0 zero
    c.arrow_reg-outer.ensures.tree c.arrow_reg-inner.ensures.tree
    in
    record {
      grows = made.grows;
      below = zero;
      gathers = rw (c.in_ok-push.ensures.ok, c.new-ids.ensures.items) (makes-more _ _ _ _ _ _ _ (gathers-none _ _) made is);
    }

pub regular_composites-dual_from-below-requires-clause-within : goal.regular_composites-dual_from-below-requires-clause-within
regular_composites-dual_from-below-requires-clause-within t c =
    dual_rises c.args.store.now c.loop-k.store c.args.g c.loop-k.k c.loop-k.below c.loop-k.invariant.grows c.requires.outer c.loop-k.invariant.below

pub regular_composites-arrow_reg-inner-requires-in-loop-k-clause-within : goal.regular_composites-arrow_reg-inner-requires-in-loop-k-clause-within
regular_composites-arrow_reg-inner-requires-in-loop-k-clause-within t c =
    dual_within c.args.store.now c.loop-k.store c.args.g c.args.f (c.loop-k.k + 1) c.dual_from-below.result c.loop-k.invariant.grows c.requires.outer c.requires.inner c.requires.composable (omega arith)
    c.dual_from-below.ensures

pub regular_composites-composite-requires-in-loop-k : goal.regular_composites-composite-requires-in-loop-k
regular_composites-composite-requires-in-loop-k t c =
    let old = c.args.store.now in
    let now = c.loop-k.store in
    let inv = c.loop-k.invariant in
    let l : c.dual_from-below.result < length (regs (arrow_at now c.args.f)) =
    dual_within old now c.args.g c.args.f (c.loop-k.k + 1) c.dual_from-below.result inv.grows c.requires.outer c.requires.inner c.requires.composable (omega arith) c.dual_from-below.ensures
    in
    let first = ap (λ u. length (regs u)) (c.in_ok-composite.ensures.made.grows.arrow_trees c.args.g c.requires.outer) in
    let n = ap (λ u. length (regs u)) (inv.grows.arrow_trees c.args.g c.requires.outer) in
    let same : dimension_of (arrow_at now c.args.f) ≡ dimension_of (arrow_at old c.args.f) = ap dimension_of (inv.grows.arrow_trees c.args.f c.requires.inner) in (
      search rules,
      (
        c.arrow_reg-outer-in-loop-k.ensures.of_store,
        (
          c.arrow_reg-inner-in-loop-k.ensures.of_store,
          (
            reg_dim now c.args.f c.arrow_reg-inner-in-loop-k.result c.dual_from-below.result c.args.dim (inv.grows.store c.requires.store) (inv.grows.arrows _ c.requires.inner) (omega arith) c.requires.above l c.arrow_reg-inner-in-loop-k.ensures.tree,
            reg_pair old now c.args.g c.args.f inv.grows c.requires.outer c.requires.inner c.requires.composable (omega arith) c.arrow_reg-outer-in-loop-k.result c.arrow_reg-inner-in-loop-k.result
                (c.loop-k.k + 1) c.dual_from-below.result (omega arith) c.dual_from-below.ensures c.arrow_reg-outer-in-loop-k.ensures.tree c.arrow_reg-inner-in-loop-k.ensures.tree,
          ),
        ),
      ),
    )

pub regular_composites-loop-k-preserved : goal.regular_composites-loop-k-preserved
regular_composites-loop-k-preserved t c =
    let old = c.args.store.now in
    let now = c.loop-k.store in
    let inv = c.loop-k.invariant in
    let made = c.in_ok-composite-2.ensures.made in
    let is =
    reg_made old now c.args.g c.args.f inv.grows c.requires.outer c.requires.inner c.arrow_reg-outer-in-loop-k.result c.arrow_reg-inner-in-loop-k.result (c.loop-k.k + 1) c.dual_from-below.result
    c.dual_from-below.ensures c.arrow_reg-outer-in-loop-k.ensures.tree c.arrow_reg-inner-in-loop-k.ensures.tree
    in
    record {
      grows = Grows-trans _ _ _ inv.grows made.grows;
      below = c.dual_from-below.ensures ∙ ap (λ u. dual (heights u) (c.loop-k.k + 1)) (inv.grows.arrow_trees c.args.g c.requires.outer);
      gathers = rw c.in_ok-push-2.ensures.ok (makes-more _ _ _ _ _ _ _ inv.gathers made is);
    }

pub singular_composites-composite-requires : goal.singular_composites-composite-requires
singular_composites-composite-requires t c =
    let old = c.args.store.now in
    let now = c.loop-i.store in
    let inv = c.loop-i.invariant in
    let n = ap (λ u. length (heights u)) (inv.grows.arrow_trees c.args.f c.requires.inner) in
    let m = ap (λ u. length (sings u)) (inv.grows.arrow_trees c.args.f c.requires.inner) in
    let k = composable-inner_sings _ _ c.requires.composable (omega arith) in
    let same : dimension_of (arrow_at now c.args.f) ≡ dimension_of (arrow_at old c.args.f) = ap dimension_of (inv.grows.arrow_trees c.args.f c.requires.inner) in (
      search rules,
      (
        c.arrow_sing-outer.ensures.of_store,
        (
          c.arrow_sing-inner.ensures.of_store,
          (
            sing_dim now c.args.f c.arrow_sing-inner.result c.loop-i.i c.args.dim (inv.grows.store c.requires.store) (inv.grows.arrows _ c.requires.inner) (omega arith) c.requires.above (omega arith) c.arrow_sing-inner.ensures.tree,
            sing_pair old now c.args.g c.args.f inv.grows c.requires.outer c.requires.inner c.requires.composable (omega arith) c.arrow_sing-outer.result c.arrow_sing-inner.result
                c.loop-i.i c.height.result (omega arith) c.height.ensures c.arrow_sing-outer.ensures.tree c.arrow_sing-inner.ensures.tree,
          ),
        ),
      ),
    )

pub singular_composites-loop-i-preserved : goal.singular_composites-loop-i-preserved
singular_composites-loop-i-preserved t c =
    let old = c.args.store.now in
    let now = c.loop-i.store in
    let inv = c.loop-i.invariant in
    let made = c.in_ok-composite.ensures.made in
    let is =
    sing_made old now c.args.g c.args.f inv.grows c.requires.outer c.requires.inner c.arrow_sing-outer.result c.arrow_sing-inner.result c.loop-i.i c.height.result
    c.height.ensures c.arrow_sing-outer.ensures.tree c.arrow_sing-inner.ensures.tree
    in
    record {
      grows = Grows-trans _ _ _ inv.grows made.grows;
      gathers = rw c.in_ok-push.ensures.ok (makes-more _ _ _ _ _ _ _ inv.gathers made is);
    }

pub regular_composites-target_len-k-end-requires-clause-above : goal.regular_composites-target_len-k-end-requires-clause-above
regular_composites-target_len-k-end-requires-clause-above t c =
    let e = ap dimension_of (c.in_ok-composite.ensures.made.grows.arrow_trees c.args.g c.requires.outer) in
    omega (arith, composable-dimension _ _ c.requires.composable)
