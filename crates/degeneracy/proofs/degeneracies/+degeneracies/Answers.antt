use Rattle.std.proofs.Common.{◌≡◌, ◌+◌, length, get_or, IsTrue, ◌↔◌, sym, ap, ◌∙◌, rules, arith}
use Rattle.std.proofs.lemmas.Result.{IfOk-weaker}
use Rattle.diagram_terms.specs.Dimension.{dimension_of}
use Rattle.diagram_terms.specs.Dual.{dual}
use Rattle.diagram_terms.specs.Shape.{reg_at, sing_at}
use Rattle.diagram_terms.specs.Tree.{Tree, heights, regs}
use Rattle.diagram_terms.proofs.Decisions.{dual_next}
use Rattle.diagram_terms.proofs.Dimensions.{dimension_of-arrow_reg, dimension_of-arrow_sing}
use Rattle.hashcons.specs.Contents.{arrow_at, diagram_at}
use Rattle.diagram_terms.specs.Operations.{composite_tree}
use Rattle.hashcons.proofs.OneMoreTree.{Grows-refl}
use Rattle.hashcons.proofs.Growth.{Grows-trans}
use Rattle.zigzag_maps.proofs.KeptMaps.{valid_map-grows}
use Rattle.degeneracy.specs.DegeneracyTrees.{IsDegeneracyMap, IsDegeneracyTree}
use Rattle.degeneracy.specs.DegeneracyShapes.{HasDegenerateSings, HasDegenerateMissed, IsDegenerateWhereMissed}
use Rattle.zigzag_maps.proofs.ValidArrows.{valid_parts, arrow_sings_len, source_dimension, target_dimension}
use Rattle.degeneracy.proofs.DegenerateShapes.{degeneracy_shape, degeneracy_ends}
use Rattle.zigzag_maps.proofs.SliceMaps.{arrow_of_map, fact_before, fact_after, same_trees, fact_of}
use Rattle.degeneracy.proofs.DegeneraciesInStore.{yes_means, fails, Decides-err, Decides-no, degeneracies-grow, one_id}
use Rattle.degeneracy.proofs.FactorMaps.{degeneracy_map-grows}
use Rattle.degeneracy.proofs.FactorsInStore.{more_there}
use Rattle.degeneracy.proofs.degeneracies.+degeneracies.Goals as goal

pub has_shape-returns-then-dim-eq0 : goal.has_shape-returns-then-dim-eq0
has_shape-returns-then-dim-eq0 t c =
    let ends = degeneracy_ends _ _ _ (arrow_of_map c.args.store.now c.args.f c.requires.valid) (sym c.requires.dim ∙ c.if-dim-eq0.true) in
    let same = c.has_equal_ends.ensures in
    record { grows = Grows-refl _; right = c.requires.kept; decides = (λ yes. ends.0 (same.0 yes), λ h. same.1 (ends.1 h)) }

pub has_shape-returns-then-not-rises : goal.has_shape-returns-then-not-rises
has_shape-returns-then-not-rises t c =
    let now = c.args.store.now in
    let v = c.requires.valid in
    let shape = degeneracy_shape _ _ _ (arrow_of_map now c.args.f v) (omega arith) in
    Decides-no _ _ _ _ (Grows-refl _) c.requires.kept (λ h. fails _ _ c.rises.ensures c.if-not-rises.true (shape.0 h).increasing)

pub has_shape-returns-then-not-branch : goal.has_shape-returns-then-not-branch
has_shape-returns-then-not-branch t c =
    let now = c.args.store.now in
    let v = c.requires.valid in
    let shape = degeneracy_shape _ _ _ (arrow_of_map now c.args.f v) (omega arith) in
    let rs = c.in_ok-regs_are_degeneracies.ensures in
    Decides-no _ _ _ _ rs.grows rs.right (λ h. fails _ _ rs.decides c.if-not-branch.true (shape.0 h).regs)

pub has_shape-returns-then-not-branch-2 : goal.has_shape-returns-then-not-branch-2
has_shape-returns-then-not-branch-2 t c =
    let now = c.args.store.now in
    let v = c.requires.valid in
    let shape = degeneracy_shape _ _ _ (arrow_of_map now c.args.f v) (omega arith) in
    let rs = c.in_ok-regs_are_degeneracies.ensures in
    let ss = c.in_ok-sings_are_degeneracies.ensures in
    Decides-no _ _ _ _ (Grows-trans _ _ _ rs.grows ss.grows) ss.right
    (λ h. fails _ _ ss.decides c.if-not-branch-2.true (fact_after HasDegenerateSings _ _ c.args.f rs.grows v (shape.0 h).sings))

pub has_shape-returns-in_err-sings_are_degeneracies : goal.has_shape-returns-in_err-sings_are_degeneracies
has_shape-returns-in_err-sings_are_degeneracies t c =
    let rs = c.in_ok-regs_are_degeneracies.ensures in
    let ss = c.in_err-sings_are_degeneracies.ensures in
    Decides-err _ _ _ _ _ (Grows-trans _ _ _ rs.grows ss.grows) ss.right c.from_residual-in_err-sings_are_degeneracies.ensures.0

pub has_shape-missed_are_degeneracies-requires : goal.has_shape-missed_are_degeneracies-requires
has_shape-missed_are_degeneracies-requires t c =
    let rs = c.in_ok-regs_are_degeneracies.ensures in
    let ss = c.in_ok-sings_are_degeneracies.ensures in
    let g = Grows-trans _ _ _ rs.grows ss.grows in (
      search rules,
      (
        valid_map-grows _ _ c.args.f g c.requires.valid,
        (c.requires.dim ∙ sym (ap dimension_of (g.arrow_trees c.args.f.arrow c.requires.valid.arrow)), (omega arith, (ss.right, g.store c.requires.store))),
      ),
    )

pub has_shape-returns : goal.has_shape-returns
has_shape-returns t c =
    let now = c.args.store.now in
    let v = c.requires.valid in
    let shape = degeneracy_shape _ _ _ (arrow_of_map now c.args.f v) (omega arith) in
    let rs = c.in_ok-regs_are_degeneracies.ensures in
    let ss = c.in_ok-sings_are_degeneracies.ensures in
    let ms = c.missed_are_degeneracies.ensures in
    let g = Grows-trans _ _ _ rs.grows ss.grows in
    record {
      grows = Grows-trans _ _ _ g ms.grows;
      right = ms.right;
      decides = IfOk-weaker c.missed_are_degeneracies.result _ (λ yes. IsTrue yes ↔ IsDegeneracyMap now c.args.f) (λ b d. (
        λ yes. shape.1 (record {
          increasing = c.rises.ensures.0 c.if-not-rises.false;
          regs = rs.decides.0 c.if-not-branch.false;
          sings = fact_before HasDegenerateSings _ _ c.args.f rs.grows v (ss.decides.0 c.if-not-branch-2.false);
          missed = fact_before HasDegenerateMissed _ _ c.args.f g v (d.0 yes);
        }),
        λ h. d.1 (fact_after HasDegenerateMissed _ _ c.args.f g v (shape.0 h).missed),
      )) ms.decides;
    }

pub is_degeneracy_once-returns-in_err-keep : goal.is_degeneracy_once-returns-in_err-keep
is_degeneracy_once-returns-in_err-keep t c =
    let one = c.in_ok-has_shape.ensures in
    let yes = one.decides.0 c.if-not-branch.false in
    let right = c.keep.ensures _ one.right (record {
      valid = valid_map-grows _ _ c.args.f one.grows c.requires.valid;
      degeneracy = degeneracy_map-grows _ _ c.args.f one.grows c.requires.valid yes;
    }) in
    Decides-err _ _ _ _ _ one.grows right c.from_residual-in_err-keep.ensures.0

pub is_degeneracy_once-returns : goal.is_degeneracy_once-returns
is_degeneracy_once-returns t c =
    let one = c.in_ok-has_shape.ensures in
    let yes = one.decides.0 c.if-not-branch.false in
    let right = c.keep.ensures _ one.right (record {
      valid = valid_map-grows _ _ c.args.f one.grows c.requires.valid;
      degeneracy = degeneracy_map-grows _ _ c.args.f one.grows c.requires.valid yes;
    }) in
    record { grows = one.grows; right = right; decides = yes_means _ yes }

pub regs_are_degeneracies-is_degeneracy_once-requires : goal.regs_are_degeneracies-is_degeneracy_once-requires
regs_are_degeneracies-is_degeneracy_once-requires t c =
    let now = c.loop-k.store in
    let inv = c.loop-k.invariant in
    let same = ap dimension_of (inv.grows.arrow_trees c.args.f.arrow c.requires.valid.arrow) in
    let nr = ap (λ u. length (regs u)) (inv.grows.arrow_trees c.args.f.arrow c.requires.valid.arrow) in
    let nh = ap (λ u. length (heights u)) (inv.grows.arrow_trees c.args.f.arrow c.requires.valid.arrow) in
    let slice = c.reg_slice-slice.ensures in
    let n = dimension_of-arrow_reg (arrow_at now c.args.f.arrow) c.loop-k.k ((inv.grows.store c.requires.store).arrows c.args.f.arrow (inv.grows.arrows _ c.requires.valid.arrow)) (omega arith) (omega arith) in
    let d = ap dimension_of slice.is.arrow in
    (search rules, (slice.valid, (omega arith, (inv.right, inv.grows.store c.requires.store))))

pub sings_are_degeneracies-is_degeneracy_once-requires : goal.sings_are_degeneracies-is_degeneracy_once-requires
sings_are_degeneracies-is_degeneracy_once-requires t c =
    let now = c.loop-i.store in
    let inv = c.loop-i.invariant in
    let same = ap dimension_of (inv.grows.arrow_trees c.args.f.arrow c.requires.valid.arrow) in
    let nr = ap (λ u. length (regs u)) (inv.grows.arrow_trees c.args.f.arrow c.requires.valid.arrow) in
    let nh = ap (λ u. length (heights u)) (inv.grows.arrow_trees c.args.f.arrow c.requires.valid.arrow) in
    let slice = c.sing_slice-slice.ensures in
    let sl = arrow_sings_len _ _ _ (arrow_of_map now c.args.f (valid_map-grows _ _ c.args.f inv.grows c.requires.valid)) (omega arith) in
    let n = dimension_of-arrow_sing (arrow_at now c.args.f.arrow) c.loop-i.i ((inv.grows.store c.requires.store).arrows c.args.f.arrow (inv.grows.arrows _ c.requires.valid.arrow)) (omega arith) (omega arith) in
    let d = ap dimension_of slice.is.arrow in
    (search rules, (slice.valid, (omega arith, (inv.right, inv.grows.store c.requires.store))))

pub sings_are_degeneracies-loop-i-preserved : goal.sings_are_degeneracies-loop-i-preserved
sings_are_degeneracies-loop-i-preserved t c =
    let now = c.loop-i.store in
    let inv = c.loop-i.invariant in
    let one = c.in_ok-is_degeneracy_once.ensures in
    let yes = fact_of IsDegeneracyTree now _ _ _ c.sing_slice-slice.result c.sing_slice-slice.ensures.is (one.decides.0 c.if-not-branch.false) in
    record {
      grows = Grows-trans _ _ _ inv.grows one.grows;
      right = one.right;
      passed = more_there _ c.loop-i.i inv.passed (fact_before (λ (s t f : Tree). IsDegeneracyTree (sing_at s c.loop-i.i) (sing_at t (get_or (heights f) c.loop-i.i 0)) (sing_at f c.loop-i.i)) _ _ c.args.f inv.grows c.requires.valid yes);
    }

-- ---- the composites

pub edge_is_degeneracy-is_degeneracy_once-requires : goal.edge_is_degeneracy-is_degeneracy_once-requires
edge_is_degeneracy-is_degeneracy_once-requires t c =
    let edge = c.in_ok-edge.ensures in
    let g = edge.made.grows in
    let a = source_dimension _ _ _ edge.valid.between in
    let b = source_dimension _ _ _ c.requires.inner.between in
    let d = ap (λ u. dimension_of (diagram_at c.compose.new.store u)) edge.source in
    let e = ap dimension_of (g.diagram_trees c.args.slice.source c.requires.inner.source.of_store) in
    (search rules, (edge.valid, (omega arith, (degeneracies-grow _ _ _ g c.requires.kept, g.store c.requires.store))))

pub edge_is_degeneracy-compose-requires-clause-meet : goal.edge_is_degeneracy-compose-requires-clause-meet
edge_is_degeneracy-compose-requires-clause-meet t c =
    one_id c.args.store.now c.args.slice.target c.args.leg.source c.requires.store c.requires.inner.target.of_store c.requires.outer.source.of_store c.requires.meet

pub edges_are_degeneracies-dual_from-requires-clause-within : goal.edges_are_degeneracies-dual_from-requires-clause-within
edges_are_degeneracies-dual_from-requires-clause-within t c =
    let hs = heights (arrow_at c.args.store.now c.args.f.arrow) in
    let l = dual_next hs c.args.k in
    let e = ap (dual hs) c.requires.next in
    omega arith

pub edges_are_degeneracies-fwd_map-fwd-requires-clause-above : goal.edges_are_degeneracies-fwd_map-fwd-requires-clause-above
edges_are_degeneracies-fwd_map-fwd-requires-clause-above t c =
    let td = target_dimension _ _ _ c.requires.valid.between in
    omega arith

pub edges_are_degeneracies-bwd_map-bwd-requires-clause-above : goal.edges_are_degeneracies-bwd_map-bwd-requires-clause-above
edges_are_degeneracies-bwd_map-bwd-requires-clause-above t c =
    let td = target_dimension _ _ _ c.requires.valid.between in
    omega arith

pub edges_are_degeneracies-reg_slice-before-requires-clause-within : goal.edges_are_degeneracies-reg_slice-before-requires-clause-within
edges_are_degeneracies-reg_slice-before-requires-clause-within t c =
    let now = c.args.store.now in
    let v = c.requires.valid in
    let has = valid_parts _ _ _ (arrow_of_map now c.args.f v) (omega arith) in
    let rl = has.regs_len in
    let td = target_dimension _ _ _ v.between in
    omega arith

pub edges_are_degeneracies-reg_slice-behind-requires-clause-within : goal.edges_are_degeneracies-reg_slice-behind-requires-clause-within
edges_are_degeneracies-reg_slice-behind-requires-clause-within t c =
    let now = c.args.store.now in
    let v = c.requires.valid in
    let has = valid_parts _ _ _ (arrow_of_map now c.args.f v) (omega arith) in
    let rl = has.regs_len in
    let td = target_dimension _ _ _ v.between in
    omega arith

pub edges_are_degeneracies-edge_is_degeneracy-requires : goal.edges_are_degeneracies-edge_is_degeneracy-requires
edges_are_degeneracies-edge_is_degeneracy-requires t c =
    let now = c.args.store.now in
    let v = c.requires.valid in
    let has = valid_parts _ _ _ (arrow_of_map now c.args.f v) (omega arith) in
    let rl = has.regs_len in
    let td = target_dimension _ _ _ v.between in
    let before = c.reg_slice-before.ensures in
    let behind = c.reg_slice-behind.ensures in
    let fwd = c.fwd_map-fwd.ensures in
    let bwd = c.bwd_map-bwd.ensures in
    let shape = c.requires.store.arrows c.args.f.arrow v.arrow in
    let n = dimension_of-arrow_reg (arrow_at now c.args.f.arrow) c.args.k shape (omega arith) (omega arith) in
    let d = ap dimension_of before.is.arrow in
    (search rules, (fwd.valid, (before.valid, (before.is.target ∙ sym fwd.is.source, (omega arith, (c.requires.kept, c.requires.store))))))

pub edges_are_degeneracies-edge_is_degeneracy-requires-2 : goal.edges_are_degeneracies-edge_is_degeneracy-requires-2
edges_are_degeneracies-edge_is_degeneracy-requires-2 t c =
    let now = c.args.store.now in
    let v = c.requires.valid in
    let has = valid_parts _ _ _ (arrow_of_map now c.args.f v) (omega arith) in
    let rl = has.regs_len in
    let td = target_dimension _ _ _ v.between in
    let before = c.reg_slice-before.ensures in
    let behind = c.reg_slice-behind.ensures in
    let fwd = c.fwd_map-fwd.ensures in
    let bwd = c.bwd_map-bwd.ensures in
    let shape = c.requires.store.arrows c.args.f.arrow v.arrow in
    let next : c.args.next ≡ c.args.k + 1 = omega arith in
    let n = dimension_of-arrow_reg (arrow_at now c.args.f.arrow) c.args.next shape (omega arith) (omega arith) in
    let one = c.in_ok-edge_is_degeneracy.ensures in
    let g = one.grows in
    let d = ap dimension_of (g.arrow_trees _ behind.valid.arrow ∙ behind.is.arrow) in
    let meet = g.diagram_trees _ behind.valid.target.of_store ∙ behind.is.target ∙ ap (reg_at (diagram_at now c.args.f.target)) next
    ∙ sym (g.diagram_trees _ bwd.valid.source.of_store ∙ bwd.is.source) in (
      search rules,
      (
        valid_map-grows _ _ c.bwd_map-bwd.result g bwd.valid,
        (valid_map-grows _ _ c.reg_slice-behind.result g behind.valid, (meet, (omega arith, (one.right, g.store c.requires.store)))),
      ),
    )

pub edges_are_degeneracies-returns : goal.edges_are_degeneracies-returns
edges_are_degeneracies-returns t c =
    let now = c.args.store.now in
    let v = c.requires.valid in
    let has = valid_parts _ _ _ (arrow_of_map now c.args.f v) (omega arith) in
    let rl = has.regs_len in
    let td = target_dimension _ _ _ v.between in
    let before = c.reg_slice-before.ensures in
    let behind = c.reg_slice-behind.ensures in
    let fwd = c.fwd_map-fwd.ensures in
    let bwd = c.bwd_map-bwd.ensures in
    let shape = c.requires.store.arrows c.args.f.arrow v.arrow in
    let hs = heights (arrow_at now c.args.f.arrow) in
    let one = c.in_ok-edge_is_degeneracy.ensures in
    let two = c.edge_is_degeneracy-2.ensures in
    let g = one.grows in
    let yes = same_trees IsDegeneracyTree _ _ _ _ _ _ before.is.source fwd.is.target (λ i. composite_tree (fwd.is.arrow i) (before.is.arrow i)) (one.decides.0 c.if-not-branch.false) in
    let ps = g.diagram_trees _ behind.valid.source.of_store ∙ behind.is.source ∙ ap (λ n. reg_at (diagram_at now c.args.f.source) (dual hs n)) c.requires.next in
    let pt = g.diagram_trees _ bwd.valid.target.of_store ∙ bwd.is.target in
    let px = g.arrow_trees _ bwd.valid.arrow ∙ bwd.is.arrow in
    let py = g.arrow_trees _ behind.valid.arrow ∙ behind.is.arrow ∙ ap (reg_at (arrow_at now c.args.f.arrow)) c.requires.next in
    let missed = sym c.dual_of-first.ensures ∙ c.if-first-dual_from.false ∙ c.dual_from.ensures ∙ ap (dual hs) c.requires.next in
    record {
      grows = Grows-trans _ _ _ g two.grows;
      right = two.right;
      decides = IfOk-weaker c.edge_is_degeneracy-2.result _
          (λ yes. IsTrue yes ↔ IsDegenerateWhereMissed (diagram_at now c.args.f.source) (diagram_at now c.args.f.target) (arrow_at now c.args.f.arrow) c.args.k) (λ b d. (
            λ so m. record { fwd = yes; bwd = same_trees IsDegeneracyTree _ _ _ _ _ _ ps pt (λ i. composite_tree (px i) (py i)) (d.0 so) },
            λ h. d.1 (same_trees IsDegeneracyTree _ _ _ _ _ _ (sym ps) (sym pt) (λ i. composite_tree (sym px i) (sym py i)) (h missed).bwd),
          )) two.decides;
    }

pub missed_are_degeneracies-returns-then-not-branch : goal.missed_are_degeneracies-returns-then-not-branch
missed_are_degeneracies-returns-then-not-branch t c =
    let inv = c.loop-k.invariant in
    let one = c.in_ok-edges_are_degeneracies.ensures in
    Decides-no _ _ _ _ (Grows-trans _ _ _ inv.grows one.grows) one.right (λ h. fails _ _ one.decides c.if-not-branch.true
    (fact_after (λ (s t f : Tree). IsDegenerateWhereMissed s t f c.loop-k.k) _ _ c.args.f inv.grows c.requires.valid (h c.loop-k.k (omega arith))))

pub missed_are_degeneracies-loop-k-preserved : goal.missed_are_degeneracies-loop-k-preserved
missed_are_degeneracies-loop-k-preserved t c =
    let inv = c.loop-k.invariant in
    let one = c.in_ok-edges_are_degeneracies.ensures in
    record {
      grows = Grows-trans _ _ _ inv.grows one.grows;
      right = one.right;
      passed = more_there (IsDegenerateWhereMissed (diagram_at c.args.store.now c.args.f.source) (diagram_at c.args.store.now c.args.f.target) (arrow_at c.args.store.now c.args.f.arrow)) c.loop-k.k inv.passed
          (fact_before (λ (s t f : Tree). IsDegenerateWhereMissed s t f c.loop-k.k) _ _ c.args.f inv.grows c.requires.valid (one.decides.0 c.if-not-branch.false));
    }
