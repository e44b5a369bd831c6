use Rattle.std.proofs.Common.{rules, ◌≡◌, ◌+◌, ◌<◌, ℕ, suc, length, sym, ap, subst, ◌∙◌, arith}
use Rattle.diagram_terms.specs.Decoded.{dia_tree}
use Rattle.diagram_terms.specs.Dimension.{IsDiagramTree}
use Rattle.diagram_terms.specs.Shape.{reg_at, sing_at}
use Rattle.diagram_terms.specs.Tree.{regs}
use Rattle.hashcons.specs.Contents.{diagram_at}
use Rattle.hashcons.proofs.Growth.{Grows-trans, Makes-last, gathers-none}
use Rattle.region_cut.specs.CutTrees.{cut_reg}
use Rattle.region_cut.specs.RegionValues.{region_of}
use Rattle.region_cut.proofs.DiagramSteps.{has_there, interval, interval_end, regs_end, reg_step, sing_step, makes-diagram_more, all_grow, cut_children, described_diagram_cut, cut_diagram_shape, diagram_at_zero, MakesDiagram-same, MakesDiagram-told, diagram_cut_above}
use Rattle.region_cut.proofs.PreimageSteps.{sing_is, reg_is, sings_count, regs_count}
use Rattle.region_cut.proofs.diagrams.+diagrams.Goals as goal

-- src/diagrams.rt:88:14
pub cut_regs-diagram_cut-requires : goal.cut_regs-diagram_cut-requires
cut_regs-diagram_cut-requires t c =
    let r = c.requires in
    let old = c.args.store.now in
    let d = c.args.below in
    let u = diagram_at old c.args.d in
    let W = region_of (suc d) c.args.region.now in
    let h = r.has in
    let from = c.from-from.ensures d in
    let w = interval _ _ _ h in
    let l = regs_end _ _ _ h in
    let e = c.regs-inner.ensures d in
    let n = regs_count d c.args.region.now _ _ e h.closed.region in
    let at = reg_is d c.args.region.now _ 0 W.from c.index-inner-0.result e (omega arith) (omega arith) c.index-inner-0.is in
    let step = reg_step d u u W h (λ _. u) W.from _ _ (omega arith) w (c.reg-head.ensures.tree ∙ ap (reg_at u) from) at in
    (search rules, (c.reg-head.ensures.of_store, (r.store, step.has)))

-- src/diagrams.rt:89:5
pub cut_regs-loop-j-init : goal.cut_regs-loop-j-init
cut_regs-loop-j-init t c =
    let r = c.requires in
    let old = c.args.store.now in
    let d = c.args.below in
    let u = diagram_at old c.args.d in
    let W = region_of (suc d) c.args.region.now in
    let h = r.has in
    let from = c.from-from.ensures d in
    let w = interval _ _ _ h in
    let l = regs_end _ _ _ h in
    let e = c.regs-inner.ensures d in
    let n = regs_count d c.args.region.now _ _ e h.closed.region in
    let at = reg_is d c.args.region.now _ 0 W.from c.index-inner-0.result e (omega arith) (omega arith) c.index-inner-0.is in
    let step = reg_step d u u W h (λ _. u) W.from _ _ (omega arith) w (c.reg-head.ensures.tree ∙ ap (reg_at u) from) at in
    let made = c.in_ok-diagram_cut.ensures in
    let G = λ (j : ℕ). dia_tree d (cut_reg d u W (W.from + j)) in
    let zero : W.from ≡ W.from + 0 = omega arith in
    record {
      grows = made.grows;
      gathers = rw (c.in_ok-push.ensures.ok, c.new-ids.ensures.items) (makes-diagram_more _ _ _ _ _ G _ (gathers-none _ G) made (step.is ∙ ap (λ k. dia_tree d (cut_reg d u W k)) zero));
    }

-- src/diagrams.rt:90:13
pub cut_regs-reg-slice-requires-clause-within : goal.cut_regs-reg-slice-requires-clause-within
cut_regs-reg-slice-requires-clause-within t c =
    let r = c.requires in
    let old = c.args.store.now in
    let d = c.args.below in
    let u = diagram_at old c.args.d in
    let W = region_of (suc d) c.args.region.now in
    let h = r.has in
    let from = c.from-from.ensures d in
    let w = interval _ _ _ h in
    let l = regs_end _ _ _ h in
    let e = c.regs-inner.ensures d in
    let n = regs_count d c.args.region.now _ _ e h.closed.region in
    let to = c.to.ensures d in
    let now = c.loop-j.store in
    let inv = c.loop-j.invariant in
    let same = inv.grows.diagram_trees c.args.d r.of_store in
    let m = ap (λ u. length (regs u)) same in
    omega arith

-- src/diagrams.rt:91:58
pub cut_regs-offset_bounds-inner-j : goal.cut_regs-offset_bounds-inner-j
cut_regs-offset_bounds-inner-j t c =
    let r = c.requires in
    let old = c.args.store.now in
    let d = c.args.below in
    let u = diagram_at old c.args.d in
    let W = region_of (suc d) c.args.region.now in
    let h = r.has in
    let from = c.from-from.ensures d in
    let w = interval _ _ _ h in
    let l = regs_end _ _ _ h in
    let e = c.regs-inner.ensures d in
    let n = regs_count d c.args.region.now _ _ e h.closed.region in
    let to = c.to.ensures d in
    let m : c.loop-j.j + 1 < length c.regs-inner.result.now = omega arith in
    search rules

-- src/diagrams.rt:91:58
pub cut_regs-bounds-inner-j : goal.cut_regs-bounds-inner-j
cut_regs-bounds-inner-j t c =
    let r = c.requires in
    let old = c.args.store.now in
    let d = c.args.below in
    let u = diagram_at old c.args.d in
    let W = region_of (suc d) c.args.region.now in
    let h = r.has in
    let from = c.from-from.ensures d in
    let w = interval _ _ _ h in
    let l = regs_end _ _ _ h in
    let e = c.regs-inner.ensures d in
    let n = regs_count d c.args.region.now _ _ e h.closed.region in
    let to = c.to.ensures d in
    omega arith

-- src/diagrams.rt:91:18
pub cut_regs-diagram_cut-requires-in-loop-j : goal.cut_regs-diagram_cut-requires-in-loop-j
cut_regs-diagram_cut-requires-in-loop-j t c =
    let r = c.requires in
    let old = c.args.store.now in
    let d = c.args.below in
    let u = diagram_at old c.args.d in
    let W = region_of (suc d) c.args.region.now in
    let h = r.has in
    let from = c.from-from.ensures d in
    let w = interval _ _ _ h in
    let l = regs_end _ _ _ h in
    let e = c.regs-inner.ensures d in
    let n = regs_count d c.args.region.now _ _ e h.closed.region in
    let to = c.to.ensures d in
    let now = c.loop-j.store in
    let inv = c.loop-j.invariant in
    let same = inv.grows.diagram_trees c.args.d r.of_store in
    let k = W.from + (c.loop-j.j + 1) in
    let at = reg_is d c.args.region.now _ (c.loop-j.j + 1) k c.index-inner-j.result e (omega arith) (omega arith) c.index-inner-j.is in
    let step = reg_step d u (diagram_at now c.args.d) W h same k _ _ (omega arith) (omega arith) (c.reg-slice.ensures.tree ∙ ap (λ m. reg_at (diagram_at now c.args.d) (m + (c.loop-j.j + 1))) from) at in
    (search rules, (c.reg-slice.ensures.of_store, (inv.grows.store r.store, step.has)))

-- src/diagrams.rt:89:5
pub cut_regs-loop-j-preserved : goal.cut_regs-loop-j-preserved
cut_regs-loop-j-preserved t c =
    let r = c.requires in
    let old = c.args.store.now in
    let d = c.args.below in
    let u = diagram_at old c.args.d in
    let W = region_of (suc d) c.args.region.now in
    let h = r.has in
    let from = c.from-from.ensures d in
    let w = interval _ _ _ h in
    let l = regs_end _ _ _ h in
    let e = c.regs-inner.ensures d in
    let n = regs_count d c.args.region.now _ _ e h.closed.region in
    let to = c.to.ensures d in
    let now = c.loop-j.store in
    let inv = c.loop-j.invariant in
    let same = inv.grows.diagram_trees c.args.d r.of_store in
    let k = W.from + (c.loop-j.j + 1) in
    let at = reg_is d c.args.region.now _ (c.loop-j.j + 1) k c.index-inner-j.result e (omega arith) (omega arith) c.index-inner-j.is in
    let step = reg_step d u (diagram_at now c.args.d) W h same k _ _ (omega arith) (omega arith) (c.reg-slice.ensures.tree ∙ ap (λ m. reg_at (diagram_at now c.args.d) (m + (c.loop-j.j + 1))) from) at in
    let made = c.in_ok-diagram_cut-2.ensures in
    record {
      grows = Grows-trans _ _ _ inv.grows made.grows;
      gathers = rw c.in_ok-push-2.ensures.ok (makes-diagram_more _ _ _ _ _ _ _ inv.gathers made step.is);
    }

-- src/diagrams.rt:119:18
pub cut_sings-diagram_cut-requires : goal.cut_sings-diagram_cut-requires
cut_sings-diagram_cut-requires t c =
    let r = c.requires in
    let old = c.args.store.now in
    let d = c.args.below in
    let u = diagram_at old c.args.d in
    let W = region_of (suc d) c.args.region.now in
    let h = r.has in
    let from = c.from-from.ensures d in
    let to = c.to.ensures d in
    let w = interval _ _ _ h in
    let l = interval_end _ _ _ h in
    let e = c.sings-inner.ensures d in
    let n = sings_count d c.args.region.now _ _ e h.closed.region in
    let now = c.loop-i.store in
    let inv = c.loop-i.invariant in
    let same = inv.grows.diagram_trees c.args.d r.of_store in
    let k = W.from + c.loop-i.i in
    let at = sing_is d c.args.region.now _ c.loop-i.i k c.index-inner-i.result e (omega arith) (omega arith) c.index-inner-i.is in
    let step = sing_step d u (diagram_at now c.args.d) W h same k _ _ (omega arith) (omega arith) (c.sing-slice.ensures.tree ∙ ap (λ m. sing_at (diagram_at now c.args.d) (m + c.loop-i.i)) from) at in
    (search rules, (c.sing-slice.ensures.of_store, (inv.grows.store r.store, step.has)))

-- src/diagrams.rt:117:5
pub cut_sings-loop-i-preserved : goal.cut_sings-loop-i-preserved
cut_sings-loop-i-preserved t c =
    let r = c.requires in
    let old = c.args.store.now in
    let d = c.args.below in
    let u = diagram_at old c.args.d in
    let W = region_of (suc d) c.args.region.now in
    let h = r.has in
    let from = c.from-from.ensures d in
    let to = c.to.ensures d in
    let w = interval _ _ _ h in
    let l = interval_end _ _ _ h in
    let e = c.sings-inner.ensures d in
    let n = sings_count d c.args.region.now _ _ e h.closed.region in
    let now = c.loop-i.store in
    let inv = c.loop-i.invariant in
    let same = inv.grows.diagram_trees c.args.d r.of_store in
    let k = W.from + c.loop-i.i in
    let at = sing_is d c.args.region.now _ c.loop-i.i k c.index-inner-i.result e (omega arith) (omega arith) c.index-inner-i.is in
    let step = sing_step d u (diagram_at now c.args.d) W h same k _ _ (omega arith) (omega arith) (c.sing-slice.ensures.tree ∙ ap (λ m. sing_at (diagram_at now c.args.d) (m + c.loop-i.i)) from) at in
    let made = c.in_ok-diagram_cut.ensures in
    record {
      grows = Grows-trans _ _ _ inv.grows made.grows;
      gathers = rw c.in_ok-push.ensures.ok (makes-diagram_more _ _ _ _ _ _ _ inv.gathers made step.is);
    }

-- src/diagrams.rt:33:9
pub diagram_cut-returns-then-dim-eq0 : goal.diagram_cut-returns-then-dim-eq0
diagram_cut-returns-then-dim-eq0 t c =
    MakesDiagram-same _ _ _ c.requires.of_store (diagram_at_zero c.args.dim (diagram_at c.args.store.now c.args.d) (region_of c.args.dim c.args.region.now) (omega arith) c.requires.has)

-- src/diagrams.rt:17:1
pub diagram_cut-returns : goal.diagram_cut-returns
diagram_cut-returns t c =
    MakesDiagram-told _ _ _ _ _ (diagram_cut_above c.args.dim (diagram_at c.args.store.now c.args.d) c.args.region.now (omega arith)) c.zig_cut.ensures

-- src/diagrams.rt:56:16
pub zig_cut-cut_fwds-requires-clause-of_store : goal.zig_cut-cut_fwds-requires-clause-of_store
zig_cut-cut_fwds-requires-clause-of_store t c =
    let r = c.requires in
    let g = Grows-trans _ _ _ c.in_ok-regs.ensures.grows c.in_ok-sings.ensures.grows in
    g.diagrams c.args.d r.of_store

-- src/diagrams.rt:56:16
pub zig_cut-cut_fwds-requires-clause-has : goal.zig_cut-cut_fwds-requires-clause-has
zig_cut-cut_fwds-requires-clause-has t c =
    let r = c.requires in
    let g = Grows-trans _ _ _ c.in_ok-regs.ensures.grows c.in_ok-sings.ensures.grows in
    has_there _ _ _ _ (g.diagram_trees c.args.d r.of_store) r.has

-- src/diagrams.rt:57:16
pub zig_cut-cut_bwds-requires-clause-has : goal.zig_cut-cut_bwds-requires-clause-has
zig_cut-cut_bwds-requires-clause-has t c =
    let r = c.requires in
    let g = Grows-trans _ _ _ c.in_ok-regs.ensures.grows c.in_ok-sings.ensures.grows in
    let g2 = Grows-trans _ _ _ g c.in_ok-fwds.ensures.grows in
    has_there _ _ _ _ (g2.diagram_trees c.args.d r.of_store) r.has

-- src/diagrams.rt:58:5
pub zig_cut-put_diagram-requires-clause-children :
    goal.zig_cut-put_diagram-requires-clause-children
zig_cut-put_diagram-requires-clause-children t c =
    cut_children c.args.store.now c.cut_regs.new.store c.cut_sings.new.store c.cut_fwds.new.store c.cut_bwds.new.store c.args.below c.args.d 0 0 _ _ _ _ (region_of (suc c.args.below) c.args.region.now) c.requires.of_store c.in_ok-regs.ensures c.in_ok-sings.ensures c.in_ok-fwds.ensures c.in_ok-bwds.ensures

-- src/diagrams.rt:58:5
pub zig_cut-put_diagram-requires-clause-shape : goal.zig_cut-put_diagram-requires-clause-shape
zig_cut-put_diagram-requires-clause-shape t c =
    subst IsDiagramTree (sym (described_diagram_cut c.args.store.now c.cut_regs.new.store c.cut_sings.new.store c.cut_fwds.new.store c.cut_bwds.new.store c.args.below c.args.d 0 0 _ _ _ _ (region_of (suc c.args.below) c.args.region.now) c.requires.of_store c.in_ok-regs.ensures c.in_ok-sings.ensures c.in_ok-fwds.ensures c.in_ok-bwds.ensures))
    (cut_diagram_shape (suc c.args.below) (diagram_at c.args.store.now c.args.d) (region_of (suc c.args.below) c.args.region.now) c.requires.has)

-- src/diagrams.rt:39:1
pub zig_cut-returns : goal.zig_cut-returns
zig_cut-returns t c =
    Makes-last _ _ _ _ _ _ _ (all_grow c.args.store.now c.cut_regs.new.store c.cut_sings.new.store c.cut_fwds.new.store c.cut_bwds.new.store c.args.below c.args.d 0 0 _ _ _ _ (region_of (suc c.args.below) c.args.region.now) c.requires.of_store c.in_ok-regs.ensures c.in_ok-sings.ensures c.in_ok-fwds.ensures c.in_ok-bwds.ensures)
    (described_diagram_cut c.args.store.now c.cut_regs.new.store c.cut_sings.new.store c.cut_fwds.new.store c.cut_bwds.new.store c.args.below c.args.d 0 0 _ _ _ _ (region_of (suc c.args.below) c.args.region.now) c.requires.of_store c.in_ok-regs.ensures c.in_ok-sings.ensures c.in_ok-fwds.ensures c.in_ok-bwds.ensures) c.put_diagram.ensures.made

-- src/diagrams.rt:119:9
pub cut_sings-returns-in_err-push : goal.cut_sings-returns-in_err-push
cut_sings-returns-in_err-push t c =
    let g = Grows-trans _ _ _ c.loop-i.invariant.grows c.diagram_cut.ensures.grows in
    search rules
