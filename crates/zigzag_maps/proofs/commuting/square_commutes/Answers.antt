use Rattle.std.proofs.Common.{◌≡◌, ◌+◌, sym, ap, ◌∙◌, arith}
use Rattle.hashcons.specs.Contents.{diagram_at, arrow_at}
use Rattle.hashcons.proofs.Growth.{Grows-trans}
use Rattle.zigzag_maps.specs.Visits.{right_edge, enter_edge, leave_edge}
use Rattle.zigzag_maps.proofs.SquareEdges.{edge_at, edge_at-first, edge_at-next}
use Rattle.zigzag_maps.proofs.EdgeSteps.{slicewise-grows, fibre_within, equal_ids, other, not_other, stops, last_decides, more_from, fibre_rises}
use Rattle.zigzag_maps.proofs.FaultSteps.{map_trees}
use Rattle.zigzag_maps.proofs.commuting.square_commutes.Goals as goal

pub loop-i-init : goal.loop-i-init
loop-i-init c =
    let made = c.in_ok-edge.ensures in
    record {
      grows = made.grows;
      slicewise = slicewise-grows _ _ _ _ made.grows c.requires.slicewise;
      of_store = made.of_store;
      edge = made.tree ∙ sym (edge_at-first _ _ _ _ _);
      agree = λ i l u. absurd (omega arith);
    }

pub enter_edge-requires-clause-within : goal.enter_edge-requires-clause-within
enter_edge-requires-clause-within c =
    fibre_within c.args.store.now c.loop-i.store c.args.dim c.args.f.now (c.args.fibre.over + 1) c.args.fibre.to c.loop-i.i c.loop-i.invariant.grows c.requires.slicewise c.requires.to (omega arith)

pub returns-then-ne-clause-exact : goal.returns-then-ne-clause-exact
returns-then-ne-clause-exact c =
    let old = c.args.store.now in
    let made = c.in_ok-before.ensures in
    let inv = c.loop-i.invariant in
    let m = c.args.f.now in
    let before = made.tree ∙ map_trees (λ s t f. enter_edge s f c.loop-i.i) old c.loop-i.store c.args.dim m inv.grows c.requires.slicewise.map in
    let edge = made.grows.arrow_trees c.loop-i.edge inv.of_store ∙ inv.edge in
    let differ = other c.enter_edge.new.store (made.grows.store (inv.grows.store c.requires.store)) c.in_ok-before.before c.loop-i.edge made.of_store (made.grows.arrows _ inv.of_store) c.ne.result c.ne.ensures c.if-ne.true in
    stops old c.args.dim m c.args.fibre.over c.args.fibre.from c.args.fibre.to c.requires.slicewise c.requires.over c.requires.from c.requires.to
    c.loop-i.i (omega arith) (omega arith) (λ e. differ (before ∙ sym e ∙ sym edge))

pub leave_edge-requires-clause-slicewise : goal.leave_edge-requires-clause-slicewise
leave_edge-requires-clause-slicewise c = slicewise-grows _ _ _ _ c.in_ok-before.ensures.grows c.loop-i.invariant.slicewise

pub leave_edge-requires-clause-within : goal.leave_edge-requires-clause-within
leave_edge-requires-clause-within c =
    fibre_within c.args.store.now c.enter_edge.new.store c.args.dim c.args.f.now (c.args.fibre.over + 1) c.args.fibre.to c.loop-i.i
    (Grows-trans _ _ _ c.loop-i.invariant.grows c.in_ok-before.ensures.grows) c.requires.slicewise c.requires.to (omega arith)

pub loop-i-preserved : goal.loop-i-preserved
loop-i-preserved c =
    let old = c.args.store.now in
    let first = c.in_ok-before.ensures in
    let made = c.in_ok-edge-2.ensures in
    let inv = c.loop-i.invariant in
    let m = c.args.f.now in
    let grows = Grows-trans _ _ _ inv.grows first.grows in
    let before = first.tree ∙ map_trees (λ s t f. enter_edge s f c.loop-i.i) old c.loop-i.store c.args.dim m inv.grows c.requires.slicewise.map in
    let edge = first.grows.arrow_trees c.loop-i.edge inv.of_store ∙ inv.edge in
    let same = not_other c.enter_edge.new.store (grows.store c.requires.store) c.in_ok-before.before c.loop-i.edge first.of_store (first.grows.arrows _ inv.of_store) c.ne.result c.ne.ensures c.if-ne.false in
    let agrees = sym edge ∙ sym same ∙ before in
    record {
      grows = Grows-trans _ _ _ grows made.grows;
      slicewise = slicewise-grows _ _ _ _ (Grows-trans _ _ _ grows made.grows) c.requires.slicewise;
      of_store = made.of_store;
      edge = made.tree ∙ map_trees (λ s t f. leave_edge s f c.loop-i.i) old c.enter_edge.new.store c.args.dim m grows c.requires.slicewise.map ∙ sym (edge_at-next _ _ _ _ _ c.loop-i.i (omega arith));
      agree = more_from (λ i. edge_at (diagram_at old m.source) (diagram_at old m.target) (arrow_at old m.arrow) c.args.fibre.over c.args.fibre.from i
          ≡ enter_edge (diagram_at old m.source) (arrow_at old m.arrow) i) c.args.fibre.from c.loop-i.i inv.agree agrees;
    }

pub returns-clause-exact : goal.returns-clause-exact
returns-clause-exact c =
    let old = c.args.store.now in
    let made = c.in_ok-last.ensures in
    let inv = c.loop-i.invariant in
    let m = c.args.f.now in
    let last = made.tree ∙ map_trees (λ s t f. right_edge t f c.args.fibre.over) old c.loop-i.store c.args.dim m inv.grows c.requires.slicewise.map in
    let edge = made.grows.arrow_trees c.loop-i.edge inv.of_store ∙ inv.edge in
    let same = equal_ids c.right_edge.new.store (made.grows.store (inv.grows.store c.requires.store)) c.loop-i.edge c.in_ok-last.last (made.grows.arrows _ inv.of_store) made.of_store c.eq.result c.eq.ensures in
    let rises = fibre_rises _ c.args.fibre.over c.args.fibre.from c.args.fibre.to c.requires.from c.requires.to in
    let end : c.loop-i.i ≡ c.args.fibre.to = omega arith in
    let there = ap (edge_at (diagram_at old m.source) (diagram_at old m.target) (arrow_at old m.arrow) c.args.fibre.over c.args.fibre.from) end in
    last_decides old c.args.dim m c.args.fibre.over c.args.fibre.from c.args.fibre.to c.requires.slicewise c.requires.over c.requires.from c.requires.to
    c.eq.result (λ i l u. inv.agree i l (omega arith))
    (λ h. sym there ∙ sym edge ∙ same.0 h ∙ last, λ q. same.1 (edge ∙ there ∙ q ∙ sym last))
