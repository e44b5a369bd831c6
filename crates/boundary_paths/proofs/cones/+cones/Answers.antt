use Rattle.std.proofs.Common.{length, sym, ap, subst, ◌∙◌, replicate, rules, arith}
use Rattle.diagram_terms.specs.Dimension.{IsArrowTree}
use Rattle.diagram_terms.specs.Shape.{sing_at}
use Rattle.diagram_terms.specs.Tree.{sings}
use Rattle.diagram_terms.proofs.Dimensions.{diagram_dimension}
use Rattle.hashcons.specs.Contents.{diagram_at}
use Rattle.hashcons.proofs.Growth.{Grows-trans, Makes-last, gathers-arrow_more}
use Rattle.zigzag_maps.proofs.ValiditySteps.{is_diagram_at-grows, reg_slice, sing_slice}
use Rattle.boundary_paths.proofs.ConesBySlices.{IsArrowTree-cone_tree}
use Rattle.boundary_paths.proofs.ConeSteps.{described_cone, cone_made, described_type, cone_of_slice, cones-grow}
use Rattle.boundary_paths.proofs.cones.+cones.Goals as goal

pub cone_anew-put_arrow-requires-clause-shape : goal.cone_anew-put_arrow-requires-clause-shape
cone_anew-put_arrow-requires-clause-shape t c =
    let old = c.args.store.now in
    let is =
    described_cone old c.cospan_of_cones.new.store c.singular_cones.new.store c.identities.new.store c.args.dim c.args.d c.source-from.result c.target-to.result c.args.x
    c.in_ok-heights.heights.items c.in_ok-regs.regs.items c.in_ok-sings.sings c.requires.diagram (omega arith)
    c.source-from.ensures.of_store c.source-from.ensures.tree c.target-to.ensures.of_store c.target-to.ensures.tree
    (c.in_ok-heights.ensures ∙ ap (λ n. replicate n 0) c.length.ensures.length)
    c.cospan_of_cones.ensures.made.grows c.in_ok-sings.ensures.made c.identities.ensures.grows c.in_ok-regs.ensures.trees
    in
    subst IsArrowTree (sym is) (IsArrowTree-cone_tree (diagram_at old c.args.d) c.args.x (c.requires.store.diagrams c.args.d c.requires.diagram.of_store))

pub cospan_of_cones-put_diagram-requires-clause-shape : goal.cospan_of_cones-put_diagram-requires-clause-shape
cospan_of_cones-put_diagram-requires-clause-shape t c =
    (described_type _ _ _ _ _ c.args.dim c.args.x c.in_ok-first.first c.in_ok-second.second
    _ _ _ _ c.requires.source c.requires.target c.in_ok-first.ensures.made c.in_ok-second.ensures.made
    c.in_ok-from_slice.ensures.ok c.in_ok-from_slice-2.ensures.ok c.in_ok-from_slice-3.ensures.ok c.in_ok-from_slice-4.ensures.ok).shape

pub cone_anew-returns-clause-made : goal.cone_anew-returns-clause-made
cone_anew-returns-clause-made t c =
    let old = c.args.store.now in
    let is =
    described_cone old c.cospan_of_cones.new.store c.singular_cones.new.store c.identities.new.store c.args.dim c.args.d c.source-from.result c.target-to.result c.args.x
    c.in_ok-heights.heights.items c.in_ok-regs.regs.items c.in_ok-sings.sings c.requires.diagram (omega arith)
    c.source-from.ensures.of_store c.source-from.ensures.tree c.target-to.ensures.of_store c.target-to.ensures.tree
    (c.in_ok-heights.ensures ∙ ap (λ n. replicate n 0) c.length.ensures.length)
    c.cospan_of_cones.ensures.made.grows c.in_ok-sings.ensures.made c.identities.ensures.grows c.in_ok-regs.ensures.trees
    in
    let later = Grows-trans _ _ _ c.singular_cones.ensures.made.grows c.identities.ensures.grows in
    let arrow = Makes-last _ _ _ _ _ _ _ later is c.in_ok-arrow.ensures.made in
    record {
      grows = Grows-trans _ _ _ c.cospan_of_cones.ensures.made.grows arrow.grows;
      cone = cone_made old c.cospan_of_cones.new.store c.put_arrow.new.self c.args.dim c.args.d c.source-from.result c.target-to.result c.in_ok-middle.middle c.in_ok-arrow.arrow c.args.x
          c.requires.diagram (omega arith) c.source-from.ensures.tree c.target-to.ensures.tree c.in_ok-middle.ensures.made arrow;
    }

pub singular_cones-loop-i-preserved : goal.singular_cones-loop-i-preserved
singular_cones-loop-i-preserved t c =
    let inv = c.loop-i.invariant in
    let made = c.in_ok-cone.ensures.made in
    let is =
    cone_of_slice c.args.store.now c.loop-i.store c.cone_of.new.store c.args.d c.sing-slice.result c.args.x c.in_ok-cone.cone (λ u. sing_at u c.loop-i.i)
    inv.grows c.requires.diagram.of_store made.grows c.sing-slice.ensures.of_store c.sing-slice.ensures.tree made.cone
    in
    record {
      grows = Grows-trans _ _ _ inv.grows made.grows;
      cones = c.in_ok-cone.ensures.cones;
      gathers = rw c.in_ok-push.ensures.ok (gathers-arrow_more c.loop-i.store c.cone_of.new.store _ _ _ _ inv.gathers made.grows made.cone.arrow_of_store is);
    }

pub cospan_of_cones-returns-clause-made : goal.cospan_of_cones-returns-clause-made
cospan_of_cones-returns-clause-made t c =
    let is =
    (described_type _ _ _ _ _ c.args.dim c.args.x c.in_ok-first.first c.in_ok-second.second
    _ _ _ _ c.requires.source c.requires.target c.in_ok-first.ensures.made c.in_ok-second.ensures.made
    c.in_ok-from_slice.ensures.ok c.in_ok-from_slice-2.ensures.ok c.in_ok-from_slice-3.ensures.ok c.in_ok-from_slice-4.ensures.ok).tree
    in
    Makes-last _ _ _ _ _ _ _ (Grows-trans _ _ _ c.cone_of.ensures.made.grows c.cone_of-2.ensures.made.grows) is c.put_diagram.ensures.made

-- ---- the slices

pub cone_anew-source-from-requires-clause-above : goal.cone_anew-source-from-requires-clause-above
cone_anew-source-from-requires-clause-above t c = omega (arith, diagram_dimension c.args.dim _ c.requires.diagram.shape)

pub cone_anew-target-to-requires-clause-above : goal.cone_anew-target-to-requires-clause-above
cone_anew-target-to-requires-clause-above t c = omega (arith, diagram_dimension c.args.dim _ c.requires.diagram.shape)

pub cone_anew-cospan_of_cones-requires : goal.cone_anew-cospan_of_cones-requires
cone_anew-cospan_of_cones-requires t c = (
  search rules,
  (
    reg_slice c.args.store.now c.args.d c.source-from.result c.source-from.ensures.of_store c.args.dim 0 (omega arith) c.requires.diagram (omega arith) c.source-from.ensures.tree,
    (
      reg_slice c.args.store.now c.args.d c.target-to.result c.target-to.ensures.of_store c.args.dim _ (omega arith) c.requires.diagram (omega arith) c.target-to.ensures.tree,
      (c.requires.cones, c.requires.store),
    ),
  ),
)

pub singular_cones-cone_of-requires : goal.singular_cones-cone_of-requires
singular_cones-cone_of-requires t c =
    let inv = c.loop-i.invariant in
    let now = is_diagram_at-grows c.args.store.now c.loop-i.store c.args.dim c.args.d inv.grows c.requires.diagram in
    let n = ap (λ u. length (sings u)) (inv.grows.diagram_trees c.args.d c.requires.diagram.of_store) in (
      search rules,
      (
        sing_slice c.loop-i.store c.args.d c.sing-slice.result c.sing-slice.ensures.of_store c.args.dim c.loop-i.i c.requires.above now (omega arith) c.sing-slice.ensures.tree,
        (inv.cones, inv.grows.store c.requires.store),
      ),
    )

-- ---- the cones that were made

pub cone_anew-returns-clause-cones : goal.cone_anew-returns-clause-cones
cone_anew-returns-clause-cones t c =
    cones-grow c.singular_cones.new.store c.put_arrow.new.self c.args.x c.singular_cones.new.made
    (Grows-trans c.singular_cones.new.store c.identities.new.store c.put_arrow.new.self c.identities.ensures.grows c.put_arrow.ensures.made.grows)
    c.in_ok-sings.ensures.cones

pub cospan_of_cones-returns-clause-cones : goal.cospan_of_cones-returns-clause-cones
cospan_of_cones-returns-clause-cones t c =
    cones-grow c.cone_of-2.new.store c.put_diagram.new.self c.args.x c.cone_of-2.new.made c.put_diagram.ensures.made.grows c.in_ok-second.ensures.cones
