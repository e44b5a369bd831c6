use Rattle.std.proofs.Common.{length, sym, ap, subst, ◌∙◌}
use Rattle.diagram_terms.specs.Dimension.{IsArrowTree}
use Rattle.diagram_terms.specs.Dual.{upto}
use Rattle.diagram_terms.specs.Shape.{reg_at}
use Rattle.diagram_terms.specs.Tree.{Tree, regs}
use Rattle.hashcons.specs.Contents.{arrow_at, diagram_at}
use Rattle.hashcons.specs.Gathers.{Gathers}
use Rattle.hashcons.proofs.Growth.{Makes-last, gathers-below}
use Rattle.zigzag_maps.proofs.SliceMaps.{arrow_of_map}
use Rattle.degeneracy.proofs.PartsInStore.{described_parallel}
use Rattle.degeneracy.proofs.PartsOnTrees.{part_shapes}
use Rattle.degeneracy.proofs.parts.parallel_part.Goals as goal

pub put_arrow-requires-clause-children : goal.put_arrow-requires-clause-children
put_arrow-requires-clause-children c = record {
  regs = gathers-below _ _ _ _ c.in_ok-regs.ensures;
  sings = gathers-below _ _ _ _ c.in_ok-sings.ensures.gathers;
}

pub put_arrow-requires-clause-shape : goal.put_arrow-requires-clause-shape
put_arrow-requires-clause-shape c =
    let old = c.args.store.now in
    let new = c.parallel_sings.new.store in
    let made = c.in_ok-sings.ensures in
    let rs = subst (λ (u : Tree). Gathers new.arrows c.in_ok-regs.regs.items (length (regs u)) (reg_at u))
    (made.grows.arrow_trees c.args.f.now.arrow c.requires.valid.arrow) c.in_ok-regs.ensures in
    let is = described_parallel new (diagram_at old c.args.f.now.target) (arrow_at old c.args.f.now.arrow)
    c.in_ok-heights.heights.items c.in_ok-regs.regs.items c.in_ok-sings.sings.items (c.in_ok-heights.ensures ∙ ap upto c.length.ensures.length) rs made.gathers in
    subst IsArrowTree (sym is) (part_shapes _ _ _ (arrow_of_map old c.args.f.now c.requires.valid) c.requires.above).parallel

pub returns : goal.returns
returns c =
    let old = c.args.store.now in
    let new = c.parallel_sings.new.store in
    let made = c.in_ok-sings.ensures in
    let rs = subst (λ (u : Tree). Gathers new.arrows c.in_ok-regs.regs.items (length (regs u)) (reg_at u))
    (made.grows.arrow_trees c.args.f.now.arrow c.requires.valid.arrow) c.in_ok-regs.ensures in
    let is = described_parallel new (diagram_at old c.args.f.now.target) (arrow_at old c.args.f.now.arrow)
    c.in_ok-heights.heights.items c.in_ok-regs.regs.items c.in_ok-sings.sings.items (c.in_ok-heights.ensures ∙ ap upto c.length.ensures.length) rs made.gathers in
    Makes-last _ _ _ _ _ _ _ made.grows is c.put_arrow.ensures.made
