use Rattle.std.proofs.Common.{sym, subst}
use Rattle.diagram_terms.specs.Dimension.{IsDiagramTree}
use Rattle.hashcons.specs.Contents.{arrow_at, diagram_at}
use Rattle.hashcons.proofs.OneMoreTree.{Grows-refl}
use Rattle.hashcons.proofs.Growth.{Makes-last, gathers-below}
use Rattle.zigzag_maps.proofs.SliceMaps.{arrow_of_map}
use Rattle.degeneracy.proofs.PartsInStore.{described_middle}
use Rattle.degeneracy.proofs.PartsOnTrees.{part_shapes}
use Rattle.degeneracy.proofs.parts.middle.Goals as goal

pub put_diagram-requires-clause-children : goal.put_diagram-requires-clause-children
put_diagram-requires-clause-children c = record {
  regs = gathers-below _ _ _ _ c.in_ok-regs.ensures;
  sings = gathers-below _ _ _ _ c.in_ok-sings.ensures;
  fwds = gathers-below _ _ _ _ c.in_ok-fwds.ensures;
  bwds = gathers-below _ _ _ _ c.in_ok-bwds.ensures;
}

pub put_diagram-requires-clause-shape : goal.put_diagram-requires-clause-shape
put_diagram-requires-clause-shape c =
    let old = c.args.store.now in
    let is = described_middle old (diagram_at old c.args.f.now.source) (diagram_at old c.args.f.now.target) (arrow_at old c.args.f.now.arrow)
    c.in_ok-regs.regs.items c.in_ok-sings.sings.items c.in_ok-fwds.fwds.items c.in_ok-bwds.bwds.items
    c.in_ok-regs.ensures c.in_ok-sings.ensures c.in_ok-fwds.ensures c.in_ok-bwds.ensures in
    subst IsDiagramTree (sym is) (part_shapes _ _ _ (arrow_of_map old c.args.f.now c.requires.valid) c.requires.above).middle

pub returns : goal.returns
returns c =
    let old = c.args.store.now in
    let is = described_middle old (diagram_at old c.args.f.now.source) (diagram_at old c.args.f.now.target) (arrow_at old c.args.f.now.arrow)
    c.in_ok-regs.regs.items c.in_ok-sings.sings.items c.in_ok-fwds.fwds.items c.in_ok-bwds.bwds.items
    c.in_ok-regs.ensures c.in_ok-sings.ensures c.in_ok-fwds.ensures c.in_ok-bwds.ensures in
    Makes-last _ _ _ _ _ _ _ (Grows-refl old) is c.put_diagram.ensures.made
