use Rattle.std.proofs.Common.{sym, subst}
use Rattle.diagram_terms.specs.Dimension.{IsDiagramTree}
use Rattle.hashcons.specs.Contents.{diagram_at}
use Rattle.hashcons.proofs.OneMoreTree.{Grows-refl}
use Rattle.hashcons.proofs.Growth.{Makes-last}
use Rattle.boundary_paths.proofs.ConesBySlices.{described_identity, IsDiagramTree-identity_diagram_tree}
use Rattle.boundary_paths.proofs.degenerate.identity_diagram.Goals as goal

pub put_diagram-requires-clause-shape : goal.put_diagram-requires-clause-shape
put_diagram-requires-clause-shape c =
    let now = c.args.store.now in
    let store = c.length.ensures.store in
    subst IsDiagramTree (sym (described_identity now c.args.d _ _ _ _ store c.requires.of_store c.in_ok-regs.ensures.ok c.new.ensures.items c.new-2.ensures.items c.new-3.ensures.items))
    (IsDiagramTree-identity_diagram_tree (diagram_at now c.args.d) (store.diagrams c.args.d c.requires.of_store))

pub returns : goal.returns
returns c =
    let is =
    described_identity c.args.store.now c.args.d _ _ _ _ c.length.ensures.store c.requires.of_store
    c.in_ok-regs.ensures.ok c.new.ensures.items c.new-2.ensures.items c.new-3.ensures.items
    in
    record { made = Makes-last _ _ _ _ _ _ _ (Grows-refl _) is c.put_diagram.ensures.made }
