use Rattle.std.proofs.Common.{◌<◌, length, sym, subst, arith}
use Rattle.hashcons.specs.Contents.{IsDiagramOf}
use Rattle.hashcons.specs.Entries.{arrow_views, diagram_views}
use Rattle.hashcons.specs.Tables.{diagram_trees}
use Rattle.hashcons.proofs.PutTrees.{reads_diagram, length-diagram_trees}
use Rattle.hashcons.proofs.store.Store.view_diagram.Goals as goal

pub diagram-requires : goal.diagram-requires
diagram-requires c =
    let l = length-diagram_trees (arrow_views c.self.inside.tables) (diagram_views c.self.inside.tables) in
    let h : c.id.inside.index < length (diagram_trees (arrow_views c.self.inside.tables) (diagram_views c.self.inside.tables)) =
    subst (λ s. IsDiagramOf s c.id.inside.index) (sym c.self.view_is)
    (subst (IsDiagramOf c.args.self.now) (sym c.id.view_is) c.requires.of_store)
    in
    record { held = c.self.invariant.1; within = omega arith }

pub returns-clause-tree : goal.returns-clause-tree
returns-clause-tree c =
    let reads = reads_diagram (arrow_views c.self.inside.tables) (diagram_views c.self.inside.tables) _ c.self.invariant.0
    c.id.inside.index c.diagram.result c.diagram.ensures in
    rw (← c.self.view_is, ← c.id.view_is) reads.tree

pub returns-clause-children : goal.returns-clause-children
returns-clause-children c =
    let reads = reads_diagram (arrow_views c.self.inside.tables) (diagram_views c.self.inside.tables) _ c.self.invariant.0
    c.id.inside.index c.diagram.result c.diagram.ensures in
    rw (← c.self.view_is) reads.children
