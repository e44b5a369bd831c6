use Rattle.std.proofs.Common.{◌<◌, length, sym, subst, arith}
use Rattle.hashcons.specs.Contents.{IsArrowOf}
use Rattle.hashcons.specs.Entries.{arrow_views, diagram_views}
use Rattle.hashcons.specs.Tables.{arrow_trees}
use Rattle.hashcons.proofs.PutTrees.{reads_arrow, length-arrow_trees}
use Rattle.hashcons.proofs.store.Store.view_arrow.Goals as goal

pub arrow-requires : goal.arrow-requires
arrow-requires c =
    let l = length-arrow_trees (arrow_views c.self.inside.tables) in
    let h : c.id.inside.index < length (arrow_trees (arrow_views c.self.inside.tables)) =
    subst (λ s. IsArrowOf s c.id.inside.index) (sym c.self.view_is)
    (subst (IsArrowOf c.args.self.now) (sym c.id.view_is) c.requires.of_store)
    in
    record { held = c.self.invariant.1; within = omega arith }

pub returns-clause-tree : goal.returns-clause-tree
returns-clause-tree c =
    let reads = reads_arrow (arrow_views c.self.inside.tables) (diagram_views c.self.inside.tables) _ c.self.invariant.0
    c.id.inside.index c.arrow.result c.arrow.ensures in
    rw (← c.self.view_is, ← c.id.view_is) reads.tree

pub returns-clause-children : goal.returns-clause-children
returns-clause-children c =
    let reads = reads_arrow (arrow_views c.self.inside.tables) (diagram_views c.self.inside.tables) _ c.self.invariant.0
    c.id.inside.index c.arrow.result c.arrow.ensures in
    rw (← c.self.view_is) reads.children
