use Rattle.hashcons.specs.Entries.{arrow_views, diagram_views}
use Rattle.hashcons.specs.NoteTables.{notes_of}
use Rattle.hashcons.specs.Nodes.{viewed_diagram}
use Rattle.hashcons.proofs.PutTrees.{stores_diagram}
use Rattle.hashcons.proofs.store.Store.put_diagram.Goals as goal

pub invariant_of-self-2 : goal.invariant_of-self-2
invariant_of-self-2 c =
    let s = stores_diagram c.args.self.now (arrow_views c.self.inside.tables) (diagram_views c.self.inside.tables)
    (notes_of c.self.inside.notes)
    (viewed_diagram c.args.node) c.self.view_is c.self.invariant.0 c.requires.children c.requires.shape
    (diagram_views c.put_diagram.new.self) c.in_ok-index.index c.in_ok-index.ensures.put (arrow_views c.put_diagram.new.self)
    c.in_ok-index.ensures.arrows in
    (s.tables, c.in_ok-index.ensures.held)

pub returns-clause-made : goal.returns-clause-made
returns-clause-made c =
    let s = stores_diagram c.args.self.now (arrow_views c.self.inside.tables) (diagram_views c.self.inside.tables)
    (notes_of c.self.inside.notes)
    (viewed_diagram c.args.node) c.self.view_is c.self.invariant.0 c.requires.children c.requires.shape
    (diagram_views c.put_diagram.new.self) c.in_ok-index.index c.in_ok-index.ensures.put (arrow_views c.put_diagram.new.self)
    c.in_ok-index.ensures.arrows in
    record { grows = s.grows; of_store = s.held.of_list; tree = s.held.tree }

pub returns-clause-adds : goal.returns-clause-adds
returns-clause-adds c =
    let s = stores_diagram c.args.self.now (arrow_views c.self.inside.tables) (diagram_views c.self.inside.tables)
    (notes_of c.self.inside.notes)
    (viewed_diagram c.args.node) c.self.view_is c.self.invariant.0 c.requires.children c.requires.shape
    (diagram_views c.put_diagram.new.self) c.in_ok-index.index c.in_ok-index.ensures.put (arrow_views c.put_diagram.new.self)
    c.in_ok-index.ensures.arrows in
    s.adds
