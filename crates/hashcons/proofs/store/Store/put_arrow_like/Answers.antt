use Rattle.hashcons.specs.Entries.{arrow_views, diagram_views}
use Rattle.hashcons.specs.NoteTables.{notes_of}
use Rattle.hashcons.proofs.LikeArrows.{like_below, like_above, stores_like}
use Rattle.hashcons.proofs.store.Store.put_arrow_like.Goals as goal

pub put_arrow_like-requires-clause-within : goal.put_arrow_like-requires-clause-within
put_arrow_like-requires-clause-within c =
    like_below c.args.self.now (arrow_views c.self.inside.tables) (diagram_views c.self.inside.tables)
    (notes_of c.self.inside.notes)
    c.self.view_is c.self.invariant.0 c.args.like c.like.inside.index c.like.view_is c.requires.like c.requires.above

pub put_arrow_like-requires-clause-above : goal.put_arrow_like-requires-clause-above
put_arrow_like-requires-clause-above c =
    like_above c.args.self.now (arrow_views c.self.inside.tables) (diagram_views c.self.inside.tables)
    (notes_of c.self.inside.notes)
    c.self.view_is c.self.invariant.0 c.args.like c.like.inside.index c.like.view_is c.requires.like c.requires.above

pub invariant_of-self-2 : goal.invariant_of-self-2
invariant_of-self-2 c =
    let s = stores_like c.args.self.now (arrow_views c.self.inside.tables) (diagram_views c.self.inside.tables)
    (notes_of c.self.inside.notes)
    c.self.view_is c.self.invariant.0 c.args.like c.like.inside.index c.like.view_is c.requires.like c.requires.above
    c.args.heights.items c.args.sings.items c.requires.sings c.requires.shape
    (arrow_views c.put_arrow_like.new.self) c.in_ok-index.index
    (rw (c.as_slice.ensures, c.as_slice-2.ensures) at c.in_ok-index.ensures.put) (diagram_views c.put_arrow_like.new.self)
    c.in_ok-index.ensures.diagrams in
    (s.tables, c.in_ok-index.ensures.held)

pub returns-clause-made : goal.returns-clause-made
returns-clause-made c =
    let s = stores_like c.args.self.now (arrow_views c.self.inside.tables) (diagram_views c.self.inside.tables)
    (notes_of c.self.inside.notes)
    c.self.view_is c.self.invariant.0 c.args.like c.like.inside.index c.like.view_is c.requires.like c.requires.above
    c.args.heights.items c.args.sings.items c.requires.sings c.requires.shape
    (arrow_views c.put_arrow_like.new.self) c.in_ok-index.index
    (rw (c.as_slice.ensures, c.as_slice-2.ensures) at c.in_ok-index.ensures.put) (diagram_views c.put_arrow_like.new.self)
    c.in_ok-index.ensures.diagrams in
    record { grows = s.grows; of_store = s.held.of_list; tree = s.held.tree }

pub returns-clause-adds : goal.returns-clause-adds
returns-clause-adds c =
    let s = stores_like c.args.self.now (arrow_views c.self.inside.tables) (diagram_views c.self.inside.tables)
    (notes_of c.self.inside.notes)
    c.self.view_is c.self.invariant.0 c.args.like c.like.inside.index c.like.view_is c.requires.like c.requires.above
    c.args.heights.items c.args.sings.items c.requires.sings c.requires.shape
    (arrow_views c.put_arrow_like.new.self) c.in_ok-index.index
    (rw (c.as_slice.ensures, c.as_slice-2.ensures) at c.in_ok-index.ensures.put) (diagram_views c.put_arrow_like.new.self)
    c.in_ok-index.ensures.diagrams in
    s.adds
