use Rattle.std.proofs.Common.{◌∙◌, ap}
use Rattle.hashcons.specs.Storage.{storage_of}
use Rattle.hashcons.proofs.StoredLists.{storage_is}
use Rattle.hashcons.proofs.store.Store.storage.Goals as goal

pub returns : goal.returns
returns c =
    let t = c.self.inside.tables in
    let s = c.storage.ensures in
    storage_is t.lists t.diagrams.keys t.arrows.keys _ c.self.invariant.1 c.self.invariant.0 c.storage.result s.diagrams s.arrows
    s.lists s.blocks ∙ ap storage_of c.self.view_is
