use Rattle.std.proofs.Common.{sym, subst, ap}
use Rattle.hashcons.specs.Entries.{arrow_views, diagram_views}
use Rattle.hashcons.specs.Contents.{Contents, IsValidTriple}
use Rattle.hashcons.specs.NoteTables.{notes_of}
use Rattle.hashcons.specs.Tables.{contents_of}
use Rattle.hashcons.proofs.MoreNotes.{valid_map_renotes}
use Rattle.hashcons.proofs.OneMoreNote.{put_member_again, Renotes}
use Rattle.hashcons.proofs.store.Store.note_valid_map.Goals as goal

abbrev here : goal.In_ok-insert → Contents
here c = contents_of (arrow_views c.self.inside.tables) (diagram_views c.self.inside.tables) (notes_of c.self.inside.notes)

is : (c : goal.In_ok-insert) → IsValidTriple (here c) c.args.source c.args.target c.args.arrow
is c = subst (λ s. IsValidTriple s c.args.source c.args.target c.args.arrow) (sym c.self.view_is) c.requires

renoted : (c : goal.In_ok-insert) → Renotes (arrow_views c.self.inside.tables) (diagram_views c.self.inside.tables) (notes_of c.self.inside.notes) (record (notes_of c.self.inside.notes) { valid_maps = c.insert.new.self.keys })
renoted c = valid_map_renotes (arrow_views c.self.inside.tables) (diagram_views c.self.inside.tables) (notes_of c.self.inside.notes) c.self.invariant.0 c.args.source c.args.target c.args.arrow (is c) c.insert.new.self.keys c.in_ok-insert.ensures.updates.0

pub invariant_of-self-2 : goal.invariant_of-self-2
invariant_of-self-2 c = ((renoted c).tables, c.self.invariant.1)

pub returns-clause-more : goal.returns-clause-more
returns-clause-more c = rw (← c.self.view_is) c.in_ok-insert.ensures.updates.0

pub returns-clause-already : goal.returns-clause-already
returns-clause-already c =
    rw (← c.self.view_is) (λ known. ap (λ ns. contents_of (arrow_views c.self.inside.tables) (diagram_views c.self.inside.tables) (record (notes_of c.self.inside.notes) { valid_maps = ns }))
    (put_member_again _ _ _ _ c.in_ok-insert.ensures.added c.in_ok-insert.ensures.unchanged known))

pub returns-clause-grows : goal.returns-clause-grows
returns-clause-grows c = rw (← c.self.view_is) (renoted c).grows

pub returns-clause-noted : goal.returns-clause-noted
returns-clause-noted c = c.in_ok-insert.ensures.updates.1
