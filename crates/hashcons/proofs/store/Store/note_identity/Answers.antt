use Rattle.std.proofs.Common.{sym, subst, ap}
use Rattle.hashcons.specs.Entries.{arrow_views, diagram_views}
use Rattle.hashcons.specs.Contents.{Contents, IsIdentityOf}
use Rattle.hashcons.specs.NoteTables.{notes_of}
use Rattle.hashcons.specs.Tables.{contents_of}
use Rattle.hashcons.proofs.MoreNotes.{no_other_identity, identity_more, identity_noted, identity_renotes}
use Rattle.hashcons.proofs.OneMoreNote.{put_again, Renotes}
use Rattle.std.proofs.Common.{nat_eq}
use Rattle.hashcons.proofs.store.Store.note_identity.Goals as goal

abbrev here : goal.In_ok-insert → Contents
here c = contents_of (arrow_views c.self.inside.tables) (diagram_views c.self.inside.tables) (notes_of c.self.inside.notes)

is : (c : goal.In_ok-insert) → IsIdentityOf (here c) c.args.d c.args.identity
is c = subst (λ s. IsIdentityOf s c.args.d c.args.identity) (sym c.self.view_is) c.requires

renoted : (c : goal.In_ok-insert) → Renotes (arrow_views c.self.inside.tables) (diagram_views c.self.inside.tables) (notes_of c.self.inside.notes) (record (notes_of c.self.inside.notes) { identities = c.insert.new.self.entries })
renoted c = identity_renotes (arrow_views c.self.inside.tables) (diagram_views c.self.inside.tables) (notes_of c.self.inside.notes) c.self.invariant.0 c.args.d c.args.identity (is c) c.insert.new.self.entries c.in_ok-insert.ensures.updates.0

pub invariant_of-self-2 : goal.invariant_of-self-2
invariant_of-self-2 c = ((renoted c).tables, c.self.invariant.1)

pub returns-clause-more : goal.returns-clause-more
returns-clause-more c =
    rw (← c.self.view_is) (identity_more (arrow_views c.self.inside.tables) (diagram_views c.self.inside.tables) (notes_of c.self.inside.notes) c.self.invariant.0 c.args.d c.args.identity (is c) c.insert.new.self.entries c.in_ok-insert.ensures.updates.0)

pub returns-clause-already : goal.returns-clause-already
returns-clause-already c =
    rw (← c.self.view_is) (λ some. ap (λ ns. contents_of (arrow_views c.self.inside.tables) (diagram_views c.self.inside.tables) (record (notes_of c.self.inside.notes) { identities = ns }))
    (put_again (nat_eq c.args.d) (notes_of c.self.inside.notes).identities c.insert.new.self.entries c.args.identity _ c.in_ok-insert.field-0
    c.in_ok-insert.ensures.old c.in_ok-insert.ensures.entries (no_other_identity (arrow_views c.self.inside.tables) (diagram_views c.self.inside.tables) (notes_of c.self.inside.notes) c.self.invariant.0 c.args.d c.args.identity (is c)) some))

pub returns-clause-grows : goal.returns-clause-grows
returns-clause-grows c = rw (← c.self.view_is) (renoted c).grows

pub returns-clause-noted : goal.returns-clause-noted
returns-clause-noted c = identity_noted (arrow_views c.self.inside.tables) (diagram_views c.self.inside.tables) (notes_of c.self.inside.notes) c.self.invariant.0 c.args.d c.args.identity (is c) c.insert.new.self.entries c.in_ok-insert.ensures.updates.0
