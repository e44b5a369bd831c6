use Rattle.std.proofs.Common.{true≢false, sym, ◌∙◌}
use Rattle.hashcons.specs.Entries.{arrow_views, diagram_views}
use Rattle.hashcons.specs.NoteTables.{notes_of, key_of, normal_of}
use Rattle.hashcons.specs.Notes.{same_key}
use Rattle.hashcons.proofs.MoreNotes.{normal_known, normal_noted}
use Rattle.hashcons.proofs.OneMoreNote.{exact_key, same_key-refl, more_already}
use Rattle.hashcons.proofs.store.Store.note_normal.Goals as goal

pub returns-then-contains_key-clause-more : goal.returns-then-contains_key-clause-more
returns-then-contains_key-clause-more c =
    rw (← c.self.view_is) (more_already same_key exact_key same_key-refl (notes_of c.self.inside.notes).normals (notes_of c.self.inside.notes).normals
    (key_of c.args.key) (normal_of c.args.made)
    (normal_known (arrow_views c.self.inside.tables) (diagram_views c.self.inside.tables) c.self.inside.notes c.self.invariant.0 c.args.key c.args.made c.contains_key.result
    c.contains_key.ensures ∙ c.if-contains_key.true))

pub returns-then-contains_key-clause-noted : goal.returns-then-contains_key-clause-noted
returns-then-contains_key-clause-noted c =
    rw (← c.self.view_is) (normal_known (arrow_views c.self.inside.tables) (diagram_views c.self.inside.tables) c.self.inside.notes c.self.invariant.0 c.args.key c.args.made
    c.contains_key.result c.contains_key.ensures ∙ c.if-contains_key.true)

-- ---- where it has none

pub invariant_of-self-2 : goal.invariant_of-self-2
invariant_of-self-2 c = (
  (normal_noted (arrow_views c.self.inside.tables) (diagram_views c.self.inside.tables) c.self.inside.notes c.self.invariant.0 c.args.key c.args.made c.args.self.now c.self.view_is
      c.requires c.contains_key.result c.contains_key.ensures c.if-contains_key.false c.insert.new.self.entries c.in_ok-insert.ensures.updates.0).renoted.tables,
  c.self.invariant.1,
)

pub returns-clause-more : goal.returns-clause-more
returns-clause-more c =
    rw (← c.self.view_is) (normal_noted (arrow_views c.self.inside.tables) (diagram_views c.self.inside.tables) c.self.inside.notes c.self.invariant.0 c.args.key c.args.made c.args.self.now c.self.view_is
    c.requires c.contains_key.result c.contains_key.ensures c.if-contains_key.false c.insert.new.self.entries c.in_ok-insert.ensures.updates.0).more

pub returns-clause-already : goal.returns-clause-already
returns-clause-already c =
    rw (← c.self.view_is) (λ some. absurd (true≢false (sym some ∙ (normal_noted (arrow_views c.self.inside.tables) (diagram_views c.self.inside.tables) c.self.inside.notes c.self.invariant.0 c.args.key c.args.made c.args.self.now c.self.view_is
    c.requires c.contains_key.result c.contains_key.ensures c.if-contains_key.false c.insert.new.self.entries c.in_ok-insert.ensures.updates.0).none)))

pub returns-clause-noted : goal.returns-clause-noted
returns-clause-noted c =
    (normal_noted (arrow_views c.self.inside.tables) (diagram_views c.self.inside.tables) c.self.inside.notes c.self.invariant.0 c.args.key c.args.made c.args.self.now c.self.view_is
    c.requires c.contains_key.result c.contains_key.ensures c.if-contains_key.false c.insert.new.self.entries c.in_ok-insert.ensures.updates.0).noted

pub returns-clause-grows : goal.returns-clause-grows
returns-clause-grows c =
    rw (← c.self.view_is) (normal_noted (arrow_views c.self.inside.tables) (diagram_views c.self.inside.tables) c.self.inside.notes c.self.invariant.0 c.args.key c.args.made c.args.self.now c.self.view_is
    c.requires c.contains_key.result c.contains_key.ensures c.if-contains_key.false c.insert.new.self.entries c.in_ok-insert.ensures.updates.0).renoted.grows
