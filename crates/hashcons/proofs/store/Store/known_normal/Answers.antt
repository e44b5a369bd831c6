use Rattle.std.proofs.Common.{◌≡◌, IfSome, sym, subst, ap, ◌∙◌}
use Rattle.std.specs.Option.{option_map}
use Rattle.hashcons.specs.Contents.{IsNormalOf}
use Rattle.hashcons.specs.NoteTables.{key_of, normal_of, normals_of}
use Rattle.hashcons.specs.Notes.{same_key}
use Rattle.std.specs.Map.{lookup}
use Rattle.hashcons.proofs.TablesOfNotes.{normals-lookup, normals-copied, normals-right}
use Rattle.hashcons.proofs.store.Store.known_normal.Goals as goal

value : (c : goal.After-get) → option_map (λ m. normal_of m.now) c.get.result ≡ lookup (same_key (key_of c.args.key.now)) (normals_of c.self.inside.notes.normals.entries)
value c = normals-copied c.get.result ∙ ap (option_map normal_of) c.get.ensures.value
    ∙ sym (normals-lookup (key_of c.args.key.now) c.self.inside.notes.normals.entries)

pub returns-clause-right : goal.returns-clause-right
returns-clause-right c =
    subst (λ s. IfSome c.get.result (λ m. IsNormalOf s (key_of c.args.key.now) (normal_of m.now))) c.self.view_is
    (normals-right _ c.get.result _ (value c) (c.self.invariant.0.store.notes.normals (key_of c.args.key.now)))

pub returns-clause-value : goal.returns-clause-value
returns-clause-value c = rw (← c.self.view_is) (value c)
