-- What the tables of notes note.
use Rattle.std.specs.Prelude.{List, map}
use Rattle.hashcons.specs.declared.notes.KnownNormal.{KnownNormal}
use Rattle.hashcons.specs.declared.notes.NormalKey.{NormalKey}
use Rattle.hashcons.specs.declared.notes.NoteTables.{NoteTables}
use Rattle.hashcons.specs.Notes.{Notes, Key, Normal}

abbrev pub key_of : NormalKey → Key
key_of k = record { target = k.target; legs = k.legs.items }

abbrev pub normal_of : KnownNormal → Normal
normal_of m = record { source = m.source; arrow = m.arrow; factors = m.factors.items }

abbrev pub normals_of : List (NormalKey × KnownNormal) → List (Key × Normal)
normals_of ns = map (λ e. (key_of e.0, normal_of e.1)) ns

abbrev pub notes_of : NoteTables → Notes
notes_of t = record {
  identities = t.identities.entries;
  composites = t.composites.entries;
  valid = t.valid.keys;
  valid_maps = t.valid_maps.keys;
  normals = normals_of t.normals.entries;
}
