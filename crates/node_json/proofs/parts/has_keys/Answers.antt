use Rattle.std.proofs.Common.{refl}
use Rattle.std.proofs.lemmas.List.{length-map}
use Rattle.std.proofs.lemmas.List.Folds.{list_all-map}
use Rattle.node_json.proofs.parts.has_keys.Goals as goal

pub returns-then-has_members : goal.returns-then-has_members
returns-then-has_members c = rw (length-map, ← c.has_members.ensures, c.if-has_members.true, list_all-map, c.has_all.ensures) refl
