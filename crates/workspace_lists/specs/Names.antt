-- What a table of names says of each name.
use Rattle.std.specs.Prelude.{ℕ, List, Bool, is_some, unwrap_or}
use Rattle.std.specs.HashMap.{get_by_text}
use Rattle.workspace_lists.specs.declared.names.Meaning.{Meaning}
use Rattle.workspace_lists.specs.declared.names.Meaning.TheVariants as meaning
use Rattle.workspace_lists.specs.declared.names.Names.{Names}

-- what the name stands for: nothing where the table has no word of it
abbrev pub meaning_in : Names → List ℕ → Meaning
meaning_in names name = unwrap_or (get_by_text names.meanings name) meaning.Free

-- the table has a place for the name
abbrev pub knows : Names → List ℕ → Bool
knows names name = is_some (get_by_text names.meanings name)
