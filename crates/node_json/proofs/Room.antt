-- A generator behind fewer than the most there may be.
use Rattle.std.proofs.Common.{◌≡◌, ℕ, ◌<◌, List, length, Bool, true, nat_lt, rules, tests}
use Rattle.serde_json.specs.Data.{Data}
use Rattle.diagram_terms.specs.declared.limits.TheConstants.{MAX_GENERATORS}
use Rattle.diagram_terms.specs.declared.node.Sort.{Sort}
use Rattle.node_json.specs.declared.document.GeneratorEntry.{GeneratorEntry}
use Rattle.node_json.specs.declared.fault.Field.TheVariants as field
use Rattle.node_json.specs.Names.{also}
use Rattle.node_json.specs.Entries.{entry_fault, generator_names, generator_entry, generator_at}

pub generator_at-within : (sorts : List Sort) (taken : List ℕ → Bool) (done : List GeneratorEntry) (d : Data) → length done < MAX_GENERATORS
    → generator_at sorts taken done d ≡ generator_entry (entry_fault field.Generators (length done)) sorts (also taken (generator_names done)) d
unfolding generator_at
generator_at-within sorts taken done d room = let passes : nat_lt (length done) MAX_GENERATORS ≡ true = search (rules, tests) in rw passes
