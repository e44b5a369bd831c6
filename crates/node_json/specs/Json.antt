-- What the parts of a JSON value are, with a fault where they are something else.
use Rattle.std.specs.Prelude.{ℕ, List, [], ◌∷◌, length, Bool, false, ◌&&◌, ◌==◌, if◌then◌else◌, Option, Some, None, is_some, option_map, option_and_then, Result}
use Rattle.std.specs.List.{list_all}
use Rattle.std.specs.Str.{is_utf8}
use Rattle.serde_json.specs.Data.{Data, Items, no_items, item, Members}
use Rattle.serde_json.specs.Events.{members_len}
use Rattle.serde_json.specs.Find.{get, as_number, as_u64, as_str, as_array, as_object}
use Rattle.serde_json.specs.Read.{read}
use Rattle.node_json.specs.declared.fault.FormFault.{FormFault}
use Rattle.node_json.specs.Step.{◌>>=◌, or_fault, each}

-- Bytes are JSON where they are text that `serde_json` reads.
abbrev pub json_of : List ℕ → Option Data
json_of bytes = if is_utf8 bytes then read bytes else None

-- an object's members, counted
abbrev pub is_counted : ℕ → Option Members → Bool
is_counted n None = false
is_counted n (Some ms) = members_len ms == n

-- an object with exactly these keys: as many, and each of them
abbrev pub has_keys : List (List ℕ) → Data → Bool
has_keys names d = is_counted (length names) (as_object d) && list_all (λ k. is_some (get k d)) names

-- a whole number below 2^64, written without sign, point or exponent
abbrev pub whole_of : Data → Option ℕ
whole_of d = option_and_then as_u64 (as_number d)

abbrev pub items_list : Items → List Data
items_list no_items = []
items_list (item d ds) = d ∷ items_list ds

-- a list's entries
abbrev pub list_of : Data → Option (List Data)
list_of d = option_map items_list (as_array d)

-- what stands at a key: a number, a text, a list, a list of numbers
abbrev pub number_at : FormFault → List ℕ → Data → Result ℕ FormFault
number_at e key d = or_fault e (option_and_then whole_of (get key d))

abbrev pub text_at : FormFault → List ℕ → Data → Result (List ℕ) FormFault
text_at e key d = or_fault e (option_and_then as_str (get key d))

abbrev pub list_at : FormFault → List ℕ → Data → Result (List Data) FormFault
list_at e key d = or_fault e (option_and_then list_of (get key d))

abbrev pub numbers_in : FormFault → List Data → Result (List ℕ) FormFault
numbers_in e ds = each (λ done d. or_fault e (whole_of d)) [] ds

abbrev pub numbers_at : FormFault → List ℕ → Data → Result (List ℕ) FormFault
numbers_at e key d = list_at e key d >>= numbers_in e
