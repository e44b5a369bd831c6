-- A value that is written compactly is read back.
use Rattle.std.proofs.Common.{◌≡◌, ℕ, ◌^◌, ◌<◌, ◌≤◌, Bool, true, false, List, [], ◌∷◌, ◌++◌, Some, refl, sym, ap, ap₂, ◌∙◌, arith, append-nil}
use Rattle.std.specs.Prelude.{IsUtf8, max}
use Rattle.std.proofs.lemmas.Str.{IsUtf8-append, IsUtf8-from_ascii}
use Rattle.std.proofs.lemmas.Fmt.{IsAscii-decimal}
use Rattle.json.specs.Json as json
use Rattle.json.specs.Lex.{tokens}
use Rattle.json.specs.Tree as tree
use Rattle.json.proofs.Printed.Decimals.{IsNumber-decimal}
use Rattle.json.proofs.Printed.Tokens.{tokens-print}
use Rattle.json.proofs.Printed.Trees.{value-json_tokens, ArePrintable-json_tokens}
use Rattle.json.proofs.Printed.Utf8.{are_ascii, IsUtf8-are_ascii, IsUtf8-quoted, IsUtf8-boolean}
use Rattle.serde_json.specs.Data.{Num, unsigned, negative, float, Data, null, boolean, number, string, array, object, Items, no_items, item, Members, no_members, member, put, depth, items_depth, members_depth}
use Rattle.serde_json.specs.Read.{of_json, of_items, of_members, max_depth, read}
use Rattle.serde_json.specs.Written.{outline, items_outline, members_outline, comma_if, compact_text, items_text, members_text}
use Rattle.serde_json.proofs.Numbers.{number_of-decimal}
use Rattle.serde_json.proofs.Texts.{print-outline}

-- these members, put one after another to those that were found
abbrev pub gathered : Members → Members → Members
gathered no_members found = found
gathered (member k d ms) found = gathered ms (put k d found)

-- a number without sign that has 64 bits
abbrev pub IsWholeNumber : Num → Type 0
IsWholeNumber (unsigned n) = n < 2 ^ 64
IsWholeNumber (negative z) = ⊥
IsWholeNumber (float x) = ⊥

-- Its numbers are such, its texts are ASCII, and its keys stand in order, each once.
abbrev mutual
  pub CanReturn : Data → Type 0
  CanReturn null = Unit {0}
  CanReturn (boolean b) = Unit {0}
  CanReturn (number n) = IsWholeNumber n
  CanReturn (string s) = are_ascii s ≡ true
  CanReturn (array ds) = ItemsCanReturn ds
  CanReturn (object ms) = (gathered ms no_members ≡ ms) × MembersCanReturn ms

  pub ItemsCanReturn : Items → Type 0
  ItemsCanReturn no_items = Unit {0}
  ItemsCanReturn (item d ds) = CanReturn d × ItemsCanReturn ds

  pub MembersCanReturn : Members → Type 0
  MembersCanReturn no_members = Unit {0}
  MembersCanReturn (member k d ms) = (are_ascii k ≡ true) × CanReturn d × MembersCanReturn ms

-- ---- its numbers are numbers of JSON

mutual
  has_numbers : (d : Data) → CanReturn d → tree.HasNumbers (outline d)
  has_numbers null h = tt
  has_numbers (boolean b) h = tt
  has_numbers (number (unsigned n)) h = IsNumber-decimal n h
  has_numbers (number (negative z)) h = absurd h
  has_numbers (number (float x)) h = absurd h
  has_numbers (string s) h = tt
  has_numbers (array ds) h = items_have_numbers ds h
  has_numbers (object ms) h = members_have_numbers ms h.1

  items_have_numbers : (ds : Items) → ItemsCanReturn ds → tree.ItemsHaveNumbers (items_outline ds)
  items_have_numbers no_items h = tt
  items_have_numbers (item d ds) h = (has_numbers d h.0, items_have_numbers ds h.1)

  members_have_numbers : (ms : Members) → MembersCanReturn ms → tree.MembersHaveNumbers (members_outline ms)
  members_have_numbers no_members h = tt
  members_have_numbers (member k d ms) h = (has_numbers d h.1, members_have_numbers ms h.2)

-- ---- what is read of its outline

mutual
  returns : (d : Data) → CanReturn d → of_json (outline d) ≡ Some d
  returns null h = refl
  returns (boolean b) h = refl
  returns (number (unsigned n)) h = rw (number_of-decimal n h) refl
  returns (number (negative z)) h = absurd h
  returns (number (float x)) h = absurd h
  returns (string s) h = refl
  returns (array ds) h = rw (items_return ds h) refl
  returns (object ms) h = rw (members_return ms no_members h.1) (ap (λ found. Some (object found)) h.0)

  items_return : (ds : Items) → ItemsCanReturn ds → of_items (items_outline ds) ≡ Some ds
  items_return no_items h = refl
  items_return (item d ds) h = rw (returns d h.0, items_return ds h.1) refl

  members_return : (ms : Members) (found : Members) → MembersCanReturn ms → of_members (members_outline ms) found ≡ Some (gathered ms found)
  members_return no_members found h = refl
  members_return (member k d ms) found h = rw (returns d h.1) (members_return ms (put k d found) h.2)

mutual
  depth-outline : (d : Data) → tree.depth (outline d) ≡ depth d
  depth-outline null = refl
  depth-outline (boolean b) = refl
  depth-outline (number n) = refl
  depth-outline (string s) = refl
  depth-outline (array ds) = omega (arith, items_depth-outline ds)
  depth-outline (object ms) = omega (arith, members_depth-outline ms)

  items_depth-outline : (ds : Items) → tree.items_depth (items_outline ds) ≡ items_depth ds
  items_depth-outline no_items = refl
  items_depth-outline (item d ds) = ap₂ max (depth-outline d) (items_depth-outline ds)

  members_depth-outline : (ms : Members) → tree.members_depth (members_outline ms) ≡ members_depth ms
  members_depth-outline no_members = refl
  members_depth-outline (member k d ms) = ap₂ max (depth-outline d) (members_depth-outline ms)

pub read-compact_text : (d : Data) → CanReturn d → depth d ≤ max_depth → read (compact_text d) ≡ Some d
read-compact_text d h shallow =
    let ts = tree.json_tokens (outline d) in
    let lexed : tokens (compact_text d) ≡ ts ++ [] =
    ap tokens (sym (print-outline d)) ∙ tokens-print ts (ArePrintable-json_tokens (outline d) (has_numbers d h)) ∙ sym (append-nil ts) in
    let parsed : json.value max_depth (tokens (compact_text d)) ≡ Some (outline d, []) =
    ap (json.value max_depth) lexed ∙ value-json_tokens (outline d) max_depth [] (omega (arith, depth-outline d)) in
    rw parsed (returns d h)

-- ---- the text is UTF-8

one_byte : (x : ℕ) (xs : List ℕ) → are_ascii (x ∷ []) ≡ true → IsUtf8 xs → IsUtf8 (x ∷ xs)
one_byte x xs ascii rest = IsUtf8-append (x ∷ []) xs (IsUtf8-are_ascii (x ∷ []) ascii) rest

comma_then : (later : Bool) (xs : List ℕ) → IsUtf8 xs → IsUtf8 (comma_if later ++ xs)
comma_then true xs rest = one_byte 44 xs refl rest
comma_then false xs rest = rest

mutual
  pub IsUtf8-compact_text : (d : Data) → CanReturn d → IsUtf8 (compact_text d)
  IsUtf8-compact_text null h = IsUtf8-are_ascii _ refl
  IsUtf8-compact_text (boolean b) h = IsUtf8-boolean b
  IsUtf8-compact_text (number (unsigned n)) h = IsUtf8-from_ascii _ (IsAscii-decimal n h)
  IsUtf8-compact_text (number (negative z)) h = absurd h
  IsUtf8-compact_text (number (float x)) h = absurd h
  IsUtf8-compact_text (string s) h = IsUtf8-quoted s (IsUtf8-are_ascii s h)
  IsUtf8-compact_text (array ds) h = one_byte 91 _ refl (IsUtf8-items_text false ds h)
  IsUtf8-compact_text (object ms) h = one_byte 123 _ refl (IsUtf8-members_text false ms h.1)

  IsUtf8-items_text : (later : Bool) (ds : Items) → ItemsCanReturn ds → IsUtf8 (items_text later ds)
  IsUtf8-items_text later no_items h = IsUtf8-are_ascii _ refl
  IsUtf8-items_text later (item d ds) h =
      comma_then later _ (IsUtf8-append (compact_text d) _ (IsUtf8-compact_text d h.0) (IsUtf8-items_text true ds h.1))

  IsUtf8-members_text : (later : Bool) (ms : Members) → MembersCanReturn ms → IsUtf8 (members_text later ms)
  IsUtf8-members_text later no_members h = IsUtf8-are_ascii _ refl
  IsUtf8-members_text later (member k d ms) h =
      comma_then later _ (IsUtf8-append _ _ (IsUtf8-quoted k (IsUtf8-are_ascii k h.0))
      (one_byte 58 _ refl (IsUtf8-append (compact_text d) _ (IsUtf8-compact_text d h.1) (IsUtf8-members_text true ms h.2))))
