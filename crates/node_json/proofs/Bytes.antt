-- Bytes that are JSON, and bytes that are none.
use Rattle.std.proofs.Common.{◌≡◌, ℕ, List, cond, true, false, Some, None, refl}
use Rattle.std.specs.Prelude.{IsUtf8}
use Rattle.std.specs.Str.{is_utf8}
use Rattle.std.proofs.lemmas.Str.{IsUtf8-from_is_utf8, is_utf8-from_IsUtf8}
use Rattle.serde_json.specs.Data.{Data}
use Rattle.serde_json.specs.Read.{read}
use Rattle.node_json.specs.Json.{json_of}

pub json_of_text : (bytes : List ℕ) (d : Data) → IsUtf8 bytes → read bytes ≡ Some d → json_of bytes ≡ Some d
json_of_text bytes d text is = rw (is_utf8-from_IsUtf8 bytes text, is) refl

pub no_json : (bytes : List ℕ) → (IsUtf8 bytes → read bytes ≡ None) → json_of bytes ≡ None
no_json bytes refused = elim (is_utf8 bytes) as (λ b. is_utf8 bytes ≡ b → cond b (read bytes) None ≡ None) [
  | true ↦ λ e. refused (IsUtf8-from_is_utf8 bytes e)
  | false ↦ λ e. refl
] refl
