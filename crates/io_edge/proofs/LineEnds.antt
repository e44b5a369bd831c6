-- The first line of bytes that begin with a part of a line, and of a piece of a buffer.
use Rattle.std.proofs.Common.{◌≡◌, ℕ, ◌+◌, ◌-◌, ◌<◌, ◌≤◌, List, [], ◌∷◌, ◌++◌, length, take, drop, true, false, cond, eqb, ltb, ◌⊎◌, ◌||◌, not, None, Some, slice_range, refl, sym, ap, ◌∙◌, arith, length-append, length-take, length-drop}
use Rattle.std.specs.List.{position}
use Rattle.std.proofs.Math.Seq.{take-append-add, drop-append-add}
use Rattle.std.proofs.lemmas.List.{drop_min, drop-take, drop-drop, drop_all, take_all}
use Rattle.std.proofs.lemmas.List.Sums.{prefix_len-le-length}
use Rattle.std.proofs.lemmas.List.Folds.{prefix_len-append}
use Rattle.std.proofs.lemmas.Bool.Decides.{nat_tests}
use Rattle.io_edge.specs.declared.limits.TheConstants.{INPUT_LIMIT, LINE_LIMIT}
use Rattle.io_edge.specs.Lines.{line_end, has_newline, first_line, behind_line, line_extent, is_too_long, line_of}

pub line_end-le-length : (bytes : List ℕ) → line_end bytes ≤ length bytes
line_end-le-length bytes = prefix_len-le-length (λ byte. not (eqb byte 10)) bytes

pub length-first_line : (bytes : List ℕ) → length (first_line bytes) ≡ line_end bytes
length-first_line bytes = omega (arith, length-take (line_end bytes) bytes, line_end-le-length bytes)

-- what `position` finds, or the length, is where the line ends
found_at : (at len n : ℕ) → cond (ltb at len) (Some at) None ≡ Some n → n ≡ at
found_at at len n e = grind (arith, nat_tests)

not_found : (at len : ℕ) → cond (ltb at len) (Some at) None ≡ None → at ≤ len → len ≡ at
not_found at len e within = grind (arith, nat_tests)

pub line_end-Some : (bytes : List ℕ) (at : ℕ) → position (λ byte. eqb byte 10) bytes ≡ Some at → at ≡ line_end bytes
line_end-Some bytes at e = found_at (line_end bytes) (length bytes) at e

pub line_end-None : (bytes : List ℕ) → position (λ byte. eqb byte 10) bytes ≡ None → length bytes ≡ line_end bytes
line_end-None bytes e = not_found (line_end bytes) (length bytes) e (line_end-le-length bytes)

-- ---- bytes with no newline before others

-- bytes with no newline are a part of one line
pub record IsPart (line : List ℕ) : Type 0 where
  pub no_newline : line_end line ≡ length line

module _ (line bytes : List ℕ) (part : IsPart line) where
  pub line_end-part : line_end (line ++ bytes) ≡ length line + line_end bytes
  line_end-part =
      let e = prefix_len-append (λ byte. not (eqb byte 10)) line bytes in
      let p = part.no_newline in
      grind (arith, nat_tests)

  pub has_newline-part : has_newline (line ++ bytes) ≡ has_newline bytes
  has_newline-part =
      let e = line_end-part in
      let l = length-append line bytes in
      grind (arith, nat_tests)

  pub first_line-part : first_line (line ++ bytes) ≡ line ++ first_line bytes
  first_line-part =
      ap (λ (n : ℕ). take n (line ++ bytes)) line_end-part ∙ take-append-add line bytes (line_end bytes)

  pub behind_line-part : behind_line (line ++ bytes) ≡ behind_line bytes
  behind_line-part =
      let e : line_end (line ++ bytes) + 1 ≡ length line + (line_end bytes + 1) = omega (arith, line_end-part) in
      ap (λ (n : ℕ). drop n (line ++ bytes)) e ∙ drop-append-add line bytes (line_end bytes + 1)

  pub line_extent-part : line_extent (line ++ bytes) ≡ length line + line_extent bytes
  line_extent-part = omega (arith, line_end-part, length-append line bytes)

-- ---- a piece of a buffer

module _ (buffer : List ℕ) (at filled : ℕ) (ordered : at ≤ filled) (within : filled ≤ length buffer) where
  pub length-piece : length (slice_range buffer at filled) ≡ filled - at
  length-piece = omega (arith, length-take (filled - at) (drop at buffer), length-drop at buffer)

  -- what is left of a piece without its first line
  pub behind_piece : slice_range buffer (at + line_extent (slice_range buffer at filled)) filled ≡ behind_line (slice_range buffer at filled)
  behind_piece =
      let piece = slice_range buffer at filled in
      let extent = line_extent piece in
      let rest = filled - (at + extent) in
      let split : filled - at ≡ extent + rest = omega (arith, length-piece) in
      ap (take rest) (sym (drop-drop extent at buffer))
      ∙ sym (drop-take extent rest (drop at buffer))
      ∙ ap (λ (n : ℕ). drop extent (take n (drop at buffer))) (sym split)
      ∙ drop_min (line_end piece + 1) piece

-- ---- bytes with no newline

module _ (bytes : List ℕ) (none : false ≡ has_newline bytes) where
  pub end_is_length : line_end bytes ≡ length bytes
  end_is_length =
      let l = line_end-le-length bytes in
      grind (arith, nat_tests)

  pub first_line_is_all : first_line bytes ≡ bytes
  first_line_is_all = take_all (line_end bytes) bytes (omega (arith, end_is_length))

  pub behind_all : behind_line bytes ≡ []
  behind_all = drop_all (line_end bytes + 1) bytes (omega (arith, end_is_length))

  pub extent_is_all : line_extent bytes ≡ length bytes
  extent_is_all = omega (arith, end_is_length)

pub has_newline-part_alone : (line : List ℕ) → IsPart line → false ≡ has_newline line
has_newline-part_alone line part =
    let e = part.no_newline in
    grind (arith, nat_tests)

-- ---- lines of some bytes, and lines that are too long

pub line_of-some : (bytes : List ℕ) → 0 < length bytes → line_of bytes ≡ Some (first_line bytes)
line_of-some [] some = absurd (omega arith)
line_of-some (byte ∷ bytes) some = refl

pub not_too_long : (at : ℕ) (bytes : List ℕ) → line_end bytes ≤ LINE_LIMIT → at + line_extent bytes ≤ INPUT_LIMIT → is_too_long at bytes ≡ false
not_too_long at bytes short within =
    let e = length-first_line bytes in
    grind (arith, nat_tests)

pub surely_too_long : (at : ℕ) (bytes : List ℕ) → (LINE_LIMIT < line_end bytes) ⊎ (INPUT_LIMIT < at + line_extent bytes) → is_too_long at bytes ≡ true
surely_too_long at bytes too_long =
    let e = length-first_line bytes in
    grind (arith, nat_tests)

-- ---- whatever more there is

-- a newline stays
pub has_newline-more : (known more : List ℕ) → has_newline known ≡ true → has_newline (known ++ more) ≡ true
has_newline-more known more e =
    let joined = prefix_len-append (λ byte. not (eqb byte 10)) known more in
    let l = length-append known more in
    grind (arith, nat_tests)

or_more : (m n a b a' b' : ℕ) → a ≤ a' → b ≤ b' → (ltb m a || ltb n b) ≡ true → (ltb m a' || ltb n b') ≡ true
or_more m n a b a' b' l l' e = grind (arith, nat_tests)

-- a line that is too long stays so, whatever more there is
pub is_too_long-more : (at : ℕ) (known more : List ℕ) → is_too_long at known ≡ true → is_too_long at (known ++ more) ≡ true
is_too_long-more at known more e =
    let joined = prefix_len-append (λ byte. not (eqb byte 10)) known more in
    let within = line_end-le-length known in
    let longer : line_end known ≤ line_end (known ++ more) = grind (arith, nat_tests) in
    or_more LINE_LIMIT INPUT_LIMIT (length (first_line known)) (at + line_extent known) (length (first_line (known ++ more))) (at + line_extent (known ++ more))
    (omega (arith, length-first_line known, length-first_line (known ++ more)))
    (omega (arith, length-append known more)) e
