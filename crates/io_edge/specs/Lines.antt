-- The lines of an input, and what contracts see of a reader of lines.
use Rattle.std.specs.Prelude.{◌≡◌, ℕ, zero, suc, ◌+◌, ◌==◌, nat_lt, ◌||◌, min, List, [], ◌∷◌, ◌++◌, length, take, drop, Bool, true, false, if◌then◌else◌, Option, None, Some, option_map, Result, IfOk, OnOk, IsErrOf}
use Rattle.std.specs.List.{position_or_len}
use Rattle.std.specs.Global.{Vec}
use Rattle.std.specs.Io.KnownBytes.{Consumes, IsAtEnd, prepend_known}
use Rattle.io_edge.specs.declared.limits.TheConstants.{INPUT_LIMIT, LINE_LIMIT}
use Rattle.io_edge.specs.declared.lines.LineFault.{LineFault}
use Rattle.io_edge.specs.declared.lines.LineFault.TheVariants.{TooLong}

-- ---- the first line of some bytes

-- where the first newline stands, or else the end
abbrev pub line_end : List ℕ → ℕ
line_end bytes = position_or_len (λ byte. byte == 10) bytes

abbrev pub has_newline : List ℕ → Bool
has_newline bytes = nat_lt (line_end bytes) (length bytes)

-- the bytes before the first newline, or all of them
abbrev pub first_line : List ℕ → List ℕ
first_line bytes = take (line_end bytes) bytes

-- the bytes behind the first newline, or none
abbrev pub behind_line : List ℕ → List ℕ
behind_line bytes = drop (line_end bytes + 1) bytes

-- how many bytes the first line takes, with its newline where it has one
abbrev pub line_extent : List ℕ → ℕ
line_extent bytes = min (line_end bytes + 1) (length bytes)

-- Whether the first line of these bytes, which begin behind `at` bytes of the input, is longer than a line may be, or
-- its last byte or its newline lies behind the greatest length of an input.
abbrev pub is_too_long : ℕ → List ℕ → Bool
is_too_long at bytes =
    nat_lt LINE_LIMIT (length (first_line bytes)) || nat_lt INPUT_LIMIT (at + line_extent bytes)

-- the first line of some bytes, where there are any
abbrev pub line_of : List ℕ → Option (List ℕ)
line_of [] = None
line_of (byte ∷ bytes) = Some (first_line (byte ∷ bytes))

-- ---- all lines of some bytes

-- the lines up to the end, or up to the first that is too long
pub record Lines : Type 0 where
  pub lines : List (List ℕ)
  pub too_long : Bool

-- a line, and then these
abbrev pub line_before : List ℕ → Lines → Lines
line_before line rest = record { lines = line ∷ rest.lines; too_long = rest.too_long }

abbrev pub no_lines : Lines
no_lines = record { lines = []; too_long = false }

abbrev pub stopped_by_long : Lines
stopped_by_long = record { lines = []; too_long = true }

-- The first line of the bytes behind the first `at` of an input, and then the lines of what is behind it; or none where
-- that line is too long. There are no more lines than bytes, so as many of them are enough.
abbrev pub lines_up_to : ℕ → ℕ → List ℕ → Lines
lines_up_to zero at bytes = no_lines
lines_up_to (suc more) at [] = no_lines
lines_up_to (suc more) at (byte ∷ bytes) =
    if is_too_long at (byte ∷ bytes)
    then stopped_by_long
    else line_before (first_line (byte ∷ bytes)) (lines_up_to more (at + line_extent (byte ∷ bytes)) (behind_line (byte ∷ bytes)))

-- the lines of the bytes behind the first `at` of an input
abbrev pub lines_of : ℕ → List ℕ → Lines
lines_of at bytes = lines_up_to (length bytes) at bytes

-- ---- a reader of lines

-- What contracts see of a reader: up to its first fault the bytes that it took and has not given, and how many bytes of
-- the input stand before them; whether the source came to its end, and the fault that was answered.
pub record ReaderState : Type 0 where
  pub pending : List ℕ
  pub passed : ℕ
  pub ended : Bool
  pub fault : Option LineFault

-- the reader behind the first line of the bytes that it knows, which go up to the end where they hold no newline
abbrev pub behind_first : ReaderState → List ℕ → ReaderState
behind_first reader known = record reader {
  pending = behind_line known;
  passed = reader.passed + line_extent known;
  ended = if has_newline known then reader.ended else true;
}

-- whether the bytes that a reader took and has not given hold a newline, or a line that is too long
abbrev pub holds_line : ReaderState → Bool
holds_line reader = has_newline reader.pending || is_too_long reader.passed reader.pending

-- the rest of the input, where it is told: what is pending, and then what the source has left if it has not ended
abbrev pub rest_of : ReaderState → Option (List ℕ) → Option (List ℕ)
rest_of reader left = if reader.ended then Some reader.pending else prepend_known reader.pending left

-- The answer is the first line of the rest of the input, which is not too long, and what is behind it is the new rest.
abbrev pub AnswersFirst : ReaderState → ReaderState → Option (List ℕ) → Option (Vec ℕ) → List ℕ → Type 0
AnswersFirst old new left' answer rest =
    (option_map (λ line. line.items) answer ≡ line_of rest) × (rest_of new left' ≡ Some (behind_line rest)) × (is_too_long old.passed rest ≡ false)

-- A call took some bytes of the source, none of one that had ended. Of the pending bytes and these it answers the first
-- line, if they are any, and stands behind it. It is an answer only where that line is not too long, and TooLong only
-- where it is.
pub record TakesLine (old new : ReaderState) (left left' : Option (List ℕ)) (result : Result (Option (Vec ℕ)) LineFault) : Type 0 where
  pub taken : List ℕ
  pub consumed : Consumes left left' taken
  pub none_behind_end : old.ended ≡ true → taken ≡ []
  pub line : IfOk result (λ answer. option_map (λ line. line.items) answer ≡ line_of (old.pending ++ taken))
  pub state : OnOk result (new ≡ behind_first old (old.pending ++ taken))
  pub at_end : OnOk result (old.ended ≡ false → new.ended ≡ true → IsAtEnd left')
  pub within : OnOk result (is_too_long old.passed (old.pending ++ taken) ≡ false)
  pub too_long : IsErrOf result TooLong → is_too_long old.passed (old.pending ++ taken) ≡ true

-- Bytes were taken of the source, so that those that were taken and not given hold no newline and no line that is too long.
pub record TakesNoLine (old : ReaderState) (left left' : Option (List ℕ)) : Type 0 where
  pub taken : List ℕ
  pub consumed : Consumes left left' taken
  pub no_newline : has_newline (old.pending ++ taken) ≡ false
  pub not_too_long : is_too_long old.passed (old.pending ++ taken) ≡ false
