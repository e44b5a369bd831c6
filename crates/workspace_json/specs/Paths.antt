-- The text of a path of heights, and which path a word is.
use Rattle.std.specs.Prelude.{◌≡◌, ℕ, ◌<◌, ◌^◌, List, [], ◌∷◌, ◌++◌, length, map, codes, Bool, false, not, ◌&&◌, ◌||◌, ◌==◌, nat_lt, bytes_eq, if◌then◌else◌, Option, Some, None, option_map, option_and_then}
use Rattle.std.specs.Char.{is_ascii_digit}
use Rattle.std.specs.Fmt.{decimal}
use Rattle.std.specs.List.{All, list_all, join_with_byte, slice_split}
use Rattle.std.specs.Str.Parse.{digits_value}
use Rattle.diagram_terms.specs.declared.place.Height.{Height}
use Rattle.diagram_terms.specs.declared.place.Height.TheVariants as height

-- ---- texts

-- `r` or `s`, and the number
abbrev pub height_text : Height → List ℕ
height_text (height.R j) = codes "r" ++ decimal j
height_text (height.S i) = codes "s" ++ decimal i

-- `.`, or the steps with one comma (44) between them
abbrev pub path_text : List Height → List ℕ
path_text [] = codes "."
path_text (h ∷ hs) = join_with_byte 44 (map height_text (h ∷ hs))

-- the number of a height is below 2^32
abbrev pub IsSmall : Height → Type 0
IsSmall (height.R j) = j < 2 ^ 32
IsSmall (height.S i) = i < 2 ^ 32

-- the word is the text of the height
pub record IsHeightText (word : List ℕ) (h : Height) : Type 0 where
  pub small : IsSmall h
  pub text : word ≡ height_text h

-- the word is the text of the path
pub record IsPathText (word : List ℕ) (path : List Height) : Type 0 where
  pub small : All IsSmall path
  pub text : word ≡ path_text path

-- ---- reading

-- decimal digits without a leading zero (48), or `0` itself
abbrev pub is_numeral : List ℕ → Bool
is_numeral [] = false
is_numeral (d ∷ ds) = list_all is_ascii_digit (d ∷ ds) && (not (d == 48) || length ds == 0)

-- the number that such digits are, if it is below 2^32
unfoldable pub number_in : List ℕ → Option ℕ
number_in digits =
    if is_numeral digits && nat_lt (digits_value 10 digits) (2 ^ 32) then Some (digits_value 10 digits) else None

-- `r` (114) and the number of a regular height, or `s` (115) and the number of a singular one
unfoldable pub height_in : List ℕ → Option Height
height_in [] = None
height_in (letter ∷ digits) =
    if letter == 114 then option_map (λ j. height.R j) (number_in digits) else (
    if letter == 115 then option_map (λ i. height.S i) (number_in digits) else None)

-- the heights that words are, if each is one
abbrev pub heights_in : List (List ℕ) → Option (List Height)
heights_in [] = Some []
heights_in (word ∷ words) = option_and_then (λ h. option_map (λ hs. h ∷ hs) (heights_in words)) (height_in word)

-- the words between commas
abbrev pub steps_of : List ℕ → List (List ℕ)
steps_of word = slice_split (λ b. b == 44) word

-- the empty path for `.`, and else the heights between the commas
abbrev pub path_in : List ℕ → Option (List Height)
path_in word = if bytes_eq word (codes ".") then Some [] else heights_in (steps_of word)
