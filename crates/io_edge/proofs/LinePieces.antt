-- The first line of some bytes with its newline, and what is behind it.
use Rattle.std.proofs.Common.{◌≡◌, ℕ, ◌+◌, ◌<◌, List, [], ◌∷◌, ◌++◌, length, get_or, take, Bool, true, false, cond, not, eqb, ltb, ◌||◌, refl, sym, ap, ◌∙◌, arith, add-one, one-add, append_assoc, append-nil, length-append, length-take, take-append-drop}
use Rattle.std.proofs.Math.Seq.{take-suc}
use Rattle.std.proofs.lemmas.Bool.{eqb-true}
use Rattle.std.proofs.lemmas.Bool.Decides.{nat_tests}
use Rattle.std.proofs.lemmas.List.{take_all}
use Rattle.std.proofs.lemmas.List.Sums.{prefix_len_stops}
use Rattle.io_edge.specs.declared.limits.TheConstants.{INPUT_LIMIT, LINE_LIMIT}
use Rattle.io_edge.specs.Lines.{line_before, stopped_by_long, lines_of, line_end, has_newline, first_line, behind_line, line_extent, is_too_long}
use Rattle.io_edge.proofs.LineEnds.{IsPart, first_line-part, behind_line-part, line_extent-part, end_is_length, behind_all}
use Rattle.io_edge.proofs.AllLines.{lines_of_first}

-- the first line with its newline, where it has one
abbrev pub line_piece : List ℕ → List ℕ
line_piece bytes = take (line_end bytes + 1) bytes

pub line_piece-behind : (bytes : List ℕ) → line_piece bytes ++ behind_line bytes ≡ bytes
line_piece-behind bytes = take-append-drop (line_end bytes + 1) bytes

pub length-line_piece : (bytes : List ℕ) → length (line_piece bytes) ≡ line_extent bytes
length-line_piece bytes = omega (arith, length-take (line_end bytes + 1) bytes)

-- the first line alone has no newline
pub first_line_is_part : (bytes : List ℕ) → IsPart (first_line bytes)
first_line_is_part bytes = record { no_newline = end_of_first bytes } where
  step : (b : Bool) (n byte : ℕ) (bytes : List ℕ) → eqb byte 10 ≡ b → line_end (take n bytes) ≡ length (take n bytes)
      → line_end (take (cond (not b) (1 + n) 0) (byte ∷ bytes)) ≡ length (take (cond (not b) (1 + n) 0) (byte ∷ bytes))
  step true n byte bytes e rest = refl
  step false n byte bytes e rest =
      ap (λ (k : ℕ). line_end (take k (byte ∷ bytes))) (one-add n)
      ∙ ap (λ (b : Bool). cond (not b) (1 + line_end (take n bytes)) 0) e
      ∙ omega (arith, rest)
      ∙ ap (λ (k : ℕ). length (take k (byte ∷ bytes))) (sym (one-add n))

  end_of_first : (bytes : List ℕ) → line_end (first_line bytes) ≡ length (first_line bytes)
  end_of_first [] = refl
  end_of_first (byte ∷ bytes) = step (eqb byte 10) (line_end bytes) byte bytes refl (end_of_first bytes)

-- it ends with the newline
module _ (bytes : List ℕ) (has : has_newline bytes ≡ true) where
  newline_stands : get_or bytes (line_end bytes) 0 ≡ 10
  newline_stands =
      let within : line_end bytes < length bytes = grind (arith, nat_tests) in
      let stops = prefix_len_stops (λ byte. not (eqb byte 10)) bytes 0 within in
      eqb-true _ 10 (by_cases (eqb (get_or bytes (line_end bytes) 0) 10) stops)
    where
      by_cases : (b : Bool) → not b ≡ false → b ≡ true
      by_cases true e = refl
      by_cases false e = cc

  pub line_piece-newline : line_piece bytes ≡ first_line bytes ++ 10 ∷ []
  line_piece-newline =
      let within : line_end bytes < length bytes = grind (arith, nat_tests) in
      ap (λ (n : ℕ). take n bytes) (add-one (line_end bytes))
      ∙ take-suc bytes (line_end bytes) 0 within
      ∙ ap (λ (byte : ℕ). first_line bytes ++ byte ∷ []) newline_stands

-- What follows the first line with its newline is what is behind it.
pub record BeginsWith (known more : List ℕ) : Type 0 where
  pub first : first_line (line_piece known ++ more) ≡ first_line known
  pub behind : behind_line (line_piece known ++ more) ≡ more
  pub extent : line_extent (line_piece known ++ more) ≡ line_extent known

begins_by_newline : (known more : List ℕ) → has_newline known ≡ true → BeginsWith known more
begins_by_newline known more has =
    let line = first_line known in
    let part = first_line_is_part known in
    let within : line_end known < length known = grind (arith, nat_tests) in
    let whole : line_piece known ++ more ≡ line ++ 10 ∷ more =
    ap (λ (l : List ℕ). l ++ more) (line_piece-newline known has) ∙ append_assoc line (10 ∷ []) more in
    record {
      first = ap first_line whole ∙ first_line-part line (10 ∷ more) part ∙ append-nil line;
      behind = ap behind_line whole ∙ behind_line-part line (10 ∷ more) part;
      extent = ap line_extent whole ∙ line_extent-part line (10 ∷ more) part ∙ omega (arith, length-take (line_end known) known);
    }

begins_by_end : (known more : List ℕ) → has_newline known ≡ false → more ≡ [] → BeginsWith known more
begins_by_end known more none end =
    let all : line_piece known ++ more ≡ known =
    (λ i. line_piece known ++ end i) ∙ append-nil (line_piece known) ∙ take_all (line_end known + 1) known (omega (arith, end_is_length known (sym none))) in
    record {
      first = ap first_line all;
      behind = ap behind_line all ∙ behind_all known (sym none) ∙ sym end;
      extent = ap line_extent all;
    }

pub begins : (known more : List ℕ) → (has_newline known ≡ false → more ≡ []) → BeginsWith known more
begins known more end = by_cases (has_newline known) refl where
  by_cases : (b : Bool) → has_newline known ≡ b → BeginsWith known more
  by_cases true e = begins_by_newline known more e
  by_cases false e = begins_by_end known more e (end e)

-- the lines of a line that is not too long and of what follows it
pub lines_of_piece : (at : ℕ) (known more : List ℕ) → 0 < length known → is_too_long at known ≡ false → (has_newline known ≡ false → more ≡ [])
    → lines_of at (line_piece known ++ more) ≡ line_before (first_line known) (lines_of (at + line_extent known) more)
lines_of_piece at known more some fits end =
    let it = begins known more end in
    let whole = line_piece known ++ more in
    let filled : 0 < length whole = omega (arith, length-append (line_piece known) more, length-line_piece known) in
    lines_of_first at whole filled
    ∙ (λ i. cond (is_too_long_is it i) stopped_by_long (line_before (it.first i) (lines_of (at + it.extent i) (it.behind i))))
  where
    is_too_long_is : BeginsWith known more → is_too_long at (line_piece known ++ more) ≡ false
    is_too_long_is it = (λ i. ltb LINE_LIMIT (length (it.first i)) || ltb INPUT_LIMIT (at + it.extent i)) ∙ fits
