-- All lines of some bytes, one after the other.
use Rattle.std.proofs.Common.{◌≡◌, ℕ, zero, suc, ◌+◌, ◌<◌, ◌≤◌, List, [], ◌∷◌, length, Bool, true, cond, refl, sym, ap, arith, length-drop}
use Rattle.io_edge.specs.Lines.{Lines, line_before, stopped_by_long, lines_up_to, lines_of, line_end, first_line, behind_line, line_extent, is_too_long}

-- the lines by the first of them: none where that is too long
abbrev pub lines_by_first : ℕ → List ℕ → Lines
lines_by_first at bytes =
    cond (is_too_long at bytes) stopped_by_long
    (line_before (first_line bytes) (lines_of (at + line_extent bytes) (behind_line bytes)))

pub by_long : (at : ℕ) (bytes : List ℕ) → is_too_long at bytes ≡ true → stopped_by_long ≡ lines_by_first at bytes
by_long at bytes e =
    ap (λ (b : Bool). cond b stopped_by_long (line_before (first_line bytes) (lines_of (at + line_extent bytes) (behind_line bytes)))) (sym e)

-- what is behind the first line of some bytes is shorter than they are
length-behind_line : (byte : ℕ) (bytes : List ℕ) → length (behind_line (byte ∷ bytes)) ≤ length bytes
length-behind_line byte bytes = omega (arith, length-drop (line_end (byte ∷ bytes) + 1) (byte ∷ bytes))

-- numbers of lines that are enough give the same lines
lines_enough : (more other at : ℕ) (bytes : List ℕ) → length bytes ≤ more → length bytes ≤ other → lines_up_to more at bytes ≡ lines_up_to other at bytes
lines_enough zero zero at bytes h k = refl
lines_enough zero (suc other) at [] h k = refl
lines_enough zero (suc other) at (byte ∷ bytes) h k = absurd (omega arith)
lines_enough (suc more) zero at [] h k = refl
lines_enough (suc more) zero at (byte ∷ bytes) h k = absurd (omega arith)
lines_enough (suc more) (suc other) at [] h k = refl
lines_enough (suc more) (suc other) at (byte ∷ bytes) h k =
    let all = byte ∷ bytes in
    let shorter : length (behind_line all) ≤ length bytes = length-behind_line byte bytes in
    ap (λ (rest : Lines). cond (is_too_long at all) stopped_by_long (line_before (first_line all) rest))
    (lines_enough more other (at + line_extent all) (behind_line all) (omega arith) (omega arith))

-- One step: the first line, and then the lines of what is behind it; or no line where the first is too long.
pub lines_of_first : (at : ℕ) (bytes : List ℕ) → 0 < length bytes → lines_of at bytes ≡ lines_by_first at bytes
lines_of_first at [] some = absurd (omega arith)
lines_of_first at (byte ∷ bytes) some =
    let all = byte ∷ bytes in
    ap (λ (rest : Lines). cond (is_too_long at all) stopped_by_long (line_before (first_line all) rest))
    (lines_enough (length bytes) (length (behind_line all)) (at + line_extent all) (behind_line all) (length-behind_line byte bytes) (omega arith))
