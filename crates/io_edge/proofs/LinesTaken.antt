-- What the answers of a reader say of all lines of an input, and of the rest of one that is told.
use Rattle.std.proofs.Common.{◌≡◌, ℕ, ◌+◌, ◌<◌, ◌≤◌, List, [], ◌∷◌, ◌++◌, length, take, drop, Bool, true, false, cond, eqb, ltb, not, ◌||◌, Option, None, Some, IfSome, Result, Ok, Err, IsErrOf, refl, sym, ap, ◌∙◌, subst, arith, append_assoc, append-nil, length-append}
use Rattle.std.specs.Global.{Vec}
use Rattle.std.specs.Io.KnownBytes.{prepend_known}
use Rattle.std.proofs.lemmas.Bool.Decides.{nat_tests}
use Rattle.std.proofs.lemmas.List.{take-append-le, drop-append-le, nil_from_length}
use Rattle.std.proofs.lemmas.List.Folds.{prefix_len-append}
use Rattle.io_edge.specs.declared.lines.LineFault.{LineFault}
use Rattle.io_edge.specs.declared.lines.LineFault.TheVariants.{TooLong}
use Rattle.io_edge.specs.declared.limits.TheConstants.{INPUT_LIMIT, LINE_LIMIT}
use Rattle.io_edge.specs.Lines.{stopped_by_long, lines_of, line_of, line_end, has_newline, first_line, behind_line, line_extent, is_too_long, ReaderState, TakesLine, rest_of, AnswersFirst}
use Rattle.io_edge.proofs.LineEnds.{line_end-le-length, is_too_long-more}
use Rattle.io_edge.proofs.AllLines.{lines_of_first, by_long}

-- ---- bytes of which some are known

-- The first line of the known bytes is that of the whole, whatever more there is.
pub record HoldsFirst (known more : List ℕ) : Type 0 where
  pub first : first_line (known ++ more) ≡ first_line known
  pub behind : behind_line (known ++ more) ≡ behind_line known ++ more
  pub extent : line_extent (known ++ more) ≡ line_extent known

-- they do where they hold a newline
pub holds_by_newline : (known more : List ℕ) → has_newline known ≡ true → HoldsFirst known more
holds_by_newline known more has =
    let within : line_end known < length known = grind (arith, nat_tests) in
    let joined = prefix_len-append (λ byte. not (eqb byte 10)) known more in
    let ends : line_end (known ++ more) ≡ line_end known = grind (arith, nat_tests) in
    record {
      first =
          ap (λ (n : ℕ). take n (known ++ more)) ends
          ∙ take-append-le (line_end known) known more (line_end-le-length known);
      behind =
          ap (λ (n : ℕ). drop (n + 1) (known ++ more)) ends
          ∙ drop-append-le (line_end known + 1) known more (omega arith);
      extent = omega (arith, ends, length-append known more);
    }

-- and where there is no more
pub holds_by_end : (known more : List ℕ) → more ≡ [] → HoldsFirst known more
holds_by_end known more none = subst (HoldsFirst known) (sym none) record {
  first = ap first_line (append-nil known);
  behind = ap behind_line (append-nil known) ∙ sym (append-nil (behind_line known));
  extent = ap line_extent (append-nil known);
}

-- and so they do up to the end, which is where they hold no newline
pub holds_up_to : (known more : List ℕ) (ended : Bool) → (cond (has_newline known) ended true ≡ true → more ≡ []) → HoldsFirst known more
holds_up_to known more ended none = by_cases (has_newline known) refl
  where
    by_cases : (b : Bool) → has_newline known ≡ b → HoldsFirst known more
    by_cases true e = holds_by_newline known more e
    by_cases false e = holds_by_end known more (none (ap (λ (b : Bool). cond b ended true) e))

module _ (known more : List ℕ) (holds : HoldsFirst known more) where
  pub is_too_long-held : (at : ℕ) → is_too_long at (known ++ more) ≡ is_too_long at known
  is_too_long-held at =
      λ i. ltb LINE_LIMIT (length (holds.first i)) || ltb INPUT_LIMIT (at + holds.extent i)

-- ---- a line that is too long

long_known : (at : ℕ) (bytes : List ℕ) → at ≤ INPUT_LIMIT → is_too_long at bytes ≡ true → 0 < length bytes
long_known at [] within e = absurd (grind (arith, nat_tests))
long_known at (byte ∷ bytes) within e = omega arith

module _ (old new : ReaderState) (left left' : Option (List ℕ)) (more : List ℕ) where
  -- After TooLong no line is left.
  pub lines_of_too_long : (takes : TakesLine old new left left' (Err TooLong)) → old.passed ≤ INPUT_LIMIT
      → lines_of old.passed (old.pending ++ (takes.taken ++ more)) ≡ stopped_by_long
  lines_of_too_long takes within =
      let known = old.pending ++ takes.taken in
      let at = old.passed in
      let long : is_too_long at known ≡ true = takes.too_long refl in
      let some : 0 < length known = long_known at known within long in
      ap (lines_of at) (sym (append_assoc old.pending takes.taken more))
      ∙ lines_of_first at (known ++ more) (omega (arith, length-append known more))
      ∙ sym (by_long at (known ++ more) (is_too_long-more at known more long))

-- a reader that answers has not gone behind the greatest input
pub passed_within : (old new : ReaderState) (left left' : Option (List ℕ)) (answer : Option (Vec ℕ)) → TakesLine old new left left' (Ok answer)
    → new.passed ≤ INPUT_LIMIT
passed_within old new left left' answer takes =
    let passes : new.passed ≡ old.passed + line_extent (old.pending ++ takes.taken) = ap (λ (s : ReaderState). s.passed) takes.state in
    let fits = takes.within in
    grind (arith, nat_tests)

-- ---- the rest of an input that is told

line_of-held : (known more : List ℕ) → HoldsFirst known more → line_of (known ++ more) ≡ line_of known
line_of-held [] more holds = ap line_of (nil_from_length more (omega (arith, holds.extent)))
line_of-held (byte ∷ known) more holds = ap Some holds.first

module _ (old new : ReaderState) (left left' : Option (List ℕ)) (answer : Option (Vec ℕ)) (takes : TakesLine old new left left' (Ok answer)) where
  ended_is : new.ended ≡ cond (has_newline (old.pending ++ takes.taken)) old.ended true
  ended_is = ap (λ (s : ReaderState). s.ended) takes.state

  answers_held : (more : List ℕ) → HoldsFirst (old.pending ++ takes.taken) more → rest_of new left' ≡ Some (new.pending ++ more)
      → AnswersFirst old new left' answer (old.pending ++ takes.taken ++ more)
  answers_held more holds rest = (
    takes.line ∙ sym (line_of-held (old.pending ++ takes.taken) more holds),
    rest ∙ ap (λ (s : ReaderState). Some (s.pending ++ more)) takes.state ∙ ap Some (sym holds.behind),
    is_too_long-held (old.pending ++ takes.taken) more holds old.passed ∙ takes.within,
  )

  -- a reader that had ended
  answers_behind_end : old.ended ≡ true → AnswersFirst old new left' answer old.pending
  answers_behind_end e =
      let ended : new.ended ≡ true = grind (arith, ended_is) in
      let held = answers_held [] (holds_by_end (old.pending ++ takes.taken) [] refl)
      (ap (λ (b : Bool). cond b (Some new.pending) (prepend_known new.pending left')) ended ∙ ap Some (sym (append-nil new.pending))) in
      subst (AnswersFirst old new left' answer)
      (append-nil (old.pending ++ takes.taken) ∙ ap (λ (l : List ℕ). old.pending ++ l) (takes.none_behind_end e) ∙ append-nil old.pending)
      held

  -- a reader that had not ended, of a source that tells its bytes
  answers_told : old.ended ≡ false → (bytes bytes' : List ℕ) → left' ≡ Some bytes' → bytes ≡ takes.taken ++ bytes' → (new.ended ≡ true → bytes' ≡ [])
      → AnswersFirst old new left' answer (old.pending ++ bytes)
  answers_told e bytes bytes' told consumed end =
      let holds : HoldsFirst (old.pending ++ takes.taken) bytes' =
      holds_up_to (old.pending ++ takes.taken) bytes' old.ended (λ h. end (ended_is ∙ h)) in
      subst (AnswersFirst old new left' answer)
      (append_assoc old.pending takes.taken bytes' ∙ ap (λ (l : List ℕ). old.pending ++ l) (sym consumed))
      (answers_held bytes' holds (by_cases new.ended refl))
    where
      by_cases : (b : Bool) → new.ended ≡ b → rest_of new left' ≡ Some (new.pending ++ bytes')
      by_cases true h =
          ap (λ (b : Bool). cond b (Some new.pending) (prepend_known new.pending left')) h
          ∙ ap Some (sym (append-nil new.pending) ∙ ap (λ (l : List ℕ). new.pending ++ l) (sym (end h)))
      by_cases false h =
          ap (λ (b : Bool). cond b (Some new.pending) (prepend_known new.pending left')) h
          ∙ ap (prepend_known new.pending) told

-- where the rest is told, the answer is its first line
pub told_answer : (old new : ReaderState) (left left' : Option (List ℕ)) (answer : Option (Vec ℕ)) → TakesLine old new left left' (Ok answer)
    → IfSome (rest_of old left) (AnswersFirst old new left' answer)
told_answer old new left left' answer takes = by_cases old.ended refl left left' takes
  where
    by_cases : (b : Bool) → old.ended ≡ b → (l l' : Option (List ℕ)) → TakesLine old new l l' (Ok answer)
        → IfSome (cond b (Some old.pending) (prepend_known old.pending l)) (AnswersFirst old new l' answer)
    by_cases true e l l' t = answers_behind_end old new l l' answer t e
    by_cases false e None l' t = tt
    by_cases false e (Some bytes) None t = absurd t.consumed
    by_cases false e (Some bytes) (Some bytes') t =
        answers_told old new (Some bytes) (Some bytes') answer t e bytes bytes' refl t.consumed (t.at_end e)

-- where the rest is told, its first line is too long
pub told_too_long : (old new : ReaderState) (left left' : Option (List ℕ)) (result : Result (Option (Vec ℕ)) LineFault) → TakesLine old new left left' result
    → IsErrOf result TooLong → IfSome (rest_of old left) (λ rest. is_too_long old.passed rest ≡ true)
told_too_long old new left left' result takes is = by_cases old.ended refl left left' takes
  where
    by_cases : (b : Bool) → old.ended ≡ b → (l l' : Option (List ℕ)) → TakesLine old new l l' result
        → IfSome (cond b (Some old.pending) (prepend_known old.pending l)) (λ rest. is_too_long old.passed rest ≡ true)
    by_cases true e l l' t =
        subst (λ (bytes : List ℕ). is_too_long old.passed bytes ≡ true)
        (ap (λ (l : List ℕ). old.pending ++ l) (t.none_behind_end e) ∙ append-nil old.pending) (t.too_long is)
    by_cases false e None l' t = tt
    by_cases false e (Some bytes) None t = absurd t.consumed
    by_cases false e (Some bytes) (Some bytes') t =
        subst (λ (bytes : List ℕ). is_too_long old.passed bytes ≡ true)
        (append_assoc old.pending t.taken bytes' ∙ ap (λ (l : List ℕ). old.pending ++ l) (sym t.consumed))
        (is_too_long-more old.passed (old.pending ++ t.taken) bytes' (t.too_long is))
