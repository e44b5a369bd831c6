-- Lines that are taken one by one.
use Rattle.std.proofs.Common.{◌≡◌, ℕ, ◌+◌, ◌<◌, ◌≤◌, ◌⊎◌, inl, inr, List, [], ◌∷◌, ◌++◌, length, Bool, true, false, cond, Option, None, Some, IfSome, Result, Ok, Err, refl, sym, ap, ◌∙◌, subst, true≢false, arith, append_assoc, append-nil}
use Rattle.std.specs.Prelude.{IfNone}
use Rattle.std.specs.Global.{Vec}
use Rattle.std.proofs.lemmas.Bool.{false≢true}
use Rattle.std.specs.Io.KnownBytes.{Consumes, IsAtEnd}
use Rattle.std.proofs.KnownBytes.{Consumes-nil, Consumes-trans}
use Rattle.io_edge.specs.declared.lines.LineFault.{LineFault}
use Rattle.io_edge.specs.declared.lines.LineFault.TheVariants.{TooLong}
use Rattle.io_edge.specs.declared.limits.TheConstants.{INPUT_LIMIT}
use Rattle.io_edge.specs.Lines.{Lines, ReaderState, TakesLine, behind_line, first_line, has_newline, line_extent, line_of, lines_of}
use Rattle.io_edge.proofs.LineEnds.{behind_all, has_newline-part}
use Rattle.io_edge.proofs.LinePieces.{begins, first_line_is_part, line_piece, line_piece-behind, line_piece-newline, lines_of_piece}
use Rattle.io_edge.proofs.LinesTaken.{lines_of_too_long, passed_within}
use Rattle.hom_run.specs.Taken.{AreWholeLines}

-- lines, and then these
abbrev pub lines_before : List (List ℕ) → Lines → Lines
lines_before lines rest = record { lines = lines ++ rest.lines; too_long = rest.too_long }

-- The reader gave these lines of the input. With whatever more follows the bytes given, none behind the end, they come
-- before the lines of the rest.
pub record IsTaking (old now : Option (List ℕ)) (reader : ReaderState) (lines : List (List ℕ)) : Type 0 where
  pub given : List ℕ
  pub consumed : Consumes old now (given ++ reader.pending)
  pub of_more : (more : List ℕ) → (reader.ended ≡ true → more ≡ []) → lines_of 0 (given ++ more) ≡ lines_before lines (lines_of reader.passed more)
  pub whole : reader.ended ≡ false → AreWholeLines given
  pub drained : reader.ended ≡ true → reader.pending ≡ []
  pub at_end : reader.ended ≡ true → IsAtEnd now
  pub no_fault : reader.fault ≡ None
  pub within : reader.passed ≤ INPUT_LIMIT

pub taking_begun : (old : Option (List ℕ)) → IsTaking old old record { pending = []; passed = 0; ended = false; fault = None } []
taking_begun old = record {
  given = [];
  consumed = Consumes-nil old;
  of_more = λ more h. refl;
  whole = λ e. inl refl;
  drained = λ e. absurd (false≢true e);
  at_end = λ e. absurd (false≢true e);
  no_fault = refl;
  within = omega arith;
}

-- the lines of the bytes given
pub lines_of_given : (old now : Option (List ℕ)) (reader : ReaderState) (lines : List (List ℕ)) (so_far : IsTaking old now reader lines)
    → lines_of 0 so_far.given ≡ record { lines = lines; too_long = false }
lines_of_given old now reader lines so_far =
    ap (lines_of 0) (sym (append-nil so_far.given))
    ∙ so_far.of_more [] (λ _. refl)
    ∙ ap (λ (ls : List (List ℕ)). record { lines = ls; too_long = false }) (append-nil lines)

-- the input begins with these lines
pub front : (old now : Option (List ℕ)) (reader : ReaderState) (lines : List (List ℕ)) → IsTaking old now reader lines
    → (bytes : List ℕ) × IfSome old (λ left. bytes ≡ left) × ((rest : Lines) × (lines_of 0 bytes ≡ lines_before lines rest))
front None now reader lines so_far = (so_far.given ++ [], tt, (lines_of reader.passed [], so_far.of_more [] (λ _. refl)))
front (Some left) None reader lines so_far = absurd so_far.consumed
front (Some left) (Some more) reader lines so_far = (
  left,
  refl,
  (
    lines_of reader.passed (reader.pending ++ more),
    ap (lines_of 0) (so_far.consumed ∙ append_assoc so_far.given reader.pending more)
        ∙ so_far.of_more (reader.pending ++ more) (λ e. (λ i. so_far.drained e i ++ so_far.at_end e i)),
  ),
)

-- Bytes were taken: these are their lines, and those of all of the input, where what is left of it is told. Nothing is left
-- behind them unless one is too long.
pub record AreTaken (old new : Option (List ℕ)) (lines : Lines) : Type 0 where
  pub taken : List ℕ
  pub consumed : Consumes old new taken
  pub of_taken : lines_of 0 taken ≡ lines
  pub of_all : IfSome new (λ rest. lines_of 0 (taken ++ rest) ≡ lines)
  pub at_end : lines.too_long ≡ false → IsAtEnd new

-- a reader that has answered no fault
pub without_fault : {A : Type 0} (fault : Option LineFault) → fault ≡ None → IfNone fault A → A
without_fault None e p = p
without_fault (Some x) e p = cc

-- a fault that it had not answered
pub caused : {A : Type 0} {f : LineFault} (fault : Option LineFault) → fault ≡ None → (fault ≡ Some f) ⊎ A → A
caused fault none (inl e) = cc
caused fault none (inr a) = a

none_known : (bytes : List ℕ) → None ≡ line_of bytes → bytes ≡ []
none_known [] e = refl
none_known (byte ∷ bytes) e = cc

some_known : (line bytes : List ℕ) → Some line ≡ line_of bytes → (0 < length bytes) × (line ≡ first_line bytes)
some_known line [] e = cc
some_known line (byte ∷ bytes) e = (omega arith, cc)

-- one more call of the reader, which leaves a source alone that had ended
module _ (old now new : Option (List ℕ)) (reader reader' : ReaderState) (lines : List (List ℕ)) (so_far : IsTaking old now reader lines)
    (kept : reader.ended ≡ true → new ≡ now) where
  module _ (result : Result (Option (Vec ℕ)) LineFault) (takes : TakesLine reader reader' now new result) where
    abbrev known : List ℕ
    known = reader.pending ++ takes.taken

    none_behind : reader.ended ≡ true → known ≡ []
    none_behind e = λ i. so_far.drained e i ++ takes.none_behind_end e i

    -- all that was taken
    consumed_known : Consumes old new (so_far.given ++ known)
    consumed_known =
        subst (Consumes old new) (append_assoc so_far.given reader.pending takes.taken)
        (Consumes-trans old now new _ _ so_far.consumed takes.consumed)

  module _ (answer : Option (Vec ℕ)) (takes : TakesLine reader reader' now new (Ok answer)) where
    ended_is : reader'.ended ≡ cond (has_newline (reader.pending ++ takes.taken)) reader.ended true
    ended_is = ap (λ (s : ReaderState). s.ended) takes.state

    -- behind a line with no newline is the end
    ended_without : has_newline (reader.pending ++ takes.taken) ≡ false → reader'.ended ≡ true
    ended_without e = ended_is ∙ ap (λ (b : Bool). cond b reader.ended true) e

    end_after : reader'.ended ≡ true → IsAtEnd new
    end_after h = by_cases reader.ended refl where
      by_cases : (b : Bool) → reader.ended ≡ b → IsAtEnd new
      by_cases true e = subst IsAtEnd (sym (kept e)) (so_far.at_end e)
      by_cases false e = takes.at_end e h

  -- one more line
  module _ (line : Vec ℕ) (takes : TakesLine reader reader' now new (Ok (Some line))) where
    abbrev bytes : List ℕ
    bytes = reader.pending ++ takes.taken

    is_first : (0 < length bytes) × (line.items ≡ first_line bytes)
    is_first = some_known line.items bytes takes.line

    pub going_on : reader.ended ≡ false
    going_on = by_cases reader.ended refl where
      by_cases : (b : Bool) → reader.ended ≡ b → reader.ended ≡ false
      by_cases true e =
          let none : length bytes ≡ 0 = ap length (none_behind (Ok (Some line)) takes e) in
          let some = is_first.0 in
          absurd (omega arith)
      by_cases false e = e

    pub passes : reader.passed < reader'.passed
    passes =
        let some = is_first.0 in
        let e : reader'.passed ≡ reader.passed + line_extent bytes = ap (λ (s : ReaderState). s.passed) takes.state in
        omega arith

    pub consumed_piece : Consumes old new (so_far.given ++ line_piece bytes ++ reader'.pending)
    consumed_piece =
        subst (Consumes old new)
        (ap (λ (l : List ℕ). so_far.given ++ l) (sym (line_piece-behind bytes))
        ∙ sym (append_assoc so_far.given (line_piece bytes) (behind_line bytes))
        ∙ ap (λ (s : ReaderState). so_far.given ++ line_piece bytes ++ s.pending) (sym takes.state))
        (consumed_known (Ok (Some line)) takes)

    -- only the last line has no newline
    newline_or_last : (b : Bool) → has_newline bytes ≡ b → (line_piece bytes ≡ first_line bytes ++ 10 ∷ []) ⊎ ((reader'.ended ≡ true) × (reader'.pending ≡ []))
    newline_or_last true e = inl (line_piece-newline bytes e)
    newline_or_last false e = inr (ended_without (Some line) takes e, ap (λ (s : ReaderState). s.pending) takes.state ∙ behind_all bytes (sym e))

    pub one_line : behind_line (line_piece bytes) ≡ []
    one_line = ap behind_line (sym (append-nil (line_piece bytes))) ∙ (begins bytes [] (λ _. refl)).behind

    pub last_line : has_newline (line_piece bytes) ≡ false → (reader'.pending ≡ []) × IsAtEnd new
    last_line none = elim (newline_or_last (has_newline bytes) refl) [
      | inl e ↦ absurd (false≢true (sym none ∙ ap has_newline e ∙ has_newline-part (first_line bytes) (10 ∷ []) (first_line_is_part bytes)))
      | inr e ↦ (e.1, end_after (Some line) takes e.0)
    ]

    pub taking_more : IsTaking old new reader' (lines ++ line.items ∷ [])
    taking_more = record {
      given = so_far.given ++ line_piece bytes;
      consumed = consumed_piece;
      of_more = λ more h.
          let rest : Lines = lines_of reader'.passed more in
          ap (lines_of 0) (append_assoc so_far.given (line_piece bytes) more)
          ∙ so_far.of_more (line_piece bytes ++ more) (λ e. absurd (false≢true (sym going_on ∙ e)))
          ∙ ap (lines_before lines) (lines_of_piece reader.passed bytes more is_first.0 takes.within (λ e. h (ended_without (Some line) takes e)))
          ∙ (λ i. lines_before lines record { lines = sym is_first.1 i ∷ (lines_of (sym takes.state i).passed more).lines; too_long = (lines_of (sym takes.state i).passed more).too_long })
          ∙ ap (λ (ls : List (List ℕ)). record { lines = ls; too_long = rest.too_long }) (sym (append_assoc lines (line.items ∷ []) rest.lines));
      whole = λ e. elim (newline_or_last (has_newline bytes) refl) [
        | inl p ↦ inr (so_far.given ++ first_line bytes, ap (λ (l : List ℕ). so_far.given ++ l) p ∙ sym (append_assoc so_far.given (first_line bytes) (10 ∷ [])))
        | inr p ↦ absurd (false≢true (sym e ∙ p.0))
      ];
      drained = λ e. drained_by (has_newline bytes) refl e;
      at_end = end_after (Some line) takes;
      no_fault = ap (λ (s : ReaderState). s.fault) takes.state ∙ so_far.no_fault;
      within = passed_within reader reader' now new (Some line) takes;
    } where
      drained_by : (b : Bool) → has_newline bytes ≡ b → reader'.ended ≡ true → reader'.pending ≡ []
      drained_by true e h = absurd (false≢true (sym going_on ∙ sym (ended_is (Some line) takes ∙ ap (λ (b : Bool). cond b reader.ended true) e) ∙ h))
      drained_by false e h = ap (λ (s : ReaderState). s.pending) takes.state ∙ behind_all bytes (sym e)

    -- the lines with that one
    pub lines_of_piece_given : lines_of 0 (so_far.given ++ line_piece bytes) ≡ record { lines = lines ++ line.items ∷ []; too_long = false }
    unfolding taking_more
    lines_of_piece_given = lines_of_given old new reader' (lines ++ line.items ∷ []) taking_more

  -- the end
  pub taking_ended : TakesLine reader reader' now new (Ok None) → AreTaken old new record { lines = lines; too_long = false }
  taking_ended takes = record {
    taken = so_far.given ++ known (Ok None) takes;
    consumed = consumed_known (Ok None) takes;
    of_taken = all;
    of_all = of_rest new (λ e. e);
    at_end = λ _. end_after None takes ended;
  } where
    nothing : known (Ok None) takes ≡ []
    nothing = none_known (known (Ok None) takes) takes.line

    ended : reader'.ended ≡ true
    ended = ended_is None takes ∙ ap (λ (l : List ℕ). cond (has_newline l) reader.ended true) nothing

    all : lines_of 0 (so_far.given ++ known (Ok None) takes) ≡ record { lines = lines; too_long = false }
    all = ap (λ (l : List ℕ). lines_of 0 (so_far.given ++ l)) nothing ∙ ap (lines_of 0) (append-nil so_far.given) ∙ lines_of_given old now reader lines so_far

    of_rest : (told : Option (List ℕ)) → (IsAtEnd new → IsAtEnd told)
        → IfSome told (λ rest. lines_of 0 (so_far.given ++ known (Ok None) takes ++ rest) ≡ record { lines = lines; too_long = false })
    of_rest None same = tt
    of_rest (Some rest) same =
        ap (λ (l : List ℕ). lines_of 0 (so_far.given ++ known (Ok None) takes ++ l)) (same (end_after None takes ended))
        ∙ ap (lines_of 0) (append-nil (so_far.given ++ known (Ok None) takes))
        ∙ all

  -- a line that is too long
  pub taking_too_long : TakesLine reader reader' now new (Err TooLong) → AreTaken old new record { lines = lines; too_long = true }
  taking_too_long takes = record {
    taken = so_far.given ++ known (Err TooLong) takes;
    consumed = consumed_known (Err TooLong) takes;
    of_taken = ap (lines_of 0) (sym (append-nil (so_far.given ++ known (Err TooLong) takes))) ∙ all [] (λ _. refl);
    of_all = of_rest new (λ e. e);
    at_end = λ e. absurd (true≢false e);
  } where
    all : (more : List ℕ) → (reader.ended ≡ true → more ≡ []) → lines_of 0 (so_far.given ++ known (Err TooLong) takes ++ more) ≡ record { lines = lines; too_long = true }
    all more h =
        ap (lines_of 0) (append_assoc so_far.given (known (Err TooLong) takes) more)
        ∙ so_far.of_more (known (Err TooLong) takes ++ more) (λ e. (λ i. none_behind (Err TooLong) takes e i ++ h e i))
        ∙ ap (λ (l : List ℕ). lines_before lines (lines_of reader.passed l)) (append_assoc reader.pending takes.taken more)
        ∙ ap (lines_before lines) (lines_of_too_long reader reader' now new more takes so_far.within)
        ∙ ap (λ (ls : List (List ℕ)). record { lines = ls; too_long = true }) (append-nil lines)

    of_rest : (told : Option (List ℕ)) → (IsAtEnd new → IsAtEnd told)
        → IfSome told (λ rest. lines_of 0 (so_far.given ++ known (Err TooLong) takes ++ rest) ≡ record { lines = lines; too_long = true })
    of_rest None same = tt
    of_rest (Some rest) same = all rest (λ e. same (subst IsAtEnd (sym (kept e)) (so_far.at_end e)))
