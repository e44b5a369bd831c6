-- A reader of lines on its way to the end of a line.
use Rattle.std.proofs.Common.{◌≡◌, ℕ, ◌+◌, ◌<◌, ◌≤◌, List, [], ◌++◌, length, Bool, true, false, cond, not, ltb, ◌||◌, ◌⊎◌, inl, inr, Option, None, Some, option_map, Ok, Err, IfSome, IfNone, slice_range, refl, sym, ap, ◌∙◌, subst, arith, append_assoc, append-nil, length-append}
use Rattle.std.specs.Global.{Vec}
use Rattle.std.specs.Io.KnownBytes.{Consumes, IsAtEnd}
use Rattle.std.proofs.KnownBytes.{Consumes-nil, Consumes-trans}
use Rattle.std.proofs.lemmas.Bool.{false≢true}
use Rattle.std.proofs.lemmas.Bool.Decides.{nat_tests}
use Rattle.std.proofs.lemmas.List.{nil_from_length}
use Rattle.io_edge.specs.declared.lines.LineFault.{LineFault}
use Rattle.io_edge.specs.declared.lines.LineFault.TheVariants.{TooLong}
use Rattle.io_edge.specs.declared.limits.TheConstants.{INPUT_LIMIT, LINE_LIMIT}
use Rattle.io_edge.specs.Lines.{ReaderState, TakesLine, TakesNoLine, behind_first, holds_line, line_of, line_end, has_newline, first_line, behind_line, line_extent, is_too_long}
use Rattle.io_edge.proofs.LineEnds.{IsPart, behind_piece, first_line_is_all, behind_all, extent_is_all, end_is_length, has_newline-part_alone, line_end-part, has_newline-part, first_line-part, behind_line-part, line_extent-part, line_of-some, not_too_long, surely_too_long, has_newline-more, is_too_long-more}

-- the reader behind the first line of its pending bytes
abbrev pub moved : ReaderState → ReaderState
moved reader = record reader {
  pending = behind_line reader.pending;
  passed = reader.passed + line_extent reader.pending;
}

-- a reader that stands behind the first line of its piece
pub piece_moved : (now : ReaderState) (buffer : List ℕ) (at filled passed extent : ℕ) (ended : Bool) (fault : Option LineFault)
    → at ≤ filled → filled ≤ length buffer → extent ≡ line_extent (slice_range buffer at filled)
    → record { pending = slice_range buffer at filled; passed = passed; ended = ended; fault = fault } ≡ now
    → record { pending = slice_range buffer (at + extent) filled; passed = passed + extent; ended = ended; fault = fault } ≡ moved now
piece_moved now buffer at filled passed extent ended fault ordered within e view_is =
    let rest : slice_range buffer (at + extent) filled ≡ behind_line (slice_range buffer at filled) =
    ap (λ (n : ℕ). slice_range buffer (at + n) filled) e ∙ behind_piece buffer at filled ordered within in
    (λ i. record { pending = rest i; passed = passed + e i; ended = ended; fault = fault }) ∙ ap moved view_is

-- ---- in the midst of a line

-- What was taken goes on with the pending bytes of a line in which no newline stands so far.
pub record IsMidLine (old now : ReaderState) (left left' : Option (List ℕ)) (line : List ℕ) : Type 0 where
  pub taken : List ℕ
  pub consumed : Consumes left left' taken
  pub none_behind_end : old.ended ≡ true → taken ≡ []
  pub whole : old.pending ++ taken ≡ line ++ now.pending
  pub part : IsPart line
  pub passed : now.passed ≡ old.passed + length line
  pub ended : now.ended ≡ old.ended
  pub fault : now.fault ≡ old.fault

pub line_begun : (old : ReaderState) (left : Option (List ℕ)) → IsMidLine old old left left []
line_begun old left = record {
  taken = [];
  consumed = Consumes-nil left;
  none_behind_end = λ _. refl;
  whole = append-nil old.pending;
  part = record { no_newline = refl };
  passed = omega arith;
  ended = refl;
  fault = refl;
}

-- The pending bytes have no newline, and went to the line.
pub record JoinsPiece (now behind : ReaderState) (line line' : List ℕ) : Type 0 where
  pub no_newline : false ≡ has_newline now.pending
  pub state : behind ≡ moved now
  pub grown : line' ≡ line ++ first_line now.pending

pub joins_piece : (now behind : ReaderState) (line line' : List ℕ) (newline : Bool) → newline ≡ false → newline ≡ has_newline now.pending
    → behind ≡ moved now → line' ≡ line ++ first_line now.pending → JoinsPiece now behind line line'
joins_piece now behind line line' newline none is state grown = record { no_newline = sym none ∙ is; state = state; grown = grown }

module _ (now behind : ReaderState) (line line' : List ℕ) (joins : JoinsPiece now behind line line') where
  joined : line' ≡ line ++ now.pending
  joined = joins.grown ∙ ap (λ (l : List ℕ). line ++ l) (first_line_is_all now.pending joins.no_newline)

  pub length-joined : length line' ≡ length line + length now.pending
  length-joined = ap length joined ∙ length-append line now.pending

  pub none_pending : behind.pending ≡ []
  none_pending = ap (λ (s : ReaderState). s.pending) joins.state ∙ behind_all now.pending joins.no_newline

  pub passed-behind : behind.passed ≡ now.passed + length now.pending
  passed-behind =
      ap (λ (s : ReaderState). s.passed) joins.state
      ∙ ap (λ (n : ℕ). now.passed + n) (extent_is_all now.pending joins.no_newline)

  pub piece_joined : (old : ReaderState) (left left' : Option (List ℕ)) → IsMidLine old now left left' line → IsMidLine old behind left left' line'
  piece_joined old left left' mid = record {
    taken = mid.taken;
    consumed = mid.consumed;
    none_behind_end = mid.none_behind_end;
    whole =
        mid.whole
        ∙ sym joined
        ∙ sym (append-nil line')
        ∙ ap (λ (l : List ℕ). line' ++ l) (sym none_pending);
    part = record {
      no_newline =
          ap line_end joined
          ∙ line_end-part line now.pending mid.part
          ∙ ap (λ (n : ℕ). length line + n) (end_is_length now.pending joins.no_newline)
          ∙ sym length-joined;
    };
    passed = omega (arith, mid.passed, passed-behind, length-joined);
    ended = ap (λ (s : ReaderState). s.ended) joins.state ∙ mid.ended;
    fault = ap (λ (s : ReaderState). s.fault) joins.state ∙ mid.fault;
  }

-- A reader with nothing pending asked the source for more, and got some or came to the end.
pub record GetsMore (now new : ReaderState) (left left' : Option (List ℕ)) (more : Bool) : Type 0 where
  pub none_pending : now.pending ≡ []
  pub some : more ≡ ltb 0 (length new.pending)
  pub state : new ≡ record now { pending = new.pending; ended = not more }
  pub consumed : Consumes left left' new.pending
  pub ended : now.ended ≡ true → new ≡ now

-- a reader that got some had not ended
not_ended : (now new : ReaderState) (left left' : Option (List ℕ)) → GetsMore now new left left' true → now.ended ≡ false
not_ended now new left left' gets = by_cases now.ended refl
  where
    by_cases : (b : Bool) → now.ended ≡ b → now.ended ≡ false
    by_cases true e =
        let same : length new.pending ≡ 0 = ap (λ (s : ReaderState). length s.pending) (gets.ended e) ∙ ap length gets.none_pending in
        let some = gets.some in
        absurd (grind (arith, nat_tests))
    by_cases false e = e

-- what is left of a line with no newline at the end is the answer
last_answer : (line : List ℕ) (answer : Option (Vec ℕ)) → IsPart line → IfSome answer (λ last. (last.items ≡ line) × (0 < length line)) → IfNone answer (line ≡ [])
    → option_map (λ l. l.items) answer ≡ line_of line
last_answer line None part some none = sym (ap line_of none)
last_answer line (Some last) part some none =
    ap Some (some.0 ∙ sym (first_line_is_all line (has_newline-part_alone line part))) ∙ sym (line_of-some line some.1)

-- a reader that has no more than a part of a line took no newline
module _ (old now : ReaderState) (left left' : Option (List ℕ)) (line : List ℕ) (none : now.pending ≡ []) (mid : IsMidLine old now left left' line) where
  taken_is : old.pending ++ mid.taken ≡ line
  taken_is = mid.whole ∙ ap (λ (l : List ℕ). line ++ l) none ∙ append-nil line

  fits : length line ≤ LINE_LIMIT → now.passed ≤ INPUT_LIMIT → is_too_long old.passed (old.pending ++ mid.taken) ≡ false
  fits short within =
      let extent : line_extent line ≡ length line = extent_is_all line (has_newline-part_alone line mid.part) in
      ap (is_too_long old.passed) taken_is ∙ not_too_long old.passed line (omega (arith, mid.part.no_newline)) (omega (arith, mid.passed, extent))

  pub no_newline_taken : length line ≤ LINE_LIMIT → now.passed ≤ INPUT_LIMIT → TakesNoLine old left left'
  no_newline_taken short within = record {
    taken = mid.taken;
    consumed = mid.consumed;
    no_newline = ap has_newline taken_is ∙ sym (has_newline-part_alone line mid.part);
    not_too_long = fits short within;
  }

  -- nor where it asked the source for more and got none
  pub none_taken : (new : ReaderState) (left'' : Option (List ℕ)) → new ≡ now → Consumes left' left'' new.pending → IsMidLine old new left left'' line
  none_taken new left'' same consumed =
      let nothing : new.pending ≡ [] = ap (λ (s : ReaderState). s.pending) same ∙ none in
      record {
        taken = mid.taken;
        consumed =
            subst (Consumes left left'') (ap (λ (l : List ℕ). mid.taken ++ l) nothing ∙ append-nil mid.taken)
            (Consumes-trans left left' left'' mid.taken new.pending mid.consumed consumed);
        none_behind_end = mid.none_behind_end;
        whole = taken_is ∙ sym (ap (λ (l : List ℕ). line ++ l) nothing ∙ append-nil line);
        part = mid.part;
        passed = ap (λ (s : ReaderState). s.passed) same ∙ mid.passed;
        ended = ap (λ (s : ReaderState). s.ended) same ∙ mid.ended;
        fault = ap (λ (s : ReaderState). s.fault) same ∙ mid.fault;
      }

  -- and so what was pending held no line before
  pub no_line_before : length line ≤ LINE_LIMIT → now.passed ≤ INPUT_LIMIT → holds_line old ≡ true → ⊥
  no_line_before short within holds =
      let known = old.pending in
      let lone : has_newline (known ++ mid.taken) ≡ false = ap has_newline taken_is ∙ sym (has_newline-part_alone line mid.part) in
      no_line (has_newline known) (is_too_long old.passed known)
      (λ e. false≢true (sym lone ∙ has_newline-more known mid.taken e))
      (λ e. false≢true (sym (fits short within) ∙ is_too_long-more old.passed known mid.taken e))
      holds
    where
      no_line : (newline long : Bool) → (newline ≡ true → ⊥) → (long ≡ true → ⊥) → (newline || long) ≡ true → ⊥
      no_line true long a b e = a refl
      no_line false true a b e = b refl
      no_line false false a b e = cc

-- a line that went on with a piece without a newline
pub no_line_joined : (old now behind : ReaderState) (left left' : Option (List ℕ)) (line line' : List ℕ) → JoinsPiece now behind line line'
    → length line + line_end now.pending ≤ LINE_LIMIT → now.passed + line_extent now.pending ≤ INPUT_LIMIT
    → IsMidLine old now left left' line → holds_line old ≡ true → ⊥
no_line_joined old now behind left left' line line' joins short within mid =
    no_line_before old behind left left' line' (none_pending now behind line line' joins) (piece_joined now behind line line' joins old left left' mid)
    (omega (arith, length-joined now behind line line' joins, short, end_is_length now.pending joins.no_newline))
    (omega (arith, passed-behind now behind line line' joins, within, extent_is_all now.pending joins.no_newline))

module _ (old now new : ReaderState) (left left' left'' : Option (List ℕ)) (line : List ℕ) where
  -- the source gave some more
  pub piece_taken : GetsMore now new left' left'' true → IsMidLine old now left left' line → IsMidLine old new left left'' line
  piece_taken gets mid =
      let going_on : now.ended ≡ false = not_ended now new left' left'' gets in
      record {
        taken = mid.taken ++ new.pending;
        consumed = Consumes-trans left left' left'' mid.taken new.pending mid.consumed gets.consumed;
        none_behind_end = λ e. absurd (false≢true (sym going_on ∙ mid.ended ∙ e));
        whole =
            sym (append_assoc old.pending mid.taken new.pending)
            ∙ ap (λ (l : List ℕ). l ++ new.pending) (mid.whole ∙ ap (λ (l : List ℕ). line ++ l) gets.none_pending ∙ append-nil line);
        part = mid.part;
        passed = ap (λ (s : ReaderState). s.passed) gets.state ∙ mid.passed;
        ended = ap (λ (s : ReaderState). s.ended) gets.state ∙ sym going_on ∙ mid.ended;
        fault = ap (λ (s : ReaderState). s.fault) gets.state ∙ mid.fault;
      }

  -- the line goes up to the end
  pub takes_last : (answer : Option (Vec ℕ)) → GetsMore now new left' left'' false → (now.ended ≡ false → IsAtEnd left'')
      → length line ≤ LINE_LIMIT → now.passed ≤ INPUT_LIMIT
      → IfSome answer (λ last. (last.items ≡ line) × (0 < length line)) → IfNone answer (line ≡ [])
      → IsMidLine old now left left' line → TakesLine old new left left'' (Ok answer)
  takes_last answer gets end short within some nothing_left mid =
      let whole : line ≡ old.pending ++ mid.taken =
      sym (mid.whole ∙ ap (λ (l : List ℕ). line ++ l) gets.none_pending ∙ append-nil line) in
      let lone : false ≡ has_newline line = has_newline-part_alone line mid.part in
      let no_more = gets.some in
      let nothing : new.pending ≡ [] = nil_from_length new.pending (grind (arith, nat_tests)) in
      let extent : line_extent line ≡ length line = extent_is_all line lone in
      let behind : new.pending ≡ behind_line line = nothing ∙ sym (behind_all line lone) in
      let passes : new.passed ≡ old.passed + line_extent line =
      ap (λ (s : ReaderState). s.passed) gets.state ∙ omega (arith, mid.passed, extent) in
      let stops : new.ended ≡ (cond (has_newline line) old.ended true) =
      ap (λ (s : ReaderState). s.ended) gets.state ∙ ap (λ (b : Bool). cond b old.ended true) lone in
      let same_fault : new.fault ≡ old.fault = ap (λ (s : ReaderState). s.fault) gets.state ∙ mid.fault in
      let state : new ≡ behind_first old line =
      λ i. record { pending = behind i; passed = passes i; ended = stops i; fault = same_fault i } in
      let consumed : Consumes left left'' (mid.taken ++ new.pending) =
      Consumes-trans left left' left'' mid.taken new.pending mid.consumed gets.consumed in
      record {
        taken = mid.taken;
        consumed =
            subst (Consumes left left'') (ap (λ (l : List ℕ). mid.taken ++ l) nothing ∙ append-nil mid.taken) consumed;
        none_behind_end = mid.none_behind_end;
        line = last_answer line answer mid.part some nothing_left ∙ ap line_of whole;
        state = subst (λ (l : List ℕ). new ≡ behind_first old l) whole state;
        at_end = λ going_on _. end (mid.ended ∙ going_on);
        within = subst (λ (l : List ℕ). is_too_long old.passed l ≡ false) whole
            (not_too_long old.passed line (omega (arith, mid.part.no_newline)) (omega (arith, mid.passed, extent)));
        too_long = λ e. cc;
      }

-- ---- the answers

-- the line goes up to a newline
pub takes_line : (old now new : ReaderState) (left left' : Option (List ℕ)) (line : List ℕ) (answer : Vec ℕ)
    → true ≡ has_newline now.pending → new ≡ moved now → answer.items ≡ line ++ first_line now.pending
    → length line + line_end now.pending ≤ LINE_LIMIT → now.passed + line_extent now.pending ≤ INPUT_LIMIT
    → IsMidLine old now left left' line → TakesLine old new left left' (Ok (Some answer))
takes_line old now new left left' line answer some new_is answer_is short within mid =
    let piece = now.pending in
    let known = line ++ piece in
    let whole : known ≡ old.pending ++ mid.taken = sym mid.whole in
    let has : has_newline known ≡ true = has_newline-part line piece mid.part ∙ sym some in
    let filled : 0 < length known = let l = length-append line piece in grind (arith, nat_tests) in
    let ends : line_end known ≡ length line + line_end piece = line_end-part line piece mid.part in
    let extent : line_extent known ≡ length line + line_extent piece = line_extent-part line piece mid.part in
    let passes : new.passed ≡ old.passed + line_extent known =
    ap (λ (s : ReaderState). s.passed) new_is ∙ omega (arith, mid.passed, extent) in
    let stays : new.ended ≡ (cond (has_newline known) old.ended true) =
    ap (λ (s : ReaderState). s.ended) new_is ∙ mid.ended ∙ ap (λ (b : Bool). cond b old.ended true) (sym has) in
    let behind : new.pending ≡ behind_line known =
    ap (λ (s : ReaderState). s.pending) new_is ∙ sym (behind_line-part line piece mid.part) in
    let same_fault : new.fault ≡ old.fault = ap (λ (s : ReaderState). s.fault) new_is ∙ mid.fault in
    let state : new ≡ behind_first old known =
    λ i. record { pending = behind i; passed = passes i; ended = stays i; fault = same_fault i } in
    record {
      taken = mid.taken;
      consumed = mid.consumed;
      none_behind_end = mid.none_behind_end;
      line =
          ap Some (answer_is ∙ sym (first_line-part line piece mid.part))
          ∙ sym (line_of-some known filled)
          ∙ ap line_of whole;
      state = subst (λ (l : List ℕ). new ≡ behind_first old l) whole state;
      at_end = λ going_on stopped. absurd (false≢true (sym going_on ∙ sym mid.ended ∙ sym (ap (λ (s : ReaderState). s.ended) new_is) ∙ stopped));
      within = subst (λ (l : List ℕ). is_too_long old.passed l ≡ false) whole
          (not_too_long old.passed known (omega arith) (omega (arith, mid.passed)));
      too_long = λ e. cc;
    }

-- the reader gives up
pub gives_up : (old now new : ReaderState) (left left' : Option (List ℕ)) (line : List ℕ) (fault : LineFault)
    → (fault ≡ TooLong → (LINE_LIMIT < length line + line_end now.pending) ⊎ (INPUT_LIMIT < now.passed + line_extent now.pending))
    → IsMidLine old now left left' line → TakesLine old new left left' (Err fault)
gives_up old now new left left' line fault too_long mid =
    let ends : line_end (line ++ now.pending) ≡ length line + line_end now.pending = line_end-part line now.pending mid.part in
    let extent : line_extent (line ++ now.pending) ≡ length line + line_extent now.pending = line_extent-part line now.pending mid.part in
    let passed = mid.passed in
    let goes_on : (LINE_LIMIT < length line + line_end now.pending) ⊎ (INPUT_LIMIT < now.passed + line_extent now.pending)
    → (LINE_LIMIT < line_end (line ++ now.pending)) ⊎ (INPUT_LIMIT < old.passed + line_extent (line ++ now.pending)) =
    λ either. elim either [ inl l ↦ inl (omega arith) | inr l ↦ inr (omega arith) ] in
    record {
      taken = mid.taken;
      consumed = mid.consumed;
      none_behind_end = mid.none_behind_end;
      line = tt;
      state = tt;
      at_end = tt;
      within = tt;
      too_long = λ e. subst (λ (l : List ℕ). is_too_long old.passed l ≡ true) (sym mid.whole)
          (surely_too_long old.passed (line ++ now.pending) (goes_on (too_long (cc e))));
    }
