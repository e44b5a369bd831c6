-- Lines that are answered as they are taken.
use Rattle.std.proofs.Common.{◌≡◌, ℕ, ◌<◌, List, [], ◌∷◌, ◌++◌, length, Bool, true, false, ◌&&◌, Option, None, Some, IfSome, Ok, refl, sym, ap, ◌∙◌, subst, append_assoc, append-nil}
use Rattle.std.specs.Prelude.{if◌then◌else◌}
use Rattle.std.specs.Global.{Vec}
use Rattle.std.specs.List.{list_all}
use Rattle.std.specs.Io.KnownBytes.{Appends, Consumes}
use Rattle.std.proofs.KnownBytes.{Appends-nil, Appends-trans, Consumes-trans}
use Rattle.std.proofs.lemmas.Grind.{flat_map-append}
use Rattle.std.proofs.lemmas.List.Folds.{list_all-append}
use Rattle.workspace_json.specs.Sessions.{Session, new_session}
use Rattle.io_edge.specs.declared.limits.TheConstants.{READ_LIMIT}
use Rattle.io_edge.specs.Lines.{Lines, ReaderState, TakesLine, TakesNoLine, lines_of}
use Rattle.io_edge.specs.Transfers.{AppendsLess, AppendsPrefix}
use Rattle.io_edge.proofs.LinePieces.{line_piece}
use Rattle.hom_run.specs.declared.status.Status.{Status}
use Rattle.hom_run.specs.declared.status.Status.TheVariants as status
use Rattle.hom_run.specs.Full.{Answer, Run, Writes, answer_line, answered, answers_from, is_good_answer, replay_of, replay_run}
use Rattle.hom_run.specs.Taken.{AnswersWholeLines, StopsAtLine}
use Rattle.hom_run.proofs.Lines.{answers_text}
use Rattle.hom_run.proofs.Replays.{answers_from-push, session_after, session_after-push, text_of_front}
use Rattle.hom_run.proofs.Takings.{IsTaking, consumed_piece, front, going_on, last_line, lines_of_given, lines_of_piece_given, one_line, taking_begun, taking_more}

-- The lines that the reader gave were answered, and nothing else was written.
pub record IsAnswering (left left' : Option (List ℕ)) (reader : ReaderState) (session : Session) (good : Bool) (written written' : Option (List ℕ)) : Type 0 where
  pub lines : List (List ℕ)
  pub taking : IsTaking left left' reader lines
  pub session_is : session ≡ session_after new_session lines
  pub good_is : good ≡ list_all is_good_answer (answers_from new_session lines)
  pub wrote : Appends written written' (answers_text (answers_from new_session lines))

pub answering_begun : (left written : Option (List ℕ)) (reader : ReaderState) (session : Session)
    → reader ≡ record { pending = []; passed = 0; ended = false; fault = None } → session ≡ new_session → IsAnswering left left reader session true written written
answering_begun left written reader session first new = record {
  lines = [];
  taking = subst (λ (r : ReaderState). IsTaking left left r []) (sym first) (taking_begun left);
  session_is = new;
  good_is = refl;
  wrote = Appends-nil written;
}

-- ---- prefixes of the text

-- a prefix of the text of the first lines is a prefix of the whole text
longer_text : (old new : Option (List ℕ)) (text more whole : List ℕ) → whole ≡ text ++ more → AppendsPrefix old new text → AppendsPrefix old new whole
longer_text old new text more whole e p = record {
  part = p.part;
  rest = p.rest ++ more;
  whole = sym (append_assoc p.part p.rest more) ∙ ap (λ (l : List ℕ). l ++ more) p.whole ∙ sym e;
  appended = p.appended;
}

pub writes_front : (left left' : Option (List ℕ)) (reader : ReaderState) (lines : List (List ℕ)) → IsTaking left left' reader lines
    → (written written' : Option (List ℕ)) → AppendsPrefix written written' (answers_text (answers_from new_session lines))
    → (bytes : List ℕ) × IfSome left (λ l. bytes ≡ l) × AppendsPrefix written written' (replay_run bytes).text
writes_front left left' reader lines taking written written' p =
    let input = front left left' reader lines taking in
    let rest : Lines = input.2.0 in (
      input.0,
      input.1,
      longer_text written written' (answers_text (answers_from new_session lines)) (answers_text (answers_from (session_after new_session lines) rest.lines)) (replay_run input.0).text
          (ap (λ (ls : Lines). (replay_of ls).text) input.2.1 ∙ text_of_front lines rest) p,
    )

-- the text of what was given
text_is : (bytes : List ℕ) (lines : List (List ℕ)) → lines_of 0 bytes ≡ record { lines = lines; too_long = false }
    → (replay_run bytes).text ≡ answers_text (answers_from new_session lines)
text_is bytes lines e = ap (λ (ls : Lines). (replay_of ls).text) e

-- ---- the end of a run

-- all lines were answered, with this status
pub ends_with : (good : Bool) (s : Status) (run : Run) (old new : Option (List ℕ)) → s ≡ (if good then status.Done else status.Refused) → s ≡ run.status
    → Appends old new run.text → Writes run s old new
ends_with true s run old new is same wrote = subst (λ (t : Status). Writes run t old new) (sym is) (sym is ∙ same, wrote)
ends_with false s run old new is same wrote = subst (λ (t : Status). Writes run t old new) (sym is) (sym is ∙ same, wrote)

module _ (left left' : Option (List ℕ)) (reader : ReaderState) (session : Session) (good : Bool) (written written' : Option (List ℕ))
    (so_far : IsAnswering left left' reader session good written written') where
  abbrev text : List ℕ
  text = answers_text (answers_from new_session so_far.lines)

  -- stopped before the next line
  pub writes_so_far : (bytes : List ℕ) × IfSome left (λ l. bytes ≡ l) × AppendsPrefix written written' (replay_run bytes).text
  writes_so_far =
      writes_front left left' reader so_far.lines so_far.taking written written'
      record { part = text; rest = []; whole = append-nil text; appended = so_far.wrote }

  -- stopped as the source failed
  pub answers_whole : (left'' : Option (List ℕ)) → reader.ended ≡ false → TakesNoLine reader left' left'' → AnswersWholeLines left left'' written written'
  answers_whole left'' not_ended takes =
      let given = so_far.taking.given in
      let lines_are = lines_of_given left left' reader so_far.lines so_far.taking in
      record {
        lines = given;
        begun = reader.pending ++ takes.taken;
        consumed =
            subst (Consumes left left'') (append_assoc given reader.pending takes.taken)
            (Consumes-trans left left' left'' (given ++ reader.pending) takes.taken so_far.taking.consumed takes.consumed);
        whole = so_far.taking.whole not_ended;
        no_newline = takes.no_newline;
        none_too_long = ap (λ (ls : Lines). ls.too_long) lines_are;
        wrote = subst (Appends written written') (sym (text_is given so_far.lines lines_are)) so_far.wrote;
      }

  -- one more line
  module _ (reader' : ReaderState) (left'' : Option (List ℕ)) (kept : reader.ended ≡ true → left'' ≡ left') (line : Vec ℕ) (takes : TakesLine reader reader' left' left'' (Ok (Some line))) where
    abbrev here : List Answer
    here = (answered session line.items).answers

    here_is : here ≡ (answered (session_after new_session so_far.lines) line.items).answers
    here_is = ap (λ (s : Session). (answered s line.items).answers) so_far.session_is

    answers_are : answers_from new_session (so_far.lines ++ line.items ∷ []) ≡ answers_from new_session so_far.lines ++ here
    answers_are =
        answers_from-push new_session so_far.lines line.items
        ∙ ap (λ (rest : List Answer). answers_from new_session so_far.lines ++ rest) (sym here_is)

    text_with : answers_text (answers_from new_session (so_far.lines ++ line.items ∷ [])) ≡ text ++ answers_text here
    text_with = ap answers_text answers_are ∙ flat_map-append answer_line (answers_from new_session so_far.lines) here

    next_taking : IsTaking left left'' reader' (so_far.lines ++ line.items ∷ [])
    next_taking = taking_more left left' left'' reader reader' so_far.lines so_far.taking kept line takes

    -- that was answered
    pub answering_more : (session' : Session) (is_good good' : Bool) (written'' : Option (List ℕ)) → session' ≡ (answered session line.items).session
        → is_good ≡ list_all is_good_answer here → (good && is_good) ≡ good' → Appends written' written'' (answers_text here)
        → IsAnswering left left'' reader' session' good' written written''
    answering_more session' is_good good' written'' session_is good_is both wrote = record {
      lines = so_far.lines ++ line.items ∷ [];
      taking = next_taking;
      session_is =
          session_is
          ∙ ap (λ (s : Session). (answered s line.items).session) so_far.session_is
          ∙ sym (session_after-push new_session so_far.lines line.items);
      good_is =
          sym both
          ∙ (λ i. so_far.good_is i && good_is i)
          ∙ sym (list_all-append is_good_answer (answers_from new_session so_far.lines) here)
          ∙ ap (list_all is_good_answer) (sym answers_are);
      wrote = subst (Appends written written'') (sym text_with) (Appends-trans written written' written'' text (answers_text here) so_far.wrote wrote);
    }

    -- whose answer was cut off
    cut_text : (written'' : Option (List ℕ)) → AppendsPrefix written' written'' (answers_text here)
        → AppendsPrefix written written'' (answers_text (answers_from new_session (so_far.lines ++ line.items ∷ [])))
    cut_text written'' cut = record {
      part = text ++ cut.part;
      rest = cut.rest;
      whole = append_assoc text cut.part cut.rest ∙ ap (λ (l : List ℕ). text ++ l) cut.whole ∙ sym text_with;
      appended = Appends-trans written written' written'' text cut.part so_far.wrote cut.appended;
    }

    pub writes_cut : (written'' : Option (List ℕ)) → AppendsPrefix written' written'' (answers_text here)
        → (bytes : List ℕ) × IfSome left (λ l. bytes ≡ l) × AppendsPrefix written written'' (replay_run bytes).text
    writes_cut written'' cut = writes_front left left'' reader' (so_far.lines ++ line.items ∷ []) next_taking written written'' (cut_text written'' cut)

    pub stops_at_line : (written'' : Option (List ℕ)) → length reader'.pending < READ_LIMIT → AppendsLess written' written'' (answers_text here)
        → StopsAtLine left left'' written written''
    stops_at_line written'' few less =
        let given = so_far.taking.given in
        let known = reader.pending ++ takes.taken in
        let cut = less.prefix in
        let given_text : (replay_run given).text ≡ text = text_is given so_far.lines (lines_of_given left left' reader so_far.lines so_far.taking) in
        let with_text : (replay_run (given ++ line_piece known)).text ≡ answers_text (answers_from new_session (so_far.lines ++ line.items ∷ [])) =
        text_is (given ++ line_piece known) (so_far.lines ++ line.items ∷ []) (lines_of_piece_given left left' left'' reader reader' so_far.lines so_far.taking kept line takes) in
        record {
          lines = given;
          line = line_piece known;
          behind = reader'.pending;
          consumed = consumed_piece left left' left'' reader reader' so_far.lines so_far.taking kept line takes;
          whole = so_far.taking.whole (going_on left left' left'' reader reader' so_far.lines so_far.taking kept line takes);
          one_line = one_line left left' left'' reader reader' so_far.lines so_far.taking kept line takes;
          last_line = last_line left left' left'' reader reader' so_far.lines so_far.taking kept line takes;
          few = few;
          part = cut.part;
          missing = cut.rest;
          wrote =
              subst (λ (l : List ℕ). Appends written written'' (l ++ cut.part)) (sym given_text)
              (Appends-trans written written' written'' text cut.part so_far.wrote cut.appended);
          answer =
              ap (λ (l : List ℕ). l ++ cut.part ++ cut.rest) given_text
              ∙ append_assoc text cut.part cut.rest
              ∙ ap (λ (l : List ℕ). text ++ l) cut.whole
              ∙ sym text_with
              ∙ sym with_text;
          not_whole = less.more;
        }
