-- Answers, whose lines are written one after the other, and the status that they make.
use Rattle.std.proofs.Common.{◌≡◌, ℕ, ◌+◌, ◌<◌, ◌≤◌, List, [], ◌∷◌, ◌++◌, length, get_or, drop, map, Bool, true, false, ◌&&◌, Option, Result, Ok, Err, OnErr, refl, sym, ap, ◌∙◌, subst, append-nil}
use Rattle.std.specs.Prelude.{if◌then◌else◌}
use Rattle.std.specs.List.{flat_map, list_all}
use Rattle.std.proofs.lemmas.Grind.{flat_map-append}
use Rattle.std.proofs.lemmas.List.{at_drop_more, at_drop_all}
use Rattle.std.proofs.lemmas.List.Folds.{list_all-append}
use Rattle.diagram_terms.specs.declared.node.Node.{Node}
use Rattle.node_json.specs.declared.document.DiagramEntry.{DiagramEntry}
use Rattle.workspace_json.specs.declared.reply.Reply.{Reply}
use Rattle.workspace_json.specs.Replies.{text_of_reply}
use Rattle.io_edge.proofs.Parts.{IsUnderWay}
use Rattle.hom_run.specs.declared.status.Status.{Status}
use Rattle.hom_run.specs.declared.status.Status.TheVariants as status
use Rattle.hom_run.specs.Full.{Answer, answer_line, is_good_answer, is_yes, line, look_reply, replied}

abbrev pub answers_text : List Answer → List ℕ
answers_text answers = flat_map answer_line answers

-- what answers make of a status
abbrev pub answers_status : Status → List Answer → Status
answers_status s answers = if list_all is_good_answer answers then s else status.Refused

-- ---- some answers, and then more

module _ (left here more : List Answer) (split : left ≡ here ++ more) where
  pub next_lines : (old now : Option (List ℕ)) (text whole : List ℕ) → text ≡ answers_text here
      → IsUnderWay old now (answers_text left) whole → IsUnderWay old now (text ++ answers_text more) whole
  next_lines old now text whole is so_far =
      subst (λ (l : List ℕ). IsUnderWay old now l whole)
      (ap answers_text split ∙ flat_map-append answer_line here more ∙ ap (λ (l : List ℕ). l ++ answers_text more) (sym is)) so_far

  next_status : (s s' whole : Status) (b c : Bool) → (b ≡ true → s' ≡ s) → (b ≡ false → s' ≡ status.Refused)
      → (if b && c then s else status.Refused) ≡ whole → (if c then s' else status.Refused) ≡ whole
  next_status s s' whole true true stays turns h = stays refl ∙ h
  next_status s s' whole true false stays turns h = h
  next_status s s' whole false true stays turns h = turns refl ∙ h
  next_status s s' whole false false stays turns h = h

  pub more_status : (s s' whole : Status) (good : Bool) → good ≡ list_all is_good_answer here → (good ≡ true → s' ≡ s) → (good ≡ false → s' ≡ status.Refused)
      → answers_status s left ≡ whole → answers_status s' more ≡ whole
  more_status s s' whole good is stays turns h =
      let both : list_all is_good_answer left ≡ (good && list_all is_good_answer more) =
      ap (list_all is_good_answer) split ∙ list_all-append is_good_answer here more ∙ ap (λ (b : Bool). b && list_all is_good_answer more) (sym is) in
      next_status s s' whole good (list_all is_good_answer more) stays turns
      (ap (λ (b : Bool). if b then s else status.Refused) (sym both) ∙ h)

-- the line of one reply
pub reply_line : (text : List ℕ) (reply : Reply) → text ≡ text_of_reply reply → line text ≡ answers_text (replied reply ∷ [])
reply_line text reply e = ap line e ∙ sym (append-nil (line (text_of_reply reply)))

good_alone : (b : Bool) → b ≡ (b && true)
good_alone true = refl
good_alone false = refl

pub reply_good : (good : Bool) (reply : Reply) → good ≡ is_yes reply → good ≡ list_all is_good_answer (replied reply ∷ [])
reply_good good reply e = e ∙ good_alone (is_yes reply)

-- ---- the answers to the entries of a document

abbrev pub entry_answers : List Node → List DiagramEntry → List Answer
entry_answers nodes entries = map replied (map (look_reply nodes) entries)

pub next_entry : (nodes : List Node) (entries : List DiagramEntry) (i : ℕ) (entry : DiagramEntry) → i < length entries → entry ≡ get_or entries i entry
    → (reply : Reply) → reply ≡ look_reply nodes entry
    → entry_answers nodes (drop i entries) ≡ (replied reply ∷ []) ++ entry_answers nodes (drop (i + 1) entries)
next_entry nodes entries i entry within is reply e =
    at_drop_more (entry_answers nodes) entries i entry within
    ∙ ap (λ (r : Reply). replied r ∷ entry_answers nodes (drop (i + 1) entries)) (ap (look_reply nodes) (sym is) ∙ sym e)

-- ---- no answer is left

module _ {A : Type 0} (answers : List A → List Answer) (xs : List A) (i : ℕ) (past : length xs ≤ i) (none : answers [] ≡ []) where
  pub none_left : answers (drop i xs) ≡ []
  none_left = at_drop_all answers xs i past ∙ none

  pub last_status : (s whole : Status) → answers_status s (answers (drop i xs)) ≡ whole → s ≡ whole
  last_status s whole h = ap (answers_status s) (sym none_left) ∙ h

  pub all_written : (old now : Option (List ℕ)) (whole : List ℕ) → IsUnderWay old now (answers_text (answers (drop i xs))) whole → IsUnderWay old now [] whole
  all_written old now whole so_far = subst (λ (rest : List Answer). IsUnderWay old now (answers_text rest) whole) none_left so_far

-- what holds in any case holds where the answer is an error
pub on_err : {T E P : Type 0} (r : Result T E) → P → OnErr r P
on_err (Ok x) p = tt
on_err (Err e) p = p

-- a result has one error
pub same_error : {T E : Type 0} (r : Result T E) (x y : E) → r ≡ Err x → r ≡ Err y → x ≡ y
same_error r x y p q = cc
