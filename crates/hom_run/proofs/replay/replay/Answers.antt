use Rattle.std.proofs.Common.{◌≡◌, ◌≤◌, ◌<◌, ◌∙◌, ◌&&◌, Bool, List, ℕ, Option, true, ap, sym, subst, refl, arith, rules}
use Rattle.std.specs.List.{list_all}
use Rattle.std.specs.Io.KnownBytes.{Appends}
use Rattle.std.specs.Prelude.{if◌then◌else◌}
use Rattle.workspace_json.specs.Sessions.{Session}
use Rattle.io_edge.specs.declared.limits.TheConstants.{INPUT_LIMIT}
use Rattle.io_edge.specs.Transfers.{AppendsLess, AppendsPrefix}
use Rattle.io_edge.proofs.LinesTaken.{passed_within}
use Rattle.io_edge.proofs.Rises.{Rose-within}
use Rattle.hom_run.specs.declared.status.Status.TheVariants as status
use Rattle.hom_run.specs.Full.{answered, is_good_answer}
use Rattle.hom_run.proofs.Answerings.{answering_begun, answering_more, answers_whole, ends_with, stops_at_line, writes_cut, writes_so_far}
use Rattle.hom_run.proofs.Lines.{answers_text}
use Rattle.hom_run.proofs.Replays.{reads_replay, writes_replay}
use Rattle.hom_run.proofs.Takings.{caused, passes, taking_ended, taking_too_long, without_fault}
use Rattle.hom_run.proofs.replay.replay.Goals as goal
use Rattle.hom_run.proofs.replay.replay.Goals.{then-good, else-good}

pub lines-init : goal.lines-init
lines-init g c = record {
  answering = answering_begun _ _ _ _ c.new-reader.ensures (search rules);
  input_later = omega arith;
  output_later = omega arith;
}

-- ---- the end

pub returns-in-Ok-None-clause-writes : goal.returns-in-Ok-None-clause-writes
returns-in-Ok-None-clause-writes g c =
    let left = g.S.Source.left in
    let so_far = c.lines.invariant.answering in
    let kept : c.lines.reader.ended ≡ true → left c.next.new.source ≡ left c.lines.input = λ e. ap left (c.next.ensures.ended e) in
    let answer = rw c.in-Ok-None.field-0-is at c.in-Ok-None.ensures.takes in
    let takes = without_fault c.lines.reader.fault so_far.taking.no_fault answer in
    let status_is = c.status_after.ensures.status in
    writes_replay _ _ _ (taking_ended _ _ _ _ _ _ so_far.taking kept takes) _ _ _
    (ends_with c.lines.good _ _ _ _ status_is (status_is ∙ ap (λ (b : Bool). if b then status.Done else status.Refused) so_far.good_is) so_far.wrote)

pub returns-in-Ok-None-clause-reads : goal.returns-in-Ok-None-clause-reads
returns-in-Ok-None-clause-reads g c =
    let left = g.S.Source.left in
    let so_far = c.lines.invariant.answering in
    let kept : c.lines.reader.ended ≡ true → left c.next.new.source ≡ left c.lines.input = λ e. ap left (c.next.ensures.ended e) in
    let answer = rw c.in-Ok-None.field-0-is at c.in-Ok-None.ensures.takes in
    let takes = without_fault c.lines.reader.fault so_far.taking.no_fault answer in
    let status_is = c.status_after.ensures.status in
    reads_replay _ _ _ (taking_ended _ _ _ _ _ _ so_far.taking kept takes) _ _ _
    (ends_with c.lines.good _ _ _ _ status_is (status_is ∙ ap (λ (b : Bool). if b then status.Done else status.Refused) so_far.good_is) so_far.wrote)

pub returns-in-Err-TooLong-clause-writes : goal.returns-in-Err-TooLong-clause-writes
returns-in-Err-TooLong-clause-writes g c =
    let left = g.S.Source.left in
    let so_far = c.lines.invariant.answering in
    let kept : c.lines.reader.ended ≡ true → left c.next.new.source ≡ left c.lines.input = λ e. ap left (c.next.ensures.ended e) in
    let answer = rw c.in-Err-TooLong.field-0-is at c.in-Err-TooLong.ensures.takes in
    let takes = without_fault c.lines.reader.fault so_far.taking.no_fault answer in
    writes_replay _ _ _ (taking_too_long _ _ _ _ _ _ so_far.taking kept takes) status.TooLong _ _ (refl, so_far.wrote)

pub returns-in-Err-TooLong-clause-reads : goal.returns-in-Err-TooLong-clause-reads
returns-in-Err-TooLong-clause-reads g c =
    let left = g.S.Source.left in
    let so_far = c.lines.invariant.answering in
    let kept : c.lines.reader.ended ≡ true → left c.next.new.source ≡ left c.lines.input = λ e. ap left (c.next.ensures.ended e) in
    let answer = rw c.in-Err-TooLong.field-0-is at c.in-Err-TooLong.ensures.takes in
    let takes = without_fault c.lines.reader.fault so_far.taking.no_fault answer in
    reads_replay _ _ _ (taking_too_long _ _ _ _ _ _ so_far.taking kept takes) status.TooLong _ _ (refl, so_far.wrote)

-- ---- the source failed

pub returns-in-Err-ReadFault-clause-writes : goal.returns-in-Err-ReadFault-clause-writes
returns-in-Err-ReadFault-clause-writes g c = writes_so_far _ _ _ _ _ _ _ c.lines.invariant.answering

pub returns-in-Err-ReadFault-clause-after_read_fault : goal.returns-in-Err-ReadFault-clause-after_read_fault
returns-in-Err-ReadFault-clause-after_read_fault g c _ =
    let so_far = c.lines.invariant.answering in
    let none = so_far.taking.no_fault in
    let cause = rw c.in-Err-ReadFault.field-0-is at c.in-Err-ReadFault.ensures.cause in
    let no_line = rw c.in-Err-ReadFault.field-0-is at c.in-Err-ReadFault.ensures.no_line in
    answers_whole _ _ _ _ _ _ _ so_far _ (caused _ none (cause refl)).0 (without_fault _ none no_line refl)

pub returns-in-Err-ReadFault-clause-read_fault : goal.returns-in-Err-ReadFault-clause-read_fault
returns-in-Err-ReadFault-clause-read_fault g c _ =
    let cause = rw c.in-Err-ReadFault.field-0-is at c.in-Err-ReadFault.ensures.cause in
    Rose-within _ _ _ _ c.lines.invariant.input_later c.next.ensures.later (caused _ c.lines.invariant.answering.taking.no_fault (cause refl)).1 (omega arith)

pub returns-in-Err-NoMemory-clause-writes : goal.returns-in-Err-NoMemory-clause-writes
returns-in-Err-NoMemory-clause-writes g c = writes_so_far _ _ _ _ _ _ _ c.lines.invariant.answering

-- ---- an answer was cut off

-- what a call wrote of the answers to the bytes of a line
abbrev cut_of : (Option (List ℕ) → Option (List ℕ) → List ℕ → Type 0) → Option (List ℕ) → Option (List ℕ) → Session → List ℕ → Type 0
cut_of R old new s bytes = R old new (answers_text (answered s bytes).answers)

pub returns-in-Err-WriteFault-clause-writes : goal.returns-in-Err-WriteFault-clause-writes
returns-in-Err-WriteFault-clause-writes g c =
    let left = g.S.Source.left in
    let so_far = c.lines.invariant.answering in
    let kept : c.lines.reader.ended ≡ true → left c.next.new.source ≡ left c.lines.input = λ e. ap left (c.next.ensures.ended e) in
    let answer = rw c.in-Ok-Some.field-0-is at c.in-Ok-Some.ensures.takes in
    let takes = without_fault c.lines.reader.fault so_far.taking.no_fault answer in
    writes_cut _ _ _ _ _ _ _ so_far c.next.new.self _ kept c.in-Ok-Some.line takes _
    (subst (cut_of AppendsPrefix _ _ c.lines.session.session) c.deref.ensures.value c.in-Err-WriteFault.ensures.err)

pub returns-in-Err-WriteFault-clause-after_write_fault : goal.returns-in-Err-WriteFault-clause-after_write_fault
returns-in-Err-WriteFault-clause-after_write_fault g c _ =
    let left = g.S.Source.left in
    let so_far = c.lines.invariant.answering in
    let kept : c.lines.reader.ended ≡ true → left c.next.new.source ≡ left c.lines.input = λ e. ap left (c.next.ensures.ended e) in
    let answer = rw c.in-Ok-Some.field-0-is at c.in-Ok-Some.ensures.takes in
    let takes = without_fault c.lines.reader.fault so_far.taking.no_fault answer in
    let less = rw c.in-Err-WriteFault.field-0-is at c.in-Err-WriteFault.ensures.less in
    stops_at_line _ _ _ _ _ _ _ so_far c.next.new.self _ kept c.in-Ok-Some.line takes _ c.in-Ok-Some.ensures.few
    (subst (cut_of AppendsLess _ _ c.lines.session.session) c.deref.ensures.value (less refl))

pub returns-in-Err-WriteFault-clause-write_fault : goal.returns-in-Err-WriteFault-clause-write_fault
returns-in-Err-WriteFault-clause-write_fault g c _ =
    let cause = rw c.in-Err-WriteFault.field-0-is at c.in-Err-WriteFault.ensures.cause in
    Rose-within _ _ _ _ c.lines.invariant.output_later c.write_answer.ensures.later (cause refl) (omega arith)

pub returns-in-Err-NoMemory-write_answer-clause-writes : goal.returns-in-Err-NoMemory-write_answer-clause-writes
returns-in-Err-NoMemory-write_answer-clause-writes g c =
    let left = g.S.Source.left in
    let so_far = c.lines.invariant.answering in
    let kept : c.lines.reader.ended ≡ true → left c.next.new.source ≡ left c.lines.input = λ e. ap left (c.next.ensures.ended e) in
    let answer = rw c.in-Ok-Some.field-0-is at c.in-Ok-Some.ensures.takes in
    let takes = without_fault c.lines.reader.fault so_far.taking.no_fault answer in
    writes_cut _ _ _ _ _ _ _ so_far c.next.new.self _ kept c.in-Ok-Some.line takes _
    (subst (cut_of AppendsPrefix _ _ c.lines.session.session) c.deref.ensures.value c.in-Err-NoMemory-write_answer.ensures.err)

-- ---- one more line

pub lines-preserved : goal.lines-preserved
lines-preserved g c =
    let left = g.S.Source.left in
    let so_far = c.lines.invariant.answering in
    let kept : c.lines.reader.ended ≡ true → left c.next.new.source ≡ left c.lines.input = λ e. ap left (c.next.ensures.ended e) in
    let answer = rw c.in-Ok-Some.field-0-is at c.in-Ok-Some.ensures.takes in
    let takes = without_fault c.lines.reader.fault so_far.taking.no_fault answer in
    let s = c.lines.session.session in
    let good = c.lines.good in
    let is_good = c.in-Ok.is_good in
    let wrote = c.in-Ok.ensures in
    let bytes_are = c.deref.ensures.value in
    let both : (good && is_good) ≡ c.if-good.good =
    elim c.if-good.branch [
      | then-good w ↦ ap (λ (b : Bool). b && is_good) w.if-good.true ∙ sym w.good-is
      | else-good w ↦ ap (λ (b : Bool). b && is_good) w.if-good.false ∙ sym w.if-good.false ∙ sym w.good-is
    ] in
    record {
      answering =
          answering_more _ _ _ _ _ _ _ so_far c.next.new.self _ kept c.in-Ok-Some.line takes c.write_answer.new.session.session is_good _ _
          (wrote.session ∙ ap (λ (l : List ℕ). (answered s l).session) bytes_are)
          (wrote.good ∙ ap (λ (l : List ℕ). list_all is_good_answer (answered s l).answers) bytes_are)
          both
          (subst (cut_of Appends _ _ s) bytes_are wrote.wrote);
      input_later = omega (arith, c.next.ensures.later);
      output_later = omega (arith, c.write_answer.ensures.later);
    }

pub lines-smaller : goal.lines-smaller
lines-smaller g c =
    let left = g.S.Source.left in
    let so_far = c.lines.invariant.answering in
    let kept : c.lines.reader.ended ≡ true → left c.next.new.source ≡ left c.lines.input = λ e. ap left (c.next.ensures.ended e) in
    let answer = rw c.in-Ok-Some.field-0-is at c.in-Ok-Some.ensures.takes in
    let takes = without_fault c.lines.reader.fault so_far.taking.no_fault answer in
    let more : c.lines.reader.passed < c.next.new.self.passed = passes _ _ _ _ _ _ so_far.taking kept c.in-Ok-Some.line takes in
    let within : c.next.new.self.passed ≤ INPUT_LIMIT = passed_within _ _ _ _ _ takes in
    omega arith
