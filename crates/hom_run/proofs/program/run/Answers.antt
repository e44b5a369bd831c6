use Rattle.std.proofs.Common.{[], ◌≡◌, ◌∙◌, Some, ap}
use Rattle.std.specs.Prelude.{map, option_and_then, string_bytes}
use Rattle.io_edge.proofs.Inputs.{input_from, input_from_is}
use Rattle.hom_run.specs.declared.words.Asked.TheVariants as asked
use Rattle.hom_run.specs.Full.{mode_of, replays}
use Rattle.hom_run.specs.Modes.{mode_in, question_in}
use Rattle.hom_run.proofs.Runs.{after_read_mode, after_write_mode, nothing_claimed, nothing_written, writes_mode, writes_usage}
use Rattle.hom_run.proofs.program.run.Goals as goal

pub returns-in-Some-Document-clause-writes : goal.returns-in-Some-Document-clause-writes
returns-in-Some-Document-clause-writes g c =
    let mode : mode_of (map string_bytes c.args.words.now) ≡ mode_in (asked.Document c.in-Some-Document.query) =
    rw c.in-Some-Document.field-0-is at c.in-Some-Document.ensures.mode in
    let wrote = c.ask.ensures.writes in
    (wrote.0, wrote.1, writes_mode _ _ mode wrote.0 _ _ _ wrote.2)

pub returns-in-Some-Document-clause-after_read_fault : goal.returns-in-Some-Document-clause-after_read_fault
returns-in-Some-Document-clause-after_read_fault g c e =
    let mode : mode_of (map string_bytes c.args.words.now) ≡ mode_in (asked.Document c.in-Some-Document.query) =
    rw c.in-Some-Document.field-0-is at c.in-Some-Document.ensures.mode in
    after_read_mode (map string_bytes c.args.words.now) _ mode (g.S.Source.left c.args.input.now) (g.S.Source.left c.ask.new.input) (g.K.Sink.written c.args.output.now) (g.K.Sink.written c.ask.new.output)
    (nothing_written (g.S.Source.left c.args.input.now) (g.S.Source.left c.ask.new.input) (g.K.Sink.written c.args.output.now) (g.K.Sink.written c.ask.new.output) (question_in c.in-Some-Document.query) (c.ask.ensures.nothing e))

pub returns-in-Some-Document-clause-after_write_fault : goal.returns-in-Some-Document-clause-after_write_fault
returns-in-Some-Document-clause-after_write_fault g c e =
    let mode : mode_of (map string_bytes c.args.words.now) ≡ mode_in (asked.Document c.in-Some-Document.query) =
    rw c.in-Some-Document.field-0-is at c.in-Some-Document.ensures.mode in
    after_write_mode (map string_bytes c.args.words.now) _ mode (g.S.Source.left c.args.input.now) (g.S.Source.left c.ask.new.input) (g.K.Sink.written c.args.output.now) (g.K.Sink.written c.ask.new.output)
    (nothing_claimed (g.S.Source.left c.args.input.now) (g.S.Source.left c.ask.new.input) (g.K.Sink.written c.args.output.now) (g.K.Sink.written c.ask.new.output) (question_in c.in-Some-Document.query))

pub returns-in-Some-Replay-clause-after_read_fault : goal.returns-in-Some-Replay-clause-after_read_fault
returns-in-Some-Replay-clause-after_read_fault g c e =
    let mode : mode_of (map string_bytes c.args.words.now) ≡ Some replays = rw c.in-Some-Replay.field-0-is at c.in-Some-Replay.ensures.mode in
    after_read_mode (map string_bytes c.args.words.now) _ mode (g.S.Source.left c.args.input.now) (g.S.Source.left c.replay.new.input) (g.K.Sink.written c.args.output.now) (g.K.Sink.written c.replay.new.output) (c.replay.ensures.after_read_fault e)

pub returns-in-Some-Replay-clause-after_write_fault : goal.returns-in-Some-Replay-clause-after_write_fault
returns-in-Some-Replay-clause-after_write_fault g c e =
    let mode : mode_of (map string_bytes c.args.words.now) ≡ Some replays = rw c.in-Some-Replay.field-0-is at c.in-Some-Replay.ensures.mode in
    after_write_mode (map string_bytes c.args.words.now) _ mode (g.S.Source.left c.args.input.now) (g.S.Source.left c.replay.new.input) (g.K.Sink.written c.args.output.now) (g.K.Sink.written c.replay.new.output) (c.replay.ensures.after_write_fault e)

pub returns-in-Some-Replay-clause-writes : goal.returns-in-Some-Replay-clause-writes
returns-in-Some-Replay-clause-writes g c =
    let mode : mode_of (map string_bytes c.args.words.now) ≡ Some replays = rw c.in-Some-Replay.field-0-is at c.in-Some-Replay.ensures.mode in
    let wrote = c.replay.ensures.writes in
    (wrote.0, wrote.1, writes_mode _ _ mode wrote.0 _ _ _ wrote.2)

pub returns-in-None-clause-writes : goal.returns-in-None-clause-writes
returns-in-None-clause-writes g c =
    let left = g.S.Source.left c.args.input.now in
    let nothing = c.asked_of.ensures.mode ∙ ap (option_and_then mode_in) c.in-None.is in
    (input_from left [], input_from_is left [], writes_usage _ _ _ nothing)
