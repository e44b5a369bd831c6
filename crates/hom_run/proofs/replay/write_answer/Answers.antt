use Rattle.std.proofs.Common.{◌≡◌, Bool, Err, [], false, sym, ap, ◌∙◌, subst, rules}
use Rattle.std.specs.List.{flat_map}
use Rattle.std.specs.Prelude.{if◌then◌else◌}
use Rattle.io_edge.specs.Transfers.{AppendsLess}
use Rattle.io_edge.specs.declared.whole.WriteAllFault.TheVariants as fault
use Rattle.workspace_json.specs.Commands.{exact_command}
use Rattle.hom_run.specs.Full.{Answered, answer_line, answered, answered_to, is_blank, line}
use Rattle.hom_run.proofs.replay.write_answer.Goals as goal

pub returns-in_err-write_line-clause-less : goal.returns-in_err-write_line-clause-less
unfolding answered
returns-in_err-write_line-clause-less g c e =
    let s = c.args.session.now.session in
    let bytes = c.args.bytes.now in
    let answered_here : Answered = answered_to s (exact_command bytes) in
    let not_blank : is_blank bytes ≡ false = sym c.is_blank.ensures ∙ c.if-is_blank.false in
    let text : line c.in_ok-text.text.items ≡ flat_map answer_line (answered s bytes).answers =
    c.in_ok-text.ensures.text
    ∙ ap (λ (b : Bool). flat_map answer_line (if b then record { answers = []; session = s } else answered_here).answers) (sym not_blank) in
    let failed : c.write_line.result ≡ Err fault.WriteFault = search rules in
    subst (AppendsLess _ _) text (c.write_line.ensures.less failed)
