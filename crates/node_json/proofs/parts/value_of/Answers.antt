use Rattle.std.proofs.Common.{ap, true≢false, sym, ◌∙◌}
use Rattle.node_json.specs.Step.{or_fault}
use Rattle.node_json.specs.declared.fault.FormFault.TheVariants as fault
use Rattle.node_json.proofs.Bytes.{json_of_text, no_json}
use Rattle.node_json.proofs.parts.value_of.Goals as goal

pub returns-in-Ok : goal.returns-in-Ok
returns-in-Ok c = ap (or_fault fault.NotJson) (json_of_text c.args.bytes.now _ c.in-Ok.ensures.ok.0 c.in-Ok.ensures.ok.1)

pub returns-else-is_memory : goal.returns-else-is_memory
returns-else-is_memory c = ap (or_fault fault.NotJson) (no_json c.args.bytes.now (c.in-Err.ensures.err (λ m. true≢false (sym (c.is_memory.ensures.1 m) ∙ c.if-is_memory.false))))
