use Rattle.std.proofs.Common.{None, Option, Some, IfNone}
use Rattle.io_edge.proofs.LinesTaken.{told_answer, told_too_long}
use Rattle.io_edge.proofs.lines.LineReader.next.Goals as goal

-- what holds in any case holds where there is no value
if_none : {T P : Type 0} (o : Option T) → P → IfNone o P
if_none None p = p
if_none (Some x) p = tt

pub returns-in-Ok-clause-line : goal.returns-in-Ok-clause-line
returns-in-Ok-clause-line g c =
    told_answer c.args.self.now c.take_line.new.self _ _ c.in-Ok.line c.in-Ok.ensures.takes

pub returns-in-Err-clause-too_long : goal.returns-in-Err-clause-too_long
returns-in-Err-clause-too_long g c =
    if_none c.args.self.now.fault
    (told_too_long c.args.self.now c.take_line.new.self _ _ _ c.in-Err.ensures.takes)
