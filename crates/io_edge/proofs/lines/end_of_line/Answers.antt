use Rattle.std.proofs.Common.{eqb, ◌∙◌, sym, rules, tests}
use Rattle.std.proofs.lemmas.Iterator.{YieldsList-from_slice}
use Rattle.std.proofs.lemmas.Iterator.Search.{position_from_yields_List}
use Rattle.io_edge.proofs.LineEnds.{line_end-Some, line_end-None}
use Rattle.io_edge.proofs.lines.end_of_line.Goals as goal

pub returns-in-Some-clause-end : goal.returns-in-Some-clause-end
returns-in-Some-clause-end c =
    let bytes = c.args.bytes.now in
    let found = position_from_yields_List (λ byte. eqb byte 10) _ _ c.position.result c.position.ensures.ran (YieldsList-from_slice bytes cc) (λ x b q k. search (rules, tests)) in
    line_end-Some bytes c.in-Some.at (sym found ∙ c.in-Some.is)

pub returns-in-None-clause-end : goal.returns-in-None-clause-end
returns-in-None-clause-end c =
    let bytes = c.args.bytes.now in
    let found = position_from_yields_List (λ byte. eqb byte 10) _ _ c.position.result c.position.ensures.ran (YieldsList-from_slice bytes cc) (λ x b q k. search (rules, tests)) in
    line_end-None bytes (sym found ∙ c.in-None.is)
