use Rattle.std.proofs.Common.{◌≡◌, true, false, sym}
use Rattle.workspace_json.specs.Paths.{is_numeral}
use Rattle.workspace_json.proofs.Numerals.{number_parsed, no_number}
use Rattle.workspace_json.proofs.paths.number_in.Goals as goal

pub returns-then-not-is_numeral : goal.returns-then-not-is_numeral
returns-then-not-is_numeral c =
    let none : is_numeral c.args.digits.now ≡ false = cc in sym (no_number c.args.digits.now none)

pub returns-in-Ok : goal.returns-in-Ok
returns-in-Ok c =
    let numeral : is_numeral c.args.digits.now ≡ true = cc in
    sym (rw c.in-Ok.is at (number_parsed c.args.digits.now c.parse.result numeral c.parse.ensures.value.0))

pub returns-in-Err : goal.returns-in-Err
returns-in-Err c =
    let numeral : is_numeral c.args.digits.now ≡ true = cc in
    sym (rw c.in-Err.is at (number_parsed c.args.digits.now c.parse.result numeral c.parse.ensures.value.0))
