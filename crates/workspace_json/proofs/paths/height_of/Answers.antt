use Rattle.std.proofs.Common.{Some, None, sym, ◌∙◌, lit<}
use Rattle.std.proofs.lemmas.Str.Pattern.{strip_prefix_char}
use Rattle.workspace_json.proofs.PathWords.{height_in-r, height_in-s, height_in_none}
use Rattle.workspace_json.proofs.paths.height_of.Goals as goal

pub returns-in_err-number_in : goal.returns-in_err-number_in
returns-in_err-number_in c =
    let starts = rw c.in-Some.is at (strip_prefix_char 114 c.args.word.now c.strip_prefix.result c.strip_prefix.ensures.cases (lit< tt)) in
    c.from_residual.ensures ∙ sym (height_in-r c.args.word.now c.in-Some.digits.now None starts (sym c.in_err-number_in.was ∙ c.number_in.ensures))

pub returns-in_ok-number_in : goal.returns-in_ok-number_in
returns-in_ok-number_in c =
    let starts = rw c.in-Some.is at (strip_prefix_char 114 c.args.word.now c.strip_prefix.result c.strip_prefix.ensures.cases (lit< tt)) in
    sym (height_in-r c.args.word.now c.in-Some.digits.now (Some c.in_ok-number_in.field-0) starts (sym c.in_ok-number_in.was ∙ c.number_in.ensures))

pub returns-in_err-number_in-2 : goal.returns-in_err-number_in-2
returns-in_err-number_in-2 c =
    let starts = rw c.in-Some-strip_prefix.is at (strip_prefix_char 115 c.args.word.now c.strip_prefix-in_default.result c.strip_prefix-in_default.ensures.cases (lit< tt)) in
    c.from_residual-in_err-number_in-2.ensures ∙ sym (height_in-s c.args.word.now c.in-Some-strip_prefix.digits.now None starts (sym c.in_err-number_in-2.was ∙ c.number_in-in-Some-strip_prefix.ensures))

pub returns-in_ok-number_in-2 : goal.returns-in_ok-number_in-2
returns-in_ok-number_in-2 c =
    let starts = rw c.in-Some-strip_prefix.is at (strip_prefix_char 115 c.args.word.now c.strip_prefix-in_default.result c.strip_prefix-in_default.ensures.cases (lit< tt)) in
    sym (height_in-s c.args.word.now c.in-Some-strip_prefix.digits.now (Some c.in_ok-number_in-2.field-0) starts (sym c.in_ok-number_in-2.was ∙ c.number_in-in-Some-strip_prefix.ensures))

pub returns-in_default-strip_prefix : goal.returns-in_default-strip_prefix
returns-in_default-strip_prefix c =
    let no_r = rw c.in_default.is at (strip_prefix_char 114 c.args.word.now c.strip_prefix.result c.strip_prefix.ensures.cases (lit< tt)) in
    let no_s = rw c.in_default-strip_prefix.is at (strip_prefix_char 115 c.args.word.now c.strip_prefix-in_default.result c.strip_prefix-in_default.ensures.cases (lit< tt)) in
    sym (height_in_none c.args.word.now no_r no_s)
