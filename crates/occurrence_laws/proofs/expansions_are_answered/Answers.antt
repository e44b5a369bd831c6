-- expansions_are_answered
use Rattle.occurrence_laws.proofs.ExpansionAnswers.{expansions_are_answered, expansions_are_good, expansions_have_one_boundary, stored_expansions_are_good}
use Rattle.occurrence_laws.proofs.expansions_are_answered.Goals as goal

pub returns : goal.returns
returns c = record {
  answers = expansions_are_answered;
  good = expansions_are_good;
  boundary = expansions_have_one_boundary;
  stored = stored_expansions_are_good;
}
