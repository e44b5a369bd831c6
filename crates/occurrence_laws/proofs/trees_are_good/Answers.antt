-- trees_are_good
use Rattle.occurrence_laws.proofs.GoodTrees.{sum_trees_are_good, match_trees_are_occurrences, attached_trees_at_target_are_good, attached_trees_at_source_are_good, expansion_trees_are_good}
use Rattle.occurrence_laws.proofs.trees_are_good.Goals as goal

pub returns : goal.returns
returns c = record {
  sums = sum_trees_are_good;
  matches = match_trees_are_occurrences;
  at_target = attached_trees_at_target_are_good;
  at_source = attached_trees_at_source_are_good;
  expansions = expansion_trees_are_good;
}
