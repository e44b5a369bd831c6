use Rattle.found_ids.proofs.FoundStays.{one_more_found}
use Rattle.zigzag_maps.specs.Walks.{PassesTests}
use Rattle.plain_maps.specs.Plainness.{plain_tests_in}
use Rattle.plain_maps.proofs.loose.PlainKeptWalkReading.pass.Goals as goal

pub returns-clause-right : goal.returns-clause-right
returns-clause-right c =
    let right = c.requires.right in
    record {
      arrows = right.arrows;
      identities = right.identities;
      passed = one_more_found _ (PassesTests plain_tests_in) _ _ _ right.passed c.keep.ensures.others c.requires.diagram.of_store c.requires.passes;
    }
