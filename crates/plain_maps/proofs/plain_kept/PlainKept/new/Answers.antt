use Rattle.found_ids.proofs.FoundStays.{none_found}
use Rattle.plain_maps.specs.Plainness.{IsPlainTree, IsIdentityTree, plain_tests_in}
use Rattle.zigzag_maps.specs.Walks.{PassesTests}
use Rattle.plain_maps.proofs.plain_kept.PlainKept.new.Goals as goal

pub returns : goal.returns
returns c = λ s. record { arrows = none_found s IsPlainTree _ c.new.ensures; identities = none_found s IsIdentityTree _ c.new-2.ensures; passed = none_found s (PassesTests plain_tests_in) _ c.new-3.ensures }
