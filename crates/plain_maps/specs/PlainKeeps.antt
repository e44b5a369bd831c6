-- What is kept of the arrows and diagrams of a store is right.
use Rattle.hashcons.specs.Contents.{Contents}
use Rattle.found_ids.specs.FoundIds.{HaveFound}
use Rattle.plain_maps.specs.declared.plain_kept.PlainKept.{PlainKept}
use Rattle.plain_maps.specs.Plainness.{IsPlainTree, IsIdentityTree, plain_tests_in}
use Rattle.zigzag_maps.specs.Walks.{PassesTests}

pub record ArePlain (c : Contents) (kept : PlainKept) : Type 0 where
  pub arrows : HaveFound c IsPlainTree kept.arrows
  pub identities : HaveFound c IsIdentityTree kept.identities
  pub passed : HaveFound c (PassesTests plain_tests_in) kept.passed
