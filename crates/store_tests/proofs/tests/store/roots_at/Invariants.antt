use Rattle.hashcons.specs.Listing.{AreOf}
use Rattle.store_tests.proofs.tests.store.roots_at.Given as goal

abbrev pub invariant-loop-place : goal.invariant-loop-place
invariant-loop-place l = AreOf l.store l.roots.items
