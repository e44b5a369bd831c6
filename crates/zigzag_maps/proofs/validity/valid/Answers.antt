use Rattle.std.proofs.Common.{refl, sym, ◌∙◌}
use Rattle.hashcons.specs.Contents.{diagram_at}
use Rattle.zigzag_maps.specs.declared.outcome.SquareTest.TheVariants as test
use Rattle.zigzag_maps.proofs.TestsByParts.{first_in, tests_walk}
use Rattle.zigzag_maps.proofs.ValiditySteps.{kept_passes}
use Rattle.zigzag_maps.proofs.Verdicts.{yes_is_validity}
use Rattle.zigzag_maps.proofs.validity.valid.Goals as goal

pub returns-then-known_valid-clause-exact : goal.returns-then-known_valid-clause-exact
returns-then-known_valid-clause-exact c =
    sym (kept_passes c.args.store.now c.args.d (c.known_valid.ensures.right c.if-known_valid.true)) ∙ first_in (diagram_at c.args.store.now c.args.d)

pub first_in_parts-requires-clause-law : goal.first_in_parts-requires-clause-law
first_in_parts-requires-clause-law c = tests_walk

pub returns-in-Some-clause-exact : goal.returns-in-Some-clause-exact
returns-in-Some-clause-exact c = sym c.in-Some.is ∙ c.in_ok-place.ensures.exact ∙ first_in (diagram_at c.args.store.now c.args.d)

pub returns-in-Some-clause-yes : goal.returns-in-Some-clause-yes
returns-in-Some-clause-yes c =
    yes_is_validity c.args.store.now c.first_in_parts.new.store c.dim-dim.result c.args.d (test.Fault c.in-Some.place) c.in_ok-place.ensures.grows
    (record { of_store = c.requires.of_store; shape = c.dim-dim.ensures.shape }) (sym c.in-Some.is ∙ c.in_ok-place.ensures.exact)

pub note_valid-requires : goal.note_valid-requires
note_valid-requires c =
    (yes_is_validity c.args.store.now c.first_in_parts.new.store c.dim-dim.result c.args.d test.Valid c.in_ok-place.ensures.grows
    (record { of_store = c.requires.of_store; shape = c.dim-dim.ensures.shape }) (sym c.in_default.is ∙ c.in_ok-place.ensures.exact)).0 refl

pub returns-clause-exact : goal.returns-clause-exact
returns-clause-exact c = sym c.in_default.is ∙ c.in_ok-place.ensures.exact ∙ first_in (diagram_at c.args.store.now c.args.d)
