use Rattle.std.proofs.Common.{refl}
use Rattle.degeneracy.proofs.FactorMaps.{maps_into_one, some_factor, no_factor, made_factor}
use Rattle.degeneracy.proofs.FactorsInStore.{found-none, found-some}
use Rattle.degeneracy.proofs.factors.factor.Goals as goal

pub factor_once-requires-clause-meet : goal.factor_once-requires-clause-meet
factor_once-requires-clause-meet c = maps_into_one c.args.store.now c.args.f c.args.e c.requires.valid c.requires.meet c.requires.degeneracy

pub returns-in_default-clause-none : goal.returns-in_default-clause-none
returns-in_default-clause-none c = (
  λ e. no_factor c.args.store.now c.args.f c.args.e c.requires.valid c.requires.meet c.requires.degeneracy
      (found-none _ _ _ c.in_default.is c.in_ok-arrow.ensures.found),
  λ h. refl,
)

pub returns-clause-some : goal.returns-clause-some
returns-clause-some c =
    let found = found-some _ _ _ _ c.in-Some.is c.in_ok-arrow.ensures.found in
    made_factor _ _ c.args.f c.args.e c.in-Some.arrow c.in_ok-arrow.ensures.grows c.requires.valid c.requires.through c.requires.meet c.requires.degeneracy found.0 found.1

pub returns-clause-none : goal.returns-clause-none
returns-clause-none c =
    let found = found-some _ _ _ _ c.in-Some.is c.in_ok-arrow.ensures.found in (
      λ e g h. cc,
      λ h. absurd (h _ (some_factor c.args.store.now c.args.f c.args.e c.requires.valid c.requires.meet c.requires.degeneracy found.0)),
    )
