-- What the first bad place says of validity, as laws.
use Rattle.std.specs.Prelude.{◌≡◌, ℕ, Some}
use Rattle.diagram_terms.specs.declared.place.Place.{Place}
use Rattle.diagram_terms.specs.Family.{Dia}
use Rattle.diagram_terms.specs.Places.{tests_of, IsFirstFailure, first_bad_place}

-- one place is that of the first test that fails, no other is, and it is the first bad place
pub record HasOneFirstFault (d : ℕ) (X : Dia d) : Type 0 where
  pub place : Place
  pub is_first : IsFirstFailure (tests_of d X) place
  pub only : (p : Place) → IsFirstFailure (tests_of d X) p → p ≡ place
  pub found : first_bad_place d X ≡ Some place
