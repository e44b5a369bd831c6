-- The tests that a diagram or an arrow has to pass, each with its place, in the order of visiting; and the first that fails.
use Rattle.std.specs.Prelude.{◌≡◌, ℕ, zero, suc, ◌-◌, List, [], ◌∷◌, ◌++◌, length, map, Bool, true, false, not, ◌&&◌, if◌then◌else◌, nat_eq, nat_lt, Option, option_map}
use Rattle.std.specs.List.{All, list_all, find, flat_map, range_with_len}
use Rattle.std.specs.Cmp.Lexicographic.{pointwise}
use Rattle.diagram_terms.specs.declared.label.Label.{Label}
use Rattle.diagram_terms.specs.declared.place.Step.{Step}
use Rattle.diagram_terms.specs.declared.place.Step.TheVariants as step
use Rattle.diagram_terms.specs.declared.place.End.{End}
use Rattle.diagram_terms.specs.declared.place.End.TheVariants as at_end
use Rattle.diagram_terms.specs.declared.place.Place.{Place}
use Rattle.diagram_terms.specs.Labels.{same_label, at_most}
use Rattle.diagram_terms.specs.Family.{Ends, Dia, Arr, reg, sing, fwd, bwd, height, arrow_reg, arrow_sing}
use Rattle.diagram_terms.specs.Dual.{upto, dual}
use Rattle.diagram_terms.specs.Valid.{left_edge, right_edge, enter_edge, leave_edge}

-- whether two arrows are one, as a test
abbrev pub same_arrow : (d : ℕ) → Arr d → Arr d → Bool
same_arrow zero f g = same_label f.from g.from && same_label f.to g.to
same_arrow (suc d) f g =
    pointwise nat_eq f.heights g.heights && pointwise (same_arrow d) f.regs g.regs && pointwise (same_arrow d) f.sings g.sings

-- a place, and whether what has to hold there does
pub record Test : Type 0 where
  pub place : Place
  pub holds : Bool

abbrev pub Passes : Test → Type 0
Passes t = t.holds ≡ true

-- a test of the diagram or arrow itself
abbrev pub here : End → Bool → List Test
here e holds = record { place = record { steps = []; end = e }; holds = holds } ∷ []

-- a place of a slice or a leg, seen from the diagram or arrow: one step further in
abbrev pub further_in : Step → Place → Place
further_in s p = record { steps = s ∷ p.steps; end = p.end }

-- the tests of a slice or a leg, one step further in
abbrev pub one_step_in : Step → Test → Test
one_step_in s t = record { place = further_in s t.place; holds = t.holds }

abbrev pub under : Step → List Test → List Test
under s ts = map (one_step_in s) ts

-- the tests at each height below n, one height after the other
abbrev pub at_each : ℕ → (ℕ → List Test) → List Test
at_each n tests = flat_map tests (upto n)

-- the lengths of an arrow are those of its ends
abbrev pub lengths_fit : (d : ℕ) → Dia (suc d) → Dia (suc d) → Arr (suc d) → Bool
lengths_fit d X Y f = nat_eq (length f.heights) (length X.sings) && nat_eq (length f.regs) (suc (length Y.sings))

-- a square commutes that has these edges, and to whose height the heights from a on, below b, go
abbrev pub edges_meet : (d : ℕ) → Arr d → Arr d → (ℕ → Arr d) → (ℕ → Arr d) → ℕ → ℕ → Bool
edges_meet d left right enter leave a b =
    if nat_lt a b
    then same_arrow d left (enter a) && same_arrow d right (leave (b - 1))
    && list_all (λ i. same_arrow d (leave i) (enter (suc i))) (range_with_len a (b - 1 - a))
    else same_arrow d left right

abbrev pub square_commutes : (d : ℕ) → Dia (suc d) → Dia (suc d) → Arr (suc d) → ℕ → Bool
square_commutes d X Y f k =
    edges_meet d (left_edge d Y f k) (right_edge d Y f k) (enter_edge d X f) (leave_edge d X f) (dual f.heights k) (dual f.heights (suc k))

-- an arrow of dimension 0 is the pair of its ends, in order
abbrev pub ends_hold : Label → Label → Ends → Bool
ends_hold x y f = same_label f.from x && same_label f.to y && at_most x y

-- the tests of an arrow f : X → Y: its ends, its regular slices, its singular slices, its squares
abbrev pub arrow_tests : (d : ℕ) → Dia d → Dia d → Arr d → List Test
arrow_tests zero x y f = here at_end.Ends (ends_hold x y f)
arrow_tests (suc d) X Y f =
    here at_end.Ends (lengths_fit d X Y f)
    ++ at_each (suc (length Y.sings)) (λ j. under (step.R j) (arrow_tests d (reg d X (dual f.heights j)) (reg d Y j) (arrow_reg d f j)))
    ++ at_each (length X.sings) (λ i. under (step.S i) (arrow_tests d (sing d X i) (sing d Y (height d f i)) (arrow_sing d f i)))
    ++ at_each (length Y.sings) (λ k. here (at_end.Square k) (square_commutes d X Y f k))

-- the tests of the legs at one height: the leg forward, then the leg backward
abbrev pub leg_tests : (d : ℕ) → Dia (suc d) → ℕ → List Test
leg_tests d X k =
    under (step.F k) (arrow_tests d (reg d X k) (sing d X k) (fwd d X k))
    ++ under (step.B k) (arrow_tests d (reg d X (suc k)) (sing d X k) (bwd d X k))

-- the tests of a diagram: its regular slices, its singular slices, and the legs at each height
abbrev pub tests_of : (d : ℕ) → Dia d → List Test
tests_of zero x = []
tests_of (suc d) X =
    at_each (suc (length X.sings)) (λ j. under (step.R j) (tests_of d (reg d X j)))
    ++ at_each (length X.sings) (λ i. under (step.S i) (tests_of d (sing d X i)))
    ++ at_each (length X.sings) (leg_tests d X)

-- p is the place of the first test that fails
pub record IsFirstFailure (tests : List Test) (p : Place) : Type 0 where
  pub passed : List Test
  pub failed : Test
  pub rest : List Test
  pub visited : tests ≡ passed ++ failed ∷ rest
  pub before : All Passes passed
  pub fails : failed.holds ≡ false
  pub place : failed.place ≡ p

-- the place of the first failure, if there is one
abbrev pub first_failure : List Test → Option Place
first_failure tests = option_map (λ t. t.place) (find (λ t. not t.holds) tests)

-- the first bad square or end of an arrow from X to Y
abbrev pub first_bad_place_between : (d : ℕ) → Dia d → Dia d → Arr d → Option Place
first_bad_place_between d X Y f = first_failure (arrow_tests d X Y f)

-- and of a diagram
abbrev pub first_bad_place : (d : ℕ) → Dia d → Option Place
first_bad_place d X = first_failure (tests_of d X)
