-- Plain arrows as tests, and the first leg of a diagram that is not plain.
use Rattle.std.specs.Prelude.{ℕ, zero, suc, List, [], ◌++◌, length, Bool, true, ◌&&◌, nat_eq, Option, option_map}
use Rattle.std.specs.List.{list_all}
use Rattle.std.specs.Cmp.Lexicographic.{pointwise}
use Rattle.diagram_terms.specs.declared.place.Step.{Step}
use Rattle.diagram_terms.specs.declared.place.Step.TheVariants as step
use Rattle.diagram_terms.specs.declared.place.End.TheVariants as at_end
use Rattle.diagram_terms.specs.Labels.{same_label}
use Rattle.diagram_terms.specs.Family.{Dia, Arr, reg, sing, fwd, bwd}
use Rattle.diagram_terms.specs.Dual.{upto}
use Rattle.diagram_terms.specs.Places.{Test, here, under, at_each, first_failure}

-- whether an arrow has the shape of an identity
abbrev pub is_identity : (d : ℕ) → Arr d → Bool
is_identity zero f = same_label f.from f.to
is_identity (suc d) f =
    pointwise nat_eq f.heights (upto (length f.sings)) && nat_eq (length f.regs) (suc (length f.sings))
    && list_all (is_identity d) f.regs && list_all (is_identity d) f.sings

-- whether an arrow is plain: its regular slices are identities, and its singular slices are plain
abbrev pub is_plain : (d : ℕ) → Arr d → Bool
is_plain zero f = true
is_plain (suc d) f = list_all (is_identity d) f.regs && list_all (is_plain d) f.sings

-- The test of a leg. What a place says beside its steps means nothing here.
abbrev pub plain_leg : (d : ℕ) → Step → Arr d → List Test
plain_leg d s f = under s (here at_end.Ends (is_plain d f))

-- the tests of the legs at one height: the leg forward, then the leg backward
abbrev pub plain_legs : (d : ℕ) → Dia (suc d) → ℕ → List Test
plain_legs d X k = plain_leg d (step.F k) (fwd d X k) ++ plain_leg d (step.B k) (bwd d X k)

-- the tests of all legs: those in its regular slices, in its singular slices, and its own at each height
abbrev pub plain_tests : (d : ℕ) → Dia d → List Test
plain_tests zero x = []
plain_tests (suc d) X =
    at_each (suc (length X.sings)) (λ j. under (step.R j) (plain_tests d (reg d X j)))
    ++ at_each (length X.sings) (λ i. under (step.S i) (plain_tests d (sing d X i)))
    ++ at_each (length X.sings) (plain_legs d X)

-- the steps to the first leg that is not plain
abbrev pub first_loose_leg : (d : ℕ) → Dia d → Option (List Step)
first_loose_leg d X = option_map (λ p. p.steps) (first_failure (plain_tests d X))
