-- One level of the tests of an arrow and of a diagram, and what a program holds of them.
use Rattle.std.specs.Prelude.{◌≡◌, ℕ, ◌<◌, ◌≤◌, List, [], length, get_or, map, suc}
use Rattle.diagram_terms.specs.declared.place.Step.TheVariants as step
use Rattle.diagram_terms.specs.declared.place.End.TheVariants as at_end
use Rattle.diagram_terms.specs.declared.place.Place.{Place}
use Rattle.diagram_terms.specs.declared.tree.Arrow.{Arrow}
use Rattle.diagram_terms.specs.declared.tree.Diagram.{Diagram}
use Rattle.diagram_terms.specs.Dual.{dual}
use Rattle.diagram_terms.specs.Family.{Dia, Arr, no_dia, reg, sing, height, arrow_reg, arrow_sing}
use Rattle.diagram_terms.specs.Decoded.{arr_tree, dia_tree}
use Rattle.diagram_terms.specs.Shape.{IsArrow, IsDiagram}
use Rattle.diagram_terms.specs.Valid.{Valid, ValidArrow}
use Rattle.diagram_terms.specs.Places.{Test, here, under, at_each, arrow_tests, square_commutes, tests_of}
use Rattle.diagram_terms.specs.Values.{tree_of_arrow, tree_of_diagram, trees_of_arrows, trees_of_diagrams}

-- ---- the tests of f : X → Y after that of its ends

abbrev pub reg_tests : (d : ℕ) → Dia (suc d) → Dia (suc d) → Arr (suc d) → List Test
reg_tests d X Y f = at_each (suc (length Y.sings)) (λ j. under (step.R j) (arrow_tests d (reg d X (dual f.heights j)) (reg d Y j) (arrow_reg d f j)))

abbrev pub sing_tests : (d : ℕ) → Dia (suc d) → Dia (suc d) → Arr (suc d) → List Test
sing_tests d X Y f = at_each (length X.sings) (λ i. under (step.S i) (arrow_tests d (sing d X i) (sing d Y (height d f i)) (arrow_sing d f i)))

abbrev pub square_tests : (d : ℕ) → Dia (suc d) → Dia (suc d) → Arr (suc d) → List Test
square_tests d X Y f = at_each (length Y.sings) (λ k. here (at_end.Square k) (square_commutes d X Y f k))

abbrev pub square_place : ℕ → Place
square_place k = record { steps = []; end = at_end.Square k }

-- ---- the tests of slices in a list, as regular or as singular ones

abbrev pub reg_slice_tests : (d : ℕ) → List (Dia d) → List Test
reg_slice_tests d slices = at_each (length slices) (λ j. under (step.R j) (tests_of d (get_or slices j (no_dia d))))

abbrev pub sing_slice_tests : (d : ℕ) → List (Dia d) → List Test
sing_slice_tests d slices = at_each (length slices) (λ i. under (step.S i) (tests_of d (get_or slices i (no_dia d))))

-- ---- what a program holds

-- an arrow, and two valid diagrams between which it may stand
pub record StandsBetween (n : ℕ) (f : Arr n) (X Y : Dia n) (leg : Arrow) (from to : Diagram) : Type 0 where
  pub leg_is : tree_of_arrow leg ≡ arr_tree n f
  pub from_is : tree_of_diagram from ≡ dia_tree n X
  pub to_is : tree_of_diagram to ≡ dia_tree n Y
  pub shape : IsArrow n (arr_tree n f)
  pub from_valid : Valid n X
  pub to_valid : Valid n Y

-- an arrow above dimension 0 whose lengths are those of its ends, which are valid
pub record LevelFits (d : ℕ) (f : Arr (suc d)) (X Y : Dia (suc d)) : Type 0 where
  pub shape : IsArrow (suc d) (arr_tree (suc d) f)
  pub from_valid : Valid (suc d) X
  pub to_valid : Valid (suc d) Y
  pub heights_len : length f.heights ≡ length X.sings
  pub regs_len : length f.regs ≡ suc (length Y.sings)

-- the heights of such an arrow, its regular slices and those of its ends
pub record RegsBetween (d : ℕ) (f : Arr (suc d)) (X Y : Dia (suc d)) (heights : List ℕ) (regs : List Arrow) (from to : List Diagram) : Type 0 where
  pub fits : LevelFits d f X Y
  pub heights_are : heights ≡ f.heights
  pub regs_are : trees_of_arrows regs ≡ map (arr_tree d) f.regs
  pub from_are : trees_of_diagrams from ≡ map (dia_tree d) X.regs
  pub to_are : trees_of_diagrams to ≡ map (dia_tree d) Y.regs

-- the heights of such an arrow, its singular slices and those of its ends
pub record SingsBetween (d : ℕ) (f : Arr (suc d)) (X Y : Dia (suc d)) (heights : List ℕ) (sings : List Arrow) (from to : List Diagram) : Type 0 where
  pub fits : LevelFits d f X Y
  pub heights_are : heights ≡ f.heights
  pub sings_are : trees_of_arrows sings ≡ map (arr_tree d) f.sings
  pub from_are : trees_of_diagrams from ≡ map (dia_tree d) X.sings
  pub to_are : trees_of_diagrams to ≡ map (dia_tree d) Y.sings

-- such an arrow all of whose slices are valid
pub record SlicesAreValid (d : ℕ) (f : Arr (suc d)) (X Y : Dia (suc d)) : Type 0 where
  pub fits : LevelFits d f X Y
  pub regs : (j : ℕ) → j ≤ length Y.sings → ValidArrow d (reg d X (dual f.heights j)) (reg d Y j) (arrow_reg d f j)
  pub sings : (i : ℕ) → i < length X.sings → ValidArrow d (sing d X i) (sing d Y (height d f i)) (arrow_sing d f i)

-- diagrams of one dimension
pub record HoldsSlices (d : ℕ) (slices : List (Dia d)) (held : List Diagram) : Type 0 where
  pub held_are : trees_of_diagrams held ≡ map (dia_tree d) slices
  pub shapes : (k : ℕ) → k < length slices → IsDiagram d (dia_tree d (get_or slices k (no_dia d)))

-- the parts of a diagram X whose slices are valid
pub record HoldsLegs (d : ℕ) (X : Dia (suc d)) (regs sings : List Diagram) (fwds bwds : List Arrow) : Type 0 where
  pub shape : IsDiagram (suc d) (dia_tree (suc d) X)
  pub regs_valid : (j : ℕ) → j ≤ length X.sings → Valid d (reg d X j)
  pub sings_valid : (i : ℕ) → i < length X.sings → Valid d (sing d X i)
  pub regs_are : trees_of_diagrams regs ≡ map (dia_tree d) X.regs
  pub sings_are : trees_of_diagrams sings ≡ map (dia_tree d) X.sings
  pub fwds_are : trees_of_arrows fwds ≡ map (arr_tree d) X.fwds
  pub bwds_are : trees_of_arrows bwds ≡ map (arr_tree d) X.bwds
