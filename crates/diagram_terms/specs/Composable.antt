-- What the composite of two arrows is made of: at every level the target of the first has the lengths of the source of the
-- second.
use Rattle.std.specs.Prelude.{◌≡◌, ℕ, ◌<◌, length, map, List, zero, suc}
use Rattle.diagram_terms.specs.declared.tree.Arrow.{Arrow}
use Rattle.diagram_terms.specs.Dual.{IsMonotone, AreBelow, dual}
use Rattle.diagram_terms.specs.Family.{Arr, height, arrow_reg, arrow_sing}
use Rattle.diagram_terms.specs.Decoded.{arr_tree}
use Rattle.diagram_terms.specs.Values.{trees_of_arrows}

-- one level of g after f, where C says so of their slices
pub record ZagLengthsMeet (d : ℕ) (C : Arr d → Arr d → Type 0) (g f : Arr (suc d)) : Type 0 where
  pub monotone : IsMonotone g.heights
  pub below : AreBelow f.heights (length g.heights)
  pub first_sings_len : length f.sings ≡ length f.heights
  pub second_sings_len : length g.sings ≡ length g.heights
  pub middle_len : length f.regs ≡ suc (length g.heights)
  pub regs : (k : ℕ) → k < length g.regs → C (arrow_reg d g k) (arrow_reg d f (dual g.heights k))
  pub sings : (i : ℕ) → i < length f.sings → C (arrow_sing d g (height d f i)) (arrow_sing d f i)

-- the lengths of g after f meet
abbrev pub LengthsMeet : (d : ℕ) → Arr d → Arr d → Type 0
LengthsMeet zero g f = Unit {0}
LengthsMeet (suc d) g f = ZagLengthsMeet d (LengthsMeet d) g f

-- the regular slices of g and of f and the heights of g, as a program holds them
pub record AreComposableRegs (d : ℕ) (g f : Arr (suc d)) (second first : List Arrow) (heights : List ℕ) : Type 0 where
  pub second_is : trees_of_arrows second ≡ map (arr_tree d) g.regs
  pub first_is : trees_of_arrows first ≡ map (arr_tree d) f.regs
  pub heights_are : heights ≡ g.heights
  pub composable : LengthsMeet (suc d) g f

-- the singular slices of g and of f and the heights of f, as a program holds them
pub record AreComposableSings (d : ℕ) (g f : Arr (suc d)) (second first : List Arrow) (heights : List ℕ) : Type 0 where
  pub second_is : trees_of_arrows second ≡ map (arr_tree d) g.sings
  pub first_is : trees_of_arrows first ≡ map (arr_tree d) f.sings
  pub heights_are : heights ≡ f.heights
  pub composable : LengthsMeet (suc d) g f
