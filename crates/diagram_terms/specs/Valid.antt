-- Valid arrows and valid diagrams.
use Rattle.std.specs.Prelude.{◌≡◌, ℕ, ◌<◌, ◌≤◌, ◌-◌, length, zero, suc}
use Rattle.diagram_terms.specs.declared.label.Label.{Label}
use Rattle.diagram_terms.specs.Labels.{IsAtMost}
use Rattle.diagram_terms.specs.Family.{Ends, Dia, Arr, reg, sing, fwd, bwd, height, arrow_reg, arrow_sing}
use Rattle.diagram_terms.specs.Dual.{IsMonotone, AreBelow, dual}
use Rattle.diagram_terms.specs.Composite.{comp}

-- The edges of the square of f : X → Y at the height k of Y: past the regular slices of f and along the legs of Y
abbrev pub left_edge : (d : ℕ) → Dia (suc d) → Arr (suc d) → ℕ → Arr d
left_edge d Y f k = comp d (fwd d Y k) (arrow_reg d f k)

abbrev pub right_edge : (d : ℕ) → Dia (suc d) → Arr (suc d) → ℕ → Arr d
right_edge d Y f k = comp d (bwd d Y k) (arrow_reg d f (suc k))

-- and, for a height i of X that goes to k, along the legs of X and through the singular slice of f
abbrev pub enter_edge : (d : ℕ) → Dia (suc d) → Arr (suc d) → ℕ → Arr d
enter_edge d X f i = comp d (arrow_sing d f i) (fwd d X i)

abbrev pub leave_edge : (d : ℕ) → Dia (suc d) → Arr (suc d) → ℕ → Arr d
leave_edge d X f i = comp d (arrow_sing d f i) (bwd d X i)

-- the square at the height k commutes, to which the heights of X from a on, below b, go
pub record CommutesOver (d : ℕ) (X Y : Dia (suc d)) (f : Arr (suc d)) (k a b : ℕ) : Type 0 where
  pub empty : a ≡ b → left_edge d Y f k ≡ right_edge d Y f k
  pub first : a < b → left_edge d Y f k ≡ enter_edge d X f a
  pub last : a < b → right_edge d Y f k ≡ leave_edge d X f (b - 1)
  pub inner : (i : ℕ) → a ≤ i → suc i < b → leave_edge d X f i ≡ enter_edge d X f (suc i)

-- the square of f : X → Y at the height k of Y commutes
abbrev pub Commutes : (d : ℕ) → Dia (suc d) → Dia (suc d) → Arr (suc d) → ℕ → Type 0
Commutes d X Y f k = CommutesOver d X Y f k (dual f.heights k) (dual f.heights (suc k))

-- one level of a valid arrow f : X → Y, where V says which slices are valid
pub record ValidZag (d : ℕ) (V : Dia d → Dia d → Arr d → Type 0) (X Y : Dia (suc d)) (f : Arr (suc d)) : Type 0 where
  pub heights_len : length f.heights ≡ length X.sings
  pub regs_len : length f.regs ≡ suc (length Y.sings)
  pub sings_len : length f.sings ≡ length X.sings
  pub monotone : IsMonotone f.heights
  pub below : AreBelow f.heights (length Y.sings)
  pub regs : (j : ℕ) → j ≤ length Y.sings → V (reg d X (dual f.heights j)) (reg d Y j) (arrow_reg d f j)
  pub sings : (i : ℕ) → i < length X.sings → V (sing d X i) (sing d Y (height d f i)) (arrow_sing d f i)
  pub squares : (k : ℕ) → k < length Y.sings → Commutes d X Y f k

-- a valid arrow of dimension 0: the pair of its ends, in order
pub record ValidEnds (x y : Label) (f : Ends) : Type 0 where
  pub from : f.from ≡ x
  pub to : f.to ≡ y
  pub order : IsAtMost x y

-- f is a valid arrow from X to Y. This asks nothing of the shape of X and Y: where they matter, they are valid too.
abbrev pub ValidArrow : (d : ℕ) → Dia d → Dia d → Arr d → Type 0
ValidArrow zero x y f = ValidEnds x y f
ValidArrow (suc d) X Y f = ValidZag d (ValidArrow d) X Y f

-- one level of a valid diagram, where V says which slices are valid
pub record ValidZig (d : ℕ) (V : Dia d → Type 0) (X : Dia (suc d)) : Type 0 where
  pub regs_len : length X.regs ≡ suc (length X.sings)
  pub fwds_len : length X.fwds ≡ length X.sings
  pub bwds_len : length X.bwds ≡ length X.sings
  pub regs : (j : ℕ) → j ≤ length X.sings → V (reg d X j)
  pub sings : (i : ℕ) → i < length X.sings → V (sing d X i)
  pub fwds : (k : ℕ) → k < length X.sings → ValidArrow d (reg d X k) (sing d X k) (fwd d X k)
  pub bwds : (k : ℕ) → k < length X.sings → ValidArrow d (reg d X (suc k)) (sing d X k) (bwd d X k)

-- X is a valid diagram
abbrev pub Valid : (d : ℕ) → Dia d → Type 0
Valid zero x = Unit {0}
Valid (suc d) X = ValidZig d (Valid d) X
