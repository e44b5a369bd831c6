-- Degeneracies: composites of simple and parallel arrows.
use Rattle.std.specs.Prelude.{◌≡◌, ◌⊎◌, ℕ, ◌<◌, ◌≤◌, length, zero, suc}
use Rattle.diagram_terms.specs.Family.{Dia, Arr, reg, sing, fwd, bwd, height, arrow_reg, arrow_sing}
use Rattle.diagram_terms.specs.Dual.{IsIncreasing, upto, dual}
use Rattle.diagram_terms.specs.Composite.{comp, ident}
use Rattle.diagram_terms.specs.Identity.{IsIdentity}
use Rattle.diagram_terms.specs.Valid.{ValidArrow, Valid, left_edge, right_edge}

-- f : X → Y is simple: its heights strictly increase, its slices are identities, and both legs of Y are identities at each
-- height to which no height of X goes
pub record SimpleArrow (d : ℕ) (X Y : Dia (suc d)) (f : Arr (suc d)) : Type 0 where
  pub valid : ValidArrow (suc d) X Y f
  pub increasing : IsIncreasing f.heights
  pub regs : (j : ℕ) → j ≤ length Y.sings → IsIdentity d (arrow_reg d f j)
  pub sings : (i : ℕ) → i < length X.sings → IsIdentity d (arrow_sing d f i)
  pub missed_fwds : (k : ℕ) → k < length Y.sings → dual f.heights k ≡ dual f.heights (suc k) → IsIdentity d (fwd d Y k)
  pub missed_bwds : (k : ℕ) → k < length Y.sings → dual f.heights k ≡ dual f.heights (suc k) → IsIdentity d (bwd d Y k)

-- f : X → Y is parallel, where G says which slices are degeneracies: X and Y have one length, the heights of f are the
-- identity, and each slice is a degeneracy
pub record ParallelArrow (d : ℕ) (G : Dia d → Dia d → Arr d → Type 0) (X Y : Dia (suc d)) (f : Arr (suc d)) : Type 0 where
  pub valid : ValidArrow (suc d) X Y f
  pub one_length : length X.sings ≡ length Y.sings
  pub heights : f.heights ≡ upto (length X.sings)
  pub regs : (j : ℕ) → j ≤ length Y.sings → G (reg d X j) (reg d Y j) (arrow_reg d f j)
  pub sings : (i : ℕ) → i < length X.sings → G (sing d X i) (sing d Y i) (arrow_sing d f i)

-- f : X → Y is simple or parallel, where G says which slices are degeneracies
abbrev pub SimpleOrParallel : (d : ℕ) → (Dia d → Dia d → Arr d → Type 0) → Dia (suc d) → Dia (suc d) → Arr (suc d) → Type 0
SimpleOrParallel d G X Y f = SimpleArrow d X Y f ⊎ ParallelArrow d G X Y f

-- f : X → Y is the composite of a finite list, possibly empty, of arrows of which A speaks, through valid diagrams
pub data Chain (d : ℕ) (A : Dia d → Dia d → Arr d → Type 0) : Dia d → Dia d → Arr d → Type 0 where
  none : (X : Dia d) → Valid d X → Chain d A X X (ident d X)
  more : (X Y Z : Dia d) (f g : Arr d) → Chain d A X Y f → Valid d Z → A Y Z g → Chain d A X Z (comp d g f)

-- f : X → Y is a degeneracy: in dimension 0 an identity, and above a composite of simple and parallel arrows
abbrev pub Degeneracy : (d : ℕ) → Dia d → Dia d → Arr d → Type 0
Degeneracy zero x y f = ValidArrow zero x y f × IsIdentity zero f
Degeneracy (suc d) X Y f = Chain (suc d) (SimpleOrParallel d (Degeneracy d)) X Y f

-- f : X → Y is the simple arrow s : X → M followed by the parallel arrow p : M → Y
pub record SplitsInto (d : ℕ) (X Y : Dia (suc d)) (f : Arr (suc d)) (M : Dia (suc d)) (s p : Arr (suc d)) : Type 0 where
  pub middle : Valid (suc d) M
  pub simple : SimpleArrow d X M s
  pub parallel : ParallelArrow d (Degeneracy d) M Y p
  pub composite : comp (suc d) p s ≡ f

-- one level of a degeneracy f : X → Y told by its shape, where G says which slices are degeneracies
pub record DegeneracyZag (d : ℕ) (G : Dia d → Dia d → Arr d → Type 0) (X Y : Dia (suc d)) (f : Arr (suc d)) : Type 0 where
  pub valid : ValidArrow (suc d) X Y f
  pub increasing : IsIncreasing f.heights
  pub regs : (j : ℕ) → j ≤ length Y.sings → G (reg d X (dual f.heights j)) (reg d Y j) (arrow_reg d f j)
  pub sings : (i : ℕ) → i < length X.sings → G (sing d X i) (sing d Y (height d f i)) (arrow_sing d f i)
  -- the two composites into the singular slice at a height to which no height of X goes
  pub missed_fwds : (k : ℕ) → k < length Y.sings → dual f.heights k ≡ dual f.heights (suc k)
      → G (reg d X (dual f.heights k)) (sing d Y k) (left_edge d Y f k)
  pub missed_bwds : (k : ℕ) → k < length Y.sings → dual f.heights k ≡ dual f.heights (suc k)
      → G (reg d X (dual f.heights (suc k))) (sing d Y k) (right_edge d Y f k)

-- f : X → Y has the shape of a degeneracy
abbrev pub DegeneracyByShape : (d : ℕ) → Dia d → Dia d → Arr d → Type 0
DegeneracyByShape zero x y f = ValidArrow zero x y f × IsIdentity zero f
DegeneracyByShape (suc d) X Y f = DegeneracyZag d (DegeneracyByShape d) X Y f
