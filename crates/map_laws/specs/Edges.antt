-- A square by its edges.
use Rattle.std.specs.Prelude.{◌≡◌, ℕ, ◌<◌, ◌≤◌, suc}
use Rattle.diagram_terms.specs.Family.{Dia, Arr}
use Rattle.diagram_terms.specs.Dual.{dual}
use Rattle.diagram_terms.specs.Valid.{left_edge, right_edge, enter_edge, leave_edge}

-- The square of f : X → Y at the height k of Y, by its edges: one arrow into the singular slice k of Y from each regular
-- slice of X from dual k to dual (k + 1). The first and the last go along Y, and the two beside a height of X go along X.
pub record HasEdges (d : ℕ) (X Y : Dia (suc d)) (f : Arr (suc d)) (k : ℕ) : Type 0 where
  pub edge : ℕ → Arr d
  pub first : edge (dual f.heights k) ≡ left_edge d Y f k
  pub last : edge (dual f.heights (suc k)) ≡ right_edge d Y f k
  pub along_fwd : (t : ℕ) → dual f.heights k ≤ t → t < dual f.heights (suc k)
      → edge t ≡ enter_edge d X f t
  pub along_bwd : (t : ℕ) → dual f.heights k ≤ t → t < dual f.heights (suc k)
      → edge (suc t) ≡ leave_edge d X f t
