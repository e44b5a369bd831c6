-- Regions of diagrams: an interval of heights, with a region of each slice in it.
use Rattle.std.specs.Prelude.{ℕ, zero, suc, ◌≡◌, ◌-◌, ◌<◌, ◌≤◌, List, [], length, get_or, map}
use Rattle.std.specs.List.{range_with_len}
use Rattle.diagram_terms.specs.Family.{Dia, reg, sing}

-- the list of F a .. F (a + n - 1)
abbrev pub tab_from : {X : Type 0} → (ℕ → X) → ℕ → ℕ → List X
tab_from F a n = map F (range_with_len a n)

-- the one region of a diagram of dimension 0: the whole of it
pub record Whole : Type 0 where

-- One level of a region, over regions R of slices: the interval from a to b, a region of each regular slice from a to b,
-- and one of each singular slice from a on, below b. The lists begin at the height a.
pub record Span (R : Type 0) : Type 0 where
  pub from : ℕ
  pub to : ℕ
  pub regs : List R
  pub sings : List R

-- the regions of the diagrams of dimension d
abbrev pub Reg : ℕ → Type 0
Reg zero = Whole
Reg (suc d) = Span (Reg d)

-- what stands for a region past the end of its list
unfoldable pub no_region : (d : ℕ) → Reg d
no_region zero = record {}
no_region (suc d) = record { from = 0; to = 0; regs = []; sings = [] }

-- the regions of the slices by their heights
abbrev pub reg_region : (d : ℕ) → Reg (suc d) → ℕ → Reg d
reg_region d W j = get_or W.regs (j - W.from) (no_region d)

abbrev pub sing_region : (d : ℕ) → Reg (suc d) → ℕ → Reg d
sing_region d W i = get_or W.sings (i - W.from) (no_region d)

-- one level of a region W of X, where I says what the regions of slices are
pub record RegionZig (d : ℕ) (I : Dia d → Reg d → Type 0) (X : Dia (suc d)) (W : Reg (suc d)) : Type 0 where
  pub order : W.from ≤ W.to
  pub within : W.to ≤ length X.sings
  pub regs_len : length W.regs ≡ suc (W.to - W.from)
  pub sings_len : length W.sings ≡ W.to - W.from
  pub regs : (j : ℕ) → W.from ≤ j → j ≤ W.to → I (reg d X j) (reg_region d W j)
  pub sings : (i : ℕ) → W.from ≤ i → i < W.to → I (sing d X i) (sing_region d W i)

-- W is a region of X
abbrev pub IsRegionOf : (d : ℕ) → Dia d → Reg d → Type 0
IsRegionOf zero x W = Unit {0}
IsRegionOf (suc d) X W = RegionZig d (IsRegionOf d) X W

-- the whole of X, as a region
unfoldable pub whole_region : (d : ℕ) → Dia d → Reg d
whole_region zero x = record {}
whole_region (suc d) X = record {
  from = 0;
  to = length X.sings;
  regs = tab_from (λ j. whole_region d (reg d X j)) 0 (suc (length X.sings));
  sings = tab_from (λ i. whole_region d (sing d X i)) 0 (length X.sings);
}
