-- Boundaries, cones, and the type of a generator.
use Rattle.std.specs.Prelude.{◌≡◌, ℕ, zero, suc, ◌<◌, ◌≤◌, [], ◌∷◌, length, map}
use Rattle.diagram_terms.specs.declared.label.Label.{Label}
use Rattle.diagram_terms.specs.Family.{Dia, Arr, reg, sing}
use Rattle.diagram_terms.specs.Composite.{ident}

-- the source and the target of a diagram: its first and its last regular slice
abbrev pub source : (d : ℕ) → Dia (suc d) → Dia d
source d X = reg d X 0

abbrev pub target : (d : ℕ) → Dia (suc d) → Dia d
target d X = reg d X (length X.sings)

-- one source and one target
pub record HaveOneBoundary (d : ℕ) (S T : Dia (suc d)) : Type 0 where
  pub sources : source d S ≡ source d T
  pub targets : target d S ≡ target d T

-- S and T are parallel: above dimension 0 they have one source and one target
abbrev pub Parallel : (d : ℕ) → Dia d → Dia d → Type 0
Parallel zero S T = Unit {0}
Parallel (suc d) S T = HaveOneBoundary d S T

-- the cospan S → M ← T with these legs
abbrev pub cospan : (d : ℕ) → Dia d → Arr d → Dia d → Arr d → Dia d → Dia (suc d)
cospan d S f M g T = record { regs = S ∷ T ∷ []; sings = M ∷ []; fwds = f ∷ []; bwds = g ∷ [] }

-- the cone over D with the label x: it sends every height to 0, its regular slices are the identities of the source and
-- the target of D, and its singular slices are cones
unfoldable pub cone : (d : ℕ) → Dia d → Label → Arr d
cone zero y x = record { from = y; to = x }
cone (suc d) D x = record {
  heights = map (λ _. 0) D.sings;
  regs = ident d (source d D) ∷ ident d (target d D) ∷ [];
  sings = map (λ s. cone d s x) D.sings;
}

-- where the cone over D ends: the label x, or the cospan of the cones over the source and the target of D
unfoldable pub mid : (d : ℕ) → Dia d → Label → Dia d
mid zero y x = x
mid (suc d) D x = cospan d (source d D) (cone d (source d D) x) (mid d (source d D) x) (cone d (target d D) x) (target d D)

-- the type of a generator with the label x and the boundary S, T
unfoldable pub type_over : (d : ℕ) → Dia d → Dia d → Label → Dia (suc d)
type_over d S T x = cospan d S (cone d S x) (mid d S x) (cone d T x) T

-- one level of a diagram whose labels have dimensions below n, where B says so of its slices
pub record SlicesAreBelow (d : ℕ) (B : Dia d → Type 0) (D : Dia (suc d)) : Type 0 where
  pub regs : (j : ℕ) → j ≤ length D.sings → B (reg d D j)
  pub sings : (i : ℕ) → i < length D.sings → B (sing d D i)

-- every label of D has a dimension below n
abbrev pub HasLabelsBelow : ℕ → (d : ℕ) → Dia d → Type 0
HasLabelsBelow n zero y = y.dim < n
HasLabelsBelow n (suc d) D = SlicesAreBelow d (HasLabelsBelow n d) D
