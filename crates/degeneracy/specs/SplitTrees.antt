-- The two parts of a degeneracy f : s → t, and what stands between them, on the trees that a store holds.
use Rattle.std.specs.Prelude.{◌≡◌, ℕ, suc, length, cond}
use Rattle.diagram_terms.specs.Decoded.{dia, arr}
use Rattle.diagram_terms.specs.Degeneracy.{SplitsInto}
use Rattle.diagram_terms.specs.Dual.{upto, tab, dual}
use Rattle.diagram_terms.specs.Operations.{identity_tree, composite_tree}
use Rattle.diagram_terms.specs.Shape.{IsDiagram, IsArrow, reg_at, sing_at, fwd_at, bwd_at}
use Rattle.diagram_terms.specs.Tree.{Tree, zig, zag, heights, regs, sings}
use Rattle.hashcons.specs.Contents.{Contents, diagram_at, arrow_at}
use Rattle.zigzag_maps.specs.declared.map.Map.{Map}
use Rattle.zigzag_maps.specs.Found.{IsValidMap}
use Rattle.degeneracy.specs.FactorTrees.{is_hit}

-- ---- what the parts are

-- a : s → m and b : m → t are the simple part and the parallel part of f : s → t, of dimension suc d
pub record SplitsAt (d : ℕ) (s t f m a b : Tree) : Type 0 where
  pub source : IsDiagram (suc d) s
  pub middle : IsDiagram (suc d) m
  pub target : IsDiagram (suc d) t
  pub shape : IsArrow (suc d) f
  pub simple : IsArrow (suc d) a
  pub parallel : IsArrow (suc d) b
  pub splits : SplitsInto d (dia (suc d) s) (dia (suc d) t) (arr (suc d) f) (dia (suc d) m) (arr (suc d) a) (arr (suc d) b)

pub record SplitsTree (s t f m a b : Tree) : Type 0 where
  pub dim : ℕ
  pub at_dim : SplitsAt dim s t f m a b

-- the first of two maps is the simple part of the map f, and the second is the parallel part
pub record AreParts (c : Contents) (f : Map) (parts : Map × Map) : Type 0 where
  pub source : parts.0.source ≡ f.source
  pub middle : parts.1.source ≡ parts.0.target
  pub target : parts.1.target ≡ f.target
  pub simple : IsValidMap c parts.0
  pub parallel : IsValidMap c parts.1
  pub splits : SplitsTree (diagram_at c f.source) (diagram_at c f.target) (arrow_at c f.arrow)
      (diagram_at c parts.0.target) (arrow_at c parts.0.arrow) (arrow_at c parts.1.arrow)
  pub composite : composite_tree (arrow_at c parts.1.arrow) (arrow_at c parts.0.arrow) ≡ arrow_at c f.arrow

-- ---- how they are made

-- x where a height of f goes to k, and y where none does
abbrev pub at_hit : {A : Type 0} → Tree → ℕ → A → A → A
at_hit f k x y = cond (is_hit (heights f) k) x y

-- the slices and legs of what stands between
unfoldable pub middle_reg : Tree → Tree → ℕ → Tree
middle_reg s f j = reg_at s (dual (heights f) j)

unfoldable pub middle_sing : Tree → Tree → ℕ → Tree
middle_sing s f k = at_hit f k (sing_at s (dual (heights f) k)) (reg_at s (dual (heights f) k))

unfoldable pub middle_fwd : Tree → Tree → ℕ → Tree
middle_fwd s f k = at_hit f k (fwd_at s (dual (heights f) k)) (identity_tree (reg_at s (dual (heights f) k)))

unfoldable pub middle_bwd : Tree → Tree → ℕ → Tree
middle_bwd s f k = at_hit f k (bwd_at s (dual (heights f) k)) (identity_tree (reg_at s (dual (heights f) k)))

-- the slices of the simple part, and the singular ones of the parallel part
unfoldable pub simple_reg : Tree → Tree → ℕ → Tree
simple_reg s f j = identity_tree (reg_at s (dual (heights f) j))

unfoldable pub parallel_sing : Tree → Tree → ℕ → Tree
parallel_sing t f k = at_hit f k (sing_at f (dual (heights f) k)) (composite_tree (fwd_at t k) (reg_at f k))

unfoldable pub middle_tree : Tree → Tree → Tree → Tree
middle_tree s t f = zig (tab (middle_reg s f) (length (regs f))) (tab (middle_sing s f) (length (sings t)))
    (tab (middle_fwd s f) (length (sings t))) (tab (middle_bwd s f) (length (sings t)))

unfoldable pub simple_tree : Tree → Tree → Tree
simple_tree s f = zag (heights f) (tab (simple_reg s f) (length (regs f))) (tab (λ i. identity_tree (sing_at s i)) (length (sings s)))

unfoldable pub parallel_tree : Tree → Tree → Tree
parallel_tree t f = zag (upto (length (sings t))) (tab (reg_at f) (length (regs f))) (tab (parallel_sing t f) (length (sings t)))
