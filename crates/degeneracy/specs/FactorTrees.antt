-- The factor of an arrow through a degeneracy, on the trees that a store holds.
use Rattle.std.specs.Prelude.{ℕ, ◌-◌, suc, List, length, get_or, Bool, nat_lt}
use Rattle.std.specs.List.{list_all}
use Rattle.diagram_terms.specs.Dimension.{dimension_of}
use Rattle.diagram_terms.specs.Decoded.{arr, arr_tree}
use Rattle.diagram_terms.specs.Dual.{upto, tab, dual}
use Rattle.diagram_terms.specs.Family.{Dia}
use Rattle.diagram_terms.specs.Shape.{IsArrow, reg_at, sing_at}
use Rattle.diagram_terms.specs.Tree.{Tree, heights, regs}
use Rattle.diagram_terms.specs.Valid.{ValidArrow}
use Rattle.diagram_terms.specs.Factors.{has_factor, factor_through}

-- whether f factors through e
unfoldable pub factors_tree : Tree → Tree → Bool
factors_tree e f = has_factor (dimension_of f) (arr (dimension_of f) e) (arr (dimension_of f) f)

-- its factor, where it does
unfoldable pub factor_tree : Tree → Tree → Tree
factor_tree e f = arr_tree (dimension_of f) (factor_through (dimension_of f) (arr (dimension_of f) e) (arr (dimension_of f) f))

-- e and f are valid arrows into one diagram, of dimension d
pub record AreIntoOneAt (d : ℕ) (e f : Tree) : Type 0 where
  pub outer : IsArrow d e
  pub inner : IsArrow d f
  pub middle : Dia d
  pub source : Dia d
  pub target : Dia d
  pub outer_valid : ValidArrow d middle target (arr d e)
  pub inner_valid : ValidArrow d source target (arr d f)

pub record AreIntoOne (e f : Tree) : Type 0 where
  pub dim : ℕ
  pub at_dim : AreIntoOneAt dim e f

-- ---- one level of it

-- whether a height of the first list goes to h, and each of the heights hs
abbrev pub is_hit : List ℕ → ℕ → Bool
is_hit es h = nat_lt (dual es h) (dual es (suc h))

abbrev pub are_hit : List ℕ → List ℕ → Bool
are_hit es hs = list_all (is_hit es) hs

-- whether each regular slice of f factors, and each singular one
abbrev pub regs_factor : Tree → Tree → Bool
regs_factor e f = list_all (λ k. factors_tree (reg_at e k) (reg_at f k)) (upto (length (regs e)))

abbrev pub sings_factor : Tree → Tree → Bool
sings_factor e f =
    list_all (λ i. factors_tree (sing_at e (dual (heights e) (get_or (heights f) i 0))) (sing_at f i)) (upto (length (heights f)))

-- the factors of the slices
abbrev pub reg_factor : Tree → Tree → ℕ → Tree
reg_factor e f k = factor_tree (reg_at e k) (reg_at f k)

abbrev pub sing_factor : Tree → Tree → ℕ → Tree
sing_factor e f i = factor_tree (sing_at e (dual (heights e) (get_or (heights f) i 0))) (sing_at f i)

-- a regular height over j: the height to which j goes, or the last one
abbrev pub height_over : Tree → ℕ → ℕ
height_over e j = get_or (heights e) j (length (regs e) - 1)

-- of a number for each regular height those at the heights over the regular ones of the source of e
abbrev pub slices_over : Tree → List ℕ → List ℕ
slices_over e ids = tab (λ j. get_or ids (height_over e j) 0) (suc (length (heights e)))
