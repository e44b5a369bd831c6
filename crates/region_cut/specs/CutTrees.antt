-- Cuts of the trees that a store holds, and the parts of a cut by their heights in what is cut.
use Rattle.std.specs.Prelude.{ℕ, suc, ◌-◌, Result, IfOk}
use Rattle.diagram_terms.specs.Cuts.{cut_arrow, cut_diagram}
use Rattle.diagram_terms.specs.Decoded.{dia, arr, dia_tree, arr_tree}
use Rattle.diagram_terms.specs.Family.{Dia, Arr, reg, sing, fwd, bwd, height, arrow_reg, arrow_sing}
use Rattle.diagram_terms.specs.OnTrees.{on_diagram, on_arrow}
use Rattle.diagram_terms.specs.Preimages.{preimage}
use Rattle.diagram_terms.specs.Regions.{Reg, reg_region, sing_region}
use Rattle.diagram_terms.specs.Tree.{Tree}
use Rattle.hashcons.specs.Contents.{Contents, Grows}
use Rattle.hashcons.specs.Gathers.{Gathers}
use Rattle.smallvec.specs.SmallVec.{SmallVec}
use Rattle.region_cut.specs.declared.region.Region.{Region}
use Rattle.region_cut.specs.RegionValues.{region_of}

-- the cut of a diagram
abbrev pub cut_diagram_tree : Tree → Region → Tree
cut_diagram_tree t r = on_diagram (λ d X. dia_tree d (cut_diagram d X (region_of d r))) t

-- the cut of an arrow at a region of its target
abbrev pub cut_arrow_tree : Tree → Region → Tree
cut_arrow_tree f r = on_arrow (λ d F. arr_tree d (cut_arrow d F (region_of d r))) f

-- the cut of the source s of an arrow f at the preimage of a region of its target
abbrev pub cut_source_tree : Tree → Tree → Region → Tree
cut_source_tree s f r = on_diagram (λ d X. dia_tree d (cut_diagram d X (preimage d X (arr d f) (region_of d r)))) s

-- ---- the parts of a cut

-- of an arrow
unfoldable pub cut_height : (d : ℕ) → Tree → Reg (suc d) → ℕ → ℕ
cut_height d f W i = height d (arr (suc d) f) i - W.from

unfoldable pub cut_arrow_reg : (d : ℕ) → Tree → Reg (suc d) → ℕ → Arr d
cut_arrow_reg d f W j = cut_arrow d (arrow_reg d (arr (suc d) f) j) (reg_region d W j)

unfoldable pub cut_arrow_sing : (d : ℕ) → Tree → Reg (suc d) → ℕ → Arr d
cut_arrow_sing d f W i = cut_arrow d (arrow_sing d (arr (suc d) f) i) (sing_region d W (height d (arr (suc d) f) i))

-- of a diagram
unfoldable pub cut_reg : (d : ℕ) → Tree → Reg (suc d) → ℕ → Dia d
cut_reg d t W j = cut_diagram d (reg d (dia (suc d) t) j) (reg_region d W j)

unfoldable pub cut_sing : (d : ℕ) → Tree → Reg (suc d) → ℕ → Dia d
cut_sing d t W i = cut_diagram d (sing d (dia (suc d) t) i) (sing_region d W i)

unfoldable pub cut_fwd : (d : ℕ) → Tree → Reg (suc d) → ℕ → Arr d
cut_fwd d t W k = cut_arrow d (fwd d (dia (suc d) t) k) (sing_region d W k)

unfoldable pub cut_bwd : (d : ℕ) → Tree → Reg (suc d) → ℕ → Arr d
cut_bwd d t W k = cut_arrow d (bwd d (dia (suc d) t) k) (sing_region d W k)

-- the answer is n ids of diagrams, of which the j-th has the tree f j
pub record MakesDiagrams {E : Type 0} (old new : Contents) (n : ℕ) (f : ℕ → Tree) (r : Result (SmallVec ℕ) E) : Type 0 where
  pub grows : Grows old new
  pub gathers : IfOk r (λ ids. Gathers new.diagrams ids.items n f)
