-- The laws of sums, occurrences, attachment and expansion, on trees.
use Rattle.std.specs.Prelude.{◌≡◌, ◌<◌, ◌↔◌, ℕ, suc, List, None, Ok}
use Rattle.std.specs.List.{Contains}
use Rattle.diagram_terms.specs.declared.label.Label.{Label}
use Rattle.diagram_terms.specs.declared.place.Side.TheVariants as side
use Rattle.diagram_terms.specs.ConeTrees.{HasLabelsBelowTree}
use Rattle.diagram_terms.specs.Dimension.{dimension_of}
use Rattle.diagram_terms.specs.Slices.{AreParallel, source_tree, target_tree}
use Rattle.diagram_terms.specs.Tree.{Tree}
use Rattle.diagram_terms.specs.GoodTrees.{IsGoodTree, IsGoodArrowTree}
use Rattle.diagram_terms.specs.SumTrees.{sum_tree}
use Rattle.diagram_terms.specs.AttachmentTrees.{refused_step_tree, matches_tree, attached_tree}
use Rattle.diagram_terms.specs.ExpansionTrees.{ExpansionTrees, expansion_trees}

-- the sum of two valid plain diagrams of one dimension above 0, of which one ends where the other begins, is valid and plain,
-- and has their dimension
abbrev pub SumTreesAreGood : Type 0
SumTreesAreGood = (s t : Tree) → IsGoodTree s → IsGoodTree t → 0 < dimension_of s → dimension_of t ≡ dimension_of s → target_tree s ≡ source_tree t
    → IsGoodTree (sum_tree s t) × (dimension_of (sum_tree s t) ≡ dimension_of s)

-- the matches are the offsets without a refused step
abbrev pub MatchTreesAreOccurrences : Type 0
MatchTreesAreOccurrences = (b s : Tree) (e : List ℕ) → Contains (matches_tree b s) e ↔ (refused_step_tree b e s ≡ None)

-- s and t are the boundary of a generator that can be attached to b: valid plain parallel diagrams of one dimension less, with
-- labels below x
pub record IsAttachable (b s t : Tree) (x : Label) : Type 0 where
  pub diagram : IsGoodTree b
  pub source : IsGoodTree s
  pub target : IsGoodTree t
  pub dimension : dimension_of b ≡ suc (dimension_of s)
  pub parallel : AreParallel s t
  pub labels_below_source : HasLabelsBelowTree x.dim s
  pub labels_below_target : HasLabelsBelowTree x.dim t

-- attached where there is no refused step it gives a valid plain diagram of the same dimension
abbrev pub AttachedTreesAtTargetAreGood : Type 0
AttachedTreesAtTargetAreGood = (b s t : Tree) (e : List ℕ) (x : Label) → IsAttachable b s t x → refused_step_tree (target_tree b) e s ≡ None
    → IsGoodTree (attached_tree side.Target b e s t x) × (dimension_of (attached_tree side.Target b e s t x) ≡ dimension_of b)

abbrev pub AttachedTreesAtSourceAreGood : Type 0
AttachedTreesAtSourceAreGood = (b s t : Tree) (e : List ℕ) (x : Label) → IsAttachable b s t x → refused_step_tree (source_tree b) e t ≡ None
    → IsGoodTree (attached_tree side.Source b e s t x) × (dimension_of (attached_tree side.Source b e s t x) ≡ dimension_of b)

-- the arrow from an expanded diagram is valid and plain, and the diagram that is stored, of one dimension more, too
abbrev pub ExpansionTreesAreGood : Type 0
ExpansionTreesAreGood = (t : Tree) (k i : ℕ) (c : ExpansionTrees) → IsGoodTree t → expansion_trees t k i ≡ Ok c
    → IsGoodArrowTree c.result t c.arrow × IsGoodTree c.stored × (dimension_of c.stored ≡ suc (dimension_of t))
