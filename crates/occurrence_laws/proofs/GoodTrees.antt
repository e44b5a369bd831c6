-- The laws on trees.
use Rattle.std.proofs.Common.{◌≡◌, ℕ, zero, suc, ◌<◌, List, length, refl, sym, ap, ◌∙◌, subst, arith}
use Rattle.std.specs.Prelude.{None, Result, Ok, Err}
use Rattle.diagram_terms.specs.declared.label.Label.{Label}
use Rattle.diagram_terms.specs.declared.place.Side.TheVariants as side
use Rattle.diagram_terms.specs.Cone.{source, target, Parallel, HasLabelsBelow}
use Rattle.diagram_terms.specs.ConeTrees.{HasLabelsBelowTree}
use Rattle.diagram_terms.specs.Decoded.{dia, dia_tree, arr_tree}
use Rattle.diagram_terms.specs.Dimension.{dimension_of}
use Rattle.diagram_terms.specs.Family.{Dia}
use Rattle.diagram_terms.specs.OnTrees.{on_diagram}
use Rattle.diagram_terms.specs.Shape.{IsDiagram}
use Rattle.diagram_terms.specs.Slices.{source_tree, target_tree}
use Rattle.diagram_terms.specs.Tree.{Tree, regs, sings}
use Rattle.diagram_terms.specs.Good.{GoodDiagram}
use Rattle.diagram_terms.specs.GoodTrees.{IsGoodTree, IsGoodArrowTree}
use Rattle.diagram_terms.specs.Occurrences.{Inside}
use Rattle.diagram_terms.specs.Expansion.{Expansion, stored_expansion, ExpansionFault, expand}
use Rattle.diagram_terms.specs.SumTrees.{sum_at, sum_tree}
use Rattle.diagram_terms.specs.AttachmentTrees.{refused_step_tree, matches_tree, attached_on, attached_tree}
use Rattle.diagram_terms.specs.ExpansionTrees.{ExpansionTrees, trees_of_expansion, expansion_trees}
use Rattle.diagram_terms.proofs.Dimensions.{dimension_of-reg_at, length-regs}
use Rattle.diagram_terms.proofs.Glue.{dia_tree-dia}
use Rattle.occurrence_laws.specs.TreeLaws.{SumTreesAreGood, MatchTreesAreOccurrences, IsAttachable, AttachedTreesAtTargetAreGood, AttachedTreesAtSourceAreGood, ExpansionTreesAreGood}
use Rattle.occurrence_laws.proofs.TreeParts.{good_tree, tree-dimension, good_arrow_tree, source-held, target-held, parallel_held}
use Rattle.occurrence_laws.proofs.LawProofs.{sums_are_good, attached_at_target_is_good, attached_at_source_is_good}
use Rattle.occurrence_laws.proofs.Matches.{matches_are_occurrences}
use Rattle.occurrence_laws.proofs.RefusedSteps.{none_means_inside}
use Rattle.occurrence_laws.proofs.ExpansionAnswers.{expansions_are_good, stored_expansions_are_good}

-- a tree of a dimension that is known
record GoodAt (n : ℕ) (t : Tree) : Type 0 where
  shape : IsDiagram n t
  good : GoodDiagram n (dia n t)

good_at : (n : ℕ) (t : Tree) → IsGoodTree t → dimension_of t ≡ n → GoodAt n t
good_at n t g e = subst (λ (m : ℕ). GoodAt m t) e (record { shape = g.shape; good = g.good })

-- ---- sums

sum_good : (n : ℕ) (s t : Tree) → GoodAt n s → GoodAt n t → 0 < n → target_tree s ≡ source_tree t → GoodDiagram n (sum_at n (dia n s) (dia n t))
sum_good zero s t gs gt l e = absurd (omega arith)
sum_good (suc d) s t gs gt l e =
    sums_are_good d (dia (suc d) s) (dia (suc d) t) gs.good gt.good
    (target-held d s gs.shape ∙ ap (dia d) e ∙ sym (source-held d t gt.shape))

pub sum_trees_are_good : SumTreesAreGood
unfolding sum_tree on_diagram
sum_trees_are_good s t gs gt l dims e =
    let n : ℕ = dimension_of s in
    let g = sum_good n s t (good_at n s gs refl) (good_at n t gt dims) l e in
    (good_tree n _ g, tree-dimension n _ g)

-- ---- occurrences

pub match_trees_are_occurrences : MatchTreesAreOccurrences
unfolding matches_tree refused_step_tree on_diagram
match_trees_are_occurrences b s e =
    let n : ℕ = dimension_of b in
    let m = matches_are_occurrences n (dia n b) (dia n s) e in
    let r = none_means_inside n (dia n b) e (dia n s) 0 in
    (λ c. r.1 (m.0 c), λ h. m.1 (r.0 h))

-- ---- attachment

inside_at : (d : ℕ) (b : Tree) (e : List ℕ) (s : Tree) → dimension_of b ≡ d → refused_step_tree b e s ≡ None → Inside d (dia d b) e (dia d s)
unfolding refused_step_tree on_diagram
inside_at d b e s dim h =
    subst (λ (m : ℕ). Inside m (dia m b) e (dia m s)) dim ((none_means_inside (dimension_of b) (dia (dimension_of b) b) e (dia (dimension_of b) s) 0).0 h)

labels_at : (d n : ℕ) (s : Tree) → dimension_of s ≡ d → HasLabelsBelowTree n s → HasLabelsBelow n d (dia d s)
unfolding HasLabelsBelowTree on_diagram
labels_at d n s dim h = subst (λ (m : ℕ). HasLabelsBelow n m (dia m s)) dim h

module _ (b s t : Tree) (e : List ℕ) (x : Label) (a : IsAttachable b s t x) where
  abbrev d : ℕ
  d = dimension_of s

  held : GoodAt (suc d) b
  held = good_at (suc d) b a.diagram a.dimension

  other : GoodAt d t
  other = good_at d t a.target (sym a.parallel.dims)

  above : length (regs b) ≡ suc (length (sings b))
  above = length-regs b a.diagram.shape (let e = a.dimension in omega arith)

  target_dim : dimension_of (target_tree b) ≡ d
  target_dim = (let n = dimension_of-reg_at b (length (sings b)) a.diagram.shape (let e = above in omega arith) in let e = a.dimension in omega arith)

  source_dim : dimension_of (source_tree b) ≡ d
  source_dim = (let n = dimension_of-reg_at b 0 a.diagram.shape (let e = above in omega arith) in let e = a.dimension in omega arith)

  parallel : Parallel d (dia d s) (dia d t)
  parallel = parallel_held d s t a.source.shape other.shape a.parallel

  good_at_target : refused_step_tree (target_tree b) e s ≡ None → GoodDiagram (suc d) (attached_on side.Target (suc d) (dia (suc d) b) e s t x)
  good_at_target h =
      attached_at_target_is_good d (dia (suc d) b) e (dia d s) (dia d t) x held.good a.source.good other.good
      (labels_at d x.dim s refl a.labels_below_source) (labels_at d x.dim t (sym a.parallel.dims) a.labels_below_target) parallel
      (subst (λ (B : Dia d). Inside d B e (dia d s)) (sym (target-held d b held.shape)) (inside_at d (target_tree b) e s target_dim h))

  good_at_source : refused_step_tree (source_tree b) e t ≡ None → GoodDiagram (suc d) (attached_on side.Source (suc d) (dia (suc d) b) e s t x)
  good_at_source h =
      attached_at_source_is_good d (dia (suc d) b) e (dia d s) (dia d t) x held.good a.source.good other.good
      (labels_at d x.dim s refl a.labels_below_source) (labels_at d x.dim t (sym a.parallel.dims) a.labels_below_target) parallel
      (subst (λ (B : Dia d). Inside d B e (dia d t)) (sym (source-held d b held.shape)) (inside_at d (source_tree b) e t source_dim h))

pub attached_trees_at_target_are_good : AttachedTreesAtTargetAreGood
unfolding attached_tree on_diagram
attached_trees_at_target_are_good b s t e x a h =
    let n : ℕ = dimension_of b in
    let g = subst (λ (m : ℕ). GoodDiagram m (attached_on side.Target m (dia m b) e s t x)) (sym a.dimension) (good_at_target b s t e x a h) in
    (good_tree n _ g, tree-dimension n _ g)

pub attached_trees_at_source_are_good : AttachedTreesAtSourceAreGood
unfolding attached_tree on_diagram
attached_trees_at_source_are_good b s t e x a h =
    let n : ℕ = dimension_of b in
    let g = subst (λ (m : ℕ). GoodDiagram m (attached_on side.Source m (dia m b) e s t x)) (sym a.dimension) (good_at_source b s t e x a h) in
    (good_tree n _ g, tree-dimension n _ g)

-- ---- expansion

abbrev expansion_as_trees : (n : ℕ) → Dia n → Expansion n → ExpansionTrees
expansion_as_trees n D c = record { result = dia_tree n c.result; arrow = arr_tree n c.arrow; stored = dia_tree (suc n) (stored_expansion n D c) }

module _ (t : Tree) (k i : ℕ) (g : IsGoodTree t) where
  abbrev n : ℕ
  n = dimension_of t

  answered : (P : ExpansionTrees → Type 0)
      → ((c : Expansion n) → expand n (dia n t) k i ≡ Ok c → P (expansion_as_trees n (dia n t) c))
      → (c : ExpansionTrees) → expansion_trees t k i ≡ Ok c → P c
  unfolding expansion_trees on_diagram
  answered P h c e = by (expand n (dia n t) k i) h e
    where
      by : (r : Result (Expansion n) ExpansionFault)
          → ((c : Expansion n) → r ≡ Ok c → P (expansion_as_trees n (dia n t) c))
          → trees_of_expansion n (dia n t) r ≡ Ok c → P c
      by (Err f) h e = absurd (cc)
      by (Ok b) h e = (let same : expansion_as_trees n (dia n t) b ≡ c = cc in subst P same (h b refl))

pub expansion_trees_are_good : ExpansionTreesAreGood
expansion_trees_are_good t k i c g =
    let n : ℕ = dimension_of t in
    answered t k i g (λ c. IsGoodArrowTree c.result t c.arrow × IsGoodTree c.stored × (dimension_of c.stored ≡ suc n)) (λ c e.
    let f = expansions_are_good n (dia n t) k i c g.good e in
    let s = stored_expansions_are_good n (dia n t) k i c g.good e in (
      subst (λ (u : Tree). IsGoodArrowTree (dia_tree n c.result) u (arr_tree n c.arrow)) (dia_tree-dia n t g.shape)
          (good_arrow_tree n c.result (dia n t) c.arrow f),
      good_tree (suc n) (stored_expansion n (dia n t) c) s,
      tree-dimension (suc n) (stored_expansion n (dia n t) c) s,
    )) c
