-- The trees of contractions and of settlings.
use Rattle.std.proofs.Common.{◌≡◌, ℕ, zero, suc, ◌+◌, Bool, List, length, refl, sym, ap, subst, arith}
use Rattle.std.specs.Prelude.{◌↔◌, Result, Ok, Err}
use Rattle.std.proofs.lemmas.List.{length-map}
use Rattle.diagram_terms.specs.declared.place.Bias.{Bias}
use Rattle.diagram_terms.specs.Decoded.{dia, arr, dia_tree, arr_tree}
use Rattle.diagram_terms.specs.Dimension.{dimension_of}
use Rattle.diagram_terms.specs.Family.{Dia, length_of}
use Rattle.diagram_terms.specs.Shape.{IsArrow}
use Rattle.diagram_terms.specs.Slices.{AreParallel}
use Rattle.diagram_terms.specs.OnTrees.{on_diagram}
use Rattle.diagram_terms.specs.Tree.{Tree}
use Rattle.diagram_terms.proofs.Dimensions.{arrow_dimension}
use Rattle.diagram_terms.proofs.FamilyShapes.{arrow_shape, valid_arrow_fits}
use Rattle.diagram_terms.proofs.Glue.{dia-dia_tree, arr-arr_tree, dia_tree-dia}
use Rattle.diagram_terms.specs.Good.{GoodDiagram, GoodArrow}
use Rattle.diagram_terms.specs.Contraction.{Contraction, ContractionFault, ContractsAlong, RefusesAlong, contract, stored_contraction}
use Rattle.diagram_terms.specs.Settling.{Step, settled, all_steps, settle}
use Rattle.diagram_terms.specs.GoodTrees.{IsGoodTree, IsGoodArrowTree}
use Rattle.diagram_terms.specs.ContractionTrees.{ContractionTrees, trees_of_contraction, contraction_trees}
use Rattle.diagram_terms.specs.SettlingTrees.{steps_at, settling_heights, settled_tree, settling_tree}
use Rattle.occurrence_laws.proofs.TreeParts.{good_tree, tree-dimension, parallel_trees}
use Rattle.contraction_laws.proofs.TwoHeights.{good_contraction, one_boundary, good_stored_contraction}
use Rattle.contraction_laws.proofs.ContractionProofs.{contraction_answered, contraction_fault_answered, answers_contractions, answers_contraction_faults}
use Rattle.contraction_laws.proofs.Settlings.{good_settled, good_steps, settled-length, settle-settles, none-good}

-- ---- contraction

module _ (t : Tree) (g : IsGoodTree t) where
  abbrev n : ℕ
  n = dimension_of t

  abbrev C : Dia n
  C = dia n t

  again : dia_tree n C ≡ t
  again = dia_tree-dia n t g.shape

  module _ (path : List ℕ) (k : ℕ) (biases : List Bias) where
    -- what holds of the trees of each contraction holds of the trees that are answered
    answered_with : (P : ContractionTrees → Type 0)
        → ((c : Contraction n) → contract n C path k biases ≡ Ok c
        → P (record { result = dia_tree n c.result; arrow = arr_tree n c.arrow; stored = dia_tree (suc n) (stored_contraction n C c) }))
        → (c : ContractionTrees) → contraction_trees t path k biases ≡ Ok c → P c
    unfolding contraction_trees on_diagram
    answered_with P h c e = by (contract n C path k biases) h e
      where
        by : (r : Result (Contraction n) ContractionFault)
            → ((c : Contraction n) → r ≡ Ok c → P (record { result = dia_tree n c.result; arrow = arr_tree n c.arrow; stored = dia_tree (suc n) (stored_contraction n C c) }))
            → trees_of_contraction n C r ≡ Ok c → P c
        by (Err f) h e = absurd (cc)
        by (Ok b) h e = (let same : record { result = dia_tree n b.result; arrow = arr_tree n b.arrow; stored = dia_tree (suc n) (stored_contraction n C b) } ≡ c = cc in
            subst P same (h b refl))

    pub contraction_trees-computed : (c : Contraction n) → ContractsAlong n C path k biases c.result c.arrow → contraction_trees t path k biases ≡ trees_of_contraction n C (Ok c)
    unfolding contraction_trees on_diagram
    contraction_trees-computed c h = ap (trees_of_contraction n C) (answers_contractions 0 n C path k biases c.result c.arrow g.good h)

    refused_by : (r : Result (Contraction n) ContractionFault) (e : ContractionFault) → trees_of_contraction n C r ≡ Err e → r ≡ Err e
    refused_by (Err f) e h = (let same : f ≡ e = cc in ap Err same)
    refused_by (Ok c) e h = absurd (cc)

    pub contraction_trees-refused : (e : ContractionFault) → (contraction_trees t path k biases ≡ Err e) ↔ RefusesAlong 0 n C path k biases e
    unfolding contraction_trees on_diagram
    contraction_trees-refused e = (
      λ h. contraction_fault_answered 0 n C path k biases g.good e (refused_by (contract n C path k biases) e h),
      λ r. ap (trees_of_contraction n C) (answers_contraction_faults 0 n C path k biases e g.good r),
    )

    pub contraction_trees-good : (c : ContractionTrees) → contraction_trees t path k biases ≡ Ok c → IsGoodArrowTree t c.result c.arrow
    contraction_trees-good = answered_with (λ c. IsGoodArrowTree t c.result c.arrow) (λ c e.
        let f = good_contraction n C path k biases c.result c.arrow g.good (contraction_answered 0 n C path k biases g.good c e) in
        let shape : IsArrow n (arr_tree n c.arrow) = arrow_shape n c.arrow (valid_arrow_fits n C c.result c.arrow f.valid) in
        let dim : dimension_of (arr_tree n c.arrow) ≡ n = arrow_dimension n (arr_tree n c.arrow) shape in
        record {
          source = g;
          target = good_tree n c.result f.target;
          shape = subst (λ (m : ℕ). IsArrow m (arr_tree n c.arrow)) (sym dim) shape;
          target_dim = tree-dimension n c.result f.target;
          arrow_dim = dim;
          good = subst (λ (Y : Dia n). GoodArrow n C Y (arr n (arr_tree n c.arrow))) (sym (dia-dia_tree n c.result))
              (subst (GoodArrow n C c.result) (sym (arr-arr_tree n c.arrow)) f);
        })

    pub contraction_trees-parallel : (c : ContractionTrees) → contraction_trees t path k biases ≡ Ok c → AreParallel t c.result
    contraction_trees-parallel = answered_with (λ c. AreParallel t c.result) (λ c e.
        let a = contraction_answered 0 n C path k biases g.good c e in
        let f = good_contraction n C path k biases c.result c.arrow g.good a in
        subst (λ (s : Tree). AreParallel s (dia_tree n c.result)) again
        (parallel_trees n C c.result g.good f.target (one_boundary n C path k biases c.result c.arrow g.good a)))

    pub stored_tree-good : (c : ContractionTrees) → contraction_trees t path k biases ≡ Ok c → IsGoodTree c.stored × (dimension_of c.stored ≡ suc n)
    stored_tree-good = answered_with (λ c. IsGoodTree c.stored × (dimension_of c.stored ≡ suc n)) (λ c e.
        let s = good_stored_contraction n C path k biases c.result c.arrow g.good (contraction_answered 0 n C path k biases g.good c e) in
        (good_tree (suc n) (stored_contraction n C c) s, tree-dimension (suc n) (stored_contraction n C c) s))

  -- ---- settling

  module _ (accept : Tree → Bool) where
    -- of a diagram of any dimension
    record StepsHold (m : ℕ) (D : Dia m) (steps : List (Step m)) : Type 0 where
      left : GoodDiagram m (settled m D steps)
      all : GoodDiagram (suc m) (all_steps m D steps)
      shorter : length_of m (settled m D steps) + length steps ≡ length_of m D

    steps_hold : (m : ℕ) (D : Dia m) → GoodDiagram m D → StepsHold m D (steps_at accept m D)
    steps_hold zero D gD = record { left = gD; all = none-good zero D gD; shorter = refl }
    steps_hold (suc d) D gD =
        let test : Dia (suc (suc d)) → Bool = λ E. accept (dia_tree (suc (suc d)) E) in
        let s = settle-settles d test D gD in
        record {
          left = good_settled d test D (settle d test D) gD s;
          all = good_steps d test D (settle d test D) gD s;
          shorter = settled-length d test D (settle d test D) gD s;
        }

    hold : StepsHold n C (steps_at accept n C)
    hold = steps_hold n C g.good

    pub settling_tree-good : IsGoodTree (settling_tree accept t) × (dimension_of (settling_tree accept t) ≡ suc n)
    unfolding settling_tree on_diagram
    settling_tree-good = let a = hold.all in (good_tree (suc n) _ a, tree-dimension (suc n) _ a)

    pub settled_tree-good : IsGoodTree (settled_tree accept t) × (dimension_of (settled_tree accept t) ≡ n)
    unfolding settled_tree on_diagram
    settled_tree-good = let a = hold.left in (good_tree n _ a, tree-dimension n _ a)

    pub settled_tree-shorter : length_of n (dia n (settled_tree accept t)) + length (settling_heights accept t) ≡ length_of n C
    unfolding settled_tree settling_heights on_diagram
    settled_tree-shorter =
        let steps : List (Step n) = steps_at accept n C in
        let a = ap (length_of n) (dia-dia_tree n (settled n C steps)) in
        let b = length-map steps (λ (s : Step n). s.height) in
        let e = hold.shorter in
        omega arith
