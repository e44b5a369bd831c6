-- What a program finds at one level of a diagram, part by part.
use Rattle.std.proofs.Common.{◌≡◌, ℕ, zero, suc, ◌+◌, ◌<◌, ◌≤◌, List, length, get_or, Vec, Global, All, Option, None, Some, refl, sym, ap, ◌∙◌, subst, arith}
use Rattle.diagram_terms.specs.declared.label.Label.{Label}
use Rattle.diagram_terms.specs.declared.place.Place.{Place}
use Rattle.diagram_terms.specs.declared.place.Step.TheVariants as step
use Rattle.diagram_terms.specs.declared.tree.Arrow.{Arrow}
use Rattle.diagram_terms.specs.declared.tree.Diagram.{Diagram}
use Rattle.diagram_terms.specs.declared.tree.Diagram.TheVariants as diagram
use Rattle.diagram_terms.specs.Tree.{kind, kind-point, kind-zig}
use Rattle.diagram_terms.specs.Family.{Dia, no_dia, reg, sing, fwd, bwd}
use Rattle.diagram_terms.specs.Decoded.{dia, dia_tree}
use Rattle.diagram_terms.specs.Shape.{IsDiagram}
use Rattle.diagram_terms.specs.Valid.{Valid}
use Rattle.diagram_terms.specs.Places.{further_in, Test, Passes, under, at_each, arrow_tests, leg_tests, tests_of, first_failure, first_bad_place}
use Rattle.diagram_terms.specs.Levels.{StandsBetween, HoldsSlices, HoldsLegs, reg_slice_tests, sing_slice_tests}
use Rattle.diagram_terms.specs.Values.{tree_of_diagram, trees_of_arrows, trees_of_diagrams}
use Rattle.diagram_terms.proofs.Decisions.{passes_each, passes_under}
use Rattle.diagram_terms.proofs.FamilyShapes.{DiagramFits, diagram_fits_from, diagram_shape, arrow_shape}
use Rattle.diagram_terms.proofs.FirstFaults.{none_iff_all_pass, diagram_passes}
use Rattle.diagram_terms.proofs.Glue.{dia-dia_tree, dia_tree-dia}
use Rattle.diagram_terms.proofs.HeldArrows.{held_arrow, held_length}
use Rattle.diagram_terms.proofs.HeldDiagrams.{AreHeldSlices, held_diagram, held_diagrams_length, held_slices}
use Rattle.diagram_terms.proofs.Shapes.{kind-diagram_zero, kind-diagram_above}
use Rattle.diagram_terms.proofs.ValuesAsTrees.{tree_of_diagram-Zero, tree_of_diagram-Zig}
use Rattle.diagram_terms.proofs.Visiting.{append_fails, append_passes, under_fails, under_passes, each_fails, each_passes, PassBefore, first_of_three, second_of_three, last_of_three}

-- ---- slices in a list

module _ (d : ℕ) (slices : List (Dia d)) (held : List Diagram) (r : HoldsSlices d slices held) where
  pub slices_len : length held ≡ length slices
  slices_len = held_diagrams_length d held slices r.held_are

  module _ (k : ℕ) (x : Diagram) (l : k < length held) (x_is : x ≡ get_or held k x) where
    slice_tree : tree_of_diagram x ≡ dia_tree d (get_or slices k (no_dia d))
    slice_tree = held_diagram d held slices r.held_are k x l x_is

    pub slice_shape : IsDiagram d (tree_of_diagram x)
    slice_shape = let n = slices_len in subst (IsDiagram d) (sym slice_tree) (r.shapes k (omega arith))

    pub slice_answer : (found : Option Place) → ((n : ℕ) → IsDiagram n (tree_of_diagram x) → found ≡ first_bad_place n (dia n (tree_of_diagram x)))
        → found ≡ first_failure (tests_of d (get_or slices k (no_dia d)))
    slice_answer found answer =
        answer d slice_shape ∙ ap (first_bad_place d) (ap (dia d) slice_tree ∙ dia-dia_tree d (get_or slices k (no_dia d)))

  abbrev pub reg_slice_test : ℕ → List Test
  reg_slice_test j = under (step.R j) (tests_of d (get_or slices j (no_dia d)))

  pub reg_slice_fails : (k : ℕ) (p : Place) → k < length held → PassBefore reg_slice_test k → Some p ≡ first_failure (tests_of d (get_or slices k (no_dia d)))
      → Some (further_in (step.R k) p) ≡ first_failure (reg_slice_tests d slices)
  reg_slice_fails k p l before e = let n = slices_len in
      sym (each_fails reg_slice_test (length slices) k (further_in (step.R k) p) (omega arith) before (under_fails (step.R k) (tests_of d (get_or slices k (no_dia d))) p (sym e)))

  pub reg_slice_passes : (k : ℕ) → None ≡ first_failure (tests_of d (get_or slices k (no_dia d))) → first_failure (reg_slice_test k) ≡ None
  reg_slice_passes k e = under_passes (step.R k) (tests_of d (get_or slices k (no_dia d))) (sym e)

  pub reg_slices_pass : (k : ℕ) → length held ≤ k → PassBefore reg_slice_test k → None ≡ first_failure (reg_slice_tests d slices)
  reg_slices_pass k l h = let n = slices_len in sym (each_passes reg_slice_test (length slices) (λ i q. h i (omega arith)))

  abbrev pub sing_slice_test : ℕ → List Test
  sing_slice_test i = under (step.S i) (tests_of d (get_or slices i (no_dia d)))

  pub sing_slice_fails : (k : ℕ) (p : Place) → k < length held → PassBefore sing_slice_test k → Some p ≡ first_failure (tests_of d (get_or slices k (no_dia d)))
      → Some (further_in (step.S k) p) ≡ first_failure (sing_slice_tests d slices)
  sing_slice_fails k p l before e = let n = slices_len in
      sym (each_fails sing_slice_test (length slices) k (further_in (step.S k) p) (omega arith) before (under_fails (step.S k) (tests_of d (get_or slices k (no_dia d))) p (sym e)))

  pub sing_slice_passes : (k : ℕ) → None ≡ first_failure (tests_of d (get_or slices k (no_dia d))) → first_failure (sing_slice_test k) ≡ None
  sing_slice_passes k e = under_passes (step.S k) (tests_of d (get_or slices k (no_dia d))) (sym e)

  pub sing_slices_pass : (k : ℕ) → length held ≤ k → PassBefore sing_slice_test k → None ≡ first_failure (sing_slice_tests d slices)
  sing_slices_pass k l h = let n = slices_len in sym (each_passes sing_slice_test (length slices) (λ i q. h i (omega arith)))

-- ---- slices whose tests pass are valid

diagram_decided : (d : ℕ) (X : Dia d) → IsDiagram d (dia_tree d X) → All Passes (tests_of d X) → Valid d X
diagram_decided d X h =
    let P : Dia d → Type 0 = λ Y. All Passes (tests_of d Y) → Valid d Y in
    subst P (dia-dia_tree d X) (diagram_passes d (dia_tree d X) h).0

module _ (d : ℕ) (slices : List (Dia d)) (shapes : (k : ℕ) → k < length slices → IsDiagram d (dia_tree d (get_or slices k (no_dia d)))) where
  regs_decided : None ≡ first_failure (reg_slice_tests d slices) → (k : ℕ) → k < length slices → Valid d (get_or slices k (no_dia d))
  regs_decided e k l =
      let pass = (passes_each (length slices) (λ j. under (step.R j) (tests_of d (get_or slices j (no_dia d))))).0 ((none_iff_all_pass (reg_slice_tests d slices)).0 (sym e)) in
      diagram_decided d (get_or slices k (no_dia d)) (shapes k l) ((passes_under (step.R k) (tests_of d (get_or slices k (no_dia d)))).0 (pass k l))

  sings_decided : None ≡ first_failure (sing_slice_tests d slices) → (k : ℕ) → k < length slices → Valid d (get_or slices k (no_dia d))
  sings_decided e k l =
      let pass = (passes_each (length slices) (λ j. under (step.S j) (tests_of d (get_or slices j (no_dia d))))).0 ((none_iff_all_pass (sing_slice_tests d slices)).0 (sym e)) in
      diagram_decided d (get_or slices k (no_dia d)) (shapes k l) ((passes_under (step.S k) (tests_of d (get_or slices k (no_dia d)))).0 (pass k l))

-- ---- legs

module _ (d : ℕ) (X : Dia (suc d)) (regs sings : List Diagram) (fwds bwds : List Arrow) (r : HoldsLegs d X regs sings fwds bwds) where
  leg_shapes : DiagramFits (suc d) X
  leg_shapes = diagram_fits_from (suc d) X r.shape

  pub legs_sings_len : length sings ≡ length X.sings
  legs_sings_len = held_diagrams_length d sings X.sings r.sings_are

  pub legs_regs_len : length regs ≡ suc (length sings)
  legs_regs_len = held_diagrams_length d regs X.regs r.regs_are ∙ (leg_shapes).regs_len ∙ ap suc (sym legs_sings_len)

  pub legs_fwds_len : length fwds ≡ length sings
  legs_fwds_len = held_length d fwds X.fwds r.fwds_are ∙ (leg_shapes).fwds_len ∙ sym legs_sings_len

  pub legs_bwds_len : length bwds ≡ length sings
  legs_bwds_len = held_length d bwds X.bwds r.bwds_are ∙ (leg_shapes).bwds_len ∙ sym legs_sings_len

  module _ (k : ℕ) (l : k < length sings) (g : Arrow) (x y : Diagram) (y_is : y ≡ get_or sings k y) where
    pub fwd_between : g ≡ get_or fwds k g → x ≡ get_or regs k x → StandsBetween d (fwd d X k) (reg d X k) (sing d X k) g x y
    fwd_between g_is x_is =
        let n = legs_sings_len in
        let rl = legs_regs_len in
        let fl = legs_fwds_len in
        record {
          leg_is = held_arrow d fwds X.fwds r.fwds_are k g (omega arith) g_is;
          from_is = held_diagram d regs X.regs r.regs_are k x (omega arith) x_is;
          to_is = held_diagram d sings X.sings r.sings_are k y l y_is;
          shape = arrow_shape d (fwd d X k) ((leg_shapes).fwds k (omega arith));
          from_valid = r.regs_valid k (omega arith);
          to_valid = r.sings_valid k (omega arith);
        }

    pub bwd_between : g ≡ get_or bwds k g → x ≡ get_or regs (k + 1) x → StandsBetween d (bwd d X k) (reg d X (suc k)) (sing d X k) g x y
    bwd_between g_is x_is =
        let n = legs_sings_len in
        let rl = legs_regs_len in
        let bl = legs_bwds_len in
        let next : k + 1 ≡ suc k = omega arith in
        record {
          leg_is = held_arrow d bwds X.bwds r.bwds_are k g (omega arith) g_is;
          from_is = held_diagram d regs X.regs r.regs_are (k + 1) x (omega arith) x_is ∙ ap (λ (m : ℕ). dia_tree d (reg d X m)) next;
          to_is = held_diagram d sings X.sings r.sings_are k y l y_is;
          shape = arrow_shape d (bwd d X k) ((leg_shapes).bwds k (omega arith));
          from_valid = r.regs_valid (suc k) (omega arith);
          to_valid = r.sings_valid k (omega arith);
        }

  module _ (k : ℕ) where
    abbrev fwd_tests : List Test
    fwd_tests = arrow_tests d (reg d X k) (sing d X k) (fwd d X k)

    abbrev bwd_tests : List Test
    bwd_tests = arrow_tests d (reg d X (suc k)) (sing d X k) (bwd d X k)

    pub fwd_fails : (p : Place) → k < length sings → PassBefore (leg_tests d X) k → Some p ≡ first_failure fwd_tests
        → Some (further_in (step.F k) p) ≡ first_failure (at_each (length X.sings) (leg_tests d X))
    fwd_fails p l before e = let n = legs_sings_len in
        sym (each_fails (leg_tests d X) (length X.sings) k (further_in (step.F k) p) (omega arith) before
        (append_fails (under (step.F k) fwd_tests) (under (step.B k) bwd_tests) (further_in (step.F k) p) (under_fails (step.F k) fwd_tests p (sym e))))

    pub bwd_fails : (p : Place) → k < length sings → PassBefore (leg_tests d X) k → None ≡ first_failure fwd_tests → Some p ≡ first_failure bwd_tests
        → Some (further_in (step.B k) p) ≡ first_failure (at_each (length X.sings) (leg_tests d X))
    bwd_fails p l before f e = let n = legs_sings_len in
        sym (each_fails (leg_tests d X) (length X.sings) k (further_in (step.B k) p) (omega arith) before
        (append_passes (under (step.F k) fwd_tests) (under (step.B k) bwd_tests) (under_passes (step.F k) fwd_tests (sym f)) ∙ under_fails (step.B k) bwd_tests p (sym e)))

    pub both_pass : None ≡ first_failure fwd_tests → None ≡ first_failure bwd_tests → first_failure (leg_tests d X k) ≡ None
    both_pass f e = append_passes (under (step.F k) fwd_tests) (under (step.B k) bwd_tests) (under_passes (step.F k) fwd_tests (sym f)) ∙ under_passes (step.B k) bwd_tests (sym e)

  pub legs_pass : (k : ℕ) → length sings ≤ k → PassBefore (leg_tests d X) k → None ≡ first_failure (at_each (length X.sings) (leg_tests d X))
  legs_pass k l h = let n = legs_sings_len in sym (each_passes (leg_tests d X) (length X.sings) (λ i q. h i (omega arith)))

-- ---- the whole level

pub label_has_none : (a : Diagram) (x : Label) → a ≡ diagram.Zero x → (n : ℕ) → IsDiagram n (tree_of_diagram a) → None ≡ first_bad_place n (dia n (tree_of_diagram a))
label_has_none a x e zero h = refl
label_has_none a x e (suc n) h =
    let t : tree_of_diagram a ≡ _ = ap tree_of_diagram e ∙ tree_of_diagram-Zero x in
    absurd (omega (arith, sym (kind-diagram_above n (tree_of_diagram a) h) ∙ ap kind t ∙ kind-point _))

module _ (a : Diagram) (rs ss : Vec Diagram Global) (fs bs : Vec Arrow Global) (e : a ≡ diagram.Zig rs ss fs bs) where
  no_point : IsDiagram 0 (tree_of_diagram a) → ⊥
  no_point h =
      let t : tree_of_diagram a ≡ _ = ap tree_of_diagram e ∙ tree_of_diagram-Zig rs ss fs bs in
      omega (arith, sym (kind-diagram_zero (tree_of_diagram a) h) ∙ ap kind t ∙ kind-zig _ _ _ _)

  -- a diagram that is no label has a dimension above 0
  pub dimension_above : (n : ℕ) → IsDiagram n (tree_of_diagram a) → (d : ℕ) × IsDiagram (suc d) (tree_of_diagram a)
  dimension_above zero h = absurd (no_point h)
  dimension_above (suc d) h = (d, h)

  pub found_in_zigzag : (found : Option Place) → ((d : ℕ) → IsDiagram (suc d) (tree_of_diagram a) → found ≡ first_bad_place (suc d) (dia (suc d) (tree_of_diagram a)))
      → (n : ℕ) → IsDiagram n (tree_of_diagram a) → found ≡ first_bad_place n (dia n (tree_of_diagram a))
  found_in_zigzag found answer zero h = absurd (no_point h)
  found_in_zigzag found answer (suc d) h = answer d h

  module _ (d : ℕ) (h : IsDiagram (suc d) (tree_of_diagram a)) where
    abbrev pub the_diagram : Dia (suc d)
    the_diagram = dia (suc d) (tree_of_diagram a)

    held_tree : tree_of_diagram a ≡ dia_tree (suc d) the_diagram
    held_tree = sym (dia_tree-dia (suc d) (tree_of_diagram a) h)

    parts : AreHeldSlices d the_diagram rs.items ss.items fs.items bs.items
    parts = held_slices d the_diagram a rs ss fs bs e held_tree

    family_shape : IsDiagram (suc d) (dia_tree (suc d) the_diagram)
    family_shape = subst (IsDiagram (suc d)) held_tree h

    fits : DiagramFits (suc d) the_diagram
    fits = diagram_fits_from (suc d) the_diagram family_shape

    pub holds_regs : (regs : List Diagram) → regs ≡ rs.items → HoldsSlices d (the_diagram).regs regs
    holds_regs regs same = let n = (fits).regs_len in record {
      held_are = ap trees_of_diagrams same ∙ (parts).regs_are;
      shapes = λ k l. diagram_shape d (reg d the_diagram k) ((fits).regs k (omega arith));
    }

    pub holds_sings : (sings : List Diagram) → sings ≡ ss.items → HoldsSlices d (the_diagram).sings sings
    holds_sings sings same = record {
      held_are = ap trees_of_diagrams same ∙ (parts).sings_are;
      shapes = λ k l. diagram_shape d (sing d the_diagram k) ((fits).sings k l);
    }

    -- the regular slices are one more than the heights
    counted_regs : reg_slice_tests d (the_diagram).regs ≡ at_each (suc (length (the_diagram).sings)) (λ j. under (step.R j) (tests_of d (reg d the_diagram j)))
    counted_regs = ap (λ (m : ℕ). at_each m (λ j. under (step.R j) (tests_of d (reg d the_diagram j)))) (fits).regs_len

    abbrev pub leg_part : List Test
    leg_part = at_each (length (the_diagram).sings) (leg_tests d the_diagram)

    pub reg_slice_found : (p : Place) → Some p ≡ first_failure (reg_slice_tests d (the_diagram).regs) → Some p ≡ first_bad_place (suc d) the_diagram
    reg_slice_found p s = first_of_three (at_each (suc (length (the_diagram).sings)) (λ j. under (step.R j) (tests_of d (reg d the_diagram j))))
        (sing_slice_tests d (the_diagram).sings) leg_part p (s ∙ ap first_failure counted_regs)

    module _ (no_reg : None ≡ first_failure (reg_slice_tests d (the_diagram).regs)) where
      pub sing_slice_found : (p : Place) → Some p ≡ first_failure (sing_slice_tests d (the_diagram).sings) → Some p ≡ first_bad_place (suc d) the_diagram
      sing_slice_found p s = second_of_three (at_each (suc (length (the_diagram).sings)) (λ j. under (step.R j) (tests_of d (reg d the_diagram j))))
          (sing_slice_tests d (the_diagram).sings) leg_part p (no_reg ∙ ap first_failure counted_regs) s

      pub legs_decide : None ≡ first_failure (sing_slice_tests d (the_diagram).sings) → first_failure leg_part ≡ first_bad_place (suc d) the_diagram
      legs_decide s = last_of_three (at_each (suc (length (the_diagram).sings)) (λ j. under (step.R j) (tests_of d (reg d the_diagram j))))
          (sing_slice_tests d (the_diagram).sings) leg_part (no_reg ∙ ap first_failure counted_regs) s

      pub holds_legs : None ≡ first_failure (sing_slice_tests d (the_diagram).sings) → (regs sings : List Diagram) (fwds bwds : List Arrow)
          → regs ≡ rs.items → sings ≡ ss.items → fwds ≡ fs.items → bwds ≡ bs.items → HoldsLegs d the_diagram regs sings fwds bwds
      holds_legs no_sing regs sings fwds bwds e1 e2 e3 e4 =
          let n = (fits).regs_len in
          record {
            shape = family_shape;
            regs_valid = λ j l. regs_decided d (the_diagram).regs (holds_regs rs.items refl).shapes no_reg j (omega arith);
            sings_valid = λ i l. sings_decided d (the_diagram).sings (holds_sings ss.items refl).shapes no_sing i l;
            regs_are = ap trees_of_diagrams e1 ∙ (parts).regs_are;
            sings_are = ap trees_of_diagrams e2 ∙ (parts).sings_are;
            fwds_are = ap trees_of_arrows e3 ∙ (parts).fwds_are;
            bwds_are = ap trees_of_arrows e4 ∙ (parts).bwds_are;
          }
