-- The lists from which a program makes the edges of an arrow whose slices are valid.
use Rattle.std.proofs.Common.{◌≡◌, ℕ, suc, ◌+◌, ◌-◌, ◌<◌, ◌≤◌, List, length, get_or, map, take, drop, sym, ap, ◌∙◌, subst, arith}
use Rattle.std.proofs.lemmas.Grind.{get_or_after_one}
use Rattle.std.proofs.lemmas.List.{get_or-map, take-map, drop-map, get_or-take, length-take, length-drop}
use Rattle.diagram_terms.specs.declared.tree.Arrow.{Arrow}
use Rattle.diagram_terms.specs.declared.tree.Diagram.{Diagram}
use Rattle.diagram_terms.specs.Tree.{Tree, nil}
use Rattle.diagram_terms.specs.Family.{Dia, Arr, no_arr, reg, sing, fwd, bwd, height, arrow_reg, arrow_sing}
use Rattle.diagram_terms.specs.Dual.{dual}
use Rattle.diagram_terms.specs.Decoded.{arr_tree}
use Rattle.diagram_terms.specs.Edges.{AreEdges, HoldsEdges, HoldsPairs}
use Rattle.diagram_terms.specs.Valid.{left_edge, right_edge, enter_edge, leave_edge}
use Rattle.diagram_terms.specs.Levels.{SlicesAreValid}
use Rattle.diagram_terms.specs.Values.{tree_of_arrow, trees_of_arrows}
use Rattle.diagram_terms.proofs.Composites.{valid_composable}
use Rattle.diagram_terms.proofs.FamilyShapes.{ArrowFits, arrow_fits_from}
use Rattle.diagram_terms.proofs.HeldArrows.{AreHeldParts, held_length}
use Rattle.diagram_terms.proofs.HeldDiagrams.{AreHeldSlices}

-- an arrow in a list that stands for others
held_at : (d : ℕ) (held : List Arrow) (fs : List (Arr d)) → trees_of_arrows held ≡ map (arr_tree d) fs
    → (k : ℕ) → k < length held → get_or (trees_of_arrows held) k nil ≡ arr_tree d (get_or fs k (no_arr d))
held_at d held fs e k l =
    let n = held_length d held fs e in
    ap (λ (ts : List Tree). get_or ts k nil) e ∙ get_or-map (arr_tree d) fs k (no_arr d) nil (omega arith)

-- the same in the list without its first arrow
held_after_one : (d : ℕ) (held : List Arrow) (fs : List (Arr d)) → trees_of_arrows held ≡ map (arr_tree d) fs
    → (k : ℕ) → suc k < length held → get_or (trees_of_arrows (take (length held - 1) (drop 1 held))) k nil ≡ arr_tree d (get_or fs (suc k) (no_arr d))
held_after_one d held fs e k l =
    let n = length held - 1 in
    let next : 1 + k ≡ suc k = omega arith in
    ap (λ (ts : List Tree). get_or ts k nil) (sym (take-map tree_of_arrow n (drop 1 held)))
    ∙ get_or-take n (trees_of_arrows (drop 1 held)) k nil (omega arith)
    ∙ ap (λ (ts : List Tree). get_or ts k nil) (sym (drop-map tree_of_arrow 1 held))
    ∙ get_or_after_one (trees_of_arrows held) k nil
    ∙ ap (λ (j : ℕ). get_or (trees_of_arrows held) j nil) next
    ∙ held_at d held fs e (suc k) l

module _ (d : ℕ) (f : Arr (suc d)) (X Y : Dia (suc d)) (v : SlicesAreValid d f X Y)
    (hs : List ℕ) (rs ss : List Arrow) (xr xs : List Diagram) (xf xb : List Arrow) (yr ys : List Diagram) (yf yb : List Arrow)
    (p : AreHeldParts d f hs rs ss) (x : AreHeldSlices d X xr xs xf xb) (y : AreHeldSlices d Y yr ys yf yb) where
  fits : ArrowFits (suc d) f
  fits = arrow_fits_from (suc d) f v.fits.shape

  regs_long : length rs ≡ suc (length Y.sings)
  regs_long = held_length d rs f.regs p.regs_are ∙ v.fits.regs_len

  sings_long : length ss ≡ length X.sings
  sings_long = held_length d ss f.sings p.sings_are ∙ (fits).sings_len ∙ v.fits.heights_len

  from_fwds_long : length xf ≡ length X.sings
  from_fwds_long = held_length d xf X.fwds x.fwds_are ∙ v.fits.from_valid.fwds_len

  from_bwds_long : length xb ≡ length X.sings
  from_bwds_long = held_length d xb X.bwds x.bwds_are ∙ v.fits.from_valid.bwds_len

  to_fwds_long : length yf ≡ length Y.sings
  to_fwds_long = held_length d yf Y.fwds y.fwds_are ∙ v.fits.to_valid.fwds_len

  to_bwds_long : length yb ≡ length Y.sings
  to_bwds_long = held_length d yb Y.bwds y.bwds_are ∙ v.fits.to_valid.bwds_len

  inside_target : (i : ℕ) → i < length X.sings → height d f i < length Y.sings
  inside_target i l =
      let h = v.fits.heights_len in
      let r = v.fits.regs_len in
      let b = (fits).below i (omega arith) in
      omega arith

  pub regs_not_empty : (first : List Arrow) → first ≡ rs → 1 ≤ length first
  regs_not_empty first e = let n = ap length e in let m = regs_long in omega arith

  pub left_pairs : (second first : List Arrow) → second ≡ yf → first ≡ rs → HoldsPairs d (λ k. fwd d Y k) (λ k. arrow_reg d f k) second first
  left_pairs second first e h =
      let a = ap length e ∙ to_fwds_long in
      let b = ap length h ∙ regs_long in
      record {
        inside = omega arith;
        second_is = λ k l. held_at d second Y.fwds (ap trees_of_arrows e ∙ y.fwds_are) k l;
        first_is = λ k l. held_at d first f.regs (ap trees_of_arrows h ∙ p.regs_are) k (omega arith);
        composable = λ k l. valid_composable d (reg d X (dual f.heights k)) (reg d Y k) (sing d Y k) (fwd d Y k) (arrow_reg d f k)
            (v.fits.to_valid.fwds k (omega arith)) (v.regs k (omega arith));
      }

  pub right_pairs : (second first : List Arrow) → second ≡ yb → first ≡ rs
      → HoldsPairs d (λ k. bwd d Y k) (λ k. arrow_reg d f (suc k)) second (take (length first - 1) (drop 1 first))
  right_pairs second first e h =
      let a = ap length e ∙ to_bwds_long in
      let b = ap length h ∙ regs_long in
      let n = length-drop 1 first in
      let m = length-take (length first - 1) (drop 1 first) in
      record {
        inside = omega arith;
        second_is = λ k l. held_at d second Y.bwds (ap trees_of_arrows e ∙ y.bwds_are) k l;
        first_is = λ k l. held_after_one d first f.regs (ap trees_of_arrows h ∙ p.regs_are) k (omega arith);
        composable = λ k l. valid_composable d (reg d X (dual f.heights (suc k))) (reg d Y (suc k)) (sing d Y k) (bwd d Y k) (arrow_reg d f (suc k))
            (v.fits.to_valid.bwds k (omega arith)) (v.regs (suc k) (omega arith));
      }

  pub enter_pairs : (second first : List Arrow) → second ≡ ss → first ≡ xf → HoldsPairs d (λ i. arrow_sing d f i) (λ i. fwd d X i) second first
  enter_pairs second first e h =
      let a = ap length e ∙ sings_long in
      let b = ap length h ∙ from_fwds_long in
      record {
        inside = omega arith;
        second_is = λ i l. held_at d second f.sings (ap trees_of_arrows e ∙ p.sings_are) i l;
        first_is = λ i l. held_at d first X.fwds (ap trees_of_arrows h ∙ x.fwds_are) i (omega arith);
        composable = λ i l. valid_composable d (reg d X i) (sing d X i) (sing d Y (height d f i)) (arrow_sing d f i) (fwd d X i)
            (v.sings i (omega arith)) (v.fits.from_valid.fwds i (omega arith));
      }

  pub leave_pairs : (second first : List Arrow) → second ≡ ss → first ≡ xb → HoldsPairs d (λ i. arrow_sing d f i) (λ i. bwd d X i) second first
  leave_pairs second first e h =
      let a = ap length e ∙ sings_long in
      let b = ap length h ∙ from_bwds_long in
      record {
        inside = omega arith;
        second_is = λ i l. held_at d second f.sings (ap trees_of_arrows e ∙ p.sings_are) i l;
        first_is = λ i l. held_at d first X.bwds (ap trees_of_arrows h ∙ x.bwds_are) i (omega arith);
        composable = λ i l. valid_composable d (reg d X (suc i)) (sing d X i) (sing d Y (height d f i)) (arrow_sing d f i) (bwd d X i)
            (v.sings i (omega arith)) (v.fits.from_valid.bwds i (omega arith));
      }

  edges_as : (edge : ℕ → Arr d) (n : ℕ) (second held made : List Arrow) → held ≡ made → length second ≡ n → AreEdges d edge (length second) made → AreEdges d edge n held
  edges_as edge n second held made e l h = subst (λ (m : ℕ). AreEdges d edge m held) l (ap trees_of_arrows e ∙ h)

  module _ (heights : List ℕ) (yf2 yb2 ss2 ss3 l l2 r r2 e e2 w w2 : List Arrow) (hs_is : heights ≡ hs)
      (yf_is : yf2 ≡ yf) (yb_is : yb2 ≡ yb) (ss_is : ss2 ≡ ss) (ss_is2 : ss3 ≡ ss)
      (l_is : l ≡ l2) (r_is : r ≡ r2) (e_is : e ≡ e2) (w_is : w ≡ w2)
      (lefts : AreEdges d (left_edge d Y f) (length yf2) l2) (rights : AreEdges d (right_edge d Y f) (length yb2) r2)
      (enters : AreEdges d (enter_edge d X f) (length ss2) e2) (leaves : AreEdges d (leave_edge d X f) (length ss3) w2) where
    pub edges_held : HoldsEdges d X Y f heights l r e w
    edges_held = record {
      heights_are = hs_is ∙ p.heights_are;
      heights_len = v.fits.heights_len;
      monotone = (fits).monotone;
      lefts_are = edges_as (left_edge d Y f) (length Y.sings) yf2 l l2 l_is (ap length yf_is ∙ to_fwds_long) lefts;
      rights_are = edges_as (right_edge d Y f) (length Y.sings) yb2 r r2 r_is (ap length yb_is ∙ to_bwds_long) rights;
      enters_are = edges_as (enter_edge d X f) (length X.sings) ss2 e e2 e_is (ap length ss_is ∙ sings_long) enters;
      leaves_are = edges_as (leave_edge d X f) (length X.sings) ss3 w w2 w_is (ap length ss_is2 ∙ sings_long) leaves;
    }
