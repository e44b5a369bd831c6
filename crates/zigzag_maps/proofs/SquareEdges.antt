-- A square by its edges, as trees.
use Rattle.std.proofs.Common.{◌≡◌, ℕ, zero, suc, ◌+◌, ◌-◌, ◌<◌, ◌≤◌, length, true, cond, nat_lt, refl, sym, ap, ◌∙◌, inl, inr, arith}
use Rattle.std.proofs.lemmas.Bool.{cases_lt, cond-true, cond-false, lt-ltb, le-ltb}
use Rattle.diagram_terms.specs.Tree.{Tree, heights, regs, sings, fwds}
use Rattle.diagram_terms.specs.Dual.{dual}
use Rattle.diagram_terms.specs.Family.{Dia, Arr, fwd, bwd, arrow_reg, arrow_sing}
use Rattle.diagram_terms.specs.Composite.{comp}
use Rattle.diagram_terms.specs.Decoded.{dia, arr, arr_tree}
use Rattle.diagram_terms.specs.Shape.{IsDiagram, IsArrow}
use Rattle.diagram_terms.specs.Valid.{Commutes}
use Rattle.diagram_terms.proofs.Decisions.{dual_next, square_decides}
use Rattle.diagram_terms.proofs.Duals.{dual-le-length}
use Rattle.diagram_terms.proofs.Glue.{arr-arr_tree, dia-fwd, dia-bwd, arr-reg, arr-sing}
use Rattle.diagram_terms.specs.Operations.{composite_tree}
use Rattle.zigzag_maps.specs.Visits.{FitsEnds, square_holds, left_edge, right_edge, enter_edge, leave_edge}
use Rattle.diagram_terms.proofs.NotionsOnTrees.{on_arrow_at}
use Rattle.diagram_terms.proofs.Squares.{first_at, last_at}
use Rattle.zigzag_maps.proofs.TestsOfArrows.{square_holds_at}

-- ---- the edges

-- the edge that is reached at the height i, where the heights over k begin at `from`
unfoldable pub edge_at : Tree → Tree → Tree → ℕ → ℕ → ℕ → Tree
edge_at s t f k from i = cond (nat_lt from i) (leave_edge s f (i - 1)) (left_edge t f k)

pub edge_at-first : (s t f : Tree) (k from : ℕ) → edge_at s t f k from from ≡ left_edge t f k
unfolding edge_at
edge_at-first s t f k from = cond-false (nat_lt from from) (leave_edge s f (from - 1)) (left_edge t f k) (le-ltb from from (omega arith))

pub edge_at-next : (s t f : Tree) (k from i : ℕ) → from ≤ i → edge_at s t f k from (i + 1) ≡ leave_edge s f i
unfolding edge_at
edge_at-next s t f k from i l =
    let e : i + 1 - 1 ≡ i = omega arith in
    cond-true (nat_lt from (i + 1)) (leave_edge s f (i + 1 - 1)) (left_edge t f k) (lt-ltb from (i + 1) (omega arith)) ∙ ap (leave_edge s f) e

-- the two ways agree at each edge
pub record EdgesAgree (s t f : Tree) (k : ℕ) : Type 0 where
  pub each : (i : ℕ) → dual (heights f) k ≤ i → i < dual (heights f) (suc k) → edge_at s t f k (dual (heights f) k) i ≡ enter_edge s f i
  pub last : edge_at s t f k (dual (heights f) k) (dual (heights f) (suc k)) ≡ right_edge t f k

-- ---- the square commutes exactly if they do

module _ (d : ℕ) (s t f : Tree) (hs : IsDiagram (suc d) s) (ht : IsDiagram (suc d) t) (hf : IsArrow (suc d) f) (fits : FitsEnds s t f) (k : ℕ) (over : k < length (sings t)) where
  abbrev X : Dia (suc d)
  X = dia (suc d) s

  abbrev Y : Dia (suc d)
  Y = dia (suc d) t

  abbrev F : Arr (suc d)
  F = arr (suc d) f

  abbrev a : ℕ
  a = dual (heights f) k

  abbrev b : ℕ
  b = dual (heights f) (suc k)

  -- each edge is the tree of the family's
  composite_is : (g h : Tree) (G H : Arr d) → IsArrow d h → G ≡ arr d g → H ≡ arr d h → composite_tree g h ≡ arr_tree d (comp d G H)
  composite_is g h G H shape p q = on_arrow_at _ d h shape ∙ (λ i. arr_tree d (comp d (sym p i) (sym q i)))

  first_is : left_edge t f k ≡ arr_tree d (comp d (fwd d Y k) (arrow_reg d F k))
  first_is =
      let l : k < length (regs f) = omega (arith, fits.regs_len) in
      composite_is _ _ _ _ (hf.regs_are k l) (dia-fwd d t ht k over) (arr-reg d f k l)

  last_is : right_edge t f k ≡ arr_tree d (comp d (bwd d Y k) (arrow_reg d F (suc k)))
  last_is =
      let l : suc k < length (regs f) = omega (arith, fits.regs_len) in
      composite_is _ _ _ _ (hf.regs_are (suc k) l) (dia-bwd d t ht k over) (arr-reg d f (suc k) l)

  within : (i : ℕ) → i < b → i < length (sings s)
  within i l = omega (arith, dual-le-length (heights f) (suc k), fits.heights_len)

  before_is : (i : ℕ) → i < b → enter_edge s f i ≡ arr_tree d (comp d (arrow_sing d F i) (fwd d X i))
  before_is i l =
      let m = within i l in
      let n : i < length (sings f) = omega (arith, fits.heights_len, hf.sings_len) in
      let o : i < length (fwds s) = omega (arith, hs.fwds_len) in
      composite_is _ _ _ _ (hs.fwds_are i m) (arr-sing d f i n) (dia-fwd d s hs i m)

  behind_is : (i : ℕ) → i < b → leave_edge s f i ≡ arr_tree d (comp d (arrow_sing d F i) (bwd d X i))
  behind_is i l =
      let m = within i l in
      let n : i < length (sings f) = omega (arith, fits.heights_len, hf.sings_len) in
      composite_is _ _ _ _ (hs.bwds_are i m) (arr-sing d f i n) (dia-bwd d s hs i m)

  -- equal trees are those of equal arrows
  up : (x y : Tree) (G H : Arr d) → x ≡ arr_tree d G → y ≡ arr_tree d H → x ≡ y → G ≡ H
  up x y G H p q e = sym (arr-arr_tree d G) ∙ ap (arr d) (sym p ∙ e ∙ q) ∙ arr-arr_tree d H

  down : (x y : Tree) (G H : Arr d) → x ≡ arr_tree d G → y ≡ arr_tree d H → G ≡ H → x ≡ y
  down x y G H p q e = p ∙ ap (arr_tree d) e ∙ sym q

  commutes_from : EdgesAgree s t f k → Commutes d X Y F k
  commutes_from e = record {
    empty = λ z. up _ _ _ _ first_is last_is (sym (edge_at-first s t f k a) ∙ ap (edge_at s t f k a) z ∙ e.last);
    first = λ l. up _ _ _ _ first_is (before_is a l) (sym (edge_at-first s t f k a) ∙ e.each a (omega arith) l);
    last = λ l. (let i : ℕ = b - 1 in
        let m : i < b = omega arith in
        let n : i + 1 ≡ b = omega arith in
        sym (up _ _ _ _ (behind_is i m) last_is (sym (edge_at-next s t f k a i (omega arith)) ∙ ap (edge_at s t f k a) n ∙ e.last)));
    inner = λ i l m. (let n : i + 1 ≡ suc i = omega arith in
        up _ _ _ _ (behind_is i (omega arith)) (before_is (suc i) m)
        (sym (edge_at-next s t f k a i l) ∙ ap (edge_at s t f k a) n ∙ e.each (suc i) (omega arith) m));
  }

  each_from : Commutes d X Y F k → (i : ℕ) → a ≤ i → i < b → edge_at s t f k a i ≡ enter_edge s f i
  each_from c zero l m =
      let z : a ≡ zero = omega arith in
      ap (edge_at s t f k a) (sym z) ∙ edge_at-first s t f k a ∙ down _ _ _ _ first_is (before_is zero m) (first_at c zero z m)
  each_from c (suc i) l m = elim (cases_lt i a) [
    | inl p ↦ (let z : a ≡ suc i = omega arith in
        ap (edge_at s t f k a) (sym z) ∙ edge_at-first s t f k a ∙ down _ _ _ _ first_is (before_is (suc i) m) (first_at c (suc i) z m))
    | inr p ↦ (let n : suc i ≡ i + 1 = omega arith in
        ap (edge_at s t f k a) n ∙ edge_at-next s t f k a i p ∙ down _ _ _ _ (behind_is i (omega arith)) (before_is (suc i) m) (c.inner i p m))
  ]

  last_from : Commutes d X Y F k → (e : ℕ) → b ≡ e → edge_at s t f k a e ≡ right_edge t f k
  last_from c zero z =
      let n = dual_next (heights f) k in
      let y : a ≡ zero = omega arith in
      ap (edge_at s t f k a) (sym y) ∙ edge_at-first s t f k a ∙ down _ _ _ _ first_is last_is (c.empty (y ∙ sym z))
  last_from c (suc i) z = elim (cases_lt i a) [
    | inl p ↦ (let n = dual_next (heights f) k in
        let y : a ≡ suc i = omega arith in
        ap (edge_at s t f k a) (sym y) ∙ edge_at-first s t f k a ∙ down _ _ _ _ first_is last_is (c.empty (y ∙ sym z)))
    | inr p ↦ (let n : suc i ≡ i + 1 = omega arith in
        ap (edge_at s t f k a) n ∙ edge_at-next s t f k a i p ∙ sym (down _ _ _ _ last_is (behind_is i (omega arith)) (last_at c i p (sym z))))
  ]

  pub holds_at : EdgesAgree s t f k → square_holds s t f k ≡ true
  holds_at e = square_holds_at d s t f k hf ∙ (square_decides d X Y F k (dual_next F.heights k)).1 (commutes_from e)

  pub agree_at : square_holds s t f k ≡ true → EdgesAgree s t f k
  agree_at h =
      let c = (square_decides d X Y F k (dual_next F.heights k)).0 (sym (square_holds_at d s t f k hf) ∙ h) in
      record { each = each_from c; last = last_from c (dual (heights f) (suc k)) refl }
