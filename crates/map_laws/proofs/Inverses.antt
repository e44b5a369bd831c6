-- A valid arrow with a valid inverse is an identity.
use Rattle.std.proofs.Common.{◌≡◌, ℕ, zero, suc, ◌-◌, ◌<◌, ◌≤◌, List, length, get_or, sym, ap, ◌∙◌, subst, arith, inl, inr}
use Rattle.std.proofs.lemmas.Bool.{cases_lt}
use Rattle.diagram_terms.specs.Family.{Dia, Arr, reg, sing, height, arrow_reg, arrow_sing}
use Rattle.diagram_terms.specs.Dual.{AreBelow, upto, dual, after}
use Rattle.diagram_terms.specs.Composite.{comp, ident}
use Rattle.diagram_terms.specs.Identity.{IsIdentity}
use Rattle.diagram_terms.specs.Valid.{ValidArrow, Valid}
use Rattle.diagram_terms.proofs.Duals.{dual-upto, get-upto}
use Rattle.diagram_terms.proofs.Injections.{inverse_is_identity}
use Rattle.diagram_terms.proofs.Parts.{comp-heights, comp-reg, comp-sing, ident-heights, ident-reg, ident-sing}
use Rattle.map_laws.specs.Laws.{InvertibleMeansIdentity}
use Rattle.map_laws.proofs.LabelOrder.{at_most_antisym}
use Rattle.map_laws.proofs.ValidParts.{follows}

base : InvertibleMeansIdentity zero
base x y f g vx vy vf vg gf fg = vf.from ∙ at_most_antisym x y vf.order vg.order ∙ sym vf.to

-- as many identity heights as are below m
upto_below : (hs : List ℕ) (n m : ℕ) → length hs ≡ n → hs ≡ upto n → AreBelow hs m → n ≤ m
upto_below hs n m len e b = elim (cases_lt 0 n) [
  | inr p ↦ omega arith
  | inl p ↦ (let i : ℕ = n - 1 in
      let a = b.below i (omega arith) in
      let c = ap (λ (h : List ℕ). get_or h i 0) e ∙ get-upto n i (omega arith) in
      omega arith)
]

-- the heights of an arrow with an inverse
module _ (d : ℕ) (X Y : Dia (suc d)) (f g : Arr (suc d)) (vf : ValidArrow (suc d) X Y f) (vg : ValidArrow (suc d) Y X g)
    (gf : comp (suc d) g f ≡ ident (suc d) X) (fg : comp (suc d) f g ≡ ident (suc d) Y) where
  invertible-heights : f.heights ≡ upto (length X.sings)
  invertible-heights =
      let back : after g.heights f.heights ≡ upto (length f.heights) =
      sym (comp-heights d g f) ∙ ap (λ (t : Arr (suc d)). t.heights) gf ∙ ident-heights d X ∙ ap upto (sym vf.heights_len) in
      let forth : after f.heights g.heights ≡ upto (length g.heights) =
      sym (comp-heights d f g) ∙ ap (λ (t : Arr (suc d)). t.heights) fg ∙ ident-heights d Y ∙ ap upto (sym vg.heights_len) in
      inverse_is_identity f.heights g.heights vf.monotone vg.monotone (follows d X Y X f g vf vg) (follows d Y X Y g f vg vf) back forth
      ∙ ap upto vf.heights_len

  invertible-dual : (k : ℕ) → k ≤ length X.sings → dual f.heights k ≡ k
  invertible-dual k l = ap (λ (hs : List ℕ). dual hs k) invertible-heights ∙ dual-upto (length X.sings) k l

  invertible-height : (i : ℕ) → i < length X.sings → height d f i ≡ i
  invertible-height i l = ap (λ (hs : List ℕ). get_or hs i 0) invertible-heights ∙ get-upto (length X.sings) i l

  invertible_length : length X.sings ≤ length Y.sings
  invertible_length = upto_below f.heights (length X.sings) (length Y.sings) vf.heights_len invertible-heights vf.below

  -- its slices
  invertible_reg : (j : ℕ) → j ≤ length X.sings → ValidArrow d (reg d X j) (reg d Y j) (arrow_reg d f j)
  invertible_reg j l =
      let n = invertible_length in
      subst (λ (k : ℕ). ValidArrow d (reg d X k) (reg d Y j) (arrow_reg d f j)) (invertible-dual j l) (vf.regs j (omega arith))

  invertible_sing : (i : ℕ) → i < length X.sings → ValidArrow d (sing d X i) (sing d Y i) (arrow_sing d f i)
  invertible_sing i l =
      subst (λ (k : ℕ). ValidArrow d (sing d X i) (sing d Y k) (arrow_sing d f i)) (invertible-height i l) (vf.sings i l)

  -- each followed by that of the inverse
  reg_back : (j : ℕ) → j ≤ length Y.sings → dual g.heights j ≡ j → j < length X.regs → length X.sings ≡ length Y.sings
      → comp d (arrow_reg d g j) (arrow_reg d f j) ≡ ident d (reg d X j)
  reg_back j l same lx n =
      ap (λ (k : ℕ). comp d (arrow_reg d g j) (arrow_reg d f k)) (sym same)
      ∙ sym (comp-reg d g f j (let a = vg.regs_len in omega arith))
      ∙ ap (λ (t : Arr (suc d)). arrow_reg d t j) gf ∙ ident-reg d X j lx

  sing_back : (i : ℕ) → i < length X.sings → comp d (arrow_sing d g i) (arrow_sing d f i) ≡ ident d (sing d X i)
  sing_back i l =
      ap (λ (k : ℕ). comp d (arrow_sing d g k) (arrow_sing d f i)) (sym (invertible-height i l))
      ∙ sym (comp-sing d g f i (let a = vf.sings_len in omega arith))
      ∙ ap (λ (t : Arr (suc d)). arrow_sing d t i) gf ∙ ident-sing d X i l

-- one level up
module _ (d : ℕ) (ih : InvertibleMeansIdentity d) (X Y : Dia (suc d)) (f g : Arr (suc d)) (vX : Valid (suc d) X) (vY : Valid (suc d) Y)
    (vf : ValidArrow (suc d) X Y f) (vg : ValidArrow (suc d) Y X g)
    (gf : comp (suc d) g f ≡ ident (suc d) X) (fg : comp (suc d) f g ≡ ident (suc d) Y) where
  one_length : length X.sings ≡ length Y.sings
  one_length =
      let a = invertible_length d X Y f g vf vg gf fg in
      let b = invertible_length d Y X g f vg vf fg gf in
      omega arith

  identity_reg : (j : ℕ) → j ≤ length X.sings → IsIdentity d (arrow_reg d f j)
  identity_reg j l =
      let n = one_length in
      let m : j ≤ length Y.sings = omega arith in
      ih (reg d X j) (reg d Y j) (arrow_reg d f j) (arrow_reg d g j) (vX.regs j l) (vY.regs j m)
      (invertible_reg d X Y f g vf vg gf fg j l) (invertible_reg d Y X g f vg vf fg gf j m)
      (reg_back d X Y f g vf vg gf fg j m (invertible-dual d Y X g f vg vf fg gf j m) (let a = vX.regs_len in omega arith) n)
      (reg_back d Y X g f vg vf fg gf j l (invertible-dual d X Y f g vf vg gf fg j l) (let a = vY.regs_len in omega arith) (sym n))

  identity_sing : (i : ℕ) → i < length X.sings → IsIdentity d (arrow_sing d f i)
  identity_sing i l =
      let n = one_length in
      let m : i < length Y.sings = omega arith in
      ih (sing d X i) (sing d Y i) (arrow_sing d f i) (arrow_sing d g i) (vX.sings i l) (vY.sings i m)
      (invertible_sing d X Y f g vf vg gf fg i l) (invertible_sing d Y X g f vg vf fg gf i m)
      (sing_back d X Y f g vf vg gf fg i l) (sing_back d Y X g f vg vf fg gf i m)

  step : IsIdentity (suc d) f
  step =
      let n = one_length in
      let rl = vf.regs_len in
      let sl = vf.sings_len in
      record {
        heights = invertible-heights d X Y f g vf vg gf fg ∙ ap upto (sym sl);
        regs_len = omega arith;
        regs = λ j l. identity_reg j (omega arith);
        sings = λ i l. identity_sing i (omega arith);
      }

pub invertible_means_identity : (d : ℕ) → InvertibleMeansIdentity d
invertible_means_identity zero = base
invertible_means_identity (suc d) = step d (invertible_means_identity d)
