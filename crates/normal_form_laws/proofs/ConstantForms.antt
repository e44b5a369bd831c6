-- A constant diagram has one normal form, since there is a degeneracy into it out of an iterated identity diagram.
use Rattle.std.proofs.Common.{◌≡◌, ℕ, zero, suc, ◌<◌, ◌≤◌, List, [], length, map, refl, sym, ap, ◌∙◌, subst, arith}
use Rattle.std.proofs.lemmas.List.{get_or-map, length-map}
use Rattle.diagram_terms.specs.Family.{Dia, Arr, no_dia, no_arr, reg, sing, fwd, bwd, arrow_reg}
use Rattle.diagram_terms.specs.Dual.{dual, after}
use Rattle.diagram_terms.specs.Composite.{comp, ident, identity_diagram}
use Rattle.diagram_terms.specs.Valid.{ValidArrow, Valid}
use Rattle.diagram_terms.specs.Degeneracy.{DegeneracyByShape}
use Rattle.diagram_terms.specs.Least.{Leg}
use Rattle.diagram_terms.proofs.Duals.{dual-nil}
use Rattle.diagram_terms.proofs.Injections.{increasing-nil, increasing_mono}
use Rattle.diagram_terms.proofs.Parts.{comp-heights, comp-regs_len, comp-sings_len, comp-reg, same_arrows}
use Rattle.map_laws.proofs.ValidIdentities.{identities_are_valid}
use Rattle.map_laws.proofs.ValidParts.{dual_within}
use Rattle.map_laws.proofs.Neutral.{neutral_after}
use Rattle.map_laws.proofs.IdentityShapes.{identities_have_shape}
use Rattle.degeneracy_laws.proofs.ShapeComposites.{shape_valid, identity_shape}
use Rattle.degeneracy_laws.proofs.Splits.{shape_means_degeneracy}
use Rattle.diagram_terms.specs.Constants.{above, identity_tower, ConstantArrow, Constant}
use Rattle.normal_form_laws.specs.Laws.{ConstantsHaveOneNormalForm, IdentityTowersKeepNormalForms}
use Rattle.normal_form_laws.proofs.NormalDiagrams.{degeneracies_keep_normal_forms, identity_diagrams_keep_normal_forms}

none_after : (g : List ℕ) → after g [] ≡ []
unfolding after
none_after g = refl

module _ (d : ℕ) (M : Dia d) (vM : Valid d M) where
  -- the arrow into D out of the iterated identity diagram of M, without heights
  unfoldable pub into : (t : ℕ) → Dia (above d t) → Arr (above d t)
  into zero D = ident d M
  into (suc t) D = record { heights = []; regs = map (into t) D.regs; sings = [] }

  into-heights : (t : ℕ) (D : Dia (above d (suc t))) → (into (suc t) D).heights ≡ []
  unfolding into
  into-heights t D = refl

  into-sings : (t : ℕ) (D : Dia (above d (suc t))) → (into (suc t) D).sings ≡ []
  unfolding into
  into-sings t D = refl

  into-regs_len : (t : ℕ) (D : Dia (above d (suc t))) → length (into (suc t) D).regs ≡ length D.regs
  unfolding into
  into-regs_len t D = length-map D.regs (into t)

  into-reg : (t : ℕ) (D : Dia (above d (suc t))) (j : ℕ) → j < length D.regs
      → arrow_reg (above d t) (into (suc t) D) j ≡ into t (reg (above d t) D j)
  unfolding into
  into-reg t D j l = get_or-map (into t) D.regs j (no_dia (above d t)) (no_arr (above d t)) l

  into-dual : (t : ℕ) (D : Dia (above d (suc t))) (k : ℕ) → dual (into (suc t) D).heights k ≡ 0
  into-dual t D k = ap (λ (h : List ℕ). dual h k) (into-heights t D) ∙ dual-nil k

  -- ---- a constant arrow after it is it again

  absorbed : (t : ℕ) (X Y : Dia (above d t)) (f : Arr (above d t)) → Valid (above d t) X → Valid (above d t) Y
      → ValidArrow (above d t) X Y f → ConstantArrow d M t f → comp (above d t) f (into t X) ≡ into t Y
  unfolding into
  absorbed zero X Y f vX vY vf c = ap (λ (g : Arr d). comp d g (ident d M)) c ∙ neutral_after d M M (ident d M) vM (identities_are_valid d M vM)
  absorbed (suc t) X Y f vX vY vf c =
      let n : ℕ = above d t in
      let a : Arr (suc n) = comp (suc n) f (into (suc t) X) in
      let fl = vf.regs_len in
      let xl = vX.regs_len in
      let yl = vY.regs_len in
      let al = comp-regs_len n f (into (suc t) X) in
      let il = into-regs_len t Y in
      same_arrows n a (into (suc t) Y) (comp-heights n f (into (suc t) X) ∙ none_after f.heights)
      (omega arith)
      (λ k l.
      let w = dual_within n X Y f vf k in
      comp-reg n f (into (suc t) X) k (omega arith)
      ∙ ap (comp n (arrow_reg n f k)) (into-reg t X (dual f.heights k) (omega arith))
      ∙ absorbed t _ _ (arrow_reg n f k) (vX.regs _ w) (vY.regs k (omega arith)) (vf.regs k (omega arith)) (c.regs k (omega arith))
      ∙ sym (into-reg t Y k (omega arith)))
      (comp-sings_len n f (into (suc t) X))
      (λ i l. absurd (let z = comp-sings_len n f (into (suc t) X) in omega arith))

  -- ---- it is a degeneracy

  pub into_shape : (t : ℕ) (D : Dia (above d t)) → Valid (above d t) D → Constant d M t D
      → DegeneracyByShape (above d t) (identity_tower d M t) D (into t D)
  unfolding into
  into_shape zero D vD c = subst (λ (X : Dia d). DegeneracyByShape d M X (ident d M)) (sym c)
      (identity_shape d M M (ident d M) (identities_are_valid d M vM) (identities_have_shape d M vM))
  into_shape (suc t) D vD c =
      let n : ℕ = above d t in
      let I : Dia (suc n) = identity_tower d M (suc t) in
      let f : Arr (suc n) = into (suc t) D in
      let dl = vD.regs_len in
      let zero_dual : (k : ℕ) → dual f.heights k ≡ 0 = into-dual t D in
      let at_reg : (j : ℕ) → j ≤ length D.sings → arrow_reg n f j ≡ into t (reg n D j) = λ j l. into-reg t D j (omega arith) in
      let regs : (j : ℕ) → j ≤ length D.sings → DegeneracyByShape n (identity_tower d M t) (reg n D j) (into t (reg n D j)) =
      λ j l. into_shape t (reg n D j) (vD.regs j l) (c.regs j l) in
      let forth : (k : ℕ) → k < length D.sings → comp n (fwd n D k) (arrow_reg n f k) ≡ into t (sing n D k) =
      λ k l. ap (comp n (fwd n D k)) (at_reg k (omega arith))
      ∙ absorbed t _ _ (fwd n D k) (vD.regs k (omega arith)) (vD.sings k l) (vD.fwds k l) (c.fwds k l) in
      let back : (k : ℕ) → k < length D.sings → comp n (bwd n D k) (arrow_reg n f (suc k)) ≡ into t (sing n D k) =
      λ k l. ap (comp n (bwd n D k)) (at_reg (suc k) l)
      ∙ absorbed t _ _ (bwd n D k) (vD.regs (suc k) l) (vD.sings k l) (vD.bwds k l) (c.bwds k l) in
      let valid : ValidArrow (suc n) I D f = record {
        heights_len = refl;
        regs_len = into-regs_len t D ∙ dl;
        sings_len = refl;
        monotone = increasing_mono [] increasing-nil;
        below = record { below = λ i l. absurd (omega arith) };
        regs = λ j l. rw (zero_dual j, at_reg j l) (shape_valid n _ _ _ (regs j l));
        sings = λ i l. absurd (omega arith);
        squares = λ k l.
            let z = zero_dual (suc k) in
            record {
              empty = λ e. forth k l ∙ sym (back k l);
              first = λ q. absurd (omega arith);
              last = λ q. absurd (omega arith);
              inner = λ i q e. absurd (omega arith);
            };
      } in
      record {
        valid = valid;
        increasing = increasing-nil;
        regs = λ j l. rw (zero_dual j, at_reg j l) (regs j l);
        sings = λ i l. absurd (omega arith);
        missed_fwds = λ k l e. rw (zero_dual k, forth k l) (into_shape t (sing n D k) (vD.sings k l) (c.sings k l));
        missed_bwds = λ k l e. rw (zero_dual (suc k), back k l) (into_shape t (sing n D k) (vD.sings k l) (c.sings k l));
      }

  pub tower_valid : (t : ℕ) → Valid (above d t) (identity_tower d M t)
  tower_valid zero = vM
  tower_valid (suc t) = record {
    regs_len = refl;
    fwds_len = refl;
    bwds_len = refl;
    regs = λ j l. (let z : j ≡ 0 = omega arith in
        subst (λ (m : ℕ). Valid (above d t) (reg (above d t) (identity_tower d M (suc t)) m)) (sym z) (tower_valid t));
    sings = λ i l. absurd (omega arith);
    fwds = λ k l. absurd (omega arith);
    bwds = λ k l. absurd (omega arith);
  }

pub identity_towers_keep_normal_forms : (d : ℕ) → IdentityTowersKeepNormalForms d
identity_towers_keep_normal_forms d M zero = refl
identity_towers_keep_normal_forms d M (suc t) = identity_diagrams_keep_normal_forms (above d t) (identity_tower d M t)
    ∙ ap (identity_diagram (above d t)) (identity_towers_keep_normal_forms d M t)

pub constants_have_one_normal_form : (d : ℕ) → ConstantsHaveOneNormalForm d
constants_have_one_normal_form d M t D vM vD c =
    let n : ℕ = above d t in
    let q = shape_means_degeneracy n (identity_tower d M t) D (into d M vM t D) (tower_valid d M vM t) vD (into_shape d M vM t D vD c) in
    ap (λ (g : Leg n). g.source) (degeneracies_keep_normal_forms n (identity_tower d M t) D (into d M vM t D) q) ∙ identity_towers_keep_normal_forms d M t
