-- Cones over valid plain diagrams whose labels have smaller dimensions than the label of the cone, and types over them.
use Rattle.std.proofs.Common.{◌≡◌, ℕ, zero, suc, ◌<◌, ◌≤◌, length, refl, sym, ap, ◌∙◌, subst, arith, inr}
use Rattle.diagram_terms.specs.declared.label.Label.{Label}
use Rattle.diagram_terms.specs.Family.{Dia, Arr, reg, sing, fwd, bwd, height, arrow_reg, arrow_sing}
use Rattle.diagram_terms.specs.Dual.{dual}
use Rattle.diagram_terms.specs.Composite.{comp}
use Rattle.diagram_terms.specs.Identity.{IsIdentity}
use Rattle.diagram_terms.specs.Plain.{PlainArrow, Plain}
use Rattle.diagram_terms.specs.Valid.{ValidArrow, Valid, Commutes}
use Rattle.diagram_terms.specs.Cone.{source, target, cone, mid, HasLabelsBelow}
use Rattle.map_laws.specs.Edges.{HasEdges}
use Rattle.map_laws.proofs.Neutral.{neutral_before}
use Rattle.map_laws.proofs.ValidIdentities.{identities_are_valid}
use Rattle.map_laws.proofs.IdentityShapes.{identities_have_shape}
use Rattle.map_laws.proofs.SquareEdges.{squares_have_edges}
use Rattle.plain_laws.specs.Laws.{ConesAreGood, TypesAreGood}
use Rattle.plain_laws.specs.Cones.{HasGoodCone}
use Rattle.plain_laws.proofs.ConeParts.{cone-from, cone-to, cone-heights_len, cone-regs_len, cone-sings_len, cone-height, cone-source, cone-target, cone-sing, cone-monotone, cone-below, cone-dual_first, cone-dual_last, mid-zero, cone_end, mid-suc, type_over-cospan}
use Rattle.plain_laws.proofs.Cospans.{below_one, below_two, valid_cospan, plain_cospan}
use Rattle.plain_laws.proofs.Absorption.{cones_absorb_plain_arrows}
use Rattle.plain_laws.proofs.Parallels.{slices_are_parallel, parallel_diagrams_have_one_mid}

good_base : ConesAreGood zero
good_base y x v p b = record {
  valid = tt;
  plain = tt;
  valid_cone = record { from = cone-from y x; to = cone-to y x ∙ sym (mid-zero y x); order = rw mid-zero (inr b) };
  plain_cone = tt;
  parallel = tt;
}

-- one level up
module _ (d : ℕ) (ih : ConesAreGood d) (D : Dia (suc d)) (x : Label)
    (v : Valid (suc d) D) (p : Plain (suc d) D) (b : HasLabelsBelow x.dim (suc d) D) where
  -- the cone over each slice is good, and all end in one diagram
  reg_cone : (j : ℕ) → j ≤ length D.sings → HasGoodCone d (reg d D j) x
  reg_cone j l = ih (reg d D j) x (v.regs j l) (p.regs j (let a = v.regs_len in omega arith)) (b.regs j l)

  sing_cone : (i : ℕ) → i < length D.sings → HasGoodCone d (sing d D i) x
  sing_cone i l = ih (sing d D i) x (v.sings i l) (p.sings i l) (b.sings i l)

  reg_mid : (j : ℕ) → j ≤ length D.sings → mid d (reg d D j) x ≡ mid d (source d D) x
  reg_mid j l = parallel_diagrams_have_one_mid d _ _ x ((slices_are_parallel d D v p).regs j l)

  sing_mid : (i : ℕ) → i < length D.sings → mid d (sing d D i) x ≡ mid d (source d D) x
  sing_mid i l = parallel_diagrams_have_one_mid d _ _ x ((slices_are_parallel d D v p).sings i l)

  from_target : ValidArrow d (target d D) (mid d (source d D) x) (cone d (target d D) x)
  from_target =
      let n : ℕ = length D.sings in
      subst (λ (M : Dia d). ValidArrow d (target d D) M (cone d (target d D) x)) (reg_mid n (omega arith))
      (reg_cone n (omega arith)).valid_cone

  valid_end : Valid (suc d) (cone_end d D x)
  valid_end =
      let first = reg_cone 0 (omega arith) in
      valid_cospan d (source d D) (cone d (source d D) x) (mid d (source d D) x) (cone d (target d D) x) (target d D)
      (v.regs 0 (omega arith)) first.valid (v.regs (length D.sings) (omega arith)) first.valid_cone from_target

  plain_end : Plain (suc d) (cone_end d D x)
  plain_end =
      let n : ℕ = length D.sings in
      let a = v.regs_len in
      let first = reg_cone 0 (omega arith) in
      let last = reg_cone n (omega arith) in
      plain_cospan d (source d D) (cone d (source d D) x) (mid d (source d D) x) (cone d (target d D) x) (target d D)
      (p.regs 0 (omega arith)) first.plain (p.regs n (omega arith)) first.plain_cone last.plain_cone

  -- the slices of the cone are identities and cones
  valid_reg : (j : ℕ) → j < 2
      → ValidArrow d (reg d D (dual (cone (suc d) D x).heights j)) (reg d (cone_end d D x) j) (arrow_reg d (cone (suc d) D x) j)
  valid_reg = below_two
      (λ j. ValidArrow d (reg d D (dual (cone (suc d) D x).heights j)) (reg d (cone_end d D x) j) (arrow_reg d (cone (suc d) D x) j))
      (rw (cone-dual_first d D x, cone-source d D x) (identities_are_valid d (source d D) (v.regs 0 (omega arith))))
      (rw (cone-dual_last d D x, cone-target d D x) (identities_are_valid d (target d D) (v.regs (length D.sings) (omega arith))))

  valid_sing : (i : ℕ) → i < length D.sings
      → ValidArrow d (sing d D i) (sing d (cone_end d D x) (height d (cone (suc d) D x) i)) (arrow_sing d (cone (suc d) D x) i)
  valid_sing i l =
      rw (cone-height d D x i, cone-sing d D x i l)
      (subst (λ (M : Dia d). ValidArrow d (sing d D i) M (cone d (sing d D i) x)) (sing_mid i l) (sing_cone i l).valid_cone)

  -- the edges of its square are the cones over the regular slices
  edges : HasEdges d D (cone_end d D x) (cone (suc d) D x) 0
  edges =
      let n : ℕ = length D.sings in
      let low = cone-dual_first d D x in
      let high = cone-dual_last d D x in
      let rl = v.regs_len in
      let fl = v.fwds_len in
      let bl = v.bwds_len in
      record {
        edge = λ t. cone d (reg d D t) x;
        first = rw (cone-dual_first d D x, cone-source d D x)
            (sym (neutral_before d _ _ (cone d (source d D) x) (v.regs 0 (omega arith)) (reg_cone 0 (omega arith)).valid_cone));
        last = rw (cone-dual_last d D x, cone-target d D x)
            (sym (neutral_before d _ _ (cone d (target d D) x) (v.regs n (omega arith)) from_target));
        along_fwd = λ t after_first before_last. sym (
            ap (λ (s : Arr d). comp d s (fwd d D t)) (cone-sing d D x t (omega arith))
            ∙ cones_absorb_plain_arrows d _ _ (fwd d D t) x (v.regs t (omega arith)) (v.sings t (omega arith))
            (v.fwds t (omega arith)) (p.fwds t (omega arith)));
        along_bwd = λ t after_first before_last. sym (
            ap (λ (s : Arr d). comp d s (bwd d D t)) (cone-sing d D x t (omega arith))
            ∙ cones_absorb_plain_arrows d _ _ (bwd d D t) x (v.regs (suc t) (omega arith)) (v.sings t (omega arith))
            (v.bwds t (omega arith)) (p.bwds t (omega arith)));
      }

  square : (k : ℕ) → k < 1 → Commutes d D (cone_end d D x) (cone (suc d) D x) k
  square = below_one (λ k. Commutes d D (cone_end d D x) (cone (suc d) D x) k)
      (let low = cone-dual_first d D x in (squares_have_edges d D (cone_end d D x) (cone (suc d) D x) 0 (omega arith)).1 edges)

  valid_cone : ValidArrow (suc d) D (cone_end d D x) (cone (suc d) D x)
  valid_cone = record {
    heights_len = cone-heights_len d D x;
    regs_len = cone-regs_len d D x;
    sings_len = cone-sings_len d D x;
    monotone = cone-monotone d D x;
    below = cone-below d D x;
    regs = λ j l. valid_reg j (omega arith);
    sings = valid_sing;
    squares = square;
  }

  plain_cone : PlainArrow (suc d) (cone (suc d) D x)
  plain_cone =
      let rl = cone-regs_len d D x in
      let sl = cone-sings_len d D x in
      record {
        regs = λ j l. below_two (λ j. IsIdentity d (arrow_reg d (cone (suc d) D x) j))
            (rw (cone-source d D x) (identities_have_shape d (source d D) (v.regs 0 (omega arith))))
            (rw (cone-target d D x) (identities_have_shape d (target d D) (v.regs (length D.sings) (omega arith))))
            j (omega arith);
        sings = λ i l. rw (cone-sing d D x i (omega arith)) (sing_cone i (omega arith)).plain_cone;
      }

  good_step : HasGoodCone (suc d) D x
  good_step = record {
    valid = rw (mid-suc d D x) valid_end;
    plain = rw (mid-suc d D x) plain_end;
    valid_cone = rw (mid-suc d D x) valid_cone;
    plain_cone = plain_cone;
    parallel = rw (mid-suc d D x) (record { sources = refl; targets = refl });
  }

pub cones_are_good : (d : ℕ) → ConesAreGood d
cones_are_good zero = good_base
cones_are_good (suc d) = good_step d (cones_are_good d)

-- ---- types

-- the cones over S and over T end in one diagram
pub types_are_good : (d : ℕ) → TypesAreGood d
types_are_good d S T x vS pS bS vT pT bT parallel =
    let M : Dia d = mid d S x in
    let over_S = cones_are_good d S x vS pS bS in
    let over_T = cones_are_good d T x vT pT bT in
    let from_T : ValidArrow d T M (cone d T x) =
    subst (λ (N : Dia d). ValidArrow d T N (cone d T x)) (sym (parallel_diagrams_have_one_mid d S T x parallel)) over_T.valid_cone in
    rw (type_over-cospan d S T x) (
      valid_cospan d S (cone d S x) M (cone d T x) T vS over_S.valid vT over_S.valid_cone from_T,
      plain_cospan d S (cone d S x) M (cone d T x) T pS over_S.plain pT over_S.plain_cone over_T.plain_cone,
    )
