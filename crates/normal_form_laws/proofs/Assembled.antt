-- The assembled diagram is valid, its arrow has the shape of a degeneracy, and the legs factor through it.
use Rattle.std.proofs.Common.{◌≡◌, ℕ, suc, ◌<◌, ◌≤◌, List, length, get_or, sym, ap, ◌∙◌, subst, arith}
use Rattle.diagram_terms.specs.Family.{Dia, Arr, reg, sing, fwd, bwd, height, arrow_reg, arrow_sing}
use Rattle.diagram_terms.specs.Dual.{IsIncreasing, AreBelow, dual}
use Rattle.diagram_terms.specs.Composite.{comp, ident}
use Rattle.diagram_terms.specs.Identity.{IsIdentity}
use Rattle.diagram_terms.specs.Valid.{ValidArrow, Valid, Commutes}
use Rattle.diagram_terms.specs.Degeneracy.{DegeneracyByShape}
use Rattle.diagram_terms.specs.Least.{Leg, ValidLeg, FactorsBy}
use Rattle.diagram_terms.proofs.Duals.{dual-le-length, in_fibre}
use Rattle.diagram_terms.proofs.Injections.{increasing-dual_same, increasing-dual_next, increasing_mono}
use Rattle.map_laws.proofs.Neutral.{neutral_before}
use Rattle.map_laws.proofs.IdentityShapes.{shape_means_identity}
use Rattle.degeneracy_laws.proofs.ShapeComposites.{shape_valid}
use Rattle.diagram_terms.specs.Factors.{factor_through}
use Rattle.diagram_terms.specs.NormalForms.{Parts, reg_part, sing_part, fwd_way, bwd_way, fwd_between, bwd_between, assembled}
use Rattle.diagram_terms.proofs.Squares.{commutes_by}
use Rattle.normal_form_laws.proofs.AssembledParts.{stand, stand_within, stand-dual, assembled-regs_len, assembled-sings_len, assembled-fwds_len, assembled-bwds_len, assembled-reg, assembled-sing, assembled-fwd, assembled-bwd, arrow-regs_len, arrow-sings_len, arrow-reg, arrow-sing}
use Rattle.normal_form_laws.proofs.BuiltFactors.{built_factor}
use Rattle.normal_form_laws.proofs.Groups.{same_in_group}

-- degeneracies into the slices of T, through which the slices of the legs of which G speaks factor; and the heights that
-- are kept: all that a leg hits, and all at which the legs between the parts are no identities
pub record GoodParts (d : ℕ) (T : Dia (suc d)) (G : Leg (suc d) → Type 0) (p : Parts d) (kept : List ℕ) : Type 0 where
  pub vT : Valid (suc d) T
  pub legs : (g : Leg (suc d)) → G g → ValidLeg (suc d) T g
  pub regs_len : length p.regs ≡ suc (length T.sings)
  pub reg_valid : (k : ℕ) → k ≤ length T.sings → Valid d (reg_part d p k).source
  pub reg_shape : (k : ℕ) → k ≤ length T.sings → DegeneracyByShape d (reg_part d p k).source (reg d T k) (reg_part d p k).arrow
  pub sing_valid : (k : ℕ) → k < length T.sings → Valid d (sing_part d p k).source
  pub sing_shape : (k : ℕ) → k < length T.sings → DegeneracyByShape d (sing_part d p k).source (sing d T k) (sing_part d p k).arrow
  pub fwd_by : (k : ℕ) → k < length T.sings → FactorsBy d (reg_part d p k).source (sing_part d p k).source
      (fwd_way d T p.regs k).arrow (sing_part d p k).arrow (fwd_between d T p k)
  pub bwd_by : (k : ℕ) → k < length T.sings → FactorsBy d (reg_part d p (suc k)).source (sing_part d p k).source
      (bwd_way d T p.regs k).arrow (sing_part d p k).arrow (bwd_between d T p k)
  pub reg_legs : (g : Leg (suc d)) → G g → (k : ℕ) → k ≤ length T.sings
      → FactorsBy d (reg d g.source (dual g.arrow.heights k)) (reg_part d p k).source (arrow_reg d g.arrow k) (reg_part d p k).arrow
      (factor_through d (reg_part d p k).arrow (arrow_reg d g.arrow k))
  pub sing_legs : (g : Leg (suc d)) → G g → (i k : ℕ) → i < length g.source.sings → height d g.arrow i ≡ k
      → FactorsBy d (sing d g.source i) (sing_part d p k).source (arrow_sing d g.arrow i) (sing_part d p k).arrow
      (factor_through d (sing_part d p k).arrow (arrow_sing d g.arrow i))
  pub increasing : IsIncreasing kept
  pub below : AreBelow kept (length T.sings)
  pub missed_fwds : (k : ℕ) → k < length T.sings → dual kept k ≡ dual kept (suc k) → IsIdentity d (fwd_between d T p k)
  pub missed_bwds : (k : ℕ) → k < length T.sings → dual kept k ≡ dual kept (suc k) → IsIdentity d (bwd_between d T p k)
  pub hits : (g : Leg (suc d)) → G g → (i : ℕ) → i < length g.source.sings
      → dual kept (height d g.arrow i) < dual kept (suc (height d g.arrow i))

module _ (d : ℕ) (T : Dia (suc d)) (G : Leg (suc d) → Type 0) (p : Parts d) (kept : List ℕ) (r : GoodParts d T G p kept) where
  abbrev n : ℕ
  n = length T.sings

  abbrev N : Dia (suc d)
  N = (assembled d T p kept).source

  abbrev D : Arr (suc d)
  D = (assembled d T p kept).arrow

  pub kept_within : (i : ℕ) → i < length kept → get_or kept i 0 < n
  kept_within i l = r.below.below i l

  -- ---- at a height that is not kept, all three slices are one

  fwd_flat : (k : ℕ) → k < n → dual kept k ≡ dual kept (suc k)
      → ((reg_part d p k).source ≡ (sing_part d p k).source) × (fwd_between d T p k ≡ ident d (reg_part d p k).source)
  fwd_flat k l e = shape_means_identity d _ _ (fwd_between d T p k) (r.reg_valid k (omega arith)) (r.sing_valid k l)
      (r.fwd_by k l).valid (r.missed_fwds k l e)

  bwd_flat : (k : ℕ) → k < n → dual kept k ≡ dual kept (suc k)
      → ((reg_part d p (suc k)).source ≡ (sing_part d p k).source) × (bwd_between d T p k ≡ ident d (reg_part d p (suc k)).source)
  bwd_flat k l e = shape_means_identity d _ _ (bwd_between d T p k) (r.reg_valid (suc k) l) (r.sing_valid k l)
      (r.bwd_by k l).valid (r.missed_bwds k l e)

  -- and the two composites into T.s(k) are the part there
  fwd_way_flat : (k : ℕ) → k < n → dual kept k ≡ dual kept (suc k) → (fwd_way d T p.regs k).arrow ≡ (sing_part d p k).arrow
  fwd_way_flat k l e =
      let f = fwd_flat k l e in
      sym (r.fwd_by k l).composite ∙ ap (comp d (sing_part d p k).arrow) (f.1 ∙ ap (ident d) f.0)
      ∙ neutral_before d _ _ (sing_part d p k).arrow (r.sing_valid k l) (shape_valid d _ _ _ (r.sing_shape k l))

  bwd_way_flat : (k : ℕ) → k < n → dual kept k ≡ dual kept (suc k) → (bwd_way d T p.regs k).arrow ≡ (sing_part d p k).arrow
  bwd_way_flat k l e =
      let f = bwd_flat k l e in
      sym (r.bwd_by k l).composite ∙ ap (comp d (sing_part d p k).arrow) (f.1 ∙ ap (ident d) f.0)
      ∙ neutral_before d _ _ (sing_part d p k).arrow (r.sing_valid k l) (shape_valid d _ _ _ (r.sing_shape k l))

  -- so the assembled diagram has the part of each regular height
  pub assembled-at_dual : (k : ℕ) → k ≤ n → reg d N (dual kept k) ≡ (reg_part d p k).source
  assembled-at_dual k l =
      let j : ℕ = dual kept k in
      let lj = dual-le-length kept k in
      assembled-reg d T p kept j lj
      ∙ same_in_group kept (increasing_mono kept r.increasing) n (λ k. (reg_part d p k).source)
      (λ k l e. (fwd_flat k l e).0 ∙ sym (bwd_flat k l e).0)
      (stand kept n j) k (stand_within kept n r.increasing r.below j) l (stand-dual kept n r.increasing r.below j lj)

  -- ---- the neighbours of a kept height

  pub left_of : (i : ℕ) → i < length kept → reg d N i ≡ (reg_part d p (get_or kept i 0)).source
  left_of i l = ap (reg d N) (sym (increasing-dual_same kept r.increasing i l))
      ∙ assembled-at_dual (get_or kept i 0) (let a = kept_within i l in omega arith)

  pub right_of : (i : ℕ) → i < length kept → reg d N (suc i) ≡ (reg_part d p (suc (get_or kept i 0))).source
  right_of i l = ap (reg d N) (sym (increasing-dual_next kept r.increasing i l)) ∙ assembled-at_dual (suc (get_or kept i 0)) (kept_within i l)

  pub assembled_valid : Valid (suc d) N
  assembled_valid =
      let m = assembled-sings_len d T p kept in
      record {
        regs_len = assembled-regs_len d T p kept ∙ ap suc (sym m);
        fwds_len = assembled-fwds_len d T p kept ∙ sym m;
        bwds_len = assembled-bwds_len d T p kept ∙ sym m;
        regs = λ j l. subst (Valid d) (sym (assembled-reg d T p kept j (omega arith)))
            (r.reg_valid (stand kept n j) (stand_within kept n r.increasing r.below j));
        sings = λ i l. subst (Valid d) (sym (assembled-sing d T p kept i (omega arith)))
            (r.sing_valid (get_or kept i 0) (kept_within i (omega arith)));
        fwds = λ i l. rw (left_of i (omega arith), assembled-sing d T p kept i (omega arith), assembled-fwd d T p kept i (omega arith))
            (r.fwd_by (get_or kept i 0) (kept_within i (omega arith))).valid;
        bwds = λ i l. rw (right_of i (omega arith), assembled-sing d T p kept i (omega arith), assembled-bwd d T p kept i (omega arith))
            (r.bwd_by (get_or kept i 0) (kept_within i (omega arith))).valid;
      }

  -- ---- the arrow

  reg_arrow : (k : ℕ) → k ≤ n → arrow_reg d D k ≡ (reg_part d p k).arrow
  reg_arrow k l = arrow-reg d T p kept k (let a = r.regs_len in omega arith)

  fwd_arrow : (k : ℕ) → k < n → comp d (fwd d T k) (arrow_reg d D k) ≡ (fwd_way d T p.regs k).arrow
  fwd_arrow k l = ap (comp d (fwd d T k)) (reg_arrow k (omega arith))

  bwd_arrow : (k : ℕ) → k < n → comp d (bwd d T k) (arrow_reg d D (suc k)) ≡ (bwd_way d T p.regs k).arrow
  bwd_arrow k l = ap (comp d (bwd d T k)) (reg_arrow (suc k) l)

  assembled_square : (k : ℕ) → k < n → Commutes d N T D k
  assembled_square k l =
      let mono = increasing_mono kept r.increasing in
      let top = dual-le-length kept (suc k) in
      commutes_by d N T D k
      (λ e. fwd_arrow k l ∙ fwd_way_flat k l e ∙ sym (bwd_way_flat k l e) ∙ sym (bwd_arrow k l))
      (λ i e q.
      let li : i < length kept = omega arith in
      let at : get_or kept i 0 ≡ k = in_fibre kept mono i k (omega arith) q in
      let a1 = fwd_arrow k l in
      let a2 = (r.fwd_by k l).composite in
      let a3 = arrow-sing d T p kept i li in
      let a4 = assembled-fwd d T p kept i li in
      a1 ∙ sym a2 ∙ ap (λ (m : ℕ). comp d (sing_part d p m).arrow (fwd_between d T p m)) (sym at)
      ∙ ap (λ (t : Arr d). comp d t (fwd_between d T p (get_or kept i 0))) (sym a3) ∙ ap (comp d (arrow_sing d D i)) (sym a4))
      (λ i q e.
      let li : i < length kept = omega arith in
      let at : get_or kept i 0 ≡ k = in_fibre kept mono i k q (omega arith) in
      let a1 = bwd_arrow k l in
      let a2 = (r.bwd_by k l).composite in
      let a3 = arrow-sing d T p kept i li in
      let a4 = assembled-bwd d T p kept i li in
      a1 ∙ sym a2 ∙ ap (λ (m : ℕ). comp d (sing_part d p m).arrow (bwd_between d T p m)) (sym at)
      ∙ ap (λ (t : Arr d). comp d t (bwd_between d T p (get_or kept i 0))) (sym a3) ∙ ap (comp d (arrow_sing d D i)) (sym a4))
      (λ i q e. absurd (
      let a = in_fibre kept mono i k q (omega arith) in
      let b = in_fibre kept mono (suc i) k (omega arith) e in
      let c = r.increasing.increases i (suc i) (omega arith) (omega arith) in omega arith))

  pub arrow_valid : ValidArrow (suc d) N T D
  arrow_valid =
      let m = assembled-sings_len d T p kept in
      record {
        heights_len = sym m;
        regs_len = arrow-regs_len d T p kept ∙ r.regs_len;
        sings_len = arrow-sings_len d T p kept ∙ sym m;
        monotone = increasing_mono kept r.increasing;
        below = r.below;
        regs = λ k l. rw (assembled-at_dual k l, reg_arrow k l) (shape_valid d _ _ _ (r.reg_shape k l));
        sings = λ i l. rw (assembled-sing d T p kept i (omega arith), arrow-sing d T p kept i (omega arith))
            (shape_valid d _ _ _ (r.sing_shape (get_or kept i 0) (kept_within i (omega arith))));
        squares = assembled_square;
      }

  pub arrow_shape : DegeneracyByShape (suc d) N T D
  arrow_shape =
      let m = assembled-sings_len d T p kept in
      record {
        valid = arrow_valid;
        increasing = r.increasing;
        regs = λ k l. rw (assembled-at_dual k l, reg_arrow k l) (r.reg_shape k l);
        sings = λ i l. rw (assembled-sing d T p kept i (omega arith), arrow-sing d T p kept i (omega arith))
            (r.sing_shape (get_or kept i 0) (kept_within i (omega arith)));
        missed_fwds = λ k l e. rw (assembled-at_dual k (omega arith), fwd_arrow k l, fwd_way_flat k l e, (fwd_flat k l e).0) (r.sing_shape k l);
        missed_bwds = λ k l e. rw (assembled-at_dual (suc k) l, bwd_arrow k l, bwd_way_flat k l e, (bwd_flat k l e).0) (r.sing_shape k l);
      }

  -- ---- the legs

  pub legs_factor : (g : Leg (suc d)) → G g → FactorsBy (suc d) g.source N g.arrow D (factor_through (suc d) D g.arrow)
  legs_factor g q =
      let v = r.legs g q in
      let mono = increasing_mono kept r.increasing in
      built_factor d g.source N T g.arrow D (record {
        vW = v.source;
        vR = assembled_valid;
        vT = r.vT;
        vf = v.arrow;
        qe = arrow_shape;
        hits = r.hits g q;
        regs = λ k l. rw (assembled-at_dual k l, reg_arrow k l) (r.reg_legs g q k l);
        sings = λ i l.
            let m : ℕ = dual kept (height d g.arrow i) in
            let h = r.hits g q i l in
            let lm : m < length kept = let a = dual-le-length kept (suc (height d g.arrow i)) in omega arith in
            let at : height d g.arrow i ≡ get_or kept m 0 = sym (in_fibre kept mono m (height d g.arrow i) (omega arith) h) in
            rw (assembled-sing d T p kept m lm, arrow-sing d T p kept m lm) (r.sing_legs g q i (get_or kept m 0) l at);
      })
