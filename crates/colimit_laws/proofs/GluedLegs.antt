-- The legs of the cocone that the parts' colimits make are valid and plain, and agree with the arrows.
use Rattle.std.proofs.Common.{◌≡◌, ℕ, suc, ◌-◌, ◌<◌, ◌≤◌, List, length, refl, sym, ap, ◌∙◌, subst, arith}
use Rattle.std.specs.List.{Contains}
use Rattle.diagram_terms.specs.declared.place.Height.TheVariants as slice
use Rattle.diagram_terms.specs.Family.{Dia, Arr, reg, sing, fwd, bwd, height, arrow_reg, arrow_sing}
use Rattle.diagram_terms.specs.Dual.{IsMonotone, dual}
use Rattle.diagram_terms.specs.Composite.{comp, ident}
use Rattle.diagram_terms.specs.Valid.{ValidArrow, Commutes}
use Rattle.diagram_terms.specs.Plain.{PlainArrow}
use Rattle.diagram_terms.proofs.Parts.{comp-heights, comp-regs_len, comp-sings_len, comp-reg, comp-sing, same_arrows}
use Rattle.map_laws.proofs.ValidIdentities.{identities_are_valid}
use Rattle.map_laws.proofs.Neutral.{neutral_after, neutral_before}
use Rattle.map_laws.proofs.IdentityShapes.{identities_have_shape}
use Rattle.plain_laws.proofs.PlainEnds.{plain_arrows_unfold}
use Rattle.diagram_terms.specs.Ranks.{Ranks, ranks_of, rank}
use Rattle.colimit_laws.specs.RankConditions.{AreRanks}
use Rattle.diagram_terms.specs.Shapes.{Shape, ShapeArrow, IsShape, heights_of, object}
use Rattle.diagram_terms.specs.Cocones.{Cocone, IsPlainCocone}
use Rattle.diagram_terms.specs.ClassParts.{part}
use Rattle.diagram_terms.specs.Colimits.{cocone_at, part_leg, apex_reg, glued_apex, glued_leg, glued}
use Rattle.diagram_terms.proofs.Squares.{commutes_by}
use Rattle.colimit_laws.proofs.Names.{IsInPart}
use Rattle.colimit_laws.proofs.Ranked.{row-len, row-mono, row-below, row-dual_within, rank-below, has_rank, of_rank-low, of_rank-high, row-along, rank-along, arrow-of}
use Rattle.colimit_laws.proofs.Parts.{sing-in_part}
use Rattle.colimit_laws.proofs.ClassEdges.{part_leg-valid, part_leg-plain, part_leg-slice, enter, leave, leave-next}
use Rattle.colimit_laws.proofs.GluedParts.{apex-sings_len, apex-reg, apex-sing, leg-heights, leg-regs_len, leg-sings_len, leg-height, leg-dual, leg-reg, leg-sing, legs-len, leg-at}
use Rattle.colimit_laws.proofs.Gluing.{apex_reg-any, apex_reg-valid, apex-fwd_from, apex-bwd_from, apex-legs_meet, apex-valid, apex-plain}

module _ (d : ℕ) (S : Shape (suc d)) (vS : IsShape (suc d) S) (r : Ranks) (ar : AreRanks (heights_of d S) r) (parts : List (Cocone d))
    (good : (k : ℕ) → k < r.count → IsPlainCocone d (part d S r k) (cocone_at d parts k)) where
  abbrev A : Dia (suc d)
  A = glued_apex d S r parts

  abbrev leg_of : ℕ → Arr (suc d)
  leg_of x = glued_leg d S r parts x

  -- ---- the leg of x

  module _ (x : ℕ) (lx : x < length S.objects) where
    abbrev X : Dia (suc d)
    X = object (suc d) S x

    -- a height of x is a member of the class of its rank
    pub in_own_part : (i : ℕ) → i < length X.sings → IsInPart r (rank r x i) x (slice.S i)
    in_own_part i l = sing-in_part d S vS r ar (rank r x i) x i lx (of_rank-low d S vS r ar x i (rank r x i) lx refl)
        (of_rank-high d S vS r ar x i (rank r x i) lx l refl)

    pub leg-sing_at : (i k : ℕ) → i < length X.sings → rank r x i ≡ k → arrow_sing d (leg_of x) i ≡ part_leg d S r parts k x (slice.S i)
    leg-sing_at i k l e =
        let n = row-len d S vS r ar x lx in
        leg-sing d S r parts x i (omega arith) ∙ ap (λ (k : ℕ). part_leg d S r parts k x (slice.S i)) e

    leg-reg_valid : (j : ℕ) → j ≤ r.count → ValidArrow d (reg d X (dual (leg_of x).heights j)) (reg d A j) (arrow_reg d (leg_of x) j)
    leg-reg_valid j l = rw (leg-dual d S r parts x j, apex_reg-any d S vS r ar parts good x j lx, apex-reg d S r parts j l, leg-reg d S r parts x j l)
        (identities_are_valid d (apex_reg d S r parts j) (apex_reg-valid d S vS r ar parts good j))

    leg-sing_valid : (i : ℕ) → i < length X.sings → ValidArrow d (sing d X i) (sing d A (height d (leg_of x) i)) (arrow_sing d (leg_of x) i)
    leg-sing_valid i l =
        let k : ℕ = rank r x i in
        let lk : k < r.count = rank-below d S vS r ar x i lx l in
        rw (leg-height d S r parts x i, apex-sing d S r parts k lk, leg-sing_at i k l refl)
        (part_leg-valid d S vS r ar parts k (good k lk) x (slice.S i) (in_own_part i l))

    -- the legs of the apex pass over the regular slices of the leg
    fwd-past : (k : ℕ) → k < r.count → comp d (fwd d A k) (arrow_reg d (leg_of x) k) ≡ fwd d A k
    fwd-past k l =
        let vA = apex-valid d S vS r ar parts good in
        let sl = apex-sings_len d S r parts in
        ap (comp d (fwd d A k)) (leg-reg d S r parts x k (omega arith) ∙ ap (ident d) (sym (apex-reg d S r parts k (omega arith))))
        ∙ neutral_before d _ _ (fwd d A k) (vA.regs k (omega arith)) (vA.fwds k (omega arith))

    bwd-past : (k : ℕ) → k < r.count → comp d (bwd d A k) (arrow_reg d (leg_of x) (suc k)) ≡ bwd d A k
    bwd-past k l =
        let vA = apex-valid d S vS r ar parts good in
        let sl = apex-sings_len d S r parts in
        ap (comp d (bwd d A k)) (leg-reg d S r parts x (suc k) l ∙ ap (ident d) (sym (apex-reg d S r parts (suc k) l)))
        ∙ neutral_before d _ _ (bwd d A k) (vA.regs (suc k) (omega arith)) (vA.bwds k (omega arith))

    -- the ways in through a height of rank k
    through_fwd : (k : ℕ) (l : k < r.count) (i : ℕ) → i < length X.sings → rank r x i ≡ k
        → enter d S vS r ar parts k (good k l) x i ≡ comp d (arrow_sing d (leg_of x) i) (fwd d X i)
    unfolding enter
    through_fwd k l i li e = ap (λ (f : Arr d). comp d f (fwd d X i)) (sym (leg-sing_at i k li e))

    through_bwd : (k : ℕ) (l : k < r.count) (i : ℕ) → i < length X.sings → rank r x i ≡ k
        → leave d S vS r ar parts k (good k l) x i ≡ comp d (arrow_sing d (leg_of x) i) (bwd d X i)
    unfolding leave
    through_bwd k l i li e = ap (λ (f : Arr d). comp d f (bwd d X i)) (sym (leg-sing_at i k li e))

    leg-square : (k : ℕ) → k < r.count → Commutes d X A (leg_of x) k
    leg-square k l =
        let a = leg-dual d S r parts x k in
        let b = leg-dual d S r parts x (suc k) in
        let full = row-dual_within d S vS r ar x (suc k) lx in
        commutes_by d X A (leg_of x) k
        (λ e. fwd-past k l ∙ apex-legs_meet d S vS r ar parts good k l x lx (omega arith) ∙ sym (bwd-past k l))
        (λ i e m.
        let start : dual (ranks_of r x) k ≡ i = omega arith in
        let p = has_rank d S vS r ar x i k lx (omega arith) (omega arith) in
        fwd-past k l ∙ apex-fwd_from d S vS r ar parts good k l x lx (omega arith)
        ∙ ap (enter d S vS r ar parts k (good k l) x) start ∙ through_fwd k l i (omega arith) p)
        (λ i m e.
        let end : dual (ranks_of r x) (suc k) - 1 ≡ i = omega arith in
        let p = has_rank d S vS r ar x i k lx (omega arith) (omega arith) in
        bwd-past k l ∙ apex-bwd_from d S vS r ar parts good k l x lx (omega arith)
        ∙ ap (leave d S vS r ar parts k (good k l) x) end ∙ through_bwd k l i (omega arith) p)
        (λ i m u.
        let p = has_rank d S vS r ar x i k lx (omega arith) (omega arith) in
        let q = has_rank d S vS r ar x (suc i) k lx (omega arith) (omega arith) in
        sym (through_bwd k l i (omega arith) p) ∙ leave-next d S vS r ar parts k (good k l) x i lx (omega arith) (omega arith)
        ∙ through_fwd k l (suc i) (omega arith) q)

    pub leg-valid : ValidArrow (suc d) X A (leg_of x)
    leg-valid =
        let n = row-len d S vS r ar x lx in
        let hs = leg-heights d S r parts x in
        let sl = apex-sings_len d S r parts in
        let rl = leg-regs_len d S r parts x in
        let ll = leg-sings_len d S r parts x in
        record {
          heights_len = ap length hs ∙ n;
          regs_len = omega arith;
          sings_len = omega arith;
          monotone = subst IsMonotone (sym hs) (row-mono d S vS r ar x lx);
          below = rw (hs, sl) (row-below d S vS r ar x lx);
          regs = λ j l. leg-reg_valid j (omega arith);
          sings = leg-sing_valid;
          squares = λ k l. leg-square k (omega arith);
        }

    pub leg-plain : PlainArrow (suc d) (leg_of x)
    leg-plain =
        let n = row-len d S vS r ar x lx in
        let rl = leg-regs_len d S r parts x in
        let ll = leg-sings_len d S r parts x in
        record {
          regs = λ j l. rw (leg-reg d S r parts x j (omega arith)) (identities_have_shape d (apex_reg d S r parts j) (apex_reg-valid d S vS r ar parts good j));
          sings = λ i l.
              let li : i < length X.sings = omega arith in
              let lk = rank-below d S vS r ar x i lx li in
              rw (leg-sing_at i (rank r x i) li refl) (part_leg-plain d S vS r ar parts (rank r x i) (good (rank r x i) lk) x (slice.S i) (in_own_part i li));
        }

  -- ---- along an arrow g of the shape

  module _ (g : ShapeArrow (suc d)) (c : Contains S.arrows g) where
    agree-reg : (j : ℕ) → j ≤ r.count → arrow_reg d (comp (suc d) (leg_of g.to) g.arrow) j ≡ arrow_reg d (leg_of g.from) j
    agree-reg j l =
        let v = arrow-of d S vS r ar g c in
        let t : ℕ = dual (ranks_of r g.to) j in
        let rl = leg-regs_len d S r parts g.to in
        let e1 = comp-reg d (leg_of g.to) g.arrow j (omega arith) in
        let e2 = leg-reg d S r parts g.to j l in
        let e3 = leg-dual d S r parts g.to j in
        let e4 : arrow_reg d g.arrow t ≡ ident d (reg d (object (suc d) S g.to) t) =
        (plain_arrows_unfold d _ _ g.arrow (vS.valid g.from v.from_within) (vS.valid g.to v.to_within) v.valid v.plain t (row-dual_within d S vS r ar g.to j v.to_within)).1 in
        let e5 = apex_reg-any d S vS r ar parts good g.to j v.to_within in
        let vj = apex_reg-valid d S vS r ar parts good j in
        let e6 = neutral_after d _ _ (ident d (apex_reg d S r parts j)) vj (identities_are_valid d (apex_reg d S r parts j) vj) in
        let e7 = leg-reg d S r parts g.from j l in
        cc

    agree-sing : (i : ℕ) → i < length (object (suc d) S g.from).sings → arrow_sing d (comp (suc d) (leg_of g.to) g.arrow) i ≡ arrow_sing d (leg_of g.from) i
    agree-sing i l =
        let v = arrow-of d S vS r ar g c in
        let k : ℕ = rank r g.from i in
        let lk = rank-below d S vS r ar g.from i v.from_within l in
        let j : ℕ = height d g.arrow i in
        let lj : j < length (object (suc d) S g.to).sings = v.valid.below.below i (let n = v.valid.heights_len in omega arith) in
        comp-sing d (leg_of g.to) g.arrow i (let n = v.valid.sings_len in omega arith)
        ∙ ap (λ (f : Arr d). comp d f (arrow_sing d g.arrow i)) (leg-sing_at g.to v.to_within j k lj (rank-along d S vS r ar g c i l))
        ∙ part_leg-slice d S vS r ar parts k (good k lk) g c i (in_own_part g.from v.from_within i l)
        ∙ sym (leg-sing_at g.from v.from_within i k l refl)

    pub legs-agree : comp (suc d) (leg_of g.to) g.arrow ≡ leg_of g.from
    legs-agree =
        let v = arrow-of d S vS r ar g c in
        let h1 = comp-heights d (leg_of g.to) g.arrow in
        let h2 = leg-heights d S r parts g.to in
        let h3 = leg-heights d S r parts g.from in
        let h4 = row-along d S vS r ar g c in
        let r1 = comp-regs_len d (leg_of g.to) g.arrow in
        let r2 = leg-regs_len d S r parts g.to in
        let r3 = leg-regs_len d S r parts g.from in
        let s1 = comp-sings_len d (leg_of g.to) g.arrow in
        let s2 = leg-sings_len d S r parts g.from in
        let s3 = row-len d S vS r ar g.from v.from_within in
        let s4 = v.valid.sings_len in
        same_arrows d (comp (suc d) (leg_of g.to) g.arrow) (leg_of g.from) (cc)
        (omega arith) (λ j l. agree-reg j (omega arith))
        (omega arith) (λ i l. agree-sing i (omega arith))

  -- ---- the cocone

  pub glued-cocone : IsPlainCocone (suc d) S (glued d S r parts)
  glued-cocone = record {
    cocone = record {
      legs_len = legs-len d S r parts;
      apex = apex-valid d S vS r ar parts good;
      legs = λ x l. rw (leg-at d S r parts x l) (leg-valid x l);
      agree = λ g c.
          let v = arrow-of d S vS r ar g c in
          rw (leg-at d S r parts g.to v.to_within, leg-at d S r parts g.from v.from_within) (legs-agree g c);
    };
    plain = apex-plain d S vS r ar parts good;
    plain_legs = λ x l. rw (leg-at d S r parts x l) (leg-plain x l);
  }
