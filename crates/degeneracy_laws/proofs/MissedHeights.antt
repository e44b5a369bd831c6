-- A rival e of a misses no height of T to which a height of the reduced source S goes. Else the regular slices of S beside
-- that height are both least into one slice of R, so they are one; the singular slice between them is the same with
-- identity legs, and no leg hits it.
use Rattle.std.proofs.Common.{◌≡◌, ℕ, suc, ◌<◌, ◌≤◌, length, sym, ap, ◌∙◌, subst, arith, inl, inr}
use Rattle.diagram_terms.specs.Family.{Dia, Arr, reg, sing, fwd, bwd, height, arrow_reg, arrow_sing}
use Rattle.diagram_terms.specs.Dual.{dual}
use Rattle.diagram_terms.specs.Composite.{comp, ident}
use Rattle.diagram_terms.specs.Identity.{IsIdentity}
use Rattle.diagram_terms.specs.Valid.{ValidArrow, Valid}
use Rattle.diagram_terms.specs.Degeneracy.{DegeneracyByShape}
use Rattle.diagram_terms.specs.Least.{Leg, FactorsBy, Factors, Hits, IsRegularSlice, LeadsInto}
use Rattle.diagram_terms.proofs.Injections.{increasing-dual_same, increasing-dual_next}
use Rattle.diagram_terms.proofs.Squares.{first_at, last_at}
use Rattle.map_laws.proofs.Associativity.{associative}
use Rattle.map_laws.proofs.ValidParts.{dual_within, height_within}
use Rattle.map_laws.proofs.ValidComposites.{composites_are_valid}
use Rattle.map_laws.proofs.ValidIdentities.{identities_are_valid}
use Rattle.map_laws.proofs.Neutral.{neutral_after, neutral_before}
use Rattle.map_laws.proofs.IdentityShapes.{identities_have_shape}
use Rattle.degeneracy_laws.proofs.Cancellation.{shapes_are_mono, first_parts_have_shape}
use Rattle.degeneracy_laws.proofs.Factors.{factor_shape, mutual_factors}
use Rattle.degeneracy_laws.proofs.Rivals.{Rivals, RivalsFactor, regular_legs, legs_into, factor, factor-dual, factor-reg, hit_by_rival, reg_factor}
use Rattle.degeneracy_laws.proofs.ShapeComposites.{shape_valid, identity_shape}

-- let the height k of S go to a height n of T that e misses
module _ (d : ℕ) (ih : RivalsFactor d) (S R T : Dia (suc d)) (a e : Arr (suc d)) (G : Leg (suc d) → Type 0)
    (r : Rivals (suc d) S R T a e G) (k : ℕ) (lk : k < length S.sings)
    (missed : dual e.heights (height d a k) ≡ dual e.heights (suc (height d a k))) where
  abbrev n : ℕ
  n = height d a k

  -- the slice of R that stands there
  abbrev q : ℕ
  q = dual e.heights n

  ln : n < length T.sings
  ln = height_within d S T a r.qa.valid k lk

  lq : q ≤ length R.sings
  lq = dual_within d R T e r.qe.valid n

  low : dual a.heights n ≡ k
  low = increasing-dual_same a.heights r.qa.increasing k (let l = r.qa.valid.heights_len in omega arith)

  high : dual a.heights (suc n) ≡ suc k
  high = increasing-dual_next a.heights r.qa.increasing k (let l = r.qa.valid.heights_len in omega arith)

  not_hit : Hits d G k → ⊥
  not_hit h = let x = hit_by_rival d S R T a e G r k h in omega arith

  vR : Valid d (reg d R q)
  vR = r.vR.regs q lq

  vs : Valid d (sing d S k)
  vs = r.vS.sings k lk

  v0 : Valid d (reg d S k)
  v0 = r.vS.regs k (omega arith)

  v1 : Valid d (reg d S (suc k))
  v1 = r.vS.regs (suc k) lk

  -- ---- the neighbours of S.s(k) lie over that slice

  record Side (B : Dia d) (e1 a1 : Arr d) : Type 0 where
    c : Arr d
    by : FactorsBy d B (reg d R q) a1 e1 c
    shape : DegeneracyByShape d B (reg d R q) c

  left : Side (reg d S k) (arrow_reg d e n) (arrow_reg d a n)
  left =
      let l = ln in
      let f = reg_factor d S R T a e G r ih n (omega arith) in
      let qa : DegeneracyByShape d (reg d S k) (reg d T n) (arrow_reg d a n) =
      subst (λ (m : ℕ). DegeneracyByShape d (reg d S m) (reg d T n) (arrow_reg d a n)) low (r.qa.regs n (omega arith)) in
      let by : FactorsBy d (reg d S k) (reg d R q) (arrow_reg d a n) (arrow_reg d e n) f.0 =
      subst (λ (m : ℕ). FactorsBy d (reg d S m) (reg d R q) (arrow_reg d a n) (arrow_reg d e n) f.0) low f.1 in
      record {
        c = f.0;
        by = by;
        shape = factor_shape d _ _ _ (arrow_reg d a n) (arrow_reg d e n) f.0 v0 vR (r.vT.regs n (omega arith)) qa (r.qe.regs n (omega arith)) by;
      }

  -- the slice of e at the right end of n
  e_right : DegeneracyByShape d (reg d R q) (reg d T (suc n)) (arrow_reg d e (suc n))
  e_right = subst (λ (m : ℕ). DegeneracyByShape d (reg d R m) (reg d T (suc n)) (arrow_reg d e (suc n))) (sym missed) (r.qe.regs (suc n) ln)

  right : Side (reg d S (suc k)) (arrow_reg d e (suc n)) (arrow_reg d a (suc n))
  right =
      let f = reg_factor d S R T a e G r ih (suc n) ln in
      let qa : DegeneracyByShape d (reg d S (suc k)) (reg d T (suc n)) (arrow_reg d a (suc n)) =
      subst (λ (m : ℕ). DegeneracyByShape d (reg d S m) (reg d T (suc n)) (arrow_reg d a (suc n))) high (r.qa.regs (suc n) ln) in
      let by1 : FactorsBy d (reg d S (suc k)) (reg d R (dual e.heights (suc n))) (arrow_reg d a (suc n)) (arrow_reg d e (suc n)) f.0 =
      subst (λ (m : ℕ). FactorsBy d (reg d S m) (reg d R (dual e.heights (suc n))) (arrow_reg d a (suc n)) (arrow_reg d e (suc n)) f.0) high f.1 in
      let by : FactorsBy d (reg d S (suc k)) (reg d R q) (arrow_reg d a (suc n)) (arrow_reg d e (suc n)) f.0 =
      subst (λ (m : ℕ). FactorsBy d (reg d S (suc k)) (reg d R m) (arrow_reg d a (suc n)) (arrow_reg d e (suc n)) f.0) (sym missed) by1 in
      record {
        c = f.0;
        by = by;
        shape = factor_shape d _ _ _ (arrow_reg d a (suc n)) (arrow_reg d e (suc n)) f.0 v1 vR (r.vT.regs (suc n) ln) qa e_right by;
      }

  -- ---- the way E from that slice into T.s(n)

  abbrev E : Arr d
  E = comp d (fwd d T n) (arrow_reg d e n)

  qE : DegeneracyByShape d (reg d R q) (sing d T n) E
  qE = r.qe.missed_fwds n ln missed

  left_over : comp d E left.c ≡ comp d (arrow_sing d a k) (fwd d S k)
  left_over =
      let l = ln in
      let e1 = associative d _ _ _ _ left.c (arrow_reg d e n) (fwd d T n) left.by.valid (r.qe.valid.regs n (omega arith)) (r.vT.fwds n ln) in
      let e2 = first_at (r.qa.valid.squares n ln) k low (let h = high in omega arith) in
      sym e1 ∙ ap (comp d (fwd d T n)) left.by.composite ∙ e2

  right_over : comp d E right.c ≡ comp d (arrow_sing d a k) (bwd d S k)
  right_over =
      let e0 = (r.qe.valid.squares n ln).empty missed in
      let e1 = associative d _ _ _ _ right.c (arrow_reg d e (suc n)) (bwd d T n) right.by.valid (shape_valid d _ _ _ e_right) (r.vT.bwds n ln) in
      let e2 = last_at (r.qa.valid.squares n ln) k (let l = low in omega arith) (sym high) in
      ap (λ (t : Arr d). comp d t right.c) e0 ∙ sym e1 ∙ ap (comp d (bwd d T n)) right.by.composite ∙ e2

  -- ---- so S.s(k) lies over that slice too

  over : Factors d (sing d S k) (reg d R q) (arrow_sing d a k) E
  over = ih (sing d S k) (reg d R q) (sing d T n) (arrow_sing d a k) E (λ b. LeadsInto d S G k b) (record {
    vS = vs;
    vR = vR;
    vT = r.vT.sings n ln;
    qa = r.qa.sings k lk;
    qe = qE;
    legs = legs_into d S R T a e G r k lk;
    rival = λ b p.
        let P : Leg d → Type 0 = λ t. Factors d t.source (reg d R q) (comp d (arrow_sing d a k) t.arrow) E in
        elim p [
          | inl x ↦ absurd (not_hit x.0)
          | inr y ↦ elim y [
            | inl x ↦ subst P (sym x) (left.c, record { valid = left.by.valid; composite = left_over })
            | inr x ↦ subst P (sym x) (right.c, record { valid = right.by.valid; composite = right_over })
          ]
        ];
    reduced = r.reduced.sings k lk;
  })

  abbrev u : Arr d
  u = over.0

  u_shape : DegeneracyByShape d (sing d S k) (reg d R q) u
  u_shape = factor_shape d _ _ _ (arrow_sing d a k) E u vs vR (r.vT.sings n ln) (r.qa.sings k lk) qE over.1

  -- what lies over it and goes to T.s(n) through S.s(k) goes through u
  through : (B : Dia d) (x b : Arr d) → Valid d B → ValidArrow d B (reg d R q) x → ValidArrow d B (sing d S k) b
      → comp d E x ≡ comp d (arrow_sing d a k) b → x ≡ comp d u b
  through B x b vB vx vb same =
      shapes_are_mono d _ _ _ E x (comp d u b) qE vx (composites_are_valid d _ _ _ b u vB vs vR vb over.1.valid)
      (same ∙ ap (λ (t : Arr d). comp d t b) (sym over.1.composite)
      ∙ sym (associative d _ _ _ _ b u E vb over.1.valid (shape_valid d _ _ E qE)))

  left_through : left.c ≡ comp d u (fwd d S k)
  left_through = through (reg d S k) left.c (fwd d S k) v0 left.by.valid (r.vS.fwds k lk) left_over

  right_through : right.c ≡ comp d u (bwd d S k)
  right_through = through (reg d S (suc k)) right.c (bwd d S k) v1 right.by.valid (r.vS.bwds k lk) right_over

  fwd_shape : DegeneracyByShape d (reg d S k) (sing d S k) (fwd d S k)
  fwd_shape = first_parts_have_shape d _ _ _ (fwd d S k) u v0 vs vR (r.vS.fwds k lk) u_shape
      (subst (DegeneracyByShape d (reg d S k) (reg d R q)) left_through left.shape)

  -- ---- the slices of a leg over the two neighbours

  leg_sides : (g : Leg (suc d)) → G g → (same : dual g.arrow.heights k ≡ dual g.arrow.heights (suc k))
      × (comp d left.c (arrow_reg d g.arrow k) ≡ comp d right.c (arrow_reg d g.arrow (suc k)))
  leg_sides g p =
      let l = ln in
      let h : Arr (suc d) = factor d S R T a e G r g p in
      let vg = (r.legs g p).arrow in
      let vh = (r.rival g p).1.valid in
      let d0 = factor-dual d S R T a e G r g p n ∙ ap (dual g.arrow.heights) low in
      let d1 = factor-dual d S R T a e G r g p (suc n) ∙ ap (dual g.arrow.heights) high in
      let dq = ap (dual h.heights) missed in
      let same : dual g.arrow.heights k ≡ dual g.arrow.heights (suc k) = omega arith in
      let B : Dia d = reg d g.source (dual g.arrow.heights k) in
      let vB = (r.legs g p).source.regs _ (dual_within d g.source S g.arrow vg k) in
      let g0 = vg.regs k (omega arith) in
      let g1 : ValidArrow d B (reg d S (suc k)) (arrow_reg d g.arrow (suc k)) =
      subst (λ (m : ℕ). ValidArrow d (reg d g.source m) (reg d S (suc k)) (arrow_reg d g.arrow (suc k))) (sym same) (vg.regs (suc k) lk) in
      let hq : ValidArrow d B (reg d R q) (arrow_reg d h q) =
      subst (λ (m : ℕ). ValidArrow d (reg d g.source m) (reg d R q) (arrow_reg d h q)) d0 (vh.regs q lq) in
      let e0 = associative d _ _ _ _ (arrow_reg d g.arrow k) left.c (arrow_reg d e n) g0 left.by.valid (r.qe.valid.regs n (omega arith)) in
      let e1 = associative d _ _ _ _ (arrow_reg d g.arrow (suc k)) right.c (arrow_reg d e (suc n)) g1 right.by.valid (shape_valid d _ _ _ e_right) in
      let l0 = factor-reg d S R T a e G r g p n (omega arith) ∙ ap (λ (m : ℕ). comp d (arrow_reg d a n) (arrow_reg d g.arrow m)) low in
      let l1 = factor-reg d S R T a e G r g p (suc n) ln ∙ ap (λ (m : ℕ). comp d (arrow_reg d a (suc n)) (arrow_reg d g.arrow m)) high in
      let lq1 = ap (λ (m : ℕ). comp d (arrow_reg d e (suc n)) (arrow_reg d h m)) missed in
      let m0 = shapes_are_mono d _ _ _ (arrow_reg d e n) (comp d left.c (arrow_reg d g.arrow k)) (arrow_reg d h q) (r.qe.regs n (omega arith))
      (composites_are_valid d _ _ _ (arrow_reg d g.arrow k) left.c vB v0 vR g0 left.by.valid) hq
      (e0 ∙ ap (λ (t : Arr d). comp d t (arrow_reg d g.arrow k)) left.by.composite ∙ sym l0) in
      let m1 = shapes_are_mono d _ _ _ (arrow_reg d e (suc n)) (comp d right.c (arrow_reg d g.arrow (suc k))) (arrow_reg d h q) e_right
      (composites_are_valid d _ _ _ (arrow_reg d g.arrow (suc k)) right.c vB v1 vR g1 right.by.valid) hq
      (e1 ∙ ap (λ (t : Arr d). comp d t (arrow_reg d g.arrow (suc k))) right.by.composite ∙ sym l1 ∙ sym lq1) in
      (same, m0 ∙ sym m1)

  -- ---- so the neighbours are one

  right_by_left : Factors d (reg d S (suc k)) (reg d S k) right.c left.c
  right_by_left = ih (reg d S (suc k)) (reg d S k) (reg d R q) right.c left.c (λ b. IsRegularSlice d G (suc k) b) (record {
    vS = v1;
    vR = v0;
    vT = vR;
    qa = right.shape;
    qe = left.shape;
    legs = regular_legs d S R T a e G r (suc k) lk;
    rival = λ b p.
        let g : Leg (suc d) = p.0 in
        let m = leg_sides g p.1 in
        subst (λ (t : Leg d). Factors d t.source (reg d S k) (comp d right.c t.arrow) left.c) (sym p.2) (
          arrow_reg d g.arrow k,
          record {
            valid = subst (λ (j : ℕ). ValidArrow d (reg d g.source j) (reg d S k) (arrow_reg d g.arrow k)) m.0
                ((r.legs g p.1).arrow.regs k (omega arith));
            composite = m.1;
          },
        );
    reduced = r.reduced.regs (suc k) lk;
  })

  left_by_right : Factors d (reg d S k) (reg d S (suc k)) left.c right.c
  left_by_right = ih (reg d S k) (reg d S (suc k)) (reg d R q) left.c right.c (λ b. IsRegularSlice d G k b) (record {
    vS = v0;
    vR = v1;
    vT = vR;
    qa = left.shape;
    qe = right.shape;
    legs = regular_legs d S R T a e G r k (omega arith);
    rival = λ b p.
        let g : Leg (suc d) = p.0 in
        let m = leg_sides g p.1 in
        subst (λ (t : Leg d). Factors d t.source (reg d S (suc k)) (comp d left.c t.arrow) right.c) (sym p.2) (
          arrow_reg d g.arrow (suc k),
          record {
            valid = subst (λ (j : ℕ). ValidArrow d (reg d g.source j) (reg d S (suc k)) (arrow_reg d g.arrow (suc k))) (sym m.0)
                ((r.legs g p.1).arrow.regs (suc k) lk);
            composite = sym m.1;
          },
        );
    reduced = r.reduced.regs k (omega arith);
  })

  one_side : (reg d S k ≡ reg d S (suc k)) × (left.c ≡ right.c)
  one_side = mutual_factors d (reg d S k) (reg d S (suc k)) (reg d R q) left.c right.c v0 v1 left.shape right.shape right_by_left left_by_right

  one_leg : fwd d S k ≡ bwd d S k
  one_leg = shapes_are_mono d _ _ _ u (fwd d S k) (bwd d S k) u_shape (r.vS.fwds k lk)
      (subst (λ (B : Dia d). ValidArrow d B (sing d S k) (bwd d S k)) (sym one_side.0) (r.vS.bwds k lk))
      (sym left_through ∙ one_side.1 ∙ right_through)

  -- ---- and S.s(k) is the same as they, with identity legs

  after_fwd : comp d (ident d (sing d S k)) (fwd d S k) ≡ fwd d S k
  after_fwd = neutral_after d _ _ (fwd d S k) vs (r.vS.fwds k lk)

  before_fwd : comp d (fwd d S k) (ident d (reg d S k)) ≡ fwd d S k
  before_fwd = neutral_before d _ _ (fwd d S k) v0 (r.vS.fwds k lk)

  sing_identity : DegeneracyByShape d (sing d S k) (sing d S k) (ident d (sing d S k))
  sing_identity = identity_shape d _ _ (ident d (sing d S k)) (identities_are_valid d _ vs) (identities_have_shape d _ vs)

  back : Factors d (sing d S k) (reg d S k) (ident d (sing d S k)) (fwd d S k)
  back =
      let iv = identities_are_valid d (reg d S k) v0 in
      ih (sing d S k) (reg d S k) (sing d S k) (ident d (sing d S k)) (fwd d S k) (λ b. LeadsInto d S G k b) (record {
        vS = vs;
        vR = v0;
        vT = vs;
        qa = sing_identity;
        qe = fwd_shape;
        legs = legs_into d S R T a e G r k lk;
        rival = λ b p.
            let P : Leg d → Type 0 = λ t. Factors d t.source (reg d S k) (comp d (ident d (sing d S k)) t.arrow) (fwd d S k) in
            elim p [
              | inl x ↦ absurd (not_hit x.0)
              | inr y ↦ elim y [
                | inl x ↦ subst P (sym x) (ident d (reg d S k), record { valid = iv; composite = before_fwd ∙ sym after_fwd })
                | inr x ↦ subst P (sym x) (
                  ident d (reg d S k),
                  record {
                    valid = subst (λ (B : Dia d). ValidArrow d B (reg d S k) (ident d (reg d S k))) one_side.0 iv;
                    composite = before_fwd ∙ sym after_fwd ∙ ap (comp d (ident d (sing d S k))) one_leg;
                  },
                )
              ]
            ];
        reduced = r.reduced.sings k lk;
      })

  fwd_is_identity : IsIdentity d (fwd d S k)
  fwd_is_identity =
      let m = mutual_factors d (sing d S k) (reg d S k) (sing d S k) (ident d (sing d S k)) (fwd d S k) vs v0 sing_identity fwd_shape
      (fwd d S k, record { valid = r.vS.fwds k lk; composite = after_fwd }) back in
      subst (IsIdentity d) m.1 (identities_have_shape d _ vs)

  -- a reduced source has no such height
  pub not_missed : ⊥
  not_missed = not_hit (r.reduced.hit k lk fwd_is_identity (subst (IsIdentity d) one_leg fwd_is_identity))
