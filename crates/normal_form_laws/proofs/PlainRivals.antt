-- A plain degeneracy a : S → T into a plain T, whose source is reduced with its regular slices left alone, and a plain
-- rival e : R → T: the legs, followed by a, factor through e. The rival misses no height of T to which a height of S
-- goes. Else the slice of S between two equal neighbours is the same with identity legs, and no leg hits it.
use Rattle.std.proofs.Common.{◌≡◌, ℕ, suc, ◌<◌, length, sym, ap, ◌∙◌, subst, arith, inl, inr}
use Rattle.std.proofs.lemmas.Bool.{cases_lt}
use Rattle.diagram_terms.specs.declared.place.Keep.TheVariants as keep
use Rattle.diagram_terms.specs.Family.{Dia, Arr, reg, sing, fwd, bwd, height, arrow_sing}
use Rattle.diagram_terms.specs.Dual.{dual}
use Rattle.diagram_terms.specs.Composite.{comp, ident}
use Rattle.diagram_terms.specs.Identity.{IsIdentity}
use Rattle.diagram_terms.specs.Plain.{PlainArrow, Plain}
use Rattle.diagram_terms.specs.Valid.{ValidArrow, Valid}
use Rattle.diagram_terms.specs.Degeneracy.{DegeneracyByShape}
use Rattle.diagram_terms.specs.Least.{Leg, ValidLeg, Factors, Hits, LeadsInto, Reduced}
use Rattle.diagram_terms.proofs.Duals.{dual_mono, fibre_low, fibre_high}
use Rattle.diagram_terms.proofs.Parts.{comp-height}
use Rattle.map_laws.proofs.Associativity.{associative}
use Rattle.map_laws.proofs.Inverses.{invertible_means_identity}
use Rattle.map_laws.proofs.Neutral.{neutral_before}
use Rattle.map_laws.proofs.ValidComposites.{composites_are_valid}
use Rattle.map_laws.proofs.ValidIdentities.{identities_are_valid}
use Rattle.map_laws.proofs.ValidParts.{height_within}
use Rattle.degeneracy_laws.proofs.Cancellation.{shapes_are_mono}
use Rattle.degeneracy_laws.proofs.ShapeComposites.{shape_valid}
use Rattle.normal_form_laws.proofs.ValidSlices.{leads_into_valid}
use Rattle.normal_form_laws.proofs.PlainShapes.{fixed, fwd_fixed, bwd_fixed, over, left_fixed, right_fixed, over_fwd, over_bwd}

pub record PlainRivals (d : ℕ) (S R T : Dia d) (a e : Arr d) (G : Leg d → Type 0) : Type 0 where
  pub vS : Valid d S
  pub vR : Valid d R
  pub vT : Valid d T
  pub pT : Plain d T
  pub qa : DegeneracyByShape d S T a
  pub pa : PlainArrow d a
  pub qe : DegeneracyByShape d R T e
  pub pe : PlainArrow d e
  pub legs : (b : Leg d) → G b → ValidLeg d S b
  pub rival : (b : Leg d) → G b → Factors d b.source R (comp d a b.arrow) e
  pub reduced : Reduced keep.Plain d S G

abbrev pub PlainRivalsFactor : ℕ → Type 1
PlainRivalsFactor d = (S R T : Dia d) (a e : Arr d) (G : Leg d → Type 0) → PlainRivals d S R T a e G → Factors d S R a e

module _ (d : ℕ) (ih : PlainRivalsFactor d) (S R T : Dia (suc d)) (a e : Arr (suc d)) (G : Leg (suc d) → Type 0)
    (r : PlainRivals (suc d) S R T a e G) where
  -- ---- the legs

  pub legs_into : (k : ℕ) → k < length S.sings → (b : Leg d) → LeadsInto d S G k b → ValidLeg d (sing d S k) b
  legs_into k l b p = leads_into_valid d S G r.legs r.vS k l b p

  -- the height i of a leg, and of its factor through e
  pub rival_height : (h : Leg (suc d)) (p : G h) (i : ℕ) → i < length h.source.sings
      → height d e (height d (r.rival h p).0 i) ≡ height d a (height d h.arrow i)
  rival_height h p i l =
      let by = (r.rival h p).1 in
      sym (comp-height d e (r.rival h p).0 i (let x = by.valid.heights_len in omega arith))
      ∙ ap (λ (t : Arr (suc d)). height d t i) by.composite
      ∙ comp-height d a h.arrow i (let x = (r.legs h p).arrow.heights_len in omega arith)

  -- a height of S that a leg hits goes to one that e hits
  hit_by_rival : (k : ℕ) → Hits d G k → dual e.heights (height d a k) < dual e.heights (suc (height d a k))
  hit_by_rival k x =
      let by = (r.rival x.g x.is_leg).1 in
      let at : height d e (height d (r.rival x.g x.is_leg).0 x.i) ≡ height d a k = rival_height x.g x.is_leg x.i x.within ∙ ap (height d a) x.goes in
      let within = height_within d x.g.source R (r.rival x.g x.is_leg).0 by.valid x.i x.within in
      let lower = fibre_low e.heights r.qe.valid.monotone _ (height d a k) at in
      let upper = fibre_high e.heights r.qe.valid.monotone _ (height d a k) (let l = r.qe.valid.heights_len in omega arith) at in
      omega arith

  -- ---- where e misses the height of T to which a height j of S goes, the legs of S at j are identities

  module _ (j : ℕ) (lj : j < length S.sings)
      (missed : dual e.heights (height d a j) ≡ dual e.heights (suc (height d a j))) where
    abbrev k : ℕ
    k = height d a j

    lk : k < length T.sings
    lk = over d S T a r.vS r.vT r.qa r.pa j lj

    abbrev s : Arr d
    s = arrow_sing d a j

    vs : Valid d (sing d S j)
    vs = r.vS.sings j lj

    not_hit : Hits d G j → ⊥
    not_hit h = let x = hit_by_rival j h in omega arith

    -- the slices of T beside k are one
    one_side : reg d T k ≡ reg d T (suc k)
    one_side =
        let l = lk in
        sym (fixed d R T e r.vR r.vT r.qe r.pe k (omega arith)).0 ∙ ap (reg d R) missed ∙ (fixed d R T e r.vR r.vT r.qe r.pe (suc k) l).0

    -- and T has a plain degeneracy there, on both sides
    one_leg : fwd d T k ≡ bwd d T k
    one_leg = let l = lk in sym (fwd_fixed d R T e r.vR r.vT r.qe r.pe k l) ∙ (r.qe.valid.squares k l).empty missed
        ∙ bwd_fixed d R T e r.vR r.vT r.qe r.pe k l

    leg_shape : DegeneracyByShape d (reg d T k) (sing d T k) (fwd d T k)
    leg_shape =
        let l = lk in
        subst (λ (X : Dia d). DegeneracyByShape d X (sing d T k) (fwd d T k)) (fixed d R T e r.vR r.vT r.qe r.pe k (omega arith)).0
        (subst (DegeneracyByShape d (reg d R (dual e.heights k)) (sing d T k)) (fwd_fixed d R T e r.vR r.vT r.qe r.pe k l)
        (r.qe.missed_fwds k l missed))

    v0 : Valid d (reg d T k)
    v0 = let l = lk in r.vT.regs k (omega arith)

    -- the legs of S there, out of the slice of T
    left : ValidArrow d (reg d T k) (sing d S j) (fwd d S j)
    left = subst (λ (X : Dia d). ValidArrow d X (sing d S j) (fwd d S j)) (left_fixed d S T a r.vS r.vT r.qa r.pa j lj) (r.vS.fwds j lj)

    right : ValidArrow d (reg d T k) (sing d S j) (bwd d S j)
    right = subst (λ (X : Dia d). ValidArrow d X (sing d S j) (bwd d S j)) (right_fixed d S T a r.vS r.vT r.qa r.pa j lj ∙ sym one_side)
        (r.vS.bwds j lj)

    over_left : comp d s (fwd d S j) ≡ fwd d T k
    over_left = over_fwd d S T a r.vS r.vT r.qa r.pa j lj

    over_right : comp d s (bwd d S j) ≡ fwd d T k
    over_right = over_bwd d S T a r.vS r.vT r.qa r.pa j lj ∙ sym one_leg

    both_one : fwd d S j ≡ bwd d S j
    both_one = shapes_are_mono d _ _ _ s (fwd d S j) (bwd d S j) (r.qa.sings j lj) left right (over_left ∙ sym over_right)

    neutral : comp d (fwd d T k) (ident d (reg d T k)) ≡ fwd d T k
    neutral = let l = lk in neutral_before d (reg d T k) (sing d T k) (fwd d T k) v0 (r.vT.fwds k l)

    -- so s factors through that leg of T
    through : Factors d (sing d S j) (reg d T k) s (fwd d T k)
    through =
        let l = lk in
        ih (sing d S j) (reg d T k) (sing d T k) s (fwd d T k) (λ b. LeadsInto d S G j b) (record {
          vS = vs;
          vR = v0;
          vT = r.vT.sings k l;
          pT = r.pT.sings k l;
          qa = r.qa.sings j lj;
          pa = r.pa.sings j (let x = r.qa.valid.sings_len in omega arith);
          qe = leg_shape;
          pe = r.pT.fwds k (let x = r.vT.fwds_len in omega arith);
          legs = legs_into j lj;
          rival = λ b p.
              let P : Leg d → Type 0 = λ t. Factors d t.source (reg d T k) (comp d s t.arrow) (fwd d T k) in
              let iv = identities_are_valid d (reg d T k) v0 in
              elim p [
                | inl x ↦ absurd (not_hit x.0)
                | inr y ↦ elim y [
                  | inl x ↦ subst P (sym x) (
                    ident d (reg d T k),
                    record {
                      valid = subst (λ (X : Dia d). ValidArrow d X (reg d T k) (ident d (reg d T k)))
                          (sym (left_fixed d S T a r.vS r.vT r.qa r.pa j lj)) iv;
                      composite = neutral ∙ sym over_left;
                    },
                  )
                  | inr x ↦ subst P (sym x) (
                    ident d (reg d T k),
                    record {
                      valid = subst (λ (X : Dia d). ValidArrow d X (reg d T k) (ident d (reg d T k)))
                          (one_side ∙ sym (right_fixed d S T a r.vS r.vT r.qa r.pa j lj)) iv;
                      composite = neutral ∙ sym over_right;
                    },
                  )
                ]
              ];
          reduced = r.reduced.sings j lj;
        })

    fwd_is_identity : IsIdentity d (fwd d S j)
    fwd_is_identity =
        let l = lk in
        let w : Arr d = through.0 in
        let vw = through.1.valid in
        let vc = r.vT.fwds k l in
        let sv = shape_valid d _ _ s (r.qa.sings j lj) in
        let there : comp d w (fwd d S j) ≡ ident d (reg d T k) =
        shapes_are_mono d _ _ _ (fwd d T k) (comp d w (fwd d S j)) (ident d (reg d T k)) leg_shape
        (composites_are_valid d _ _ _ (fwd d S j) w v0 vs v0 left vw) (identities_are_valid d (reg d T k) v0)
        (associative d _ _ _ _ (fwd d S j) w (fwd d T k) left vw vc ∙ ap (λ (t : Arr d). comp d t (fwd d S j)) through.1.composite
        ∙ over_left ∙ sym neutral) in
        let back : comp d (fwd d S j) w ≡ ident d (sing d S j) =
        shapes_are_mono d _ _ _ s (comp d (fwd d S j) w) (ident d (sing d S j)) (r.qa.sings j lj)
        (composites_are_valid d _ _ _ w (fwd d S j) vs v0 vs vw left) (identities_are_valid d (sing d S j) vs)
        (associative d _ _ _ _ w (fwd d S j) s vw left sv ∙ ap (λ (t : Arr d). comp d t w) over_left
        ∙ through.1.composite ∙ sym (neutral_before d _ _ s vs sv)) in
        invertible_means_identity d (reg d T k) (sing d S j) (fwd d S j) w v0 vs left vw there back

    -- a reduced source has no such height
    not_missed : ⊥
    not_missed = not_hit (r.reduced.hit j lj fwd_is_identity (subst (IsIdentity d) both_one fwd_is_identity))

  pub rival_hits : (j : ℕ) → j < length S.sings → dual e.heights (height d a j) < dual e.heights (suc (height d a j))
  rival_hits j lj = elim (cases_lt (dual e.heights (height d a j)) (dual e.heights (suc (height d a j)))) [
    | inl p ↦ p
    | inr p ↦ absurd (not_missed j lj
        (let m = dual_mono e.heights r.qe.valid.monotone (height d a j) (suc (height d a j)) (omega arith) in omega arith))
  ]
