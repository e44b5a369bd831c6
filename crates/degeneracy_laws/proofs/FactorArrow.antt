-- The arrow by which a degeneracy with a reduced source factors through a rival: its slices are the factors of slices, one
-- chosen at each height.
use Rattle.std.proofs.Common.{◌≡◌, ℕ, zero, suc, ◌<◌, ◌≤◌, List, [], ◌∷◌, length, get_or, refl, sym, ap, ◌∙◌, subst, arith}
use Rattle.diagram_terms.specs.Family.{Dia, Arr, no_arr, reg, sing, fwd, bwd, height, arrow_reg, arrow_sing}
use Rattle.diagram_terms.specs.Dual.{IsMonotone, AreBelow, dual, after}
use Rattle.diagram_terms.specs.Composite.{comp}
use Rattle.diagram_terms.specs.Valid.{ValidArrow, Commutes}
use Rattle.diagram_terms.specs.Least.{Leg, Factors}
use Rattle.diagram_terms.proofs.Duals.{dual-after, in_fibre, length-after, get-after, same_numbers}
use Rattle.diagram_terms.proofs.Injections.{mono_through}
use Rattle.diagram_terms.proofs.Parts.{comp-heights, comp-regs_len, comp-sings_len, comp-reg, comp-sing, same_arrows}
use Rattle.diagram_terms.proofs.Squares.{first_at, last_at, commutes_by}
use Rattle.map_laws.proofs.Associativity.{associative}
use Rattle.map_laws.proofs.ValidParts.{dual_within, height_within}
use Rattle.map_laws.proofs.ValidComposites.{composites_are_valid}
use Rattle.degeneracy_laws.proofs.Cancellation.{reached, shapes_are_mono}
use Rattle.degeneracy_laws.proofs.FactorSlices.{beside, Over, IsReg, reg_at, low, high, enter, leave, IsSing, sing_at}
use Rattle.degeneracy_laws.proofs.Rivals.{Rivals, RivalsFactor}
use Rattle.degeneracy_laws.proofs.ShapeComposites.{shape_valid}

-- ---- a list of n things, each of which is there

record Chosen (A : Type 0) (P : ℕ → A → Type 0) (n : ℕ) : Type 0 where
  things : List A
  count : length things ≡ n
  each : (z : A) (k : ℕ) → k < n → P k (get_or things k z)

chosen_at : (A : Type 0) (n : ℕ) (P : ℕ → A → Type 0) (x : A) (xs : List A) → P 0 x
    → ((z : A) (k : ℕ) → k < n → P (suc k) (get_or xs k z)) → (z : A) (k : ℕ) → k < suc n → P k (get_or (x ∷ xs) k z)
chosen_at A n P x xs p q z zero l = p
chosen_at A n P x xs p q z (suc k) l = q z k (omega arith)

choose : (A : Type 0) (n : ℕ) (P : ℕ → A → Type 0) → ((k : ℕ) → k < n → (x : A) × P k x) → Chosen A P n
choose A zero P h = record { things = []; count = refl; each = λ z k l. absurd (omega arith) }
choose A (suc n) P h =
    let x = h 0 (omega arith) in
    let c : Chosen A (λ k. P (suc k)) n = choose A n (λ k. P (suc k)) (λ k l. h (suc k) (omega arith)) in
    record { things = x.0 ∷ c.things; count = ap suc c.count; each = λ z k l. chosen_at A n P x.0 c.things x.1 c.each z k l }

module _ (d : ℕ) (ih : RivalsFactor d) (S R T : Dia (suc d)) (a e : Arr (suc d)) (G : Leg (suc d) → Type 0)
    (r : Rivals (suc d) S R T a e G) where
  -- ---- the arrow

  some_heights : Chosen ℕ (λ k i. (i < length R.sings) × (height d e i ≡ height d a k)) (length S.sings)
  some_heights = choose ℕ (length S.sings) (λ k i. (i < length R.sings) × (height d e i ≡ height d a k))
      (λ k l. let h = beside d ih S R T a e G r k l in (h.0, (h.1, h.2)))

  some_regs : Chosen (Arr d) (IsReg d ih S R T a e G r) (suc (length R.sings))
  some_regs = choose (Arr d) (suc (length R.sings)) (IsReg d ih S R T a e G r) (reg_at d ih S R T a e G r)

  some_sings : Chosen (Arr d) (IsSing d ih S R T a e G r) (length S.sings)
  some_sings = choose (Arr d) (length S.sings) (IsSing d ih S R T a e G r) (sing_at d ih S R T a e G r)

  abbrev C : Arr (suc d)
  C = record { heights = some_heights.things; regs = some_regs.things; sings = some_sings.things }

  factor_goes : (k : ℕ) → k < length S.sings → (height d C k < length R.sings) × (height d e (height d C k) ≡ height d a k)
  factor_goes k l = some_heights.each 0 k l

  factor_below : AreBelow C.heights (length R.sings)
  factor_below = record { below = λ i l. (factor_goes i (let x = some_heights.count in omega arith)).0 }

  factor_follows : AreBelow C.heights (length e.heights)
  factor_follows = record { below = λ i l. let x = factor_below.below i l in let y = r.qe.valid.heights_len in omega arith }

  factor_heights : after e.heights C.heights ≡ a.heights
  factor_heights =
      let x = some_heights.count in
      let y = r.qa.valid.heights_len in
      let z = length-after e.heights C.heights in
      same_numbers (after e.heights C.heights) a.heights (omega arith)
      (λ i l. get-after e.heights C.heights i (omega arith) ∙ (factor_goes i (omega arith)).1)

  factor_monotone : IsMonotone C.heights
  factor_monotone = mono_through e.heights C.heights r.qe.increasing factor_follows (subst IsMonotone (sym factor_heights) r.qa.valid.monotone)

  factor_arrow-dual : (n : ℕ) → dual C.heights (dual e.heights n) ≡ dual a.heights n
  factor_arrow-dual n = sym (dual-after e.heights C.heights r.qe.valid.monotone factor_follows n) ∙ ap (λ (h : List ℕ). dual h n) factor_heights

  factor_reg : (j n : ℕ) → j ≤ length R.sings → n ≤ length T.sings → dual e.heights n ≡ j → Over d ih S R T a e G r j n (arrow_reg d C j)
  factor_reg j n l ln at = some_regs.each (no_arr d) j (omega arith) n ln at

  -- the square at the height j of R holds after e.s(j)
  factor_square : (j : ℕ) → j < length R.sings → Commutes d S R C j
  factor_square j lj =
      let n : ℕ = height d e j in
      let ln = height_within d R T e r.qe.valid j lj in
      let dc0 : dual C.heights j ≡ dual a.heights n = ap (dual C.heights) (sym (low d ih S R T a e G r j n lj refl)) ∙ factor_arrow-dual n in
      let dc1 : dual C.heights (suc j) ≡ dual a.heights (suc n) = ap (dual C.heights) (sym (high d ih S R T a e G r j n lj refl)) ∙ factor_arrow-dual (suc n) in
      let p0 = factor_reg j n (omega arith) (omega arith) (low d ih S R T a e G r j n lj refl) in
      let p1 = factor_reg (suc j) (suc n) lj ln (high d ih S R T a e G r j n lj refl) in
      let qj = r.qe.sings j lj in
      let sq = r.qa.valid.squares n ln in
      let w0 = dual_within d S T a r.qa.valid n in
      let w1 = dual_within d S T a r.qa.valid (suc n) in
      let l : Arr d = comp d (fwd d R j) (arrow_reg d C j) in
      let m : Arr d = comp d (bwd d R j) (arrow_reg d C (suc j)) in
      let left : comp d (arrow_sing d e j) l ≡ comp d (fwd d T n) (arrow_reg d a n) = enter d ih S R T a e G r j n lj refl (arrow_reg d C j) p0 in
      let right : comp d (arrow_sing d e j) m ≡ comp d (bwd d T n) (arrow_reg d a (suc n)) = leave d ih S R T a e G r j n lj refl (arrow_reg d C (suc j)) p1 in
      let v0 = composites_are_valid d _ _ _ (arrow_reg d C j) (fwd d R j) (r.vS.regs _ w0) (r.vR.regs j (omega arith)) (r.vR.sings j lj)
      p0.valid (r.vR.fwds j lj) in
      let v1 = composites_are_valid d _ _ _ (arrow_reg d C (suc j)) (bwd d R j) (r.vS.regs _ w1) (r.vR.regs (suc j) lj) (r.vR.sings j lj)
      p1.valid (r.vR.bwds j lj) in
      let goes : (i : ℕ) → dual a.heights n ≤ i → i < dual a.heights (suc n) → n ≡ height d a i =
      λ i p q. sym (in_fibre a.heights r.qa.valid.monotone i n p q) in
      -- a leg b of S into S.s(i), followed by the slices of the factor and of e
      let beyond : (i : ℕ) (B : Dia d) (b : Arr d) → (li : i < length S.sings) → n ≡ height d a i → ValidArrow d B (sing d S i) b
      → comp d (arrow_sing d a i) b ≡ comp d (arrow_sing d e j) (comp d (arrow_sing d C i) b) =
      λ i B b li at vb.
      let g = some_sings.each (no_arr d) i li j lj at in
      ap (λ (t : Arr d). comp d t b) (sym g.composite)
      ∙ sym (associative d _ _ _ _ b (arrow_sing d C i) (arrow_sing d e j) vb g.valid (shape_valid d _ _ _ qj)) in
      commutes_by d S R C j
      (λ h.
      let am : dual a.heights n ≡ dual a.heights (suc n) = sym dc0 ∙ h ∙ dc1 in
      shapes_are_mono d _ _ _ (arrow_sing d e j) l m qj v0
      (subst (λ (t : ℕ). ValidArrow d (reg d S t) (sing d R j) m) (sym am) v1) (left ∙ sq.empty am ∙ sym right))
      (λ i h p.
      let ai : dual a.heights n ≡ i = sym dc0 ∙ h in
      let li : i < length S.sings = omega arith in
      let at = goes i (omega arith) (omega arith) in
      let g = some_sings.each (no_arr d) i li j lj at in
      shapes_are_mono d _ _ _ (arrow_sing d e j) l (comp d (arrow_sing d C i) (fwd d S i)) qj
      (subst (λ (t : ℕ). ValidArrow d (reg d S t) (sing d R j) l) ai v0)
      (composites_are_valid d _ _ _ (fwd d S i) (arrow_sing d C i) (r.vS.regs i (omega arith)) (r.vS.sings i li) (r.vR.sings j lj)
      (r.vS.fwds i li) g.valid)
      (left ∙ first_at sq i ai (omega arith) ∙ beyond i (reg d S i) (fwd d S i) li at (r.vS.fwds i li)))
      (λ i p h.
      let ai : suc i ≡ dual a.heights (suc n) = h ∙ dc1 in
      let li : i < length S.sings = omega arith in
      let at = goes i (omega arith) (omega arith) in
      let g = some_sings.each (no_arr d) i li j lj at in
      shapes_are_mono d _ _ _ (arrow_sing d e j) m (comp d (arrow_sing d C i) (bwd d S i)) qj
      (subst (λ (t : ℕ). ValidArrow d (reg d S t) (sing d R j) m) (sym ai) v1)
      (composites_are_valid d _ _ _ (bwd d S i) (arrow_sing d C i) (r.vS.regs (suc i) li) (r.vS.sings i li) (r.vR.sings j lj)
      (r.vS.bwds i li) g.valid)
      (right ∙ last_at sq i (omega arith) ai ∙ beyond i (reg d S (suc i)) (bwd d S i) li at (r.vS.bwds i li)))
      (λ i p h. absurd (
      let k0 = goes i (omega arith) (omega arith) in
      let k1 = goes (suc i) (omega arith) (omega arith) in
      let s = r.qa.increasing.increases i (suc i) (omega arith) (let x = r.qa.valid.heights_len in omega arith) in omega arith))

  factor_valid : ValidArrow (suc d) S R C
  factor_valid = record {
    heights_len = some_heights.count;
    regs_len = some_regs.count;
    sings_len = some_sings.count;
    monotone = factor_monotone;
    below = factor_below;
    regs = λ j l.
        let p = reached d R T e r.qe.valid r.qe.increasing j l in
        let at : dual a.heights p.0 ≡ dual C.heights j = sym (factor_arrow-dual p.0) ∙ ap (dual C.heights) p.2 in
        subst (λ (t : ℕ). ValidArrow d (reg d S t) (reg d R j) (arrow_reg d C j)) at (factor_reg j p.0 l p.1 p.2).valid;
    sings = λ k l. let h = factor_goes k l in (some_sings.each (no_arr d) k l (height d C k) h.0 h.1).valid;
    squares = factor_square;
  }

  factor_composite : comp (suc d) e C ≡ a
  factor_composite =
      let arl = r.qa.valid.regs_len in
      let asl = r.qa.valid.sings_len in
      let el = r.qe.valid.regs_len in
      let sl = some_sings.count in
      let k1 = comp-regs_len d e C in
      let k2 = comp-sings_len d e C in
      same_arrows d (comp (suc d) e C) a (comp-heights d e C ∙ factor_heights)
      (omega arith)
      (λ n l. let ln : n ≤ length T.sings = omega arith in
      let w = dual_within d R T e r.qe.valid n in
      comp-reg d e C n (omega arith) ∙ (factor_reg (dual e.heights n) n w ln refl).composite)
      (omega arith)
      (λ k l. let lk : k < length S.sings = omega arith in
      let h = factor_goes k lk in
      comp-sing d e C k (omega arith) ∙ (some_sings.each (no_arr d) k lk (height d C k) h.0 h.1).composite)

  pub rivals_factor_step : Factors (suc d) S R a e
  rivals_factor_step = (C, record { valid = factor_valid; composite = factor_composite })
