-- Where the slices of an arrow factor through those of a degeneracy, and its heights go where those of the degeneracy do,
-- it factors through the degeneracy.
use Rattle.std.proofs.Common.{◌≡◌, ℕ, suc, ◌<◌, ◌≤◌, List, length, sym, ap, ◌∙◌, subst, arith, inl, inr}
use Rattle.std.proofs.lemmas.Bool.{cases_lt}
use Rattle.diagram_terms.specs.Family.{Dia, Arr, reg, sing, fwd, bwd, height, arrow_reg, arrow_sing}
use Rattle.diagram_terms.specs.Dual.{IsMonotone, AreBelow, dual, after}
use Rattle.diagram_terms.specs.Composite.{comp}
use Rattle.diagram_terms.specs.Valid.{ValidArrow, Valid, Commutes}
use Rattle.diagram_terms.specs.Degeneracy.{DegeneracyByShape}
use Rattle.diagram_terms.specs.Least.{FactorsBy}
use Rattle.diagram_terms.proofs.Duals.{dual_mono, dual-after, in_fibre, length-after, get-after, same_numbers}
use Rattle.diagram_terms.proofs.Injections.{increasing-dual_same, increasing-dual_next, mono_through}
use Rattle.diagram_terms.proofs.Parts.{comp-heights, comp-regs_len, comp-sings_len, comp-reg, comp-sing, same_arrows}
use Rattle.map_laws.proofs.Associativity.{associative}
use Rattle.map_laws.proofs.ValidParts.{dual_within, height_within}
use Rattle.map_laws.proofs.ValidComposites.{composites_are_valid}
use Rattle.degeneracy_laws.proofs.Cancellation.{shapes_are_mono}
use Rattle.diagram_terms.specs.Factors.{regular_over, factor_through}
use Rattle.diagram_terms.proofs.Squares.{first_at, last_at, commutes_by}
use Rattle.normal_form_laws.proofs.Groups.{same_in_group}
use Rattle.normal_form_laws.proofs.FactorParts.{factor-heights_len, factor-height, factor-regs_len, factor-reg, factor-sings_len, factor-sing, over_within, over-dual}

-- f : W → T and e : R → T, where each slice of f factors through the slice of e that stands there
pub record FactorSlices (d : ℕ) (W R T : Dia (suc d)) (f e : Arr (suc d)) : Type 0 where
  pub vW : Valid (suc d) W
  pub vR : Valid (suc d) R
  pub vT : Valid (suc d) T
  pub vf : ValidArrow (suc d) W T f
  pub qe : DegeneracyByShape (suc d) R T e
  pub hits : (i : ℕ) → i < length W.sings → dual e.heights (height d f i) < dual e.heights (suc (height d f i))
  pub regs : (k : ℕ) → k ≤ length T.sings → FactorsBy d (reg d W (dual f.heights k)) (reg d R (dual e.heights k))
      (arrow_reg d f k) (arrow_reg d e k) (factor_through d (arrow_reg d e k) (arrow_reg d f k))
  pub sings : (i : ℕ) → i < length W.sings → FactorsBy d (sing d W i) (sing d R (dual e.heights (height d f i)))
      (arrow_sing d f i) (arrow_sing d e (dual e.heights (height d f i)))
      (factor_through d (arrow_sing d e (dual e.heights (height d f i))) (arrow_sing d f i))

module _ (d : ℕ) (W R T : Dia (suc d)) (f e : Arr (suc d)) (r : FactorSlices d W R T f e) where
  abbrev C : Arr (suc d)
  C = factor_through (suc d) e f

  -- ---- the heights

  goes_to : (i : ℕ) → i < length W.sings → height d C i ≡ dual e.heights (height d f i)
  goes_to i l = factor-height d e f i (let a = r.vf.heights_len in omega arith)

  goes_on : (i : ℕ) → i < length W.sings → height d e (height d C i) ≡ height d f i
  goes_on i l = ap (height d e) (goes_to i l)
      ∙ in_fibre e.heights r.qe.valid.monotone (dual e.heights (height d f i)) (height d f i) (omega arith) (r.hits i l)

  goes_below : (i : ℕ) → i < length W.sings → height d C i < length R.sings
  goes_below i l =
      let a = goes_to i l in
      let b = r.hits i l in
      let c = dual_within d R T e r.qe.valid (suc (height d f i)) in omega arith

  long : length C.heights ≡ length W.sings
  long = factor-heights_len d e f ∙ r.vf.heights_len

  are_below : AreBelow C.heights (length R.sings)
  are_below = record { below = λ i l. goes_below i (let a = long in omega arith) }

  follow : AreBelow C.heights (length e.heights)
  follow = record { below = λ i l. let x = are_below.below i l in let y = r.qe.valid.heights_len in omega arith }

  heights_compose : after e.heights C.heights ≡ f.heights
  heights_compose =
      let x = long in
      let y = r.vf.heights_len in
      let z = length-after e.heights C.heights in
      same_numbers (after e.heights C.heights) f.heights (omega arith)
      (λ i l. get-after e.heights C.heights i (omega arith) ∙ goes_on i (omega arith))

  rises : IsMonotone C.heights
  rises = mono_through e.heights C.heights r.qe.increasing follow (subst IsMonotone (sym heights_compose) r.vf.monotone)

  built-dual : (n : ℕ) → dual C.heights (dual e.heights n) ≡ dual f.heights n
  built-dual n = sym (dual-after e.heights C.heights r.qe.valid.monotone follow n) ∙ ap (λ (h : List ℕ). dual h n) heights_compose

  -- ---- the regular slices

  abbrev u : ℕ → Arr d
  u k = factor_through d (arrow_reg d e k) (arrow_reg d f k)

  -- f misses what e misses
  missed_too : (n : ℕ) → n < length T.sings → dual e.heights n ≡ dual e.heights (suc n) → dual f.heights n ≡ dual f.heights (suc n)
  missed_too n ln m = elim (cases_lt (dual f.heights n) (dual f.heights (suc n))) [
    | inr p ↦ (let up = dual_mono f.heights r.vf.monotone n (suc n) (omega arith) in omega arith)
    | inl p ↦ absurd (
        let k : ℕ = dual f.heights n in
        let w = dual_within d W T f r.vf (suc n) in
        let at : height d f k ≡ n = in_fibre f.heights r.vf.monotone k n (omega arith) p in
        let h : dual e.heights n < dual e.heights (suc n) =
        subst (λ (t : ℕ). dual e.heights t < dual e.heights (suc t)) at (r.hits k (omega arith)) in
        omega arith)
  ]

  -- on both sides of a height that e misses stands one factor
  across : (n : ℕ) → n < length T.sings → dual e.heights n ≡ dual e.heights (suc n) → u n ≡ u (suc n)
  across n ln m =
      let j : ℕ = dual e.heights n in
      let am = missed_too n ln m in
      let p = r.regs n (omega arith) in
      let q = r.regs (suc n) ln in
      let vy : ValidArrow d (reg d W (dual f.heights n)) (reg d R j) (u (suc n)) =
      subst (λ (t : ℕ). ValidArrow d (reg d W t) (reg d R j) (u (suc n))) (sym am)
      (subst (λ (t : ℕ). ValidArrow d (reg d W (dual f.heights (suc n))) (reg d R t) (u (suc n))) (sym m) q.valid) in
      let ve : ValidArrow d (reg d R j) (reg d T (suc n)) (arrow_reg d e (suc n)) =
      subst (λ (t : ℕ). ValidArrow d (reg d R t) (reg d T (suc n)) (arrow_reg d e (suc n))) (sym m) (r.qe.valid.regs (suc n) ln) in
      let e1 = associative d _ _ _ _ (u n) (arrow_reg d e n) (fwd d T n) p.valid (r.qe.valid.regs n (omega arith)) (r.vT.fwds n ln) in
      let e2 = associative d _ _ _ _ (u (suc n)) (arrow_reg d e (suc n)) (bwd d T n) vy ve (r.vT.bwds n ln) in
      shapes_are_mono d _ _ _ (comp d (fwd d T n) (arrow_reg d e n)) (u n) (u (suc n)) (r.qe.missed_fwds n ln m) p.valid vy
      (sym e1 ∙ ap (comp d (fwd d T n)) p.composite ∙ (r.vf.squares n ln).empty am
      ∙ ap (comp d (bwd d T n)) (sym q.composite) ∙ e2
      ∙ ap (λ (t : Arr d). comp d t (u (suc n))) (sym ((r.qe.valid.squares n ln).empty m)))

  -- and so over one regular slice of R
  over_one : (m n : ℕ) → m ≤ length T.sings → n ≤ length T.sings → dual e.heights m ≡ dual e.heights n → u m ≡ u n
  over_one m n lm ln same = same_in_group e.heights r.qe.valid.monotone (length T.sings) u across m n lm ln same

  built-reg : (n : ℕ) → n ≤ length T.sings → arrow_reg d C (dual e.heights n) ≡ u n
  built-reg n l =
      let j : ℕ = dual e.heights n in
      let lj = dual_within d R T e r.qe.valid n in
      factor-reg d e f j (let a = r.qe.valid.sings_len in omega arith)
      ∙ over_one (regular_over d e j) n (over_within d R T e r.qe j) l (over-dual d R T e r.qe j lj)

  reg_by : (n : ℕ) → n ≤ length T.sings → FactorsBy d (reg d W (dual f.heights n)) (reg d R (dual e.heights n))
      (arrow_reg d f n) (arrow_reg d e n) (arrow_reg d C (dual e.heights n))
  reg_by n l = subst (FactorsBy d (reg d W (dual f.heights n)) (reg d R (dual e.heights n)) (arrow_reg d f n) (arrow_reg d e n))
      (sym (built-reg n l)) (r.regs n l)

  -- the same at the height j of R
  reg_by_at : (j n : ℕ) → n ≤ length T.sings → dual e.heights n ≡ j
      → FactorsBy d (reg d W (dual f.heights n)) (reg d R j) (arrow_reg d f n) (arrow_reg d e n) (arrow_reg d C j)
  reg_by_at j n l at = subst
      (λ (t : ℕ). FactorsBy d (reg d W (dual f.heights n)) (reg d R t) (arrow_reg d f n) (arrow_reg d e n) (arrow_reg d C t)) at (reg_by n l)

  -- ---- the singular slices

  sing_by : (i : ℕ) → i < length W.sings
      → FactorsBy d (sing d W i) (sing d R (height d C i)) (arrow_sing d f i) (arrow_sing d e (height d C i)) (arrow_sing d C i)
  sing_by i l =
      let s = factor-sing d e f i (let a = r.vf.sings_len in omega arith) in
      subst (FactorsBy d (sing d W i) (sing d R (height d C i)) (arrow_sing d f i) (arrow_sing d e (height d C i))) (sym s)
      (subst (λ (m : ℕ). FactorsBy d (sing d W i) (sing d R m) (arrow_sing d f i) (arrow_sing d e m)
      (factor_through d (arrow_sing d e (dual e.heights (height d f i))) (arrow_sing d f i))) (sym (goes_to i l)) (r.sings i l))

  -- ---- the square at the height j of R holds after e.s(j)

  module _ (j : ℕ) (lj : j < length R.sings) where
    abbrev n : ℕ
    n = height d e j

    ln : n < length T.sings
    ln = height_within d R T e r.qe.valid j lj

    low : dual e.heights n ≡ j
    low = increasing-dual_same e.heights r.qe.increasing j (let l = r.qe.valid.heights_len in omega arith)

    high : dual e.heights (suc n) ≡ suc j
    high = increasing-dual_next e.heights r.qe.increasing j (let l = r.qe.valid.heights_len in omega arith)

    low_dual : dual C.heights j ≡ dual f.heights n
    low_dual = ap (dual C.heights) (sym low) ∙ built-dual n

    high_dual : dual C.heights (suc j) ≡ dual f.heights (suc n)
    high_dual = ap (dual C.heights) (sym high) ∙ built-dual (suc n)

    enter : comp d (arrow_sing d e j) (comp d (fwd d R j) (arrow_reg d C j)) ≡ comp d (fwd d T n) (arrow_reg d f n)
    enter =
        let l = ln in
        let h = high in
        let p = reg_by_at j n (omega arith) low in
        let ve : ValidArrow d (reg d R j) (reg d T n) (arrow_reg d e n) =
        subst (λ (t : ℕ). ValidArrow d (reg d R t) (reg d T n) (arrow_reg d e n)) low (r.qe.valid.regs n (omega arith)) in
        associative d _ _ _ _ (arrow_reg d C j) (fwd d R j) (arrow_sing d e j) p.valid (r.vR.fwds j lj) (r.qe.valid.sings j lj)
        ∙ ap (λ (t : Arr d). comp d t (arrow_reg d C j)) (sym (first_at (r.qe.valid.squares n ln) j low (omega arith)))
        ∙ sym (associative d _ _ _ _ (arrow_reg d C j) (arrow_reg d e n) (fwd d T n) p.valid ve (r.vT.fwds n ln))
        ∙ ap (comp d (fwd d T n)) p.composite

    leave : comp d (arrow_sing d e j) (comp d (bwd d R j) (arrow_reg d C (suc j))) ≡ comp d (bwd d T n) (arrow_reg d f (suc n))
    leave =
        let l = low in
        let p = reg_by_at (suc j) (suc n) ln high in
        let ve : ValidArrow d (reg d R (suc j)) (reg d T (suc n)) (arrow_reg d e (suc n)) =
        subst (λ (t : ℕ). ValidArrow d (reg d R t) (reg d T (suc n)) (arrow_reg d e (suc n))) high (r.qe.valid.regs (suc n) ln) in
        associative d _ _ _ _ (arrow_reg d C (suc j)) (bwd d R j) (arrow_sing d e j) p.valid (r.vR.bwds j lj) (r.qe.valid.sings j lj)
        ∙ ap (λ (t : Arr d). comp d t (arrow_reg d C (suc j))) (sym (last_at (r.qe.valid.squares n ln) j (omega arith) (sym high)))
        ∙ sym (associative d _ _ _ _ (arrow_reg d C (suc j)) (arrow_reg d e (suc n)) (bwd d T n) p.valid ve (r.vT.bwds n ln))
        ∙ ap (comp d (bwd d T n)) p.composite

    -- a leg b of W into W.s(i), where i goes to n
    slice_at : (i : ℕ) → i < length W.sings → height d f i ≡ n
        → FactorsBy d (sing d W i) (sing d R j) (arrow_sing d f i) (arrow_sing d e j) (arrow_sing d C i)
    slice_at i li at =
        let to : height d C i ≡ j = goes_to i li ∙ ap (dual e.heights) at ∙ low in
        subst (λ (m : ℕ). FactorsBy d (sing d W i) (sing d R m) (arrow_sing d f i) (arrow_sing d e m) (arrow_sing d C i)) to (sing_by i li)

    beyond : (i : ℕ) (B : Dia d) (b : Arr d) → i < length W.sings → height d f i ≡ n → ValidArrow d B (sing d W i) b
        → comp d (arrow_sing d e j) (comp d (arrow_sing d C i) b) ≡ comp d (arrow_sing d f i) b
    beyond i B b li at vb =
        let g = slice_at i li at in
        associative d _ _ _ _ b (arrow_sing d C i) (arrow_sing d e j) vb g.valid (r.qe.valid.sings j lj)
        ∙ ap (λ (t : Arr d). comp d t b) g.composite

    built_square : Commutes d W R C j
    built_square =
        let n0 = ln in
        let dc0 = low_dual in
        let dc1 = high_dual in
        let p0 = reg_by_at j n (omega arith) low in
        let p1 = reg_by_at (suc j) (suc n) ln high in
        let qj = r.qe.sings j lj in
        let sq = r.vf.squares n ln in
        let w0 = dual_within d W T f r.vf n in
        let w1 = dual_within d W T f r.vf (suc n) in
        let l : Arr d = comp d (fwd d R j) (arrow_reg d C j) in
        let m : Arr d = comp d (bwd d R j) (arrow_reg d C (suc j)) in
        let v0 = composites_are_valid d _ _ _ (arrow_reg d C j) (fwd d R j) (r.vW.regs _ w0) (r.vR.regs j (omega arith)) (r.vR.sings j lj)
        p0.valid (r.vR.fwds j lj) in
        let v1 = composites_are_valid d _ _ _ (arrow_reg d C (suc j)) (bwd d R j) (r.vW.regs _ w1) (r.vR.regs (suc j) lj) (r.vR.sings j lj)
        p1.valid (r.vR.bwds j lj) in
        let goes : (i : ℕ) → dual f.heights n ≤ i → i < dual f.heights (suc n) → height d f i ≡ n =
        λ i p q. in_fibre f.heights r.vf.monotone i n p q in
        let along_fwd : (i : ℕ) → i < length W.sings → height d f i ≡ n
        → ValidArrow d (reg d W i) (sing d R j) (comp d (arrow_sing d C i) (fwd d W i)) =
        λ i li at. composites_are_valid d _ _ _ (fwd d W i) (arrow_sing d C i) (r.vW.regs i (omega arith)) (r.vW.sings i li) (r.vR.sings j lj)
        (r.vW.fwds i li) (slice_at i li at).valid in
        let along_bwd : (i : ℕ) → i < length W.sings → height d f i ≡ n
        → ValidArrow d (reg d W (suc i)) (sing d R j) (comp d (arrow_sing d C i) (bwd d W i)) =
        λ i li at. composites_are_valid d _ _ _ (bwd d W i) (arrow_sing d C i) (r.vW.regs (suc i) li) (r.vW.sings i li) (r.vR.sings j lj)
        (r.vW.bwds i li) (slice_at i li at).valid in
        commutes_by d W R C j
        (λ h.
        let am : dual f.heights n ≡ dual f.heights (suc n) = sym dc0 ∙ h ∙ dc1 in
        shapes_are_mono d _ _ _ (arrow_sing d e j) l m qj v0
        (subst (λ (t : ℕ). ValidArrow d (reg d W t) (sing d R j) m) (sym am) v1) (enter ∙ sq.empty am ∙ sym leave))
        (λ i h p.
        let ai : dual f.heights n ≡ i = sym dc0 ∙ h in
        let li : i < length W.sings = omega arith in
        let at = goes i (omega arith) (omega arith) in
        shapes_are_mono d _ _ _ (arrow_sing d e j) l (comp d (arrow_sing d C i) (fwd d W i)) qj
        (subst (λ (t : ℕ). ValidArrow d (reg d W t) (sing d R j) l) ai v0) (along_fwd i li at)
        (enter ∙ first_at sq i ai (omega arith) ∙ sym (beyond i (reg d W i) (fwd d W i) li at (r.vW.fwds i li))))
        (λ i p h.
        let ai : suc i ≡ dual f.heights (suc n) = h ∙ dc1 in
        let li : i < length W.sings = omega arith in
        let at = goes i (omega arith) (omega arith) in
        shapes_are_mono d _ _ _ (arrow_sing d e j) m (comp d (arrow_sing d C i) (bwd d W i)) qj
        (subst (λ (t : ℕ). ValidArrow d (reg d W t) (sing d R j) m) (sym ai) v1) (along_bwd i li at)
        (leave ∙ last_at sq i (omega arith) ai ∙ sym (beyond i (reg d W (suc i)) (bwd d W i) li at (r.vW.bwds i li))))
        (λ i p h.
        let li : suc i < length W.sings = omega arith in
        let k0 = goes i (omega arith) (omega arith) in
        let k1 = goes (suc i) (omega arith) (omega arith) in
        shapes_are_mono d _ _ _ (arrow_sing d e j) (comp d (arrow_sing d C i) (bwd d W i))
        (comp d (arrow_sing d C (suc i)) (fwd d W (suc i))) qj (along_bwd i (omega arith) k0) (along_fwd (suc i) li k1)
        (beyond i (reg d W (suc i)) (bwd d W i) (omega arith) k0 (r.vW.bwds i (omega arith))
        ∙ sq.inner i (omega arith) (omega arith)
        ∙ sym (beyond (suc i) (reg d W (suc i)) (fwd d W (suc i)) li k1 (r.vW.fwds (suc i) li))))

  -- ---- the factor

  built_valid : ValidArrow (suc d) W R C
  built_valid = record {
    heights_len = long;
    regs_len = factor-regs_len d e f ∙ ap suc r.qe.valid.sings_len;
    sings_len = factor-sings_len d e f ∙ r.vf.sings_len;
    monotone = rises;
    below = are_below;
    regs = λ j l.
        let k : ℕ = regular_over d e j in
        let at : dual e.heights k ≡ j = over-dual d R T e r.qe j l in
        let same : dual f.heights k ≡ dual C.heights j = sym (built-dual k) ∙ ap (dual C.heights) at in
        subst (λ (t : ℕ). ValidArrow d (reg d W t) (reg d R j) (arrow_reg d C j)) same
        (reg_by_at j k (over_within d R T e r.qe j) at).valid;
    sings = λ i l. (sing_by i l).valid;
    squares = built_square;
  }

  built_composite : comp (suc d) e C ≡ f
  built_composite =
      let frl = r.vf.regs_len in
      let fsl = r.vf.sings_len in
      let el = r.qe.valid.regs_len in
      let sl = factor-sings_len d e f in
      let k1 = comp-regs_len d e C in
      let k2 = comp-sings_len d e C in
      same_arrows d (comp (suc d) e C) f (comp-heights d e C ∙ heights_compose)
      (omega arith) (λ n l. comp-reg d e C n (omega arith) ∙ (reg_by n (omega arith)).composite)
      (omega arith) (λ i l. comp-sing d e C i (omega arith) ∙ (sing_by i (omega arith)).composite)

  pub built_factor : FactorsBy (suc d) W R f e (factor_through (suc d) e f)
  built_factor = record { valid = built_valid; composite = built_composite }
