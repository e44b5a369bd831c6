-- Where a degeneracy a : S → T with a reduced source has a rival e : R → T, each slice of a factors through the slices of e
-- that stand there.
use Rattle.std.proofs.Common.{◌≡◌, ℕ, zero, suc, ◌+◌, ◌-◌, ◌<◌, ◌≤◌, length, sym, ap, ◌∙◌, subst, arith, inl, inr}
use Rattle.std.proofs.lemmas.Bool.{cases_lt}
use Rattle.diagram_terms.specs.Family.{Dia, Arr, reg, sing, fwd, bwd, height, arrow_reg, arrow_sing}
use Rattle.diagram_terms.specs.Dual.{dual}
use Rattle.diagram_terms.specs.Composite.{comp}
use Rattle.diagram_terms.specs.Valid.{ValidArrow}
use Rattle.diagram_terms.specs.Degeneracy.{DegeneracyByShape}
use Rattle.diagram_terms.specs.Least.{Leg, FactorsBy, Factors, IsSliceOver, LeadsInto}
use Rattle.diagram_terms.proofs.Duals.{dual_mono, in_fibre}
use Rattle.diagram_terms.proofs.Injections.{increasing-dual_same, increasing-dual_next, same_place}
use Rattle.diagram_terms.proofs.Parts.{comp-sing}
use Rattle.diagram_terms.proofs.Squares.{first_at, last_at}
use Rattle.map_laws.proofs.Associativity.{associative}
use Rattle.map_laws.proofs.ValidParts.{dual_within, height_within}
use Rattle.map_laws.proofs.ValidComposites.{composites_are_valid}
use Rattle.degeneracy_laws.proofs.Cancellation.{reached, shapes_are_mono}
use Rattle.degeneracy_laws.proofs.MissedHeights.{not_missed}
use Rattle.degeneracy_laws.proofs.Rivals.{Rivals, RivalsFactor, legs_into, factor, factor-height, reg_factor}
use Rattle.degeneracy_laws.proofs.ShapeComposites.{shape_valid}

module _ (d : ℕ) (ih : RivalsFactor d) (S R T : Dia (suc d)) (a e : Arr (suc d)) (G : Leg (suc d) → Type 0)
    (r : Rivals (suc d) S R T a e G) where
  -- ---- the heights of T that are hit

  hits : (k : ℕ) → k < length S.sings → dual e.heights (height d a k) < dual e.heights (suc (height d a k))
  hits k lk = elim (cases_lt (dual e.heights (height d a k)) (dual e.heights (suc (height d a k)))) [
    | inl p ↦ p
    | inr p ↦ absurd (not_missed d ih S R T a e G r k lk
        (let m = dual_mono e.heights r.qe.valid.monotone (height d a k) (suc (height d a k)) (omega arith) in omega arith))
  ]

  -- the height of R that goes where the height k of S goes
  pub beside : (k : ℕ) → k < length S.sings → (i : ℕ) × (i < length R.sings) × (height d e i ≡ height d a k)
  beside k lk =
      let i : ℕ = dual e.heights (height d a k) in
      let w = dual_within d R T e r.qe.valid (suc (height d a k)) in
      let h = hits k lk in
      (i, omega arith, in_fibre e.heights r.qe.valid.monotone i (height d a k) (omega arith) h)

  pub one_height : (i j : ℕ) → i < length R.sings → j < length R.sings → height d e i ≡ height d e j → i ≡ j
  one_height i j li lj same = let l = r.qe.valid.heights_len in same_place e.heights r.qe.increasing i j (omega arith) (omega arith) same

  -- a misses what e misses
  missed_too : (n : ℕ) → n < length T.sings → dual e.heights n ≡ dual e.heights (suc n) → dual a.heights n ≡ dual a.heights (suc n)
  missed_too n ln m = elim (cases_lt (dual a.heights n) (dual a.heights (suc n))) [
    | inr p ↦ (let up = dual_mono a.heights r.qa.valid.monotone n (suc n) (omega arith) in omega arith)
    | inl p ↦ absurd (
        let k : ℕ = dual a.heights n in
        let w = dual_within d S T a r.qa.valid (suc n) in
        let at : height d a k ≡ n = in_fibre a.heights r.qa.valid.monotone k n (omega arith) p in
        let h : dual e.heights n < dual e.heights (suc n) =
        subst (λ (t : ℕ). dual e.heights t < dual e.heights (suc t)) at (hits k (omega arith)) in
        omega arith)
  ]

  -- ---- the regular slices

  -- x : S.r(a*(n)) → R.r(j) is the factor of a.r(n) through e.r(n)
  abbrev pub Over : ℕ → ℕ → Arr d → Type 0
  Over j n x = FactorsBy d (reg d S (dual a.heights n)) (reg d R j) (arrow_reg d a n) (arrow_reg d e n) x

  start : (n : ℕ) → n ≤ length T.sings → (x : Arr d) × Over (dual e.heights n) n x
  start n l = reg_factor d S R T a e G r ih n l

  -- on both sides of a height that e misses
  across : (n : ℕ) (x y : Arr d) → n < length T.sings → dual e.heights n ≡ dual e.heights (suc n)
      → Over (dual e.heights n) n x → Over (dual e.heights (suc n)) (suc n) y → x ≡ y
  across n x y ln m p q =
      let j : ℕ = dual e.heights n in
      let am = missed_too n ln m in
      let vy : ValidArrow d (reg d S (dual a.heights n)) (reg d R j) y =
      subst (λ (t : ℕ). ValidArrow d (reg d S t) (reg d R j) y) (sym am)
      (subst (λ (t : ℕ). ValidArrow d (reg d S (dual a.heights (suc n))) (reg d R t) y) (sym m) q.valid) in
      let ve : ValidArrow d (reg d R j) (reg d T (suc n)) (arrow_reg d e (suc n)) =
      subst (λ (t : ℕ). ValidArrow d (reg d R t) (reg d T (suc n)) (arrow_reg d e (suc n))) (sym m) (r.qe.valid.regs (suc n) ln) in
      let e1 = associative d _ _ _ _ x (arrow_reg d e n) (fwd d T n) p.valid (r.qe.valid.regs n (omega arith)) (r.vT.fwds n ln) in
      let e2 = associative d _ _ _ _ y (arrow_reg d e (suc n)) (bwd d T n) vy ve (r.vT.bwds n ln) in
      shapes_are_mono d _ _ _ (comp d (fwd d T n) (arrow_reg d e n)) x y (r.qe.missed_fwds n ln m) p.valid vy
      (sym e1 ∙ ap (comp d (fwd d T n)) p.composite ∙ (r.qa.valid.squares n ln).empty am
      ∙ ap (comp d (bwd d T n)) (sym q.composite) ∙ e2
      ∙ ap (λ (t : Arr d). comp d t y) (sym ((r.qe.valid.squares n ln).empty m)))

  -- over one regular slice of R there is one factor
  same_over : (t m n : ℕ) (x y : Arr d) → n ≡ t + m → n ≤ length T.sings → dual e.heights m ≡ dual e.heights n
      → Over (dual e.heights m) m x → Over (dual e.heights n) n y → x ≡ y
  same_over zero m n x y at l same p q =
      let p2 : Over (dual e.heights n) n x = subst (λ (t : ℕ). Over (dual e.heights t) t x) (let z : m ≡ n = omega arith in z) p in
      shapes_are_mono d _ _ _ (arrow_reg d e n) x y (r.qe.regs n l) p2.valid q.valid (p2.composite ∙ sym q.composite)
  same_over (suc t) m n x y at l same p q =
      let m1 = dual_mono e.heights r.qe.valid.monotone m (suc m) (omega arith) in
      let m2 = dual_mono e.heights r.qe.valid.monotone (suc m) n (omega arith) in
      let z = start (suc m) (omega arith) in
      across m x z.0 (omega arith) (omega arith) p z.1 ∙ same_over t (suc m) n z.0 y (omega arith) l (omega arith) z.1 q

  abbrev pub IsReg : ℕ → Arr d → Type 0
  IsReg j x = (n : ℕ) → n ≤ length T.sings → dual e.heights n ≡ j → Over j n x

  pub reg_at : (j : ℕ) → j < suc (length R.sings) → (x : Arr d) × IsReg j x
  reg_at j l =
      let c = reached d R T e r.qe.valid r.qe.increasing j (omega arith) in
      let m : ℕ = c.0 in
      let lm : m ≤ length T.sings = c.1 in
      let at : dual e.heights m ≡ j = c.2 in
      let x = start m lm in (
        x.0,
        λ n ln h.
            let y = start n ln in
            let same : x.0 ≡ y.0 = elim (cases_lt m n) [
              | inl p ↦ same_over (n - m) m n x.0 y.0 (omega arith) ln (at ∙ sym h) x.1 y.1
              | inr p ↦ sym (same_over (m - n) n m y.0 x.0 (omega arith) lm (h ∙ sym at) y.1 x.1)
            ] in
            subst (λ (t : ℕ). Over t n x.0) h (subst (Over (dual e.heights n) n) (sym same) y.1),
      )

  -- ---- the ways into T.s(n), where the height i of R goes to n

  module _ (i n : ℕ) (li : i < length R.sings) (at : height d e i ≡ n) where
    reached_height : n < length T.sings
    reached_height = let l = height_within d R T e r.qe.valid i li in omega arith

    pub low : dual e.heights n ≡ i
    low = ap (dual e.heights) (sym at) ∙ increasing-dual_same e.heights r.qe.increasing i (let l = r.qe.valid.heights_len in omega arith)

    pub high : dual e.heights (suc n) ≡ suc i
    high = ap (λ (t : ℕ). dual e.heights (suc t)) (sym at)
        ∙ increasing-dual_next e.heights r.qe.increasing i (let l = r.qe.valid.heights_len in omega arith)

    pub slice_shape : DegeneracyByShape d (sing d R i) (sing d T n) (arrow_sing d e i)
    slice_shape = subst (λ (t : ℕ). DegeneracyByShape d (sing d R i) (sing d T t) (arrow_sing d e i)) at (r.qe.sings i li)

    pub enter : (x : Arr d) → Over i n x
        → comp d (arrow_sing d e i) (comp d (fwd d R i) x) ≡ comp d (fwd d T n) (arrow_reg d a n)
    enter x p =
        let ln = reached_height in
        let h = high in
        let ve : ValidArrow d (reg d R i) (reg d T n) (arrow_reg d e n) =
        subst (λ (t : ℕ). ValidArrow d (reg d R t) (reg d T n) (arrow_reg d e n)) low (r.qe.valid.regs n (omega arith)) in
        associative d _ _ _ _ x (fwd d R i) (arrow_sing d e i) p.valid (r.vR.fwds i li) (shape_valid d _ _ _ slice_shape)
        ∙ ap (λ (t : Arr d). comp d t x) (sym (first_at (r.qe.valid.squares n ln) i low (omega arith)))
        ∙ sym (associative d _ _ _ _ x (arrow_reg d e n) (fwd d T n) p.valid ve (r.vT.fwds n ln))
        ∙ ap (comp d (fwd d T n)) p.composite

    pub leave : (x : Arr d) → Over (suc i) (suc n) x
        → comp d (arrow_sing d e i) (comp d (bwd d R i) x) ≡ comp d (bwd d T n) (arrow_reg d a (suc n))
    leave x p =
        let ln = reached_height in
        let l = low in
        let ve : ValidArrow d (reg d R (suc i)) (reg d T (suc n)) (arrow_reg d e (suc n)) =
        subst (λ (t : ℕ). ValidArrow d (reg d R t) (reg d T (suc n)) (arrow_reg d e (suc n))) high (r.qe.valid.regs (suc n) ln) in
        associative d _ _ _ _ x (bwd d R i) (arrow_sing d e i) p.valid (r.vR.bwds i li) (shape_valid d _ _ _ slice_shape)
        ∙ ap (λ (t : Arr d). comp d t x) (sym (last_at (r.qe.valid.squares n ln) i (omega arith) (sym high)))
        ∙ sym (associative d _ _ _ _ x (arrow_reg d e (suc n)) (bwd d T n) p.valid ve (r.vT.bwds n ln))
        ∙ ap (comp d (bwd d T n)) p.composite

  -- ---- the singular slices

  -- the slice of a leg that goes to k factors through e.s(i)
  leg_factor : (k i : ℕ) → k < length S.sings → i < length R.sings → height d e i ≡ height d a k → (b : Leg d) → IsSliceOver d G k b
      → Factors d b.source (sing d R i) (comp d (arrow_sing d a k) b.arrow) (arrow_sing d e i)
  leg_factor k i lk li at b x =
      let y = x.0 in
      let g : Leg (suc d) = y.g in
      let h : Arr (suc d) = factor d S R T a e G r g y.is_leg in
      let by = (r.rival g y.is_leg).1 in
      let vg = (r.legs g y.is_leg).arrow in
      let lh = height_within d g.source R h by.valid y.i y.within in
      let goes : height d h y.i ≡ i = one_height (height d h y.i) i lh li
      (factor-height d S R T a e G r g y.is_leg y.i y.within ∙ ap (height d a) y.goes ∙ sym at) in
      subst (λ (t : Leg d). Factors d t.source (sing d R i) (comp d (arrow_sing d a k) t.arrow) (arrow_sing d e i)) (sym x.1) (
        arrow_sing d h y.i,
        record {
          valid = subst (λ (t : ℕ). ValidArrow d (sing d g.source y.i) (sing d R t) (arrow_sing d h y.i)) goes (by.valid.sings y.i y.within);
          composite = ap (λ (t : ℕ). comp d (arrow_sing d e t) (arrow_sing d h y.i)) (sym goes)
              ∙ sym (comp-sing d e h y.i (let l = by.valid.sings_len in let w = y.within in omega arith))
              ∙ ap (λ (t : Arr (suc d)). arrow_sing d t y.i) by.composite
              ∙ comp-sing d a g.arrow y.i (let l = vg.sings_len in let w = y.within in omega arith)
              ∙ ap (λ (t : ℕ). comp d (arrow_sing d a t) (arrow_sing d g.arrow y.i)) y.goes;
        },
      )

  abbrev pub IsSing : ℕ → Arr d → Type 0
  IsSing k x = (i : ℕ) → i < length R.sings → height d e i ≡ height d a k
      → FactorsBy d (sing d S k) (sing d R i) (arrow_sing d a k) (arrow_sing d e i) x

  sing_factor : (k i : ℕ) → k < length S.sings → i < length R.sings → height d e i ≡ height d a k
      → Factors d (sing d S k) (sing d R i) (arrow_sing d a k) (arrow_sing d e i)
  sing_factor k i lk li at =
      let n : ℕ = height d a k in
      let ln = height_within d S T a r.qa.valid k lk in
      let a0 = increasing-dual_same a.heights r.qa.increasing k (let l = r.qa.valid.heights_len in omega arith) in
      let a1 = increasing-dual_next a.heights r.qa.increasing k (let l = r.qa.valid.heights_len in omega arith) in
      let x = reg_at i (omega arith) in
      let y = reg_at (suc i) (omega arith) in
      let px = x.1 n (omega arith) (low i n li at) in
      let py = y.1 (suc n) ln (high i n li at) in
      let vx : ValidArrow d (reg d S k) (reg d R i) x.0 = subst (λ (t : ℕ). ValidArrow d (reg d S t) (reg d R i) x.0) a0 px.valid in
      let vy : ValidArrow d (reg d S (suc k)) (reg d R (suc i)) y.0 =
      subst (λ (t : ℕ). ValidArrow d (reg d S t) (reg d R (suc i)) y.0) a1 py.valid in
      ih (sing d S k) (sing d R i) (sing d T n) (arrow_sing d a k) (arrow_sing d e i) (λ b. LeadsInto d S G k b) (record {
        vS = r.vS.sings k lk;
        vR = r.vR.sings i li;
        vT = r.vT.sings n ln;
        qa = r.qa.sings k lk;
        qe = slice_shape i n li at;
        legs = legs_into d S R T a e G r k lk;
        rival = λ b p.
            let P : Leg d → Type 0 = λ t. Factors d t.source (sing d R i) (comp d (arrow_sing d a k) t.arrow) (arrow_sing d e i) in
            elim p [
              | inl z ↦ leg_factor k i lk li at b z
              | inr w ↦ elim w [
                | inl z ↦ subst P (sym z) (
                  comp d (fwd d R i) x.0,
                  record {
                    valid = composites_are_valid d _ _ _ x.0 (fwd d R i) (r.vS.regs k (omega arith)) (r.vR.regs i (omega arith))
                        (r.vR.sings i li) vx (r.vR.fwds i li);
                    composite = enter i n li at x.0 px ∙ first_at (r.qa.valid.squares n ln) k a0 (omega arith);
                  },
                )
                | inr z ↦ subst P (sym z) (
                  comp d (bwd d R i) y.0,
                  record {
                    valid = composites_are_valid d _ _ _ y.0 (bwd d R i) (r.vS.regs (suc k) lk) (r.vR.regs (suc i) li)
                        (r.vR.sings i li) vy (r.vR.bwds i li);
                    composite = leave i n li at y.0 py ∙ last_at (r.qa.valid.squares n ln) k (omega arith) (sym a1);
                  },
                )
              ]
            ];
        reduced = r.reduced.sings k lk;
      })

  pub sing_at : (k : ℕ) → k < length S.sings → (x : Arr d) × IsSing k x
  sing_at k lk =
      let h = beside k lk in
      let at : height d e h.0 ≡ height d a k = h.2 in
      let f = sing_factor k h.0 lk h.1 at in (
        f.0,
        λ i l goes. subst (λ (t : ℕ). FactorsBy d (sing d S k) (sing d R t) (arrow_sing d a k) (arrow_sing d e t) f.0)
            (one_height h.0 i h.1 l (at ∙ sym goes)) f.1,
      )
