-- What carries preimages and cuts over does so one level up.
use Rattle.std.proofs.Common.{◌≡◌, ℕ, suc, ◌+◌, ◌-◌, ◌<◌, ◌≤◌, length, refl, sym, ap, ◌∙◌, subst, arith, inl, inr}
use Rattle.std.proofs.lemmas.Bool.{cases_lt}
use Rattle.std.proofs.lemmas.List.{get_or-map, length-map}
use Rattle.diagram_terms.specs.Family.{Dia, Arr, reg, sing, fwd, bwd, height, arrow_reg, arrow_sing}
use Rattle.diagram_terms.specs.Dual.{dual}
use Rattle.diagram_terms.specs.Valid.{ValidArrow, Valid}
use Rattle.diagram_terms.proofs.Parts.{same_arrows, same_diagrams}
use Rattle.map_laws.proofs.ValidParts.{dual_within, height_within}
use Rattle.diagram_terms.specs.SliceMaps.{on_slices, on_arrow_slices}
use Rattle.normal_form_laws.proofs.ImageParts.{image-reg, image-sing, image-fwd, image-bwd, image-arrow_reg, image-arrow_sing}
use Rattle.diagram_terms.specs.Regions.{Reg, no_region, reg_region, sing_region, IsRegionOf}
use Rattle.diagram_terms.specs.Preimages.{preimage}
use Rattle.diagram_terms.specs.Cuts.{cut_arrow, cut_diagram}
use Rattle.region_laws.proofs.CutParts.{cut-regs_len, cut-sings_len, cut-fwds_len, cut-bwds_len, cut-reg, cut-sing, cut-fwd, cut-bwd, cut_arrow-regs_len, cut_arrow-sings_len, cut_arrow-reg, cut_arrow-sing}
use Rattle.region_laws.proofs.PreimageRegions.{interval_order, interval_within, goes_from, goes_to, first_or_after, preimages_are_regions}
use Rattle.region_laws.proofs.RegionParts.{same_spans, preimage-from, preimage-to, preimage-regs_len, preimage-sings_len, preimage-sing, preimage-after, preimage-first, preimage-alone}
use Rattle.diagram_terms.specs.CarriedRegions.{on_region}
use Rattle.sign_map_laws.specs.CarriedRegions.{CarriesCutsOver}

module _ (d e : ℕ) (o : Dia d → Dia e) (a : Arr d → Arr e) (r : Reg d → Reg e) (c : CarriesCutsOver d e o a r) where
  abbrev O : Dia (suc d) → Dia (suc e)
  O X = on_slices d e o a X

  abbrev A : Arr (suc d) → Arr (suc e)
  A f = on_arrow_slices d e a f

  abbrev R : Reg (suc d) → Reg (suc e)
  R W = on_region d e r W

  -- ---- the parts of a region

  part-reg : (X : Dia (suc d)) (W : Reg (suc d)) → IsRegionOf (suc d) X W → (j : ℕ) → j ≤ W.to → reg_region e (R W) j ≡ r (reg_region d W j)
  part-reg X W w j l = let n = w.regs_len in get_or-map r W.regs (j - W.from) (no_region d) (no_region e) (omega arith)

  part-sing : (X : Dia (suc d)) (W : Reg (suc d)) → IsRegionOf (suc d) X W → (i : ℕ) → W.from ≤ i → i < W.to → sing_region e (R W) i ≡ r (sing_region d W i)
  part-sing X W w i low l = let n = w.sings_len in get_or-map r W.sings (i - W.from) (no_region d) (no_region e) (omega arith)

  -- ---- preimages

  module _ (X Y : Dia (suc d)) (f : Arr (suc d)) (W : Reg (suc d)) (vX : Valid (suc d) X) (vY : Valid (suc d) Y)
      (vf : ValidArrow (suc d) X Y f) (w : IsRegionOf (suc d) Y W) where
    abbrev P : Reg (suc d)
    P = preimage (suc d) X f W

    abbrev V : Reg (suc e)
    V = preimage (suc e) (O X) (A f) (R W)

    wP : IsRegionOf (suc d) X P
    wP = preimages_are_regions (suc d) X Y f W vX vf w

    abbrev low_end : ℕ
    low_end = dual f.heights W.from

    abbrev high_end : ℕ
    high_end = dual f.heights W.to

    sing_at : (i : ℕ) → low_end ≤ i → i < high_end → sing_region e V i ≡ r (sing_region d P i)
    sing_at i low high =
        let n = interval_within d X Y f W vf w in
        let hl = vf.heights_len in
        let sl = vf.sings_len in
        let li : i < length X.sings = omega arith in
        let m : ℕ = height d f i in
        let from = goes_from d X Y f W vf w i low high in
        let to = goes_to d X Y f W vf w i high in
        let lm = height_within d X Y f vf i li in
        preimage-sing e (O X) (A f) (R W) i low high
        ∙ (λ t. preimage e (image-sing d e o a X i li t) (image-arrow_sing d e o a f i (omega arith) t) (part-sing Y W w m from to t))
        ∙ c.preimages (sing d X i) (sing d Y m) (arrow_sing d f i) (sing_region d W m) (vX.sings i li) (vY.sings m lm) (vf.sings i li) (w.sings m from to)
        ∙ ap r (sym (preimage-sing d X f W i low high))

    -- along a leg of X, and under a regular slice
    after_at : (i : ℕ) → low_end ≤ i → i < high_end → reg_region e V (suc i) ≡ r (reg_region d P (suc i))
    after_at i low high =
        let n = interval_within d X Y f W vf w in
        let li : i < length X.sings = omega arith in
        let from = preimage-from d X f W in
        let to = preimage-to d X f W in
        let b = image-bwd d e o a X vX i li in
        let x = image-reg d e o a X vX (suc i) (omega arith) in
        let s = sing_at i low high in
        preimage-after e (O X) (A f) (R W) i low high
        ∙ (λ t. preimage e (x t) (b t) (s t))
        ∙ c.preimages (reg d X (suc i)) (sing d X i) (bwd d X i) (sing_region d P i) (vX.regs (suc i) (omega arith)) (vX.sings i li) (vX.bwds i li)
        (wP.sings i (omega arith) (omega arith))
        ∙ ap r (sym (preimage-after d X f W i low high))

    first_at : (j : ℕ) → j ≡ low_end → j < high_end → reg_region e V j ≡ r (reg_region d P j)
    first_at j at high =
        let n = interval_within d X Y f W vf w in
        let lj : j < length X.sings = omega arith in
        let from = preimage-from d X f W in
        let to = preimage-to d X f W in
        let b = image-fwd d e o a X vX j lj in
        let x = image-reg d e o a X vX j (omega arith) in
        let s = sing_at j (omega arith) high in
        preimage-first e (O X) (A f) (R W) j at high
        ∙ (λ t. preimage e (x t) (b t) (s t))
        ∙ c.preimages (reg d X j) (sing d X j) (fwd d X j) (sing_region d P j) (vX.regs j (omega arith)) (vX.sings j lj) (vX.fwds j lj)
        (wP.sings j (omega arith) (omega arith))
        ∙ ap r (sym (preimage-first d X f W j at high))

    alone_at : (j : ℕ) → j ≡ low_end → j ≡ high_end → reg_region e V j ≡ r (reg_region d P j)
    alone_at j at same =
        let n = interval_within d X Y f W vf w in
        let rl = vf.regs_len in
        let order = w.order in
        let within = w.within in
        let lj : j ≤ length X.sings = omega arith in
        let m : ℕ = W.from in
        let lm : m ≤ length Y.sings = omega arith in
        let x = image-reg d e o a X vX j lj in
        let b = image-arrow_reg d e o a f m (omega arith) in
        let q = part-reg Y W w m order in
        let valid : ValidArrow d (reg d X j) (reg d Y m) (arrow_reg d f m) =
        subst (λ (i : ℕ). ValidArrow d (reg d X i) (reg d Y m) (arrow_reg d f m)) (sym at) (vf.regs m lm) in
        preimage-alone e (O X) (A f) (R W) j at same
        ∙ (λ t. preimage e (x t) (b t) (q t))
        ∙ c.preimages (reg d X j) (reg d Y m) (arrow_reg d f m) (reg_region d W m) (vX.regs j lj) (vY.regs m lm) valid (w.regs m (omega arith) order)
        ∙ ap r (sym (preimage-alone d X f W j at same))

    reg_at : (j : ℕ) → low_end ≤ j → j ≤ high_end → reg_region e V j ≡ r (reg_region d P j)
    reg_at j low high = elim (first_or_after low_end j low) [
      | inl at ↦ elim (cases_lt j high_end) [
        | inl l ↦ first_at j at l
        | inr l ↦ alone_at j at (omega arith)
      ]
      | inr p ↦ (let e1 = p.2 in
          let l1 = p.1 in
          subst (λ (i : ℕ). reg_region e V i ≡ r (reg_region d P i)) e1 (after_at p.0 l1 (omega arith)))
    ]

    pub next_preimages : V ≡ R P
    next_preimages =
        let order = interval_order d X Y f W vf w in
        let from = preimage-from d X f W in
        let to = preimage-to d X f W in
        let vfrom = preimage-from e (O X) (A f) (R W) in
        let vto = preimage-to e (O X) (A f) (R W) in
        let vr = preimage-regs_len e (O X) (A f) (R W) in
        let vs = preimage-sings_len e (O X) (A f) (R W) in
        let pr = preimage-regs_len d X f W in
        let ps = preimage-sings_len d X f W in
        let mr = length-map P.regs r in
        let ms = length-map P.sings r in
        same_spans e V (R P) (vfrom ∙ sym from) (vto ∙ sym to) (omega arith) (omega arith) (omega arith) (omega arith) (omega arith)
        (λ j low high. reg_at j (omega arith) (omega arith) ∙ sym (part-reg X P wP j (omega arith)))
        (λ i low high. sing_at i (omega arith) (omega arith) ∙ sym (part-sing X P wP i (omega arith) (omega arith)))

  -- ---- cuts of diagrams

  module _ (X : Dia (suc d)) (W : Reg (suc d)) (vX : Valid (suc d) X) (w : IsRegionOf (suc d) X W) where
    abbrev C : Dia (suc d)
    C = cut_diagram (suc d) X W

    abbrev B : Dia (suc e)
    B = cut_diagram (suc e) (O X) (R W)

    cut_leg : (i k : ℕ) (f : Arr d) (g : Arr e) (S : Dia d) → g ≡ a f → (valid : ValidArrow d S (sing d X k) f) → Valid d S → W.from ≤ k → k < W.to
        → cut_arrow e g (sing_region e (R W) k) ≡ a (cut_arrow d f (sing_region d W k))
    cut_leg i k f g S same valid vS low high =
        let within = w.within in
        (λ t. cut_arrow e (same t) (part-sing X W w k low high t))
        ∙ c.arrows S (sing d X k) f (sing_region d W k) vS (vX.sings k (omega arith)) valid (w.sings k low high)

    pub next_cuts : B ≡ O C
    next_cuts =
        let order = w.order in
        let within = w.within in
        let fl = vX.fwds_len in
        let bl = vX.bwds_len in
        let b1 = cut-regs_len e (O X) (R W) in
        let b2 = cut-sings_len e (O X) (R W) in
        let b3 = cut-fwds_len e (O X) (R W) in
        let b4 = cut-bwds_len e (O X) (R W) in
        let c1 = cut-regs_len d X W in
        let c2 = cut-sings_len d X W in
        let c3 = cut-fwds_len d X W in
        let c4 = cut-bwds_len d X W in
        let m1 = length-map C.regs o in
        let m2 = length-map C.sings o in
        let m3 = length-map C.fwds a in
        let m4 = length-map C.bwds a in
        same_diagrams e B (O C)
        (omega arith)
        (λ j l.
        let k : ℕ = W.from + j in
        let high : k ≤ W.to = omega arith in
        let x = image-reg d e o a X vX k (omega arith) in
        let q = part-reg X W w k high in
        cut-reg e (O X) (R W) j k refl high
        ∙ (λ t. cut_diagram e (x t) (q t))
        ∙ c.diagrams (reg d X k) (reg_region d W k) (vX.regs k (omega arith)) (w.regs k (omega arith) high)
        ∙ ap o (sym (cut-reg d X W j k refl high))
        ∙ sym (get_or-map o C.regs j _ _ (omega arith)))
        (omega arith)
        (λ i l.
        let k : ℕ = W.from + i in
        let high : k < W.to = omega arith in
        let low : W.from ≤ k = omega arith in
        let x = image-sing d e o a X k (omega arith) in
        let q = part-sing X W w k low high in
        cut-sing e (O X) (R W) i k refl high
        ∙ (λ t. cut_diagram e (x t) (q t))
        ∙ c.diagrams (sing d X k) (sing_region d W k) (vX.sings k (omega arith)) (w.sings k low high)
        ∙ ap o (sym (cut-sing d X W i k refl high))
        ∙ sym (get_or-map o C.sings i _ _ (omega arith)))
        (omega arith)
        (λ i l.
        let k : ℕ = W.from + i in
        let high : k < W.to = omega arith in
        let lk : k < length X.sings = omega arith in
        cut-fwd e (O X) (R W) i k refl high
        ∙ cut_leg i k (fwd d X k) (fwd e (O X) k) (reg d X k) (image-fwd d e o a X vX k lk) (vX.fwds k lk) (vX.regs k (omega arith)) (omega arith) high
        ∙ ap a (sym (cut-fwd d X W i k refl high))
        ∙ sym (get_or-map a C.fwds i _ _ (omega arith)))
        (omega arith)
        (λ i l.
        let k : ℕ = W.from + i in
        let high : k < W.to = omega arith in
        let lk : k < length X.sings = omega arith in
        cut-bwd e (O X) (R W) i k refl high
        ∙ cut_leg i k (bwd d X k) (bwd e (O X) k) (reg d X (suc k)) (image-bwd d e o a X vX k lk) (vX.bwds k lk) (vX.regs (suc k) lk) (omega arith) high
        ∙ ap a (sym (cut-bwd d X W i k refl high))
        ∙ sym (get_or-map a C.bwds i _ _ (omega arith)))

  -- ---- cuts of arrows

  module _ (X Y : Dia (suc d)) (f : Arr (suc d)) (W : Reg (suc d)) (vX : Valid (suc d) X) (vY : Valid (suc d) Y)
      (vf : ValidArrow (suc d) X Y f) (w : IsRegionOf (suc d) Y W) where
    abbrev g : Arr (suc d)
    g = cut_arrow (suc d) f W

    abbrev h : Arr (suc e)
    h = cut_arrow (suc e) (A f) (R W)

    same_heights : h.heights ≡ (A g).heights
    unfolding cut_arrow
    same_heights = refl

    pub next_arrow_cuts : h ≡ A g
    next_arrow_cuts =
        let order = w.order in
        let within = w.within in
        let rl = vf.regs_len in
        let sl = vf.sings_len in
        let hl = vf.heights_len in
        let n = interval_within d X Y f W vf w in
        let h1 = cut_arrow-regs_len e (A f) (R W) in
        let h2 = cut_arrow-sings_len e (A f) (R W) in
        let g1 = cut_arrow-regs_len d f W in
        let g2 = cut_arrow-sings_len d f W in
        let m1 = length-map g.regs a in
        let m2 = length-map g.sings a in
        same_arrows e h (A g) same_heights
        (omega arith)
        (λ j l.
        let k : ℕ = W.from + j in
        let high : k ≤ W.to = omega arith in
        let lk : k ≤ length Y.sings = omega arith in
        let i : ℕ = dual f.heights k in
        let li = dual_within d X Y f vf k in
        let b = image-arrow_reg d e o a f k (omega arith) in
        let q = part-reg Y W w k high in
        cut_arrow-reg e (A f) (R W) j k refl high
        ∙ (λ t. cut_arrow e (b t) (q t))
        ∙ c.arrows (reg d X i) (reg d Y k) (arrow_reg d f k) (reg_region d W k) (vX.regs i li) (vY.regs k lk) (vf.regs k lk) (w.regs k (omega arith) high)
        ∙ ap a (sym (cut_arrow-reg d f W j k refl high))
        ∙ sym (image-arrow_reg d e o a g j (omega arith)))
        (omega arith)
        (λ i l.
        let k : ℕ = dual f.heights W.from + i in
        let high : k < dual f.heights W.to = omega arith in
        let low : dual f.heights W.from ≤ k = omega arith in
        let lk : k < length X.sings = omega arith in
        let m : ℕ = height d f k in
        let lm = height_within d X Y f vf k lk in
        let from = goes_from d X Y f W vf w k low high in
        let to = goes_to d X Y f W vf w k high in
        let b = image-arrow_sing d e o a f k (omega arith) in
        let q = part-sing Y W w m from to in
        cut_arrow-sing e (A f) (R W) i k refl high
        ∙ (λ t. cut_arrow e (b t) (q t))
        ∙ c.arrows (sing d X k) (sing d Y m) (arrow_sing d f k) (sing_region d W m) (vX.sings k lk) (vY.sings m lm) (vf.sings k lk) (w.sings m from to)
        ∙ ap a (sym (cut_arrow-sing d f W i k refl high))
        ∙ sym (image-arrow_sing d e o a g i (omega arith)))

  pub next_carries_cuts : CarriesCutsOver (suc d) (suc e) O A R
  next_carries_cuts = record { preimages = next_preimages; diagrams = next_cuts; arrows = next_arrow_cuts }
