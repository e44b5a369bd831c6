-- The cases of a preimage agree, under f : X → Y, where preimages one dimension lower compose.
use Rattle.std.proofs.Common.{◌≡◌, ℕ, zero, suc, ◌+◌, ◌-◌, ◌<◌, ◌≤◌, length, refl, sym, ap, ◌∙◌, subst, arith, inl, inr}
use Rattle.std.proofs.lemmas.Bool.{cases_lt}
use Rattle.diagram_terms.specs.Family.{Dia, Arr, reg, sing, fwd, bwd, height, arrow_reg, arrow_sing}
use Rattle.diagram_terms.specs.Dual.{dual}
use Rattle.diagram_terms.specs.Valid.{ValidArrow, Valid, left_edge, right_edge, enter_edge, leave_edge}
use Rattle.diagram_terms.proofs.Duals.{dual-lt, dual_mono, in_fibre, fibre_low, fibre_high}
use Rattle.diagram_terms.proofs.MonotoneParts.{dual-ge, dual_constant, dual_at_step}
use Rattle.map_laws.specs.Edges.{HasEdges}
use Rattle.map_laws.proofs.ValidParts.{dual_within}
use Rattle.diagram_terms.specs.Regions.{Reg, reg_region, sing_region}
use Rattle.diagram_terms.specs.ClosedRegions.{IsClosedRegion}
use Rattle.diagram_terms.specs.Preimages.{preimage}
use Rattle.diagram_terms.proofs.Squares.{first_at, last_at}
use Rattle.region_laws.specs.PreimageCases.{PreimageCases}
use Rattle.region_laws.specs.Laws.{PreimagesCompose}
use Rattle.region_laws.proofs.RegionParts.{preimage-sing, preimage-after, preimage-first, preimage-alone}
use Rattle.region_laws.proofs.PreimageRegions.{interval_within, goes_from, goes_to, first_or_after}

-- the regions of the slices of a closed region are closed
module _ (d : ℕ) (X : Dia (suc d)) (W : Reg (suc d)) (c : IsClosedRegion (suc d) X W) where
  pub closed_reg : (j : ℕ) → W.from ≤ j → j ≤ W.to → IsClosedRegion d (reg d X j) (reg_region d W j)
  closed_reg j low high = record { region = c.region.regs j low high; closed = c.closed.regs j low high }

  pub closed_sing : (i : ℕ) → W.from ≤ i → i < W.to → IsClosedRegion d (sing d X i) (sing_region d W i)
  closed_sing i low high = record { region = c.region.sings i low high; closed = c.closed.sings i low high }

module _ (d : ℕ) (compose : PreimagesCompose d) (X Y : Dia (suc d)) (f : Arr (suc d)) (W : Reg (suc d)) (vX : Valid (suc d) X) (vY : Valid (suc d) Y)
    (vf : ValidArrow (suc d) X Y f) (cW : IsClosedRegion (suc d) Y W) where
  -- under the regular slice k of f, and along the legs of X beside a singular height
  abbrev under : ℕ → Reg d
  under k = preimage d (reg d X (dual f.heights k)) (arrow_reg d f k) (reg_region d W k)

  abbrev along_fwd : ℕ → Reg d
  along_fwd i = preimage d (reg d X i) (fwd d X i) (sing_region d (preimage (suc d) X f W) i)

  abbrev along_bwd : ℕ → Reg d
  along_bwd i = preimage d (reg d X (suc i)) (bwd d X i) (sing_region d (preimage (suc d) X f W) i)

  -- ---- along the composites of a square

  pub left_region : (k : ℕ) → W.from ≤ k → k < W.to
      → preimage d (reg d X (dual f.heights k)) (left_edge d Y f k) (sing_region d W k) ≡ under k
  left_region k low high =
      let w = cW.region.within in
      let x : Dia d = reg d X (dual f.heights k) in
      compose x (reg d Y k) (sing d Y k) (arrow_reg d f k) (fwd d Y k) (sing_region d W k)
      (vX.regs (dual f.heights k) (dual_within d X Y f vf k)) (vY.regs k (omega arith)) (vY.sings k (omega arith))
      (vf.regs k (omega arith)) (vY.fwds k (omega arith)) (closed_sing d Y W cW k low high)
      ∙ ap (preimage d x (arrow_reg d f k)) (cW.closed.fwds k low high)

  pub right_region : (k : ℕ) → W.from ≤ k → k < W.to
      → preimage d (reg d X (dual f.heights (suc k))) (right_edge d Y f k) (sing_region d W k) ≡ under (suc k)
  right_region k low high =
      let w = cW.region.within in
      let x : Dia d = reg d X (dual f.heights (suc k)) in
      compose x (reg d Y (suc k)) (sing d Y k) (arrow_reg d f (suc k)) (bwd d Y k) (sing_region d W k)
      (vX.regs (dual f.heights (suc k)) (dual_within d X Y f vf (suc k))) (vY.regs (suc k) (omega arith)) (vY.sings k (omega arith))
      (vf.regs (suc k) (omega arith)) (vY.bwds k (omega arith)) (closed_sing d Y W cW k low high)
      ∙ ap (preimage d x (arrow_reg d f (suc k))) (cW.closed.bwds k low high)

  enter_region : (i k : ℕ) → dual f.heights W.from ≤ i → i < dual f.heights W.to → height d f i ≡ k
      → preimage d (reg d X i) (enter_edge d X f i) (sing_region d W k) ≡ along_fwd i
  enter_region i k low high e =
      let n = interval_within d X Y f W vf cW.region in
      let here : i < length X.sings = omega arith in
      let m : ℕ = height d f i in
      let from : W.from ≤ m = goes_from d X Y f W vf cW.region i low high in
      let to : m < W.to = goes_to d X Y f W vf cW.region i high in
      let w = cW.region.within in
      ap (λ (n : ℕ). preimage d (reg d X i) (enter_edge d X f i) (sing_region d W n)) (sym e)
      ∙ compose (reg d X i) (sing d X i) (sing d Y m) (fwd d X i) (arrow_sing d f i) (sing_region d W m)
      (vX.regs i (omega arith)) (vX.sings i here) (vY.sings m (omega arith)) (vX.fwds i here) (vf.sings i here) (closed_sing d Y W cW m from to)
      ∙ ap (preimage d (reg d X i) (fwd d X i)) (sym (preimage-sing d X f W i low high))

  leave_region : (i k : ℕ) → dual f.heights W.from ≤ i → i < dual f.heights W.to → height d f i ≡ k
      → preimage d (reg d X (suc i)) (leave_edge d X f i) (sing_region d W k) ≡ along_bwd i
  leave_region i k low high e =
      let n = interval_within d X Y f W vf cW.region in
      let here : i < length X.sings = omega arith in
      let m : ℕ = height d f i in
      let from : W.from ≤ m = goes_from d X Y f W vf cW.region i low high in
      let to : m < W.to = goes_to d X Y f W vf cW.region i high in
      let w = cW.region.within in
      ap (λ (n : ℕ). preimage d (reg d X (suc i)) (leave_edge d X f i) (sing_region d W n)) (sym e)
      ∙ compose (reg d X (suc i)) (sing d X i) (sing d Y m) (bwd d X i) (arrow_sing d f i) (sing_region d W m)
      (vX.regs (suc i) here) (vX.sings i here) (vY.sings m (omega arith)) (vX.bwds i here) (vf.sings i here) (closed_sing d Y W cW m from to)
      ∙ ap (preimage d (reg d X (suc i)) (bwd d X i)) (sym (preimage-sing d X f W i low high))

  -- ---- what a square says of them

  square_inside : (k : ℕ) → k < W.to → k < length Y.sings
  square_inside k high = let w = cW.region.within in omega arith

  -- where no height of X goes to k
  under-missed : (k : ℕ) → W.from ≤ k → k < W.to → dual f.heights k ≡ dual f.heights (suc k) → under k ≡ under (suc k)
  under-missed k low high e =
      sym (left_region k low high)
      ∙ ap (λ (g : Arr d). preimage d (reg d X (dual f.heights k)) g (sing_region d W k)) ((vf.squares k (square_inside k high)).empty e)
      ∙ ap (λ (n : ℕ). preimage d (reg d X n) (right_edge d Y f k) (sing_region d W k)) e
      ∙ right_region k low high

  -- the first and the last height of X that goes to k
  under-first : (k i : ℕ) → W.from ≤ k → k < W.to → dual f.heights k ≡ i → i < dual f.heights (suc k) → under k ≡ along_fwd i
  under-first k i low high e l =
      let a : dual f.heights W.from ≤ dual f.heights k = dual_mono f.heights vf.monotone W.from k low in
      let b : dual f.heights (suc k) ≤ dual f.heights W.to = dual_mono f.heights vf.monotone (suc k) W.to high in
      sym (left_region k low high)
      ∙ ap (λ (g : Arr d). preimage d (reg d X (dual f.heights k)) g (sing_region d W k)) (first_at (vf.squares k (square_inside k high)) i e l)
      ∙ ap (λ (n : ℕ). preimage d (reg d X n) (enter_edge d X f i) (sing_region d W k)) e
      ∙ enter_region i k (omega arith) (omega arith) (in_fibre f.heights vf.monotone i k (omega arith) l)

  under-last : (k i : ℕ) → W.from ≤ k → k < W.to → dual f.heights k ≤ i → suc i ≡ dual f.heights (suc k) → under (suc k) ≡ along_bwd i
  under-last k i low high l e =
      let a : dual f.heights W.from ≤ dual f.heights k = dual_mono f.heights vf.monotone W.from k low in
      let b : dual f.heights (suc k) ≤ dual f.heights W.to = dual_mono f.heights vf.monotone (suc k) W.to high in
      sym (right_region k low high)
      ∙ ap (λ (g : Arr d). preimage d (reg d X (dual f.heights (suc k))) g (sing_region d W k)) (last_at (vf.squares k (square_inside k high)) i l e)
      ∙ ap (λ (n : ℕ). preimage d (reg d X n) (leave_edge d X f i) (sing_region d W k)) (sym e)
      ∙ leave_region i k (omega arith) (omega arith) (in_fibre f.heights vf.monotone i k l (omega arith))

  -- two heights that follow one another and go to k
  along-inner : (k i : ℕ) → W.from ≤ k → k < W.to → dual f.heights k ≤ i → suc i < dual f.heights (suc k) → along_bwd i ≡ along_fwd (suc i)
  along-inner k i low high l r =
      let a : dual f.heights W.from ≤ dual f.heights k = dual_mono f.heights vf.monotone W.from k low in
      let b : dual f.heights (suc k) ≤ dual f.heights W.to = dual_mono f.heights vf.monotone (suc k) W.to high in
      sym (leave_region i k (omega arith) (omega arith) (in_fibre f.heights vf.monotone i k l (omega arith)))
      ∙ ap (λ (g : Arr d). preimage d (reg d X (suc i)) g (sing_region d W k)) ((vf.squares k (square_inside k high)).inner i l r)
      ∙ enter_region (suc i) k (omega arith) (omega arith) (in_fibre f.heights vf.monotone (suc i) k (omega arith) r)

  -- ---- regular heights of Y with one dual

  under_run : (n k m : ℕ) → m ≡ n + k → W.from ≤ k → m ≤ W.to → dual f.heights k ≡ dual f.heights m → under k ≡ under m
  under_run zero k m e low high s = let same : k ≡ m = omega arith in ap under same
  under_run (suc n) k m e low high s =
      let here : dual f.heights (suc k) ≡ dual f.heights k = dual_constant f.heights vf.monotone k m (suc k) s (omega arith) (omega arith) in
      under-missed k low (omega arith) (sym here) ∙ under_run n (suc k) m (omega arith) (omega arith) high (here ∙ s)

  under_same : (k m : ℕ) → k ≤ m → W.from ≤ k → m ≤ W.to → dual f.heights k ≡ dual f.heights m → under k ≡ under m
  under_same k m l low high s = under_run (m - k) k m (omega arith) low high s

  -- ---- the cases

  at_regs : (k : ℕ) → W.from ≤ k → k ≤ W.to → reg_region d (preimage (suc d) X f W) (dual f.heights k) ≡ under k
  at_regs k low high =
      let a : ℕ = dual f.heights W.from in
      let b : ℕ = dual f.heights W.to in
      let t : ℕ = dual f.heights k in
      let la : a ≤ t = dual_mono f.heights vf.monotone W.from k low in
      let lb : t ≤ b = dual_mono f.heights vf.monotone k W.to high in
      let n = interval_within d X Y f W vf cW.region in
      let hl = vf.heights_len in
      elim (first_or_after a t la) [
        | inr p ↦ (
            let i : ℕ = p.0 in
            let pl = p.1 in
            let pe = p.2 in
            let m : ℕ = height d f i in
            let from : W.from ≤ m = goes_from d X Y f W vf cW.region i pl (omega arith) in
            let to : m < k = dual-lt f.heights vf.monotone i k (omega arith) in
            let up : dual f.heights (suc m) ≤ t = dual_mono f.heights vf.monotone (suc m) k to in
            let down : i < dual f.heights (suc m) = fibre_high f.heights vf.monotone i m (omega arith) refl in
            let e : suc i ≡ dual f.heights (suc m) = omega arith in
            ap (reg_region d (preimage (suc d) X f W)) (sym pe)
            ∙ preimage-after d X f W i pl (omega arith)
            ∙ sym (under-last m i from (omega arith) (fibre_low f.heights vf.monotone i m refl) e)
            ∙ under_same (suc m) k to (omega arith) high (omega arith))
        | inl e ↦ elim (cases_lt t b) [
          | inl q ↦ (
              let m : ℕ = height d f t in
              let from : k ≤ m = dual-ge f.heights vf.monotone t k (omega arith) (omega arith) in
              let to : m < W.to = goes_to d X Y f W vf cW.region t q in
              let up : t ≤ dual f.heights m = dual_mono f.heights vf.monotone k m from in
              let down : dual f.heights m ≤ t = fibre_low f.heights vf.monotone t m refl in
              preimage-first d X f W t e q
              ∙ sym (under-first m t (omega arith) to (omega arith) (fibre_high f.heights vf.monotone t m (omega arith) refl))
              ∙ sym (under_same k m from low (omega arith) (omega arith)))
          | inr q ↦ preimage-alone d X f W t e (omega arith)
              ∙ ap (λ (n : ℕ). preimage d (reg d X n) (arrow_reg d f W.from) (reg_region d W W.from)) e
              ∙ under_same W.from k low (omega arith) high (sym e)
        ]
      ]

  at_fwds : (i : ℕ) → dual f.heights W.from ≤ i → i < dual f.heights W.to → reg_region d (preimage (suc d) X f W) i ≡ along_fwd i
  at_fwds i low high =
      let n = interval_within d X Y f W vf cW.region in
      let hl = vf.heights_len in
      elim (first_or_after (dual f.heights W.from) i low) [
        | inl e ↦ preimage-first d X f W i e high
        | inr p ↦ (
            let c : ℕ = p.0 in
            let pl = p.1 in
            let pe = p.2 in
            let m : ℕ = height d f c in
            let k : ℕ = height d f (suc c) in
            let inside : suc c < length f.heights = omega arith in
            let rise : m ≤ k = vf.monotone.rises c (suc c) (omega arith) inside in
            let from : W.from ≤ m = goes_from d X Y f W vf cW.region c pl (omega arith) in
            let to : k < W.to = goes_to d X Y f W vf cW.region (suc c) (omega arith) in
            let r : reg_region d (preimage (suc d) X f W) (suc c) ≡ along_fwd (suc c) = elim (cases_lt m k) [
              | inl q ↦ (
                  let e : dual f.heights k ≡ suc c = dual_at_step f.heights vf.monotone c inside q in
                  ap (reg_region d (preimage (suc d) X f W)) (sym e) ∙ at_regs k (omega arith) (omega arith)
                  ∙ under-first k (suc c) (omega arith) to e (fibre_high f.heights vf.monotone (suc c) k inside refl))
              | inr q ↦ (
                  let e : height d f (suc c) ≡ m = omega arith in
                  preimage-after d X f W c pl (omega arith)
                  ∙ along-inner m c from (omega arith) (fibre_low f.heights vf.monotone c m refl) (fibre_high f.heights vf.monotone (suc c) m inside e))
            ] in
            subst (λ (t : ℕ). reg_region d (preimage (suc d) X f W) t ≡ along_fwd t) pe r)
      ]

  at_edges : (k t : ℕ) (e : HasEdges d X Y f k) → W.from ≤ k → k < W.to → dual f.heights k ≤ t → t ≤ dual f.heights (suc k)
      → reg_region d (preimage (suc d) X f W) t ≡ preimage d (reg d X t) (e.edge t) (sing_region d W k)
  at_edges k t e low high l r =
      let a : dual f.heights W.from ≤ dual f.heights k = dual_mono f.heights vf.monotone W.from k low in
      let b : dual f.heights (suc k) ≤ dual f.heights W.to = dual_mono f.heights vf.monotone (suc k) W.to high in
      elim (cases_lt t (dual f.heights (suc k))) [
        | inl q ↦ at_fwds t (omega arith) (omega arith)
            ∙ sym (enter_region t k (omega arith) (omega arith) (in_fibre f.heights vf.monotone t k l q))
            ∙ ap (λ (g : Arr d). preimage d (reg d X t) g (sing_region d W k)) (sym (e.along_fwd t l q))
        | inr q ↦ (
            let s : t ≡ dual f.heights (suc k) = omega arith in
            ap (reg_region d (preimage (suc d) X f W)) s ∙ at_regs (suc k) (omega arith) high
            ∙ sym (right_region k low high)
            ∙ ap (λ (g : Arr d). preimage d (reg d X (dual f.heights (suc k))) g (sing_region d W k)) (sym e.last)
            ∙ ap (λ (n : ℕ). preimage d (reg d X n) (e.edge n) (sing_region d W k)) (sym s))
      ]

  pub preimage_cases : PreimageCases d X Y f W
  preimage_cases = record {
    regs = at_regs;
    fwds = at_fwds;
    bwds = preimage-after d X f W;
    edges = at_edges;
  }
