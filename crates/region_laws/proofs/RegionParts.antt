-- The parts of preimages, cuts and regions of points, and when two regions are equal.
use Rattle.std.proofs.Common.{◌≡◌, ℕ, suc, ◌+◌, ◌-◌, ◌<◌, ◌≤◌, length, get_or, refl, sym, ap, ◌∙◌, arith}
use Rattle.std.proofs.lemmas.Bool.{cond-true, cond-false, lt-ltb, le-ltb}
use Rattle.std.proofs.lemmas.List.{ext_get_or}
use Rattle.std.proofs.lemmas.List.FromFn.{length-map-range_with_len, get_or-map-range_with_len}
use Rattle.diagram_terms.specs.Family.{Dia, Arr, reg, sing, fwd, bwd, height, arrow_reg, arrow_sing}
use Rattle.diagram_terms.specs.Dual.{dual}
use Rattle.diagram_terms.specs.Regions.{tab_from, Reg, no_region, reg_region, sing_region, IsRegionOf}
use Rattle.diagram_terms.specs.Preimages.{reg_preimage, sing_preimage, preimage}

pub length-tab_from : {X : Type 0} (F : ℕ → X) (a n : ℕ) → length (tab_from F a n) ≡ n
length-tab_from F a n = length-map-range_with_len F a n

-- the entry i is that of the height k
pub get-tab_from : {X : Type 0} (F : ℕ → X) (a n i k : ℕ) (d : X) → i < n → a + i ≡ k → get_or (tab_from F a n) i d ≡ F k
get-tab_from F a n i k d l e = get_or-map-range_with_len F a n i k d l e

-- ---- equal regions

-- two regions with one interval are equal if those of the slices are
pub same_spans : (d : ℕ) (V W : Reg (suc d)) → V.from ≡ W.from → V.to ≡ W.to → V.from ≤ V.to
    → length V.regs ≡ suc (V.to - V.from) → length V.sings ≡ V.to - V.from → length W.regs ≡ suc (W.to - W.from) → length W.sings ≡ W.to - W.from
    → ((j : ℕ) → V.from ≤ j → j ≤ V.to → reg_region d V j ≡ reg_region d W j)
    → ((i : ℕ) → V.from ≤ i → i < V.to → sing_region d V i ≡ sing_region d W i)
    → V ≡ W
same_spans d V W from to o v1 v2 w1 w2 r s =
    let p : V.regs ≡ W.regs = ext_get_or (no_region d) V.regs W.regs (omega arith) (λ n l.
    let k : ℕ = V.from + n in
    let e : k - V.from ≡ n = omega arith in
    let g : k - W.from ≡ n = omega arith in
    ap (λ (m : ℕ). get_or V.regs m (no_region d)) (sym e) ∙ r k (omega arith) (omega arith) ∙ ap (λ (m : ℕ). get_or W.regs m (no_region d)) g) in
    let q : V.sings ≡ W.sings = ext_get_or (no_region d) V.sings W.sings (omega arith) (λ n l.
    let k : ℕ = V.from + n in
    let e : k - V.from ≡ n = omega arith in
    let g : k - W.from ≡ n = omega arith in
    ap (λ (m : ℕ). get_or V.sings m (no_region d)) (sym e) ∙ s k (omega arith) (omega arith) ∙ ap (λ (m : ℕ). get_or W.sings m (no_region d)) g) in
    λ i. record { from = from i; to = to i; regs = p i; sings = q i }

-- the same of regions of one diagram
pub same_regions : (d : ℕ) (X : Dia (suc d)) (V W : Reg (suc d)) → IsRegionOf (suc d) X V → IsRegionOf (suc d) X W → V.from ≡ W.from → V.to ≡ W.to
    → ((j : ℕ) → V.from ≤ j → j ≤ V.to → reg_region d V j ≡ reg_region d W j)
    → ((i : ℕ) → V.from ≤ i → i < V.to → sing_region d V i ≡ sing_region d W i)
    → V ≡ W
same_regions d X V W rV rW from to = same_spans d V W from to rV.order rV.regs_len rV.sings_len rW.regs_len rW.sings_len

-- ---- the preimage under f : X → Y of a region W of Y

module _ (d : ℕ) (X : Dia (suc d)) (f : Arr (suc d)) (W : Reg (suc d)) where
  pub preimage-from : (preimage (suc d) X f W).from ≡ dual f.heights W.from
  unfolding preimage
  preimage-from = refl

  pub preimage-to : (preimage (suc d) X f W).to ≡ dual f.heights W.to
  unfolding preimage
  preimage-to = refl

  pub preimage-regs_len : length (preimage (suc d) X f W).regs ≡ suc (dual f.heights W.to - dual f.heights W.from)
  unfolding preimage
  preimage-regs_len = length-tab_from (reg_preimage d (preimage d) X f W) (dual f.heights W.from) (suc (dual f.heights W.to - dual f.heights W.from))

  pub preimage-sings_len : length (preimage (suc d) X f W).sings ≡ dual f.heights W.to - dual f.heights W.from
  unfolding preimage
  preimage-sings_len = length-tab_from (sing_preimage d (preimage d) X f W) (dual f.heights W.from) (dual f.heights W.to - dual f.heights W.from)

  -- at a singular height
  pub preimage-sing : (i : ℕ) → dual f.heights W.from ≤ i → i < dual f.heights W.to
      → sing_region d (preimage (suc d) X f W) i ≡ preimage d (sing d X i) (arrow_sing d f i) (sing_region d W (height d f i))
  unfolding preimage
  preimage-sing i low high =
      let a : ℕ = dual f.heights W.from in
      let b : ℕ = dual f.heights W.to in
      get-tab_from (sing_preimage d (preimage d) X f W) a (b - a) (i - a) i (no_region d) (omega arith) (omega arith)

  -- at a regular height, by the three cases
  reg_at : (j : ℕ) → dual f.heights W.from ≤ j → j ≤ dual f.heights W.to
      → reg_region d (preimage (suc d) X f W) j ≡ reg_preimage d (preimage d) X f W j
  unfolding preimage
  reg_at j low high =
      let a : ℕ = dual f.heights W.from in
      let b : ℕ = dual f.heights W.to in
      get-tab_from (reg_preimage d (preimage d) X f W) a (suc (b - a)) (j - a) j (no_region d) (omega arith) (omega arith)

  -- after the first one
  pub preimage-after : (i : ℕ) → dual f.heights W.from ≤ i → i < dual f.heights W.to
      → reg_region d (preimage (suc d) X f W) (suc i) ≡ preimage d (reg d X (suc i)) (bwd d X i) (sing_region d (preimage (suc d) X f W) i)
  preimage-after i low high =
      let e : suc i - 1 ≡ i = omega arith in
      reg_at (suc i) (omega arith) high
      ∙ cond-true _ _ _ (lt-ltb (dual f.heights W.from) (suc i) (omega arith))
      ∙ ap (λ (m : ℕ). preimage d (reg d X (suc i)) (bwd d X m) (sing_preimage d (preimage d) X f W m)) e
      ∙ ap (λ (R : Reg d). preimage d (reg d X (suc i)) (bwd d X i) R) (sym (preimage-sing i low high))

  -- at the first one, where another follows
  pub preimage-first : (j : ℕ) → j ≡ dual f.heights W.from → j < dual f.heights W.to
      → reg_region d (preimage (suc d) X f W) j ≡ preimage d (reg d X j) (fwd d X j) (sing_region d (preimage (suc d) X f W) j)
  preimage-first j e high =
      reg_at j (omega arith) (omega arith)
      ∙ cond-false _ _ _ (le-ltb (dual f.heights W.from) j (omega arith))
      ∙ cond-true _ _ _ (lt-ltb j (dual f.heights W.to) high)
      ∙ ap (λ (R : Reg d). preimage d (reg d X j) (fwd d X j) R) (sym (preimage-sing j (omega arith) high))

  -- at the only one
  pub preimage-alone : (j : ℕ) → j ≡ dual f.heights W.from → j ≡ dual f.heights W.to
      → reg_region d (preimage (suc d) X f W) j ≡ preimage d (reg d X j) (arrow_reg d f W.from) (reg_region d W W.from)
  preimage-alone j e g =
      reg_at j (omega arith) (omega arith)
      ∙ cond-false _ _ _ (le-ltb (dual f.heights W.from) j (omega arith))
      ∙ cond-false _ _ _ (le-ltb j (dual f.heights W.to) (omega arith))
