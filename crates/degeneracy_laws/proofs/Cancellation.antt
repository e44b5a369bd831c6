-- Arrows of the shape of a degeneracy are mono, and what stands before one in another has the shape.
use Rattle.std.proofs.Common.{◌≡◌, ℕ, zero, suc, ◌<◌, ◌≤◌, List, length, get_or, sym, ap, ◌∙◌, subst, arith}
use Rattle.diagram_terms.specs.Family.{Dia, Arr, reg, sing, fwd, bwd, height, arrow_reg, arrow_sing}
use Rattle.diagram_terms.specs.Dual.{IsIncreasing, dual}
use Rattle.diagram_terms.specs.Composite.{comp}
use Rattle.diagram_terms.specs.Valid.{ValidArrow, Valid}
use Rattle.diagram_terms.specs.Degeneracy.{DegeneracyByShape}
use Rattle.diagram_terms.proofs.Injections.{increasing-dual_same, increasing-dual_next, increasing_hits, increasing_first, same_factor}
use Rattle.diagram_terms.proofs.Parts.{comp-from, comp-to, comp-heights, comp-height, comp-reg, comp-sing, same_ends, same_arrows}
use Rattle.map_laws.proofs.ValidParts.{dual_within, height_within, follows, composite-dual}
use Rattle.map_laws.proofs.CompositeSquares.{enter, leave, left_edge-enter, right_edge-leave, fwd-composite, bwd-composite}
use Rattle.map_laws.proofs.ValidComposites.{composites_are_valid}

-- each regular height of the source is the dual of one of the target
pub reached : (d : ℕ) (X Y : Dia (suc d)) (f : Arr (suc d)) → ValidArrow (suc d) X Y f → IsIncreasing f.heights
    → (j : ℕ) → j ≤ length X.sings → (k : ℕ) × (k ≤ length Y.sings) × (dual f.heights k ≡ j)
reached d X Y f v s j l = increasing_hits f.heights (length Y.sings) s v.below j (let a = v.heights_len in omega arith)

-- ---- mono

abbrev pub ShapesAreMono : ℕ → Type 0
ShapesAreMono d = (W X Y : Dia d) (e g h : Arr d) → DegeneracyByShape d X Y e → ValidArrow d W X g → ValidArrow d W X h
    → comp d e g ≡ comp d e h → g ≡ h

mono_base : ShapesAreMono zero
mono_base w x y e g h q vg vh same = same_ends g h (vg.from ∙ sym vh.from) (vg.to ∙ sym vh.to)

-- one level up
module _ (d : ℕ) (ih : ShapesAreMono d) (W X Y : Dia (suc d)) (e g h : Arr (suc d)) (q : DegeneracyByShape (suc d) X Y e)
    (vg : ValidArrow (suc d) W X g) (vh : ValidArrow (suc d) W X h) (same : comp (suc d) e g ≡ comp (suc d) e h) where
  mono_heights : g.heights ≡ h.heights
  mono_heights = same_factor e.heights g.heights h.heights q.increasing (follows d W X Y g e vg q.valid) (follows d W X Y h e vh q.valid)
      (sym (comp-heights d e g) ∙ ap (λ (t : Arr (suc d)). t.heights) same ∙ comp-heights d e h)

  mono_sing : (i : ℕ) → i < length W.sings → arrow_sing d g i ≡ arrow_sing d h i
  mono_sing i l =
      let at : height d g i ≡ height d h i = ap (λ (hs : List ℕ). get_or hs i 0) mono_heights in
      let lj = height_within d W X g vg i l in
      let v : ValidArrow d (sing d W i) (sing d X (height d g i)) (arrow_sing d h i) =
      subst (λ (n : ℕ). ValidArrow d (sing d W i) (sing d X n) (arrow_sing d h i)) (sym at) (vh.sings i l) in
      ih _ _ _ (arrow_sing d e (height d g i)) (arrow_sing d g i) (arrow_sing d h i) (q.sings (height d g i) lj) (vg.sings i l) v
      (sym (comp-sing d e g i (let a = vg.sings_len in omega arith)) ∙ ap (λ (t : Arr (suc d)). arrow_sing d t i) same
      ∙ comp-sing d e h i (let a = vh.sings_len in omega arith)
      ∙ ap (λ (n : ℕ). comp d (arrow_sing d e n) (arrow_sing d h i)) (sym at))

  mono_reg : (j : ℕ) → j ≤ length X.sings → arrow_reg d g j ≡ arrow_reg d h j
  mono_reg j l =
      let r = reached d X Y e q.valid q.increasing j l in
      let k : ℕ = r.0 in
      let lk : k ≤ length Y.sings = r.1 in
      let kj : dual e.heights k ≡ j = r.2 in
      let le : k < length e.regs = let a = q.valid.regs_len in omega arith in
      let at : dual g.heights j ≡ dual h.heights j = ap (λ (hs : List ℕ). dual hs j) mono_heights in
      let v : ValidArrow d (reg d W (dual g.heights j)) (reg d X j) (arrow_reg d h j) =
      subst (λ (n : ℕ). ValidArrow d (reg d W n) (reg d X j) (arrow_reg d h j)) (sym at) (vh.regs j l) in
      let qk : DegeneracyByShape d (reg d X j) (reg d Y k) (arrow_reg d e k) =
      subst (λ (n : ℕ). DegeneracyByShape d (reg d X n) (reg d Y k) (arrow_reg d e k)) kj (q.regs k lk) in
      ih _ _ _ (arrow_reg d e k) (arrow_reg d g j) (arrow_reg d h j) qk (vg.regs j l) v
      (ap (λ (n : ℕ). comp d (arrow_reg d e k) (arrow_reg d g n)) (sym kj) ∙ sym (comp-reg d e g k le)
      ∙ ap (λ (t : Arr (suc d)). arrow_reg d t k) same ∙ comp-reg d e h k le
      ∙ ap (λ (n : ℕ). comp d (arrow_reg d e k) (arrow_reg d h n)) kj)

  mono_step : g ≡ h
  mono_step =
      let g1 = vg.regs_len in
      let g2 = vg.sings_len in
      let h1 = vh.regs_len in
      let h2 = vh.sings_len in
      same_arrows d g h mono_heights (omega arith) (λ j l. mono_reg j (omega arith)) (omega arith) (λ i l. mono_sing i (omega arith))

pub shapes_are_mono : (d : ℕ) → ShapesAreMono d
shapes_are_mono zero = mono_base
shapes_are_mono (suc d) = mono_step d (shapes_are_mono d)

-- ---- what stands before

abbrev pub FirstPartsHaveShape : ℕ → Type 0
FirstPartsHaveShape d = (X Y Z : Dia d) (g e : Arr d) → Valid d X → Valid d Y → Valid d Z
    → ValidArrow d X Y g → DegeneracyByShape d Y Z e → DegeneracyByShape d X Z (comp d e g) → DegeneracyByShape d X Y g

first_base : FirstPartsHaveShape zero
first_base x y z g e vx vy vz vg qe qc =
    (vg, sym (comp-from e g) ∙ qc.1 ∙ comp-to e g ∙ sym qe.1 ∙ qe.0.from ∙ sym vg.to)

-- one level up
module _ (d : ℕ) (ih : FirstPartsHaveShape d) (X Y Z : Dia (suc d)) (g e : Arr (suc d))
    (vX : Valid (suc d) X) (vY : Valid (suc d) Y) (vZ : Valid (suc d) Z) (vg : ValidArrow (suc d) X Y g)
    (qe : DegeneracyByShape (suc d) Y Z e) (qc : DegeneracyByShape (suc d) X Z (comp (suc d) e g)) where
  abbrev c : Arr (suc d)
  c = comp (suc d) e g

  first_increasing : IsIncreasing g.heights
  first_increasing = increasing_first e.heights g.heights qe.valid.monotone vg.monotone (follows d X Y Z g e vg qe.valid)
      (subst IsIncreasing (comp-heights d e g) qc.increasing)

  first_reg : (j : ℕ) → j ≤ length Y.sings → DegeneracyByShape d (reg d X (dual g.heights j)) (reg d Y j) (arrow_reg d g j)
  first_reg j l =
      let r = reached d Y Z e qe.valid qe.increasing j l in
      let k : ℕ = r.0 in
      let lk : k ≤ length Z.sings = r.1 in
      let kj : dual e.heights k ≡ j = r.2 in
      let dk : dual c.heights k ≡ dual g.heights j = composite-dual d X Y Z g e vg qe.valid k ∙ ap (dual g.heights) kj in
      let rk : arrow_reg d c k ≡ comp d (arrow_reg d e k) (arrow_reg d g j) =
      comp-reg d e g k (let a = qe.valid.regs_len in omega arith) ∙ ap (λ (n : ℕ). comp d (arrow_reg d e k) (arrow_reg d g n)) kj in
      let qk : DegeneracyByShape d (reg d Y j) (reg d Z k) (arrow_reg d e k) =
      subst (λ (n : ℕ). DegeneracyByShape d (reg d Y n) (reg d Z k) (arrow_reg d e k)) kj (qe.regs k lk) in
      let q1 : DegeneracyByShape d (reg d X (dual g.heights j)) (reg d Z k) (arrow_reg d c k) =
      subst (λ (n : ℕ). DegeneracyByShape d (reg d X n) (reg d Z k) (arrow_reg d c k)) dk (qc.regs k lk) in
      let q2 : DegeneracyByShape d (reg d X (dual g.heights j)) (reg d Z k) (comp d (arrow_reg d e k) (arrow_reg d g j)) =
      subst (λ (t : Arr d). DegeneracyByShape d (reg d X (dual g.heights j)) (reg d Z k) t) rk q1 in
      ih _ _ _ (arrow_reg d g j) (arrow_reg d e k) (vX.regs _ (dual_within d X Y g vg j)) (vY.regs j l) (vZ.regs k lk) (vg.regs j l) qk q2

  first_sing : (i : ℕ) → i < length X.sings → DegeneracyByShape d (sing d X i) (sing d Y (height d g i)) (arrow_sing d g i)
  first_sing i l =
      let j : ℕ = height d g i in
      let lj = height_within d X Y g vg i l in
      let lk = height_within d Y Z e qe.valid j lj in
      let hi = comp-height d e g i (let a = vg.heights_len in omega arith) in
      let si = comp-sing d e g i (let a = vg.sings_len in omega arith) in
      let q1 : DegeneracyByShape d (sing d X i) (sing d Z (height d e j)) (arrow_sing d c i) =
      subst (λ (n : ℕ). DegeneracyByShape d (sing d X i) (sing d Z n) (arrow_sing d c i)) hi (qc.sings i l) in
      let q2 : DegeneracyByShape d (sing d X i) (sing d Z (height d e j)) (comp d (arrow_sing d e j) (arrow_sing d g i)) =
      subst (λ (t : Arr d). DegeneracyByShape d (sing d X i) (sing d Z (height d e j)) t) si q1 in
      ih _ _ _ (arrow_sing d g i) (arrow_sing d e j) (vX.sings i l) (vY.sings j lj) (vZ.sings _ lk) (vg.sings i l) (qe.sings j lj) q2

  -- over a height k of Y, which goes to a height of Z
  enter_shape : (k : ℕ) → k < length Y.sings
      → DegeneracyByShape d (reg d X (dual g.heights k)) (sing d Z (height d e k)) (enter d X Y Z g e vX vY vZ vg qe.valid k)
      → DegeneracyByShape d (reg d X (dual g.heights k)) (sing d Y k) (comp d (fwd d Y k) (arrow_reg d g k))
  unfolding enter
  enter_shape k l o =
      let vr = vg.regs k (omega arith) in
      let xr = vX.regs _ (dual_within d X Y g vg k) in
      let v = composites_are_valid d _ _ _ (arrow_reg d g k) (fwd d Y k) xr (vY.regs k (omega arith)) (vY.sings k l) vr (vY.fwds k l) in
      ih _ _ _ (comp d (fwd d Y k) (arrow_reg d g k)) (arrow_sing d e k)
      xr (vY.sings k l) (vZ.sings _ (height_within d Y Z e qe.valid k l)) v (qe.sings k l) o

  leave_shape : (k : ℕ) → k < length Y.sings
      → DegeneracyByShape d (reg d X (dual g.heights (suc k))) (sing d Z (height d e k)) (leave d X Y Z g e vX vY vZ vg qe.valid k)
      → DegeneracyByShape d (reg d X (dual g.heights (suc k))) (sing d Y k) (comp d (bwd d Y k) (arrow_reg d g (suc k)))
  unfolding leave
  leave_shape k l o =
      let vr = vg.regs (suc k) l in
      let xr = vX.regs _ (dual_within d X Y g vg (suc k)) in
      let v = composites_are_valid d _ _ _ (arrow_reg d g (suc k)) (bwd d Y k) xr (vY.regs (suc k) l) (vY.sings k l) vr (vY.bwds k l) in
      ih _ _ _ (comp d (bwd d Y k) (arrow_reg d g (suc k))) (arrow_sing d e k)
      xr (vY.sings k l) (vZ.sings _ (height_within d Y Z e qe.valid k l)) v (qe.sings k l) o

  first_fwd : (k : ℕ) → k < length Y.sings → dual g.heights k ≡ dual g.heights (suc k)
      → DegeneracyByShape d (reg d X (dual g.heights k)) (sing d Y k) (comp d (fwd d Y k) (arrow_reg d g k))
  first_fwd k l missed =
      let n : ℕ = height d e k in
      let ln = height_within d Y Z e qe.valid k l in
      let le : k < length e.heights = let a = qe.valid.heights_len in omega arith in
      let low : dual e.heights n ≡ k = increasing-dual_same e.heights qe.increasing k le in
      let high : dual e.heights (suc n) ≡ suc k = increasing-dual_next e.heights qe.increasing k le in
      let d0 = composite-dual d X Y Z g e vg qe.valid n ∙ ap (dual g.heights) low in
      let d1 = composite-dual d X Y Z g e vg qe.valid (suc n) ∙ ap (dual g.heights) high in
      let side = fwd-composite d X Y Z g e vX vY vZ vg qe.valid n ln
      ∙ left_edge-enter d X Y Z g e vX vY vZ vg qe.valid n k ln low (omega arith) in
      let o : DegeneracyByShape d (reg d X (dual g.heights k)) (sing d Z n) (comp d (fwd d Z n) (arrow_reg d c n)) =
      subst (λ (m : ℕ). DegeneracyByShape d (reg d X m) (sing d Z n) (comp d (fwd d Z n) (arrow_reg d c n))) d0
      (qc.missed_fwds n ln (d0 ∙ missed ∙ sym d1)) in
      enter_shape k l (subst (λ (t : Arr d). DegeneracyByShape d (reg d X (dual g.heights k)) (sing d Z n) t) side o)

  first_bwd : (k : ℕ) → k < length Y.sings → dual g.heights k ≡ dual g.heights (suc k)
      → DegeneracyByShape d (reg d X (dual g.heights (suc k))) (sing d Y k) (comp d (bwd d Y k) (arrow_reg d g (suc k)))
  first_bwd k l missed =
      let n : ℕ = height d e k in
      let ln = height_within d Y Z e qe.valid k l in
      let le : k < length e.heights = let a = qe.valid.heights_len in omega arith in
      let low : dual e.heights n ≡ k = increasing-dual_same e.heights qe.increasing k le in
      let high : dual e.heights (suc n) ≡ suc k = increasing-dual_next e.heights qe.increasing k le in
      let d0 = composite-dual d X Y Z g e vg qe.valid n ∙ ap (dual g.heights) low in
      let d1 = composite-dual d X Y Z g e vg qe.valid (suc n) ∙ ap (dual g.heights) high in
      let side = bwd-composite d X Y Z g e vX vY vZ vg qe.valid n ln
      ∙ right_edge-leave d X Y Z g e vX vY vZ vg qe.valid n k ln (omega arith) (sym high) in
      let o : DegeneracyByShape d (reg d X (dual g.heights (suc k))) (sing d Z n) (comp d (bwd d Z n) (arrow_reg d c (suc n))) =
      subst (λ (m : ℕ). DegeneracyByShape d (reg d X m) (sing d Z n) (comp d (bwd d Z n) (arrow_reg d c (suc n)))) d1
      (qc.missed_bwds n ln (d0 ∙ missed ∙ sym d1)) in
      leave_shape k l (subst (λ (t : Arr d). DegeneracyByShape d (reg d X (dual g.heights (suc k))) (sing d Z n) t) side o)

  first_step : DegeneracyByShape (suc d) X Y g
  first_step = record {
    valid = vg;
    increasing = first_increasing;
    regs = first_reg;
    sings = first_sing;
    missed_fwds = first_fwd;
    missed_bwds = first_bwd;
  }

pub first_parts_have_shape : (d : ℕ) → FirstPartsHaveShape d
first_parts_have_shape zero = first_base
first_parts_have_shape (suc d) = first_step d (first_parts_have_shape d)
