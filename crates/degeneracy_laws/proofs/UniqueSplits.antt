-- A simple arrow and a parallel one after it are determined by their composite.
use Rattle.std.proofs.Common.{◌≡◌, ℕ, suc, ◌<◌, ◌≤◌, List, length, get_or, sym, ap, ◌∙◌, subst, arith, inl, inr}
use Rattle.diagram_terms.specs.Family.{Dia, Arr, reg, sing, fwd, bwd, height, arrow_reg, arrow_sing}
use Rattle.diagram_terms.specs.Dual.{IsIncreasing, upto, dual, after}
use Rattle.diagram_terms.specs.Composite.{comp, ident}
use Rattle.diagram_terms.specs.Valid.{ValidArrow, Valid}
use Rattle.diagram_terms.specs.Degeneracy.{Degeneracy, SplitsInto}
use Rattle.diagram_terms.proofs.Duals.{upto-after}
use Rattle.diagram_terms.proofs.Parts.{comp-heights, comp-reg, comp-sing, same_arrows, same_diagrams}
use Rattle.diagram_terms.proofs.Squares.{first_at, last_at}
use Rattle.map_laws.proofs.ValidParts.{dual_within, height_within}
use Rattle.map_laws.proofs.ValidComposites.{composites_are_valid}
use Rattle.map_laws.proofs.Neutral.{neutral_after, neutral_before}
use Rattle.map_laws.proofs.IdentityShapes.{shape_means_identity}
use Rattle.degeneracy_laws.specs.Laws.{DegeneraciesSplitOnce}
use Rattle.degeneracy_laws.proofs.Shapes.{parallel-dual, parallel-height}
use Rattle.degeneracy_laws.proofs.SplitParts.{middle, simple_part, parallel_part, middle-regs_len, middle-sings_len, middle-fwds_len, middle-bwds_len, middle-reg, simple_part-heights, simple_part-regs_len, simple_part-sings_len, simple_part-reg, simple_part-sing, parallel_part-heights, parallel_part-regs, parallel_part-reg, parallel_part-sings_len, hit_or_missed}

module _ (d : ℕ) (X Y : Dia (suc d)) (f : Arr (suc d)) (M : Dia (suc d)) (s p : Arr (suc d))
    (vX : Valid (suc d) X) (vY : Valid (suc d) Y) (q : SplitsInto d X Y f M s p) where
  composite_valid : ValidArrow (suc d) X Y f
  composite_valid = subst (ValidArrow (suc d) X Y) q.composite
      (composites_are_valid (suc d) X M Y s p vX q.middle vY q.simple.valid q.parallel.valid)

  composite_is-heights : f.heights ≡ s.heights
  composite_is-heights = ap (λ (t : Arr (suc d)). t.heights) (sym q.composite) ∙ comp-heights d p s
      ∙ ap (λ (h : List ℕ). after h s.heights) q.parallel.heights ∙ upto-after (length M.sings) s.heights q.simple.valid.below

  composite_increasing : IsIncreasing f.heights
  composite_increasing = subst IsIncreasing (sym composite_is-heights) q.simple.increasing

  composite_is-dual : (k : ℕ) → dual f.heights k ≡ dual s.heights k
  composite_is-dual k = ap (λ (h : List ℕ). dual h k) composite_is-heights

  -- ---- the slices of M and s are those of X and their identities

  at_reg : (j : ℕ) → j ≤ length M.sings
      → (reg d X (dual f.heights j) ≡ reg d M j) × (arrow_reg d s j ≡ ident d (reg d X (dual f.heights j)))
  at_reg j l =
      let v : ValidArrow d (reg d X (dual f.heights j)) (reg d M j) (arrow_reg d s j) =
      subst (λ (n : ℕ). ValidArrow d (reg d X n) (reg d M j) (arrow_reg d s j)) (sym (composite_is-dual j)) (q.simple.valid.regs j l) in
      shape_means_identity d _ _ (arrow_reg d s j) (vX.regs _ (dual_within d X Y f composite_valid j)) (q.middle.regs j l) v (q.simple.regs j l)

  at_sing : (i : ℕ) → i < length X.sings → (sing d X i ≡ sing d M (height d s i)) × (arrow_sing d s i ≡ ident d (sing d X i))
  at_sing i l = shape_means_identity d _ _ (arrow_sing d s i) (vX.sings i l)
      (q.middle.sings _ (height_within d X M s q.simple.valid i l)) (q.simple.valid.sings i l) (q.simple.sings i l)

  -- ---- the regular slices of p are those of f

  part_reg : (k : ℕ) → k ≤ length Y.sings → arrow_reg d f k ≡ arrow_reg d p k
  part_reg k l =
      let same = q.parallel.one_length in
      let lm : k ≤ length M.sings = omega arith in
      let a0 = ap (λ (t : Arr (suc d)). arrow_reg d t k) (sym q.composite) in
      let a1 = comp-reg d p s k (let a = q.parallel.valid.regs_len in omega arith) in
      let a2 = parallel-dual d (Degeneracy d) M Y p q.parallel k lm in
      let a3 = at_reg k lm in
      let b0 = a3.0 in
      let b1 = a3.1 in
      let v : ValidArrow d (reg d M k) (reg d Y k) (arrow_reg d p k) =
      subst (λ (n : ℕ). ValidArrow d (reg d M n) (reg d Y k) (arrow_reg d p k)) a2 (q.parallel.valid.regs k l) in
      let a4 = neutral_before d _ _ (arrow_reg d p k) (q.middle.regs k lm) v in
      cc

  -- ---- what M and p have at a height k of Y

  record At (k : ℕ) : Type 0 where
    sing_is : sing d M k ≡ sing d (middle d X Y f) k
    fwd_is : fwd d M k ≡ fwd d (middle d X Y f) k
    bwd_is : bwd d M k ≡ bwd d (middle d X Y f) k
    part_is : arrow_sing d p k ≡ arrow_sing d (parallel_part d X Y f) k

  at_height : (k : ℕ) → k < length Y.sings → At k
  at_height k l =
      let same = q.parallel.one_length in
      let lm : k < length M.sings = omega arith in
      let r0 = at_reg k (omega arith) in
      let r1 = at_reg (suc k) lm in
      let r00 = r0.0 in
      let r01 = r0.1 in
      let r10 = r1.0 in
      let r11 = r1.1 in
      let d0 = composite_is-dual k in
      let d1 = composite_is-dual (suc k) in
      let vp : ValidArrow d (sing d M k) (sing d Y k) (arrow_sing d p k) =
      subst (λ (n : ℕ). ValidArrow d (sing d M k) (sing d Y n) (arrow_sing d p k))
      (parallel-height d (Degeneracy d) M Y p q.parallel k lm) (q.parallel.valid.sings k lm) in
      let up = neutral_before d _ _ (arrow_sing d p k) (q.middle.sings k lm) vp in
      let uf = neutral_before d _ _ (fwd d M k) (q.middle.regs k (omega arith)) (q.middle.fwds k lm) in
      let ub = neutral_before d _ _ (bwd d M k) (q.middle.regs (suc k) lm) (q.middle.bwds k lm) in
      elim (hit_or_missed d X Y f composite_valid composite_increasing k l) [
        | inl h ↦ (
            let c : ℕ = dual f.heights k in
            let w = h.within in
            let nx = h.next in
            let at : height d s c ≡ k = ap (λ (hs : List ℕ). get_or hs c 0) (sym composite_is-heights) ∙ h.goes in
            let s0 = at_sing c w in
            let s00 : sing d X c ≡ sing d M k = s0.0 ∙ ap (sing d M) at in
            let s01 = s0.1 in
            let e1 = first_at (q.simple.valid.squares k lm) c (sym d0) (omega arith) in
            let e2 = last_at (q.simple.valid.squares k lm) c (omega arith) (omega arith) in
            let u1 = neutral_after d _ _ (fwd d X c) (vX.sings c w) (vX.fwds c w) in
            let u2 = neutral_after d _ _ (bwd d X c) (vX.sings c w) (vX.bwds c w) in
            let e3 : arrow_sing d f c ≡ comp d (arrow_sing d p k) (arrow_sing d s c) =
            ap (λ (t : Arr (suc d)). arrow_sing d t c) (sym q.composite)
            ∙ comp-sing d p s c (let a = q.simple.valid.sings_len in omega arith)
            ∙ ap (λ (n : ℕ). comp d (arrow_sing d p n) (arrow_sing d s c)) at in
            let m1 = h.sing_is in
            let m2 = h.fwd_is in
            let m3 = h.bwd_is in
            let m4 = h.part_is in
            record { sing_is = cc; fwd_is = cc; bwd_is = cc; part_is = cc })
        | inr m ↦ (
            let nx = m.missed in
            let jf = shape_means_identity d _ _ (fwd d M k) (q.middle.regs k (omega arith)) (q.middle.sings k lm)
            (q.middle.fwds k lm) (q.simple.missed_fwds k lm (omega arith)) in
            let jb = shape_means_identity d _ _ (bwd d M k) (q.middle.regs (suc k) lm) (q.middle.sings k lm)
            (q.middle.bwds k lm) (q.simple.missed_bwds k lm (omega arith)) in
            let f0 = jf.0 in
            let f1 = jf.1 in
            let b0 = jb.0 in
            let b1 = jb.1 in
            let x1 = ap (reg d X) nx in
            let q0 = parallel-dual d (Degeneracy d) M Y p q.parallel k (omega arith) in
            let q1 = parallel-dual d (Degeneracy d) M Y p q.parallel (suc k) lm in
            let e1 = first_at (q.parallel.valid.squares k l) k q0 (omega arith) in
            let fr = part_reg k (omega arith) in
            let m1 = m.sing_is in
            let m2 = m.fwd_is in
            let m3 = m.bwd_is in
            let m4 = m.part_is in
            record { sing_is = cc; fwd_is = cc; bwd_is = cc; part_is = cc })
      ]

  -- ---- so they are the parts of f

  middle_is : M ≡ middle d X Y f
  middle_is =
      let same = q.parallel.one_length in
      let a1 = q.middle.regs_len in
      let a2 = q.middle.fwds_len in
      let a3 = q.middle.bwds_len in
      let m1 = middle-regs_len d X Y f in
      let m2 = middle-sings_len d X Y f in
      let m3 = middle-fwds_len d X Y f in
      let m4 = middle-bwds_len d X Y f in
      same_diagrams d M (middle d X Y f)
      (omega arith) (λ j l. sym ((at_reg j (omega arith)).0) ∙ sym (middle-reg d X Y f j (omega arith)))
      (omega arith) (λ k l. (at_height k (omega arith)).sing_is)
      (omega arith) (λ k l. (at_height k (omega arith)).fwd_is)
      (omega arith) (λ k l. (at_height k (omega arith)).bwd_is)

  simple_is : s ≡ simple_part d X Y f
  simple_is =
      let same = q.parallel.one_length in
      let a1 = q.simple.valid.regs_len in
      let a2 = q.simple.valid.sings_len in
      let m1 = simple_part-regs_len d X Y f in
      let m2 = simple_part-sings_len d X Y f in
      same_arrows d s (simple_part d X Y f) (sym composite_is-heights ∙ sym (simple_part-heights d X Y f))
      (omega arith) (λ j l. (at_reg j (omega arith)).1 ∙ sym (simple_part-reg d X Y f j (omega arith)))
      (omega arith) (λ i l. (at_sing i (omega arith)).1 ∙ sym (simple_part-sing d X Y f i (omega arith)))

  parallel_is : p ≡ parallel_part d X Y f
  parallel_is =
      let same = q.parallel.one_length in
      let a1 = q.parallel.valid.regs_len in
      let a2 = q.parallel.valid.sings_len in
      let m1 = composite_valid.regs_len in
      let m2 = parallel_part-sings_len d X Y f in
      let m3 = ap length (parallel_part-regs d X Y f) in
      same_arrows d p (parallel_part d X Y f) (q.parallel.heights ∙ ap upto same ∙ sym (parallel_part-heights d X Y f))
      (omega arith) (λ j l. sym (part_reg j (omega arith)) ∙ sym (parallel_part-reg d X Y f j))
      (omega arith) (λ k l. (at_height k (omega arith)).part_is)

pub degeneracies_split_once : (d : ℕ) → DegeneraciesSplitOnce d
degeneracies_split_once d X Y M N e s p t q vX vY a b = (
  middle_is d X Y e M s p vX vY a ∙ sym (middle_is d X Y e N t q vX vY b),
  simple_is d X Y e M s p vX vY a ∙ sym (simple_is d X Y e N t q vX vY b),
  parallel_is d X Y e M s p vX vY a ∙ sym (parallel_is d X Y e N t q vX vY b),
)
