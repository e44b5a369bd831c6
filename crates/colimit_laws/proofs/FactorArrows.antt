-- Where each rank is forced to come before the next, a cocone over a shape has a factor: its heights, its regular slices, and
-- the factors of its cocones over the parts.
use Rattle.std.proofs.Common.{◌≡◌, ℕ, suc, ◌-◌, ◌<◌, ◌≤◌, List, length, get_or, refl, sym, ap, ◌∙◌, arith}
use Rattle.diagram_terms.specs.declared.place.Height.TheVariants as slice
use Rattle.diagram_terms.specs.Family.{Dia, Arr, no_arr, reg, sing, fwd, bwd, height, arrow_reg, arrow_sing}
use Rattle.diagram_terms.specs.Dual.{dual, tab}
use Rattle.diagram_terms.specs.Composite.{comp}
use Rattle.diagram_terms.specs.Valid.{ValidArrow, Commutes}
use Rattle.diagram_terms.proofs.Duals.{length-tab, get-tab, same_numbers, in_fibre, fibre_low, fibre_high, dual-le-length}
use Rattle.diagram_terms.proofs.MonotoneParts.{dual_at_step}
use Rattle.diagram_terms.proofs.Parts.{comp-heights_len, comp-regs_len, comp-sings_len, same_arrows}
use Rattle.map_laws.proofs.Associativity.{associative}
use Rattle.diagram_terms.specs.Ranks.{Ranks, ranks_of, rank}
use Rattle.colimit_laws.specs.RankConditions.{AreRanks, AreSettled}
use Rattle.diagram_terms.specs.Shapes.{Shape, IsShape, heights_of, object}
use Rattle.diagram_terms.specs.Cocones.{Cocone, leg, IsCocone, IsPlainCocone, IsFactor}
use Rattle.diagram_terms.specs.ClassParts.{place, part}
use Rattle.diagram_terms.specs.Colimits.{cocone_at, part_leg, glued_apex, glued_leg}
use Rattle.diagram_terms.proofs.Squares.{first_at, last_at, commutes_by}
use Rattle.colimit_laws.proofs.Names.{IsInPart}
use Rattle.colimit_laws.proofs.Ranked.{rows-len, row-len, row-mono, row-dual_mono, rank-below}
use Rattle.colimit_laws.proofs.Parts.{object-at_place, object-within, sing-in_part}
use Rattle.colimit_laws.proofs.PartShapes.{sing-height, member-in_part}
use Rattle.colimit_laws.proofs.ClassEdges.{part_leg-valid, enter, leave}
use Rattle.colimit_laws.proofs.Choices.{HasMember, first-member, last-member}
use Rattle.colimit_laws.proofs.GluedParts.{apex-sings_len, apex-reg, apex-sing, apex_reg-is, leg-heights, leg-sings_len}
use Rattle.colimit_laws.proofs.Gluing.{apex-fwd_from, apex-bwd_from}
use Rattle.colimit_laws.proofs.GluedLegs.{in_own_part}
use Rattle.colimit_laws.proofs.AfterLegs.{after-height, after-reg, after-sing}
use Rattle.colimit_laws.proofs.CoconeHeights.{one_reg, goes_to, goes_to-rank, factor_heights, factor-height, factor-mono, factor-below, factor-dual}
use Rattle.colimit_laws.proofs.CoconeParts.{part_cocone, part-leg_sing}

module _ (d : ℕ) (S : Shape (suc d)) (vS : IsShape (suc d) S) (r : Ranks) (ar : AreRanks (heights_of d S) r) (parts : List (Cocone d))
    (good : (k : ℕ) → k < r.count → IsPlainCocone d (part d S r k) (cocone_at d parts k)) (settled : AreSettled r)
    (u : Cocone (suc d)) (cu : IsCocone (suc d) S u) (vs : List (Arr d)) (vs_len : length vs ≡ r.count)
    (factors : (k : ℕ) → k < r.count → IsFactor d (part d S r k) (cocone_at d parts k) (part_cocone d S vS r ar u cu k) (get_or vs k (no_arr d))) where
  abbrev A : Dia (suc d)
  A = glued_apex d S r parts

  abbrev D : Dia (suc d)
  D = u.apex

  abbrev leg_of : ℕ → Arr (suc d)
  leg_of x = glued_leg d S r parts x

  abbrev given_leg : ℕ → Arr (suc d)
  given_leg x = leg (suc d) u x

  abbrev part_factor : ℕ → Arr d
  part_factor k = get_or vs k (no_arr d)

  abbrev goes : ℕ → ℕ
  goes k = goes_to d S vS r ar u cu k

  abbrev hs : List ℕ
  hs = factor_heights d S vS r ar u cu

  -- the factor
  abbrev pub factor : Arr (suc d)
  factor = record { heights = hs; regs = tab (λ j. arrow_reg d (given_leg 0) j) (suc (length D.sings)); sings = vs }

  factor-reg : (x j : ℕ) → x < length S.objects → j ≤ length D.sings → arrow_reg d factor j ≡ arrow_reg d (given_leg x) j
  factor-reg x j lx l = get-tab (λ j. arrow_reg d (given_leg 0) j) (suc (length D.sings)) j (no_arr d) (omega arith) ∙ sym (one_reg d S vS r ar u cu x j lx l)

  -- ---- what the factors of the parts give

  sing-gives : (k : ℕ) → k < r.count → (x i : ℕ) → IsInPart r k x (slice.S i) → comp d (part_factor k) (part_leg d S r parts k x (slice.S i)) ≡ arrow_sing d (given_leg x) i
  unfolding part_leg
  sing-gives k l x i p = (factors k l).gives (place r k x (slice.S i)) (object-at_place d S vS r ar k x (slice.S i) p).0
      ∙ part-leg_sing d S vS r ar u cu k x i p

  enter-gives : (k : ℕ) (l : k < r.count) (x i : ℕ) → IsInPart r k x (slice.S i)
      → comp d (part_factor k) (enter d S vS r ar parts k (good k l) x i) ≡ comp d (arrow_sing d (given_leg x) i) (fwd d (object (suc d) S x) i)
  unfolding enter
  enter-gives k l x i p =
      let lx = object-within d S vS r ar k x (slice.S i) p in
      associative d _ _ _ _ (fwd d (object (suc d) S x) i) (part_leg d S r parts k x (slice.S i)) (part_factor k)
      ((vS.valid x lx).fwds i (sing-height d S vS r ar k x i p)) (part_leg-valid d S vS r ar parts k (good k l) x (slice.S i) p) (factors k l).valid
      ∙ ap (λ (f : Arr d). comp d f (fwd d (object (suc d) S x) i)) (sing-gives k l x i p)

  leave-gives : (k : ℕ) (l : k < r.count) (x i : ℕ) → IsInPart r k x (slice.S i)
      → comp d (part_factor k) (leave d S vS r ar parts k (good k l) x i) ≡ comp d (arrow_sing d (given_leg x) i) (bwd d (object (suc d) S x) i)
  unfolding leave
  leave-gives k l x i p =
      let lx = object-within d S vS r ar k x (slice.S i) p in
      associative d _ _ _ _ (bwd d (object (suc d) S x) i) (part_leg d S r parts k x (slice.S i)) (part_factor k)
      ((vS.valid x lx).bwds i (sing-height d S vS r ar k x i p)) (part_leg-valid d S vS r ar parts k (good k l) x (slice.S i) p) (factors k l).valid
      ∙ ap (λ (f : Arr d). comp d f (bwd d (object (suc d) S x) i)) (sing-gives k l x i p)

  -- an object with a member of rank k
  with_member : (k : ℕ) → k < r.count → (x : ℕ) × (x < length S.objects) × HasMember r k x
  with_member k l =
      let o = member-in_part d S vS r ar k l in
      let h = o.3.height in
      let low = h.0 in let high = h.1 in
      (o.0, o.2, omega arith)

  -- ---- valid

  valid-reg : (j : ℕ) → j ≤ length D.sings → ValidArrow d (reg d A (dual hs j)) (reg d D j) (arrow_reg d factor j)
  valid-reg j l =
      let n = length-tab goes r.count in
      let t : ℕ = dual hs j in
      let lt = dual-le-length hs j in
      let e : reg d (object (suc d) S 0) (dual (given_leg 0).heights j) ≡ reg d A t =
      ap (reg d (object (suc d) S 0)) (factor-dual d S vS r ar u cu settled 0 j vS.nonempty)
      ∙ sym (apex-reg d S r parts t (omega arith) ∙ apex_reg-is d S r parts t) in
      rw (← e, factor-reg 0 j vS.nonempty l) ((cu.legs 0 vS.nonempty).regs j l)

  valid-sing : (k : ℕ) → k < length A.sings → ValidArrow d (sing d A k) (sing d D (height d factor k)) (arrow_sing d factor k)
  valid-sing k l =
      let n = apex-sings_len d S r parts in
      let lk : k < r.count = omega arith in
      rw (apex-sing d S r parts k lk, factor-height d S vS r ar u cu k lk) (factors k lk).valid

  square : (l : ℕ) → l < length D.sings → Commutes d A D factor l
  square l ll =
      let mono = factor-mono d S vS r ar u cu settled in
      let n = length-tab goes r.count in
      let full = dual-le-length hs (suc l) in
      commutes_by d A D factor l
      (λ e.
      ap (comp d (fwd d D l)) (factor-reg 0 l vS.nonempty (omega arith))
      ∙ ((cu.legs 0 vS.nonempty).squares l ll).empty (factor-dual d S vS r ar u cu settled 0 l vS.nonempty ∙ ap (dual (ranks_of r 0)) e
      ∙ sym (factor-dual d S vS r ar u cu settled 0 (suc l) vS.nonempty))
      ∙ ap (comp d (bwd d D l)) (sym (factor-reg 0 (suc l) vS.nonempty ll)))
      (λ t e m.
      let lt : t < r.count = omega arith in
      let o = with_member t lt in
      let x : ℕ = o.0 in
      let h = o.2 in
      let a : ℕ = dual (ranks_of r x) t in
      let low : dual (given_leg x).heights l ≡ a = factor-dual d S vS r ar u cu settled x l o.1 ∙ ap (dual (ranks_of r x)) e in
      let high = factor-dual d S vS r ar u cu settled x (suc l) o.1 in
      let up = row-dual_mono d S vS r ar x (suc t) (dual hs (suc l)) o.1 m in
      ap (comp d (fwd d D l)) (factor-reg x l o.1 (omega arith)) ∙ first_at ((cu.legs x o.1).squares l ll) a low (omega arith)
      ∙ sym (ap (comp d (part_factor t)) (apex-fwd_from d S vS r ar parts good t lt x o.1 h)
      ∙ enter-gives t lt x a (first-member d S vS r ar parts t (good t lt) x o.1 h)))
      (λ t m e.
      let lt : t < r.count = omega arith in
      let o = with_member t lt in
      let x : ℕ = o.0 in
      let h = o.2 in
      let b : ℕ = dual (ranks_of r x) (suc t) - 1 in
      let low = factor-dual d S vS r ar u cu settled x l o.1 in
      let down = row-dual_mono d S vS r ar x (dual hs l) t o.1 m in
      let high : dual (given_leg x).heights (suc l) ≡ dual (ranks_of r x) (suc t) =
      factor-dual d S vS r ar u cu settled x (suc l) o.1 ∙ ap (dual (ranks_of r x)) (sym e) in
      ap (comp d (bwd d D l)) (factor-reg x (suc l) o.1 ll) ∙ last_at ((cu.legs x o.1).squares l ll) b (omega arith) (omega arith)
      ∙ sym (ap (comp d (part_factor t)) (apex-bwd_from d S vS r ar parts good t lt x o.1 h)
      ∙ leave-gives t lt x b (last-member d S vS r ar parts t (good t lt) x o.1 h)))
      (λ t m e.
      let lt : t < r.count = omega arith in
      let ln : suc t < r.count = omega arith in
      let here = in_fibre hs mono t l m (omega arith) in
      let next = in_fibre hs mono (suc t) l (omega arith) e in
      inner_square l ll t lt ln (sym (factor-height d S vS r ar u cu t lt) ∙ here) (sym (factor-height d S vS r ar u cu (suc t) ln) ∙ next))
    where
      -- two ranks that follow one another and go to l stand at heights of an object that do
      inner_square : (l : ℕ) → l < length D.sings → (t : ℕ) → t < r.count → suc t < r.count → goes t ≡ l → goes (suc t) ≡ l
          → comp d (part_factor t) (bwd d A t) ≡ comp d (part_factor (suc t)) (fwd d A (suc t))
      inner_square l ll t lt ln here next =
          let s = settled t ln in
          let x : ℕ = s.object in
          let i : ℕ = s.height in
          let lo = s.within_objects in
          let n = rows-len d S vS r ar in
          let lx : x < length S.objects = omega arith in
          let m = row-len d S vS r ar x lx in
          let w = s.within in
          let low : rank r x i ≡ t = s.low in
          let high : rank r x (suc i) ≡ suc t = s.high in
          let mo = row-mono d S vS r ar x lx in
          let at : dual (ranks_of r x) (suc t) ≡ suc i = ap (dual (ranks_of r x)) (sym high) ∙ dual_at_step (ranks_of r x) mo i w (omega arith) in
          let low_i = fibre_low (ranks_of r x) mo i t low in
          let high_i = fibre_high (ranks_of r x) mo (suc i) (suc t) w high in
          let p = sing-in_part d S vS r ar t x i lx low_i (omega arith) in
          let q = sing-in_part d S vS r ar (suc t) x (suc i) lx (omega arith) high_i in
          let last : dual (ranks_of r x) (suc t) - 1 ≡ i = omega arith in
          let v = cu.legs x lx in
          let hl = v.heights_len in
          let g1 = goes_to-rank d S vS r ar u cu x i lx (omega arith) ∙ ap goes low ∙ here in
          let g2 = goes_to-rank d S vS r ar u cu x (suc i) lx (omega arith) ∙ ap goes high ∙ next in
          ap (comp d (part_factor t)) (apex-bwd_from d S vS r ar parts good t lt x lx (omega arith) ∙ ap (leave d S vS r ar parts t (good t lt) x) last)
          ∙ leave-gives t lt x i p
          ∙ (v.squares l ll).inner i (fibre_low (given_leg x).heights v.monotone i l g1) (fibre_high (given_leg x).heights v.monotone (suc i) l (omega arith) g2)
          ∙ sym (ap (comp d (part_factor (suc t))) (apex-fwd_from d S vS r ar parts good (suc t) ln x lx (omega arith) ∙ ap (enter d S vS r ar parts (suc t) (good (suc t) ln) x) at)
          ∙ enter-gives (suc t) ln x (suc i) q)

  pub factor-valid : ValidArrow (suc d) A D factor
  factor-valid =
      let n = length-tab goes r.count in
      let sl = apex-sings_len d S r parts in
      record {
        heights_len = omega arith;
        regs_len = length-tab (λ j. arrow_reg d (given_leg 0) j) (suc (length D.sings));
        sings_len = omega arith;
        monotone = factor-mono d S vS r ar u cu settled;
        below = factor-below d S vS r ar u cu;
        regs = valid-reg;
        sings = valid-sing;
        squares = square;
      }

  -- ---- after the legs

  pub factor-gives : (x : ℕ) → x < length S.objects → comp (suc d) factor (leg_of x) ≡ given_leg x
  factor-gives x lx =
      let v = cu.legs x lx in
      let n = row-len d S vS r ar x lx in
      let h1 = comp-heights_len d factor (leg_of x) in
      let h2 = ap length (leg-heights d S r parts x) in
      let h3 = v.heights_len in
      let r1 = comp-regs_len d factor (leg_of x) in
      let r2 = length-tab (λ j. arrow_reg d (given_leg 0) j) (suc (length D.sings)) in
      let r3 = v.regs_len in
      let s1 = comp-sings_len d factor (leg_of x) in
      let s2 = leg-sings_len d S r parts x in
      let s3 = v.sings_len in
      same_arrows d (comp (suc d) factor (leg_of x)) (given_leg x)
      (same_numbers (comp (suc d) factor (leg_of x)).heights (given_leg x).heights (omega arith) (λ i l.
      let li : i < length (object (suc d) S x).sings = omega arith in
      after-height d S vS r ar parts good D factor factor-valid x lx i li
      ∙ factor-height d S vS r ar u cu (rank r x i) (rank-below d S vS r ar x i lx li) ∙ sym (goes_to-rank d S vS r ar u cu x i lx li)))
      (omega arith) (λ j l. after-reg d S vS r ar parts good D factor factor-valid x lx j (omega arith) ∙ factor-reg x j lx (omega arith))
      (omega arith) (λ i l.
      let li : i < length (object (suc d) S x).sings = omega arith in
      after-sing d S vS r ar parts good D factor factor-valid x lx i (rank r x i) li refl
      ∙ sing-gives (rank r x i) (rank-below d S vS r ar x i lx li) x i (in_own_part d S vS r ar parts good x lx i li))
