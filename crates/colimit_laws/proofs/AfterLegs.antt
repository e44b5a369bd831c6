-- An arrow from the apex after a leg, and that it is determined by these composites.
use Rattle.std.proofs.Common.{◌≡◌, ℕ, zero, suc, ◌<◌, ◌≤◌, List, length, sym, ap, ◌∙◌, subst, arith}
use Rattle.diagram_terms.specs.declared.place.Height.{Height}
use Rattle.diagram_terms.specs.declared.place.Height.TheVariants as slice
use Rattle.diagram_terms.specs.Family.{Dia, Arr, reg, sing, bwd, height, arrow_reg, arrow_sing}
use Rattle.diagram_terms.specs.Dual.{dual}
use Rattle.diagram_terms.specs.Composite.{comp, ident}
use Rattle.diagram_terms.specs.Valid.{ValidArrow}
use Rattle.diagram_terms.proofs.Duals.{same_numbers}
use Rattle.diagram_terms.proofs.Parts.{comp-height, comp-reg, comp-sing, same_ends, same_arrows}
use Rattle.map_laws.proofs.Associativity.{associative}
use Rattle.map_laws.proofs.Neutral.{neutral_before}
use Rattle.map_laws.proofs.ValidParts.{dual_within}
use Rattle.diagram_terms.specs.Ranks.{Ranks, rank}
use Rattle.colimit_laws.specs.RankConditions.{AreRanks}
use Rattle.diagram_terms.specs.Shapes.{Shape, IsShape, heights_of, object}
use Rattle.diagram_terms.specs.Cocones.{Cocone, leg, IsPlainCocone}
use Rattle.diagram_terms.specs.ClassParts.{part}
use Rattle.diagram_terms.specs.Colimits.{cocone_at, part_leg, glued_apex, glued_leg, inner_biases}
use Rattle.colimit_laws.specs.Laws.{LegsAreEpi}
use Rattle.colimit_laws.proofs.Names.{IsInPart}
use Rattle.colimit_laws.proofs.Ranked.{rows-len, row-len, has_rank}
use Rattle.colimit_laws.proofs.Parts.{each_object, object-within}
use Rattle.colimit_laws.proofs.PartShapes.{left-in_part, sing-height}
use Rattle.colimit_laws.proofs.ClassEdges.{part_leg-valid, part_leg-bwd}
use Rattle.colimit_laws.proofs.GluedParts.{apex-sings_len, apex-sing, apex-reg, leg-heights, leg-height, leg-reg, leg-sings_len, leg-at}
use Rattle.colimit_laws.proofs.Gluing.{apex-valid}
use Rattle.colimit_laws.proofs.GluedLegs.{leg-sing_at}
use Rattle.colimit_laws.proofs.Cocones.{its_ranks, its_parts, colimits_are_plain_cocones}

module _ (d : ℕ) (S : Shape (suc d)) (vS : IsShape (suc d) S) (r : Ranks) (ar : AreRanks (heights_of d S) r) (parts : List (Cocone d))
    (good : (k : ℕ) → k < r.count → IsPlainCocone d (part d S r k) (cocone_at d parts k)) where
  abbrev A : Dia (suc d)
  A = glued_apex d S r parts

  abbrev leg_of : ℕ → Arr (suc d)
  leg_of x = glued_leg d S r parts x

  -- ---- the parts of v after the leg of x

  module _ (D : Dia (suc d)) (v : Arr (suc d)) (vv : ValidArrow (suc d) A D v) (x : ℕ) (lx : x < length S.objects) where
    pub after-height : (i : ℕ) → i < length (object (suc d) S x).sings → height d (comp (suc d) v (leg_of x)) i ≡ height d v (rank r x i)
    after-height i l =
        let n = row-len d S vS r ar x lx in
        let e = ap length (leg-heights d S r parts x) in
        comp-height d v (leg_of x) i (omega arith) ∙ ap (height d v) (leg-height d S r parts x i)

    pub after-reg : (j : ℕ) → j ≤ length D.sings → arrow_reg d (comp (suc d) v (leg_of x)) j ≡ arrow_reg d v j
    after-reg j l =
        let t : ℕ = dual v.heights j in
        let lt : t ≤ length A.sings = dual_within d A D v vv j in
        let n = apex-sings_len d S r parts in
        let rl = vv.regs_len in
        let vA = apex-valid d S vS r ar parts good in
        comp-reg d v (leg_of x) j (omega arith)
        ∙ ap (comp d (arrow_reg d v j)) (leg-reg d S r parts x t (omega arith) ∙ ap (ident d) (sym (apex-reg d S r parts t (omega arith))))
        ∙ neutral_before d (reg d A t) (reg d D j) (arrow_reg d v j) (vA.regs t lt) (vv.regs j l)

    pub after-sing : (i k : ℕ) → i < length (object (suc d) S x).sings → rank r x i ≡ k
        → arrow_sing d (comp (suc d) v (leg_of x)) i ≡ comp d (arrow_sing d v k) (part_leg d S r parts k x (slice.S i))
    after-sing i k l e =
        let n = row-len d S vS r ar x lx in
        let m = leg-sings_len d S r parts x in
        comp-sing d v (leg_of x) i (omega arith)
        ∙ ap (λ (n : ℕ). comp d (arrow_sing d v n) (arrow_sing d (leg_of x) i)) (leg-height d S r parts x i ∙ e)
        ∙ ap (comp d (arrow_sing d v k)) (leg-sing_at d S vS r ar parts good x lx i k l e)

  -- ---- the slices of an arrow out of the apex

  module _ (D : Dia (suc d)) (f : Arr (suc d)) (vf : ValidArrow (suc d) A D f) (k : ℕ) (l : k < r.count) where
    pub sing-valid : ValidArrow d (cocone_at d parts k).apex (sing d D (height d f k)) (arrow_sing d f k)
    sing-valid =
        let c = apex-sings_len d S r parts in
        subst (λ (X : Dia d). ValidArrow d X (sing d D (height d f k)) (arrow_sing d f k)) (apex-sing d S r parts k l) (vf.sings k (omega arith))

    -- the leg at a regular slice goes through the singular slice on its left
    pub through_left : (x t : ℕ) → IsInPart r k x (slice.R (suc t))
        → comp d (arrow_sing d f k) (part_leg d S r parts k x (slice.R (suc t)))
        ≡ comp d (comp d (arrow_sing d f k) (part_leg d S r parts k x (slice.S t))) (bwd d (object (suc d) S x) t)
    through_left x t p =
        let lx = object-within d S vS r ar k x (slice.R (suc t)) p in
        let q = left-in_part d S vS r ar k x t p in
        let lt = sing-height d S vS r ar k x t q in
        ap (comp d (arrow_sing d f k)) (sym (part_leg-bwd d S vS r ar parts k (good k l) x t p))
        ∙ associative d _ _ _ _ (bwd d (object (suc d) S x) t) (part_leg d S r parts k x (slice.S t)) (arrow_sing d f k)
        ((vS.valid x lx).bwds t lt) (part_leg-valid d S vS r ar parts k (good k l) x (slice.S t) q) sing-valid

  -- ---- two arrows that agree after all legs

  module _ (D : Dia (suc d)) (v w : Arr (suc d)) (vv : ValidArrow (suc d) A D v) (vw : ValidArrow (suc d) A D w)
      (same : (x : ℕ) → x < length S.objects → comp (suc d) v (leg_of x) ≡ comp (suc d) w (leg_of x)) where
    same-height : (k : ℕ) → k < r.count → height d v k ≡ height d w k
    same-height k l =
        let o = ar.onto k l in
        let n = rows-len d S vS r ar in
        let lo = o.within_objects in
        let lx : o.object < length S.objects = omega arith in
        let m = row-len d S vS r ar o.object lx in
        let li = o.within in
        let i : ℕ = o.height in
        let at : rank r o.object i ≡ k = o.ranked in
        let a = after-height D v vv o.object lx i (omega arith) in
        let b = after-height D w vw o.object lx i (omega arith) in
        let e = same o.object lx in
        cc

    same-heights : v.heights ≡ w.heights
    same-heights =
        let n = vv.heights_len in
        let m = vw.heights_len in
        let c = apex-sings_len d S r parts in
        same_numbers v.heights w.heights (omega arith) (λ k l. same-height k (omega arith))

    same-reg : (j : ℕ) → j ≤ length D.sings → arrow_reg d v j ≡ arrow_reg d w j
    same-reg j l =
        sym (after-reg D v vv 0 vS.nonempty j l) ∙ ap (λ (f : Arr (suc d)). arrow_reg d f j) (same 0 vS.nonempty) ∙ after-reg D w vw 0 vS.nonempty j l

    -- after the legs of the part of rank k
    module _ (k : ℕ) (l : k < r.count) where
      same-at_sing : (x i : ℕ) → IsInPart r k x (slice.S i)
          → comp d (arrow_sing d v k) (part_leg d S r parts k x (slice.S i)) ≡ comp d (arrow_sing d w k) (part_leg d S r parts k x (slice.S i))
      same-at_sing x i p =
          let lx = object-within d S vS r ar k x (slice.S i) p in
          let li = sing-height d S vS r ar k x i p in
          let h = p.height in
          let e = has_rank d S vS r ar x i k lx h.0 h.1 in
          sym (after-sing D v vv x lx i k li e) ∙ ap (λ (f : Arr (suc d)). arrow_sing d f i) (same x lx) ∙ after-sing D w vw x lx i k li e

      same-at : (x : ℕ) (h : Height) → IsInPart r k x h
          → comp d (arrow_sing d v k) (part_leg d S r parts k x h) ≡ comp d (arrow_sing d w k) (part_leg d S r parts k x h)
      same-at x (slice.S i) p = same-at_sing x i p
      same-at x (slice.R zero) p = absurd (let a = p.height.0 in omega arith)
      same-at x (slice.R (suc t)) p =
          through_left D v vv k l x t p
          ∙ ap (λ (f : Arr d). comp d f (bwd d (object (suc d) S x) t)) (same-at_sing x t (left-in_part d S vS r ar k x t p))
          ∙ sym (through_left D w vw k l x t p)

      same-legs : (j : ℕ) → j < length (part d S r k).objects
          → comp d (arrow_sing d v k) (leg d (cocone_at d parts k) j) ≡ comp d (arrow_sing d w k) (leg d (cocone_at d parts k) j)
      unfolding part_leg
      same-legs = each_object d S vS r ar k (λ j. comp d (arrow_sing d v k) (leg d (cocone_at d parts k) j) ≡ comp d (arrow_sing d w k) (leg d (cocone_at d parts k) j))
          same-at

    -- if the parts' legs determine arrows, so do these
    pub same-arrow : ((k : ℕ) (l : k < r.count) (E : Dia d) (f g : Arr d) → ValidArrow d (cocone_at d parts k).apex E f → ValidArrow d (cocone_at d parts k).apex E g
        → ((j : ℕ) → j < length (part d S r k).objects → comp d f (leg d (cocone_at d parts k) j) ≡ comp d g (leg d (cocone_at d parts k) j)) → f ≡ g)
        → v ≡ w
    same-arrow epi =
        let c = apex-sings_len d S r parts in
        let rv = vv.regs_len in
        let rg = vw.regs_len in
        let sv = vv.sings_len in
        let sw = vw.sings_len in
        same_arrows d v w same-heights (omega arith) (λ j l. same-reg j (omega arith)) (omega arith) (λ k l.
        let lk : k < r.count = omega arith in
        epi k lk (sing d D (height d v k)) (arrow_sing d v k) (arrow_sing d w k) (sing-valid D v vv k lk)
        (subst (λ (n : ℕ). ValidArrow d (cocone_at d parts k).apex (sing d D n) (arrow_sing d w k)) (sym (same-height k lk)) (sing-valid D w vw k lk))
        (same-legs k lk))

-- ---- the legs of a colimit determine arrows

epi_base : LegsAreEpi zero
epi_base S biases c D v w vS z vv vw same = same_ends v w (vv.from ∙ sym vw.from) (vv.to ∙ sym vw.to)

epi_step : (d : ℕ) → LegsAreEpi d → LegsAreEpi (suc d)
epi_step d ih S biases c D v w vS z vv vw same =
    let e = z.is_glued in
    let ar = its_ranks d S vS biases c z in
    let good = λ (k : ℕ) (l : k < z.ranks.count). colimits_are_plain_cocones d (part d S z.ranks k) (inner_biases biases) (cocone_at d z.parts k)
    (its_parts d S vS biases c z k l) (z.parts_are k l) in
    let at = λ (x : ℕ) (l : x < length S.objects). ap (λ (b : Cocone (suc d)). leg (suc d) b x) e ∙ leg-at d S z.ranks z.parts x l in
    let apex : c.apex ≡ glued_apex d S z.ranks z.parts = ap (λ (b : Cocone (suc d)). b.apex) e in
    same-arrow d S vS z.ranks ar z.parts good D v w
    (subst (λ (X : Dia (suc d)). ValidArrow (suc d) X D v) apex vv) (subst (λ (X : Dia (suc d)). ValidArrow (suc d) X D w) apex vw)
    (λ x l. ap (comp (suc d) v) (sym (at x l)) ∙ same x l ∙ ap (comp (suc d) w) (at x l))
    (λ k l E f g vf vg agree. ih (part d S z.ranks k) (inner_biases biases) (cocone_at d z.parts k) E f g (its_parts d S vS biases c z k l) (z.parts_are k l) vf vg agree)

pub legs_are_epi : (d : ℕ) → LegsAreEpi d
legs_are_epi zero = epi_base
legs_are_epi (suc d) = epi_step d (legs_are_epi d)
