-- A factor of a plain cocone is plain.
use Rattle.std.proofs.Common.{◌≡◌, ℕ, zero, suc, ◌<◌, ◌≤◌, List, length, map, sym, ap, ◌∙◌, subst, arith}
use Rattle.std.proofs.lemmas.List.{get_or-map, length-map}
use Rattle.diagram_terms.specs.declared.place.Height.{Height}
use Rattle.diagram_terms.specs.declared.place.Height.TheVariants as slice
use Rattle.diagram_terms.specs.Family.{Dia, Arr, no_arr, sing, bwd, height, arrow_reg, arrow_sing}
use Rattle.diagram_terms.specs.Composite.{comp}
use Rattle.diagram_terms.specs.Identity.{IsIdentity}
use Rattle.diagram_terms.specs.Plain.{PlainArrow}
use Rattle.diagram_terms.specs.Valid.{ValidArrow}
use Rattle.map_laws.proofs.Associativity.{associative}
use Rattle.map_laws.proofs.ValidComposites.{composites_are_valid}
use Rattle.map_laws.proofs.PlainArrows.{plain_arrows_compose}
use Rattle.map_laws.proofs.ValidParts.{height_within}
use Rattle.diagram_terms.specs.Ranks.{Ranks}
use Rattle.colimit_laws.specs.RankConditions.{AreRanks}
use Rattle.diagram_terms.specs.Shapes.{Shape, IsShape, heights_of, object}
use Rattle.diagram_terms.specs.Cocones.{Cocone, leg, IsCocone, IsPlainCocone, IsFactor}
use Rattle.diagram_terms.specs.ClassParts.{part}
use Rattle.diagram_terms.specs.Colimits.{cocone_at, part_leg, glued_apex, glued_leg, inner_biases}
use Rattle.colimit_laws.specs.Laws.{PlainCoconesHavePlainFactors}
use Rattle.colimit_laws.proofs.Names.{IsInPart}
use Rattle.colimit_laws.proofs.Ranked.{has_rank}
use Rattle.colimit_laws.proofs.Parts.{each_object, object-within}
use Rattle.colimit_laws.proofs.PartShapes.{left-in_part, sing-height, part-shape}
use Rattle.colimit_laws.proofs.ClassEdges.{part_leg-valid}
use Rattle.colimit_laws.proofs.GluedParts.{apex-sings_len, leg-at}
use Rattle.colimit_laws.proofs.Cocones.{its_ranks, its_parts, colimits_are_plain_cocones}
use Rattle.colimit_laws.proofs.AfterLegs.{after-reg, after-sing, sing-valid, through_left}

module _ (d : ℕ) (S : Shape (suc d)) (vS : IsShape (suc d) S) (r : Ranks) (ar : AreRanks (heights_of d S) r) (parts : List (Cocone d))
    (good : (k : ℕ) → k < r.count → IsPlainCocone d (part d S r k) (cocone_at d parts k))
    (u : Cocone (suc d)) (pu : IsPlainCocone (suc d) S u) (v : Arr (suc d)) (vv : ValidArrow (suc d) (glued_apex d S r parts) u.apex v)
    (gives : (x : ℕ) → x < length S.objects → comp (suc d) v (glued_leg d S r parts x) ≡ leg (suc d) u x) where
  abbrev D : Dia (suc d)
  D = u.apex

  reg-plain : (j : ℕ) → j ≤ length D.sings → IsIdentity d (arrow_reg d v j)
  reg-plain j l =
      let n = (pu.cocone.legs 0 vS.nonempty).regs_len in
      subst (IsIdentity d) (sym (ap (λ (f : Arr (suc d)). arrow_reg d f j) (gives 0 vS.nonempty)) ∙ after-reg d S vS r ar parts good D v vv 0 vS.nonempty j l)
      ((pu.plain_legs 0 vS.nonempty).regs j (omega arith))

  -- ---- the cocone over a part that the slice of v makes

  module _ (k : ℕ) (l : k < r.count) where
    abbrev f : Arr d
    f = arrow_sing d v k

    abbrev P : Shape d
    P = part d S r k

    abbrev c : Cocone d
    c = cocone_at d parts k

    abbrev made : Cocone d
    made = record { apex = sing d D (height d v k); legs = map (λ g. comp d f g) c.legs }

    k-height : height d v k < length D.sings
    k-height = let n = apex-sings_len d S r parts in height_within d _ _ v vv k (omega arith)

    made-leg : (j : ℕ) → j < length P.objects → leg d made j ≡ comp d f (leg d c j)
    made-leg j lj = get_or-map (λ g. comp d f g) c.legs j (no_arr d) (no_arr d) (let n = (good k l).cocone.legs_len in omega arith)

    vf : ValidArrow d c.apex made.apex f
    vf = sing-valid d S vS r ar parts good D v vv k l

    made-cocone : IsCocone d P made
    made-cocone =
        let g = (good k l).cocone in
        let vP = part-shape d S vS r ar k l in
        let vD = pu.cocone.apex.sings (height d v k) k-height in
        record {
          legs_len = length-map c.legs _ ∙ g.legs_len;
          apex = vD;
          legs = λ j lj. rw (made-leg j lj) (composites_are_valid d _ _ _ (leg d c j) f (vP.valid j lj) g.apex vD (g.legs j lj) vf);
          agree = λ b m.
              let a = vP.arrows b m in
              ap (λ (h : Arr d). comp d h b.arrow) (made-leg b.to a.to_within)
              ∙ sym (associative d _ _ _ _ b.arrow (leg d c b.to) f a.valid (g.legs b.to a.to_within) vf)
              ∙ ap (comp d f) (g.agree b m) ∙ sym (made-leg b.from a.from_within);
        }

    plain-at_sing : (x i : ℕ) → IsInPart r k x (slice.S i) → PlainArrow d (comp d f (part_leg d S r parts k x (slice.S i)))
    plain-at_sing x i p =
        let lx = object-within d S vS r ar k x (slice.S i) p in
        let li = sing-height d S vS r ar k x i p in
        let h = p.height in
        let n = (pu.cocone.legs x lx).sings_len in
        subst (PlainArrow d) (sym (ap (λ (g : Arr (suc d)). arrow_sing d g i) (gives x lx))
        ∙ after-sing d S vS r ar parts good D v vv x lx i k li (has_rank d S vS r ar x i k lx h.0 h.1))
        ((pu.plain_legs x lx).sings i (omega arith))

    plain-at : (x : ℕ) (h : Height) → IsInPart r k x h → PlainArrow d (comp d f (part_leg d S r parts k x h))
    plain-at x (slice.S i) p = plain-at_sing x i p
    plain-at x (slice.R zero) p = absurd (let a = p.height.0 in omega arith)
    plain-at x (slice.R (suc t)) p =
        let lx = object-within d S vS r ar k x (slice.R (suc t)) p in
        let q = left-in_part d S vS r ar k x t p in
        let lt = sing-height d S vS r ar k x t q in
        let vX = vS.valid x lx in
        let vl = part_leg-valid d S vS r ar parts k (good k l) x (slice.S t) q in
        rw (through_left d S vS r ar parts good D v vv k l x t p)
        (plain_arrows_compose d _ _ _ (bwd d (object (suc d) S x) t) (comp d f (part_leg d S r parts k x (slice.S t))) (vX.bwds t lt)
        (composites_are_valid d _ _ _ (part_leg d S r parts k x (slice.S t)) f (vX.sings t lt) (good k l).cocone.apex
        (pu.cocone.apex.sings (height d v k) k-height) vl vf)
        ((vS.plain x lx).bwds t (let n = vX.bwds_len in omega arith)) (plain-at_sing x t q))

    legs-plain : (j : ℕ) → j < length P.objects → PlainArrow d (comp d f (leg d c j))
    unfolding part_leg
    legs-plain = each_object d S vS r ar k (λ j. PlainArrow d (comp d f (leg d c j))) plain-at

    pub made-plain : IsPlainCocone d P made
    made-plain = record {
      cocone = made-cocone;
      plain = pu.plain.sings (height d v k) k-height;
      plain_legs = λ j lj. rw (made-leg j lj) (legs-plain j lj);
    }

    pub made-factor : IsFactor d P c made f
    made-factor = record { valid = vf; gives = λ j lj. sym (made-leg j lj) }

  pub factor-plain : ((k : ℕ) (l : k < r.count) (w : Cocone d) → IsPlainCocone d (part d S r k) w
      → IsFactor d (part d S r k) (cocone_at d parts k) w (arrow_sing d v k) → PlainArrow d (arrow_sing d v k)) → PlainArrow (suc d) v
  factor-plain ih =
      let n = apex-sings_len d S r parts in
      let rl = vv.regs_len in
      let sl = vv.sings_len in
      record {
        regs = λ j l. reg-plain j (omega arith);
        sings = λ k l. let lk : k < r.count = omega arith in ih k lk (made k lk) (made-plain k lk) (made-factor k lk);
      }

plain_step : (d : ℕ) → PlainCoconesHavePlainFactors d → PlainCoconesHavePlainFactors (suc d)
plain_step d ih S biases c u v vS z pu f =
    let e = z.is_glued in
    let ar = its_ranks d S vS biases c z in
    let good = λ (k : ℕ) (l : k < z.ranks.count). colimits_are_plain_cocones d (part d S z.ranks k) (inner_biases biases) (cocone_at d z.parts k)
    (its_parts d S vS biases c z k l) (z.parts_are k l) in
    factor-plain d S vS z.ranks ar z.parts good u pu v (subst (λ (X : Dia (suc d)). ValidArrow (suc d) X u.apex v) (ap (λ (b : Cocone (suc d)). b.apex) e) f.valid)
    (λ x l. ap (comp (suc d) v) (sym (ap (λ (b : Cocone (suc d)). leg (suc d) b x) e ∙ leg-at d S z.ranks z.parts x l)) ∙ f.gives x l)
    (λ k l w pw g. ih (part d S z.ranks k) (inner_biases biases) (cocone_at d z.parts k) w (arrow_sing d v k) (its_parts d S vS biases c z k l) (z.parts_are k l) pw g)

pub plain_cocones_have_plain_factors : (d : ℕ) → PlainCoconesHavePlainFactors d
plain_cocones_have_plain_factors zero = λ S biases c u v vS z pu f. tt
plain_cocones_have_plain_factors (suc d) = plain_step d (plain_cocones_have_plain_factors d)
