-- Colimits are plain cocones, and a shape has one answer.
use Rattle.std.proofs.Common.{◌≡◌, ℕ, zero, suc, ◌<◌, ◌≤◌, List, [], ◌∷◌, length, sym, ap, ap₂, ◌∙◌, subst, arith, inl, inr}
use Rattle.std.proofs.lemmas.Bool.{cases_lt}
use Rattle.std.proofs.lemmas.List.{ext_get_or}
use Rattle.diagram_terms.specs.declared.place.Bias.{Bias}
use Rattle.diagram_terms.specs.Family.{Dia, no_dia, fwd, bwd}
use Rattle.diagram_terms.specs.Composite.{comp}
use Rattle.diagram_terms.specs.Valid.{Valid}
use Rattle.map_laws.proofs.Neutral.{neutral_before}
use Rattle.plain_laws.proofs.PlainEnds.{plain_arrows_unfold}
use Rattle.diagram_terms.specs.HeightClasses.{IsHeightMap}
use Rattle.diagram_terms.specs.Shapes.{object, Shape, ShapeArrow, IsShape, heights_of}
use Rattle.diagram_terms.specs.OrderFaults.{OrderFault}
use Rattle.diagram_terms.specs.Ranks.{Ranks, IsRanked}
use Rattle.colimit_laws.specs.RankConditions.{AreRanks}
use Rattle.diagram_terms.specs.Cocones.{Cocone, leg, IsPlainCocone}
use Rattle.diagram_terms.specs.ClassParts.{part}
use Rattle.diagram_terms.specs.Colimits.{cocone_at, glued, outer_bias, inner_biases, IsColimit, HasNoBias}
use Rattle.diagram_terms.specs.ColimitRefusals.{Refusal, IsRefused, order, in_order, in_part}
use Rattle.diagram_terms.proofs.Squares.{first_at, last_at}
use Rattle.colimit_laws.specs.Laws.{ShapesHaveHeights, PartsAreShapes, ColimitsArePlainCocones, ColimitsAreFromEachObject, ColimitsAreUnique, RefusalsAreUnique, ColimitsExcludeRefusals, UnbiasedColimitsStay}
use Rattle.colimit_laws.proofs.Membership.{from_map}
use Rattle.colimit_laws.proofs.Ranked.{lengths-len, length-at, map_of}
use Rattle.colimit_laws.proofs.PartShapes.{part-shape}
use Rattle.colimit_laws.proofs.GluedLegs.{glued-cocone}
use Rattle.colimit_laws.proofs.OrderRanks.{ranks-of_order, ranks-any_bias}
use Rattle.colimit_laws.proofs.OneOrder.{one_ranking, no_fault_if_ranked, one_order_fault}
use Rattle.colimit_laws.proofs.LabelColimits.{label-cocone, one_label_colimit, one_label_refusal, no_label_refusal}

-- ---- the order of a shape

pub shapes_have_heights : (d : ℕ) → ShapesHaveHeights d
shapes_have_heights d S vS m c =
    let f = from_map (map_of d S) S.arrows m c in
    let g : ShapeArrow (suc d) = f.0 in
    let v = vS.arrows g f.1 in
    let n = lengths-len d S in
    let from = length-at d S g.from v.from_within in
    let to = length-at d S g.to v.to_within in
    let lf = v.from_within in
    let lt = v.to_within in
    subst (IsHeightMap (heights_of d S)) f.2 (record {
      from = omega arith;
      to = omega arith;
      heights_len = v.valid.heights_len ∙ sym from;
      below = rw to v.valid.below;
    })

pub parts_are_shapes : (d : ℕ) → PartsAreShapes d
parts_are_shapes d S r k vS ar l = part-shape d S vS r ar k l

-- ---- colimits are plain cocones

module _ (d : ℕ) (S : Shape (suc d)) (vS : IsShape (suc d) S) (biases : List Bias) (c : Cocone (suc d)) (z : IsColimit (suc d) S biases c) where
  pub its_ranks : AreRanks (heights_of d S) z.ranks
  its_ranks = ranks-of_order (outer_bias biases) (heights_of d S) (shapes_have_heights d S vS) z.ranks z.ranked

  pub its_parts : (k : ℕ) → k < z.ranks.count → IsShape d (part d S z.ranks k)
  its_parts k l = parts_are_shapes d S z.ranks k vS its_ranks l

cocone_step : (d : ℕ) → ColimitsArePlainCocones d → ColimitsArePlainCocones (suc d)
cocone_step d ih S biases c vS z =
    subst (IsPlainCocone (suc d) S) (sym z.is_glued) (glued-cocone d S vS z.ranks (its_ranks d S vS biases c z) z.parts
    (λ k l. ih (part d S z.ranks k) (inner_biases biases) (cocone_at d z.parts k) (its_parts d S vS biases c z k l) (z.parts_are k l)))

pub colimits_are_plain_cocones : (d : ℕ) → ColimitsArePlainCocones d
colimits_are_plain_cocones zero = λ S biases c vS z. label-cocone S c z vS
colimits_are_plain_cocones (suc d) = cocone_step d (colimits_are_plain_cocones d)

-- ---- all choices agree

pub colimits_are_from_each_object : (d : ℕ) → ColimitsAreFromEachObject d
colimits_are_from_each_object d S biases c vS z =
    let p = colimits_are_plain_cocones (suc d) S biases c vS z in
    let A : Dia (suc d) = c.apex in
    let vA : Valid (suc d) A = p.cocone.apex in
    let unfolds = λ (x : ℕ) (lx : x < length S.objects). plain_arrows_unfold d (object (suc d) S x) A (leg (suc d) c x) (vS.valid x lx) vA
    (p.cocone.legs x lx) (p.plain_legs x lx) in
    record {
      regs = λ x j lx lj. sym (unfolds x lx j lj).0;
      fwds = λ x k i lx lk e m.
          sym (ap (comp d (fwd d A k)) (unfolds x lx k (omega arith)).1 ∙ neutral_before d _ _ (fwd d A k) (vA.regs k (omega arith)) (vA.fwds k lk))
          ∙ first_at ((p.cocone.legs x lx).squares k lk) i e m;
      bwds = λ x k i lx lk m e.
          sym (ap (comp d (bwd d A k)) (unfolds x lx (suc k) lk).1 ∙ neutral_before d _ _ (bwd d A k) (vA.regs (suc k) lk) (vA.bwds k lk))
          ∙ last_at ((p.cocone.legs x lx).squares k lk) i m e;
    }

-- ---- one answer

module _ (d : ℕ) (ih : ColimitsAreUnique d) (S : Shape (suc d)) (biases : List Bias) (b c : Cocone (suc d)) (vS : IsShape (suc d) S)
    (y : IsColimit (suc d) S biases b) (z : IsColimit (suc d) S biases c) where
  same_ranks : y.ranks ≡ z.ranks
  same_ranks = one_ranking (outer_bias biases) (heights_of d S) (shapes_have_heights d S vS) y.ranks z.ranks y.ranked z.ranked

  same_parts : y.parts ≡ z.parts
  same_parts =
      let e = same_ranks in
      let n : y.ranks.count ≡ z.ranks.count = ap (λ (r : Ranks). r.count) e in
      let m1 = y.parts_len in
      let m2 = z.parts_len in
      ext_get_or (record { apex = no_dia d; legs = [] }) y.parts z.parts (omega arith) (λ k l.
      let lk : k < y.ranks.count = omega arith in
      ih (part d S y.ranks k) (inner_biases biases) (cocone_at d y.parts k) (cocone_at d z.parts k) (its_parts d S vS biases b y k lk) (y.parts_are k lk)
      (subst (λ (r : Ranks). IsColimit d (part d S r k) (inner_biases biases) (cocone_at d z.parts k)) (sym e) (z.parts_are k (omega arith))))

  unique_step : b ≡ c
  unique_step = y.is_glued ∙ ap₂ (glued d S) same_ranks same_parts ∙ sym z.is_glued

pub colimits_are_unique : (d : ℕ) → ColimitsAreUnique d
colimits_are_unique zero = λ S biases b c vS y z. one_label_colimit S b c y z
colimits_are_unique (suc d) = unique_step d (colimits_are_unique d)

-- a colimit and a refusal
module _ (d : ℕ) (ih : ColimitsExcludeRefusals d) (S : Shape (suc d)) (biases : List Bias) (c : Cocone (suc d)) (vS : IsShape (suc d) S)
    (z : IsColimit (suc d) S biases c) where
  exclude_step : (f : Refusal) → IsRefused (suc d) S biases f → ⊥
  exclude_step f (in_order e fault) = no_fault_if_ranked (outer_bias biases) (heights_of d S) z.ranks e z.ranked fault
  exclude_step f (in_part r rk k l earlier g refused) =
      let e : r ≡ z.ranks = one_ranking (outer_bias biases) (heights_of d S) (shapes_have_heights d S vS) r z.ranks rk z.ranked in
      let lz : k < z.ranks.count = subst (λ (r : Ranks). k < r.count) e l in
      ih (part d S z.ranks k) (inner_biases biases) (cocone_at d z.parts k) g (its_parts d S vS biases c z k lz) (z.parts_are k lz)
      (subst (λ (r : Ranks). IsRefused d (part d S r k) (inner_biases biases) g) e refused)

pub colimits_exclude_refusals : (d : ℕ) → ColimitsExcludeRefusals d
colimits_exclude_refusals zero = λ S biases c f vS z refused. no_label_refusal S c f z refused
colimits_exclude_refusals (suc d) = λ S biases c f vS z refused. exclude_step d (colimits_exclude_refusals d) S biases c vS z f refused

-- two refusals: the first part that is refused is one
module _ (d : ℕ) (ih : RefusalsAreUnique d) (S : Shape (suc d)) (biases : List Bias) (vS : IsShape (suc d) S) where
  abbrev HaveColimits : Ranks → ℕ → Type 0
  HaveColimits r k = (j : ℕ) → j < k → (c : Cocone d) × IsColimit d (part d S r j) (inner_biases biases) c

  shape_at : (r : Ranks) → IsRanked (outer_bias biases) (heights_of d S) r → (k : ℕ) → k < r.count → IsShape d (part d S r k)
  shape_at r rk k l = parts_are_shapes d S r k vS (ranks-of_order (outer_bias biases) (heights_of d S) (shapes_have_heights d S vS) r rk) l

  -- where the parts before k have colimits, none of them is refused
  not_before : (r : Ranks) → IsRanked (outer_bias biases) (heights_of d S) r → (k m : ℕ) → m < r.count → HaveColimits r k
      → (g : Refusal) → IsRefused d (part d S r m) (inner_biases biases) g → k ≤ m
  not_before r rk k m l earlier g refused = elim (cases_lt m k) [
    | inr p ↦ p
    | inl p ↦ absurd (let c = earlier m p in
        colimits_exclude_refusals d (part d S r m) (inner_biases biases) c.0 g (shape_at r rk m l) c.1 refused)
  ]

  -- a refusal inside the part of rank k
  abbrev under : ℕ → Refusal → Refusal
  under k f = record { ranks = k ∷ f.ranks; cause = f.cause }

  one_part : (r : Ranks) → IsRanked (outer_bias biases) (heights_of d S) r → (k m : ℕ) → k < r.count → m < r.count → HaveColimits r k → HaveColimits r m
      → (f g : Refusal) → IsRefused d (part d S r k) (inner_biases biases) f → IsRefused d (part d S r m) (inner_biases biases) g
      → under k f ≡ under m g
  one_part r rk k m lk lm ek em f g nf ng =
      let a = not_before r rk k m lm ek g ng in
      let b = not_before r rk m k lk em f nf in
      let e : m ≡ k = omega arith in
      let s : f ≡ g = ih (part d S r k) (inner_biases biases) f g (shape_at r rk k lk) nf
      (subst (λ (n : ℕ). IsRefused d (part d S r n) (inner_biases biases) g) e ng) in
      λ i. record { ranks = sym e i ∷ (s i).ranks; cause = (s i).cause }

  refusal_step : (e f : Refusal) → IsRefused (suc d) S biases e → IsRefused (suc d) S biases f → e ≡ f
  refusal_step e f (in_order s p) (in_order t q) = ap (λ (x : OrderFault). record { ranks = []; cause = order x })
      (one_order_fault (outer_bias biases) (heights_of d S) s t p q)
  refusal_step e f (in_order s p) (in_part r rk k l earlier g refused) = absurd (no_fault_if_ranked (outer_bias biases) (heights_of d S) r s rk p)
  refusal_step e f (in_part r rk k l earlier g refused) (in_order t q) = absurd (no_fault_if_ranked (outer_bias biases) (heights_of d S) r t rk q)
  refusal_step e f (in_part r rk k l before g refused) (in_part s sk m n earlier h none) =
      let same : s ≡ r = one_ranking (outer_bias biases) (heights_of d S) (shapes_have_heights d S vS) s r sk rk in
      one_part r rk k m l (subst (λ (r : Ranks). m < r.count) same n) before (subst (λ (r : Ranks). HaveColimits r m) same earlier) g h refused
      (subst (λ (r : Ranks). IsRefused d (part d S r m) (inner_biases biases) h) same none)

pub refusals_are_unique : (d : ℕ) → RefusalsAreUnique d
refusals_are_unique zero = λ S biases e f vS p q. one_label_refusal S e f p q
refusals_are_unique (suc d) = λ S biases e f vS p q. refusal_step d (refusals_are_unique d) S biases vS e f p q

-- ---- without a bias

-- the biases further in are among the biases
pub inner-none : (biases : List Bias) → HasNoBias biases → HasNoBias (inner_biases biases)
inner-none [] none k = none k
inner-none (b ∷ biases) none k = none (suc k)

stay_step : (d : ℕ) → UnbiasedColimitsStay d → UnbiasedColimitsStay (suc d)
stay_step d ih S biases others c none z = record {
  ranks = z.ranks;
  ranked = ranks-any_bias (outer_bias others) (heights_of d S) z.ranks
      (subst (λ (b : Bias). IsRanked b (heights_of d S) z.ranks) (none 0) z.ranked);
  parts = z.parts;
  parts_len = z.parts_len;
  parts_are = λ k l. ih (part d S z.ranks k) (inner_biases biases) (inner_biases others) (cocone_at d z.parts k) (inner-none biases none) (z.parts_are k l);
  is_glued = z.is_glued;
}

pub unbiased_colimits_stay : (d : ℕ) → UnbiasedColimitsStay d
unbiased_colimits_stay zero = λ S biases others c none z. z
unbiased_colimits_stay (suc d) = stay_step d (unbiased_colimits_stay d)
