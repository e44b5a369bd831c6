-- Without a bias colimits are universal.
use Rattle.std.proofs.Common.{◌≡◌, ℕ, zero, suc, ◌<◌, List, [], ◌∷◌, length, get_or, refl, sym, ap, ◌∙◌, subst, arith}
use Rattle.diagram_terms.specs.declared.label.Label.{Label}
use Rattle.diagram_terms.specs.declared.place.Bias.{Bias}
use Rattle.diagram_terms.specs.Labels.{IsAtMost}
use Rattle.diagram_terms.specs.Family.{Dia, Arr, Ends, no_dia, no_arr}
use Rattle.diagram_terms.specs.Composite.{comp}
use Rattle.diagram_terms.specs.Valid.{ValidArrow}
use Rattle.diagram_terms.proofs.Parts.{comp-from, comp-to, same_ends}
use Rattle.diagram_terms.specs.Ranks.{Ranks}
use Rattle.diagram_terms.specs.Shapes.{Shape, IsShape, heights_of, object}
use Rattle.diagram_terms.specs.Cocones.{Cocone, leg, IsCocone, IsFactor}
use Rattle.diagram_terms.specs.ClassParts.{part}
use Rattle.diagram_terms.specs.Colimits.{cocone_at, outer_bias, inner_biases, IsColimit, HasNoBias}
use Rattle.colimit_laws.specs.Laws.{ColimitsAreUniversal}
use Rattle.colimit_laws.proofs.Membership.{get_any}
use Rattle.colimit_laws.proofs.GluedParts.{leg-at}
use Rattle.colimit_laws.proofs.OrderRanks.{settled-order}
use Rattle.colimit_laws.proofs.LabelColimits.{label_leg}
use Rattle.colimit_laws.proofs.Cocones.{shapes_have_heights, its_ranks, its_parts, colimits_are_plain_cocones, inner-none}
use Rattle.colimit_laws.proofs.AfterLegs.{legs_are_epi}
use Rattle.colimit_laws.proofs.CoconeParts.{part_cocone, part-cocone}
use Rattle.colimit_laws.proofs.FactorArrows.{factor, factor-valid, factor-gives}

-- u factors through c
abbrev HasFactor : (d : ℕ) → Shape d → Cocone d → Cocone d → Type 0
HasFactor d S c u = (v : Arr d) × IsFactor d S c u v

abbrev HaveFactors : ℕ → Type 0
HaveFactors d = (S : Shape d) (biases : List Bias) (c u : Cocone d) → IsShape d S → HasNoBias biases → IsColimit d S biases c → IsCocone d S u → HasFactor d S c u

-- a list of what there is for each number below n
pub choose : {A : Type 0} (P : ℕ → A → Type 0) (d : A) (n : ℕ) → ((k : ℕ) → k < n → (a : A) × P k a)
    → (xs : List A) × (length xs ≡ n) × ((k : ℕ) → k < n → P k (get_or xs k d))
choose P d zero h = ([], refl, λ k l. absurd (omega arith))
choose {A} P d (suc n) h =
    let first = h 0 (omega arith) in
    let rest = choose (λ k. P (suc k)) d n (λ k l. h (suc k) (omega arith)) in
    (first.0 ∷ rest.0, ap suc rest.1, both first.0 rest.0 first.1 rest.2)
  where
    both : (a : A) (xs : List A) → P 0 a → ((k : ℕ) → k < n → P (suc k) (get_or xs k d)) → (k : ℕ) → k < suc n → P k (get_or (a ∷ xs) k d)
    both a xs p q zero l = p
    both a xs p q (suc k) l = q k (omega arith)

-- ---- dimension 0: the join is one of the labels

label_factor : HaveFactors zero
label_factor S biases c u vS none z cu =
    let among = z.join.among in
    let k : ℕ = among.0 in
    let lk : k < length S.objects = among.1 in
    let e : object zero S k ≡ c.apex = get_any S.objects k (no_dia zero) c.apex lk ∙ among.2 in
    let v : Ends = record { from = c.apex; to = u.apex } in (
      v,
      record {
        valid = record { from = refl; to = refl; order = subst (λ (x : Label). IsAtMost x u.apex) e (cu.legs k lk).order };
        gives = λ x l.
            same_ends (comp zero v (leg zero c x)) (leg zero u x)
            (comp-from v (leg zero c x) ∙ ap (λ (t : Ends). t.from) (label_leg S c z x l) ∙ sym (cu.legs x l).from)
            (comp-to v (leg zero c x) ∙ sym (cu.legs x l).to);
      },
    )

-- ---- one level up

factor_step : (d : ℕ) → HaveFactors d → HaveFactors (suc d)
factor_step d ih S biases c u vS none z cu =
    let r : Ranks = z.ranks in
    let ar = its_ranks d S vS biases c z in
    let settled = settled-order (outer_bias biases) (heights_of d S) (shapes_have_heights d S vS) r z.ranked (none 0) in
    let good = λ (k : ℕ) (l : k < r.count). colimits_are_plain_cocones d (part d S r k) (inner_biases biases) (cocone_at d z.parts k)
    (its_parts d S vS biases c z k l) (z.parts_are k l) in
    let chosen = choose (λ k v. IsFactor d (part d S r k) (cocone_at d z.parts k) (part_cocone d S vS r ar u cu k) v) (no_arr d) r.count
    (λ k l. ih (part d S r k) (inner_biases biases) (cocone_at d z.parts k) (part_cocone d S vS r ar u cu k) (its_parts d S vS biases c z k l)
    (inner-none biases none) (z.parts_are k l) (part-cocone d S vS r ar u cu k l)) in
    let v : Arr (suc d) = factor d S vS r ar z.parts good settled u cu chosen.0 chosen.1 chosen.2 in
    let e = z.is_glued in (
      v,
      record {
        valid = subst (λ (X : Dia (suc d)). ValidArrow (suc d) X u.apex v) (sym (ap (λ (b : Cocone (suc d)). b.apex) e))
            (factor-valid d S vS r ar z.parts good settled u cu chosen.0 chosen.1 chosen.2);
        gives = λ x l. ap (λ (b : Cocone (suc d)). comp (suc d) v (leg (suc d) b x)) e ∙ ap (comp (suc d) v) (leg-at d S r z.parts x l)
            ∙ factor-gives d S vS r ar z.parts good settled u cu chosen.0 chosen.1 chosen.2 x l;
      },
    )

have_factors : (d : ℕ) → HaveFactors d
have_factors zero = label_factor
have_factors (suc d) = factor_step d (have_factors d)

-- and the factor is determined by the legs
pub colimits_are_universal : (d : ℕ) → ColimitsAreUniversal d
colimits_are_universal d S biases c u vS none z cu =
    let f = have_factors d S biases c u vS none z cu in
    (f.0, f.1, λ w h. legs_are_epi d S biases c u.apex f.0 w vS z f.1.valid h.valid (λ x l. f.1.gives x l ∙ sym (h.gives x l)))
