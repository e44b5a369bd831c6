-- The program for colimits answers as the colimit does.
use Rattle.std.proofs.Common.{◌≡◌, ℕ, zero, suc, ◌+◌, ◌<◌, List, [], ◌∷◌, length, get_or, refl, sym, ap, ap₂, ◌∙◌, subst, arith, inl, inr}
use Rattle.std.specs.Prelude.{Result, Ok, Err}
use Rattle.diagram_terms.specs.declared.place.Bias.{Bias}
use Rattle.diagram_terms.specs.Family.{no_dia}
use Rattle.diagram_terms.specs.Ranks.{Ranks, IsRanked}
use Rattle.diagram_terms.specs.Shapes.{Shape, IsShape, heights_of}
use Rattle.diagram_terms.specs.Cocones.{Cocone}
use Rattle.diagram_terms.specs.ClassParts.{part}
use Rattle.diagram_terms.specs.Colimits.{cocone_at, outer_bias, inner_biases, IsColimit}
use Rattle.diagram_terms.specs.ColimitRefusals.{Refusal, IsRefused, in_order, in_part}
use Rattle.colimit_laws.proofs.OrderRanks.{ranks-of_order}
use Rattle.colimit_laws.proofs.Cocones.{shapes_have_heights, parts_are_shapes}
use Rattle.colimit_laws.proofs.ColimitAnswers.{shapes_have_answers}
use Rattle.diagram_terms.specs.ColimitProgram.{one_more, each_part, glue_parts, by_ranks, colimit_of}
use Rattle.colimit_laws.proofs.OrderProofs.{answers_ranks, answers_fault}
use Rattle.colimit_laws.proofs.LabelAnswers.{label_colimit, label_refusal}

-- ---- all parts

module _ {X : Type 0} (answer : ℕ → Result X Refusal) where
  all_answered : (a n : ℕ) (default : X) (parts : List X) → length parts ≡ n
      → ((j : ℕ) → j < n → answer (a + j) ≡ Ok (get_or parts j default)) → each_part answer a n ≡ Ok parts
  unfolding each_part
  all_answered a zero default [] e h = refl
  all_answered a zero default (c ∷ cs) e h = absurd (omega arith)
  all_answered a (suc n) default [] e h = absurd (omega arith)
  all_answered a (suc n) default (c ∷ cs) e h =
      let here : a + 0 ≡ a = omega arith in
      ap₂ (one_more a) (ap answer (sym here) ∙ h 0 (omega arith))
      (all_answered (suc a) n default cs (omega arith) (λ j l. let next : suc a + j ≡ a + suc j = omega arith in ap answer next ∙ h (suc j) (omega arith)))

  first_refused : (a n k : ℕ) (f : Refusal) → k < n → ((j : ℕ) → j < k → (c : X) × (answer (a + j) ≡ Ok c)) → answer (a + k) ≡ Err f
      → each_part answer a n ≡ Err (record { ranks = (a + k) ∷ f.ranks; cause = f.cause })
  unfolding each_part
  first_refused a zero k f l h e = absurd (omega arith)
  first_refused a (suc n) zero f l h e =
      let here : a + 0 ≡ a = omega arith in
      ap (λ (r : Result X Refusal). one_more a r (each_part answer (suc a) n)) (ap answer (sym here) ∙ e)
      ∙ ap (λ (m : ℕ). Err (record { ranks = m ∷ f.ranks; cause = f.cause })) (sym here)
  first_refused a (suc n) (suc k) f l h e =
      let here : a + 0 ≡ a = omega arith in
      let next : suc a + k ≡ a + suc k = omega arith in
      let c = h 0 (omega arith) in
      ap₂ (one_more a) (ap answer (sym here) ∙ c.1)
      (first_refused (suc a) n k f (omega arith)
      (λ j m. let s : suc a + j ≡ a + suc j = omega arith in let d = h (suc j) (omega arith) in (d.0, ap answer s ∙ d.1))
      (ap answer next ∙ e))
      ∙ ap (λ (m : ℕ). Err (record { ranks = m ∷ f.ranks; cause = f.cause })) next

-- ---- one level up

abbrev AnswersColimits : ℕ → Type 0
AnswersColimits d = (S : Shape d) (biases : List Bias) (c : Cocone d) → IsShape d S → IsColimit d S biases c → colimit_of d S biases ≡ Ok c

abbrev AnswersRefusals : ℕ → Type 0
AnswersRefusals d = (S : Shape d) (biases : List Bias) (f : Refusal) → IsShape d S → IsRefused d S biases f → colimit_of d S biases ≡ Err f

module _ (d : ℕ) (ih : AnswersColimits d) (S : Shape (suc d)) (biases : List Bias) (vS : IsShape (suc d) S) where
  abbrev answer : Ranks → ℕ → Result (Cocone d) Refusal
  answer r k = colimit_of d (part d S r k) (inner_biases biases)

  module _ (r : Ranks) (rk : IsRanked (outer_bias biases) (heights_of d S) r) where
    shape_at : (k : ℕ) → k < r.count → IsShape d (part d S r k)
    shape_at k l = parts_are_shapes d S r k vS (ranks-of_order (outer_bias biases) (heights_of d S) (shapes_have_heights d S vS) r rk) l

    by_those : colimit_of (suc d) S biases ≡ glue_parts d S r (each_part (answer r) 0 r.count)
    unfolding colimit_of
    by_those = ap (by_ranks d (λ P. colimit_of d P (inner_biases biases)) S) (answers_ranks (heights_of d S) (shapes_have_heights d S vS) (outer_bias biases) r rk)

  colimit_step : (c : Cocone (suc d)) → IsColimit (suc d) S biases c → colimit_of (suc d) S biases ≡ Ok c
  colimit_step c k =
      let r : Ranks = k.ranks in
      by_those r k.ranked
      ∙ ap (glue_parts d S r) (all_answered (answer r) 0 r.count (record { apex = no_dia d; legs = [] }) k.parts k.parts_len (λ j l.
      let at : 0 + j ≡ j = omega arith in
      ap (answer r) at ∙ ih (part d S r j) (inner_biases biases) (cocone_at d k.parts j) (shape_at r k.ranked j l) (k.parts_are j l)))
      ∙ ap Ok (sym k.is_glued)

  refusal_step : AnswersRefusals d → (f : Refusal) → IsRefused (suc d) S biases f → colimit_of (suc d) S biases ≡ Err f
  unfolding colimit_of
  refusal_step refused f (in_order e h) =
      ap (by_ranks d (λ P. colimit_of d P (inner_biases biases)) S) (answers_fault (heights_of d S) (shapes_have_heights d S vS) (outer_bias biases) e h)
  refusal_step refused f (in_part r rk k l before g h) =
      let at : 0 + k ≡ k = omega arith in
      by_those r rk
      ∙ ap (glue_parts d S r) (first_refused (answer r) 0 r.count k g l (λ j m.
      let place : 0 + j ≡ j = omega arith in
      let c = before j m in
      (c.0, ap (answer r) place ∙ ih (part d S r j) (inner_biases biases) c.0 (shape_at r rk j (omega arith)) c.1))
      (ap (answer r) at ∙ refused (part d S r k) (inner_biases biases) g (shape_at r rk k l) h))
      ∙ ap (λ (m : ℕ). Err (record { ranks = m ∷ g.ranks; cause = g.cause })) at

pub answers_colimits : (d : ℕ) → AnswersColimits d
unfolding colimit_of
answers_colimits zero S biases c vS k = label_colimit S c k
answers_colimits (suc d) S biases c vS k = colimit_step d (answers_colimits d) S biases vS c k

pub answers_refusals : (d : ℕ) → AnswersRefusals d
unfolding colimit_of
answers_refusals zero S biases f vS k = label_refusal S f k
answers_refusals (suc d) S biases f vS k = refusal_step d (answers_colimits d) S biases vS (answers_refusals d) f k

-- ---- and back, since a shape has an answer

module _ (d : ℕ) (S : Shape d) (biases : List Bias) (vS : IsShape d S) where
  pub colimit_answered : (c : Cocone d) → colimit_of d S biases ≡ Ok c → IsColimit d S biases c
  colimit_answered c e = elim (shapes_have_answers d S biases vS) [
    | inl k ↦ (let same = sym (answers_colimits d S biases k.0 vS k.1) ∙ e in let t : k.0 ≡ c = cc in subst (IsColimit d S biases) t k.1)
    | inr f ↦ absurd (let same = sym (answers_refusals d S biases f.0 vS f.1) ∙ e in cc)
  ]

  pub refusal_answered : (f : Refusal) → colimit_of d S biases ≡ Err f → IsRefused d S biases f
  refusal_answered f e = elim (shapes_have_answers d S biases vS) [
    | inl k ↦ absurd (let same = sym (answers_colimits d S biases k.0 vS k.1) ∙ e in cc)
    | inr g ↦ (let same = sym (answers_refusals d S biases g.0 vS g.1) ∙ e in let t : g.0 ≡ f = cc in subst (IsRefused d S biases) t g.1)
  ]
