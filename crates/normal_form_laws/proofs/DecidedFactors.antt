-- The test of factors decides whether an arrow factors through one of the shape of a degeneracy.
use Rattle.std.proofs.Common.{◌≡◌, ◌↔◌, ℕ, zero, suc, ◌<◌, ◌≤◌, length, Bool, true, ◌&&◌, nat_lt, refl, sym, ap, ◌∙◌, subst, arith, inl, inr, false, Option, Some, None, if◌then◌else◌}
use Rattle.std.specs.List.{list_all}
use Rattle.std.proofs.lemmas.Option.{none-some}
use Rattle.std.proofs.lemmas.Bool.{cases_Bool, and_parts, and_from, lt-ltb, ltb-true}
use Rattle.diagram_terms.specs.Family.{Dia, Arr, reg, sing, height, arrow_reg, arrow_sing}
use Rattle.diagram_terms.specs.Labels.{IsAtMost}
use Rattle.diagram_terms.specs.Dual.{upto, dual}
use Rattle.diagram_terms.specs.Composite.{comp}
use Rattle.diagram_terms.specs.Valid.{ValidArrow, Valid}
use Rattle.diagram_terms.specs.Degeneracy.{Degeneracy, DegeneracyByShape}
use Rattle.diagram_terms.specs.Least.{FactorsBy, Factors}
use Rattle.diagram_terms.proofs.Duals.{in_fibre, fibre_low, fibre_high}
use Rattle.diagram_terms.proofs.Injections.{contains_at, found_at as place_of}
use Rattle.diagram_terms.proofs.Parts.{comp-from, comp-to, comp-reg, comp-sing, same_ends}
use Rattle.map_laws.proofs.ValidParts.{dual_within, height_within, composite-dual}
use Rattle.degeneracy_laws.proofs.Shapes.{degeneracy_ends, degeneracies_have_shape}
use Rattle.diagram_terms.specs.Factors.{has_factor, factor, factor_through}
use Rattle.normal_form_laws.specs.Laws.{FactorsAreDecided, FactorsAreAnswered, MissingFactorsAreAnswered}
use Rattle.normal_form_laws.proofs.BuiltFactors.{built_factor}
use Rattle.normal_form_laws.proofs.FoundFactors.{found_at, found_place, found_factor, factors_are_found_by_shape}
use Rattle.normal_form_laws.proofs.Members.{all_in, from_all_in, in_upto, from_upto}

abbrev DecidedByShape : ℕ → Type 0
DecidedByShape d = (W R T : Dia d) (f e : Arr d) → Valid d W → Valid d R → Valid d T → ValidArrow d W T f → DegeneracyByShape d R T e
    → (has_factor d e f ≡ true) ↔ Factors d W R f e

decided_base : DecidedByShape zero
unfolding has_factor
decided_base W R T f e vW vR vT vf q = (
  λ h. (
    f,
    record {
      valid = record { from = vf.from; to = vf.to ∙ same; order = subst (IsAtMost W) same vf.order };
      composite = same_ends (comp zero e f) f (comp-from e f) (comp-to e f ∙ q.0.to ∙ sym vf.to);
    },
  ),
  λ g. refl,
)
  where
    same : T ≡ R
    same = sym q.0.to ∙ sym q.1 ∙ q.0.from

module _ (d : ℕ) (ih : DecidedByShape d) (W R T : Dia (suc d)) (f e : Arr (suc d)) (vW : Valid (suc d) W) (vR : Valid (suc d) R)
    (vT : Valid (suc d) T) (vf : ValidArrow (suc d) W T f) (q : DegeneracyByShape (suc d) R T e) where
  abbrev hit : ℕ → Bool
  hit h = nat_lt (dual e.heights h) (dual e.heights (suc h))

  abbrev reg_test : ℕ → Bool
  reg_test k = has_factor d (arrow_reg d e k) (arrow_reg d f k)

  abbrev sing_test : ℕ → Bool
  sing_test i = has_factor d (arrow_sing d e (dual e.heights (height d f i))) (arrow_sing d f i)

  -- a height of f that e hits goes through one of R
  rises : (i : ℕ) → i < length W.sings → dual e.heights (height d f i) < dual e.heights (suc (height d f i))
      → (dual e.heights (height d f i) < length R.sings) × (height d e (dual e.heights (height d f i)) ≡ height d f i)
  rises i l h = (
    (let w = dual_within d R T e q.valid (suc (height d f i)) in omega arith),
    in_fibre e.heights q.valid.monotone (dual e.heights (height d f i)) (height d f i) (omega arith) h,
  )

  reg_decided : (k : ℕ) → k ≤ length T.sings
      → (reg_test k ≡ true) ↔ Factors d (reg d W (dual f.heights k)) (reg d R (dual e.heights k)) (arrow_reg d f k) (arrow_reg d e k)
  reg_decided k l = ih _ _ (reg d T k) (arrow_reg d f k) (arrow_reg d e k) (vW.regs _ (dual_within d W T f vf k))
      (vR.regs _ (dual_within d R T e q.valid k)) (vT.regs k l) (vf.regs k l) (q.regs k l)

  sing_decided : (i : ℕ) → i < length W.sings → dual e.heights (height d f i) < dual e.heights (suc (height d f i))
      → (sing_test i ≡ true) ↔ Factors d (sing d W i) (sing d R (dual e.heights (height d f i))) (arrow_sing d f i)
      (arrow_sing d e (dual e.heights (height d f i)))
  sing_decided i l h =
      let n : ℕ = dual e.heights (height d f i) in
      let r = rises i l h in
      let ln = r.0 in
      let v : ValidArrow d (sing d W i) (sing d T (height d e n)) (arrow_sing d f i) =
      subst (λ (m : ℕ). ValidArrow d (sing d W i) (sing d T m) (arrow_sing d f i)) (sym r.1) (vf.sings i l) in
      ih _ _ (sing d T (height d e n)) (arrow_sing d f i) (arrow_sing d e n) (vW.sings i l) (vR.sings n ln)
      (vT.sings _ (height_within d R T e q.valid n ln)) v (q.sings n ln)

  build : has_factor (suc d) e f ≡ true → Factors (suc d) W R f e
  unfolding has_factor
  build h =
      let p = and_parts (list_all hit f.heights && list_all reg_test (upto (length e.regs))) (list_all sing_test (upto (length f.sings))) h in
      let r = and_parts (list_all hit f.heights) (list_all reg_test (upto (length e.regs))) p.0 in
      let fl = vf.heights_len in
      let fs = vf.sings_len in
      let el = q.valid.regs_len in
      let hits : (i : ℕ) → i < length W.sings → dual e.heights (height d f i) < dual e.heights (suc (height d f i)) =
      λ i l. ltb-true _ _ (all_in hit f.heights (height d f i) r.0 (contains_at f.heights i (height d f i) (omega arith) refl)) in (
        factor_through (suc d) e f,
        built_factor d W R T f e (record {
          vW = vW;
          vR = vR;
          vT = vT;
          vf = vf;
          qe = q;
          hits = hits;
          regs = λ k l.
              let x = (reg_decided k l).0 (all_in reg_test (upto (length e.regs)) k r.1 (in_upto (length e.regs) k (omega arith))) in
              found_factor d _ _ (reg d T k) (arrow_reg d f k) (arrow_reg d e k) x.0 (q.regs k l) x.1;
          sings = λ i l.
              let z = hits i l in
              let n : ℕ = dual e.heights (height d f i) in
              let ln = (rises i l z).0 in
              let x = (sing_decided i l z).0 (all_in sing_test (upto (length f.sings)) i p.1 (in_upto (length f.sings) i (omega arith))) in
              found_factor d _ _ (sing d T (height d e n)) (arrow_sing d f i) (arrow_sing d e n) x.0 (q.sings n ln) x.1;
        }),
      )

  -- the slices of a factor are factors of the slices
  take_apart : Factors (suc d) W R f e → has_factor (suc d) e f ≡ true
  unfolding has_factor
  take_apart x =
      let g : Arr (suc d) = x.0 in
      let by = x.1 in
      let fl = vf.heights_len in
      let fs = vf.sings_len in
      let gs = by.valid.sings_len in
      let el = q.valid.regs_len in
      let eh = q.valid.heights_len in
      let at : (i : ℕ) → i < length W.sings → height d f i ≡ height d e (height d g i) = found_at d W R T f e g q by in
      let place : (i : ℕ) → i < length W.sings → dual e.heights (height d f i) ≡ height d g i = found_place d W R T f e g q by in
      let rise : (i : ℕ) → i < length W.sings → dual e.heights (height d f i) < dual e.heights (suc (height d f i)) =
      λ i l.
      let w = height_within d W R g by.valid i l in
      let lower = fibre_low e.heights q.valid.monotone (height d g i) (height d f i) (sym (at i l)) in
      let upper = fibre_high e.heights q.valid.monotone (height d g i) (height d f i) (omega arith) (sym (at i l)) in
      omega arith in
      and_from (list_all hit f.heights && list_all reg_test (upto (length e.regs))) (list_all sing_test (upto (length f.sings)))
      (and_from (list_all hit f.heights) (list_all reg_test (upto (length e.regs)))
      (from_all_in hit f.heights (λ h c.
      let z = place_of f.heights h c in
      let lz = z.1 in
      subst (λ (t : ℕ). hit t ≡ true) z.2 (lt-ltb _ _ (rise z.0 (omega arith)))))
      (from_all_in reg_test (upto (length e.regs)) (λ k c.
      let lk : k ≤ length T.sings = let a = from_upto (length e.regs) k c in omega arith in
      let w = dual_within d R T e q.valid k in
      (reg_decided k lk).1 (
        arrow_reg d g (dual e.heights k),
        record {
          valid = subst (λ (m : ℕ). ValidArrow d (reg d W m) (reg d R (dual e.heights k)) (arrow_reg d g (dual e.heights k)))
              (sym (composite-dual d W R T g e by.valid q.valid k) ∙ ap (λ (t : Arr (suc d)). dual t.heights k) by.composite)
              (by.valid.regs (dual e.heights k) w);
          composite = sym (comp-reg d e g k (omega arith)) ∙ ap (λ (t : Arr (suc d)). arrow_reg d t k) by.composite;
        },
      ))))
      (from_all_in sing_test (upto (length f.sings)) (λ i c.
      let li : i < length W.sings = let a = from_upto (length f.sings) i c in omega arith in
      (sing_decided i li (rise i li)).1 (
        arrow_sing d g i,
        record {
          valid = subst (λ (m : ℕ). ValidArrow d (sing d W i) (sing d R m) (arrow_sing d g i)) (sym (place i li)) (by.valid.sings i li);
          composite = ap (λ (m : ℕ). comp d (arrow_sing d e m) (arrow_sing d g i)) (place i li)
              ∙ sym (comp-sing d e g i (omega arith)) ∙ ap (λ (t : Arr (suc d)). arrow_sing d t i) by.composite;
        },
      )))

decided_by_shape : (d : ℕ) → DecidedByShape d
decided_by_shape zero = decided_base
decided_by_shape (suc d) = λ W R T f e vW vR vT vf q. (
  build d (decided_by_shape d) W R T f e vW vR vT vf q,
  take_apart d (decided_by_shape d) W R T f e vW vR vT vf q,
)

pub factors_are_decided : (d : ℕ) → FactorsAreDecided d
factors_are_decided d W R T f e vW vf q =
    let ends = degeneracy_ends d R T e q in
    decided_by_shape d W R T f e vW ends.0 ends.1 vf (degeneracies_have_shape d R T e q)

-- ---- the answer

module _ (d : ℕ) (W R T : Dia d) (f e : Arr d) (vW : Valid d W) (vf : ValidArrow d W T f) (q : Degeneracy d R T e) where
  abbrev found : Arr d
  found = factor_through d e f

  abbrev answer : Bool → Option (Arr d)
  answer b = if b then Some found else None

  is_found : Factors d W R f e → factor d e f ≡ Some found
  is_found x = ap answer ((factors_are_decided d W R T f e vW vf q).1 x)

  is_missing : has_factor d e f ≡ false → factor d e f ≡ None
  is_missing h = ap answer h

  found_by : has_factor d e f ≡ true → FactorsBy d W R f e found
  found_by h =
      let x = (factors_are_decided d W R T f e vW vf q).0 h in
      found_factor d W R T f e x.0 (degeneracies_have_shape d R T e q) x.1

  answered : (g : Arr d) → (factor d e f ≡ Some g) ↔ FactorsBy d W R f e g
  answered g = (
    λ s. elim (cases_Bool (has_factor d e f)) [
      | inl h ↦ (let x = found_by h in
          let one : Some found ≡ Some g = sym (is_found (found, x)) ∙ s in
          let same : found ≡ g = cc in
          subst (FactorsBy d W R f e) same x)
      | inr h ↦ absurd (none-some g (sym (is_missing h) ∙ s))
    ],
    λ by. is_found (g, by) ∙ ap Some (factors_are_found_by_shape d W R T f e g (degeneracies_have_shape d R T e q) by),
  )

  missing_answered : (factor d e f ≡ None) ↔ (Factors d W R f e → ⊥)
  missing_answered = (
    λ s x. none-some found (sym s ∙ is_found x),
    λ no. elim (cases_Bool (has_factor d e f)) [
      | inl h ↦ absurd (no (found, found_by h))
      | inr h ↦ is_missing h
    ],
  )

pub factors_are_answered : (d : ℕ) → FactorsAreAnswered d
factors_are_answered d W R T f e g vW vf q = answered d W R T f e vW vf q g

pub missing_factors_are_answered : (d : ℕ) → MissingFactorsAreAnswered d
missing_factors_are_answered d W R T f e vW vf q = missing_answered d W R T f e vW vf q
