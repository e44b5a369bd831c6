-- Reduced diagrams are decided by their test, and certificates are exact.
use Rattle.std.proofs.Common.{◌≡◌, ◌↔◌, ℕ, zero, suc, List, length, Bool, true, not, ◌&&◌, ◌||◌, nat_lt, refl, sym, subst, arith, inl, inr}
use Rattle.std.specs.List.{list_all}
use Rattle.std.proofs.lemmas.Bool.{cases_Bool, and_parts, and_from, lt-ltb, ltb-true}
use Rattle.diagram_terms.specs.declared.place.Keep.TheVariants as keep
use Rattle.diagram_terms.specs.Family.{Dia, reg, sing, fwd, bwd}
use Rattle.diagram_terms.specs.Dual.{upto}
use Rattle.diagram_terms.specs.Identity.{IsIdentity}
use Rattle.diagram_terms.specs.Loose.{is_identity}
use Rattle.diagram_terms.specs.Least.{Leg, Hits, IsOneOf, IsRegularSlice, LeadsInto, Reduced, ReducedFor}
use Rattle.diagram_terms.proofs.LooseTests.{is_identity_decides}
use Rattle.degeneracy_laws.proofs.Leasts.{reduced_means_least}
use Rattle.degeneracy_laws.proofs.Shapes.{degeneracies_have_shape}
use Rattle.degeneracy_laws.proofs.Splits.{shape_means_degeneracy}
use Rattle.diagram_terms.specs.Certificates.{leads_into, is_hit_if_flat, is_reduced}
use Rattle.normal_form_laws.specs.Laws.{ReducedIsDecided, CertificatesAreExact, NormalFormsHaveCertificates}
use Rattle.diagram_terms.specs.Factors.{factor_legs}
use Rattle.diagram_terms.specs.NormalForms.{regular_slices, slices_over, normal_form}
use Rattle.normal_form_laws.proofs.Existence.{normal_forms_are_least, legs_factor_through_normal_forms, least_is_reduced}
use Rattle.normal_form_laws.proofs.Members.{all_in, from_all_in, in_upto, from_upto}
use Rattle.normal_form_laws.proofs.ReducedParts.{reduced_more}
use Rattle.normal_form_laws.proofs.SliceLegs.{in_regular_slices, from_regular_slices, in_leads, from_leads, hits_where_some, some_where_hits}

-- ---- the test of a reduced diagram

module _ (d : ℕ) (ih : ReducedIsDecided d) (S : Dia (suc d)) (gs : List (Leg (suc d))) where
  abbrev n : ℕ
  n = length S.sings

  abbrev G : Leg (suc d) → Type 0
  G g = IsOneOf (suc d) gs g

  abbrev reg_test : ℕ → Bool
  reg_test j = is_reduced d (reg d S j) (regular_slices d gs j)

  abbrev sing_test : ℕ → Bool
  sing_test k = is_reduced d (sing d S k) (leads_into d S gs k)

  abbrev flat : ℕ → Bool
  flat k = is_identity d (fwd d S k) && is_identity d (bwd d S k)

  abbrev some : ℕ → Bool
  some k = nat_lt 0 (length (slices_over d gs k))

  reg_decided : (j : ℕ) → (reg_test j ≡ true) ↔ Reduced keep.Free d (reg d S j) (λ b. IsRegularSlice d G j b)
  reg_decided j =
      let t = ih (reg d S j) (regular_slices d gs j) in (
        λ h. reduced_more d _ _ _ (from_regular_slices d gs j) (t.0 h),
        λ r. t.1 (reduced_more d _ _ _ (in_regular_slices d gs j) r),
      )

  sing_decided : (k : ℕ) → (sing_test k ≡ true) ↔ Reduced keep.Free d (sing d S k) (λ b. LeadsInto d S G k b)
  sing_decided k =
      let t = ih (sing d S k) (leads_into d S gs k) in (
        λ h. reduced_more d _ _ _ (from_leads d gs S k) (t.0 h),
        λ r. t.1 (reduced_more d _ _ _ (in_leads d gs S k) r),
      )

  hit_tested : (k : ℕ) → is_hit_if_flat d S gs k ≡ true → IsIdentity d (fwd d S k) → IsIdentity d (bwd d S k) → Hits d G k
  hit_tested k h f b =
      let both : flat k ≡ true = and_from (is_identity d (fwd d S k)) (is_identity d (bwd d S k))
      ((is_identity_decides d (fwd d S k)).1 f) ((is_identity_decides d (bwd d S k)).1 b) in
      let s : some k ≡ true = subst (λ (t : Bool). (not t || some k) ≡ true) both h in
      hits_where_some d gs k (ltb-true 0 (length (slices_over d gs k)) s)

  test_hit : (k : ℕ) → (IsIdentity d (fwd d S k) → IsIdentity d (bwd d S k) → Hits d G k) → is_hit_if_flat d S gs k ≡ true
  test_hit k hit = elim (cases_Bool (flat k)) [
    | inl h ↦ (let r = and_parts (is_identity d (fwd d S k)) (is_identity d (bwd d S k)) h in
        let s : some k ≡ true = lt-ltb 0 (length (slices_over d gs k)) (some_where_hits d gs k
        (hit ((is_identity_decides d (fwd d S k)).0 r.0) ((is_identity_decides d (bwd d S k)).0 r.1))) in
        subst (λ (t : Bool). (not t || some k) ≡ true) (sym h) s)
    | inr h ↦ subst (λ (t : Bool). (not t || some k) ≡ true) (sym h) refl
  ]

  decided_step : (is_reduced (suc d) S gs ≡ true) ↔ ReducedFor keep.Free (suc d) S gs
  decided_step = (
    λ h. (let p = and_parts (list_all reg_test (upto (suc n)) && list_all sing_test (upto n)) (list_all (is_hit_if_flat d S gs) (upto n)) h in
        let q = and_parts (list_all reg_test (upto (suc n))) (list_all sing_test (upto n)) p.0 in
        record {
          regs = λ j l. (reg_decided j).0 (all_in reg_test (upto (suc n)) j q.0 (in_upto (suc n) j (omega arith)));
          sings = λ k l. (sing_decided k).0 (all_in sing_test (upto n) k q.1 (in_upto n k l));
          hit = λ k l. hit_tested k (all_in (is_hit_if_flat d S gs) (upto n) k p.1 (in_upto n k l));
        }),
    λ r. and_from (list_all reg_test (upto (suc n)) && list_all sing_test (upto n)) (list_all (is_hit_if_flat d S gs) (upto n))
        (and_from (list_all reg_test (upto (suc n))) (list_all sing_test (upto n))
        (from_all_in reg_test (upto (suc n)) (λ j c. let l = from_upto (suc n) j c in (reg_decided j).1 (r.regs j (omega arith))))
        (from_all_in sing_test (upto n) (λ k c. (sing_decided k).1 (r.sings k (from_upto n k c)))))
        (from_all_in (is_hit_if_flat d S gs) (upto n) (λ k c. test_hit k (r.hit k (from_upto n k c)))),
  )

pub reduced_is_decided : (d : ℕ) → ReducedIsDecided d
reduced_is_decided zero = λ S gs. (λ h. tt, λ r. refl)
reduced_is_decided (suc d) = decided_step d (reduced_is_decided d)

-- ---- certificates

pub certificates_are_exact : (d : ℕ) → CertificatesAreExact d
certificates_are_exact d T S legs gs a = (
  λ c. (
    c.target,
    c.valid_legs,
    reduced_means_least d T S legs gs a c.valid_legs (shape_means_degeneracy d S T a c.source c.target c.shape) c.factors c.reduced,
    c.factors,
  ),
  λ p. record {
    target = p.0;
    valid_legs = p.1;
    source = p.2.valid;
    shape = degeneracies_have_shape d S T a p.2.degeneracy;
    factors = p.3;
    reduced = least_is_reduced d T S legs gs a p.1 p.2 p.3;
  },
)

pub normal_forms_have_certificates : (d : ℕ) → NormalFormsHaveCertificates d
normal_forms_have_certificates d T legs vT vl =
    (certificates_are_exact d T (normal_form keep.Free d T legs).source legs (factor_legs d (normal_form keep.Free d T legs).arrow legs) (normal_form keep.Free d T legs).arrow).1
    (vT, vl, normal_forms_are_least d T legs vT vl, legs_factor_through_normal_forms d T legs vT vl)
