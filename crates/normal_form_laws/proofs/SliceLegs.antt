-- The slices of some legs and what leads into a singular slice, as lists; and when a height is kept.
use Rattle.std.proofs.Common.{◌≡◌, ℕ, suc, ◌<◌, List, [], ◌∷◌, ◌++◌, ◌⊎◌, length, get_or, map, Bool, true, not, ◌&&◌, ◌||◌, nat_eq, nat_lt, refl, sym, subst, arith, inl, inr, eqb-true, eq-eqb}
use Rattle.std.specs.List.{Contains}
use Rattle.std.proofs.lemmas.Bool.{cases_Bool, cases_lt, lt-ltb, ltb-true, and_parts, and_from}
use Rattle.std.proofs.lemmas.List.{get_or_default}
use Rattle.std.proofs.lemmas.List.Elements.{Contains-append_left, Contains-append_right, Contains-append_cases}
use Rattle.std.proofs.lemmas.List.Kept.{AllPairs-filter}
use Rattle.diagram_terms.specs.Family.{Dia, height}
use Rattle.diagram_terms.specs.Dual.{IsIncreasing, AreBelow, upto, dual}
use Rattle.diagram_terms.specs.Identity.{IsIdentity}
use Rattle.diagram_terms.specs.Loose.{is_identity}
use Rattle.diagram_terms.specs.Least.{Leg, leg_at, reg_leg, sing_leg, Hits, IsOneOf, IsRegularSlice, IsSliceOver, fwd_leg, bwd_leg, LeadsInto}
use Rattle.diagram_terms.proofs.Injections.{increasing-upto, increasing_mono, contains_at, missed_where_dual_stays, dual_rises_where_hit}
use Rattle.diagram_terms.proofs.LooseTests.{is_identity_decides}
use Rattle.diagram_terms.specs.Certificates.{leads_into}
use Rattle.diagram_terms.specs.NormalForms.{regular_slices, heights_over, slices_over, Parts, fwd_way, bwd_way, ways_into, fwd_between, bwd_between, is_kept, kept_heights}
use Rattle.normal_form_laws.proofs.Members.{in_head, in_tail, in_cases, in_none, in_map, from_map, in_flat_map, from_flat_map, in_filter, from_filter, in_upto, from_upto, one_of, from_one_of}

module _ (d : ℕ) (legs : List (Leg (suc d))) where
  abbrev G : Leg (suc d) → Type 0
  G g = IsOneOf (suc d) legs g

  -- ---- the regular slices

  pub in_regular_slices : (j : ℕ) (b : Leg d) → IsRegularSlice d G j b → IsOneOf d (regular_slices d legs j) b
  in_regular_slices j b p = one_of d (regular_slices d legs j) b (subst (Contains (regular_slices d legs j)) (sym p.2)
      (in_map (λ g. reg_leg d g j) legs p.0 (from_one_of (suc d) legs p.0 p.1)))

  pub from_regular_slices : (j : ℕ) (b : Leg d) → IsOneOf d (regular_slices d legs j) b → IsRegularSlice d G j b
  from_regular_slices j b p =
      let r = from_map (λ g. reg_leg d g j) legs b (from_one_of d (regular_slices d legs j) b p) in
      (r.0, one_of (suc d) legs r.0 r.1, sym r.2)

  -- ---- the slices over k

  in_heights_over : (g : Leg (suc d)) (k i : ℕ) → i < length g.source.sings → height d g.arrow i ≡ k → Contains (heights_over d g k) i
  in_heights_over g k i l e = in_filter (λ i. nat_eq (height d g.arrow i) k) (upto (length g.source.sings)) i
      (in_upto (length g.source.sings) i l) (eq-eqb (height d g.arrow i) k e)

  from_heights_over : (g : Leg (suc d)) (k i : ℕ) → Contains (heights_over d g k) i → (i < length g.source.sings) × (height d g.arrow i ≡ k)
  from_heights_over g k i c =
      let r = from_filter (λ i. nat_eq (height d g.arrow i) k) (upto (length g.source.sings)) i c in
      (from_upto (length g.source.sings) i r.0, eqb-true (height d g.arrow i) k r.1)

  in_slices : (k : ℕ) (b : Leg d) → IsSliceOver d G k b → Contains (slices_over d legs k) b
  in_slices k b p =
      let h = p.0 in
      subst (Contains (slices_over d legs k)) (sym p.1)
      (in_flat_map (λ g. map (sing_leg d g) (heights_over d g k)) legs h.g (sing_leg d h.g h.i) (from_one_of (suc d) legs h.g h.is_leg)
      (in_map (sing_leg d h.g) (heights_over d h.g k) h.i (in_heights_over h.g k h.i h.within h.goes)))

  from_slices : (k : ℕ) (b : Leg d) → Contains (slices_over d legs k) b → IsSliceOver d G k b
  from_slices k b c =
      let r = from_flat_map (λ g. map (sing_leg d g) (heights_over d g k)) legs b c in
      let s = from_map (sing_leg d r.0) (heights_over d r.0 k) b r.2 in
      let t = from_heights_over r.0 k s.0 s.1 in
      (record { g = r.0; is_leg = one_of (suc d) legs r.0 r.1; i = s.0; within = t.0; goes = t.1 }, sym s.2)

  -- ---- the slices over k, and two more legs

  abbrev Also : Leg d → Leg d → ℕ → Leg d → Type 0
  Also f w k b = IsSliceOver d G k b ⊎ ((b ≡ f) ⊎ (b ≡ w))

  in_two_more : (f w : Leg d) (k : ℕ) (b : Leg d) → Also f w k b → IsOneOf d (slices_over d legs k ++ f ∷ w ∷ []) b
  in_two_more f w k b p = one_of d (slices_over d legs k ++ f ∷ w ∷ []) b (elim p [
    | inl s ↦ Contains-append_left (slices_over d legs k) (f ∷ w ∷ []) b (in_slices k b s)
    | inr q ↦ Contains-append_right (slices_over d legs k) (f ∷ w ∷ []) b (elim q [
      | inl e ↦ subst (Contains (f ∷ w ∷ [])) (sym e) (in_head f (w ∷ []))
      | inr e ↦ subst (Contains (f ∷ w ∷ [])) (sym e) (in_tail f w (w ∷ []) (in_head w []))
    ])
  ])

  from_two_more : (f w : Leg d) (k : ℕ) (b : Leg d) → IsOneOf d (slices_over d legs k ++ f ∷ w ∷ []) b → Also f w k b
  from_two_more f w k b p =
      elim (Contains-append_cases (slices_over d legs k) (f ∷ w ∷ []) b (from_one_of d (slices_over d legs k ++ f ∷ w ∷ []) b p)) [
        | inl c ↦ inl (from_slices k b c)
        | inr c ↦ elim (in_cases f b (w ∷ []) c) [
          | inl e ↦ inr (inl (sym e))
          | inr c2 ↦ elim (in_cases w b [] c2) [
            | inl e ↦ inr (inr (sym e))
            | inr c3 ↦ absurd (in_none b c3)
          ]
        ]
      ]

  -- what leads into T.s(k) from the normal forms of its neighbours, and by the legs of T itself

  pub in_ways : (T : Dia (suc d)) (regs : List (Leg d)) (k : ℕ) (b : Leg d)
      → IsSliceOver d G k b ⊎ ((b ≡ fwd_way d T regs k) ⊎ (b ≡ bwd_way d T regs k)) → IsOneOf d (ways_into d T legs regs k) b
  in_ways T regs k b p = in_two_more (fwd_way d T regs k) (bwd_way d T regs k) k b p

  pub from_ways : (T : Dia (suc d)) (regs : List (Leg d)) (k : ℕ) (b : Leg d)
      → IsOneOf d (ways_into d T legs regs k) b → IsSliceOver d G k b ⊎ ((b ≡ fwd_way d T regs k) ⊎ (b ≡ bwd_way d T regs k))
  from_ways T regs k b p = from_two_more (fwd_way d T regs k) (bwd_way d T regs k) k b p

  pub in_leads : (T : Dia (suc d)) (k : ℕ) (b : Leg d) → LeadsInto d T G k b → IsOneOf d (leads_into d T legs k) b
  in_leads T k b p = in_two_more (fwd_leg d T k) (bwd_leg d T k) k b p

  pub from_leads : (T : Dia (suc d)) (k : ℕ) (b : Leg d) → IsOneOf d (leads_into d T legs k) b → LeadsInto d T G k b
  from_leads T k b p = from_two_more (fwd_leg d T k) (bwd_leg d T k) k b p

  -- ---- whether a leg has a slice over k

  pub hits_where_some : (k : ℕ) → 0 < length (slices_over d legs k) → Hits d G k
  hits_where_some k l = (from_slices k (leg_at d (slices_over d legs k) 0)
      (from_one_of d (slices_over d legs k) (leg_at d (slices_over d legs k) 0) (0, l, refl))).0

  pub some_where_hits : (k : ℕ) → Hits d G k → 0 < length (slices_over d legs k)
  some_where_hits k h = let l = (in_slices k (sing_leg d h.g h.i) (h, refl)).1 in omega arith

  -- ---- the kept heights

  module _ (T : Dia (suc d)) (p : Parts d) where
    abbrev kept : List ℕ
    kept = kept_heights d T legs p

    abbrev flat : ℕ → Bool
    flat k = is_identity d (fwd_between d T p k) && is_identity d (bwd_between d T p k)

    abbrev some : ℕ → Bool
    some k = nat_lt 0 (length (slices_over d legs k))

    pub kept_increasing : IsIncreasing kept
    kept_increasing = record {
      increases = λ i j l k. AllPairs-filter (λ (x y : ℕ). x < y) (is_kept d T legs p) (upto (length T.sings))
          (λ i j z l k. let a = (increasing-upto (length T.sings)).increases i j l k in
          let b = get_or_default (upto (length T.sings)) i z 0 (omega arith) in
          let c = get_or_default (upto (length T.sings)) j z 0 k in omega arith) i j 0 l k;
    }

    in_kept : (k : ℕ) → Contains kept k → (k < length T.sings) × (is_kept d T legs p k ≡ true)
    in_kept k c = let r = from_filter (is_kept d T legs p) (upto (length T.sings)) k c in (from_upto (length T.sings) k r.0, r.1)

    pub kept_below : AreBelow kept (length T.sings)
    kept_below = record { below = λ i l. (in_kept (get_or kept i 0) (contains_at kept i (get_or kept i 0) l refl)).0 }

    -- a height to which a height of a leg goes is kept
    pub kept_where_hit : (k : ℕ) → k < length T.sings → Hits d G k → dual kept k < dual kept (suc k)
    kept_where_hit k l h = dual_rises_where_hit kept (increasing_mono kept kept_increasing) k
        (in_filter (is_kept d T legs p) (upto (length T.sings)) k (in_upto (length T.sings) k l)
        (subst (λ (t : Bool). (not (flat k) || t) ≡ true) (sym (lt-ltb 0 (length (slices_over d legs k)) (some_where_hits k h)))
        (elim (cases_Bool (not (flat k))) [
          | inl e ↦ subst (λ (t : Bool). (t || true) ≡ true) (sym e) refl
          | inr e ↦ subst (λ (t : Bool). (t || true) ≡ true) (sym e) refl
        ])))

    -- at a height that is not kept both legs are identities
    pub flat_where_dropped : (k : ℕ) → k < length T.sings → dual kept k ≡ dual kept (suc k)
        → IsIdentity d (fwd_between d T p k) × IsIdentity d (bwd_between d T p k)
    flat_where_dropped k l e = elim (cases_Bool (flat k)) [
      | inl h ↦ (let r = and_parts (is_identity d (fwd_between d T p k)) (is_identity d (bwd_between d T p k)) h in
          ((is_identity_decides d (fwd_between d T p k)).0 r.0, (is_identity_decides d (bwd_between d T p k)).0 r.1))
      | inr h ↦ absurd (missed_where_dual_stays kept (increasing_mono kept kept_increasing) k e
          (in_filter (is_kept d T legs p) (upto (length T.sings)) k (in_upto (length T.sings) k l)
          (subst (λ (t : Bool). (not t || some k) ≡ true) (sym h) refl)))
    ]

    -- a kept height at which both are identities is hit
    pub hit_where_flat : (i : ℕ) → i < length kept → IsIdentity d (fwd_between d T p (get_or kept i 0))
        → IsIdentity d (bwd_between d T p (get_or kept i 0)) → Hits d G (get_or kept i 0)
    hit_where_flat i l f b =
        let k : ℕ = get_or kept i 0 in
        let t = (in_kept k (contains_at kept i k l refl)).1 in
        let both : flat k ≡ true = and_from (is_identity d (fwd_between d T p k)) (is_identity d (bwd_between d T p k))
        ((is_identity_decides d (fwd_between d T p k)).1 f) ((is_identity_decides d (bwd_between d T p k)).1 b) in
        let s : some k ≡ true = subst (λ (t : Bool). (not t || some k) ≡ true) both t in
        elim (cases_lt 0 (length (slices_over d legs k))) [
          | inl q ↦ hits_where_some k q
          | inr q ↦ absurd (omega (arith, ltb-true 0 (length (slices_over d legs k)) s))
        ]
