-- The factors of the slices of the legs are the slices of the factors of the legs, so the assembled diagram is reduced
-- where its parts are.
use Rattle.std.proofs.Common.{◌≡◌, ℕ, zero, suc, ◌<◌, ◌≤◌, ◌⊎◌, List, length, get_or, refl, sym, ap, ◌∙◌, subst, arith, inl, inr}
use Rattle.diagram_terms.specs.declared.place.Keep.TheVariants as keep
use Rattle.diagram_terms.specs.Family.{Dia, Arr, reg, height, arrow_reg, arrow_sing}
use Rattle.diagram_terms.specs.Dual.{dual}
use Rattle.diagram_terms.specs.Identity.{IsIdentity}
use Rattle.diagram_terms.specs.Least.{Leg, reg_leg, sing_leg, fwd_leg, bwd_leg, Hits, IsRegularSlice, IsSliceOver, LeadsInto, Reduced}
use Rattle.diagram_terms.proofs.Injections.{increasing-dual_same}
use Rattle.map_laws.proofs.ValidParts.{composite-dual}
use Rattle.diagram_terms.specs.Factors.{factor_through, factor_leg, IsFactorOf}
use Rattle.diagram_terms.specs.NormalForms.{Parts, reg_part, sing_part, fwd_way, bwd_way, fwd_between, bwd_between, assembled}
use Rattle.normal_form_laws.proofs.AssembledParts.{stand, stand_within, stand-dual, assembled-sings_len, assembled-reg, assembled-sing, assembled-fwd, assembled-bwd, arrow-sings_len, arrow-reg, arrow-sing, arrow-over}
use Rattle.normal_form_laws.proofs.Assembled.{GoodParts, kept_within, left_of, right_of, arrow_valid, legs_factor}
use Rattle.normal_form_laws.proofs.FactorParts.{factor-height, factor-reg, factor-sing}

pub same_legs : (d : ℕ) (x y : Leg d) → x.source ≡ y.source → x.arrow ≡ y.arrow → x ≡ y
same_legs d x y p q = λ i. record { source = p i; arrow = q i }

-- ---- what is reduced for some legs is so for more

abbrev ReducedForMore : ℕ → Type 1
ReducedForMore d = (S : Dia d) (G H : Leg d → Type 0) → ((g : Leg d) → G g → H g) → Reduced keep.Free d S G → Reduced keep.Free d S H

pub hits_more : (d : ℕ) (G H : Leg (suc d) → Type 0) (k : ℕ) → ((g : Leg (suc d)) → G g → H g) → Hits d G k → Hits d H k
hits_more d G H k more h = record { g = h.g; is_leg = more h.g h.is_leg; i = h.i; within = h.within; goes = h.goes }

pub leads_into_more : (d : ℕ) (S : Dia (suc d)) (G H : Leg (suc d) → Type 0) (k : ℕ) → ((g : Leg (suc d)) → G g → H g)
    → (b : Leg d) → LeadsInto d S G k b → LeadsInto d S H k b
unfolding hits_more
leads_into_more d S G H k more b p = elim p [
  | inl s ↦ inl (hits_more d G H k more s.0, s.1)
  | inr e ↦ inr e
]

more_step : (d : ℕ) → ReducedForMore d → ReducedForMore (suc d)
more_step d ih S G H more r = record {
  regs = λ j l. ih _ _ _ (λ b p. (p.0, more p.0 p.1, p.2)) (r.regs j l);
  sings = λ k l. ih _ _ _ (leads_into_more d S G H k more) (r.sings k l);
  hit = λ k l f b. hits_more d G H k more (r.hit k l f b);
}

pub reduced_more : (d : ℕ) → ReducedForMore d
reduced_more zero S G H more r = tt
reduced_more (suc d) S G H more r = more_step d (reduced_more d) S G H more r

module _ (d : ℕ) (T : Dia (suc d)) (G : Leg (suc d) → Type 0) (p : Parts d) (kept : List ℕ) (r : GoodParts d T G p kept) where
  abbrev n : ℕ
  n = length T.sings

  abbrev N : Dia (suc d)
  N = (assembled d T p kept).source

  abbrev D : Arr (suc d)
  D = (assembled d T p kept).arrow

  -- the legs into N by which the legs factor
  abbrev pub F : Leg (suc d) → Type 0
  F b = IsFactorOf (suc d) D G b

  -- ---- the regular slices

  factor-dual : (g : Leg (suc d)) → G g → (j : ℕ) → j ≤ length kept
      → dual g.arrow.heights (stand kept n j) ≡ dual (factor_through (suc d) D g.arrow).heights j
  factor-dual g q j l =
      let c : Arr (suc d) = factor_through (suc d) D g.arrow in
      let by = legs_factor d T G p kept r g q in
      let k : ℕ = stand kept n j in
      ap (λ (t : Arr (suc d)). dual t.heights k) (sym by.composite)
      ∙ composite-dual d g.source N T c D by.valid (arrow_valid d T G p kept r) k
      ∙ ap (dual c.heights) (stand-dual kept n r.increasing r.below j l)

  regular_leg : (g : Leg (suc d)) → G g → (j : ℕ) → j ≤ length kept
      → factor_leg d (reg_part d p (stand kept n j)).arrow (reg_leg d g (stand kept n j)) ≡ reg_leg d (factor_leg (suc d) D g) j
  regular_leg g q j l =
      let k : ℕ = stand kept n j in
      let w = stand_within kept n r.increasing r.below j in
      same_legs d _ _ (ap (reg d g.source) (factor-dual g q j l)) (sym (
      factor-reg d D g.arrow j (let a = arrow-sings_len d T p kept in omega arith)
      ∙ ap (λ (m : ℕ). factor_through d (arrow_reg d D m) (arrow_reg d g.arrow m)) (arrow-over d T p kept r.regs_len j)
      ∙ ap (λ (t : Arr d). factor_through d t (arrow_reg d g.arrow k)) (arrow-reg d T p kept k (let a = r.regs_len in omega arith))))

  pub regular_included : (j : ℕ) → j ≤ length kept → (b : Leg d)
      → IsFactorOf d (reg_part d p (stand kept n j)).arrow (λ c. IsRegularSlice d G (stand kept n j) c) b
      → IsRegularSlice d F j b
  regular_included j l b x =
      let k : ℕ = stand kept n j in
      let c = x.1 in
      let g : Leg (suc d) = c.0 in
      (factor_leg (suc d) D g, (g, c.1, refl), x.2 ∙ ap (factor_leg d (reg_part d p k).arrow) c.2 ∙ regular_leg g c.1 j l)

  -- ---- the singular slices

  singular_leg : (g : Leg (suc d)) → G g → (m i : ℕ) → m < length g.source.sings → i < length kept → height d g.arrow m ≡ get_or kept i 0
      → (height d (factor_through (suc d) D g.arrow) m ≡ i)
      × (factor_leg d (sing_part d p (get_or kept i 0)).arrow (sing_leg d g m) ≡ sing_leg d (factor_leg (suc d) D g) m)
  singular_leg g q m i lm li at =
      let v = (r.legs g q).arrow in
      let back : dual kept (height d g.arrow m) ≡ i = ap (dual kept) at ∙ increasing-dual_same kept r.increasing i li in (
        factor-height d D g.arrow m (let a = v.heights_len in omega arith) ∙ back,
        same_legs d _ _ refl (sym (
            factor-sing d D g.arrow m (let a = v.sings_len in omega arith)
            ∙ ap (λ (t : ℕ). factor_through d (arrow_sing d D t) (arrow_sing d g.arrow m)) back
            ∙ ap (λ (t : Arr d). factor_through d t (arrow_sing d g.arrow m)) (arrow-sing d T p kept i li))),
      )

  pub hit_included : (i : ℕ) → i < length kept → Hits d G (get_or kept i 0) → Hits d F i
  hit_included i li h = record {
    g = factor_leg (suc d) D h.g;
    is_leg = (h.g, h.is_leg, refl);
    i = h.i;
    within = h.within;
    goes = (singular_leg h.g h.is_leg h.i i h.within li h.goes).0;
  }

  -- what leads into T.s(k): a slice of a leg over k, or one of the two composites from the neighbours
  abbrev pub Leads : ℕ → Leg d → Type 0
  Leads k c = IsSliceOver d G k c ⊎ ((c ≡ fwd_way d T p.regs k) ⊎ (c ≡ bwd_way d T p.regs k))

  pub singular_included : (i : ℕ) → i < length kept → (b : Leg d)
      → IsFactorOf d (sing_part d p (get_or kept i 0)).arrow (Leads (get_or kept i 0)) b → LeadsInto d N F i b
  unfolding hit_included
  singular_included i li b x =
      let k : ℕ = get_or kept i 0 in
      let e : Arr d = (sing_part d p k).arrow in
      elim x.1 [
        | inl s ↦ inl (
          hit_included i li s.0,
          x.2 ∙ ap (factor_leg d e) s.1 ∙ (singular_leg s.0.g s.0.is_leg s.0.i i s.0.within li s.0.goes).1,
        )
        | inr w ↦ inr (elim w [
          | inl s ↦ inl (x.2 ∙ ap (factor_leg d e) s
              ∙ same_legs d _ (fwd_leg d N i) (sym (left_of d T G p kept r i li)) (sym (assembled-fwd d T p kept i li)))
          | inr s ↦ inr (x.2 ∙ ap (factor_leg d e) s
              ∙ same_legs d _ (bwd_leg d N i) (sym (right_of d T G p kept r i li)) (sym (assembled-bwd d T p kept i li)))
        ])
      ]

  -- ---- all of it

  pub assembled_reduced
      : ((k : ℕ) → k ≤ n → Reduced keep.Free d (reg_part d p k).source (λ b. IsFactorOf d (reg_part d p k).arrow (λ c. IsRegularSlice d G k c) b))
      → ((k : ℕ) → k < n → Reduced keep.Free d (sing_part d p k).source (λ b. IsFactorOf d (sing_part d p k).arrow (Leads k) b))
      → ((i : ℕ) → i < length kept → IsIdentity d (fwd_between d T p (get_or kept i 0)) → IsIdentity d (bwd_between d T p (get_or kept i 0))
      → Hits d G (get_or kept i 0))
      → Reduced keep.Free (suc d) N F
  assembled_reduced regs sings hit =
      let m = assembled-sings_len d T p kept in
      record {
        regs = λ j l.
            let lj : j ≤ length kept = omega arith in
            let k : ℕ = stand kept n j in
            subst (λ (t : Dia d). Reduced keep.Free d t (λ b. IsRegularSlice d F j b)) (sym (assembled-reg d T p kept j lj))
            (reduced_more d _ _ _ (regular_included j lj) (regs k (stand_within kept n r.increasing r.below j)));
        sings = λ i l.
            let li : i < length kept = omega arith in
            subst (λ (t : Dia d). Reduced keep.Free d t (λ b. LeadsInto d N F i b)) (sym (assembled-sing d T p kept i li))
            (reduced_more d _ _ _ (singular_included i li) (sings (get_or kept i 0) (kept_within d T G p kept r i li)));
        hit = λ i l f b.
            let li : i < length kept = omega arith in
            hit_included i li (hit i li (subst (IsIdentity d) (assembled-fwd d T p kept i li) f)
            (subst (IsIdentity d) (assembled-bwd d T p kept i li) b));
      }
