-- A degeneracy a : S → T whose source is reduced for some legs into S, and a rival e : R → T: the legs, followed by a,
-- factor through e.
use Rattle.std.proofs.Common.{◌≡◌, ℕ, suc, ◌<◌, ◌≤◌, length, sym, ap, ◌∙◌, subst, arith, inl, inr}
use Rattle.diagram_terms.specs.declared.place.Keep.TheVariants as keep
use Rattle.diagram_terms.specs.Family.{Dia, Arr, reg, sing, height, arrow_reg, arrow_sing}
use Rattle.diagram_terms.specs.Dual.{dual}
use Rattle.diagram_terms.specs.Composite.{comp}
use Rattle.diagram_terms.specs.Valid.{ValidArrow, Valid}
use Rattle.diagram_terms.specs.Degeneracy.{DegeneracyByShape}
use Rattle.diagram_terms.specs.Least.{Leg, ValidLeg, Factors, Hits, IsRegularSlice, LeadsInto, Reduced}
use Rattle.diagram_terms.proofs.Duals.{fibre_low, fibre_high}
use Rattle.diagram_terms.proofs.Parts.{comp-height, comp-reg}
use Rattle.map_laws.proofs.ValidParts.{dual_within, height_within, composite-dual}

pub record Rivals (d : ℕ) (S R T : Dia d) (a e : Arr d) (G : Leg d → Type 0) : Type 0 where
  pub vS : Valid d S
  pub vR : Valid d R
  pub vT : Valid d T
  pub qa : DegeneracyByShape d S T a
  pub qe : DegeneracyByShape d R T e
  pub legs : (b : Leg d) → G b → ValidLeg d S b
  pub rival : (b : Leg d) → G b → Factors d b.source R (comp d a b.arrow) e
  pub reduced : Reduced keep.Free d S G

-- then a factors through e
abbrev pub RivalsFactor : ℕ → Type 1
RivalsFactor d = (S R T : Dia d) (a e : Arr d) (G : Leg d → Type 0) → Rivals d S R T a e G → Factors d S R a e

module _ (d : ℕ) (S R T : Dia (suc d)) (a e : Arr (suc d)) (G : Leg (suc d) → Type 0) (r : Rivals (suc d) S R T a e G) where
  -- ---- the slices of the legs, and what leads into a singular slice of S, are valid legs

  pub regular_legs : (j : ℕ) → j ≤ length S.sings → (b : Leg d) → IsRegularSlice d G j b → ValidLeg d (reg d S j) b
  regular_legs j l b p =
      let v = r.legs p.0 p.1 in
      subst (ValidLeg d (reg d S j)) (sym p.2) (record {
        source = v.source.regs _ (dual_within d p.0.source S p.0.arrow v.arrow j);
        arrow = v.arrow.regs j l;
      })

  pub legs_into : (k : ℕ) → k < length S.sings → (b : Leg d) → LeadsInto d S G k b → ValidLeg d (sing d S k) b
  legs_into k l b p = elim p [
    | inl x ↦ (
        let h = x.0 in
        let v = r.legs h.g h.is_leg in
        subst (ValidLeg d (sing d S k)) (sym x.1) (record {
          source = v.source.sings h.i h.within;
          arrow = subst (λ (m : ℕ). ValidArrow d (sing d h.g.source h.i) (sing d S m) (arrow_sing d h.g.arrow h.i)) h.goes
              (v.arrow.sings h.i h.within);
        }))
    | inr y ↦ elim y [
      | inl x ↦ subst (ValidLeg d (sing d S k)) (sym x) (record { source = r.vS.regs k (omega arith); arrow = r.vS.fwds k l })
      | inr x ↦ subst (ValidLeg d (sing d S k)) (sym x) (record { source = r.vS.regs (suc k) l; arrow = r.vS.bwds k l })
    ]
  ]

  -- ---- a leg g and its factor h, so that e h is a g

  abbrev pub factor : (g : Leg (suc d)) → G g → Arr (suc d)
  factor g p = (r.rival g p).0

  pub factor-dual : (g : Leg (suc d)) (p : G g) (n : ℕ)
      → dual (factor g p).heights (dual e.heights n) ≡ dual g.arrow.heights (dual a.heights n)
  factor-dual g p n =
      let h = (r.rival g p).1 in
      sym (composite-dual d g.source R T (factor g p) e h.valid r.qe.valid n)
      ∙ ap (λ (t : Arr (suc d)). dual t.heights n) h.composite
      ∙ composite-dual d g.source S T g.arrow a (r.legs g p).arrow r.qa.valid n

  pub factor-reg : (g : Leg (suc d)) (p : G g) (n : ℕ) → n ≤ length T.sings
      → comp d (arrow_reg d e n) (arrow_reg d (factor g p) (dual e.heights n))
      ≡ comp d (arrow_reg d a n) (arrow_reg d g.arrow (dual a.heights n))
  factor-reg g p n l =
      let h = (r.rival g p).1 in
      sym (comp-reg d e (factor g p) n (let x = r.qe.valid.regs_len in omega arith))
      ∙ ap (λ (t : Arr (suc d)). arrow_reg d t n) h.composite
      ∙ comp-reg d a g.arrow n (let x = r.qa.valid.regs_len in omega arith)

  pub factor-height : (g : Leg (suc d)) (p : G g) (i : ℕ) → i < length g.source.sings
      → height d e (height d (factor g p) i) ≡ height d a (height d g.arrow i)
  factor-height g p i l =
      let h = (r.rival g p).1 in
      sym (comp-height d e (factor g p) i (let x = h.valid.heights_len in omega arith))
      ∙ ap (λ (t : Arr (suc d)). height d t i) h.composite
      ∙ comp-height d a g.arrow i (let x = (r.legs g p).arrow.heights_len in omega arith)

  -- a height of S that a leg hits goes to a height of T that e hits
  pub hit_by_rival : (k : ℕ) → Hits d G k → dual e.heights (height d a k) < dual e.heights (suc (height d a k))
  hit_by_rival k x =
      let h = (r.rival x.g x.is_leg).1 in
      let at : height d e (height d (factor x.g x.is_leg) x.i) ≡ height d a k =
      factor-height x.g x.is_leg x.i x.within ∙ ap (height d a) x.goes in
      let within = height_within d x.g.source R (factor x.g x.is_leg) h.valid x.i x.within in
      let low = fibre_low e.heights r.qe.valid.monotone _ (height d a k) at in
      let high = fibre_high e.heights r.qe.valid.monotone _ (height d a k) (let l = r.qe.valid.heights_len in omega arith) at in
      omega arith

  -- the regular slice n of a factors through that of e
  pub reg_factor : RivalsFactor d → (n : ℕ) → n ≤ length T.sings
      → Factors d (reg d S (dual a.heights n)) (reg d R (dual e.heights n)) (arrow_reg d a n) (arrow_reg d e n)
  reg_factor ih n l =
      let j : ℕ = dual a.heights n in
      let q : ℕ = dual e.heights n in
      let lj : j ≤ length S.sings = dual_within d S T a r.qa.valid n in
      let lq : q ≤ length R.sings = dual_within d R T e r.qe.valid n in
      ih (reg d S j) (reg d R q) (reg d T n) (arrow_reg d a n) (arrow_reg d e n) (λ b. IsRegularSlice d G j b) (record {
        vS = r.vS.regs j lj;
        vR = r.vR.regs q lq;
        vT = r.vT.regs n l;
        qa = r.qa.regs n l;
        qe = r.qe.regs n l;
        legs = regular_legs j lj;
        rival = λ b p.
            let h : Arr (suc d) = factor p.0 p.1 in
            subst (λ (t : Leg d). Factors d t.source (reg d R q) (comp d (arrow_reg d a n) t.arrow) (arrow_reg d e n)) (sym p.2) (
              arrow_reg d h q,
              record {
                valid = subst (λ (m : ℕ). ValidArrow d (reg d p.0.source m) (reg d R q) (arrow_reg d h q))
                    (factor-dual p.0 p.1 n) ((r.rival p.0 p.1).1.valid.regs q lq);
                composite = factor-reg p.0 p.1 n l;
              },
            );
        reduced = r.reduced.regs j lj;
      })
