-- A valid plain arrow into a diagram that is an identity diagram at some depth comes out of such a diagram.
use Rattle.std.proofs.Common.{◌≡◌, ℕ, zero, suc, ◌<◌, ◌≤◌, length, sym, ap, ◌∙◌, subst, arith, inl, inr}
use Rattle.std.proofs.lemmas.Bool.{cases_lt}
use Rattle.diagram_terms.specs.Family.{Dia, Arr, reg, sing, fwd, bwd, height, arrow_sing}
use Rattle.diagram_terms.specs.Dual.{upto}
use Rattle.diagram_terms.specs.Composite.{ident, identity_diagram}
use Rattle.diagram_terms.specs.Identity.{IsIdentity}
use Rattle.diagram_terms.specs.Plain.{PlainArrow, Plain}
use Rattle.diagram_terms.specs.Valid.{ValidArrow, Valid}
use Rattle.diagram_terms.proofs.Duals.{length-upto, same_numbers}
use Rattle.diagram_terms.proofs.Parts.{ident-regs_len, ident-sings_len, ident-reg, ident-sing}
use Rattle.map_laws.proofs.IdentityShapes.{shape_means_identity}
use Rattle.map_laws.proofs.ValidParts.{height_within}
use Rattle.plain_laws.proofs.PlainEnds.{plain_arrows_unfold, dual-target}
use Rattle.diagram_terms.specs.Constants.{above, ConstantArrow, Constant}
use Rattle.typing_laws.specs.Laws.{ConstantSources}

-- the identity of a constant diagram is constant
constant_identity : (d : ℕ) (M : Dia d) (t : ℕ) (D : Dia (above d t)) → Valid (above d t) D → Constant d M t D
    → ConstantArrow d M t (ident (above d t) D)
constant_identity d M zero D v c = ap (ident d) c
constant_identity d M (suc t) D v c =
    let n : ℕ = above d t in
    let l1 = v.regs_len in
    let l2 = ident-regs_len n D in
    let l3 = ident-sings_len n D in
    record {
      regs = λ j l. rw (ident-reg n D j (omega arith)) (constant_identity d M t (reg n D j) (v.regs j (omega arith)) (c.regs j (omega arith)));
      sings = λ i l. rw (ident-sing n D i (omega arith)) (constant_identity d M t (sing n D i) (v.sings i (omega arith)) (c.sings i (omega arith)));
    }

-- a valid plain arrow into a diagram without heights is an identity
flat_identity : (d : ℕ) (A B : Dia (suc d)) (g : Arr (suc d)) → length B.sings ≡ 0 → ValidArrow (suc d) A B g → PlainArrow (suc d) g
    → IsIdentity (suc d) g
flat_identity d A B g none vg pg =
    let hl = vg.heights_len in
    let rl = vg.regs_len in
    let sl = vg.sings_len in
    let empty : length A.sings ≡ 0 = elim (cases_lt 0 (length A.sings)) [
      | inl p ↦ absurd (let q = height_within d A B g vg 0 p in omega arith)
      | inr p ↦ omega arith
    ] in
    record {
      heights = let u = length-upto (length g.sings) in same_numbers g.heights (upto (length g.sings)) (omega arith) (λ i l. absurd (omega arith));
      regs_len = omega arith;
      regs = pg.regs;
      sings = λ i l. absurd (omega arith);
    }

module _ (d : ℕ) (M : Dia d) where
  abbrev I : Dia (suc d)
  I = identity_diagram d M

  abbrev Holds : ℕ → Type 0
  Holds t = (A B : Dia (above (suc d) t)) (g : Arr (above (suc d) t))
      → Valid (above (suc d) t) A → Plain (above (suc d) t) A → Valid (above (suc d) t) B
      → ValidArrow (above (suc d) t) A B g → PlainArrow (above (suc d) t) g → Constant (suc d) I t B
      → Constant (suc d) I t A × ConstantArrow (suc d) I t g

  source_base : Holds zero
  source_base A B g vA pA vB vg pg c =
      let none : length B.sings ≡ 0 = ap (λ (X : Dia (suc d)). length X.sings) c in
      let s = shape_means_identity (suc d) A B g vA vB vg (flat_identity d A B g none vg pg) in
      let e = s.0 ∙ c in
      (e, s.1 ∙ ap (ident (suc d)) e)

  source_step : (t : ℕ) → Holds t → Holds (suc t)
  source_step t ih A B g vA pA vB vg pg c =
      let n : ℕ = above (suc d) t in
      let a1 = vg.heights_len in
      let a2 = vg.regs_len in
      let a3 = vg.sings_len in
      let x1 = vA.regs_len in
      let x2 = vA.fwds_len in
      let x3 = vA.bwds_len in
      let at_sing : (i : ℕ) → i < length A.sings → Constant (suc d) I t (sing n A i) × ConstantArrow (suc d) I t (arrow_sing n g i) =
      λ i l. (let h = height_within n A B g vg i l in
      ih (sing n A i) (sing n B (height n g i)) (arrow_sing n g i) (vA.sings i l) (pA.sings i l) (vB.sings (height n g i) h)
      (vg.sings i l) (pg.sings i (omega arith)) (c.sings (height n g i) h)) in
      let at_fwd : (k : ℕ) → k < length A.sings → Constant (suc d) I t (reg n A k) × ConstantArrow (suc d) I t (fwd n A k) =
      λ k l. ih (reg n A k) (sing n A k) (fwd n A k) (vA.regs k (omega arith)) (pA.regs k (omega arith)) (vA.sings k l)
      (vA.fwds k l) (pA.fwds k (omega arith)) (at_sing k l).0 in
      let at_bwd : (k : ℕ) → k < length A.sings → Constant (suc d) I t (reg n A (suc k)) × ConstantArrow (suc d) I t (bwd n A k) =
      λ k l. ih (reg n A (suc k)) (sing n A k) (bwd n A k) (vA.regs (suc k) l) (pA.regs (suc k) (omega arith)) (vA.sings k l)
      (vA.bwds k l) (pA.bwds k (omega arith)) (at_sing k l).0 in
      let last : Constant (suc d) I t (reg n A (length A.sings)) =
      let m : ℕ = length B.sings in
      let same = (plain_arrows_unfold n A B g vA vB vg pg m (omega arith)).0 in
      subst (Constant (suc d) I t) (sym same ∙ ap (reg n A) (dual-target n A B g vg)) (c.regs m (omega arith)) in (
        record {
          regs = λ j l. elim (cases_lt j (length A.sings)) [
            | inl p ↦ (at_fwd j p).0
            | inr p ↦ subst (λ (m : ℕ). Constant (suc d) I t (reg n A m)) (omega arith) last
          ];
          sings = λ i l. (at_sing i l).0;
          fwds = λ k l. (at_fwd k l).1;
          bwds = λ k l. (at_bwd k l).1;
        },
        record {
          regs = λ j l.
              let lj : j ≤ length B.sings = omega arith in
              subst (ConstantArrow (suc d) I t) (sym (plain_arrows_unfold n A B g vA vB vg pg j lj).1)
              (constant_identity (suc d) I t (reg n B j) (vB.regs j lj) (c.regs j lj));
          sings = λ i l. (at_sing i (omega arith)).1;
        },
      )

  source_holds : (t : ℕ) → Holds t
  source_holds zero = source_base
  source_holds (suc t) = source_step t (source_holds t)

pub constant_sources : (d : ℕ) → ConstantSources d
constant_sources d M t A B g = source_holds d M t A B g
