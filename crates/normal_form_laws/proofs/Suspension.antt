-- Suspension keeps all rules.
use Rattle.std.proofs.Common.{◌≡◌, ℕ, zero, suc, ◌<◌, ◌≤◌, [], ◌∷◌, refl, sym, ap, ◌∙◌, arith, inl, inr}
use Rattle.diagram_terms.specs.declared.label.Label.{Label}
use Rattle.diagram_terms.specs.Family.{Ends, Dia, Arr, reg, sing, fwd, bwd, height, arrow_reg, arrow_sing}
use Rattle.diagram_terms.specs.Labels.{IsAtMost}
use Rattle.diagram_terms.specs.Dual.{IsIncreasing, dual, after}
use Rattle.diagram_terms.specs.Composite.{comp, ident}
use Rattle.diagram_terms.specs.Identity.{IsIdentity}
use Rattle.diagram_terms.specs.Plain.{PlainArrow}
use Rattle.diagram_terms.specs.Valid.{ValidEnds, ValidArrow, Valid, Commutes}
use Rattle.diagram_terms.specs.Degeneracy.{DegeneracyByShape}
use Rattle.diagram_terms.proofs.Duals.{dual-nil, dual_yes, dual_no}
use Rattle.diagram_terms.proofs.Injections.{increasing_mono}
use Rattle.diagram_terms.specs.Suspension.{suspended, suspended_arrow, north, south, raised, ends_of}
use Rattle.diagram_terms.proofs.Squares.{commutes_by}
use Rattle.normal_form_laws.specs.Carried.{SuspensionCarriesOver}
use Rattle.normal_form_laws.proofs.Carried.{carries_over}
use Rattle.normal_form_laws.proofs.ImageParts.{KeepsAll}
use Rattle.normal_form_laws.proofs.ImageSteps.{next_keeps}

-- ---- the heights of the image of a pair

dual-low : dual (0 ∷ []) 0 ≡ 0
dual-low = dual_no 0 0 [] (omega arith) ∙ dual-nil 0

dual-high : dual (0 ∷ []) 1 ≡ 1
dual-high = dual_yes 0 1 [] (omega arith) ∙ ap suc (dual-nil 1)

one_increases : IsIncreasing (0 ∷ [])
one_increases = record { increases = λ i j l k. absurd (omega arith) }

-- ---- labels

raised_at_most : (x y : Label) → IsAtMost x y → IsAtMost (raised x) (raised y)
raised_at_most x y h = elim h [
  | inl e ↦ inl (ap raised e)
  | inr l ↦ inr (omega arith)
]

only_before : (x y : Label) (f : Ends) → ValidArrow zero x y f → raised f.from ≡ raised f.to → f.from ≡ f.to
only_before x y f v e = elim v.order [
  | inl s ↦ v.from ∙ s ∙ sym v.to
  | inr l ↦ absurd (
      let a : x.dim ≡ y.dim = ap (λ (t : Label). t.dim) (sym v.from) ∙ (let b : suc f.from.dim ≡ suc f.to.dim = ap (λ (t : Label). t.dim) e in
      let c : f.from.dim ≡ f.to.dim = omega arith in c) ∙ ap (λ (t : Label). t.dim) v.to in omega arith)
]

valid_pair : (x : Label) → ValidEnds x x (ends_of x x)
valid_pair x = record { from = refl; to = refl; order = inl refl }

valid_leg : (x y : Label) → x.dim ≡ 0 → ValidEnds x (raised y) (ends_of x (raised y))
valid_leg x y e = record { from = refl; to = refl; order = inr (omega arith) }

-- ---- dimension 0

suspended_valid : (x : Label) → Valid 1 (suspended zero x)
unfolding suspended
suspended_valid x = record {
  regs_len = refl;
  fwds_len = refl;
  bwds_len = refl;
  regs = λ j l. tt;
  sings = λ i l. tt;
  fwds = fwds;
  bwds = bwds;
}
  where
    fwds : (k : ℕ) → k < 1 → ValidArrow 0 (reg 0 (suspended zero x) k) (sing 0 (suspended zero x) k) (fwd 0 (suspended zero x) k)
    fwds zero l = valid_leg north x refl
    fwds (suc k) l = absurd (omega arith)

    bwds : (k : ℕ) → k < 1 → ValidArrow 0 (reg 0 (suspended zero x) (suc k)) (sing 0 (suspended zero x) k) (bwd 0 (suspended zero x) k)
    bwds zero l = valid_leg south x refl
    bwds (suc k) l = absurd (omega arith)

module _ (x y : Label) (f : Ends) (v : ValidArrow zero x y f) where
  abbrev X : Dia 1
  X = suspended zero x

  abbrev Y : Dia 1
  Y = suspended zero y

  abbrev F : Arr 1
  F = suspended_arrow zero f

  image_regs : (j : ℕ) → j ≤ 1 → ValidArrow 0 (reg 0 X (dual F.heights j)) (reg 0 Y j) (arrow_reg 0 F j)
  unfolding suspended suspended_arrow
  image_regs zero l = rw dual-low (valid_pair north)
  image_regs (suc zero) l = rw dual-high (valid_pair south)
  image_regs (suc (suc j)) l = absurd (omega arith)

  image_sings : (i : ℕ) → i < 1 → ValidArrow 0 (sing 0 X i) (sing 0 Y (height 0 F i)) (arrow_sing 0 F i)
  unfolding suspended suspended_arrow
  image_sings zero l = record { from = ap raised v.from; to = ap raised v.to; order = raised_at_most x y v.order }
  image_sings (suc i) l = absurd (omega arith)

  image_squares : (k : ℕ) → k < 1 → Commutes 0 X Y F k
  unfolding suspended suspended_arrow comp
  image_squares zero l =
      let low = dual-low in
      let high = dual-high in
      commutes_by 0 X Y F zero
      (λ e. absurd (omega arith))
      (λ i e p. (let z : i ≡ 0 = omega arith in
      rw z (ap (λ (t : Label). ends_of north (raised t)) (sym v.to))))
      (λ i p e. (let z : i ≡ 0 = omega arith in
      rw z (ap (λ (t : Label). ends_of south (raised t)) (sym v.to))))
      (λ i p e. absurd (omega arith))
  image_squares (suc k) l = absurd (omega arith)

  image_valid : ValidArrow 1 X Y F
  unfolding suspended suspended_arrow
  image_valid = record {
    heights_len = refl;
    regs_len = refl;
    sings_len = refl;
    monotone = increasing_mono (0 ∷ []) one_increases;
    below = record { below = λ i l. (let z : i ≡ 0 = omega arith in rw z (omega arith)) };
    regs = image_regs;
    sings = image_sings;
    squares = image_squares;
  }

  -- where the pair is an identity
  module _ (same : f.from ≡ f.to) where
    degeneracy_regs : (j : ℕ) → j ≤ 1 → DegeneracyByShape 0 (reg 0 X (dual F.heights j)) (reg 0 Y j) (arrow_reg 0 F j)
    unfolding suspended suspended_arrow
    degeneracy_regs zero l = rw dual-low (valid_pair north, refl)
    degeneracy_regs (suc zero) l = rw dual-high (valid_pair south, refl)
    degeneracy_regs (suc (suc j)) l = absurd (omega arith)

    degeneracy_sings : (i : ℕ) → i < 1 → DegeneracyByShape 0 (sing 0 X i) (sing 0 Y (height 0 F i)) (arrow_sing 0 F i)
    unfolding suspended suspended_arrow
    degeneracy_sings zero l = (image_sings 0 (omega arith), ap raised same)
    degeneracy_sings (suc i) l = absurd (omega arith)

    none_missed : (k : ℕ) → k < 1 → dual F.heights k ≡ dual F.heights (suc k) → ⊥
    unfolding suspended_arrow
    none_missed zero l e = absurd (let low = dual-low in let high = dual-high in omega arith)
    none_missed (suc k) l e = absurd (omega arith)

    image_shape : DegeneracyByShape 1 X Y F
    unfolding suspended suspended_arrow
    image_shape = record {
      valid = image_valid;
      increasing = one_increases;
      regs = degeneracy_regs;
      sings = degeneracy_sings;
      missed_fwds = λ k l e. absurd (none_missed k l e);
      missed_bwds = λ k l e. absurd (none_missed k l e);
    }

image_identity : (f : Ends) → f.from ≡ f.to → IsIdentity 1 (suspended_arrow zero f)
unfolding suspended_arrow
image_identity f e = record { heights = refl; regs_len = refl; regs = regs; sings = sings }
  where
    regs : (j : ℕ) → j < 2 → IsIdentity 0 (arrow_reg 0 (suspended_arrow zero f) j)
    regs zero l = refl
    regs (suc zero) l = refl
    regs (suc (suc j)) l = absurd (omega arith)

    sings : (i : ℕ) → i < 1 → IsIdentity 0 (arrow_sing 0 (suspended_arrow zero f) i)
    sings zero l = ap raised e
    sings (suc i) l = absurd (omega arith)

image_plain : (f : Ends) → PlainArrow 1 (suspended_arrow zero f)
unfolding suspended_arrow
image_plain f = record { regs = regs; sings = λ i l. tt }
  where
    regs : (j : ℕ) → j < 2 → IsIdentity 0 (arrow_reg 0 (suspended_arrow zero f) j)
    regs zero l = refl
    regs (suc zero) l = refl
    regs (suc (suc j)) l = absurd (omega arith)

image_only : (x y : Label) (f : Ends) → ValidArrow zero x y f → IsIdentity 1 (suspended_arrow zero f) → f.from ≡ f.to
unfolding suspended_arrow
image_only x y f v j = only_before x y f v (j.sings 0 (omega arith))

-- the legs of the image of a label are no identities
no_identity : (x : Label) (k : ℕ) → k < 1 → IsIdentity 0 (fwd 0 (suspended zero x) k) → ⊥
unfolding suspended
no_identity x zero l e = absurd (let a : 0 ≡ suc x.dim = ap (λ (t : Label). t.dim) e in omega arith)
no_identity x (suc k) l e = absurd (omega arith)

base_keeps : KeepsAll zero 1 (suspended zero) (suspended_arrow zero)
unfolding suspended suspended_arrow comp ident dual after
base_keeps = record {
  diagrams = λ x v. suspended_valid x;
  arrows = λ x y f vx vy v. image_valid x y f v;
  identities = λ x. refl;
  composites = λ x y z f g vf vg. refl;
  still_identities = image_identity;
  only_identities = image_only;
  plain_arrows = λ f p. image_plain f;
  plain_diagrams = λ x p. record { regs = λ j l. tt; sings = λ i l. tt; fwds = λ k l. tt; bwds = λ k l. tt };
  shapes = λ x y f vx vy q. image_shape x y f q.0 q.1;
  reduced = λ x G v vl r. record { regs = λ j l. tt; sings = λ i l. tt; hit = λ k l p q. absurd (no_identity x k l p) };
  plain_reduced = λ x G v vl r. record { regs = tt; sings = λ i l. tt; hit = λ k l p q. absurd (no_identity x k l p) };
}

pub suspension_keeps : (d : ℕ) → KeepsAll d (suc d) (suspended d) (suspended_arrow d)
unfolding suspended suspended_arrow
suspension_keeps zero = base_keeps
suspension_keeps (suc d) = next_keeps d (suc d) (suspended d) (suspended_arrow d) (suspension_keeps d)

pub suspension_carries_over : (d : ℕ) → SuspensionCarriesOver d
suspension_carries_over d = carries_over d (suc d) (suspended d) (suspended_arrow d) (suspension_keeps d)
