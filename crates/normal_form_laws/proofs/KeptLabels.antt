-- Both ends of a degeneracy have the same labels.
use Rattle.std.proofs.Common.{◌≡◌, ◌↔◌, ℕ, zero, suc, ◌<◌, [], length, refl, sym, ap, ◌∙◌, subst, arith, inl, inr}
use Rattle.std.proofs.lemmas.Bool.{cases_lt}
use Rattle.diagram_terms.specs.declared.place.Keep.TheVariants as keep
use Rattle.diagram_terms.specs.declared.label.Label.{Label}
use Rattle.diagram_terms.specs.Family.{Dia, Arr, reg, sing, fwd, height, arrow_reg, arrow_sing}
use Rattle.diagram_terms.specs.Dual.{dual}
use Rattle.diagram_terms.specs.Composite.{comp}
use Rattle.diagram_terms.specs.Cone.{source, mid, type_over, HasLabelsBelow}
use Rattle.diagram_terms.specs.Degeneracy.{DegeneracyByShape}
use Rattle.diagram_terms.specs.Least.{Leg}
use Rattle.diagram_terms.proofs.Duals.{dual-zero, dual_mono, in_fibre}
use Rattle.map_laws.proofs.ValidParts.{dual_within, height_within}
use Rattle.degeneracy_laws.proofs.Cancellation.{reached}
use Rattle.degeneracy_laws.proofs.Shapes.{degeneracies_have_shape}
use Rattle.plain_laws.proofs.Cones.{types_are_good}
use Rattle.normal_form_laws.specs.Laws.{DegeneraciesKeepLabels, NormalFormsKeepLabels, NewLabelsStay, NormalTypesHaveLengthOne}
use Rattle.diagram_terms.specs.LabelsOf.{HasLabel}
use Rattle.diagram_terms.specs.NormalForms.{normal_form}
use Rattle.normal_form_laws.proofs.Existence.{normal_forms_are_degeneracies}
use Rattle.normal_form_laws.proofs.NormalDiagrams.{no_legs}

abbrev ShapesKeepLabels : ℕ → Type 0
ShapesKeepLabels d = (S T : Dia d) (e : Arr d) → DegeneracyByShape d S T e → (x : Label) → HasLabel d S x ↔ HasLabel d T x

keep_base : ShapesKeepLabels zero
keep_base S T e q x =
    let same : S ≡ T = sym q.0.from ∙ q.1 ∙ q.0.to in
    (λ h. sym same ∙ h, λ h. same ∙ h)

module _ (d : ℕ) (ih : ShapesKeepLabels d) (S T : Dia (suc d)) (e : Arr (suc d)) (q : DegeneracyByShape (suc d) S T e) (x : Label) where
  up : HasLabel (suc d) S x → HasLabel (suc d) T x
  up h = elim h [
    | inl p ↦ (let r = reached d S T e q.valid q.increasing p.0 p.1 in
        inl (
          r.0,
          r.1,
          (ih (reg d S (dual e.heights r.0)) (reg d T r.0) (arrow_reg d e r.0) (q.regs r.0 r.1) x).0
              (subst (λ (j : ℕ). HasLabel d (reg d S j) x) (sym r.2) p.2),
        ))
    | inr p ↦ inr (
      height d e p.0,
      height_within d S T e q.valid p.0 p.1,
      (ih (sing d S p.0) (sing d T (height d e p.0)) (arrow_sing d e p.0) (q.sings p.0 p.1) x).0 p.2,
    )
  ]

  down : HasLabel (suc d) T x → HasLabel (suc d) S x
  down h = elim h [
    | inl p ↦ inl (
      dual e.heights p.0,
      dual_within d S T e q.valid p.0,
      (ih (reg d S (dual e.heights p.0)) (reg d T p.0) (arrow_reg d e p.0) (q.regs p.0 p.1) x).1 p.2,
    )
    | inr p ↦ (let k : ℕ = p.0 in
        let l = p.1 in
        let j : ℕ = dual e.heights k in
        elim (cases_lt j (dual e.heights (suc k))) [
          | inl m ↦ (let w = dual_within d S T e q.valid (suc k) in
              let lj : j < length S.sings = omega arith in
              let at : height d e j ≡ k = in_fibre e.heights q.valid.monotone j k (omega arith) m in
              inr (
                j,
                lj,
                (ih (sing d S j) (sing d T (height d e j)) (arrow_sing d e j) (q.sings j lj) x).1
                    (subst (λ (t : ℕ). HasLabel d (sing d T t) x) (sym at) p.2),
              ))
          | inr m ↦ (let a = dual_mono e.heights q.valid.monotone k (suc k) (omega arith) in
              inl (
                j,
                dual_within d S T e q.valid k,
                (ih (reg d S j) (sing d T k) (comp d (fwd d T k) (arrow_reg d e k)) (q.missed_fwds k l (omega arith)) x).1 p.2,
              ))
        ])
  ]

shapes_keep_labels : (d : ℕ) → ShapesKeepLabels d
shapes_keep_labels zero = keep_base
shapes_keep_labels (suc d) = λ S T e q x. (up d (shapes_keep_labels d) S T e q x, down d (shapes_keep_labels d) S T e q x)

pub degeneracies_keep_labels : (d : ℕ) → DegeneraciesKeepLabels d
degeneracies_keep_labels d S T e q x = shapes_keep_labels d S T e (degeneracies_have_shape d S T e q) x

pub normal_forms_keep_labels : (d : ℕ) → NormalFormsKeepLabels d
normal_forms_keep_labels d T vT x = degeneracies_keep_labels d (normal_form keep.Free d T []).source T (normal_form keep.Free d T []).arrow
    (normal_forms_are_degeneracies d T [] vT (no_legs d T)).1 x

-- ---- a new label keeps its height

pub new_labels_stay : (d : ℕ) → NewLabelsStay d
new_labels_stay d T x vT one has new =
    let N : Leg (suc d) = normal_form keep.Free (suc d) T [] in
    let S : Dia (suc d) = N.source in
    let e : Arr (suc d) = N.arrow in
    let q = degeneracies_have_shape (suc d) S T e (normal_forms_are_degeneracies (suc d) T [] vT (no_legs (suc d) T)).1 in
    let hl = q.valid.heights_len in
    let first : dual e.heights 0 ≡ 0 = dual-zero e.heights q.valid.monotone in
    elim (cases_lt 0 (length S.sings)) [
      | inl l ↦ elim (cases_lt 1 (length S.sings)) [
        | inl m ↦ absurd (
            let a = q.increasing.increases 0 1 (omega arith) (omega arith) in
            let b = q.valid.below.below 1 (omega arith) in omega arith)
        | inr m ↦ (let z : length S.sings ≡ 1 = omega arith in z)
      ]
      | inr l ↦ absurd (
          let a = dual_within d S T e q.valid 0 in
          let b = dual_within d S T e q.valid 1 in
          let missed : dual e.heights 0 ≡ dual e.heights 1 = omega arith in
          new ((shapes_keep_labels d (reg d S (dual e.heights 0)) (reg d T 0) (arrow_reg d e 0) (q.regs 0 (omega arith)) x).0
          ((shapes_keep_labels d (reg d S (dual e.heights 0)) (sing d T 0) (comp d (fwd d T 0) (arrow_reg d e 0))
          (q.missed_fwds 0 (omega arith) missed) x).1 has)))
    ]

-- the end of a cone has its label
mid_has_label : (d : ℕ) (D : Dia d) (x : Label) → HasLabel d (mid d D x) x
unfolding mid
mid_has_label zero D x = refl
mid_has_label (suc d) D x = inr (0, omega arith, mid_has_label d (source d D) x)

-- a label of a greater dimension than all others is new
not_below : (d : ℕ) (D : Dia d) (x : Label) → HasLabelsBelow x.dim d D → HasLabel d D x → ⊥
not_below zero y x b h = absurd (let a : y.dim ≡ x.dim = ap (λ (t : Label). t.dim) h in omega arith)
not_below (suc d) D x b h = elim h [
  | inl p ↦ not_below d (reg d D p.0) x (b.regs p.0 p.1) p.2
  | inr p ↦ not_below d (sing d D p.0) x (b.sings p.0 p.1) p.2
]

pub normal_types_have_length_one : (d : ℕ) → NormalTypesHaveLengthOne d
unfolding type_over
normal_types_have_length_one d S T x vS pS bS vT pT bT par =
    new_labels_stay d (type_over d S T x) x (types_are_good d S T x vS pS bS vT pT bT par).0 refl (mid_has_label d S x) (not_below d S x bS)
