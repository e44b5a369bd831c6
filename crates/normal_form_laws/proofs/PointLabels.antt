-- The labels of a diagram are those of its points, and whether all are below a dimension is told by each of them.
use Rattle.std.proofs.Common.{◌≡◌, ◌↔◌, ℕ, zero, suc, ◌<◌, ◌≤◌, List, [], ◌++◌, length, refl, ap, ◌∙◌, subst, arith, inl, inr}
use Rattle.std.specs.List.{Contains, flat_map}
use Rattle.std.proofs.lemmas.Bool.{cases_lt}
use Rattle.std.proofs.lemmas.List.Elements.{Contains-append_left, Contains-append_right, Contains-append_cases}
use Rattle.diagram_terms.specs.declared.label.Label.{Label}
use Rattle.diagram_terms.specs.declared.place.Height.TheVariants as height
use Rattle.diagram_terms.specs.Family.{Dia, reg, sing}
use Rattle.diagram_terms.specs.Dual.{upto}
use Rattle.diagram_terms.specs.Points.{Point, point_inside, inside, points}
use Rattle.diagram_terms.specs.LabelsOf.{HasLabel}
use Rattle.normal_form_laws.specs.Laws.{PointsHaveTheLabels, LabelsAreBelow}
use Rattle.normal_form_laws.proofs.Members.{in_head, in_cases, in_none, in_map, from_map, in_flat_map, from_flat_map, in_upto, from_upto}

-- a point of the diagram with the label x
abbrev At : (d : ℕ) → Dia d → Label → Type 0
At d D x = (p : Point) × Contains (points d D) p × (p.label ≡ x)

abbrev PointsAre : ℕ → Type 0
PointsAre d = (D : Dia d) (x : Label) → HasLabel d D x ↔ At d D x

points_base : PointsAre zero
points_base D x = (
  λ h. (record { heights = []; label = D }, in_head _ [], h),
  λ r. elim (in_cases (record { heights = []; label = D }) r.0 [] r.1) [
    | inl e ↦ ap (λ (p : Point). p.label) e ∙ r.2
    | inr c ↦ absurd (in_none r.0 c)
  ],
)

module _ (d : ℕ) (ih : PointsAre d) (D : Dia (suc d)) (x : Label) where
  abbrev n : ℕ
  n = length D.sings

  abbrev over_reg : ℕ → List Point
  over_reg j = inside (height.R j) (points d (reg d D j))

  abbrev over_sing : ℕ → List Point
  over_sing i = inside (height.S i) (points d (sing d D i))

  abbrev beside : ℕ → List Point
  beside i = over_reg i ++ over_sing i

  in_all : (j : ℕ) → j ≤ n → (p : Point) → Contains (over_reg j) p → Contains (points (suc d) D) p
  in_all j l p c = elim (cases_lt j n) [
    | inl q ↦ Contains-append_left (flat_map beside (upto n)) (over_reg n) p
        (in_flat_map beside (upto n) j p (in_upto n j q) (Contains-append_left (over_reg j) (over_sing j) p c))
    | inr q ↦ Contains-append_right (flat_map beside (upto n)) (over_reg n) p
        (subst (λ (m : ℕ). Contains (over_reg m) p) (let z : j ≡ n = omega arith in z) c)
  ]

  up : HasLabel (suc d) D x → At (suc d) D x
  up h = elim h [
    | inl p ↦ (let j : ℕ = p.0 in
        let r = (ih (reg d D j) x).0 p.2 in (
          point_inside (height.R j) r.0,
          in_all j p.1 (point_inside (height.R j) r.0) (in_map (point_inside (height.R j)) (points d (reg d D j)) r.0 r.1),
          r.2,
        ))
    | inr p ↦ (let i : ℕ = p.0 in
        let r = (ih (sing d D i) x).0 p.2 in
        let q : Point = point_inside (height.S i) r.0 in (
          q,
          Contains-append_left (flat_map beside (upto n)) (over_reg n) q
              (in_flat_map beside (upto n) i q (in_upto n i p.1)
              (Contains-append_right (over_reg i) (over_sing i) q (in_map (point_inside (height.S i)) (points d (sing d D i)) r.0 r.1))),
          r.2,
        ))
  ]

  from_reg : (j : ℕ) → j ≤ n → (p : Point) → Contains (over_reg j) p → p.label ≡ x → HasLabel (suc d) D x
  from_reg j l p c e =
      let r = from_map (point_inside (height.R j)) (points d (reg d D j)) p c in
      inl (j, l, (ih (reg d D j) x).1 (r.0, r.1, ap (λ (t : Point). t.label) r.2 ∙ e))

  from_sing : (i : ℕ) → i < n → (p : Point) → Contains (over_sing i) p → p.label ≡ x → HasLabel (suc d) D x
  from_sing i l p c e =
      let r = from_map (point_inside (height.S i)) (points d (sing d D i)) p c in
      inr (i, l, (ih (sing d D i) x).1 (r.0, r.1, ap (λ (t : Point). t.label) r.2 ∙ e))

  down : At (suc d) D x → HasLabel (suc d) D x
  down r = elim (Contains-append_cases (flat_map beside (upto n)) (over_reg n) r.0 r.1) [
    | inl c ↦ (let s = from_flat_map beside (upto n) r.0 c in
        let l : s.0 < n = from_upto n s.0 s.1 in
        elim (Contains-append_cases (over_reg s.0) (over_sing s.0) r.0 s.2) [
          | inl q ↦ from_reg s.0 (omega arith) r.0 q r.2
          | inr q ↦ from_sing s.0 l r.0 q r.2
        ])
    | inr c ↦ from_reg n (omega arith) r.0 c r.2
  ]

points_are : (d : ℕ) → PointsAre d
points_are zero = points_base
points_are (suc d) = λ D x. (up d (points_are d) D x, down d (points_are d) D x)

pub points_have_the_labels : (d : ℕ) → PointsHaveTheLabels d
points_have_the_labels d D x = (
  λ h. (let r = (points_are d D x).0 h in let c = r.1 in (c.0, r.0, c.1, c.2, r.2)),
  λ q. (points_are d D x).1 (q.1, (q.0, q.2, q.3), q.4),
)

-- ---- labels below a dimension

below_base : LabelsAreBelow zero
below_base D n = (λ b x e. subst (λ (t : Label). t.dim < n) e b, λ f. f D refl)

below_step : (d : ℕ) → LabelsAreBelow d → LabelsAreBelow (suc d)
below_step d ih D n = (
  λ b x h. elim h [
    | inl p ↦ (ih (reg d D p.0) n).0 (b.regs p.0 p.1) x p.2
    | inr p ↦ (ih (sing d D p.0) n).0 (b.sings p.0 p.1) x p.2
  ],
  λ f. record {
    regs = λ j l. (ih (reg d D j) n).1 (λ x h. f x (inl (j, l, h)));
    sings = λ i l. (ih (sing d D i) n).1 (λ x h. f x (inr (i, l, h)));
  },
)

pub labels_are_below : (d : ℕ) → LabelsAreBelow d
labels_are_below zero = below_base
labels_are_below (suc d) = below_step d (labels_are_below d)
