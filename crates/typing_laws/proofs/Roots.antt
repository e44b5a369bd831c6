-- Each point has a root: a point where regular heights come first, with the same label and normal form.
use Rattle.std.proofs.Common.{ℕ, zero, suc, ◌<◌, ◌≤◌, List, [], ◌∷◌, length, refl, sym, ap, ◌∙◌, arith, inl, inr}
use Rattle.std.proofs.lemmas.Bool.{cases_Bool, true≢false}
use Rattle.diagram_terms.specs.declared.place.Height.{Height}
use Rattle.diagram_terms.specs.declared.place.Height.TheVariants as height_kind
use Rattle.diagram_terms.specs.Composite.{identity_diagram}
use Rattle.diagram_terms.specs.Family.{Dia, reg, sing}
use Rattle.diagram_terms.specs.Plain.{Plain}
use Rattle.diagram_terms.specs.Valid.{Valid}
use Rattle.diagram_terms.specs.Paths.{IsPointOf}
use Rattle.typing_laws.specs.Alike.{IsRoot}
use Rattle.diagram_terms.specs.DecidingPoints.{all_singular}
use Rattle.typing_laws.specs.Laws.{PointsHaveRoots}
use Rattle.typing_laws.proofs.Turns.{turns_have_twins}
use Rattle.typing_laws.proofs.Verdicts.{normal_forms_over_regular_heights}

module _ (d : ℕ) (ih : PointsHaveRoots d) (X : Dia (suc d)) (v : Valid (suc d) X) (p : Plain (suc d) X) where
  root_in : (j : ℕ) (hs : List Height) → j ≤ length X.sings → IsPointOf d (reg d X j) hs → (gs : List Height) × IsRoot d (reg d X j) hs gs
  root_in j hs l q = let rl = v.regs_len in ih (reg d X j) hs (v.regs j l) (p.regs j (omega arith)) q

  normal_in : (j : ℕ) (hs : List Height) (l : j ≤ length X.sings) (q : IsPointOf d (reg d X j) hs)
      → let gs : List Height = (root_in j hs l q).0 in IsRoot d (reg d X j) hs gs → IsRoot (suc d) X (height_kind.R j ∷ hs) (height_kind.R j ∷ gs)
  normal_in j hs l q r =
      let gs : List Height = (root_in j hs l q).0 in
      record {
        is_point = (l, r.is_point);
        deciding = r.deciding;
        label = r.label;
        normal = normal_forms_over_regular_heights d X j gs ∙ ap (identity_diagram d) r.normal ∙ sym (normal_forms_over_regular_heights d X j hs);
        earlier = elim r.earlier [
          | inl e ↦ inl (ap (λ (ks : List Height). height_kind.R j ∷ ks) e)
          | inr b ↦ inr (inr (refl, b))
        ];
        own = λ e. ap (λ (ks : List Height). height_kind.R j ∷ ks) (r.own e);
      }

  root_over_reg : (j : ℕ) (hs : List Height) → j ≤ length X.sings → IsPointOf d (reg d X j) hs
      → (gs : List Height) × IsRoot (suc d) X (height_kind.R j ∷ hs) gs
  root_over_reg j hs l q = let r = root_in j hs l q in (height_kind.R j ∷ r.0, normal_in j hs l q r.1)

  root_over_sing : (k : ℕ) (hs : List Height) → k < length X.sings → IsPointOf d (sing d X k) hs
      → (gs : List Height) × IsRoot (suc d) X (height_kind.S k ∷ hs) gs
  root_over_sing k hs l q = elim (cases_Bool (all_singular hs)) [
    | inl e ↦ (
      height_kind.S k ∷ hs,
      record {
        is_point = (l, q);
        deciding = e;
        label = refl;
        normal = refl;
        earlier = inl refl;
        own = λ _. refl;
      },
    )
    | inr e ↦ (
        let t = turns_have_twins d X k hs v p l q e in
        let before : k ≤ length X.sings = omega arith in
        let r = root_in k t.0 before t.1.is_point in
        let is = normal_in k t.0 before t.1.is_point r.1 in (
          height_kind.R k ∷ r.0,
          record {
            is_point = is.is_point;
            deciding = is.deciding;
            label = is.label ∙ t.1.label;
            normal = is.normal ∙ t.1.normal;
            earlier = inr (inl (omega arith));
            own = λ y. absurd (true≢false (sym y ∙ e));
          },
        ))
  ]

  root_step : (hs : List Height) → IsPointOf (suc d) X hs → (gs : List Height) × IsRoot (suc d) X hs gs
  root_step [] q = absurd q
  root_step (height_kind.R j ∷ hs) q = root_over_reg j hs q.0 q.1
  root_step (height_kind.S k ∷ hs) q = root_over_sing k hs q.0 q.1

pub points_have_roots : (d : ℕ) → PointsHaveRoots d
points_have_roots zero X [] v p q =
    ([], record { is_point = tt; deciding = refl; label = refl; normal = refl; earlier = inl refl; own = λ _. refl })
points_have_roots zero X (h ∷ hs) v p q = absurd q
points_have_roots (suc d) X hs v p q = root_step d (points_have_roots d) X v p hs q
