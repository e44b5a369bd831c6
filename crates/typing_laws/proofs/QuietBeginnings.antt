-- The check that leaves quiet beginnings out.
use Rattle.std.proofs.Common.{◌≡◌, ℕ, zero, suc, ◌<◌, List, [], ◌∷◌, ◌++◌, length, Bool, true, false, ◌&&◌, All, Option, option_map, None, refl, sym, ap, ◌∙◌, subst, arith, inl, inr}
use Rattle.std.proofs.lemmas.Bool.{cases_Bool, cond-true, cond-false}
use Rattle.std.proofs.lemmas.List.{append-nil, append_assoc}
use Rattle.std.proofs.lemmas.List.Elements.{All-filter, All-weaker}
use Rattle.diagram_terms.specs.declared.label.Label.{Label}
use Rattle.diagram_terms.specs.declared.place.Fault.{Fault}
use Rattle.diagram_terms.specs.declared.place.Height.{Height}
use Rattle.diagram_terms.specs.declared.place.Height.TheVariants as height_kind
use Rattle.diagram_terms.specs.Dual.{upto}
use Rattle.diagram_terms.specs.Family.{Dia, Arr, reg, sing, fwd, bwd}
use Rattle.diagram_terms.specs.Loose.{is_identity}
use Rattle.diagram_terms.specs.Plain.{Plain}
use Rattle.diagram_terms.specs.Points.{inside, points}
use Rattle.diagram_terms.specs.Generators.{Generator}
use Rattle.diagram_terms.specs.Valid.{Valid}
use Rattle.diagram_terms.proofs.LooseTests.{is_identity_decides}
use Rattle.diagram_terms.specs.NormalForms.{normal_diagram}
use Rattle.diagram_terms.specs.Paths.{IsPointOf, point_label}
use Rattle.diagram_terms.specs.PointRegions.{point_region}
use Rattle.diagram_terms.specs.PulledPoints.{pulled_point, IsQuiet}
use Rattle.diagram_terms.specs.Cuts.{cut_arrow}
use Rattle.diagram_terms.specs.Neighbourhoods.{neighbourhood, one_height}
use Rattle.region_laws.proofs.Neighbourhoods.{singular_neighbourhoods}
use Rattle.region_laws.proofs.PathsInCuts.{quiet_paths_go_on}
use Rattle.region_laws.proofs.PointRegions.{points_are_paths}
use Rattle.diagram_terms.specs.Typing.{Failing, fault_at, verdict, fault_in, first_fault_among}
use Rattle.diagram_terms.specs.DecidingPoints.{singular_points}
use Rattle.diagram_terms.specs.TypeCheck.{fault_inside, first_over, singular_path, is_quiet, first_singular_unless_quiet}
use Rattle.typing_laws.specs.Deciding.{fault_over, first_deciding_unless_quiet}
use Rattle.typing_laws.specs.Laws.{QuietBeginningsCanBeLeft}
use Rattle.typing_laws.proofs.FaultLists.{after_first, none-first, over-agree}
use Rattle.typing_laws.proofs.DecidingPoints.{IsLabelled, points_labelled, twin_passes}
use Rattle.typing_laws.proofs.Checks.{is_singular, singular_points_are, check_sing, check_by, first_of_none}
use Rattle.typing_laws.proofs.QuietPoints.{quiet_points_have_twins}
use Rattle.typing_laws.proofs.SharedCuts.{one_height_whole, one_height_valid, Begins, begins_further, begins_one_height, cut_further, fault_after, after_by_height, over_is_after}
use Rattle.typing_laws.proofs.Verdicts.{normal_forms_see_one_height}

singular_labelled : (m : ℕ) (e : Dia m) → All (IsLabelled m e) (singular_points m e)
singular_labelled m e = subst (All (IsLabelled m e)) (singular_points_are m e) (All-filter is_singular (IsLabelled m e) (points m e) (points_labelled m e))

both_true : (a b : Bool) → (a && b) ≡ true → (a ≡ true) × (b ≡ true)
both_true true b e = (refl, e)
both_true false b e = absurd (let z : false ≡ true = e in cc)

-- us leads to the slice e of S
record LeadsTo (d : ℕ) (S : Dia d) (m : ℕ) (us : List Height) (e : Dia m) : Type 0 where
  points : (hs : List Height) → IsPointOf m e hs → IsPointOf d S (us ++ hs)
  labels : (hs : List Height) → IsPointOf m e hs → point_label d S (us ++ hs) ≡ point_label m e hs

leads_further : (d : ℕ) (S : Dia d) (m : ℕ) (us : List Height) (e : Dia (suc m)) (k : ℕ) → k < length e.sings → LeadsTo d S (suc m) us e
    → LeadsTo d S m (us ++ height_kind.S k ∷ []) (sing m e k)
leads_further d S m us e k l t =
    let path : (hs : List Height) → (us ++ height_kind.S k ∷ []) ++ hs ≡ us ++ height_kind.S k ∷ hs = λ hs. append_assoc us (height_kind.S k ∷ []) hs in
    record {
      points = λ hs q. subst (IsPointOf d S) (sym (path hs)) (t.points (height_kind.S k ∷ hs) (l, q));
      labels = λ hs q. ap (point_label d S) (path hs) ∙ t.labels (height_kind.S k ∷ hs) (l, q);
    }

module _ (generators : List Generator) (d : ℕ) (X : Dia (suc d)) (v : Valid (suc d) X) (p : Plain (suc d) X) (k : ℕ) (l : k < length X.sings)
    (none : first_fault_among (fault_in generators (suc d) X) (inside (height_kind.R k) (points d (reg d X k))) ≡ None) where
  abbrev D : Dia (suc d)
  D = one_height d X k

  abbrev S : Dia d
  S = sing d X k

  abbrev V : Label → Dia (suc d) → Option Failing
  V = verdict generators (suc d)

  -- ---- quiet beginnings

  module _ (us : List Height) (quiet : is_quiet d (neighbourhood (suc d) D (height_kind.S 0 ∷ us)) ≡ true) where
    begins_quiet : IsQuiet d X k us
    begins_quiet =
        let at = subst (λ (C : Dia (suc d)). is_quiet d C ≡ true) (singular_neighbourhoods d D 0 us) quiet in
        let ahead : Arr d = cut_arrow d (fwd d X k) (point_region d S us) in
        let back : Arr d = cut_arrow d (bwd d X k) (point_region d S us) in
        let both = both_true (is_identity d ahead) (is_identity d back) at in
        record { fwds = (is_identity_decides d ahead).0 both.0; bwds = (is_identity_decides d back).0 both.1 }

    -- each point that goes on from it passes
    quiet_passes : (hs : List Height) → IsPointOf d S (us ++ hs)
        → V (point_label d S (us ++ hs)) (normal_diagram (suc d) (neighbourhood (suc d) D (height_kind.S 0 ∷ us ++ hs))) ≡ None
    quiet_passes hs q =
        let goes_on = quiet_paths_go_on d X k us hs v (l, points_are_paths d S (us ++ hs) q) begins_quiet in
        ap (V (point_label d S (us ++ hs))) (sym (normal_forms_see_one_height d X k (us ++ hs)).inside)
        ∙ twin_passes d V X v p k l none (us ++ hs) (pulled_point d S (fwd d X k) (us ++ hs)) (quiet_points_have_twins d X k (us ++ hs) v (l, q) goes_on)

    all_pass : (m : ℕ) (e : Dia m) → LeadsTo d S m us e
        → first_fault_among (fault_after generators (suc d) D (height_kind.S 0 ∷ us)) (singular_points m e) ≡ None
    all_pass m e t = none-first (fault_after generators (suc d) D (height_kind.S 0 ∷ us)) (singular_points m e)
        (All-weaker (IsLabelled m e) (λ q. fault_after generators (suc d) D (height_kind.S 0 ∷ us) q ≡ None)
        (λ q is. ap (option_map (fault_at q.heights))
        (ap (λ (y : Label). V y (normal_diagram (suc d) (neighbourhood (suc d) D (height_kind.S 0 ∷ us ++ q.heights))))
        (is.label ∙ sym (t.labels q.heights is.is_point))
        ∙ quiet_passes q.heights (t.points q.heights is.is_point)))
        (singular_points m e) (singular_labelled m e))

  -- ---- the others

  unless_quiet_is : (m t : ℕ) (us : List Height) (e : Dia m) → Begins (suc d) D m t (height_kind.S 0 ∷ us) e → LeadsTo d S m us e
      → first_singular_unless_quiet generators d m t (neighbourhood (suc d) D (height_kind.S 0 ∷ us)) e
      ≡ first_fault_among (fault_after generators (suc d) D (height_kind.S 0 ∷ us)) (singular_points m e)
  unless_quiet_is zero t us x b leads =
      let C : Dia (suc d) = neighbourhood (suc d) D (height_kind.S 0 ∷ us) in
      let found : Option Fault = option_map (fault_at []) (V x (normal_diagram (suc d) C)) in
      elim (cases_Bool (is_quiet d C)) [
        | inl e ↦ cond-true (is_quiet d C) None found e ∙ sym (all_pass us e zero x leads)
        | inr e ↦ cond-false (is_quiet d C) None found e
            ∙ ap (λ (hs : List Height). option_map (fault_at []) (V x (normal_diagram (suc d) (neighbourhood (suc d) D (height_kind.S 0 ∷ hs))))) (sym (append-nil us))
            ∙ sym (first_of_none _)
      ]
  unless_quiet_is (suc m) t us e b leads =
      let C : Dia (suc d) = neighbourhood (suc d) D (height_kind.S 0 ∷ us) in
      let found : Option Fault = first_over (λ j. option_map (fault_inside (height_kind.S j))
      (first_singular_unless_quiet generators d m (suc t) (neighbourhood (suc d) C (singular_path t j)) (sing m e j))) (upto (length e.sings)) in
      let vD = one_height_valid d X k v l in
      elim (cases_Bool (is_quiet d C)) [
        | inl y ↦ cond-true (is_quiet d C) None found y ∙ sym (all_pass us y (suc m) e leads)
        | inr y ↦ cond-false (is_quiet d C) None found y
            ∙ over-agree _ _ (length e.sings) 0 (λ j lj.
            let lk : j < length e.sings = omega arith in
            ap (λ (B : Dia (suc d)). option_map (fault_inside (height_kind.S j)) (first_singular_unless_quiet generators d m (suc t) B (sing m e j)))
            (cut_further (suc d) D vD m t (height_kind.S 0 ∷ us) e b j lk)
            ∙ ap (option_map (fault_inside (height_kind.S j)))
            (unless_quiet_is m (suc t) (us ++ height_kind.S j ∷ []) (sing m e j)
            (begins_further (suc d) D vD m t (height_kind.S 0 ∷ us) e b j lk) (leads_further d S m us e j lk leads)))
            ∙ sym (after_by_height generators (suc d) D (height_kind.S 0 ∷ us) m e)
      ]

  pub unless_quiet_over : option_map (fault_inside (height_kind.S k)) (first_singular_unless_quiet generators d d 1 D S)
      ≡ first_fault_among (fault_over generators d X k) (singular_points d S)
  unless_quiet_over =
      ap (λ (C : Dia (suc d)). option_map (fault_inside (height_kind.S k)) (first_singular_unless_quiet generators d d 1 C S)) (sym (one_height_whole d X k v l))
      ∙ ap (option_map (fault_inside (height_kind.S k)))
      (unless_quiet_is d 1 [] S (begins_one_height d X k) (record { points = λ hs q. q; labels = λ hs q. refl }))
      ∙ over_is_after d generators X k (singular_points d S)

pub quiet_beginnings_can_be_left : (d : ℕ) → QuietBeginningsCanBeLeft d
quiet_beginnings_can_be_left zero generators x s v p = sym (first_of_none _)
quiet_beginnings_can_be_left (suc d) generators X s v p =
    let rl = v.regs_len in
    check_by d generators X s (λ j. first_deciding_unless_quiet generators d (reg d X j))
    (λ k. option_map (fault_inside (height_kind.S k)) (first_singular_unless_quiet generators d d 1 (one_height d X k) (sing d X k)))
    (λ j l. quiet_beginnings_can_be_left d generators (reg d X j) s (v.regs j l) (p.regs j (omega arith)))
    (λ k l. after_first (first_fault_among (fault_in generators (suc d) X) (inside (height_kind.R k) (points d (reg d X k)))) _ _
    (λ none. unless_quiet_over generators d X v p k l none) ∙ check_sing d generators X s v p k l)
