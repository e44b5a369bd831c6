-- Two heights of a valid plain diagram are a shape, and a contraction merges them.
use Rattle.std.proofs.Common.{◌≡◌, ℕ, zero, suc, ◌<◌, List, [], ◌∷◌, length, refl, sym, ◌∙◌, subst, arith, inl, inr}
use Rattle.std.specs.List.{Contains}
use Rattle.diagram_terms.specs.declared.place.Bias.{Bias}
use Rattle.diagram_terms.specs.Family.{Dia, Arr, sing, fwd, bwd}
use Rattle.diagram_terms.specs.Composite.{comp, ident}
use Rattle.diagram_terms.specs.Cone.{Parallel, cospan}
use Rattle.diagram_terms.specs.Good.{GoodDiagram, GoodArrow}
use Rattle.diagram_terms.specs.Merging.{MergesTo, MergesAlong}
use Rattle.occurrence_laws.proofs.GoodParts.{good_reg, good_sing, good_fwd, good_bwd, good_ends}
use Rattle.occurrence_laws.proofs.Merges.{good_merging_along, good_stored}
use Rattle.diagram_terms.specs.Shapes.{Shape, ShapeArrow, AreConnected, here, forth, back, IsArrowOf, IsShape, object}
use Rattle.diagram_terms.specs.Cocones.{leg, IsPlainCocone}
use Rattle.colimit_laws.proofs.Membership.{contains_cases, contains_head, contains_tail, contains_none}
use Rattle.colimit_laws.proofs.Cocones.{colimits_are_plain_cocones, unbiased_colimits_stay}
use Rattle.diagram_terms.specs.Contraction.{two_heights, ContractsTo, ContractsAlong}

pub below_three : (P : ℕ → Type 0) → P 0 → P 1 → P 2 → (k : ℕ) → k < 3 → P k
below_three P at0 at1 at2 zero l = at0
below_three P at0 at1 at2 (suc zero) l = at1
below_three P at0 at1 at2 (suc (suc zero)) l = at2
below_three P at0 at1 at2 (suc (suc (suc k))) l = absurd (omega arith)

module _ (d : ℕ) (C : Dia (suc d)) (k : ℕ) (gC : GoodDiagram (suc d) C) (l : suc k < length C.sings) where
  abbrev S : Shape d
  S = two_heights d C k

  abbrev back_leg : ShapeArrow d
  back_leg = record { from = 1; to = 0; arrow = bwd d C k }

  abbrev fore_leg : ShapeArrow d
  fore_leg = record { from = 1; to = 2; arrow = fwd d C (suc k) }

  back_among : Contains S.arrows back_leg
  back_among = contains_head back_leg (fore_leg ∷ [])

  fore_among : Contains S.arrows fore_leg
  fore_among = contains_tail back_leg fore_leg (fore_leg ∷ []) (contains_head fore_leg [])

  good_object : (x : ℕ) → x < 3 → GoodDiagram d (object d S x)
  good_object = below_three (λ x. GoodDiagram d (object d S x)) (good_sing d C gC k (omega arith)) (good_reg d C gC (suc k) (omega arith)) (good_sing d C gC (suc k) l)

  -- from each object to the one in the middle, and on
  to_middle : (x : ℕ) → x < 3 → AreConnected d S x 1
  to_middle = below_three (λ x. AreConnected d S x 1) (back back_leg back_among here) here (back fore_leg fore_among here)

  pub two_heights-shape : IsShape d S
  two_heights-shape = record {
    nonempty = omega arith;
    valid = λ x m. (good_object x m).valid;
    plain = λ x m. (good_object x m).plain;
    arrows = λ g c. elim (contains_cases back_leg g (fore_leg ∷ []) c) [
      | inl e ↦ subst (IsArrowOf d S) e (record { from_within = omega arith; to_within = omega arith; valid = (good_bwd d C gC k (omega arith)).valid; plain = (good_bwd d C gC k (omega arith)).plain })
      | inr t ↦ elim (contains_cases fore_leg g [] t) [
        | inl e ↦ subst (IsArrowOf d S) e (record { from_within = omega arith; to_within = omega arith; valid = (good_fwd d C gC (suc k) l).valid; plain = (good_fwd d C gC (suc k) l).plain })
        | inr n ↦ contains_none g n
      ]
    ];
    connected = λ x y m n. below_three (λ y. AreConnected d S x y) (forth back_leg back_among (to_middle x m)) (to_middle x m) (forth fore_leg fore_among (to_middle x m)) y n;
  }

  module _ (biases : List Bias) (X : Dia (suc d)) (f : Arr (suc d)) (t : ContractsTo d C k biases X f) where
    plain_cocone : IsPlainCocone d S t.colimit
    plain_cocone = colimits_are_plain_cocones d S biases t.colimit two_heights-shape t.is_colimit

    good_leg : (x : ℕ) → x < 3 → GoodArrow d (object d S x) t.colimit.apex (leg d t.colimit x)
    good_leg x m =
        let c = plain_cocone.cocone in
        record {
          source = good_object x m;
          target = record { valid = c.apex; plain = plain_cocone.plain };
          valid = c.legs x m;
          plain = plain_cocone.plain_legs x m;
        }

    pub good_left : GoodArrow d (sing d C k) t.colimit.apex (leg d t.colimit 0)
    good_left = good_leg 0 (omega arith)

    pub good_right : GoodArrow d (sing d C (suc k)) t.colimit.apex (leg d t.colimit 2)
    good_right = good_leg 2 (omega arith)

    pub legs_agree : comp d (leg d t.colimit 0) (bwd d C k) ≡ comp d (leg d t.colimit 2) (fwd d C (suc k))
    legs_agree = let c = plain_cocone.cocone in c.agree back_leg back_among ∙ sym (c.agree fore_leg fore_among)

    contraction-merges : MergesTo d C k X f
    contraction-merges = record {
      apex = t.colimit.apex;
      left = leg d t.colimit 0;
      right = leg d t.colimit 2;
      fits = t.fits;
      good_left = good_left;
      good_right = good_right;
      agree = legs_agree;
      result = t.result;
      arrow = t.arrow;
    }

-- ---- along a path

pub merges_along : (d : ℕ) (C : Dia d) (path : List ℕ) (k : ℕ) (biases : List Bias) (X : Dia d) (f : Arr d) → GoodDiagram d C
    → ContractsAlong d C path k biases X f → MergesAlong d C path k X f
merges_along zero C path k biases X f gC t = t
merges_along (suc d) C [] k biases X f gC t = contraction-merges d C k gC t.fits biases X f t
merges_along (suc d) C (p ∷ path) k biases X f gC t = record {
  slice = t.slice;
  slice_arrow = t.slice_arrow;
  fits = t.fits;
  inside = merges_along d (sing d C p) path k biases t.slice t.slice_arrow (good_sing d C gC p t.fits) t.inside;
  result = t.result;
  arrow = t.arrow;
}

module _ (d : ℕ) (C : Dia d) (path : List ℕ) (k : ℕ) (biases : List Bias) (X : Dia d) (f : Arr d) (gC : GoodDiagram d C) (t : ContractsAlong d C path k biases X f) where
  pub good_contraction : GoodArrow d C X f
  good_contraction = good_merging_along d C path k X f gC (merges_along d C path k biases X f gC t)

  pub one_boundary : Parallel d C X
  one_boundary = good_ends d C X f good_contraction

  pub good_stored_contraction : GoodDiagram (suc d) (cospan d C f X (ident d X) X)
  good_stored_contraction = good_stored d C X f good_contraction

-- ---- without a bias

pub unbiased_contraction : (d : ℕ) (C : Dia d) (path : List ℕ) (k : ℕ) (biases : List Bias) (X : Dia d) (f : Arr d)
    → ContractsAlong d C path k [] X f → ContractsAlong d C path k biases X f
unbiased_contraction zero C path k biases X f t = t
unbiased_contraction (suc d) C [] k biases X f t = record {
  colimit = t.colimit;
  fits = t.fits;
  is_colimit = unbiased_colimits_stay d (two_heights d C k) [] biases t.colimit (λ j. refl) t.is_colimit;
  result = t.result;
  arrow = t.arrow;
}
unbiased_contraction (suc d) C (p ∷ path) k biases X f t = record {
  slice = t.slice;
  slice_arrow = t.slice_arrow;
  fits = t.fits;
  inside = unbiased_contraction d (sing d C p) path k biases t.slice t.slice_arrow t.inside;
  result = t.result;
  arrow = t.arrow;
}
