-- The next point of a diagram of a store, by that of a slice.
use Rattle.std.proofs.Common.{◌≡◌, ℕ, zero, suc, ◌+◌, ◌-◌, ◌<◌, ◌≤◌, List, [], ◌∷◌, ◌++◌, length, get_or, drop, drop_of_length-le, reverse, Vec, Global, Option, None, Some, Result, IfOk, Ok, Err, refl, sym, ap, subst, ◌∙◌, arith, inl, inr}
use Rattle.std.proofs.lemmas.Bool.{cases_lt}
use Rattle.std.proofs.lemmas.List.{drop_more, reverse-append}
use Rattle.diagram_terms.specs.declared.place.Height.{Height}
use Rattle.diagram_terms.specs.declared.place.Height.TheVariants as height_kind
use Rattle.diagram_terms.specs.Tree.{Tree, sings}
use Rattle.diagram_terms.specs.Dimension.{dimension_of, IsDiagramTree}
use Rattle.diagram_terms.specs.Family.{Dia, reg, sing}
use Rattle.diagram_terms.specs.Decoded.{dia}
use Rattle.diagram_terms.specs.OnTrees.{on_diagram}
use Rattle.diagram_terms.specs.Paths.{IsPointOf}
use Rattle.diagram_terms.specs.Shape.{IsDiagram, reg_at, sing_at}
use Rattle.diagram_terms.proofs.Glue.{dia-reg, dia-sing, dia-sings_len}
use Rattle.region_cut.specs.PointTrees.{IsPointIn}
use Rattle.region_cut.specs.NextPoints.{IsFirstAfter, IsNextPoint, IsNextPointIn, IsPointAt, IsLastIn, IsWalkOf, listed, listed_back}
use Rattle.hashcons.specs.Contents.{Contents, IsDiagramOf, diagram_at}
use Rattle.region_cut.proofs.NextPoints.{first_zero, first_over, next_over, next_inside, none_after_label, none_after_last}

-- the heights from the innermost on, with one more
pushed : (h : Height) (xs ys : List Height) → ys ≡ xs ++ h ∷ [] → reverse ys ≡ h ∷ reverse xs
pushed h xs ys e = ap reverse e ∙ reverse-append xs (h ∷ [])

-- ---- the first point

pub first_at_zero : (n : ℕ) (v : List Height) → n ≡ 0 → v ≡ [] → (X : Dia n) → IsFirstAfter n X None (reverse v)
first_at_zero zero v e is X = subst (λ hs. IsFirstAfter zero X None (reverse hs)) (sym is) (first_zero X)
first_at_zero (suc n) v e is X = absurd (omega arith)

first_level : (d : ℕ) (v w : List Height) → ((Y : Dia d) → IsFirstAfter d Y None (reverse v)) → w ≡ v ++ height_kind.R 0 ∷ []
    → (X : Dia (suc d)) → IsFirstAfter (suc d) X None (reverse w)
first_level d v w f e X =
    subst (IsFirstAfter (suc d) X None) (sym (pushed (height_kind.R 0) v w e))
    (first_over d X (height_kind.R 0) (reverse v) (omega arith) (f (reg d X 0)) refl)

pub first_more : (n : ℕ) (v w : List Height) → 0 < n → ((Y : Dia (n - 1)) → IsFirstAfter (n - 1) Y None (reverse v)) → w ≡ v ++ height_kind.R 0 ∷ []
    → (X : Dia n) → IsFirstAfter n X None (reverse w)
first_more n v w l f e =
    let one_below : suc (n - 1) ≡ n = omega arith in
    subst (λ (m : ℕ). (X : Dia m) → IsFirstAfter m X None (reverse w)) one_below (first_level (n - 1) v w f e)

-- ---- at a dimension

pub after_at_zero : (n : ℕ) (X : Dia n) (hs : List Height) → n ≡ 0 → IsPointOf n X hs → IsNextPoint n X (Some hs) None
after_at_zero zero X hs e p = none_after_label X hs p
after_at_zero (suc n) X hs e p = absurd (omega arith)

nonempty : (d : ℕ) (X : Dia (suc d)) (hs : List Height) → hs ≡ [] → IsPointOf (suc d) X hs → ⊥
nonempty d X hs e p = subst (IsPointOf (suc d) X) e p

pub height_here : (n : ℕ) (t : Tree) (at : ℕ) (hs : List Height) → 0 < n → IsPointAt n t (drop at hs) → at < length hs
height_here zero t at hs l h = absurd (omega arith)
height_here (suc d) t at hs l h = elim (cases_lt at (length hs)) [
  | inl p ↦ p
  | inr p ↦ absurd (nonempty d (dia (suc d) t) (drop at hs) (drop_of_length-le hs p) h.point)
]

module _ (n : ℕ) (t : Tree) (at : ℕ) (hs : List Height) (g : Height) (l : 0 < n) (h : IsPointAt n t (drop at hs)) (is : get_or hs at (height_kind.R 0) ≡ g) where
  one_below : n ≡ suc (n - 1)
  one_below = omega arith

  rest : drop at hs ≡ g ∷ drop (at + 1) hs
  rest = drop_more hs at (height_kind.R 0) (height_here n t at hs l h) ∙ ap (λ x. x ∷ drop (at + 1) hs) is

  pub at_below : IsPointAt (suc (n - 1)) t (g ∷ drop (at + 1) hs)
  at_below = subst (λ m. IsPointAt m t (g ∷ drop (at + 1) hs)) one_below (subst (IsPointAt n t) rest h)

  pub next_above : {E : Type 0} (a : Result (Option (Vec Height Global)) E)
      → IfOk a (λ v. IsNextPoint (suc (n - 1)) (dia (suc (n - 1)) t) (Some (g ∷ drop (at + 1) hs)) (listed_back v))
      → IfOk a (λ v. IsNextPoint n (dia n t) (Some (drop at hs)) (listed_back v))
  next_above a e =
      subst (λ gs. IfOk a (λ v. IsNextPoint n (dia n t) (Some gs) (listed_back v))) (sym rest)
      (subst (λ m. IfOk a (λ v. IsNextPoint m (dia m t) (Some (g ∷ drop (at + 1) hs)) (listed_back v))) (sym one_below) e)

-- ---- over a regular height

module _ (d : ℕ) (t : Tree) (hs : List Height) (j : ℕ) (u : Tree) (h : IsPointAt (suc d) t (height_kind.R j ∷ hs)) (e : u ≡ reg_at t j) where
  regular_slice : reg d (dia (suc d) t) j ≡ dia d u
  regular_slice = dia-reg d t h.shape j (omega (arith, h.point.0, dia-sings_len d t)) ∙ ap (dia d) (sym e)

  pub regular_inside : IsPointAt d u hs
  regular_inside = record {
    shape = subst (IsDiagram d) (sym e) (h.shape.regs_are j (omega (arith, h.point.0, dia-sings_len d t)));
    point = subst (λ Y. IsPointOf d Y hs) regular_slice h.point.1;
  }

  pub regular_next : (v w : List Height) → w ≡ v ++ height_kind.R j ∷ [] → IsFirstAfter d (dia d u) (Some hs) (reverse v)
      → IsFirstAfter (suc d) (dia (suc d) t) (Some (height_kind.R j ∷ hs)) (reverse w)
  regular_next v w p f =
      subst (IsFirstAfter (suc d) (dia (suc d) t) (Some (height_kind.R j ∷ hs))) (sym (pushed (height_kind.R j) v w p))
      (next_inside d (dia (suc d) t) (height_kind.R j) hs (reverse v) h.point.0 (subst (λ Y. IsFirstAfter d Y (Some hs) (reverse v)) (sym regular_slice) f))

  module _ (none : IsNextPoint d (dia d u) (Some hs) None) where
    none_there : IsNextPoint d (reg d (dia (suc d) t) j) (Some hs) None
    none_there = subst (λ Y. IsNextPoint d Y (Some hs) None) (sym regular_slice) none

    pub regular_last : length (sings t) ≤ j → IsNextPoint (suc d) (dia (suc d) t) (Some (height_kind.R j ∷ hs)) None
    regular_last l = none_after_last d (dia (suc d) t) j hs (omega (arith, dia-sings_len d t)) none_there

    pub regular_step : (v w : List Height) → j < length (sings t) → w ≡ v ++ height_kind.S j ∷ [] → ((Y : Dia d) → IsFirstAfter d Y None (reverse v))
        → IsFirstAfter (suc d) (dia (suc d) t) (Some (height_kind.R j ∷ hs)) (reverse w)
    regular_step v w l p f =
        subst (IsFirstAfter (suc d) (dia (suc d) t) (Some (height_kind.R j ∷ hs))) (sym (pushed (height_kind.S j) v w p))
        (next_over d (dia (suc d) t) (height_kind.S j) (reverse v) (omega (arith, dia-sings_len d t)) (f (sing d (dia (suc d) t) j)) (height_kind.R j) hs (omega arith) none_there)

-- ---- over a singular height

module _ (d : ℕ) (t : Tree) (hs : List Height) (k : ℕ) (u : Tree) (h : IsPointAt (suc d) t (height_kind.S k ∷ hs)) (e : u ≡ sing_at t k) where
  here : k < length (sings t)
  here = omega (arith, h.point.0, dia-sings_len d t)

  singular_slice : sing d (dia (suc d) t) k ≡ dia d u
  singular_slice = dia-sing d t h.shape k here ∙ ap (dia d) (sym e)

  pub singular_inside : IsPointAt d u hs
  singular_inside = record {
    shape = subst (IsDiagram d) (sym e) (h.shape.sings_are k here);
    point = subst (λ Y. IsPointOf d Y hs) singular_slice h.point.1;
  }

  pub singular_next : (v w : List Height) → w ≡ v ++ height_kind.S k ∷ [] → IsFirstAfter d (dia d u) (Some hs) (reverse v)
      → IsFirstAfter (suc d) (dia (suc d) t) (Some (height_kind.S k ∷ hs)) (reverse w)
  singular_next v w p f =
      subst (IsFirstAfter (suc d) (dia (suc d) t) (Some (height_kind.S k ∷ hs))) (sym (pushed (height_kind.S k) v w p))
      (next_inside d (dia (suc d) t) (height_kind.S k) hs (reverse v) h.point.0 (subst (λ Y. IsFirstAfter d Y (Some hs) (reverse v)) (sym singular_slice) f))

  pub singular_step : (v w : List Height) → IsNextPoint d (dia d u) (Some hs) None → w ≡ v ++ height_kind.R (k + 1) ∷ []
      → ((Y : Dia d) → IsFirstAfter d Y None (reverse v)) → IsFirstAfter (suc d) (dia (suc d) t) (Some (height_kind.S k ∷ hs)) (reverse w)
  singular_step v w none p f =
      subst (IsFirstAfter (suc d) (dia (suc d) t) (Some (height_kind.S k ∷ hs))) (sym (pushed (height_kind.R (k + 1)) v w p))
      (next_over d (dia (suc d) t) (height_kind.R (k + 1)) (reverse v) (omega (arith, h.point.0)) (f (reg d (dia (suc d) t) (k + 1))) (height_kind.S k) hs (omega arith)
      (subst (λ Y. IsNextPoint d Y (Some hs) None) (sym singular_slice) none))

-- ---- of a diagram in its own dimension

pub walk_point : (n : ℕ) (t : Tree) (hs : List Height) → n ≡ dimension_of t → IsDiagramTree t → IsPointIn t hs → IsPointAt n t hs
unfolding on_diagram
walk_point n t hs e s p = subst (λ m. IsPointAt m t hs) (sym e) (record { shape = s; point = p })

pub walk_next : (n : ℕ) (t : Tree) (last next : Option (List Height)) → n ≡ dimension_of t → IsNextPoint n (dia n t) last next → IsNextPointIn t last next
unfolding on_diagram
walk_next n t last next e h = subst (λ m. IsNextPoint m (dia m t) last next) e h

pub given_point : (t : Tree) (last : Option (List Height)) (hs : List Height) → IsNextPointIn t last (Some hs) → IsPointIn t hs
unfolding on_diagram
given_point t last hs h = h.point

-- ---- answers of calls

pub none_found : (d : ℕ) (X : Dia d) (last : Option (List Height)) (o : Option (Vec Height Global)) → o ≡ None → IsNextPoint d X last (listed_back o)
    → IsNextPoint d X last None
none_found d X last o e h = subst (λ (p : Option (Vec Height Global)). IsNextPoint d X last (listed_back p)) e h

pub walk_first : (n : ℕ) (t : Tree) (l : Option (Vec Height Global)) (gs : List Height) → n ≡ dimension_of t → l ≡ None
    → ((X : Dia n) → IsFirstAfter n X None gs) → IsNextPointIn t (listed l) (Some gs)
walk_first n t l gs e p h =
    subst (λ (m : Option (Vec Height Global)). IsNextPointIn t (listed m) (Some gs)) (sym p) (walk_next n t None (Some gs) e (h (dia n t)))

pub walk_answer : {E : Type 0} (n : ℕ) (t : Tree) (l : Option (Vec Height Global)) (v : Vec Height Global) (hs : List Height) (a : Result (Option (Vec Height Global)) E)
    → n ≡ dimension_of t → l ≡ Some v → hs ≡ v.items → IfOk a (λ next. IsNextPoint n (dia n t) (Some hs) (listed_back next))
    → IfOk a (λ found. IsNextPointIn t (listed l) (listed_back found))
walk_answer n t l v hs (Ok x) e p q h =
    subst (λ (m : Option (Vec Height Global)). IsNextPointIn t (listed m) (listed_back x)) (sym p)
    (walk_next n t (Some v.items) (listed_back x) e (subst (λ (gs : List Height). IsNextPoint n (dia n t) (Some gs) (listed_back x)) q h))
walk_answer n t l v hs (Err x) e p q h = tt

pub last_point : (t : Tree) (l : Option (Vec Height Global)) (v : Vec Height Global) → l ≡ Some v → IsLastIn t l → IsPointIn t v.items
last_point t l v e h = subst (IsLastIn t) e h

-- a walk that goes on to the point that was found
pub walk_goes_on : (c : Contents) (k : ℕ) (last : Option (List Height)) (o : Option (Vec Height Global)) (v w : Vec Height Global) → IsDiagramOf c k
    → o ≡ Some v → w.items ≡ reverse v.items → IsNextPointIn (diagram_at c k) last (listed_back o) → IsWalkOf c (record { diagram = k; last = Some w })
walk_goes_on c k last o v w l e p h = record {
  of_store = l;
  last = subst (IsPointIn (diagram_at c k)) (sym p)
      (given_point (diagram_at c k) last (reverse v.items) (subst (λ (q : Option (Vec Height Global)). IsNextPointIn (diagram_at c k) last (listed_back q)) e h));
}
