-- The next point of a diagram, by the next point of a slice.
use Rattle.std.proofs.Common.{◌≡◌, ◌⊎◌, ℕ, zero, suc, ◌<◌, ◌≤◌, List, [], ◌∷◌, length, None, Some, refl, sym, ap, subst, arith, inl, inr}
use Rattle.std.proofs.lemmas.Bool.{cases_lt}
use Rattle.diagram_terms.specs.declared.place.Height.{Height}
use Rattle.diagram_terms.specs.declared.place.Height.TheVariants as height_kind
use Rattle.diagram_terms.specs.Family.{Dia, reg, sing}
use Rattle.diagram_terms.specs.Paths.{IsPointOf}
use Rattle.diagram_terms.specs.PointOrder.{height_rank, IsBefore}
use Rattle.region_cut.specs.NextPoints.{IsAfter, IsFirstAfter, IsNextPoint}

-- the slice at a height, and that there is one
abbrev pub slice_at : (d : ℕ) → Dia (suc d) → Height → Dia d
slice_at d X (height_kind.R j) = reg d X j
slice_at d X (height_kind.S k) = sing d X k

abbrev pub HasHeight : (d : ℕ) → Dia (suc d) → Height → Type 0
HasHeight d X (height_kind.R j) = j ≤ length X.sings
HasHeight d X (height_kind.S k) = k < length X.sings

point_in : (d : ℕ) (X : Dia (suc d)) (h : Height) (hs : List Height) → IsPointOf (suc d) X (h ∷ hs) → HasHeight d X h × IsPointOf d (slice_at d X h) hs
point_in d X (height_kind.R j) hs p = p
point_in d X (height_kind.S k) hs p = p

point_over : (d : ℕ) (X : Dia (suc d)) (h : Height) (hs : List Height) → HasHeight d X h → IsPointOf d (slice_at d X h) hs → IsPointOf (suc d) X (h ∷ hs)
point_over d X (height_kind.R j) hs l p = (l, p)
point_over d X (height_kind.S k) hs l p = (l, p)

-- heights of one rank are equal
one_rank : (g h : Height) → height_rank g ≡ height_rank h → g ≡ h
one_rank (height_kind.R i) (height_kind.R j) e = let p : i ≡ j = omega arith in ap (λ k. height_kind.R k) p
one_rank (height_kind.R i) (height_kind.S j) e = absurd (omega arith)
one_rank (height_kind.S i) (height_kind.R j) e = absurd (omega arith)
one_rank (height_kind.S i) (height_kind.S j) e = let p : i ≡ j = omega arith in ap (λ k. height_kind.S k) p

-- ---- the first point of all

pub first_zero : (x : Dia zero) → IsFirstAfter zero x None []
first_zero x = record {
  point = tt;
  after = tt;
  first = only;
}
  where
    only : (hs : List Height) → IsPointOf zero x hs → IsAfter None hs → (hs ≡ []) ⊎ IsBefore [] hs
    only [] p a = inl refl
    only (h ∷ hs) p a = absurd p

-- no height is between
module _ (d : ℕ) (X : Dia (suc d)) (g : Height) (fs : List Height) (here : HasHeight d X g) (f : IsFirstAfter d (slice_at d X g) None fs) where
  -- a point whose first height is g or after it
  from_here : (k : Height) (ps : List Height) → IsPointOf (suc d) X (k ∷ ps) → height_rank g ≤ height_rank k → (k ∷ ps ≡ g ∷ fs) ⊎ IsBefore (g ∷ fs) (k ∷ ps)
  from_here k ps p l = elim (cases_lt (height_rank g) (height_rank k)) [
    | inl m ↦ inr (inl m)
    | inr m ↦ same (one_rank g k (omega arith))
  ]
    where
      same : g ≡ k → (k ∷ ps ≡ g ∷ fs) ⊎ IsBefore (g ∷ fs) (k ∷ ps)
      same e = elim (f.first ps (subst (λ h. IsPointOf d (slice_at d X h) ps) (sym e) (point_in d X k ps p).1) tt) [
        | inl q ↦ inl (λ i. sym e i ∷ q i)
        | inr b ↦ inr (inr (e, b))
      ]

  pub first_over : height_rank g ≡ 0 → IsFirstAfter (suc d) X None (g ∷ fs)
  first_over zero_rank = record {
    point = point_over d X g fs here f.point;
    after = tt;
    first = all;
  }
    where
      all : (hs : List Height) → IsPointOf (suc d) X hs → IsAfter None hs → (hs ≡ g ∷ fs) ⊎ IsBefore (g ∷ fs) hs
      all [] p a = absurd p
      all (k ∷ ps) p a = from_here k ps p (omega arith)

  -- after the last point over h, the height before g
  pub next_over : (h : Height) (hs : List Height) → height_rank g ≡ suc (height_rank h) → IsNextPoint d (slice_at d X h) (Some hs) None
      → IsFirstAfter (suc d) X (Some (h ∷ hs)) (g ∷ fs)
  next_over h hs e none = record {
    point = point_over d X g fs here f.point;
    after = inl (omega arith);
    first = all;
  }
    where
      all : (ps : List Height) → IsPointOf (suc d) X ps → IsAfter (Some (h ∷ hs)) ps → (ps ≡ g ∷ fs) ⊎ IsBefore (g ∷ fs) ps
      all [] p a = absurd p
      all (k ∷ ps) p a = elim a [
        | inl l ↦ from_here k ps p (omega arith)
        | inr b ↦ absurd (none ps (subst (λ u. IsPointOf d (slice_at d X u) ps) (sym b.0) (point_in d X k ps p).1) b.1)
      ]

-- ---- after a point

pub none_after_label : (x : Dia zero) (hs : List Height) → IsPointOf zero x hs → IsNextPoint zero x (Some hs) None
none_after_label x [] p [] q a = absurd a
none_after_label x [] p (k ∷ ps) q a = absurd q
none_after_label x (h ∷ hs) p ps q a = absurd p

-- over the same height
pub next_inside : (d : ℕ) (X : Dia (suc d)) (h : Height) (hs gs : List Height) → HasHeight d X h → IsFirstAfter d (slice_at d X h) (Some hs) gs
    → IsFirstAfter (suc d) X (Some (h ∷ hs)) (h ∷ gs)
next_inside d X h hs gs here f = record {
  point = point_over d X h gs here f.point;
  after = inr (refl, f.after);
  first = all;
}
  where
    all : (ps : List Height) → IsPointOf (suc d) X ps → IsAfter (Some (h ∷ hs)) ps → (ps ≡ h ∷ gs) ⊎ IsBefore (h ∷ gs) ps
    all [] p a = absurd p
    all (k ∷ ps) p a = elim a [
      | inl l ↦ inr (inl l)
      | inr b ↦ by b.0 (f.first ps (subst (λ u. IsPointOf d (slice_at d X u) ps) (sym b.0) (point_in d X k ps p).1) b.1)
    ]
      where
        by : h ≡ k → (ps ≡ gs) ⊎ IsBefore gs ps → (k ∷ ps ≡ h ∷ gs) ⊎ IsBefore (h ∷ gs) (k ∷ ps)
        by e c = elim c [ inl q ↦ inl (λ i. sym e i ∷ q i) | inr b ↦ inr (inr (e, b)) ]

-- after the last point over the last height
pub none_after_last : (d : ℕ) (X : Dia (suc d)) (j : ℕ) (hs : List Height) → length X.sings ≤ j → IsNextPoint d (reg d X j) (Some hs) None
    → IsNextPoint (suc d) X (Some (height_kind.R j ∷ hs)) None
none_after_last d X j hs l none [] p a = absurd p
none_after_last d X j hs l none (height_kind.R i ∷ ps) p a = elim a [
  | inl m ↦ absurd (let n = p.0 in omega arith)
  | inr b ↦ absurd (none ps (subst (λ u. IsPointOf d (slice_at d X u) ps) (sym b.0) p.1) b.1)
]
none_after_last d X j hs l none (height_kind.S k ∷ ps) p a = elim a [
  | inl m ↦ absurd (let n = p.0 in omega arith)
  | inr b ↦ absurd (none ps (subst (λ u. IsPointOf d (slice_at d X u) ps) (sym b.0) p.1) b.1)
]
