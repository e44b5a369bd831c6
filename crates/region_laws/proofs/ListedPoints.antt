-- The points of a diagram are listed once each, in order, with their labels.
use Rattle.std.proofs.Common.{◌≡◌, ◌⊎◌, ℕ, zero, suc, ◌+◌, ◌<◌, ◌≤◌, List, [], ◌∷◌, ◌++◌, length, refl, sym, ap, subst, arith, inl, inr}
use Rattle.std.specs.List.{flat_map, range_with_len}
use Rattle.std.proofs.lemmas.Bool.{cases_lt}
use Rattle.diagram_terms.specs.declared.place.Height.{Height}
use Rattle.diagram_terms.specs.declared.place.Height.TheVariants as height_kind
use Rattle.diagram_terms.specs.Dual.{upto}
use Rattle.diagram_terms.specs.Family.{Dia, reg, sing}
use Rattle.diagram_terms.specs.Points.{Point, point_inside, inside, points}
use Rattle.diagram_terms.specs.Paths.{IsPointOf, point_label}
use Rattle.diagram_terms.specs.PointOrder.{height_rank, IsBefore, point_at}
use Rattle.region_laws.specs.Laws.{PointsAreListed}

-- ---- lists of points

abbrev Each : (Point → Type 0) → List Point → Type 0
Each P [] = Unit {0}
Each P (p ∷ ps) = P p × Each P ps

abbrev InOrder : List Point → Type 0
InOrder [] = Unit {0}
InOrder (p ∷ ps) = Each (λ q. IsBefore p.heights q.heights) ps × InOrder ps

abbrev Among : List Height → List Point → Type 0
Among hs [] = ⊥
Among hs (p ∷ ps) = (p.heights ≡ hs) ⊎ Among hs ps

each-append : (P : Point → Type 0) (ps qs : List Point) → Each P ps → Each P qs → Each P (ps ++ qs)
each-append P [] qs a b = b
each-append P (p ∷ ps) qs a b = (a.0, each-append P ps qs a.1 b)

each_all : (P Q : Point → Type 0) (ps : List Point) → ((p : Point) → P p → Q p) → Each P ps → Each Q ps
each_all P Q [] h a = tt
each_all P Q (p ∷ ps) h a = (h p a.0, each_all P Q ps h a.1)

each-inside : (P Q : Point → Type 0) (g : Height) (ps : List Point) → ((p : Point) → P p → Q (point_inside g p)) → Each P ps → Each Q (inside g ps)
each-inside P Q g [] h a = tt
each-inside P Q g (p ∷ ps) h a = (h p a.0, each-inside P Q g ps h a.1)

any-inside : (Q : Point → Type 0) (g : Height) (ps : List Point) → ((p : Point) → Q (point_inside g p)) → Each Q (inside g ps)
any-inside Q g [] h = tt
any-inside Q g (p ∷ ps) h = (h p, any-inside Q g ps h)

each-range : (P : Point → Type 0) (G : ℕ → List Point) (n a : ℕ) → ((i : ℕ) → a ≤ i → i < a + n → Each P (G i)) → Each P (flat_map G (range_with_len a n))
each-range P G zero a h = tt
each-range P G (suc n) a h = each-append P (G a) (flat_map G (range_with_len (a + 1) n)) (h a (omega arith) (omega arith))
    (each-range P G n (a + 1) (λ i l m. h i (omega arith) (omega arith)))

each-at : (P : Point → Type 0) (ps : List Point) → Each P ps → (i : ℕ) → i < length ps → P (point_at ps i)
each-at P [] a i l = absurd (omega arith)
each-at P (p ∷ ps) a zero l = a.0
each-at P (p ∷ ps) a (suc i) l = each-at P ps a.1 i (omega arith)

-- ---- order

-- it begins with a height of a rank below m, or from m on
abbrev BeginsBelow : ℕ → List Height → Type 0
BeginsBelow m [] = ⊥
BeginsBelow m (h ∷ hs) = height_rank h < m

abbrev BeginsFrom : ℕ → List Height → Type 0
BeginsFrom m [] = ⊥
BeginsFrom m (h ∷ hs) = m ≤ height_rank h

apart : (m : ℕ) (gs hs : List Height) → BeginsBelow m gs → BeginsFrom m hs → IsBefore gs hs
apart m [] hs a b = absurd a
apart m (g ∷ gs) [] a b = absurd b
apart m (g ∷ gs) (h ∷ hs) a b = inl (omega arith)

begins_later : (m n : ℕ) (hs : List Height) → m ≤ n → BeginsFrom n hs → BeginsFrom m hs
begins_later m n [] l b = b
begins_later m n (h ∷ hs) l b = omega arith

begins_sooner : (m n : ℕ) (hs : List Height) → m ≤ n → BeginsBelow m hs → BeginsBelow n hs
begins_sooner m n [] l b = b
begins_sooner m n (h ∷ hs) l b = omega arith

order-append : (m : ℕ) (ps qs : List Point) → InOrder ps → InOrder qs → Each (λ p. BeginsBelow m p.heights) ps → Each (λ q. BeginsFrom m q.heights) qs → InOrder (ps ++ qs)
order-append m [] qs a b c e = b
order-append m (p ∷ ps) qs a b c e = (
  each-append (λ q. IsBefore p.heights q.heights) ps qs a.0 (each_all _ _ qs (λ q. apart m p.heights q.heights c.0) e),
  order-append m ps qs a.1 b c.1 e,
)

order-inside : (g : Height) (ps : List Point) → InOrder ps → InOrder (inside g ps)
order-inside g [] a = tt
order-inside g (p ∷ ps) a = (each-inside _ _ g ps (λ q b. inr (refl, b)) a.0, order-inside g ps a.1)

order-at : (ps : List Point) → InOrder ps → (i j : ℕ) → i < j → j < length ps → IsBefore (point_at ps i).heights (point_at ps j).heights
order-at [] a i j l m = absurd (omega arith)
order-at (p ∷ ps) a i zero l m = absurd (omega arith)
order-at (p ∷ ps) a zero (suc j) l m = each-at (λ q. IsBefore p.heights q.heights) ps a.0 j (omega arith)
order-at (p ∷ ps) a (suc i) (suc j) l m = order-at ps a.1 i j (omega arith) (omega arith)

-- ---- what is among them

among-left : (hs : List Height) (ps qs : List Point) → Among hs ps → Among hs (ps ++ qs)
among-left hs [] qs a = absurd a
among-left hs (p ∷ ps) qs a = elim a [ inl e ↦ inl e | inr b ↦ inr (among-left hs ps qs b) ]

among-right : (hs : List Height) (ps qs : List Point) → Among hs qs → Among hs (ps ++ qs)
among-right hs [] qs a = a
among-right hs (p ∷ ps) qs a = inr (among-right hs ps qs a)

among-inside : (g : Height) (hs : List Height) (ps : List Point) → Among hs ps → Among (g ∷ hs) (inside g ps)
among-inside g hs [] a = absurd a
among-inside g hs (p ∷ ps) a = elim a [ inl e ↦ inl (ap (λ (k : List Height). g ∷ k) e) | inr b ↦ inr (among-inside g hs ps b) ]

among-range : (hs : List Height) (G : ℕ → List Point) (n a i : ℕ) → a ≤ i → i < a + n → Among hs (G i) → Among hs (flat_map G (range_with_len a n))
among-range hs G zero a i l m b = absurd (omega arith)
among-range hs G (suc n) a i l m b = elim (cases_lt a i) [
  | inl p ↦ among-right hs (G a) (flat_map G (range_with_len (a + 1) n)) (among-range hs G n (a + 1) i (omega arith) (omega arith) b)
  | inr p ↦ among-left hs (G a) (flat_map G (range_with_len (a + 1) n)) (subst (λ (k : ℕ). Among hs (G k)) (omega arith) b)
]

among-at : (hs : List Height) (ps : List Point) → Among hs ps → (i : ℕ) × (i < length ps) × ((point_at ps i).heights ≡ hs)
among-at hs [] a = absurd a
among-at hs (p ∷ ps) a = elim a [
  | inl e ↦ (0, omega arith, e)
  | inr b ↦ (let r = among-at hs ps b in let l = r.1 in (suc r.0, omega arith, r.2))
]

-- ---- the points

-- a point of X with its label
abbrev IsLabelled : (d : ℕ) → Dia d → Point → Type 0
IsLabelled d X p = IsPointOf d X p.heights × (p.label ≡ point_label d X p.heights)

-- those over the height i, regular and singular
abbrev pair_at : (d : ℕ) → Dia (suc d) → ℕ → List Point
pair_at d X i = inside (height_kind.R i) (points d (reg d X i)) ++ inside (height_kind.S i) (points d (sing d X i))

labelled : (d : ℕ) (X : Dia d) → Each (IsLabelled d X) (points d X)
labelled zero x = ((tt, refl), tt)
labelled (suc d) X =
    let n : ℕ = length X.sings in
    let regular : (j : ℕ) → j ≤ n → Each (IsLabelled (suc d) X) (inside (height_kind.R j) (points d (reg d X j))) =
    λ j l. each-inside (IsLabelled d (reg d X j)) (IsLabelled (suc d) X) (height_kind.R j) (points d (reg d X j)) (λ p a. ((l, a.0), a.1)) (labelled d (reg d X j)) in
    let singular : (i : ℕ) → i < n → Each (IsLabelled (suc d) X) (inside (height_kind.S i) (points d (sing d X i))) =
    λ i l. each-inside (IsLabelled d (sing d X i)) (IsLabelled (suc d) X) (height_kind.S i) (points d (sing d X i)) (λ p a. ((l, a.0), a.1)) (labelled d (sing d X i)) in
    each-append (IsLabelled (suc d) X) (flat_map (pair_at d X) (upto n)) (inside (height_kind.R n) (points d (reg d X n)))
    (each-range (IsLabelled (suc d) X) (pair_at d X) n 0 (λ i l m.
    each-append (IsLabelled (suc d) X) (inside (height_kind.R i) (points d (reg d X i))) (inside (height_kind.S i) (points d (sing d X i)))
    (regular i (omega arith)) (singular i (omega arith))))
    (regular n (omega arith))

every_point : (d : ℕ) (X : Dia d) (hs : List Height) → IsPointOf d X hs → Among hs (points d X)
every_point zero x [] p = inl refl
every_point zero x (h ∷ hs) p = absurd p
every_point (suc d) X [] p = absurd p
every_point (suc d) X (height_kind.R j ∷ hs) p =
    let n : ℕ = length X.sings in
    let l = p.0 in
    let last : List Point = inside (height_kind.R n) (points d (reg d X n)) in
    let here = among-inside (height_kind.R j) hs (points d (reg d X j)) (every_point d (reg d X j) hs p.1) in
    elim (cases_lt j n) [
      | inl q ↦ among-left (height_kind.R j ∷ hs) (flat_map (pair_at d X) (upto n)) last
          (among-range (height_kind.R j ∷ hs) (pair_at d X) n 0 j (omega arith) (omega arith)
          (among-left (height_kind.R j ∷ hs) (inside (height_kind.R j) (points d (reg d X j))) (inside (height_kind.S j) (points d (sing d X j))) here))
      | inr q ↦ among-right (height_kind.R j ∷ hs) (flat_map (pair_at d X) (upto n)) last
          (subst (λ (m : ℕ). Among (height_kind.R j ∷ hs) (inside (height_kind.R m) (points d (reg d X m)))) (omega arith) here)
    ]
every_point (suc d) X (height_kind.S k ∷ hs) p =
    let n : ℕ = length X.sings in
    let l = p.0 in
    among-left (height_kind.S k ∷ hs) (flat_map (pair_at d X) (upto n)) (inside (height_kind.R n) (points d (reg d X n)))
    (among-range (height_kind.S k ∷ hs) (pair_at d X) n 0 k (omega arith) (omega arith)
    (among-right (height_kind.S k ∷ hs) (inside (height_kind.R k) (points d (reg d X k))) (inside (height_kind.S k) (points d (sing d X k)))
    (among-inside (height_kind.S k) hs (points d (sing d X k)) (every_point d (sing d X k) hs p.1))))

module _ (d : ℕ) (ih : (X : Dia d) → InOrder (points d X)) (X : Dia (suc d)) where
  pair_from : (i : ℕ) → Each (λ p. BeginsFrom (i + i) p.heights) (pair_at d X i)
  pair_from i = each-append (λ p. BeginsFrom (i + i) p.heights) (inside (height_kind.R i) (points d (reg d X i))) (inside (height_kind.S i) (points d (sing d X i)))
      (any-inside _ (height_kind.R i) (points d (reg d X i)) (λ p. omega arith)) (any-inside _ (height_kind.S i) (points d (sing d X i)) (λ p. omega arith))

  pair_below : (i : ℕ) → Each (λ p. BeginsBelow (suc i + suc i) p.heights) (pair_at d X i)
  pair_below i = each-append (λ p. BeginsBelow (suc i + suc i) p.heights) (inside (height_kind.R i) (points d (reg d X i))) (inside (height_kind.S i) (points d (sing d X i)))
      (any-inside _ (height_kind.R i) (points d (reg d X i)) (λ p. omega arith)) (any-inside _ (height_kind.S i) (points d (sing d X i)) (λ p. omega arith))

  pair_order : (i : ℕ) → InOrder (pair_at d X i)
  pair_order i = order-append (suc (i + i)) (inside (height_kind.R i) (points d (reg d X i))) (inside (height_kind.S i) (points d (sing d X i)))
      (order-inside (height_kind.R i) (points d (reg d X i)) (ih (reg d X i))) (order-inside (height_kind.S i) (points d (sing d X i)) (ih (sing d X i)))
      (any-inside _ (height_kind.R i) (points d (reg d X i)) (λ p. omega arith)) (any-inside _ (height_kind.S i) (points d (sing d X i)) (λ p. omega arith))

  range_order : (n a : ℕ) → InOrder (flat_map (pair_at d X) (range_with_len a n))
  range_order zero a = tt
  range_order (suc n) a = order-append (suc a + suc a) (pair_at d X a) (flat_map (pair_at d X) (range_with_len (a + 1) n)) (pair_order a) (range_order n (a + 1))
      (pair_below a)
      (each-range _ (pair_at d X) n (a + 1) (λ i l m. each_all _ _ (pair_at d X i) (λ p. begins_later (suc a + suc a) (i + i) p.heights (omega arith)) (pair_from i)))

  order_step : InOrder (points (suc d) X)
  order_step =
      let n : ℕ = length X.sings in
      order-append (n + n) (flat_map (pair_at d X) (upto n)) (inside (height_kind.R n) (points d (reg d X n)))
      (range_order n 0) (order-inside (height_kind.R n) (points d (reg d X n)) (ih (reg d X n)))
      (each-range _ (pair_at d X) n 0 (λ i l m. each_all _ _ (pair_at d X i) (λ p. begins_sooner (suc i + suc i) (n + n) p.heights (omega arith)) (pair_below i)))
      (any-inside _ (height_kind.R n) (points d (reg d X n)) (λ p. omega arith))

points_in_order : (d : ℕ) (X : Dia d) → InOrder (points d X)
points_in_order zero x = (tt, tt)
points_in_order (suc d) X = order_step d (points_in_order d) X

-- no point is before itself
not_before : (hs : List Height) → IsBefore hs hs → ⊥
not_before [] b = b
not_before (h ∷ hs) b = elim b [ inl l ↦ omega arith | inr p ↦ not_before hs p.1 ]

order_once : (ps : List Point) → InOrder ps → (i j : ℕ) → i < length ps → j < length ps → (point_at ps i).heights ≡ (point_at ps j).heights → i ≡ j
order_once ps o i j l m e = elim (cases_lt i j) [
  | inl p ↦ absurd (not_before (point_at ps j).heights (subst (λ (hs : List Height). IsBefore hs (point_at ps j).heights) e (order-at ps o i j p m)))
  | inr p ↦ elim (cases_lt j i) [
    | inl q ↦ absurd (not_before (point_at ps i).heights (subst (λ (hs : List Height). IsBefore hs (point_at ps i).heights) (sym e) (order-at ps o j i q l)))
    | inr q ↦ omega arith
  ]
]

pub points_are_listed : (d : ℕ) → PointsAreListed d
points_are_listed d X = record {
  points = λ i l. (each-at (IsLabelled d X) (points d X) (labelled d X) i l).0;
  labels = λ i l. (each-at (IsLabelled d X) (points d X) (labelled d X) i l).1;
  every = λ hs p. among-at hs (points d X) (every_point d X hs p);
  once = order_once (points d X) (points_in_order d X);
  in_order = order-at (points d X) (points_in_order d X);
}
