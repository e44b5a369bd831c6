-- Lists of heights that increase: where they are, what they hit, and what goes through them.
use Rattle.std.proofs.Common.{◌≡◌, ℕ, zero, suc, ◌+◌, ◌-◌, ◌<◌, ◌≤◌, ◌⊎◌, inl, inr, List, [], ◌∷◌, ◌++◌, length, get_or, refl, sym, ap, ap₂, ◌∙◌, subst, arith}
use Rattle.std.specs.List.{Contains}
use Rattle.std.proofs.lemmas.Bool.{cases_lt, cases_eq}
use Rattle.std.proofs.lemmas.List.{get_or_default, get_or_append_left, get_or_push, length_push}
use Rattle.diagram_terms.specs.Dual.{IsMonotone, IsIncreasing, AreBelow, dual, after, upto}
use Rattle.diagram_terms.proofs.Duals.{dual-le-length, mono_from_strict, dual-next, dual-same, dual_hits, dual_mono, in_fibre, fibre_low, fibre_high, length-after, get-after, same_numbers, length-upto, get-upto}

-- a list does not fall where no number is below the one before it
pub mono_from_steps : (hs : List ℕ) → ((k : ℕ) → 0 < k → k < length hs → get_or hs (k - 1) 0 ≤ get_or hs k 0) → IsMonotone hs
mono_from_steps hs steps = record { rises = rises_to } where
  rises_to : (i j : ℕ) → i ≤ j → j < length hs → get_or hs i 0 ≤ get_or hs j 0
  rises_to i zero l k = let e : i ≡ 0 = omega arith in rw e (omega arith)
  rises_to i (suc j) l k = elim (cases_lt i (suc j)) [
    | inl p ↦ (let a : get_or hs i 0 ≤ get_or hs j 0 = rises_to i j (omega arith) (omega arith) in
        let e : suc j - 1 ≡ j = omega arith in
        let b : get_or hs j 0 ≤ get_or hs (suc j) 0 = rw e at (steps (suc j) (omega arith) k) in
        omega arith)
    | inr p ↦ (let e : i ≡ suc j = omega arith in rw e (omega arith))
  ]

-- ---- what a list hits

pub found_at : (hs : List ℕ) (h : ℕ) → Contains hs h → (i : ℕ) × (i < length hs) × (get_or hs i 0 ≡ h)
found_at hs h c = (c.0, c.1, get_or_default hs c.0 0 h c.1 ∙ c.2)

pub contains_at : (hs : List ℕ) (i h : ℕ) → i < length hs → get_or hs i 0 ≡ h → Contains hs h
contains_at hs i h l e = (i, l, get_or_default hs i h 0 l ∙ e)

pub below_contained : (hs : List ℕ) (m h : ℕ) → AreBelow hs m → Contains hs h → h < m
below_contained hs m h b c =
    let at = found_at hs h c in
    let l : get_or hs at.0 0 < m = b.below at.0 at.1 in
    subst (λ (n : ℕ). n < m) at.2 l

not_in_cons : (x : ℕ) (xs : List ℕ) (h : ℕ) → ¬ (x ≡ h) → ¬ Contains xs h → (k : ℕ) → k < length (x ∷ xs) → get_or (x ∷ xs) k h ≡ h → ⊥
not_in_cons x xs h apart absent zero l e = apart e
not_in_cons x xs h apart absent (suc k) l e = absent (k, omega arith, e)

-- a list hits a height, or it does not
pub contains_or_not : (hs : List ℕ) (h : ℕ) → Contains hs h ⊎ (¬ Contains hs h)
contains_or_not [] h = inr (λ c. let l = c.1 in omega arith)
contains_or_not (x ∷ xs) h = elim (cases_eq x h) [
  | inl e ↦ inl (0, omega arith, e)
  | inr apart ↦ elim (contains_or_not xs h) [
    | inl c ↦ (let l = c.1 in inl (suc c.0, omega arith, c.2))
    | inr absent ↦ inr (λ c. not_in_cons x xs h apart absent c.0 c.1 c.2)
  ]
]

-- a height is hit exactly where the dual steps up
pub hit_where_dual_rises : (hs : List ℕ) → IsMonotone hs → (k : ℕ) → dual hs k < dual hs (suc k) → Contains hs k
hit_where_dual_rises hs m k l =
    let long : dual hs (suc k) ≤ length hs = dual-le-length hs (suc k) in
    contains_at hs (dual hs k) k (omega arith) (in_fibre hs m (dual hs k) k (omega arith) l)

pub dual_rises_where_hit : (hs : List ℕ) → IsMonotone hs → (k : ℕ) → Contains hs k → dual hs k < dual hs (suc k)
dual_rises_where_hit hs m k c =
    let at = found_at hs k c in
    let low : dual hs k ≤ at.0 = fibre_low hs m at.0 k at.2 in
    let high : at.0 < dual hs (suc k) = fibre_high hs m at.0 k at.1 at.2 in
    omega arith

pub missed_where_dual_stays : (hs : List ℕ) → IsMonotone hs → (k : ℕ) → dual hs k ≡ dual hs (suc k) → ¬ Contains hs k
missed_where_dual_stays hs m k e c = let l : dual hs k < dual hs (suc k) = dual_rises_where_hit hs m k c in omega arith

pub dual_stays_where_missed : (hs : List ℕ) → IsMonotone hs → (k : ℕ) → ¬ Contains hs k → dual hs k ≡ dual hs (suc k)
dual_stays_where_missed hs m k absent = elim (cases_lt (dual hs k) (dual hs (suc k))) [
  | inl l ↦ absurd (absent (hit_where_dual_rises hs m k l))
  | inr l ↦ (let up : dual hs k ≤ dual hs (suc k) = dual_mono hs m k (suc k) (omega arith) in omega arith)
]

-- ---- lists that increase

pub increasing_mono : (hs : List ℕ) → IsIncreasing hs → IsMonotone hs
increasing_mono hs up = mono_from_strict hs up.increases

pub increasing-dual_next : (hs : List ℕ) → IsIncreasing hs → (i : ℕ) → i < length hs → dual hs (suc (get_or hs i 0)) ≡ suc i
increasing-dual_next hs up i l = dual-next hs up.increases i l

pub increasing-dual_same : (hs : List ℕ) → IsIncreasing hs → (i : ℕ) → i < length hs → dual hs (get_or hs i 0) ≡ i
increasing-dual_same hs up i l = dual-same hs up.increases i l

-- each regular height of the source is the dual of one of the target
pub increasing_hits : (hs : List ℕ) (m : ℕ) → IsIncreasing hs → AreBelow hs m → (j : ℕ) → j ≤ length hs → (k : ℕ) × (k ≤ m) × (dual hs k ≡ j)
increasing_hits hs m up b j l = dual_hits hs up.increases m b j l

pub order_of_places : (hs : List ℕ) → IsIncreasing hs → (i j : ℕ) → i < length hs → get_or hs i 0 < get_or hs j 0 → i < j
order_of_places hs up i j l k = elim (cases_lt i j) [
  | inl p ↦ p
  | inr p ↦ absurd (let a : get_or hs j 0 ≤ get_or hs i 0 = (increasing_mono hs up).rises j i p l in omega arith)
]

pub same_place : (hs : List ℕ) → IsIncreasing hs → (i j : ℕ) → i < length hs → j < length hs → get_or hs i 0 ≡ get_or hs j 0 → i ≡ j
same_place hs up i j li lj e = elim (cases_lt i j) [
  | inl p ↦ absurd (let a : get_or hs i 0 < get_or hs j 0 = up.increases i j p lj in omega arith)
  | inr p ↦ elim (cases_lt j i) [
    | inl q ↦ absurd (let a : get_or hs j 0 < get_or hs i 0 = up.increases j i q li in omega arith)
    | inr q ↦ omega arith
  ]
]

pub increasing-upto : (n : ℕ) → IsIncreasing (upto n)
increasing-upto n = record {
  increases = λ i j l k.
      let k2 : j < n = rw length-upto at k in
      let i2 : i < n = omega arith in
      rw (get-upto n i i2, get-upto n j k2) l;
}

pub increasing-nil : IsIncreasing []
increasing-nil = record { increases = λ i j l k. absurd (omega arith) }

pub increasing_tail : (x : ℕ) (xs : List ℕ) → IsIncreasing (x ∷ xs) → IsIncreasing xs
increasing_tail x xs up = record { increases = λ i j l k. up.increases (suc i) (suc j) (omega arith) (omega arith) }

increasing_head : (x : ℕ) (xs : List ℕ) → IsIncreasing (x ∷ xs) → (h : ℕ) → Contains xs h → x < h
increasing_head x xs up h c =
    let at = found_at xs h c in
    let l = at.1 in
    let a : x < get_or xs at.0 0 = up.increases 0 (suc at.0) (omega arith) (omega arith) in
    subst (λ (n : ℕ). x < n) at.2 a

-- one more height, above all others
pub increasing-push : (hs : List ℕ) (h : ℕ) → IsIncreasing hs → AreBelow hs h → IsIncreasing (hs ++ h ∷ [])
increasing-push hs h up b = record {
  increases = λ i j l k.
      let long : length (hs ++ h ∷ []) ≡ length hs + 1 = length_push hs h in
      let li : i < length hs = omega arith in
      rw (get_or_append_left hs (h ∷ []) 0 i li) (elim (cases_lt j (length hs)) [
        | inl lj ↦ rw (get_or_append_left hs (h ∷ []) 0 j lj) (up.increases i j l lj)
        | inr lj ↦ (let e : length hs ≡ j = omega arith in rw (get_or_push hs h 0 j e) (b.below i li))
      ]);
}

-- ---- increasing lists with the same heights are equal

cons_cases : (x : ℕ) (xs : List ℕ) (h : ℕ) → (k : ℕ) → k < length (x ∷ xs) → get_or (x ∷ xs) k h ≡ h → (x ≡ h) ⊎ Contains xs h
cons_cases x xs h zero l e = inl e
cons_cases x xs h (suc k) l e = inr (k, omega arith, e)

in_tail : (x : ℕ) (xs : List ℕ) (h : ℕ) → Contains xs h → Contains (x ∷ xs) h
in_tail x xs h c = let l = c.1 in (suc c.0, omega arith, c.2)

head_at_most : (y : ℕ) (ys : List ℕ) → IsIncreasing (y ∷ ys) → (h : ℕ) → Contains (y ∷ ys) h → y ≤ h
head_at_most y ys up h c = elim (cons_cases y ys h c.0 c.1 c.2) [
  | inl e ↦ omega arith
  | inr d ↦ (let l : y < h = increasing_head y ys up h d in omega arith)
]

in_rest : (x y : ℕ) (xs ys : List ℕ) → x ≡ y → IsIncreasing (x ∷ xs)
    → ((h : ℕ) → Contains (x ∷ xs) h → Contains (y ∷ ys) h) → (h : ℕ) → Contains xs h → Contains ys h
in_rest x y xs ys e up f h c =
    let l : x < h = increasing_head x xs up h c in
    let d = f h (in_tail x xs h c) in
    elim (cons_cases y ys h d.0 d.1 d.2) [
      | inl p ↦ absurd (omega arith)
      | inr p ↦ p
    ]

pub same_increasing : (xs ys : List ℕ) → IsIncreasing xs → IsIncreasing ys
    → ((h : ℕ) → Contains xs h → Contains ys h) → ((h : ℕ) → Contains ys h → Contains xs h) → xs ≡ ys
same_increasing [] [] up up2 f g = refl
same_increasing [] (y ∷ ys) up up2 f g = absurd (let c = g y (0, omega arith, refl) in let l = c.1 in omega arith)
same_increasing (x ∷ xs) [] up up2 f g = absurd (let c = f x (0, omega arith, refl) in let l = c.1 in omega arith)
same_increasing (x ∷ xs) (y ∷ ys) up up2 f g =
    let a : y ≤ x = head_at_most y ys up2 x (f x (0, omega arith, refl)) in
    let b : x ≤ y = head_at_most x xs up y (g y (0, omega arith, refl)) in
    let e : x ≡ y = omega arith in
    ap₂ (λ (z : ℕ) (zs : List ℕ). z ∷ zs) e (same_increasing xs ys (increasing_tail x xs up) (increasing_tail y ys up2)
    (in_rest x y xs ys e up f) (in_rest y x ys xs (sym e) up2 g))

-- ---- composites

pub increasing-after : (g f : List ℕ) → IsIncreasing g → IsIncreasing f → AreBelow f (length g) → IsIncreasing (after g f)
increasing-after g f ug uf b = record {
  increases = λ i j l k.
      let lj : j < length f = rw length-after at k in
      let li : i < length f = omega arith in
      rw (get-after g f i li, get-after g f j lj) (ug.increases (get_or f i 0) (get_or f j 0) (uf.increases i j l lj) (b.below j lj));
}

-- the first of two lists increases where the composite does
pub increasing_first : (g f : List ℕ) → IsMonotone g → IsMonotone f → AreBelow f (length g) → IsIncreasing (after g f) → IsIncreasing f
increasing_first g f mg mf b up = record {
  increases = λ i j l lj.
      let li : i < length f = omega arith in
      let k : j < length (after g f) = rw length-after lj in
      let a : get_or g (get_or f i 0) 0 < get_or g (get_or f j 0) 0 = rw (get-after g f i li, get-after g f j lj) at (up.increases i j l k) in
      let c : get_or f i 0 ≤ get_or f j 0 = mf.rises i j (omega arith) lj in
      elim (cases_eq (get_or f i 0) (get_or f j 0)) [
        | inl e ↦ absurd (let p : get_or g (get_or f i 0) 0 ≡ get_or g (get_or f j 0) 0 = ap (λ (n : ℕ). get_or g n 0) e in omega arith)
        | inr n ↦ omega arith
      ];
}

-- what goes through an increasing list does not fall where the composite does not
pub mono_through : (e g : List ℕ) → IsIncreasing e → AreBelow g (length e) → IsMonotone (after e g) → IsMonotone g
mono_through e g up b m = record {
  rises = λ i j l lj.
      let li : i < length g = omega arith in
      let k : j < length (after e g) = rw length-after lj in
      let a : get_or e (get_or g i 0) 0 ≤ get_or e (get_or g j 0) 0 = rw (get-after e g i li, get-after e g j lj) at (m.rises i j l k) in
      elim (cases_lt (get_or g j 0) (get_or g i 0)) [
        | inl p ↦ absurd (let q : get_or e (get_or g j 0) 0 < get_or e (get_or g i 0) 0 = up.increases (get_or g j 0) (get_or g i 0) p (b.below i li) in omega arith)
        | inr p ↦ p
      ];
}

-- a list goes through an increasing one in one way alone
pub same_factor : (e f g : List ℕ) → IsIncreasing e → AreBelow f (length e) → AreBelow g (length e) → after e f ≡ after e g → f ≡ g
same_factor e f g up bf bg same =
    let long : length f ≡ length g = sym (length-after e f) ∙ ap length same ∙ length-after e g in
    same_numbers f g long (λ i l.
    let l2 : i < length g = omega arith in
    let p : get_or e (get_or f i 0) 0 ≡ get_or e (get_or g i 0) 0 =
    sym (get-after e f i l) ∙ ap (λ (hs : List ℕ). get_or hs i 0) same ∙ get-after e g i l2 in
    same_place e up (get_or f i 0) (get_or g i 0) (bf.below i l) (bg.below i l2) p)

-- ---- lists that undo each other

-- an increasing list sends no height below its own place
pub increasing_at_least : (hs : List ℕ) → IsIncreasing hs → (i : ℕ) → i < length hs → i ≤ get_or hs i 0
increasing_at_least hs up zero l = omega arith
increasing_at_least hs up (suc i) l =
    let before : i ≤ get_or hs i 0 = increasing_at_least hs up i (omega arith) in
    let step : get_or hs i 0 < get_or hs (suc i) 0 = up.increases i (suc i) (omega arith) l in
    omega arith

module _ (f g : List ℕ) (mf : IsMonotone f) (mg : IsMonotone g) (bf : AreBelow f (length g)) (bg : AreBelow g (length f))
    (gf : after g f ≡ upto (length f)) (fg : after f g ≡ upto (length g)) where
  inverse_increases : IsIncreasing f
  inverse_increases = increasing_first g f mg mf bf (subst IsIncreasing (sym gf) (increasing-upto (length f)))

  inverse_back : (i : ℕ) → i < length f → get_or g (get_or f i 0) 0 ≡ i
  inverse_back i l = sym (get-after g f i l) ∙ ap (λ (hs : List ℕ). get_or hs i 0) gf ∙ get-upto (length f) i l

  -- then the first of them is the identity
  pub inverse_is_identity : f ≡ upto (length f)
  inverse_is_identity =
      let up : IsIncreasing f = inverse_increases in
      let ug : IsIncreasing g = increasing_first f g mf mg bg (subst IsIncreasing (sym fg) (increasing-upto (length g))) in
      same_numbers f (upto (length f)) (sym (length-upto (length f))) (λ i l.
      let here : i ≤ get_or f i 0 = increasing_at_least f up i l in
      let there : get_or f i 0 ≤ get_or g (get_or f i 0) 0 = increasing_at_least g ug (get_or f i 0) (bf.below i l) in
      let back = inverse_back i l in
      let same : get_or f i 0 ≡ i = omega arith in
      same ∙ sym (get-upto (length f) i l))
