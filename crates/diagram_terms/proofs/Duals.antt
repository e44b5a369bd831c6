-- The dual of a list of heights that does not fall: what it counts, of composites and of identities.
use Rattle.std.proofs.Common.{◌≡◌, ℕ, ◌<◌, ◌≤◌, List, [], ◌∷◌, length, get_or, refl, sym, ap, ◌∙◌, arith, zero, suc, inl, inr}
use Rattle.std.proofs.lemmas.Bool.{cases_lt}
use Rattle.std.proofs.lemmas.Grind.{common_steps}
use Rattle.std.proofs.lemmas.List.{get_or-map, length-map, ext_get_or}
use Rattle.std.proofs.lemmas.List.FromFn.{length-range_with_len, get_or-range_with_len, length-map-range_with_len, get_or-map-range_with_len}
use Rattle.diagram_terms.specs.Dual.{upto, tab, IsMonotone, AreBelow, dual, after}

-- one height at a time
pub dual-nil : (k : ℕ) → dual [] k ≡ 0
unfolding dual
dual-nil k = refl

pub dual_yes : (h k : ℕ) (hs : List ℕ) → h < k → dual (h ∷ hs) k ≡ suc (dual hs k)
unfolding dual
dual_yes h k hs l = grind (arith, common_steps)

pub dual_no : (h k : ℕ) (hs : List ℕ) → k ≤ h → dual (h ∷ hs) k ≡ dual hs k
unfolding dual
dual_no h k hs l = grind (arith, common_steps)

mono_tail : (h : ℕ) (hs : List ℕ) → IsMonotone (h ∷ hs) → IsMonotone hs
mono_tail h hs m = record { rises = λ i j a b. m.rises (suc i) (suc j) (omega arith) (omega arith) }

mono_head : (h : ℕ) (hs : List ℕ) → IsMonotone (h ∷ hs) → (i : ℕ) → i < length hs → h ≤ get_or hs i 0
mono_head h hs m i l = m.rises 0 (suc i) (omega arith) (omega arith)

-- the dual at j counts exactly the heights below j, and they come first: i < dual hs k exactly if the height at i is below k
pub dual-le-length : (hs : List ℕ) (k : ℕ) → dual hs k ≤ length hs
dual-le-length [] k = rw dual-nil (omega arith)
dual-le-length (h ∷ hs) k =
    let ih : dual hs k ≤ length hs = dual-le-length hs k in
    elim (cases_lt h k) [
      | inl l ↦ rw (dual_yes h k hs l) (omega arith)
      | inr l ↦ rw (dual_no h k hs l) (omega arith)
    ]

pub lt-dual : (hs : List ℕ) → IsMonotone hs → (i k : ℕ) → i < length hs → get_or hs i 0 < k → i < dual hs k
lt-dual [] m i k l e = absurd (omega arith)
lt-dual (h ∷ hs) m zero k l e = rw (dual_yes h k hs e) (omega arith)
lt-dual (h ∷ hs) m (suc i) k l e =
    let l2 : i < length hs = omega arith in
    let ih : i < dual hs k = lt-dual hs (mono_tail h hs m) i k l2 e in
    let hd : h ≤ get_or hs i 0 = mono_head h hs m i l2 in
    let hk : h < k = omega arith in
    rw (dual_yes h k hs hk) (omega arith)

no_dual : (h k : ℕ) (hs : List ℕ) → IsMonotone (h ∷ hs) → k ≤ h
    → ((i : ℕ) → i < dual hs k → get_or hs i 0 < k) → dual hs k ≡ 0
no_dual h k hs m l ih =
    elim (cases_lt 0 (dual hs k)) [
      | inl p ↦ (let len : dual hs k ≤ length hs = dual-le-length hs k in
          let a : get_or hs 0 0 < k = ih 0 p in
          let b : h ≤ get_or hs 0 0 = mono_head h hs m 0 (omega arith) in
          absurd (omega arith))
      | inr p ↦ omega arith
    ]

pub dual-lt : (hs : List ℕ) → IsMonotone hs → (i k : ℕ) → i < dual hs k → get_or hs i 0 < k
dual-lt [] m i k l = absurd (omega (arith, rw dual-nil at l))
dual-lt (h ∷ hs) m zero k l =
    elim (cases_lt h k) [
      | inl p ↦ p
      | inr p ↦ absurd (omega (arith, no_dual h k hs m p (λ i. dual-lt hs (mono_tail h hs m) i k), rw (dual_no h k hs p) at l))
    ]
dual-lt (h ∷ hs) m (suc i) k l =
    elim (cases_lt h k) [
      | inl p ↦ dual-lt hs (mono_tail h hs m) i k (omega (arith, rw (dual_yes h k hs p) at l))
      | inr p ↦ absurd (omega (arith, no_dual h k hs m p (λ i. dual-lt hs (mono_tail h hs m) i k), rw (dual_no h k hs p) at l))
    ]

-- the dual is d where the first d heights are below k and the next is not
pub dual_is : (hs : List ℕ) → IsMonotone hs → (k d : ℕ) → d ≤ length hs
    → ((i : ℕ) → i < d → get_or hs i 0 < k) → (d < length hs → k ≤ get_or hs d 0) → dual hs k ≡ d
dual_is hs m k d l lower upper =
    let full : dual hs k ≤ length hs = dual-le-length hs k in
    elim (cases_lt (dual hs k) d) [
      | inl p ↦ absurd (let q : dual hs k < dual hs k = lt-dual hs m (dual hs k) k (omega arith) (lower (dual hs k) p) in omega arith)
      | inr p ↦ elim (cases_lt d (dual hs k)) [
        | inl q ↦ absurd (let a : get_or hs d 0 < k = dual-lt hs m d k q in let b : k ≤ get_or hs d 0 = upper (omega arith) in omega arith)
        | inr q ↦ omega arith
      ]
    ]

pub dual_mono : (hs : List ℕ) → IsMonotone hs → (j k : ℕ) → j ≤ k → dual hs j ≤ dual hs k
dual_mono hs m j k l = elim (cases_lt (dual hs k) (dual hs j)) [
  | inl p ↦ absurd (
      let full : dual hs j ≤ length hs = dual-le-length hs j in
      let a : get_or hs (dual hs k) 0 < j = dual-lt hs m (dual hs k) j p in
      let b : dual hs k < dual hs k = lt-dual hs m (dual hs k) k (omega arith) (omega arith) in omega arith)
  | inr p ↦ p
]

pub dual_full : (hs : List ℕ) → IsMonotone hs → (m k : ℕ) → AreBelow hs m → m ≤ k → dual hs k ≡ length hs
dual_full hs mo m k b l = dual_is hs mo k (length hs) (omega arith) (λ i q. let r = b.below i q in omega arith) (λ q. absurd (omega arith))

pub dual-zero : (hs : List ℕ) → IsMonotone hs → dual hs 0 ≡ 0
dual-zero hs mo = dual_is hs mo 0 0 (omega arith) (λ i q. absurd (omega arith)) (λ q. omega arith)

-- the heights that go to k are those from the dual of k on, below the dual of k + 1
pub in_fibre : (hs : List ℕ) → IsMonotone hs → (i k : ℕ) → dual hs k ≤ i → i < dual hs (suc k) → get_or hs i 0 ≡ k
in_fibre hs m i k low high =
    let len : dual hs (suc k) ≤ length hs = dual-le-length hs (suc k) in
    let a : get_or hs i 0 < suc k = dual-lt hs m i (suc k) high in
    elim (cases_lt (get_or hs i 0) k) [
      | inl p ↦ absurd (let b : i < dual hs k = lt-dual hs m i k (omega arith) p in omega arith)
      | inr p ↦ omega arith
    ]

pub fibre_low : (hs : List ℕ) → IsMonotone hs → (i k : ℕ) → get_or hs i 0 ≡ k → dual hs k ≤ i
fibre_low hs m i k e = elim (cases_lt i (dual hs k)) [
  | inl p ↦ absurd (let a : get_or hs i 0 < k = dual-lt hs m i k p in omega arith)
  | inr p ↦ p
]

pub fibre_high : (hs : List ℕ) → IsMonotone hs → (i k : ℕ) → i < length hs → get_or hs i 0 ≡ k → i < dual hs (suc k)
fibre_high hs m i k l e = lt-dual hs m i (suc k) l (omega arith)

-- heights that are strictly increasing
module _ (hs : List ℕ) (strict : (i j : ℕ) → i < j → j < length hs → get_or hs i 0 < get_or hs j 0) where
  pub mono_from_strict : IsMonotone hs
  mono_from_strict = record {
    rises = λ i j l k. elim (cases_lt i j) [
      | inl p ↦ (let a : get_or hs i 0 < get_or hs j 0 = strict i j p k in omega arith)
      | inr p ↦ (let e : i ≡ j = omega arith in rw e (omega arith))
    ];
  }

  -- right above the height of i stand the heights up to i
  pub dual-next : (i : ℕ) → i < length hs → dual hs (suc (get_or hs i 0)) ≡ suc i
  dual-next i l = dual_is hs mono_from_strict (suc (get_or hs i 0)) (suc i) (omega arith)
      (λ k q. omega (arith, mono_from_strict.rises k i (omega arith) l))
      (λ q. strict i (suc i) (omega arith) q)

  pub dual-same : (i : ℕ) → i < length hs → dual hs (get_or hs i 0) ≡ i
  dual-same i l = dual_is hs mono_from_strict (get_or hs i 0) i (omega arith)
      (λ k q. strict k i q l)
      (λ q. omega arith)

  -- each regular height of the source is the dual of one of the target
  pub dual_hits : (m : ℕ) → AreBelow hs m → (j : ℕ) → j ≤ length hs → (k : ℕ) × (k ≤ m) × (dual hs k ≡ j)
  dual_hits m b zero l = (0, omega arith, dual-zero hs mono_from_strict)
  dual_hits m b (suc i) l =
      let below : get_or hs i 0 < m = b.below i (omega arith) in
      (suc (get_or hs i 0), below, dual-next i (omega arith))

-- composites of heights
pub length-after : (g f : List ℕ) → length (after g f) ≡ length f
unfolding after
length-after g f = length-map f (λ i. get_or g i 0)

pub get-after : (g f : List ℕ) (i : ℕ) → i < length f → get_or (after g f) i 0 ≡ get_or g (get_or f i 0) 0
unfolding after
get-after g f i l = get_or-map (λ i. get_or g i 0) f i 0 0 l

pub same_numbers : (a b : List ℕ) → length a ≡ length b → ((i : ℕ) → i < length a → get_or a i 0 ≡ get_or b i 0) → a ≡ b
same_numbers a b e h = ext_get_or 0 a b e h

pub mono-after : (g f : List ℕ) → IsMonotone g → IsMonotone f → AreBelow f (length g) → IsMonotone (after g f)
mono-after g f mg mf b = record {
  rises = λ i j l k.
      let k2 : j < length f = rw length-after at k in
      let i2 : i < length f = omega arith in
      rw (get-after g f i i2, get-after g f j k2) (mg.rises (get_or f i 0) (get_or f j 0) (mf.rises i j l k2) (b.below j k2));
}

pub below-after : (g f : List ℕ) (m : ℕ) → AreBelow g m → AreBelow f (length g) → AreBelow (after g f) m
below-after g f m bg bf = record {
  below = λ i l.
      let l2 : i < length f = rw length-after at l in
      rw (get-after g f i l2) (bg.below (get_or f i 0) (bf.below i l2));
}

pub after_assoc : (h g f : List ℕ) → AreBelow f (length g) → after h (after g f) ≡ after (after h g) f
after_assoc h g f b = same_numbers (after h (after g f)) (after (after h g) f) (simp length-after) (λ i l.
    let l2 : i < length f = simp length-after at l in
    let l3 : i < length (after g f) = rw length-after l2 in
    rw (get-after h (after g f) i l3, get-after (after h g) f i l2, get-after g f i l2, get-after h g (get_or f i 0) (b.below i l2)) refl)

after-nil : (g : List ℕ) → after g [] ≡ []
unfolding after
after-nil g = refl

after-cons : (g : List ℕ) (h : ℕ) (f : List ℕ) → after g (h ∷ f) ≡ get_or g h 0 ∷ after g f
unfolding after
after-cons g h f = refl

below_tail : (h : ℕ) (f : List ℕ) (m : ℕ) → AreBelow (h ∷ f) m → AreBelow f m
below_tail h f m b = record { below = λ i l. b.below (suc i) (omega arith) }

-- the dual of a composite is the composite of the duals, the other way round
pub dual-after : (g f : List ℕ) → IsMonotone g → AreBelow f (length g) → (k : ℕ) → dual (after g f) k ≡ dual f (dual g k)
dual-after g [] m b k = rw (after-nil g, dual-nil k, dual-nil (dual g k)) refl
dual-after g (h ∷ f) m b k =
    let ih : dual (after g f) k ≡ dual f (dual g k) = dual-after g f m (below_tail h f (length g) b) k in
    let l : h < length g = b.below 0 (omega arith) in
    rw (after-cons g h f) (elim (cases_lt (get_or g h 0) k) [
      | inl p ↦ dual_yes (get_or g h 0) k (after g f) p ∙ ap suc ih ∙ sym (dual_yes h (dual g k) f (lt-dual g m h k l p))
      | inr p ↦ (let q : dual g k ≤ h = elim (cases_lt h (dual g k)) [
        | inl r ↦ absurd (let s : get_or g h 0 < k = dual-lt g m h k r in omega arith)
        | inr r ↦ r
      ] in
          dual_no (get_or g h 0) k (after g f) p ∙ ih ∙ sym (dual_no h (dual g k) f q))
    ])

-- the identity heights, and lists by a function of the index
pub length-upto : (n : ℕ) → length (upto n) ≡ n
length-upto n = length-range_with_len 0 n

pub get-upto : (n i : ℕ) → i < n → get_or (upto n) i 0 ≡ i
get-upto n i l = omega (arith, get_or-range_with_len 0 n i 0 l)

pub mono-upto : (n : ℕ) → IsMonotone (upto n)
mono-upto n = record {
  rises = λ i j l k.
      let k2 : j < n = rw length-upto at k in
      let i2 : i < n = omega arith in
      rw (get-upto n i i2, get-upto n j k2) l;
}

pub below-upto : (n : ℕ) → AreBelow (upto n) n
below-upto n = record { below = λ i l. let l2 : i < n = rw length-upto at l in rw (get-upto n i l2) l2 }

pub dual-upto : (n k : ℕ) → k ≤ n → dual (upto n) k ≡ k
dual-upto n k l = dual_is (upto n) (mono-upto n) k k (rw length-upto l)
    (λ i p. rw (get-upto n i (omega arith)) p)
    (λ p. let p2 : k < n = rw length-upto at p in rw (get-upto n k p2) (omega arith))

pub upto-after : (m : ℕ) (f : List ℕ) → AreBelow f m → after (upto m) f ≡ f
upto-after m f b = same_numbers (after (upto m) f) f (length-after (upto m) f) (λ i l.
    let l2 : i < length f = rw length-after at l in
    get-after (upto m) f i l2 ∙ get-upto m (get_or f i 0) (b.below i l2))

pub after-upto : (g : List ℕ) (n : ℕ) → length g ≡ n → after g (upto n) ≡ g
after-upto g n e = same_numbers (after g (upto n)) g (length-after g (upto n) ∙ length-upto n ∙ sym e) (λ i l.
    let l1 : i < length (upto n) = rw length-after at l in
    let l2 : i < n = rw length-upto at l1 in
    get-after g (upto n) i l1 ∙ ap (λ j. get_or g j 0) (get-upto n i l2))

pub length-tab : {X : Type 0} (f : ℕ → X) (n : ℕ) → length (tab f n) ≡ n
length-tab f n = length-map-range_with_len f 0 n

pub get-tab : {X : Type 0} (f : ℕ → X) (n i : ℕ) (d : X) → i < n → get_or (tab f n) i d ≡ f i
get-tab f n i d l = get_or-map-range_with_len f 0 n i i d l (omega arith)
