-- Parts of a list of heights that does not fall: fibres, blocks, what is cut out of it, and two lists side by side.
use Rattle.std.proofs.Common.{◌≡◌, ℕ, zero, suc, ◌+◌, ◌-◌, ◌<◌, ◌≤◌, ◌↔◌, inl, inr, List, length, map, get_or, take, drop, ◌++◌, sym, ap, ◌∙◌, subst, arith, length-append, length-drop}
use Rattle.std.proofs.lemmas.Bool.{cases_lt}
use Rattle.std.proofs.lemmas.List.{length-map, get_or-map, get_or-take, get_or-drop, get_or_append_left, get_or-append-add, length-take-le}
use Rattle.diagram_terms.specs.Dual.{IsMonotone, AreBelow, dual, tab}
use Rattle.diagram_terms.proofs.Duals.{dual-le-length, dual-lt, lt-dual, dual_is, dual_mono, in_fibre, fibre_low, fibre_high, length-tab, get-tab}

-- ---- fibres and blocks

-- a height goes to k exactly if its place is in the fibre of k
pub fibre_iff : (hs : List ℕ) → IsMonotone hs → (i k : ℕ) → i < length hs → (get_or hs i 0 ≡ k) ↔ ((dual hs k ≤ i) × (i < dual hs (suc k)))
fibre_iff hs m i k l = (λ e. (fibre_low hs m i k e, fibre_high hs m i k l e), λ p. in_fibre hs m i k p.0 p.1)

-- what is not below the dual at k goes to k or higher
pub dual-ge : (hs : List ℕ) → IsMonotone hs → (i k : ℕ) → dual hs k ≤ i → i < length hs → k ≤ get_or hs i 0
dual-ge hs m i k l long = elim (cases_lt (get_or hs i 0) k) [
  | inl p ↦ absurd (let a : i < dual hs k = lt-dual hs m i k long p in omega arith)
  | inr p ↦ p
]

-- where the dual is the same at p and q, it is the same between them
pub dual_constant : (hs : List ℕ) → IsMonotone hs → (p q k : ℕ) → dual hs p ≡ dual hs q → p ≤ k → k ≤ q → dual hs k ≡ dual hs p
dual_constant hs m p q k e l r =
    let a : dual hs p ≤ dual hs k = dual_mono hs m p k l in
    let b : dual hs k ≤ dual hs q = dual_mono hs m k q r in
    omega arith

-- the first and the last height of a block that is not empty
module _ (hs : List ℕ) (m : IsMonotone hs) (p q : ℕ) (some : dual hs p < dual hs q) where
  pub block_first_low : p ≤ get_or hs (dual hs p) 0
  block_first_low = let long : dual hs q ≤ length hs = dual-le-length hs q in dual-ge hs m (dual hs p) p (omega arith) (omega arith)

  pub block_first_high : get_or hs (dual hs p) 0 < q
  block_first_high = dual-lt hs m (dual hs p) q some

  pub block_first_dual : dual hs (get_or hs (dual hs p) 0) ≡ dual hs p
  block_first_dual =
      let long : dual hs q ≤ length hs = dual-le-length hs q in
      dual_is hs m (get_or hs (dual hs p) 0) (dual hs p) (omega arith)
      (λ i l. let a : get_or hs i 0 < p = dual-lt hs m i p l in let b = block_first_low in omega arith)
      (λ l. omega arith)

  pub block_last_low : p ≤ get_or hs (dual hs q - 1) 0
  block_last_low = let long : dual hs q ≤ length hs = dual-le-length hs q in dual-ge hs m (dual hs q - 1) p (omega arith) (omega arith)

  pub block_last_high : get_or hs (dual hs q - 1) 0 < q
  block_last_high = dual-lt hs m (dual hs q - 1) q (omega arith)

  pub block_last_dual : dual hs (suc (get_or hs (dual hs q - 1) 0)) ≡ dual hs q
  block_last_dual =
      let long : dual hs q ≤ length hs = dual-le-length hs q in
      dual_is hs m (suc (get_or hs (dual hs q - 1) 0)) (dual hs q) (omega arith)
      (λ i l. let a : get_or hs i 0 ≤ get_or hs (dual hs q - 1) 0 = m.rises i (dual hs q - 1) (omega arith) (omega arith) in omega arith)
      (λ l. let a : q ≤ get_or hs (dual hs q) 0 = dual-ge hs m (dual hs q) q (omega arith) l in let b = block_last_high in omega arith)

-- between two heights that differ
pub dual_above_step : (hs : List ℕ) → IsMonotone hs → (i : ℕ) → suc i < length hs → get_or hs i 0 < get_or hs (suc i) 0 → dual hs (suc (get_or hs i 0)) ≡ suc i
dual_above_step hs m i l step = dual_is hs m (suc (get_or hs i 0)) (suc i) (omega arith)
    (λ k p. let a : get_or hs k 0 ≤ get_or hs i 0 = m.rises k i (omega arith) (omega arith) in omega arith)
    (λ p. step)

pub dual_at_step : (hs : List ℕ) → IsMonotone hs → (i : ℕ) → suc i < length hs → get_or hs i 0 < get_or hs (suc i) 0 → dual hs (get_or hs (suc i) 0) ≡ suc i
dual_at_step hs m i l step = dual_is hs m (get_or hs (suc i) 0) (suc i) (omega arith)
    (λ k p. let a : get_or hs k 0 ≤ get_or hs i 0 = m.rises k i (omega arith) (omega arith) in omega arith)
    (λ p. omega arith)

-- a regular height of the source that lies between the duals of two regular heights lies between those of two next to each other
abbrev pub IsBetween : List ℕ → ℕ → ℕ → ℕ → ℕ → Type 0
IsBetween hs a b t k = (a ≤ k) × (k < b) × (dual hs k ≤ t) × (t ≤ dual hs (suc k))

pub between_duals : (hs : List ℕ) (a n t : ℕ) → dual hs a ≤ t → t ≤ dual hs (a + suc n) → (k : ℕ) × IsBetween hs a (a + suc n) t k
between_duals hs a zero t low high =
    let e : a + suc zero ≡ suc a = omega arith in
    let top : t ≤ dual hs (suc a) = rw e at high in
    (a, (omega arith, omega arith, low, top))
between_duals hs a (suc n) t low high = elim (cases_lt t (dual hs (a + suc n))) [
  | inl l ↦ (let r = between_duals hs a n t low (omega arith) in let s = r.1 in (r.0, (s.0, omega arith, s.2, s.3)))
  | inr l ↦ (let e : a + suc (suc n) ≡ suc (a + suc n) = omega arith in
      let top : t ≤ dual hs (suc (a + suc n)) = rw e at high in
      (a + suc n, (omega arith, omega arith, l, top)))
]

-- ---- what is cut out

-- c is the part of f that goes to the heights from a on, below b, counted from a
pub record IsRestriction (f : List ℕ) (a b : ℕ) (c : List ℕ) : Type 0 where
  pub long : length c ≡ dual f b - dual f a
  pub counted : (i : ℕ) → i < length c → get_or c i 0 ≡ get_or f (dual f a + i) 0 - a

module _ (f c : List ℕ) (m : IsMonotone f) (a b : ℕ) (r : IsRestriction f a b c) where
  restriction_from : (i : ℕ) → i < length c → a ≤ get_or f (dual f a + i) 0
  restriction_from i l =
      let long = r.long in
      let full : dual f b ≤ length f = dual-le-length f b in
      dual-ge f m (dual f a + i) a (omega arith) (omega arith)

  restriction_to : (i : ℕ) → i < length c → get_or f (dual f a + i) 0 < b
  restriction_to i l = let long = r.long in dual-lt f m (dual f a + i) b (omega arith)

  pub restriction_mono : IsMonotone c
  restriction_mono = record {
    rises = λ i j l k.
        let li : i < length c = omega arith in
        let long = r.long in
        let full : dual f b ≤ length f = dual-le-length f b in
        let up : get_or f (dual f a + i) 0 ≤ get_or f (dual f a + j) 0 = m.rises (dual f a + i) (dual f a + j) (omega arith) (omega arith) in
        rw (r.counted i li, r.counted j k) (omega arith);
  }

  pub restriction_below : AreBelow c (b - a)
  restriction_below = record {
    below = λ i l.
        let low = restriction_from i l in
        let high = restriction_to i l in
        rw (r.counted i l) (omega arith);
  }

  pub restriction_dual : (j : ℕ) → a + j ≤ b → dual c j ≡ dual f (a + j) - dual f a
  restriction_dual j l =
      let long = r.long in
      let low : dual f a ≤ dual f (a + j) = dual_mono f m a (a + j) (omega arith) in
      let high : dual f (a + j) ≤ dual f b = dual_mono f m (a + j) b l in
      let full : dual f b ≤ length f = dual-le-length f b in
      dual_is c restriction_mono j (dual f (a + j) - dual f a) (omega arith)
      (λ i k.
      let li : i < length c = omega arith in
      let from = restriction_from i li in
      let to : get_or f (dual f a + i) 0 < a + j = dual-lt f m (dual f a + i) (a + j) (omega arith) in
      rw (r.counted i li) (omega arith))
      (λ k.
      let to : a + j ≤ get_or f (dual f a + (dual f (a + j) - dual f a)) 0 =
      dual-ge f m (dual f a + (dual f (a + j) - dual f a)) (a + j) (omega arith) (omega arith) in
      rw (r.counted (dual f (a + j) - dual f a) k) (omega arith))

-- such parts, by the index and as a cut
pub restriction_tab : (f : List ℕ) (a b : ℕ) → IsRestriction f a b (tab (λ i. get_or f (dual f a + i) 0 - a) (dual f b - dual f a))
restriction_tab f a b =
    let g : ℕ → ℕ = λ i. get_or f (dual f a + i) 0 - a in
    let n : ℕ = dual f b - dual f a in
    record {
      long = length-tab g n;
      counted = λ i l. get-tab g n i 0 (subst (λ (k : ℕ). i < k) (length-tab g n) l);
    }

pub restriction_cut : (f : List ℕ) (a b : ℕ) → IsRestriction f a b (map (λ h. h - a) (take (dual f b - dual f a) (drop (dual f a) f)))
restriction_cut f a b =
    let n : ℕ = dual f b - dual f a in
    let part : List ℕ = take n (drop (dual f a) f) in
    let full : dual f b ≤ length f = dual-le-length f b in
    let rest : length (drop (dual f a) f) ≡ length f - dual f a = length-drop (dual f a) f in
    let long : length part ≡ n = length-take-le n (drop (dual f a) f) (omega arith) in
    record {
      long = length-map part (λ h. h - a) ∙ long;
      counted = λ i l.
          let here : i < length part = subst (λ (k : ℕ). i < k) (length-map part (λ h. h - a)) l in
          get_or-map (λ h. h - a) part i 0 0 here
          ∙ ap (λ (h : ℕ). h - a) (get_or-take n (drop (dual f a) f) i 0 (omega arith) ∙ get_or-drop (dual f a) f i 0);
    }

-- ---- two lists side by side

-- c is f, into m heights, and then g, into the heights after them
pub record IsConcatenation (f : List ℕ) (m : ℕ) (g c : List ℕ) : Type 0 where
  pub long : length c ≡ length f + length g
  pub first : (i : ℕ) → i < length f → get_or c i 0 ≡ get_or f i 0
  pub second : (i : ℕ) → i < length g → get_or c (length f + i) 0 ≡ m + get_or g i 0

module _ (f : List ℕ) (m : ℕ) (g c : List ℕ) (k : IsConcatenation f m g c) where
  -- by the place in the second list
  second_at : (i : ℕ) → length f ≤ i → i < length c → get_or c i 0 ≡ m + get_or g (i - length f) 0
  second_at i l r =
      let long = k.long in
      let e : length f + (i - length f) ≡ i = omega arith in
      ap (λ (n : ℕ). get_or c n 0) (sym e) ∙ k.second (i - length f) (omega arith)

  pub concatenation_below : (n : ℕ) → AreBelow f m → AreBelow g n → AreBelow c (m + n)
  concatenation_below n bf bg = record {
    below = λ i l.
        let long = k.long in
        elim (cases_lt i (length f)) [
          | inl p ↦ rw (k.first i p) (let a = bf.below i p in omega arith)
          | inr p ↦ rw (second_at i p l) (let a = bg.below (i - length f) (omega arith) in omega arith)
        ];
  }

  module _ (mf : IsMonotone f) (mg : IsMonotone g) (bf : AreBelow f m) where
    pub concatenation_mono : IsMonotone c
    concatenation_mono = record {
      rises = λ i j l r.
          let long = k.long in
          elim (cases_lt j (length f)) [
            | inl p ↦ (let pi : i < length f = omega arith in rw (k.first i pi, k.first j p) (mf.rises i j l p))
            | inr p ↦ elim (cases_lt i (length f)) [
              | inl q ↦ rw (k.first i q, second_at j p r) (let a = bf.below i q in omega arith)
              | inr q ↦ (let li : i < length c = omega arith in
                  let up : get_or g (i - length f) 0 ≤ get_or g (j - length f) 0 = mg.rises (i - length f) (j - length f) (omega arith) (omega arith) in
                  rw (second_at i q li, second_at j p r) (omega arith))
            ]
          ];
    }

    pub concatenation_dual_first : (j : ℕ) → j ≤ m → dual c j ≡ dual f j
    concatenation_dual_first j l =
        let long = k.long in
        let full : dual f j ≤ length f = dual-le-length f j in
        dual_is c concatenation_mono j (dual f j) (omega arith)
        (λ i r. let p : i < length f = omega arith in rw (k.first i p) (dual-lt f mf i j r))
        (λ r. elim (cases_lt (dual f j) (length f)) [
          | inl p ↦ rw (k.first (dual f j) p) (dual-ge f mf (dual f j) j (omega arith) p)
          | inr p ↦ rw (second_at (dual f j) p r) (omega arith)
        ])

    pub concatenation_dual_second : (j : ℕ) → dual c (m + j) ≡ length f + dual g j
    concatenation_dual_second j =
        let long = k.long in
        let full : dual g j ≤ length g = dual-le-length g j in
        dual_is c concatenation_mono (m + j) (length f + dual g j) (omega arith)
        (λ i r. elim (cases_lt i (length f)) [
          | inl p ↦ rw (k.first i p) (let a = bf.below i p in omega arith)
          | inr p ↦ (let li : i < length c = omega arith in
              let a : get_or g (i - length f) 0 < j = dual-lt g mg (i - length f) j (omega arith) in
              rw (second_at i p li) (omega arith))
        ])
        (λ r.
        let here : dual g j < length g = omega arith in
        let a : j ≤ get_or g (dual g j) 0 = dual-ge g mg (dual g j) j (omega arith) here in
        rw (k.second (dual g j) here) (omega arith))

-- such a list
pub concatenation_of : (f : List ℕ) (m : ℕ) (g : List ℕ) → IsConcatenation f m g (f ++ map (λ h. m + h) g)
concatenation_of f m g =
    let shifted : List ℕ = map (λ h. m + h) g in
    record {
      long = length-append f shifted ∙ ap (λ (n : ℕ). length f + n) (length-map g (λ h. m + h));
      first = λ i l. get_or_append_left f shifted 0 i l;
      second = λ i l. get_or-append-add f shifted i 0 ∙ get_or-map (λ h. m + h) g i 0 0 l;
    }
