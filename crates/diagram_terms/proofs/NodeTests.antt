-- The tests of a node's form, as facts.
use Rattle.std.proofs.Common.{◌≡◌, ℕ, zero, suc, ◌<◌, ◌≤◌, Bool, true, List, [], ◌∷◌, length, get_or, refl, ap, ◌∙◌, arith}
use Rattle.std.specs.Prelude.{◌&&◌, ◌==◌, nat_lt, nat_le}
use Rattle.std.specs.List.{list_all}
use Rattle.std.proofs.lemmas.Bool.{and_parts, and_from, ltb-true, leb-true, eqb-true, lt-ltb, le-leb, eq-eqb}
use Rattle.diagram_terms.specs.declared.label.Label.{Label}
use Rattle.diagram_terms.specs.declared.limits.TheConstants.{GREATEST_DIM, NUMBER_LIMIT}
use Rattle.diagram_terms.specs.declared.node.Sort.{Sort}
use Rattle.diagram_terms.specs.declared.node.Sort.TheVariants as sort
use Rattle.diagram_terms.specs.Dual.{IsMonotone}
use Rattle.diagram_terms.specs.Nodes.{is_within_limits, all_below, same_sort, is_of, all_of, rises_from, diagram_lengths}

-- ---- lists

-- a test that all pass, at each place
all_at : {X : Type 0} (test : X → Bool) (xs : List X) (d : X) → list_all test xs ≡ true
    → (j : ℕ) → j < length xs → test (get_or xs j d) ≡ true
all_at test [] d e j l = absurd (omega arith)
all_at test (x ∷ xs) d e zero l = (and_parts (test x) (list_all test xs) e).0
all_at test (x ∷ xs) d e (suc j) l = all_at test xs d (and_parts (test x) (list_all test xs) e).1 j (omega arith)

all_from : {X : Type 0} (test : X → Bool) (xs : List X) (d : X)
    → ((j : ℕ) → j < length xs → test (get_or xs j d) ≡ true) → list_all test xs ≡ true
all_from test [] d h = refl
all_from test (x ∷ xs) d h =
    and_from (test x) (list_all test xs) (h 0 (omega arith)) (all_from test xs d (λ j l. h (suc j) (omega arith)))

-- ---- limits of labels

pub record IsWithinLimits (x : Label) : Type 0 where
  pub number : x.number < NUMBER_LIMIT
  pub dim : x.dim ≤ GREATEST_DIM

pub within_limits : (x : Label) → is_within_limits x ≡ true → IsWithinLimits x
within_limits x e =
    let p = and_parts (nat_lt x.number NUMBER_LIMIT) (nat_le x.dim GREATEST_DIM) e in
    record { number = ltb-true x.number NUMBER_LIMIT p.0; dim = leb-true x.dim GREATEST_DIM p.1 }

pub is_within_limits-true : (x : Label) → IsWithinLimits x → is_within_limits x ≡ true
is_within_limits-true x h =
    and_from (nat_lt x.number NUMBER_LIMIT) (nat_le x.dim GREATEST_DIM)
    (lt-ltb x.number NUMBER_LIMIT h.number) (le-leb x.dim GREATEST_DIM h.dim)

-- ---- places

pub below_at : (n : ℕ) (places : List ℕ) → all_below n places ≡ true → (j : ℕ) → j < length places → get_or places j 0 < n
below_at n places e j l = ltb-true (get_or places j 0) n (all_at (λ i. nat_lt i n) places 0 e j l)

pub all_below-true : (n : ℕ) (places : List ℕ) → ((j : ℕ) → j < length places → get_or places j 0 < n) → all_below n places ≡ true
all_below-true n places h = all_from (λ i. nat_lt i n) places 0 (λ j l. lt-ltb (get_or places j 0) n (h j l))

-- ---- sorts

-- the dimension that a sort has
abbrev pub dim_of : Sort → ℕ
dim_of (sort.Diagram d) = d
dim_of (sort.Arrow d) = d

pub same_sort-true : (s t : Sort) → same_sort s t ≡ true → s ≡ t
same_sort-true (sort.Diagram d) (sort.Diagram e) h = ap sort.Diagram (eqb-true d e h)
same_sort-true (sort.Diagram d) (sort.Arrow e) h = absurd (cc)
same_sort-true (sort.Arrow d) (sort.Diagram e) h = absurd (cc)
same_sort-true (sort.Arrow d) (sort.Arrow e) h = ap sort.Arrow (eqb-true d e h)

pub same_sort-same : (s : Sort) → same_sort s s ≡ true
same_sort-same (sort.Diagram d) = eq-eqb d d refl
same_sort-same (sort.Arrow d) = eq-eqb d d refl

pub of_at : (sorts : List Sort) (s : Sort) (places : List ℕ) → all_of sorts s places ≡ true
    → (j : ℕ) → j < length places → get_or sorts (get_or places j 0) (sort.Diagram 0) ≡ s
of_at sorts s places e j l = same_sort-true _ s (all_at (is_of sorts s) places 0 e j l)

pub all_of-true : (sorts : List Sort) (s : Sort) (places : List ℕ)
    → ((j : ℕ) → j < length places → get_or sorts (get_or places j 0) (sort.Diagram 0) ≡ s) → all_of sorts s places ≡ true
all_of-true sorts s places h = all_from (is_of sorts s) places 0 (λ j l.
    ap (λ (t : Sort). same_sort t s) (h j l) ∙ same_sort-same s)

-- ---- heights

-- heights that begin at `start` or above, do not fall, and stay below n
pub record RiseFrom (start n : ℕ) (hs : List ℕ) : Type 0 where
  pub from_start : (i : ℕ) → i < length hs → start ≤ get_or hs i 0
  pub monotone : IsMonotone hs
  pub below : (i : ℕ) → i < length hs → get_or hs i 0 < n

rise-cons : (start n h : ℕ) (hs : List ℕ) → start ≤ h → h < n → RiseFrom h n hs → RiseFrom start n (h ∷ hs)
rise-cons start n h hs a b r = record { from_start = low; monotone = record { rises = up }; below = high }
  where
    low : (i : ℕ) → i < length (h ∷ hs) → start ≤ get_or (h ∷ hs) i 0
    low zero l = a
    low (suc i) l = omega (arith, r.from_start i (omega arith))

    up : (i j : ℕ) → i ≤ j → j < length (h ∷ hs) → get_or (h ∷ hs) i 0 ≤ get_or (h ∷ hs) j 0
    up zero zero l k = omega arith
    up zero (suc j) l k = r.from_start j (omega arith)
    up (suc i) zero l k = absurd (omega arith)
    up (suc i) (suc j) l k = r.monotone.rises i j (omega arith) (omega arith)

    high : (i : ℕ) → i < length (h ∷ hs) → get_or (h ∷ hs) i 0 < n
    high zero l = b
    high (suc i) l = r.below i (omega arith)

rise-tail : (start n h : ℕ) (hs : List ℕ) → RiseFrom start n (h ∷ hs) → RiseFrom h n hs
rise-tail start n h hs r = record {
  from_start = λ i l. r.monotone.rises 0 (suc i) (omega arith) (omega arith);
  monotone = record { rises = λ i j l k. r.monotone.rises (suc i) (suc j) (omega arith) (omega arith) };
  below = λ i l. r.below (suc i) (omega arith);
}

pub rise_from : (start n : ℕ) (hs : List ℕ) → rises_from start n hs ≡ true → RiseFrom start n hs
rise_from start n [] e = record {
  from_start = λ i l. absurd (omega arith);
  monotone = record { rises = λ i j l k. absurd (omega arith) };
  below = λ i l. absurd (omega arith);
}
rise_from start n (h ∷ hs) e =
    let p = and_parts (nat_le start h && nat_lt h n) (rises_from h n hs) e in
    let q = and_parts (nat_le start h) (nat_lt h n) p.0 in
    rise-cons start n h hs (leb-true start h q.0) (ltb-true h n q.1) (rise_from h n hs p.1)

pub rises_from-true : (start n : ℕ) (hs : List ℕ) → RiseFrom start n hs → rises_from start n hs ≡ true
rises_from-true start n [] r = refl
rises_from-true start n (h ∷ hs) r =
    let a : start ≤ h = r.from_start 0 (omega arith) in
    let b : h < n = r.below 0 (omega arith) in
    and_from (nat_le start h && nat_lt h n) (rises_from h n hs)
    (and_from (nat_le start h) (nat_lt h n) (le-leb start h a) (lt-ltb h n b))
    (rises_from-true h n hs (rise-tail start n h hs r))

-- ---- lengths

pub record LengthsFit (rs ss fs bs : List ℕ) : Type 0 where
  pub regs_len : length rs ≡ suc (length ss)
  pub fwds_len : length fs ≡ length ss
  pub bwds_len : length bs ≡ length ss

pub lengths_fit : (rs ss fs bs : List ℕ) → diagram_lengths rs ss fs bs ≡ true → LengthsFit rs ss fs bs
lengths_fit rs ss fs bs e =
    let r = length rs == suc (length ss) in
    let f = length fs == length ss in
    let p = and_parts (r && f) (length bs == length ss) e in
    let q = and_parts r f p.0 in
    record {
      regs_len = eqb-true (length rs) (suc (length ss)) q.0;
      fwds_len = eqb-true (length fs) (length ss) q.1;
      bwds_len = eqb-true (length bs) (length ss) p.1;
    }

pub diagram_lengths-true : (rs ss fs bs : List ℕ) → LengthsFit rs ss fs bs → diagram_lengths rs ss fs bs ≡ true
diagram_lengths-true rs ss fs bs h =
    let r = length rs == suc (length ss) in
    let f = length fs == length ss in
    and_from (r && f) (length bs == length ss)
    (and_from r f (eq-eqb (length rs) (suc (length ss)) h.regs_len) (eq-eqb (length fs) (length ss) h.fwds_len))
    (eq-eqb (length bs) (length ss) h.bwds_len)
