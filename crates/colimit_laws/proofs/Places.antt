-- The places of the slices of a part, counted: those of x stand behind those of the objects before it, a singular and a regular
-- slice in turn.
use Rattle.std.proofs.Common.{◌≡◌, ℕ, zero, suc, ◌+◌, ◌-◌, ◌*◌, ◌<◌, ◌≤◌, List, [], ◌∷◌, ◌++◌, length, get_or, map, take, refl, sym, ap, ◌∙◌, subst, arith, length-append, inl, inr}
use Rattle.std.specs.List.{flat_map}
use Rattle.std.proofs.lemmas.List.{get_or-map, length-map}
use Rattle.std.proofs.lemmas.List.Concat.{get_or-flat_map, flat_map-append}
use Rattle.std.proofs.lemmas.Bool.{cases_lt}
use Rattle.std.proofs.Math.Seq.{take-suc}
use Rattle.diagram_terms.specs.declared.place.Height.{Height}
use Rattle.diagram_terms.specs.declared.place.Height.TheVariants as slice
use Rattle.diagram_terms.specs.Dual.{upto, dual}
use Rattle.diagram_terms.proofs.Duals.{length-upto, get-upto}
use Rattle.diagram_terms.specs.Ranks.{Ranks, ranks_of}
use Rattle.diagram_terms.specs.ClassParts.{SliceName, named, stretch, how_many, names, place}
use Rattle.colimit_laws.proofs.Distinct.{place-of_name}

-- ---- a stretch

pub length-stretch : (a n : ℕ) → length (stretch a n) ≡ 2 * n - 1
length-stretch a zero = refl
length-stretch a (suc zero) = refl
length-stretch a (suc (suc n)) = let ih = length-stretch (suc a) (suc n) in omega arith

pub stretch-sing : (a n m : ℕ) (h : Height) → m < n → get_or (stretch a n) (2 * m) h ≡ slice.S (a + m)
stretch-sing a zero m h l = absurd (omega arith)
stretch-sing a (suc zero) m h l =
    let e : m ≡ 0 = omega arith in
    subst (λ (m : ℕ). get_or (slice.S a ∷ []) (2 * m) h ≡ slice.S (a + m)) (sym e) (ap slice.S (omega arith))
stretch-sing a (suc (suc n)) zero h l = ap slice.S (omega arith)
stretch-sing a (suc (suc n)) (suc m) h l =
    let e : 2 * suc m ≡ suc (suc (2 * m)) = omega arith in
    let f : suc a + m ≡ a + suc m = omega arith in
    ap (λ (k : ℕ). get_or (slice.S a ∷ slice.R (suc a) ∷ stretch (suc a) (suc n)) k h) e
    ∙ stretch-sing (suc a) (suc n) m h (omega arith) ∙ ap slice.S f

pub stretch-reg : (a n m : ℕ) (h : Height) → suc m < n → get_or (stretch a n) (suc (2 * m)) h ≡ slice.R (suc (a + m))
stretch-reg a zero m h l = absurd (omega arith)
stretch-reg a (suc zero) m h l = absurd (omega arith)
stretch-reg a (suc (suc n)) zero h l = ap slice.R (omega arith)
stretch-reg a (suc (suc n)) (suc m) h l =
    let e : suc (2 * suc m) ≡ suc (suc (suc (2 * m))) = omega arith in
    let f : suc (suc a + m) ≡ suc (a + suc m) = omega arith in
    ap (λ (k : ℕ). get_or (slice.S a ∷ slice.R (suc a) ∷ stretch (suc a) (suc n)) k h) e
    ∙ stretch-reg (suc a) (suc n) m h (omega arith) ∙ ap slice.R f

-- ---- the names of a part

module _ (r : Ranks) (k : ℕ) where
  abbrev named_of : ℕ → List SliceName
  named_of x = map (named x) (stretch (dual (ranks_of r x) k) (how_many r k x))

  -- how many slices of the objects before x there are
  abbrev pub start : ℕ → ℕ
  start x = length (flat_map named_of (take x (upto (length r.ranks))))

  pub start-zero : start 0 ≡ 0
  start-zero = refl

  name-at : (x j : ℕ) (a : SliceName) → x < length r.ranks → j < length (stretch (dual (ranks_of r x) k) (how_many r k x))
      → get_or (names r k) (start x + j) a ≡ named x (get_or (stretch (dual (ranks_of r x) k) (how_many r k x)) j (slice.R 0))
  unfolding names
  name-at x j a l m =
      let n = length-upto (length r.ranks) in
      let at = get-upto (length r.ranks) x l in
      let len = length-map (stretch (dual (ranks_of r x) k) (how_many r k x)) (named x) in
      let here : length (named_of (get_or (upto (length r.ranks)) x 0)) ≡ length (stretch (dual (ranks_of r x) k) (how_many r k x)) =
      ap (λ (y : ℕ). length (named_of y)) at ∙ len in
      get_or-flat_map named_of (upto (length r.ranks)) x j 0 a (omega arith) (omega arith)
      ∙ ap (λ (y : ℕ). get_or (named_of y) j a) at ∙ get_or-map (named x) (stretch (dual (ranks_of r x) k) (how_many r k x)) j (slice.R 0) a m

  -- ---- places

  -- what stands at j, whatever stands past the end, stands in the list
  get_past : (xs : List SliceName) (j : ℕ) (a : SliceName) → length xs ≤ j → get_or xs j a ≡ a
  get_past [] j a l = refl
  get_past (x ∷ xs) zero a l = absurd (omega arith)
  get_past (x ∷ xs) (suc j) a l = get_past xs j a (omega arith)

  in_range : (xs : List SliceName) (j x : ℕ) (h : Height) → ((a : SliceName) → get_or xs j a ≡ named x h) → j < length xs
  in_range xs j x h e = elim (cases_lt j (length xs)) [
    | inl l ↦ l
    | inr l ↦ absurd (
        let f : named (suc x) h ≡ named x h = sym (get_past xs j (named (suc x) h) l) ∙ e (named (suc x) h) in
        let o : suc x ≡ x = ap (λ (a : SliceName). a.object) f in
        omega arith)
  ]

  place_is : (x j : ℕ) (h : Height) → ((a : SliceName) → get_or (names r k) j a ≡ named x h) → place r k x h ≡ j
  place_is x j h e =
      let a : SliceName = named x h in
      let p = place-of_name r k j a (in_range (names r k) j x h e) in
      ap (λ (b : SliceName). place r k b.object b.height) (sym (e a)) ∙ p

  pub place-sing : (x i : ℕ) → x < length r.ranks → dual (ranks_of r x) k ≤ i → i < dual (ranks_of r x) (suc k)
      → place r k x (slice.S i) ≡ start x + 2 * (i - dual (ranks_of r x) k)
  place-sing x i l low high =
      let m : ℕ = i - dual (ranks_of r x) k in
      let n : ℕ = how_many r k x in
      let len = length-stretch (dual (ranks_of r x) k) n in
      let e : dual (ranks_of r x) k + m ≡ i = omega arith in
      place_is x (start x + 2 * m) (slice.S i) (λ a.
      name-at x (2 * m) a l (omega arith) ∙ ap (named x) (stretch-sing (dual (ranks_of r x) k) n m (slice.R 0) (omega arith) ∙ ap slice.S e))

  pub place-reg : (x t : ℕ) → x < length r.ranks → dual (ranks_of r x) k < t → t < dual (ranks_of r x) (suc k)
      → place r k x (slice.R t) ≡ start x + 2 * (t - dual (ranks_of r x) k) - 1
  place-reg x t l low high =
      let m : ℕ = t - dual (ranks_of r x) k - 1 in
      let n : ℕ = how_many r k x in
      let len = length-stretch (dual (ranks_of r x) k) n in
      let e : suc (dual (ranks_of r x) k + m) ≡ t = omega arith in
      let at : start x + suc (2 * m) ≡ start x + 2 * (t - dual (ranks_of r x) k) - 1 = omega arith in
      place_is x (start x + suc (2 * m)) (slice.R t) (λ a.
      name-at x (suc (2 * m)) a l (omega arith) ∙ ap (named x) (stretch-reg (dual (ranks_of r x) k) n m (slice.R 0) (omega arith) ∙ ap slice.R e))
      ∙ at

  -- the next object begins behind the slices of x: one fewer than twice its heights of rank k
  pub start-suc : (x : ℕ) → x < length r.ranks → start (suc x) ≡ start x + (2 * how_many r k x - 1)
  start-suc x l =
      let n = length-upto (length r.ranks) in
      let at = get-upto (length r.ranks) x l in
      let len = length-map (stretch (dual (ranks_of r x) k) (how_many r k x)) (named x) in
      let long = length-stretch (dual (ranks_of r x) k) (how_many r k x) in
      let here : length (named_of (get_or (upto (length r.ranks)) x 0)) ≡ 2 * how_many r k x - 1 =
      ap (λ (y : ℕ). length (named_of y)) at ∙ len ∙ long in
      ap (λ (ys : List ℕ). length (flat_map named_of ys)) (take-suc (upto (length r.ranks)) x 0 (omega arith))
      ∙ ap length (flat_map-append named_of (take x (upto (length r.ranks))) (get_or (upto (length r.ranks)) x 0 ∷ []))
      ∙ length-append (flat_map named_of (take x (upto (length r.ranks)))) (named_of (get_or (upto (length r.ranks)) x 0) ++ [])
      ∙ ap (λ (m : ℕ). start x + m) (length-append (named_of (get_or (upto (length r.ranks)) x 0)) [] ∙ (omega arith))
