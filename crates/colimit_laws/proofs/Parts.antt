-- The objects and the arrows of the part of a class.
use Rattle.std.proofs.Common.{◌≡◌, ℕ, zero, suc, ◌<◌, ◌≤◌, [], ◌∷◌, length, get_or, ap, ◌∙◌, subst, arith, inl, inr}
use Rattle.std.specs.List.{Contains, flat_map, range_with_len}
use Rattle.std.proofs.lemmas.List.{get_or-map, length-map}
use Rattle.std.proofs.lemmas.List.Elements.{Contains-append_left, Contains-append_right, Contains-append_cases, Contains-get_or}
use Rattle.diagram_terms.specs.declared.place.Height.{Height}
use Rattle.diagram_terms.specs.declared.place.Height.TheVariants as slice
use Rattle.diagram_terms.specs.Family.{Dia, no_dia, fwd, bwd, height, arrow_sing}
use Rattle.diagram_terms.specs.Dual.{dual}
use Rattle.diagram_terms.specs.Ranks.{Ranks, ranks_of, rank}
use Rattle.colimit_laws.specs.RankConditions.{AreRanks}
use Rattle.diagram_terms.specs.Shapes.{Shape, ShapeArrow, IsShape, heights_of, object}
use Rattle.diagram_terms.specs.ClassParts.{SliceName, named, names, place, height_slice, how_many, leg_arrows, slice_arrows, part}
use Rattle.colimit_laws.proofs.Membership.{contains_none, contains_head, contains_tail, contains_cases, contains_map, from_map, contains_flat, from_flat, contains_range, from_range}
use Rattle.colimit_laws.proofs.Names.{IsInPart, IsWithin, from_names, in_names, place-within, name-at_place}
use Rattle.colimit_laws.proofs.Distinct.{place-of_name}
use Rattle.colimit_laws.proofs.Ranked.{rows-len, row-dual_mono, all_monotone, of_rank-low, of_rank-high, rank-along, arrow-of}

-- a regular slice of a part, and the legs out of it
abbrev pub bwd_arrow : (d : ℕ) → Shape (suc d) → Ranks → ℕ → ℕ → ℕ → ShapeArrow d
bwd_arrow d S r k x t = record { from = place r k x (slice.R (suc t)); to = place r k x (slice.S t); arrow = bwd d (object (suc d) S x) t }

abbrev pub fwd_arrow : (d : ℕ) → Shape (suc d) → Ranks → ℕ → ℕ → ℕ → ShapeArrow d
fwd_arrow d S r k x t = record { from = place r k x (slice.R (suc t)); to = place r k x (slice.S (suc t)); arrow = fwd d (object (suc d) S x) (suc t) }

-- the slice of an arrow at a member
abbrev pub slice_arrow : (d : ℕ) → Ranks → ℕ → ShapeArrow (suc d) → ℕ → ShapeArrow d
slice_arrow d r k g i = record { from = place r k g.from (slice.S i); to = place r k g.to (slice.S (height d g.arrow i)); arrow = arrow_sing d g.arrow i }

-- the three kinds of arrows of a part
pub data PartArrow (d : ℕ) (S : Shape (suc d)) (r : Ranks) (k : ℕ) : ShapeArrow d → Type 0 where
  is_bwd : (x t : ℕ) → IsInPart r k x (slice.R (suc t)) → PartArrow d S r k (bwd_arrow d S r k x t)
  is_fwd : (x t : ℕ) → IsInPart r k x (slice.R (suc t)) → PartArrow d S r k (fwd_arrow d S r k x t)
  is_slice : (g : ShapeArrow (suc d)) → Contains S.arrows g → (i : ℕ) → dual (ranks_of r g.from) k ≤ i
      → i < dual (ranks_of r g.from) (suc k) → PartArrow d S r k (slice_arrow d r k g i)

module _ (d : ℕ) (S : Shape (suc d)) (vS : IsShape (suc d) S) (r : Ranks) (ar : AreRanks (heights_of d S) r) (k : ℕ) where
  -- ---- objects

  -- the diagram that a name stands for
  abbrev pub slice_of : SliceName → Dia d
  slice_of a = height_slice d (object (suc d) S a.object) a.height

  pub objects-len : length (part d S r k).objects ≡ length (names r k)
  unfolding part
  objects-len = length-map (names r k) slice_of

  pub object-at_place : (x : ℕ) (h : Height) → IsInPart r k x h
      → (place r k x h < length (part d S r k).objects) × (object d (part d S r k) (place r k x h) ≡ height_slice d (object (suc d) S x) h)
  unfolding part
  object-at_place x h p =
      let m = all_monotone d S vS r ar in
      let l = place-within r k m x h p in
      let n = objects-len in
      let e = get_or-map slice_of (names r k) (place r k x h) (named x h) (no_dia d) l in
      (omega arith, e ∙ ap slice_of (name-at_place r k m x h (named x h) p))

  -- each object stands at the place of a slice
  pub object-named : (j : ℕ) → j < length (part d S r k).objects
      → (x : ℕ) × (h : Height) × IsInPart r k x h × (place r k x h ≡ j)
  object-named j l =
      let m = all_monotone d S vS r ar in
      let n = objects-len in
      let lj : j < length (names r k) = omega arith in
      let nothing : SliceName = named 0 (slice.R 0) in
      let a : SliceName = get_or (names r k) j nothing in
      (a.object, a.height, from_names r k m a (Contains-get_or (names r k) j nothing lj), place-of_name r k j nothing lj)

  -- what holds at the place of each slice holds at each place
  pub each_object : (P : ℕ → Type 0) → ((x : ℕ) (h : Height) → IsInPart r k x h → P (place r k x h))
      → (j : ℕ) → j < length (part d S r k).objects → P j
  each_object P at_name j l = let o = object-named j l in subst P o.3 (at_name o.0 o.1 o.2)

  -- ---- which slices there are

  in_part : (x : ℕ) (h : Height) → x < length S.objects → IsWithin (dual (ranks_of r x) k) (dual (ranks_of r x) (suc k)) h → IsInPart r k x h
  in_part x h l w = record { object = let a = rows-len d S vS r ar in omega arith; height = w }

  pub sing-in_part : (x i : ℕ) → x < length S.objects → dual (ranks_of r x) k ≤ i → i < dual (ranks_of r x) (suc k) → IsInPart r k x (slice.S i)
  sing-in_part x i l low high = in_part x (slice.S i) l (low, high)

  pub reg-in_part : (x t : ℕ) → x < length S.objects → dual (ranks_of r x) k < t → t < dual (ranks_of r x) (suc k) → IsInPart r k x (slice.R t)
  reg-in_part x t l low high = in_part x (slice.R t) l (low, high)

  pub object-within : (x : ℕ) (h : Height) → IsInPart r k x h → x < length S.objects
  object-within x h p = let a = rows-len d S vS r ar in let b = p.object in omega arith

  -- where an arrow sends a member
  pub along-in_part : (g : ShapeArrow (suc d)) → Contains S.arrows g → (i : ℕ) → i < length (object (suc d) S g.from).sings → rank r g.from i ≡ k
      → IsInPart r k g.to (slice.S (height d g.arrow i))
  along-in_part g c i l e =
      let v = arrow-of d S vS r ar g c in
      let j : ℕ = height d g.arrow i in
      let lj : j < length (object (suc d) S g.to).sings = v.valid.below.below i (let n = v.valid.heights_len in omega arith) in
      let same : rank r g.to j ≡ k = rank-along d S vS r ar g c i l ∙ e in
      sing-in_part g.to j v.to_within (of_rank-low d S vS r ar g.to j k v.to_within same)
      (of_rank-high d S vS r ar g.to j k v.to_within lj same)

  -- ---- arrows

  legs_are : (x : ℕ) (h : Height) → IsInPart r k x h → (b : ShapeArrow d) → Contains (leg_arrows d S r k x h) b → PartArrow d S r k b
  legs_are x (slice.S i) p b c = contains_none b c
  legs_are x (slice.R zero) p b c = contains_none b c
  legs_are x (slice.R (suc t)) p b c = elim (contains_cases (bwd_arrow d S r k x t) b (fwd_arrow d S r k x t ∷ []) c) [
    | inl e ↦ subst (PartArrow d S r k) e (is_bwd x t p)
    | inr u ↦ elim (contains_cases (fwd_arrow d S r k x t) b [] u) [
      | inl e ↦ subst (PartArrow d S r k) e (is_fwd x t p)
      | inr n ↦ contains_none b n
    ]
  ]

  pub part_arrow : (b : ShapeArrow d) → Contains (part d S r k).arrows b → PartArrow d S r k b
  unfolding part
  part_arrow b c = elim (Contains-append_cases (flat_map (λ a. leg_arrows d S r k a.object a.height) (names r k)) (flat_map (slice_arrows d S r k) S.arrows) b c) [
    | inl h ↦ (
        let f = from_flat (λ (a : SliceName). leg_arrows d S r k a.object a.height) (names r k) b h in
        legs_are f.0.object f.0.height (from_names r k (all_monotone d S vS r ar) f.0 f.1) b f.2)
    | inr h ↦ (
        let f = from_flat (slice_arrows d S r k) S.arrows b h in
        let g : ShapeArrow (suc d) = f.0 in
        let e = from_map (slice_arrow d r k g) (range_with_len (dual (ranks_of r g.from) k) (how_many r k g.from)) b f.2 in
        let w = from_range (dual (ranks_of r g.from) k) (how_many r k g.from) e.0 e.1 in
        let up = row-dual_mono d S vS r ar g.from k (suc k) (arrow-of d S vS r ar g f.1).from_within (omega arith) in
        let low = w.0 in let high = w.1 in
        subst (PartArrow d S r k) e.2 (is_slice g f.1 e.0 low (omega arith)))
  ]

  pub bwd-among : (x t : ℕ) → IsInPart r k x (slice.R (suc t)) → Contains (part d S r k).arrows (bwd_arrow d S r k x t)
  unfolding part
  bwd-among x t p = Contains-append_left _ _ (bwd_arrow d S r k x t)
      (contains_flat (λ (a : SliceName). leg_arrows d S r k a.object a.height) (names r k) (named x (slice.R (suc t))) (bwd_arrow d S r k x t)
      (in_names r k (all_monotone d S vS r ar) x (slice.R (suc t)) p) (contains_head (bwd_arrow d S r k x t) (fwd_arrow d S r k x t ∷ [])))

  pub fwd-among : (x t : ℕ) → IsInPart r k x (slice.R (suc t)) → Contains (part d S r k).arrows (fwd_arrow d S r k x t)
  unfolding part
  fwd-among x t p = Contains-append_left _ _ (fwd_arrow d S r k x t)
      (contains_flat (λ (a : SliceName). leg_arrows d S r k a.object a.height) (names r k) (named x (slice.R (suc t))) (fwd_arrow d S r k x t)
      (in_names r k (all_monotone d S vS r ar) x (slice.R (suc t)) p)
      (contains_tail (bwd_arrow d S r k x t) (fwd_arrow d S r k x t) (fwd_arrow d S r k x t ∷ []) (contains_head (fwd_arrow d S r k x t) [])))

  pub slice-among : (g : ShapeArrow (suc d)) → Contains S.arrows g → (i : ℕ) → dual (ranks_of r g.from) k ≤ i
      → i < dual (ranks_of r g.from) (suc k) → Contains (part d S r k).arrows (slice_arrow d r k g i)
  unfolding part
  slice-among g c i low high = Contains-append_right _ _ (slice_arrow d r k g i)
      (contains_flat (slice_arrows d S r k) S.arrows g (slice_arrow d r k g i) c
      (contains_map (slice_arrow d r k g) (range_with_len (dual (ranks_of r g.from) k) (how_many r k g.from)) i
      (contains_range (dual (ranks_of r g.from) k) (how_many r k g.from) i low (omega arith))))
