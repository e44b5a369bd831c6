-- The part of a class of heights: the shape of the slices at its members, one dimension below.
use Rattle.std.specs.Prelude.{ℕ, zero, suc, ◌-◌, Bool, false, ◌&&◌, nat_eq, if◌then◌else◌, List, [], ◌∷◌, ◌++◌, length, map}
use Rattle.std.specs.List.{flat_map, range_with_len}
use Rattle.diagram_terms.specs.declared.place.Height.{Height}
use Rattle.diagram_terms.specs.declared.place.Height.TheVariants as slice
use Rattle.diagram_terms.specs.Family.{Dia, reg, sing, fwd, bwd, height, arrow_sing}
use Rattle.diagram_terms.specs.Dual.{upto, dual}
use Rattle.diagram_terms.specs.Ranks.{Ranks, ranks_of}
use Rattle.diagram_terms.specs.Shapes.{Shape, ShapeArrow, object}

-- a slice of an object, named by the object and the height
pub record SliceName : Type 0 where
  pub object : ℕ
  pub height : Height

-- the slice of x at h
abbrev pub named : ℕ → Height → SliceName
named x h = record { object = x; height = h }

-- whether two heights, and whether two names, are one
abbrev pub same_height : Height → Height → Bool
same_height (slice.R i) (slice.R j) = nat_eq i j
same_height (slice.S i) (slice.S j) = nat_eq i j
same_height _ _ = false

abbrev pub same_name : SliceName → SliceName → Bool
same_name a b = nat_eq a.object b.object && same_height a.height b.height

-- where a name first stands in a list
abbrev pub place_of : List SliceName → SliceName → ℕ
place_of [] a = 0
place_of (b ∷ bs) a = if same_name b a then 0 else suc (place_of bs a)

-- n singular heights from a on, with the regular height between each two
abbrev pub stretch : ℕ → ℕ → List Height
stretch a zero = []
stretch a (suc zero) = slice.S a ∷ []
stretch a (suc (suc n)) = slice.S a ∷ slice.R (suc a) ∷ stretch (suc a) (suc n)

-- how many heights of x have the rank k: ranks do not fall, so these are the heights from dual k on, below dual (k + 1)
abbrev pub how_many : Ranks → ℕ → ℕ → ℕ
how_many r k x = dual (ranks_of r x) (suc k) - dual (ranks_of r x) k

-- the slices that the part of the class of rank k is made of, object by object: the singular slices at the members, and
-- between two successive ones the regular slice
unfoldable pub names : Ranks → ℕ → List SliceName
names r k = flat_map (λ x. map (named x) (stretch (dual (ranks_of r x) k) (how_many r k x))) (upto (length r.ranks))

-- the place of the slice of x at h among these
unfoldable pub place : Ranks → ℕ → ℕ → Height → ℕ
place r k x h = place_of (names r k) (named x h)

-- the slice of a diagram at a height
abbrev pub height_slice : (d : ℕ) → Dia (suc d) → Height → Dia d
height_slice d X (slice.R j) = reg d X j
height_slice d X (slice.S i) = sing d X i

module _ (d : ℕ) (S : Shape (suc d)) (r : Ranks) (k : ℕ) where
  -- both legs out of a regular slice between two members
  abbrev pub leg_arrows : ℕ → Height → List (ShapeArrow d)
  leg_arrows x (slice.S i) = []
  leg_arrows x (slice.R zero) = []
  leg_arrows x (slice.R (suc t)) =
      record { from = place r k x (slice.R (suc t)); to = place r k x (slice.S t); arrow = bwd d (object (suc d) S x) t }
      ∷ record { from = place r k x (slice.R (suc t)); to = place r k x (slice.S (suc t)); arrow = fwd d (object (suc d) S x) (suc t) }
      ∷ []

  -- the slices of an arrow at the members of its source
  abbrev pub slice_arrows : ShapeArrow (suc d) → List (ShapeArrow d)
  slice_arrows g = map
      (λ i. record { from = place r k g.from (slice.S i); to = place r k g.to (slice.S (height d g.arrow i)); arrow = arrow_sing d g.arrow i })
      (range_with_len (dual (ranks_of r g.from) k) (how_many r k g.from))

  -- the part of the class of rank k: those slices, with both legs of each regular one and the slices of the arrows of S
  unfoldable pub part : Shape d
  part = record {
    objects = map (λ a. height_slice d (object (suc d) S a.object) a.height) (names r k);
    arrows = flat_map (λ a. leg_arrows a.object a.height) (names r k) ++ flat_map slice_arrows S.arrows;
  }
