-- Expansion: a height that is parted in two at a height of its singular slice.
use Rattle.std.specs.Prelude.{ℕ, zero, suc, nat_lt, [], ◌∷◌, length, Result, Ok, Err}
use Rattle.diagram_terms.specs.Family.{Dia, Arr, reg, sing, fwd, bwd}
use Rattle.diagram_terms.specs.Dual.{dual}
use Rattle.diagram_terms.specs.Composite.{ident}
use Rattle.diagram_terms.specs.Cone.{cospan}
use Rattle.diagram_terms.specs.Segments.{segment, diagram_sum, arrow_sum, arrow_segment, replaced, replacing}
use Rattle.diagram_terms.specs.Merging.{to_one_height}
use Rattle.diagram_terms.specs.Tested.{if_passed}

-- the block of the height i under a leg f from r: the segment of r whose heights go to i
abbrev pub block : (d : ℕ) → Dia (suc d) → Arr (suc d) → ℕ → Dia (suc d)
block d r f i = segment d r (dual f.heights i) (dual f.heights (suc i))

-- r with Q in the place of that block
abbrev pub block_replaced : (d : ℕ) → Dia (suc d) → Arr (suc d) → ℕ → Dia (suc d) → Dia (suc d)
block_replaced d r f i Q = replaced d r (dual f.heights i) (dual f.heights (suc i)) Q

-- the arrow that is q in the place of that block, and the identity on the other blocks
abbrev pub block_replacing : (d : ℕ) → Dia (suc d) → Arr (suc d) → ℕ → Arr (suc d) → Arr (suc d)
block_replacing d r f i q = replacing d r (dual f.heights i) (dual f.heights (suc i)) q

-- the arrow that is the leg f into s on the blocks of the heights other than i, and q between them
abbrev pub around_block_with : (d : ℕ) → Dia (suc d) → Arr (suc d) → ℕ → Arr (suc d) → Arr (suc d)
around_block_with d s f i q =
    arrow_sum d (arrow_segment d f 0 i) (arrow_sum d q (arrow_segment d f (suc i) (length s.sings)))

-- that with the identity of Q between them
abbrev pub around_block : (d : ℕ) → Dia (suc d) → Arr (suc d) → ℕ → Dia (suc d) → Arr (suc d)
around_block d s f i Q = around_block_with d s f i (ident (suc d) Q)

-- One height r → s ← r' with the legs f and g, parted at the height i of s into r → first ← middle → second ← r'.
module _ (d : ℕ) (r : Dia (suc d)) (f : Arr (suc d)) (s : Dia (suc d)) (g : Arr (suc d)) (r' : Dia (suc d)) (i : ℕ) where
  -- r with the height i of s in the place of its block
  abbrev pub first_parted : Dia (suc d)
  first_parted = block_replaced d r f i (segment d s i (suc i))

  -- r with the block of r' in the place of its own
  abbrev pub middle_parted : Dia (suc d)
  middle_parted = block_replaced d r f i (block d r' g i)

  -- s with the block of r' in the place of its height i
  abbrev pub second_parted : Dia (suc d)
  second_parted = replaced d s i (suc i) (block d r' g i)

  -- The two heights. The legs of the first are f and g on the blocks of i, and identities on the other blocks; those of the
  -- second are f and g on the other blocks, and the identity on the block of r'.
  abbrev pub parted : Dia (suc (suc d))
  parted =
      diagram_sum (suc d)
      (cospan (suc d) r (block_replacing d r f i (arrow_segment d f i (suc i)))
      first_parted (block_replacing d r f i (arrow_segment d g i (suc i))) middle_parted)
      (cospan (suc d) middle_parted (around_block d s f i (block d r' g i))
      second_parted (around_block d s g i (block d r' g i)) r')

  -- The arrow from them to the one height. Its slice at the first is f on the other blocks, and the identity on the height i
  -- of s; its slice at the second is g on the block of r', and the identity on the other heights of s.
  abbrev pub parting : Arr (suc (suc d))
  parting =
      to_one_height (suc d) parted
      (around_block d s f i (segment d s i (suc i)) ∷ replacing d s i (suc i) (arrow_segment d g i (suc i)) ∷ [])

-- the height k of D, parted at the height i of its singular slice
abbrev pub height_parted : (d : ℕ) → Dia (suc (suc d)) → ℕ → ℕ → Dia (suc (suc d))
height_parted d D k i =
    parted d (reg (suc d) D k) (fwd (suc d) D k) (sing (suc d) D k) (bwd (suc d) D k) (reg (suc d) D (suc k)) i

-- the arrow from that to the height k
abbrev pub height_parting : (d : ℕ) → Dia (suc (suc d)) → ℕ → ℕ → Arr (suc (suc d))
height_parting d D k i =
    parting d (reg (suc d) D k) (fwd (suc d) D k) (sing (suc d) D k) (bwd (suc d) D k) (reg (suc d) D (suc k)) i

-- D expanded at the height k and its inner height i: the height k becomes these two heights
abbrev pub expanded : (d : ℕ) → Dia (suc (suc d)) → ℕ → ℕ → Dia (suc (suc d))
expanded d D k i = replaced (suc d) D k (suc k) (height_parted d D k i)

-- the arrow from it to D: both new heights go to k, and it is the identity elsewhere
abbrev pub expanding : (d : ℕ) → Dia (suc (suc d)) → ℕ → ℕ → Arr (suc (suc d))
expanding d D k i = replacing (suc d) D k (suc k) (height_parting d D k i)

-- ---- what an expansion answers

-- what an expansion gives: the diagram, and the arrow from it
pub record Expansion (d : ℕ) : Type 0 where
  pub result : Dia d
  pub arrow : Arr d

-- the diagram that is stored for an expansion of D: D → D ← E with the identity and the arrow from the expanded diagram E
abbrev pub stored_expansion : (d : ℕ) → Dia d → Expansion d → Dia (suc d)
stored_expansion d D c = cospan d D (ident d D) D c.arrow c.result

-- why nothing is expanded: the height, which is step 0, or the inner height, which is step 1, is not there, or the inner
-- height is the only one
pub data ExpansionFault : Type 0 where
  no_height : ℕ → ExpansionFault
  nothing_to_part : ExpansionFault

-- The expansion of a diagram at the height k and its inner height i, or why there is none. What stands at a height of a diagram
-- of dimension 1 has no inner heights.
unfoldable pub expand : (d : ℕ) → Dia d → ℕ → ℕ → Result (Expansion d) ExpansionFault
expand zero D k i = Err (no_height 0)
expand (suc zero) D k i = if_passed (no_height 0) (nat_lt k (length D.sings)) (Err (no_height 1))
expand (suc (suc d)) D k i =
    if_passed (no_height 0) (nat_lt k (length D.sings))
    (if_passed (no_height 1) (nat_lt i (length (sing (suc d) D k).sings))
    (if_passed nothing_to_part (nat_lt 1 (length (sing (suc d) D k).sings))
    (Ok (record { result = expanded d D k i; arrow = expanding d D k i }))))
