-- Colimits of shapes: the cocone that the colimits of the parts make.
use Rattle.std.specs.Prelude.{◌≡◌, ℕ, zero, suc, ◌<◌, ◌-◌, nat_lt, if◌then◌else◌, List, [], ◌∷◌, length, get_or, map, drop}
use Rattle.diagram_terms.specs.declared.place.Bias.{Bias}
use Rattle.diagram_terms.specs.declared.place.Bias.TheVariants.{Unbiased}
use Rattle.diagram_terms.specs.declared.place.Height.{Height}
use Rattle.diagram_terms.specs.declared.place.Height.TheVariants as slice
use Rattle.diagram_terms.specs.Labels.{IsJoin}
use Rattle.diagram_terms.specs.Family.{Dia, Arr, no_dia, reg, fwd, bwd}
use Rattle.diagram_terms.specs.Dual.{tab, dual}
use Rattle.diagram_terms.specs.Composite.{comp, ident}
use Rattle.diagram_terms.specs.Ranks.{Ranks, ranks_of, rank, IsRanked}
use Rattle.diagram_terms.specs.Shapes.{Shape, object, heights_of}
use Rattle.diagram_terms.specs.Cocones.{Cocone, leg}
use Rattle.diagram_terms.specs.ClassParts.{place, part}

-- ---- the cocone that the parts make

-- the first list in which some height goes to k
abbrev pub first_with : List (List ℕ) → ℕ → ℕ
first_with [] k = 0
first_with (hs ∷ rest) k = if nat_lt (dual hs k) (dual hs (suc k)) then 0 else suc (first_with rest k)

-- the colimit of the part of rank k
abbrev pub cocone_at : (d : ℕ) → List (Cocone d) → ℕ → Cocone d
cocone_at d parts k = get_or parts k (record { apex = no_dia d; legs = [] })

module _ (d : ℕ) (S : Shape (suc d)) (r : Ranks) (parts : List (Cocone d)) where
  -- the leg of the part of rank k at the slice of x at h
  unfoldable pub part_leg : ℕ → ℕ → Height → Arr d
  part_leg k x h = leg d (cocone_at d parts k) (place r k x h)

  -- the leg forward of x at its first height of rank k, followed by the part's leg
  unfoldable pub enter_class : ℕ → ℕ → Arr d
  enter_class k x =
      let i : ℕ = dual (ranks_of r x) k in
      comp d (part_leg k x (slice.S i)) (fwd d (object (suc d) S x) i)

  -- the leg backward of x at its last height of rank k, followed by the part's leg
  unfoldable pub leave_class : ℕ → ℕ → Arr d
  leave_class k x =
      let i : ℕ = dual (ranks_of r x) (suc k) - 1 in
      comp d (part_leg k x (slice.S i)) (bwd d (object (suc d) S x) i)

  -- The regular slice j of the apex: that of the first object at the dual of its ranks. All objects have the same one there.
  unfoldable pub apex_reg : ℕ → Dia d
  apex_reg j = reg d (object (suc d) S 0) (dual (ranks_of r 0) j)

  -- The apex has a height for each rank, and there the apex of the part. Its legs are taken from the first object that has
  -- a height of the rank.
  unfoldable pub glued_apex : Dia (suc d)
  glued_apex = record {
    regs = tab apex_reg (suc r.count);
    sings = tab (λ k. (cocone_at d parts k).apex) r.count;
    fwds = tab (λ k. enter_class k (first_with r.ranks k)) r.count;
    bwds = tab (λ k. leave_class k (first_with r.ranks k)) r.count;
  }

  -- the leg of x sends each height to its rank; its regular slices are identities, and its singular slices the legs of the parts
  unfoldable pub glued_leg : ℕ → Arr (suc d)
  glued_leg x = record {
    heights = ranks_of r x;
    regs = tab (λ j. ident d (apex_reg j)) (suc r.count);
    sings = tab (λ i. part_leg (rank r x i) x (slice.S i)) (length (ranks_of r x));
  }

  -- the apex with the leg of each object
  abbrev pub glued : Cocone (suc d)
  glued = record { apex = glued_apex; legs = tab glued_leg (length S.objects) }

-- ---- the colimit

-- the first bias of a list is that of the outermost level, and the others are those of the levels below; past the end of the
-- list there is none
abbrev pub outer_bias : List Bias → Bias
outer_bias biases = get_or biases 0 Unbiased

abbrev pub inner_biases : List Bias → List Bias
inner_biases biases = drop 1 biases

-- there is no bias at any depth
abbrev pub HasNoBias : List Bias → Type 0
HasNoBias biases = (k : ℕ) → get_or biases k Unbiased ≡ Unbiased

-- in dimension 0 the apex is the join of the labels
pub record IsLabelColimit (S : Shape zero) (c : Cocone zero) : Type 0 where
  pub join : IsJoin S.objects c.apex
  pub legs : c.legs ≡ map (λ x. record { from = x; to = c.apex }) S.objects

-- One level of a colimit, where C says what the colimits of the parts are: the order of the heights gives ranks, and the
-- cocone is made of the colimits of the parts.
pub record ColimitZig (d : ℕ) (C : Shape d → List Bias → Cocone d → Type 0) (S : Shape (suc d)) (biases : List Bias) (c : Cocone (suc d)) : Type 0 where
  pub ranks : Ranks
  pub ranked : IsRanked (outer_bias biases) (heights_of d S) ranks
  pub parts : List (Cocone d)
  pub parts_len : length parts ≡ ranks.count
  pub parts_are : (k : ℕ) → k < ranks.count → C (part d S ranks k) (inner_biases biases) (cocone_at d parts k)
  pub is_glued : c ≡ glued d S ranks parts

-- c is the colimit of S under these biases
abbrev pub IsColimit : (d : ℕ) → Shape d → List Bias → Cocone d → Type 0
IsColimit zero S biases c = IsLabelColimit S c
IsColimit (suc d) S biases c = ColimitZig d (IsColimit d) S biases c
