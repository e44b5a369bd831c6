-- The parts of the cocone that the parts' colimits make.
use Rattle.std.proofs.Common.{◌≡◌, ℕ, suc, ◌<◌, ◌≤◌, List, length, get_or, refl, ap, arith}
use Rattle.diagram_terms.specs.declared.place.Height.TheVariants as slice
use Rattle.diagram_terms.specs.Family.{Dia, no_dia, no_arr, reg, sing, fwd, bwd, height, arrow_reg, arrow_sing}
use Rattle.diagram_terms.specs.Dual.{dual}
use Rattle.diagram_terms.specs.Composite.{ident}
use Rattle.diagram_terms.proofs.Duals.{length-tab, get-tab}
use Rattle.diagram_terms.specs.Ranks.{Ranks, ranks_of, rank}
use Rattle.diagram_terms.specs.Shapes.{Shape, object}
use Rattle.diagram_terms.specs.Cocones.{Cocone, leg}
use Rattle.diagram_terms.specs.Colimits.{cocone_at, part_leg, enter_class, leave_class, first_with, apex_reg, glued_apex, glued_leg, glued}

module _ (d : ℕ) (S : Shape (suc d)) (r : Ranks) (parts : List (Cocone d)) where
  abbrev A : Dia (suc d)
  A = glued_apex d S r parts

  -- ---- the apex

  pub apex_reg-is : (j : ℕ) → apex_reg d S r parts j ≡ reg d (object (suc d) S 0) (dual (ranks_of r 0) j)
  unfolding apex_reg
  apex_reg-is j = refl

  pub apex-regs_len : length A.regs ≡ suc r.count
  unfolding glued_apex
  apex-regs_len = length-tab _ (suc r.count)

  pub apex-sings_len : length A.sings ≡ r.count
  unfolding glued_apex
  apex-sings_len = length-tab _ r.count

  pub apex-fwds_len : length A.fwds ≡ r.count
  unfolding glued_apex
  apex-fwds_len = length-tab _ r.count

  pub apex-bwds_len : length A.bwds ≡ r.count
  unfolding glued_apex
  apex-bwds_len = length-tab _ r.count

  pub apex-reg : (j : ℕ) → j ≤ r.count → reg d A j ≡ apex_reg d S r parts j
  unfolding glued_apex
  apex-reg j l = get-tab (apex_reg d S r parts) (suc r.count) j (no_dia d) (omega arith)

  pub apex-sing : (k : ℕ) → k < r.count → sing d A k ≡ (cocone_at d parts k).apex
  unfolding glued_apex
  apex-sing k l = get-tab (λ k. (cocone_at d parts k).apex) r.count k (no_dia d) l

  pub apex-fwd : (k : ℕ) → k < r.count → fwd d A k ≡ enter_class d S r parts k (first_with r.ranks k)
  unfolding glued_apex
  apex-fwd k l = get-tab (λ k. enter_class d S r parts k (first_with r.ranks k)) r.count k (no_arr d) l

  pub apex-bwd : (k : ℕ) → k < r.count → bwd d A k ≡ leave_class d S r parts k (first_with r.ranks k)
  unfolding glued_apex
  apex-bwd k l = get-tab (λ k. leave_class d S r parts k (first_with r.ranks k)) r.count k (no_arr d) l

  -- ---- the leg of an object

  pub leg-heights : (x : ℕ) → (glued_leg d S r parts x).heights ≡ ranks_of r x
  unfolding glued_leg
  leg-heights x = refl

  pub leg-regs_len : (x : ℕ) → length (glued_leg d S r parts x).regs ≡ suc r.count
  unfolding glued_leg
  leg-regs_len x = length-tab _ (suc r.count)

  pub leg-sings_len : (x : ℕ) → length (glued_leg d S r parts x).sings ≡ length (ranks_of r x)
  unfolding glued_leg
  leg-sings_len x = length-tab _ (length (ranks_of r x))

  pub leg-height : (x i : ℕ) → height d (glued_leg d S r parts x) i ≡ rank r x i
  leg-height x i = ap (λ (hs : List ℕ). get_or hs i 0) (leg-heights x)

  pub leg-dual : (x j : ℕ) → dual (glued_leg d S r parts x).heights j ≡ dual (ranks_of r x) j
  leg-dual x j = ap (λ (hs : List ℕ). dual hs j) (leg-heights x)

  pub leg-reg : (x j : ℕ) → j ≤ r.count → arrow_reg d (glued_leg d S r parts x) j ≡ ident d (apex_reg d S r parts j)
  unfolding glued_leg
  leg-reg x j l = get-tab (λ j. ident d (apex_reg d S r parts j)) (suc r.count) j (no_arr d) (omega arith)

  pub leg-sing : (x i : ℕ) → i < length (ranks_of r x) → arrow_sing d (glued_leg d S r parts x) i ≡ part_leg d S r parts (rank r x i) x (slice.S i)
  unfolding glued_leg
  leg-sing x i l = get-tab (λ i. part_leg d S r parts (rank r x i) x (slice.S i)) (length (ranks_of r x)) i (no_arr d) l

  -- ---- the cocone

  pub legs-len : length (glued d S r parts).legs ≡ length S.objects
  legs-len = length-tab (glued_leg d S r parts) (length S.objects)

  pub leg-at : (x : ℕ) → x < length S.objects → leg (suc d) (glued d S r parts) x ≡ glued_leg d S r parts x
  leg-at x l = get-tab (glued_leg d S r parts) (length S.objects) x (no_arr (suc d)) l
