-- Expansion: the parted height, and the arrow from the expanded diagram.
use Rattle.std.proofs.Common.{◌≡◌, ℕ, zero, suc, ◌<◌, List, [], ◌∷◌, length, get_or, refl, subst, sym, ap, ap₂, ◌∙◌, arith}
use Rattle.diagram_terms.specs.Family.{Dia, Arr, no_arr, reg, sing, fwd, bwd}
use Rattle.diagram_terms.specs.Dual.{dual}
use Rattle.diagram_terms.specs.Composite.{comp, ident}
use Rattle.diagram_terms.specs.Cone.{source, target, Parallel, cospan}
use Rattle.plain_laws.proofs.Cospans.{below_two}
use Rattle.plain_laws.proofs.Parallels.{parallel_is_reflexive, parallel_is_symmetric, parallel_is_transitive}
use Rattle.diagram_terms.specs.Good.{GoodDiagram, GoodArrow}
use Rattle.diagram_terms.specs.Segments.{segment, diagram_sum, arrow_segment, replaced, replacing}
use Rattle.diagram_terms.specs.Expansion.{block, block_replacing, around_block, first_parted, middle_parted, second_parted, parted, parting, height_parted, height_parting, expanded, expanding}
use Rattle.occurrence_laws.specs.Lists.{HasListsReplaced, HasListsReplacing}
use Rattle.occurrence_laws.proofs.GoodParts.{good_identity, good_ends, good_fwd, good_bwd}
use Rattle.occurrence_laws.proofs.SegmentParts.{segment-length}
use Rattle.occurrence_laws.proofs.SumParts.{good_sum}
use Rattle.occurrence_laws.proofs.SumLaws.{good_along}
use Rattle.occurrence_laws.proofs.Replacements.{replaced_same, good_replacing}
use Rattle.occurrence_laws.proofs.ReplacedLists.{replaced_has_lists, replacing_has_lists}
use Rattle.occurrence_laws.proofs.Blocks.{block_low, block_high, on_block, block_parallel, good_around, around_itself, around_after_block, height_after_around}
use Rattle.occurrence_laws.proofs.OneHeight.{IsCocone, good_cospan, good_to_one_height, height_is_cospan}

-- ---- one height r → s ← r', parted at the height i of s

module _ (d : ℕ) (r : Dia (suc d)) (f : Arr (suc d)) (s : Dia (suc d)) (g : Arr (suc d)) (r' : Dia (suc d)) (i : ℕ)
    (gf : GoodArrow (suc d) r s f) (gg : GoodArrow (suc d) r' s g) (l : i < length s.sings) where
  abbrev S : Dia (suc d)
  S = segment d s i (suc i)

  abbrev A : Dia (suc d)
  A = block d r f i

  abbrev B : Dia (suc d)
  B = block d r' g i

  abbrev on_A : Arr (suc d)
  on_A = arrow_segment d f i (suc i)

  abbrev on_B : Arr (suc d)
  on_B = arrow_segment d g i (suc i)

  abbrev first : Dia (suc d)
  first = first_parted d r f s g r' i

  abbrev middle : Dia (suc d)
  middle = middle_parted d r f s g r' i

  abbrev second : Dia (suc d)
  second = second_parted d r f s g r' i

  gA : GoodArrow (suc d) A S on_A
  gA = on_block d r s f gf i l

  gB : GoodArrow (suc d) B S on_B
  gB = on_block d r' s g gg i l

  A_S : Parallel (suc d) A S
  A_S = block_parallel d r s f gf i l

  B_S : Parallel (suc d) B S
  B_S = block_parallel d r' s g gg i l

  S_A : Parallel (suc d) S A
  S_A = parallel_is_symmetric (suc d) A S A_S

  B_A : Parallel (suc d) B A
  B_A = parallel_is_transitive (suc d) B S A B_S S_A

  -- the four legs
  leg_in : GoodArrow (suc d) r first (block_replacing d r f i on_A)
  leg_in =
      let a = block_low d r s f gf i l in
      let b = block_high d r s f gf i l in
      good_along (suc d) _ _ _ _ (block_replacing d r f i on_A)
      (replaced_same d r gf.source (dual f.heights i) (dual f.heights (suc i)) a b) refl
      (good_replacing d r gf.source (dual f.heights i) (dual f.heights (suc i)) a b A S on_A gA (parallel_is_reflexive (suc d) A))

  leg_middle : GoodArrow (suc d) middle first (block_replacing d r f i on_B)
  leg_middle =
      good_replacing d r gf.source (dual f.heights i) (dual f.heights (suc i)) (block_low d r s f gf i l) (block_high d r s f gf i l)
      B S on_B gB B_A

  leg_next : GoodArrow (suc d) middle second (around_block d s f i B)
  leg_next = good_around d r s f gf i l B B (ident (suc d) B) (good_identity (suc d) B gB.source) B_A

  leg_out : GoodArrow (suc d) r' second (around_block d s g i B)
  leg_out =
      good_along (suc d) _ _ _ _ (around_block d s g i B)
      (replaced_same d r' gg.source (dual g.heights i) (dual g.heights (suc i)) (block_low d r' s g gg i l) (block_high d r' s g gg i l)) refl
      (good_around d r' s g gg i l B B (ident (suc d) B) (good_identity (suc d) B gB.source) (parallel_is_reflexive (suc d) B))

  -- the two slices of the arrow to s
  abbrev slice_first : Arr (suc d)
  slice_first = around_block d s f i S

  abbrev slice_second : Arr (suc d)
  slice_second = replacing d s i (suc i) on_B

  to_first : GoodArrow (suc d) first s slice_first
  to_first =
      good_along (suc d) _ _ _ _ slice_first refl (replaced_same d s gf.target i (suc i) (omega arith) l)
      (good_around d r s f gf i l S S (ident (suc d) S) (good_identity (suc d) S gA.target) S_A)

  to_second : GoodArrow (suc d) second s slice_second
  to_second =
      good_along (suc d) _ _ _ _ slice_second refl (replaced_same d s gf.target i (suc i) (omega arith) l)
      (good_replacing d s gf.target i (suc i) (omega arith) l B S on_B gB B_S)

  -- the three edges
  edge_in : comp (suc d) slice_first (block_replacing d r f i on_A) ≡ f
  edge_in =
      around_after_block d r s f gf i l A S on_A gA (parallel_is_reflexive (suc d) A) ∙ around_itself d r s f gf i l

  edge_middle : comp (suc d) slice_first (block_replacing d r f i on_B) ≡ comp (suc d) slice_second (around_block d s f i B)
  edge_middle =
      around_after_block d r s f gf i l B S on_B gB B_A ∙ sym (height_after_around d r s f gf i l B S on_B gB B_A)

  edge_out : comp (suc d) slice_second (around_block d s g i B) ≡ g
  edge_out =
      height_after_around d r' s g gg i l B S on_B gB (parallel_is_reflexive (suc d) B) ∙ around_itself d r' s g gg i l

  -- ---- the two heights, and the arrow from them to the one

  abbrev both : Dia (suc (suc d))
  both = parted d r f s g r' i

  good_both : GoodDiagram (suc (suc d)) both
  good_both =
      good_sum (suc d) (cospan (suc d) r (block_replacing d r f i on_A) first (block_replacing d r f i on_B) middle)
      (cospan (suc d) middle (around_block d s f i B) second (around_block d s g i B) r')
      (good_cospan (suc d) _ _ _ _ _ leg_in leg_middle) (good_cospan (suc d) _ _ _ _ _ leg_next leg_out) refl

  both_long : length both.sings ≡ 2
  unfolding diagram_sum
  both_long = refl

  both_source : source (suc d) both ≡ r
  unfolding diagram_sum
  both_source = refl

  both_target : target (suc d) both ≡ r'
  unfolding diagram_sum
  both_target = refl

  sing_first : sing (suc d) both 0 ≡ first
  unfolding diagram_sum
  sing_first = refl

  sing_second : sing (suc d) both 1 ≡ second
  unfolding diagram_sum
  sing_second = refl

  fwd_first : fwd (suc d) both 0 ≡ block_replacing d r f i on_A
  unfolding diagram_sum
  fwd_first = refl

  bwd_first : bwd (suc d) both 0 ≡ block_replacing d r f i on_B
  unfolding diagram_sum
  bwd_first = refl

  fwd_second : fwd (suc d) both 1 ≡ around_block d s f i B
  unfolding diagram_sum
  fwd_second = refl

  bwd_second : bwd (suc d) both 1 ≡ around_block d s g i B
  unfolding diagram_sum
  bwd_second = refl

  edge : ℕ → Arr (suc d)
  edge zero = f
  edge (suc zero) = comp (suc d) slice_first (block_replacing d r f i on_B)
  edge (suc (suc t)) = g

  abbrev slices : List (Arr (suc d))
  slices = slice_first ∷ slice_second ∷ []

  cocone : IsCocone (suc d) both f s g slices
  unfolding edge
  cocone =
      let n = both_long in
      let go : Arr (suc d) → Arr (suc d) → Arr (suc d) = comp (suc d) in
      record {
        long = sym n;
        good = λ t h. below_two (λ t. GoodArrow (suc d) (sing (suc d) both t) s (get_or slices t (no_arr (suc d))))
            (rw sing_first to_first) (rw sing_second to_second) t (omega arith);
        edge = edge;
        first = refl;
        last = ap edge n;
        along_fwd = λ t h. below_two (λ t. edge t ≡ go (get_or slices t (no_arr (suc d))) (fwd (suc d) both t))
            (sym edge_in ∙ ap (go slice_first) (sym fwd_first)) (edge_middle ∙ ap (go slice_second) (sym fwd_second)) t (omega arith);
        along_bwd = λ t h. below_two (λ t. edge (suc t) ≡ go (get_or slices t (no_arr (suc d))) (bwd (suc d) both t))
            (ap (go slice_first) (sym bwd_first)) (sym edge_out ∙ ap (go slice_second) (sym bwd_second)) t (omega arith);
      }

  pub good_parting : GoodArrow (suc (suc d)) (parted d r f s g r' i) (cospan (suc d) r f s g r') (parting d r f s g r' i)
  good_parting =
      let C : Dia (suc d) → Dia (suc d) → Dia (suc (suc d)) = λ a b. cospan (suc d) a f s g b in
      good_along (suc (suc d)) _ _ _ _ (parting d r f s g r' i) refl (ap₂ C both_source both_target)
      (good_to_one_height (suc d) both f s g slices good_both
      (good_along (suc d) _ _ _ _ f (sym both_source) refl gf) (good_along (suc d) _ _ _ _ g (sym both_target) refl gg) cocone)

-- ---- a height of a diagram

module _ (d : ℕ) (D : Dia (suc (suc d))) (k i : ℕ) (gD : GoodDiagram (suc (suc d)) D) (l : k < length D.sings)
    (m : i < length (sing (suc d) D k).sings) where
  abbrev r : Dia (suc d)
  r = reg (suc d) D k

  abbrev s : Dia (suc d)
  s = sing (suc d) D k

  abbrev r' : Dia (suc d)
  r' = reg (suc d) D (suc k)

  abbrev f : Arr (suc d)
  f = fwd (suc d) D k

  abbrev g : Arr (suc d)
  g = bwd (suc d) D k

  abbrev one : Dia (suc (suc d))
  one = segment (suc d) D k (suc k)

  parting_there : GoodArrow (suc (suc d)) (parted d r f s g r' i) one (parting d r f s g r' i)
  parting_there =
      good_along (suc (suc d)) _ _ _ _ (parting d r f s g r' i) refl (sym (height_is_cospan (suc d) D k gD l))
      (good_parting d r f s g r' i (good_fwd (suc d) D gD k l) (good_bwd (suc d) D gD k l) m)

  -- the arrow from the expanded diagram
  pub good_expanding : GoodArrow (suc (suc d)) (expanded d D k i) D (expanding d D k i)
  good_expanding =
      good_along (suc (suc d)) _ _ _ _ (expanding d D k i) refl (replaced_same (suc d) D gD k (suc k) (omega arith) l)
      (good_replacing (suc d) D gD k (suc k) (omega arith) l (parted d r f s g r' i) one (parting d r f s g r' i)
      parting_there (good_ends (suc (suc d)) _ _ _ parting_there))

  -- ---- in lists

  pub expanded_has_lists : HasListsReplaced (suc d) D k (suc k) (height_parted d D k i) (expanded d D k i)
      × HasListsReplacing (suc d) D k (suc k) 1 (height_parting d D k i) D (expanding d D k i)
  expanded_has_lists =
      let fits = good_ends (suc (suc d)) _ _ _ parting_there in
      let n = segment-length (suc d) D k (suc k) (omega arith) l in
      let long : length one.sings ≡ 1 = omega arith in
      let whole = replaced_same (suc d) D gD k (suc k) (omega arith) l in
      let lists = replacing_has_lists (suc d) D gD k (suc k) (omega arith) l (height_parted d D k i) one (height_parting d D k i) parting_there fits in (
        replaced_has_lists (suc d) D gD k (suc k) (omega arith) l (height_parted d D k i) parting_there.source fits,
        subst (λ (t : Dia (suc (suc d))). HasListsReplacing (suc d) D k (suc k) 1 (height_parting d D k i) t (expanding d D k i)) whole
            (subst (λ (c : ℕ). HasListsReplacing (suc d) D k (suc k) c (height_parting d D k i) (replaced (suc d) D k (suc k) one) (expanding d D k i)) long lists),
      )
