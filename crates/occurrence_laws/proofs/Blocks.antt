-- A leg around the block of one height of its target, and what is put in the place of the block.
use Rattle.std.proofs.Common.{◌≡◌, ℕ, suc, ◌<◌, ◌≤◌, length, refl, sym, ap, ap₂, ◌∙◌, arith}
use Rattle.diagram_terms.specs.Family.{Dia, Arr}
use Rattle.diagram_terms.specs.Dual.{dual}
use Rattle.diagram_terms.specs.Composite.{comp, ident}
use Rattle.diagram_terms.specs.Cone.{source, target, Parallel}
use Rattle.plain_laws.proofs.Parallels.{parallel_is_symmetric, parallel_is_transitive}
use Rattle.plain_laws.proofs.PlainEnds.{dual-source, dual-target}
use Rattle.diagram_terms.specs.Good.{GoodDiagram, GoodArrow}
use Rattle.diagram_terms.specs.Segments.{segment, diagram_sum, arrow_sum, arrow_segment, replaced, replacing}
use Rattle.diagram_terms.specs.Expansion.{block, block_replaced, block_replacing, around_block_with, around_block}
use Rattle.occurrence_laws.proofs.GoodParts.{good_identity, good_ends, good_neutral_after, good_neutral_before}
use Rattle.occurrence_laws.proofs.SegmentParts.{segment-source, segment-target, good_segment}
use Rattle.occurrence_laws.proofs.SumParts.{sum-source}
use Rattle.occurrence_laws.proofs.ArrowSums.{good_arrow_sum}
use Rattle.occurrence_laws.proofs.ArrowSegments.{good_arrow_segment, low_high, high_within}
use Rattle.occurrence_laws.proofs.SumLaws.{good_along, sum_of_composites, arrow_segment_whole, arrow_segments_join}

-- ---- a leg f : r → s around its block at i

module _ (d : ℕ) (r s : Dia (suc d)) (f : Arr (suc d)) (g : GoodArrow (suc d) r s f) (i : ℕ) (l : i < length s.sings) where
  abbrev low : ℕ
  low = dual f.heights i

  abbrev high : ℕ
  high = dual f.heights (suc i)

  pub block_low : low ≤ high
  block_low = low_high d r s f g i (suc i) (omega arith) l

  pub block_high : high ≤ length r.sings
  block_high = high_within d r s f g i (suc i) (omega arith) l

  abbrev here : Dia (suc d)
  here = segment d s i (suc i)

  pub good_here : GoodDiagram (suc d) here
  good_here = good_segment d s i (suc i) (omega arith) l g.target

  -- f on the block
  pub on_block : GoodArrow (suc d) (block d r f i) here (arrow_segment d f i (suc i))
  on_block = good_arrow_segment d r s f g i (suc i) (omega arith) l

  pub block_parallel : Parallel (suc d) (block d r f i) here
  block_parallel = good_ends (suc d) (block d r f i) here (arrow_segment d f i (suc i)) on_block

  -- f before the block and after it
  abbrev before : Arr (suc d)
  before = arrow_segment d f 0 i

  abbrev after : Arr (suc d)
  after = arrow_segment d f (suc i) (length s.sings)

  abbrev r_before : Dia (suc d)
  r_before = segment d r 0 low

  abbrev r_after : Dia (suc d)
  r_after = segment d r high (length r.sings)

  abbrev s_before : Dia (suc d)
  s_before = segment d s 0 i

  abbrev s_after : Dia (suc d)
  s_after = segment d s (suc i) (length s.sings)

  good_before : GoodArrow (suc d) r_before s_before before
  good_before =
      good_along (suc d) _ _ _ _ before (ap (λ (k : ℕ). segment d r k low) (dual-source d r s f g.valid)) refl
      (good_arrow_segment d r s f g 0 i (omega arith) (omega arith))

  good_after : GoodArrow (suc d) r_after s_after after
  good_after =
      good_along (suc d) _ _ _ _ after (ap (segment d r high) (dual-target d r s f g.valid)) refl
      (good_arrow_segment d r s f g (suc i) (length s.sings) l (omega arith))

  -- an arrow q from what fits at the block
  module _ (Q P : Dia (suc d)) (q : Arr (suc d)) (gq : GoodArrow (suc d) Q P q) (par : Parallel (suc d) Q (block d r f i)) where
    meet_after : target d Q ≡ source d r_after
    meet_after = par.targets ∙ segment-target d r low high block_low block_high ∙ sym (segment-source d r high (length r.sings) block_high (omega arith))

    good_rest : GoodArrow (suc d) (diagram_sum d Q r_after) (diagram_sum d P s_after) (arrow_sum d q after)
    good_rest = good_arrow_sum d Q P q r_after s_after after gq good_after meet_after

    meet_before : target d r_before ≡ source d (diagram_sum d Q r_after)
    meet_before =
        let a = block_low in
        let b = block_high in
        segment-target d r 0 low (omega arith) (omega arith)
        ∙ sym (sum-source d Q r_after gq.source.valid good_after.source.valid meet_after ∙ par.sources ∙ segment-source d r low high block_low block_high)

    pub good_around : GoodArrow (suc d) (block_replaced d r f i Q) (replaced d s i (suc i) P) (around_block_with d s f i q)
    good_around = good_arrow_sum d r_before s_before before (diagram_sum d Q r_after) (diagram_sum d P s_after) (arrow_sum d q after)
        good_before good_rest meet_before

  -- f itself is that around its part on the block
  pub around_itself : around_block_with d s f i (arrow_segment d f i (suc i)) ≡ f
  around_itself =
      ap (arrow_sum d before) (arrow_segments_join d r s f g i (suc i) (length s.sings) (omega arith) l (omega arith))
      ∙ arrow_segments_join d r s f g 0 i (length s.sings) (omega arith) (omega arith) (omega arith)
      ∙ arrow_segment_whole d r s f g

  -- what is around the block after q on the block, and q at i after what is around the block
  module _ (Q P : Dia (suc d)) (q : Arr (suc d)) (gq : GoodArrow (suc d) Q P q) (par : Parallel (suc d) Q (block d r f i)) where
    abbrev id_P : Arr (suc d)
    id_P = ident (suc d) P

    abbrev id_Q : Arr (suc d)
    id_Q = ident (suc d) Q

    next_parallel : Parallel (suc d) P (block d r f i)
    next_parallel = parallel_is_transitive (suc d) P Q (block d r f i) (parallel_is_symmetric (suc d) Q P (good_ends (suc d) Q P q gq)) par

    pub around_after_block : comp (suc d) (around_block d s f i P) (block_replacing d r f i q) ≡ around_block_with d s f i q
    around_after_block =
        let i_P = good_identity (suc d) P gq.target in
        let i_b = good_identity (suc d) r_before good_before.source in
        let i_a = good_identity (suc d) r_after good_after.source in
        let m = meet_after Q P q gq par in
        sum_of_composites d r_before r_before s_before (diagram_sum d Q r_after) (diagram_sum d P r_after) (diagram_sum d P s_after)
        (ident (suc d) r_before) before (arrow_sum d q (ident (suc d) r_after)) (arrow_sum d id_P after)
        i_b good_before (good_arrow_sum d Q P q r_after r_after (ident (suc d) r_after) gq i_a m)
        (good_rest P P id_P i_P next_parallel) (meet_before Q P q gq par)
        ∙ ap₂ (arrow_sum d) (good_neutral_before (suc d) r_before s_before before good_before)
        (sum_of_composites d Q P P r_after r_after s_after q id_P (ident (suc d) r_after) after gq i_P i_a good_after m
        ∙ ap₂ (arrow_sum d) (good_neutral_after (suc d) Q P q gq) (good_neutral_before (suc d) r_after s_after after good_after))

    pub height_after_around : comp (suc d) (replacing d s i (suc i) q) (around_block d s f i Q) ≡ around_block_with d s f i q
    height_after_around =
        let i_Q = good_identity (suc d) Q gq.source in
        let i_b = good_identity (suc d) s_before good_before.target in
        let i_a = good_identity (suc d) s_after good_after.target in
        let m = meet_after Q Q id_Q i_Q par in
        let meet_s : target d Q ≡ source d s_after =
        par.targets ∙ block_parallel.targets ∙ segment-target d s i (suc i) (omega arith) l
        ∙ sym (segment-source d s (suc i) (length s.sings) l (omega arith)) in
        sum_of_composites d r_before s_before s_before (diagram_sum d Q r_after) (diagram_sum d Q s_after) (diagram_sum d P s_after)
        before (ident (suc d) s_before) (arrow_sum d id_Q after) (arrow_sum d q (ident (suc d) s_after))
        good_before i_b (good_rest Q Q id_Q i_Q par) (good_arrow_sum d Q P q s_after s_after (ident (suc d) s_after) gq i_a meet_s)
        (meet_before Q Q id_Q i_Q par)
        ∙ ap₂ (arrow_sum d) (good_neutral_after (suc d) r_before s_before before good_before)
        (sum_of_composites d Q Q P r_after s_after s_after id_Q q after (ident (suc d) s_after) i_Q gq good_after i_a m
        ∙ ap₂ (arrow_sum d) (good_neutral_before (suc d) Q P q gq) (good_neutral_after (suc d) r_after s_after after good_after))
