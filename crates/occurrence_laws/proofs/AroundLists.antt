-- The arrow around a block, list by list.
use Rattle.std.proofs.Common.{◌≡◌, ℕ, suc, ◌+◌, ◌-◌, ◌<◌, List, ◌++◌, length, map, take, drop, refl, sym, ap, ap₂, ◌∙◌, arith, append_assoc}
use Rattle.std.specs.List.{slice_range}
use Rattle.std.proofs.lemmas.List.{map-append, map-id}
use Rattle.std.proofs.lemmas.Simd.{map-map}
use Rattle.diagram_terms.specs.Family.{Dia, Arr}
use Rattle.diagram_terms.specs.Dual.{upto, dual}
use Rattle.diagram_terms.specs.Composite.{ident}
use Rattle.diagram_terms.specs.Cone.{Parallel}
use Rattle.diagram_terms.proofs.Parts.{ident-heights, ident-regs_len}
use Rattle.plain_laws.proofs.PlainEnds.{dual-source, dual-target}
use Rattle.diagram_terms.specs.Good.{GoodDiagram, GoodArrow}
use Rattle.diagram_terms.specs.Segments.{arrow_sum, arrow_segment, target_length, replaced}
use Rattle.diagram_terms.specs.Expansion.{block, block_replaced, around_block}
use Rattle.occurrence_laws.specs.Lists.{HasListsAround}
use Rattle.occurrence_laws.specs.Laws.{AroundBlocksHaveLists}
use Rattle.occurrence_laws.proofs.GoodParts.{good_identity, good_regs}
use Rattle.occurrence_laws.proofs.SegmentParts.{segment-length}
use Rattle.occurrence_laws.proofs.ArrowSegments.{good_arrow_segment}
use Rattle.occurrence_laws.proofs.ReplacedLists.{front, tail}
use Rattle.occurrence_laws.proofs.Blocks.{good_around}

module _ (d : ℕ) (r s : Dia (suc d)) (f : Arr (suc d)) (i : ℕ) (Q : Dia (suc d)) (g : GoodArrow (suc d) r s f) (l : i < length s.sings)
    (gQ : GoodDiagram (suc d) Q) (par : Parallel (suc d) Q (block d r f i)) where
  abbrev low : ℕ
  low = dual f.heights i

  abbrev high : ℕ
  high = dual f.heights (suc i)

  abbrev before : Arr (suc d)
  before = arrow_segment d f 0 i

  abbrev after : Arr (suc d)
  after = arrow_segment d f (suc i) (length s.sings)

  good : GoodArrow (suc d) (block_replaced d r f i Q) (replaced d s i (suc i) Q) (around_block d s f i Q)
  good = good_around d r s f g i l Q Q (ident (suc d) Q) (good_identity (suc d) Q gQ) par

  -- ---- the parts of f

  first_dual : dual f.heights 0 ≡ 0
  first_dual = dual-source d r s f g.valid

  last_dual : dual f.heights (length s.sings) ≡ length r.sings
  last_dual = dual-target d r s f g.valid

  before_heights : before.heights ≡ take low f.heights
  unfolding arrow_segment
  before_heights =
      let part : List ℕ = slice_range f.heights (dual f.heights 0) low in
      let e : (h : ℕ) → h - 0 ≡ h = λ h. omega arith in
      (λ j. map (λ h. e h j) part) ∙ map-id part ∙ ap (λ (k : ℕ). slice_range f.heights k low) first_dual ∙ front f.heights low

  after_heights : after.heights ≡ map (λ h. h - suc i) (drop high f.heights)
  unfolding arrow_segment
  after_heights =
      ap (map (λ h. h - suc i))
      (ap (slice_range f.heights high) last_dual ∙ tail f.heights high (length r.sings) g.valid.heights_len)

  before_sings : before.sings ≡ take low f.sings
  unfolding arrow_segment
  before_sings = ap (λ (k : ℕ). slice_range f.sings k low) first_dual ∙ front f.sings low

  after_sings : after.sings ≡ drop high f.sings
  unfolding arrow_segment
  after_sings = ap (slice_range f.sings high) last_dual ∙ tail f.sings high (length r.sings) g.valid.sings_len

  -- ---- by how much what stands behind them is shifted

  before_shift : target_length d before ≡ i
  before_shift =
      let a = good_arrow_segment d r s f g 0 i (omega arith) (omega arith) in
      let b = a.valid.regs_len in
      let n = segment-length d s 0 i (omega arith) (omega arith) in
      omega arith

  middle_shift : target_length d (ident (suc d) Q) ≡ length Q.sings
  middle_shift = let a = ident-regs_len d Q in let b = gQ.valid.regs_len in omega arith

  -- ---- the lists

  heights_apart : (around_block d s f i Q).heights ≡ before.heights
      ++ map (λ h. target_length d before + h) ((ident (suc d) Q).heights ++ map (λ h. target_length d (ident (suc d) Q) + h) after.heights)
  unfolding arrow_sum
  heights_apart = refl

  heights_are : (around_block d s f i Q).heights
      ≡ take low f.heights ++ map (λ h. i + h) (upto (length Q.sings)) ++ map (λ h. i + length Q.sings + (h - suc i)) (drop high f.heights)
  heights_are =
      let n : ℕ = length Q.sings in
      let rest : List ℕ = drop high f.heights in
      let here : List ℕ = map (λ h. i + h) (upto n) in
      let e : (h : ℕ) → i + (n + (h - suc i)) ≡ i + n + (h - suc i) = λ h. omega arith in
      let shifted : map (λ h. i + h) (map (λ h. n + h) (map (λ h. h - suc i) rest)) ≡ map (λ h. i + n + (h - suc i)) rest =
      ap (map (λ h. i + h)) (map-map (λ h. n + h) (λ h. h - suc i) rest)
      ∙ map-map (λ h. i + h) (λ h. n + (h - suc i)) rest ∙ (λ j. map (λ h. e h j) rest) in
      heights_apart
      ∙ ap₂ (λ (j k : ℕ). before.heights ++ map (λ h. j + h) ((ident (suc d) Q).heights ++ map (λ h. k + h) after.heights)) before_shift middle_shift
      ∙ ap₂ (λ (x y : List ℕ). x ++ map (λ h. i + h) ((ident (suc d) Q).heights ++ map (λ h. n + h) y)) before_heights after_heights
      ∙ ap (λ (x : List ℕ). take low f.heights ++ map (λ h. i + h) (x ++ map (λ h. n + h) (map (λ h. h - suc i) rest))) (ident-heights d Q)
      ∙ ap (λ (x : List ℕ). take low f.heights ++ x)
      (map-append (λ h. i + h) (upto n) (map (λ h. n + h) (map (λ h. h - suc i) rest)) ∙ ap (λ (x : List ℕ). here ++ x) shifted)
      ∙ sym (append_assoc (take low f.heights) here (map (λ h. i + n + (h - suc i)) rest))

  sings_apart : (around_block d s f i Q).sings ≡ before.sings ++ (map (λ x. ident d x) Q.sings ++ after.sings)
  unfolding arrow_sum ident
  sings_apart = refl

  sings_are : (around_block d s f i Q).sings ≡ take low f.sings ++ map (λ x. ident d x) Q.sings ++ drop high f.sings
  sings_are =
      sings_apart ∙ ap₂ (λ (x y : List (Arr d)). x ++ (map (λ x. ident d x) Q.sings ++ y)) before_sings after_sings
      ∙ sym (append_assoc (take low f.sings) (map (λ x. ident d x) Q.sings) (drop high f.sings))

  lists : HasListsAround d s f i Q (around_block d s f i Q)
  lists = record { heights = heights_are; regs = good_regs d _ _ (around_block d s f i Q) good; sings = sings_are }

pub around_blocks_have_lists : (d : ℕ) → AroundBlocksHaveLists d
around_blocks_have_lists d r s f i Q g l gQ par = (good d r s f i Q g l gQ par, lists d r s f i Q g l gQ par)
