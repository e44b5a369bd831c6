-- What stands in the place of a part, list by list.
use Rattle.std.proofs.Common.{◌≡◌, ℕ, suc, ◌+◌, ◌-◌, ◌<◌, ◌≤◌, List, [], ◌∷◌, ◌++◌, length, get_or, map, take, drop, refl, sym, ap, ap₂, ◌∙◌, arith, append_assoc, add-one}
use Rattle.std.specs.List.{slice_range}
use Rattle.std.proofs.lemmas.List.{take_more, take_rest, drop-drop, map-append}
use Rattle.std.proofs.lemmas.Simd.{map-map}
use Rattle.diagram_terms.specs.Family.{Dia, Arr, no_dia, reg}
use Rattle.diagram_terms.specs.Dual.{upto}
use Rattle.diagram_terms.specs.Composite.{ident}
use Rattle.diagram_terms.specs.Cone.{Parallel}
use Rattle.diagram_terms.proofs.Parts.{ident-heights, ident-regs_len}
use Rattle.diagram_terms.specs.Good.{GoodDiagram, GoodArrow}
use Rattle.diagram_terms.specs.Segments.{segment, diagram_sum, arrow_sum, target_length, replaced, replacing}
use Rattle.occurrence_laws.specs.Lists.{HasListsReplaced, HasListsReplacing}
use Rattle.occurrence_laws.proofs.GoodParts.{good_regs}
use Rattle.occurrence_laws.proofs.SegmentParts.{segment-length, segment-source, good_segment}
use Rattle.occurrence_laws.proofs.Replacements.{good_replacing}

-- ---- lists

module _ {A : Type 0} where
  pub front : (xs : List A) (k : ℕ) → slice_range xs 0 k ≡ take k xs
  front xs k = let e : k - 0 ≡ k = omega arith in ap (λ (n : ℕ). take n xs) e

  pub tail : (xs : List A) (b n : ℕ) → length xs ≡ n → slice_range xs b n ≡ drop b xs
  tail xs b n e = ap (λ (k : ℕ). take (k - b) (drop b xs)) (sym e) ∙ take_rest xs b

  tail_rest : (xs : List A) (b n : ℕ) → length xs ≡ n → drop 1 (slice_range xs b n) ≡ drop (suc b) xs
  tail_rest xs b n e = ap (drop 1) (tail xs b n e) ∙ drop-drop 1 b xs ∙ ap (λ (k : ℕ). drop k xs) (add-one b)

  -- ys begins with the item of xs at a
  joined : (xs ys zs : List A) (a : ℕ) (d : A) → a < length xs → 0 < length ys → get_or xs a d ≡ get_or ys 0 d
      → take (suc a) xs ++ drop 1 (ys ++ zs) ≡ take a xs ++ ys ++ zs
  joined xs [] zs a d l m e = absurd (omega arith)
  joined xs (y ∷ ys) zs a d l m e =
      ap (λ (k : ℕ). take k xs ++ (ys ++ zs)) (sym (add-one a))
      ∙ ap (λ (t : List A). t ++ (ys ++ zs)) (take_more xs a d l)
      ∙ ap (λ (w : A). (take a xs ++ w ∷ []) ++ (ys ++ zs)) e
      ∙ append_assoc (take a xs) (y ∷ []) (ys ++ zs) ∙ sym (append_assoc (take a xs) (y ∷ ys) zs)

  beside : (xs ys : List A) (a b n : ℕ) → length xs ≡ n → slice_range xs 0 a ++ (ys ++ slice_range xs b n) ≡ take a xs ++ ys ++ drop b xs
  beside xs ys a b n e = ap₂ (λ (s t : List A). s ++ (ys ++ t)) (front xs a) (tail xs b n e) ∙ sym (append_assoc (take a xs) ys (drop b xs))

-- ---- another diagram in the place of a segment

module _ (d : ℕ) (B : Dia (suc d)) (gB : GoodDiagram (suc d) B) (a b : ℕ) (l : a ≤ b) (m : b ≤ length B.sings) where
  module _ (Q : Dia (suc d)) (gQ : GoodDiagram (suc d) Q) (par : Parallel (suc d) Q (segment d B a b)) where
    begins : reg d B a ≡ reg d Q 0
    begins = sym (par.sources ∙ segment-source d B a b l m)

    regs_are : (replaced d B a b Q).regs ≡ take a B.regs ++ Q.regs ++ drop (suc b) B.regs
    unfolding segment diagram_sum
    regs_are =
        let n = gB.valid.regs_len in
        let k = gQ.valid.regs_len in
        ap₂ (λ (s t : List (Dia d)). s ++ drop 1 (Q.regs ++ t)) (front B.regs (suc a)) (tail_rest B.regs b (suc (length B.sings)) n)
        ∙ joined B.regs Q.regs (drop (suc b) B.regs) a (no_dia d) (omega arith) (omega arith) begins

    sings_are : (replaced d B a b Q).sings ≡ take a B.sings ++ Q.sings ++ drop b B.sings
    unfolding segment diagram_sum
    sings_are = beside B.sings Q.sings a b (length B.sings) refl

    fwds_are : (replaced d B a b Q).fwds ≡ take a B.fwds ++ Q.fwds ++ drop b B.fwds
    unfolding segment diagram_sum
    fwds_are = beside B.fwds Q.fwds a b (length B.sings) gB.valid.fwds_len

    bwds_are : (replaced d B a b Q).bwds ≡ take a B.bwds ++ Q.bwds ++ drop b B.bwds
    unfolding segment diagram_sum
    bwds_are = beside B.bwds Q.bwds a b (length B.sings) gB.valid.bwds_len

    pub replaced_has_lists : HasListsReplaced d B a b Q (replaced d B a b Q)
    replaced_has_lists = record { regs = regs_are; sings = sings_are; fwds = fwds_are; bwds = bwds_are }

  -- ---- the arrows

  module _ (Q P : Dia (suc d)) (q : Arr (suc d)) (gq : GoodArrow (suc d) Q P q) (par : Parallel (suc d) Q (segment d B a b)) where
    abbrev first : Dia (suc d)
    first = segment d B 0 a

    abbrev last : Dia (suc d)
    last = segment d B b (length B.sings)

    first_long : length first.sings ≡ a
    first_long = let n = segment-length d B 0 a (omega arith) (omega arith) in omega arith

    last_long : length last.sings ≡ length B.sings - b
    last_long = segment-length d B b (length B.sings) m (omega arith)

    first_shift : target_length d (ident (suc d) first) ≡ a
    first_shift =
        let g = good_segment d B 0 a (omega arith) (omega arith) gB in
        let r = g.valid.regs_len in
        let i = ident-regs_len d first in
        let n = first_long in
        omega arith

    shift : target_length d q ≡ length P.sings
    shift = let r = gq.valid.regs_len in omega arith

    first_heights : (ident (suc d) first).heights ≡ upto a
    first_heights = ident-heights d first ∙ ap upto first_long

    last_heights : (ident (suc d) last).heights ≡ upto (length B.sings - b)
    last_heights = ident-heights d last ∙ ap upto last_long

    -- the heights of a sum of three
    heights_apart : (replacing d B a b q).heights ≡ (ident (suc d) first).heights
        ++ map (λ h. target_length d (ident (suc d) first) + h) (q.heights ++ map (λ h. target_length d q + h) (ident (suc d) last).heights)
    unfolding arrow_sum
    heights_apart = refl

    heights_are : (replacing d B a b q).heights
        ≡ upto a ++ map (λ h. a + h) q.heights ++ map (λ h. a + length P.sings + h) (upto (length B.sings - b))
    heights_are =
        let n : ℕ = length P.sings in
        let us : List ℕ = upto (length B.sings - b) in
        let e : (h : ℕ) → a + (n + h) ≡ a + n + h = λ h. omega arith in
        let behind : List ℕ = map (λ h. n + h) us in
        let here : List ℕ = map (λ h. a + h) q.heights in
        let shifted : map (λ h. a + h) behind ≡ map (λ h. a + n + h) us =
        map-map (λ h. a + h) (λ h. n + h) us ∙ (λ i. map (λ h. e h i) us) in
        heights_apart
        ∙ ap₂ (λ (j k : ℕ). (ident (suc d) first).heights ++ map (λ h. j + h) (q.heights ++ map (λ h. k + h) (ident (suc d) last).heights))
        first_shift shift
        ∙ ap₂ (λ (s t : List ℕ). s ++ map (λ h. a + h) (q.heights ++ map (λ h. n + h) t)) first_heights last_heights
        ∙ ap (λ (t : List ℕ). upto a ++ t) (map-append (λ h. a + h) q.heights behind ∙ ap (λ (t : List ℕ). here ++ t) shifted)
        ∙ sym (append_assoc (upto a) here (map (λ h. a + n + h) us))

    regs_are_identities : (replacing d B a b q).regs ≡ map (λ y. ident d y) (replaced d B a b P).regs
    regs_are_identities = good_regs d _ _ (replacing d B a b q) (good_replacing d B gB a b l m Q P q gq par)

    sings_apart : (replacing d B a b q).sings
        ≡ map (λ x. ident d x) (slice_range B.sings 0 a) ++ (q.sings ++ map (λ x. ident d x) (slice_range B.sings b (length B.sings)))
    unfolding arrow_sum ident segment
    sings_apart = refl

    sings_are_these : (replacing d B a b q).sings ≡ map (λ x. ident d x) (take a B.sings) ++ q.sings ++ map (λ x. ident d x) (drop b B.sings)
    sings_are_these =
        sings_apart
        ∙ ap₂ (λ (s t : List (Dia d)). map (λ x. ident d x) s ++ (q.sings ++ map (λ x. ident d x) t))
        (front B.sings a) (tail B.sings b (length B.sings) refl)
        ∙ sym (append_assoc (map (λ x. ident d x) (take a B.sings)) q.sings (map (λ x. ident d x) (drop b B.sings)))

    pub replacing_has_lists : HasListsReplacing d B a b (length P.sings) q (replaced d B a b P) (replacing d B a b q)
    replacing_has_lists = record { heights = heights_are; regs = regs_are_identities; sings = sings_are_these }
