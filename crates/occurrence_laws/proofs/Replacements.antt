-- A diagram with another one in the place of a segment, and the arrows between such.
use Rattle.std.proofs.Common.{◌≡◌, ℕ, suc, ◌+◌, ◌-◌, ◌≤◌, length, refl, sym, ap, ap₂, ◌∙◌, arith}
use Rattle.diagram_terms.specs.Family.{Dia, Arr, reg}
use Rattle.diagram_terms.specs.Composite.{comp, ident}
use Rattle.diagram_terms.specs.Cone.{source, target, Parallel}
use Rattle.diagram_terms.specs.Good.{GoodDiagram, GoodArrow}
use Rattle.diagram_terms.specs.Segments.{segment, diagram_sum, arrow_sum, replaced, replacing}
use Rattle.occurrence_laws.proofs.GoodParts.{good_identity, good_ends, good_neutral_after}
use Rattle.occurrence_laws.proofs.SegmentParts.{segment-length, segment-source, segment-target, good_segment}
use Rattle.occurrence_laws.proofs.SumParts.{sum-length, sum-source, sum-target, good_sum}
use Rattle.occurrence_laws.proofs.DiagramParts.{IsPart, part_at, part_within, part_first, part_second, part_is_segment, segment_whole, segments_join}
use Rattle.occurrence_laws.proofs.ArrowSums.{good_arrow_sum}
use Rattle.occurrence_laws.proofs.SumLaws.{sum_of_identities, sum_of_composites}

module _ (d : ℕ) (B : Dia (suc d)) (gB : GoodDiagram (suc d) B) (a b : ℕ) (l : a ≤ b) (m : b ≤ length B.sings) where
  abbrev first : Dia (suc d)
  first = segment d B 0 a

  abbrev last : Dia (suc d)
  last = segment d B b (length B.sings)

  good_first : GoodDiagram (suc d) first
  good_first = good_segment d B 0 a (omega arith) (omega arith) gB

  good_last : GoodDiagram (suc d) last
  good_last = good_segment d B b (length B.sings) m (omega arith) gB

  first_long : length first.sings ≡ a
  first_long = let n = segment-length d B 0 a (omega arith) (omega arith) in omega arith

  -- what stands there itself gives B
  pub replaced_same : replaced d B a b (segment d B a b) ≡ B
  replaced_same =
      ap (diagram_sum d first) (segments_join d B a b (length B.sings) gB l m (omega arith))
      ∙ segments_join d B 0 a (length B.sings) gB (omega arith) (omega arith) (omega arith) ∙ segment_whole d B gB

  module _ (Q : Dia (suc d)) (gQ : GoodDiagram (suc d) Q) (par : Parallel (suc d) Q (segment d B a b)) where
    meet_last : target d Q ≡ source d last
    meet_last = par.targets ∙ segment-target d B a b l m ∙ sym (segment-source d B b (length B.sings) m (omega arith))

    good_rest : GoodDiagram (suc d) (diagram_sum d Q last)
    good_rest = good_sum d Q last gQ good_last meet_last

    rest_source : source d (diagram_sum d Q last) ≡ reg d B a
    rest_source = sum-source d Q last gQ.valid good_last.valid meet_last ∙ par.sources ∙ segment-source d B a b l m

    meet_first : target d first ≡ source d (diagram_sum d Q last)
    meet_first = segment-target d B 0 a (omega arith) (omega arith) ∙ sym rest_source

    pub good_replaced : GoodDiagram (suc d) (replaced d B a b Q)
    good_replaced = good_sum d first (diagram_sum d Q last) good_first good_rest meet_first

    pub replaced_length : length (replaced d B a b Q).sings ≡ a + length Q.sings + (length B.sings - b)
    replaced_length =
        let n = first_long in
        let k = segment-length d B b (length B.sings) m (omega arith) in
        let s = sum-length d Q last in
        let t = sum-length d first (diagram_sum d Q last) in
        omega arith

    -- it has the ends of B
    pub replaced_parallel : Parallel (suc d) (replaced d B a b Q) B
    replaced_parallel = record {
      sources = sum-source d first (diagram_sum d Q last) good_first.valid good_rest.valid meet_first
          ∙ segment-source d B 0 a (omega arith) (omega arith);
      targets = sum-target d first (diagram_sum d Q last) good_first.valid good_rest.valid meet_first
          ∙ sum-target d Q last gQ.valid good_last.valid meet_last ∙ segment-target d B b (length B.sings) m (omega arith);
    }

    -- ---- its parts

    rest_part : IsPart d (replaced d B a b Q) a (diagram_sum d Q last)
    rest_part = part_at d (replaced d B a b Q) (length first.sings) a _ first_long
        (part_second d first (diagram_sum d Q last) good_first good_rest meet_first)

    middle_part : IsPart d (replaced d B a b Q) a Q
    middle_part = part_at d (replaced d B a b Q) (a + 0) a Q (omega arith)
        (part_within d (replaced d B a b Q) (diagram_sum d Q last) Q a 0 rest_part (part_first d Q last gQ good_last meet_last))

    last_part : IsPart d (replaced d B a b Q) (a + length Q.sings) last
    last_part = part_within d (replaced d B a b Q) (diagram_sum d Q last) last a (length Q.sings) rest_part
        (part_second d Q last gQ good_last meet_last)

    pub replaced_middle : segment d (replaced d B a b Q) a (a + length Q.sings) ≡ Q
    replaced_middle = part_is_segment d (replaced d B a b Q) a (a + length Q.sings) Q good_replaced gQ refl middle_part

    pub replaced_first : segment d (replaced d B a b Q) 0 a ≡ first
    replaced_first =
        let n = first_long in
        part_is_segment d (replaced d B a b Q) 0 a first good_replaced good_first (omega arith)
        (part_first d first (diagram_sum d Q last) good_first good_rest meet_first)

    pub replaced_last : segment d (replaced d B a b Q) (a + length Q.sings) (length (replaced d B a b Q).sings) ≡ last
    replaced_last =
        let n = replaced_length in
        let k = segment-length d B b (length B.sings) m (omega arith) in
        part_is_segment d (replaced d B a b Q) (a + length Q.sings) (length (replaced d B a b Q).sings) last good_replaced good_last
        (omega arith) last_part

    pub replaced_at : reg d (replaced d B a b Q) a ≡ reg d B a
    replaced_at =
        let e : a ≡ a + 0 = omega arith in
        ap (reg d (replaced d B a b Q)) e ∙ middle_part.regs 0 (omega arith) ∙ par.sources ∙ segment-source d B a b l m

    -- ---- putting another one there again is putting it there at once

    pub replaced_twice : (P : Dia (suc d)) → replaced d (replaced d B a b Q) a (a + length Q.sings) P ≡ replaced d B a b P
    replaced_twice P = ap₂ (λ (s t : Dia (suc d)). diagram_sum d s (diagram_sum d P t)) replaced_first replaced_last

    pub replacing_twice : (q : Arr (suc d)) → replacing d (replaced d B a b Q) a (a + length Q.sings) q ≡ replacing d B a b q
    replacing_twice q =
        ap₂ (λ (s t : Dia (suc d)). arrow_sum d (ident (suc d) s) (arrow_sum d q (ident (suc d) t))) replaced_first replaced_last

    -- ---- the identity

    pub replacing_identity : replacing d B a b (ident (suc d) Q) ≡ ident (suc d) (replaced d B a b Q)
    replacing_identity =
        ap (arrow_sum d (ident (suc d) first)) (sum_of_identities d Q last gQ good_last meet_last)
        ∙ sum_of_identities d first (diagram_sum d Q last) good_first good_rest meet_first

  -- ---- arrows

  abbrev id_first : Arr (suc d)
  id_first = ident (suc d) first

  abbrev id_last : Arr (suc d)
  id_last = ident (suc d) last

  module _ (Q P : Dia (suc d)) (q : Arr (suc d)) (gq : GoodArrow (suc d) Q P q) (par : Parallel (suc d) Q (segment d B a b)) where
    -- the other end fits too
    pub other_end : Parallel (suc d) P (segment d B a b)
    other_end =
        let e = good_ends (suc d) Q P q gq in
        record { sources = sym e.sources ∙ par.sources; targets = sym e.targets ∙ par.targets }

    good_rest_arrow : GoodArrow (suc d) (diagram_sum d Q last) (diagram_sum d P last) (arrow_sum d q id_last)
    good_rest_arrow = good_arrow_sum d Q P q last last id_last gq (good_identity (suc d) last good_last) (meet_last Q gq.source par)

    pub good_replacing : GoodArrow (suc d) (replaced d B a b Q) (replaced d B a b P) (replacing d B a b q)
    good_replacing =
        good_arrow_sum d first first id_first (diagram_sum d Q last) (diagram_sum d P last) (arrow_sum d q id_last)
        (good_identity (suc d) first good_first) good_rest_arrow (meet_first Q gq.source par)

  module _ (Q P R : Dia (suc d)) (q p : Arr (suc d)) (gq : GoodArrow (suc d) Q P q) (gp : GoodArrow (suc d) P R p)
      (par : Parallel (suc d) Q (segment d B a b)) where
    pub replacing_composite : comp (suc d) (replacing d B a b p) (replacing d B a b q) ≡ replacing d B a b (comp (suc d) p q)
    replacing_composite =
        let i = good_identity (suc d) first good_first in
        let j = good_identity (suc d) last good_last in
        let next = other_end Q P q gq par in
        sum_of_composites d first first first (diagram_sum d Q last) (diagram_sum d P last) (diagram_sum d R last)
        id_first id_first (arrow_sum d q id_last) (arrow_sum d p id_last)
        i i (good_rest_arrow Q P q gq par) (good_rest_arrow P R p gp next) (meet_first Q gq.source par)
        ∙ ap₂ (arrow_sum d) (good_neutral_after (suc d) first first id_first i)
        (sum_of_composites d Q P R last last last q p id_last id_last gq gp j j (meet_last Q gq.source par)
        ∙ ap (arrow_sum d (comp (suc d) p q)) (good_neutral_after (suc d) last last id_last j))
