-- Segments of valid plain arrows are valid and plain.
use Rattle.std.proofs.Common.{◌≡◌, ℕ, suc, ◌+◌, ◌-◌, ◌<◌, ◌≤◌, length, subst, sym, ap, ◌∙◌, arith}
use Rattle.diagram_terms.specs.Family.{Dia, Arr, no_arr, reg, sing, height, arrow_reg, arrow_sing}
use Rattle.diagram_terms.specs.Dual.{IsMonotone, AreBelow, dual}
use Rattle.diagram_terms.specs.Valid.{ValidArrow, Commutes}
use Rattle.diagram_terms.proofs.Duals.{dual_mono, dual-lt}
use Rattle.diagram_terms.proofs.MonotoneParts.{IsRestriction, restriction_cut, restriction_mono, restriction_below, restriction_dual, dual-ge}
use Rattle.map_laws.proofs.ValidParts.{dual_within}
use Rattle.diagram_terms.specs.Good.{GoodArrow}
use Rattle.diagram_terms.specs.Segments.{segment, arrow_segment}
use Rattle.occurrence_laws.proofs.ListParts.{length-range, get-range}
use Rattle.occurrence_laws.proofs.SegmentParts.{segment-length, segment-reg, segment-sing, segment-fwd, segment-bwd, good_segment}
use Rattle.occurrence_laws.proofs.SquareParts.{IsSquarePart, square_down}

module _ (d : ℕ) (X Y : Dia (suc d)) (f : Arr (suc d)) (g : GoodArrow (suc d) X Y f) (a b : ℕ) (l : a ≤ b) (m : b ≤ length Y.sings) where
  abbrev low : ℕ
  low = dual f.heights a

  abbrev high : ℕ
  high = dual f.heights b

  pub low_high : low ≤ high
  low_high = dual_mono f.heights g.valid.monotone a b l

  pub high_within : high ≤ length X.sings
  high_within = dual_within d X Y f g.valid b

  abbrev from : Dia (suc d)
  from = segment d X low high

  abbrev to : Dia (suc d)
  to = segment d Y a b

  abbrev part : Arr (suc d)
  part = arrow_segment d f a b

  from_long : length from.sings ≡ high - low
  from_long = segment-length d X low high low_high high_within

  to_long : length to.sings ≡ b - a
  to_long = segment-length d Y a b l m

  -- ---- its parts

  restricts : IsRestriction f.heights a b part.heights
  unfolding arrow_segment
  restricts = restriction_cut f.heights a b

  pub segment-height : (i : ℕ) → low + i < high → a + height d part i ≡ height d f (low + i)
  segment-height i h =
      let n = restricts.long in
      let e = restricts.counted i (omega arith) in
      let w = high_within in
      let k = g.valid.heights_len in
      let o = dual-ge f.heights g.valid.monotone (low + i) a (omega arith) (omega arith) in
      omega arith

  pub segment-arrow_reg : (j : ℕ) → a + j ≤ b → arrow_reg d part j ≡ arrow_reg d f (a + j)
  unfolding arrow_segment
  segment-arrow_reg j h = get-range f.regs a (suc b) j (no_arr d) (omega arith)

  pub segment-arrow_sing : (i : ℕ) → low + i < high → arrow_sing d part i ≡ arrow_sing d f (low + i)
  unfolding arrow_segment
  segment-arrow_sing i h = get-range f.sings low high i (no_arr d) h

  pub segment-dual : (j : ℕ) → a + j ≤ b → low + dual part.heights j ≡ dual f.heights (a + j)
  segment-dual j h =
      let e = restriction_dual f.heights part.heights g.valid.monotone a b restricts j h in
      let o = dual_mono f.heights g.valid.monotone a (a + j) (omega arith) in
      omega arith

  dual_high : (j : ℕ) → a + j ≤ b → dual f.heights (a + j) ≤ high
  dual_high j h = dual_mono f.heights g.valid.monotone (a + j) b h

  -- ---- it is valid

  heights_long : length part.heights ≡ length from.sings
  heights_long = restricts.long ∙ sym from_long

  regs_long : length part.regs ≡ suc (length to.sings)
  unfolding arrow_segment
  regs_long =
      let r = g.valid.regs_len in
      let e = length-range f.regs a (suc b) (omega arith) (omega arith) in
      let n = to_long in
      omega arith

  sings_long : length part.sings ≡ length from.sings
  unfolding arrow_segment
  sings_long =
      let s = g.valid.sings_len in
      let w = high_within in
      let o = low_high in
      let e = length-range f.sings low high o (omega arith) in
      let n = from_long in
      omega arith

  part_monotone : IsMonotone part.heights
  part_monotone = restriction_mono f.heights part.heights g.valid.monotone a b restricts

  part_below : AreBelow part.heights (length to.sings)
  part_below = subst (AreBelow part.heights) (sym to_long) (restriction_below f.heights part.heights g.valid.monotone a b restricts)

  from_reg : (j : ℕ) → a + j ≤ b → reg d from (dual part.heights j) ≡ reg d X (dual f.heights (a + j))
  from_reg j h =
      let e = segment-dual j h in
      let t = dual_high j h in
      segment-reg d X low high (dual part.heights j) (omega arith) ∙ ap (reg d X) e

  to_sing : (i : ℕ) → low + i < high → sing d to (height d part i) ≡ sing d Y (height d f (low + i))
  to_sing i h =
      let e = segment-height i h in
      let t = dual-lt f.heights g.valid.monotone (low + i) b h in
      segment-sing d Y a b (height d part i) (omega arith) ∙ ap (sing d Y) e

  valid_reg : (j : ℕ) → a + j ≤ b → ValidArrow d (reg d from (dual part.heights j)) (reg d to j) (arrow_reg d part j)
  valid_reg j h = rw (from_reg j h, segment-reg d Y a b j h, segment-arrow_reg j h) (g.valid.regs (a + j) (omega arith))

  valid_sing : (i : ℕ) → low + i < high → ValidArrow d (sing d from i) (sing d to (height d part i)) (arrow_sing d part i)
  valid_sing i h =
      let w = high_within in
      rw (to_sing i h, segment-sing d X low high i h, segment-arrow_sing i h) (g.valid.sings (low + i) (omega arith))

  square_part : (k : ℕ) → a + k < b → IsSquarePart d X Y f (a + k) low from to part k
  square_part k h =
      let e : suc (a + k) ≡ a + suc k = omega arith in
      let top = dual_high (suc k) (omega arith) in
      let above = segment-dual (suc k) (omega arith) in
      record {
        low = sym (segment-dual k (omega arith));
        high = ap (dual f.heights) e ∙ sym (segment-dual (suc k) (omega arith));
        left_leg = sym (segment-fwd d Y a b k h);
        right_leg = sym (segment-bwd d Y a b k h);
        left = sym (segment-arrow_reg k (omega arith));
        right = ap (arrow_reg d f) e ∙ sym (segment-arrow_reg (suc k) (omega arith));
        sings = λ t p q. sym (segment-arrow_sing t (omega arith));
        fwds = λ t p q. sym (segment-fwd d X low high t (omega arith));
        bwds = λ t p q. sym (segment-bwd d X low high t (omega arith));
      }

  square : (k : ℕ) → a + k < b → Commutes d from to part k
  square k h =
      square_down d X Y f (a + k) low from to part k (square_part k h) g.valid.monotone part_monotone (g.valid.squares (a + k) (omega arith))

  -- ---- and plain

  pub good_arrow_segment : GoodArrow (suc d) (segment d X (dual f.heights a) (dual f.heights b)) (segment d Y a b) (arrow_segment d f a b)
  good_arrow_segment =
      let nf = from_long in
      let nt = to_long in
      let rl = regs_long in
      let sl = sings_long in
      let o = low_high in
      let w = high_within in
      let fr = g.valid.regs_len in
      let fs = g.valid.sings_len in
      record {
        source = good_segment d X low high low_high high_within g.source;
        target = good_segment d Y a b l m g.target;
        valid = record {
          heights_len = heights_long;
          regs_len = regs_long;
          sings_len = sings_long;
          monotone = part_monotone;
          below = part_below;
          regs = λ j h. valid_reg j (omega arith);
          sings = λ i h. valid_sing i (omega arith);
          squares = λ k h. square k (omega arith);
        };
        plain = record {
          regs = λ j h. rw (segment-arrow_reg j (omega arith)) (g.plain.regs (a + j) (omega arith));
          sings = λ i h. rw (segment-arrow_sing i (omega arith)) (g.plain.sings (low + i) (omega arith));
        };
      }
