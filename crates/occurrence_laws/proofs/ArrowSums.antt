-- Sums of valid plain arrows are valid and plain.
use Rattle.std.proofs.Common.{◌≡◌, ℕ, suc, ◌+◌, ◌<◌, ◌≤◌, length, drop, subst, sym, ap, ◌∙◌, arith, get_or-append-add}
use Rattle.std.proofs.lemmas.List.{get_or_append_left, length-append, length-drop}
use Rattle.diagram_terms.specs.Family.{Dia, Arr, no_arr, reg, sing, fwd, bwd, height, arrow_reg, arrow_sing}
use Rattle.diagram_terms.specs.Dual.{IsMonotone, AreBelow, dual}
use Rattle.diagram_terms.specs.Composite.{ident}
use Rattle.diagram_terms.specs.Plain.{PlainArrow}
use Rattle.diagram_terms.specs.Identity.{IsIdentity}
use Rattle.diagram_terms.specs.Valid.{ValidArrow, Commutes}
use Rattle.diagram_terms.specs.Cone.{source, target}
use Rattle.diagram_terms.proofs.MonotoneParts.{IsConcatenation, concatenation_of, concatenation_below, concatenation_mono, concatenation_dual_first, concatenation_dual_second}
use Rattle.map_laws.proofs.ValidParts.{dual_within}
use Rattle.diagram_terms.specs.Good.{GoodArrow}
use Rattle.diagram_terms.specs.Segments.{diagram_sum, arrow_sum, target_length}
use Rattle.occurrence_laws.proofs.ListParts.{by_parts, by_parts_to, get-joined}
use Rattle.occurrence_laws.proofs.GoodParts.{good_unfolds, good_within, good_ends}
use Rattle.occurrence_laws.proofs.SumParts.{sum-length, sum-reg_first, sum-reg_second, sum-sing_first, sum-sing_second, sum-fwd_first, sum-fwd_second, sum-bwd_first, sum-bwd_second, good_sum}
use Rattle.occurrence_laws.proofs.SquareParts.{IsSquarePart, square_up}

module _ (d : ℕ) (X Y : Dia (suc d)) (f : Arr (suc d)) (V W : Dia (suc d)) (g : Arr (suc d))
    (gf : GoodArrow (suc d) X Y f) (gg : GoodArrow (suc d) V W g) (meet : target d X ≡ source d V) where
  -- the targets meet, and so do the arrows
  pub targets_meet : target d Y ≡ source d W
  targets_meet = sym (good_ends (suc d) X Y f gf).targets ∙ meet ∙ (good_ends (suc d) V W g gg).sources

  arrows_meet : arrow_reg d f (length Y.sings) ≡ arrow_reg d g 0
  arrows_meet =
      (good_unfolds d X Y f gf (length Y.sings) (omega arith)).1 ∙ ap (ident d) targets_meet
      ∙ sym (good_unfolds d V W g gg 0 (omega arith)).1

  -- ---- the parts of the sum

  shift_is : target_length d f ≡ length Y.sings
  shift_is = let a = gf.valid.regs_len in omega arith

  side_by_side : IsConcatenation f.heights (length Y.sings) g.heights (arrow_sum d f g).heights
  unfolding arrow_sum
  side_by_side =
      subst (λ (m : ℕ). IsConcatenation f.heights m g.heights (arrow_sum d f g).heights) shift_is
      (concatenation_of f.heights (target_length d f) g.heights)

  pub sum-height_first : (i : ℕ) → i < length X.sings → height d (arrow_sum d f g) i ≡ height d f i
  sum-height_first i l = side_by_side.first i (let a = gf.valid.heights_len in omega arith)

  pub sum-height_second : (i : ℕ) → i < length V.sings
      → height d (arrow_sum d f g) (length X.sings + i) ≡ length Y.sings + height d g i
  sum-height_second i l =
      ap (λ (n : ℕ). height d (arrow_sum d f g) (n + i)) (sym gf.valid.heights_len)
      ∙ side_by_side.second i (let a = gg.valid.heights_len in omega arith)

  pub sum-arrow_reg_first : (j : ℕ) → j ≤ length Y.sings → arrow_reg d (arrow_sum d f g) j ≡ arrow_reg d f j
  unfolding arrow_sum
  sum-arrow_reg_first j l = get_or_append_left f.regs (drop 1 g.regs) (no_arr d) j (let a = gf.valid.regs_len in omega arith)

  pub sum-arrow_reg_second : (j : ℕ) → arrow_reg d (arrow_sum d f g) (length Y.sings + j) ≡ arrow_reg d g j
  unfolding arrow_sum
  sum-arrow_reg_second j = get-joined f.regs g.regs (length Y.sings) (no_arr d) gf.valid.regs_len arrows_meet j

  pub sum-arrow_sing_first : (i : ℕ) → i < length X.sings → arrow_sing d (arrow_sum d f g) i ≡ arrow_sing d f i
  unfolding arrow_sum
  sum-arrow_sing_first i l = get_or_append_left f.sings g.sings (no_arr d) i (let a = gf.valid.sings_len in omega arith)

  pub sum-arrow_sing_second : (i : ℕ) → arrow_sing d (arrow_sum d f g) (length X.sings + i) ≡ arrow_sing d g i
  unfolding arrow_sum
  sum-arrow_sing_second i =
      ap (λ (n : ℕ). arrow_sing d (arrow_sum d f g) (n + i)) (sym gf.valid.sings_len)
      ∙ get_or-append-add f.sings g.sings i (no_arr d)

  -- ---- it is valid

  sum_monotone : IsMonotone (arrow_sum d f g).heights
  sum_monotone =
      concatenation_mono f.heights (length Y.sings) g.heights (arrow_sum d f g).heights side_by_side
      gf.valid.monotone gg.valid.monotone gf.valid.below

  sum_below : AreBelow (arrow_sum d f g).heights (length (diagram_sum d Y W).sings)
  sum_below =
      subst (AreBelow (arrow_sum d f g).heights) (sym (sum-length d Y W))
      (concatenation_below f.heights (length Y.sings) g.heights (arrow_sum d f g).heights side_by_side
      (length W.sings) gf.valid.below gg.valid.below)

  pub sum-dual_first : (j : ℕ) → j ≤ length Y.sings → dual (arrow_sum d f g).heights j ≡ dual f.heights j
  sum-dual_first =
      concatenation_dual_first f.heights (length Y.sings) g.heights (arrow_sum d f g).heights side_by_side
      gf.valid.monotone gg.valid.monotone gf.valid.below

  pub sum-dual_second : (j : ℕ) → dual (arrow_sum d f g).heights (length Y.sings + j) ≡ length X.sings + dual g.heights j
  sum-dual_second j =
      concatenation_dual_second f.heights (length Y.sings) g.heights (arrow_sum d f g).heights side_by_side
      gf.valid.monotone gg.valid.monotone gf.valid.below j
      ∙ ap (λ (n : ℕ). n + dual g.heights j) gf.valid.heights_len

  abbrev from : Dia (suc d)
  from = diagram_sum d X V

  abbrev to : Dia (suc d)
  to = diagram_sum d Y W

  heights_long : length (arrow_sum d f g).heights ≡ length from.sings
  heights_long =
      let a = side_by_side.long in
      let b = gf.valid.heights_len in
      let c = gg.valid.heights_len in
      let e = sum-length d X V in
      omega arith

  regs_long : length (arrow_sum d f g).regs ≡ suc (length to.sings)
  unfolding arrow_sum
  regs_long =
      let a = length-append f.regs (drop 1 g.regs) in
      let b = length-drop 1 g.regs in
      let c = gf.valid.regs_len in
      let e = gg.valid.regs_len in
      let n = sum-length d Y W in
      omega arith

  sings_long : length (arrow_sum d f g).sings ≡ length from.sings
  unfolding arrow_sum
  sings_long =
      let a = length-append f.sings g.sings in
      let b = gf.valid.sings_len in
      let c = gg.valid.sings_len in
      let n = sum-length d X V in
      omega arith

  dual_low : (j : ℕ) → dual f.heights j ≤ length X.sings
  dual_low j = dual_within d X Y f gf.valid j

  valid_reg : (j : ℕ) → j ≤ length Y.sings + length W.sings
      → ValidArrow d (reg d from (dual (arrow_sum d f g).heights j)) (reg d to j) (arrow_reg d (arrow_sum d f g) j)
  valid_reg = by_parts_to
      (λ j. ValidArrow d (reg d from (dual (arrow_sum d f g).heights j)) (reg d to j) (arrow_reg d (arrow_sum d f g) j))
      (length Y.sings) (length W.sings)
      (λ j l. rw (
        sum-dual_first j l,
        sum-reg_first d X V gf.source.valid gg.source.valid meet (dual f.heights j) (dual_low j),
        sum-reg_first d Y W gf.target.valid gg.target.valid targets_meet j l,
        sum-arrow_reg_first j l,
      ) (gf.valid.regs j l))
      (λ j l. rw (
        sum-dual_second j,
        sum-reg_second d X V gf.source.valid gg.source.valid meet (dual g.heights j),
        sum-reg_second d Y W gf.target.valid gg.target.valid targets_meet j,
        sum-arrow_reg_second j,
      ) (gg.valid.regs j l))

  valid_sing : (i : ℕ) → i < length X.sings + length V.sings
      → ValidArrow d (sing d from i) (sing d to (height d (arrow_sum d f g) i)) (arrow_sing d (arrow_sum d f g) i)
  valid_sing = by_parts
      (λ i. ValidArrow d (sing d from i) (sing d to (height d (arrow_sum d f g) i)) (arrow_sing d (arrow_sum d f g) i))
      (length X.sings) (length V.sings)
      (λ i l. rw (
        sum-height_first i l,
        sum-sing_first d X V gf.source.valid gg.source.valid meet i l,
        sum-sing_first d Y W gf.target.valid gg.target.valid targets_meet (height d f i) (good_within d X Y f gf i l),
        sum-arrow_sing_first i l,
      )
      (gf.valid.sings i l))
      (λ i l. rw (
        sum-height_second i l,
        sum-sing_second d X V gf.source.valid gg.source.valid meet i,
        sum-sing_second d Y W gf.target.valid gg.target.valid targets_meet (height d g i),
        sum-arrow_sing_second i,
      )
      (gg.valid.sings i l))

  square_first : (k : ℕ) → k < length Y.sings → IsSquarePart d from to (arrow_sum d f g) k 0 X Y f k
  square_first k l =
      let top : dual f.heights (suc k) ≤ length X.sings = dual_low (suc k) in
      let e : (t : ℕ) → 0 + t ≡ t = λ t. omega arith in
      record {
        low = sum-dual_first k (omega arith) ∙ sym (e (dual f.heights k));
        high = sum-dual_first (suc k) l ∙ sym (e (dual f.heights (suc k)));
        left_leg = sum-fwd_first d Y W gf.target.valid gg.target.valid targets_meet k l;
        right_leg = sum-bwd_first d Y W gf.target.valid gg.target.valid targets_meet k l;
        left = sum-arrow_reg_first k (omega arith);
        right = sum-arrow_reg_first (suc k) l;
        sings = λ t a b. ap (arrow_sing d (arrow_sum d f g)) (e t) ∙ sum-arrow_sing_first t (omega arith);
        fwds = λ t a b. ap (fwd d from) (e t) ∙ sum-fwd_first d X V gf.source.valid gg.source.valid meet t (omega arith);
        bwds = λ t a b. ap (bwd d from) (e t) ∙ sum-bwd_first d X V gf.source.valid gg.source.valid meet t (omega arith);
      }

  square_second : (k : ℕ) → k < length W.sings → IsSquarePart d from to (arrow_sum d f g) (length Y.sings + k) (length X.sings) V W g k
  square_second k l =
      let e : suc (length Y.sings + k) ≡ length Y.sings + suc k = omega arith in
      record {
        low = sum-dual_second k;
        high = ap (dual (arrow_sum d f g).heights) e ∙ sum-dual_second (suc k);
        left_leg = sum-fwd_second d Y W gf.target.valid gg.target.valid targets_meet k;
        right_leg = sum-bwd_second d Y W gf.target.valid gg.target.valid targets_meet k;
        left = sum-arrow_reg_second k;
        right = ap (arrow_reg d (arrow_sum d f g)) e ∙ sum-arrow_reg_second (suc k);
        sings = λ t a b. sum-arrow_sing_second t;
        fwds = λ t a b. sum-fwd_second d X V gf.source.valid gg.source.valid meet t;
        bwds = λ t a b. sum-bwd_second d X V gf.source.valid gg.source.valid meet t;
      }

  square : (k : ℕ) → k < length Y.sings + length W.sings → Commutes d from to (arrow_sum d f g) k
  square = by_parts (λ k. Commutes d from to (arrow_sum d f g) k) (length Y.sings) (length W.sings)
      (λ k l. square_up d from to (arrow_sum d f g) k 0 X Y f k (square_first k l) sum_monotone gf.valid.monotone (gf.valid.squares k l))
      (λ k l. square_up d from to (arrow_sum d f g) (length Y.sings + k) (length X.sings) V W g k (square_second k l)
      sum_monotone gg.valid.monotone (gg.valid.squares k l))

  -- ---- and plain

  plain_reg : (j : ℕ) → j ≤ length Y.sings + length W.sings → IsIdentity d (arrow_reg d (arrow_sum d f g) j)
  plain_reg = by_parts_to (λ j. IsIdentity d (arrow_reg d (arrow_sum d f g) j)) (length Y.sings) (length W.sings)
      (λ j l. rw (sum-arrow_reg_first j l) (gf.plain.regs j (let a = gf.valid.regs_len in omega arith)))
      (λ j l. rw (sum-arrow_reg_second j) (gg.plain.regs j (let a = gg.valid.regs_len in omega arith)))

  plain_sing : (i : ℕ) → i < length X.sings + length V.sings → PlainArrow d (arrow_sing d (arrow_sum d f g) i)
  plain_sing = by_parts (λ i. PlainArrow d (arrow_sing d (arrow_sum d f g) i)) (length X.sings) (length V.sings)
      (λ i l. rw (sum-arrow_sing_first i l) (gf.plain.sings i (let a = gf.valid.sings_len in omega arith)))
      (λ i l. rw (sum-arrow_sing_second i) (gg.plain.sings i (let a = gg.valid.sings_len in omega arith)))

  pub good_arrow_sum : GoodArrow (suc d) (diagram_sum d X V) (diagram_sum d Y W) (arrow_sum d f g)
  good_arrow_sum =
      let nf = sum-length d X V in
      let nt = sum-length d Y W in
      let rl = regs_long in
      let sl = sings_long in
      record {
        source = good_sum d X V gf.source gg.source meet;
        target = good_sum d Y W gf.target gg.target targets_meet;
        valid = record {
          heights_len = heights_long;
          regs_len = regs_long;
          sings_len = sings_long;
          monotone = sum_monotone;
          below = sum_below;
          regs = λ j l. valid_reg j (omega arith);
          sings = λ i l. valid_sing i (omega arith);
          squares = λ k l. square k (omega arith);
        };
        plain = record {
          regs = λ j l. plain_reg j (omega arith);
          sings = λ i l. plain_sing i (omega arith);
        };
      }
