-- The parts of a sum of diagrams, which is valid and plain if the diagrams are.
use Rattle.std.proofs.Common.{◌≡◌, ℕ, suc, ◌+◌, ◌<◌, ◌≤◌, length, drop, sym, ap, ◌∙◌, arith, get_or-append-add}
use Rattle.std.proofs.lemmas.List.{get_or_append_left, length-append, length-drop}
use Rattle.diagram_terms.specs.Family.{Dia, no_dia, no_arr, reg, sing, fwd, bwd}
use Rattle.diagram_terms.specs.Plain.{PlainArrow, Plain}
use Rattle.diagram_terms.specs.Valid.{ValidArrow, Valid}
use Rattle.diagram_terms.specs.Cone.{source, target}
use Rattle.diagram_terms.specs.Good.{GoodDiagram}
use Rattle.diagram_terms.specs.Segments.{diagram_sum}
use Rattle.occurrence_laws.proofs.ListParts.{by_parts, by_parts_to, get-joined}
use Rattle.occurrence_laws.proofs.GoodParts.{good_reg, good_sing, good_fwd, good_bwd}

pub sum-length : (d : ℕ) (X Y : Dia (suc d)) → length (diagram_sum d X Y).sings ≡ length X.sings + length Y.sings
unfolding diagram_sum
sum-length d X Y = length-append X.sings Y.sings

module _ (d : ℕ) (X Y : Dia (suc d)) (vX : Valid (suc d) X) (vY : Valid (suc d) Y) (meet : target d X ≡ source d Y) where
  pub sum-reg_first : (j : ℕ) → j ≤ length X.sings → reg d (diagram_sum d X Y) j ≡ reg d X j
  unfolding diagram_sum
  sum-reg_first j l = get_or_append_left X.regs (drop 1 Y.regs) (no_dia d) j (let a = vX.regs_len in omega arith)

  pub sum-reg_second : (j : ℕ) → reg d (diagram_sum d X Y) (length X.sings + j) ≡ reg d Y j
  unfolding diagram_sum
  sum-reg_second j = get-joined X.regs Y.regs (length X.sings) (no_dia d) vX.regs_len meet j

  pub sum-reg_next : (j : ℕ) → reg d (diagram_sum d X Y) (suc (length X.sings + j)) ≡ reg d Y (suc j)
  sum-reg_next j =
      let e : suc (length X.sings + j) ≡ length X.sings + suc j = omega arith in
      ap (reg d (diagram_sum d X Y)) e ∙ sum-reg_second (suc j)

  pub sum-sing_first : (i : ℕ) → i < length X.sings → sing d (diagram_sum d X Y) i ≡ sing d X i
  unfolding diagram_sum
  sum-sing_first i l = get_or_append_left X.sings Y.sings (no_dia d) i l

  pub sum-sing_second : (i : ℕ) → sing d (diagram_sum d X Y) (length X.sings + i) ≡ sing d Y i
  unfolding diagram_sum
  sum-sing_second i = get_or-append-add X.sings Y.sings i (no_dia d)

  pub sum-fwd_first : (k : ℕ) → k < length X.sings → fwd d (diagram_sum d X Y) k ≡ fwd d X k
  unfolding diagram_sum
  sum-fwd_first k l = get_or_append_left X.fwds Y.fwds (no_arr d) k (let a = vX.fwds_len in omega arith)

  pub sum-fwd_second : (k : ℕ) → fwd d (diagram_sum d X Y) (length X.sings + k) ≡ fwd d Y k
  unfolding diagram_sum
  sum-fwd_second k =
      ap (λ (n : ℕ). fwd d (diagram_sum d X Y) (n + k)) (sym vX.fwds_len) ∙ get_or-append-add X.fwds Y.fwds k (no_arr d)

  pub sum-bwd_first : (k : ℕ) → k < length X.sings → bwd d (diagram_sum d X Y) k ≡ bwd d X k
  unfolding diagram_sum
  sum-bwd_first k l = get_or_append_left X.bwds Y.bwds (no_arr d) k (let a = vX.bwds_len in omega arith)

  pub sum-bwd_second : (k : ℕ) → bwd d (diagram_sum d X Y) (length X.sings + k) ≡ bwd d Y k
  unfolding diagram_sum
  sum-bwd_second k =
      ap (λ (n : ℕ). bwd d (diagram_sum d X Y) (n + k)) (sym vX.bwds_len) ∙ get_or-append-add X.bwds Y.bwds k (no_arr d)

  -- the ends
  pub sum-source : source d (diagram_sum d X Y) ≡ source d X
  sum-source = sum-reg_first 0 (omega arith)

  pub sum-target : target d (diagram_sum d X Y) ≡ target d Y
  sum-target = ap (reg d (diagram_sum d X Y)) (sum-length d X Y) ∙ sum-reg_second (length Y.sings)

  -- ---- its slices and legs are those of X and of Y

  regs_long : length (diagram_sum d X Y).regs ≡ suc (length X.sings + length Y.sings)
  unfolding diagram_sum
  regs_long =
      let x = vX.regs_len in
      let y = vY.regs_len in
      let a = length-append X.regs (drop 1 Y.regs) in
      let b = length-drop 1 Y.regs in
      omega arith

  fwds_long : length (diagram_sum d X Y).fwds ≡ length X.sings + length Y.sings
  unfolding diagram_sum
  fwds_long = let x = vX.fwds_len in let y = vY.fwds_len in let a = length-append X.fwds Y.fwds in omega arith

  bwds_long : length (diagram_sum d X Y).bwds ≡ length X.sings + length Y.sings
  unfolding diagram_sum
  bwds_long = let x = vX.bwds_len in let y = vY.bwds_len in let a = length-append X.bwds Y.bwds in omega arith

  valid_reg : (j : ℕ) → j ≤ length X.sings + length Y.sings → Valid d (reg d (diagram_sum d X Y) j)
  valid_reg = by_parts_to (λ j. Valid d (reg d (diagram_sum d X Y) j)) (length X.sings) (length Y.sings)
      (λ j l. rw (sum-reg_first j l) (vX.regs j l)) (λ j l. rw (sum-reg_second j) (vY.regs j l))

  valid_sing : (i : ℕ) → i < length X.sings + length Y.sings → Valid d (sing d (diagram_sum d X Y) i)
  valid_sing = by_parts (λ i. Valid d (sing d (diagram_sum d X Y) i)) (length X.sings) (length Y.sings)
      (λ i l. rw (sum-sing_first i l) (vX.sings i l)) (λ i l. rw (sum-sing_second i) (vY.sings i l))

  valid_fwd : (k : ℕ) → k < length X.sings + length Y.sings
      → ValidArrow d (reg d (diagram_sum d X Y) k) (sing d (diagram_sum d X Y) k) (fwd d (diagram_sum d X Y) k)
  valid_fwd = by_parts
      (λ k. ValidArrow d (reg d (diagram_sum d X Y) k) (sing d (diagram_sum d X Y) k) (fwd d (diagram_sum d X Y) k))
      (length X.sings) (length Y.sings)
      (λ k l. rw (sum-reg_first k (omega arith), sum-sing_first k l, sum-fwd_first k l) (vX.fwds k l))
      (λ k l. rw (sum-reg_second k, sum-sing_second k, sum-fwd_second k) (vY.fwds k l))

  valid_bwd : (k : ℕ) → k < length X.sings + length Y.sings
      → ValidArrow d (reg d (diagram_sum d X Y) (suc k)) (sing d (diagram_sum d X Y) k) (bwd d (diagram_sum d X Y) k)
  valid_bwd = by_parts
      (λ k. ValidArrow d (reg d (diagram_sum d X Y) (suc k)) (sing d (diagram_sum d X Y) k) (bwd d (diagram_sum d X Y) k))
      (length X.sings) (length Y.sings)
      (λ k l. rw (sum-reg_first (suc k) l, sum-sing_first k l, sum-bwd_first k l) (vX.bwds k l))
      (λ k l. rw (sum-reg_next k, sum-sing_second k, sum-bwd_second k) (vY.bwds k l))

  pub valid_sum : Valid (suc d) (diagram_sum d X Y)
  valid_sum =
      let n = sum-length d X Y in
      let r = regs_long in
      let f = fwds_long in
      let b = bwds_long in
      record {
        regs_len = omega arith;
        fwds_len = omega arith;
        bwds_len = omega arith;
        regs = λ j l. valid_reg j (omega arith);
        sings = λ i l. valid_sing i (omega arith);
        fwds = λ k l. valid_fwd k (omega arith);
        bwds = λ k l. valid_bwd k (omega arith);
      }

module _ (d : ℕ) (X Y : Dia (suc d)) (gX : GoodDiagram (suc d) X) (gY : GoodDiagram (suc d) Y) (meet : target d X ≡ source d Y) where
  abbrev vX : Valid (suc d) X
  vX = gX.valid

  abbrev vY : Valid (suc d) Y
  vY = gY.valid

  plain_reg : (j : ℕ) → j ≤ length X.sings + length Y.sings → Plain d (reg d (diagram_sum d X Y) j)
  plain_reg = by_parts_to (λ j. Plain d (reg d (diagram_sum d X Y) j)) (length X.sings) (length Y.sings)
      (λ j l. rw (sum-reg_first d X Y vX vY meet j l) (good_reg d X gX j l).plain)
      (λ j l. rw (sum-reg_second d X Y vX vY meet j) (good_reg d Y gY j l).plain)

  plain_sing : (i : ℕ) → i < length X.sings + length Y.sings → Plain d (sing d (diagram_sum d X Y) i)
  plain_sing = by_parts (λ i. Plain d (sing d (diagram_sum d X Y) i)) (length X.sings) (length Y.sings)
      (λ i l. rw (sum-sing_first d X Y vX vY meet i l) (good_sing d X gX i l).plain)
      (λ i l. rw (sum-sing_second d X Y vX vY meet i) (good_sing d Y gY i l).plain)

  plain_fwd : (k : ℕ) → k < length X.sings + length Y.sings → PlainArrow d (fwd d (diagram_sum d X Y) k)
  plain_fwd = by_parts (λ k. PlainArrow d (fwd d (diagram_sum d X Y) k)) (length X.sings) (length Y.sings)
      (λ k l. rw (sum-fwd_first d X Y vX vY meet k l) (good_fwd d X gX k l).plain)
      (λ k l. rw (sum-fwd_second d X Y vX vY meet k) (good_fwd d Y gY k l).plain)

  plain_bwd : (k : ℕ) → k < length X.sings + length Y.sings → PlainArrow d (bwd d (diagram_sum d X Y) k)
  plain_bwd = by_parts (λ k. PlainArrow d (bwd d (diagram_sum d X Y) k)) (length X.sings) (length Y.sings)
      (λ k l. rw (sum-bwd_first d X Y vX vY meet k l) (good_bwd d X gX k l).plain)
      (λ k l. rw (sum-bwd_second d X Y vX vY meet k) (good_bwd d Y gY k l).plain)

  pub good_sum : GoodDiagram (suc d) (diagram_sum d X Y)
  good_sum =
      let v = valid_sum d X Y vX vY meet in
      let n = sum-length d X Y in
      let r = v.regs_len in
      let f = v.fwds_len in
      let b = v.bwds_len in
      record {
        valid = v;
        plain = record {
          regs = λ j l. plain_reg j (omega arith);
          sings = λ i l. plain_sing i (omega arith);
          fwds = λ k l. plain_fwd k (omega arith);
          bwds = λ k l. plain_bwd k (omega arith);
        };
      }
