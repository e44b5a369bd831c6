-- Arrows to diagrams of length 1, and cospans of valid plain arrows.
use Rattle.std.proofs.Common.{◌≡◌, ℕ, zero, suc, ◌+◌, ◌<◌, List, [], ◌∷◌, length, get_or, map, refl, sym, ap, ◌∙◌, arith}
use Rattle.std.proofs.lemmas.List.{length-map}
use Rattle.diagram_terms.specs.Family.{Dia, Arr, no_arr, reg, sing, fwd, bwd, height, arrow_reg, arrow_sing}
use Rattle.diagram_terms.specs.Dual.{IsMonotone, AreBelow, dual}
use Rattle.diagram_terms.specs.Composite.{comp, ident}
use Rattle.diagram_terms.specs.Identity.{IsIdentity}
use Rattle.diagram_terms.specs.Valid.{ValidArrow, Commutes}
use Rattle.diagram_terms.specs.Cone.{source, target, cospan}
use Rattle.diagram_terms.proofs.Duals.{dual-zero, dual_full}
use Rattle.map_laws.specs.Edges.{HasEdges}
use Rattle.map_laws.proofs.IdentityShapes.{identities_have_shape}
use Rattle.map_laws.proofs.SquareEdges.{squares_have_edges}
use Rattle.plain_laws.proofs.Cospans.{below_one, below_two, valid_cospan, plain_cospan}
use Rattle.diagram_terms.specs.Good.{GoodDiagram, GoodArrow}
use Rattle.diagram_terms.specs.Segments.{segment}
use Rattle.diagram_terms.specs.Merging.{to_one_height}
use Rattle.occurrence_laws.proofs.GoodParts.{good_identity, good_neutral_before, good_fwd, good_bwd}
use Rattle.occurrence_laws.proofs.DiagramParts.{part_is_segment}

-- a cospan of valid plain arrows
pub good_cospan : (d : ℕ) (S : Dia d) (f : Arr d) (M : Dia d) (g : Arr d) (T : Dia d) → GoodArrow d S M f → GoodArrow d T M g
    → GoodDiagram (suc d) (cospan d S f M g T)
good_cospan d S f M g T gf gg = record {
  valid = valid_cospan d S f M g T gf.source.valid gf.target.valid gg.source.valid gf.valid gg.valid;
  plain = plain_cospan d S f M g T gf.source.plain gf.target.plain gg.source.plain gf.plain gg.plain;
}

-- a height of a diagram is a cospan
pub height_is_cospan : (d : ℕ) (D : Dia (suc d)) (k : ℕ) → GoodDiagram (suc d) D → k < length D.sings
    → segment d D k (suc k) ≡ cospan d (reg d D k) (fwd d D k) (sing d D k) (bwd d D k) (reg d D (suc k))
height_is_cospan d D k g l =
    let C : Dia (suc d) = cospan d (reg d D k) (fwd d D k) (sing d D k) (bwd d D k) (reg d D (suc k)) in
    let e : k + 0 ≡ k = omega arith in
    let e' : k + 1 ≡ suc k = omega arith in
    part_is_segment d D k (suc k) C g
    (good_cospan d _ _ _ _ _ (good_fwd d D g k l) (good_bwd d D g k l)) e' (record {
      fits = omega arith;
      regs = λ j h. below_two (λ j. reg d D (k + j) ≡ reg d C j) (ap (reg d D) e) (ap (reg d D) e') j (omega arith);
      sings = below_one (λ i. sing d D (k + i) ≡ sing d C i) (ap (sing d D) e);
      fwds = below_one (λ i. fwd d D (k + i) ≡ fwd d C i) (ap (fwd d D) e);
      bwds = below_one (λ i. bwd d D (k + i) ≡ bwd d C i) (ap (bwd d D) e);
    })

-- The slices go from the singular slices of Q to M, and there are edges: those beside a height of Q go along it, the first
-- is f and the last is g.
pub record IsCocone (d : ℕ) (Q : Dia (suc d)) (f : Arr d) (M : Dia d) (g : Arr d) (slices : List (Arr d)) : Type 0 where
  pub long : length slices ≡ length Q.sings
  pub good : (i : ℕ) → i < length Q.sings → GoodArrow d (sing d Q i) M (get_or slices i (no_arr d))
  pub edge : ℕ → Arr d
  pub first : edge 0 ≡ f
  pub last : edge (length Q.sings) ≡ g
  pub along_fwd : (t : ℕ) → t < length Q.sings → edge t ≡ comp d (get_or slices t (no_arr d)) (fwd d Q t)
  pub along_bwd : (t : ℕ) → t < length Q.sings → edge (suc t) ≡ comp d (get_or slices t (no_arr d)) (bwd d Q t)

get-zeros : {A : Type 0} (xs : List A) (i : ℕ) → get_or {A = ℕ} (map (λ _. 0) xs) i 0 ≡ 0
get-zeros [] i = refl
get-zeros (x ∷ xs) zero = refl
get-zeros (x ∷ xs) (suc i) = get-zeros xs i

module _ (d : ℕ) (Q : Dia (suc d)) (f : Arr d) (M : Dia d) (g : Arr d) (slices : List (Arr d)) (gQ : GoodDiagram (suc d) Q)
    (gf : GoodArrow d (source d Q) M f) (gg : GoodArrow d (target d Q) M g) (cocone : IsCocone d Q f M g slices) where
  abbrev to : Dia (suc d)
  to = cospan d (source d Q) f M g (target d Q)

  abbrev arrow : Arr (suc d)
  arrow = to_one_height d Q slices

  -- ---- its parts

  heights_long : length arrow.heights ≡ length Q.sings
  unfolding to_one_height
  heights_long = length-map Q.sings (λ _. 0)

  regs_long : length arrow.regs ≡ 2
  unfolding to_one_height
  regs_long = refl

  sings_are : arrow.sings ≡ slices
  unfolding to_one_height
  sings_are = refl

  height_is : (i : ℕ) → height d arrow i ≡ 0
  unfolding to_one_height
  height_is i = get-zeros Q.sings i

  first_is : arrow_reg d arrow 0 ≡ ident d (source d Q)
  unfolding to_one_height
  first_is = refl

  last_is : arrow_reg d arrow 1 ≡ ident d (target d Q)
  unfolding to_one_height
  last_is = refl

  sing_is : (i : ℕ) → arrow_sing d arrow i ≡ get_or slices i (no_arr d)
  sing_is i = ap (λ (s : List (Arr d)). get_or s i (no_arr d)) sings_are

  is_monotone : IsMonotone arrow.heights
  is_monotone = record { rises = λ i j l k. rw (height_is i) (omega arith) }

  is_below : AreBelow arrow.heights 1
  is_below = record { below = λ i l. rw (height_is i) (omega arith) }

  dual_first : dual arrow.heights 0 ≡ 0
  dual_first = dual-zero arrow.heights is_monotone

  dual_last : dual arrow.heights 1 ≡ length Q.sings
  dual_last = dual_full arrow.heights is_monotone 1 1 is_below (omega arith) ∙ heights_long

  -- ---- it is valid and plain

  valid_reg : (j : ℕ) → j < 2 → ValidArrow d (reg d Q (dual arrow.heights j)) (reg d to j) (arrow_reg d arrow j)
  valid_reg = below_two (λ j. ValidArrow d (reg d Q (dual arrow.heights j)) (reg d to j) (arrow_reg d arrow j))
      (rw (dual_first, first_is) (good_identity d (source d Q) gf.source).valid)
      (rw (dual_last, last_is) (good_identity d (target d Q) gg.source).valid)

  edges : HasEdges d Q to arrow 0
  edges =
      let low = dual_first in
      let high = dual_last in
      record {
        edge = cocone.edge;
        first = rw (dual_first, first_is) (cocone.first ∙ sym (good_neutral_before d _ _ f gf));
        last = rw (dual_last, last_is) (cocone.last ∙ sym (good_neutral_before d _ _ g gg));
        along_fwd = λ t a b. rw (sing_is t) (cocone.along_fwd t (omega arith));
        along_bwd = λ t a b. rw (sing_is t) (cocone.along_bwd t (omega arith));
      }

  square : (k : ℕ) → k < 1 → Commutes d Q to arrow k
  square = below_one (λ k. Commutes d Q to arrow k)
      (let low = dual_first in (squares_have_edges d Q to arrow 0 (omega arith)).1 edges)

  pub good_to_one_height : GoodArrow (suc d) Q (cospan d (source d Q) f M g (target d Q)) (to_one_height d Q slices)
  good_to_one_height =
      let rl = regs_long in
      let cl = cocone.long in
      record {
        source = gQ;
        target = good_cospan d _ _ _ _ _ gf gg;
        valid = record {
          heights_len = heights_long;
          regs_len = regs_long;
          sings_len = ap length sings_are ∙ cocone.long;
          monotone = is_monotone;
          below = is_below;
          regs = λ j l. valid_reg j (omega arith);
          sings = λ i l. rw (height_is i, sing_is i) (cocone.good i l).valid;
          squares = λ k l. square k l;
        };
        plain = record {
          regs = λ j l. below_two (λ j. IsIdentity d (arrow_reg d arrow j))
              (rw first_is (identities_have_shape d _ gf.source.valid)) (rw last_is (identities_have_shape d _ gg.source.valid)) j (omega arith);
          sings = λ i l. rw (sing_is i) (cocone.good i (let e = ap length sings_are in omega arith)).plain;
        };
      }
