-- The image of a diagram, and of a plain arrow, under what carries slices and legs to such.
use Rattle.std.proofs.Common.{◌≡◌, ℕ, suc, ◌<◌, ◌≤◌, length, refl, subst, sym, ◌∙◌, arith}
use Rattle.std.proofs.lemmas.List.{get_or-map, length-map}
use Rattle.diagram_terms.specs.Family.{Dia, Arr, no_dia, no_arr, reg, sing, fwd, bwd, height, arrow_reg, arrow_sing}
use Rattle.diagram_terms.specs.Dual.{dual}
use Rattle.diagram_terms.specs.Composite.{comp, ident}
use Rattle.diagram_terms.specs.Valid.{ValidArrow}
use Rattle.diagram_terms.specs.Cone.{source, Parallel}
use Rattle.diagram_terms.proofs.Duals.{length-tab, get-tab, in_fibre}
use Rattle.map_laws.specs.Edges.{HasEdges}
use Rattle.map_laws.proofs.ValidParts.{dual_within}
use Rattle.plain_laws.proofs.Parallels.{slices_are_parallel}
use Rattle.diagram_terms.specs.Good.{GoodDiagram, GoodArrow}
use Rattle.diagram_terms.specs.Occurrences.{image, arrow_image}
use Rattle.occurrence_laws.proofs.GoodParts.{good_identity, good_neutral_before, good_reg, good_sing, good_fwd, good_bwd, good_arrow_sing, good_within, good_unfolds, good_ends}

-- σ and π carry diagrams parallel to s, and the plain arrows between them, to diagrams and plain arrows, with identities
-- and composites
pub record IsFunctor (d : ℕ) (s : Dia d) (σ : Dia d → Dia d) (π : Dia d → Dia d → Arr d → Arr d) : Type 0 where
  pub diagrams : (X : Dia d) → GoodDiagram d X → Parallel d X s → GoodDiagram d (σ X)
  pub arrows : (X Y : Dia d) (f : Arr d) → GoodArrow d X Y f → Parallel d X s → GoodArrow d (σ X) (σ Y) (π X Y f)
  pub identities : (X : Dia d) → GoodDiagram d X → Parallel d X s → π X X (ident d X) ≡ ident d (σ X)
  pub composites : (X Y Z : Dia d) (f g : Arr d) → GoodArrow d X Y f → GoodArrow d Y Z g → Parallel d X s
      → π X Z (comp d g f) ≡ comp d (π Y Z g) (π X Y f)

module _ (d : ℕ) (s : Dia d) (σ : Dia d → Dia d) (π : Dia d → Dia d → Arr d → Arr d) (F : IsFunctor d s σ π) where
  abbrev im : Dia (suc d) → Dia (suc d)
  im T = image d σ π T

  abbrev arrow_im : Dia (suc d) → Dia (suc d) → Arr (suc d) → Arr (suc d)
  arrow_im T M f = arrow_image d σ π T M f

  -- ---- the parts of the image of a diagram

  pub image-length : (T : Dia (suc d)) → length (im T).sings ≡ length T.sings
  unfolding image
  image-length T = length-map T.sings σ

  module _ (T : Dia (suc d)) (g : GoodDiagram (suc d) T) where
    pub image-reg : (j : ℕ) → j ≤ length T.sings → reg d (im T) j ≡ σ (reg d T j)
    unfolding image
    image-reg j l = get_or-map σ T.regs j (no_dia d) (no_dia d) (let a = g.valid.regs_len in omega arith)

    pub image-sing : (i : ℕ) → i < length T.sings → sing d (im T) i ≡ σ (sing d T i)
    unfolding image
    image-sing i l = get_or-map σ T.sings i (no_dia d) (no_dia d) l

    pub image-fwd : (k : ℕ) → k < length T.sings → fwd d (im T) k ≡ π (reg d T k) (sing d T k) (fwd d T k)
    unfolding image
    image-fwd k l = get-tab (λ k. π (reg d T k) (sing d T k) (fwd d T k)) (length T.sings) k (no_arr d) l

    pub image-bwd : (k : ℕ) → k < length T.sings → bwd d (im T) k ≡ π (reg d T (suc k)) (sing d T k) (bwd d T k)
    unfolding image
    image-bwd k l = get-tab (λ k. π (reg d T (suc k)) (sing d T k) (bwd d T k)) (length T.sings) k (no_arr d) l

    regs_long : length (im T).regs ≡ length T.regs
    unfolding image
    regs_long = length-map T.regs σ

    fwds_long : length (im T).fwds ≡ length T.sings
    unfolding image
    fwds_long = length-tab _ (length T.sings)

    bwds_long : length (im T).bwds ≡ length T.sings
    unfolding image
    bwds_long = length-tab _ (length T.sings)

    -- where T begins with s, its slices are parallel to s
    module _ (from : source d T ≡ s) where
      pub reg_parallel : (j : ℕ) → j ≤ length T.sings → Parallel d (reg d T j) s
      reg_parallel j l = subst (Parallel d (reg d T j)) from ((slices_are_parallel d T g.valid g.plain).regs j l)

      pub sing_parallel : (i : ℕ) → i < length T.sings → Parallel d (sing d T i) s
      sing_parallel i l = subst (Parallel d (sing d T i)) from ((slices_are_parallel d T g.valid g.plain).sings i l)

      pub carried_reg : (j : ℕ) → j ≤ length T.sings → GoodDiagram d (σ (reg d T j))
      carried_reg j l = F.diagrams (reg d T j) (good_reg d T g j l) (reg_parallel j l)

      pub carried_sing : (i : ℕ) → i < length T.sings → GoodDiagram d (σ (sing d T i))
      carried_sing i l = F.diagrams (sing d T i) (good_sing d T g i l) (sing_parallel i l)

      pub carried_fwd : (k : ℕ) → k < length T.sings → GoodArrow d (σ (reg d T k)) (σ (sing d T k)) (π (reg d T k) (sing d T k) (fwd d T k))
      carried_fwd k l = F.arrows (reg d T k) (sing d T k) (fwd d T k) (good_fwd d T g k l) (reg_parallel k (omega arith))

      pub carried_bwd : (k : ℕ) → k < length T.sings
          → GoodArrow d (σ (reg d T (suc k))) (σ (sing d T k)) (π (reg d T (suc k)) (sing d T k) (bwd d T k))
      carried_bwd k l = F.arrows (reg d T (suc k)) (sing d T k) (bwd d T k) (good_bwd d T g k l) (reg_parallel (suc k) l)

      pub good_image : GoodDiagram (suc d) (im T)
      good_image =
          let n = image-length T in
          let rl = regs_long in
          let fl = fwds_long in
          let bl = bwds_long in
          let r = g.valid.regs_len in
          record {
            valid = record {
              regs_len = omega arith;
              fwds_len = omega arith;
              bwds_len = omega arith;
              regs = λ j l. rw (image-reg j (omega arith)) (carried_reg j (omega arith)).valid;
              sings = λ i l. rw (image-sing i (omega arith)) (carried_sing i (omega arith)).valid;
              fwds = λ k l. rw (image-reg k (omega arith), image-sing k (omega arith), image-fwd k (omega arith)) (carried_fwd k (omega arith)).valid;
              bwds = λ k l. rw (image-reg (suc k) (omega arith), image-sing k (omega arith), image-bwd k (omega arith)) (carried_bwd k (omega arith)).valid;
            };
            plain = record {
              regs = λ j l. rw (image-reg j (omega arith)) (carried_reg j (omega arith)).plain;
              sings = λ i l. rw (image-sing i (omega arith)) (carried_sing i (omega arith)).plain;
              fwds = λ k l. rw (image-fwd k (omega arith)) (carried_fwd k (omega arith)).plain;
              bwds = λ k l. rw (image-bwd k (omega arith)) (carried_bwd k (omega arith)).plain;
            };
          }

  -- ---- the parts of the image of an arrow

  module _ (T M : Dia (suc d)) (f : Arr (suc d)) (g : GoodArrow (suc d) T M f) where
    pub image-heights : (arrow_im T M f).heights ≡ f.heights
    unfolding arrow_image
    image-heights = refl

    pub image-arrow_reg : (j : ℕ) → j ≤ length M.sings → arrow_reg d (arrow_im T M f) j ≡ ident d (σ (reg d M j))
    unfolding arrow_image
    image-arrow_reg j l =
        get_or-map (λ y. ident d (σ y)) M.regs j (no_dia d) (no_arr d) (let a = g.target.valid.regs_len in omega arith)

    pub image-arrow_sing : (i : ℕ) → i < length T.sings
        → arrow_sing d (arrow_im T M f) i ≡ π (sing d T i) (sing d M (height d f i)) (arrow_sing d f i)
    unfolding arrow_image
    image-arrow_sing i l = get-tab (λ i. π (sing d T i) (sing d M (height d f i)) (arrow_sing d f i)) (length T.sings) i (no_arr d) l

    pub image-regs_long : length (arrow_im T M f).regs ≡ length M.regs
    unfolding arrow_image
    image-regs_long = length-map M.regs (λ y. ident d (σ y))

    pub image-sings_long : length (arrow_im T M f).sings ≡ length T.sings
    unfolding arrow_image
    image-sings_long = length-tab _ (length T.sings)

    module _ (from : source d T ≡ s) where
      pub other_source : source d M ≡ s
      other_source = sym (good_ends (suc d) T M f g).sources ∙ from

      pub carried_arrow : (i : ℕ) → i < length T.sings
          → GoodArrow d (σ (sing d T i)) (σ (sing d M (height d f i))) (π (sing d T i) (sing d M (height d f i)) (arrow_sing d f i))
      carried_arrow i l =
          F.arrows (sing d T i) (sing d M (height d f i)) (arrow_sing d f i) (good_arrow_sing d T M f g i l) (sing_parallel T g.source from i l)

      pub image_reg : (j : ℕ) → j ≤ length M.sings → ValidArrow d (reg d (im T) (dual f.heights j)) (reg d (im M) j) (arrow_reg d (arrow_im T M f) j)
      image_reg j l =
          let here = good_identity d (σ (reg d M j)) (carried_reg M g.target other_source j l) in
          rw (
            image-reg T g.source (dual f.heights j) (dual_within d T M f g.valid j),
            image-reg M g.target j l,
            image-arrow_reg j l,
            (good_unfolds d T M f g j l).0,
          ) here.valid

      pub image_sing : (i : ℕ) → i < length T.sings
          → ValidArrow d (sing d (im T) i) (sing d (im M) (height d f i)) (arrow_sing d (arrow_im T M f) i)
      image_sing i l =
          rw (image-sing T g.source i l, image-sing M g.target (height d f i) (good_within d T M f g i l), image-arrow_sing i l)
          (carried_arrow i l).valid

      -- the edges are the images of the edges
      module _ (k : ℕ) (l : k < length M.sings) (e : HasEdges d T M f k) where
        abbrev edge : ℕ → Arr d
        edge t = π (reg d T t) (sing d M k) (e.edge t)

        first_edge : edge (dual f.heights k) ≡ comp d (fwd d (im M) k) (arrow_reg d (arrow_im T M f) k)
        first_edge =
            let u = good_unfolds d T M f g k (omega arith) in
            let e0 : reg d T (dual f.heights k) ≡ reg d M k = u.0 in
            let e1 : arrow_reg d f k ≡ ident d (reg d M k) = u.1 in
            let e2 = e.first in
            let e3 = good_neutral_before d _ _ (fwd d M k) (good_fwd d M g.target k l) in
            let e4 = image-fwd M g.target k l in
            let e5 = image-arrow_reg k (omega arith) in
            let e6 = good_neutral_before d _ _ _ (carried_fwd M g.target other_source k l) in
            cc

        last_edge : edge (dual f.heights (suc k)) ≡ comp d (bwd d (im M) k) (arrow_reg d (arrow_im T M f) (suc k))
        last_edge =
            let u = good_unfolds d T M f g (suc k) l in
            let e0 : reg d T (dual f.heights (suc k)) ≡ reg d M (suc k) = u.0 in
            let e1 : arrow_reg d f (suc k) ≡ ident d (reg d M (suc k)) = u.1 in
            let e2 = e.last in
            let e3 = good_neutral_before d _ _ (bwd d M k) (good_bwd d M g.target k l) in
            let e4 = image-bwd M g.target k l in
            let e5 = image-arrow_reg (suc k) l in
            let e6 = good_neutral_before d _ _ _ (carried_bwd M g.target other_source k l) in
            cc

        inside : (t : ℕ) → t < dual f.heights (suc k) → t < length T.sings
        inside t h = let a = dual_within d T M f g.valid (suc k) in omega arith

        enter_edge : (t : ℕ) → dual f.heights k ≤ t → t < dual f.heights (suc k)
            → edge t ≡ comp d (arrow_sing d (arrow_im T M f) t) (fwd d (im T) t)
        enter_edge t a b =
            let i : t < length T.sings = inside t b in
            let e0 : height d f t ≡ k = in_fibre f.heights g.valid.monotone t k a b in
            let e1 = e.along_fwd t a b in
            let e2 = image-fwd T g.source t i in
            let e3 = image-arrow_sing t i in
            let e4 = F.composites _ _ _ (fwd d T t) (arrow_sing d f t) (good_fwd d T g.source t i) (good_arrow_sing d T M f g t i)
            (reg_parallel T g.source from t (omega arith)) in
            cc

        leave_edge : (t : ℕ) → dual f.heights k ≤ t → t < dual f.heights (suc k)
            → edge (suc t) ≡ comp d (arrow_sing d (arrow_im T M f) t) (bwd d (im T) t)
        leave_edge t a b =
            let i : t < length T.sings = inside t b in
            let e0 : height d f t ≡ k = in_fibre f.heights g.valid.monotone t k a b in
            let e1 = e.along_bwd t a b in
            let e2 = image-bwd T g.source t i in
            let e3 = image-arrow_sing t i in
            let e4 = F.composites _ _ _ (bwd d T t) (arrow_sing d f t) (good_bwd d T g.source t i) (good_arrow_sing d T M f g t i)
            (reg_parallel T g.source from (suc t) i) in
            cc

        pub image_edges : HasEdges d (im T) (im M) (arrow_im T M f) k
        image_edges = rw image-heights (record {
          edge = edge;
          first = first_edge;
          last = last_edge;
          along_fwd = enter_edge;
          along_bwd = leave_edge;
        })
