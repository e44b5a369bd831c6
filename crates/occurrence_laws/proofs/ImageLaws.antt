-- The image of a valid plain arrow is valid and plain, and images keep identities and composites.
use Rattle.std.proofs.Common.{◌≡◌, ℕ, suc, ◌<◌, ◌≤◌, List, get_or, length, subst, sym, ap, ◌∙◌, arith}
use Rattle.diagram_terms.specs.Family.{Dia, Arr, sing, height, arrow_sing}
use Rattle.diagram_terms.specs.Dual.{IsMonotone, dual}
use Rattle.diagram_terms.specs.Composite.{comp, ident}
use Rattle.diagram_terms.specs.Valid.{Commutes}
use Rattle.diagram_terms.specs.Cone.{source}
use Rattle.diagram_terms.proofs.Duals.{dual_mono}
use Rattle.diagram_terms.proofs.Parts.{comp-height, comp-sing, ident-height, ident-sing}
use Rattle.map_laws.proofs.IdentityShapes.{identities_have_shape}
use Rattle.map_laws.proofs.SquareEdges.{squares_have_edges}
use Rattle.diagram_terms.specs.Good.{GoodDiagram, GoodArrow}
use Rattle.diagram_terms.specs.Occurrences.{image, arrow_image}
use Rattle.occurrence_laws.proofs.GoodParts.{good_identity, good_composite, good_sing, good_arrow_sing, good_within, same_good_arrows}
use Rattle.occurrence_laws.proofs.Images.{IsFunctor, image-length, image-sing, image-heights, image-arrow_reg, image-arrow_sing, image-regs_long, image-sings_long, carried_reg, sing_parallel, other_source, carried_arrow, good_image, image_reg, image_sing, image_edges}

module _ (d : ℕ) (s : Dia d) (σ : Dia d → Dia d) (π : Dia d → Dia d → Arr d → Arr d) (F : IsFunctor d s σ π) where
  module _ (T M : Dia (suc d)) (f : Arr (suc d)) (g : GoodArrow (suc d) T M f) (from : source d T ≡ s) where
    square : (k : ℕ) → k < length M.sings → Commutes d (image d σ π T) (image d σ π M) (arrow_image d σ π T M f) k
    square k l =
        let up = dual_mono f.heights g.valid.monotone k (suc k) (omega arith) in
        let up' : dual (arrow_image d σ π T M f).heights k ≤ dual (arrow_image d σ π T M f).heights (suc k) =
        rw (image-heights d s σ π F T M f g) up in
        (squares_have_edges d (image d σ π T) (image d σ π M) (arrow_image d σ π T M f) k up').1
        (image_edges d s σ π F T M f g from k l ((squares_have_edges d T M f k up).0 (g.valid.squares k l)))

    pub good_arrow_image : GoodArrow (suc d) (image d σ π T) (image d σ π M) (arrow_image d σ π T M f)
    good_arrow_image =
        let A : Arr (suc d) = arrow_image d σ π T M f in
        let hs = image-heights d s σ π F T M f g in
        let n = image-length d s σ π F T in
        let m = image-length d s σ π F M in
        let rl = image-regs_long d s σ π F T M f g in
        let sl = image-sings_long d s σ π F T M f g in
        let fl = g.valid.heights_len in
        let mr = g.target.valid.regs_len in
        let above = other_source d s σ π F T M f g from in
        record {
          source = good_image d s σ π F T g.source from;
          target = good_image d s σ π F M g.target above;
          valid = record {
            heights_len = ap length hs ∙ fl ∙ sym n;
            regs_len = omega arith;
            sings_len = omega arith;
            monotone = subst IsMonotone (sym hs) g.valid.monotone;
            below = rw (hs, m) g.valid.below;
            regs = λ j l. rw hs (image_reg d s σ π F T M f g from j (omega arith));
            sings = λ i l. rw hs (image_sing d s σ π F T M f g from i (omega arith));
            squares = λ k l. square k (omega arith);
          };
          plain = record {
            regs = λ j l. rw (image-arrow_reg d s σ π F T M f g j (omega arith))
                (identities_have_shape d _ (carried_reg d s σ π F M g.target above j (omega arith)).valid);
            sings = λ i l. rw (image-arrow_sing d s σ π F T M f g i (omega arith)) (carried_arrow d s σ π F T M f g from i (omega arith)).plain;
          };
        }

  -- ---- identities

  module _ (T : Dia (suc d)) (g : GoodDiagram (suc d) T) (from : source d T ≡ s) where
    pub image_identity : arrow_image d σ π T T (ident (suc d) T) ≡ ident (suc d) (image d σ π T)
    image_identity =
        let i = good_identity (suc d) T g in
        let gI = good_image d s σ π F T g from in
        let n = image-length d s σ π F T in
        let hs = image-heights d s σ π F T T (ident (suc d) T) i in
        same_good_arrows d (image d σ π T) (image d σ π T) _ _
        (good_arrow_image T T (ident (suc d) T) i from) (good_identity (suc d) (image d σ π T) gI)
        (λ k l. ap (λ (h : List ℕ). get_or h k 0) hs ∙ ident-height d T k (omega arith) ∙ sym (ident-height d (image d σ π T) k l))
        (λ k l.
        let lk : k < length T.sings = omega arith in
        let e1 = image-arrow_sing d s σ π F T T (ident (suc d) T) i k lk in
        let e2 = ident-height d T k lk in
        let e3 = ident-sing d T k lk in
        let e4 = F.identities (sing d T k) (good_sing d T g k lk) (sing_parallel d s σ π F T g from k lk) in
        let e5 = ident-sing d (image d σ π T) k l in
        let e6 = image-sing d s σ π F T g k lk in
        cc)

  -- ---- composites

  module _ (T M N : Dia (suc d)) (f h : Arr (suc d)) (gf : GoodArrow (suc d) T M f) (gh : GoodArrow (suc d) M N h) (from : source d T ≡ s) where
    pub image_composite : arrow_image d σ π T N (comp (suc d) h f) ≡ comp (suc d) (arrow_image d σ π M N h) (arrow_image d σ π T M f)
    image_composite =
        let gc = good_composite (suc d) T M N f h gf gh in
        let above = other_source d s σ π F T M f gf from in
        let If : Arr (suc d) = arrow_image d σ π T M f in
        let Ih : Arr (suc d) = arrow_image d σ π M N h in
        let gIf = good_arrow_image T M f gf from in
        let gIh = good_arrow_image M N h gh above in
        let n = image-length d s σ π F T in
        let hc = image-heights d s σ π F T N (comp (suc d) h f) gc in
        let hf = image-heights d s σ π F T M f gf in
        let hh = image-heights d s σ π F M N h gh in
        let fl = gf.valid.heights_len in
        let fs = gf.valid.sings_len in
        let Fl = gIf.valid.heights_len in
        let Fs = gIf.valid.sings_len in
        same_good_arrows d (image d σ π T) (image d σ π N) _ _
        (good_arrow_image T N (comp (suc d) h f) gc from) (good_composite (suc d) _ _ _ If Ih gIf gIh)
        (λ k l.
        let e1 : height d (arrow_image d σ π T N (comp (suc d) h f)) k ≡ height d (comp (suc d) h f) k = ap (λ (x : List ℕ). get_or x k 0) hc in
        let e2 = comp-height d h f k (omega arith) in
        let e3 = comp-height d Ih If k (omega arith) in
        let e4 : height d If k ≡ height d f k = ap (λ (x : List ℕ). get_or x k 0) hf in
        let e5 : height d Ih (height d f k) ≡ height d h (height d f k) = ap (λ (x : List ℕ). get_or x (height d f k) 0) hh in
        cc)
        (λ k l.
        let lk : k < length T.sings = omega arith in
        let j : ℕ = height d f k in
        let lj : j < length M.sings = good_within d T M f gf k lk in
        let e1 = image-arrow_sing d s σ π F T N (comp (suc d) h f) gc k lk in
        let e2 = comp-height d h f k (omega arith) in
        let e3 = comp-sing d h f k (omega arith) in
        let e4 = comp-sing d Ih If k (omega arith) in
        let e5 : height d If k ≡ height d f k = ap (λ (x : List ℕ). get_or x k 0) hf in
        let e6 = image-arrow_sing d s σ π F T M f gf k lk in
        let e7 = image-arrow_sing d s σ π F M N h gh j lj in
        let e8 = F.composites _ _ _ (arrow_sing d f k) (arrow_sing d h j) (good_arrow_sing d T M f gf k lk) (good_arrow_sing d M N h gh j lj)
        (sing_parallel d s σ π F T gf.source from k lk) in
        cc)
