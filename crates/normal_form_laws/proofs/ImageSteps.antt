-- What a map of slices does one level up: it keeps identities, plainness, degeneracies and what is reduced.
use Rattle.std.proofs.Common.{ℕ, suc, ◌<◌, ◌≤◌, length, refl, sym, ap, ◌∙◌, subst, arith, inl, inr}
use Rattle.std.proofs.lemmas.List.{get_or-map, length-map}
use Rattle.diagram_terms.specs.declared.place.Keep.TheVariants as keep
use Rattle.diagram_terms.specs.Family.{Dia, Arr, no_dia, no_arr, reg, sing, fwd, bwd, height, arrow_reg, arrow_sing}
use Rattle.diagram_terms.specs.Dual.{upto, dual}
use Rattle.diagram_terms.specs.Composite.{comp}
use Rattle.diagram_terms.specs.Identity.{IsIdentity}
use Rattle.diagram_terms.specs.Plain.{PlainArrow, Plain}
use Rattle.diagram_terms.specs.Valid.{ValidArrow, Valid}
use Rattle.diagram_terms.specs.Degeneracy.{DegeneracyByShape}
use Rattle.diagram_terms.specs.Least.{Leg, ValidLeg, reg_leg, sing_leg, fwd_leg, bwd_leg, Hits, IsRegularSlice, LeadsInto, Reduced}
use Rattle.map_laws.proofs.ValidParts.{dual_within, height_within}
use Rattle.diagram_terms.specs.SliceMaps.{on_slices, on_arrow_slices, on_leg}
use Rattle.normal_form_laws.proofs.ImageParts.{IsImageOf, KeepsAll, image-len, image-reg, image-sing, image-fwd, image-bwd, image-arrow_reg, image-arrow_sing, next_identities, next_composites, next_diagrams, along_target_fwd, along_target_bwd, next_arrows}
use Rattle.normal_form_laws.proofs.PlainForms.{plain_reduced_more}
use Rattle.normal_form_laws.proofs.ReducedParts.{same_legs, reduced_more}
use Rattle.normal_form_laws.proofs.ValidSlices.{regular_slice_valid, leads_into_valid}

module _ (d e : ℕ) (o : Dia d → Dia e) (a : Arr d → Arr e) (k : KeepsAll d e o a) where
  abbrev O : Dia (suc d) → Dia (suc e)
  O X = on_slices d e o a X

  abbrev A : Arr (suc d) → Arr (suc e)
  A f = on_arrow_slices d e a f

  -- ---- identities and plainness

  next_still_identities : (f : Arr (suc d)) → IsIdentity (suc d) f → IsIdentity (suc e) (A f)
  next_still_identities f j =
      let m1 = length-map f.regs a in
      let m2 = length-map f.sings a in
      let jl = j.regs_len in
      record {
        heights = j.heights ∙ ap upto (sym m2);
        regs_len = omega arith;
        regs = λ i l. subst (IsIdentity e) (sym (image-arrow_reg d e o a f i (omega arith))) (k.still_identities (arrow_reg d f i) (j.regs i (omega arith)));
        sings = λ i l. subst (IsIdentity e) (sym (image-arrow_sing d e o a f i (omega arith))) (k.still_identities (arrow_sing d f i) (j.sings i (omega arith)));
      }

  next_only_identities : (X Y : Dia (suc d)) (f : Arr (suc d)) → ValidArrow (suc d) X Y f → IsIdentity (suc e) (A f) → IsIdentity (suc d) f
  next_only_identities X Y f vf j =
      let m1 = length-map f.regs a in
      let m2 = length-map f.sings a in
      let jl = j.regs_len in
      let fr = vf.regs_len in
      let fs = vf.sings_len in
      record {
        heights = j.heights ∙ ap upto m2;
        regs_len = omega arith;
        regs = λ i l. k.only_identities _ _ (arrow_reg d f i) (vf.regs i (omega arith))
            (subst (IsIdentity e) (image-arrow_reg d e o a f i l) (j.regs i (omega arith)));
        sings = λ i l. k.only_identities _ _ (arrow_sing d f i) (vf.sings i (omega arith))
            (subst (IsIdentity e) (image-arrow_sing d e o a f i l) (j.sings i (omega arith)));
      }

  next_plain_arrows : (f : Arr (suc d)) → PlainArrow (suc d) f → PlainArrow (suc e) (A f)
  next_plain_arrows f p =
      let m1 = length-map f.regs a in
      let m2 = length-map f.sings a in
      record {
        regs = λ i l. subst (IsIdentity e) (sym (image-arrow_reg d e o a f i (omega arith))) (k.still_identities (arrow_reg d f i) (p.regs i (omega arith)));
        sings = λ i l. subst (PlainArrow e) (sym (image-arrow_sing d e o a f i (omega arith))) (k.plain_arrows (arrow_sing d f i) (p.sings i (omega arith)));
      }

  next_plain_diagrams : (X : Dia (suc d)) → Plain (suc d) X → Plain (suc e) (O X)
  next_plain_diagrams X p =
      let m1 = length-map X.regs o in
      let m2 = length-map X.sings o in
      let m3 = length-map X.fwds a in
      let m4 = length-map X.bwds a in
      record {
        regs = λ i l. subst (Plain e) (sym (get_or-map o X.regs i (no_dia d) (no_dia e) (omega arith))) (k.plain_diagrams (reg d X i) (p.regs i (omega arith)));
        sings = λ i l. subst (Plain e) (sym (get_or-map o X.sings i (no_dia d) (no_dia e) (omega arith))) (k.plain_diagrams (sing d X i) (p.sings i (omega arith)));
        fwds = λ i l. subst (PlainArrow e) (sym (get_or-map a X.fwds i (no_arr d) (no_arr e) (omega arith))) (k.plain_arrows (fwd d X i) (p.fwds i (omega arith)));
        bwds = λ i l. subst (PlainArrow e) (sym (get_or-map a X.bwds i (no_arr d) (no_arr e) (omega arith))) (k.plain_arrows (bwd d X i) (p.bwds i (omega arith)));
      }

  -- ---- degeneracies

  next_shapes : (X Y : Dia (suc d)) (f : Arr (suc d)) → Valid (suc d) X → Valid (suc d) Y → DegeneracyByShape (suc d) X Y f
      → DegeneracyByShape (suc e) (O X) (O Y) (A f)
  next_shapes X Y f vX vY q =
      let vf = q.valid in
      let fr = vf.regs_len in
      let fs = vf.sings_len in
      let n = image-len d e o a X in
      let y = image-len d e o a Y in
      record {
        valid = next_arrows d e o a k X Y f vX vY vf;
        increasing = q.increasing;
        regs = λ j l.
            let w = dual_within d X Y f vf j in
            rw (image-reg d e o a X vX (dual f.heights j) w, image-reg d e o a Y vY j (omega arith), image-arrow_reg d e o a f j (omega arith))
            (k.shapes _ _ (arrow_reg d f j) (vX.regs _ w) (vY.regs j (omega arith)) (q.regs j (omega arith)));
        sings = λ i l.
            let w = height_within d X Y f vf i (omega arith) in
            rw (image-sing d e o a X i (omega arith), image-sing d e o a Y (height d f i) w, image-arrow_sing d e o a f i (omega arith))
            (k.shapes _ _ (arrow_sing d f i) (vX.sings i (omega arith)) (vY.sings _ w) (q.sings i (omega arith)));
        missed_fwds = λ m l h.
            let w = dual_within d X Y f vf m in
            let lm : m < length Y.sings = omega arith in
            rw (image-reg d e o a X vX (dual f.heights m) w, image-sing d e o a Y m lm, along_target_fwd d e o a k X Y f vX vY vf m lm)
            (k.shapes _ _ (comp d (fwd d Y m) (arrow_reg d f m)) (vX.regs _ w) (vY.sings m lm) (q.missed_fwds m lm h));
        missed_bwds = λ m l h.
            let w = dual_within d X Y f vf (suc m) in
            let lm : m < length Y.sings = omega arith in
            rw (image-reg d e o a X vX (dual f.heights (suc m)) w, image-sing d e o a Y m lm, along_target_bwd d e o a k X Y f vX vY vf m lm)
            (k.shapes _ _ (comp d (bwd d Y m) (arrow_reg d f (suc m))) (vX.regs _ w) (vY.sings m lm) (q.missed_bwds m lm h));
      }

  -- ---- what is reduced

  module _ (X : Dia (suc d)) (G : Leg (suc d) → Type 0) (vX : Valid (suc d) X) (vl : (g : Leg (suc d)) → G g → ValidLeg (suc d) X g) where
    abbrev H : Leg (suc e) → Type 0
    H b = IsImageOf (suc d) (suc e) O A G b

    regular_images : (j : ℕ) → j ≤ length X.sings → (b : Leg e) → IsImageOf d e o a (λ c. IsRegularSlice d G j c) b → IsRegularSlice e H j b
    regular_images j l b x =
        let g : Leg (suc d) = x.1.0 in
        let p = x.1.1 in
        let v = vl g p in
        let c = x.1.2 in (
          on_leg (suc d) (suc e) O A g,
          (g, p, refl),
          x.2 ∙ ap (on_leg d e o a) c
              ∙ same_legs e (on_leg d e o a (reg_leg d g j)) (reg_leg e (on_leg (suc d) (suc e) O A g) j)
              (sym (image-reg d e o a g.source v.source (dual g.arrow.heights j) (dual_within d g.source X g.arrow v.arrow j)))
              (sym (image-arrow_reg d e o a g.arrow j (let z = v.arrow.regs_len in omega arith))),
        )

    hit_images : (i : ℕ) → Hits d G i → Hits e H i
    hit_images i h = record {
      g = on_leg (suc d) (suc e) O A h.g;
      is_leg = (h.g, h.is_leg, refl);
      i = h.i;
      within = let z = image-len d e o a h.g.source in let w = h.within in omega arith;
      goes = h.goes;
    }

    leading_images : (i : ℕ) → i < length X.sings → (b : Leg e) → IsImageOf d e o a (λ c. LeadsInto d X G i c) b → LeadsInto e (O X) H i b
    unfolding hit_images
    leading_images i l b x = elim x.1 [
      | inl s ↦ (let h = s.0 in
          let v = vl h.g h.is_leg in
          inl (
            hit_images i h,
            x.2 ∙ ap (on_leg d e o a) s.1
                ∙ same_legs e (on_leg d e o a (sing_leg d h.g h.i)) (sing_leg e (on_leg (suc d) (suc e) O A h.g) h.i)
                (sym (image-sing d e o a h.g.source h.i h.within))
                (sym (image-arrow_sing d e o a h.g.arrow h.i (let z = v.arrow.sings_len in let w = h.within in omega arith))),
          ))
      | inr y ↦ inr (elim y [
        | inl s ↦ inl (x.2 ∙ ap (on_leg d e o a) s
            ∙ same_legs e (on_leg d e o a (fwd_leg d X i)) (fwd_leg e (O X) i) (sym (image-reg d e o a X vX i (omega arith)))
            (sym (image-fwd d e o a X vX i l)))
        | inr s ↦ inr (x.2 ∙ ap (on_leg d e o a) s
            ∙ same_legs e (on_leg d e o a (bwd_leg d X i)) (bwd_leg e (O X) i) (sym (image-reg d e o a X vX (suc i) l))
            (sym (image-bwd d e o a X vX i l)))
      ])
    ]

    flat_before : (i : ℕ) → i < length X.sings → IsIdentity e (fwd e (O X) i) → IsIdentity e (bwd e (O X) i)
        → IsIdentity d (fwd d X i) × IsIdentity d (bwd d X i)
    flat_before i l f b = (
      k.only_identities _ _ (fwd d X i) (vX.fwds i l) (subst (IsIdentity e) (image-fwd d e o a X vX i l) f),
      k.only_identities _ _ (bwd d X i) (vX.bwds i l) (subst (IsIdentity e) (image-bwd d e o a X vX i l) b),
    )

    next_reduced : Reduced keep.Free (suc d) X G → Reduced keep.Free (suc e) (O X) H
    next_reduced r =
        let n = image-len d e o a X in
        record {
          regs = λ j l.
              let lj : j ≤ length X.sings = omega arith in
              subst (λ (t : Dia e). Reduced keep.Free e t (λ b. IsRegularSlice e H j b)) (sym (image-reg d e o a X vX j lj))
              (reduced_more e _ _ _ (regular_images j lj)
              (k.reduced (reg d X j) (λ c. IsRegularSlice d G j c) (vX.regs j lj) (regular_slice_valid d X G vl j lj) (r.regs j lj)));
          sings = λ i l.
              let li : i < length X.sings = omega arith in
              subst (λ (t : Dia e). Reduced keep.Free e t (λ b. LeadsInto e (O X) H i b)) (sym (image-sing d e o a X i li))
              (reduced_more e _ _ _ (leading_images i li)
              (k.reduced (sing d X i) (λ c. LeadsInto d X G i c) (vX.sings i li) (leads_into_valid d X G vl vX i li) (r.sings i li)));
          hit = λ i l f b.
              let li : i < length X.sings = omega arith in
              let z = flat_before i li f b in
              hit_images i (r.hit i li z.0 z.1);
        }

    next_plain_reduced : Reduced keep.Plain (suc d) X G → Reduced keep.Plain (suc e) (O X) H
    next_plain_reduced r =
        let n = image-len d e o a X in
        record {
          regs = tt;
          sings = λ i l.
              let li : i < length X.sings = omega arith in
              subst (λ (t : Dia e). Reduced keep.Plain e t (λ b. LeadsInto e (O X) H i b)) (sym (image-sing d e o a X i li))
              (plain_reduced_more e _ _ _ (leading_images i li)
              (k.plain_reduced (sing d X i) (λ c. LeadsInto d X G i c) (vX.sings i li) (leads_into_valid d X G vl vX i li) (r.sings i li)));
          hit = λ i l f b.
              let li : i < length X.sings = omega arith in
              let z = flat_before i li f b in
              hit_images i (r.hit i li z.0 z.1);
        }

  -- ---- all of it

  pub next_keeps : KeepsAll (suc d) (suc e) O A
  next_keeps = record {
    diagrams = next_diagrams d e o a k;
    arrows = next_arrows d e o a k;
    identities = next_identities d e o a k;
    composites = next_composites d e o a k;
    still_identities = next_still_identities;
    only_identities = next_only_identities;
    plain_arrows = next_plain_arrows;
    plain_diagrams = next_plain_diagrams;
    shapes = next_shapes;
    reduced = next_reduced;
    plain_reduced = next_plain_reduced;
  }
