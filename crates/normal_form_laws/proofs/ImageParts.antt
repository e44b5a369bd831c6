-- What a map of slices does one level up: its parts, and that it keeps composites and validity.
use Rattle.std.proofs.Common.{◌≡◌, ℕ, suc, ◌<◌, ◌≤◌, length, sym, ap, ap₂, ◌∙◌, subst, arith}
use Rattle.std.proofs.lemmas.List.{get_or-map, length-map}
use Rattle.diagram_terms.specs.declared.place.Keep.TheVariants as keep
use Rattle.diagram_terms.specs.Family.{Dia, Arr, no_dia, no_arr, reg, sing, fwd, bwd, height, arrow_reg, arrow_sing}
use Rattle.diagram_terms.specs.Dual.{AreBelow, upto, dual}
use Rattle.diagram_terms.specs.Composite.{comp, ident}
use Rattle.diagram_terms.specs.Identity.{IsIdentity}
use Rattle.diagram_terms.specs.Plain.{PlainArrow, Plain}
use Rattle.diagram_terms.specs.Valid.{ValidArrow, Valid, Commutes}
use Rattle.diagram_terms.specs.Degeneracy.{DegeneracyByShape}
use Rattle.diagram_terms.specs.Least.{Leg, ValidLeg, Reduced}
use Rattle.diagram_terms.proofs.Parts.{comp-heights, comp-regs_len, comp-sings_len, comp-reg, comp-sing, ident-heights, ident-regs_len, ident-sings_len, ident-reg, ident-sing, same_arrows}
use Rattle.map_laws.proofs.ValidParts.{dual_within, height_within}
use Rattle.diagram_terms.specs.SliceMaps.{on_slices, on_arrow_slices, on_leg}
use Rattle.diagram_terms.proofs.Squares.{first_at, last_at, commutes_by}

-- b is the image of a leg of which G speaks
abbrev pub IsImageOf : (d e : ℕ) → (Dia d → Dia e) → (Arr d → Arr e) → (Leg d → Type 0) → Leg e → Type 0
IsImageOf d e o a G b = (g : Leg d) × G g × (b ≡ on_leg d e o a g)

-- what the maps keep, in the form that passes from one dimension to the next
pub record KeepsAll (d e : ℕ) (o : Dia d → Dia e) (a : Arr d → Arr e) : Type 1 where
  pub diagrams : (X : Dia d) → Valid d X → Valid e (o X)
  pub arrows : (X Y : Dia d) (f : Arr d) → Valid d X → Valid d Y → ValidArrow d X Y f → ValidArrow e (o X) (o Y) (a f)
  pub identities : (X : Dia d) → a (ident d X) ≡ ident e (o X)
  pub composites : (X Y Z : Dia d) (f g : Arr d) → ValidArrow d X Y f → ValidArrow d Y Z g → a (comp d g f) ≡ comp e (a g) (a f)
  pub still_identities : (f : Arr d) → IsIdentity d f → IsIdentity e (a f)
  pub only_identities : (X Y : Dia d) (f : Arr d) → ValidArrow d X Y f → IsIdentity e (a f) → IsIdentity d f
  pub plain_arrows : (f : Arr d) → PlainArrow d f → PlainArrow e (a f)
  pub plain_diagrams : (X : Dia d) → Plain d X → Plain e (o X)
  pub shapes : (X Y : Dia d) (f : Arr d) → Valid d X → Valid d Y → DegeneracyByShape d X Y f → DegeneracyByShape e (o X) (o Y) (a f)
  pub reduced : (X : Dia d) (G : Leg d → Type 0) → Valid d X → ((g : Leg d) → G g → ValidLeg d X g) → Reduced keep.Free d X G
      → Reduced keep.Free e (o X) (λ b. IsImageOf d e o a G b)
  pub plain_reduced : (X : Dia d) (G : Leg d → Type 0) → Valid d X → ((g : Leg d) → G g → ValidLeg d X g) → Reduced keep.Plain d X G
      → Reduced keep.Plain e (o X) (λ b. IsImageOf d e o a G b)

module _ (d e : ℕ) (o : Dia d → Dia e) (a : Arr d → Arr e) where
  abbrev O : Dia (suc d) → Dia (suc e)
  O X = on_slices d e o a X

  abbrev A : Arr (suc d) → Arr (suc e)
  A f = on_arrow_slices d e a f

  -- ---- the parts

  pub image-len : (X : Dia (suc d)) → length (O X).sings ≡ length X.sings
  image-len X = length-map X.sings o

  pub image-reg : (X : Dia (suc d)) → Valid (suc d) X → (j : ℕ) → j ≤ length X.sings → reg e (O X) j ≡ o (reg d X j)
  image-reg X v j l = get_or-map o X.regs j (no_dia d) (no_dia e) (let x = v.regs_len in omega arith)

  pub image-sing : (X : Dia (suc d)) (i : ℕ) → i < length X.sings → sing e (O X) i ≡ o (sing d X i)
  image-sing X i l = get_or-map o X.sings i (no_dia d) (no_dia e) l

  pub image-fwd : (X : Dia (suc d)) → Valid (suc d) X → (k : ℕ) → k < length X.sings → fwd e (O X) k ≡ a (fwd d X k)
  image-fwd X v k l = get_or-map a X.fwds k (no_arr d) (no_arr e) (let x = v.fwds_len in omega arith)

  pub image-bwd : (X : Dia (suc d)) → Valid (suc d) X → (k : ℕ) → k < length X.sings → bwd e (O X) k ≡ a (bwd d X k)
  image-bwd X v k l = get_or-map a X.bwds k (no_arr d) (no_arr e) (let x = v.bwds_len in omega arith)

  pub image-arrow_reg : (f : Arr (suc d)) (j : ℕ) → j < length f.regs → arrow_reg e (A f) j ≡ a (arrow_reg d f j)
  image-arrow_reg f j l = get_or-map a f.regs j (no_arr d) (no_arr e) l

  pub image-arrow_sing : (f : Arr (suc d)) (i : ℕ) → i < length f.sings → arrow_sing e (A f) i ≡ a (arrow_sing d f i)
  image-arrow_sing f i l = get_or-map a f.sings i (no_arr d) (no_arr e) l

  module _ (k : KeepsAll d e o a) where
    -- ---- identities and composites

    pub next_identities : (X : Dia (suc d)) → A (ident (suc d) X) ≡ ident (suc e) (O X)
    next_identities X =
        let f : Arr (suc d) = ident (suc d) X in
        let r1 = ident-regs_len d X in
        let s1 = ident-sings_len d X in
        let r2 = ident-regs_len e (O X) in
        let s2 = ident-sings_len e (O X) in
        let m1 = length-map f.regs a in
        let m2 = length-map f.sings a in
        let m3 = length-map X.regs o in
        let m4 = length-map X.sings o in
        same_arrows e (A f) (ident (suc e) (O X)) (ident-heights d X ∙ ap upto (sym m4) ∙ sym (ident-heights e (O X)))
        (omega arith)
        (λ j l. let lj : j < length X.regs = omega arith in
        image-arrow_reg f j (omega arith) ∙ ap a (ident-reg d X j lj) ∙ k.identities (reg d X j)
        ∙ ap (ident e) (sym (get_or-map o X.regs j (no_dia d) (no_dia e) lj)) ∙ sym (ident-reg e (O X) j (omega arith)))
        (omega arith)
        (λ i l. let li : i < length X.sings = omega arith in
        image-arrow_sing f i (omega arith) ∙ ap a (ident-sing d X i li) ∙ k.identities (sing d X i)
        ∙ ap (ident e) (sym (image-sing X i li)) ∙ sym (ident-sing e (O X) i (omega arith)))

    pub next_composites : (X Y Z : Dia (suc d)) (f g : Arr (suc d)) → ValidArrow (suc d) X Y f → ValidArrow (suc d) Y Z g
        → A (comp (suc d) g f) ≡ comp (suc e) (A g) (A f)
    next_composites X Y Z f g vf vg =
        let c : Arr (suc d) = comp (suc d) g f in
        let r1 = comp-regs_len d g f in
        let s1 = comp-sings_len d g f in
        let r2 = comp-regs_len e (A g) (A f) in
        let s2 = comp-sings_len e (A g) (A f) in
        let m1 = length-map c.regs a in
        let m2 = length-map c.sings a in
        let m3 = length-map g.regs a in
        let m4 = length-map f.sings a in
        let fr = vf.regs_len in
        let fs = vf.sings_len in
        let gr = vg.regs_len in
        let gs = vg.sings_len in
        same_arrows e (A c) (comp (suc e) (A g) (A f)) (comp-heights d g f ∙ sym (comp-heights e (A g) (A f)))
        (omega arith)
        (λ j l. let lj : j < length g.regs = omega arith in
        let w = dual_within d Y Z g vg j in
        image-arrow_reg c j (omega arith) ∙ ap a (comp-reg d g f j lj)
        ∙ k.composites _ _ _ (arrow_reg d f (dual g.heights j)) (arrow_reg d g j) (vf.regs _ w) (vg.regs j (omega arith))
        ∙ ap₂ (comp e) (sym (image-arrow_reg g j lj)) (sym (image-arrow_reg f (dual g.heights j) (omega arith)))
        ∙ sym (comp-reg e (A g) (A f) j (omega arith)))
        (omega arith)
        (λ i l. let li : i < length X.sings = omega arith in
        let w = height_within d X Y f vf i li in
        image-arrow_sing c i (omega arith) ∙ ap a (comp-sing d g f i (omega arith))
        ∙ k.composites _ _ _ (arrow_sing d f i) (arrow_sing d g (height d f i)) (vf.sings i li) (vg.sings _ w)
        ∙ ap₂ (comp e) (sym (image-arrow_sing g (height d f i) (omega arith))) (sym (image-arrow_sing f i (omega arith)))
        ∙ sym (comp-sing e (A g) (A f) i (omega arith)))

    -- ---- validity

    pub next_diagrams : (X : Dia (suc d)) → Valid (suc d) X → Valid (suc e) (O X)
    next_diagrams X v =
        let n = image-len X in
        record {
          regs_len = length-map X.regs o ∙ v.regs_len ∙ ap suc (sym n);
          fwds_len = length-map X.fwds a ∙ v.fwds_len ∙ sym n;
          bwds_len = length-map X.bwds a ∙ v.bwds_len ∙ sym n;
          regs = λ j l. rw (image-reg X v j (omega arith)) (k.diagrams (reg d X j) (v.regs j (omega arith)));
          sings = λ i l. rw (image-sing X i (omega arith)) (k.diagrams (sing d X i) (v.sings i (omega arith)));
          fwds = λ i l. rw (image-reg X v i (omega arith), image-sing X i (omega arith), image-fwd X v i (omega arith))
              (k.arrows _ _ (fwd d X i) (v.regs i (omega arith)) (v.sings i (omega arith)) (v.fwds i (omega arith)));
          bwds = λ i l. rw (image-reg X v (suc i) (omega arith), image-sing X i (omega arith), image-bwd X v i (omega arith))
              (k.arrows _ _ (bwd d X i) (v.regs (suc i) (omega arith)) (v.sings i (omega arith)) (v.bwds i (omega arith)));
        }

    module _ (X Y : Dia (suc d)) (f : Arr (suc d)) (vX : Valid (suc d) X) (vY : Valid (suc d) Y) (vf : ValidArrow (suc d) X Y f) where
      pub along_target_fwd : (m : ℕ) → m < length Y.sings → comp e (fwd e (O Y) m) (arrow_reg e (A f) m) ≡ a (comp d (fwd d Y m) (arrow_reg d f m))
      along_target_fwd m l =
          let fr = vf.regs_len in
          ap₂ (comp e) (image-fwd Y vY m l) (image-arrow_reg f m (omega arith))
          ∙ sym (k.composites _ _ _ (arrow_reg d f m) (fwd d Y m) (vf.regs m (omega arith)) (vY.fwds m l))

      pub along_target_bwd : (m : ℕ) → m < length Y.sings
          → comp e (bwd e (O Y) m) (arrow_reg e (A f) (suc m)) ≡ a (comp d (bwd d Y m) (arrow_reg d f (suc m)))
      along_target_bwd m l =
          let fr = vf.regs_len in
          ap₂ (comp e) (image-bwd Y vY m l) (image-arrow_reg f (suc m) (omega arith))
          ∙ sym (k.composites _ _ _ (arrow_reg d f (suc m)) (bwd d Y m) (vf.regs (suc m) l) (vY.bwds m l))

      along_source_fwd : (i : ℕ) → i < length X.sings → comp e (arrow_sing e (A f) i) (fwd e (O X) i) ≡ a (comp d (arrow_sing d f i) (fwd d X i))
      along_source_fwd i l =
          let fs = vf.sings_len in
          ap₂ (comp e) (image-arrow_sing f i (omega arith)) (image-fwd X vX i l)
          ∙ sym (k.composites _ _ _ (fwd d X i) (arrow_sing d f i) (vX.fwds i l) (vf.sings i l))

      along_source_bwd : (i : ℕ) → i < length X.sings → comp e (arrow_sing e (A f) i) (bwd e (O X) i) ≡ a (comp d (arrow_sing d f i) (bwd d X i))
      along_source_bwd i l =
          let fs = vf.sings_len in
          ap₂ (comp e) (image-arrow_sing f i (omega arith)) (image-bwd X vX i l)
          ∙ sym (k.composites _ _ _ (bwd d X i) (arrow_sing d f i) (vX.bwds i l) (vf.sings i l))

      image_square : (m : ℕ) → m < length Y.sings → Commutes e (O X) (O Y) (A f) m
      image_square m l =
          let sq = vf.squares m l in
          let w = dual_within d X Y f vf (suc m) in
          commutes_by e (O X) (O Y) (A f) m
          (λ h. along_target_fwd m l ∙ ap a (sq.empty h) ∙ sym (along_target_bwd m l))
          (λ i h p. along_target_fwd m l ∙ ap a (first_at sq i h p) ∙ sym (along_source_fwd i (omega arith)))
          (λ i p h. along_target_bwd m l ∙ ap a (last_at sq i p h) ∙ sym (along_source_bwd i (omega arith)))
          (λ i p h. along_source_bwd i (omega arith) ∙ ap a (sq.inner i p h) ∙ sym (along_source_fwd (suc i) (omega arith)))

      pub next_arrows : ValidArrow (suc e) (O X) (O Y) (A f)
      next_arrows =
          let n = image-len X in
          let m = image-len Y in
          let fr = vf.regs_len in
          let fs = vf.sings_len in
          record {
            heights_len = vf.heights_len ∙ sym n;
            regs_len = length-map f.regs a ∙ vf.regs_len ∙ ap suc (sym m);
            sings_len = length-map f.sings a ∙ vf.sings_len ∙ sym n;
            monotone = vf.monotone;
            below = subst (AreBelow f.heights) (sym m) vf.below;
            regs = λ j l.
                let w = dual_within d X Y f vf j in
                rw (image-reg X vX (dual f.heights j) w, image-reg Y vY j (omega arith), image-arrow_reg f j (omega arith))
                (k.arrows _ _ (arrow_reg d f j) (vX.regs _ w) (vY.regs j (omega arith)) (vf.regs j (omega arith)));
            sings = λ i l.
                let w = height_within d X Y f vf i (omega arith) in
                rw (image-sing X i (omega arith), image-sing Y (height d f i) w, image-arrow_sing f i (omega arith))
                (k.arrows _ _ (arrow_sing d f i) (vX.sings i (omega arith)) (vY.sings _ w) (vf.sings i (omega arith)));
            squares = λ t l. image_square t (omega arith);
          }
