-- Relabelling and suspension keep cones and types.
use Rattle.std.proofs.Common.{◌≡◌, ℕ, zero, suc, ◌<◌, ◌≤◌, List, [], ◌∷◌, length, map, refl, sym, ap, ap₂, ◌∙◌, subst, arith}
use Rattle.std.proofs.lemmas.List.{get_or-map, length-map, ext_get_or}
use Rattle.diagram_terms.specs.declared.label.Label.{Label}
use Rattle.diagram_terms.specs.Family.{Dia, Arr, no_dia, no_arr, reg, sing}
use Rattle.diagram_terms.specs.Composite.{ident}
use Rattle.diagram_terms.specs.Valid.{Valid}
use Rattle.diagram_terms.specs.Cone.{source, target, Parallel, cospan, cone, mid, type_over, HasLabelsBelow}
use Rattle.diagram_terms.specs.SliceMaps.{on_slices, on_arrow_slices}
use Rattle.diagram_terms.specs.Relabelling.{relabelled, relabelled_arrow}
use Rattle.diagram_terms.specs.Suspension.{raised, suspended, suspended_arrow}
use Rattle.normal_form_laws.specs.CarriedTypes.{CarriesConesOver, RelabellingCarriesConesOver, SuspensionCarriesConesOver, RelabellingKeepsTypes, SuspensionKeepsTypes, SuspendedLabelsAreTypes}
use Rattle.normal_form_laws.proofs.ImageParts.{KeepsAll, image-len, image-reg, image-sing}
use Rattle.normal_form_laws.proofs.Relabelling.{relabelling_keeps}
use Rattle.normal_form_laws.proofs.Suspension.{suspension_keeps}

-- ---- cospans and cones by their parts

cone-heights : (d : ℕ) (D : Dia (suc d)) (x : Label) → (cone (suc d) D x).heights ≡ map (λ _. 0) D.sings
unfolding cone
cone-heights d D x = refl

cone-regs : (d : ℕ) (D : Dia (suc d)) (x : Label) → (cone (suc d) D x).regs ≡ ident d (source d D) ∷ ident d (target d D) ∷ []
unfolding cone
cone-regs d D x = refl

cone-sings : (d : ℕ) (D : Dia (suc d)) (x : Label) → (cone (suc d) D x).sings ≡ map (λ s. cone d s x) D.sings
unfolding cone
cone-sings d D x = refl

module _ (d e : ℕ) (o : Dia d → Dia e) (a : Arr d → Arr e) (image : Label → Label) (k : KeepsAll d e o a)
    (t : CarriesConesOver d e o a image) where
  abbrev O : Dia (suc d) → Dia (suc e)
  O X = on_slices d e o a X

  abbrev A : Arr (suc d) → Arr (suc e)
  A f = on_arrow_slices d e a f

  at_source : (D : Dia (suc d)) → Valid (suc d) D → source e (O D) ≡ o (source d D)
  at_source D v = image-reg d e o a D v 0 (omega arith)

  at_target : (D : Dia (suc d)) → Valid (suc d) D → target e (O D) ≡ o (target d D)
  at_target D v = ap (reg e (O D)) (image-len d e o a D) ∙ image-reg d e o a D v (length D.sings) (omega arith)

  -- ---- one level up

  same_zeros : (xs : List (Dia d)) → map {B = ℕ} (λ (s : Dia d). 0) xs ≡ map {B = ℕ} (λ (s : Dia e). 0) (map o xs)
  same_zeros [] = refl
  same_zeros (y ∷ xs) = ap (λ (hs : List ℕ). 0 ∷ hs) (same_zeros xs)

  next_cones : (D : Dia (suc d)) (x : Label) → Valid (suc d) D → A (cone (suc d) D x) ≡ cone (suc e) (O D) (image x)
  next_cones D x v =
      let c : Arr (suc d) = cone (suc d) D x in
      let h : Arr (suc e) = cone (suc e) (O D) (image x) in
      let n = length-map D.sings o in
      let same_heights = same_zeros D.sings in
      let same_sings : map a (map (λ s. cone d s x) D.sings) ≡ map (λ s. cone e s (image x)) (map o D.sings) =
      ext_get_or (no_arr e) (map a (map (λ s. cone d s x) D.sings)) (map (λ s. cone e s (image x)) (map o D.sings))
      (length-map (map (λ s. cone d s x) D.sings) a ∙ length-map D.sings (λ s. cone d s x) ∙ sym n
      ∙ sym (length-map (map o D.sings) (λ s. cone e s (image x))))
      (λ i l. let m1 = length-map (map (λ s. cone d s x) D.sings) a in
      let m2 = length-map D.sings (λ s. cone d s x) in
      let li : i < length D.sings = omega arith in
      get_or-map a (map (λ s. cone d s x) D.sings) i (no_arr d) (no_arr e) (omega arith)
      ∙ ap a (get_or-map (λ s. cone d s x) D.sings i (no_dia d) (no_arr d) li)
      ∙ t.cones (sing d D i) x (v.sings i li)
      ∙ ap (λ (s : Dia e). cone e s (image x)) (sym (image-sing d e o a D i li))
      ∙ sym (get_or-map (λ s. cone e s (image x)) (map o D.sings) i (no_dia e) (no_arr e) (omega arith))) in
      let p : (A c).heights ≡ h.heights = cone-heights d D x ∙ same_heights ∙ sym (cone-heights e (O D) (image x)) in
      let q : (A c).regs ≡ h.regs = ap (map a) (cone-regs d D x)
      ∙ ap₂ (λ (y z : Arr e). y ∷ z ∷ []) (k.identities (source d D) ∙ ap (ident e) (sym (at_source D v)))
      (k.identities (target d D) ∙ ap (ident e) (sym (at_target D v)))
      ∙ sym (cone-regs e (O D) (image x)) in
      let r : (A c).sings ≡ h.sings = ap (map a) (cone-sings d D x) ∙ same_sings ∙ sym (cone-sings e (O D) (image x)) in
      λ i. record { heights = p i; regs = q i; sings = r i }

  -- the cospan of two cones that end in one diagram
  pub cospan_of_cones : (S T : Dia d) (S2 T2 : Dia e) (x : Label) → Valid d S → Valid d T → o S ≡ S2 → o T ≡ T2
      → O (cospan d S (cone d S x) (mid d S x) (cone d T x) T)
      ≡ cospan e S2 (cone e S2 (image x)) (mid e S2 (image x)) (cone e T2 (image x)) T2
  cospan_of_cones S T S2 T2 x vS vT eS eT =
      let p : a (cone d S x) ≡ cone e S2 (image x) = t.cones S x vS ∙ ap (λ (s : Dia e). cone e s (image x)) eS in
      let q : o (mid d S x) ≡ mid e S2 (image x) = t.mids S x vS ∙ ap (λ (s : Dia e). mid e s (image x)) eS in
      let r : a (cone d T x) ≡ cone e T2 (image x) = t.cones T x vT ∙ ap (λ (s : Dia e). cone e s (image x)) eT in
      λ i. cospan e (eS i) (p i) (q i) (r i) (eT i)

  next_mids : (D : Dia (suc d)) (x : Label) → Valid (suc d) D → O (mid (suc d) D x) ≡ mid (suc e) (O D) (image x)
  unfolding mid
  next_mids D x v = cospan_of_cones (source d D) (target d D) (source e (O D)) (target e (O D)) x (v.regs 0 (omega arith))
      (v.regs (length D.sings) (omega arith)) (sym (at_source D v)) (sym (at_target D v))

  next_parallel : (S T : Dia (suc d)) → Valid (suc d) S → Valid (suc d) T → Parallel (suc d) S T → Parallel (suc e) (O S) (O T)
  next_parallel S T vS vT p = record {
    sources = at_source S vS ∙ ap o p.sources ∙ sym (at_source T vT);
    targets = at_target S vS ∙ ap o p.targets ∙ sym (at_target T vT);
  }

  next_below : (D : Dia (suc d)) (x : Label) → Valid (suc d) D → HasLabelsBelow x.dim (suc d) D → HasLabelsBelow (image x).dim (suc e) (O D)
  next_below D x v b =
      let n = image-len d e o a D in
      record {
        regs = λ j l. subst (HasLabelsBelow (image x).dim e) (sym (image-reg d e o a D v j (omega arith)))
            (t.below (reg d D j) x (v.regs j (omega arith)) (b.regs j (omega arith)));
        sings = λ i l. subst (HasLabelsBelow (image x).dim e) (sym (image-sing d e o a D i (omega arith)))
            (t.below (sing d D i) x (v.sings i (omega arith)) (b.sings i (omega arith)));
      }

  next_cones_over : CarriesConesOver (suc d) (suc e) O A image
  next_cones_over = record { cones = next_cones; mids = next_mids; parallel = next_parallel; below = next_below }

  types_over : (S T : Dia d) (x : Label) → Valid d S → Valid d T → O (type_over d S T x) ≡ type_over e (o S) (o T) (image x)
  unfolding type_over
  types_over S T x vS vT = cospan_of_cones S T (o S) (o T) x vS vT refl refl

-- ---- relabelling

pub relabelling_carries_cones_over : (d : ℕ) → RelabellingCarriesConesOver d
unfolding relabelled relabelled_arrow cone mid
relabelling_carries_cones_over zero image up = record {
  cones = λ y x v. refl;
  mids = λ y x v. refl;
  parallel = λ S T vS vT p. tt;
  below = λ y x v b. up.rises y x b;
}
relabelling_carries_cones_over (suc d) image up = next_cones_over d d (relabelled image d) (relabelled_arrow image d) image
    (relabelling_keeps image up d) (relabelling_carries_cones_over d image up)

pub relabelling_keeps_types : (d : ℕ) → RelabellingKeepsTypes d
unfolding relabelled
relabelling_keeps_types d image up S T x vS vT = types_over d d (relabelled image d) (relabelled_arrow image d) image
    (relabelling_keeps image up d) (relabelling_carries_cones_over d image up) S T x vS vT

-- ---- suspension

suspended_below : (y x : Label) → y.dim < x.dim → HasLabelsBelow (suc x.dim) 1 (suspended 0 y)
unfolding suspended
suspended_below y x l = record { regs = regs; sings = sings }
  where
    regs : (j : ℕ) → j ≤ 1 → HasLabelsBelow (suc x.dim) 0 (reg 0 (suspended 0 y) j)
    regs zero l = omega arith
    regs (suc zero) l = omega arith
    regs (suc (suc j)) l = absurd (omega arith)

    sings : (i : ℕ) → i < 1 → HasLabelsBelow (suc x.dim) 0 (sing 0 (suspended 0 y) i)
    sings zero m = omega arith
    sings (suc i) l = absurd (omega arith)

pub suspension_carries_cones_over : (d : ℕ) → SuspensionCarriesConesOver d
unfolding suspended suspended_arrow cone mid ident
suspension_carries_cones_over zero = record {
  cones = λ y x v. refl;
  mids = λ y x v. refl;
  parallel = λ S T vS vT p. record { sources = refl; targets = refl };
  below = λ y x v b. suspended_below y x b;
}
suspension_carries_cones_over (suc d) = next_cones_over d (suc d) (suspended d) (suspended_arrow d) raised (suspension_keeps d)
    (suspension_carries_cones_over d)

pub suspension_keeps_types : (d : ℕ) → SuspensionKeepsTypes d
unfolding suspended
suspension_keeps_types d S T x vS vT = types_over d (suc d) (suspended d) (suspended_arrow d) raised (suspension_keeps d)
    (suspension_carries_cones_over d) S T x vS vT

pub suspended_labels_are_types : SuspendedLabelsAreTypes
unfolding suspended type_over cone mid
suspended_labels_are_types x = refl
