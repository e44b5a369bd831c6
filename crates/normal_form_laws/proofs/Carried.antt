-- Maps that keep all rules keep normal forms.
use Rattle.std.proofs.Common.{◌≡◌, ℕ, ◌<◌, List, length, sym, ap, ◌∙◌, subst, arith}
use Rattle.std.specs.List.{Contains}
use Rattle.std.proofs.lemmas.List.{get_or-map, length-map}
use Rattle.diagram_terms.specs.declared.place.Keep.TheVariants as keep
use Rattle.diagram_terms.specs.Family.{Dia, Arr, no_dia, no_arr}
use Rattle.diagram_terms.specs.Plain.{Plain}
use Rattle.diagram_terms.specs.Valid.{ValidArrow, Valid}
use Rattle.diagram_terms.specs.Degeneracy.{Degeneracy}
use Rattle.diagram_terms.specs.Least.{Leg, leg_at, ValidLeg, ValidLegs, LegsFactorBy, IsOneOf, ReducedFor}
use Rattle.degeneracy_laws.proofs.ShapeComposites.{shape_valid}
use Rattle.degeneracy_laws.proofs.Shapes.{degeneracy_ends, degeneracies_have_shape}
use Rattle.degeneracy_laws.proofs.Splits.{shape_means_degeneracy}
use Rattle.diagram_terms.specs.SliceMaps.{on_leg, on_legs}
use Rattle.normal_form_laws.specs.Carried.{CarriesOver}
use Rattle.diagram_terms.specs.Factors.{factor_legs}
use Rattle.diagram_terms.specs.NormalForms.{normal_form}
use Rattle.normal_form_laws.proofs.Existence.{are_valid, normal_forms_are_degeneracies, legs_factor_through_normal_forms, normal_forms_are_reduced, reduced_is_normal_form}
use Rattle.normal_form_laws.proofs.ImageParts.{IsImageOf, KeepsAll}
use Rattle.normal_form_laws.proofs.Members.{in_map, one_of, from_one_of}
use Rattle.normal_form_laws.proofs.PlainForms.{plain_reduced_more}
use Rattle.normal_form_laws.proofs.PlainLeasts.{factors_valid, plain_forms_are_degeneracies, legs_factor_through_plain_forms, plain_forms_are_reduced, plain_reduced_is_plain_form}
use Rattle.normal_form_laws.proofs.ReducedParts.{reduced_more}

module _ (d e : ℕ) (o : Dia d → Dia e) (a : Arr d → Arr e) (k : KeepsAll d e o a) where
  image_at : (gs : List (Leg d)) (i : ℕ) → i < length gs → leg_at e (on_legs d e o a gs) i ≡ on_leg d e o a (leg_at d gs i)
  image_at gs i l = get_or-map (on_leg d e o a) gs i (record { source = no_dia d; arrow = no_arr d }) (record { source = no_dia e; arrow = no_arr e }) l

  image_legs : (T : Dia d) (legs : List (Leg d)) → Valid d T → ValidLegs d T legs → ValidLegs e (o T) (on_legs d e o a legs)
  image_legs T legs vT vl i l =
      let n = length-map legs (on_leg d e o a) in
      let li : i < length legs = omega arith in
      let v = vl i li in
      subst (λ (t : Leg e). ValidLeg e (o T) t) (sym (image_at legs i li)) (record {
        source = k.diagrams _ v.source;
        arrow = k.arrows _ _ (leg_at d legs i).arrow v.source vT v.arrow;
      })

  carried_degeneracies : (X Y : Dia d) (f : Arr d) → Degeneracy d X Y f → Degeneracy e (o X) (o Y) (a f)
  carried_degeneracies X Y f q =
      let ends = degeneracy_ends d X Y f q in
      shape_means_degeneracy e (o X) (o Y) (a f) (k.diagrams X ends.0) (k.diagrams Y ends.1)
      (k.shapes X Y f ends.0 ends.1 (degeneracies_have_shape d X Y f q))

  image_member : (gs : List (Leg d)) (b : Leg e) → IsImageOf d e o a (λ g. IsOneOf d gs g) b → IsOneOf e (on_legs d e o a gs) b
  image_member gs b x = one_of e (on_legs d e o a gs) b (subst (Contains (on_legs d e o a gs)) (sym x.2)
      (in_map (on_leg d e o a) gs x.0 (from_one_of d gs x.0 x.1)))

  carried_reduced : (X : Dia d) (gs : List (Leg d)) → Valid d X → ValidLegs d X gs → ReducedFor keep.Free d X gs → ReducedFor keep.Free e (o X) (on_legs d e o a gs)
  carried_reduced X gs vX vl r = reduced_more e _ _ _ (image_member gs) (k.reduced X (λ g. IsOneOf d gs g) vX (are_valid d X gs vl) r)

  carried_plain_reduced : (X : Dia d) (gs : List (Leg d)) → Valid d X → ValidLegs d X gs → ReducedFor keep.Plain d X gs
      → ReducedFor keep.Plain e (o X) (on_legs d e o a gs)
  carried_plain_reduced X gs vX vl r =
      plain_reduced_more e _ _ _ (image_member gs) (k.plain_reduced X (λ g. IsOneOf d gs g) vX (are_valid d X gs vl) r)

  -- the images of the factors are factors of the images
  image_factors : (T S : Dia d) (legs gs : List (Leg d)) (c : Arr d) → Valid d S → ValidLegs d T legs → ValidArrow d S T c
      → LegsFactorBy d legs S c gs → LegsFactorBy e (on_legs d e o a legs) (o S) (a c) (on_legs d e o a gs)
  image_factors T S legs gs c vS vl vc f =
      let n = f.count in
      let m1 = length-map legs (on_leg d e o a) in
      let m2 = length-map gs (on_leg d e o a) in
      record {
        count = omega arith;
        sources = λ i l.
            let li : i < length legs = omega arith in
            ap (λ (t : Leg e). t.source) (image_at gs i (omega arith)) ∙ ap o (f.sources i li)
            ∙ ap (λ (t : Leg e). t.source) (sym (image_at legs i li));
        factors = λ i l.
            let li : i < length legs = omega arith in
            let g = f.factors i li in
            rw (image_at legs i li, image_at gs i (omega arith)) (record {
              valid = k.arrows _ _ (leg_at d gs i).arrow (vl i li).source vS g.valid;
              composite = sym (k.composites _ _ _ (leg_at d gs i).arrow c g.valid vc) ∙ ap a g.composite;
            });
      }

  carried_normal_forms : (T : Dia d) (legs : List (Leg d)) → Valid d T → ValidLegs d T legs
      → normal_form keep.Free e (o T) (on_legs d e o a legs) ≡ on_leg d e o a (normal_form keep.Free d T legs)
  carried_normal_forms T legs vT vl =
      let N : Leg d = normal_form keep.Free d T legs in
      let gs : List (Leg d) = factor_legs d N.arrow legs in
      let q = normal_forms_are_degeneracies d T legs vT vl in
      let f = legs_factor_through_normal_forms d T legs vT vl in
      let vc = shape_valid d N.source T N.arrow (degeneracies_have_shape d N.source T N.arrow q.1) in
      let r = reduced_is_normal_form e (o T) (o N.source) (on_legs d e o a legs) (on_legs d e o a gs) (a N.arrow)
      (image_legs T legs vT vl) (carried_degeneracies N.source T N.arrow q.1) (image_factors T N.source legs gs N.arrow q.0 vl vc f)
      (carried_reduced N.source gs q.0 (factors_valid d T N.source legs gs N.arrow vl f) (normal_forms_are_reduced d T legs vT vl)) in
      sym r.0

  carried_plain_forms : (T : Dia d) (legs : List (Leg d)) → Valid d T → Plain d T → ValidLegs d T legs
      → normal_form keep.Plain e (o T) (on_legs d e o a legs) ≡ on_leg d e o a (normal_form keep.Plain d T legs)
  carried_plain_forms T legs vT pT vl =
      let N : Leg d = normal_form keep.Plain d T legs in
      let gs : List (Leg d) = factor_legs d N.arrow legs in
      let q = plain_forms_are_degeneracies d T legs vT pT vl in
      let f = legs_factor_through_plain_forms d T legs vT pT vl in
      let vc = shape_valid d N.source T N.arrow (degeneracies_have_shape d N.source T N.arrow q.2.degeneracy) in
      let r = plain_reduced_is_plain_form e (o T) (o N.source) (on_legs d e o a legs) (on_legs d e o a gs) (a N.arrow)
      (k.plain_diagrams T pT) (image_legs T legs vT vl)
      (record { degeneracy = carried_degeneracies N.source T N.arrow q.2.degeneracy; plain = k.plain_arrows N.arrow q.2.plain })
      (image_factors T N.source legs gs N.arrow q.0 vl vc f)
      (carried_plain_reduced N.source gs q.0 (factors_valid d T N.source legs gs N.arrow vl f) (plain_forms_are_reduced d T legs vT pT vl)) in
      sym r.0

  pub carries_over : CarriesOver d e o a
  carries_over = record {
    diagrams = k.diagrams;
    arrows = k.arrows;
    identities = k.identities;
    composites = k.composites;
    only_identities = k.only_identities;
    plain_arrows = k.plain_arrows;
    plain_diagrams = k.plain_diagrams;
    degeneracies = carried_degeneracies;
    reduced = carried_reduced;
    plain_reduced = carried_plain_reduced;
    normal_forms = carried_normal_forms;
    plain_forms = carried_plain_forms;
  }
