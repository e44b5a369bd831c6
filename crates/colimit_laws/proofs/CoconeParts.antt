-- A cocone over a shape gives one over each part.
use Rattle.std.proofs.Common.{◌≡◌, ℕ, zero, suc, ◌<◌, map, sym, ap, ◌∙◌, subst, arith}
use Rattle.std.proofs.lemmas.List.{get_or-map, length-map}
use Rattle.diagram_terms.specs.declared.place.Height.{Height}
use Rattle.diagram_terms.specs.declared.place.Height.TheVariants as slice
use Rattle.diagram_terms.specs.Family.{Dia, Arr, no_arr, sing, fwd, bwd, height, arrow_sing}
use Rattle.diagram_terms.specs.Composite.{comp}
use Rattle.diagram_terms.specs.Valid.{ValidArrow}
use Rattle.diagram_terms.proofs.Duals.{fibre_low, fibre_high}
use Rattle.map_laws.proofs.ValidComposites.{composites_are_valid}
use Rattle.diagram_terms.specs.Ranks.{Ranks}
use Rattle.colimit_laws.specs.RankConditions.{AreRanks}
use Rattle.diagram_terms.specs.Shapes.{Shape, ShapeArrow, IsShape, heights_of, object}
use Rattle.diagram_terms.specs.Cocones.{Cocone, leg, IsCocone}
use Rattle.diagram_terms.specs.ClassParts.{SliceName, named, names, place, height_slice, part}
use Rattle.colimit_laws.proofs.Names.{IsInPart, place-within, name-at_place}
use Rattle.colimit_laws.proofs.Ranked.{all_monotone, arrow-of}
use Rattle.colimit_laws.proofs.Parts.{PartArrow, is_bwd, is_fwd, is_slice, objects-len, object-at_place, each_object, sing-in_part, object-within, part_arrow}
use Rattle.colimit_laws.proofs.PartShapes.{left-in_part, right-in_part, sing-height, reg-height, target-in_part}
use Rattle.colimit_laws.proofs.CoconeHeights.{sing-along, goes_to, goes_to-from, goes_to-below}

module _ (d : ℕ) (S : Shape (suc d)) (vS : IsShape (suc d) S) (r : Ranks) (ar : AreRanks (heights_of d S) r)
    (u : Cocone (suc d)) (cu : IsCocone (suc d) S u) (k : ℕ) where
  abbrev given_leg : ℕ → Arr (suc d)
  given_leg x = leg (suc d) u x

  abbrev D : Dia (suc d)
  D = u.apex

  abbrev l : ℕ
  l = goes_to d S vS r ar u cu k

  -- at a singular slice its own, and at a regular one that on its right after the leg forward
  abbrev leg_at : ℕ → Height → Arr d
  leg_at x (slice.S i) = arrow_sing d (given_leg x) i
  leg_at x (slice.R t) = comp d (arrow_sing d (given_leg x) t) (fwd d (object (suc d) S x) t)

  abbrev pub part_cocone : Cocone d
  part_cocone = record { apex = sing d D l; legs = map (λ a. leg_at a.object a.height) (names r k) }

  part-leg : (x : ℕ) (h : Height) → IsInPart r k x h → leg d part_cocone (place r k x h) ≡ leg_at x h
  part-leg x h p =
      let m = all_monotone d S vS r ar in
      get_or-map (λ (a : SliceName). leg_at a.object a.height) (names r k) (place r k x h) (named x h) (no_arr d) (place-within r k m x h p)
      ∙ ap (λ (a : SliceName). leg_at a.object a.height) (name-at_place r k m x h (named x h) p)

  -- the leg at a member
  pub part-leg_sing : (x i : ℕ) → IsInPart r k x (slice.S i) → leg d part_cocone (place r k x (slice.S i)) ≡ arrow_sing d (given_leg x) i
  part-leg_sing x i p = part-leg x (slice.S i) p

  sing-valid : (x i : ℕ) → IsInPart r k x (slice.S i) → ValidArrow d (sing d (object (suc d) S x) i) (sing d D l) (arrow_sing d (given_leg x) i)
  sing-valid x i p =
      subst (λ (n : ℕ). ValidArrow d (sing d (object (suc d) S x) i) (sing d D n) (arrow_sing d (given_leg x) i)) (goes_to-from d S vS r ar u cu k x i p)
      ((cu.legs x (object-within d S vS r ar k x (slice.S i) p)).sings i (sing-height d S vS r ar k x i p))

  module _ (lk : k < r.count) where
    leg-valid : (x : ℕ) (h : Height) → IsInPart r k x h → ValidArrow d (height_slice d (object (suc d) S x) h) (sing d D l) (leg_at x h)
    leg-valid x (slice.S i) p = sing-valid x i p
    leg-valid x (slice.R zero) p = absurd (let a = p.height.0 in omega arith)
    leg-valid x (slice.R (suc t)) p =
        let lx = object-within d S vS r ar k x (slice.R (suc t)) p in
        let q = right-in_part d S vS r ar k x t p in
        let lt = reg-height d S vS r ar k x (suc t) p in
        let v = vS.valid x lx in
        composites_are_valid d _ _ _ (fwd d (object (suc d) S x) (suc t)) (arrow_sing d (given_leg x) (suc t)) (v.regs (suc t) (omega arith)) (v.sings (suc t) lt)
        (cu.apex.sings l (goes_to-below d S vS r ar u cu k lk)) (v.fwds (suc t) lt) (sing-valid x (suc t) q)

    -- two members that follow one another go to one height
    inner : (x t : ℕ) → IsInPart r k x (slice.R (suc t))
        → comp d (arrow_sing d (given_leg x) t) (bwd d (object (suc d) S x) t) ≡ comp d (arrow_sing d (given_leg x) (suc t)) (fwd d (object (suc d) S x) (suc t))
    inner x t p =
        let lx = object-within d S vS r ar k x (slice.R (suc t)) p in
        let a = goes_to-from d S vS r ar u cu k x t (left-in_part d S vS r ar k x t p) in
        let b = goes_to-from d S vS r ar u cu k x (suc t) (right-in_part d S vS r ar k x t p) in
        let v = cu.legs x lx in
        let lt = reg-height d S vS r ar k x (suc t) p in
        let n = v.heights_len in
        (v.squares l (goes_to-below d S vS r ar u cu k lk)).inner t (fibre_low (given_leg x).heights v.monotone t l a)
        (fibre_high (given_leg x).heights v.monotone (suc t) l (omega arith) b)

    agree : (b : ShapeArrow d) → PartArrow d S r k b → comp d (leg d part_cocone b.to) b.arrow ≡ leg d part_cocone b.from
    agree b (is_bwd x t p) =
        ap (λ (f : Arr d). comp d f (bwd d (object (suc d) S x) t)) (part-leg x (slice.S t) (left-in_part d S vS r ar k x t p))
        ∙ inner x t p ∙ sym (part-leg x (slice.R (suc t)) p)
    agree b (is_fwd x t p) =
        ap (λ (f : Arr d). comp d f (fwd d (object (suc d) S x) (suc t))) (part-leg x (slice.S (suc t)) (right-in_part d S vS r ar k x t p))
        ∙ sym (part-leg x (slice.R (suc t)) p)
    agree b (is_slice g c i low high) =
        let v = arrow-of d S vS r ar g c in
        let p = sing-in_part d S vS r ar k g.from i v.from_within low high in
        ap (λ (f : Arr d). comp d f (arrow_sing d g.arrow i)) (part-leg g.to (slice.S (height d g.arrow i)) (target-in_part d S vS r ar k g c i p))
        ∙ sing-along d S vS r ar u cu g c i (sing-height d S vS r ar k g.from i p) ∙ sym (part-leg g.from (slice.S i) p)

    pub part-cocone : IsCocone d (part d S r k) part_cocone
    part-cocone = record {
      legs_len = length-map (names r k) _ ∙ sym (objects-len d S vS r ar k);
      apex = cu.apex.sings l (goes_to-below d S vS r ar u cu k lk);
      legs = each_object d S vS r ar k (λ j. ValidArrow d (object d (part d S r k) j) (sing d D l) (leg d part_cocone j))
          (λ x h p. rw ((object-at_place d S vS r ar k x h p).1, part-leg x h p) (leg-valid x h p));
      agree = λ b c. agree b (part_arrow d S vS r ar k b c);
    }
