-- The slices of legs by their trees are those of the legs that they stand for.
use Rattle.std.proofs.Common.{◌≡◌, ℕ, suc, ◌<◌, ◌≤◌, List, [], ◌∷◌, ◌++◌, length, map, get_or, Bool, cond, nat_eq, refl, sym, ap, subst, ◌∙◌, arith}
use Rattle.std.specs.List.{Contains, filter, flat_map}
use Rattle.std.proofs.lemmas.Bool.{eqb-true}
use Rattle.std.proofs.lemmas.List.{get_or_default, map-append}
use Rattle.std.proofs.lemmas.List.Folds.{flat_map-map}
use Rattle.std.proofs.lemmas.Simd.{map-map}
use Rattle.diagram_terms.specs.Dual.{upto}
use Rattle.diagram_terms.specs.Least.{Leg, reg_leg, sing_leg}
use Rattle.diagram_terms.specs.Shape.{reg_at, sing_at}
use Rattle.diagram_terms.specs.Tree.{Tree, heights, regs, sings}
use Rattle.diagram_terms.proofs.Glue.{dia-sing, dia-sings_len, arr-reg, arr-sing}
use Rattle.diagram_terms.specs.NormalForms.{regular_slices, heights_over, slices_over}
use Rattle.normal_form_laws.proofs.Members.{in_head, in_tail, from_map, from_flat_map, from_filter, from_upto}
use Rattle.zigzag_maps.specs.MapTrees.{IsValidArrowAt}
use Rattle.zigzag_maps.proofs.ValidArrows.{regs_is, heights_is, sings_is, reg_source, reg_is, sing_is}
use Rattle.hashcons.specs.NormalTrees.{TreeLeg, leg_in}
use Rattle.normalise.specs.LegSlices.{reg_leg_tree, sing_leg_tree, regular_slice_trees, heights_to, slice_trees_over}

-- ---- lists, by what they have

pub in_at : {X : Type 0} (xs : List X) (i : ℕ) (d : X) → i < length xs → Contains xs (get_or xs i d)
in_at xs i d l = (i, l, get_or_default xs i (get_or xs i d) d l)

pub map_same_in : {X Y : Type 0} (f g : X → Y) (xs : List X) → ((x : X) → Contains xs x → f x ≡ g x) → map f xs ≡ map g xs
map_same_in f g [] h = refl
map_same_in f g (x ∷ xs) h = λ i. h x (in_head x xs) i ∷ map_same_in f g xs (λ y c. h y (in_tail x y xs c)) i

pub flat_map_same_in : {X Y : Type 0} (f g : X → List Y) (xs : List X) → ((x : X) → Contains xs x → f x ≡ g x) → flat_map f xs ≡ flat_map g xs
flat_map_same_in f g [] h = refl
flat_map_same_in f g (x ∷ xs) h = λ i. h x (in_head x xs) i ++ flat_map_same_in f g xs (λ y c. h y (in_tail x y xs c)) i

pub filter_same_in : {X : Type 0} (f g : X → Bool) (xs : List X) → ((x : X) → Contains xs x → f x ≡ g x) → filter f xs ≡ filter g xs
filter_same_in f g [] h = refl
filter_same_in f g (x ∷ xs) h =
    ap (λ b. cond b (x ∷ filter f xs) (filter f xs)) (h x (in_head x xs))
    ∙ ap (λ ys. cond (g x) (x ∷ ys) ys) (filter_same_in f g xs (λ y c. h y (in_tail x y xs c)))

pub map-flat_map : {X Y Z : Type 0} (f : Y → Z) (g : X → List Y) (xs : List X) → map f (flat_map g xs) ≡ flat_map (λ x. map f (g x)) xs
map-flat_map f g [] = refl
map-flat_map f g (x ∷ xs) = map-append f (g x) (flat_map g xs) ∙ ap (λ ys. map f (g x) ++ ys) (map-flat_map f g xs)

-- legs by what the list has
abbrev pub LegsIn : (d : ℕ) → Tree → List TreeLeg → Type 0
LegsIn d t legs = (g : TreeLeg) → Contains legs g → IsValidArrowAt d g.source t g.arrow

-- ---- the slices

module _ (d : ℕ) (t : Tree) (legs : List TreeLeg) (vl : LegsIn (suc d) t legs) where
  abbrev L : List (Leg (suc d))
  L = map (leg_in (suc d)) legs

  module _ (j : ℕ) (l : j ≤ length (sings t)) where
    within : (g : TreeLeg) → Contains legs g → j < length (regs g.arrow)
    within g c = omega (arith, regs_is d g.source t g.arrow (vl g c))

    pub regular_read : regular_slices d L j ≡ map (leg_in d) (regular_slice_trees legs j)
    regular_read =
        map-map (λ (g : Leg (suc d)). reg_leg d g j) (leg_in (suc d)) legs
        ∙ map_same_in (λ (g : TreeLeg). reg_leg d (leg_in (suc d) g) j) (λ (g : TreeLeg). leg_in d (reg_leg_tree j g)) legs
        (λ g c. let p = reg_source d g.source t g.arrow (vl g c) j in let q = arr-reg d g.arrow j (within g c) in λ i. record { source = p i; arrow = q i })
        ∙ sym (map-map (leg_in d) (reg_leg_tree j) legs)

    pub regular_valid : LegsIn d (reg_at t j) (regular_slice_trees legs j)
    regular_valid x c =
        let m = from_map (reg_leg_tree j) legs x c in
        let g : TreeLeg = m.0 in
        subst (λ (y : TreeLeg). IsValidArrowAt d y.source (reg_at t j) y.arrow) m.2 (reg_is d g.source t g.arrow (vl g m.1) j (within g m.1))

  module _ (k : ℕ) where
    place : (g : TreeLeg) (i : ℕ) → Contains legs g → Contains (heights_to g k) i → i < length (heights g.arrow)
    place g i c h =
        let u = from_upto (length (sings g.source)) i (from_filter (λ i. nat_eq (get_or (heights g.arrow) i 0) k) (upto (length (sings g.source))) i h).0 in
        omega (arith, heights_is d g.source t g.arrow (vl g c))

    each_over : (g : TreeLeg) → Contains legs g
        → map (sing_leg d (leg_in (suc d) g)) (heights_over d (leg_in (suc d) g) k) ≡ map (leg_in d) (map (sing_leg_tree g) (heights_to g k))
    each_over g c =
        let v = vl g c in
        ap (λ n. map (sing_leg d (leg_in (suc d) g)) (filter (λ i. nat_eq (get_or (heights g.arrow) i 0) k) (upto n))) (dia-sings_len d g.source)
        ∙ map_same_in (sing_leg d (leg_in (suc d) g)) (λ i. leg_in d (sing_leg_tree g i)) (heights_to g k)
        (λ i h.
        let w = place g i c h in
        let p = dia-sing d g.source v.source.shape i (omega (arith, heights_is d g.source t g.arrow v)) in
        let q = arr-sing d g.arrow i (omega (arith, sings_is d g.source t g.arrow v)) in
        λ x. record { source = p x; arrow = q x })
        ∙ sym (map-map (leg_in d) (sing_leg_tree g) (heights_to g k))

    pub over_read : slices_over d L k ≡ map (leg_in d) (slice_trees_over legs k)
    over_read =
        flat_map-map (λ (g : Leg (suc d)). map (sing_leg d g) (heights_over d g k)) (leg_in (suc d)) legs
        ∙ flat_map_same_in (λ (g : TreeLeg). map (sing_leg d (leg_in (suc d) g)) (heights_over d (leg_in (suc d) g) k))
        (λ g. map (leg_in d) (map (sing_leg_tree g) (heights_to g k))) legs each_over
        ∙ sym (map-flat_map (leg_in d) (λ g. map (sing_leg_tree g) (heights_to g k)) legs)

    pub over_valid : LegsIn d (sing_at t k) (slice_trees_over legs k)
    over_valid x c =
        let m = from_flat_map (λ g. map (sing_leg_tree g) (heights_to g k)) legs x c in
        let g : TreeLeg = m.0 in
        let n = from_map (sing_leg_tree g) (heights_to g k) x m.2 in
        let f = from_filter (λ i. nat_eq (get_or (heights g.arrow) i 0) k) (upto (length (sings g.source))) n.0 n.1 in
        let goes = eqb-true (get_or (heights g.arrow) n.0 0) k f.1 in
        subst (λ (y : TreeLeg). IsValidArrowAt d y.source (sing_at t k) y.arrow) n.2
        (subst (λ (h : ℕ). IsValidArrowAt d (sing_at g.source n.0) (sing_at t h) (sing_at g.arrow n.0)) goes
        (sing_is d g.source t g.arrow (vl g m.1) n.0 (place g n.0 m.1 n.1)))
