-- Legs, keys and normal forms in a store, while it grows.
use Rattle.std.proofs.Common.{◌≡◌, ℕ, zero, suc, ◌<◌, ◌≤◌, ◌+◌, List, [], ◌∷◌, ◌++◌, length, get_or, true, nat_eq, refl, sym, ap, subst, ◌∙◌, arith, inl, inr}
use Rattle.std.proofs.lemmas.Bool.{cases_Bool, cases_lt, eq-eqb, ne_eqb}
use Rattle.std.proofs.lemmas.List.{get_or-map, length-map, get_or_default, get_or_append_left, get_or_push, length_push}
use Rattle.diagram_terms.specs.Composite.{ident}
use Rattle.diagram_terms.specs.Decoded.{dia, arr, arr_tree}
use Rattle.diagram_terms.specs.Dimension.{dimension_of}
use Rattle.diagram_terms.specs.Loose.{is_identity}
use Rattle.diagram_terms.specs.Nodes.{picked}
use Rattle.diagram_terms.specs.NormalForms.{normal_form}
use Rattle.diagram_terms.specs.Operations.{identity_tree, composite_tree}
use Rattle.diagram_terms.specs.Shape.{IsDiagram, reg_at, sing_at}
use Rattle.diagram_terms.specs.Tree.{Tree, nil, regs, sings}
use Rattle.diagram_terms.specs.ValidTrees.{IsValidTreeAt, IsValidTree, IsArrowBetween}
use Rattle.diagram_terms.proofs.Dimensions.{diagram_dimension, diagram_of_dimension, length-regs}
use Rattle.diagram_terms.proofs.Glue.{arr-arr_tree, arr_tree-arr, dia_tree-dia}
use Rattle.diagram_terms.proofs.LooseTests.{is_identity_decides}
use Rattle.diagram_terms.proofs.NotionsOnTrees.{on_diagram_at, on_arrow_at}
use Rattle.diagram_terms.proofs.Shapes.{one_diagram_dimension}
use Rattle.map_laws.proofs.IdentityShapes.{identities_have_shape, shape_means_identity}
use Rattle.normal_form_laws.proofs.Members.{from_map}
use Rattle.hashcons.specs.Contents.{Contents, Grows, Key, IsStore, IsArrowOf, IsNormalOf, diagram_at, arrow_at, leg_of}
use Rattle.hashcons.specs.NormalTrees.{TreeLeg, tree_leg_at, IsNormalTree}
use Rattle.hashcons.specs.Notes as notes
use Rattle.hashcons.proofs.OneMoreTree.{Grows-refl}
use Rattle.hashcons.proofs.Growth.{Grows-trans, store-kept, diagram-kept, arrow-kept, diagram_at-kept, arrow_at-kept}
use Rattle.hashcons.proofs.TableTrees.{length-picked, get_or-picked}
use Rattle.zigzag_maps.specs.declared.map.Map.{Map}
use Rattle.zigzag_maps.specs.Found.{IsValidDiagram, IsValidMap}
use Rattle.zigzag_maps.specs.MapTrees.{IsValidArrowAt, IsValidArrowTree}
use Rattle.zigzag_maps.proofs.IdentitySlices.{identity_shape}
use Rattle.zigzag_maps.proofs.KeptMaps.{valid_diagram-grows, valid_map-grows, between_same}
use Rattle.zigzag_maps.proofs.SliceMaps.{arrow_of_map}
use Rattle.zigzag_maps.proofs.ValidArrows.{reg_tree, sing_tree, valid_arrow, between_of, valid_shape, valid_parts, target_dimension}
use Rattle.degeneracy.specs.DegeneracyTrees.{IsDegeneracyTree, IsDegeneracyMap, IsFactorTree, IsFactorArrow}
use Rattle.degeneracy.specs.FactorTrees.{factors_tree, factor_tree}
use Rattle.degeneracy.proofs.FactorMaps.{some_factor}
use Rattle.normalise.specs.FormTrees.{normal_tree, reg_normal, identity_test, assembled_tree}
use Rattle.normalise.specs.NormalMaps.{no_map, AreMapsInto, as_leg, key_for, IsReducedTree}
use Rattle.normalise.specs.StoreForms.{legs_of, IsLegInto, AreLegsInto, IsKeyOf, IsKeyWith, IsArrowOut, leg_map_at, IsLegWith, IsArrowWith, IsFactorOf, AreFactorsOf}
use Rattle.normalise.proofs.SliceTrees.{LegsIn, map_same_in, in_at}
use Rattle.normalise.proofs.LeastForms.{normal_tree_at, normal_arrow, normal_degeneracy, normal_noted, leg_factors, noted_is, noted_factor, noted_reduced}
use Rattle.normalise.proofs.FormParts.{normal_assembled, reg_arrow}

-- ---- legs and keys while the store grows

pub leg_into-grows : (old new : Contents) (t : Tree) (x : ℕ × ℕ) → Grows old new → IsLegInto old t x → IsLegInto new t x
leg_into-grows old new t x g h = record {
  source = valid_diagram-grows old new x.0 g h.source;
  arrow = g.arrows x.1 h.arrow;
  between = between_same _ _ _ _ _ _ (sym (g.diagram_trees x.0 h.source.of_store)) refl (sym (g.arrow_trees x.1 h.arrow)) h.between;
}

pub legs_into-grow : (old new : Contents) (t : Tree) (xs : List (ℕ × ℕ)) → Grows old new → AreLegsInto old t xs → AreLegsInto new t xs
legs_into-grow old new t xs g h x c = leg_into-grows old new t x g (h x c)

pub leg_of-grows : (old new : Contents) (t : Tree) (x : ℕ × ℕ) → Grows old new → IsLegInto old t x → leg_of new x ≡ leg_of old x
leg_of-grows old new t x g h =
    let p = g.diagram_trees x.0 h.source.of_store in
    let q = g.arrow_trees x.1 h.arrow in
    λ i. record { source = p i; arrow = q i }

pub legs_of-grow : (old new : Contents) (t : Tree) (xs : List (ℕ × ℕ)) → Grows old new → AreLegsInto old t xs → legs_of new xs ≡ legs_of old xs
legs_of-grow old new t xs g h = map_same_in (leg_of new) (leg_of old) xs (λ x c. leg_of-grows old new t x g (h x c))

pub key-grows : (old new : Contents) (k : Key) → Grows old new → IsKeyOf old k → IsKeyOf new k
key-grows old new k g h = record {
  target = valid_diagram-grows old new k.target g h.target;
  legs = subst (λ (t : Tree). AreLegsInto new t k.legs) (sym (g.diagram_trees k.target h.target.of_store)) (legs_into-grow old new _ k.legs g h.legs);
}

pub key_with-grows : (old new : Contents) (t : Tree) (gs : List TreeLeg) (k : Key) → Grows old new → IsKeyWith old t gs k → IsKeyWith new t gs k
key_with-grows old new t gs k g h = record {
  target = valid_diagram-grows old new k.target g h.target;
  tree = g.diagram_trees k.target h.target.of_store ∙ h.tree;
  legs = record {
    into = legs_into-grow old new t k.legs g h.legs.into;
    trees = legs_of-grow old new t k.legs g h.legs.into ∙ h.legs.trees;
  };
}

pub key_of_with : (c : Contents) (t : Tree) (gs : List TreeLeg) (k : Key) → IsKeyWith c t gs k → IsKeyOf c k
key_of_with c t gs k h = record { target = h.target; legs = subst (λ (u : Tree). AreLegsInto c u k.legs) (sym h.tree) h.legs.into }

-- the trees of a key
module _ (old new : Contents) (k : Key) (g : Grows old new) (h : IsKeyOf old k) where
  pub target_same : diagram_at new k.target ≡ diagram_at old k.target
  target_same = g.diagram_trees k.target h.target.of_store

  pub legs_same : legs_of new k.legs ≡ legs_of old k.legs
  legs_same = legs_of-grow old new _ k.legs g h.legs

  -- what is so of the trees of a key stays so
  pub key_before : (P : Tree → List TreeLeg → Type 0) → P (diagram_at new k.target) (legs_of new k.legs) → P (diagram_at old k.target) (legs_of old k.legs)
  key_before P x = subst (λ (u : Tree). P u (legs_of old k.legs)) target_same (subst (P (diagram_at new k.target)) legs_same x)

  pub key_after : (P : Tree → List TreeLeg → Type 0) → P (diagram_at old k.target) (legs_of old k.legs) → P (diagram_at new k.target) (legs_of new k.legs)
  key_after P x = subst (λ (u : Tree). P u (legs_of new k.legs)) (sym target_same) (subst (P (diagram_at old k.target)) (sym legs_same) x)

-- ---- legs as maps

pub leg_map-valid : (c : Contents) (k : Key) (i : ℕ) → IsKeyOf c k → i < length k.legs → IsValidMap c (leg_map_at k i)
leg_map-valid c k i h l =
    let x = h.legs (get_or k.legs i (0, 0)) (in_at k.legs i (0, 0) l) in
    record { source = x.source; target = h.target; arrow = x.arrow; between = x.between }

pub map_as_leg : (c : Contents) (t : Tree) (m : Map) → IsValidMap c m → diagram_at c m.target ≡ t → IsLegInto c t (as_leg m)
map_as_leg c t m v e = record {
  source = v.source;
  arrow = v.arrow;
  between = subst (λ (u : Tree). IsArrowBetween (diagram_at c m.source) u (arrow_at c m.arrow)) e v.between;
}

pub leg_as_map : (c : Contents) (t : ℕ) (x : ℕ × ℕ) → IsValidDiagram c t → IsLegInto c (diagram_at c t) x
    → IsValidMap c (record { source = x.0; target = t; arrow = x.1 })
leg_as_map c t x v h = record { source = h.source; target = v; arrow = h.arrow; between = h.between }

-- ---- legs as trees

pub legs_in : (c : Contents) (t : Tree) (xs : List (ℕ × ℕ)) (v : IsValidTree t) → AreLegsInto c t xs → LegsIn v.dim t (legs_of c xs)
legs_in c t xs v h g m =
    let r = from_map (leg_of c) xs g m in
    let x : ℕ × ℕ = r.0 in
    let p = h x r.1 in
    let a = valid_arrow (diagram_at c x.0) t (arrow_at c x.1) p.source.valid v p.between in
    let same : a.dim ≡ v.dim = one_diagram_dimension a.dim v.dim t a.at_dim.target.shape v.at_dim.shape in
    subst (λ (y : TreeLeg). IsValidArrowAt v.dim y.source t y.arrow) r.2
    (subst (λ (n : ℕ). IsValidArrowAt n (diagram_at c x.0) t (arrow_at c x.1)) same a.at_dim)

pub leg_tree_at : (c : Contents) (xs : List (ℕ × ℕ)) (i : ℕ) → i < length xs → tree_leg_at (legs_of c xs) i ≡ leg_of c (get_or xs i (0, 0))
leg_tree_at c xs i l = get_or-map (leg_of c) xs i (0, 0) _ l

-- ---- one level, at some dimension

module _ (gs : List TreeLeg) where
  assembled_at : (n : ℕ) (t : Tree) → IsValidTreeAt n t → LegsIn n t gs → 0 < n → normal_tree t gs ≡ assembled_tree t gs
  assembled_at zero t v h l = absurd (omega arith)
  assembled_at (suc d) t v h l = normal_assembled d t gs v h

  reg_arrow_at : (n : ℕ) (t : Tree) → IsValidTreeAt n t → LegsIn n t gs → 0 < n → (j : ℕ) → j ≤ length (sings t)
      → IsValidArrowTree (reg_normal t gs j).source (reg_at t j) (reg_normal t gs j).arrow
  reg_arrow_at zero t v h l j k = absurd (omega arith)
  reg_arrow_at (suc d) t v h l j k = record { dim = d; at_dim = reg_arrow d t gs v h j k }

module _ (c : Contents) (k : Key) (h : IsKeyOf c k) where
  abbrev t : Tree
  t = diagram_at c k.target

  abbrev gs : List TreeLeg
  gs = legs_of c k.legs

  are_legs : LegsIn h.target.valid.dim t gs
  are_legs = legs_in c t k.legs h.target.valid h.legs

  pub form_assembled : 0 < dimension_of t → normal_tree t gs ≡ assembled_tree t gs
  form_assembled l =
      let v = h.target.valid in
      assembled_at gs v.dim t v.at_dim are_legs (omega (arith, diagram_dimension v.dim t v.at_dim.shape))

  pub reg_form : 0 < dimension_of t → (j : ℕ) → j ≤ length (sings t)
      → IsValidArrowTree (reg_normal t gs j).source (reg_at t j) (reg_normal t gs j).arrow
  reg_form l =
      let v = h.target.valid in
      reg_arrow_at gs v.dim t v.at_dim are_legs (omega (arith, diagram_dimension v.dim t v.at_dim.shape))

  pub form_arrow : IsValidArrowTree (normal_tree t gs).source t (normal_tree t gs).arrow
  form_arrow = record { dim = h.target.valid.dim; at_dim = normal_arrow h.target.valid.dim t gs h.target.valid.at_dim are_legs }

  pub form_degeneracy : IsDegeneracyTree (normal_tree t gs).source t (normal_tree t gs).arrow
  form_degeneracy = normal_degeneracy h.target.valid.dim t gs h.target.valid.at_dim are_legs

  -- ---- a form in the store

  module _ (x : ℕ × ℕ) (f : IsLegWith c (normal_tree t gs) x) where
    pub form_into : IsLegInto c t x
    form_into =
        let a = subst (λ (g : TreeLeg). IsValidArrowTree g.source t g.arrow) (sym f.trees) form_arrow in
        record {
          source = record { of_store = f.of_store.source; valid = record { dim = a.dim; at_dim = a.at_dim.source } };
          arrow = f.of_store.arrow;
          between = between_of _ _ _ a;
        }

    pub form_map : IsValidMap c (record { source = x.0; target = k.target; arrow = x.1 })
    form_map = leg_as_map c k.target x h.target form_into

    pub form_degenerate : IsDegeneracyMap c (record { source = x.0; target = k.target; arrow = x.1 })
    form_degenerate = subst (λ (g : TreeLeg). IsDegeneracyTree g.source t g.arrow) (sym f.trees) form_degeneracy

    -- each leg factors through it
    pub form_factors : (i : ℕ) → i < length k.legs
        → (g : Tree) × IsFactorArrow c (leg_map_at k i) (record { source = x.0; target = k.target; arrow = x.1 }) g
    form_factors i l =
        let n = length-map k.legs (leg_of c) in
        let passed = leg_factors h.target.valid.dim t gs h.target.valid.at_dim are_legs i (omega arith) in
        let there = subst (λ (g : TreeLeg). factors_tree g.arrow (tree_leg_at gs i).arrow ≡ true) (sym f.trees) passed in
        let here = subst (λ (g : TreeLeg). factors_tree (arrow_at c x.1) g.arrow ≡ true) (leg_tree_at c k.legs i l) there in (
          factor_tree (arrow_at c x.1) (arrow_at c (get_or k.legs i (0, 0)).1),
          some_factor c (leg_map_at k i) (record { source = x.0; target = k.target; arrow = x.1 }) (leg_map-valid c k i h l) refl form_degenerate here,
        )

    -- so it may be noted with the factors
    pub form_noted : (fs : List ℕ) → AreFactorsOf c k x (length k.legs) fs → IsNormalOf c k (record { source = x.0; arrow = x.1; factors = fs })
    form_noted fs by =
        let n = length-map k.legs (leg_of c) in
        let m = length-picked c.arrows fs in
        let len = by.count in
        let is : (i : ℕ) → i < length gs → IsFactorTree (tree_leg_at gs i).source (normal_tree t gs).source (tree_leg_at gs i).arrow (normal_tree t gs).arrow (get_or (picked c.arrows fs) i nil) =
        λ i l. (let j : i < length k.legs = omega arith in
        let one = (by.factors i j).factor in
        let at = get_or-picked c.arrows fs i 0 (omega arith) in
        let a = subst (λ (g : Tree). IsFactorTree (diagram_at c (get_or k.legs i (0, 0)).0) (diagram_at c x.0) (arrow_at c (get_or k.legs i (0, 0)).1) (arrow_at c x.1) g) (sym at) one in
        let b = subst (λ (g : TreeLeg). IsFactorTree (diagram_at c (get_or k.legs i (0, 0)).0) g.source (arrow_at c (get_or k.legs i (0, 0)).1) g.arrow (get_or (picked c.arrows fs) i nil)) f.trees a in
        subst (λ (g : TreeLeg). IsFactorTree g.source (normal_tree t gs).source g.arrow (normal_tree t gs).arrow (get_or (picked c.arrows fs) i nil)) (sym (leg_tree_at c k.legs i j)) b) in
        record {
          target = h.target.of_store;
          legs = λ i l. (let y = h.legs (get_or k.legs i (0, 0)) (in_at k.legs i (0, 0) l) in record { source = y.source.of_store; arrow = y.arrow });
          source = f.of_store.source;
          arrow = f.of_store.arrow;
          factors = record { below = λ i l. (by.factors i (omega arith)).of_store };
          normal = subst (λ (g : TreeLeg). IsNormalTree t gs g.source g.arrow (picked c.arrows fs)) (sym f.trees)
              (normal_noted h.target.valid.dim t gs h.target.valid.at_dim are_legs (picked c.arrows fs) (omega arith) is);
        }

-- ---- what is noted

module _ (c : Contents) (k : Key) (m : notes.Normal) (h : IsNormalOf c k m) where
  pub known_is : IsLegWith c (normal_tree (diagram_at c k.target) (legs_of c k.legs)) (m.source, m.arrow)
  known_is = record { of_store = record { source = h.source; arrow = h.arrow }; trees = noted_is _ _ _ _ _ h.normal }

  factors_len : length m.factors ≡ length k.legs
  factors_len = sym (length-picked c.arrows m.factors) ∙ h.normal.at_dim.count ∙ length-map k.legs (leg_of c)

  pub known_len : (i : ℕ) → i < length k.legs → i < length m.factors
  known_len i l = let e = factors_len in omega arith

  pub known_factor_is : (i : ℕ) → i < length k.legs
      → IsArrowWith c (factor_tree (normal_tree (diagram_at c k.target) (legs_of c k.legs)).arrow (tree_leg_at (legs_of c k.legs) i).arrow) (get_or m.factors i 0)
  known_factor_is i l =
      let n = length-map k.legs (leg_of c) in
      let e = noted_factor _ _ _ _ _ h.normal i (omega arith) in
      record {
        of_store = h.factors.below i (known_len i l);
        tree = sym (get_or-picked c.arrows m.factors i 0 (known_len i l)) ∙ e
            ∙ ap (λ (g : TreeLeg). factor_tree g.arrow (tree_leg_at (legs_of c k.legs) i).arrow) known_is.trees;
      }

  -- a factor of a leg is an arrow out of its source
  pub known_factor_out : (i : ℕ) → i < length k.legs → IsKeyOf c k → IsArrowOut c (get_or k.legs i (0, 0)).0 (get_or m.factors i 0)
  known_factor_out i l w =
      let n = length-map k.legs (leg_of c) in
      let j : i < length (legs_of c k.legs) = omega arith in
      let q = h.normal in
      let f = q.at_dim.factors i j in
      let g = q.at_dim.legs i j in
      let x = w.legs (get_or k.legs i (0, 0)) (in_at k.legs i (0, 0) l) in
      let at = get_or-picked c.arrows m.factors i 0 (known_len i l) in
      record {
        source = x.source;
        arrow = h.factors.below i (known_len i l);
        target = diagram_at c m.source;
        target_valid = record { dim = q.dim; at_dim = q.at_dim.source };
        between = subst (IsArrowBetween (diagram_at c (get_or k.legs i (0, 0)).0) (diagram_at c m.source)) at
            (subst (λ (y : TreeLeg). IsArrowBetween y.source (diagram_at c m.source) (get_or (picked c.arrows m.factors) i nil)) (leg_tree_at c k.legs i l)
            (record { dim = q.dim; at_dim = record { source = g.source.shape; target = q.at_dim.source.shape; shape = f.shape; valid = f.factor.valid } }));
      }

-- ---- identities

identity_passes : (t : Tree) → IsValidTree t → identity_test (identity_tree t) ≡ true
identity_passes t v =
    let d = v.dim in
    let is : arr d (identity_tree t) ≡ ident d (dia d t) = ap (arr d) (on_diagram_at _ d t v.at_dim.shape) ∙ arr-arr_tree d (ident d (dia d t)) in
    on_arrow_at is_identity d (identity_tree t) (identity_shape d t v.at_dim.shape) ∙ ap (is_identity d) is
    ∙ (is_identity_decides d (ident d (dia d t))).1 (identities_have_shape d (dia d t) v.at_dim.valid)

identity_means : (s t a : Tree) → IsValidTree s → IsValidTree t → IsArrowBetween s t a → identity_test a ≡ true → a ≡ identity_tree s
identity_means s t a vs vt b e =
    let v = valid_arrow s t a vs vt b in
    let d = v.dim in
    let w = v.at_dim in
    let shape = (is_identity_decides d (arr d a)).0 (sym (on_arrow_at is_identity d a w.shape) ∙ e) in
    sym (arr_tree-arr d a w.shape) ∙ ap (arr_tree d) (shape_means_identity d (dia d s) (dia d t) (arr d a) w.source.valid w.target.valid w.valid shape).1
    ∙ sym (on_diagram_at _ d s w.source.shape)

-- an arrow out of a diagram is an identity exactly if it is the identity of the diagram
pub identity_told : (old new : Contents) (s a m : ℕ) → Grows old new → IsStore new → IsArrowOut old s a → IsArrowOf new m
    → arrow_at new m ≡ identity_tree (diagram_at old s) → nat_eq m a ≡ identity_test (arrow_at old a)
identity_told old new s a m g store h l e = elim (cases_Bool (identity_test (arrow_at old a))) [
  | inl p ↦ (let is = identity_means _ _ _ h.source.valid h.target_valid h.between p in
      eq-eqb m a (store.arrows_once m a l (g.arrows a h.arrow) (e ∙ sym is ∙ sym (g.arrow_trees a h.arrow))) ∙ sym p)
  | inr n ↦ (ne_eqb m a (λ q. (let is : arrow_at old a ≡ identity_tree (diagram_at old s) = sym (g.arrow_trees a h.arrow) ∙ ap (arrow_at new) (sym q) ∙ e in
      let passed = ap identity_test is ∙ identity_passes (diagram_at old s) h.source.valid in
      absurd (cc))) ∙ sym n)
]

pub arrow_out-grows : (old new : Contents) (s a : ℕ) → Grows old new → IsArrowOut old s a → IsArrowOut new s a
arrow_out-grows old new s a g h = record {
  source = valid_diagram-grows old new s g h.source;
  arrow = g.arrows a h.arrow;
  target = h.target;
  target_valid = h.target_valid;
  between = between_same _ _ _ _ _ _ (sym (g.diagram_trees s h.source.of_store)) refl (sym (g.arrow_trees a h.arrow)) h.between;
}

pub leg_with-grows : (old new : Contents) (u : TreeLeg) (x : ℕ × ℕ) → Grows old new → IsLegWith old u x → IsLegWith new u x
leg_with-grows old new u x g h =
    let p = g.diagram_trees x.0 h.of_store.source in
    let q = g.arrow_trees x.1 h.of_store.arrow in
    record {
      of_store = record { source = g.diagrams x.0 h.of_store.source; arrow = g.arrows x.1 h.of_store.arrow };
      trees = (λ i. record { source = p i; arrow = q i }) ∙ h.trees;
    }

pub arrow_with-grows : (old new : Contents) (f : Tree) (a : ℕ) → Grows old new → IsArrowWith old f a → IsArrowWith new f a
arrow_with-grows old new f a g h = record { of_store = g.arrows a h.of_store; tree = g.arrow_trees a h.of_store ∙ h.tree }

-- ---- the target and the legs of a call, and its answer

pub maps_key : (c : Contents) (t : ℕ) (ms : List Map) → IsValidDiagram c t → AreMapsInto c t ms → IsKeyOf c (key_for t ms)
maps_key c t ms v h = record {
  target = v;
  legs = λ x m. (let r = from_map as_leg ms x m in
      let i : ℕ = r.1.0 in
      let same : get_or ms i no_map ≡ r.0 = sym (get_or_default ms i r.0 no_map r.1.1) ∙ r.1.2 in
      let w = h.valid i r.1.1 in
      let one = map_as_leg c (diagram_at c t) (get_or ms i no_map) w (ap (diagram_at c) (h.into i r.1.1)) in
      subst (IsLegInto c (diagram_at c t)) (ap as_leg same ∙ r.2) one);
}

module _ (c : Contents) (k : Key) (m : notes.Normal) (w : IsKeyOf c k) (h : IsNormalOf c k m) where
  pub answer_valid : IsValidMap c (record { source = m.source; target = k.target; arrow = m.arrow })
  answer_valid = form_map c k w (m.source, m.arrow) (known_is c k m h)

  pub answer_degeneracy : IsDegeneracyMap c (record { source = m.source; target = k.target; arrow = m.arrow })
  answer_degeneracy = form_degenerate c k w (m.source, m.arrow) (known_is c k m h)

  pub answer_reduced : IsReducedTree (diagram_at c m.source) (legs_of c k.legs) (picked c.arrows m.factors)
  answer_reduced = noted_reduced _ _ _ _ _ h.normal

reg_valid_at : (n : ℕ) (t : Tree) → IsValidTreeAt n t → 0 < n → (j : ℕ) → j ≤ length (sings t) → IsValidTree (reg_at t j)
reg_valid_at zero t v l j k = absurd (omega arith)
reg_valid_at (suc d) t v l j k = record { dim = d; at_dim = reg_tree d t v j k }

sing_valid_at : (n : ℕ) (t : Tree) → IsValidTreeAt n t → 0 < n → (j : ℕ) → j < length (sings t) → IsValidTree (sing_at t j)
sing_valid_at zero t v l j k = absurd (omega arith)
sing_valid_at (suc d) t v l j k = record { dim = d; at_dim = sing_tree d t v j k }

-- ---- parts of the target of a key, and its legs above dimension 0

pub form_grows : (old new : Contents) (k : Key) → Grows old new → IsKeyOf old k → (x : ℕ × ℕ)
    → IsLegWith old (normal_tree (diagram_at old k.target) (legs_of old k.legs)) x → IsLegWith new (normal_tree (diagram_at new k.target) (legs_of new k.legs)) x
form_grows old new k g h x f = key_after old new k g h (λ t gs. IsLegWith new (normal_tree t gs) x) (leg_with-grows old new _ x g f)

form_zero_at : (t : Tree) (gs : List TreeLeg) → IsDiagram zero t → normal_tree t gs ≡ record { source = t; arrow = identity_tree t }
unfolding normal_form
form_zero_at t gs h =
    let p = dia_tree-dia zero t h in
    let q = on_diagram_at (λ d x. arr_tree d (ident d x)) zero t h in
    normal_tree_at zero t gs h ∙ (λ i. record { source = p i; arrow = sym q i })

module _ (c : Contents) (k : Key) (h : IsKeyOf c k) where
  pub form_zero : dimension_of (diagram_at c k.target) ≡ 0 → normal_tree (diagram_at c k.target) (legs_of c k.legs)
      ≡ record { source = diagram_at c k.target; arrow = identity_tree (diagram_at c k.target) }
  form_zero e = form_zero_at (diagram_at c k.target) (legs_of c k.legs) (diagram_of_dimension zero (diagram_at c k.target) (valid_shape (diagram_at c k.target) h.target.valid) e)

  module _ (above : 0 < dimension_of (diagram_at c k.target)) where
    pub regs_of_target : length (regs (diagram_at c k.target)) ≡ suc (length (sings (diagram_at c k.target)))
    regs_of_target = length-regs (diagram_at c k.target) (valid_shape (diagram_at c k.target) h.target.valid) above

    pub reg_valid : (r j : ℕ) → j ≤ length (sings (diagram_at c k.target)) → diagram_at c r ≡ reg_at (diagram_at c k.target) j → IsValidTree (diagram_at c r)
    reg_valid r j l e = subst IsValidTree (sym e) (reg_valid_at h.target.valid.dim (diagram_at c k.target) h.target.valid.at_dim
        (omega (arith, diagram_dimension h.target.valid.dim (diagram_at c k.target) h.target.valid.at_dim.shape)) j l)

    pub sing_valid : (r j : ℕ) → j < length (sings (diagram_at c k.target)) → diagram_at c r ≡ sing_at (diagram_at c k.target) j → IsValidTree (diagram_at c r)
    sing_valid r j l e = subst IsValidTree (sym e) (sing_valid_at h.target.valid.dim (diagram_at c k.target) h.target.valid.at_dim
        (omega (arith, diagram_dimension h.target.valid.dim (diagram_at c k.target) h.target.valid.at_dim.shape)) j l)

    module _ (i : ℕ) (l : i < length k.legs) where
      pub leg_map-above : 0 < dimension_of (arrow_at c (leg_map_at k i).arrow)
      leg_map-above = let e = target_dimension _ _ _ (leg_map-valid c k i h l).between in omega arith

      pub leg_map-regs : length (regs (arrow_at c (leg_map_at k i).arrow)) ≡ suc (length (sings (diagram_at c k.target)))
      leg_map-regs = (valid_parts _ _ _ (arrow_of_map c (leg_map_at k i) (leg_map-valid c k i h l)) leg_map-above).regs_len

-- ---- factors while the store grows

pub factor-grows : (old new : Contents) (f e : Map) (a : ℕ) → Grows old new → IsValidMap old f → IsValidMap old e → IsFactorOf old f e a → IsFactorOf new f e a
factor-grows old new f e a g vf ve h =
    let p = g.arrow_trees e.arrow ve.arrow in
    let q = g.arrow_trees a h.of_store in
    record {
      of_store = g.arrows a h.of_store;
      factor = record {
        between = between_same _ _ _ _ _ _ (sym (g.diagram_trees f.source vf.source.of_store)) (sym (g.diagram_trees e.source ve.source.of_store)) (sym q) h.factor.between;
        composite = (λ i. composite_tree (p i) (q i)) ∙ h.factor.composite ∙ sym (g.arrow_trees f.arrow vf.arrow);
      };
    }

pub factors_none : (c : Contents) (k : Key) (x : ℕ × ℕ) → AreFactorsOf c k x 0 []
factors_none c k x = record { count = refl; factors = λ i l. absurd (omega arith) }

module _ (old new : Contents) (k : Key) (x : ℕ × ℕ) (n a : ℕ) (fs : List ℕ) (g : Grows old new) (h : IsKeyOf old k)
    (ve : IsValidMap old (record { source = x.0; target = k.target; arrow = x.1 })) (l : n < length k.legs)
    (all : AreFactorsOf old k x n fs) (one : IsFactorOf new (leg_map_at k n) (record { source = x.0; target = k.target; arrow = x.1 }) a) where
  factor_there : (i : ℕ) → i < n + 1 → IsFactorOf new (leg_map_at k i) (record { source = x.0; target = k.target; arrow = x.1 }) (get_or (fs ++ a ∷ []) i 0)
  factor_there i m = elim (cases_lt i n) [
    | inl q ↦ (let len = all.count in
        subst (λ (b : ℕ). IsFactorOf new (leg_map_at k i) (record { source = x.0; target = k.target; arrow = x.1 }) b) (sym (get_or_append_left fs (a ∷ []) 0 i (omega arith)))
        (factor-grows old new (leg_map_at k i) (record { source = x.0; target = k.target; arrow = x.1 }) (get_or fs i 0) g (leg_map-valid old k i h (omega arith)) ve (all.factors i q)))
    | inr q ↦ (let e : n ≡ i = omega arith in
        subst (λ (j : ℕ). IsFactorOf new (leg_map_at k j) (record { source = x.0; target = k.target; arrow = x.1 }) (get_or (fs ++ a ∷ []) j 0)) e
        (subst (λ (b : ℕ). IsFactorOf new (leg_map_at k n) (record { source = x.0; target = k.target; arrow = x.1 }) b) (sym (get_or_push fs a 0 n all.count)) one))
  ]

  pub factors_more : AreFactorsOf new k x (n + 1) (fs ++ a ∷ [])
  factors_more = record { count = (let m = length_push fs a in let len = all.count in omega arith); factors = factor_there }

pub ruleset forming = (Grows-refl, Grows-trans, store-kept, diagram-kept, arrow-kept, diagram_at-kept, arrow_at-kept, valid_map-grows, valid_diagram-grows, key-grows, arrow_out-grows)
