-- The normal form of a valid tree for valid legs is the least degeneracy for them, and the only one.
use Rattle.std.proofs.Common.{◌≡◌, ℕ, ◌<◌, List, length, map, get_or, true, sym, ap, subst, ◌∙◌, arith}
use Rattle.std.proofs.lemmas.List.{get_or-map, length-map}
use Rattle.diagram_terms.specs.declared.place.Keep.TheVariants as keep
use Rattle.diagram_terms.specs.Composite.{comp}
use Rattle.diagram_terms.specs.Decoded.{dia, arr, arr_tree}
use Rattle.diagram_terms.specs.Degeneracy.{Degeneracy}
use Rattle.diagram_terms.specs.Factors.{factor_leg, factor_through}
use Rattle.diagram_terms.specs.Family.{Dia, Arr, no_dia, no_arr}
use Rattle.diagram_terms.specs.Least.{Leg, leg_at, ValidLegs, ValidLeg, IsLeast, FactorsBy}
use Rattle.diagram_terms.specs.NormalForms.{normal_form}
use Rattle.diagram_terms.specs.Shape.{IsDiagram, IsArrow}
use Rattle.diagram_terms.specs.Tree.{Tree, nil}
use Rattle.diagram_terms.specs.Valid.{Valid, ValidArrow}
use Rattle.diagram_terms.specs.ValidTrees.{IsValidTreeAt}
use Rattle.diagram_terms.proofs.Dimensions.{diagram_dimension}
use Rattle.diagram_terms.proofs.Duals.{get-tab, length-tab}
use Rattle.diagram_terms.proofs.FamilyShapes.{diagram_shape, valid_fits, arrow_shape, valid_arrow_fits}
use Rattle.diagram_terms.proofs.Glue.{arr-arr_tree, dia-dia_tree, arr_tree-arr, dia_tree-dia}
use Rattle.diagram_terms.proofs.NotionsOnTrees.{on_arrow_at}
use Rattle.diagram_terms.proofs.Shapes.{one_diagram_dimension}
use Rattle.degeneracy_laws.proofs.Shapes.{degeneracies_are_valid}
use Rattle.normal_form_laws.proofs.DecidedFactors.{factors_are_decided}
use Rattle.normal_form_laws.proofs.Existence.{factors_are_found, normal_forms_are_degeneracies, legs_factor_through_normal_forms, normal_forms_are_least, least_is_normal_form, least_is_reduced}
use Rattle.hashcons.specs.NormalTrees.{TreeLeg, leg_in, tree_leg_at, FactorsAt, IsNormalAt, IsNormalTree}
use Rattle.zigzag_maps.specs.MapTrees.{IsValidArrowAt}
use Rattle.degeneracy.specs.DegeneracyTrees.{IsDegeneracyTree, IsFactorTree}
use Rattle.degeneracy.specs.FactorTrees.{factors_tree, factor_tree}
use Rattle.degeneracy.proofs.FactorsBySlices.{factor_tree_at, factors_tree_at}
use Rattle.normalise.specs.FormTrees.{leg_tree, normal_tree}
use Rattle.normalise.specs.NormalMaps as maps
use Rattle.normalise.proofs.SliceTrees.{LegsIn, in_at}

-- at the dimension of the tree
pub normal_tree_at : (d : ℕ) (t : Tree) (legs : List TreeLeg) → IsDiagram d t
    → normal_tree t legs ≡ leg_tree d (normal_form keep.Free d (dia d t) (map (leg_in d) legs))
unfolding normal_tree
normal_tree_at d t legs h = ap (λ n. leg_tree n (normal_form keep.Free n (dia n t) (map (leg_in n) legs))) (diagram_dimension d t h)

pub leg_in-leg_tree : (d : ℕ) (g : Leg d) → leg_in d (leg_tree d g) ≡ g
leg_in-leg_tree d g = λ i. record { source = dia-dia_tree d g.source i; arrow = arr-arr_tree d g.arrow i }

abbrev pub no_tree_leg : TreeLeg
no_tree_leg = record { source = nil; arrow = nil }

abbrev pub no_leg : (d : ℕ) → Leg d
no_leg d = record { source = no_dia d; arrow = no_arr d }

-- the leg at i
pub leg_there : (d : ℕ) (legs : List TreeLeg) (i : ℕ) → i < length legs → leg_at d (map (leg_in d) legs) i ≡ leg_in d (tree_leg_at legs i)
leg_there d legs i l = get_or-map (leg_in d) legs i no_tree_leg (no_leg d) l

-- legs that are valid as trees are valid
pub legs_valid : (d : ℕ) (t : Tree) (legs : List TreeLeg) → LegsIn d t legs → ValidLegs d (dia d t) (map (leg_in d) legs)
legs_valid d t legs v i l =
    let n = length-map legs (leg_in d) in
    let m : i < length legs = omega arith in
    let h = v (tree_leg_at legs i) (in_at legs i no_tree_leg m) in
    subst (ValidLeg d (dia d t)) (sym (leg_there d legs i m)) (record { source = h.source.valid; arrow = h.valid })

module _ (d : ℕ) (t : Tree) (legs : List TreeLeg) (vt : IsValidTreeAt d t) (vl : LegsIn d t legs) where
  abbrev T : Dia d
  T = dia d t

  abbrev L : List (Leg d)
  L = map (leg_in d) legs

  abbrev N : Leg d
  N = normal_form keep.Free d T L

  abbrev M : TreeLeg
  M = normal_tree t legs

  -- the normal form, read back
  pub normal_read : leg_in d M ≡ N
  normal_read = ap (leg_in d) (normal_tree_at d t legs vt.shape) ∙ leg_in-leg_tree d N

  normal_valid : Valid d N.source × Degeneracy d N.source T N.arrow
  normal_valid = normal_forms_are_degeneracies d T L vt.valid (legs_valid d t legs vl)

  normal_arrow_valid : ValidArrow d N.source T N.arrow
  normal_arrow_valid = (degeneracies_are_valid d N.source T N.arrow normal_valid.1).2

  normal_source_shape : IsDiagram d M.source
  normal_source_shape = subst (λ (g : TreeLeg). IsDiagram d g.source) (sym (normal_tree_at d t legs vt.shape)) (diagram_shape d N.source (valid_fits d N.source normal_valid.0))

  normal_arrow_shape : IsArrow d M.arrow
  normal_arrow_shape = subst (λ (g : TreeLeg). IsArrow d g.arrow) (sym (normal_tree_at d t legs vt.shape)) (arrow_shape d N.arrow (valid_arrow_fits d N.source T N.arrow normal_arrow_valid))

  -- so it is a valid arrow between valid trees
  pub normal_arrow : IsValidArrowAt d M.source t M.arrow
  normal_arrow = record {
    source = record { shape = normal_source_shape; valid = subst (λ (g : Leg d). Valid d g.source) (sym normal_read) normal_valid.0 };
    target = vt;
    shape = normal_arrow_shape;
    valid = subst (λ (g : Leg d). ValidArrow d g.source T g.arrow) (sym normal_read) normal_arrow_valid;
  }

  normal_degenerate : Degeneracy d (dia d M.source) T (arr d M.arrow)
  normal_degenerate = subst (λ (g : Leg d). Degeneracy d g.source T g.arrow) (sym normal_read) normal_valid.1

  -- and a degeneracy
  pub normal_degeneracy : IsDegeneracyTree M.source t M.arrow
  normal_degeneracy = record {
    dim = d;
    at_dim = record { source = normal_source_shape; target = vt.shape; shape = normal_arrow_shape; degeneracy = normal_degenerate };
  }

  pub normal_least : IsLeast keep.Free d T L (dia d M.source) (arr d M.arrow)
  normal_least = subst (λ (g : Leg d). IsLeast keep.Free d T L g.source g.arrow) (sym normal_read) (normal_forms_are_least d T L vt.valid (legs_valid d t legs vl))

  -- ---- each leg factors through it

  module _ (i : ℕ) (l : i < length legs) where
    abbrev G : TreeLeg
    G = tree_leg_at legs i

    leg_is : IsValidArrowAt d G.source t G.arrow
    leg_is = vl G (in_at legs i no_tree_leg l)

    factored : FactorsBy d (dia d G.source) N.source (arr d G.arrow) N.arrow (factor_through d N.arrow (arr d G.arrow))
    factored =
        let n = length-map legs (leg_in d) in
        let by = (legs_factor_through_normal_forms d T L vt.valid (legs_valid d t legs vl)).factors i (omega arith) in
        let is = get_or-map (factor_leg d N.arrow) L i (no_leg d) (no_leg d) (omega arith) in
        let one : FactorsBy d (leg_at d L i).source N.source (leg_at d L i).arrow N.arrow (factor_through d N.arrow (leg_at d L i).arrow) =
        subst (λ (g : Leg d). FactorsBy d (leg_at d L i).source N.source (leg_at d L i).arrow N.arrow g.arrow) is by in
        subst (λ (g : Leg d). FactorsBy d g.source N.source g.arrow N.arrow (factor_through d N.arrow g.arrow)) (leg_there d legs i l) one

    factored_tree : FactorsBy d (dia d G.source) (dia d M.source) (arr d G.arrow) (arr d M.arrow) (factor_through d (arr d M.arrow) (arr d G.arrow))
    factored_tree = subst (λ (g : Leg d). FactorsBy d (dia d G.source) g.source (arr d G.arrow) g.arrow (factor_through d g.arrow (arr d G.arrow))) (sym normal_read) factored

    -- by an arrow
    pub factor_is_arrow : IsArrow d (factor_tree M.arrow G.arrow)
    factor_is_arrow =
        let F : Arr d = factor_through d (arr d M.arrow) (arr d G.arrow) in
        subst (IsArrow d) (sym (factor_tree_at d M.arrow G.arrow leg_is.shape)) (arrow_shape d F (valid_arrow_fits d _ _ F factored_tree.valid))

    pub factor_valid : ValidArrow d (dia d G.source) (dia d M.source) (arr d (factor_tree M.arrow G.arrow))
    factor_valid =
        let F : Arr d = factor_through d (arr d M.arrow) (arr d G.arrow) in
        subst (ValidArrow d (dia d G.source) (dia d M.source)) (sym (ap (arr d) (factor_tree_at d M.arrow G.arrow leg_is.shape) ∙ arr-arr_tree d F)) factored_tree.valid

    -- so the test is passed
    pub leg_factors : factors_tree M.arrow G.arrow ≡ true
    leg_factors =
        factors_tree_at d M.arrow G.arrow leg_is.shape
        ∙ (factors_are_decided d (dia d G.source) (dia d M.source) T (arr d G.arrow) (arr d M.arrow) leg_is.source.valid leg_is.valid normal_degenerate).1
        (factor_through d (arr d M.arrow) (arr d G.arrow), factored_tree)

  -- ---- what is noted for it

  module _ (fs : List Tree) (count : length fs ≡ length legs)
      (by : (i : ℕ) → i < length legs → IsFactorTree (tree_leg_at legs i).source M.source (tree_leg_at legs i).arrow M.arrow (get_or fs i nil)) where
    factor_at : (i : ℕ) → i < length legs → FactorsAt d M.source M.arrow (tree_leg_at legs i) (get_or fs i nil)
    factor_at i l =
        let g = leg_is i l in
        let h = by i l in
        let b = h.between in
        let f = get_or fs i nil in
        let same : b.dim ≡ d = one_diagram_dimension b.dim d (tree_leg_at legs i).source b.at_dim.source g.source.shape in
        let shape = subst (λ (n : ℕ). IsArrow n f) same b.at_dim.shape in
        record {
          shape = shape;
          factor = record {
            valid = subst (λ (n : ℕ). ValidArrow n (dia n (tree_leg_at legs i).source) (dia n M.source) (arr n f)) same b.at_dim.valid;
            composite = sym (ap (arr d) (on_arrow_at _ d f shape) ∙ arr-arr_tree d (comp d (arr d M.arrow) (arr d f))) ∙ ap (arr d) h.composite;
          };
        }

    pub normal_noted : IsNormalTree t legs M.source M.arrow fs
    normal_noted = record {
      dim = d;
      at_dim = record {
        target = vt;
        legs = λ i l. (let g = leg_is i l in record {
          source = g.source;
          arrow = record { source = g.source.shape; target = vt.shape; shape = g.shape; valid = g.valid };
        });
        source = normal_arrow.source;
        arrow = normal_arrow_shape;
        least = normal_least;
        count = count;
        factors = factor_at;
      };
    }

-- ---- what is noted is the normal form

module _ (t : Tree) (gs : List TreeLeg) (s a : Tree) (fs : List Tree) (h : IsNormalTree t gs s a fs) where
  abbrev d : ℕ
  d = h.dim

  abbrev n : IsNormalAt d t gs s a fs
  n = h.at_dim

  valid_there : ValidLegs d (dia d t) (map (leg_in d) gs)
  valid_there i l =
      let k = length-map gs (leg_in d) in
      let g = n.legs i (omega arith) in
      subst (ValidLeg d (dia d t)) (sym (leg_there d gs i (omega arith))) (record { source = g.source.valid; arrow = g.arrow.valid })

  pub noted_is : record { source = s; arrow = a } ≡ normal_tree t gs
  noted_is =
      let p = dia_tree-dia d s n.source.shape in
      let q = arr_tree-arr d a n.arrow in
      let e = least_is_normal_form d (dia d t) (dia d s) (map (leg_in d) gs) (arr d a) valid_there n.least in
      (λ i. record { source = sym p i; arrow = sym q i }) ∙ ap (leg_tree d) e ∙ sym (normal_tree_at d t gs n.target.shape)

  pub noted_factor : (i : ℕ) → i < length gs → get_or fs i nil ≡ factor_tree a (tree_leg_at gs i).arrow
  noted_factor i l =
      let f = n.factors i l in
      let g = n.legs i l in
      let e = factors_are_found d (dia d (tree_leg_at gs i).source) (dia d s) (dia d t) (arr d (tree_leg_at gs i).arrow) (arr d a) (arr d (get_or fs i nil))
      n.least.degeneracy f.factor in
      sym (arr_tree-arr d (get_or fs i nil) f.shape) ∙ ap (arr_tree d) (sym e) ∙ sym (factor_tree_at d a (tree_leg_at gs i).arrow g.arrow.shape)

  pub noted_degeneracy : IsDegeneracyTree s t a
  noted_degeneracy = record {
    dim = d;
    at_dim = record { source = n.source.shape; target = n.target.shape; shape = n.arrow; degeneracy = n.least.degeneracy };
  }

  pub noted_reduced : maps.IsReducedTree s gs fs
  noted_reduced =
      let of : ℕ → Leg d = λ i. record { source = dia d (tree_leg_at gs i).source; arrow = arr d (get_or fs i nil) } in
      let k = length-map gs (leg_in d) in
      let there : (i : ℕ) → i < length gs → leg_at d (maps.factor_legs d gs fs) i ≡ of i = λ i l. get-tab of (length gs) i (no_leg d) l in
      record {
        dim = d;
        shape = n.source.shape;
        reduced = least_is_reduced d (dia d t) (dia d s) (map (leg_in d) gs) (maps.factor_legs d gs fs) (arr d a) valid_there n.least (record {
          count = length-tab of (length gs) ∙ sym k;
          sources = λ i l. ap (λ (g : Leg d). g.source) (there i (omega arith)) ∙ ap (λ (g : Leg d). g.source) (sym (leg_there d gs i (omega arith)));
          factors = λ i l. (let m : i < length gs = omega arith in
              subst (λ (x : Leg d). FactorsBy d x.source (dia d s) x.arrow (arr d a) (leg_at d (maps.factor_legs d gs fs) i).arrow) (sym (leg_there d gs i m))
              (subst (λ (x : Leg d). FactorsBy d (dia d (tree_leg_at gs i).source) (dia d s) (arr d (tree_leg_at gs i).arrow) (arr d a) x.arrow) (sym (there i m)) (n.factors i m).factor));
        });
      }
