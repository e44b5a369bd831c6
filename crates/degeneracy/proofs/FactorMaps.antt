-- The factor of a valid arrow through a degeneracy, on trees: it is one exactly where the test is passed, and the only one.
use Rattle.std.proofs.Common.{◌≡◌, ℕ, true, false, refl, sym, ap, subst, ◌∙◌}
use Rattle.diagram_terms.specs.Tree.{Tree}
use Rattle.diagram_terms.specs.Family.{Dia, Arr}
use Rattle.diagram_terms.specs.Decoded.{dia, arr, arr_tree}
use Rattle.diagram_terms.specs.Composite.{comp}
use Rattle.diagram_terms.specs.Shape.{IsDiagram, IsArrow}
use Rattle.diagram_terms.specs.Valid.{Valid, ValidArrow}
use Rattle.diagram_terms.specs.Degeneracy.{Degeneracy}
use Rattle.diagram_terms.specs.Least.{FactorsBy}
use Rattle.diagram_terms.proofs.Glue.{arr-arr_tree, arr_tree-arr}
use Rattle.diagram_terms.proofs.Shapes.{one_diagram_dimension}
use Rattle.degeneracy_laws.proofs.Shapes.{degeneracies_are_valid}
use Rattle.diagram_terms.specs.Factors.{factor_through}
use Rattle.normal_form_laws.proofs.DecidedFactors.{factors_are_decided}
use Rattle.normal_form_laws.proofs.Existence.{factors_are_found}
use Rattle.diagram_terms.specs.ValidTrees.{IsValidTree, IsArrowBetween}
use Rattle.diagram_terms.proofs.NotionsOnTrees.{on_arrow_at}
use Rattle.hashcons.specs.Contents.{Contents, Grows, diagram_at, arrow_at}
use Rattle.zigzag_maps.specs.declared.map.Map.{Map}
use Rattle.zigzag_maps.specs.Found.{IsValidMap}
use Rattle.zigzag_maps.proofs.KeptMaps.{valid_map-grows}
use Rattle.degeneracy.specs.FoundFactors.{IsArrowWith}
use Rattle.degeneracy.specs.DegeneracyTrees.{IsDegeneracyTree, IsDegeneracyMap, IsFactorTree, IsFactorArrow, IsFactorMap}
use Rattle.degeneracy.specs.FactorTrees.{factors_tree, factor_tree, AreIntoOneAt, AreIntoOne}
use Rattle.degeneracy.proofs.FactorsBySlices.{factor_tree_at, factors_tree_at, factor_shape}

-- a valid arrow f : s → t, and a degeneracy e : r → t
record CanFactorAt (d : ℕ) (s r t f e : Tree) : Type 0 where
  pub source : IsDiagram d s
  pub middle : IsDiagram d r
  pub target : IsDiagram d t
  pub inner : IsArrow d f
  pub outer : IsArrow d e
  pub source_valid : Valid d (dia d s)
  pub valid : ValidArrow d (dia d s) (dia d t) (arr d f)
  pub degeneracy : Degeneracy d (dia d r) (dia d t) (arr d e)

module _ (d : ℕ) (s r t f e : Tree) (c : CanFactorAt d s r t f e) where
  into_at : AreIntoOneAt d e f
  into_at = record {
    outer = c.outer;
    inner = c.inner;
    middle = dia d r;
    source = dia d s;
    target = dia d t;
    outer_valid = (degeneracies_are_valid d (dia d r) (dia d t) (arr d e) c.degeneracy).2;
    inner_valid = c.valid;
  }

  found_at : factors_tree e f ≡ true → IsFactorTree s r f e (factor_tree e f)
  found_at h =
      let W : Dia d = dia d s in
      let R : Dia d = dia d r in
      let T : Dia d = dia d t in
      let F : Arr d = arr d f in
      let E : Arr d = arr d e in
      let by = (factors_are_decided d W R T F E c.source_valid c.valid c.degeneracy).0 (sym (factors_tree_at d e f c.inner) ∙ h) in
      let same = sym (factors_are_found d W R T F E by.0 c.degeneracy by.1) in
      let shape = factor_shape d e f into_at h in
      let is : arr d (factor_tree e f) ≡ factor_through d E F = ap (arr d) (factor_tree_at d e f c.inner) ∙ arr-arr_tree d (factor_through d E F) in
      let of_tree : FactorsBy d W R F E (arr d (factor_tree e f)) = subst (FactorsBy d W R F E) (same ∙ sym is) by.1 in
      record {
        between = record { dim = d; at_dim = record { source = c.source; target = c.middle; shape = shape; valid = of_tree.valid } };
        composite = on_arrow_at _ d (factor_tree e f) shape ∙ ap (arr_tree d) of_tree.composite ∙ arr_tree-arr d f c.inner;
      }

  only_at : (g : Tree) → IsFactorTree s r f e g → (factors_tree e f ≡ true) × (g ≡ factor_tree e f)
  only_at g h =
      let W : Dia d = dia d s in
      let R : Dia d = dia d r in
      let T : Dia d = dia d t in
      let F : Arr d = arr d f in
      let E : Arr d = arr d e in
      let b = h.between in
      let same : b.dim ≡ d = one_diagram_dimension b.dim d s b.at_dim.source c.source in
      let shape = subst (λ (n : ℕ). IsArrow n g) same b.at_dim.shape in
      let by : FactorsBy d W R F E (arr d g) = record {
        valid = subst (λ (n : ℕ). ValidArrow n (dia n s) (dia n r) (arr n g)) same b.at_dim.valid;
        composite = sym (ap (arr d) (on_arrow_at _ d g shape) ∙ arr-arr_tree d (comp d E (arr d g))) ∙ ap (arr d) h.composite;
      } in (
        factors_tree_at d e f c.inner ∙ (factors_are_decided d W R T F E c.source_valid c.valid c.degeneracy).1 (arr d g, by),
        sym (arr_tree-arr d g shape) ∙ ap (arr_tree d) (sym (factors_are_found d W R T F E (arr d g) c.degeneracy by)) ∙ sym (factor_tree_at d e f c.inner),
      )

can_factor : (s r t f e : Tree) → IsValidTree s → (a : IsArrowBetween s t f) → IsDegeneracyTree r t e → CanFactorAt a.dim s r t f e
can_factor s r t f e v a q =
    let d = a.dim in
    let p : v.dim ≡ d = one_diagram_dimension v.dim d s v.at_dim.shape a.at_dim.source in
    let n : q.dim ≡ d = one_diagram_dimension q.dim d t q.at_dim.target a.at_dim.target in
    record {
      source = a.at_dim.source;
      middle = subst (λ (m : ℕ). IsDiagram m r) n q.at_dim.source;
      target = a.at_dim.target;
      inner = a.at_dim.shape;
      outer = subst (λ (m : ℕ). IsArrow m e) n q.at_dim.shape;
      source_valid = subst (λ (m : ℕ). Valid m (dia m s)) p v.at_dim.valid;
      valid = a.at_dim.valid;
      degeneracy = subst (λ (m : ℕ). Degeneracy m (dia m r) (dia m t) (arr m e)) n q.at_dim.degeneracy;
    }

module _ (s r t f e : Tree) (v : IsValidTree s) (a : IsArrowBetween s t f) (q : IsDegeneracyTree r t e) where
  pub into_one : AreIntoOne e f
  into_one = record { dim = a.dim; at_dim = into_at a.dim s r t f e (can_factor s r t f e v a q) }

  pub is_factor : factors_tree e f ≡ true → IsFactorTree s r f e (factor_tree e f)
  is_factor = found_at a.dim s r t f e (can_factor s r t f e v a q)

  pub only_factor : (g : Tree) → IsFactorTree s r f e g → (factors_tree e f ≡ true) × (g ≡ factor_tree e f)
  only_factor = only_at a.dim s r t f e (can_factor s r t f e v a q)

-- ---- in a store

degeneracy_same : (s t f x y g : Tree) → s ≡ x → t ≡ y → f ≡ g → IsDegeneracyTree s t f → IsDegeneracyTree x y g
degeneracy_same s t f x y g p q r h =
    subst (λ (u : Tree). IsDegeneracyTree u y g) p (subst (λ (u : Tree). IsDegeneracyTree s u g) q (subst (IsDegeneracyTree s t) r h))

pub degeneracy_map-grows : (old new : Contents) (m : Map) → Grows old new → IsValidMap old m → IsDegeneracyMap old m → IsDegeneracyMap new m
degeneracy_map-grows old new m g v h = degeneracy_same _ _ _ _ _ _ (sym (g.diagram_trees m.source v.source.of_store))
    (sym (g.diagram_trees m.target v.target.of_store)) (sym (g.arrow_trees m.arrow v.arrow)) h

module _ (c : Contents) (f e : Map) (valid : IsValidMap c f) (meet : f.target ≡ e.target) (q : IsDegeneracyMap c e) where
  between : IsArrowBetween (diagram_at c f.source) (diagram_at c e.target) (arrow_at c f.arrow)
  between = subst (λ (d : ℕ). IsArrowBetween (diagram_at c f.source) (diagram_at c d) (arrow_at c f.arrow)) meet valid.between

  pub maps_into_one : AreIntoOne (arrow_at c e.arrow) (arrow_at c f.arrow)
  maps_into_one = into_one (diagram_at c f.source) (diagram_at c e.source) _ _ _ valid.source.valid between q

  pub some_factor : factors_tree (arrow_at c e.arrow) (arrow_at c f.arrow) ≡ true
      → IsFactorArrow c f e (factor_tree (arrow_at c e.arrow) (arrow_at c f.arrow))
  some_factor h = is_factor (diagram_at c f.source) (diagram_at c e.source) _ _ _ valid.source.valid between q h

  pub one_factor : (g : Tree) → IsFactorArrow c f e g
      → (factors_tree (arrow_at c e.arrow) (arrow_at c f.arrow) ≡ true) × (g ≡ factor_tree (arrow_at c e.arrow) (arrow_at c f.arrow))
  one_factor g h = only_factor (diagram_at c f.source) (diagram_at c e.source) _ _ _ valid.source.valid between q g h

  pub no_factor : factors_tree (arrow_at c e.arrow) (arrow_at c f.arrow) ≡ false → (g : Tree) → IsFactorArrow c f e g → ⊥
  no_factor miss g h = let is = (one_factor g h).0 in absurd (cc)

-- the map that was made is the factor
pub made_factor : (old new : Contents) (f e : Map) (a : ℕ) → Grows old new → IsValidMap old f → IsValidMap old e → f.target ≡ e.target → IsDegeneracyMap old e
    → factors_tree (arrow_at old e.arrow) (arrow_at old f.arrow) ≡ true
    → IsArrowWith new (factor_tree (arrow_at old e.arrow) (arrow_at old f.arrow)) a
    → IsFactorMap new f e (record { source = f.source; target = e.source; arrow = a })
made_factor old new f e a g vf ve meet q has is =
    let wf = valid_map-grows old new f g vf in
    let we = valid_map-grows old new e g ve in
    let p = degeneracy_map-grows old new e g ve q in
    let x = g.arrow_trees e.arrow ve.arrow in
    let y = g.arrow_trees f.arrow vf.arrow in
    let there = (λ i. factors_tree (x i) (y i)) ∙ has in
    let tree = is.tree ∙ (λ i. factor_tree (sym x i) (sym y i)) in
    let made = subst (IsFactorArrow new f e) (sym tree) (some_factor new f e wf meet p there) in
    record {
      source = refl;
      target = refl;
      valid = record { source = wf.source; target = we.source; arrow = is.of_store; between = made.between };
      factor = made;
      only = λ h k. (one_factor new f e wf meet p h k).1 ∙ sym tree;
    }
