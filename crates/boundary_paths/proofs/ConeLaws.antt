-- Cones and types over valid plain trees are valid and plain.
use Rattle.std.proofs.Common.{◌≡◌, ℕ, zero, suc, ◌<◌, Result, Ok, Err, IfOk, sym, ap, subst, ◌∙◌, arith}
use Rattle.diagram_terms.specs.declared.label.Label.{Label}
use Rattle.diagram_terms.specs.OnTrees.{on_diagram}
use Rattle.diagram_terms.specs.Tree.{Tree}
use Rattle.diagram_terms.specs.Family.{Dia}
use Rattle.diagram_terms.specs.Decoded.{dia, arr}
use Rattle.diagram_terms.specs.Dimension.{dimension_of}
use Rattle.diagram_terms.specs.Shape.{IsDiagram, IsArrow}
use Rattle.diagram_terms.specs.Slices.{AreParallel}
use Rattle.diagram_terms.specs.Plain.{PlainArrow, Plain}
use Rattle.diagram_terms.specs.Valid.{Valid, ValidArrow}
use Rattle.diagram_terms.specs.Cone.{Parallel, cone, mid, type_over, HasLabelsBelow}
use Rattle.diagram_terms.proofs.Dimensions.{diagram_dimension, arrow_dimension}
use Rattle.diagram_terms.proofs.Glue.{arr-arr_tree, dia-dia_tree}
use Rattle.diagram_terms.proofs.NotionsOnTrees.{on_diagram_at}
use Rattle.plain_laws.specs.Cones.{HasGoodCone}
use Rattle.plain_laws.proofs.Cones.{cones_are_good, types_are_good}
use Rattle.hashcons.specs.Contents.{Contents, Grows, diagram_at}
use Rattle.hashcons.specs.Made.{MakesDiagram}
use Rattle.zigzag_maps.specs.declared.map.Map.{Map}
use Rattle.zigzag_maps.specs.Found.{IsValidDiagram}
use Rattle.plain_maps.specs.Plainness.{IsPlainTree, IsPlainDiagramTree}
use Rattle.plain_maps.specs.ValidPlain.{IsValidPlain, IsValidPlainMap}
use Rattle.diagram_terms.specs.ValidTrees.{IsValidTreeAt, IsValidTree, IsArrowBetween}
use Rattle.zigzag_maps.proofs.KeptMaps.{valid_diagram-grows, between_same}
use Rattle.boundary_paths.specs.Cones.{IsConeOf}
use Rattle.diagram_terms.specs.ConeTrees.{cone_tree, mid_tree, type_tree, HasLabelsBelowTree}
use Rattle.boundary_paths.proofs.ConesBySlices.{cone_tree_at, mid_tree_at, type_tree_at, cone_shape, mid_shape, type_shape, source_is, target_is}

-- ---- a tree at the dimension of its shape

plain_at : (d : ℕ) (t : Tree) → IsDiagram d t → IsPlainDiagramTree t → Plain d (dia d t)
plain_at d t h p = subst (λ (P : Type 0). P) (on_diagram_at Plain d t h) p

plain_from : (d : ℕ) (t : Tree) → IsDiagram d t → Plain d (dia d t) → IsPlainDiagramTree t
plain_from d t h p = subst (λ (P : Type 0). P) (sym (on_diagram_at Plain d t h)) p

plain_arrow_from : (d : ℕ) (f : Tree) → IsArrow d f → PlainArrow d (arr d f) → IsPlainTree f
unfolding IsPlainTree
plain_arrow_from d f h p = subst (λ n. PlainArrow n (arr n f)) (sym (arrow_dimension d f h)) p

labels_at : (n d : ℕ) (t : Tree) → IsDiagram d t → HasLabelsBelowTree n t → HasLabelsBelow n d (dia d t)
unfolding HasLabelsBelowTree on_diagram
labels_at n d t h b = subst (λ k. HasLabelsBelow n k (dia k t)) (diagram_dimension d t h) b

parallel_at : (d : ℕ) (s t : Tree) → IsDiagram d s → IsDiagram d t → AreParallel s t → Parallel d (dia d s) (dia d t)
parallel_at zero s t h k p = tt
parallel_at (suc d) s t h k p =
    let n = diagram_dimension (suc d) s h in
    let above : 0 < dimension_of s = omega arith in
    record {
      sources = source_is d s h ∙ ap (dia d) (p.sources above) ∙ sym (source_is d t k);
      targets = target_is d s h ∙ ap (dia d) (p.targets above) ∙ sym (target_is d t k);
    }

-- a valid tree that has the dimension of s
same_dimension : (d : ℕ) (s t : Tree) → IsDiagram d s → dimension_of s ≡ dimension_of t → IsValidTree t → IsValidTreeAt d t
same_dimension d s t h e v =
    subst (λ n. IsValidTreeAt n t) (sym (diagram_dimension v.dim t v.at_dim.shape) ∙ sym e ∙ diagram_dimension d s h) v.at_dim

-- ---- a cone

-- the cone over t with the label x is a valid plain arrow to a valid plain diagram
pub record IsGoodCone (t : Tree) (x : Label) : Type 0 where
  pub valid : IsValidTree (mid_tree t x)
  pub plain : IsPlainDiagramTree (mid_tree t x)
  pub between : IsArrowBetween t (mid_tree t x) (cone_tree t x)
  pub plain_cone : IsPlainTree (cone_tree t x)

good_cone : (d : ℕ) (t : Tree) (x : Label) → IsDiagram d t → HasGoodCone d (dia d t) x → IsGoodCone t x
good_cone d t x h good =
    let f = cone_shape d t x h in
    let m = mid_shape d t x h in
    let cone_is : cone d (dia d t) x ≡ arr d (cone_tree t x) = sym (ap (arr d) (cone_tree_at d t x h) ∙ arr-arr_tree d (cone d (dia d t) x)) in
    let mid_is : mid d (dia d t) x ≡ dia d (mid_tree t x) = sym (ap (dia d) (mid_tree_at d t x h) ∙ dia-dia_tree d (mid d (dia d t) x)) in
    record {
      valid = record { dim = d; at_dim = record { shape = m; valid = subst (Valid d) mid_is good.valid } };
      plain = plain_from d (mid_tree t x) m (subst (Plain d) mid_is good.plain);
      between = record {
        dim = d;
        at_dim = record {
          source = h;
          target = m;
          shape = f;
          valid = subst (λ (M : Dia d). ValidArrow d (dia d t) M (arr d (cone_tree t x))) mid_is
              (subst (ValidArrow d (dia d t) (mid d (dia d t) x)) cone_is good.valid_cone);
        };
      };
      plain_cone = plain_arrow_from d (cone_tree t x) f (subst (PlainArrow d) cone_is good.plain_cone);
    }

pub cone_is_good : (t : Tree) (x : Label) → IsValidTree t → IsPlainDiagramTree t → HasLabelsBelowTree x.dim t → IsGoodCone t x
cone_is_good t x v p b =
    let h = v.at_dim.shape in
    good_cone v.dim t x h (cones_are_good v.dim (dia v.dim t) x v.at_dim.valid (plain_at v.dim t h p) (labels_at x.dim v.dim t h b))

-- ---- a type

-- the type over s and t with the label x is a valid plain diagram
pub record IsGoodType (s t : Tree) (x : Label) : Type 0 where
  pub valid : IsValidTree (type_tree s t x)
  pub plain : IsPlainDiagramTree (type_tree s t x)

good_type : (d : ℕ) (s t : Tree) (x : Label) → IsValidTreeAt d s → IsValidTreeAt d t → IsPlainDiagramTree s → IsPlainDiagramTree t
    → HasLabelsBelowTree x.dim s → HasLabelsBelowTree x.dim t → AreParallel s t → IsGoodType s t x
good_type d s t x vs vt ps pt bs bt parallel =
    let h = vs.shape in
    let k = vt.shape in
    let w = type_shape d s t x h k in
    let type_is : type_over d (dia d s) (dia d t) x ≡ dia (suc d) (type_tree s t x) =
    sym (ap (dia (suc d)) (type_tree_at d s t x h) ∙ dia-dia_tree (suc d) (type_over d (dia d s) (dia d t) x))
    in
    let good =
    types_are_good d (dia d s) (dia d t) x vs.valid (plain_at d s h ps) (labels_at x.dim d s h bs)
    vt.valid (plain_at d t k pt) (labels_at x.dim d t k bt) (parallel_at d s t h k parallel)
    in
    record {
      valid = record { dim = suc d; at_dim = record { shape = w; valid = subst (Valid (suc d)) type_is good.0 } };
      plain = plain_from (suc d) (type_tree s t x) w (subst (Plain (suc d)) type_is good.1);
    }

pub type_is_good : (s t : Tree) (x : Label) → IsValidTree s → IsValidTree t → IsPlainDiagramTree s → IsPlainDiagramTree t
    → HasLabelsBelowTree x.dim s → HasLabelsBelowTree x.dim t → AreParallel s t → IsGoodType s t x
type_is_good s t x vs vt ps pt bs bt parallel =
    good_type vs.dim s t x vs.at_dim (same_dimension vs.dim s t vs.at_dim.shape parallel.dims vt) ps pt bs bt parallel

-- ---- in a store

pub valid_plain_cone : (old new : Contents) (x : Label) (d : ℕ) (m : Map) → Grows old new → IsValidPlain old d
    → HasLabelsBelowTree x.dim (diagram_at old d) → IsConeOf new x d m → IsValidPlainMap new m
valid_plain_cone old new x d m g p b is =
    let d_is = sym (g.diagram_trees d p.valid.of_store) in
    let source_is = ap (diagram_at new) (sym is.source) in
    let good = subst (λ t. IsGoodCone t x) d_is (cone_is_good (diagram_at old d) x p.valid.valid p.plain b) in
    let target_is = sym is.target in
    let arrow_is = sym is.arrow in
    record {
      valid = record {
        source = subst (IsValidDiagram new) (sym is.source) (valid_diagram-grows old new d g p.valid);
        target = record { of_store = is.target_of_store; valid = subst IsValidTree target_is good.valid };
        arrow = is.arrow_of_store;
        between = between_same _ _ _ _ _ _ source_is target_is arrow_is good.between;
      };
      source_plain = subst IsPlainDiagramTree (d_is ∙ source_is) p.plain;
      target_plain = subst IsPlainDiagramTree target_is good.plain;
      plain = subst IsPlainTree arrow_is good.plain_cone;
    }

pub valid_plain_type : {E : Type 0} (old new : Contents) (s t : ℕ) (x : Label) (r : Result ℕ E) → IsValidPlain old s → IsValidPlain old t
    → HasLabelsBelowTree x.dim (diagram_at old s) → HasLabelsBelowTree x.dim (diagram_at old t) → AreParallel (diagram_at old s) (diagram_at old t)
    → MakesDiagram old new (type_tree (diagram_at old s) (diagram_at old t) x) r → IfOk r (IsValidPlain new)
valid_plain_type old new s t x (Err e) vs vt bs bt parallel made = tt
valid_plain_type old new s t x (Ok e) vs vt bs bt parallel made =
    let good = type_is_good _ _ x vs.valid.valid vt.valid.valid vs.plain vt.plain bs bt parallel in
    record {
      valid = record { of_store = made.of_store; valid = subst IsValidTree (sym made.tree) good.valid };
      plain = subst IsPlainDiagramTree (sym made.tree) good.plain;
    }
