-- The ids of the ends and of the arrow of a map that is brought.
use Rattle.std.proofs.Common.{◌≡◌, ℕ, ◌<◌, List, length, get_or, sym, ap, subst, ◌∙◌, arith}
use Rattle.std.proofs.lemmas.List.{get_or_default}
use Rattle.diagram_terms.specs.declared.node.Node.{Node}
use Rattle.diagram_terms.specs.Dimension.{dimension_of}
use Rattle.diagram_terms.specs.Nodes.{AreNodes, tree_at}
use Rattle.diagram_terms.specs.Shape.{IsArrow, IsDiagram}
use Rattle.diagram_terms.proofs.NodeShapes.{arrow_at, diagram_at}
use Rattle.diagram_terms.proofs.Shapes.{one_kind}
use Rattle.hashcons.specs.declared.id.AnyId.{AnyId}
use Rattle.hashcons.specs.declared.id.AnyId.TheVariants as id
use Rattle.hashcons.specs.Contents.{Contents, IsStore}
use Rattle.hashcons.specs.Contents as store
use Rattle.hashcons.specs.Ids.{GathersIds, IsArrowId, IsDiagramId, IsOf, id_at, tree_of}
use Rattle.node_json.specs.Documents.{IsArrowPlace, IsDiagramPlace}

module _ (nodes : List Node) (form : AreNodes nodes) (c : Contents) (ids : List AnyId) (of : GathersIds c ids (length nodes) (tree_at nodes)) (is_store : IsStore c) where
  read_id : (place : ℕ) (x : AnyId) → place < length nodes → x ≡ get_or ids place x → x ≡ id_at ids place
  read_id place x l is = is ∙ get_or_default ids place x (id.Diagram 0) (let n = of.len in omega arith)

  pub place_within : (place : ℕ) → place < length nodes → place < length ids
  place_within place l = let n = of.len in omega arith

  module _ (place : ℕ) (at : IsDiagramPlace nodes place) where
    diagram_kind : (x : AnyId) → IsOf c x → tree_of c x ≡ tree_at nodes place → IsDiagramId x
    diagram_kind (id.Diagram d) l e = tt
    diagram_kind (id.Arrow a) l e =
        absurd (one_kind at.dim (dimension_of (store.arrow_at c a)) (tree_at nodes place) (diagram_at nodes form place at.dim at.within at.stands)
        (subst (IsArrow (dimension_of (store.arrow_at c a))) e (is_store.arrows a l)))

    pub is_diagram : (x : AnyId) → x ≡ get_or ids place x → IsDiagramId x
    is_diagram x is = subst IsDiagramId (sym (read_id place x at.within is)) (diagram_kind (id_at ids place) (of.of_store place at.within) (of.are place at.within))

    pub diagram_of_store : (x : AnyId) (d : ℕ) → x ≡ get_or ids place x → x ≡ id.Diagram d → store.IsDiagramOf c d
    diagram_of_store x d is names = subst (IsOf c) (sym (read_id place x at.within is) ∙ names) (of.of_store place at.within)

    pub diagram_tree : (x : AnyId) (d : ℕ) → x ≡ get_or ids place x → x ≡ id.Diagram d → store.diagram_at c d ≡ tree_at nodes place
    diagram_tree x d is names = ap (tree_of c) (sym (sym (read_id place x at.within is) ∙ names)) ∙ of.are place at.within

  module _ (place : ℕ) (at : IsArrowPlace nodes place) where
    arrow_kind : (x : AnyId) → IsOf c x → tree_of c x ≡ tree_at nodes place → IsArrowId x
    arrow_kind (id.Diagram d) l e =
        absurd (one_kind (dimension_of (store.diagram_at c d)) at.dim (tree_at nodes place)
        (subst (IsDiagram (dimension_of (store.diagram_at c d))) e (is_store.diagrams d l)) (arrow_at nodes form place at.dim at.within at.stands))
    arrow_kind (id.Arrow a) l e = tt

    pub is_arrow : (x : AnyId) → x ≡ get_or ids place x → IsArrowId x
    is_arrow x is = subst IsArrowId (sym (read_id place x at.within is)) (arrow_kind (id_at ids place) (of.of_store place at.within) (of.are place at.within))

    pub arrow_of_store : (x : AnyId) (a : ℕ) → x ≡ get_or ids place x → x ≡ id.Arrow a → store.IsArrowOf c a
    arrow_of_store x a is names = subst (IsOf c) (sym (read_id place x at.within is) ∙ names) (of.of_store place at.within)

    pub arrow_tree : (x : AnyId) (a : ℕ) → x ≡ get_or ids place x → x ≡ id.Arrow a → store.arrow_at c a ≡ tree_at nodes place
    arrow_tree x a is names = ap (tree_of c) (sym (sym (read_id place x at.within is) ∙ names)) ∙ of.are place at.within
