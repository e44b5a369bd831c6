-- What `look` says of one diagram.
use Rattle.std.proofs.Common.{◌≡◌, ℕ, ◌<◌, ◌≤◌, List, length, get_or, Option, sym, ap, ◌∙◌, subst, arith}
use Rattle.std.proofs.lemmas.List.{get_or_default}
use Rattle.std.proofs.lemmas.List.Elements.{All-get_or}
use Rattle.diagram_terms.specs.declared.limits.TheConstants.{GREATEST_DIM}
use Rattle.diagram_terms.specs.declared.node.Node.{Node}
use Rattle.diagram_terms.specs.declared.place.Place.{Place}
use Rattle.diagram_terms.specs.Tree.{Tree, sings}
use Rattle.diagram_terms.specs.Family.{length_of}
use Rattle.diagram_terms.specs.Decoded.{dia}
use Rattle.diagram_terms.specs.Shape.{IsDiagram, IsArrow}
use Rattle.diagram_terms.specs.Places.{first_bad_place}
use Rattle.diagram_terms.specs.Dimension.{dimension_of}
use Rattle.diagram_terms.specs.Nodes.{AreNodes, tree_at}
use Rattle.diagram_terms.proofs.Dimensions.{diagram_dimension}
use Rattle.diagram_terms.proofs.NodeShapes.{diagram_at, dim_of-sort_at}
use Rattle.diagram_terms.proofs.NodeTests.{dim_of}
use Rattle.diagram_terms.proofs.Shapes.{one_kind}
use Rattle.hashcons.specs.declared.id.AnyId.{AnyId}
use Rattle.hashcons.specs.declared.id.AnyId.TheVariants as id
use Rattle.hashcons.specs.Contents.{Contents, IsStore}
pub use Rattle.hashcons.proofs.EmptyStore.{grown_is_store}
use Rattle.hashcons.specs.Contents as store
use Rattle.hashcons.specs.Ids.{GathersIds, IsOf, IsDiagramId, id_at, tree_of}
use Rattle.node_json.specs.declared.document.DiagramEntry.{DiagramEntry}
use Rattle.node_json.specs.declared.document.Document.{Document}
use Rattle.node_json.specs.Documents.{IsDocument, IsDiagramPlace}
use Rattle.workspace_json.specs.declared.reply.Reply.{Reply}
use Rattle.workspace_json.specs.declared.reply.Reply.TheVariants.{Look}
use Rattle.session_undo.proofs.TreeLengths.{tree_length}
use Rattle.hom_run.specs.Full.{looked_at, tree_reply, look_reply}

pub looked : (name : List ℕ) (t : Tree) (d len : ℕ) (at : Option Place) → IsDiagram d t → len ≡ length (sings t)
    → at ≡ first_bad_place (dimension_of t) (dia (dimension_of t) t) → Look d len name at ≡ tree_reply name t
looked name t d len at shape len_is at_is =
    let e : dimension_of t ≡ d = diagram_dimension d t shape in
    let q : len ≡ length_of d (dia d t) = len_is ∙ tree_length d t shape in
    let r : at ≡ first_bad_place d (dia d t) = at_is ∙ ap (λ (n : ℕ). first_bad_place n (dia n t)) e in
    (λ i. Look d (q i) name (r i)) ∙ ap (λ (n : ℕ). looked_at name n (dia n t)) (sym e)

-- ---- the diagram at a place

module _ (nodes : List Node) (form : AreNodes nodes) (c : Contents) (ids : List AnyId) (of : GathersIds c ids (length nodes) (tree_at nodes))
    (is_store : IsStore c) (place : ℕ) (at : IsDiagramPlace nodes place) where
  pub place_within : place < length ids
  place_within = let l = of.len in let w = at.within in omega arith

  place_shape : IsDiagram at.dim (tree_at nodes place)
  place_shape = diagram_at nodes form place at.dim at.within at.stands

  kind : (x : AnyId) → IsOf c x → tree_of c x ≡ tree_at nodes place → IsDiagramId x
  kind (id.Diagram d) l e = tt
  kind (id.Arrow a) l e = absurd (one_kind at.dim (dimension_of (store.arrow_at c a)) (tree_at nodes place) place_shape (subst (IsArrow (dimension_of (store.arrow_at c a))) e (is_store.arrows a l)))

  place_kind : IsDiagramId (id_at ids place)
  place_kind = kind (id_at ids place) (of.of_store place at.within) (of.are place at.within)

  read_id : (x : AnyId) → x ≡ get_or ids place x → x ≡ id_at ids place
  read_id x is = is ∙ get_or_default ids place x (id.Diagram 0) place_within

  pub read_kind : (x : AnyId) → x ≡ get_or ids place x → IsDiagramId x
  read_kind x is = subst IsDiagramId (sym (read_id x is)) place_kind

  pub place_dim : dimension_of (tree_at nodes place) ≤ GREATEST_DIM
  place_dim =
      let e = diagram_dimension at.dim (tree_at nodes place) place_shape in
      let s = ap dim_of at.stands in
      let l = dim_of-sort_at nodes form place at.within in
      omega arith

-- ---- the entry that a loop has come to

pub entry_place : (document : Document) → IsDocument document → (i : ℕ) (entry : DiagramEntry) → i < length document.diagrams
    → entry ≡ get_or document.diagrams i entry → IsDiagramPlace document.nodes entry.root
entry_place document form i entry l is =
    subst (λ (e : DiagramEntry). IsDiagramPlace document.nodes e.root) (sym is)
    (All-get_or (λ (e : DiagramEntry). IsDiagramPlace document.nodes e.root) document.diagrams i entry l form.diagrams)

module _ (nodes : List Node) (form : AreNodes nodes) (old : Contents) (ids : List AnyId) (of : GathersIds old ids (length nodes) (tree_at nodes))
    (is_store : IsStore old) (entry : DiagramEntry) (at : IsDiagramPlace nodes entry.root) (x : AnyId) (d : ℕ)
    (is : x ≡ get_or ids entry.root x) (names : x ≡ id.Diagram d) where
  named : id_at ids entry.root ≡ id.Diagram d
  named = sym (read_id nodes form old ids of is_store entry.root at x is) ∙ names

  pub entry_of_store : store.IsDiagramOf old d
  entry_of_store = subst (IsOf old) named (of.of_store entry.root at.within)

  pub entry_tree : store.diagram_at old d ≡ tree_at nodes entry.root
  entry_tree = ap (tree_of old) (sym named) ∙ of.are entry.root at.within

  pub entry_dim : dimension_of (store.diagram_at old d) ≤ GREATEST_DIM
  entry_dim = subst (λ (t : Tree). dimension_of t ≤ GREATEST_DIM) (sym entry_tree) (place_dim nodes form old ids of is_store entry.root at)

  pub entry_reply : (reply : Reply) → reply ≡ tree_reply entry.name (store.diagram_at old d) → reply ≡ look_reply nodes entry
  entry_reply reply e = e ∙ ap (tree_reply entry.name) entry_tree
