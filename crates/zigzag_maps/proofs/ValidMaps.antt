-- Identities of valid diagrams and composites of valid maps are valid maps.
use Rattle.std.proofs.Common.{◌≡◌, ℕ, sym, ap, subst, ◌∙◌}
use Rattle.diagram_terms.specs.Tree.{Tree}
use Rattle.diagram_terms.specs.Family.{Arr}
use Rattle.diagram_terms.specs.Decoded.{dia, arr}
use Rattle.diagram_terms.specs.Composite.{comp, ident}
use Rattle.diagram_terms.specs.Shape.{IsDiagram}
use Rattle.diagram_terms.specs.Valid.{Valid, ValidArrow}
use Rattle.diagram_terms.proofs.Glue.{arr-arr_tree}
use Rattle.diagram_terms.proofs.Shapes.{one_diagram_dimension}
use Rattle.map_laws.proofs.ValidIdentities.{identities_are_valid}
use Rattle.map_laws.proofs.ValidComposites.{composites_are_valid}
use Rattle.hashcons.specs.Contents.{Contents, Grows, IsArrowOf, diagram_at, arrow_at}
use Rattle.zigzag_maps.specs.declared.map.Map.{Map}
use Rattle.zigzag_maps.specs.Found.{IsValidDiagram, IsValidMap}
use Rattle.diagram_terms.specs.Operations.{identity_tree, composite_tree}
use Rattle.diagram_terms.specs.ValidTrees.{IsValidTree, IsArrowBetween}
use Rattle.zigzag_maps.proofs.CompositeSlices.{composite_shape, composable_between_at}
use Rattle.zigzag_maps.proofs.IdentitySlices.{identity_shape}
use Rattle.diagram_terms.proofs.NotionsOnTrees.{on_diagram_at, on_arrow_at}
use Rattle.zigzag_maps.proofs.KeptMaps.{valid_diagram-grows}

-- ---- trees

-- the identity of a valid diagram
pub identity_between : (t : Tree) → IsValidTree t → IsArrowBetween t t (identity_tree t)
identity_between t h =
    let n = h.dim in
    let shape = h.at_dim.shape in
    let is : arr n (identity_tree t) ≡ ident n (dia n t) =
    ap (arr n) (on_diagram_at _ n t shape) ∙ arr-arr_tree n (ident n (dia n t)) in
    record {
      dim = n;
      at_dim = record {
        source = shape;
        target = shape;
        shape = identity_shape n t shape;
        valid = subst (λ (f : Arr n). ValidArrow n (dia n t) (dia n t) f) (sym is) (identities_are_valid n (dia n t) h.at_dim.valid);
      };
    }

-- a valid tree is valid at each dimension that it has
valid_at : (n : ℕ) (t : Tree) → IsDiagram n t → IsValidTree t → Valid n (dia n t)
valid_at n t shape h = subst (λ (d : ℕ). Valid d (dia d t)) (one_diagram_dimension h.dim n t h.at_dim.shape shape) h.at_dim.valid

-- the composite of valid arrows between valid diagrams
pub composite_between : (s m t g f : Tree) → IsValidTree s → IsValidTree m → IsValidTree t
    → IsArrowBetween s m f → IsArrowBetween m t g → IsArrowBetween s t (composite_tree g f)
composite_between s m t g f vs vm vt a b =
    let n = a.dim in
    let e : b.dim ≡ n = one_diagram_dimension b.dim n m b.at_dim.source a.at_dim.target in
    let target = subst (λ (d : ℕ). IsDiagram d t) e b.at_dim.target in
    let outer = subst (λ (d : ℕ). ValidArrow d (dia d m) (dia d t) (arr d g)) e b.at_dim.valid in
    let is : arr n (composite_tree g f) ≡ comp n (arr n g) (arr n f) =
    ap (arr n) (on_arrow_at _ n f a.at_dim.shape) ∙ arr-arr_tree n (comp n (arr n g) (arr n f)) in
    record {
      dim = n;
      at_dim = record {
        source = a.at_dim.source;
        target = target;
        shape = composite_shape n g f (composable_between_at s m t g f a b);
        valid = subst (λ (h : Arr n). ValidArrow n (dia n s) (dia n t) h) (sym is)
            (composites_are_valid n (dia n s) (dia n m) (dia n t) (arr n f) (arr n g)
            (valid_at n s a.at_dim.source vs) (valid_at n m a.at_dim.target vm) (valid_at n t target vt) a.at_dim.valid outer);
      };
    }

-- ---- in a store that grew

module _ (old new : Contents) (grown : Grows old new) where
  pub identity_is_valid : (d a : ℕ) → IsValidDiagram old d → IsArrowOf new a → arrow_at new a ≡ identity_tree (diagram_at old d)
      → IsValidMap new (record { source = d; target = d; arrow = a })
  identity_is_valid d a v of_store tree =
      let w = valid_diagram-grows old new d grown v in
      let same : identity_tree (diagram_at new d) ≡ arrow_at new a = ap identity_tree (grown.diagram_trees d v.of_store) ∙ sym tree in
      record {
        source = w;
        target = w;
        arrow = of_store;
        between = subst (IsArrowBetween (diagram_at new d) (diagram_at new d)) same (identity_between (diagram_at new d) w.valid);
      }

  pub composite_is_valid : (g f : Map) (a : ℕ) → IsValidMap old g → IsValidMap old f → f.target ≡ g.source → IsArrowOf new a
      → arrow_at new a ≡ composite_tree (arrow_at old g.arrow) (arrow_at old f.arrow)
      → IsValidMap new (record { source = f.source; target = g.target; arrow = a })
  composite_is_valid g f a outer inner meet of_store tree =
      let after = subst (λ (d : ℕ). IsArrowBetween (diagram_at old d) (diagram_at old g.target) (arrow_at old g.arrow)) (sym meet) outer.between in
      let made = composite_between _ _ _ _ _ inner.source.valid inner.target.valid outer.target.valid inner.between after in
      record {
        source = valid_diagram-grows old new f.source grown inner.source;
        target = valid_diagram-grows old new g.target grown outer.target;
        arrow = of_store;
        between =
            let p = grown.diagram_trees f.source inner.source.of_store in
            let q = grown.diagram_trees g.target outer.target.of_store in
            let r = subst (λ (s : Tree). IsArrowBetween s (diagram_at old g.target) (composite_tree (arrow_at old g.arrow) (arrow_at old f.arrow))) (sym p) made in
            let u = subst (λ (t : Tree). IsArrowBetween (diagram_at new f.source) t (composite_tree (arrow_at old g.arrow) (arrow_at old f.arrow))) (sym q) r in
            subst (IsArrowBetween (diagram_at new f.source) (diagram_at new g.target)) (sym tree) u;
      }
