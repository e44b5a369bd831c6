-- The trees of maps of a store: facts of them while the store grows, and maps that have given trees.
use Rattle.std.proofs.Common.{◌≡◌, sym, subst}
use Rattle.diagram_terms.specs.Tree.{Tree}
use Rattle.hashcons.specs.Contents.{Contents, Grows, IsDiagramOf, IsArrowOf, diagram_at, arrow_at}
use Rattle.zigzag_maps.specs.declared.map.Map.{Map}
use Rattle.zigzag_maps.specs.Found.{IsValidMap}
use Rattle.zigzag_maps.specs.MapTrees.{IsMapWith, IsValidArrowTree}
use Rattle.zigzag_maps.proofs.ValidArrows.{valid_arrow, between_of}

pub arrow_of_map : (c : Contents) (m : Map) → IsValidMap c m → IsValidArrowTree (diagram_at c m.source) (diagram_at c m.target) (arrow_at c m.arrow)
arrow_of_map c m v = valid_arrow _ _ _ v.source.valid v.target.valid v.between

-- a fact of the trees of a map, before and after
module _ (P : Tree → Tree → Tree → Type 0) where
  pub same_trees : (s t f x y g : Tree) → s ≡ x → t ≡ y → f ≡ g → P s t f → P x y g
  same_trees s t f x y g p q r h = subst (λ (u : Tree). P u y g) p (subst (λ (u : Tree). P s u g) q (subst (P s t) r h))

  pub fact_before : (old now : Contents) (m : Map) → Grows old now → IsValidMap old m
      → P (diagram_at now m.source) (diagram_at now m.target) (arrow_at now m.arrow) → P (diagram_at old m.source) (diagram_at old m.target) (arrow_at old m.arrow)
  fact_before old now m g v h = same_trees _ _ _ _ _ _ (g.diagram_trees m.source v.source.of_store) (g.diagram_trees m.target v.target.of_store) (g.arrow_trees m.arrow v.arrow) h

  pub fact_after : (old now : Contents) (m : Map) → Grows old now → IsValidMap old m
      → P (diagram_at old m.source) (diagram_at old m.target) (arrow_at old m.arrow) → P (diagram_at now m.source) (diagram_at now m.target) (arrow_at now m.arrow)
  fact_after old now m g v h = same_trees _ _ _ _ _ _ (sym (g.diagram_trees m.source v.source.of_store)) (sym (g.diagram_trees m.target v.target.of_store)) (sym (g.arrow_trees m.arrow v.arrow)) h

  pub fact_of : (c : Contents) (s t f : Tree) (m : Map) → IsMapWith c s t f m → P (diagram_at c m.source) (diagram_at c m.target) (arrow_at c m.arrow) → P s t f
  fact_of c s t f m w h = same_trees _ _ _ _ _ _ w.source w.target w.arrow h

  pub fact_for : (c : Contents) (s t f : Tree) (m : Map) → IsMapWith c s t f m → P s t f → P (diagram_at c m.source) (diagram_at c m.target) (arrow_at c m.arrow)
  fact_for c s t f m w h = same_trees _ _ _ _ _ _ (sym w.source) (sym w.target) (sym w.arrow) h

-- a map with the trees of a valid arrow is valid
pub map_with : (c : Contents) (s t f : Tree) (m : Map) → IsMapWith c s t f m → IsValidArrowTree s t f → IsDiagramOf c m.source → IsDiagramOf c m.target → IsArrowOf c m.arrow
    → IsValidMap c m
map_with c s t f m w v a b e =
    let x = fact_for IsValidArrowTree c s t f m w v in
    record {
      source = record { of_store = a; valid = record { dim = x.dim; at_dim = x.at_dim.source } };
      target = record { of_store = b; valid = record { dim = x.dim; at_dim = x.at_dim.target } };
      arrow = e;
      between = between_of _ _ _ x;
    }
