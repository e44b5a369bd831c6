-- What is valid stays valid while the store grows.
use Rattle.std.proofs.Common.{◌≡◌, ℕ, sym, subst}
use Rattle.diagram_terms.specs.Tree.{Tree}
use Rattle.hashcons.specs.Contents.{Contents, Grows}
use Rattle.zigzag_maps.specs.declared.map.Map.{Map}
use Rattle.diagram_terms.specs.ValidTrees.{IsArrowBetween, IsValidTree}
use Rattle.zigzag_maps.specs.Found.{IsValidDiagram, IsValidMap}

pub valid_diagram-grows : (old new : Contents) (d : ℕ) → Grows old new → IsValidDiagram old d → IsValidDiagram new d
valid_diagram-grows old new d g h = record {
  of_store = g.diagrams d h.of_store;
  valid = subst IsValidTree (sym (g.diagram_trees d h.of_store)) h.valid;
}

pub between_same : (s t f x y g : Tree) → s ≡ x → t ≡ y → f ≡ g → IsArrowBetween s t f → IsArrowBetween x y g
between_same s t f x y g p q r h =
    subst (λ (u : Tree). IsArrowBetween u y g) p (subst (λ (u : Tree). IsArrowBetween s u g) q (subst (IsArrowBetween s t) r h))

pub valid_map-grows : (old new : Contents) (m : Map) → Grows old new → IsValidMap old m → IsValidMap new m
valid_map-grows old new m g h = record {
  source = valid_diagram-grows old new m.source g h.source;
  target = valid_diagram-grows old new m.target g h.target;
  arrow = g.arrows m.arrow h.arrow;
  between = between_same _ _ _ _ _ _ (sym (g.diagram_trees m.source h.source.of_store))
      (sym (g.diagram_trees m.target h.target.of_store)) (sym (g.arrow_trees m.arrow h.arrow)) h.between;
}
