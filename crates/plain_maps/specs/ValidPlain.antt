-- Diagrams and maps of a store that are valid and plain.
use Rattle.std.specs.Prelude.{ℕ}
use Rattle.hashcons.specs.Contents.{Contents, diagram_at, arrow_at}
use Rattle.zigzag_maps.specs.declared.map.Map.{Map}
use Rattle.zigzag_maps.specs.Found.{IsValidDiagram, IsValidMap}
use Rattle.plain_maps.specs.Plainness.{IsPlainTree, IsPlainDiagramTree}

-- d is a valid and plain diagram
pub record IsValidPlain (c : Contents) (d : ℕ) : Type 0 where
  pub valid : IsValidDiagram c d
  pub plain : IsPlainDiagramTree (diagram_at c d)

-- m is a valid and plain map between plain diagrams
pub record IsValidPlainMap (c : Contents) (m : Map) : Type 0 where
  pub valid : IsValidMap c m
  pub source_plain : IsPlainDiagramTree (diagram_at c m.source)
  pub target_plain : IsPlainDiagramTree (diagram_at c m.target)
  pub plain : IsPlainTree (arrow_at c m.arrow)
