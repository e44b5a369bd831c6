-- The tree that a value of the program is.
use Rattle.std.specs.Prelude.{List, map}
use Rattle.diagram_terms.specs.declared.tree.Arrow.{Arrow}
use Rattle.diagram_terms.specs.declared.tree.Arrow.TheOpen.{Arrow-F}
use Rattle.diagram_terms.specs.declared.tree.Arrow.TheFolds.{fold-Arrow}
use Rattle.diagram_terms.specs.declared.tree.Diagram.{Diagram}
use Rattle.diagram_terms.specs.declared.tree.Diagram.TheOpen.{Diagram-F}
use Rattle.diagram_terms.specs.declared.tree.Diagram.TheFolds.{fold-Diagram}
use Rattle.diagram_terms.specs.Tree.{Tree, point, zig, ends, zag}

-- one level, with the tree of each inner arrow in its place
abbrev pub arrow_level : Arrow-F Tree → Tree
arrow_level (Arrow-F.Zero x y) = ends x y
arrow_level (Arrow-F.Zig hs rs ss) = zag hs.items rs.items ss.items

abbrev pub tree_of_arrow : Arrow → Tree
tree_of_arrow = fold-Arrow Tree arrow_level

abbrev pub trees_of_arrows : List Arrow → List Tree
trees_of_arrows = map tree_of_arrow

-- one level, with the tree of each inner diagram in its place
abbrev pub diagram_level : Diagram-F Tree → Tree
diagram_level (Diagram-F.Zero x) = point x
diagram_level (Diagram-F.Zig rs ss fs bs) = zig rs.items ss.items (trees_of_arrows fs.items) (trees_of_arrows bs.items)

abbrev pub tree_of_diagram : Diagram → Tree
tree_of_diagram = fold-Diagram Tree diagram_level

abbrev pub trees_of_diagrams : List Diagram → List Tree
trees_of_diagrams = map tree_of_diagram
