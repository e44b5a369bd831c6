-- The tree that a node describes over the trees of its children.
use Rattle.std.specs.Prelude.{ℕ, List, length}
use Rattle.diagram_terms.specs.Tree.{Tree, point, zig, ends, zag, regs}
use Rattle.diagram_terms.specs.Dual.{AreBelow}
use Rattle.diagram_terms.specs.Nodes.{picked}
use Rattle.hashcons.specs.declared.node.DiagramNode.{DiagramNode}
use Rattle.hashcons.specs.declared.node.DiagramNode.TheVariants as diagram
use Rattle.hashcons.specs.declared.node.ArrowNode.{ArrowNode}
use Rattle.hashcons.specs.declared.node.ArrowNode.TheVariants as arrow
use Rattle.hashcons.specs.declared.view.DiagramView.{DiagramView}
use Rattle.hashcons.specs.declared.view.DiagramView.TheVariants as shown
use Rattle.hashcons.specs.declared.view.ArrowView.{ArrowView}
use Rattle.hashcons.specs.declared.view.ArrowView.TheVariants as shown_arrow
use Rattle.hashcons.specs.Contents.{Contents, arrow_at}

-- a node as a store shows it, by lists of numbers
abbrev pub viewed_arrow : ArrowNode → ArrowView
viewed_arrow (arrow.Zero x y) = shown_arrow.Zero x y
viewed_arrow (arrow.Zig hs rs ss) = shown_arrow.Zig hs.items rs.items ss.items

abbrev pub viewed_diagram : DiagramNode → DiagramView
viewed_diagram (diagram.Zero x) = shown.Zero x
viewed_diagram (diagram.Zig rs ss fs bs) = shown.Zig rs.items ss.items fs.items bs.items

-- over the trees of the arrows
abbrev pub tree_of_arrow : List Tree → ArrowView → Tree
tree_of_arrow arrows (shown_arrow.Zero x y) = ends x y
tree_of_arrow arrows (shown_arrow.Zig hs rs ss) = zag hs (picked arrows rs) (picked arrows ss)

-- over the trees of the arrows and of the diagrams
abbrev pub tree_of_diagram : List Tree → List Tree → DiagramView → Tree
tree_of_diagram arrows diagrams (shown.Zero x) = point x
tree_of_diagram arrows diagrams (shown.Zig rs ss fs bs) =
    zig (picked diagrams rs) (picked diagrams ss) (picked arrows fs) (picked arrows bs)

-- the children are among the first n arrows
pub record AreArrowChildren (n : ℕ) (rs ss : List ℕ) : Type 0 where
  pub regs : AreBelow rs n
  pub sings : AreBelow ss n

abbrev pub IsArrowOver : ℕ → ArrowView → Type 0
IsArrowOver n (shown_arrow.Zero x y) = Unit {0}
IsArrowOver n (shown_arrow.Zig hs rs ss) = AreArrowChildren n rs ss

-- the children are among the first m arrows and the first n diagrams
pub record AreDiagramChildren (m n : ℕ) (rs ss fs bs : List ℕ) : Type 0 where
  pub regs : AreBelow rs n
  pub sings : AreBelow ss n
  pub fwds : AreBelow fs m
  pub bwds : AreBelow bs m

abbrev pub IsDiagramOver : ℕ → ℕ → DiagramView → Type 0
IsDiagramOver m n (shown.Zero x) = Unit {0}
IsDiagramOver m n (shown.Zig rs ss fs bs) = AreDiagramChildren m n rs ss fs bs

-- the children of the node are of the store, and the tree that it describes there
abbrev pub HasArrowsOf : Contents → ArrowNode → Type 0
HasArrowsOf c node = IsArrowOver (length c.arrows) (viewed_arrow node)

abbrev pub described_arrow : Contents → ArrowNode → Tree
described_arrow c node = tree_of_arrow c.arrows (viewed_arrow node)

abbrev pub HasChildrenOf : Contents → DiagramNode → Type 0
HasChildrenOf c node = IsDiagramOver (length c.arrows) (length c.diagrams) (viewed_diagram node)

abbrev pub described_diagram : Contents → DiagramNode → Tree
described_diagram c node = tree_of_diagram c.arrows c.diagrams (viewed_diagram node)

-- the tree of an arrow with the regular slices of another
abbrev pub described_like : Contents → ℕ → List ℕ → List ℕ → Tree
described_like c like hs ss = zag hs (regs (arrow_at c like)) (picked c.arrows ss)
