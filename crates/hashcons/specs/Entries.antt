-- Nodes that are kept by the numbers of their lists.
use Rattle.std.specs.Prelude.{◌≡◌, ℕ, ◌+◌, ◌⊎◌, List, [], ◌∷◌, ◌++◌, length, map, take, get_or, slice_get, Some}
use Rattle.std.specs.List.{flat_map}
use Rattle.hashcons.specs.declared.tables.DiagramEntry.{DiagramEntry}
use Rattle.hashcons.specs.declared.tables.DiagramEntry.TheVariants as diagram
use Rattle.hashcons.specs.declared.tables.ArrowEntry.{ArrowEntry}
use Rattle.hashcons.specs.declared.tables.ArrowEntry.TheVariants as arrow
use Rattle.hashcons.specs.declared.tables.NodeLists.{NodeLists}
use Rattle.hashcons.specs.declared.tables.NodeCounts.{NodeCounts}
use Rattle.hashcons.specs.declared.tables.Tables.{Tables}
use Rattle.hashcons.specs.declared.view.DiagramView.{DiagramView}
use Rattle.hashcons.specs.declared.view.DiagramView.TheVariants as shown
use Rattle.hashcons.specs.declared.view.ArrowView.{ArrowView}
use Rattle.hashcons.specs.declared.view.ArrowView.TheVariants as shown_arrow
use Rattle.block_lists.specs.Blocks.{IsPut, Among, StandOnce, nonempty, distinct_blocks}
use Rattle.hashcons.specs.declared.storage.Storage.{Storage}
use Rattle.block_lists.specs.Counts.{AreCounts}

abbrev pub no_lists : NodeLists
no_lists = record { diagrams = []; arrows = []; heights = [] }

-- what an entry stands for
abbrev pub diagram_view : NodeLists → DiagramEntry → DiagramView
diagram_view l (diagram.Zero x) = shown.Zero x
diagram_view l (diagram.Zig r s f b) =
    shown.Zig (get_or l.diagrams r []) (get_or l.diagrams s []) (get_or l.arrows f []) (get_or l.arrows b [])

abbrev pub arrow_view : NodeLists → ArrowEntry → ArrowView
arrow_view l (arrow.Zero x y) = shown_arrow.Zero x y
arrow_view l (arrow.Zig h r s) =
    shown_arrow.Zig (get_or l.heights h []) (get_or l.arrows r []) (get_or l.arrows s [])

-- an entry stands for this, by lists that are held
pub record HoldsDiagramLists (l : NodeLists) (r s f b : ℕ) (rs ss fs bs : List ℕ) : Type 0 where
  pub regs : slice_get l.diagrams r ≡ Some rs
  pub sings : slice_get l.diagrams s ≡ Some ss
  pub fwds : slice_get l.arrows f ≡ Some fs
  pub bwds : slice_get l.arrows b ≡ Some bs

abbrev pub ShowsDiagram : NodeLists → DiagramEntry → DiagramView → Type 0
ShowsDiagram l (diagram.Zero x) (shown.Zero y) = x ≡ y
ShowsDiagram l (diagram.Zero x) (shown.Zig rs ss fs bs) = ⊥
ShowsDiagram l (diagram.Zig r s f b) (shown.Zero y) = ⊥
ShowsDiagram l (diagram.Zig r s f b) (shown.Zig rs ss fs bs) = HoldsDiagramLists l r s f b rs ss fs bs

pub record HoldsArrowLists (l : NodeLists) (h r s : ℕ) (hs rs ss : List ℕ) : Type 0 where
  pub heights : slice_get l.heights h ≡ Some hs
  pub regs : slice_get l.arrows r ≡ Some rs
  pub sings : slice_get l.arrows s ≡ Some ss

abbrev pub ShowsArrow : NodeLists → ArrowEntry → ArrowView → Type 0
ShowsArrow l (arrow.Zero x y) (shown_arrow.Zero z w) = (x ≡ z) × (y ≡ w)
ShowsArrow l (arrow.Zero x y) (shown_arrow.Zig hs rs ss) = ⊥
ShowsArrow l (arrow.Zig h r s) (shown_arrow.Zero z w) = ⊥
ShowsArrow l (arrow.Zig h r s) (shown_arrow.Zig hs rs ss) = HoldsArrowLists l h r s hs rs ss

-- the lists of a node, by their kind
abbrev pub diagram_parts : DiagramView → List (List ℕ)
diagram_parts (shown.Zero x) = []
diagram_parts (shown.Zig rs ss fs bs) = rs ∷ ss ∷ []

abbrev pub leg_parts : DiagramView → List (List ℕ)
leg_parts (shown.Zero x) = []
leg_parts (shown.Zig rs ss fs bs) = fs ∷ bs ∷ []

abbrev pub slice_parts : ArrowView → List (List ℕ)
slice_parts (shown_arrow.Zero x y) = []
slice_parts (shown_arrow.Zig hs rs ss) = rs ∷ ss ∷ []

abbrev pub height_parts : ArrowView → List (List ℕ)
height_parts (shown_arrow.Zero x y) = []
height_parts (shown_arrow.Zig hs rs ss) = hs ∷ []

-- some of these lists were put after those that were held
pub record Gains (old new parts : List (List ℕ)) : Type 0 where
  pub more : List (List ℕ)
  pub extends : new ≡ old ++ more
  pub from : (l : List ℕ) → Among more l → Among parts l
  pub once : StandOnce old → StandOnce new

pub record GainsLists (old new : NodeLists) (ds xs hs : List (List ℕ)) : Type 0 where
  pub diagrams : Gains old.diagrams new.diagrams ds
  pub arrows : Gains old.arrows new.arrows xs
  pub heights : Gains old.heights new.heights hs

-- the counts of each kind of lists, and the first lists by such counts
pub record HaveCounts (l : NodeLists) (c : NodeCounts) : Type 0 where
  pub diagrams : AreCounts l.diagrams c.diagrams
  pub arrows : AreCounts l.arrows c.arrows
  pub heights : AreCounts l.heights c.heights

abbrev pub first_lists : NodeCounts → NodeLists → NodeLists
first_lists c l = record {
  diagrams = take c.diagrams.lists l.diagrams;
  arrows = take c.arrows.lists l.arrows;
  heights = take c.heights.lists l.heights;
}

-- what the nodes of the tables are
abbrev pub diagram_views : Tables → List DiagramView
diagram_views t = map (diagram_view t.lists) t.diagrams.keys

abbrev pub arrow_views : Tables → List ArrowView
arrow_views t = map (arrow_view t.lists) t.arrows.keys

-- an entry was put that stands for this
pub record PutsDiagramEntry (l : NodeLists) (old new : List DiagramEntry) (v : DiagramView) (place : ℕ) : Type 0 where
  pub entry : DiagramEntry
  pub shows : ShowsDiagram l entry v
  pub put : IsPut old new entry place

pub record PutsArrowEntry (l : NodeLists) (old new : List ArrowEntry) (v : ArrowView) (place : ℕ) : Type 0 where
  pub entry : ArrowEntry
  pub shows : ShowsArrow l entry v
  pub put : IsPut old new entry place

-- the lists of each entry are held, each list once, and there are no others than those of the nodes
pub record AreHeldBy (l : NodeLists) (ds : List DiagramEntry) (xs : List ArrowEntry) : Type 0 where
  pub diagrams : (k : ℕ) (e : DiagramEntry) → slice_get ds k ≡ Some e → ShowsDiagram l e (diagram_view l e)
  pub arrows : (k : ℕ) (e : ArrowEntry) → slice_get xs k ≡ Some e → ShowsArrow l e (arrow_view l e)
  pub diagram_lists_once : StandOnce l.diagrams
  pub arrow_lists_once : StandOnce l.arrows
  pub height_lists_once : StandOnce l.heights
  pub diagram_lists : (p : List ℕ) → Among l.diagrams p → Among (flat_map diagram_parts (map (diagram_view l) ds)) p
  pub arrow_lists : (p : List ℕ) → Among l.arrows p
      → Among (flat_map leg_parts (map (diagram_view l) ds)) p ⊎ Among (flat_map slice_parts (map (arrow_view l) xs)) p
  pub height_lists : (p : List ℕ) → Among l.heights p → Among (flat_map height_parts (map (arrow_view l) xs)) p

abbrev pub AreHeld : Tables → Type 0
AreHeld t = AreHeldBy t.lists t.diagrams.keys t.arrows.keys

-- the counts of the nodes, of their lists and of the blocks of these
pub record CountsTables (t : Tables) (s : Storage) : Type 0 where
  pub diagrams : s.diagrams ≡ length t.diagrams.keys
  pub arrows : s.arrows ≡ length t.arrows.keys
  pub lists : s.lists ≡ length (nonempty t.lists.diagrams) + length (nonempty t.lists.arrows) + length (nonempty t.lists.heights)
  pub blocks : s.blocks ≡ length (distinct_blocks t.lists.diagrams) + length (distinct_blocks t.lists.arrows)
      + length (distinct_blocks t.lists.heights)
