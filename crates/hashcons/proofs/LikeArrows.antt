-- An arrow of a store with others that have its regular slices.
use Rattle.std.proofs.Common.{◌≡◌, ℕ, ◌<◌, List, length, slice_get, Some, sym, ap, subst, ◌∙◌, arith}
use Rattle.diagram_terms.specs.declared.label.Label.{Label}
use Rattle.diagram_terms.specs.Tree.{Tree, zag, regs, regs-zag}
use Rattle.diagram_terms.specs.Dual.{AreBelow}
use Rattle.diagram_terms.specs.Dimension.{dimension_of, dimension_of-ends, IsArrowTree}
use Rattle.diagram_terms.specs.Nodes.{picked}
use Rattle.hashcons.specs.declared.view.ArrowView.{ArrowView}
use Rattle.hashcons.specs.declared.view.ArrowView.TheVariants as a
use Rattle.hashcons.specs.declared.view.DiagramView.{DiagramView}
use Rattle.block_lists.specs.Blocks.{IsPut}
use Rattle.hashcons.specs.Contents.{Contents, Notes, IsArrowOf, AddsArrow, Grows, arrow_at}
use Rattle.hashcons.specs.Nodes.{tree_of_arrow, described_like}
use Rattle.hashcons.specs.Tables.{arrow_trees, contents_of, AreTables}
use Rattle.hashcons.proofs.TableTrees.{element, slice_get-below}
use Rattle.hashcons.proofs.PutTrees.{ReadsArrow, Holds, reads_arrow, length-arrow_trees, stores_arrow}

-- an arrow above dimension 0, by its lists
pub record LikeParts (c : Contents) (arrows : List ArrowView) (like : ℕ) : Type 0 where
  pub hs : List ℕ
  pub rs : List ℕ
  pub ss : List ℕ
  pub there : slice_get arrows like ≡ Some (a.Zig hs rs ss)
  pub regs_are : regs (arrow_at c like) ≡ picked c.arrows rs
  pub within : AreBelow rs (length c.arrows)

module _ (arrows : List ArrowView) (diagrams : List DiagramView) (notes : Notes) (tables : AreTables arrows diagrams notes) (like : ℕ)
    (of_store : IsArrowOf (contents_of arrows diagrams notes) like)
    (above : 0 < dimension_of (arrow_at (contents_of arrows diagrams notes) like)) where
  pub like_parts : LikeParts (contents_of arrows diagrams notes) arrows like
  like_parts =
      let l = length-arrow_trees arrows in
      let p = element arrows like (omega arith) in
      by p.0 p.1 (reads_arrow arrows diagrams notes tables like p.0 p.1)
    where
      by : (v : ArrowView) → slice_get arrows like ≡ Some v → ReadsArrow (contents_of arrows diagrams notes) like v
          → LikeParts (contents_of arrows diagrams notes) arrows like
      by (a.Zero x y) at reads = absurd (omega (arith, above, ap dimension_of reads.tree, dimension_of-ends x y))
      by (a.Zig hs rs ss) at reads = record {
        hs = hs;
        rs = rs;
        ss = ss;
        there = at;
        regs_are = sym (ap regs reads.tree) ∙ regs-zag _ _ _;
        within = reads.children.regs;
      }

pub like_tree : (c : Contents) (before : List ArrowView) (like : ℕ) (hs ss : List ℕ) (p : LikeParts c before like)
    → described_like c like hs ss ≡ tree_of_arrow c.arrows (a.Zig hs p.rs ss)
like_tree c before like hs ss p = ap (λ ts. zag hs ts (picked c.arrows ss)) p.regs_are

-- what a store is after such an arrow was put
pub record StoresLike (c : Contents) (arrows : List ArrowView) (diagrams : List DiagramView) (notes : Notes) (t : Tree) (place : ℕ) : Type 0 where
  pub tables : AreTables arrows diagrams notes
  pub grows : Grows c (contents_of arrows diagrams notes)
  pub adds : AddsArrow c (contents_of arrows diagrams notes) t
  pub held : Holds (arrow_trees arrows) place t

module _ (c : Contents) (before : List ArrowView) (diagrams : List DiagramView) (notes : Notes)
    (is : contents_of before diagrams notes ≡ c) (tables : AreTables before diagrams notes) (like index : ℕ)
    (view : index ≡ like) (of_store : IsArrowOf c like) (above : 0 < dimension_of (arrow_at c like)) where
  parts : LikeParts c before index
  parts =
      subst (λ s. LikeParts s before index) is
      (like_parts before diagrams notes tables index
      (subst (λ s. IsArrowOf s index) (sym is) (subst (IsArrowOf c) (sym view) of_store))
      (subst (λ s. 0 < dimension_of (arrow_at s index)) (sym is)
      (subst (λ i. 0 < dimension_of (arrow_at c i)) (sym view) above)))

  pub like_below : index < length before
  like_below = slice_get-below before index (a.Zig parts.hs parts.rs parts.ss) parts.there

  pub like_above : (x y : Label) → slice_get before index ≡ Some (a.Zero x y) → ⊥
  like_above x y e = let f = sym parts.there ∙ e in cc

  pub stores_like : (hs ss : List ℕ) → AreBelow ss (length c.arrows) → IsArrowTree (described_like c like hs ss)
      → (after : List ArrowView) (place : ℕ)
      → ((ks rs qs : List ℕ) → slice_get before index ≡ Some (a.Zig ks rs qs) → IsPut before after (a.Zig hs rs ss) place)
      → (same : List DiagramView) → same ≡ diagrams → StoresLike c after same notes (described_like c like hs ss) place
  stores_like hs ss below shape after place put same e =
      let p = parts in
      let tree = sym (ap (λ i. described_like c i hs ss) view) ∙ like_tree c before index hs ss p in
      let s = stores_arrow c before diagrams notes (a.Zig hs p.rs ss) is tables
      (record { regs = p.within; sings = below }) (subst IsArrowTree tree shape) after place (put p.hs p.rs p.ss p.there) same e in
      subst (λ t. StoresLike c after same notes t place) (sym tree)
      (record { tables = s.tables; grows = s.grows; adds = s.adds; held = s.held })
