-- The children of a node that a visit goes to.
use Rattle.std.proofs.Common.{◌≡◌, ℕ, suc, ◌<◌, ◌≤◌, List, [], ◌∷◌, ◌++◌, length, get_or, sym, ap, subst, ◌∙◌, arith}
use Rattle.std.specs.List.{flat_map}
use Rattle.std.proofs.lemmas.Grind.{flat_map-append}
use Rattle.diagram_terms.specs.Tree.{Tree, nil, zig, zag, regs, sings, fwds, bwds, regs-zig, sings-zig, fwds-zig, bwds-zig, regs-zag, sings-zag}
use Rattle.diagram_terms.specs.Dual.{AreBelow}
use Rattle.diagram_terms.specs.Dimension.{dimension_of}
use Rattle.diagram_terms.specs.Completion.{children, completions}
use Rattle.diagram_terms.specs.Nodes.{picked}
use Rattle.diagram_terms.proofs.Completions.{children-point, children-ends, children-zig, children-zag}
use Rattle.diagram_terms.proofs.Dimensions.{diagram_parts_of, arrow_parts_of}
use Rattle.hashcons.specs.declared.id.AnyId.{AnyId}
use Rattle.hashcons.specs.declared.view.ArrowView.{ArrowView}
use Rattle.hashcons.specs.declared.view.ArrowView.TheVariants as a
use Rattle.hashcons.specs.declared.view.DiagramView.{DiagramView}
use Rattle.hashcons.specs.declared.view.DiagramView.TheVariants as d
use Rattle.hashcons.specs.Contents.{Contents, IsStore, IsDiagramOf, IsArrowOf, diagram_at, arrow_at}
use Rattle.hashcons.specs.Nodes.{tree_of_arrow, tree_of_diagram, IsArrowOver, IsDiagramOver}
use Rattle.hashcons.specs.Listing.{IsListing, Visits, AreOfOneDimension, first_dimension}
use Rattle.hashcons.proofs.TableTrees.{length-picked, get_or-picked}
use Rattle.hashcons.proofs.FirstSlices.{first_slice, first_arrow}
use Rattle.hashcons.proofs.ListingGrows.{visits-none, visits-append}

-- ids of which each has one dimension less than n
pub record AreLower (ts : List Tree) (n : ℕ) (ids : List ℕ) : Type 0 where
  pub one : AreOfOneDimension ts ids
  pub low : suc (first_dimension ts ids) ≤ n

are_lower : (ts : List Tree) (n : ℕ) (ids : List ℕ) → 0 < n → AreBelow ids (length ts)
    → ((j : ℕ) → j < length ids → suc (dimension_of (get_or ts (get_or ids j 0) nil)) ≡ n) → AreLower ts n ids
are_lower ts n [] l b h = record { one = record { of_store = b; dims = λ j k. absurd (omega arith) }; low = omega arith }
are_lower ts n (i ∷ ids) l b h =
    let first = h 0 (omega arith) in
    record {
      one = record { of_store = b; dims = λ j k. let e = h j k in omega arith };
      low = omega arith;
    }

-- where the parts of a tree are the trees that the ids pick
lower_parts : (ts : List Tree) (n : ℕ) (ids : List ℕ) (us : List Tree) → us ≡ picked ts ids → 0 < n
    → AreBelow ids (length ts)
    → ((j : ℕ) → j < length us → suc (dimension_of (get_or us j nil)) ≡ n) → AreLower ts n ids
lower_parts ts n ids us e l b h =
    let m = ap length e ∙ length-picked ts ids in
    are_lower ts n ids l b (λ j k.
    ap (λ u. suc (dimension_of u)) (sym (ap (λ vs. get_or vs j nil) e ∙ get_or-picked ts ids j 0 k)) ∙ h j (omega arith))

-- ---- arrows

pub record ArrowVisit (c : Contents) (i : ℕ) (rs ss : List ℕ) : Type 0 where
  pub regs : AreLower c.arrows (dimension_of (arrow_at c i)) rs
  pub sings : AreLower c.arrows (dimension_of (arrow_at c i)) ss
  pub all : flat_map completions (children (arrow_at c i))
      ≡ flat_map completions (picked c.arrows rs) ++ flat_map completions (picked c.arrows ss)

pub arrow_visit : (c : Contents) (i : ℕ) (n : ArrowView) (hs rs ss : _) → IsStore c → IsArrowOf c i
    → tree_of_arrow c.arrows n ≡ arrow_at c i → IsArrowOver (length c.arrows) n
    → n ≡ a.Zig hs rs ss → ArrowVisit c i rs ss
arrow_visit c i n hs rs ss store of_store tree children_of e =
    let t = arrow_at c i in
    let rt = picked c.arrows rs in
    let st = picked c.arrows ss in
    let over : IsArrowOver (length c.arrows) (a.Zig hs rs ss) = subst (IsArrowOver (length c.arrows)) e children_of in
    let is : zag hs rt st ≡ t = sym (ap (tree_of_arrow c.arrows) e) ∙ tree in
    let above = (first_arrow c i n hs rs ss store of_store tree children_of e).above in
    let parts = arrow_parts_of t (store.arrows i of_store) above in
    record {
      regs = lower_parts c.arrows (dimension_of t) rs (regs t) (sym (ap regs is) ∙ regs-zag _ _ _) above over.regs
          (λ j l. (parts.regs j l).1);
      sings = lower_parts c.arrows (dimension_of t) ss (sings t) (sym (ap sings is) ∙ sings-zag _ _ _) above
          over.sings (λ j l. (parts.sings j l).1);
      all = ap (flat_map completions) (sym (ap children is) ∙ children-zag hs rt st) ∙ flat_map-append completions
          rt st;
    }

pub labels_visit : (c : Contents) (i : ℕ) (n : ArrowView) (x y : _) (ids : List AnyId) → tree_of_arrow c.arrows n ≡ arrow_at c i
    → n ≡ a.Zero x y → IsListing c ids
    → Visits c ids ids (flat_map completions (children (arrow_at c i)))
labels_visit c i n x y ids tree e h =
    let none = sym (ap children (sym (ap (tree_of_arrow c.arrows) e) ∙ tree)) ∙ children-ends x y in
    subst (λ ts. Visits c ids ids (flat_map completions ts)) (sym none) (visits-none c ids h)

pub visits_slices : (c : Contents) (i : ℕ) (rs ss : List ℕ) → ArrowVisit c i rs ss → (old mid new : List AnyId)
    → Visits c old mid (flat_map completions (picked c.arrows rs)) → Visits c mid new
    (flat_map completions (picked c.arrows ss))
    → Visits c old new (flat_map completions (children (arrow_at c i)))
visits_slices c i rs ss v old mid new h k = subst (Visits c old new) (sym v.all) (visits-append c old mid new _ _ h k)

-- ---- diagrams

pub record DiagramVisit (c : Contents) (i : ℕ) (rs ss fs bs : List ℕ) : Type 0 where
  pub regs : AreLower c.diagrams (dimension_of (diagram_at c i)) rs
  pub sings : AreLower c.diagrams (dimension_of (diagram_at c i)) ss
  pub fwds : AreLower c.arrows (dimension_of (diagram_at c i)) fs
  pub bwds : AreLower c.arrows (dimension_of (diagram_at c i)) bs
  pub all : flat_map completions (children (diagram_at c i))
      ≡ flat_map completions (picked c.diagrams rs) ++ flat_map completions (picked c.diagrams ss) ++ flat_map
      completions (picked c.arrows fs) ++ flat_map completions (picked c.arrows bs)

pub diagram_visit : (c : Contents) (i : ℕ) (n : DiagramView) (rs ss fs bs : _) → IsStore c → IsDiagramOf c i
    → tree_of_diagram c.arrows c.diagrams n ≡ diagram_at c i → IsDiagramOver (length c.arrows) (length c.diagrams) n
    → n ≡ d.Zig rs ss fs bs → DiagramVisit c i rs ss fs bs
diagram_visit c i n rs ss fs bs store of_store tree children_of e =
    let t = diagram_at c i in
    let rt = picked c.diagrams rs in
    let st = picked c.diagrams ss in
    let ft = picked c.arrows fs in
    let bt = picked c.arrows bs in
    let over : IsDiagramOver (length c.arrows) (length c.diagrams) (d.Zig rs ss fs bs) = subst (IsDiagramOver (length c.arrows) (length c.diagrams)) e children_of in
    let is : zig rt st ft bt ≡ t = sym (ap (tree_of_diagram c.arrows c.diagrams) e) ∙ tree in
    let above = (first_slice c i n rs ss fs bs store of_store tree children_of e).above in
    let parts = diagram_parts_of t (store.diagrams i of_store) above in
    let n = dimension_of t in
    let three = ap (λ ts. ts ++ flat_map completions ft) (flat_map-append completions rt st) in
    let four = ap (λ ts. ts ++ flat_map completions bt) (flat_map-append completions (rt ++ st) ft ∙ three) in
    record {
      regs = lower_parts c.diagrams n rs (regs t) (sym (ap regs is) ∙ regs-zig _ _ _ _) above over.regs
          (λ j l. (parts.regs j l).1);
      sings = lower_parts c.diagrams n ss (sings t) (sym (ap sings is) ∙ sings-zig _ _ _ _) above over.sings
          (λ j l. (parts.sings j l).1);
      fwds = lower_parts c.arrows n fs (fwds t) (sym (ap fwds is) ∙ fwds-zig _ _ _ _) above over.fwds
          (λ j l. (parts.fwds j l).1);
      bwds = lower_parts c.arrows n bs (bwds t) (sym (ap bwds is) ∙ bwds-zig _ _ _ _) above over.bwds
          (λ j l. (parts.bwds j l).1);
      all = ap (flat_map completions) (sym (ap children is) ∙ children-zig rt st ft bt) ∙ flat_map-append completions
          (rt ++ st ++ ft) bt ∙ four;
    }

pub label_visit : (c : Contents) (i : ℕ) (n : DiagramView) (x : _) (ids : List AnyId)
    → tree_of_diagram c.arrows c.diagrams n ≡ diagram_at c i → n ≡ d.Zero x → IsListing c ids
    → Visits c ids ids (flat_map completions (children (diagram_at c i)))
label_visit c i n x ids tree e h =
    let none = sym (ap children (sym (ap (tree_of_diagram c.arrows c.diagrams) e) ∙ tree)) ∙ children-point x in
    subst (λ ts. Visits c ids ids (flat_map completions ts)) (sym none) (visits-none c ids h)

pub visits_parts : (c : Contents) (i : ℕ) (rs ss fs bs : List ℕ) → DiagramVisit c i rs ss fs bs
    → (old one two three new : List AnyId)
    → Visits c old one (flat_map completions (picked c.diagrams rs)) → Visits c one two
    (flat_map completions (picked c.diagrams ss))
    → Visits c two three (flat_map completions (picked c.arrows fs)) → Visits c three new
    (flat_map completions (picked c.arrows bs))
    → Visits c old new (flat_map completions (children (diagram_at c i)))
visits_parts c i rs ss fs bs v old one two three new h k l m =
    let p = visits-append c old one two _ _ h k in
    let q = visits-append c old two three _ _ p l in
    subst (Visits c old new) (sym v.all) (visits-append c old three new _ _ q m)
