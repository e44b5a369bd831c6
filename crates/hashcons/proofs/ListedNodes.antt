-- Ids of a listing and their trees: the place of an id is the place of its tree, the children of what is listed are
-- listed, and the places of the children make the node of the tree.
use Rattle.std.proofs.Common.{◌≡◌, ℕ, ◌<◌, List, [], ◌∷◌, ◌++◌, length, map, get_or, slice_get, Some, refl, sym, ap, subst, ◌∙◌, arith}
use Rattle.std.proofs.lemmas.List.{get_or-map, length-map, ext_get_or}
use Rattle.std.proofs.lemmas.Option.{same_Some, slice_get-get_or}
use Rattle.diagram_terms.specs.declared.label.Label.{Label}
use Rattle.diagram_terms.specs.declared.node.Node.TheVariants as node
use Rattle.diagram_terms.specs.Tree.{nil, zig, zag}
use Rattle.diagram_terms.specs.Dimension.{dimension_of}
use Rattle.diagram_terms.specs.Dual.{AreBelow}
use Rattle.diagram_terms.specs.Completion.{children, place_in, places_in, node_of}
use Rattle.diagram_terms.specs.Nodes.{picked}
use Rattle.diagram_terms.proofs.Completions.{IsIn, AllIn, children-zig, children-zag, children_there}
use Rattle.diagram_terms.proofs.Printing.{place_in-first, each_left, each_right, node_of-point, node_of-zig, node_of-ends, node_of-zag, IsMade, made_diagram, made_arrow, ArePrintable}
use Rattle.hashcons.specs.declared.id.AnyId.{AnyId}
use Rattle.hashcons.specs.declared.id.AnyId.TheVariants as id
use Rattle.hashcons.specs.declared.view.ArrowView.{ArrowView}
use Rattle.hashcons.specs.declared.view.ArrowView.TheVariants as a
use Rattle.hashcons.specs.declared.view.DiagramView.{DiagramView}
use Rattle.hashcons.specs.declared.view.DiagramView.TheVariants as d
use Rattle.hashcons.specs.Contents.{Contents, IsStore, diagram_at, arrow_at}
use Rattle.hashcons.specs.Nodes.{tree_of_arrow, tree_of_diagram, IsArrowOver, IsDiagramOver}
use Rattle.hashcons.specs.Ids.{IsOf, tree_of, id_at}
use Rattle.hashcons.specs.Listing.{AreOf, listed, IsListing, StandsIn, IsFirstPlace, AllStandIn, ArePlacesOf, diagram_ids, arrow_ids}
use Rattle.hashcons.proofs.TableTrees.{slice_get-below}
use Rattle.hashcons.proofs.IdsOfTrees.{same_iff}

-- ---- ids of one kind

trees_of_diagrams : (c : Contents) (ds : List ℕ) → map (tree_of c) (diagram_ids ds) ≡ picked c.diagrams ds
trees_of_diagrams c [] = refl
trees_of_diagrams c (d ∷ ds) = ap (λ ts. diagram_at c d ∷ ts) (trees_of_diagrams c ds)

trees_of_arrows : (c : Contents) (xs : List ℕ) → map (tree_of c) (arrow_ids xs) ≡ picked c.arrows xs
trees_of_arrows c [] = refl
trees_of_arrows c (a ∷ xs) = ap (λ ts. arrow_at c a ∷ ts) (trees_of_arrows c xs)

of_diagrams : (c : Contents) (ds : List ℕ) → AreBelow ds (length c.diagrams) → AreOf c (diagram_ids ds)
of_diagrams c ds b = record {
  of_store = λ i l. let m = length-map ds (λ d. id.Diagram d) in
      subst (IsOf c) (sym (get_or-map (λ d. id.Diagram d) ds i 0 (id.Diagram 0) (omega arith))) (b.below i (omega arith));
}

of_arrows : (c : Contents) (xs : List ℕ) → AreBelow xs (length c.arrows) → AreOf c (arrow_ids xs)
of_arrows c xs b = record {
  of_store = λ i l. let m = length-map xs (λ a. id.Arrow a) in
      subst (IsOf c) (sym (get_or-map (λ a. id.Arrow a) xs i 0 (id.Diagram 0) (omega arith))) (b.below i (omega arith));
}

-- ---- a listing

made_of : (c : Contents) → IsStore c → (x : AnyId) → IsOf c x → IsMade (tree_of c x)
made_of c store (id.Diagram d) p = made_diagram (dimension_of (diagram_at c d)) (diagram_at c d) (store.diagrams d p)
made_of c store (id.Arrow a) p = made_arrow (dimension_of (arrow_at c a)) (arrow_at c a) (store.arrows a p)

module _ (c : Contents) (store : IsStore c) (ids : List AnyId) (listing : IsListing c ids) where
  listed_at : (i : ℕ) → i < length ids → get_or (listed c ids) i nil ≡ tree_of c (id_at ids i)
  listed_at i l = get_or-map (tree_of c) ids i (id.Diagram 0) nil l

  pub listing_printable : ArePrintable (listed c ids)
  listing_printable = record {
    after = listing.after;
    made = λ i l.
        let m = length-map ids (tree_of c) in
        let k : i < length ids = omega arith in
        subst IsMade (sym (listed_at i k)) (made_of c store (id_at ids i) (listing.of_store.of_store i k));
  }

  -- an id stands where its tree does
  id_there : (x : AnyId) → IsOf c x → (i : ℕ) → i < length ids → get_or (listed c ids) i nil ≡ tree_of c x
      → slice_get ids i ≡ Some x
  id_there x of_store i l e =
      let same = (same_iff c store (id_at ids i) x (listing.of_store.of_store i l) of_store).1 (sym (listed_at i l) ∙ e) in
      slice_get-get_or ids i (id.Diagram 0) l ∙ ap Some same

  tree_there : (x : AnyId) (i : ℕ) → slice_get ids i ≡ Some x → get_or (listed c ids) i nil ≡ tree_of c x
  tree_there x i h =
      let l = slice_get-below ids i x h in
      listed_at i l ∙ ap (tree_of c) (same_Some (id_at ids i) x (sym (slice_get-get_or ids i (id.Diagram 0) l) ∙ h))

  -- so the first place of an id is the place of its tree
  place_of_tree : (x : AnyId) (p : ℕ) → IsOf c x → IsFirstPlace ids x p → place_in (listed c ids) (tree_of c x) ≡ p
  place_of_tree x p of_store h =
      let m = length-map ids (tree_of c) in
      let l = slice_get-below ids p x h.there in
      place_in-first (listed c ids) (tree_of c x) p (omega arith) (tree_there x p h.there)
      (λ k b e. h.first k (id_there x of_store k (omega arith) e))

  pub places_of_trees : (xs : List AnyId) (places : List ℕ) → AreOf c xs → ArePlacesOf ids xs (length xs) places
      → places ≡ places_in (listed c ids) (map (tree_of c) xs)
  places_of_trees xs places of_store h =
      let ts = listed c ids in
      let us = map (tree_of c) xs in
      let n = h.len in
      let m = length-map xs (tree_of c) in
      let o = length-map us (place_in ts) in
      ext_get_or 0 places (places_in ts us) (omega arith) (λ j l.
      let k : j < length xs = omega arith in
      let q : j < length us = omega arith in
      sym (place_of_tree (id_at xs j) (get_or places j 0) (of_store.of_store j k) (h.are j k))
      ∙ ap (place_in ts) (sym (get_or-map (tree_of c) xs j (id.Diagram 0) nil k)) ∙ sym (get_or-map (place_in ts) us j nil 0 q))

  -- ids whose trees are listed stand in the listing
  pub all_stand : (xs : List AnyId) → AreOf c xs → AllIn (listed c ids) (map (tree_of c) xs) → AllStandIn ids xs
  all_stand xs of_store all = record {
    stand = λ j l.
        let m = length-map xs (tree_of c) in
        let n = length-map ids (tree_of c) in
        let h = all j (omega arith) in
        let b = h.before in
        let e = h.is ∙ get_or-map (tree_of c) xs j (id.Diagram 0) nil l in
        record { place = h.place; there = id_there (id_at xs j) (of_store.of_store j l) h.place (omega arith) e };
  }

  -- ---- the children of a node

  -- ids of the store that stand in the listing
  pub record AreListed (xs : List AnyId) : Type 0 where
    pub of_store : AreOf c xs
    pub stand : AllStandIn ids xs

  listed_diagrams : (ds : List ℕ) → AreBelow ds (length c.diagrams) → AllIn (listed c ids) (picked c.diagrams ds)
      → AreListed (diagram_ids ds)
  listed_diagrams ds b all =
      let of_store = of_diagrams c ds b in
      record {
        of_store = of_store;
        stand = all_stand (diagram_ids ds) of_store (subst (AllIn (listed c ids)) (sym (trees_of_diagrams c ds)) all);
      }

  listed_arrows : (xs : List ℕ) → AreBelow xs (length c.arrows) → AllIn (listed c ids) (picked c.arrows xs)
      → AreListed (arrow_ids xs)
  listed_arrows xs b all =
      let of_store = of_arrows c xs b in
      record {
        of_store = of_store;
        stand = all_stand (arrow_ids xs) of_store (subst (AllIn (listed c ids)) (sym (trees_of_arrows c xs)) all);
      }

  placed_diagrams : (ds places : List ℕ) → AreListed (diagram_ids ds) → ArePlacesOf ids (diagram_ids ds) (length ds) places
      → places ≡ places_in (listed c ids) (picked c.diagrams ds)
  placed_diagrams ds places p h =
      let n = sym (length-map ds (λ d. id.Diagram d)) in
      places_of_trees (diagram_ids ds) places p.of_store (subst (λ m. ArePlacesOf ids (diagram_ids ds) m places) n h)
      ∙ ap (places_in (listed c ids)) (trees_of_diagrams c ds)

  placed_arrows : (xs places : List ℕ) → AreListed (arrow_ids xs) → ArePlacesOf ids (arrow_ids xs) (length xs) places
      → places ≡ places_in (listed c ids) (picked c.arrows xs)
  placed_arrows xs places p h =
      let n = sym (length-map xs (λ a. id.Arrow a)) in
      places_of_trees (arrow_ids xs) places p.of_store (subst (λ m. ArePlacesOf ids (arrow_ids xs) m places) n h)
      ∙ ap (places_in (listed c ids)) (trees_of_arrows c xs)

  module _ (x : AnyId) (stands : StandsIn ids x) where
    children_listed : AllIn (listed c ids) (children (tree_of c x))
    children_listed =
        let l = slice_get-below ids stands.place x stands.there in
        let m = length-map ids (tree_of c) in
        children_there (listed c ids) (tree_of c x) listing.after
        (record { place = stands.place; before = omega arith; is = tree_there x stands.place stands.there })

    -- ---- a diagram

    pub record DiagramChildren (rs ss fs bs : List ℕ) : Type 0 where
      pub regs : AreListed (diagram_ids rs)
      pub sings : AreListed (diagram_ids ss)
      pub fwds : AreListed (arrow_ids fs)
      pub bwds : AreListed (arrow_ids bs)
      pub is : zig (picked c.diagrams rs) (picked c.diagrams ss) (picked c.arrows fs) (picked c.arrows bs) ≡ tree_of c x

    pub diagram_children : (n : DiagramView) (rs ss fs bs : _) → tree_of_diagram c.arrows c.diagrams n ≡ tree_of c x → IsDiagramOver (length c.arrows) (length c.diagrams) n
        → n ≡ d.Zig rs ss fs bs
        → DiagramChildren rs ss fs bs
    diagram_children n rs ss fs bs tree children_of e =
        let rt = picked c.diagrams rs in
        let st = picked c.diagrams ss in
        let ft = picked c.arrows fs in
        let bt = picked c.arrows bs in
        let ts = listed c ids in
        let P = IsIn ts in
        let over : IsDiagramOver (length c.arrows) (length c.diagrams) (d.Zig rs ss fs bs) = subst (IsDiagramOver (length c.arrows) (length c.diagrams)) e children_of in
        let is : zig rt st ft bt ≡ tree_of c x = sym (ap (tree_of_diagram c.arrows c.diagrams) e) ∙ tree in
        let all = subst (AllIn ts) (sym (ap children is) ∙ children-zig rt st ft bt) children_listed in
        let three = each_left P (rt ++ st ++ ft) bt all in
        let two = each_left P (rt ++ st) ft three in
        record {
          regs = listed_diagrams rs over.regs (each_left P rt st two);
          sings = listed_diagrams ss over.sings (each_right P rt st two);
          fwds = listed_arrows fs over.fwds (each_right P (rt ++ st) ft three);
          bwds = listed_arrows bs over.bwds (each_right P (rt ++ st ++ ft) bt all);
          is = is;
        }

    pub label_node_is : (n : DiagramView) (y : Label) → tree_of_diagram c.arrows c.diagrams n ≡ tree_of c x → n ≡ d.Zero y
        → node.Label y ≡ node_of (listed c ids) (tree_of c x)
    label_node_is n y tree e =
        sym (node_of-point (listed c ids) y) ∙ ap (node_of (listed c ids)) (sym (ap (tree_of_diagram c.arrows c.diagrams) e) ∙ tree)

    pub diagram_node_is : (rs ss fs bs rp sp fp bp : List ℕ) → DiagramChildren rs ss fs bs
        → ArePlacesOf ids (diagram_ids rs) (length rs) rp → ArePlacesOf ids (diagram_ids ss) (length ss) sp
        → ArePlacesOf ids (arrow_ids fs) (length fs) fp → ArePlacesOf ids (arrow_ids bs) (length bs) bp
        → node.Diagram rp sp fp bp ≡ node_of (listed c ids) (tree_of c x)
    diagram_node_is rs ss fs bs rp sp fp bp h pr ps pf pb =
        let u = placed_diagrams rs rp h.regs pr in
        let v = placed_diagrams ss sp h.sings ps in
        let w = placed_arrows fs fp h.fwds pf in
        let y = placed_arrows bs bp h.bwds pb in
        (λ i. node.Diagram (u i) (v i) (w i) (y i))
        ∙ sym (node_of-zig (listed c ids) (picked c.diagrams rs) (picked c.diagrams ss) (picked c.arrows fs) (picked c.arrows bs))
        ∙ ap (node_of (listed c ids)) h.is

    -- ---- an arrow

    pub record ArrowChildren (hs rs ss : List ℕ) : Type 0 where
      pub regs : AreListed (arrow_ids rs)
      pub sings : AreListed (arrow_ids ss)
      pub is : zag hs (picked c.arrows rs) (picked c.arrows ss) ≡ tree_of c x

    pub arrow_children : (n : ArrowView) (hs rs ss : _) → tree_of_arrow c.arrows n ≡ tree_of c x → IsArrowOver (length c.arrows) n
        → n ≡ a.Zig hs rs ss → ArrowChildren hs rs ss
    arrow_children n hs rs ss tree children_of e =
        let rt = picked c.arrows rs in
        let st = picked c.arrows ss in
        let ts = listed c ids in
        let P = IsIn ts in
        let over : IsArrowOver (length c.arrows) (a.Zig hs rs ss) = subst (IsArrowOver (length c.arrows)) e children_of in
        let is : zag hs rt st ≡ tree_of c x = sym (ap (tree_of_arrow c.arrows) e) ∙ tree in
        let all = subst (AllIn ts) (sym (ap children is) ∙ children-zag hs rt st) children_listed in
        record {
          regs = listed_arrows rs over.regs (each_left P rt st all);
          sings = listed_arrows ss over.sings (each_right P rt st all);
          is = is;
        }

    pub labels_node_is : (n : ArrowView) (y z : Label) → tree_of_arrow c.arrows n ≡ tree_of c x → n ≡ a.Zero y z
        → node.Labels y z ≡ node_of (listed c ids) (tree_of c x)
    labels_node_is n y z tree e =
        sym (node_of-ends (listed c ids) y z) ∙ ap (node_of (listed c ids)) (sym (ap (tree_of_arrow c.arrows) e) ∙ tree)

    pub arrow_node_is : (hs rs ss hp rp sp : List ℕ) → ArrowChildren hs rs ss → hp ≡ hs
        → ArePlacesOf ids (arrow_ids rs) (length rs) rp → ArePlacesOf ids (arrow_ids ss) (length ss) sp
        → node.Arrow hp rp sp ≡ node_of (listed c ids) (tree_of c x)
    arrow_node_is hs rs ss hp rp sp h e pr ps =
        let u = placed_arrows rs rp h.regs pr in
        let v = placed_arrows ss sp h.sings ps in
        (λ i. node.Arrow (e i) (u i) (v i))
        ∙ sym (node_of-zag (listed c ids) hs (picked c.arrows rs) (picked c.arrows ss)) ∙ ap (node_of (listed c ids)) h.is
