-- What a store keeps, told by the trees that it holds.
use Rattle.std.proofs.Common.{◌≡◌, ℕ, zero, suc, ◌<◌, ◌+◌, List, [], ◌∷◌, ◌++◌, length, map, get_or, slice_get, Some, refl, sym, ap, ap₂, subst, ◌∙◌, arith, ◌⊎◌, inl, inr, if◌then◌else◌}
use Rattle.std.specs.Prelude.{◌==◌}
use Rattle.std.specs.List.{flat_map}
use Rattle.std.specs.Bool.{Decides}
use Rattle.std.proofs.lemmas.Slice.Eq.{slice_eq-Decides}
use Rattle.std.proofs.lemmas.List.{length-map, map-append}
use Rattle.diagram_terms.specs.Tree.{Tree, nil, point, zig, ends, zag, regs, sings, fwds, bwds, heights, kind-point, kind-zig, kind-ends, kind-zag, regs-zig, sings-zig, fwds-zig, bwds-zig, regs-zag, sings-zag, heights-zag}
use Rattle.diagram_terms.specs.Dual.{AreBelow}
use Rattle.diagram_terms.specs.Nodes.{picked}
use Rattle.diagram_terms.proofs.Completions.{same_tree_decides}
use Rattle.hashcons.specs.declared.storage.Storage.{Storage}
use Rattle.hashcons.specs.declared.tables.DiagramEntry.{DiagramEntry}
use Rattle.hashcons.specs.declared.tables.DiagramEntry.TheVariants as diagram
use Rattle.hashcons.specs.declared.tables.ArrowEntry.{ArrowEntry}
use Rattle.hashcons.specs.declared.tables.ArrowEntry.TheVariants as arrow
use Rattle.hashcons.specs.declared.tables.NodeLists.{NodeLists}
use Rattle.hashcons.specs.declared.view.DiagramView.{DiagramView}
use Rattle.hashcons.specs.declared.view.DiagramView.TheVariants as shown
use Rattle.hashcons.specs.declared.view.ArrowView.{ArrowView}
use Rattle.hashcons.specs.declared.view.ArrowView.TheVariants as shown_arrow
use Rattle.block_lists.specs.Blocks.{Among, nonempty, distinct_blocks, same_numbers}
use Rattle.hashcons.specs.Contents.{Contents, Notes}
use Rattle.hashcons.specs.Entries.{AreHeldBy, ShowsDiagram, ShowsArrow, diagram_view, arrow_view, diagram_parts, leg_parts, slice_parts, height_parts}
use Rattle.hashcons.specs.Nodes.{tree_of_arrow, tree_of_diagram, IsArrowOver, IsDiagramOver}
use Rattle.hashcons.specs.Storage.{slices_of_diagram, legs_of_diagram, slices_of_arrow, heights_of_arrow, lists_of_diagrams, lists_of_arrows, lists_of_heights, same_trees, storage_of}
use Rattle.hashcons.specs.Tables.{arrow_trees, diagram_trees, contents_of, AreTables}
use Rattle.block_lists.proofs.Blocks.{numbers_decide, among-below}
use Rattle.hashcons.proofs.Counted.{PartOf, split, flat-from, among-map, lists_counted, blocks_counted}
use Rattle.block_lists.proofs.Distinct.{among-head, among-left, among-right, slice-unmap}
use Rattle.hashcons.proofs.PutTrees.{reads_arrow, reads_diagram, length-arrow_trees, length-diagram_trees}

trees_decide : (ts us : List Tree) → Decides (same_trees ts us) (ts ≡ us)
trees_decide ts us = slice_eq-Decides same_tree_decides ts us (same_trees ts us) refl

-- ---- the lists of the trees that views describe

read_all : {N : Type 0} → (g : N → Tree) (ts : List Tree) (vs : List N) → length ts ≡ length vs
    → ((i : ℕ) (v : N) → slice_get vs i ≡ Some v → g v ≡ get_or ts i nil) → ts ≡ map g vs
read_all g [] [] l h = refl
read_all g [] (v ∷ vs) l h = absurd (omega arith)
read_all g (t ∷ ts) [] l h = absurd (omega arith)
read_all g (t ∷ ts) (v ∷ vs) l h =
    let e = h 0 v refl in
    let r = read_all g ts vs (omega arith) (λ i w at. h (suc i) w at) in
    cc

flat-same : {N C B : Type 0} → (p : Tree → List B) (q : N → List C) (m : C → B) (g : N → Tree)
    → ((v : N) → p (g v) ≡ map m (q v)) → (vs : List N) → flat_map p (map g vs) ≡ map m (flat_map q vs)
flat-same p q m g h [] = refl
flat-same p q m g h (v ∷ vs) = ap₂ (λ a b. a ++ b) (h v) (flat-same p q m g h vs) ∙ sym (map-append m (q v) (flat_map q vs))

module _ (xt dt : List Tree) where
  slices_are : (v : DiagramView) → slices_of_diagram (tree_of_diagram xt dt v) ≡ map (picked dt) (diagram_parts v)
  slices_are (shown.Zero x) = ap (λ k. if k == 1 then regs (point x) ∷ sings (point x) ∷ [] else []) (kind-point x)
  slices_are (shown.Zig rs ss fs bs) =
      let t = zig (picked dt rs) (picked dt ss) (picked xt fs) (picked xt bs) in
      ap (λ k. if k == 1 then regs t ∷ sings t ∷ [] else []) (kind-zig _ _ _ _)
      ∙ ap₂ (λ a b. a ∷ b ∷ []) (regs-zig _ _ _ _) (sings-zig _ _ _ _)

  legs_are : (v : DiagramView) → legs_of_diagram (tree_of_diagram xt dt v) ≡ map (picked xt) (leg_parts v)
  legs_are (shown.Zero x) = ap (λ k. if k == 1 then fwds (point x) ∷ bwds (point x) ∷ [] else []) (kind-point x)
  legs_are (shown.Zig rs ss fs bs) =
      let t = zig (picked dt rs) (picked dt ss) (picked xt fs) (picked xt bs) in
      ap (λ k. if k == 1 then fwds t ∷ bwds t ∷ [] else []) (kind-zig _ _ _ _)
      ∙ ap₂ (λ a b. a ∷ b ∷ []) (fwds-zig _ _ _ _) (bwds-zig _ _ _ _)

module _ (xt : List Tree) where
  arrow_slices_are : (v : ArrowView) → slices_of_arrow (tree_of_arrow xt v) ≡ map (picked xt) (slice_parts v)
  arrow_slices_are (shown_arrow.Zero x y) = ap (λ k. if k == 3 then regs (ends x y) ∷ sings (ends x y) ∷ [] else []) (kind-ends x y)
  arrow_slices_are (shown_arrow.Zig hs rs ss) =
      let t = zag hs (picked xt rs) (picked xt ss) in
      ap (λ k. if k == 3 then regs t ∷ sings t ∷ [] else []) (kind-zag _ _ _)
      ∙ ap₂ (λ a b. a ∷ b ∷ []) (regs-zag _ _ _) (sings-zag _ _ _)

  heights_are : (v : ArrowView) → heights_of_arrow (tree_of_arrow xt v) ≡ map (map (λ n. n)) (height_parts v)
  heights_are (shown_arrow.Zero x y) = ap (λ k. if k == 3 then heights (ends x y) ∷ [] else []) (kind-ends x y)
  heights_are (shown_arrow.Zig hs rs ss) =
      let t = zag hs (picked xt rs) (picked xt ss) in
      ap (λ k. if k == 3 then heights t ∷ [] else []) (kind-zag _ _ _)
      ∙ ap (λ a. a ∷ []) (heights-zag _ _ _ ∙ sym (map-same hs))
    where
      map-same : (ns : List ℕ) → map (λ n. n) ns ≡ ns
      map-same [] = refl
      map-same (n ∷ ns) = ap (λ ms. n ∷ ms) (map-same ns)

-- ---- the parts of a view are lists that are held

among-one : (x y : List ℕ) → Among (x ∷ []) y → x ≡ y
among-one x y a = by a.place a.there
  where
    by : (k : ℕ) → slice_get (x ∷ []) k ≡ Some y → x ≡ y
    by zero e = cc
    by (suc k) e = cc

of_two : (P : List ℕ → Type 0) (x y z : List ℕ) → Among (x ∷ y ∷ []) z → P x → P y → P z
of_two P x y z a p q = by a.place a.there
  where
    by : (k : ℕ) → slice_get (x ∷ y ∷ []) k ≡ Some z → P z
    by zero e = let f : x ≡ z = cc in subst P f p
    by (suc zero) e = let f : y ≡ z = cc in subst P f q
    by (suc (suc k)) e = cc

module _ (l : NodeLists) where
  held_diagrams : (e : DiagramEntry) (v : DiagramView) → ShowsDiagram l e v → (p : List ℕ) → Among (diagram_parts v) p
      → Among l.diagrams p
  held_diagrams e (shown.Zero x) s p a = let f = a.there in cc
  held_diagrams (diagram.Zero x) (shown.Zig rs ss fs bs) s p a = absurd s
  held_diagrams (diagram.Zig r k f b) (shown.Zig rs ss fs bs) s p a =
      of_two (Among l.diagrams) rs ss p a (record { place = r; there = s.regs }) (record { place = k; there = s.sings })

  held_legs : (e : DiagramEntry) (v : DiagramView) → ShowsDiagram l e v → (p : List ℕ) → Among (leg_parts v) p
      → Among l.arrows p
  held_legs e (shown.Zero x) s p a = let f = a.there in cc
  held_legs (diagram.Zero x) (shown.Zig rs ss fs bs) s p a = absurd s
  held_legs (diagram.Zig r k f b) (shown.Zig rs ss fs bs) s p a =
      of_two (Among l.arrows) fs bs p a (record { place = f; there = s.fwds }) (record { place = b; there = s.bwds })

  held_slices : (e : ArrowEntry) (v : ArrowView) → ShowsArrow l e v → (p : List ℕ) → Among (slice_parts v) p → Among l.arrows p
  held_slices e (shown_arrow.Zero x y) s p a = let f = a.there in cc
  held_slices (arrow.Zero x y) (shown_arrow.Zig hs rs ss) s p a = absurd s
  held_slices (arrow.Zig h r k) (shown_arrow.Zig hs rs ss) s p a =
      of_two (Among l.arrows) rs ss p a (record { place = r; there = s.regs }) (record { place = k; there = s.sings })

  held_heights : (e : ArrowEntry) (v : ArrowView) → ShowsArrow l e v → (p : List ℕ) → Among (height_parts v) p → Among l.heights p
  held_heights e (shown_arrow.Zero x y) s p a = let f = a.there in cc
  held_heights (arrow.Zero x y) (shown_arrow.Zig hs rs ss) s p a = absurd s
  held_heights (arrow.Zig h r k) (shown_arrow.Zig hs rs ss) s p a =
      subst (Among l.heights) (among-one hs p a) (record { place = h; there = s.heights })

-- ids of the parts of a view
below_parts : (m n : ℕ) (v : DiagramView) → IsDiagramOver m n v → (p : List ℕ) → Among (diagram_parts v) p → AreBelow p n
below_parts m n (shown.Zero x) o p a = let f = a.there in cc
below_parts m n (shown.Zig rs ss fs bs) o p a = of_two (λ q. AreBelow q n) rs ss p a o.regs o.sings

below_legs : (m n : ℕ) (v : DiagramView) → IsDiagramOver m n v → (p : List ℕ) → Among (leg_parts v) p → AreBelow p m
below_legs m n (shown.Zero x) o p a = let f = a.there in cc
below_legs m n (shown.Zig rs ss fs bs) o p a = of_two (λ q. AreBelow q m) fs bs p a o.fwds o.bwds

below_slices : (m : ℕ) (v : ArrowView) → IsArrowOver m v → (p : List ℕ) → Among (slice_parts v) p → AreBelow p m
below_slices m (shown_arrow.Zero x y) o p a = let f = a.there in cc
below_slices m (shown_arrow.Zig hs rs ss) o p a = of_two (λ q. AreBelow q m) rs ss p a o.regs o.sings

-- ---- the counts

module _ (l : NodeLists) (ds : List DiagramEntry) (xs : List ArrowEntry) (notes : Notes) (held : AreHeldBy l ds xs)
    (tables : AreTables (map (arrow_view l) xs) (map (diagram_view l) ds) notes) where
  abbrev vs : List DiagramView
  vs = map (diagram_view l) ds

  abbrev ws : List ArrowView
  ws = map (arrow_view l) xs

  abbrev xt : List Tree
  xt = arrow_trees ws

  abbrev dt : List Tree
  dt = diagram_trees ws vs

  abbrev c : Contents
  c = contents_of ws vs notes

  diagrams_are : lists_of_diagrams c ≡ map (picked dt) (flat_map diagram_parts vs)
  diagrams_are =
      ap (flat_map slices_of_diagram)
      (read_all (tree_of_diagram xt dt) dt vs (length-diagram_trees ws vs) (λ i v at. (reads_diagram ws vs notes tables i v at).tree))
      ∙ flat-same slices_of_diagram diagram_parts (picked dt) (tree_of_diagram xt dt) (slices_are xt dt) vs

  arrows_are : lists_of_arrows c ≡ map (picked xt) (flat_map leg_parts vs ++ flat_map slice_parts ws)
  arrows_are =
      ap₂ (λ a b. a ++ b)
      (ap (flat_map legs_of_diagram)
      (read_all (tree_of_diagram xt dt) dt vs (length-diagram_trees ws vs) (λ i v at. (reads_diagram ws vs notes tables i v at).tree))
      ∙ flat-same legs_of_diagram leg_parts (picked xt) (tree_of_diagram xt dt) (legs_are xt dt) vs)
      (ap (flat_map slices_of_arrow)
      (read_all (tree_of_arrow xt) xt ws (length-arrow_trees ws) (λ i v at. (reads_arrow ws vs notes tables i v at).tree))
      ∙ flat-same slices_of_arrow slice_parts (picked xt) (tree_of_arrow xt) (arrow_slices_are xt) ws)
      ∙ sym (map-append (picked xt) (flat_map leg_parts vs) (flat_map slice_parts ws))

  all_heights_are : lists_of_heights c ≡ map (map (λ n. n)) (flat_map height_parts ws)
  all_heights_are =
      ap (flat_map heights_of_arrow)
      (read_all (tree_of_arrow xt) xt ws (length-arrow_trees ws) (λ i v at. (reads_arrow ws vs notes tables i v at).tree))
      ∙ flat-same heights_of_arrow height_parts (map (λ n. n)) (tree_of_arrow xt) (heights_are xt) ws

  shown_lists : (v : DiagramView) → Among vs v → ((p : List ℕ) → Among (diagram_parts v) p → Among l.diagrams p)
      × ((p : List ℕ) → Among (leg_parts v) p → Among l.arrows p)
  shown_lists v a =
      let e = slice-unmap (diagram_view l) ds a.place v a.there in
      let s = subst (ShowsDiagram l e.item) e.is (held.diagrams a.place e.item e.there) in
      (held_diagrams l e.item v s, held_legs l e.item v s)

  shown_arrow_lists : (v : ArrowView) → Among ws v → ((p : List ℕ) → Among (slice_parts v) p → Among l.arrows p)
      × ((p : List ℕ) → Among (height_parts v) p → Among l.heights p)
  shown_arrow_lists v a =
      let e = slice-unmap (arrow_view l) xs a.place v a.there in
      let s = subst (ShowsArrow l e.item) e.is (held.arrows a.place e.item e.there) in
      (held_slices l e.item v s, held_heights l e.item v s)

  -- diagrams
  to_diagrams : (p : List ℕ) → Among l.diagrams p → Among (lists_of_diagrams c) (picked dt p)
  to_diagrams p a =
      subst (λ us. Among us (picked dt p)) (sym diagrams_are)
      (among-map (picked dt) (flat_map diagram_parts vs) p (held.diagram_lists p a))

  from_diagrams : (u : List Tree) → Among (lists_of_diagrams c) u → PartOf (λ p. picked dt p ∷ []) l.diagrams u
  from_diagrams u a =
      let b = subst (λ us. Among us u) diagrams_are a in
      let w = slice-unmap (picked dt) (flat_map diagram_parts vs) b.place u b.there in
      let r = flat-from diagram_parts vs w.item (record { place = b.place; there = w.there }) in
      let s = shown_lists r.whole r.among in
      record { whole = w.item; among = s.0 w.item r.part; part = subst (Among (picked dt w.item ∷ [])) w.is (among-head _ []) }

  within_diagrams : (p : List ℕ) → Among l.diagrams p → (n : ℕ) → Among p n → n < length dt
  within_diagrams p a n b =
      let r = flat-from diagram_parts vs p (held.diagram_lists p a) in
      let o = (reads_diagram ws vs notes tables r.among.place r.whole r.among.there).children in
      among-below (length dt) p n (below_parts (length xt) (length dt) r.whole o p r.part) b

  -- arrows
  to_arrows : (p : List ℕ) → Among l.arrows p → Among (lists_of_arrows c) (picked xt p)
  to_arrows p a =
      subst (λ us. Among us (picked xt p)) (sym arrows_are)
      (among-map (picked xt) (flat_map leg_parts vs ++ flat_map slice_parts ws) p (by (held.arrow_lists p a)))
    where
      by : Among (flat_map leg_parts vs) p ⊎ Among (flat_map slice_parts ws) p
          → Among (flat_map leg_parts vs ++ flat_map slice_parts ws) p
      by (inl b) = among-left (flat_map leg_parts vs) (flat_map slice_parts ws) p b
      by (inr b) = among-right (flat_map leg_parts vs) (flat_map slice_parts ws) p b

  from_arrows : (u : List Tree) → Among (lists_of_arrows c) u → PartOf (λ p. picked xt p ∷ []) l.arrows u
  from_arrows u a =
      let b = subst (λ us. Among us u) arrows_are a in
      let w = slice-unmap (picked xt) (flat_map leg_parts vs ++ flat_map slice_parts ws) b.place u b.there in
      record {
        whole = w.item;
        among = by w.item (split (flat_map leg_parts vs) (flat_map slice_parts ws) w.item (record { place = b.place; there = w.there }));
        part = subst (Among (picked xt w.item ∷ [])) w.is (among-head _ []);
      }
    where
      by : (p : List ℕ) → Among (flat_map leg_parts vs) p ⊎ Among (flat_map slice_parts ws) p → Among l.arrows p
      by p (inl d) =
          let r = flat-from leg_parts vs p d in
          (shown_lists r.whole r.among).1 p r.part
      by p (inr d) =
          let r = flat-from slice_parts ws p d in
          (shown_arrow_lists r.whole r.among).0 p r.part

  within_arrows : (p : List ℕ) → Among l.arrows p → (n : ℕ) → Among p n → n < length xt
  within_arrows p a n b = by (held.arrow_lists p a)
    where
      by : Among (flat_map leg_parts vs) p ⊎ Among (flat_map slice_parts ws) p → n < length xt
      by (inl d) =
          let r = flat-from leg_parts vs p d in
          let o = (reads_diagram ws vs notes tables r.among.place r.whole r.among.there).children in
          among-below (length xt) p n (below_legs (length xt) (length dt) r.whole o p r.part) b
      by (inr d) =
          let r = flat-from slice_parts ws p d in
          let o = (reads_arrow ws vs notes tables r.among.place r.whole r.among.there).children in
          among-below (length xt) p n (below_slices (length xt) r.whole o p r.part) b

  -- heights
  to_heights : (p : List ℕ) → Among l.heights p → Among (lists_of_heights c) (map (λ n. n) p)
  to_heights p a =
      subst (λ us. Among us (map (λ n. n) p)) (sym all_heights_are)
      (among-map (map (λ n. n)) (flat_map height_parts ws) p (held.height_lists p a))

  from_heights : (u : List ℕ) → Among (lists_of_heights c) u → PartOf (λ p. map (λ n. n) p ∷ []) l.heights u
  from_heights u a =
      let b = subst (λ us. Among us u) all_heights_are a in
      let w = slice-unmap (map (λ n. n)) (flat_map height_parts ws) b.place u b.there in
      let r = flat-from height_parts ws w.item (record { place = b.place; there = w.there }) in
      record {
        whole = w.item;
        among = (shown_arrow_lists r.whole r.among).1 w.item r.part;
        part = subst (Among (map (λ n. n) w.item ∷ [])) w.is (among-head _ []);
      }

  pub storage_is : (s : Storage) → s.diagrams ≡ length ds → s.arrows ≡ length xs
      → s.lists ≡ length (nonempty l.diagrams) + length (nonempty l.arrows) + length (nonempty l.heights)
      → s.blocks ≡ length (distinct_blocks l.diagrams) + length (distinct_blocks l.arrows) + length (distinct_blocks l.heights)
      → s ≡ storage_of c
  storage_is s nd na nl nb =
      let apart_diagrams = λ (m n : ℕ) (a : m < length dt) (b : n < length dt). tables.store.diagrams_once m n a b in
      let apart_arrows = λ (m n : ℕ) (a : m < length xt) (b : n < length xt). tables.store.arrows_once m n a b in
      let ld = lists_counted same_trees trees_decide (λ i. get_or dt i nil) (λ n. n < length dt) apart_diagrams l.diagrams
      (lists_of_diagrams c) held.diagram_lists_once within_diagrams to_diagrams from_diagrams in
      let la = lists_counted same_trees trees_decide (λ i. get_or xt i nil) (λ n. n < length xt) apart_arrows l.arrows
      (lists_of_arrows c) held.arrow_lists_once within_arrows to_arrows from_arrows in
      let lh = lists_counted same_numbers numbers_decide (λ n. n) (λ n. Unit {0}) (λ m n a b e. e) l.heights
      (lists_of_heights c) held.height_lists_once (λ p a n b. tt) to_heights from_heights in
      let bd = blocks_counted same_trees trees_decide (λ i. get_or dt i nil) (λ n. n < length dt) apart_diagrams l.diagrams
      (lists_of_diagrams c) held.diagram_lists_once within_diagrams to_diagrams from_diagrams in
      let ba = blocks_counted same_trees trees_decide (λ i. get_or xt i nil) (λ n. n < length xt) apart_arrows l.arrows
      (lists_of_arrows c) held.arrow_lists_once within_arrows to_arrows from_arrows in
      let bh = blocks_counted same_numbers numbers_decide (λ n. n) (λ n. Unit {0}) (λ m n a b e. e) l.heights
      (lists_of_heights c) held.height_lists_once (λ p a n b. tt) to_heights from_heights in
      let d : s.diagrams ≡ length dt = nd ∙ sym (length-map ds (diagram_view l)) ∙ sym (length-diagram_trees ws vs) in
      let x : s.arrows ≡ length xt = na ∙ sym (length-map xs (arrow_view l)) ∙ sym (length-arrow_trees ws) in
      let ls = nl ∙ ap₂ (λ m n. m + n) (ap₂ (λ m n. m + n) ld la) lh in
      let bs = nb ∙ ap₂ (λ m n. m + n) (ap₂ (λ m n. m + n) bd ba) bh in
      λ i. record { diagrams = d i; arrows = x i; lists = ls i; blocks = bs i }
