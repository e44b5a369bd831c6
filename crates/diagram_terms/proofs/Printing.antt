-- The printed form: the place of a tree in a list, the node of a tree over such places, and the trees of these nodes.
use Rattle.std.proofs.Common.{◌≡◌, ℕ, zero, suc, ◌<◌, ◌≤◌, Bool, true, false, true≢false, List, [], ◌∷◌, ◌++◌, length, map, get_or, refl, sym, ap, ap₂, subst, ◌∙◌, arith}
use Rattle.std.specs.Prelude.{◌&&◌}
use Rattle.std.specs.List.{flat_map}
use Rattle.std.proofs.lemmas.Bool.{and_from, cond-true, cond-false}
use Rattle.std.proofs.lemmas.List.{length-append, length-map, get_or-map, get_or_append_left, get_or_push, append-nil, append_assoc}
use Rattle.diagram_terms.specs.declared.label.Label.{Label}
use Rattle.diagram_terms.specs.declared.node.Node.{Node}
use Rattle.diagram_terms.specs.declared.node.Node.TheVariants as node
use Rattle.diagram_terms.specs.Tree.{Tree, nil, kind, point, zig, ends, zag, label_at, from_at, to_at, regs, sings, fwds, bwds, heights, regs-zig, sings-zig, fwds-zig, bwds-zig, heights-zag, regs-zag, sings-zag}
use Rattle.diagram_terms.specs.Dual.{AreBelow}
use Rattle.diagram_terms.specs.Shape.{IsDiagram, IsArrow}
use Rattle.diagram_terms.specs.Dimension.{dimension_of}
use Rattle.diagram_terms.specs.Completion.{children, completed, completions, same_tree, place_in, places_in, node_of, IsAmongFirst, ComesAfterChildren}
use Rattle.diagram_terms.specs.Nodes.{picked, node_tree, trees_from, trees_of, tree_at, all_below, places_below}
use Rattle.diagram_terms.proofs.Completions.{IsIn, AllIn, same_tree_decides, children-zig, children-zag}
use Rattle.diagram_terms.proofs.NodeForms.{node_tree_same}
use Rattle.diagram_terms.proofs.NodeTests.{all_below-true}

-- ---- the place of a tree

-- the tree stands at its place, which is k or comes before k
pub record StandsBy (ts : List Tree) (t : Tree) (k : ℕ) : Type 0 where
  pub least : place_in ts t ≤ k
  pub there : get_or ts (place_in ts t) nil ≡ t

stands_first : (ts : List Tree) (u t : Tree) (k : ℕ) (b : Bool) → same_tree t u ≡ b → k < length (u ∷ ts)
    → get_or (u ∷ ts) k nil ≡ t
    → ((j : ℕ) → j < length ts → get_or ts j nil ≡ t → StandsBy ts t j) → StandsBy (u ∷ ts) t k
stands_first ts u t k true e l at rest =
    let z : place_in (u ∷ ts) t ≡ 0 = cond-true (same_tree t u) 0 (suc (place_in ts t)) e in
    record { least = omega arith; there = ap (λ p. get_or (u ∷ ts) p nil) z ∙ sym ((same_tree_decides t u).0 e) }
stands_first ts u t zero false e l at rest = absurd (true≢false (sym ((same_tree_decides t u).1 (sym at)) ∙ e))
stands_first ts u t (suc k) false e l at rest =
    let r = rest k (omega arith) at in
    let z : place_in (u ∷ ts) t ≡ suc (place_in ts t) = cond-false (same_tree t u) 0 (suc (place_in ts t)) e in
    record { least = let m = r.least in omega arith; there = ap (λ p. get_or (u ∷ ts) p nil) z ∙ r.there }

-- a tree that stands at k stands first at its place
pub stands_by : (ts : List Tree) (t : Tree) (k : ℕ) → k < length ts → get_or ts k nil ≡ t → StandsBy ts t k
stands_by [] t k l at = absurd (omega arith)
stands_by (u ∷ ts) t k l at = stands_first ts u t k (same_tree t u) refl l at (stands_by ts t)

-- the first place at which it stands is its place
pub place_in-first : (ts : List Tree) (t : Tree) (p : ℕ) → p < length ts → get_or ts p nil ≡ t
    → ((k : ℕ) → k < length ts → get_or ts k nil ≡ t → p ≤ k) → place_in ts t ≡ p
place_in-first ts t p l at first =
    let s = stands_by ts t p l at in
    let m = s.least in
    let n = first (place_in ts t) (omega arith) s.there in
    omega arith

-- ---- the places of trees among the first n of a list

-- a fact of each tree of a list
abbrev pub Each : (Tree → Type 0) → List Tree → Type 0
Each P us = (k : ℕ) → k < length us → P (get_or us k nil)

module _ (P : Tree → Type 0) where
  pub each_left : (us vs : List Tree) → Each P (us ++ vs) → Each P us
  each_left [] vs h k l = absurd (omega arith)
  each_left (u ∷ us) vs h zero l = h 0 (omega arith)
  each_left (u ∷ us) vs h (suc k) l = each_left us vs (λ j m. h (suc j) (omega arith)) k (omega arith)

  pub each_right : (us vs : List Tree) → Each P (us ++ vs) → Each P vs
  each_right [] vs h k l = h k l
  each_right (u ∷ us) vs h k l = each_right us vs (λ j m. h (suc j) (omega arith)) k l

abbrev pub EachAmong : ℕ → List Tree → List Tree → Type 0
EachAmong n ts us = Each (IsAmongFirst n ts) us

module _ (n : ℕ) (ts : List Tree) (within : n ≤ length ts) where
  stands_among : (t : Tree) (h : IsAmongFirst n ts t) → StandsBy ts t h.place
  stands_among t h = stands_by ts t h.place (let b = h.before in omega arith) h.is

  pub place_below : (us : List Tree) → EachAmong n ts us → (j : ℕ) → j < length (places_in ts us)
      → get_or (places_in ts us) j 0 < n
  place_below us each j l =
      let m = length-map us (place_in ts) in
      let k : j < length us = omega arith in
      let e = get_or-map (place_in ts) us j nil 0 k in
      let h = each j k in
      let b = h.before in
      let f = (stands_among (get_or us j nil) h).least in
      omega arith

  -- and there they stand
  pub place_there : (us : List Tree) → EachAmong n ts us → (j : ℕ) → j < length us
      → get_or ts (get_or (places_in ts us) j 0) nil ≡ get_or us j nil
  place_there us each j l =
      ap (λ p. get_or ts p nil) (get_or-map (place_in ts) us j nil 0 l) ∙ (stands_among (get_or us j nil) (each j l)).there

  pub picked_places : (us : List Tree) → EachAmong n ts us → picked ts (places_in ts us) ≡ us
  picked_places [] each = refl
  picked_places (u ∷ us) each = ap₂ ◌∷◌ (stands_among u (each 0 (omega arith))).there
      (picked_places us (λ j l. each (suc j) (omega arith)))

-- ---- the node of each kind of tree

pub node_of-point : (ts : List Tree) (x : Label) → node_of ts (point x) ≡ node.Label x
unfolding node_of point kind label_at
node_of-point ts x = refl

pub node_of-ends : (ts : List Tree) (x y : Label) → node_of ts (ends x y) ≡ node.Labels x y
unfolding node_of ends kind from_at to_at
node_of-ends ts x y = refl

node_of_zig : (ts rs ss fs bs : List Tree)
    → node_of ts (zig rs ss fs bs)
    ≡ node.Diagram (places_in ts (regs (zig rs ss fs bs))) (places_in ts (sings (zig rs ss fs bs)))
    (places_in ts (fwds (zig rs ss fs bs))) (places_in ts (bwds (zig rs ss fs bs)))
unfolding node_of zig kind
node_of_zig ts rs ss fs bs = refl

pub node_of-zig : (ts rs ss fs bs : List Tree)
    → node_of ts (zig rs ss fs bs) ≡ node.Diagram (places_in ts rs) (places_in ts ss) (places_in ts fs) (places_in ts bs)
node_of-zig ts rs ss fs bs =
    let a = regs-zig rs ss fs bs in
    let b = sings-zig rs ss fs bs in
    let e = fwds-zig rs ss fs bs in
    let f = bwds-zig rs ss fs bs in
    node_of_zig ts rs ss fs bs
    ∙ (λ i. node.Diagram (places_in ts (a i)) (places_in ts (b i)) (places_in ts (e i)) (places_in ts (f i)))

node_of_zag : (ts : List Tree) (hs : List ℕ) (rs ss : List Tree)
    → node_of ts (zag hs rs ss)
    ≡ node.Arrow (heights (zag hs rs ss)) (places_in ts (regs (zag hs rs ss))) (places_in ts (sings (zag hs rs ss)))
unfolding node_of zag kind
node_of_zag ts hs rs ss = refl

pub node_of-zag : (ts : List Tree) (hs : List ℕ) (rs ss : List Tree)
    → node_of ts (zag hs rs ss) ≡ node.Arrow hs (places_in ts rs) (places_in ts ss)
node_of-zag ts hs rs ss =
    let h = heights-zag hs rs ss in
    let a = regs-zag hs rs ss in
    let b = sings-zag hs rs ss in
    node_of_zag ts hs rs ss ∙ (λ i. node.Arrow (h i) (places_in ts (a i)) (places_in ts (b i)))

-- ---- a node over places that come before it

-- the tree is made of its parts, as one of the four kinds of node
pub data IsMade (t : Tree) : Type 0 where
  as_point : t ≡ point (label_at t) → IsMade t
  as_zig : t ≡ zig (regs t) (sings t) (fwds t) (bwds t) → IsMade t
  as_ends : t ≡ ends (from_at t) (to_at t) → IsMade t
  as_zag : t ≡ zag (heights t) (regs t) (sings t) → IsMade t

pub made_diagram : (d : ℕ) (t : Tree) → IsDiagram d t → IsMade t
made_diagram zero t h = as_point h
made_diagram (suc d) t h = as_zig h.is_zig

pub made_arrow : (d : ℕ) (t : Tree) → IsArrow d t → IsMade t
made_arrow zero t h = as_ends h
made_arrow (suc d) t h = as_zag h.is_zag

-- the node of a tree names places below n, and describes the tree
pub record DescribesBelow (n : ℕ) (ts : List Tree) (t : Tree) : Type 0 where
  pub below : places_below n (node_of ts t) ≡ true
  pub tree : node_tree ts (node_of ts t) ≡ t

module _ (n : ℕ) (ts : List Tree) (within : n ≤ length ts) where
  all_below_n : (us : List Tree) → EachAmong n ts us → all_below n (places_in ts us) ≡ true
  all_below_n us each = all_below-true n (places_in ts us) (place_below n ts within us each)

  describes_point : (x : Label) → DescribesBelow n ts (point x)
  describes_point x =
      let e = node_of-point ts x in
      record { below = ap (places_below n) e; tree = ap (node_tree ts) e }

  describes_ends : (x y : Label) → DescribesBelow n ts (ends x y)
  describes_ends x y =
      let e = node_of-ends ts x y in
      record { below = ap (places_below n) e; tree = ap (node_tree ts) e }

  describes_zig : (rs ss fs bs : List Tree) → EachAmong n ts (rs ++ ss ++ fs ++ bs)
      → DescribesBelow n ts (zig rs ss fs bs)
  describes_zig rs ss fs bs each =
      let e = node_of-zig ts rs ss fs bs in
      let three = each_left (IsAmongFirst n ts) (rs ++ ss ++ fs) bs each in
      let two = each_left (IsAmongFirst n ts) (rs ++ ss) fs three in
      let er = each_left (IsAmongFirst n ts) rs ss two in
      let es = each_right (IsAmongFirst n ts) rs ss two in
      let ef = each_right (IsAmongFirst n ts) (rs ++ ss) fs three in
      let eb = each_right (IsAmongFirst n ts) (rs ++ ss ++ fs) bs each in
      let r = places_in ts rs in
      let s = places_in ts ss in
      let f = places_in ts fs in
      let b = places_in ts bs in
      let pr = picked_places n ts within rs er in
      let ps = picked_places n ts within ss es in
      let pf = picked_places n ts within fs ef in
      let pb = picked_places n ts within bs eb in
      record {
        below = ap (places_below n) e ∙ and_from (all_below n r && all_below n s && all_below n f) (all_below n b)
            (and_from (all_below n r && all_below n s) (all_below n f)
            (and_from (all_below n r) (all_below n s) (all_below_n rs er) (all_below_n ss es)) (all_below_n fs ef))
            (all_below_n bs eb);
        tree = ap (node_tree ts) e ∙ (λ i. zig (pr i) (ps i) (pf i) (pb i));
      }

  describes_zag : (hs : List ℕ) (rs ss : List Tree) → EachAmong n ts (rs ++ ss) → DescribesBelow n ts (zag hs rs ss)
  describes_zag hs rs ss each =
      let e = node_of-zag ts hs rs ss in
      let er = each_left (IsAmongFirst n ts) rs ss each in
      let es = each_right (IsAmongFirst n ts) rs ss each in
      let pr = picked_places n ts within rs er in
      let ps = picked_places n ts within ss es in
      record {
        below = ap (places_below n) e ∙ and_from (all_below n (places_in ts rs)) (all_below n (places_in ts ss))
            (all_below_n rs er) (all_below_n ss es);
        tree = ap (node_tree ts) e ∙ (λ i. zag hs (pr i) (ps i));
      }

  pub describes_below : (t : Tree) → IsMade t → EachAmong n ts (children t) → DescribesBelow n ts t
  describes_below t (as_point e) each = subst (DescribesBelow n ts) (sym e) (describes_point (label_at t))
  describes_below t (as_zig e) each =
      subst (DescribesBelow n ts) (sym e) (describes_zig (regs t) (sings t) (fwds t) (bwds t)
      (subst (EachAmong n ts) (ap children e ∙ children-zig (regs t) (sings t) (fwds t) (bwds t)) each))
  describes_below t (as_ends e) each = subst (DescribesBelow n ts) (sym e) (describes_ends (from_at t) (to_at t))
  describes_below t (as_zag e) each =
      subst (DescribesBelow n ts) (sym e) (describes_zag (heights t) (regs t) (sings t)
      (subst (EachAmong n ts) (ap children e ∙ children-zag (heights t) (regs t) (sings t)) each))

-- ---- what is visited is there

-- what a visit to a tree completes ends with the tree
pub visit_ends : (n : ℕ) (t : Tree) (ts : List Tree) → AllIn ts (completed n t) → IsIn ts t
visit_ends zero t ts h = h 0 (omega arith)
visit_ends (suc n) t ts h = each_right (IsIn ts) (flat_map (completed n) (children t)) (t ∷ []) h 0 (omega arith)

pub visited_in : (ts : List Tree) (visit : Tree → List Tree) → ((t : Tree) → AllIn ts (visit t) → IsIn ts t)
    → (us : List Tree) → AllIn ts (flat_map visit us) → AllIn ts us
visited_in ts visit ends [] h k l = absurd (omega arith)
visited_in ts visit ends (u ∷ us) h zero l = ends u (each_left (IsIn ts) (visit u) (flat_map visit us) h)
visited_in ts visit ends (u ∷ us) h (suc k) l =
    visited_in ts visit ends us (each_right (IsIn ts) (visit u) (flat_map visit us) h) k (omega arith)

pub roots_in : (ts roots : List Tree) → AllIn ts (flat_map completions roots) → AllIn ts roots
roots_in ts roots h = visited_in ts completions (λ t. visit_ends (dimension_of t) t ts) roots h

-- ---- the nodes of trees that come after their children

-- the trees come after their children, and each is made of its parts
pub record ArePrintable (ts : List Tree) : Type 0 where
  pub after : ComesAfterChildren ts
  pub made : (i : ℕ) → i < length ts → IsMade (get_or ts i nil)

-- the first tree of the second part of a list
module _ (ts seen us : List Tree) (u : Tree) (e : ts ≡ seen ++ (u ∷ us)) where
  pub one_left : ts ≡ (seen ++ u ∷ []) ++ us
  one_left = e ∙ sym (append_assoc seen (u ∷ []) us)

  pub next_within : length seen < length ts
  next_within =
      let p = length-append seen (u ∷ us) in
      let n = ap length e in
      omega arith

  pub before_next : (i : ℕ) → i < length seen → get_or seen i nil ≡ get_or ts i nil
  before_next i l = sym (ap (λ vs. get_or vs i nil) e ∙ get_or_append_left seen (u ∷ us) nil i l)

  pub next_is : get_or ts (length seen) nil ≡ u
  next_is =
      let p = length-append seen (u ∷ []) in
      ap (λ vs. get_or vs (length seen) nil) one_left
      ∙ get_or_append_left (seen ++ u ∷ []) us nil (length seen) (omega arith) ∙ get_or_push seen u nil (length seen) refl

module _ (ts : List Tree) (printable : ArePrintable ts) where
  abbrev nodes : List Node
  nodes = map (node_of ts) ts

  describes_at : (i : ℕ) → i < length ts → DescribesBelow i ts (get_or ts i nil)
  describes_at i l = describes_below i ts (omega arith) (get_or ts i nil) (printable.made i l) (printable.after.after i l)

  pub nodes_below : (i : ℕ) (none : Node) → i < length nodes → places_below i (get_or nodes i none) ≡ true
  nodes_below i none l =
      let m = length-map ts (node_of ts) in
      let k : i < length ts = omega arith in
      ap (places_below i) (get_or-map (node_of ts) ts i nil none k) ∙ (describes_at i k).below

  trees_next : (seen us : List Tree) → ts ≡ seen ++ us → trees_from seen (map (node_of ts) us) ≡ ts
  trees_next seen [] e = sym (append-nil seen) ∙ sym e
  trees_next seen (u ∷ us) e =
      let n = length seen in
      let d = subst (DescribesBelow n ts) (next_is ts seen us u e) (describes_at n (next_within ts seen us u e)) in
      let same = node_tree_same n seen ts (before_next ts seen us u e) (node_of ts u) d.below in
      ap (λ v. trees_from (seen ++ v ∷ []) (map (node_of ts) us)) (same ∙ d.tree)
      ∙ trees_next (seen ++ u ∷ []) us (one_left ts seen us u e)

  pub trees_of-nodes : trees_of nodes ≡ ts
  trees_of-nodes = trees_next [] ts refl

  -- trees of the list stand at their places
  pub trees_at_places : (us : List Tree) → AllIn ts us → map (tree_at nodes) (places_in ts us) ≡ us
  trees_at_places us all =
      ap (λ vs. picked vs (places_in ts us)) trees_of-nodes ∙ picked_places (length ts) ts (omega arith) us all

  pub places_within : (us : List Tree) → AllIn ts us → AreBelow (places_in ts us) (length nodes)
  places_within us all = record {
    below = λ j l.
        let m = length-map ts (node_of ts) in
        let b = place_below (length ts) ts (omega arith) us all j l in
        omega arith;
  }
