-- What the form of a list of nodes says of each place: its tree, its sort and its children.
use Rattle.std.proofs.Common.{◌≡◌, ℕ, zero, suc, ◌+◌, ◌<◌, Bool, true, false, Option, Some, None, List, [], ◌∷◌, ◌++◌, length, get_or, refl, sym, ap, ap₂, ◌∙◌, arith, rules, subst}
use Rattle.std.specs.Prelude.{◌&&◌, ◌==◌, nat_lt, if◌then◌else◌, IsSome, unwrap_or}
use Rattle.std.proofs.lemmas.Bool.{and_parts, and_from, ltb-true, lt-ltb, eqb-true, eq-eqb, cond-true}
use Rattle.std.proofs.lemmas.List.{length-append, get_or_append_left, get_or_push}
use Rattle.std.proofs.lemmas.Option.{cond_some, same_Some, none-some}
use Rattle.diagram_terms.specs.declared.label.Label.{Label}
use Rattle.diagram_terms.specs.declared.limits.TheConstants.{GREATEST_DIM}
use Rattle.diagram_terms.specs.declared.node.Node.{Node}
use Rattle.diagram_terms.specs.declared.node.Node.TheVariants as node
use Rattle.diagram_terms.specs.declared.node.Sort.{Sort}
use Rattle.diagram_terms.specs.declared.node.Sort.TheVariants as sort
use Rattle.diagram_terms.specs.Tree.{Tree, nil, zig, zag}
use Rattle.diagram_terms.specs.Dual.{IsMonotone}
use Rattle.diagram_terms.specs.Nodes.{picked, node_tree, trees_from, trees_of, tree_at, is_within_limits, labels_within_limits, all_below, places_below, is_of, all_of, rises_from, diagram_lengths, diagram_over, arrow_over, first_sort, sort_of, node_sort, sorts_from, sorts_of, sort_at, IsNode, AreNodesFrom, AreNodes}
use Rattle.diagram_terms.proofs.NodeTests.{dim_of, IsWithinLimits, within_limits, is_within_limits-true, below_at, all_below-true, of_at, all_of-true, rise_from, rises_from-true, LengthsFit, lengths_fit, diagram_lengths-true}

abbrev no_sort : Sort
no_sort = sort.Diagram 0

-- ---- a node reads its own places alone

module _ (m : ℕ) (ts us : List Tree) (same : (i : ℕ) → i < m → get_or ts i nil ≡ get_or us i nil) where
  picked_same : (places : List ℕ) → all_below m places ≡ true → picked ts places ≡ picked us places
  picked_same [] e = refl
  picked_same (p ∷ ps) e =
      let q = and_parts (nat_lt p m) (all_below m ps) e in
      ap₂ ◌∷◌ (same p (ltb-true p m q.0)) (picked_same ps q.1)

  -- lists of trees that agree below m give one tree to a node with places below m
  pub node_tree_same : (n : Node) → places_below m n ≡ true → node_tree ts n ≡ node_tree us n
  node_tree_same (node.Label x) e = refl
  node_tree_same (node.Diagram rs ss fs bs) e =
      let p = and_parts (all_below m rs && all_below m ss && all_below m fs) (all_below m bs) e in
      let q = and_parts (all_below m rs && all_below m ss) (all_below m fs) p.0 in
      let r = and_parts (all_below m rs) (all_below m ss) q.0 in
      let a = picked_same rs r.0 in
      let b = picked_same ss r.1 in
      let c = picked_same fs q.1 in
      let f = picked_same bs p.1 in
      λ i. zig (a i) (b i) (c i) (f i)
  node_tree_same (node.Labels x y) e = refl
  node_tree_same (node.Arrow hs rs ss) e =
      let p = and_parts (all_below m rs) (all_below m ss) e in
      ap₂ (zag hs) (picked_same rs p.0) (picked_same ss p.1)

module _ (m : ℕ) (ts us : List Sort) (same : (i : ℕ) → i < m → get_or ts i no_sort ≡ get_or us i no_sort) where
  all_of_same : (s : Sort) (places : List ℕ) → all_below m places ≡ true → all_of ts s places ≡ all_of us s places
  all_of_same s [] e = refl
  all_of_same s (p ∷ ps) e =
      let q = and_parts (nat_lt p m) (all_below m ps) e in
      let a = ap (λ (t : Sort). is_of (t ∷ []) s 0) (same p (ltb-true p m q.0)) in
      ap₂ ◌&&◌ a (all_of_same s ps q.1)

  first_sort_same : (places : List ℕ) → all_below m places ≡ true → first_sort ts places ≡ first_sort us places
  first_sort_same [] e = refl
  first_sort_same (p ∷ ps) e = same p (ltb-true p m (and_parts (nat_lt p m) (all_below m ps) e).0)

  diagram_over_same : (rs ss fs bs : List ℕ) (s : Sort) → all_below m rs ≡ true → all_below m ss ≡ true → all_below m fs ≡ true
      → all_below m bs ≡ true → diagram_over ts rs ss fs bs s ≡ diagram_over us rs ss fs bs s
  diagram_over_same rs ss fs bs (sort.Diagram d) er es ef eb =
      let a = all_of_same (sort.Diagram d) rs er in
      let b = all_of_same (sort.Diagram d) ss es in
      let c = all_of_same (sort.Arrow d) fs ef in
      let f = all_of_same (sort.Arrow d) bs eb in
      λ i. if nat_lt d GREATEST_DIM && a i && b i && c i && f i then Some (sort.Diagram (suc d)) else None
  diagram_over_same rs ss fs bs (sort.Arrow d) er es ef eb = refl

  arrow_over_same : (rs ss : List ℕ) (s : Sort) → all_below m rs ≡ true → all_below m ss ≡ true
      → arrow_over ts rs ss s ≡ arrow_over us rs ss s
  arrow_over_same rs ss (sort.Diagram d) er es = refl
  arrow_over_same rs ss (sort.Arrow d) er es =
      let a = all_of_same (sort.Arrow d) rs er in
      let b = all_of_same (sort.Arrow d) ss es in
      λ i. if nat_lt d GREATEST_DIM && a i && b i then Some (sort.Arrow (suc d)) else None

  -- lists of sorts that agree below m give one sort to a node with places below m
  pub sort_of_same : (n : Node) → places_below m n ≡ true → sort_of ts n ≡ sort_of us n
  sort_of_same (node.Label x) e = refl
  sort_of_same (node.Diagram rs ss fs bs) e =
      let p = and_parts (all_below m rs && all_below m ss && all_below m fs) (all_below m bs) e in
      let q = and_parts (all_below m rs && all_below m ss) (all_below m fs) p.0 in
      let r = and_parts (all_below m rs) (all_below m ss) q.0 in
      let a = ap (diagram_over ts rs ss fs bs) (first_sort_same rs r.0)
      ∙ diagram_over_same rs ss fs bs (first_sort us rs) r.0 r.1 q.1 p.1 in
      ap (λ (o : Option Sort). if diagram_lengths rs ss fs bs then o else None) a
  sort_of_same (node.Labels x y) e = refl
  sort_of_same (node.Arrow hs [] ss) e = refl
  sort_of_same (node.Arrow hs (r ∷ rs) ss) e =
      let p = and_parts (all_below m (r ∷ rs)) (all_below m ss) e in
      let a = ap (arrow_over ts (r ∷ rs) ss) (first_sort_same (r ∷ rs) p.0)
      ∙ arrow_over_same (r ∷ rs) ss (first_sort us (r ∷ rs)) p.0 p.1 in
      ap (λ (o : Option Sort). if (length ss == length hs) && rises_from 0 (length rs) hs then o else None) a

-- ---- one more node leaves what stands before it

pub length-trees_from : (ts : List Tree) (ns : List Node) → length (trees_from ts ns) ≡ length ts + length ns
length-trees_from ts [] = omega arith
length-trees_from ts (n ∷ ns) =
    let e = length-trees_from (ts ++ node_tree ts n ∷ []) ns in
    let l = length-append ts (node_tree ts n ∷ []) in omega arith

pub length-sorts_from : (sorts : List Sort) (ns : List Node) → length (sorts_from sorts ns) ≡ length sorts + length ns
length-sorts_from sorts [] = omega arith
length-sorts_from sorts (n ∷ ns) =
    let e = length-sorts_from (sorts ++ node_sort sorts n ∷ []) ns in
    let l = length-append sorts (node_sort sorts n ∷ []) in omega arith

pub trees_from-before : (ts : List Tree) (ns : List Node) (i : ℕ) → i < length ts
    → get_or (trees_from ts ns) i nil ≡ get_or ts i nil
trees_from-before ts [] i l = refl
trees_from-before ts (n ∷ ns) i l =
    let more = ts ++ node_tree ts n ∷ [] in
    let k : i < length more = omega (arith, length-append ts (node_tree ts n ∷ [])) in
    trees_from-before more ns i k ∙ get_or_append_left ts (node_tree ts n ∷ []) nil i l

pub sorts_from-before : (sorts : List Sort) (ns : List Node) (i : ℕ) → i < length sorts
    → get_or (sorts_from sorts ns) i no_sort ≡ get_or sorts i no_sort
sorts_from-before sorts [] i l = refl
sorts_from-before sorts (n ∷ ns) i l =
    let more = sorts ++ node_sort sorts n ∷ [] in
    let k : i < length more = omega (arith, length-append sorts (node_sort sorts n ∷ [])) in
    sorts_from-before more ns i k ∙ get_or_append_left sorts (node_sort sorts n ∷ []) no_sort i l

pub length-trees_of : (nodes : List Node) → length (trees_of nodes) ≡ length nodes
length-trees_of nodes = omega (arith, length-trees_from [] nodes)

pub length-sorts_of : (nodes : List Node) → length (sorts_of nodes) ≡ length nodes
length-sorts_of nodes = omega (arith, length-sorts_from [] nodes)

-- ---- the node at each place

-- what the node n at place i says of these lists of trees and sorts
pub record HasForm (trees : List Tree) (sorts : List Sort) (i : ℕ) (n : Node) : Type 0 where
  pub labels : labels_within_limits n ≡ true
  pub places : places_below i n ≡ true
  pub tree : get_or trees i nil ≡ node_tree trees n
  pub sort : sort_of sorts n ≡ Some (get_or sorts i (sort.Diagram 0))

some_from_is : (o : Option Sort) → IsSome o → o ≡ Some (unwrap_or o no_sort)
some_from_is (Some s) h = refl
some_from_is None h = absurd (search rules)

-- the first of these nodes
form_here : (ts : List Tree) (sorts : List Sort) (n : Node) (ns : List Node) → length ts ≡ length sorts → IsNode sorts n
    → HasForm (trees_from ts (n ∷ ns)) (sorts_from sorts (n ∷ ns)) (length ts) n
form_here ts sorts n ns e h =
    let ts2 = ts ++ node_tree ts n ∷ [] in
    let sorts2 = sorts ++ node_sort sorts n ∷ [] in
    let k : length ts < length ts2 = omega (arith, length-append ts (node_tree ts n ∷ [])) in
    let k2 : length ts < length sorts2 = omega (arith, length-append sorts (node_sort sorts n ∷ [])) in
    let below : places_below (length ts) n ≡ true = ap (λ (m : ℕ). places_below m n) e ∙ h.places in
    record {
      labels = h.labels;
      places = below;
      tree = trees_from-before ts2 ns (length ts) k ∙ get_or_push ts (node_tree ts n) nil (length ts) refl
          ∙ node_tree_same (length ts) ts (trees_from ts2 ns) (λ i l. sym (trees_from-before ts (n ∷ ns) i l)) n below;
      sort = sort_of_same (length ts) (sorts_from sorts2 ns) sorts (λ i l. sorts_from-before sorts (n ∷ ns) i (omega arith)) n below
          ∙ some_from_is (sort_of sorts n) h.fits
          ∙ ap Some (sym (sorts_from-before sorts2 ns (length ts) k2 ∙ get_or_push sorts (node_sort sorts n) no_sort (length ts) (sym e)));
    }

form_from : (ts : List Tree) (sorts : List Sort) (ns : List Node) → length ts ≡ length sorts → AreNodesFrom sorts ns
    → (i k : ℕ) (d : Node) → i < length ns → length ts + i ≡ k → HasForm (trees_from ts ns) (sorts_from sorts ns) k (get_or ns i d)
form_from ts sorts [] e h i k d l q = absurd (omega arith)
form_from ts sorts (n ∷ ns) e h zero k d l q =
    subst (λ (m : ℕ). HasForm (trees_from ts (n ∷ ns)) (sorts_from sorts (n ∷ ns)) m n) (omega arith) (form_here ts sorts n ns e h.0)
form_from ts sorts (n ∷ ns) e h (suc i) k d l q =
    let a = length-append ts (node_tree ts n ∷ []) in
    let b = length-append sorts (node_sort sorts n ∷ []) in
    form_from (ts ++ node_tree ts n ∷ []) (sorts ++ node_sort sorts n ∷ []) ns (omega arith) h.1 i k d (omega arith) (omega arith)

module _ (nodes : List Node) (are : AreNodes nodes) (i : ℕ) (d : Node) (l : i < length nodes) where
  pub form_at : HasForm (trees_of nodes) (sorts_of nodes) i (get_or nodes i d)
  form_at = form_from [] [] nodes refl are i i d l (omega arith)

  pub tree_at-node : tree_at nodes i ≡ node_tree (trees_of nodes) (get_or nodes i d)
  tree_at-node = form_at.tree

  pub sort_of-node : sort_of (sorts_of nodes) (get_or nodes i d) ≡ Some (sort_at nodes i)
  sort_of-node = form_at.sort

-- ---- what the sort of a node says of its children

-- these places are below i, and what stands there is of sort s
pub record AreChildren (sorts : List Sort) (i : ℕ) (s : Sort) (places : List ℕ) : Type 0 where
  pub below : (j : ℕ) → j < length places → get_or places j 0 < i
  pub are : (j : ℕ) → j < length places → get_or sorts (get_or places j 0) (sort.Diagram 0) ≡ s

-- a diagram of dimension d + 1 at place i
pub record IsDiagramNode (sorts : List Sort) (i d : ℕ) (rs ss fs bs : List ℕ) : Type 0 where
  pub dim : d < GREATEST_DIM
  pub lengths : LengthsFit rs ss fs bs
  pub regs : AreChildren sorts i (sort.Diagram d) rs
  pub sings : AreChildren sorts i (sort.Diagram d) ss
  pub fwds : AreChildren sorts i (sort.Arrow d) fs
  pub bwds : AreChildren sorts i (sort.Arrow d) bs

-- an arrow of dimension d + 1 at place i
pub record IsArrowNode (sorts : List Sort) (i d : ℕ) (hs rs ss : List ℕ) : Type 0 where
  pub dim : d < GREATEST_DIM
  pub regs_len : 0 < length rs
  pub sings_len : length ss ≡ length hs
  pub monotone : IsMonotone hs
  pub below : (k : ℕ) → k < length hs → suc (get_or hs k 0) < length rs
  pub regs : AreChildren sorts i (sort.Arrow d) rs
  pub sings : AreChildren sorts i (sort.Arrow d) ss

children : (sorts : List Sort) (i : ℕ) (s : Sort) (places : List ℕ) → all_below i places ≡ true → all_of sorts s places ≡ true
    → AreChildren sorts i s places
children sorts i s places e f = record { below = below_at i places e; are = of_at sorts s places f }

-- the node n of sort s at place i
abbrev pub NodeFits : List Sort → ℕ → Sort → Node → Type 0
NodeFits sorts i s (node.Label x) = (s ≡ sort.Diagram 0) × IsWithinLimits x
NodeFits sorts i s (node.Diagram rs ss fs bs) = (d : ℕ) × (s ≡ sort.Diagram (suc d)) × IsDiagramNode sorts i d rs ss fs bs
NodeFits sorts i s (node.Labels x y) = (s ≡ sort.Arrow 0) × IsWithinLimits x × IsWithinLimits y
NodeFits sorts i s (node.Arrow hs rs ss) = (d : ℕ) × (s ≡ sort.Arrow (suc d)) × IsArrowNode sorts i d hs rs ss

diagram_node : (sorts : List Sort) (i : ℕ) (s : Sort) (rs ss fs bs : List ℕ) → places_below i (node.Diagram rs ss fs bs) ≡ true
    → diagram_lengths rs ss fs bs ≡ true → (first : Sort) → diagram_over sorts rs ss fs bs first ≡ Some s
    → NodeFits sorts i s (node.Diagram rs ss fs bs)
diagram_node sorts i s rs ss fs bs e le (sort.Arrow d) h = absurd (none-some s h)
diagram_node sorts i s rs ss fs bs e le (sort.Diagram d) h =
    let u = nat_lt d GREATEST_DIM in
    let ar = all_of sorts (sort.Diagram d) rs in
    let as2 = all_of sorts (sort.Diagram d) ss in
    let af = all_of sorts (sort.Arrow d) fs in
    let ab = all_of sorts (sort.Arrow d) bs in
    let c = cond_some (u && ar && as2 && af && ab) (sort.Diagram (suc d)) s h in
    let p = and_parts (u && ar && as2 && af) ab c.0 in
    let q = and_parts (u && ar && as2) af p.0 in
    let r = and_parts (u && ar) as2 q.0 in
    let t = and_parts u ar r.0 in
    let p2 = and_parts (all_below i rs && all_below i ss && all_below i fs) (all_below i bs) e in
    let q2 = and_parts (all_below i rs && all_below i ss) (all_below i fs) p2.0 in
    let r2 = and_parts (all_below i rs) (all_below i ss) q2.0 in (
      d,
      sym c.1,
      record {
        dim = ltb-true d GREATEST_DIM t.0;
        lengths = lengths_fit rs ss fs bs le;
        regs = children sorts i (sort.Diagram d) rs r2.0 t.1;
        sings = children sorts i (sort.Diagram d) ss r2.1 r.1;
        fwds = children sorts i (sort.Arrow d) fs q2.1 q.1;
        bwds = children sorts i (sort.Arrow d) bs p2.1 p.1;
      },
    )

arrow_node : (sorts : List Sort) (i : ℕ) (s : Sort) (hs : List ℕ) (r : ℕ) (rs ss : List ℕ)
    → places_below i (node.Arrow hs (r ∷ rs) ss) ≡ true
    → (length ss == length hs) && rises_from 0 (length rs) hs ≡ true → (first : Sort)
    → arrow_over sorts (r ∷ rs) ss first ≡ Some s
    → NodeFits sorts i s (node.Arrow hs (r ∷ rs) ss)
arrow_node sorts i s hs r rs ss e le (sort.Diagram d) h = absurd (none-some s h)
arrow_node sorts i s hs r rs ss e le (sort.Arrow d) h =
    let u = nat_lt d GREATEST_DIM in
    let ar = all_of sorts (sort.Arrow d) (r ∷ rs) in
    let as2 = all_of sorts (sort.Arrow d) ss in
    let c = cond_some (u && ar && as2) (sort.Arrow (suc d)) s h in
    let p = and_parts (u && ar) as2 c.0 in
    let q = and_parts u ar p.0 in
    let p2 = and_parts (all_below i (r ∷ rs)) (all_below i ss) e in
    let w = and_parts (length ss == length hs) (rises_from 0 (length rs) hs) le in
    let up = rise_from 0 (length rs) hs w.1 in (
      d,
      sym c.1,
      record {
        dim = ltb-true d GREATEST_DIM q.0;
        regs_len = omega arith;
        sings_len = eqb-true (length ss) (length hs) w.0;
        monotone = up.monotone;
        below = λ k l. omega (arith, up.below k l);
        regs = children sorts i (sort.Arrow d) (r ∷ rs) p2.0 q.1;
        sings = children sorts i (sort.Arrow d) ss p2.1 p.1;
      },
    )

-- an answer behind a test
answer_behind : (test : Bool) (o : Option Sort) (s : Sort) → (if test then o else None) ≡ Some s → (test ≡ true) × (o ≡ Some s)
answer_behind true o s h = (refl, h)
answer_behind false o s h = absurd (none-some s h)

-- the tests of a node tell what its sort and its children are
pub node_fits : (sorts : List Sort) (i : ℕ) (s : Sort) (n : Node) → labels_within_limits n ≡ true
    → places_below i n ≡ true → sort_of sorts n ≡ Some s → NodeFits sorts i s n
node_fits sorts i s (node.Label x) b e h = (sym (same_Some (sort.Diagram 0) s h), within_limits x b)
node_fits sorts i s (node.Diagram rs ss fs bs) b e h =
    let first = first_sort sorts rs in
    let a = answer_behind (diagram_lengths rs ss fs bs) (diagram_over sorts rs ss fs bs first) s h in
    diagram_node sorts i s rs ss fs bs e a.0 first a.1
node_fits sorts i s (node.Labels x y) b e h =
    let p = and_parts (is_within_limits x) (is_within_limits y) b in
    (sym (same_Some (sort.Arrow 0) s h), within_limits x p.0, within_limits y p.1)
node_fits sorts i s (node.Arrow hs [] ss) b e h = absurd (none-some s h)
node_fits sorts i s (node.Arrow hs (r ∷ rs) ss) b e h =
    let first = first_sort sorts (r ∷ rs) in
    let test = (length ss == length hs) && rises_from 0 (length rs) hs in
    let a = answer_behind test (arrow_over sorts (r ∷ rs) ss first) s h in
    arrow_node sorts i s hs r rs ss e a.0 first a.1

-- ---- and the other way: a node that fits passes the tests

labels_pass : (sorts : List Sort) (i : ℕ) (s : Sort) (n : Node) → NodeFits sorts i s n → labels_within_limits n ≡ true
labels_pass sorts i s (node.Label x) h = is_within_limits-true x h.1
labels_pass sorts i s (node.Diagram rs ss fs bs) h = refl
labels_pass sorts i s (node.Labels x y) h =
    and_from (is_within_limits x) (is_within_limits y) (is_within_limits-true x h.1) (is_within_limits-true y h.2)
labels_pass sorts i s (node.Arrow hs rs ss) h = refl

children_below : (sorts : List Sort) (i : ℕ) (s : Sort) (places : List ℕ) → AreChildren sorts i s places
    → all_below i places ≡ true
children_below sorts i s places c = all_below-true i places c.below

children_are : (sorts : List Sort) (i : ℕ) (s : Sort) (places : List ℕ) → AreChildren sorts i s places
    → all_of sorts s places ≡ true
children_are sorts i s places c = all_of-true sorts s places c.are

places_pass : (sorts : List Sort) (i : ℕ) (s : Sort) (n : Node) → NodeFits sorts i s n → places_below i n ≡ true
places_pass sorts i s (node.Label x) h = refl
places_pass sorts i s (node.Diagram rs ss fs bs) h =
    let d = h.0 in
    let a = children_below sorts i (sort.Diagram d) rs h.2.regs in
    let b = children_below sorts i (sort.Diagram d) ss h.2.sings in
    let c = children_below sorts i (sort.Arrow d) fs h.2.fwds in
    let f = children_below sorts i (sort.Arrow d) bs h.2.bwds in
    and_from (all_below i rs && all_below i ss && all_below i fs) (all_below i bs)
    (and_from (all_below i rs && all_below i ss) (all_below i fs) (and_from (all_below i rs) (all_below i ss) a b) c) f
places_pass sorts i s (node.Labels x y) h = refl
places_pass sorts i s (node.Arrow hs rs ss) h =
    let d = h.0 in
    let a = children_below sorts i (sort.Arrow d) rs h.2.regs in
    let b = children_below sorts i (sort.Arrow d) ss h.2.sings in
    and_from (all_below i rs) (all_below i ss) a b

diagram_passes : (sorts : List Sort) (i d : ℕ) (rs ss fs bs : List ℕ) → IsDiagramNode sorts i d rs ss fs bs
    → sort_of sorts (node.Diagram rs ss fs bs) ≡ Some (sort.Diagram (suc d))
diagram_passes sorts i d [] ss fs bs h = absurd (omega (arith, h.lengths.regs_len))
diagram_passes sorts i d (r ∷ rs) ss fs bs h =
    let u = nat_lt d GREATEST_DIM in
    let ar = all_of sorts (sort.Diagram d) (r ∷ rs) in
    let as2 = all_of sorts (sort.Diagram d) ss in
    let af = all_of sorts (sort.Arrow d) fs in
    let ab = all_of sorts (sort.Arrow d) bs in
    let a = and_from u ar (lt-ltb d GREATEST_DIM h.dim) (children_are sorts i (sort.Diagram d) (r ∷ rs) h.regs) in
    let b = and_from (u && ar) as2 a (children_are sorts i (sort.Diagram d) ss h.sings) in
    let c = and_from (u && ar && as2) af b (children_are sorts i (sort.Arrow d) fs h.fwds) in
    let f = and_from (u && ar && as2 && af) ab c (children_are sorts i (sort.Arrow d) bs h.bwds) in
    let first : get_or sorts r (sort.Diagram 0) ≡ sort.Diagram d = h.regs.are 0 (omega arith) in
    cond-true (diagram_lengths (r ∷ rs) ss fs bs) (diagram_over sorts (r ∷ rs) ss fs bs (get_or sorts r (sort.Diagram 0))) None
    (diagram_lengths-true (r ∷ rs) ss fs bs h.lengths)
    ∙ ap (diagram_over sorts (r ∷ rs) ss fs bs) first
    ∙ cond-true (u && ar && as2 && af && ab) (Some (sort.Diagram (suc d))) None f

arrow_passes : (sorts : List Sort) (i d : ℕ) (hs rs ss : List ℕ) → IsArrowNode sorts i d hs rs ss
    → sort_of sorts (node.Arrow hs rs ss) ≡ Some (sort.Arrow (suc d))
arrow_passes sorts i d hs [] ss h = absurd (omega (arith, h.regs_len))
arrow_passes sorts i d hs (r ∷ rs) ss h =
    let u = nat_lt d GREATEST_DIM in
    let ar = all_of sorts (sort.Arrow d) (r ∷ rs) in
    let as2 = all_of sorts (sort.Arrow d) ss in
    let a = and_from u ar (lt-ltb d GREATEST_DIM h.dim) (children_are sorts i (sort.Arrow d) (r ∷ rs) h.regs) in
    let b = and_from (u && ar) as2 a (children_are sorts i (sort.Arrow d) ss h.sings) in
    let first : get_or sorts r (sort.Diagram 0) ≡ sort.Arrow d = h.regs.are 0 (omega arith) in
    let rise = rises_from-true 0 (length rs) hs (record {
      from_start = λ k l. omega arith;
      monotone = h.monotone;
      below = λ k l. omega (arith, h.below k l);
    }) in
    let t = (length ss == length hs) && rises_from 0 (length rs) hs in
    cond-true t (arrow_over sorts (r ∷ rs) ss (get_or sorts r (sort.Diagram 0))) None
    (and_from (length ss == length hs) (rises_from 0 (length rs) hs) (eq-eqb (length ss) (length hs) h.sings_len) rise)
    ∙ ap (arrow_over sorts (r ∷ rs) ss) first
    ∙ cond-true (u && ar && as2) (Some (sort.Arrow (suc d))) None b

pub sort_of-fits : (sorts : List Sort) (i : ℕ) (s : Sort) (n : Node) → NodeFits sorts i s n → sort_of sorts n ≡ Some s
sort_of-fits sorts i s (node.Label x) h = ap Some (sym h.0)
sort_of-fits sorts i s (node.Diagram rs ss fs bs) h = diagram_passes sorts i h.0 rs ss fs bs h.2 ∙ ap Some (sym h.1)
sort_of-fits sorts i s (node.Labels x y) h = ap Some (sym h.0)
sort_of-fits sorts i s (node.Arrow hs rs ss) h = arrow_passes sorts i h.0 hs rs ss h.2 ∙ ap Some (sym h.1)

pub is_node : (sorts : List Sort) (s : Sort) (n : Node) → NodeFits sorts (length sorts) s n → IsNode sorts n
is_node sorts s n h = record {
  labels = labels_pass sorts (length sorts) s n h;
  places = places_pass sorts (length sorts) s n h;
  fits = subst IsSome (sym (sort_of-fits sorts (length sorts) s n h)) (search rules);
}

-- ---- which node has a given sort

pub record DiagramNode (sorts : List Sort) (i d : ℕ) (n : Node) : Type 0 where
  pub regs : List ℕ
  pub sings : List ℕ
  pub fwds : List ℕ
  pub bwds : List ℕ
  pub is : n ≡ node.Diagram regs sings fwds bwds
  pub fits : IsDiagramNode sorts i d regs sings fwds bwds

pub record ArrowNode (sorts : List Sort) (i d : ℕ) (n : Node) : Type 0 where
  pub heights : List ℕ
  pub regs : List ℕ
  pub sings : List ℕ
  pub is : n ≡ node.Arrow heights regs sings
  pub fits : IsArrowNode sorts i d heights regs sings

module _ (sorts : List Sort) (i : ℕ) where
  pub label_node : (n : Node) → NodeFits sorts i (sort.Diagram 0) n → (x : Label) × (n ≡ node.Label x) × IsWithinLimits x
  label_node (node.Label x) h = (x, refl, h.1)
  label_node (node.Diagram rs ss fs bs) h = absurd (omega (arith, ap dim_of h.1))
  label_node (node.Labels x y) h = absurd (let e = h.0 in cc)
  label_node (node.Arrow hs rs ss) h = absurd (let e = h.1 in cc)

  pub diagram_node_of : (d : ℕ) (n : Node) → NodeFits sorts i (sort.Diagram (suc d)) n → DiagramNode sorts i d n
  diagram_node_of d (node.Label x) h = absurd (omega (arith, ap dim_of h.0))
  diagram_node_of d (node.Diagram rs ss fs bs) h = record {
    regs = rs;
    sings = ss;
    fwds = fs;
    bwds = bs;
    is = refl;
    fits = let e : h.0 ≡ d = omega (arith, ap dim_of h.1) in subst (λ m. IsDiagramNode sorts i m rs ss fs bs) e h.2;
  }
  diagram_node_of d (node.Labels x y) h = absurd (let e = h.0 in cc)
  diagram_node_of d (node.Arrow hs rs ss) h = absurd (let e = h.1 in cc)

  pub labels_node : (n : Node) → NodeFits sorts i (sort.Arrow 0) n
      → (x : Label) × (y : Label) × (n ≡ node.Labels x y) × IsWithinLimits x × IsWithinLimits y
  labels_node (node.Label x) h = absurd (let e = h.0 in cc)
  labels_node (node.Diagram rs ss fs bs) h = absurd (let e = h.1 in cc)
  labels_node (node.Labels x y) h = (x, y, refl, h.1, h.2)
  labels_node (node.Arrow hs rs ss) h = absurd (omega (arith, ap dim_of h.1))

  pub arrow_node_of : (d : ℕ) (n : Node) → NodeFits sorts i (sort.Arrow (suc d)) n → ArrowNode sorts i d n
  arrow_node_of d (node.Label x) h = absurd (let e = h.0 in cc)
  arrow_node_of d (node.Diagram rs ss fs bs) h = absurd (let e = h.1 in cc)
  arrow_node_of d (node.Labels x y) h = absurd (omega (arith, ap dim_of h.0))
  arrow_node_of d (node.Arrow hs rs ss) h = record {
    heights = hs;
    regs = rs;
    sings = ss;
    is = refl;
    fits = let e : h.0 ≡ d = omega (arith, ap dim_of h.1) in subst (λ m. IsArrowNode sorts i m hs rs ss) e h.2;
  }
