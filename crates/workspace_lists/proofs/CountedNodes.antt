-- The counts of a workspace, over the nodes of its subtrees.
use Rattle.std.proofs.Common.{◌≡◌, ◌∙◌, ℕ, zero, suc, ◌+◌, ◌-◌, List, [], ◌∷◌, length, map, Bool, true, false, cond, refl, sym, ap, arith}
use Rattle.std.specs.Prelude.{count_by, not, nat_le, ◌==◌, if◌then◌else◌}
use Rattle.std.proofs.lemmas.List.{length-map}
use Rattle.std.proofs.lemmas.List.Sums.{sum_by-cons}
use Rattle.std.proofs.lemmas.Bool.Decides.{nat_tests}
use Rattle.hashcons.specs.declared.id.AnyId.{AnyId}
use Rattle.hashcons.specs.Contents.{Contents}
use Rattle.hashcons.specs.Ids.{tree_of}
use Rattle.diagram_terms.specs.declared.label.Label.{Label}
use Rattle.diagram_terms.specs.declared.node.Node.{Node}
use Rattle.diagram_terms.specs.declared.node.Node.TheVariants as node
use Rattle.diagram_terms.specs.Completion.{node_of, places_in, subtree_nodes}
use Rattle.diagram_terms.specs.Tree.{Tree, kind, label_at, from_at, to_at, regs, sings, fwds, bwds, heights}
use Rattle.workspace_json.specs.declared.reply.Reply.TheVariants as reply
use Rattle.workspace_json.specs.Saved.{is_diagram, stats_of, subtrees_of}
use Rattle.workspace_json.specs.Workspaces.{Workspace, roots_of}
use Rattle.workspace_lists.specs.Held.{diagram_over, generator_over, map_over, workspace_in}
use Rattle.workspace_lists.specs.Roots.{is_diagram_node, root_ids}
use Rattle.workspace_lists.specs.declared.workspace.Workspace.{Workspace as Lists}
use Rattle.workspace_lists.proofs.HeldRoots.{root_ids-trees}

chosen : (k : ℕ) (l from to : Label) (a b c d h x y : List ℕ)
    → is_diagram_node (if k == 0 then node.Label l else (if k == 1 then node.Diagram a b c d else (
    if k == 2 then node.Labels from to else node.Arrow h x y))) ≡ nat_le k 1
chosen zero l from to a b c d h x y = refl
chosen (suc zero) l from to a b c d h x y = refl
chosen (suc (suc zero)) l from to a b c d h x y = refl
chosen (suc (suc (suc k))) l from to a b c d h x y =
    let none : (suc (suc (suc k)) == 0) ≡ false = grind (arith, nat_tests) in
    let one : (suc (suc (suc k)) == 1) ≡ false = grind (arith, nat_tests) in
    let two : (suc (suc (suc k)) == 2) ≡ false = grind (arith, nat_tests) in
    let above : nat_le (suc (suc (suc k))) 1 ≡ false = grind (arith, nat_tests) in
    rw (none, one, two, above) refl

pub is_diagram_node-node_of : (ts : List Tree) (t : Tree) → is_diagram_node (node_of ts t) ≡ is_diagram t
unfolding node_of
is_diagram_node-node_of ts t =
    chosen (kind t) (label_at t) (from_at t) (to_at t) (places_in ts (regs t)) (places_in ts (sings t)) (places_in ts (fwds t))
    (places_in ts (bwds t)) (heights t) (places_in ts (regs t)) (places_in ts (sings t))

-- a count, one more

count-cons : {X : Type 0} (p : X → Bool) (x : X) (xs : List X) → count_by p (x ∷ xs) ≡ cond (p x) 1 0 + count_by p xs
count-cons p x xs = sum_by-cons (λ y. cond (p y) 1 0) x xs

counted : (ts us : List Tree) → count_by is_diagram_node (map (node_of ts) us) ≡ count_by is_diagram us
counted ts [] = refl
counted ts (u ∷ us) =
    count-cons is_diagram_node (node_of ts u) (map (node_of ts) us)
    ∙ ap (λ b. cond b 1 0 + count_by is_diagram_node (map (node_of ts) us)) (is_diagram_node-node_of ts u)
    ∙ ap (λ n. cond (is_diagram u) 1 0 + n) (counted ts us)
    ∙ sym (count-cons is_diagram u us)

-- what passes a test and what does not are all
one_of : (b : Bool) → cond (not b) 1 0 + cond b 1 0 ≡ 1
one_of true = refl
one_of false = refl

count_both : (p : Tree → Bool) (ts : List Tree) → count_by (λ t. not (p t)) ts + count_by p ts ≡ length ts
count_both p [] = refl
count_both p (t ∷ ts) =
    let no = count-cons (λ t. not (p t)) t ts in
    let yes = count-cons p t ts in
    let here = one_of (p t) in
    let rest = count_both p ts in
    omega arith

module _ (W : Workspace) (nodes : List Node) (are : nodes ≡ subtree_nodes (roots_of W)) where
  diagrams-counted : count_by is_diagram_node nodes ≡ count_by is_diagram (subtrees_of W)
  diagrams-counted = ap (count_by is_diagram_node) are ∙ counted (subtrees_of W) (subtrees_of W)

  arrows-counted : length nodes - count_by is_diagram_node nodes ≡ count_by (λ t. not (is_diagram t)) (subtrees_of W)
  arrows-counted =
      let here = diagrams-counted in
      let len = ap length are ∙ length-map (subtrees_of W) (node_of (subtrees_of W)) in
      let both = count_both is_diagram (subtrees_of W) in
      omega arith

  stats-are : (n : ℕ) → n ≡ count_by is_diagram_node nodes
      → stats_of W ≡ reply.Stats (length nodes - n) n (length W.generators) (length W.maps) (length W.diagrams)
  stats-are n is = rw is (let here = diagrams-counted in let rest = arrows-counted in cc)

-- the counts of the nodes under the roots of a workspace
pub stats-over : (c : Contents) (w : Lists) (ids : List AnyId) (nodes : List Node) (n all generators maps named : ℕ)
    → ids ≡ root_ids w → nodes ≡ subtree_nodes (map (tree_of c) ids) → n ≡ count_by is_diagram_node nodes
    → all ≡ length nodes → generators ≡ length w.generators.items → maps ≡ length w.maps.items → named ≡ length w.diagrams.items
    → stats_of (workspace_in c w) ≡ reply.Stats (all - n) n generators maps named
stats-over c w ids nodes n all generators maps named roots are is every gs ms ds =
    let W = workspace_in c w in
    let shown : nodes ≡ subtree_nodes (roots_of W)
    = are ∙ ap (λ xs. subtree_nodes (map (tree_of c) xs)) roots ∙ ap subtree_nodes (root_ids-trees c w) in
    let first : length W.generators ≡ generators = length-map w.generators.items (generator_over c) ∙ sym gs in
    let second : length W.diagrams ≡ named = length-map w.diagrams.items (diagram_over c) ∙ sym ds in
    let third : length W.maps ≡ maps = length-map w.maps.items (map_over c) ∙ sym ms in
    stats-are W nodes shown n is
    ∙ (λ i. reply.Stats (sym every i - n) n (first i) (third i) (second i))
