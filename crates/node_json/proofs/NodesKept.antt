-- Nodes that were read have the form.
use Rattle.std.proofs.Common.{◌≡◌, ℕ, List, [], length, true, Option, Some, IsSome, Result, Ok, refl, sym, ap, ◌∙◌}
use Rattle.serde_json.specs.Data.{Data}
use Rattle.diagram_terms.specs.declared.node.Node.{Node}
use Rattle.diagram_terms.specs.Nodes.{labels_within_limits, places_below, sort_of, sorts_of, IsNode, AreNodes}
use Rattle.diagram_terms.proofs.NodeGrowth.{AreNodes-push}
use Rattle.node_json.specs.declared.fault.FormFault.{FormFault}
use Rattle.node_json.specs.declared.fault.FormFault.TheVariants as fault
use Rattle.node_json.specs.Step.{when}
use Rattle.node_json.specs.NodeForms.{form_of, limited, written_at, sort_behind, node_at, nodes_in}
use Rattle.node_json.proofs.Passed.{gave, passed, found, each_keeps}

limited_labels : (i : ℕ) (read : Result Node FormFault) (n : Node) → limited i read ≡ Ok n → labels_within_limits n ≡ true
limited_labels i read n is =
    let g = gave read _ n is in
    let h = gave (when (labels_within_limits g.value) (fault.Label i)) _ n g.then in
    let same : g.value ≡ n = cc (h.then) in
    ap labels_within_limits (sym same) ∙ passed (labels_within_limits g.value) (fault.Label i) h.value h.was

some_is : {A : Type 0} (o : Option A) (x : A) → o ≡ Some x → IsSome o
some_is o x is = rw is refl

pub node_at_is : (done : List Node) (d : Data) (n : Node) → node_at done d ≡ Ok n → IsNode (sorts_of done) n
unfolding node_at
node_at_is done d n is =
    let g = gave (written_at (length done) d) _ n is in
    let h = gave (sort_behind (sorts_of done) g.value) _ n g.then in
    let same : g.value ≡ n = cc (h.then) in
    let k = gave (when (places_below (length (sorts_of done)) g.value) (fault.Early (length (sorts_of done)))) _ h.value h.was in
    rw (← same) (record {
      labels = limited_labels (length done) (form_of (fault.Shape (length done)) d) g.value g.was;
      places = passed (places_below (length (sorts_of done)) g.value) (fault.Early (length (sorts_of done))) k.value k.was;
      fits = some_is (sort_of (sorts_of done) g.value) h.value (found (fault.Shape (length (sorts_of done))) (sort_of (sorts_of done) g.value) h.value k.then);
    })

pub are_nodes : (ds : List Data) (nodes : List Node) → nodes_in ds ≡ Ok nodes → AreNodes nodes
are_nodes ds nodes is = each_keeps AreNodes node_at (λ done d n are at. AreNodes-push done n are (node_at_is done d n at)) [] ds nodes tt is
