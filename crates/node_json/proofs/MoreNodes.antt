-- The sorts of nodes, with one more node.
use Rattle.std.proofs.Common.{◌≡◌, List, [], ◌∷◌, ◌++◌, length, Bool, true, false, Option, Some, None, Ok, refl, ap, ◌∙◌}
use Rattle.diagram_terms.specs.declared.node.Node.{Node}
use Rattle.diagram_terms.specs.declared.node.Sort.{Sort}
use Rattle.diagram_terms.specs.Nodes.{places_below, sort_of, sorts_of}
use Rattle.diagram_terms.proofs.NodeGrowth.{sorts_of-push}
use Rattle.node_json.specs.declared.fault.FormFault.TheVariants as fault
use Rattle.node_json.specs.Step.{◌>>=◌, when, or_fault}
use Rattle.node_json.specs.NodeForms.{sort_behind}

pub sorts_of_push : (ns : List Node) (n : Node) (s : Sort) → sort_of (sorts_of ns) n ≡ Some s → sorts_of (ns ++ n ∷ []) ≡ sorts_of ns ++ s ∷ []
sorts_of_push ns n s is = sorts_of-push ns n ∙ rw is refl

-- a sort that is given is the node's
pub sort_of-sort_behind : (sorts : List Sort) (n : Node) (s : Sort) → sort_behind sorts n ≡ Ok s → sort_of sorts n ≡ Some s
sort_of-sort_behind sorts n s is = fits (places_below (length sorts) n) (sort_of sorts n) is where
  fits : (below : Bool) (found : Option Sort) → (when below (fault.Early (length sorts)) >>= λ early. or_fault (fault.Shape (length sorts)) found) ≡ Ok s → found ≡ Some s
  fits true (Some t) e = ap Some (cc)
  fits true None e = cc
  fits false found e = cc
