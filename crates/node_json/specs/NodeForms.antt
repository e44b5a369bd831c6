-- Which node a JSON value is behind those before it, or which fault it has.
use Rattle.std.specs.Prelude.{ℕ, List, [], ◌∷◌, length, codes, if◌then◌else◌, Option, None, option_map, option_and_then, Result, Ok, Err}
use Rattle.serde_json.specs.Data.{Data}
use Rattle.serde_json.specs.Find.{get}
use Rattle.diagram_terms.specs.declared.label.Label.{Label}
use Rattle.diagram_terms.specs.declared.node.Node.{Node}
use Rattle.diagram_terms.specs.declared.node.Node.TheVariants as node
use Rattle.diagram_terms.specs.declared.node.Sort.{Sort}
use Rattle.diagram_terms.specs.Nodes.{is_within_limits, labels_within_limits, places_below, sort_of, sorts_of}
use Rattle.node_json.specs.declared.fault.FormFault.{FormFault}
use Rattle.node_json.specs.declared.fault.FormFault.TheVariants as fault
use Rattle.node_json.specs.Step.{◌>>=◌, when, or_fault, each}
use Rattle.node_json.specs.Json.{has_keys, whole_of, list_of, list_at, numbers_at}

-- `[number,dim]`, with numbers of any size
abbrev pub label_of : List Data → Option Label
label_of (a ∷ b ∷ []) =
    option_and_then (λ number. option_map (λ dim. record { number = number; dim = dim }) (whole_of b)) (whole_of a)
label_of ds = None

-- a value that is such a pair
abbrev pub label_in : FormFault → Data → Result Label FormFault
label_in e d = or_fault e (option_and_then label_of (list_of d))

-- `[[number,dim],[number,dim]]`
abbrev pub labels_in : FormFault → List Data → Result Node FormFault
labels_in e (a ∷ b ∷ []) = do
  x ← label_in e a
  y ← label_in e b
  Ok (node.Labels x y)
labels_in e ds = Err e

-- `{"label":[number,dim]}`
abbrev pub label_node : FormFault → Data → Result Node FormFault
label_node e d = do
  pair ← or_fault e (get (codes "label") d)
  x ← label_in e pair
  Ok (node.Label x)

-- `{"labels":[[number,dim],[number,dim]]}`
abbrev pub labels_node : FormFault → Data → Result Node FormFault
labels_node e d = list_at e (codes "labels") d >>= labels_in e

-- `{"bwds":[..],"fwds":[..],"regs":[..],"sings":[..]}`
abbrev pub diagram_node : FormFault → Data → Result Node FormFault
diagram_node e d = do
  regs ← numbers_at e (codes "regs") d
  sings ← numbers_at e (codes "sings") d
  fwds ← numbers_at e (codes "fwds") d
  bwds ← numbers_at e (codes "bwds") d
  Ok (node.Diagram regs sings fwds bwds)

-- `{"heights":[..],"regs":[..],"sings":[..]}`
abbrev pub arrow_node : FormFault → Data → Result Node FormFault
arrow_node e d = do
  heights ← numbers_at e (codes "heights") d
  regs ← numbers_at e (codes "regs") d
  sings ← numbers_at e (codes "sings") d
  Ok (node.Arrow heights regs sings)

-- an object with exactly the keys of one of the four forms, and with the numbers shown there
abbrev pub form_of : FormFault → Data → Result Node FormFault
form_of e d =
    if has_keys (codes "label" ∷ []) d then label_node e d else (
    if has_keys (codes "labels" ∷ []) d then labels_node e d else (
    if has_keys (codes "bwds" ∷ codes "fwds" ∷ codes "regs" ∷ codes "sings" ∷ []) d then diagram_node e d else (
    if has_keys (codes "heights" ∷ codes "regs" ∷ codes "sings" ∷ []) d then arrow_node e d else Err e)))

-- what was read at place i, if its labels are within the limits
abbrev pub limited : ℕ → Result Node FormFault → Result Node FormFault
limited i read = do
  n ← read
  within ← when (labels_within_limits n) (fault.Label i)
  Ok n

-- the same of one label
abbrev pub limited_label : ℕ → Label → Result Label FormFault
limited_label i x = do
  within ← when (is_within_limits x) (fault.Label i)
  Ok x

-- node i as it is written: another form is Shape, and then a label beyond the limits is Label
abbrev pub written_at : ℕ → Data → Result Node FormFault
written_at i d = limited i (form_of (fault.Shape i) d)

-- the sort of a node behind nodes of these sorts: a place that is no earlier one is Early, and then parts that do not
-- fit together are Shape
abbrev pub sort_behind : List Sort → Node → Result Sort FormFault
sort_behind sorts n = do
  early ← when (places_below (length sorts) n) (fault.Early (length sorts))
  or_fault (fault.Shape (length sorts)) (sort_of sorts n)

-- the node behind those that are done
unfoldable pub node_at : List Node → Data → Result Node FormFault
node_at done d = do
  n ← written_at (length done) d
  sort ← sort_behind (sorts_of done) n
  Ok n

-- the nodes in order
abbrev pub nodes_in : List Data → Result (List Node) FormFault
nodes_in ds = each node_at [] ds
