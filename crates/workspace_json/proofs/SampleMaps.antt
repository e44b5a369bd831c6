-- Sessions with maps, by computation.
use Rattle.std.proofs.Common.{◌≡◌, ℕ, List, [], ◌∷◌, codes, true, false, refl}
use Rattle.std.specs.Prelude.{⊤}
use Rattle.diagram_terms.specs.declared.label.Label.{Label}
use Rattle.diagram_terms.specs.declared.node.Node.{Node}
use Rattle.diagram_terms.specs.declared.node.Node.TheVariants as node
use Rattle.diagram_terms.specs.declared.place.End.TheVariants as at_end
use Rattle.diagram_terms.specs.declared.place.Fault.TheVariants as fault
use Rattle.diagram_terms.specs.declared.place.Step.TheVariants as place_step
use Rattle.diagram_terms.specs.FaultsOnTrees.{tests_between}
use Rattle.diagram_terms.specs.OnTrees.{on_arrow}
use Rattle.workspace_json.specs.declared.command.Command.{Command}
use Rattle.workspace_json.specs.declared.command.Command.TheVariants as command
use Rattle.workspace_json.specs.declared.refusal.Refusal.TheVariants as refusal
use Rattle.workspace_json.specs.declared.reply.Reply.TheVariants as reply
use Rattle.workspace_json.specs.declared.reply.Word.TheVariants as word
use Rattle.workspace_json.specs.MapSteps.{bring_change, compose_change}
use Rattle.workspace_json.specs.Sessions.{Session, new_session}
use Rattle.workspace_json.proofs.SampleSteps.{after_all, new_point, replies, session_on_literals}

-- what an answer unfolds beside that
unfoldable pub maps_on_literals : ⊤
unfolding session_on_literals bring_change compose_change tests_between on_arrow
maps_on_literals = tt

abbrev pub label : ℕ → ℕ → Label
label n d = record { number = n; dim = d }

-- ---- the fault of a map

-- a map from an identity into a length of 1 whose two legs differ
abbrev legs_differ : List Node
legs_differ =
    node.Label (label 0 0) ∷ node.Label (label 1 1) ∷ node.Labels (label 0 0) (label 1 1) ∷ node.Diagram (0 ∷ 0 ∷ []) (1 ∷ []) (2 ∷ []) (2 ∷ [])
    ∷ node.Diagram (0 ∷ 0 ∷ 0 ∷ []) (1 ∷ 1 ∷ []) (2 ∷ 2 ∷ []) (2 ∷ 2 ∷ []) ∷ node.Labels (label 0 0) (label 0 0)
    ∷ node.Labels (label 1 1) (label 1 1) ∷ node.Arrow (0 ∷ []) (5 ∷ 5 ∷ 5 ∷ []) (6 ∷ []) ∷ node.Arrow (1 ∷ []) (5 ∷ 5 ∷ 5 ∷ []) (6 ∷ [])
    ∷ node.Diagram (3 ∷ 3 ∷ []) (4 ∷ []) (7 ∷ []) (8 ∷ []) ∷ node.Diagram (3 ∷ []) [] [] [] ∷ node.Arrow (0 ∷ []) (5 ∷ 5 ∷ []) (6 ∷ [])
    ∷ node.Arrow [] (11 ∷ 11 ∷ []) [] ∷ []

-- The one height of the target has an empty fibre: there the two composites are compared.
empty_fibre : replies new_session (command.Bring (codes "E") legs_differ 10 9 12 ∷ [])
    ≡ reply.Refused (refusal.IllTyped (fault.SquareAt (record { steps = []; end = at_end.Square 0 }))) ∷ []
unfolding maps_on_literals
empty_fibre = refl

-- labels, a pair in their order and one against it, and two diagrams of length 1 with these as legs
abbrev two_legs : List Node
two_legs =
    node.Label (label 0 0) ∷ node.Label (label 1 1) ∷ node.Labels (label 0 0) (label 1 1) ∷ node.Labels (label 1 1) (label 0 0)
    ∷ node.Diagram (0 ∷ 0 ∷ []) (1 ∷ []) (2 ∷ []) (2 ∷ []) ∷ node.Diagram (1 ∷ 0 ∷ []) (0 ∷ []) (3 ∷ []) (2 ∷ [])
    ∷ node.Labels (label 0 0) (label 0 0) ∷ node.Labels (label 1 1) (label 1 1) ∷ node.Arrow (0 ∷ []) (6 ∷ 6 ∷ []) (7 ∷ []) ∷ []

abbrev bring : ℕ → ℕ → ℕ → Command
bring source target arrow = command.Bring (codes "m") two_legs source target arrow

-- the source comes before the target, and both before the arrow
source_first : replies new_session (bring 5 5 2 ∷ bring 4 5 2 ∷ bring 4 4 2 ∷ bring 4 4 8 ∷ bring 0 1 2 ∷ [])
    ≡ reply.Refused (refusal.IllTyped (fault.SquareAt (record { steps = place_step.SourceEnd ∷ place_step.F 0 ∷ []; end = at_end.Ends })))
    ∷ reply.Refused (refusal.IllTyped (fault.SquareAt (record { steps = place_step.TargetEnd ∷ place_step.F 0 ∷ []; end = at_end.Ends })))
    ∷ reply.Refused (refusal.IllTyped (fault.SquareAt (record { steps = []; end = at_end.Ends })))
    ∷ reply.Named (codes "m") word.Bring ∷ reply.Refused refusal.NameTaken ∷ []
unfolding maps_on_literals
source_first = refl

-- ---- maps that are there

-- three labels, and the pairs of neighbours
abbrev three_labels : List Node
three_labels =
    node.Label (label 0 0) ∷ node.Label (label 1 1) ∷ node.Label (label 2 2) ∷ node.Labels (label 0 0) (label 1 1)
    ∷ node.Labels (label 1 1) (label 2 2) ∷ []

abbrev up : Command
up = command.Bring (codes "up") three_labels 0 1 3

abbrev on : Command
on = command.Bring (codes "on") three_labels 1 2 4

abbrev both : Command
both = command.Compose (codes "both") (codes "up") (codes "on")

abbrev with_maps : Session
with_maps = after_all new_session (up ∷ on ∷ both ∷ [])

composed : replies new_session (up ∷ on ∷ both ∷ command.Compose (codes "no") (codes "on") (codes "up") ∷ [])
    ≡ reply.Named (codes "up") word.Bring ∷ reply.Named (codes "on") word.Bring ∷ reply.Named (codes "both") word.Compose
    ∷ reply.Refused refusal.EndsDiffer ∷ []
unfolding maps_on_literals
composed = refl

-- the name, then the first map, then the other, and then whether they meet
order_of_tests : replies with_maps
    (command.Compose (codes "up") (codes "x") (codes "y") ∷ command.Compose (codes "no") (codes "x") (codes "y")
    ∷ command.Compose (codes "no") (codes "on") (codes "y") ∷ [])
    ≡ reply.Refused refusal.NameTaken ∷ reply.Refused (refusal.Unknown (codes "x")) ∷ reply.Refused (refusal.Unknown (codes "y")) ∷ []
unfolding maps_on_literals
order_of_tests = refl

-- the ends of the composite are those of its parts; a map alone is no reference
ends_named : replies with_maps
    (command.Equal (codes "both:source") (codes "up:source") ∷ command.Equal (codes "both:target") (codes "on:target")
    ∷ command.Equal (codes "up:source") (codes "up:target") ∷ command.Equal (codes "up") (codes "up:source")
    ∷ command.Slice (codes "on:target") [] ∷ [])
    ≡ reply.Equal true ∷ reply.Equal true ∷ reply.Equal false ∷ reply.Refused (refusal.Unknown (codes "up"))
    ∷ reply.Slice (node.Label (label 2 2) ∷ []) 0 ∷ []
unfolding maps_on_literals
ends_named = refl

-- an end of a map is no term, and a map's name is taken
no_terms : replies with_maps (command.Identity (codes "i") (codes "up:source") ∷ new_point (codes "up") ∷ [])
    ≡ reply.Refused (refusal.Unknown (codes "up:source")) ∷ reply.Refused refusal.NameTaken ∷ []
unfolding maps_on_literals
no_terms = refl

-- three arrows and three labels, no generator
counted : replies with_maps (command.Stats ∷ []) ≡ reply.Stats 3 3 0 3 0 ∷ []
unfolding maps_on_literals
counted = refl

-- the source, the target and the arrow of each map, each subtree once
saved : replies with_maps (command.Save ∷ [])
    ≡ reply.Save (record {
      generators = [];
      diagrams = [];
      maps = record { name = codes "up"; source = 0; target = 1; arrow = 2 } ∷ record { name = codes "on"; source = 1; target = 3; arrow = 4 }
          ∷ record { name = codes "both"; source = 0; target = 3; arrow = 5 } ∷ [];
      nodes = node.Label (label 0 0) ∷ node.Label (label 1 1) ∷ node.Labels (label 0 0) (label 1 1) ∷ node.Label (label 2 2)
          ∷ node.Labels (label 1 1) (label 2 2) ∷ node.Labels (label 0 0) (label 2 2) ∷ [];
    }) ∷ []
unfolding maps_on_literals
saved = refl

-- A composite stays where its parts are dropped, and what is dropped comes back.
dropped : replies with_maps
    (command.Drop (codes "up") ∷ command.Equal (codes "up:source") (codes "both:source") ∷ command.Drop (codes "up") ∷ command.Undo
    ∷ command.Equal (codes "up:source") (codes "both:source") ∷ [])
    ≡ reply.Named (codes "up") word.Drop ∷ reply.Refused (refusal.Unknown (codes "up:source")) ∷ reply.Refused (refusal.Unknown (codes "up"))
    ∷ reply.Undo ∷ reply.Equal true ∷ []
unfolding maps_on_literals
dropped = refl
