-- Whether two references of a workspace are one tree.
use Rattle.std.specs.Prelude.{ℕ, Bool, List, Option, option_and_then, option_map}
use Rattle.diagram_terms.specs.Completion.{same_tree}
use Rattle.workspace_json.specs.Workspaces.{Workspace, reference}

-- None where one of them names nothing
abbrev pub equal_references : Workspace → List ℕ → List ℕ → Option Bool
equal_references W one two = option_and_then (λ s. option_map (λ t. same_tree s t) (reference W two)) (reference W one)
