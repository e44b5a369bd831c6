-- What callers see of a session.
use Rattle.std.specs.Prelude.{ℕ, List, Option, refl}
use Rattle.std.specs.Coded.{Coded, code_by, coded×, coded_list, coded_option, coded_ℕ}
use Rattle.diagram_terms.specs.Tree.{Tree, coded_tree}
use Rattle.hashcons.specs.Contents.{Contents, coded_contents}
use Rattle.workspace_json.specs.Maps.{NamedMap}
use Rattle.workspace_json.specs.Sessions.{Session}
use Rattle.workspace_json.specs.Workspaces.{NamedDiagram, NamedGenerator, Workspace}

-- the store, and the session of trees
pub record SessionView : Type 0 where
  pub store : Contents
  pub session : Session

-- as a value that a model may have
abbrev pub coded_generator : Coded NamedGenerator
coded_generator =
    code_by (List ℕ × Option (Tree × Tree)) (coded× (coded_list coded_ℕ) (coded_option (coded× coded_tree coded_tree)))
    (λ g. (g.name, g.generator)) (λ p. record { name = p.0; generator = p.1 }) (λ _. refl)

abbrev pub coded_diagram : Coded NamedDiagram
coded_diagram =
    code_by (List ℕ × Tree) (coded× (coded_list coded_ℕ) coded_tree) (λ d. (d.name, d.tree)) (λ p. record { name = p.0; tree = p.1 }) (λ _. refl)

abbrev pub coded_map : Coded NamedMap
coded_map =
    code_by (List ℕ × (Tree × (Tree × Tree))) (coded× (coded_list coded_ℕ) (coded× coded_tree (coded× coded_tree coded_tree)))
    (λ m. (m.name, (m.source, (m.target, m.arrow)))) (λ p. record { name = p.0; source = p.1.0; target = p.1.1.0; arrow = p.1.1.1 }) (λ _. refl)

abbrev pub coded_workspace : Coded Workspace
coded_workspace =
    code_by (List NamedGenerator × (List NamedDiagram × List NamedMap)) (coded× (coded_list coded_generator) (coded× (coded_list coded_diagram) (coded_list coded_map)))
    (λ w. (w.generators, (w.diagrams, w.maps))) (λ p. record { generators = p.0; diagrams = p.1.0; maps = p.1.1 }) (λ _. refl)

abbrev pub coded_session : Coded Session
coded_session =
    code_by (Workspace × (List Workspace × List Workspace)) (coded× coded_workspace (coded× (coded_list coded_workspace) (coded_list coded_workspace)))
    (λ s. (s.present, (s.past, s.future))) (λ p. record { present = p.0; past = p.1.0; future = p.1.1 }) (λ _. refl)

abbrev pub coded_view : Coded SessionView
coded_view =
    code_by (Contents × Session) (coded× coded_contents coded_session) (λ v. (v.store, v.session)) (λ p. record { store = p.0; session = p.1 }) (λ _. refl)
