use Rattle.std.proofs.Common.{◌∙◌, ap, option_map}
use Rattle.workspace_lists.specs.Held.{map_called}
use Rattle.session_state.specs.States.{present_of}
use Rattle.session_state.proofs.NamedThings.{known_map, map_in}
use Rattle.session_state.proofs.state.State.map_named.Goals as goal

pub returns-in-Map-clause-map : goal.returns-in-Map-clause-map
returns-in-Map-clause-map c =
    let s = c.args.self.now in
    ap (λ m. option_map (map_called s.store c.args.name.now) (map_in m)) c.in-Map.ensures
    ∙ known_map s.store (present_of s) s.entries.names c.args.name.now c.requires.history.present.rule c.requires.names

pub returns-in-Free-clause-map : goal.returns-in-Free-clause-map
returns-in-Free-clause-map c =
    let s = c.args.self.now in
    ap (λ m. option_map (map_called s.store c.args.name.now) (map_in m)) c.in-Free.ensures
    ∙ known_map s.store (present_of s) s.entries.names c.args.name.now c.requires.history.present.rule c.requires.names

pub returns-in-Generator-clause-map : goal.returns-in-Generator-clause-map
returns-in-Generator-clause-map c =
    let s = c.args.self.now in
    ap (λ m. option_map (map_called s.store c.args.name.now) (map_in m)) c.in-Generator.ensures
    ∙ known_map s.store (present_of s) s.entries.names c.args.name.now c.requires.history.present.rule c.requires.names

pub returns-in-Diagram-clause-map : goal.returns-in-Diagram-clause-map
returns-in-Diagram-clause-map c =
    let s = c.args.self.now in
    ap (λ m. option_map (map_called s.store c.args.name.now) (map_in m)) c.in-Diagram.ensures
    ∙ known_map s.store (present_of s) s.entries.names c.args.name.now c.requires.history.present.rule c.requires.names
