use Rattle.std.proofs.Common.{sym, ap, option_map, ◌∙◌}
use Rattle.diagram_terms.specs.declared.place.Place.{Place}
use Rattle.hashcons.specs.Contents.{diagram_at}
use Rattle.plain_maps.proofs.LooseTests.{loose_leg_is, no_leg_is_loose, legs_walk}
use Rattle.plain_maps.proofs.loose.first_loose.Goals as goal

pub returns-clause-exact : goal.returns-clause-exact
returns-clause-exact c =
    c.steps_to.ensures ∙ ap (option_map (λ (p : Place). p.steps)) c.in_ok-found.ensures.exact ∙ loose_leg_is (diagram_at c.args.store.now c.args.d)

pub returns-clause-none : goal.returns-clause-none
returns-clause-none c =
    let valid = c.requires.valid in
    let none = no_leg_is_loose valid.dim (diagram_at c.args.store.now c.args.d) valid.at_dim.shape in
    let is = c.steps_to.ensures ∙ ap (option_map (λ (p : Place). p.steps)) c.in_ok-found.ensures.exact ∙ loose_leg_is (diagram_at c.args.store.now c.args.d) in
    (λ e. none.0 (sym is ∙ e), λ p. is ∙ none.1 p)

pub first_in-requires-clause-law : goal.first_in-requires-clause-law
first_in-requires-clause-law c = legs_walk
