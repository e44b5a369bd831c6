use Rattle.std.proofs.Common.{sym, subst, ◌∙◌}
use Rattle.hashcons.specs.Contents.{IsValidTriple}
use Rattle.hashcons.proofs.store.Store.known_valid_map.Goals as goal

pub returns-clause-right : goal.returns-clause-right
returns-clause-right c = λ known. subst (λ s. IsValidTriple s c.args.source c.args.target c.args.arrow) c.self.view_is
    (c.self.invariant.0.store.notes.valid_maps (c.args.source, c.args.target, c.args.arrow) (sym c.contains.ensures ∙ known))
