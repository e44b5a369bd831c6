use Rattle.std.proofs.Common.{sym, subst, ◌∙◌}
use Rattle.hashcons.specs.Contents.{IsValidDiagram}
use Rattle.hashcons.proofs.store.Store.known_valid.Goals as goal

pub returns-clause-right : goal.returns-clause-right
returns-clause-right c = λ known. subst (λ s. IsValidDiagram s c.args.d) c.self.view_is
    (c.self.invariant.0.store.notes.valid c.args.d (sym c.contains.ensures ∙ known))
