use Rattle.std.proofs.Common.{subst, IfSome, ◌∙◌}
use Rattle.hashcons.specs.Contents.{IsCompositeOf}
use Rattle.hashcons.proofs.OneMoreNote.{right_where_some}
use Rattle.hashcons.proofs.store.Store.known_composite.Goals as goal

pub returns-clause-right : goal.returns-clause-right
returns-clause-right c =
    subst (λ s. IfSome c.copied.result (IsCompositeOf s c.args.g c.args.f)) c.self.view_is
    (right_where_some _ c.copied.result _ (c.copied.ensures ∙ c.get.ensures.value) (c.self.invariant.0.store.notes.composites (c.args.g, c.args.f)))
