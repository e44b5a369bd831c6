use Rattle.std.proofs.Common.{◌∙◌}
use Rattle.typecheck.proofs.Fields.{count}
use Rattle.typecheck.proofs.signature.Signature.len.Goals as goal

pub returns : goal.returns
returns c = c.len.ensures ∙ count c.self.inside c.args.self.now c.self.view_is c.self.invariant
