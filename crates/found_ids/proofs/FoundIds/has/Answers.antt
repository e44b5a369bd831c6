use Rattle.std.proofs.Common.{◌∙◌, sym}
use Rattle.found_ids.proofs.FoundIds.has.Goals as goal

pub returns : goal.returns
returns c = (λ t. sym c.contains.ensures ∙ t, λ f. c.contains.ensures ∙ f)
