use Rattle.diagram_terms.specs.Dimension.{dimension_of}
use Rattle.hashcons.specs.Contents.{arrow_at}
use Rattle.hashcons.proofs.store.Store.+arrow_dim.Given as goal

abbrev pub decreases-arrow_dim : goal.decreases-arrow_dim
decreases-arrow_dim l = dimension_of (arrow_at l.self.now l.a)
