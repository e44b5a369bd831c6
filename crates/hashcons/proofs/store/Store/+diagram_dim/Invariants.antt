use Rattle.diagram_terms.specs.Dimension.{dimension_of}
use Rattle.hashcons.specs.Contents.{diagram_at}
use Rattle.hashcons.proofs.store.Store.+diagram_dim.Given as goal

abbrev pub decreases-diagram_dim : goal.decreases-diagram_dim
decreases-diagram_dim l = dimension_of (diagram_at l.self.now l.d)
