use Rattle.map_laws.proofs.SquareEdges.{squares_have_edges}
use Rattle.map_laws.proofs.squares_have_edges.Goals as goal

pub returns : goal.returns
returns c = squares_have_edges
