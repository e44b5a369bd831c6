-- The answers of an order as the definitions see them.
use Rattle.diagram_terms.specs.declared.place.Bias.{Bias}
use Rattle.diagram_terms.specs.HeightClasses.{HeightShape, member}
use Rattle.diagram_terms.specs.OrderFaults.{IsOrderFault, cyclic, unsettled}
use Rattle.diagram_terms.specs.Ranks as ranks
use Rattle.height_order.specs.declared.ordering.Ranks.{Ranks}
use Rattle.height_order.specs.declared.ordering.OrderFault.{OrderFault}
use Rattle.height_order.specs.declared.ordering.OrderFault.TheVariants.{Cyclic, Unsettled, NoMemory}

-- the ranks as the definitions see them
abbrev pub ranks_of : Ranks → ranks.Ranks
ranks_of r = record { ranks = r.ranks; count = r.count }

-- a fault is that of the order; memory may run out at any point
abbrev pub IsFault : Bias → HeightShape → OrderFault → Type 0
IsFault bias H (Cyclic p) = IsOrderFault bias H (cyclic (member p.0 p.1))
IsFault bias H (Unsettled p q) = IsOrderFault bias H (unsettled (member p.0 p.1) (member q.0 q.1))
IsFault bias H NoMemory = Unit {0}
