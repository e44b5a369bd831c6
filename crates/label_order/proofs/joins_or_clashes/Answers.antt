use Rattle.label_order.proofs.Scan.{joins_or_clashes}
use Rattle.label_order.proofs.joins_or_clashes.Goals as goal

pub returns : goal.returns
returns c = joins_or_clashes
