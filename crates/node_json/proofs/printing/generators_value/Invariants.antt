use Rattle.std.proofs.Common.{◌≡◌, map, take}
use Rattle.serde_json.specs.View.{view}
use Rattle.node_json.specs.Printing.{generator_data}
use Rattle.node_json.proofs.printing.generators_value.Given as goal

abbrev pub invariant-loop-generator : goal.invariant-loop-generator
invariant-loop-generator l = map view l.values.items ≡ map generator_data (take l.generator-index l.generators)
