use Rattle.std.proofs.Common.{◌≡◌, drop, map}
use Rattle.serde_json.specs.View.{view}
use Rattle.node_json.specs.Step.{each, or_fault}
use Rattle.node_json.specs.Json.{whole_of, numbers_in}
use Rattle.node_json.proofs.parts.numbers_in.Given as goal

-- the entries that are left give the rest of the answer
abbrev pub invariant-loop-value : goal.invariant-loop-value
invariant-loop-value l =
    each (λ done d. or_fault l.wrong (whole_of d)) l.numbers (map view (drop l.value-index l.list)) ≡ numbers_in l.wrong (map view l.list)
