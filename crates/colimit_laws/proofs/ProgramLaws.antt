-- The laws of the programs.
use Rattle.std.proofs.Common.{ℕ}
use Rattle.colimit_laws.specs.Laws.{RanksAreComputed, OrderFaultsAreComputed, ColimitsAreComputed, RefusalsAreComputed}
use Rattle.colimit_laws.proofs.OrderProofs.{answers_ranks, answers_fault, ranks_answered, fault_answered}
use Rattle.colimit_laws.proofs.ColimitProofs.{answers_colimits, answers_refusals, colimit_answered, refusal_answered}

pub ranks_are_computed : RanksAreComputed
ranks_are_computed b H r vH = (ranks_answered H vH b r, answers_ranks H vH b r)

pub order_faults_are_computed : OrderFaultsAreComputed
order_faults_are_computed b H e vH = (fault_answered H vH b e, answers_fault H vH b e)

pub colimits_are_computed : (d : ℕ) → ColimitsAreComputed d
colimits_are_computed d S biases c vS = (colimit_answered d S biases vS c, answers_colimits d S biases c vS)

pub refusals_are_computed : (d : ℕ) → RefusalsAreComputed d
refusals_are_computed d S biases f vS = (refusal_answered d S biases vS f, answers_refusals d S biases f vS)
