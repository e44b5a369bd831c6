-- What a verdict says.
use Rattle.std.specs.Prelude.{Option, Some, None}
use Rattle.diagram_terms.specs.declared.place.Fault.{Fault}
use Rattle.typecheck.specs.declared.verdict.Verdict.{Verdict}
use Rattle.typecheck.specs.declared.verdict.Verdict.TheVariants as verdict

-- the fault, if there is one
abbrev pub fault_in : Verdict → Option Fault
fault_in verdict.Yes = None
fault_in (verdict.No f) = Some f
