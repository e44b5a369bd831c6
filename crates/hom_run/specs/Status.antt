-- The number of each status.
use Rattle.std.specs.Prelude.{ℕ}
use Rattle.hom_run.specs.declared.status.Status.{Status}
use Rattle.hom_run.specs.declared.status.Status.TheVariants.{Done, Refused, Usage, Form, ReadFault, WriteFault, NoMemory, TooLong}

abbrev pub number_of : Status → ℕ
number_of Done = 0
number_of Refused = 1
number_of Usage = 2
number_of Form = 3
number_of ReadFault = 4
number_of WriteFault = 5
number_of NoMemory = 6
number_of TooLong = 7
