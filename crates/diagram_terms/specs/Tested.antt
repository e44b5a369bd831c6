-- An answer that hangs on a test.
use Rattle.std.specs.Prelude.{Bool, true, false, Result, Err}

-- the answer where the test passes, and else the fault
abbrev pub if_passed : {X E : Type 0} → E → Bool → Result X E → Result X E
if_passed e true r = r
if_passed e false r = Err e
