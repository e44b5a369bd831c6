-- What adding a generator to a signature comes to.
use Rattle.std.specs.Prelude.{◌≡◌, ◌⊎◌, Result, Ok, Err}
use Rattle.diagram_terms.specs.declared.label.Label.{Label}
use Rattle.typecheck.specs.declared.refusal.AddRefusal.{AddRefusal}
use Rattle.typecheck.specs.declared.refusal.AddRefusal.TheVariants as add
use Rattle.workspace_json.specs.declared.refusal.Refusal.TheVariants as refusal
use Rattle.session_undo.specs.declared.generators.Added.{Added}
use Rattle.session_undo.specs.declared.stop.Stop.{Stop}
use Rattle.session_undo.specs.declared.stop.Stop.TheVariants as stop

-- the label or the refusal is the wanted one, or there was no memory
abbrev pub IsAdded : Result Label AddRefusal → Result Added AddRefusal → Type 0
IsAdded wanted (Ok a) = wanted ≡ Ok a.label
IsAdded wanted (Err r) = (r ≡ add.NoMemory) ⊎ (wanted ≡ Err r)

-- the same refusal as that of a command
abbrev pub stop_of : AddRefusal → Stop
stop_of add.DimDiffers = stop.Refused refusal.DimDiffers
stop_of add.NotParallel = stop.Refused refusal.NotParallel
stop_of add.DimLimit = stop.Refused refusal.DimLimit
stop_of add.CountLimit = stop.Refused refusal.CountLimit
stop_of (add.IllTyped f) = stop.Refused (refusal.IllTyped f)
stop_of add.NoMemory = stop.NoMemory
