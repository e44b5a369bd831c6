use Rattle.std.proofs.Common.{◌≡◌, All, Ok, length, take}
use Rattle.session_state.specs.States.{present_of}
use Rattle.workspace_json.specs.NormalSteps.{known_maps}
use Rattle.zigzag_maps.specs.Found.{IsValidMap}
use Rattle.session_undo.specs.NormalForms.{maps_called}
use Rattle.session_undo.proofs.normal_forms.find_maps.Given as goal

-- the maps so far are those of the names so far
abbrev pub invariant-loop-name : goal.invariant-loop-name
invariant-loop-name l =
    (known_maps (present_of l.state) (take l.name-index l.names) ≡ Ok (maps_called l.state.store (take l.name-index l.names) l.maps.items))
    × (length l.maps.items ≡ l.name-index) × All (IsValidMap l.state.store) l.maps.items
