-- The lines of some inputs, by computation.
use Rattle.std.specs.Prelude.{◌≡◌, ◌-◌, [], ◌∷◌, true, false, refl}
use Rattle.io_edge.specs.declared.limits.TheConstants.{INPUT_LIMIT}
use Rattle.io_edge.specs.Lines.{lines_of}

-- an `a`, an empty line, and a `b` with no newline
three_lines : lines_of 0 (97 ∷ 10 ∷ 10 ∷ 98 ∷ []) ≡ record { lines = (97 ∷ []) ∷ [] ∷ (98 ∷ []) ∷ []; too_long = false }
three_lines = refl

-- behind the last newline stands no line
newline_last : lines_of 0 (97 ∷ 10 ∷ []) ≡ record { lines = (97 ∷ []) ∷ []; too_long = false }
newline_last = refl

no_bytes : lines_of 0 [] ≡ record { lines = []; too_long = false }
no_bytes = refl

-- the last byte, or the newline, lies at the end of the greatest input, and then behind it
last_byte_within : lines_of (INPUT_LIMIT - 1) (97 ∷ []) ≡ record { lines = (97 ∷ []) ∷ []; too_long = false }
last_byte_within = refl

last_byte_behind : lines_of INPUT_LIMIT (97 ∷ []) ≡ record { lines = []; too_long = true }
last_byte_behind = refl

newline_within : lines_of (INPUT_LIMIT - 2) (97 ∷ 10 ∷ []) ≡ record { lines = (97 ∷ []) ∷ []; too_long = false }
newline_within = refl

newline_behind : lines_of (INPUT_LIMIT - 3) (97 ∷ 10 ∷ 98 ∷ 10 ∷ []) ≡ record { lines = (97 ∷ []) ∷ []; too_long = true }
newline_behind = refl
