use Rattle.std.proofs.Common.{◌≡◌, length, drop}
use Rattle.workspace_json.specs.Paths.{heights_in, steps_of}
use Rattle.workspace_json.proofs.PathTurns.{read_behind}
use Rattle.workspace_json.proofs.paths.path_of.Given as goal

-- what was read and what is left are the whole path
abbrev pub invariant-loop-step : goal.invariant-loop-step
invariant-loop-step l = read_behind l.path (drop (length l.yielded) (steps_of l.fn.word)) ≡ heights_in (steps_of l.fn.word)
