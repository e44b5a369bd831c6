-- What contracts see of `MemSource` and `MemSink`.
use Rattle.std.specs.Prelude.{ℕ, ◌+◌, ◌-◌, ◌^◌, min, List}

-- A source: the bytes still to come, the most that a call takes, the numbers of the calls that fail, and how many calls
-- and faults there were.
pub record SourceState : Type 0 where
  pub left : List ℕ
  pub most : ℕ
  pub failing : List ℕ
  pub calls : ℕ
  pub faults : ℕ

-- A sink: the bytes written so far, and the rest as in a source.
pub record SinkState : Type 0 where
  pub written : List ℕ
  pub most : ℕ
  pub failing : List ℕ
  pub calls : ℕ
  pub faults : ℕ

-- one more call; the count stops above each number that a list of them can hold
abbrev pub next_call : ℕ → ℕ
next_call calls = min (calls + 1) (2 ^ 128 - 1)
