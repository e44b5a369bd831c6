-- What a call that reads or writes many pieces did to the bytes, where they are told.
use Rattle.std.specs.Prelude.{◌≡◌, ℕ, ◌+◌, ◌<◌, ◌≤◌, List, ◌++◌, length, Option, Result, IfOk, IsErrOf}
use Rattle.std.specs.Global.{Vec}
use Rattle.std.specs.Io.KnownBytes.{Appends, Consumes, IsAtEnd}
use Rattle.io_edge.specs.declared.whole.ReadAllFault.{ReadAllFault}
use Rattle.io_edge.specs.declared.whole.ReadAllFault.TheVariants.{TooLong}

-- Bytes were taken: where the answer is `Ok`, it holds them and no more are left; they are one more than the limit
-- exactly where it is `TooLong`.
pub record TakesUpTo (limit : ℕ) (old new : Option (List ℕ)) (result : Result (Vec ℕ) ReadAllFault) : Type 0 where
  pub taken : List ℕ
  pub consumed : Consumes old new taken
  pub whole : IfOk result (λ bytes. (bytes.items ≡ taken) × IsAtEnd new)
  pub too_long : IsErrOf result TooLong → length taken ≡ limit + 1
  pub within : ¬ IsErrOf result TooLong → length taken ≤ limit

-- A part was appended, and the text begins with it.
pub record AppendsPrefix (old new : Option (List ℕ)) (text : List ℕ) : Type 0 where
  pub part : List ℕ
  pub rest : List ℕ
  pub whole : part ++ rest ≡ text
  pub appended : Appends old new part

-- A part was appended that is not the whole text, which begins with it.
pub record AppendsLess (old new : Option (List ℕ)) (text : List ℕ) : Type 0 where
  pub prefix : AppendsPrefix old new text
  pub more : 0 < length prefix.rest
