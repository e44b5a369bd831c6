-- What was taken of the input, and what was written, where a run stops short.
use Rattle.std.specs.Prelude.{◌≡◌, ℕ, ◌<◌, List, [], ◌∷◌, ◌++◌, length, false, Option, Some, ◌⊎◌}
use Rattle.std.specs.Io.KnownBytes.{Appends, Consumes, IsAtEnd, Keeps}
use Rattle.io_edge.specs.declared.limits.TheConstants.{READ_LIMIT}
use Rattle.io_edge.specs.Lines.{behind_line, has_newline, lines_of}
use Rattle.hom_run.specs.Full.{Mode, replay_run, replays}

-- Each line of these bytes has its newline.
abbrev pub AreWholeLines : List ℕ → Type 0
AreWholeLines bytes = (bytes ≡ []) ⊎ ((before : List ℕ) × (bytes ≡ before ++ 10 ∷ []))

-- Bytes were taken: whole lines, none of them too long, whose answers were written, and nothing else; and then no newline.
pub record AnswersWholeLines (left left' written written' : Option (List ℕ)) : Type 0 where
  pub lines : List ℕ
  pub begun : List ℕ
  pub consumed : Consumes left left' (lines ++ begun)
  pub whole : AreWholeLines lines
  pub no_newline : has_newline begun ≡ false
  pub none_too_long : (lines_of 0 lines).too_long ≡ false
  pub wrote : Appends written written' (replay_run lines).text

-- Bytes were taken: whole lines, whose answers were written, then a line whose answer was not written whole, and then less
-- than one read. Only the last line of the input may have no newline.
pub record StopsAtLine (left left' written written' : Option (List ℕ)) : Type 0 where
  pub lines : List ℕ
  pub line : List ℕ
  pub behind : List ℕ
  pub consumed : Consumes left left' (lines ++ line ++ behind)
  pub whole : AreWholeLines lines
  pub one_line : behind_line line ≡ []
  pub last_line : has_newline line ≡ false → (behind ≡ []) × IsAtEnd left'
  pub few : length behind < READ_LIMIT
  pub part : List ℕ
  pub missing : List ℕ
  pub wrote : Appends written written' ((replay_run lines).text ++ part)
  pub answer : (replay_run lines).text ++ part ++ missing ≡ (replay_run (lines ++ line)).text
  pub not_whole : 0 < length missing

-- Where reading fails: a session has answered the lines that were taken whole; of a document nothing was written.
abbrev pub AfterReadFault : Option Mode → (left left' written written' : Option (List ℕ)) → Type 0
AfterReadFault (Some replays) left left' written written' = AnswersWholeLines left left' written written'
AfterReadFault mode left left' written written' = Keeps written written'

-- Where writing fails: a session has taken little behind the line whose answer is the first that was not written whole.
abbrev pub AfterWriteFault : Option Mode → (left left' written written' : Option (List ℕ)) → Type 0
AfterWriteFault (Some replays) left left' written written' = StopsAtLine left left' written written'
AfterWriteFault mode left left' written written' = Unit {0}
