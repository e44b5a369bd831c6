-- A signature that follows the edits of a workspace.
use Rattle.std.specs.Prelude.{◌-◌, ◌<◌, ◌≤◌, List, [], ◌∷◌, ◌++◌, length, take}
use Rattle.hashcons.specs.Contents.{Contents}
use Rattle.typecheck.specs.Signatures.{AreGoodOver, Entry, SignatureState, entry_of}
use Rattle.session_state.specs.declared.edit.Edit.{Edit}
use Rattle.session_state.specs.declared.edit.Edit.TheVariants as edit

-- the entries without the generator that an edit takes
abbrev pub followed_back : List Entry → Edit → List Entry
followed_back es edit.TakeGenerator = take (length es - 1) es
followed_back es (edit.PutGenerator g m) = es
followed_back es (edit.TakeDiagram place) = es
followed_back es (edit.PutDiagram place d) = es
followed_back es (edit.TakeMap place) = es
followed_back es (edit.PutMap place m) = es

abbrev pub CanFollowBack : SignatureState → Edit → Type 0
CanFollowBack s edit.TakeGenerator = 0 < length s.entries
CanFollowBack s (edit.PutGenerator g m) = Unit {0}
CanFollowBack s (edit.TakeDiagram place) = Unit {0}
CanFollowBack s (edit.PutDiagram place d) = Unit {0}
CanFollowBack s (edit.TakeMap place) = Unit {0}
CanFollowBack s (edit.PutMap place m) = Unit {0}

-- the entries with the generator that an edit brings
abbrev pub followed_forth : Contents → List Entry → Edit → List Entry
followed_forth c es edit.TakeGenerator = es
followed_forth c es (edit.PutGenerator g m) = es ++ entry_of c g.boundary ∷ []
followed_forth c es (edit.TakeDiagram place) = es
followed_forth c es (edit.PutDiagram place d) = es
followed_forth c es (edit.TakeMap place) = es
followed_forth c es (edit.PutMap place m) = es

-- there is room for it, and the signature stays good
pub record CanPutBack (c : Contents) (s : SignatureState) (e : Entry) : Type 0 where
  pub room : 1 ≤ s.spare
  pub good : AreGoodOver c (s.entries ++ e ∷ [])

abbrev pub CanFollowForth : Contents → SignatureState → Edit → Type 0
CanFollowForth c s edit.TakeGenerator = Unit {0}
CanFollowForth c s (edit.PutGenerator g m) = CanPutBack c s (entry_of c g.boundary)
CanFollowForth c s (edit.TakeDiagram place) = Unit {0}
CanFollowForth c s (edit.PutDiagram place d) = Unit {0}
CanFollowForth c s (edit.TakeMap place) = Unit {0}
CanFollowForth c s (edit.PutMap place m) = Unit {0}
