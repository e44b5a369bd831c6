-- A session whose store grew, and whose signature has no less room.
use Rattle.std.proofs.Common.{◌≡◌, ◌≤◌, ◌∙◌, sym, ap, subst, arith}
use Rattle.hashcons.specs.Contents.{Contents, Grows}
use Rattle.typecheck.specs.Signatures.{AreGoodOver, IsGoodOver, SignatureState, generators_in, generators_of}
use Rattle.workspace_json.specs.Workspaces as trees
use Rattle.session_state.specs.declared.state.State.{State}
use Rattle.session_state.specs.States.{IsState, Stays, lists_of, present_of}
use Rattle.workspace_lists.proofs.ForCallers.{trees-kept}
use Rattle.session_state.proofs.GrownSessions.{history-kept, session-kept, telling-kept}
use Rattle.session_state.proofs.StateInvariant.{generators_are, good_entries}

abbrev pub grown : State → Contents → SignatureState → State
grown s c signature = record s { store = c; signature = signature }

module _ (s : State) (c : Contents) (signature : SignatureState) (grows : Grows s.store c) (same : signature.entries ≡ s.signature.entries)
    (room : s.signature.spare ≤ signature.spare) (is : IsState s) where
  pub grown_state : IsState (grown s c signature)
  grown_state = record {
    generators = same ∙ is.generators;
    names = telling-kept s.store c grows s.entries.names (lists_of s.entries) is.history.present is.names;
    history = history-kept s.store c grows s.entries.names (lists_of s.entries) s.past.items s.future.items is.history;
    room = record {
      past = is.room.past;
      future = is.room.future;
      generators = is.room.generators;
      diagrams = is.room.diagrams;
      maps = is.room.maps;
      spare = let r = is.room.spare in omega arith;
    };
  }

  pub grown_stays : Stays s (grown s c signature)
  grown_stays = record {
    grows = grows;
    session = session-kept s.store c grows s.entries.names (lists_of s.entries) s.past.items s.future.items is.history;
    present = trees-kept s.store c grows (lists_of s.entries) is.history.present.held;
  }

-- the signature is good, and its generators are those of the workspace
pub signature_good : (s : State) → IsState s → IsGoodOver s.store s.signature
signature_good s is = subst (AreGoodOver s.store) (sym is.generators) (good_entries s.store s.entries.names (lists_of s.entries) is.history.present)

pub signature_is : (s : State) → IsState s → generators_of s.store s.signature ≡ trees.generators_of (present_of s)
signature_is s is = ap (generators_in s.store) is.generators ∙ generators_are s.store s.entries.workspace.generators.items
