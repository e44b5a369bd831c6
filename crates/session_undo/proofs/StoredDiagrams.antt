-- Changes of what a session keeps.
use Rattle.std.proofs.Common.{◌≡◌, ℕ, ◌≤◌, List, [], ◌∷◌, ◌++◌, length, map, true, All, Result, Ok, sym, ap, subst, ◌∙◌, arith, refl}
use Rattle.std.specs.List.{insert}
use Rattle.std.proofs.lemmas.List.{map-append}
use Rattle.std.proofs.lemmas.List.Edits.{insert_end}
use Rattle.std.proofs.lemmas.List.Elements.{All-push}
use Rattle.diagram_terms.specs.declared.limits.TheConstants.{GREATEST_DIM}
use Rattle.diagram_terms.specs.Dimension.{dimension_of}
use Rattle.diagram_terms.specs.Decoded.{dia}
use Rattle.diagram_terms.specs.Family.{length_of}
use Rattle.diagram_terms.specs.Shape.{IsDiagram}
use Rattle.diagram_terms.specs.Tree.{Tree, sings}
use Rattle.diagram_terms.specs.Typing.{IsWellTyped}
use Rattle.hashcons.specs.Contents.{Contents, IsDiagramOf, diagram_at}
use Rattle.workspace_json.specs.declared.refusal.Refusal.{Refusal}
use Rattle.workspace_json.specs.declared.reply.Reply.{Reply}
use Rattle.workspace_json.specs.declared.reply.Reply.TheVariants as reply
use Rattle.workspace_json.specs.declared.reply.Word.{Word}
use Rattle.workspace_json.specs.Sessions.{Session, Stepped, change}
use Rattle.workspace_json.specs.Steps.{◌>>=◌, length_in, stored, well_typed}
use Rattle.workspace_json.specs.Workspaces.{IsWorkspace, Workspace, generators_of, with_diagram}
use Rattle.workspace_json.proofs.KeptRules.{IsNew}
use Rattle.workspace_lists.specs.declared.workspace.Named.{Named}
use Rattle.workspace_lists.specs.Held.{Lists, diagram_over, trees_in}
use Rattle.workspace_lists.specs.Names.{knows}
use Rattle.session_state.specs.declared.edit.Edit.{Edit}
use Rattle.session_state.specs.declared.edit.Edit.TheVariants as edit
use Rattle.session_state.specs.declared.state.State.{State}
use Rattle.session_state.specs.Edits.{edited}
use Rattle.session_state.specs.States.{CanAccept, HasRoomForEdit, HasRoomForOne, IsState, lists_of, present_of}
use Rattle.session_state.specs.Kinds.{of_diagrams, of_maps}
use Rattle.session_state.proofs.OppositeEdits.{total_put-le}
use Rattle.session_undo.proofs.TreeLengths.{tree_length}
use Rattle.session_undo.proofs.WorkspaceRules.{with_diagram_rule}

-- ---- a diagram is stored

pub with_diagram_in : (c : Contents) (l : Lists) (place : ℕ) (d : Named) → place ≡ length l.diagrams
    → trees_in c (edited l (edit.PutDiagram place d)) ≡ with_diagram (trees_in c l) d.name (diagram_at c d.root)
with_diagram_in c l place d e =
    ap (λ ds. let w : Workspace = record { generators = (trees_in c l).generators; diagrams = ds; maps = (trees_in c l).maps } in w)
    (ap (λ ds. map (diagram_over c) ds) (ap (λ n. insert l.diagrams n d) e ∙ insert_end l.diagrams d) ∙ map-append (diagram_over c) l.diagrams (d ∷ []))

module _ (s : State) (is : IsState s) (d : Named) (place : ℕ) (last : place ≡ length s.entries.workspace.diagrams.items) where
  abbrev put : Edit
  put = edit.PutDiagram place d

  longer : (edited (lists_of s.entries) put).diagrams ≡ s.entries.workspace.diagrams.items ++ d ∷ []
  longer = ap (λ n. insert s.entries.workspace.diagrams.items n d) last ∙ insert_end s.entries.workspace.diagrams.items d

  pub can_put_diagram : IsNew (present_of s) d.name → IsWellTyped (generators_of (present_of s)) (diagram_at s.store d.root) → dimension_of (diagram_at s.store d.root) ≤ GREATEST_DIM
      → IsDiagramOf s.store d.root → knows s.entries.names d.name ≡ true → CanAccept s put
  can_put_diagram new typed low of_store known =
      let here = is.history.present in record {
        generators = is.generators;
        names = is.names;
        history = is.history;
        fits = record { within = omega arith; type_of = tt };
        good = record {
          held = record {
            generators = here.held.generators;
            diagrams = subst (All (λ (e : Named). IsDiagramOf s.store e.root)) (sym longer) (All-push (λ (e : Named). IsDiagramOf s.store e.root) s.entries.workspace.diagrams.items d here.held.diagrams of_store);
            maps = here.held.maps;
          };
          known = record {
            generators = here.known.generators;
            diagrams = subst (All (λ (e : Named). knows s.entries.names e.name ≡ true)) (sym longer) (All-push (λ (e : Named). knows s.entries.names e.name ≡ true) s.entries.workspace.diagrams.items d here.known.diagrams known);
            maps = here.known.maps;
          };
          rule = subst IsWorkspace (sym (with_diagram_in s.store (lists_of s.entries) place d last))
              (with_diagram_rule (present_of s) d.name (diagram_at s.store d.root) new typed low here.rule);
        };
        forth = refl;
      }

  pub room_to_put_diagram : (name : List ℕ) → HasRoomForOne s name → HasRoomForEdit s put
  room_to_put_diagram name room =
      let few = total_put-le of_diagrams s.past.items in
      let few_maps = total_put-le of_maps s.past.items in record {
        past = room.past;
        future = room.future;
        generators = let r = room.generators in omega arith;
        diagrams = let r = room.diagrams in omega arith;
        maps = let r = room.maps in omega arith;
      }

-- ---- what a change comes to

pub stored_comes : (S T : Session) (W : Workspace) (w : Word) (name : List ℕ) (t : Tree) (r : Reply) → well_typed W t ≡ Ok tt → r ≡ reply.Stored (dimension_of t) (length_in t) name w
    → T ≡ record { present = with_diagram W name t; past = S.present ∷ S.past; future = [] } → change S (stored W w name t) ≡ record { reply = r; session = T }
stored_comes S T W w name t r typed said there =
    ap (λ (x : Result (Unit {0}) Refusal). change S (x >>= λ _. Ok (record { reply = reply.Stored (dimension_of t) (length_in t) name w; workspace = with_diagram W name t }))) typed
    ∙ (λ i. let x : Stepped = record { reply = sym said i; session = sym there i } in x)

-- the session after an edit was accepted, where the session before it was S
pub accepted : (S T U : Session) (W : Workspace) → U ≡ S → T ≡ record { present = W; past = U.present ∷ U.past; future = [] } → (V : Workspace) → W ≡ V
    → T ≡ record { present = V; past = S.present ∷ S.past; future = [] }
accepted S T U W same there V e = there ∙ (λ i. let x : Session = record { present = e i; past = (same i).present ∷ (same i).past; future = [] } in x)

-- what is said of a stored diagram
pub said_stored : (t u : Tree) (dim len : ℕ) (name copy : List ℕ) (w : Word) → u ≡ t → IsDiagram dim u → dim ≡ dimension_of u → len ≡ length (sings u) → copy ≡ name
    → reply.Stored dim len copy w ≡ reply.Stored (dimension_of t) (length_in t) name w
said_stored t u dim len name copy w same shape d l n =
    let e : dim ≡ dimension_of t = d ∙ ap dimension_of same in
    let k : len ≡ length_in t = l ∙ tree_length dim u shape ∙ (λ i. length_of (e i) (dia (e i) (same i))) in
    λ i. reply.Stored (e i) (k i) (n i) w
