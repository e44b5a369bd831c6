-- What `slice` says of a document.
use Rattle.std.proofs.Common.{◌≡◌, ℕ, List, [], ◌∷◌, Bool, true, false, Option, Some, Result, Ok, Err, IfOk, refl, sym, ap, ◌∙◌, subst, append-nil}
use Rattle.std.proofs.lemmas.List.Elements.{All-head, All-tail}
use Rattle.std.specs.List.{All, find}
use Rattle.std.specs.Prelude.{bytes_eq, if◌then◌else◌, option_map}
use Rattle.diagram_terms.specs.declared.node.Node.{Node}
use Rattle.diagram_terms.specs.declared.place.Height.{Height}
use Rattle.diagram_terms.specs.Nodes.{tree_at}
use Rattle.diagram_terms.specs.Slices.{slice_along}
use Rattle.diagram_terms.specs.Tree.{Tree}
use Rattle.node_json.specs.declared.document.DiagramEntry.{DiagramEntry}
use Rattle.node_json.specs.declared.document.Document.{Document}
use Rattle.workspace_json.specs.declared.refusal.Refusal.TheVariants.{Unknown}
use Rattle.workspace_json.specs.declared.reply.Reply.{Reply}
use Rattle.node_json.specs.Documents.{IsDocument, IsDiagramPlace}
use Rattle.workspace_json.specs.Paths.{path_in}
use Rattle.workspace_json.specs.Replies.{text_of_reply}
use Rattle.workspace_json.specs.Steps.{◌>>=◌, or_refuse, reply_of, slice_found}
use Rattle.hom_run.specs.declared.status.Status.TheVariants as status
use Rattle.hom_run.specs.Full.{Run, is_yes, line, replying, root_of, slice_question, slice_reply}
use Rattle.hom_run.specs.Modes.{question_run}

-- ---- the diagram of a name

module _ (nodes : List Node) (name : List ℕ) where
  pick : (b : Bool) (x : DiagramEntry) (found : Option DiagramEntry) → IsDiagramPlace nodes x.root
      → ((root : ℕ) → option_map (λ e. e.root) found ≡ Some root → IsDiagramPlace nodes root)
      → (root : ℕ) → option_map (λ e. e.root) (if b then Some x else found) ≡ Some root → IsDiagramPlace nodes root
  pick true x found here more root e = let same : x.root ≡ root = cc in subst (IsDiagramPlace nodes) same here
  pick false x found here more root e = more root e

  abbrev P : DiagramEntry → Type 0
  P e = IsDiagramPlace nodes e.root

  found_place : (entries : List DiagramEntry) → All P entries
      → (root : ℕ) → root_of name entries ≡ Some root → IsDiagramPlace nodes root
  found_place [] all root e = cc
  found_place (x ∷ xs) all root e = pick (bytes_eq x.name name) x (find (λ e. bytes_eq e.name name) xs) (All-head P x xs all) (found_place xs (All-tail P x xs all)) root e

pub root_place : (document : Document) → IsDocument document → (name : List ℕ) (found : Option ℕ) (root : ℕ)
    → found ≡ root_of name document.diagrams → found ≡ Some root → IsDiagramPlace document.nodes root
root_place document form name found root is some = found_place document.nodes name document.diagrams form.diagrams root (sym is ∙ some)

-- ---- what is said of it

module _ (document : Document) (name : List ℕ) (path : List Height) (root : ℕ) (t : Tree) (found : Option ℕ)
    (is : found ≡ root_of name document.diagrams) (some : found ≡ Some root) (tree : t ≡ tree_at document.nodes root) where
  pub slice_of : (outcome : Result Tree ℕ) → slice_along t path ≡ outcome → reply_of (slice_found outcome) ≡ slice_reply document name path
  slice_of outcome e =
      ap (λ (o : Result Tree ℕ). reply_of (slice_found o)) (sym e ∙ ap (λ (u : Tree). slice_along u path) tree)
      ∙ ap
      (λ (place : Option ℕ). reply_of (or_refuse (Unknown name) place >>= λ i. slice_found (slice_along (tree_at document.nodes i) path)))
      (sym some ∙ is)

-- a reply that is as printed is as said
pub as_said : {E : Type 0} (result : Result Reply E) (printed said : Reply) → printed ≡ said
    → IfOk result (λ reply. reply ≡ printed) → IfOk result (λ reply. reply ≡ said)
as_said (Ok reply) printed said same is = is ∙ same
as_said (Err e) printed said same is = tt

-- ---- the run

module _ (document : Document) (name path : List ℕ) (heights : List Height) (reply : Reply)
    (is : path_in path ≡ Some heights) (reply_is : reply ≡ slice_reply document name heights) where
  slice_run : question_run (slice_question name path) (Ok document) ≡ replying (reply ∷ [])
  slice_run = rw (is, reply_is) refl

  pub slice_text : (question_run (slice_question name path) (Ok document)).text ≡ line (text_of_reply reply)
  slice_text = ap (λ (r : Run). r.text) slice_run ∙ append-nil (line (text_of_reply reply))

  yes_status : (b : Bool) → is_yes reply ≡ b → (question_run (slice_question name path) (Ok document)).status ≡ (if b then status.Done else status.Refused)
  yes_status true e = ap (λ (r : Run). r.status) slice_run ∙ rw e refl
  yes_status false e = ap (λ (r : Run). r.status) slice_run ∙ rw e refl

  pub done_status : is_yes reply ≡ true → status.Done ≡ (question_run (slice_question name path) (Ok document)).status
  done_status e = sym (yes_status true e)

  pub refused_status : is_yes reply ≡ false → status.Refused ≡ (question_run (slice_question name path) (Ok document)).status
  refused_status e = sym (yes_status false e)
