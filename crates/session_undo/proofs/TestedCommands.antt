-- Commands, test by test.
use Rattle.std.proofs.Common.{◌≡◌, ℕ, List, Bool, Result, Ok, Err, refl, ap, subst, ◌∙◌}
use Rattle.std.specs.List.{list_all}
use Rattle.std.specs.Prelude.{nat_lt}
use Rattle.diagram_terms.specs.declared.limits.TheConstants.{GREATEST_DIM}
use Rattle.diagram_terms.specs.declared.node.Node.{Node}
use Rattle.diagram_terms.specs.declared.place.Height.{Height}
use Rattle.diagram_terms.specs.declared.place.Side.{Side}
use Rattle.diagram_terms.specs.Completion.{same_tree}
use Rattle.diagram_terms.specs.ConeTrees.{identity_diagram_tree}
use Rattle.diagram_terms.specs.Dimension.{dimension_of}
use Rattle.diagram_terms.specs.Slices.{slice_along}
use Rattle.diagram_terms.specs.Tree.{Tree}
use Rattle.workspace_json.specs.declared.refusal.Refusal.{Refusal}
use Rattle.workspace_json.specs.declared.refusal.Refusal.TheVariants as refusal
use Rattle.workspace_json.specs.declared.reply.Reply.{Reply}
use Rattle.workspace_json.specs.declared.reply.Reply.TheVariants as reply
use Rattle.workspace_json.specs.declared.reply.Word.TheVariants as word
use Rattle.workspace_json.specs.Maps.{NamedMap, composite_map, map_fault}
use Rattle.workspace_json.specs.MapSteps.{added, bring_change, compose_change, known_map, map_at}
use Rattle.workspace_json.specs.NormalSteps.{known_maps, normal_trees, normalise_change, with_normal}
use Rattle.workspace_json.specs.Sessions.{Session, change, read}
use Rattle.workspace_json.specs.Steps.{◌>>=◌, Changed, boundary_change, drop_change, end_of, equal_answer, identity_change, known, new_name, no_fault, referred, refuse_unless, slice_answer, slice_found, stored}
use Rattle.workspace_json.specs.Workspaces.{Workspace, can_be_dropped, without}
use Rattle.session_undo.specs.declared.stop.Stop.{Stop}
use Rattle.session_undo.specs.declared.stop.Stop.TheVariants as stop
use Rattle.session_undo.specs.Outcomes.{Answers, ComesTo}

-- ---- where a command stops

-- at a test that refuses, or for want of memory
pub stopped : {B : Type 0} (w : Result B Refusal) (done : Result Changed Refusal) (S : Session) (e : Stop) → Answers {A = B} {B = B} (λ x. x) w (Err e)
    → ((r : Refusal) → w ≡ Err r → done ≡ Err r) → ComesTo (change S done) S S (Err e)
stopped w done S (stop.Refused r) h by = ap (change S) (by r h)
stopped w done S stop.NoMemory h by = refl

pub stopped_answer : {B : Type 0} (w : Result B Refusal) (done : Result Reply Refusal) (e : Stop) → Answers {A = B} {B = B} (λ x. x) w (Err e)
    → ((r : Refusal) → w ≡ Err r → done ≡ Err r) → Answers {A = Reply} {B = Reply} (λ r. r) done (Err e)
stopped_answer w done (stop.Refused r) h by = by r h
stopped_answer w done stop.NoMemory h by = tt

-- a part of an answer
pub part_stopped : {A B C D : Type 0} (part : A → B) (whole : C → D) (w : Result B Refusal) (done : Result D Refusal) (e : Stop) → Answers part w (Err e)
    → ((r : Refusal) → w ≡ Err r → done ≡ Err r) → Answers whole done (Err e)
part_stopped part whole w done (stop.Refused r) h by = by r h
part_stopped part whole w done stop.NoMemory h by = tt

-- what a part of a command comes to, the whole comes to
pub comes_by : (S S' T : Session) (a b : Result Changed Refusal) (r : Result Reply Stop) → S ≡ S' → a ≡ b → ComesTo (change S a) S T r → ComesTo (change S' b) S' T r
comes_by S S' T a b r e f h = subst (λ (X : Session). ComesTo (change X b) X T r) e (subst (λ (x : Result Changed Refusal). ComesTo (change S x) S T r) f h)

-- ---- identity

module _ (W : Workspace) (name of : List ℕ) where
  abbrev identity_found : Tree → Result Changed Refusal
  identity_found t = refuse_unless (nat_lt (dimension_of t) GREATEST_DIM) refusal.DimLimit >>= λ _. stored W word.Identity name (identity_diagram_tree t)

  abbrev identity_named : Unit {0} → Result Changed Refusal
  identity_named u = known W of >>= identity_found

  pub identity_unnamed : (r : Refusal) → new_name W name ≡ Err r → identity_change W name of ≡ Err r
  unfolding identity_change
  identity_unnamed r e = ap (λ (x : Result (Unit {0}) Refusal). x >>= identity_named) e

  pub identity_unknown : (r : Refusal) → new_name W name ≡ Ok tt → known W of ≡ Err r → identity_change W name of ≡ Err r
  unfolding identity_change
  identity_unknown r e f = ap (λ (x : Result (Unit {0}) Refusal). x >>= identity_named) e ∙ ap (λ x. x >>= identity_found) f

  pub identity_tested : (t : Tree) (b : Bool) → new_name W name ≡ Ok tt → known W of ≡ Ok t → nat_lt (dimension_of t) GREATEST_DIM ≡ b
      → identity_change W name of ≡ (refuse_unless b refusal.DimLimit >>= λ _. stored W word.Identity name (identity_diagram_tree t))
  unfolding identity_change
  identity_tested t b e f g =
      ap (λ (x : Result (Unit {0}) Refusal). x >>= identity_named) e ∙ ap (λ x. x >>= identity_found) f
      ∙ ap (λ c. refuse_unless c refusal.DimLimit >>= λ _. stored W word.Identity name (identity_diagram_tree t)) g

-- ---- boundary

module _ (W : Workspace) (name of : List ℕ) (end : Side) where
  abbrev boundary_found : Tree → Result Changed Refusal
  boundary_found t = refuse_unless (nat_lt 0 (dimension_of t)) (refusal.NoHeight 0) >>= λ _. stored W word.Boundary name (end_of end t)

  abbrev boundary_named : Unit {0} → Result Changed Refusal
  boundary_named u = known W of >>= boundary_found

  pub boundary_unnamed : (r : Refusal) → new_name W name ≡ Err r → boundary_change W name of end ≡ Err r
  unfolding boundary_change
  boundary_unnamed r e = ap (λ (x : Result (Unit {0}) Refusal). x >>= boundary_named) e

  pub boundary_unknown : (r : Refusal) → new_name W name ≡ Ok tt → known W of ≡ Err r → boundary_change W name of end ≡ Err r
  unfolding boundary_change
  boundary_unknown r e f = ap (λ (x : Result (Unit {0}) Refusal). x >>= boundary_named) e ∙ ap (λ x. x >>= boundary_found) f

  pub boundary_tested : (t : Tree) (b : Bool) → new_name W name ≡ Ok tt → known W of ≡ Ok t → nat_lt 0 (dimension_of t) ≡ b
      → boundary_change W name of end ≡ (refuse_unless b (refusal.NoHeight 0) >>= λ _. stored W word.Boundary name (end_of end t))
  unfolding boundary_change
  boundary_tested t b e f g =
      ap (λ (x : Result (Unit {0}) Refusal). x >>= boundary_named) e ∙ ap (λ x. x >>= boundary_found) f
      ∙ ap (λ c. refuse_unless c (refusal.NoHeight 0) >>= λ _. stored W word.Boundary name (end_of end t)) g

-- ---- drop

module _ (W : Workspace) (name : List ℕ) where
  abbrev pub dropped : Changed
  dropped = record { reply = reply.Named name word.Drop; workspace = without W name }

  pub drop_tested : (b : Bool) → can_be_dropped W name ≡ b → drop_change W name ≡ (refuse_unless b (refusal.Unknown name) >>= λ _. Ok dropped)
  unfolding drop_change
  drop_tested b e = ap (λ c. refuse_unless c (refusal.Unknown name) >>= λ _. Ok dropped) e

-- ---- bring

module _ (W : Workspace) (name : List ℕ) (nodes : List Node) (source target arrow : ℕ) where
  abbrev its_map : NamedMap
  its_map = map_at name nodes source target arrow

  abbrev bring_named : Unit {0} → Result Changed Refusal
  bring_named u = no_fault (map_fault its_map) >>= λ _. Ok (added W word.Bring its_map)

  pub bring_unnamed : (r : Refusal) → new_name W name ≡ Err r → bring_change W name nodes source target arrow ≡ Err r
  unfolding bring_change
  bring_unnamed r e = ap (λ (x : Result (Unit {0}) Refusal). x >>= bring_named) e

  pub bring_invalid : (r : Refusal) → new_name W name ≡ Ok tt → no_fault (map_fault its_map) ≡ Err r → bring_change W name nodes source target arrow ≡ Err r
  unfolding bring_change
  bring_invalid r e f = ap (λ (x : Result (Unit {0}) Refusal). x >>= bring_named) e ∙ ap (λ (x : Result (Unit {0}) Refusal). x >>= λ _. Ok (added W word.Bring its_map)) f

  pub bring_valid : new_name W name ≡ Ok tt → no_fault (map_fault its_map) ≡ Ok tt → bring_change W name nodes source target arrow ≡ Ok (added W word.Bring its_map)
  unfolding bring_change
  bring_valid e f = ap (λ (x : Result (Unit {0}) Refusal). x >>= bring_named) e ∙ ap (λ (x : Result (Unit {0}) Refusal). x >>= λ _. Ok (added W word.Bring its_map)) f

-- ---- compose

module _ (W : Workspace) (name first second : List ℕ) where
  abbrev compose_met : NamedMap → NamedMap → Bool → Result Changed Refusal
  compose_met f g b = refuse_unless b refusal.EndsDiffer >>= λ _. Ok (added W word.Compose (composite_map name g f))

  abbrev compose_second : NamedMap → Result Changed Refusal
  compose_second f = known_map W second >>= λ g. compose_met f g (same_tree f.target g.source)

  abbrev compose_named : Unit {0} → Result Changed Refusal
  compose_named u = known_map W first >>= compose_second

  pub compose_unnamed : (r : Refusal) → new_name W name ≡ Err r → compose_change W name first second ≡ Err r
  unfolding compose_change
  compose_unnamed r e = ap (λ (x : Result (Unit {0}) Refusal). x >>= compose_named) e

  pub compose_no_first : (r : Refusal) → new_name W name ≡ Ok tt → known_map W first ≡ Err r → compose_change W name first second ≡ Err r
  unfolding compose_change
  compose_no_first r e f = ap (λ (x : Result (Unit {0}) Refusal). x >>= compose_named) e ∙ ap (λ x. x >>= compose_second) f

  pub compose_no_second : (m : NamedMap) (r : Refusal) → new_name W name ≡ Ok tt → known_map W first ≡ Ok m → known_map W second ≡ Err r → compose_change W name first second ≡ Err r
  unfolding compose_change
  compose_no_second m r e f g =
      ap (λ (x : Result (Unit {0}) Refusal). x >>= compose_named) e ∙ ap (λ x. x >>= compose_second) f
      ∙ ap (λ x. x >>= λ n. compose_met m n (same_tree m.target n.source)) g

  pub compose_tested : (m n : NamedMap) (b : Bool) → new_name W name ≡ Ok tt → known_map W first ≡ Ok m → known_map W second ≡ Ok n → same_tree m.target n.source ≡ b
      → compose_change W name first second ≡ compose_met m n b
  unfolding compose_change
  compose_tested m n b e f g h =
      ap (λ (x : Result (Unit {0}) Refusal). x >>= compose_named) e ∙ ap (λ x. x >>= compose_second) f
      ∙ ap (λ x. x >>= λ k. compose_met m k (same_tree m.target k.source)) g ∙ ap (compose_met m n) h

-- ---- normalise

module _ (W : Workspace) (name of : List ℕ) (legs : List (List ℕ)) where
  abbrev pub normalise_met : Tree → List NamedMap → Bool → Result Changed Refusal
  normalise_met t ms b = refuse_unless b refusal.EndsDiffer >>= λ _. Ok (with_normal W name t (normal_trees t ms))

  abbrev normalise_over : Tree → List NamedMap → Result Changed Refusal
  normalise_over t ms = normalise_met t ms (list_all (λ m. same_tree m.target t) ms)

  abbrev normalise_into : Tree → Result Changed Refusal
  normalise_into t = known_maps W legs >>= normalise_over t

  abbrev normalise_named : Unit {0} → Result Changed Refusal
  normalise_named u = referred W of >>= normalise_into

  pub normalise_unnamed : (r : Refusal) → new_name W name ≡ Err r → normalise_change W name of legs ≡ Err r
  unfolding normalise_change
  normalise_unnamed r e = ap (λ (x : Result (Unit {0}) Refusal). x >>= normalise_named) e

  pub normalise_unknown : (r : Refusal) → new_name W name ≡ Ok tt → referred W of ≡ Err r → normalise_change W name of legs ≡ Err r
  unfolding normalise_change
  normalise_unknown r e f = ap (λ (x : Result (Unit {0}) Refusal). x >>= normalise_named) e ∙ ap (λ x. x >>= normalise_into) f

  pub normalise_no_leg : (t : Tree) (r : Refusal) → new_name W name ≡ Ok tt → referred W of ≡ Ok t → known_maps W legs ≡ Err r → normalise_change W name of legs ≡ Err r
  unfolding normalise_change
  normalise_no_leg t r e f g =
      ap (λ (x : Result (Unit {0}) Refusal). x >>= normalise_named) e ∙ ap (λ x. x >>= normalise_into) f ∙ ap (λ x. x >>= normalise_over t) g

  pub normalise_tested : (t : Tree) (ms : List NamedMap) (b : Bool) → new_name W name ≡ Ok tt → referred W of ≡ Ok t → known_maps W legs ≡ Ok ms
      → list_all (λ m. same_tree m.target t) ms ≡ b → normalise_change W name of legs ≡ normalise_met t ms b
  unfolding normalise_change
  normalise_tested t ms b e f g h =
      ap (λ (x : Result (Unit {0}) Refusal). x >>= normalise_named) e ∙ ap (λ x. x >>= normalise_into) f ∙ ap (λ x. x >>= normalise_over t) g
      ∙ ap (normalise_met t ms) h

-- ---- slice and equal

module _ (W : Workspace) (of : List ℕ) (path : List Height) where
  pub slice_unknown : (r : Refusal) → referred W of ≡ Err r → slice_answer W of path ≡ Err r
  unfolding slice_answer
  slice_unknown r e = ap (λ x. x >>= λ t. slice_found (slice_along t path)) e

  pub slice_of : (t : Tree) (o : Result Tree ℕ) → referred W of ≡ Ok t → slice_along t path ≡ o → slice_answer W of path ≡ slice_found o
  unfolding slice_answer
  slice_of t o e f = ap (λ x. x >>= λ u. slice_found (slice_along u path)) e ∙ ap slice_found f

module _ (W : Workspace) (one two : List ℕ) where
  abbrev second_of : Tree → Result Reply Refusal
  second_of s = referred W two >>= λ t. Ok (reply.Equal (same_tree s t))

  pub one_unknown : (r : Refusal) → referred W one ≡ Err r → equal_answer W one two ≡ Err r
  unfolding equal_answer
  one_unknown r e = ap (λ x. x >>= second_of) e

  pub two_unknown : (s : Tree) (r : Refusal) → referred W one ≡ Ok s → referred W two ≡ Err r → equal_answer W one two ≡ Err r
  unfolding equal_answer
  two_unknown s r e f = ap (λ x. x >>= second_of) e ∙ ap (λ x. x >>= λ t. Ok (reply.Equal (same_tree s t))) f

  pub both_known : (s t : Tree) → referred W one ≡ Ok s → referred W two ≡ Ok t → equal_answer W one two ≡ Ok (reply.Equal (same_tree s t))
  unfolding equal_answer
  both_known s t e f = ap (λ x. x >>= second_of) e ∙ ap (λ x. x >>= λ u. Ok (reply.Equal (same_tree s u))) f

-- ---- questions

-- what an answer to a question comes to
pub read_comes : (S : Session) (w : Result Reply Refusal) (r : Result Reply Stop) → Answers {A = Reply} {B = Reply} (λ r. r) w r → ComesTo (read S w) S S r
read_comes S w (Ok r) h = ap (read S) h
read_comes S w (Err (stop.Refused r)) h = ap (read S) h
read_comes S w (Err stop.NoMemory) h = refl
