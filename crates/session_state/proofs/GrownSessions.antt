-- What a session keeps, over a store that grew.
use Rattle.std.proofs.Common.{◌≡◌, List, [], ◌∷◌, ◌++◌, length, map, reverse, All, refl, sym, ap, subst, ◌∙◌}
use Rattle.std.proofs.lemmas.List.Elements.{All-head, All-tail, All-weaker}
use Rattle.diagram_terms.specs.GeneratorTypes.{type_of_generator}
use Rattle.hashcons.specs.Contents.{Contents, Grows}
use Rattle.typecheck.proofs.GoodSignatures.{generator-kept}
use Rattle.workspace_json.specs.Sessions.{Session}
use Rattle.workspace_json.specs.Workspaces.{IsWorkspace, Workspace}
use Rattle.workspace_lists.specs.declared.names.Meaning.{Meaning}
use Rattle.workspace_lists.specs.declared.names.Meaning.TheVariants as meaning
use Rattle.workspace_lists.specs.declared.names.Names.{Names}
use Rattle.workspace_lists.specs.declared.workspace.Generator.{Generator}
use Rattle.workspace_lists.specs.Held.{IsGeneratorOf, Lists, trees_in}
use Rattle.workspace_lists.specs.Names.{meaning_in}
use Rattle.workspace_lists.proofs.ForCallers.{held-kept, map_of-kept, trees-kept}
use Rattle.session_state.specs.declared.edit.Edit.{Edit}
use Rattle.session_state.specs.declared.edit.Edit.TheVariants as edit
use Rattle.session_state.specs.Edits.{AllFit, HasType, IsGoodAt, edited, turns}
use Rattle.session_state.specs.Meanings.{IsMeaningOf, Tell, arrow_between, diagram, generator, meaning_over}
use Rattle.session_state.specs.States.{IsHistory, session_over}
use Rattle.session_state.proofs.EditsBack.{all_last}

module _ (old new : Contents) (grows : Grows old new) where
  pub good-kept : (names : Names) (l : Lists) → IsGoodAt old names l → IsGoodAt new names l
  good-kept names l h = record {
    held = held-kept old new grows l h.held;
    known = h.known;
    rule = subst IsWorkspace (sym (trees-kept old new grows l h.held)) h.rule;
  }

  all_good-kept : (names : Names) (ls : List Lists) → All (IsGoodAt old names) ls → All (IsGoodAt new names) ls
  all_good-kept names ls h = All-weaker (IsGoodAt old names) (IsGoodAt new names) (λ l g. good-kept names l g) ls h

  all_trees-kept : (names : Names) (ls : List Lists) → All (IsGoodAt old names) ls → map (trees_in new) ls ≡ map (trees_in old) ls
  all_trees-kept names [] h = refl
  all_trees-kept names (l ∷ ls) h =
      let here = trees-kept old new grows l (All-head (IsGoodAt old names) l ls h).held in
      let rest = all_trees-kept names ls (All-tail (IsGoodAt old names) l ls h) in
      λ i. here i ∷ rest i

  -- meanings
  meaning_of-kept : (m : Meaning) → IsMeaningOf old m → IsMeaningOf new m
  meaning_of-kept meaning.Free h = tt
  meaning_of-kept (meaning.Generator t) h = grows.diagrams t h
  meaning_of-kept (meaning.Diagram d) h = grows.diagrams d h
  meaning_of-kept (meaning.Map m) h = map_of-kept old new grows m h

  meaning_over-kept : (m : Meaning) → IsMeaningOf old m → meaning_over new m ≡ meaning_over old m
  meaning_over-kept meaning.Free h = refl
  meaning_over-kept (meaning.Generator t) h = ap generator (grows.diagram_trees t h)
  meaning_over-kept (meaning.Diagram d) h = ap diagram (grows.diagram_trees d h)
  meaning_over-kept (meaning.Map m) h = λ i. arrow_between (grows.diagram_trees m.source h.source i) (grows.diagram_trees m.target h.target i) (grows.arrow_trees m.arrow h.arrow i)

  pub tell-kept : (W : Workspace) (names : Names) → Tell old W names → Tell new W names
  tell-kept W names h = record {
    of_store = λ name. meaning_of-kept (meaning_in names name) (h.of_store name);
    means = λ name. meaning_over-kept (meaning_in names name) (h.of_store name) ∙ h.means name;
  }

  -- edits fit: a generator that comes is one of the workspace to which it comes
  last_generator : (gs : List Generator) (g : Generator) → All (IsGeneratorOf old) (gs ++ g ∷ []) → IsGeneratorOf old g
  last_generator gs g h = all_last (IsGeneratorOf old) gs g h

  type_of-kept : (names : Names) (l : Lists) (e : Edit) → IsGoodAt old names (edited l e) → HasType old l e → HasType new l e
  type_of-kept names l edit.TakeGenerator h k = tt
  type_of-kept names l (edit.PutGenerator g m) h k = record {
    of_store = meaning_of-kept m k.of_store;
    tree = meaning_over-kept m k.of_store ∙ k.tree
        ∙ ap (λ b. generator (type_of_generator (length l.generators) b)) (sym (generator-kept old new g.boundary grows (last_generator l.generators g h.held.generators).of_store));
  }
  type_of-kept names l (edit.TakeDiagram place) h k = tt
  type_of-kept names l (edit.PutDiagram place d) h k = tt
  type_of-kept names l (edit.TakeMap place) h k = tt
  type_of-kept names l (edit.PutMap place m) h k = tt

  all_fit-kept : (names : Names) (l : Lists) (es : List Edit) → All (IsGoodAt old names) (turns l es) → AllFit old l es → AllFit new l es
  all_fit-kept names l [] h k = tt
  all_fit-kept names l (e ∷ es) h k = (
    record { within = k.0.within; type_of = type_of-kept names l e (All-head (IsGoodAt old names) (edited l e) (turns (edited l e) es) h) k.0.type_of },
    all_fit-kept names (edited l e) es (All-tail (IsGoodAt old names) (edited l e) (turns (edited l e) es) h) k.1,
  )

  pub history-kept : (names : Names) (l : Lists) (past future : List Edit) → IsHistory old names l past future → IsHistory new names l past future
  history-kept names l past future h = record {
    present = good-kept names l h.present;
    before = all_good-kept names (turns l (reverse past)) h.before;
    after = all_good-kept names (turns l (reverse future)) h.after;
    back_fits = all_fit-kept names l (reverse past) h.before h.back_fits;
    forth_fits = all_fit-kept names l (reverse future) h.after h.forth_fits;
    back = h.back;
    forth = h.forth;
  }

  pub session-kept : (names : Names) (l : Lists) (past future : List Edit) → IsHistory old names l past future → session_over new l past future ≡ session_over old l past future
  session-kept names l past future h =
      let p = trees-kept old new grows l h.present.held in
      let b = all_trees-kept names (turns l (reverse past)) h.before in
      let a = all_trees-kept names (turns l (reverse future)) h.after in
      λ i. let s : Session = record { present = p i; past = b i; future = a i } in s

  -- and the table tells of the same workspace
  pub telling-kept : (names : Names) (l : Lists) → IsGoodAt old names l → Tell old (trees_in old l) names → Tell new (trees_in new l) names
  telling-kept names l h tell = subst (λ (W : Workspace). Tell new W names) (sym (trees-kept old new grows l h.held)) (tell-kept (trees_in old l) names tell)
