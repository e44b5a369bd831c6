-- The workspaces of a session after an edit was made and its opposite was kept.
use Rattle.std.proofs.Common.{◌≡◌, ℕ, List, [], ◌∷◌, ◌++◌, map, reverse, true, All, Some, sym, ap, subst, ◌∙◌}
use Rattle.std.proofs.lemmas.List.{reverse-append}
use Rattle.std.proofs.lemmas.List.Elements.{All-cons, All-head, All-nil, All-push, All-tail, All-weaker}
use Rattle.hashcons.specs.Contents.{Contents}
use Rattle.workspace_json.specs.Sessions.{Session, back, forth, redone, undone}
use Rattle.workspace_json.specs.Workspaces.{Workspace}
use Rattle.workspace_lists.specs.declared.names.Names.{Names}
use Rattle.workspace_lists.specs.declared.workspace.Generator.{Generator}
use Rattle.workspace_lists.specs.declared.workspace.Named.{Named}
use Rattle.workspace_lists.specs.declared.workspace.NamedMap.{NamedMap}
use Rattle.workspace_lists.specs.Names.{knows}
use Rattle.session_state.specs.declared.edit.Edit.{Edit}
use Rattle.workspace_lists.specs.Held.{Lists, trees_in}
use Rattle.session_state.specs.Edits.{AllFit, Fits, HasType, IsGoodAt, IsWithin, LeadsBack, LeadsForth, edited, turns}
use Rattle.session_state.specs.Kinds.{AreOpposite}
use Rattle.session_state.specs.States.{IsHistory, session_over}
use Rattle.session_state.proofs.EditsBack.{all_last}
use Rattle.session_state.proofs.OppositeEdits.{opposite_back, opposite_forth}

-- ---- the last edit of a list

pub last_first : (es : List Edit) (e : Edit) → reverse (es ++ e ∷ []) ≡ e ∷ reverse es
last_first es e = reverse-append es (e ∷ [])

pub all_front : {X : Type 0} (P : X → Type 0) (xs : List X) (x : X) → All P (xs ++ x ∷ []) → All P xs
all_front P [] x h = All-nil P
all_front P (y ∷ xs) x h = All-cons P y xs (All-head P y (xs ++ x ∷ []) h) (all_front P xs x (All-tail P y (xs ++ x ∷ []) h))

-- ---- the lists of a session

-- the table keeps its places
pub good-kept_names : (c : Contents) (old new : Names) (l : Lists) → ((name : List ℕ) → knows old name ≡ true → knows new name ≡ true) → IsGoodAt c old l → IsGoodAt c new l
good-kept_names c old new l kept h = record {
  held = h.held;
  known = record {
    generators = All-weaker (λ (g : Generator). knows old g.name ≡ true) (λ (g : Generator). knows new g.name ≡ true) (λ g k. kept g.name k) l.generators h.known.generators;
    diagrams = All-weaker (λ (d : Named). knows old d.name ≡ true) (λ (d : Named). knows new d.name ≡ true) (λ d k. kept d.name k) l.diagrams h.known.diagrams;
    maps = All-weaker (λ (m : NamedMap). knows old m.name ≡ true) (λ (m : NamedMap). knows new m.name ≡ true) (λ m k. kept m.name k) l.maps h.known.maps;
  };
  rule = h.rule;
}

-- the edit that comes next leads to a good workspace, and fits
pub next_good : (c : Contents) (names : Names) (l : Lists) (e : Edit) (es : List Edit) → All (IsGoodAt c names) (turns l (reverse (es ++ e ∷ []))) → IsGoodAt c names (edited l e)
next_good c names l e es h =
    All-head (IsGoodAt c names) (edited l e) (turns (edited l e) (reverse es)) (subst (λ (xs : List Edit). All (IsGoodAt c names) (turns l xs)) (last_first es e) h)

pub next_fits : (c : Contents) (l : Lists) (e : Edit) (es : List Edit) → AllFit c l (reverse (es ++ e ∷ [])) → Fits c l e
next_fits c l e es h = (subst (AllFit c l) (last_first es e) h).0

module _ (c : Contents) (old new : Names) (kept : (name : List ℕ) → knows old name ≡ true → knows new name ≡ true) where
  pub all_good-kept : (ls : List Lists) → All (IsGoodAt c old) ls → All (IsGoodAt c new) ls
  all_good-kept ls h = All-weaker (IsGoodAt c old) (IsGoodAt c new) (λ l g. good-kept_names c old new l kept g) ls h

  module _ (l m : Lists) (e i : Edit) (made : m ≡ edited l e) (back : edited m i ≡ l) where
    -- where the edit led is the present now
    pub head_good : (es : List Edit) → All (IsGoodAt c old) (turns l (reverse (es ++ e ∷ []))) → IsGoodAt c new m
    head_good es h = subst (IsGoodAt c new) (sym made) (good-kept_names c old new (edited l e) kept (next_good c old l e es h))

    pub rest_good : (es : List Edit) → All (IsGoodAt c old) (turns l (reverse (es ++ e ∷ []))) → All (IsGoodAt c new) (turns m (reverse es))
    rest_good es h =
        let k = subst (λ (xs : List Edit). All (IsGoodAt c old) (turns l xs)) (last_first es e) h in
        subst (λ (n : Lists). All (IsGoodAt c new) (turns n (reverse es))) (sym made)
        (all_good-kept (turns (edited l e) (reverse es)) (All-tail (IsGoodAt c old) (edited l e) (turns (edited l e) (reverse es)) k))

    -- and where it came from comes next on the other side
    pub more_good : (fs : List Edit) → IsGoodAt c old l → All (IsGoodAt c old) (turns l (reverse fs)) → All (IsGoodAt c new) (turns m (reverse (fs ++ i ∷ [])))
    more_good fs here h =
        subst (λ (xs : List Edit). All (IsGoodAt c new) (turns m xs)) (sym (last_first fs i))
        (subst (λ (n : Lists). All (IsGoodAt c new) (n ∷ turns n (reverse fs))) (sym back)
        (All-cons (IsGoodAt c new) l (turns l (reverse fs)) (good-kept_names c old new l kept here) (all_good-kept (turns l (reverse fs)) h)))

    pub rest_fits : (es : List Edit) → AllFit c l (reverse (es ++ e ∷ [])) → AllFit c m (reverse es)
    rest_fits es h = subst (λ (n : Lists). AllFit c n (reverse es)) (sym made) (subst (AllFit c l) (last_first es e) h).1

    pub more_fits : (fs : List Edit) → IsWithin m i → HasType c m i → AllFit c l (reverse fs) → AllFit c m (reverse (fs ++ i ∷ []))
    more_fits fs within type_of h =
        subst (AllFit c m) (sym (last_first fs i))
        (record { within = within; type_of = type_of }, subst (λ (n : Lists). AllFit c n (reverse fs)) (sym back) h)

    pub turned_back : (es fs : List Edit) → AreOpposite e i → IsWithin m i → HasType c m i → IsHistory c old l (es ++ e ∷ []) fs → IsHistory c new m es (fs ++ i ∷ [])
    turned_back es fs opposite within type_of h = record {
      present = head_good es h.before;
      before = rest_good es h.before;
      after = more_good fs h.present h.after;
      back_fits = rest_fits es h.back_fits;
      forth_fits = more_fits fs within type_of h.forth_fits;
      back = all_front LeadsBack es e h.back;
      forth = All-push LeadsForth fs i h.forth (opposite_forth e i (all_last LeadsBack es e h.back) opposite);
    }

    pub turned_forth : (es fs : List Edit) → AreOpposite e i → IsWithin m i → HasType c m i → IsHistory c old l es (fs ++ e ∷ []) → IsHistory c new m (es ++ i ∷ []) fs
    turned_forth es fs opposite within type_of h = record {
      present = head_good fs h.after;
      before = more_good es h.present h.before;
      after = rest_good fs h.after;
      back_fits = more_fits es within type_of h.back_fits;
      forth_fits = rest_fits fs h.forth_fits;
      back = All-push LeadsBack es i h.back (opposite_back e i (all_last LeadsForth fs e h.forth) opposite);
      forth = all_front LeadsForth fs e h.forth;
    }

    -- the change is made, and what was undone is forgotten
    pub turned_anew : (es fs : List Edit) → LeadsForth e → AreOpposite e i → IsWithin m i → HasType c m i → IsGoodAt c old (edited l e) → IsHistory c old l es fs → IsHistory c new m (es ++ i ∷ []) []
    turned_anew es fs forth opposite within type_of good h = record {
      present = subst (IsGoodAt c new) (sym made) (good-kept_names c old new (edited l e) kept good);
      before = more_good es h.present h.before;
      after = All-nil (IsGoodAt c new);
      back_fits = more_fits es within type_of h.back_fits;
      forth_fits = tt;
      back = All-push LeadsBack es i h.back (opposite_back e i forth opposite);
      forth = All-nil LeadsForth;
    }

-- ---- the session of trees

module _ (c : Contents) (l m : Lists) (e i : Edit) (made : m ≡ edited l e) (back_again : edited m i ≡ l) where
  abbrev workspaces : Lists → List Edit → List Workspace
  workspaces n es = map (trees_in c) (turns n es)

  gone : (es : List Edit) → workspaces l (reverse (es ++ e ∷ [])) ≡ trees_in c m ∷ workspaces m (reverse es)
  gone es = ap (workspaces l) (last_first es e) ∙ ap (λ (n : Lists). trees_in c n ∷ workspaces n (reverse es)) (sym made)

  come : (fs : List Edit) → trees_in c l ∷ workspaces l (reverse fs) ≡ workspaces m (reverse (fs ++ i ∷ []))
  come fs = ap (λ (n : Lists). trees_in c n ∷ workspaces n (reverse fs)) (sym back_again) ∙ sym (ap (workspaces m) (last_first fs i))

  pub session_back : (es fs : List Edit) → undone (session_over c l (es ++ e ∷ []) fs) ≡ Some (session_over c m es (fs ++ i ∷ []))
  session_back es fs =
      ap (λ ws. back (trees_in c l) ws (workspaces l (reverse fs))) (gone es)
      ∙ ap (λ ws. let s : Session = record { present = trees_in c m; past = workspaces m (reverse es); future = ws } in Some s) (come fs)

  pub session_forth : (es fs : List Edit) → redone (session_over c l es (fs ++ e ∷ [])) ≡ Some (session_over c m (es ++ i ∷ []) fs)
  session_forth es fs =
      ap (λ ws. forth (trees_in c l) (workspaces l (reverse es)) ws) (gone fs)
      ∙ ap (λ ws. let s : Session = record { present = trees_in c m; past = ws; future = workspaces m (reverse fs) } in Some s) (come es)

  pub session_anew : (es fs : List Edit) → session_over c m (es ++ i ∷ []) [] ≡ record { present = trees_in c (edited l e); past = trees_in c l ∷ workspaces l (reverse es); future = [] }
  session_anew es fs = λ j.
      let s : Session = record { present = trees_in c (made j); past = sym (come es) j; future = [] } in s
