-- The order of first completion: each subtree once, after its children.
use Rattle.std.proofs.Common.{◌≡◌, ℕ, zero, suc, ◌<◌, ◌≤◌, List, [], ◌∷◌, ◌++◌, length, get_or, Bool, true, false, true≢false, ◌||◌, refl, sym, ap, ◌∙◌, arith, subst, ◌⊎◌, inl, inr}
use Rattle.std.specs.Bool.{Decides}
use Rattle.std.specs.List.{list_any, flat_map}
use Rattle.std.proofs.lemmas.Bool.{and_parts, and_from, cond-true, cond-false}
use Rattle.std.proofs.lemmas.Bool.Decides.{Decides-eqb}
use Rattle.std.proofs.lemmas.List.{length_push, get_or_append_left, get_or_push}
use Rattle.diagram_terms.specs.declared.label.Label.{Label}
use Rattle.diagram_terms.specs.Tree.{Tree, nil, num, pair, kind, point, zig, ends, zag, regs, sings, fwds, bwds, regs-zig, sings-zig, fwds-zig, bwds-zig, regs-zag, sings-zag}
use Rattle.diagram_terms.specs.Shape.{IsDiagram, IsArrow, reg_at, sing_at, fwd_at, bwd_at}
use Rattle.diagram_terms.specs.Dimension.{dimension_of, IsDiagramTree, IsArrowTree}
use Rattle.diagram_terms.specs.Completion.{children, completed, completions, same_tree, numbered, all_numbered, IsAmongFirst, ComesAfterChildren}
use Rattle.diagram_terms.specs.CompletionLaws.{ListsEachOnce}
use Rattle.diagram_terms.proofs.Dimensions.{diagram_dimension, arrow_dimension}

-- ---- children

pub children-point : (x : Label) → children (point x) ≡ []
unfolding children point kind
children-point x = refl

pub children-ends : (x y : Label) → children (ends x y) ≡ []
unfolding children ends kind
children-ends x y = refl

children_zig : (rs ss fs bs : List Tree)
    → children (zig rs ss fs bs)
    ≡ regs (zig rs ss fs bs) ++ sings (zig rs ss fs bs) ++ fwds (zig rs ss fs bs) ++ bwds (zig rs ss fs bs)
unfolding children zig kind
children_zig rs ss fs bs = refl

pub children-zig : (rs ss fs bs : List Tree) → children (zig rs ss fs bs) ≡ rs ++ ss ++ fs ++ bs
children-zig rs ss fs bs =
    let a = regs-zig rs ss fs bs in
    let b = sings-zig rs ss fs bs in
    let e = fwds-zig rs ss fs bs in
    let f = bwds-zig rs ss fs bs in
    children_zig rs ss fs bs ∙ (λ i. a i ++ b i ++ e i ++ f i)

children_zag : (hs : List ℕ) (rs ss : List Tree) → children (zag hs rs ss) ≡ regs (zag hs rs ss) ++ sings (zag hs rs ss)
unfolding children zag kind
children_zag hs rs ss = refl

pub children-zag : (hs : List ℕ) (rs ss : List Tree) → children (zag hs rs ss) ≡ rs ++ ss
children-zag hs rs ss =
    let a = regs-zag hs rs ss in
    let b = sings-zag hs rs ss in
    children_zag hs rs ss ∙ (λ i. a i ++ b i)

-- ---- the test

pub same_tree_decides : (t u : Tree) → Decides (same_tree t u) (t ≡ u)
same_tree_decides nil nil = (λ h. refl, λ e. refl)
same_tree_decides nil (num n) = (λ h. absurd (true≢false (sym h)), λ e. cc)
same_tree_decides nil (pair c d) = (λ h. absurd (true≢false (sym h)), λ e. cc)
same_tree_decides (num m) nil = (λ h. absurd (true≢false (sym h)), λ e. cc)
same_tree_decides (num m) (num n) = (λ h. ap num ((Decides-eqb m n).0 h), λ e. (Decides-eqb m n).1 (cc))
same_tree_decides (num m) (pair c d) = (λ h. absurd (true≢false (sym h)), λ e. cc)
same_tree_decides (pair a b) nil = (λ h. absurd (true≢false (sym h)), λ e. cc)
same_tree_decides (pair a b) (num n) = (λ h. absurd (true≢false (sym h)), λ e. cc)
same_tree_decides (pair a b) (pair c d) = (
  λ h. (let p = and_parts (same_tree a c) (same_tree b d) h in
      let q = (same_tree_decides a c).0 p.0 in
      let r = (same_tree_decides b d).0 p.1 in
      λ i. pair (q i) (r i)),
  λ e. and_from (same_tree a c) (same_tree b d) ((same_tree_decides a c).1 (cc)) ((same_tree_decides b d).1 (cc)),
)

-- ---- being in a list

-- the tree is one of the list
abbrev pub IsIn : List Tree → Tree → Type 0
IsIn ts t = IsAmongFirst (length ts) ts t

pub in-append_left : (n : ℕ) (ts us : List Tree) (t : Tree) → n ≤ length ts → IsAmongFirst n ts t
    → IsAmongFirst n (ts ++ us) t
in-append_left n ts us t l h = record {
  place = h.place;
  before = h.before;
  is = get_or_append_left ts us nil h.place (let b = h.before in omega arith) ∙ h.is;
}

pub in-wider : (m n : ℕ) (ts : List Tree) (t : Tree) → m ≤ n → IsAmongFirst m ts t → IsAmongFirst n ts t
in-wider m n ts t l h = record { place = h.place; before = omega (arith, h.before); is = h.is }

pub in-last : (ts : List Tree) (t : Tree) → IsIn (ts ++ t ∷ []) t
in-last ts t = record {
  place = length ts;
  before = omega (arith, length_push ts t);
  is = get_or_push ts t nil (length ts) refl;
}

in-cons : (ts : List Tree) (u t : Tree) → IsIn ts t → IsIn (u ∷ ts) t
in-cons ts u t h = record { place = suc h.place; before = let b = h.before in omega arith; is = h.is }

-- the test finds exactly what is in the list
found_first : (ts : List Tree) (u t : Tree) (b : Bool) → same_tree t u ≡ b → list_any (same_tree t) (u ∷ ts) ≡ true
    → (list_any (same_tree t) ts ≡ true → IsIn ts t) → IsIn (u ∷ ts) t
found_first ts u t true e h rest = record { place = 0; before = omega arith; is = sym ((same_tree_decides t u).0 e) }
found_first ts u t false e h rest = in-cons ts u t (rest (sym (ap (λ c. c || list_any (same_tree t) ts) e) ∙ h))

pub found_in : (ts : List Tree) (t : Tree) → list_any (same_tree t) ts ≡ true → IsIn ts t
found_in [] t h = absurd (true≢false (sym h))
found_in (u ∷ ts) t h = found_first ts u t (same_tree t u) refl h (found_in ts t)

or_right : (a b : Bool) → b ≡ true → (a || b) ≡ true
or_right true b e = refl
or_right false b e = e

found_at : (ts : List Tree) (t : Tree) (i : ℕ) → i < length ts → get_or ts i nil ≡ t → list_any (same_tree t) ts ≡ true
found_at [] t i l e = absurd (omega arith)
found_at (u ∷ ts) t zero l e = ap (λ b. b || list_any (same_tree t) ts) ((same_tree_decides t u).1 (sym e))
found_at (u ∷ ts) t (suc i) l e = or_right (same_tree t u) (list_any (same_tree t) ts) (found_at ts t i (omega arith) e)

pub in_found : (ts : List Tree) (t : Tree) → IsIn ts t → list_any (same_tree t) ts ≡ true
in_found ts t h = found_at ts t h.place h.before h.is

-- ---- numbering one tree

pub numbered-there : (seen : List Tree) (t : Tree) → IsIn seen t → numbered seen t ≡ seen
numbered-there seen t h = cond-true (list_any (same_tree t) seen) seen (seen ++ t ∷ []) (in_found seen t h)

pub numbered-new : (seen : List Tree) (t : Tree) → list_any (same_tree t) seen ≡ false → numbered seen t ≡ seen ++ t ∷ []
numbered-new seen t h = cond-false (list_any (same_tree t) seen) seen (seen ++ t ∷ []) h

-- a fact of what stands after a tree is numbered, where it was there and where it was not
by_numbered : (P : List Tree → Type 0) (seen : List Tree) (t : Tree) → (IsIn seen t → P seen)
    → (list_any (same_tree t) seen ≡ false → P (seen ++ t ∷ [])) → P (numbered seen t)
by_numbered P seen t there new = by (list_any (same_tree t) seen) refl
  where
    by : (b : Bool) → list_any (same_tree t) seen ≡ b → P (numbered seen t)
    by true e = let h = found_in seen t e in subst P (sym (numbered-there seen t h)) (there h)
    by false e = subst P (sym (numbered-new seen t e)) (new e)

pub in-numbered : (seen : List Tree) (t : Tree) → IsIn (numbered seen t) t
in-numbered seen t = by_numbered (λ ts. IsIn ts t) seen t (λ h. h) (λ e. in-last seen t)

pub in-numbered_kept : (seen : List Tree) (t u : Tree) → IsIn seen u → IsIn (numbered seen t) u
in-numbered_kept seen t u h =
    by_numbered (λ ts. IsIn ts u) seen t (λ k. h)
    (λ e. in-wider (length seen) (length (seen ++ t ∷ [])) (seen ++ t ∷ []) u
    (let l = length_push seen t in omega arith) (in-append_left (length seen) seen (t ∷ []) u (omega arith) h))

-- each of these trees is in the list
abbrev pub AllIn : List Tree → List Tree → Type 0
AllIn seen ts = (k : ℕ) → k < length ts → IsIn seen (get_or ts k nil)

-- ---- numbering many

pub all_numbered-append : (seen ts us : List Tree) → all_numbered seen (ts ++ us) ≡ all_numbered (all_numbered seen ts) us
all_numbered-append seen [] us = refl
all_numbered-append seen (t ∷ ts) us = all_numbered-append (numbered seen t) ts us

pub in-all_numbered_kept : (seen ts : List Tree) (u : Tree) → IsIn seen u → IsIn (all_numbered seen ts) u
in-all_numbered_kept seen [] u h = h
in-all_numbered_kept seen (t ∷ ts) u h = in-all_numbered_kept (numbered seen t) ts u (in-numbered_kept seen t u h)

pub in-all_numbered : (seen ts : List Tree) → AllIn (all_numbered seen ts) ts
in-all_numbered seen [] k l = absurd (omega arith)
in-all_numbered seen (t ∷ ts) zero l = in-all_numbered_kept (numbered seen t) ts t (in-numbered seen t)
in-all_numbered seen (t ∷ ts) (suc k) l = in-all_numbered (numbered seen t) ts k (omega arith)

pub all_numbered-there : (seen ts : List Tree) → AllIn seen ts → all_numbered seen ts ≡ seen
all_numbered-there seen [] h = refl
all_numbered-there seen (t ∷ ts) h =
    ap (λ us. all_numbered us ts) (numbered-there seen t (h 0 (omega arith))) ∙ all_numbered-there seen ts
    (λ k l. h (suc k) (omega arith))

-- ---- after their children

pub after-none : ComesAfterChildren []
after-none = record { after = λ i l. absurd (omega arith) }

after-push : (seen : List Tree) (t : Tree) → ComesAfterChildren seen → AllIn seen (children t)
    → ComesAfterChildren (seen ++ t ∷ [])
after-push seen t h below = record { after = λ i l. by i (push_cases i l) }
  where
    push_cases : (i : ℕ) → i < length (seen ++ t ∷ []) → (i < length seen) ⊎ (i ≡ length seen)
    push_cases i l = let n = length_push seen t in grind arith

    by : (i : ℕ) → (i < length seen) ⊎ (i ≡ length seen) → (k : ℕ) → k < length (children (get_or (seen ++ t ∷ []) i nil))
        → IsAmongFirst i (seen ++ t ∷ []) (get_or (children (get_or (seen ++ t ∷ []) i nil)) k nil)
    by i (inl q) =
        subst (λ u. (k : ℕ) → k < length (children u) → IsAmongFirst i (seen ++ t ∷ []) (get_or (children u) k nil))
        (sym (get_or_append_left seen (t ∷ []) nil i q))
        (λ k m. in-append_left i seen (t ∷ []) _ (omega arith) (h.after i q k m))
    by i (inr q) =
        subst (λ u. (k : ℕ) → k < length (children u) → IsAmongFirst i (seen ++ t ∷ []) (get_or (children u) k nil))
        (sym (get_or_push seen t nil i (sym q)))
        (λ k m. in-append_left i seen (t ∷ []) _ (omega arith) (in-wider (length seen) i seen _ (omega arith) (below k m)))

pub after-numbered : (seen : List Tree) (t : Tree) → ComesAfterChildren seen → AllIn seen (children t)
    → ComesAfterChildren (numbered seen t)
after-numbered seen t h below = by_numbered ComesAfterChildren seen t (λ k. h) (λ e. after-push seen t h below)

-- ---- a tree that is there has all its subtrees there

all_in-append : (seen ts us : List Tree) → AllIn seen ts → AllIn seen us → AllIn seen (ts ++ us)
all_in-append seen [] us h g k l = g k l
all_in-append seen (t ∷ ts) us h g zero l = h 0 (omega arith)
all_in-append seen (t ∷ ts) us h g (suc k) l = all_in-append seen ts us (λ j m. h (suc j) (omega arith)) g k (omega arith)

all_in-flat_map : (seen : List Tree) (f : Tree → List Tree) (ts : List Tree)
    → ((k : ℕ) → k < length ts → AllIn seen (f (get_or ts k nil))) → AllIn seen (flat_map f ts)
all_in-flat_map seen f [] h k l = absurd (omega arith)
all_in-flat_map seen f (t ∷ ts) h k l = all_in-append seen (f t) (flat_map f ts) (h 0 (omega arith))
    (all_in-flat_map seen f ts (λ j m. h (suc j) (omega arith))) k l

all_in-single : (seen : List Tree) (t : Tree) → IsIn seen t → AllIn seen (t ∷ [])
all_in-single seen t h zero l = h
all_in-single seen t h (suc k) l = absurd (omega arith)

pub children_there : (seen : List Tree) (t : Tree) → ComesAfterChildren seen → IsIn seen t → AllIn seen (children t)
children_there seen t h p =
    subst (λ u. AllIn seen (children u)) p.is
    (λ k l. in-wider p.place (length seen) seen _ (let b = p.before in omega arith) (h.after p.place p.before k l))

completed_there : (n : ℕ) (seen : List Tree) (t : Tree) → ComesAfterChildren seen → IsIn seen t → AllIn seen (completed n t)
completed_there zero seen t h p = all_in-single seen t p
completed_there (suc n) seen t h p =
    let c = children_there seen t h p in
    all_in-append seen (flat_map (completed n) (children t)) (t ∷ [])
    (all_in-flat_map seen (completed n) (children t) (λ k l. completed_there n seen _ h (c k l))) (all_in-single seen t p)

-- so a visit to it adds nothing
pub visit-there : (seen : List Tree) (t : Tree) → ComesAfterChildren seen → IsIn seen t
    → all_numbered seen (completions t) ≡ seen
visit-there seen t h p = all_numbered-there seen (completions t) (completed_there (dimension_of t) seen t h p)

-- ---- a visit goes to the children, and then completes the tree

abbrev AllHave : ℕ → List Tree → Type 0
AllHave d ts = (k : ℕ) → k < length ts → dimension_of (get_or ts k nil) ≡ d

all_have-append : (d : ℕ) (ts us : List Tree) → AllHave d ts → AllHave d us → AllHave d (ts ++ us)
all_have-append d [] us h g k l = g k l
all_have-append d (t ∷ ts) us h g zero l = h 0 (omega arith)
all_have-append d (t ∷ ts) us h g (suc k) l = all_have-append d ts us (λ j m. h (suc j) (omega arith)) g k (omega arith)

flat_map-completed : (d : ℕ) (ts : List Tree) → AllHave d ts → flat_map (completed d) ts ≡ flat_map completions ts
flat_map-completed d [] h = refl
flat_map-completed d (t ∷ ts) h =
    let e = ap (λ n. completed n t) (sym (h 0 (omega arith))) in
    let r = flat_map-completed d ts (λ k l. h (suc k) (omega arith)) in
    λ i. e i ++ r i

visit_above : (d : ℕ) (t : Tree) → dimension_of t ≡ suc d → AllHave d (children t)
    → completions t ≡ flat_map completions (children t) ++ t ∷ []
visit_above d t e h = ap (λ n. completed n t) e ∙ ap (λ ts. ts ++ t ∷ []) (flat_map-completed d (children t) h)

visit_zero : (t : Tree) → dimension_of t ≡ 0 → children t ≡ [] → completions t ≡ flat_map completions (children t) ++ t ∷ []
visit_zero t e c = ap (λ n. completed n t) e ∙ sym (ap (λ ts. flat_map completions ts ++ t ∷ []) c)

diagram_visit : (d : ℕ) (t : Tree) → IsDiagram d t → completions t ≡ flat_map completions (children t) ++ t ∷ []
diagram_visit zero t h = visit_zero t (diagram_dimension zero t h) (ap children h ∙ children-point _)
diagram_visit (suc d) t h =
    let n = h.regs_len in
    let nf = h.fwds_len in
    let nb = h.bwds_len in
    visit_above d t (diagram_dimension (suc d) t h)
    (subst (AllHave d) (sym (ap children h.is_zig ∙ children-zig _ _ _ _))
    (all_have-append d (regs t ++ sings t ++ fwds t) (bwds t)
    (all_have-append d (regs t ++ sings t) (fwds t)
    (all_have-append d (regs t) (sings t)
    (λ k l. diagram_dimension d (reg_at t k) (h.regs_are k (omega arith)))
    (λ k l. diagram_dimension d (sing_at t k) (h.sings_are k l)))
    (λ k l. arrow_dimension d (fwd_at t k) (h.fwds_are k (omega arith))))
    (λ k l. arrow_dimension d (bwd_at t k) (h.bwds_are k (omega arith)))))

pub diagram_completions : (t : Tree) → IsDiagramTree t → completions t ≡ flat_map completions (children t) ++ t ∷ []
diagram_completions t h = diagram_visit (dimension_of t) t h

arrow_visit : (d : ℕ) (t : Tree) → IsArrow d t → completions t ≡ flat_map completions (children t) ++ t ∷ []
arrow_visit zero t h = visit_zero t (arrow_dimension zero t h) (ap children h ∙ children-ends _ _)
arrow_visit (suc d) t h =
    visit_above d t (arrow_dimension (suc d) t h)
    (subst (AllHave d) (sym (ap children h.is_zag ∙ children-zag _ _ _))
    (all_have-append d (regs t) (sings t)
    (λ k l. arrow_dimension d (reg_at t k) (h.regs_are k l))
    (λ k l. arrow_dimension d (sing_at t k) (h.sings_are k l))))

pub arrow_completions : (t : Tree) → IsArrowTree t → completions t ≡ flat_map completions (children t) ++ t ∷ []
arrow_completions t h = arrow_visit (dimension_of t) t h

-- ---- each subtree once, and no other

abbrev IsOnce : List Tree → Type 0
IsOnce ts = (i j : ℕ) → i < length ts → j < length ts → get_or ts i nil ≡ get_or ts j nil → i ≡ j

push_cases : (ts : List Tree) (t : Tree) (k : ℕ) → k < length (ts ++ t ∷ []) → (k < length ts) ⊎ (length ts ≡ k)
push_cases ts t k l = let n = length_push ts t in grind arith

once-push : (ts : List Tree) (t : Tree) → IsOnce ts → list_any (same_tree t) ts ≡ false → IsOnce (ts ++ t ∷ [])
once-push ts t once new i j a b e = by (push_cases ts t i a) (push_cases ts t j b)
  where
    at : (k : ℕ) → k < length ts → get_or (ts ++ t ∷ []) k nil ≡ get_or ts k nil
    at k l = get_or_append_left ts (t ∷ []) nil k l

    last : (k : ℕ) → length ts ≡ k → get_or (ts ++ t ∷ []) k nil ≡ t
    last k q = get_or_push ts t nil k q

    absent : (k : ℕ) → k < length ts → get_or ts k nil ≡ t → ⊥
    absent k l p = true≢false (sym (found_at ts t k l p) ∙ new)

    by : (i < length ts) ⊎ (length ts ≡ i) → (j < length ts) ⊎ (length ts ≡ j) → i ≡ j
    by (inl p) (inl q) = once i j p q (sym (at i p) ∙ e ∙ at j q)
    by (inl p) (inr q) = absurd (absent i p (sym (at i p) ∙ e ∙ last j q))
    by (inr p) (inl q) = absurd (absent j q (sym (at j q) ∙ sym e ∙ last i p))
    by (inr p) (inr q) = sym p ∙ q

once-numbered : (seen : List Tree) (t : Tree) → IsOnce seen → IsOnce (numbered seen t)
once-numbered seen t once = by_numbered IsOnce seen t (λ h. once) (λ e. once-push seen t once e)

once-all_numbered : (seen ts : List Tree) → IsOnce seen → IsOnce (all_numbered seen ts)
once-all_numbered seen [] once = once
once-all_numbered seen (t ∷ ts) once = once-all_numbered (numbered seen t) ts (once-numbered seen t once)

-- what is numbered was there before, or is one of the trees
from_numbered : (seen : List Tree) (t u : Tree) → IsIn (numbered seen t) u → (IsIn seen u) ⊎ (t ≡ u)
from_numbered seen t u = by_numbered (λ ts. IsIn ts u → (IsIn seen u) ⊎ (t ≡ u)) seen t (λ h. inl) (λ e. from_push)
  where
    from_push : IsIn (seen ++ t ∷ []) u → (IsIn seen u) ⊎ (t ≡ u)
    from_push h = by (push_cases seen t h.place h.before)
      where
        by : (h.place < length seen) ⊎ (length seen ≡ h.place) → (IsIn seen u) ⊎ (t ≡ u)
        by (inl p) = inl (record {
          place = h.place;
          before = p;
          is = sym (get_or_append_left seen (t ∷ []) nil h.place p) ∙ h.is;
        })
        by (inr p) = inr (sym (get_or_push seen t nil h.place p) ∙ h.is)

from_all_numbered : (seen ts : List Tree) (u : Tree) → IsIn (all_numbered seen ts) u → (IsIn seen u) ⊎ (IsIn ts u)
from_all_numbered seen [] u h = inl h
from_all_numbered seen (t ∷ ts) u h = by (from_all_numbered (numbered seen t) ts u h) (from_numbered seen t u)
  where
    by : (IsIn (numbered seen t) u) ⊎ (IsIn ts u) → (IsIn (numbered seen t) u → (IsIn seen u) ⊎ (t ≡ u))
        → (IsIn seen u) ⊎ (IsIn (t ∷ ts) u)
    by (inr h) f = inr (in-cons ts t u h)
    by (inl h) f = first (f h)
      where
        first : (IsIn seen u) ⊎ (t ≡ u) → (IsIn seen u) ⊎ (IsIn (t ∷ ts) u)
        first (inl k) = inl k
        first (inr e) = inr (record { place = 0; before = omega arith; is = e })

from_roots : (ts : List Tree) (u : Tree) → (IsIn [] u) ⊎ (IsIn ts u) → IsIn ts u
from_roots ts u (inl h) = absurd (let b = h.before in omega arith)
from_roots ts u (inr h) = h

pub lists_each_once : (roots : List Tree) → ListsEachOnce roots
lists_each_once roots =
    let ts = flat_map completions roots in
    record {
      all = in-all_numbered [] ts;
      only = λ i l. from_roots ts _
          (from_all_numbered [] ts _ (record { place = i; before = l; is = λ j. get_or (all_numbered [] ts) i nil }));
      once = once-all_numbered [] ts (λ i j a b e. absurd (omega arith));
    }
