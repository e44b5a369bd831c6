-- What one more note does to a store.
use Rattle.std.proofs.Common.{◌≡◌, ℕ, Bool, true, false, not, true≢false, ◌&&◌, nat_eq, List, cond, Option, Some, None, refl, sym, subst, ap, ◌∙◌, inl, inr}
use Rattle.std.proofs.lemmas.Bool.{and_parts, and_from, eq-eqb, cases_Bool, cond-true, cond-false, eqb-true}
use Rattle.std.proofs.lemmas.Map.Steps.{set_value_same}
use Rattle.std.proofs.lemmas.Option.{same_Some}
use Rattle.std.proofs.lemmas.Slice.Eq.{slice_eq-Decides}
use Rattle.std.specs.Bool.{Decides, OnFalse}
use Rattle.std.specs.Cmp.Lexicographic.{pointwise}
use Rattle.std.specs.List.{list_any}
use Rattle.std.specs.Map.{lookup, set_value}
use Rattle.std.specs.Option.{option_or}
use Rattle.std.specs.Prelude.{IfSome, IsSome, MatchOption, is_some}
use Rattle.hashcons.specs.declared.view.ArrowView.{ArrowView}
use Rattle.hashcons.specs.declared.view.DiagramView.{DiagramView}
use Rattle.hashcons.specs.Contents.{Contents, IsIdentityOf, IsCompositeOf, IsStore, AreNotes, Grows, with_notes}
use Rattle.hashcons.specs.Notes.{Notes, KeepsNotes, Key, NotesMore, HasMore, same_pair, same_triple, same_key}
use Rattle.hashcons.specs.Tables.{contents_of, AreTables}
use Rattle.hashcons.proofs.OneMoreTree.{KeepsTrees, notes-stay}

-- ---- equal keys are one key

pub exact_number : (x y : ℕ) → nat_eq x y ≡ true → x ≡ y
exact_number x y h = eqb-true x y h

pub exact_pair : (x y : ℕ × ℕ) → same_pair x y ≡ true → x ≡ y
exact_pair x y h =
    let p = and_parts (nat_eq x.0 y.0) (nat_eq x.1 y.1) h in
    let a = eqb-true x.0 y.0 p.0 in
    let b = eqb-true x.1 y.1 p.1 in
    λ i. (a i, b i)

pub exact_triple : (x y : ℕ × ℕ × ℕ) → same_triple x y ≡ true → x ≡ y
exact_triple x y h =
    let p = and_parts (nat_eq x.0 y.0 && nat_eq x.1 y.1) (nat_eq x.2 y.2) h in
    let q = and_parts (nat_eq x.0 y.0) (nat_eq x.1 y.1) p.0 in
    let a = eqb-true x.0 y.0 q.0 in
    let b = eqb-true x.1 y.1 q.1 in
    let e = eqb-true x.2 y.2 p.1 in
    λ i. (a i, b i, e i)

pairs_decide : (x y : ℕ × ℕ) → Decides (same_pair x y) (x ≡ y)
pairs_decide x y = (exact_pair x y, λ e. and_from _ _ (eq-eqb x.0 y.0 (ap (λ p. p.0) e)) (eq-eqb x.1 y.1 (ap (λ p. p.1) e)))

legs_decide : (xs ys : List (ℕ × ℕ)) → Decides (pointwise same_pair xs ys) (xs ≡ ys)
legs_decide xs ys = slice_eq-Decides pairs_decide xs ys (pointwise same_pair xs ys) refl

pub exact_key : (x y : Key) → same_key x y ≡ true → x ≡ y
exact_key x y h =
    let p = and_parts (nat_eq x.target y.target) (pointwise same_pair x.legs y.legs) h in
    let a = eqb-true x.target y.target p.0 in
    let b = (legs_decide x.legs y.legs).0 p.1 in
    λ i. record { target = a i; legs = b i }

pub same_number-refl : (x : ℕ) → nat_eq x x ≡ true
same_number-refl x = eq-eqb x x refl

pub same_pair-refl : (x : ℕ × ℕ) → same_pair x x ≡ true
same_pair-refl x = (pairs_decide x x).1 refl

pub same_triple-refl : (x : ℕ × ℕ × ℕ) → same_triple x x ≡ true
same_triple-refl x = and_from _ _ (and_from _ _ (eq-eqb x.0 x.0 refl) (eq-eqb x.1 x.1 refl)) (eq-eqb x.2 x.2 refl)

pub same_key-refl : (x : Key) → same_key x x ≡ true
same_key-refl x = and_from _ _ (eq-eqb x.target x.target refl) ((legs_decide x.legs x.legs).1 refl)

-- ---- notes by their keys

-- a fact of each entry of a table into which v of k is put
pub puts-all : {K X : Type 0} (eq : K → K → Bool) → ((x y : K) → eq x y ≡ true → x ≡ y) → (old new : List (K × X)) (k : K) (v : X)
    → ((q : K) → lookup (eq q) new ≡ cond (eq k q) (Some v) (lookup (eq q) old))
    → (P : K → X → Type 0) → ((q : K) (w : X) → lookup (eq q) old ≡ Some w → P q w) → P k v → (q : K) (w : X) → lookup (eq q) new ≡ Some w → P q w
puts-all eq exact old new k v updates P all p q w e = elim (cases_Bool (eq k q)) [
  | inl h ↦ subst (λ x. P x w) (exact k q h) (subst (P k) (same_Some v w (sym (cond-true (eq k q) (Some v) (lookup (eq q) old) h) ∙ sym (updates q) ∙ e)) p)
  | inr h ↦ all q w (sym (cond-false (eq k q) (Some v) (lookup (eq q) old) h) ∙ sym (updates q) ∙ e)
]

module _ {K X : Type 0} (eq : K → K → Bool) (exact : (x y : K) → eq x y ≡ true → x ≡ y) (itself : (x : K) → eq x x ≡ true) (old new : List (K × X)) (k : K) (v : X) where
  abbrev put : K → Option X
  put q = cond (eq k q) (Some v) None

  -- where k has the note v or none, a table into which v of k is put notes one more
  pub more_from : ((w : X) → lookup (eq k) old ≡ Some w → w ≡ v) → ((q : K) → lookup (eq q) new ≡ cond (eq k q) (Some v) (lookup (eq q) old))
      → NotesMore eq old new k v
  more_from one updates q = elim (cases_Bool (eq k q)) [
    | inl h ↦ updates q ∙ cond-true (eq k q) (Some v) (lookup (eq q) old) h ∙ sym (at_key (lookup (eq q) old) refl h)
    | inr h ↦ updates q ∙ cond-false (eq k q) (Some v) (lookup (eq q) old) h ∙ sym (elsewhere (lookup (eq q) old) h)
  ]
    where
      at_key : (o : Option X) → lookup (eq q) old ≡ o → eq k q ≡ true → option_or o (put q) ≡ Some v
      at_key None e h = cond-true (eq k q) (Some v) None h
      at_key (Some w) e h = ap Some (one w (subst (λ x. lookup (eq x) old ≡ Some w) (sym (exact k q h)) e))

      elsewhere : (o : Option X) → eq k q ≡ false → option_or o (put q) ≡ o
      elsewhere None h = cond-false (eq k q) (Some v) None h
      elsewhere (Some w) h = refl

  -- where k has a note, the table as it was does
  pub more_already : IsSome (lookup (eq k) old) → NotesMore eq old old k v
  more_already some q = by (lookup (eq q) old) refl
    where
      none : lookup (eq q) old ≡ None → eq k q ≡ true → ⊥
      none e h = absurd (true≢false (sym some ∙ ap is_some (ap (λ x. lookup (eq x) old) (exact k q h) ∙ e)))

      by : (o : Option X) → lookup (eq q) old ≡ o → o ≡ option_or o (put q)
      by (Some w) e = refl
      by None e = elim (cases_Bool (eq k q)) [ inl h ↦ absurd (none e h) | inr h ↦ sym (cond-false (eq k q) (Some v) None h) ]

  module _ (more : NotesMore eq old new k v) where
    -- a fact of each note
    pub notes-all : (P : K → X → Type 0) → ((q : K) (w : X) → lookup (eq q) old ≡ Some w → P q w) → P k v
        → (q : K) (w : X) → lookup (eq q) new ≡ Some w → P q w
    notes-all P all p q w e = by (lookup (eq q) old) refl (sym (more q) ∙ e)
      where
        here : Bool → Option X
        here b = cond b (Some v) None

        put_here : (b : Bool) → eq k q ≡ b → here b ≡ Some w → P q w
        put_here true h is = subst (λ x. P x w) (exact k q h) (subst (P k) (same_Some v w is) p)
        put_here false h is = absurd (let f : ⊥ = cc in f)

        by : (o : Option X) → lookup (eq q) old ≡ o → option_or o (put q) ≡ Some w → P q w
        by (Some x) was is = all q w (was ∙ is)
        by None was is = put_here (eq k q) refl is

    -- each note stays
    pub all-stay : (q : K) (w : X) → lookup (eq q) old ≡ Some w → lookup (eq q) new ≡ Some w
    all-stay q w e = more q ∙ ap (λ o. option_or o (put q)) e

    -- k has a note
    pub one_noted : IsSome (lookup (eq k) new)
    one_noted = by (lookup (eq k) old) refl
      where
        by : (o : Option X) → lookup (eq k) old ≡ o → IsSome (lookup (eq k) new)
        by None e = ap is_some (more k ∙ ap (λ o. option_or o (put k)) e ∙ cond-true (eq k k) (Some v) None (itself k))
        by (Some w) e = ap is_some (all-stay k w e)

    pub noted_so : ((w : X) → lookup (eq k) old ≡ Some w → w ≡ v) → lookup (eq k) new ≡ Some v
    noted_so one = by (lookup (eq k) old) refl
      where
        by : (o : Option X) → lookup (eq k) old ≡ o → lookup (eq k) new ≡ Some v
        by None e = more k ∙ ap (λ o. option_or o (put k)) e ∙ cond-true (eq k k) (Some v) None (itself k)
        by (Some w) e = all-stay k w e ∙ ap Some (one w e)

-- where k has the note v, v put for it changes nothing
pub put_again : {K X : Type 0} (test : K → Bool) (old new : List (K × X)) (v : X) (A : Type 0) (o : Option X) → o ≡ lookup test old
    → MatchOption o A (λ _. new ≡ set_value test old v) → ((w : X) → lookup test old ≡ Some w → w ≡ v) → IsSome (lookup test old) → new ≡ old
put_again test old new v A None e p one some = absurd (true≢false (sym some ∙ ap is_some (sym e)))
put_again test old new v A (Some w) e p one some = p ∙ set_value_same test old v (sym e ∙ ap Some (one w (sym e)))

-- ---- members

module _ {K : Type 0} (eq : K → K → Bool) (exact : (x y : K) → eq x y ≡ true → x ≡ y) (old new : List K) (k : K) (more : HasMore eq old new k) where
  pub members-all : (P : K → Type 0) → ((q : K) → list_any (eq q) old ≡ true → P q) → P k → (q : K) → list_any (eq q) new ≡ true → P q
  members-all P all p q e = elim (cases_Bool (eq k q)) [
    | inl h ↦ subst P (exact k q h) p
    | inr h ↦ all q (sym (cond-false (eq k q) true (list_any (eq q) old) h) ∙ sym (more q) ∙ e)
  ]

  pub members-stay : (q : K) → list_any (eq q) old ≡ true → list_any (eq q) new ≡ true
  members-stay q e = by (eq k q) refl
    where
      either : (b : Bool) → cond b true true ≡ true
      either true = refl
      either false = refl

      by : (b : Bool) → eq k q ≡ b → list_any (eq q) new ≡ true
      by b h = more q ∙ ap (λ x. cond (eq k q) true x) e ∙ either (eq k q)

  pub is_member : eq k k ≡ true → list_any (eq k) new ≡ true
  is_member itself = more k ∙ cond-true (eq k k) true (list_any (eq k) old) itself

-- a member that is put again changes nothing
pub put_member_again : {K : Type 0} (test : K → Bool) (old new : List K) (added : Bool) → added ≡ not (list_any test old)
    → OnFalse added (new ≡ old) → list_any test old ≡ true → new ≡ old
put_member_again test old new true e same known = absurd (true≢false (e ∙ ap not known))
put_member_again test old new false e same known = same

-- what is read of the notes is so
pub right_where_some : {X : Type 0} (P : X → Type 0) (r o : Option X) → r ≡ o → ((x : X) → o ≡ Some x → P x) → IfSome r P
right_where_some P None o e h = tt
right_where_some P (Some x) o e h = h x (sym e)

-- ---- a store with other notes

-- an operation has one answer in a store
pub one_identity : (c : Contents) (d a b : ℕ) → IsStore c → IsIdentityOf c d a → IsIdentityOf c d b → a ≡ b
one_identity c d a b store h k = store.arrows_once a b h.identity k.identity (h.tree ∙ sym k.tree)

pub one_composite : (c : Contents) (g f x y : ℕ) → IsStore c → IsCompositeOf c g f x → IsCompositeOf c g f y → x ≡ y
one_composite c g f x y store h k = store.arrows_once x y h.composite k.composite (h.tree ∙ sym k.tree)

keeps-notes : (c : Contents) (ns : Notes) → KeepsTrees c (with_notes c ns)
keeps-notes c ns = record { diagrams = λ d h. h; arrows = λ a h. h; diagram_trees = λ d h. refl; arrow_trees = λ a h. refl }

-- the store with these notes is one, and grew
pub record Renotes (arrows : List ArrowView) (diagrams : List DiagramView) (old new : Notes) : Type 0 where
  pub tables : AreTables arrows diagrams new
  pub grows : Grows (contents_of arrows diagrams old) (contents_of arrows diagrams new)

module _ (arrows : List ArrowView) (diagrams : List DiagramView) (old new : Notes) (tables : AreTables arrows diagrams old) where
  abbrev here : Contents
  here = contents_of arrows diagrams old

  pub renotes : AreNotes here new → KeepsNotes old new → Renotes arrows diagrams old new
  renotes are keeps =
      let k = keeps-notes here new in
      let store = tables.store in
      let grown : IsStore (with_notes here new) = record {
        diagrams_once = store.diagrams_once;
        arrows_once = store.arrows_once;
        diagrams = store.diagrams;
        arrows = store.arrows;
        slices = store.slices;
        legs = store.legs;
        arrow_slices = store.arrow_slices;
        diagram_dims = store.diagram_dims;
        arrow_dims = store.arrow_dims;
        notes = notes-stay here (with_notes here new) k new are;
      } in
      record {
        tables = record { arrows_grounded = tables.arrows_grounded; diagrams_grounded = tables.diagrams_grounded; store = grown };
        grows = record {
          store = λ _. grown;
          diagrams = k.diagrams;
          arrows = k.arrows;
          diagram_trees = k.diagram_trees;
          arrow_trees = k.arrow_trees;
          notes = keeps;
        };
      }
