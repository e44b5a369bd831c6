-- What tests tell, of members and of the elements of a list.
use Rattle.std.proofs.Common.{◌≡◌, ℕ, ◌<◌, Bool, true, false, not, ◌&&◌, ◌||◌, nat_eq, nat_lt, List, [], ◌∷◌, length, get_or, refl, sym, ap, ◌∙◌, subst, inl, inr, eqb-true, eq-eqb}
use Rattle.std.specs.Prelude.{◌⊎◌, Option, Some, None}
use Rattle.std.specs.List.{Contains, list_all, list_any}
use Rattle.std.proofs.lemmas.Bool.{cases_Bool, cond_both, ltb-true, lt-ltb}
use Rattle.diagram_terms.specs.HeightClasses.{HeightShape, Member, IsMember, IsBefore}
use Rattle.colimit_laws.proofs.Membership.{contains_none, contains_head, contains_tail, contains_cases}
use Rattle.colimit_laws.proofs.Order.{same_member}
use Rattle.diagram_terms.specs.RankProgram.{is_before, is_member, lesser, least_by}
use Rattle.diagram_terms.specs.RankProgram as program

-- the test passes exactly where P holds
pub record Tells (b : Bool) (P : Type 0) : Type 0 where
  pub yes : b ≡ true → P
  pub no : P → b ≡ true

-- where it fails, P does not hold, and back
pub fails : {b : Bool} {P : Type 0} → Tells b P → b ≡ false → P → ⊥
fails t e p = let f = t.no p in cc

pub fails_where : {b : Bool} {P : Type 0} → Tells b P → (P → ⊥) → b ≡ false
fails_where {b} t n = elim (cases_Bool b) [
  | inl e ↦ absurd (n (t.yes e))
  | inr e ↦ e
]

-- two tests of one thing are one
pub same_test : {a b : Bool} {P : Type 0} → Tells a P → Tells b P → a ≡ b
same_test {a} s t = elim (cases_Bool a) [
  | inl e ↦ e ∙ sym (t.no (s.yes e))
  | inr e ↦ e ∙ sym (fails_where t (fails s e))
]

and_yes : (a b : Bool) → (a && b) ≡ true → (a ≡ true) × (b ≡ true)
and_yes true b e = (refl, e)
and_yes false b e = absurd (cc)

and_no : (a b : Bool) → a ≡ true → b ≡ true → (a && b) ≡ true
and_no true b e f = f
and_no false b e f = e

pub or_yes : (a b : Bool) → (a || b) ≡ true → (a ≡ true) ⊎ (b ≡ true)
or_yes true b e = inl refl
or_yes false b e = inr e

pub or_left : (a b : Bool) → a ≡ true → (a || b) ≡ true
or_left true b e = refl
or_left false b e = absurd (cc)

pub or_right : (a b : Bool) → b ≡ true → (a || b) ≡ true
or_right true b e = refl
or_right false b e = e

not_yes : (a : Bool) → not a ≡ true → a ≡ false
not_yes true e = sym e
not_yes false e = refl

not_no : (a : Bool) → a ≡ false → not a ≡ true
not_no true e = sym e
not_no false e = refl

pub tells_and : {a b : Bool} {P Q : Type 0} → Tells a P → Tells b Q → Tells (a && b) (P × Q)
tells_and {a} {b} s t = record {
  yes = λ e. let h = and_yes a b e in (s.yes h.0, t.yes h.1);
  no = λ h. and_no a b (s.no h.0) (t.no h.1);
}

pub tells_or : {a b : Bool} {P Q : Type 0} → Tells a P → Tells b Q → Tells (a || b) (P ⊎ Q)
tells_or {a} {b} s t = record {
  yes = λ e. elim (or_yes a b e) [ inl h ↦ inl (s.yes h) | inr h ↦ inr (t.yes h) ];
  no = λ h. elim h [ inl p ↦ or_left a b (s.no p) | inr q ↦ or_right a b (t.no q) ];
}

pub tells_not : {a : Bool} {P : Type 0} → Tells a P → Tells (not a) (P → ⊥)
tells_not {a} t = record { yes = λ e. fails t (not_yes a e); no = λ n. not_no a (fails_where t n) }

-- what is told of one thing is told of an equivalent one
pub tells_as : {a : Bool} {P Q : Type 0} → Tells a P → (P → Q) → (Q → P) → Tells a Q
tells_as t to from = record { yes = λ e. to (t.yes e); no = λ q. t.no (from q) }

pub tells_less : (m n : ℕ) → Tells (nat_lt m n) (m < n)
tells_less m n = record { yes = ltb-true m n; no = lt-ltb m n }

pub tells_number : (m n : ℕ) → Tells (nat_eq m n) (m ≡ n)
tells_number m n = record { yes = eqb-true m n; no = eq-eqb m n }

-- ---- of lists

module _ {X : Type 0} (f : X → Bool) where
  any_yes : (xs : List X) → list_any f xs ≡ true → (x : X) × Contains xs x × (f x ≡ true)
  any_yes [] e = absurd (cc)
  any_yes (x ∷ xs) e = elim (or_yes (f x) (list_any f xs) e) [
    | inl h ↦ (x, contains_head x xs, h)
    | inr t ↦ (let r = any_yes xs t in (r.0, contains_tail x r.0 xs r.1, r.2))
  ]

  any_no : (xs : List X) (y : X) → Contains xs y → f y ≡ true → list_any f xs ≡ true
  any_no [] y c h = contains_none y c
  any_no (x ∷ xs) y c h = elim (contains_cases x y xs c) [
    | inl e ↦ or_left (f x) (list_any f xs) (ap f e ∙ h)
    | inr t ↦ or_right (f x) (list_any f xs) (any_no xs y t h)
  ]

  all_yes : (xs : List X) → list_all f xs ≡ true → (y : X) → Contains xs y → f y ≡ true
  all_yes [] e y c = contains_none y c
  all_yes (x ∷ xs) e y c = let h = and_yes (f x) (list_all f xs) e in elim (contains_cases x y xs c) [
    | inl s ↦ ap f (sym s) ∙ h.0
    | inr t ↦ all_yes xs h.1 y t
  ]

  all_no : (xs : List X) → ((y : X) → Contains xs y → f y ≡ true) → list_all f xs ≡ true
  all_no [] h = refl
  all_no (x ∷ xs) h = and_no (f x) (list_all f xs) (h x (contains_head x xs)) (all_no xs (λ y c. h y (contains_tail x y xs c)))

pub tells_any : {X : Type 0} (P : X → Type 0) (f : X → Bool) (xs : List X) → ((x : X) → Tells (f x) (P x))
    → Tells (list_any f xs) ((x : X) × Contains xs x × P x)
tells_any P f xs t = record {
  yes = λ e. let r = any_yes f xs e in (r.0, r.1, (t r.0).yes r.2);
  no = λ h. any_no f xs h.0 h.1 ((t h.0).no h.2);
}

pub tells_all : {X : Type 0} (P : X → Type 0) (f : X → Bool) (xs : List X) → ((x : X) → Tells (f x) (P x))
    → Tells (list_all f xs) ((x : X) → Contains xs x → P x)
tells_all P f xs t = record {
  yes = λ e x c. (t x).yes (all_yes f xs e x c);
  no = λ h. all_no f xs (λ x c. (t x).no (h x c));
}

-- ---- of members

pub tells_same : (p q : Member) → Tells (program.same_member p q) (p ≡ q)
tells_same p q = tells_as (tells_and (tells_number p.object q.object) (tells_number p.height q.height))
    (λ h. same_member p q h.0 h.1) (λ e. (ap (λ (m : Member). m.object) e, ap (λ (m : Member). m.height) e))

pub tells_before : (p q : Member) → Tells (is_before p q) (IsBefore p q)
tells_before p q = tells_or (tells_less p.object q.object) (tells_and (tells_number p.object q.object) (tells_less p.height q.height))

pub tells_member : (H : HeightShape) (p : Member) → Tells (is_member H p) (IsMember H p)
tells_member H p = tells_as (tells_and (tells_less p.object (length H.lengths)) (tells_less p.height (get_or H.lengths p.object 0)))
    (λ h. record { object = h.0; height = h.1 }) (λ m. (m.object, m.height))

-- ---- the first least element that passes a test

module _ {X : Type 0} (less : X → X → Bool) (test : X → Bool) (irreflexive : (x : X) → less x x ≡ true → ⊥)
    (transitive : (x y z : X) → less x y ≡ true → less y z ≡ true → less x z ≡ true) where
  -- x passes, and nothing that passes is less
  pub record IsLeastOf (xs : List X) (x : X) : Type 0 where
    pub among : Contains xs x
    pub passes : test x ≡ true
    pub least : (y : X) → Contains xs y → test y ≡ true → less y x ≡ true → ⊥

  abbrev pub LeastOf : List X → Option X → Type 0
  LeastOf xs None = (y : X) → Contains xs y → test y ≡ true → ⊥
  LeastOf xs (Some x) = IsLeastOf xs x

  least_step : (x : X) (xs : List X) (found : Option X) (b : Bool) → test x ≡ b → LeastOf xs found → LeastOf (x ∷ xs) (lesser less b x found)
  least_step x xs None false e h = λ y c t. elim (contains_cases x y xs c) [
    | inl s ↦ (let u = ap test s in cc)
    | inr r ↦ h y r t
  ]
  least_step x xs (Some z) false e h = record {
    among = contains_tail x z xs h.among;
    passes = h.passes;
    least = λ y c t l. elim (contains_cases x y xs c) [
      | inl s ↦ (let u = ap test s in cc)
      | inr r ↦ h.least y r t l
    ];
  }
  least_step x xs None true e h = record {
    among = contains_head x xs;
    passes = e;
    least = λ y c t l. elim (contains_cases x y xs c) [
      | inl s ↦ irreflexive x (subst (λ (w : X). less w x ≡ true) (sym s) l)
      | inr r ↦ h y r t
    ];
  }
  least_step x xs (Some z) true e h = cond_both (less x z) (Some x) (Some z) (LeastOf (x ∷ xs))
      (λ l. record {
        among = contains_head x xs;
        passes = e;
        least = λ y c t m. elim (contains_cases x y xs c) [
          | inl s ↦ irreflexive x (subst (λ (w : X). less w x ≡ true) (sym s) m)
          | inr r ↦ h.least y r t (transitive y x z m l)
        ];
      })
      (λ l. record {
        among = contains_tail x z xs h.among;
        passes = h.passes;
        least = λ y c t m. elim (contains_cases x y xs c) [
          | inl s ↦ (let u = subst (λ (w : X). less w z ≡ true) (sym s) m in cc)
          | inr r ↦ h.least y r t m
        ];
      })

  pub least_of : (xs : List X) → LeastOf xs (least_by less test xs)
  unfolding least_by
  least_of [] = λ y c t. contains_none y c
  least_of (x ∷ xs) = least_step x xs (least_by less test xs) (test x) refl (least_of xs)
