-- The program for joins of labels answers as the join does.
use Rattle.std.proofs.Common.{◌≡◌, ℕ, ◌<◌, ◌≤◌, Bool, false, nat_lt, List, [], ◌∷◌, ◌++◌, refl, sym, ap, ◌∙◌, subst, append_assoc, arith, inl, inr}
use Rattle.std.specs.Prelude.{Some, None, Ok, Err}
use Rattle.std.specs.List.{All, Contains}
use Rattle.std.proofs.lemmas.Bool.{cases_lt, cond_both, cond-true, cond-false, lt-ltb}
use Rattle.std.proofs.lemmas.List.Elements.{All-head, All-tail, All-contains, All-weaker, All-append, All-cons, Contains-append_right}
use Rattle.diagram_terms.specs.declared.label.Label.{Label}
use Rattle.diagram_terms.specs.Labels.{IsAtMost, at_most, IsJoin, IsFirstClash}
use Rattle.diagram_terms.specs.Shapes.{Shape}
use Rattle.diagram_terms.specs.Cocones.{Cocone}
use Rattle.diagram_terms.specs.Colimits.{IsLabelColimit}
use Rattle.diagram_terms.specs.ColimitRefusals.{IsLabelRefusal, Refusal}
use Rattle.colimit_laws.proofs.Membership.{contains_head}
use Rattle.colimit_laws.proofs.Finite.{first_where}
use Rattle.diagram_terms.specs.ColimitProgram.{greater, first_greatest, unless_below, first_above, label_answer, joined_at, join_of}
use Rattle.colimit_laws.proofs.Tests.{Tells, tells_and, tells_or, tells_as, tells_less, tells_number, fails_where}

tells_at_most : (x y : Label) → Tells (at_most x y) (IsAtMost x y)
tells_at_most x y = tells_or
    (tells_as (tells_and (tells_number x.number y.number) (tells_number x.dim y.dim))
    (λ h. λ i. record { number = h.0 i; dim = h.1 i }) (λ e. (ap (λ (t : Label). t.number) e, ap (λ (t : Label). t.dim) e)))
    (tells_less x.dim y.dim)

-- ---- the first label of the greatest dimension

not_less : (m n : ℕ) → n ≤ m → nat_lt m n ≡ false
not_less m n l = fails_where (tells_less m n) (λ h. omega arith)

stays : (x : Label) (ys : List Label) → All (λ y. y.dim ≤ x.dim) ys → first_greatest x ys ≡ x
unfolding first_greatest
stays x [] a = refl
stays x (y ∷ ys) a =
    ap (λ (t : Label). first_greatest t ys) (cond-false (nat_lt x.dim y.dim) y x (not_less x.dim y.dim (All-head (λ y. y.dim ≤ x.dim) y ys a)))
    ∙ stays x ys (All-tail (λ y. y.dim ≤ x.dim) y ys a)

found : (x : Label) (before after : List Label) (one : Label) → x.dim < one.dim → All (λ y. y.dim < one.dim) before → All (λ y. y.dim ≤ one.dim) after
    → first_greatest x (before ++ one ∷ after) ≡ one
unfolding first_greatest
found x [] after one l a b =
    ap (λ (t : Label). first_greatest t after) (cond-true (nat_lt x.dim one.dim) one x (lt-ltb x.dim one.dim l)) ∙ stays one after b
found x (y ∷ ys) after one l a b =
    found (greater x y) ys after one
    (cond_both (nat_lt x.dim y.dim) y x (λ t. t.dim < one.dim) (λ h. All-head (λ y. y.dim < one.dim) y ys a) (λ h. l))
    (All-tail (λ y. y.dim < one.dim) y ys a) b

joined_from : (before after : List Label) (one : Label) → All (λ y. y.dim < one.dim) before → All (λ y. y.dim ≤ one.dim) after
    → join_of (before ++ one ∷ after) ≡ joined_at (before ++ one ∷ after) one
joined_from [] after one a b = ap (joined_at (one ∷ after)) (stays one after b)
joined_from (x ∷ before) after one a b =
    ap (joined_at (x ∷ (before ++ one ∷ after)))
    (found x before after one (All-head (λ y. y.dim < one.dim) x before a) (All-tail (λ y. y.dim < one.dim) x before a) b)

-- ---- the first label that is not below

skipped : (x : Label) (ys zs : List Label) → All (λ y. IsAtMost y x) ys → first_above x (ys ++ zs) ≡ first_above x zs
unfolding first_above
skipped x [] zs a = refl
skipped x (y ∷ ys) zs a =
    ap (λ (b : Bool). unless_below b y (first_above x (ys ++ zs))) ((tells_at_most y x).no (All-head (λ y. IsAtMost y x) y ys a))
    ∙ skipped x ys zs (All-tail (λ y. IsAtMost y x) y ys a)

all_below : (x : Label) (ys : List Label) → All (λ y. IsAtMost y x) ys → first_above x ys ≡ None
unfolding first_above
all_below x [] a = refl
all_below x (y ∷ ys) a =
    ap (λ (b : Bool). unless_below b y (first_above x ys)) ((tells_at_most y x).no (All-head (λ y. IsAtMost y x) y ys a))
    ∙ all_below x ys (All-tail (λ y. IsAtMost y x) y ys a)

above : (x other : Label) (zs : List Label) → (IsAtMost other x → ⊥) → first_above x (other ∷ zs) ≡ Some other
unfolding first_above
above x other zs n = ap (λ (b : Bool). unless_below b other (first_above x zs)) (fails_where (tells_at_most other x) n)

-- ---- a join

module _ (labels : List Label) (x : Label) (j : IsJoin labels x) where
  -- a label of the dimension of the join is the join
  is_join : (y : Label) → IsAtMost y x → x.dim ≤ y.dim → y ≡ x
  is_join y a l = elim a [ inl e ↦ e | inr h ↦ absurd (omega arith) ]

  dims : (ys : List Label) → All (λ y. IsAtMost y x) ys → All (λ y. y.dim ≤ x.dim) ys
  dims ys a = All-weaker (λ y. IsAtMost y x) (λ y. y.dim ≤ x.dim) (λ y h. elim h [
    | inl e ↦ (let f = ap (λ (t : Label). t.dim) e in omega arith)
    | inr l ↦ omega arith
  ]) ys a

  join_answered : join_of labels ≡ label_answer labels x None
  join_answered = elim (first_where (λ (y : Label). x.dim ≤ y.dim) (λ y. elim (cases_lt y.dim x.dim) [ inl l ↦ inr (λ h. omega arith) | inr l ↦ inl l ]) labels) [
    | inr none ↦ absurd (All-contains (λ y. x.dim ≤ y.dim → ⊥) labels x none j.among (omega arith))
    | inl f ↦ (
        let among : Contains labels f.found = subst (λ (ls : List Label). Contains ls f.found) (sym f.places)
        (Contains-append_right f.before (f.found ∷ f.after) f.found (contains_head f.found f.after)) in
        let same : f.found ≡ x = is_join f.found (All-contains (λ y. IsAtMost y x) labels f.found j.above among) f.holds in
        let places : labels ≡ f.before ++ x ∷ f.after = f.places ∙ ap (λ (t : Label). f.before ++ t ∷ f.after) same in
        let low : All (λ y. y.dim < x.dim) f.before = All-weaker (λ y. x.dim ≤ y.dim → ⊥) (λ y. y.dim < x.dim) (λ y n. elim (cases_lt y.dim x.dim) [
          | inl l ↦ l
          | inr l ↦ absurd (n l)
        ]) f.before f.earlier in
        let all : All (λ y. IsAtMost y x) (f.before ++ x ∷ f.after) = subst (All (λ y. IsAtMost y x)) places j.above in
        let rest : All (λ y. y.dim ≤ x.dim) f.after = dims f.after (behind f.before f.after all) in
        subst (λ (ls : List Label). join_of ls ≡ label_answer ls x None) (sym places)
        (joined_from f.before f.after x low rest ∙ ap (label_answer (f.before ++ x ∷ f.after) x) (all_below x (f.before ++ x ∷ f.after) all)))
  ]
    where
      behind : (before after : List Label) → All (λ y. IsAtMost y x) (before ++ x ∷ after) → All (λ y. IsAtMost y x) after
      behind [] after a = All-tail (λ y. IsAtMost y x) x after a
      behind (y ∷ ys) after a = behind ys after (All-tail (λ y. IsAtMost y x) y (ys ++ x ∷ after) a)

pub label_colimit : (S : Shape 0) (c : Cocone 0) → IsLabelColimit S c → join_of S.objects ≡ Ok c
label_colimit S c k = join_answered S.objects c.apex k.join ∙ ap (λ ls. Ok (record { apex = c.apex; legs = ls })) (sym k.legs)

-- ---- a clash

module _ (labels : List Label) (one other : Label) (c : IsFirstClash labels one other) where
  clash_answered : join_of labels ≡ label_answer labels one (Some other)
  clash_answered =
      let rest : List Label = c.between ++ other ∷ c.after in
      let head : List Label = c.before ++ one ∷ c.between in
      let front : labels ≡ c.before ++ one ∷ rest = c.places ∙ append_assoc c.before (one ∷ c.between) (other ∷ c.after) in
      let back : labels ≡ head ++ other ∷ c.after = c.places in
      let all : All (λ y. y.dim ≤ one.dim) (c.before ++ one ∷ rest) = subst (All (λ y. y.dim ≤ one.dim)) front c.greatest in
      let low : All (λ y. IsAtMost y one) head = All-append (λ y. IsAtMost y one) c.before (one ∷ c.between)
      (All-weaker (λ y. y.dim < one.dim) (λ y. IsAtMost y one) (λ y l. inr l) c.before c.first)
      (All-cons (λ y. IsAtMost y one) one c.between (inl refl) c.next) in
      let join : join_of labels ≡ joined_at labels one =
      subst (λ (ls : List Label). join_of ls ≡ joined_at ls one) (sym front) (joined_from c.before rest one c.first (behind c.before rest all)) in
      let up : first_above one labels ≡ Some other =
      ap (first_above one) back ∙ skipped one head (other ∷ c.after) low ∙ above one other c.after (λ a. let s = c.same_dimension in let n = c.different in elim a [
        | inl e ↦ n e
        | inr l ↦ omega arith
      ]) in
      join ∙ ap (label_answer labels one) up
    where
      behind : (before after : List Label) → All (λ y. y.dim ≤ one.dim) (before ++ one ∷ after) → All (λ y. y.dim ≤ one.dim) after
      behind [] after a = All-tail (λ y. y.dim ≤ one.dim) one after a
      behind (y ∷ ys) after a = behind ys after (All-tail (λ y. y.dim ≤ one.dim) y (ys ++ one ∷ after) a)

pub label_refusal : (S : Shape 0) (f : Refusal) → IsLabelRefusal S f → join_of S.objects ≡ Err f
label_refusal S f k = clash_answered S.objects k.one k.other k.clashes ∙ ap Err (sym k.is_refusal)
