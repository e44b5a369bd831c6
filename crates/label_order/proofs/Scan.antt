-- What a scan of labels knows of those that it has passed.
use Rattle.std.proofs.Common.{◌≡◌, ◌≢◌, ℕ, ◌+◌, ◌-◌, ◌<◌, ◌≤◌, ◌⊎◌, inl, inr, List, [], ◌∷◌, ◌++◌, length, take, drop, get_or, Option, Some, None, is_some, Bool, true, false, not, true≢false, refl, sym, ap, ◌∙◌, subst, arith}
use Rattle.std.specs.List.{All, Contains}
use Rattle.std.proofs.lemmas.List.{append_assoc, take_more, take_all, length-take, length-drop, get_or-take, get_or-drop}
use Rattle.std.proofs.lemmas.List.Elements.{All-nil, All-cons, All-append, All-push, All-weaker, All-contains, All-same, Contains-push, Contains-append_left, Contains-append_right}
use Rattle.diagram_terms.specs.declared.label.Label.{Label}
use Rattle.diagram_terms.specs.Labels.{IsAtMost, IsJoin, IsFirstClash, HasGreatestDimension}
use Rattle.diagram_terms.specs.Family.{no_label}
use Rattle.label_order.specs.Laws.{JoinsOrClashes}

-- every label is at most `one`, and it is the first of its dimension
pub record IsLeading (front : List Label) (one : Label) : Type 0 where
  pub before : List Label
  pub between : List Label
  pub places : front ≡ before ++ one ∷ between
  pub first : All (λ x. x.dim < one.dim) before
  pub next : All (λ x. IsAtMost x one) between

abbrev pub IsScanned : List Label → Label → Option Label → Type 0
IsScanned front one None = IsLeading front one
IsScanned front one (Some other) = IsFirstClash front one other

at_most_dim : (x y : Label) → IsAtMost x y → x.dim ≤ y.dim
at_most_dim x y h = elim h [
  | inl e ↦ (let p = ap (λ (l : Label). l.dim) e in omega arith)
  | inr l ↦ omega arith
]

leading_greatest : (front : List Label) (one : Label) → IsLeading front one → HasGreatestDimension front one
leading_greatest front one s =
    let P : Label → Type 0 = λ x. x.dim ≤ one.dim in
    All-same P front (s.before ++ one ∷ s.between) s.places (
    All-append P s.before (one ∷ s.between)
    (All-weaker (λ x. x.dim < one.dim) P (λ x l. omega arith) s.before s.first)
    (All-cons P one s.between (omega arith) (All-weaker (λ x. IsAtMost x one) P (λ x. at_most_dim x one) s.between s.next)))

scanned_greatest : (front : List Label) (one : Label) (clashing : Option Label) → IsScanned front one clashing → HasGreatestDimension front one
scanned_greatest front one None s = leading_greatest front one s
scanned_greatest front one (Some other) s = s.greatest

pub first_one : (one : Label) → IsScanned (one ∷ []) one None
first_one one = record { before = []; between = []; places = refl; first = All-nil _; next = All-nil _ }

-- a label of greater dimension leads
pub takes_over : (front : List Label) (one x : Label) (clashing : Option Label) → IsScanned front one clashing → one.dim < x.dim → IsScanned (front ++ x ∷ []) x None
takes_over front one x clashing s l = record {
  before = front;
  between = [];
  places = refl;
  first = All-weaker (λ y. y.dim ≤ one.dim) (λ y. y.dim < x.dim) (λ y k. omega arith) front (scanned_greatest front one clashing s);
  next = All-nil _;
}

-- a label of the same dimension that differs clashes
pub clashes : (front : List Label) (one x : Label) → IsScanned front one None → x.dim ≤ one.dim → ¬ IsAtMost x one → IsScanned (front ++ x ∷ []) one (Some x)
clashes front one x s l apart = record {
  before = s.before;
  between = s.between;
  after = [];
  places = ap (λ (f : List Label). f ++ x ∷ []) s.places;
  greatest = All-push (λ y. y.dim ≤ one.dim) front x (leading_greatest front one s) l;
  first = s.first;
  same_dimension = (let k : ¬ (x.dim < one.dim) = λ p. apart (inr p) in omega (arith, k));
  different = λ e. apart (inl e);
  next = s.next;
}

pub passes_on : (front : List Label) (one x : Label) → IsScanned front one None → IsAtMost x one → IsScanned (front ++ x ∷ []) one None
passes_on front one x s h = record {
  before = s.before;
  between = s.between ++ x ∷ [];
  places = ap (λ (f : List Label). f ++ x ∷ []) s.places ∙ append_assoc s.before (one ∷ s.between) (x ∷ []);
  first = s.first;
  next = All-push (λ y. IsAtMost y one) s.between x s.next h;
}

pub clashes_on : (front : List Label) (one other x : Label) → IsScanned front one (Some other) → x.dim ≤ one.dim → IsScanned (front ++ x ∷ []) one (Some other)
clashes_on front one other x s l = record {
  before = s.before;
  between = s.between;
  after = s.after ++ x ∷ [];
  places = ap (λ (f : List Label). f ++ x ∷ []) s.places ∙ append_assoc (s.before ++ one ∷ s.between) (other ∷ s.after) (x ∷ []);
  greatest = All-push (λ y. y.dim ≤ one.dim) front x s.greatest l;
  first = s.first;
  same_dimension = s.same_dimension;
  different = s.different;
  next = s.next;
}

pub leading_joins : (labels : List Label) (one : Label) → IsScanned labels one None → IsJoin labels one
leading_joins labels one s =
    let P : Label → Type 0 = λ x. IsAtMost x one in
    record {
      among = subst (λ (f : List Label). Contains f one) (sym s.places) (Contains-append_right s.before (one ∷ s.between) one (0, omega arith, refl));
      above = All-same P labels (s.before ++ one ∷ s.between) s.places (
          All-append P s.before (one ∷ s.between)
          (All-weaker (λ x. x.dim < one.dim) P (λ x l. inr l) s.before s.first)
          (All-cons P one s.between (inl refl) s.next));
    }

-- the labels up to the next one, where the first is passed before the loop
pub next_front : (labels : List Label) (i : ℕ) (d : Label) → i < length (take (length labels - 1) (drop 1 labels))
    → take (i + 1 + 1) labels ≡ take (i + 1) labels ++ get_or (take (length labels - 1) (drop 1 labels)) i d ∷ []
next_front labels i d l =
    let long = length-take (length labels - 1) (drop 1 labels) in
    let dropped = length-drop 1 labels in
    let within : i + 1 < length labels = omega arith in
    let here : get_or (take (length labels - 1) (drop 1 labels)) i d ≡ get_or labels (i + 1) d =
    get_or-take (length labels - 1) (drop 1 labels) i d (omega arith) ∙ get_or-drop 1 labels i d ∙ ap (λ (k : ℕ). get_or labels k d) (omega arith) in
    take_more labels (i + 1) d within ∙ ap (λ (x : Label). take (i + 1) labels ++ x ∷ []) (sym here)

pub first_front : (labels : List Label) (d : Label) → 0 < length labels → take 1 labels ≡ get_or labels 0 d ∷ []
first_front [] d l = absurd (omega arith)
first_front (x ∷ xs) d l = refl

-- ---- one turn of the scan

abbrev pub next_of : List Label → ℕ → Label
next_of labels i = get_or (take (length labels - 1) (drop 1 labels)) i no_label

abbrev pub IsLeft : List Label → ℕ → Type 0
IsLeft labels i = i < length (take (length labels - 1) (drop 1 labels))

pub scan_starts : (labels : List Label) → 0 < length labels → IsScanned (take 1 labels) (get_or labels 0 no_label) None
scan_starts labels l = subst (λ (f : List Label). IsScanned f (get_or labels 0 no_label) None) (sym (first_front labels no_label l)) (first_one (get_or labels 0 no_label))

module _ (labels : List Label) (i : ℕ) (left : IsLeft labels i) (one one' : Label) (clashing clashing' : Option Label)
    (so_far : IsScanned (take (i + 1) labels) one clashing) where
  -- the front with the next label, as it is taken
  front_is : (y : Label) (c : Option Label) → IsScanned (take (i + 1) labels ++ next_of labels i ∷ []) y c → IsScanned (take (i + 1 + 1) labels) y c
  front_is y c s = subst (λ (f : List Label). IsScanned f y c) (sym (next_front labels i no_label left)) s

  renamed : (y : Label) (c : Option Label) → one' ≡ y → clashing' ≡ c → IsScanned (take (i + 1) labels ++ next_of labels i ∷ []) y c → IsScanned (take (i + 1 + 1) labels) one' clashing'
  renamed y c e f s = subst (λ (z : Label). IsScanned (take (i + 1 + 1) labels) z clashing') (sym e) (subst (IsScanned (take (i + 1 + 1) labels) y) (sym f) (front_is y c s))

  pub taken_over : one.dim < (next_of labels i).dim → one' ≡ next_of labels i → clashing' ≡ None → IsScanned (take (i + 1 + 1) labels) one' clashing'
  taken_over l e f = renamed (next_of labels i) None e f (takes_over (take (i + 1) labels) one (next_of labels i) clashing so_far l)

  pub clashed : clashing ≡ None → (next_of labels i).dim ≤ one.dim → ¬ IsAtMost (next_of labels i) one → one' ≡ one → clashing' ≡ Some (next_of labels i)
      → IsScanned (take (i + 1 + 1) labels) one' clashing'
  clashed n l apart e f = renamed one (Some (next_of labels i)) e f (clashes (take (i + 1) labels) one (next_of labels i) (subst (IsScanned (take (i + 1) labels) one) n so_far) l apart)

  pub passed : clashing ≡ None → IsAtMost (next_of labels i) one → one' ≡ one → clashing' ≡ clashing → IsScanned (take (i + 1 + 1) labels) one' clashing'
  passed n h e f = renamed one None e (f ∙ n) (passes_on (take (i + 1) labels) one (next_of labels i) (subst (IsScanned (take (i + 1) labels) one) n so_far) h)

  pub passed_clash : (other : Label) → clashing ≡ Some other → (next_of labels i).dim ≤ one.dim → one' ≡ one → clashing' ≡ clashing → IsScanned (take (i + 1 + 1) labels) one' clashing'
  passed_clash other n l e f = renamed one (Some other) e (f ∙ n) (clashes_on (take (i + 1) labels) one other (next_of labels i) (subst (IsScanned (take (i + 1) labels) one) n so_far) l)

-- what a test of the option found
pub none_of : (o : Option Label) (b : Bool) → is_some o ≡ not b → b ≡ true → o ≡ None
none_of None b e f = refl
none_of (Some x) b e f = absurd (true≢false (e ∙ ap not f))

pub some_of : (o : Option Label) (b : Bool) → is_some o ≡ not b → b ≡ false → (x : Label) × (o ≡ Some x)
some_of None b e f = absurd (true≢false (sym (e ∙ ap not f)))
some_of (Some x) b e f = (x, refl)

-- the whole list was scanned
pub scanned_all : (labels : List Label) (i : ℕ) (one : Label) (clashing : Option Label) → length (take (length labels - 1) (drop 1 labels)) ≤ i → IsScanned (take (i + 1) labels) one clashing
    → IsScanned labels one clashing
scanned_all labels i one clashing l s =
    let long = length-take (length labels - 1) (drop 1 labels) in
    let dropped = length-drop 1 labels in
    subst (λ (f : List Label). IsScanned f one clashing) (take_all (i + 1) labels (omega arith)) s

-- ---- the law

below_itself : (x y : Label) → IsAtMost x y → IsAtMost y x → x ≡ y
below_itself x y h k = elim h [
  | inl e ↦ e
  | inr l ↦ absurd (let m = at_most_dim y x k in omega arith)
]

pub joins_or_clashes : JoinsOrClashes
joins_or_clashes = record {
  one_join = λ labels x y j k. below_itself x y (All-contains (λ z. IsAtMost z y) labels x k.above j.among) (All-contains (λ z. IsAtMost z x) labels y j.above k.among);
  not_both = λ labels x one other j k.
      let front : List Label = k.before ++ one ∷ k.between in
      let has_one : Contains labels one = subst (λ (f : List Label). Contains f one) (sym k.places) (
      Contains-append_left front (other ∷ k.after) one (Contains-append_right k.before (one ∷ k.between) one (0, omega arith, refl))) in
      let has_other : Contains labels other = subst (λ (f : List Label). Contains f other) (sym k.places) (
      Contains-append_right front (other ∷ k.after) other (0, omega arith, refl)) in
      let one_below : IsAtMost one x = All-contains (λ z. IsAtMost z x) labels one j.above has_one in
      let other_below : IsAtMost other x = All-contains (λ z. IsAtMost z x) labels other j.above has_other in
      let low : x.dim ≤ one.dim = All-contains (λ z. z.dim ≤ one.dim) labels x k.greatest j.among in
      let same = k.same_dimension in
      elim one_below [
        | inl e ↦ elim other_below [
          | inl f ↦ k.different (f ∙ sym e)
          | inr l ↦ absurd (omega arith)
        ]
        | inr l ↦ absurd (omega arith)
      ];
}
