-- A shape has a colimit, or a refusal.
use Rattle.std.proofs.Common.{◌≡◌, ℕ, zero, suc, ◌<◌, ◌≤◌, List, [], ◌∷◌, ◌++◌, length, get_or, map, refl, sym, ap, ◌∙◌, subst, append_assoc, arith, inl, inr}
use Rattle.std.specs.Prelude.{◌⊎◌}
use Rattle.std.specs.List.{All, Contains}
use Rattle.std.proofs.lemmas.List.Elements.{All-contains, All-weaker, All-append, All-cons, Contains-append_right, Contains-get_or}
use Rattle.std.proofs.lemmas.Bool.{cases_lt}
use Rattle.diagram_terms.specs.declared.label.Label.{Label}
use Rattle.diagram_terms.specs.declared.place.Bias.{Bias}
use Rattle.diagram_terms.specs.Labels.{IsAtMost, IsJoin, IsFirstClash}
use Rattle.diagram_terms.specs.Family.{no_dia}
use Rattle.diagram_terms.specs.Ranks.{Ranks, IsRanked}
use Rattle.diagram_terms.specs.Shapes.{Shape, IsShape, heights_of}
use Rattle.diagram_terms.specs.Cocones.{Cocone}
use Rattle.diagram_terms.specs.ClassParts.{part}
use Rattle.diagram_terms.specs.Colimits.{glued, outer_bias, inner_biases, IsColimit}
use Rattle.diagram_terms.specs.ColimitRefusals.{Refusal, IsRefused, order, clash, in_order, in_part}
use Rattle.colimit_laws.specs.Laws.{ShapesHaveAnswers}
use Rattle.colimit_laws.proofs.Membership.{contains_head}
use Rattle.colimit_laws.proofs.Finite.{Decided, decide_less, decide_number, FirstWhere, first_where, least_where}
use Rattle.colimit_laws.proofs.GivenRanks.{order_answer}
use Rattle.colimit_laws.proofs.OrderRanks.{ranks-of_order}
use Rattle.colimit_laws.proofs.Cocones.{shapes_have_heights, parts_are_shapes}
use Rattle.colimit_laws.proofs.Universality.{choose}

-- ---- dimension 0

same_label : (x y : Label) → x.number ≡ y.number → x.dim ≡ y.dim → x ≡ y
same_label x y e h = λ i. record { number = e i; dim = h i }

decide_at_most : (x y : Label) → Decided (IsAtMost x y)
decide_at_most x y = elim (decide_less x.dim y.dim) [
  | inl l ↦ inl (inr l)
  | inr n ↦ elim (decide_number x.dim y.dim) [
    | inr m ↦ inr (λ a. elim a [ inl e ↦ m (ap (λ (t : Label). t.dim) e) | inr l ↦ n l ])
    | inl d ↦ elim (decide_number x.number y.number) [
      | inl e ↦ inl (inl (same_label x y e d))
      | inr m ↦ inr (λ a. elim a [ inl e ↦ m (ap (λ (t : Label). t.number) e) | inr l ↦ n l ])
    ]
  ]
]

-- a label of the greatest dimension
greatest_of : (labels : List Label) → 0 < length labels → (x : Label) × Contains labels x × All (λ y. y.dim ≤ x.dim) labels
greatest_of labels some = elim (least_where (λ (x y : Label). y.dim < x.dim) (λ x. Unit {0}) (λ x l. omega arith) (λ x y z l m. omega arith)
    (λ x y. decide_less y.dim x.dim) (λ x. inl tt) labels) [
      | inr none ↦ absurd (none (get_or labels 0 (no_dia zero)) (Contains-get_or labels 0 (no_dia zero) some) tt)
      | inl m ↦ (
        m.0,
        m.1.among,
        λ k d l. elim (cases_lt m.0.dim (get_or labels k d).dim) [
          | inl h ↦ absurd (m.1.least (get_or labels k d) (Contains-get_or labels k d l) tt h)
          | inr h ↦ h
        ],
      )
    ]

-- all labels are at most the first one of the greatest dimension, or the first that is not clashes with it
module _ (labels : List Label) (top : Label) (greatest : All (λ y. y.dim ≤ top.dim) labels) (f : FirstWhere (λ y. top.dim ≤ y.dim) labels) where
  abbrev one : Label
  one = f.found

  one_among : Contains labels one
  one_among = subst (λ (ls : List Label). Contains ls one) (sym f.places) (Contains-append_right f.before (one ∷ f.after) one (contains_head one f.after))

  one_dim : one.dim ≡ top.dim
  one_dim = let a = All-contains (λ y. y.dim ≤ top.dim) labels one greatest one_among in let b = f.holds in omega arith

  one_first : All (λ y. y.dim < one.dim) f.before
  one_first = let e = one_dim in All-weaker (λ y. top.dim ≤ y.dim → ⊥) (λ y. y.dim < one.dim) (λ y n. elim (cases_lt y.dim one.dim) [
    | inl l ↦ l
    | inr l ↦ absurd (n (omega arith))
  ]) f.before f.earlier

  one_greatest : All (λ y. y.dim ≤ one.dim) labels
  one_greatest = let e = one_dim in All-weaker (λ y. y.dim ≤ top.dim) (λ y. y.dim ≤ one.dim) (λ y l. omega arith) labels greatest

  -- the label one is at most itself, and those before it are below it
  join_of : All (λ y. IsAtMost y one) f.after → IsJoin labels one
  join_of below = record {
    among = one_among;
    above = subst (All (λ y. IsAtMost y one)) (sym f.places) (All-append (λ y. IsAtMost y one) f.before (one ∷ f.after)
        (All-weaker (λ y. y.dim < one.dim) (λ y. IsAtMost y one) (λ y l. inr l) f.before one_first)
        (All-cons (λ y. IsAtMost y one) one f.after (inl refl) below));
  }

  clash_of : (g : FirstWhere (λ y. IsAtMost y one → ⊥) f.after) → IsFirstClash labels one g.found
  clash_of g =
      let other : Label = g.found in
      let at : labels ≡ f.before ++ (one ∷ (g.before ++ (other ∷ g.after))) = f.places ∙ ap (λ (ls : List Label). f.before ++ (one ∷ ls)) g.places in
      let among : Contains labels other = subst (λ (ls : List Label). Contains ls other) (sym at)
      (Contains-append_right f.before (one ∷ (g.before ++ (other ∷ g.after))) other
      (Contains-append_right (one ∷ g.before) (other ∷ g.after) other (contains_head other g.after))) in
      let low : other.dim ≤ one.dim = All-contains (λ y. y.dim ≤ one.dim) labels other one_greatest among in
      let n : IsAtMost other one → ⊥ = g.holds in
      record {
        before = f.before;
        between = g.before;
        after = g.after;
        places = at ∙ sym (append_assoc f.before (one ∷ g.before) (other ∷ g.after));
        greatest = one_greatest;
        first = one_first;
        same_dimension = elim (cases_lt other.dim one.dim) [
          | inl l ↦ absurd (n (inr l))
          | inr l ↦ omega arith
        ];
        different = λ e. n (inl e);
        next = All-weaker (λ y. (IsAtMost y one → ⊥) → ⊥) (λ y. IsAtMost y one) (λ y m. elim (decide_at_most y one) [
          | inl a ↦ a
          | inr a ↦ absurd (m a)
        ]) g.before g.earlier;
      }

label_answer : ShapesHaveAnswers zero
label_answer S biases vS =
    let labels : List Label = S.objects in
    let top = greatest_of labels vS.nonempty in
    elim (first_where (λ y. top.0.dim ≤ y.dim) (λ y. elim (cases_lt y.dim top.0.dim) [ inl l ↦ inr (λ h. omega arith) | inr l ↦ inl l ]) labels) [
      | inr none ↦ absurd (All-contains (λ y. top.0.dim ≤ y.dim → ⊥) labels top.0 none top.1 (omega arith))
      | inl f ↦ elim (first_where (λ y. IsAtMost y f.found → ⊥) (λ y. elim (decide_at_most y f.found) [ inl a ↦ inr (λ n. n a) | inr n ↦ inl n ]) f.after) [
        | inl g ↦ inr (
          record { ranks = []; cause = clash f.found g.found },
          record {
            one = f.found;
            other = g.found;
            clashes = clash_of labels top.0 top.2 f g;
            is_refusal = refl;
          },
        )
        | inr none ↦ inl (
          record { apex = f.found; legs = map (λ x. record { from = x; to = f.found }) labels },
          record {
            join = join_of labels top.0 top.2 f (All-weaker (λ y. (IsAtMost y f.found → ⊥) → ⊥) (λ y. IsAtMost y f.found)
                (λ y m. elim (decide_at_most y f.found) [ inl a ↦ a | inr a ↦ absurd (m a) ]) f.after none);
            legs = refl;
          },
        )
      ]
    ]

-- ---- one level up

module _ (d : ℕ) (ih : ShapesHaveAnswers d) (S : Shape (suc d)) (biases : List Bias) (vS : IsShape (suc d) S)
    (r : Ranks) (rk : IsRanked (outer_bias biases) (heights_of d S) r) where
  shape_at : (k : ℕ) → k < r.count → IsShape d (part d S r k)
  shape_at k l = parts_are_shapes d S r k vS (ranks-of_order (outer_bias biases) (heights_of d S) (shapes_have_heights d S vS) r rk) l

  abbrev Accepted : ℕ → Type 0
  Accepted n = (k : ℕ) → k < n → (c : Cocone d) × IsColimit d (part d S r k) (inner_biases biases) c

  abbrev Refused : Type 0
  Refused = (f : Refusal) × IsRefused (suc d) S biases f

  one_more : (n : ℕ) → Accepted n → (c : Cocone d) × IsColimit d (part d S r n) (inner_biases biases) c → Accepted (suc n)
  one_more n before here k l = elim (cases_lt k n) [
    | inl h ↦ before k h
    | inr h ↦ (let e : n ≡ k = omega arith in subst (λ (m : ℕ). (c : Cocone d) × IsColimit d (part d S r m) (inner_biases biases) c) e here)
  ]

  -- the parts below n have colimits, or the first one that is refused refuses
  parts_answer : (n : ℕ) → n ≤ r.count → Accepted n ⊎ Refused
  parts_answer zero l = inl (λ k h. absurd (omega arith))
  parts_answer (suc n) l = elim (parts_answer n (omega arith)) [
    | inr f ↦ inr f
    | inl before ↦ elim (ih (part d S r n) (inner_biases biases) (shape_at n l)) [
      | inl c ↦ inl (one_more n before c)
      | inr f ↦ inr (record { ranks = n ∷ f.0.ranks; cause = f.0.cause }, in_part r rk n l before f.0 f.1)
    ]
  ]

  ranked_answer : ((c : Cocone (suc d)) × IsColimit (suc d) S biases c) ⊎ Refused
  ranked_answer = elim (parts_answer r.count (omega arith)) [
    | inr f ↦ inr f
    | inl all ↦ (
        let chosen = choose (λ k c. IsColimit d (part d S r k) (inner_biases biases) c) (record { apex = no_dia d; legs = [] }) r.count all in
        inl (
          glued d S r chosen.0,
          record {
            ranks = r;
            ranked = rk;
            parts = chosen.0;
            parts_len = chosen.1;
            parts_are = chosen.2;
            is_glued = refl;
          },
        ))
  ]

answer_step : (d : ℕ) → ShapesHaveAnswers d → ShapesHaveAnswers (suc d)
answer_step d ih S biases vS = elim (order_answer (outer_bias biases) (heights_of d S) (shapes_have_heights d S vS)) [
  | inr e ↦ inr (record { ranks = []; cause = order e.0 }, in_order e.0 e.1)
  | inl r ↦ ranked_answer d ih S biases vS r.0 r.1
]

pub shapes_have_answers : (d : ℕ) → ShapesHaveAnswers d
shapes_have_answers zero = label_answer
shapes_have_answers (suc d) = answer_step d (shapes_have_answers d)
