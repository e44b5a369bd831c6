-- Colimits in dimension 0: joins of labels.
use Rattle.std.proofs.Common.{◌≡◌, ℕ, zero, ◌<◌, ◌≤◌, List, [], ◌∷◌, ◌++◌, length, get_or, map, refl, sym, ap, ap₂, ◌∙◌, subst, append_assoc, arith, inl, inr}
use Rattle.std.specs.List.{All, Contains}
use Rattle.std.proofs.lemmas.List.{get_or-map, length-map}
use Rattle.std.proofs.lemmas.List.Elements.{All-head, All-tail, All-contains, Contains-append_right}
use Rattle.diagram_terms.specs.declared.label.Label.{Label}
use Rattle.diagram_terms.specs.Labels.{IsAtMost, IsJoin, IsFirstClash}
use Rattle.diagram_terms.specs.Family.{Ends, no_dia, no_arr}
use Rattle.diagram_terms.specs.Composite.{comp}
use Rattle.diagram_terms.proofs.Parts.{comp-from, comp-to, same_ends}
use Rattle.map_laws.proofs.LabelOrder.{at_most_antisym}
use Rattle.diagram_terms.specs.Shapes.{Shape, IsShape, object}
use Rattle.diagram_terms.specs.Cocones.{Cocone, leg, IsPlainCocone}
use Rattle.diagram_terms.specs.Colimits.{IsLabelColimit}
use Rattle.diagram_terms.specs.ColimitRefusals.{IsLabelRefusal, Refusal, clash}
use Rattle.colimit_laws.proofs.Membership.{contains_head, contains_tail}

-- ---- the cocone

module _ (S : Shape zero) (c : Cocone zero) (k : IsLabelColimit S c) where
  pub label_leg : (x : ℕ) → x < length S.objects → leg zero c x ≡ record { from = object zero S x; to = c.apex }
  label_leg x l =
      ap (λ (ls : List Ends). get_or ls x (no_arr zero)) k.legs
      ∙ get_or-map (λ (x : Label). record { from = x; to = c.apex }) S.objects x (no_dia zero) (no_arr zero) l

  pub below_join : (x : ℕ) → x < length S.objects → IsAtMost (object zero S x) c.apex
  below_join x l = k.join.above x (no_dia zero) l

  pub label-cocone : IsShape zero S → IsPlainCocone zero S c
  label-cocone vS = record {
    cocone = record {
      legs_len = ap length k.legs ∙ length-map S.objects _;
      apex = tt;
      legs = λ x l. rw (label_leg x l) (record { from = refl; to = refl; order = below_join x l });
      agree = λ g m.
          let v = vS.arrows g m in
          let e = label_leg g.from v.from_within in
          let f = label_leg g.to v.to_within in
          same_ends (comp zero (leg zero c g.to) g.arrow) (leg zero c g.from)
          (comp-from (leg zero c g.to) g.arrow ∙ v.valid.from ∙ sym (ap (λ (t : Ends). t.from) e))
          (comp-to (leg zero c g.to) g.arrow ∙ ap (λ (t : Ends). t.to) f ∙ sym (ap (λ (t : Ends). t.to) e));
    };
    plain = tt;
    plain_legs = λ x l. tt;
  }

-- ---- one join

one_join : (labels : List Label) (x y : Label) → IsJoin labels x → IsJoin labels y → x ≡ y
one_join labels x y j k = at_most_antisym x y (All-contains (λ z. IsAtMost z y) labels x k.above j.among) (All-contains (λ z. IsAtMost z x) labels y j.above k.among)

pub one_label_colimit : (S : Shape zero) (b c : Cocone zero) → IsLabelColimit S b → IsLabelColimit S c → b ≡ c
one_label_colimit S b c j k =
    let e : b.apex ≡ c.apex = one_join S.objects b.apex c.apex j.join k.join in
    let l : b.legs ≡ c.legs = j.legs ∙ ap (λ (a : Label). map (λ (x : Label). record { from = x; to = a }) S.objects) e ∙ sym k.legs in
    λ i. record { apex = e i; legs = l i }

-- ---- one clash

-- where two lists part: what stands first, of which Q does not hold, with Q before it, and what follows
first_without : (Q : Label → Type 0) (xs ys : List Label) (x y : Label) (us vs : List Label) → xs ++ x ∷ us ≡ ys ++ y ∷ vs
    → All Q xs → All Q ys → (Q x → ⊥) → (Q y → ⊥) → (x ≡ y) × (us ≡ vs)
first_without Q [] [] x y us vs e a b p q = (let f : x ∷ us ≡ y ∷ vs = e in cc, let f : x ∷ us ≡ y ∷ vs = e in cc)
first_without Q [] (z ∷ ys) x y us vs e a b p q =
    let f : x ∷ us ≡ z ∷ (ys ++ y ∷ vs) = e in
    let same : x ≡ z = cc in
    absurd (p (subst Q (sym same) (All-head Q z ys b)))
first_without Q (z ∷ xs) [] x y us vs e a b p q =
    let f : z ∷ (xs ++ x ∷ us) ≡ y ∷ vs = e in
    let same : z ≡ y = cc in
    absurd (q (subst Q same (All-head Q z xs a)))
first_without Q (w ∷ xs) (z ∷ ys) x y us vs e a b p q =
    let f : w ∷ (xs ++ x ∷ us) ≡ z ∷ (ys ++ y ∷ vs) = e in
    first_without Q xs ys x y us vs (cc) (All-tail Q w xs a) (All-tail Q z ys b) p q

module _ (labels : List Label) where
  -- one stands behind the labels before it, and other behind those between
  parted : (one other : Label) (c : IsFirstClash labels one other) → labels ≡ c.before ++ (one ∷ (c.between ++ (other ∷ c.after)))
  parted one other c = c.places ∙ append_assoc c.before (one ∷ c.between) (other ∷ c.after)

  clash-one : (one other : Label) → IsFirstClash labels one other → Contains labels one
  clash-one one other c =
      let rest : List Label = c.between ++ (other ∷ c.after) in
      subst (λ (ls : List Label). Contains ls one) (sym (parted one other c)) (Contains-append_right c.before (one ∷ rest) one (contains_head one rest))

  clash-other : (one other : Label) → IsFirstClash labels one other → Contains labels other
  clash-other one other c =
      let rest : List Label = c.between ++ (other ∷ c.after) in
      subst (λ (ls : List Label). Contains ls other) (sym (parted one other c)) (Contains-append_right c.before (one ∷ rest) other
      (contains_tail one other rest (Contains-append_right c.between (other ∷ c.after) other (contains_head other c.after))))

  not_below : (one other : Label) → IsFirstClash labels one other → IsAtMost other one → ⊥
  not_below one other c a = let s = c.same_dimension in let n = c.different in elim a [
    | inl e ↦ n e
    | inr l ↦ (omega arith)
  ]

  one_clash : (one other two another : Label) → IsFirstClash labels one other → IsFirstClash labels two another → (one ≡ two) × (other ≡ another)
  one_clash one other two another c e =
      let m : one.dim ≤ two.dim = All-contains (λ y. y.dim ≤ two.dim) labels one e.greatest (clash-one one other c) in
      let n : two.dim ≤ one.dim = All-contains (λ y. y.dim ≤ one.dim) labels two c.greatest (clash-one two another e) in
      let dims : two.dim ≡ one.dim = omega arith in
      let f = first_without (λ y. y.dim < one.dim) c.before e.before one two (c.between ++ (other ∷ c.after)) (e.between ++ (another ∷ e.after))
      (sym (parted one other c) ∙ parted two another e) c.first
      (subst (λ (n : ℕ). All (λ y. y.dim < n) e.before) dims e.first) (λ l. omega arith) (λ l. omega arith) in
      let same : one ≡ two = f.0 in
      let g = first_without (λ y. IsAtMost y one) c.between e.between other another c.after e.after f.1 c.next
      (subst (λ (x : Label). All (λ y. IsAtMost y x) e.between) (sym same) e.next) (not_below one other c)
      (λ a. not_below two another e (subst (λ (x : Label). IsAtMost another x) same a)) in
      (same, g.0)

pub one_label_refusal : (S : Shape zero) (e f : Refusal) → IsLabelRefusal S e → IsLabelRefusal S f → e ≡ f
one_label_refusal S e f j k =
    let s = one_clash S.objects j.one j.other k.one k.other j.clashes k.clashes in
    j.is_refusal ∙ ap₂ (λ (x y : Label). record { ranks = []; cause = clash x y }) s.0 s.1 ∙ sym k.is_refusal

pub no_label_refusal : (S : Shape zero) (c : Cocone zero) (f : Refusal) → IsLabelColimit S c → IsLabelRefusal S f → ⊥
no_label_refusal S c f k j =
    let x : Label = c.apex in
    let a : IsAtMost j.one x = All-contains (λ y. IsAtMost y x) S.objects j.one k.join.above (clash-one S.objects j.one j.other j.clashes) in
    let b : IsAtMost j.other x = All-contains (λ y. IsAtMost y x) S.objects j.other k.join.above (clash-other S.objects j.one j.other j.clashes) in
    let m : x.dim ≤ j.one.dim = All-contains (λ y. y.dim ≤ j.one.dim) S.objects x j.clashes.greatest k.join.among in
    let s = j.clashes.same_dimension in
    elim a [
      | inr l ↦ (omega arith)
      | inl e ↦ not_below S.objects j.one j.other j.clashes (subst (λ (t : Label). IsAtMost j.other t) (sym e) b)
    ]
