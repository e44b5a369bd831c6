-- The class that takes the next rank: among the available ones, that with the least key.
use Rattle.std.proofs.Common.{◌≡◌, ℕ, ◌<◌, ◌≤◌, sym, ap, ◌∙◌, arith, inl, inr}
use Rattle.std.specs.Prelude.{◌⊎◌}
use Rattle.std.specs.List.{Contains}
use Rattle.std.proofs.lemmas.Bool.{cases_lt}
use Rattle.diagram_terms.specs.declared.place.Bias.{Bias}
use Rattle.diagram_terms.specs.declared.place.Bias.TheVariants.{Unbiased, Earlier, Later}
use Rattle.diagram_terms.specs.HeightClasses.{HeightShape, Member, IsMember, IsBefore, IsHeightShape, AreJoined, Reaches}
use Rattle.diagram_terms.specs.OrderFaults.{IsAcyclic}
use Rattle.diagram_terms.specs.Ranks.{key, HasLesserKey}
use Rattle.colimit_laws.proofs.Order.{before-irrefl, before-trans, same_member, joined-sym}
use Rattle.colimit_laws.proofs.Finite.{Decided, decide_both, decide_not, decide_number, decide_less, IsLeastWhere, least_where, some_where}
use Rattle.colimit_laws.proofs.DecidedClasses.{decide_before, members, in_members, from_members, decide_reach, reach-source, reach-to, reaches-trans}

-- keys tell members apart
pub same_key : (b : Bias) (H : HeightShape) (p q : Member) → IsMember H p → IsMember H q → key b H p ≡ key b H q → p ≡ q
same_key Unbiased H p q mp mq e = e
same_key Earlier H p q mp mq e = e
same_key Later H p q mp mq e =
    let o = ap (λ (m : Member). m.object) e in
    let h = ap (λ (m : Member). m.height) e in
    let lp = mp.object in
    let lq = mq.object in
    same_member p q (omega arith) h

module _ (b : Bias) (H : HeightShape) (vH : IsHeightShape H) where
  -- the first k ranks are given: f is the rank of a member that has one, and k for each other member
  pub record AreGiven (f : Member → ℕ) (k : ℕ) : Type 0 where
    pub joined : (p q : Member) → IsMember H p → IsMember H q → AreJoined H p q → f p ≡ f q
    pub one_class : (p q : Member) → IsMember H p → IsMember H q → f p ≡ f q → f p < k → AreJoined H p q
    pub within : (p : Member) → IsMember H p → f p ≤ k
    pub onto : (j : ℕ) → j < k → (p : Member) × IsMember H p × (f p ≡ j)
    pub available : (p q : Member) → IsMember H p → IsMember H q → Reaches H p q → f q < k → f p < f q
    pub chosen : (p q : Member) → IsMember H p → IsMember H q → f p < f q → ((t : Member) → IsMember H t → Reaches H t q → f t < f p) → HasLesserKey b H p q

  -- ---- the next class

  module _ (f : Member → ℕ) (k : ℕ) (given : AreGiven f k) where
    -- p has no rank, and all classes that reach it have one
    pub record IsAvailable (p : Member) : Type 0 where
      pub unranked : f p ≡ k
      pub reached : (t : Member) → IsMember H t → Reaches H t p → f t < k

    decide_available : (p : Member) → Decided (IsAvailable p)
    decide_available p = elim (decide_number (f p) k) [
      | inr n ↦ inr (λ a. n a.unranked)
      | inl e ↦ elim (some_where (λ t. Reaches H t p × (f t < k → ⊥)) (λ t. decide_both (decide_reach H vH t p) (decide_not (decide_less (f t) k))) (members H)) [
        | inl s ↦ inr (λ a. s.2.1 (a.reached s.0 (from_members H s.0 s.1) s.2.0))
        | inr none ↦ inl (record {
          unranked = e;
          reached = λ t m r. elim (cases_lt (f t) k) [
            | inl l ↦ l
            | inr l ↦ absurd (none t (in_members H t m) (r, λ h. omega arith))
          ];
        })
      ]
    ]

    -- a member without a rank that no other such member reaches
    some_least : IsAcyclic H → ((q : Member) × IsLeastWhere (Reaches H) (λ q. f q ≡ k) (members H) q)
        ⊎ ((q : Member) → Contains (members H) q → f q ≡ k → ⊥)
    some_least acyclic = least_where (Reaches H) (λ q. f q ≡ k) (λ q r. acyclic q (reach-source H vH q q r) r) (reaches-trans H)
        (decide_reach H vH) (λ q. decide_number (f q) k) (members H)

    pub below_unless : (p : Member) → IsMember H p → (f p ≡ k → ⊥) → f p < k
    below_unless p m n = elim (cases_lt (f p) k) [
      | inl l ↦ l
      | inr l ↦ absurd (let w = given.within p m in n (omega arith))
    ]

    -- if no member is available, each has a rank
    pub all_ranked : IsAcyclic H → ((p : Member) → IsMember H p → IsAvailable p → ⊥) → (p : Member) → IsMember H p → f p < k
    all_ranked acyclic none p m = elim (some_least acyclic) [
      | inr all ↦ below_unless p m (all p (in_members H p m))
      | inl s ↦ absurd (
          let l = s.1 in
          none s.0 (from_members H s.0 l.among) (record {
            unranked = l.holds;
            reached = λ t mt r. below_unless t mt (λ e. l.least t (in_members H t mt) e r);
          }))
    ]

    -- a whole class is available
    pub available-joined : (q t : Member) → IsMember H q → IsMember H t → AreJoined H q t → IsAvailable q → IsAvailable t
    available-joined q t mq mt j a = record {
      unranked = sym (given.joined q t mq mt j) ∙ a.unranked;
      reached = λ u mu r. a.reached u mu (reach-to H u t q (joined-sym H q t j) r);
    }

    -- an available member with the least key
    abbrev pub IsBest : Member → Type 0
    IsBest p = IsLeastWhere (λ s t. IsBefore (key b H s) (key b H t)) IsAvailable (members H) p

    pub best : ((p : Member) × IsBest p) ⊎ ((p : Member) → Contains (members H) p → IsAvailable p → ⊥)
    best = least_where (λ s t. IsBefore (key b H s) (key b H t)) IsAvailable (λ q. before-irrefl (key b H q))
        (λ s t u. before-trans (key b H s) (key b H t) (key b H u)) (λ s t. decide_before (key b H s) (key b H t)) decide_available (members H)
