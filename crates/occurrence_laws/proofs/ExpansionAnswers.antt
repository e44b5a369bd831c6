-- What an expansion answers.
use Rattle.std.proofs.Common.{◌≡◌, ℕ, zero, suc, ◌<◌, Bool, true, false, nat_lt, length, refl, ap, ◌∙◌, subst}
use Rattle.std.specs.Prelude.{Result, Ok, Err}
use Rattle.std.proofs.lemmas.Bool.{ltb-true, lt-ltb}
use Rattle.diagram_terms.specs.Family.{Dia, sing}
use Rattle.diagram_terms.specs.Good.{GoodArrow}
use Rattle.diagram_terms.specs.Tested.{if_passed}
use Rattle.diagram_terms.specs.Expansion.{expanded, expanding, Expansion, ExpansionFault, no_height, nothing_to_part, expand}
use Rattle.plain_laws.proofs.PlainEnds.{plain_arrows_have_parallel_ends}
use Rattle.occurrence_laws.specs.Laws.{ExpansionsAreGood, ExpansionsHaveOneBoundary, StoredExpansionsAreGood, ExpansionsAreAnswered}
use Rattle.occurrence_laws.proofs.Expansions.{good_expanding}
use Rattle.occurrence_laws.proofs.Merges.{good_stored_back}

-- what a test lets pass
passed : {X E : Type 0} (f : E) (b : Bool) (r : Result X E) (c : X) → if_passed f b r ≡ Ok c → (b ≡ true) × (r ≡ Ok c)
passed f true r c e = (refl, e)
passed f false r c e = absurd (cc)

passes : {X E : Type 0} (f : E) (m n : ℕ) (r : Result X E) → m < n → if_passed f (nat_lt m n) r ≡ r
passes f m n r l = ap (λ (b : Bool). if_passed f b r) (lt-ltb m n l)

module _ (d : ℕ) (D : Dia (suc (suc d))) (k i : ℕ) where
  abbrev inner : ℕ
  inner = length (sing (suc d) D k).sings

  abbrev last : Result (Expansion (suc (suc d))) ExpansionFault
  last = Ok (record { result = expanded d D k i; arrow = expanding d D k i })

  abbrev third : Result (Expansion (suc (suc d))) ExpansionFault
  third = if_passed nothing_to_part (nat_lt 1 inner) last

  abbrev second : Result (Expansion (suc (suc d))) ExpansionFault
  second = if_passed (no_height 1) (nat_lt i inner) third

  answered : (c : Expansion (suc (suc d))) → expand (suc (suc d)) D k i ≡ Ok c
      → ((k < length D.sings) × (i < inner) × (1 < inner)) × (last ≡ Ok c)
  unfolding expand
  answered c e =
      let p = passed (no_height 0) (nat_lt k (length D.sings)) second c e in
      let q = passed (no_height 1) (nat_lt i inner) third c p.1 in
      let r = passed nothing_to_part (nat_lt 1 inner) last c q.1 in
      ((ltb-true k (length D.sings) p.0, ltb-true i inner q.0, ltb-true 1 inner r.0), r.1)

  pub answers : (k < length D.sings) × (i < inner) × (1 < inner) → expand (suc (suc d)) D k i ≡ last
  unfolding expand
  answers l =
      passes (no_height 0) k (length D.sings) second l.0
      ∙ passes (no_height 1) i inner third l.1
      ∙ passes nothing_to_part 1 inner last l.2

pub expansions_are_answered : (d : ℕ) → ExpansionsAreAnswered d
expansions_are_answered d D k i =
    (λ e. (answered d D k i (record { result = expanded d D k i; arrow = expanding d D k i }) e).0, λ l. answers d D k i l)

pub expansions_are_good : (d : ℕ) → ExpansionsAreGood d
unfolding expand
expansions_are_good zero D k i c g e = absurd (cc)
expansions_are_good (suc zero) D k i c g e =
    absurd (let p = passed (no_height 0) (nat_lt k (length D.sings)) (Err (no_height 1)) c e in let q = p.1 in cc)
expansions_are_good (suc (suc d)) D k i c g e =
    let a = answered d D k i c e in
    let l = a.0 in
    let same : record { result = expanded d D k i; arrow = expanding d D k i } ≡ c = (let f = a.1 in cc) in
    subst (λ (c : Expansion (suc (suc d))). GoodArrow (suc (suc d)) c.result D c.arrow) same (good_expanding d D k i g l.0 l.1)

pub expansions_have_one_boundary : (d : ℕ) → ExpansionsHaveOneBoundary d
unfolding expand
expansions_have_one_boundary zero D k i c g e = absurd (cc)
expansions_have_one_boundary (suc d) D k i c g e =
    let f = expansions_are_good (suc d) D k i c g e in
    plain_arrows_have_parallel_ends d c.result D c.arrow f.source.valid f.target.valid f.valid f.plain

pub stored_expansions_are_good : (d : ℕ) → StoredExpansionsAreGood d
stored_expansions_are_good d D k i c g e = good_stored_back d c.result D c.arrow (expansions_are_good d D k i c g e)
