-- Settling ends where no height is open, with as many heights less as there are steps.
use Rattle.std.proofs.Common.{◌≡◌, ℕ, zero, suc, ◌+◌, ◌-◌, ◌<◌, ◌≤◌, Bool, List, [], ◌∷◌, length, get_or, take, drop, refl, sym, ap, ap₂, ◌∙◌, subst, arith, inl, inr}
use Rattle.std.specs.Prelude.{Option, Some, None, Result, Ok, Err}
use Rattle.std.specs.List.{slice_range}
use Rattle.std.proofs.lemmas.Bool.{cases_Bool, cases_lt, cond-true, cond-false}
use Rattle.diagram_terms.specs.Family.{Dia, reg}
use Rattle.diagram_terms.specs.Composite.{ident}
use Rattle.diagram_terms.specs.Cone.{source, target}
use Rattle.diagram_terms.specs.Valid.{Valid}
use Rattle.diagram_terms.specs.Plain.{Plain}
use Rattle.plain_laws.proofs.Cospans.{below_one}
use Rattle.diagram_terms.specs.Good.{GoodDiagram, GoodArrow}
use Rattle.diagram_terms.specs.Segments.{segment, diagram_sum}
use Rattle.occurrence_laws.proofs.SumParts.{good_sum}
use Rattle.diagram_terms.specs.Contraction.{Contraction, ContractionFault, contract, stored_contraction}
use Rattle.diagram_terms.specs.Settling.{Step, settled, all_steps, IsSettled, Settles, if_accepted, open_at, or_later, first_open, and_then, steps_of, settle}
use Rattle.diagram_terms.specs.Settling.{OpensTo, IsLeastStep}
use Rattle.contraction_laws.proofs.TwoHeights.{good_contraction, good_stored_contraction}
use Rattle.contraction_laws.proofs.ContractionProofs.{answers_contractions, contraction_answered}
use Rattle.contraction_laws.proofs.ContractionLists.{contraction-shorter}

-- ---- the diagram that holds the steps

-- it is the diagram stored for the first step, and then that of the others
pub steps-sum : (d : ℕ) (C : Dia d) (s : Step d) (steps : List (Step d))
    → all_steps d C (s ∷ steps) ≡ diagram_sum d (stored_contraction d C s.contraction) (all_steps d s.contraction.result steps)
unfolding diagram_sum
steps-sum d C s steps = refl

-- that of no steps is the identity diagram
pub none-good : (d : ℕ) (C : Dia d) → GoodDiagram d C → GoodDiagram (suc d) (all_steps d C [])
none-good d C g = record {
  valid = record {
    regs_len = refl;
    fwds_len = refl;
    bwds_len = refl;
    regs = λ j l. below_one (λ j. Valid d (reg d (all_steps d C []) j)) g.valid j (omega arith);
    sings = λ i l. absurd (omega arith);
    fwds = λ k l. absurd (omega arith);
    bwds = λ k l. absurd (omega arith);
  };
  plain = record {
    regs = below_one (λ j. Plain d (reg d (all_steps d C []) j)) g.plain;
    sings = λ i l. absurd (omega arith);
    fwds = λ k l. absurd (omega arith);
    bwds = λ k l. absurd (omega arith);
  };
}

module _ (d : ℕ) (accept : Dia (suc (suc d)) → Bool) where
  -- a step from a valid plain diagram is a valid plain arrow
  good_step : (C : Dia (suc d)) (s : Step (suc d)) → GoodDiagram (suc d) C → IsLeastStep d accept C s
      → GoodArrow (suc d) C s.contraction.result s.contraction.arrow
  good_step C s gC l = good_contraction (suc d) C [] s.height [] s.contraction.result s.contraction.arrow gC l.opens.contracts

  pub good_settled : (C : Dia (suc d)) (steps : List (Step (suc d))) → GoodDiagram (suc d) C → Settles d accept C steps
      → GoodDiagram (suc d) (settled (suc d) C steps)
  good_settled C [] gC t = gC
  good_settled C (s ∷ steps) gC t = good_settled s.contraction.result steps (good_step C s gC t.0).target t.1

  pub good_steps : (C : Dia (suc d)) (steps : List (Step (suc d))) → GoodDiagram (suc d) C → Settles d accept C steps
      → GoodDiagram (suc (suc d)) (all_steps (suc d) C steps)
  good_steps C [] gC t = none-good (suc d) C gC
  good_steps C (s ∷ steps) gC t =
      let f = good_step C s gC t.0 in
      subst (GoodDiagram (suc (suc d))) (sym (steps-sum (suc d) C s steps))
      (good_sum (suc d) (stored_contraction (suc d) C s.contraction) (all_steps (suc d) s.contraction.result steps)
      (good_stored_contraction (suc d) C [] s.height [] s.contraction.result s.contraction.arrow gC t.0.opens.contracts)
      (good_steps s.contraction.result steps f.target t.1) refl)

  pub settled_closed : (C : Dia (suc d)) (steps : List (Step (suc d))) → Settles d accept C steps → IsSettled d accept (settled (suc d) C steps)
  settled_closed C [] t = t
  settled_closed C (s ∷ steps) t = settled_closed s.contraction.result steps t.1

  pub settled-length : (C : Dia (suc d)) (steps : List (Step (suc d))) → GoodDiagram (suc d) C → Settles d accept C steps
      → length (settled (suc d) C steps).sings + length steps ≡ length C.sings
  settled-length C [] gC t = omega arith
  settled-length C (s ∷ steps) gC t =
      let f = good_step C s gC t.0 in
      let e = contraction-shorter d C s.height [] s.contraction.result s.contraction.arrow gC t.0.opens.contracts in
      let ih = settled-length s.contraction.result steps f.target t.1 in
      omega arith

  -- ---- what is open

  module _ (C : Dia (suc d)) (gC : GoodDiagram (suc d) C) where
    pub opens-found : (k : ℕ) (c : Contraction (suc d)) → OpensTo d accept C k c → open_at d accept C k ≡ Some c
    unfolding open_at
    opens-found k c o =
        ap (if_accepted d accept C) (answers_contractions 0 (suc d) C [] k [] c.result c.arrow gC o.contracts)
        ∙ cond-true (accept (stored_contraction (suc d) C c)) (Some c) None o.accepted

    by_contraction : (k : ℕ) (c : Contraction (suc d)) (r : Result (Contraction (suc d)) ContractionFault) → contract (suc d) C [] k [] ≡ r
        → if_accepted d accept C r ≡ Some c → OpensTo d accept C k c
    by_contraction k c (Err e) h i = absurd (cc)
    by_contraction k c (Ok b) h i = elim (cases_Bool (accept (stored_contraction (suc d) C b))) [
      | inr e ↦ absurd (let n = sym (cond-false (accept (stored_contraction (suc d) C b)) (Some b) None e) ∙ i in cc)
      | inl e ↦ (
          let same = sym (cond-true (accept (stored_contraction (suc d) C b)) (Some b) None e) ∙ i in
          let t : b ≡ c = cc in
          subst (OpensTo d accept C k) t (record { contracts = contraction_answered 0 (suc d) C [] k [] gC b h; accepted = e }))
    ]

    pub found-opens : (k : ℕ) (c : Contraction (suc d)) → open_at d accept C k ≡ Some c → OpensTo d accept C k c
    unfolding open_at
    found-opens k c e = by_contraction k c (contract (suc d) C [] k []) refl e

    -- an open height is one of C, and opens to one contraction
    open-within : (k : ℕ) (c : Contraction (suc d)) → OpensTo d accept C k c → k < length C.sings
    open-within k c o = let l = o.contracts.fits in omega arith

    one_opening : (k : ℕ) (b c : Contraction (suc d)) → OpensTo d accept C k b → OpensTo d accept C k c → b ≡ c
    one_opening k b c o p = let same = sym (opens-found k b o) ∙ opens-found k c p in cc

    -- ---- the first open height

    -- what is found among the n heights from k on: the first open one, or none
    abbrev IsFound : ℕ → ℕ → Option (Step (suc d)) → Type 0
    IsFound k n None = (j : ℕ) (c : Contraction (suc d)) → k ≤ j → j < k + n → OpensTo d accept C j c → ⊥
    IsFound k n (Some s) = (k ≤ s.height) × (OpensTo d accept C s.height s.contraction
        × ((j : ℕ) (c : Contraction (suc d)) → k ≤ j → j < s.height → OpensTo d accept C j c → ⊥))

    -- nothing is open at k
    closed_at : (k : ℕ) → open_at d accept C k ≡ None → (j : ℕ) (c : Contraction (suc d)) → j ≡ k → OpensTo d accept C j c → ⊥
    closed_at k e j c same o =
        let f = opens-found j c o in
        let g = ap (open_at d accept C) same in
        let h : Some c ≡ None = sym f ∙ g ∙ e in
        cc

    found_step : (k n : ℕ) (o : Option (Contraction (suc d))) (later : Option (Step (suc d))) → open_at d accept C k ≡ o
        → IsFound (suc k) n later → IsFound k (suc n) (or_later d accept k o later)
    found_step k n (Some c) later e h = (omega arith, (found-opens k c e, λ j b l m o. omega arith))
    found_step k n None None e h = λ j c l m o. elim (cases_lt k j) [
      | inl u ↦ h j c (omega arith) (omega arith) o
      | inr u ↦ closed_at k e j c (omega arith) o
    ]
    found_step k n None (Some s) e h =
        let low = h.0 in (
          omega arith,
          (
            h.1.0,
            λ j c l m o. elim (cases_lt k j) [
              | inl u ↦ h.1.1 j c (omega arith) m o
              | inr u ↦ closed_at k e j c (omega arith) o
            ],
          ),
        )

    found : (k n : ℕ) → IsFound k n (first_open d accept C k n)
    unfolding first_open
    found k zero = λ j c l m o. omega arith
    found k (suc n) = found_step k n (open_at d accept C k) (first_open d accept C (suc k) n) refl (found (suc k) n)

    -- ---- one step

    one_least : (s t : Step (suc d)) → IsLeastStep d accept C s → IsLeastStep d accept C t → s ≡ t
    one_least s t l m =
        let height : s.height ≡ t.height = elim (cases_lt s.height t.height) [
          | inl u ↦ absurd (m.least s.height s.contraction u l.opens)
          | inr u ↦ elim (cases_lt t.height s.height) [
            | inl v ↦ absurd (l.least t.height t.contraction v m.opens)
            | inr v ↦ omega arith
          ]
        ] in
        let contraction : s.contraction ≡ t.contraction =
        one_opening t.height s.contraction t.contraction (subst (λ (k : ℕ). OpensTo d accept C k s.contraction) height l.opens) m.opens in
        λ i. record { height = height i; contraction = contraction i }

  -- ---- all steps

  -- there is at most one settling
  pub one_settling : (C : Dia (suc d)) (ss ts : List (Step (suc d))) → GoodDiagram (suc d) C → Settles d accept C ss → Settles d accept C ts → ss ≡ ts
  one_settling C [] [] gC a b = refl
  one_settling C [] (t ∷ ts) gC a b = absurd (a t.height t.contraction b.0.opens)
  one_settling C (s ∷ ss) [] gC a b = absurd (b s.height s.contraction a.0.opens)
  one_settling C (s ∷ ss) (t ∷ ts) gC a b =
      let e : s ≡ t = one_least C gC s t a.0 b.0 in
      let at_t : Settles d accept t.contraction.result ss = subst (λ (u : Step (suc d)). Settles d accept u.contraction.result ss) e a.1 in
      ap₂ ◌∷◌ e (one_settling t.contraction.result ss ts (good_step C t gC b.0).target at_t b.1)

  -- the steps of the program settle
  abbrev AllSettle : ℕ → Type 0
  AllSettle n = (C : Dia (suc d)) → GoodDiagram (suc d) C → length C.sings ≤ n → Settles d accept C (steps_of d accept n C)

  steps_step : (n : ℕ) → AllSettle n → (C : Dia (suc d)) (gC : GoodDiagram (suc d) C) → length C.sings ≤ suc n
      → (o : Option (Step (suc d))) → IsFound C gC 0 (length C.sings) o
      → Settles d accept C (and_then d accept o (λ s. steps_of d accept n s.contraction.result))
  steps_step n ih C gC l None h = λ k c o. h k c (omega arith) (let w = open-within C gC k c o in omega arith) o
  steps_step n ih C gC l (Some s) h =
      let least : IsLeastStep d accept C s = record { opens = h.1.0; least = λ k c m o. h.1.1 k c (omega arith) m o } in
      let f = good_step C s gC least in
      let e = contraction-shorter d C s.height [] s.contraction.result s.contraction.arrow gC h.1.0.contracts in
      (least, ih s.contraction.result f.target (omega arith))

  steps_settle : (n : ℕ) → AllSettle n
  unfolding steps_of
  steps_settle zero C gC l = λ k c o. let w = open-within C gC k c o in omega arith
  steps_settle (suc n) C gC l = steps_step n (steps_settle n) C gC l (first_open d accept C 0 (length C.sings)) (found C gC 0 (length C.sings))

  pub settle-settles : (C : Dia (suc d)) → GoodDiagram (suc d) C → Settles d accept C (settle d accept C)
  unfolding settle
  settle-settles C gC = steps_settle (length C.sings) C gC (omega arith)

-- ---- the ends of the diagram that holds the steps

steps-target : (d : ℕ) (C : Dia d) (steps : List (Step d)) → target d (all_steps d C steps) ≡ settled d C steps
steps-target d C [] = refl
steps-target d C (s ∷ steps) = steps-target d s.contraction.result steps

pub steps-ends : (d : ℕ) (C : Dia d) (steps : List (Step d))
    → (source d (all_steps d C steps) ≡ C) × (target d (all_steps d C steps) ≡ settled d C steps)
steps-ends d C steps = (refl, steps-target d C steps)

-- ---- its segments

slice_range-cons : {A : Type 0} (x : A) (xs : List A) (a b : ℕ) → slice_range (x ∷ xs) (suc a) (suc b) ≡ slice_range xs a b
slice_range-cons x xs a b = let e : suc b - suc a ≡ b - a = omega arith in ap (λ (n : ℕ). take n (drop a xs)) e

segment-cons : (d : ℕ) (C : Dia d) (s : Step d) (steps : List (Step d)) (a b : ℕ)
    → segment d (all_steps d C (s ∷ steps)) (suc a) (suc b) ≡ segment d (all_steps d s.contraction.result steps) a b
unfolding segment
segment-cons d C s steps a b =
    let X : Dia d = s.contraction.result in
    let D : Dia (suc d) = all_steps d X steps in
    let r = slice_range-cons C D.regs a (suc b) in
    let x = slice_range-cons X D.sings a b in
    let f = slice_range-cons s.contraction.arrow D.fwds a b in
    let h = slice_range-cons (ident d X) D.bwds a b in
    λ i. record { regs = r i; sings = x i; fwds = f i; bwds = h i }

pub steps-segment : (d : ℕ) (C : Dia d) (steps : List (Step d)) (i : ℕ) (s : Step d) → i < length steps → get_or steps i s ≡ s
    → segment d (all_steps d C steps) i (suc i) ≡ stored_contraction d (settled d C (take i steps)) s.contraction
unfolding segment
steps-segment d C [] i s l e = absurd (omega arith)
steps-segment d C (t ∷ steps) zero s l e = ap (λ (u : Step d). stored_contraction d C u.contraction) e
steps-segment d C (t ∷ steps) (suc i) s l e =
    segment-cons d C t steps i (suc i) ∙ steps-segment d t.contraction.result steps i s (omega arith) e
