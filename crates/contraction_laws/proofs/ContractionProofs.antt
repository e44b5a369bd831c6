-- The program for contraction answers as the rule says.
use Rattle.std.proofs.Common.{◌≡◌, ℕ, zero, suc, ◌<◌, Bool, nat_lt, List, [], ◌∷◌, length, refl, sym, ap, ap₂, ◌∙◌, subst, inl, inr}
use Rattle.std.specs.Prelude.{◌⊎◌, Result, Ok, Err}
use Rattle.diagram_terms.specs.declared.place.Bias.{Bias}
use Rattle.diagram_terms.specs.Family.{Dia, Arr, sing}
use Rattle.diagram_terms.specs.Good.{GoodDiagram}
use Rattle.diagram_terms.specs.Merging.{slice_replaced, slice_replacing, merged, merging}
use Rattle.occurrence_laws.proofs.GoodParts.{good_sing}
use Rattle.diagram_terms.specs.Cocones.{Cocone, leg}
use Rattle.diagram_terms.specs.ColimitRefusals.{Refusal}
use Rattle.colimit_laws.proofs.Finite.{decide_less}
use Rattle.diagram_terms.specs.ColimitProgram.{colimit_of}
use Rattle.diagram_terms.specs.Tested.{if_passed}
use Rattle.diagram_terms.specs.Contraction.{two_heights, ContractsAlong, ContractionFault, no_height, refused, outside, inside, no_slice, in_slice, RefusesAlong, Contraction, by_colimit, by_slice, contract_from}
use Rattle.colimit_laws.proofs.Tests.{tells_less, fails_where}
use Rattle.colimit_laws.proofs.ColimitProofs.{answers_colimits, answers_refusals, colimit_answered, refusal_answered}
use Rattle.contraction_laws.proofs.TwoHeights.{two_heights-shape}

abbrev pub contraction : (d : ℕ) → Dia d → Arr d → Contraction d
contraction d X f = record { result = X; arrow = f }

there : {X : Type 0} (n i m : ℕ) (r : Result X ContractionFault) → i < m → if_passed (no_height n) (nat_lt i m) r ≡ r
there n i m r l = ap (λ (b : Bool). if_passed (no_height n) b r) ((tells_less i m).no l)

not_there : {X : Type 0} (n i m : ℕ) (r : Result X ContractionFault) → (i < m → ⊥) → if_passed (no_height n) (nat_lt i m) r ≡ Err (no_height n)
not_there n i m r l = ap (λ (b : Bool). if_passed (no_height n) b r) (fails_where (tells_less i m) l)

pub answers_contractions : (n d : ℕ) (C : Dia d) (path : List ℕ) (k : ℕ) (biases : List Bias) (X : Dia d) (f : Arr d) → GoodDiagram d C
    → ContractsAlong d C path k biases X f → contract_from n d C path k biases ≡ Ok (contraction d X f)
unfolding contract_from
answers_contractions n zero C path k biases X f gC t = absurd t
answers_contractions n (suc d) C [] k biases X f gC t =
    there n (suc k) (length C.sings) (by_colimit d C k (colimit_of d (two_heights d C k) biases)) t.fits
    ∙ ap (by_colimit d C k) (answers_colimits d (two_heights d C k) biases t.colimit (two_heights-shape d C k gC t.fits) t.is_colimit)
    ∙ ap₂ (λ (X : Dia (suc d)) (f : Arr (suc d)). Ok (contraction (suc d) X f)) (sym t.result) (sym t.arrow)
answers_contractions n (suc d) C (p ∷ path) k biases X f gC t =
    there n p (length C.sings) (by_slice d C p (contract_from (suc n) d (sing d C p) path k biases)) t.fits
    ∙ ap (by_slice d C p) (answers_contractions (suc n) d (sing d C p) path k biases t.slice t.slice_arrow (good_sing d C gC p t.fits) t.inside)
    ∙ ap₂ (λ (X : Dia (suc d)) (f : Arr (suc d)). Ok (contraction (suc d) X f)) (sym t.result) (sym t.arrow)

pub answers_contraction_faults : (n d : ℕ) (C : Dia d) (path : List ℕ) (k : ℕ) (biases : List Bias) (e : ContractionFault) → GoodDiagram d C
    → RefusesAlong n d C path k biases e → contract_from n d C path k biases ≡ Err e
unfolding contract_from
answers_contraction_faults n zero C path k biases e gC t = ap Err (sym t)
answers_contraction_faults n (suc d) C [] k biases e gC (outside o) =
    not_there n (suc k) (length C.sings) (by_colimit d C k (colimit_of d (two_heights d C k) biases)) o
answers_contraction_faults n (suc d) C [] k biases e gC (inside l f r) =
    there n (suc k) (length C.sings) (by_colimit d C k (colimit_of d (two_heights d C k) biases)) l
    ∙ ap (by_colimit d C k) (answers_refusals d (two_heights d C k) biases f (two_heights-shape d C k gC l) r)
answers_contraction_faults n (suc d) C (p ∷ path) k biases e gC (no_slice o) =
    not_there n p (length C.sings) (by_slice d C p (contract_from (suc n) d (sing d C p) path k biases)) o
answers_contraction_faults n (suc d) C (p ∷ path) k biases e gC (in_slice l f r) =
    there n p (length C.sings) (by_slice d C p (contract_from (suc n) d (sing d C p) path k biases)) l
    ∙ ap (by_slice d C p) (answers_contraction_faults (suc n) d (sing d C p) path k biases f (good_sing d C gC p l) r)

-- ---- and back, since there is an answer

-- a contraction, or what refuses it
abbrev Answer : (n d : ℕ) → Dia d → List ℕ → ℕ → List Bias → Type 0
Answer n d C path k biases = ((c : Contraction d) × ContractsAlong d C path k biases c.result c.arrow) ⊎ ((e : ContractionFault) × RefusesAlong n d C path k biases e)

-- by what the program answers
module _ (n d : ℕ) (C : Dia (suc d)) (k : ℕ) (biases : List Bias) (gC : GoodDiagram (suc d) C) (l : suc k < length C.sings) where
  by_answer : (r : Result (Cocone d) Refusal) → colimit_of d (two_heights d C k) biases ≡ r → Answer n (suc d) C [] k biases
  by_answer (Ok c) e = inl (
    record { result = merged d C k c.apex (leg d c 0) (leg d c 2); arrow = merging d C k (leg d c 0) (leg d c 2) },
    record {
      colimit = c;
      fits = l;
      is_colimit = colimit_answered d (two_heights d C k) biases (two_heights-shape d C k gC l) c e;
      result = refl;
      arrow = refl;
    },
  )
  by_answer (Err f) e = inr (refused f, inside l f (refusal_answered d (two_heights d C k) biases (two_heights-shape d C k gC l) f e))

here_answer : (n d : ℕ) (C : Dia (suc d)) (k : ℕ) (biases : List Bias) → GoodDiagram (suc d) C → Answer n (suc d) C [] k biases
here_answer n d C k biases gC = elim (decide_less (suc k) (length C.sings)) [
  | inl l ↦ by_answer n d C k biases gC l (colimit_of d (two_heights d C k) biases) refl
  | inr o ↦ inr (no_height n, outside o)
]

slice_answer : (n d : ℕ) (C : Dia (suc d)) (p : ℕ) (path : List ℕ) (k : ℕ) (biases : List Bias) → p < length C.sings
    → Answer (suc n) d (sing d C p) path k biases → Answer n (suc d) C (p ∷ path) k biases
slice_answer n d C p path k biases l (inl c) = inl (
  record { result = slice_replaced d C p c.0.result c.0.arrow; arrow = slice_replacing d C p c.0.arrow },
  record { slice = c.0.result; slice_arrow = c.0.arrow; fits = l; inside = c.1; result = refl; arrow = refl },
)
slice_answer n d C p path k biases l (inr e) = inr (e.0, in_slice l e.0 e.1)

pub contraction_answer : (n d : ℕ) (C : Dia d) (path : List ℕ) (k : ℕ) (biases : List Bias) → GoodDiagram d C → Answer n d C path k biases
contraction_answer n zero C path k biases gC = inr (no_height n, refl)
contraction_answer n (suc d) C [] k biases gC = here_answer n d C k biases gC
contraction_answer n (suc d) C (p ∷ path) k biases gC = elim (decide_less p (length C.sings)) [
  | inl l ↦ slice_answer n d C p path k biases l (contraction_answer (suc n) d (sing d C p) path k biases (good_sing d C gC p l))
  | inr o ↦ inr (no_height n, no_slice o)
]

module _ (n d : ℕ) (C : Dia d) (path : List ℕ) (k : ℕ) (biases : List Bias) (gC : GoodDiagram d C) where
  pub contraction_answered : (c : Contraction d) → contract_from n d C path k biases ≡ Ok c → ContractsAlong d C path k biases c.result c.arrow
  contraction_answered c h = elim (contraction_answer n d C path k biases gC) [
    | inl b ↦ (
        let same = sym (answers_contractions n d C path k biases b.0.result b.0.arrow gC b.1) ∙ h in
        let t : contraction d b.0.result b.0.arrow ≡ c = cc in
        subst (λ (c : Contraction d). ContractsAlong d C path k biases c.result c.arrow) t b.1)
    | inr e ↦ absurd (let same = sym (answers_contraction_faults n d C path k biases e.0 gC e.1) ∙ h in cc)
  ]

  pub contraction_fault_answered : (e : ContractionFault) → contract_from n d C path k biases ≡ Err e → RefusesAlong n d C path k biases e
  contraction_fault_answered e h = elim (contraction_answer n d C path k biases gC) [
    | inl b ↦ absurd (let same = sym (answers_contractions n d C path k biases b.0.result b.0.arrow gC b.1) ∙ h in cc)
    | inr f ↦ (
        let same = sym (answers_contraction_faults n d C path k biases f.0 gC f.1) ∙ h in
        let t : f.0 ≡ e = cc in
        subst (RefusesAlong n d C path k biases) t f.1)
  ]
