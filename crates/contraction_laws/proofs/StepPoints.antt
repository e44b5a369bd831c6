-- What passes at each point of the diagrams that are stored for steps passes at each point of the diagram that holds the
-- steps.
use Rattle.std.proofs.Common.{◌≡◌, ℕ, zero, suc, ◌<◌, Bool, true, List, [], ◌∷◌, length, refl, sym, subst, arith}
use Rattle.std.proofs.lemmas.List.{length-map}
use Rattle.diagram_terms.specs.declared.label.Label.{Label}
use Rattle.diagram_terms.specs.declared.place.Height.TheVariants as height_kind
use Rattle.diagram_terms.specs.Composite.{identity_diagram}
use Rattle.diagram_terms.specs.Family.{Dia, sing, reg}
use Rattle.diagram_terms.specs.Paths.{point_label}
use Rattle.diagram_terms.specs.Neighbourhoods.{one_height}
use Rattle.region_laws.proofs.Neighbourhoods.{neighbourhoods_see_one_height}
use Rattle.diagram_terms.specs.Contraction.{stored_contraction}
use Rattle.diagram_terms.specs.Settling.{Step, all_steps, Settles}
use Rattle.contraction_laws.specs.StepPoints.{PassesAtEachPoint}

module _ (d : ℕ) (test : Dia (suc d) → Label → Bool) where
  -- what passes at each point of the diagram of each one height of X, of which there are some, passes at each point of X
  each_height : (X : Dia (suc d)) → 0 < length X.sings
      → ((k : ℕ) → k < length X.sings → PassesAtEachPoint (suc d) test (one_height d X k)) → PassesAtEachPoint (suc d) test X
  each_height X some h [] p = absurd p
  each_height X some h (height_kind.R zero ∷ hs) p =
      let see = neighbourhoods_see_one_height d X 0 hs in
      subst (λ (N : Dia (suc d)). test N (point_label d (reg d X 0) hs) ≡ true) (sym see.before) (h 0 some (height_kind.R 0 ∷ hs) (omega arith, p.1))
  each_height X some h (height_kind.R (suc j) ∷ hs) p =
      let see = neighbourhoods_see_one_height d X j hs in
      subst (λ (N : Dia (suc d)). test N (point_label d (reg d X (suc j)) hs) ≡ true) (sym see.behind) (h j p.0 (height_kind.R 1 ∷ hs) (omega arith, p.1))
  each_height X some h (height_kind.S k ∷ hs) p =
      let see = neighbourhoods_see_one_height d X k hs in
      subst (λ (N : Dia (suc d)). test N (point_label d (sing d X k) hs) ≡ true) (sym see.inside) (h k p.0 (height_kind.S 0 ∷ hs) (omega arith, p.1))

  -- the test passes at each point of the diagrams that are stored for the steps
  abbrev PassesForEach : Dia d → List (Step d) → Type 0
  PassesForEach C [] = Unit {0}
  PassesForEach C (s ∷ steps) = PassesAtEachPoint (suc d) test (stored_contraction d C s.contraction) × PassesForEach s.contraction.result steps

  -- each of these is the diagram of one height
  step_height : (C : Dia d) (steps : List (Step d)) (k : ℕ) → k < length steps → PassesForEach C steps
      → PassesAtEachPoint (suc d) test (one_height d (all_steps d C steps) k)
  step_height C [] k l h = absurd (omega arith)
  step_height C (s ∷ steps) zero l h = h.0
  step_height C (s ∷ steps) (suc k) l h = step_height s.contraction.result steps k (omega arith) h.1

  steps_pass : (C : Dia d) (steps : List (Step d)) → (length steps ≡ 0 → PassesAtEachPoint (suc d) test (identity_diagram d C)) → PassesForEach C steps
      → PassesAtEachPoint (suc d) test (all_steps d C steps)
  steps_pass C [] h e = h refl
  steps_pass C (s ∷ steps) h e = each_height (all_steps d C (s ∷ steps)) (omega arith) (λ k l.
      step_height C (s ∷ steps) k (let n = length-map steps (λ (s : Step d). s.contraction.result) in omega arith) e)

-- where all that is accepted passes the test at each point, so does the diagram that holds the steps
module _ (d : ℕ) (accept : Dia (suc (suc d)) → Bool) (test : Dia (suc (suc d)) → Label → Bool)
    (sure : (D : Dia (suc (suc d))) → accept D ≡ true → PassesAtEachPoint (suc (suc d)) test D) where
  settling_passes : (C : Dia (suc d)) (steps : List (Step (suc d))) → Settles d accept C steps → PassesForEach (suc d) test C steps
  settling_passes C [] t = tt
  settling_passes C (s ∷ steps) t = (sure (stored_contraction (suc d) C s.contraction) t.0.opens.accepted, settling_passes s.contraction.result steps t.1)

  pub settling-points : (C : Dia (suc d)) (steps : List (Step (suc d))) → (length steps ≡ 0 → PassesAtEachPoint (suc (suc d)) test (identity_diagram (suc d) C)) → Settles d accept C steps → PassesAtEachPoint (suc (suc d)) test (all_steps (suc d) C steps)
  settling-points C steps h t = steps_pass (suc d) test C steps h (settling_passes C steps t)
