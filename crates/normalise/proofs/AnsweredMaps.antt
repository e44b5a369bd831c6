-- What is noted for a key, as an answer.
use Rattle.std.proofs.Common.{◌≡◌, ℕ, List, Result, Ok, Err, IfOk, Some, sym, subst}
use Rattle.hashcons.specs.Contents.{Contents, Key, IsStore, IsNormalOf, noted_normal}
use Rattle.zigzag_maps.specs.declared.map.Map.{Map}
use Rattle.zigzag_maps.specs.Found.{IsValidMap}
use Rattle.degeneracy.specs.DegeneracyTrees.{IsDegeneracyMap}
use Rattle.normalise.specs.declared.normal.Normal.{Normal}
use Rattle.normalise.specs.NormalMaps.{HasReducedSource, as_noted, key_for}
use Rattle.normalise.specs.StoreForms.{IsKeyOf}
use Rattle.normalise.proofs.FormsInStore.{answer_valid, answer_degeneracy, answer_reduced}

-- the answer is into the target of the key, and is noted for the key
record IsAnswer (c : Contents) (k : Key) (n : Normal) : Type 0 where
  pub target : n.map.target ≡ k.target
  pub noted : noted_normal c k ≡ Some (as_noted n)

are_answers : {E : Type 0} (c : Contents) (k : Key) (r : Result Normal E) → IfOk r (λ n. n.map.target ≡ k.target)
    → IfOk r (λ n. noted_normal c k ≡ Some (as_noted n)) → IfOk r (IsAnswer c k)
are_answers c k (Ok n) e f = record { target = e; noted = f }
are_answers c k (Err x) e f = f

each : {E : Type 0} (P Q : Normal → Type 0) → ((n : Normal) → P n → Q n) → (r : Result Normal E) → IfOk r P → IfOk r Q
each P Q f (Ok n) h = f n h
each P Q f (Err x) h = h

-- the key that was noted is that of a target and its legs
module _ {E : Type 0} (c : Contents) (store : IsStore c) (t : ℕ) (ms : List Map) (w : IsKeyOf c (key_for t ms)) (k : Key) (e : k ≡ key_for t ms)
    (r : Result Normal E) (into : IfOk r (λ n. n.map.target ≡ k.target)) (noted : IfOk r (λ n. noted_normal c k ≡ Some (as_noted n))) where
  answers : IfOk r (IsAnswer c (key_for t ms))
  answers = subst (λ (j : Key). IfOk r (IsAnswer c j)) e (are_answers c k r into noted)

  normal_at : (n : Normal) → IsAnswer c (key_for t ms) n → IsNormalOf c (key_for t ms) (as_noted n)
  normal_at n h = store.notes.normals (key_for t ms) (as_noted n) h.noted

  pub valid_answers : IfOk r (λ n. IsValidMap c n.map)
  valid_answers = each (IsAnswer c (key_for t ms)) (λ n. IsValidMap c n.map)
      (λ n a. subst (λ (u : ℕ). IsValidMap c (record { source = n.map.source; target = u; arrow = n.map.arrow })) (sym a.target)
      (answer_valid c (key_for t ms) (as_noted n) w (normal_at n a))) r answers

  pub degenerate_answers : IfOk r (λ n. IsDegeneracyMap c n.map)
  degenerate_answers = each (IsAnswer c (key_for t ms)) (λ n. IsDegeneracyMap c n.map)
      (λ n a. subst (λ (u : ℕ). IsDegeneracyMap c (record { source = n.map.source; target = u; arrow = n.map.arrow })) (sym a.target)
      (answer_degeneracy c (key_for t ms) (as_noted n) w (normal_at n a))) r answers

  pub least_answers : IfOk r (λ n. IsNormalOf c (key_for t ms) (as_noted n))
  least_answers = each (IsAnswer c (key_for t ms)) (λ n. IsNormalOf c (key_for t ms) (as_noted n)) normal_at r answers

  pub reduced_answers : IfOk r (HasReducedSource c ms)
  reduced_answers = each (IsAnswer c (key_for t ms)) (HasReducedSource c ms)
      (λ n a. answer_reduced c (key_for t ms) (as_noted n) w (normal_at n a)) r answers
