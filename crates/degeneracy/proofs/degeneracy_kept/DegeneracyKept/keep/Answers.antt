use Rattle.std.proofs.Common.{◌≡◌, Bool, true, sym, subst, ◌∙◌, inl, inr}
use Rattle.std.proofs.lemmas.Bool.{cases_Bool, cond-false}
use Rattle.std.specs.HashSet as set
use Rattle.std.specs.HashSet.{HashSet}
use Rattle.degeneracy.specs.DegeneracyKeeps.{same_triple, IsKeptDegeneracy}
use Rattle.degeneracy.proofs.KeptFactors.{exact_triple}
use Rattle.degeneracy.proofs.degeneracy_kept.DegeneracyKept.keep.Goals as goal

-- a set with one more key
module _ {K S : Type 0} (eq : K → K → Bool) (exact : (x y : K) → eq x y ≡ true → x ≡ y) where
  set_more : (P : K → Type 0) (old new : HashSet K S) (k : K) → set.Updates eq old new k true
      → ((q : K) → set.contains eq old q ≡ true → P q) → P k → (q : K) → set.contains eq new q ≡ true → P q
  set_more P old new k up all p q e = elim (cases_Bool (eq k q)) [
    | inl h ↦ subst P (exact k q h) p
    | inr h ↦ all q (sym (cond-false (eq k q) true (set.contains eq old q) h) ∙ sym (up.0 q) ∙ e)
  ]

pub returns : goal.returns
returns c = λ s h is. record {
  maps = λ m. set_more same_triple exact_triple (λ p. IsKeptDegeneracy s (record { source = p.0; target = p.1; arrow = p.2 }))
      c.args.self.now.maps c.insert.new.self
      (c.args.f.now.source, c.args.f.now.target, c.args.f.now.arrow) c.in_ok-insert.ensures.updates
      (λ p. h.maps (record { source = p.0; target = p.1; arrow = p.2 })) is (m.source, m.target, m.arrow);
}
