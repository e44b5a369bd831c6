-- For walks: the count of regular slices; and before the legs of a diagram all its slices are visited.
use Rattle.std.proofs.Common.{◌≡◌, ℕ, suc, ◌<◌, List, length, Some, refl}
use Rattle.diagram_terms.specs.declared.place.Step.{Step}
use Rattle.diagram_terms.specs.declared.place.Step.TheVariants as step
use Rattle.diagram_terms.specs.Places.{Test}
use Rattle.diagram_terms.specs.Shape.{IsDiagram}
use Rattle.diagram_terms.specs.Tree.{Tree, regs, sings}
use Rattle.diagram_terms.proofs.NotionsOnTrees.{above}
use Rattle.diagram_terms.specs.Order.{LeadsIn, PassedBefore, regs_before, sings_before}

pub before_legs : (tests : Step → List Test) (n : ℕ) (s : Step) → LeadsIn n s → ((j : ℕ) → s ≡ step.R j → ⊥) → ((i : ℕ) → s ≡ step.S i → ⊥)
    → PassedBefore tests (regs_before n (Some s)) (sings_before n (Some s)) → PassedBefore tests (suc n) n
before_legs tests n step.SourceEnd l r t h = h
before_legs tests n step.TargetEnd l r t h = h
before_legs tests n (step.R j) l r t h = absurd (r j refl)
before_legs tests n (step.S i) l r t h = absurd (t i refl)
before_legs tests n (step.F k) l r t h = h
before_legs tests n (step.B k) l r t h = h

pub regs_len : (n : ℕ) → 0 < n → (t : Tree) → IsDiagram n t → length (regs t) ≡ suc (length (sings t))
regs_len = above _ (λ d t h. h.regs_len)
