-- Parallel diagrams, the slices of a valid plain diagram, and where cones end.
use Rattle.std.proofs.Common.{ℕ, zero, suc, ◌<◌, ◌≤◌, length, refl, sym, ap₂, ◌∙◌, arith}
use Rattle.diagram_terms.specs.Family.{Dia, reg, sing, fwd, bwd}
use Rattle.diagram_terms.specs.Plain.{Plain}
use Rattle.diagram_terms.specs.Valid.{Valid}
use Rattle.diagram_terms.specs.Cone.{source, Parallel, cospan, cone, mid}
use Rattle.plain_laws.specs.Laws.{ParallelIsReflexive, ParallelIsSymmetric, ParallelIsTransitive, SlicesAreParallel, ParallelDiagramsHaveOneMid}
use Rattle.plain_laws.proofs.ConeParts.{mid-zero, mid-suc}
use Rattle.plain_laws.proofs.PlainEnds.{plain_arrows_have_parallel_ends}

pub parallel_is_reflexive : (d : ℕ) → ParallelIsReflexive d
parallel_is_reflexive zero S = tt
parallel_is_reflexive (suc d) S = record { sources = refl; targets = refl }

pub parallel_is_symmetric : (d : ℕ) → ParallelIsSymmetric d
parallel_is_symmetric zero S T p = tt
parallel_is_symmetric (suc d) S T p = record { sources = sym p.sources; targets = sym p.targets }

pub parallel_is_transitive : (d : ℕ) → ParallelIsTransitive d
parallel_is_transitive zero S T U p q = tt
parallel_is_transitive (suc d) S T U p q = record { sources = p.sources ∙ q.sources; targets = p.targets ∙ q.targets }

-- each slice of a diagram of dimension 2 or more is linked to the next by a leg
module _ (d : ℕ) (X : Dia (suc (suc d))) (v : Valid (suc (suc d)) X) (p : Plain (suc (suc d)) X) where
  from_left : (k : ℕ) → k < length X.sings → Parallel (suc d) (reg (suc d) X k) (sing (suc d) X k)
  from_left k l =
      plain_arrows_have_parallel_ends d (reg (suc d) X k) (sing (suc d) X k) (fwd (suc d) X k)
      (v.regs k (omega arith)) (v.sings k l) (v.fwds k l) (p.fwds k (let a = v.fwds_len in omega arith))

  from_right : (k : ℕ) → k < length X.sings → Parallel (suc d) (reg (suc d) X (suc k)) (sing (suc d) X k)
  from_right k l =
      plain_arrows_have_parallel_ends d (reg (suc d) X (suc k)) (sing (suc d) X k) (bwd (suc d) X k)
      (v.regs (suc k) l) (v.sings k l) (v.bwds k l) (p.bwds k (let a = v.bwds_len in omega arith))

  reg_parallel : (j : ℕ) → j ≤ length X.sings → Parallel (suc d) (reg (suc d) X j) (source (suc d) X)
  reg_parallel zero l = parallel_is_reflexive (suc d) (source (suc d) X)
  reg_parallel (suc k) l =
      let right = from_right k l in
      let left = parallel_is_symmetric (suc d) _ _ (from_left k l) in
      parallel_is_transitive (suc d) _ _ _ right
      (parallel_is_transitive (suc d) _ _ _ left (reg_parallel k (omega arith)))

  sing_parallel : (i : ℕ) → i < length X.sings → Parallel (suc d) (sing (suc d) X i) (source (suc d) X)
  sing_parallel i l =
      parallel_is_transitive (suc d) _ _ _ (parallel_is_symmetric (suc d) _ _ (from_left i l)) (reg_parallel i (omega arith))

pub slices_are_parallel : (d : ℕ) → SlicesAreParallel d
slices_are_parallel zero X v p = record { regs = λ j l. tt; sings = λ i l. tt }
slices_are_parallel (suc d) X v p = record { regs = reg_parallel d X v p; sings = sing_parallel d X v p }

-- where a cone ends depends on the source and the target alone
pub parallel_diagrams_have_one_mid : (d : ℕ) → ParallelDiagramsHaveOneMid d
parallel_diagrams_have_one_mid zero S T x p = mid-zero S x ∙ sym (mid-zero T x)
parallel_diagrams_have_one_mid (suc d) S T x p =
    mid-suc d S x
    ∙ ap₂ (λ (s t : Dia d). cospan d s (cone d s x) (mid d s x) (cone d t x) t) p.sources p.targets
    ∙ sym (mid-suc d T x)
