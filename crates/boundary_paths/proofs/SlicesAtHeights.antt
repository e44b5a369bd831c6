-- The slice of a diagram at a height.
use Rattle.std.proofs.Common.{◌≡◌, ℕ, zero, suc, ◌<◌, ◌≤◌, ◌==◌, if◌then◌else◌, length, slice_get, Option, Some, None, sym, ap, ◌∙◌, arith}
use Rattle.std.proofs.lemmas.Option.{slice_get-get_or, slice_get_past}
use Rattle.diagram_terms.specs.declared.place.Height.{Height}
use Rattle.diagram_terms.specs.declared.place.Height.TheVariants as height
use Rattle.diagram_terms.specs.Tree.{Tree, nil, kind, regs, sings}
use Rattle.diagram_terms.specs.Shape.{IsDiagram, reg_at, sing_at}
use Rattle.diagram_terms.specs.Slices.{slice_at}
use Rattle.diagram_terms.proofs.NotionsOnTrees.{above}
use Rattle.diagram_terms.proofs.Shapes.{kind-diagram_zero, kind-diagram_above}

pub no_slice : (t : Tree) (h : Height) → IsDiagram zero t → None ≡ slice_at t h
unfolding slice_at
no_slice t (height.R j) z = sym (ap (λ k. if k == 1 then slice_get (regs t) j else None) (kind-diagram_zero t z))
no_slice t (height.S i) z = sym (ap (λ k. if k == 1 then slice_get (sings t) i else None) (kind-diagram_zero t z))

slice_in_regs : (d : ℕ) (t : Tree) (j : ℕ) → IsDiagram (suc d) t → slice_get (regs t) j ≡ slice_at t (height.R j)
unfolding slice_at
slice_in_regs d t j h = sym (ap (λ k. if k == 1 then slice_get (regs t) j else None) (kind-diagram_above d t h))

slice_in_sings : (d : ℕ) (t : Tree) (i : ℕ) → IsDiagram (suc d) t → slice_get (sings t) i ≡ slice_at t (height.S i)
unfolding slice_at
slice_in_sings d t i h = sym (ap (λ k. if k == 1 then slice_get (sings t) i else None) (kind-diagram_above d t h))

pub regular_slice : (n : ℕ) → 0 < n → (t : Tree) (j : ℕ) → IsDiagram n t → j ≤ length (sings t) → Some (reg_at t j) ≡ slice_at t (height.R j)
regular_slice = above _ (λ d t j h l. sym (slice_get-get_or (regs t) j nil (omega (arith, h.regs_len))) ∙ slice_in_regs d t j h)

pub no_regular_slice : (n : ℕ) → 0 < n → (t : Tree) (j : ℕ) → IsDiagram n t → length (sings t) < j → None ≡ slice_at t (height.R j)
no_regular_slice = above _ (λ d t j h l. sym (slice_get_past (regs t) j (omega (arith, h.regs_len))) ∙ slice_in_regs d t j h)

pub singular_slice : (n : ℕ) → 0 < n → (t : Tree) (i : ℕ) → IsDiagram n t → i < length (sings t) → Some (sing_at t i) ≡ slice_at t (height.S i)
singular_slice = above _ (λ d t i h l. sym (slice_get-get_or (sings t) i nil l) ∙ slice_in_sings d t i h)

pub no_singular_slice : (n : ℕ) → 0 < n → (t : Tree) (i : ℕ) → IsDiagram n t → length (sings t) ≤ i → None ≡ slice_at t (height.S i)
no_singular_slice = above _ (λ d t i h l. sym (slice_get_past (sings t) i l) ∙ slice_in_sings d t i h)
