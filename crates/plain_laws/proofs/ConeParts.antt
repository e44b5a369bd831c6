-- The parts of a cone, of the diagram where it ends, and of a type.
use Rattle.std.proofs.Common.{◌≡◌, ℕ, zero, suc, ◌<◌, List, [], ◌∷◌, length, get_or, map, refl, ◌∙◌, arith}
use Rattle.std.proofs.lemmas.List.{get_or-map, length-map}
use Rattle.diagram_terms.specs.declared.label.Label.{Label}
use Rattle.diagram_terms.specs.Family.{Dia, no_dia, no_arr, sing, height, arrow_reg, arrow_sing}
use Rattle.diagram_terms.specs.Dual.{IsMonotone, AreBelow, dual}
use Rattle.diagram_terms.specs.Composite.{ident}
use Rattle.diagram_terms.specs.Cone.{source, target, cospan, cone, mid, type_over}
use Rattle.diagram_terms.proofs.Duals.{dual-zero, dual_full}

-- ---- the cone, in dimension 0

pub cone-from : (y : Dia zero) (x : Label) → (cone zero y x).from ≡ y
unfolding cone
cone-from y x = refl

pub cone-to : (y : Dia zero) (x : Label) → (cone zero y x).to ≡ x
unfolding cone
cone-to y x = refl

-- ---- the cone, above

get-zeros : {A : Type 0} (xs : List A) (i : ℕ) → get_or {A = ℕ} (map (λ _. 0) xs) i 0 ≡ 0
get-zeros [] i = refl
get-zeros (x ∷ xs) zero = refl
get-zeros (x ∷ xs) (suc i) = get-zeros xs i

module _ (d : ℕ) (D : Dia (suc d)) (x : Label) where
  pub cone-heights_len : length (cone (suc d) D x).heights ≡ length D.sings
  unfolding cone
  cone-heights_len = length-map D.sings (λ _. 0)

  pub cone-regs_len : length (cone (suc d) D x).regs ≡ 2
  unfolding cone
  cone-regs_len = refl

  pub cone-sings_len : length (cone (suc d) D x).sings ≡ length D.sings
  unfolding cone
  cone-sings_len = length-map D.sings (λ s. cone d s x)

  -- every height goes to 0
  pub cone-height : (i : ℕ) → height d (cone (suc d) D x) i ≡ 0
  unfolding cone
  cone-height i = get-zeros D.sings i

  pub cone-source : arrow_reg d (cone (suc d) D x) 0 ≡ ident d (source d D)
  unfolding cone
  cone-source = refl

  pub cone-target : arrow_reg d (cone (suc d) D x) 1 ≡ ident d (target d D)
  unfolding cone
  cone-target = refl

  pub cone-sing : (i : ℕ) → i < length D.sings → arrow_sing d (cone (suc d) D x) i ≡ cone d (sing d D i) x
  unfolding cone
  cone-sing i l = get_or-map (λ s. cone d s x) D.sings i (no_dia d) (no_arr d) l

  pub cone-monotone : IsMonotone (cone (suc d) D x).heights
  cone-monotone = record { rises = λ i j l k. rw (cone-height i) (omega arith) }

  pub cone-below : AreBelow (cone (suc d) D x).heights 1
  cone-below = record { below = λ i l. rw (cone-height i) (omega arith) }

  pub cone-dual_first : dual (cone (suc d) D x).heights 0 ≡ 0
  cone-dual_first = dual-zero (cone (suc d) D x).heights cone-monotone

  pub cone-dual_last : dual (cone (suc d) D x).heights 1 ≡ length D.sings
  cone-dual_last = dual_full (cone (suc d) D x).heights cone-monotone 1 1 cone-below (omega arith) ∙ cone-heights_len

-- ---- where it ends, and the type

pub mid-zero : (y : Dia zero) (x : Label) → mid zero y x ≡ x
unfolding mid
mid-zero y x = refl

-- above, the cospan of the cones over the source and the target
abbrev pub cone_end : (d : ℕ) → Dia (suc d) → Label → Dia (suc d)
cone_end d D x = cospan d (source d D) (cone d (source d D) x) (mid d (source d D) x) (cone d (target d D) x) (target d D)

pub mid-suc : (d : ℕ) (D : Dia (suc d)) (x : Label) → mid (suc d) D x ≡ cone_end d D x
unfolding mid
mid-suc d D x = refl

pub type_over-cospan : (d : ℕ) (S T : Dia d) (x : Label)
    → type_over d S T x ≡ cospan d S (cone d S x) (mid d S x) (cone d T x) T
unfolding type_over
type_over-cospan d S T x = refl
