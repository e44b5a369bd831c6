-- Occurrences of a diagram inside another one, by offsets, and what is put in the place of an occurrence.
use Rattle.std.specs.Prelude.{◌≡◌, ℕ, zero, suc, ◌+◌, ◌-◌, ◌<◌, ◌≤◌, ◌⊎◌, List, [], ◌∷◌, length, map, nat_le, if◌then◌else◌, Option, Some, None}
use Rattle.std.specs.List.{filter, flat_map}
use Rattle.std.specs.Option.{option_or}
use Rattle.diagram_terms.specs.Labels.{same_label}
use Rattle.diagram_terms.specs.Family.{Dia, Arr, reg, sing, fwd, bwd, height, arrow_sing}
use Rattle.diagram_terms.specs.Dual.{upto, tab}
use Rattle.diagram_terms.specs.Composite.{ident}
use Rattle.diagram_terms.specs.Cone.{source}
use Rattle.diagram_terms.specs.SameDiagrams.{same_diagram}
use Rattle.diagram_terms.specs.Segments.{segment, replaced, replacing}

-- the image of T: its slices under σ, and its legs, from one slice to another, under π
unfoldable pub image : (d : ℕ) → (Dia d → Dia d) → (Dia d → Dia d → Arr d → Arr d) → Dia (suc d) → Dia (suc d)
image d σ π T = record {
  regs = map σ T.regs;
  sings = map σ T.sings;
  fwds = tab (λ k. π (reg d T k) (sing d T k) (fwd d T k)) (length T.sings);
  bwds = tab (λ k. π (reg d T (suc k)) (sing d T k) (bwd d T k)) (length T.sings);
}

-- the image of a plain arrow f : S → M: the heights of f, identities as regular slices, and its singular slices under π
unfoldable pub arrow_image : (d : ℕ) → (Dia d → Dia d) → (Dia d → Dia d → Arr d → Arr d) → Dia (suc d) → Dia (suc d) → Arr (suc d) → Arr (suc d)
arrow_image d σ π S M f = record {
  heights = f.heights;
  regs = map (λ y. ident d (σ y)) M.regs;
  sings = tab (λ i. π (sing d S i) (sing d M (height d f i)) (arrow_sing d f i)) (length S.sings);
}

unfoldable mutual
  -- B with T in the place of S, where S is inside B at the offsets, and S and T are parallel. In dimension 0 it is T. Above,
  -- let o be the first offset and e the others: the heights of B before o and behind S stay, and between them stand the
  -- heights of T, each of their slices put in the place of the source of S in the regular slice o of B, and so each leg.
  pub swap : (d : ℕ) → Dia d → List ℕ → Dia d → Dia d → Dia d
  swap zero B e S T = T
  swap (suc d) B [] S T = B
  swap (suc d) B (o ∷ e) S T =
      let σ : Dia d → Dia d = λ X. swap d (reg d B o) e (source d S) X in
      replaced d B o (o + length S.sings) (image d σ (λ X Y g. put d (σ X) e X Y g) T)

  -- The arrow from B to that diagram with M that is the plain arrow f : S → M on the part S, and the identity outside: its
  -- singular slice at the height o + i is the slice i of f, put there.
  pub put : (d : ℕ) → Dia d → List ℕ → Dia d → Dia d → Arr d → Arr d
  put zero B e S M f = f
  put (suc d) B [] S M f = ident (suc d) B
  put (suc d) B (o ∷ e) S M f =
      let σ : Dia d → Dia d = λ X. swap d (reg d B o) e (source d S) X in
      replacing d B o (o + length S.sings) (arrow_image d σ (λ X Y g. put d (σ X) e X Y g) S M f)

-- T with each slice and each leg put in the place of S in the slice C, in which S is inside at the offsets e
abbrev pub slices_swapped : (d : ℕ) → Dia d → List ℕ → Dia d → Dia (suc d) → Dia (suc d)
slices_swapped d C e S T =
    let σ : Dia d → Dia d = λ X. swap d C e S X in image d σ (λ X Y g. put d (σ X) e X Y g) T

-- the arrow f : S → M with each singular slice put in the place of s in the slice C
abbrev pub slices_put : (d : ℕ) → Dia d → List ℕ → Dia d → Dia (suc d) → Dia (suc d) → Arr (suc d) → Arr (suc d)
slices_put d C e s S M f =
    let σ : Dia d → Dia d = λ X. swap d C e s X in arrow_image d σ (λ X Y g. put d (σ X) e X Y g) S M f

-- ---- to be inside

-- One level of S inside B at the offsets o, e, where I says which slices are inside one another: S is no longer than what is
-- left of B from o on, the source of S is inside the regular slice o of B, and the slices and legs of B from there on are
-- those of S, put in the place of that source.
pub record InsideZig (d : ℕ) (I : Dia d → Dia d → Type 0) (B : Dia (suc d)) (o : ℕ) (e : List ℕ) (S : Dia (suc d)) : Type 0 where
  pub fits : o + length S.sings ≤ length B.sings
  pub first : I (reg d B o) (source d S)
  pub part : segment d B o (o + length S.sings) ≡ slices_swapped d (reg d B o) e (source d S) S

-- S is inside B at the offsets, one for each dimension: in dimension 0 there is none, and S is B
abbrev pub Inside : (d : ℕ) → Dia d → List ℕ → Dia d → Type 0
Inside zero B [] S = B ≡ S
Inside zero B (o ∷ e) S = ⊥
Inside (suc d) B [] S = ⊥
Inside (suc d) B (o ∷ e) S = InsideZig d (λ C s. Inside d C e s) B o e S

-- The step at which S is refused inside B, where the steps are counted from t. In dimension 0 it is t if an offset is left
-- over or the labels differ. Above, it is t if no offset is left or S is too long; else the step of the first slices, if
-- they have one; else t if a slice or a leg differs.
abbrev pub refused_step : (d : ℕ) → Dia d → List ℕ → Dia d → ℕ → Option ℕ
refused_step zero B [] S t = if same_label B S then None else Some t
refused_step zero B (o ∷ e) S t = Some t
refused_step (suc d) B [] S t = Some t
refused_step (suc d) B (o ∷ e) S t =
    if nat_le (o + length S.sings) (length B.sings)
    then option_or (refused_step d (reg d B o) e (source d S) (suc t))
    (if same_diagram (suc d) (segment d B o (o + length S.sings)) (slices_swapped d (reg d B o) e (source d S) S) then None else Some t)
    else Some t

-- ---- matches

-- the offsets at which S is inside B, one list after the other in the lexicographic order: for each first offset at which S
-- fits, those further offsets at which the first slices are inside one another and the others agree
abbrev pub matches : (d : ℕ) → Dia d → Dia d → List (List ℕ)
matches zero B S = if same_label B S then [] ∷ [] else []
matches (suc d) B S =
    flat_map (λ o. map (λ e. o ∷ e) (filter
    (λ e. same_diagram (suc d) (segment d B o (o + length S.sings)) (slices_swapped d (reg d B o) e (source d S) S))
    (matches d (reg d B o) (source d S))))
    (upto (suc (length B.sings) - length S.sings))

-- the lexicographic order of offsets
abbrev pub AreOffsetsBefore : List ℕ → List ℕ → Type 0
AreOffsetsBefore [] [] = ⊥
AreOffsetsBefore [] (o ∷ e) = Unit {0}
AreOffsetsBefore (o ∷ e) [] = ⊥
AreOffsetsBefore (o ∷ e) (u ∷ v) = (o < u) ⊎ ((o ≡ u) × AreOffsetsBefore e v)
