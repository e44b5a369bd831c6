-- Merging: a cospan in the place of some heights, so that one height stands for two, or another singular slice at one.
use Rattle.std.specs.Prelude.{◌≡◌, ℕ, zero, suc, ◌<◌, List, [], ◌∷◌, length, map}
use Rattle.diagram_terms.specs.Family.{Dia, Arr, reg, sing, fwd, bwd}
use Rattle.diagram_terms.specs.Composite.{comp, ident}
use Rattle.diagram_terms.specs.Cone.{source, target, cospan}
use Rattle.diagram_terms.specs.Good.{GoodArrow}
use Rattle.diagram_terms.specs.Segments.{segment, replaced, replacing}

-- an arrow from Q to a diagram of length 1 with the same ends: every height goes to 0
unfoldable pub to_one_height : (d : ℕ) → Dia (suc d) → List (Arr d) → Arr (suc d)
to_one_height d Q slices = record {
  heights = map (λ _. 0) Q.sings;
  regs = ident d (source d Q) ∷ ident d (target d Q) ∷ [];
  sings = slices;
}

-- C with S in the place of the singular slice p, where m goes from that slice to S: each leg there is followed by m
abbrev pub slice_replaced : (d : ℕ) → Dia (suc d) → ℕ → Dia d → Arr d → Dia (suc d)
slice_replaced d C p S m =
    replaced d C p (suc p) (cospan d (reg d C p) (comp d m (fwd d C p)) S (comp d m (bwd d C p)) (reg d C (suc p)))

-- the arrow from C to it: m at the height p, and the identity elsewhere
abbrev pub slice_replacing : (d : ℕ) → Dia (suc d) → ℕ → Arr d → Arr (suc d)
slice_replacing d C p m = replacing d C p (suc p) (to_one_height d (segment d C p (suc p)) (m ∷ []))

-- C with one height in the place of the heights k and k + 1, where l and m go from their singular slices to P: P stands there,
-- the leg forward is that of k followed by l, and the leg backward that of k + 1 followed by m
abbrev pub merged : (d : ℕ) → Dia (suc d) → ℕ → Dia d → Arr d → Arr d → Dia (suc d)
merged d C k P l m =
    replaced d C k (suc (suc k)) (cospan d (reg d C k) (comp d l (fwd d C k)) P (comp d m (bwd d C (suc k))) (reg d C (suc (suc k))))

-- the arrow from C to it: l and m at these heights, and the identity elsewhere
abbrev pub merging : (d : ℕ) → Dia (suc d) → ℕ → Arr d → Arr d → Arr (suc d)
merging d C k l m = replacing d C k (suc (suc k)) (to_one_height d (segment d C k (suc (suc k))) (l ∷ m ∷ []))

-- The heights k and k + 1 of C merge: two good arrows from their singular slices to one diagram, which agree on the regular
-- slice between them, give X, and f goes there.
pub record MergesTo (d : ℕ) (C : Dia (suc d)) (k : ℕ) (X : Dia (suc d)) (f : Arr (suc d)) : Type 0 where
  pub apex : Dia d
  pub left : Arr d
  pub right : Arr d
  pub fits : suc k < length C.sings
  pub good_left : GoodArrow d (sing d C k) apex left
  pub good_right : GoodArrow d (sing d C (suc k)) apex right
  pub agree : comp d left (bwd d C k) ≡ comp d right (fwd d C (suc k))
  pub result : X ≡ merged d C k apex left right
  pub arrow : f ≡ merging d C k left right

-- In the singular slice p of C something merges, where M says so of the diagram and the arrow that come out there; the
-- slices around it keep their heights.
pub record MergesInSlice (d : ℕ) (M : Dia d → Arr d → Type 0) (C : Dia (suc d)) (p : ℕ) (X : Dia (suc d)) (f : Arr (suc d)) : Type 0 where
  pub slice : Dia d
  pub slice_arrow : Arr d
  pub fits : p < length C.sings
  pub inside : M slice slice_arrow
  pub result : X ≡ slice_replaced d C p slice slice_arrow
  pub arrow : f ≡ slice_replacing d C p slice_arrow

-- the heights k and k + 1 merge in the slice to which the path of singular heights leads
abbrev pub MergesAlong : (d : ℕ) → Dia d → List ℕ → ℕ → Dia d → Arr d → Type 0
MergesAlong zero C path k X f = ⊥
MergesAlong (suc d) C [] k X f = MergesTo d C k X f
MergesAlong (suc d) C (p ∷ path) k X f = MergesInSlice d (λ S m. MergesAlong d (sing d C p) path k S m) C p X f
