-- Another singular slice at one height, one height for two, and the diagrams that are stored for an arrow.
use Rattle.std.proofs.Common.{◌≡◌, ℕ, zero, suc, ◌+◌, ◌<◌, ◌≤◌, List, [], ◌∷◌, length, get_or, refl, subst, sym, ap, ap₂, ◌∙◌, arith}
use Rattle.diagram_terms.specs.Family.{Dia, Arr, no_arr, reg, sing, fwd, bwd}
use Rattle.diagram_terms.specs.Composite.{comp, ident}
use Rattle.diagram_terms.specs.Cone.{source, target, cospan}
use Rattle.plain_laws.proofs.Cospans.{below_one, below_two}
use Rattle.plain_laws.proofs.Parallels.{parallel_is_reflexive}
use Rattle.diagram_terms.specs.Good.{GoodDiagram, GoodArrow}
use Rattle.diagram_terms.specs.Segments.{segment, replaced, replacing}
use Rattle.diagram_terms.specs.Merging.{to_one_height, slice_replaced, slice_replacing, merged, merging}
use Rattle.occurrence_laws.specs.Laws.{MergingAlongIsGood}
use Rattle.occurrence_laws.specs.Lists.{HasListsReplaced, HasListsReplacing}
use Rattle.occurrence_laws.proofs.GoodParts.{good_identity, good_composite, good_sing, good_fwd, good_bwd}
use Rattle.occurrence_laws.proofs.SumLaws.{good_along}
use Rattle.occurrence_laws.proofs.SegmentParts.{segment-length, segment-source, segment-target, segment-sing, segment-fwd, segment-bwd, good_segment}
use Rattle.occurrence_laws.proofs.Replacements.{replaced_same, good_replacing, other_end}
use Rattle.occurrence_laws.proofs.ReplacedLists.{replaced_has_lists, replacing_has_lists}
use Rattle.occurrence_laws.proofs.OneHeight.{IsCocone, good_cospan, good_to_one_height}

-- B with a cospan in the place of a segment, along an arrow whose slices have edges
module _ (d : ℕ) (B : Dia (suc d)) (gB : GoodDiagram (suc d) B) (a b : ℕ) (l : a ≤ b) (m : b ≤ length B.sings)
    (f : Arr d) (M : Dia d) (g : Arr d) (slices : List (Arr d)) (gf : GoodArrow d (reg d B a) M f) (gg : GoodArrow d (reg d B b) M g)
    (cocone : IsCocone d (segment d B a b) f M g slices) where
  abbrev Q : Dia (suc d)
  Q = segment d B a b

  abbrev P : Dia (suc d)
  P = cospan d (reg d B a) f M g (reg d B b)

  to_cospan : GoodArrow (suc d) Q P (to_one_height d Q slices)
  to_cospan =
      let first : source d Q ≡ reg d B a = segment-source d B a b l m in
      let last : target d Q ≡ reg d B b = segment-target d B a b l m in
      good_along (suc d) _ _ _ _ (to_one_height d Q slices) refl (ap₂ (λ (s t : Dia d). cospan d s f M g t) first last)
      (good_to_one_height d Q f M g slices (good_segment d B a b l m gB)
      (good_along d _ _ _ _ f (sym first) refl gf) (good_along d _ _ _ _ g (sym last) refl gg) cocone)

  pub good_cospan_replacing : GoodArrow (suc d) B (replaced d B a b P) (replacing d B a b (to_one_height d Q slices))
  good_cospan_replacing =
      good_along (suc d) _ _ _ _ _ (replaced_same d B gB a b l m) refl
      (good_replacing d B gB a b l m Q P (to_one_height d Q slices) to_cospan (parallel_is_reflexive (suc d) Q))

  pub cospan_has_lists : HasListsReplaced d B a b P (replaced d B a b P)
      × HasListsReplacing d B a b 1 (to_one_height d Q slices) (replaced d B a b P) (replacing d B a b (to_one_height d Q slices))
  cospan_has_lists =
      let self = parallel_is_reflexive (suc d) Q in
      let fits = other_end d B gB a b l m Q P (to_one_height d Q slices) to_cospan self in (
        replaced_has_lists d B gB a b l m P to_cospan.target fits,
        replacing_has_lists d B gB a b l m Q P (to_one_height d Q slices) to_cospan self,
      )

-- ---- another singular slice

module _ (d : ℕ) (C : Dia (suc d)) (p : ℕ) (S : Dia d) (m : Arr d) (gC : GoodDiagram (suc d) C) (l : p < length C.sings)
    (gm : GoodArrow d (sing d C p) S m) where
  one : length (segment d C p (suc p)).sings ≡ 1
  one = let n = segment-length d C p (suc p) (omega arith) l in omega arith

  first_place : p + 0 ≡ p
  first_place = omega arith

  edge : ℕ → Arr d
  edge zero = comp d m (fwd d C p)
  edge (suc t) = comp d m (bwd d C p)

  cocone : IsCocone d (segment d C p (suc p)) (comp d m (fwd d C p)) S (comp d m (bwd d C p)) (m ∷ [])
  unfolding edge
  cocone =
      let n = one in
      let Q : Dia (suc d) = segment d C p (suc p) in
      let s : sing d Q 0 ≡ sing d C p = segment-sing d C p (suc p) 0 (omega arith) ∙ ap (sing d C) first_place in
      let f : fwd d Q 0 ≡ fwd d C p = segment-fwd d C p (suc p) 0 (omega arith) ∙ ap (fwd d C) first_place in
      let b : bwd d Q 0 ≡ bwd d C p = segment-bwd d C p (suc p) 0 (omega arith) ∙ ap (bwd d C) first_place in
      record {
        long = sym n;
        good = λ i h. below_one (λ i. GoodArrow d (sing d Q i) S (get_or (m ∷ []) i (no_arr d))) (rw s gm) i (omega arith);
        edge = edge;
        first = refl;
        last = ap edge n;
        along_fwd = λ t h. below_one (λ t. edge t ≡ comp d (get_or (m ∷ []) t (no_arr d)) (fwd d Q t)) (ap (comp d m) (sym f)) t (omega arith);
        along_bwd = λ t h. below_one (λ t. edge (suc t) ≡ comp d (get_or (m ∷ []) t (no_arr d)) (bwd d Q t)) (ap (comp d m) (sym b)) t (omega arith);
      }

  pub good_slice_replacing : GoodArrow (suc d) C (slice_replaced d C p S m) (slice_replacing d C p m)
  good_slice_replacing =
      good_cospan_replacing d C gC p (suc p) (omega arith) l (comp d m (fwd d C p)) S (comp d m (bwd d C p)) (m ∷ [])
      (good_composite d _ _ _ _ m (good_fwd d C gC p l) gm) (good_composite d _ _ _ _ m (good_bwd d C gC p l) gm) cocone

  pub slice_replaced_lists : HasListsReplaced d C p (suc p)
      (cospan d (reg d C p) (comp d m (fwd d C p)) S (comp d m (bwd d C p)) (reg d C (suc p))) (slice_replaced d C p S m)
      × HasListsReplacing d C p (suc p) 1 (to_one_height d (segment d C p (suc p)) (m ∷ [])) (slice_replaced d C p S m) (slice_replacing d C p m)
  slice_replaced_lists =
      cospan_has_lists d C gC p (suc p) (omega arith) l (comp d m (fwd d C p)) S (comp d m (bwd d C p)) (m ∷ [])
      (good_composite d _ _ _ _ m (good_fwd d C gC p l) gm) (good_composite d _ _ _ _ m (good_bwd d C gC p l) gm) cocone

-- ---- one height for two

module _ (d : ℕ) (C : Dia (suc d)) (k : ℕ) (P : Dia d) (l m : Arr d) (gC : GoodDiagram (suc d) C) (h : suc k < length C.sings)
    (gl : GoodArrow d (sing d C k) P l) (gm : GoodArrow d (sing d C (suc k)) P m)
    (meet : comp d l (bwd d C k) ≡ comp d m (fwd d C (suc k))) where
  two : length (segment d C k (suc (suc k))).sings ≡ 2
  two = let n = segment-length d C k (suc (suc k)) (omega arith) h in omega arith

  place : k + 0 ≡ k
  place = omega arith

  next_place : k + 1 ≡ suc k
  next_place = omega arith

  merged_edge : ℕ → Arr d
  merged_edge zero = comp d l (fwd d C k)
  merged_edge (suc zero) = comp d l (bwd d C k)
  merged_edge (suc (suc t)) = comp d m (bwd d C (suc k))

  merged_cocone : IsCocone d (segment d C k (suc (suc k))) (comp d l (fwd d C k)) P (comp d m (bwd d C (suc k))) (l ∷ m ∷ [])
  unfolding merged_edge
  merged_cocone =
      let n = two in
      let Q : Dia (suc d) = segment d C k (suc (suc k)) in
      let slices : List (Arr d) = l ∷ m ∷ [] in
      let s0 : sing d Q 0 ≡ sing d C k = segment-sing d C k (suc (suc k)) 0 (omega arith) ∙ ap (sing d C) place in
      let f0 : fwd d Q 0 ≡ fwd d C k = segment-fwd d C k (suc (suc k)) 0 (omega arith) ∙ ap (fwd d C) place in
      let b0 : bwd d Q 0 ≡ bwd d C k = segment-bwd d C k (suc (suc k)) 0 (omega arith) ∙ ap (bwd d C) place in
      let s1 : sing d Q 1 ≡ sing d C (suc k) = segment-sing d C k (suc (suc k)) 1 (omega arith) ∙ ap (sing d C) next_place in
      let f1 : fwd d Q 1 ≡ fwd d C (suc k) = segment-fwd d C k (suc (suc k)) 1 (omega arith) ∙ ap (fwd d C) next_place in
      let b1 : bwd d Q 1 ≡ bwd d C (suc k) = segment-bwd d C k (suc (suc k)) 1 (omega arith) ∙ ap (bwd d C) next_place in
      record {
        long = sym n;
        good = λ i t. below_two (λ i. GoodArrow d (sing d Q i) P (get_or slices i (no_arr d))) (rw s0 gl) (rw s1 gm) i (omega arith);
        edge = merged_edge;
        first = refl;
        last = ap merged_edge n;
        along_fwd = λ t u. below_two (λ t. merged_edge t ≡ comp d (get_or slices t (no_arr d)) (fwd d Q t))
            (ap (comp d l) (sym f0)) (meet ∙ ap (comp d m) (sym f1)) t (omega arith);
        along_bwd = λ t u. below_two (λ t. merged_edge (suc t) ≡ comp d (get_or slices t (no_arr d)) (bwd d Q t))
            (ap (comp d l) (sym b0)) (ap (comp d m) (sym b1)) t (omega arith);
      }

  pub good_merging : GoodArrow (suc d) C (merged d C k P l m) (merging d C k l m)
  good_merging =
      good_cospan_replacing d C gC k (suc (suc k)) (omega arith) h (comp d l (fwd d C k)) P (comp d m (bwd d C (suc k))) (l ∷ m ∷ [])
      (good_composite d _ _ _ _ l (good_fwd d C gC k (omega arith)) gl) (good_composite d _ _ _ _ m (good_bwd d C gC (suc k) h) gm) merged_cocone

  pub merged_lists : HasListsReplaced d C k (suc (suc k))
      (cospan d (reg d C k) (comp d l (fwd d C k)) P (comp d m (bwd d C (suc k))) (reg d C (suc (suc k)))) (merged d C k P l m)
      × HasListsReplacing d C k (suc (suc k)) 1 (to_one_height d (segment d C k (suc (suc k))) (l ∷ m ∷ [])) (merged d C k P l m) (merging d C k l m)
  merged_lists =
      cospan_has_lists d C gC k (suc (suc k)) (omega arith) h (comp d l (fwd d C k)) P (comp d m (bwd d C (suc k))) (l ∷ m ∷ [])
      (good_composite d _ _ _ _ l (good_fwd d C gC k (omega arith)) gl) (good_composite d _ _ _ _ m (good_bwd d C gC (suc k) h) gm) merged_cocone

-- ---- along a path

pub good_merging_along : (d : ℕ) → MergingAlongIsGood d
good_merging_along zero C path k X f gC h = absurd h
good_merging_along (suc d) C [] k X f gC h =
    subst (λ (x : Arr (suc d)). GoodArrow (suc d) C X x) (sym h.arrow)
    (good_along (suc d) _ _ _ _ _ refl (sym h.result)
    (good_merging d C k h.apex h.left h.right gC h.fits h.good_left h.good_right h.agree))
good_merging_along (suc d) C (p ∷ path) k X f gC h =
    subst (λ (x : Arr (suc d)). GoodArrow (suc d) C X x) (sym h.arrow)
    (good_along (suc d) _ _ _ _ _ refl (sym h.result)
    (good_slice_replacing d C p h.slice h.slice_arrow gC h.fits
    (good_merging_along d (sing d C p) path k h.slice h.slice_arrow (good_sing d C gC p h.fits) h.inside)))

-- ---- what is stored

-- D → E ← E with the arrow and the identity, and E ← E ← D
pub good_stored : (d : ℕ) (D E : Dia d) (f : Arr d) → GoodArrow d D E f → GoodDiagram (suc d) (cospan d D f E (ident d E) E)
good_stored d D E f g = good_cospan d D f E (ident d E) E g (good_identity d E g.target)

pub good_stored_back : (d : ℕ) (D E : Dia d) (f : Arr d) → GoodArrow d D E f → GoodDiagram (suc d) (cospan d E (ident d E) E f D)
good_stored_back d D E f g = good_cospan d E (ident d E) E f D (good_identity d E g.target) g
