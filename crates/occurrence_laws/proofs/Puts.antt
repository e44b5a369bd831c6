-- Occurrences: one induction on the dimension for all that `swap` and `put` keep.
use Rattle.std.proofs.Common.{◌≡◌, ℕ, zero, suc, ◌+◌, ◌≤◌, List, [], ◌∷◌, length, refl, subst, sym, ap, ap₂, ◌∙◌, arith}
use Rattle.diagram_terms.specs.Family.{Dia, Arr, reg}
use Rattle.diagram_terms.specs.Composite.{comp, ident}
use Rattle.diagram_terms.specs.Cone.{source, target, Parallel}
use Rattle.diagram_terms.specs.Good.{GoodDiagram, GoodArrow}
use Rattle.diagram_terms.specs.Segments.{segment, replaced, replacing}
use Rattle.diagram_terms.specs.Occurrences.{swap, put, slices_swapped, slices_put, InsideZig, Inside}
use Rattle.occurrence_laws.specs.Lists.{HasListsReplacing}
use Rattle.occurrence_laws.specs.Laws.{SwapsHaveLists, PutsHaveLists}
use Rattle.occurrence_laws.proofs.ReplacedLists.{replaced_has_lists, replacing_has_lists}
use Rattle.occurrence_laws.proofs.GoodParts.{good_reg, good_ends}
use Rattle.plain_laws.proofs.Parallels.{parallel_is_symmetric}
use Rattle.occurrence_laws.proofs.SumLaws.{good_along}
use Rattle.occurrence_laws.proofs.Replacements.{good_replaced, replaced_same, replaced_length, replaced_parallel, replaced_middle, replaced_at, replaced_twice, replacing_twice, replacing_identity, good_replacing, replacing_composite}
use Rattle.occurrence_laws.proofs.Images.{IsFunctor, image-length, image-reg, good_image}
use Rattle.occurrence_laws.proofs.ImageLaws.{good_arrow_image, image_identity, image_composite}
use Rattle.occurrence_laws.proofs.SwapParts.{swap-zero, put-zero, swap-suc, put-suc}

-- what putting diagrams and arrows in the place of S, which is inside B at e, keeps
pub record PutsWell (d : ℕ) (B : Dia d) (e : List ℕ) (S : Dia d) : Type 0 where
  pub good : (T : Dia d) → GoodDiagram d T → Parallel d T S → GoodDiagram d (swap d B e S T)
  pub parallel : (T : Dia d) → GoodDiagram d T → Parallel d T S → Parallel d (swap d B e S T) B
  pub same : swap d B e S S ≡ B
  pub inside : (T : Dia d) → GoodDiagram d T → Parallel d T S → Inside d (swap d B e S T) e T
  pub twice : (T U : Dia d) → GoodDiagram d T → Parallel d T S → swap d (swap d B e S T) e T U ≡ swap d B e S U
  pub arrow : (M : Dia d) (f : Arr d) → GoodArrow d S M f → GoodArrow d B (swap d B e S M) (put d B e S M f)
  pub identity : put d B e S S (ident d S) ≡ ident d B
  pub composite : (M N : Dia d) (f g : Arr d) → GoodArrow d S M f → GoodArrow d M N g
      → put d B e S N (comp d g f) ≡ comp d (put d (swap d B e S M) e M N g) (put d B e S M f)

-- at one dimension
abbrev pub OccurrencesPutWell : ℕ → Type 0
OccurrencesPutWell d = (B : Dia d) (e : List ℕ) (S : Dia d) → GoodDiagram d B → GoodDiagram d S → Inside d B e S → PutsWell d B e S

-- ---- in dimension 0 the part is the whole

base : (B S : Dia zero) → GoodDiagram zero B → GoodDiagram zero S → B ≡ S → PutsWell zero B [] S
base B S gB gS whole = record {
  good = λ T gT p. rw swap-zero gT;
  parallel = λ T gT p. tt;
  same = swap-zero B [] S S ∙ sym whole;
  inside = λ T gT p. swap-zero B [] S T;
  twice = λ T U gT p. swap-zero (swap zero B [] S T) [] T U ∙ sym (swap-zero B [] S U);
  arrow = λ M f g. rw (put-zero, swap-zero) (good_along zero S B M M f (sym whole) refl g);
  identity = put-zero B [] S S (ident zero S) ∙ ap (ident zero) (sym whole);
  composite = λ M N f g gf gg.
      put-zero B [] S N (comp zero g f)
      ∙ sym (ap₂ (comp zero) (put-zero (swap zero B [] S M) [] M N g) (put-zero B [] S M f));
}

-- ---- putting into a slice C carries what is parallel to s

module _ (d : ℕ) (ih : OccurrencesPutWell d) (C : Dia d) (e : List ℕ) (s : Dia d) (gC : GoodDiagram d C) (gs : GoodDiagram d s)
    (inside : Inside d C e s) where
  well : PutsWell d C e s
  well = ih C e s gC gs inside

  well_at : (X : Dia d) → GoodDiagram d X → Parallel d X s → PutsWell d (swap d C e s X) e X
  well_at X g p = ih (swap d C e s X) e X (well.good X g p) g (well.inside X g p)

  pub putting_is_functor : IsFunctor d s (λ X. swap d C e s X) (λ X Y g. put d (swap d C e s X) e X Y g)
  putting_is_functor = record {
    diagrams = well.good;
    arrows = λ X Y f g p.
        good_along d _ _ _ _ (put d (swap d C e s X) e X Y f) refl (well.twice X Y g.source p) ((well_at X g.source p).arrow Y f g);
    identities = λ X g p. (well_at X g p).identity;
    composites = λ X Y Z f g gf gg p.
        (well_at X gf.source p).composite Y Z f g gf gg
        ∙ ap (λ (W : Dia d). comp d (put d W e Y Z g) (put d (swap d C e s X) e X Y f)) (well.twice X Y gf.source p);
  }

-- ---- one level up

module _ (d : ℕ) (ih : OccurrencesPutWell d) (B : Dia (suc d)) (o : ℕ) (e : List ℕ) (S : Dia (suc d)) (gB : GoodDiagram (suc d) B)
    (gS : GoodDiagram (suc d) S) (in_B : InsideZig d (λ C s. Inside d C e s) B o e S) where
  abbrev C : Dia d
  C = reg d B o

  abbrev s : Dia d
  s = source d S

  abbrev σ : Dia d → Dia d
  σ X = swap d C e s X

  abbrev π : Dia d → Dia d → Arr d → Arr d
  π X Y g = put d (σ X) e X Y g

  abbrev end : ℕ
  end = o + length S.sings

  begins : o ≤ end
  begins = omega arith

  ends : end ≤ length B.sings
  ends = in_B.fits

  F : IsFunctor d s (λ X. swap d C e s X) (λ X Y g. put d (swap d C e s X) e X Y g)
  F = putting_is_functor d ih C e s (let a = ends in good_reg d B gB o (omega arith)) (good_reg d S gS 0 (omega arith)) in_B.first

  abbrev im : Dia (suc d) → Dia (suc d)
  im T = slices_swapped d C e s T

  im_long : (T : Dia (suc d)) → length (im T).sings ≡ length T.sings
  im_long T = image-length d s σ π F T

  -- the image of what is parallel to S is parallel to the part of B
  im_parallel : (T : Dia (suc d)) → GoodDiagram (suc d) T → Parallel (suc d) T S → Parallel (suc d) (im T) (segment d B o end)
  im_parallel T gT p =
      let l = im_long T in
      let m = im_long S in
      let t : target d (im T) ≡ σ (target d T) = ap (reg d (im T)) l ∙ image-reg d s σ π F T gT (length T.sings) (omega arith) in
      let u : target d (im S) ≡ σ (target d S) = ap (reg d (im S)) m ∙ image-reg d s σ π F S gS (length S.sings) (omega arith) in
      subst (λ (Q : Dia (suc d)). Parallel (suc d) (im T) Q) (sym in_B.part) (record {
        sources = image-reg d s σ π F T gT 0 (omega arith) ∙ ap (λ (x : Dia d). swap d C e s x) p.sources ∙ sym (image-reg d s σ π F S gS 0 (omega arith));
        targets = t ∙ ap (λ (x : Dia d). swap d C e s x) p.targets ∙ sym u;
      })

  good_im : (T : Dia (suc d)) → GoodDiagram (suc d) T → Parallel (suc d) T S → GoodDiagram (suc d) (im T)
  good_im T gT p = good_image d s σ π F T gT p.sources

  abbrev with_in : Dia (suc d) → Dia (suc d)
  with_in T = replaced d B o end (im T)

  whole : with_in S ≡ B
  whole = ap (replaced d B o end) (sym in_B.part) ∙ replaced_same d B gB o end begins ends

  -- the slice there, and so what is put into it, stays
  module _ (T : Dia (suc d)) (gT : GoodDiagram (suc d) T) (p : Parallel (suc d) T S) where
    slice_stays : reg d (with_in T) o ≡ C
    slice_stays = replaced_at d B gB o end begins ends (im T) (good_im T gT p) (im_parallel T gT p)

    next : o + length (im T).sings ≡ o + length T.sings
    next = ap (λ (n : ℕ). o + n) (im_long T)

    part_is : segment d (with_in T) o (o + length T.sings) ≡ im T
    part_is =
        ap (segment d (with_in T) o) (sym next)
        ∙ replaced_middle d B gB o end begins ends (im T) (good_im T gT p) (im_parallel T gT p)

    inside_again : InsideZig d (λ C s. Inside d C e s) (with_in T) o e T
    inside_again =
        let n = replaced_length d B gB o end begins ends (im T) (good_im T gT p) (im_parallel T gT p) in
        let l = im_long T in
        let f = ends in
        record {
          fits = omega arith;
          first = subst (λ (c : Dia d). Inside d c e (source d T)) (sym slice_stays)
              (subst (λ (t : Dia d). Inside d C e t) (sym p.sources) in_B.first);
          part = part_is ∙ sym (ap₂ (λ (c t : Dia d). slices_swapped d c e t T) slice_stays p.sources);
        }

    put_again : (U : Dia (suc d)) → swap (suc d) (with_in T) (o ∷ e) T U ≡ with_in U
    put_again U =
        swap-suc d (with_in T) o e T U
        ∙ ap₂ (λ (c t : Dia d). replaced d (with_in T) o (o + length T.sings) (slices_swapped d c e t U)) slice_stays p.sources
        ∙ ap (λ (n : ℕ). replaced d (with_in T) o n (im U)) (sym next)
        ∙ replaced_twice d B gB o end begins ends (im T) (good_im T gT p) (im_parallel T gT p) (im U)

    arrow_again : (N : Dia (suc d)) (g : Arr (suc d)) → put (suc d) (with_in T) (o ∷ e) T N g ≡ replacing d B o end (slices_put d C e s T N g)
    arrow_again N g =
        put-suc d (with_in T) o e T N g
        ∙ ap₂ (λ (c t : Dia d). replacing d (with_in T) o (o + length T.sings) (slices_put d c e t T N g)) slice_stays p.sources
        ∙ ap (λ (n : ℕ). replacing d (with_in T) o n (slices_put d C e s T N g)) (sym next)
        ∙ replacing_twice d B gB o end begins ends (im T) (good_im T gT p) (im_parallel T gT p) (slices_put d C e s T N g)

  self : Parallel (suc d) S S
  self = record { sources = refl; targets = refl }

  good_put : (M : Dia (suc d)) (f : Arr (suc d)) → GoodArrow (suc d) S M f
      → GoodArrow (suc d) (with_in S) (with_in M) (replacing d B o end (slices_put d C e s S M f))
  good_put M f g =
      good_replacing d B gB o end begins ends (im S) (im M) (slices_put d C e s S M f)
      (good_arrow_image d s σ π F S M f g refl) (im_parallel S gS self)

  put_composite : (M N : Dia (suc d)) (f g : Arr (suc d)) → GoodArrow (suc d) S M f → GoodArrow (suc d) M N g
      → replacing d B o end (slices_put d C e s S N (comp (suc d) g f))
      ≡ comp (suc d) (replacing d B o end (slices_put d C e s M N g)) (replacing d B o end (slices_put d C e s S M f))
  put_composite M N f g gf gg =
      ap (replacing d B o end) (image_composite d s σ π F S M N f g gf gg refl)
      ∙ sym (replacing_composite d B gB o end begins ends (im S) (im M) (im N) (slices_put d C e s S M f) (slices_put d C e s M N g)
      (good_arrow_image d s σ π F S M f gf refl) (good_arrow_image d s σ π F M N g gg (sym (good_ends (suc d) S M f gf).sources))
      (im_parallel S gS self))

  step : PutsWell (suc d) B (o ∷ e) S
  step = record {
    good = λ T gT p. rw swap-suc (good_replaced d B gB o end begins ends (im T) (good_im T gT p) (im_parallel T gT p));
    parallel = λ T gT p. rw swap-suc (replaced_parallel d B gB o end begins ends (im T) (good_im T gT p) (im_parallel T gT p));
    same = swap-suc d B o e S S ∙ whole;
    inside = λ T gT p. rw swap-suc (inside_again T gT p);
    twice = λ T U gT p.
        ap (λ (W : Dia (suc d)). swap (suc d) W (o ∷ e) T U) (swap-suc d B o e S T) ∙ put_again T gT p U ∙ sym (swap-suc d B o e S U);
    arrow = λ M f g. rw (swap-suc, put-suc) (good_along (suc d) _ _ _ _ _ whole refl (good_put M f g));
    identity = put-suc d B o e S S (ident (suc d) S) ∙ ap (replacing d B o end) (image_identity d s σ π F S gS refl)
        ∙ replacing_identity d B gB o end begins ends (im S) (good_im S gS self) (im_parallel S gS self) ∙ ap (ident (suc d)) whole;
    composite = λ M N f g gf gg.
        let e1 = put-suc d B o e S N (comp (suc d) g f) in
        let e2 = put_composite M N f g gf gg in
        let e3 = put-suc d B o e S M f in
        let e4 = swap-suc d B o e S M in
        let e5 = arrow_again M gg.source (parallel_is_symmetric (suc d) S M (good_ends (suc d) S M f gf)) N g in
        e1 ∙ e2 ∙ sym (ap₂ (comp (suc d)) (ap (λ (W : Dia (suc d)). put (suc d) W (o ∷ e) M N g) e4 ∙ e5) e3);
  }

-- by the offsets
at_zero : OccurrencesPutWell zero
at_zero B [] S gB gS inside = base B S gB gS inside
at_zero B (o ∷ e) S gB gS inside = absurd inside

at_suc : (d : ℕ) → OccurrencesPutWell d → OccurrencesPutWell (suc d)
at_suc d ih B [] S gB gS inside = absurd inside
at_suc d ih B (o ∷ e) S gB gS inside = step d ih B o e S gB gS inside

pub occurrences_put_well : (d : ℕ) → OccurrencesPutWell d
occurrences_put_well zero = at_zero
occurrences_put_well (suc d) = at_suc d (occurrences_put_well d)

-- ---- in lists

pub swaps_have_lists : (d : ℕ) → SwapsHaveLists d
swaps_have_lists d B o e S T gB gS gT i p =
    let ih = occurrences_put_well d in
    let end : ℕ = o + length S.sings in
    rw swap-suc (replaced_has_lists d B gB o end (omega arith) i.fits (slices_swapped d (reg d B o) e (source d S) T)
    (good_im d ih B o e S gB gS i T gT p) (im_parallel d ih B o e S gB gS i T gT p))

pub puts_have_lists : (d : ℕ) → PutsHaveLists d
puts_have_lists d B o e S M f gB i g =
    let ih = occurrences_put_well d in
    let end : ℕ = o + length S.sings in
    let gS = g.source in
    let F = putting_is_functor d ih (reg d B o) e (source d S) (let a = i.fits in good_reg d B gB o (omega arith)) (good_reg d S gS 0 (omega arith)) i.first in
    let n : length (slices_swapped d (reg d B o) e (source d S) M).sings ≡ length M.sings = image-length d (source d S) _ _ F M in
    let q : Arr (suc d) = slices_put d (reg d B o) e (source d S) S M f in
    let lists = replacing_has_lists d B gB o end (omega arith) i.fits (slices_swapped d (reg d B o) e (source d S) S)
    (slices_swapped d (reg d B o) e (source d S) M) q (good_arrow_image d (source d S) _ _ F S M f g refl)
    (im_parallel d ih B o e S gB gS i S gS (record { sources = refl; targets = refl })) in
    rw (swap-suc, put-suc)
    (subst (λ (k : ℕ). HasListsReplacing d B o end k q (replaced d B o end (slices_swapped d (reg d B o) e (source d S) M)) (replacing d B o end q)) n lists)
