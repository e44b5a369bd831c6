-- What a scan of heights knows of those that it has passed.
use Rattle.std.proofs.Common.{◌≡◌, ℕ, ◌+◌, ◌<◌, inl, inr, List, [], ◌∷◌, ◌++◌, length, take, get_or, Ok, Err, refl, sym, ap, ◌∙◌, subst, arith}
use Rattle.std.specs.List.{Contains, Any}
use Rattle.std.specs.List.Sorted.{IsBinarySearchResult}
use Rattle.std.specs.Ordering.{nat_cmp}
use Rattle.std.proofs.lemmas.Bool.{cases_lt}
use Rattle.std.proofs.lemmas.List.{map_push, map_more, get_or_default, length_push, get_or_append_left, get_or_push}
use Rattle.std.proofs.lemmas.List.Sorted.{searched}
use Rattle.diagram_terms.specs.Dual.{IsIncreasing, AreBelow, after}
use Rattle.diagram_terms.proofs.Duals.{length-after, get-after}
use Rattle.diagram_terms.proofs.Injections.{increasing_mono, found_at, contains_at}

pub after_none : (g : List ℕ) → after g [] ≡ []
unfolding after
after_none g = refl

-- one more height of a composite
pub after_more : (g f : List ℕ) (i : ℕ) → i < length f → after g (take (i + 1) f) ≡ after g (take i f) ++ get_or g (get_or f i 0) 0 ∷ []
unfolding after
after_more g f i l = map_more (λ i. get_or g i 0) f i 0 l

pub after_push : (g f : List ℕ) (h : ℕ) → after g (f ++ h ∷ []) ≡ after g f ++ get_or g h 0 ∷ []
unfolding after
after_push g f h = map_push (λ i. get_or g i 0) f h

pub below_none : (m : ℕ) → AreBelow [] m
below_none m = record { below = λ i l. absurd (omega arith) }

pub below_push : (hs : List ℕ) (h m : ℕ) → AreBelow hs m → h < m → AreBelow (hs ++ h ∷ []) m
below_push hs h m b l = record {
  below = λ i k.
      let long : length (hs ++ h ∷ []) ≡ length hs + 1 = length_push hs h in
      elim (cases_lt i (length hs)) [
        | inl p ↦ rw (get_or_append_left hs (h ∷ []) 0 i p) (b.below i p)
        | inr p ↦ (let here : length hs ≡ i = omega arith in rw (get_or_push hs h 0 i here) l)
      ];
}

-- a height of the composite is one of the second list
pub composite_hits : (e g f : List ℕ) → AreBelow g (length e) → after e g ≡ f → (i : ℕ) → i < length f → Contains e (get_or f i 0)
composite_hits e g f b same i l =
    let long : length g ≡ length f = sym (length-after e g) ∙ ap length same in
    let lg : i < length g = omega arith in
    contains_at e (get_or g i 0) (get_or f i 0) (b.below i lg) (sym (get-after e g i lg) ∙ ap (λ (hs : List ℕ). get_or hs i 0) same)

pub all_hit : (e g f : List ℕ) → AreBelow g (length e) → after e g ≡ f → Any (λ h. ¬ Contains e h) f → ⊥
all_hit e g f b same any =
    let here : get_or f any.0 0 ≡ any.1 = get_or_default f any.0 0 any.1 any.2 ∙ any.3 in
    any.4 (subst (λ (h : ℕ). Contains e h) here (composite_hits e g f b same any.0 any.2))

-- a height that the search did not find
pub not_found : (e : List ℕ) (x at : ℕ) → IsIncreasing e → IsBinarySearchResult (λ y. nat_cmp y x) e (Err at) → ¬ Contains e x
not_found e x at up search_gave c =
    let s = searched e x (Err at) search_gave (increasing_mono e up).rises in
    let p = found_at e x c in
    let q = p.2 in
    elim (cases_lt p.0 at) [
      | inl l ↦ (let a = s.1 p.0 l in omega arith)
      | inr l ↦ (let a = s.2 p.0 l p.1 in omega arith)
    ]

pub found : (e : List ℕ) (x at : ℕ) → IsIncreasing e → IsBinarySearchResult (λ y. nat_cmp y x) e (Ok at) → (at < length e) × (get_or e at 0 ≡ x)
found e x at up search_gave = searched e x (Ok at) search_gave (increasing_mono e up).rises
