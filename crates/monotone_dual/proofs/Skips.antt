-- What the injection has so far, while the heights are gone through.
use Rattle.std.proofs.Common.{◌≡◌, ℕ, suc, ◌+◌, ◌<◌, ◌≤◌, ◌⊎◌, inl, inr, List, [], ◌∷◌, ◌++◌, length, get_or, sym, ap, ◌∙◌, subst, arith, add-one}
use Rattle.std.specs.List.{Contains}
use Rattle.std.proofs.lemmas.Bool.{cases_lt}
use Rattle.std.proofs.lemmas.List.{length_push, get_or_append_left, get_or_push}
use Rattle.std.proofs.lemmas.List.Elements.{Contains-append_left, Contains-push, Contains-push_cases}
use Rattle.diagram_terms.specs.Dual.{IsIncreasing, AreBelow, dual}
use Rattle.diagram_terms.proofs.Duals.{dual_is, dual_full, dual-zero, dual-lt, lt-dual, dual-le-length}
use Rattle.diagram_terms.proofs.Injections.{increasing_mono, increasing-nil, increasing-push, increasing-dual_next, contains_at, below_contained, contains_or_not, missed_where_dual_stays}
use Rattle.monotone_dual.specs.Injections.{IsSkip}

-- of the heights below `height`, the first `next` that are dropped were left out and the others kept
pub record IsKept (dropped : List ℕ) (height next : ℕ) (kept : List ℕ) : Type 0 where
  pub passed : next ≡ dual dropped height
  pub skips : IsSkip height dropped kept
  pub count : length kept + next ≡ height

pub kept_none : (dropped : List ℕ) → IsIncreasing dropped → IsKept dropped 0 0 []
kept_none dropped up = record {
  passed = sym (dual-zero dropped (increasing_mono dropped up));
  skips = record {
    increasing = increasing-nil;
    below = record { below = λ i l. absurd (omega arith) };
    hit = λ h l. absurd (omega arith);
  };
  count = omega arith;
}

module _ (dropped : List ℕ) (up : IsIncreasing dropped) (height next : ℕ) (kept : List ℕ) (so_far : IsKept dropped height next kept) where
  -- heights that stay below stay so
  still_below : (kept' : List ℕ) → AreBelow kept' height → AreBelow kept' (height + 1)
  still_below kept' b = record { below = λ i l. let a = b.below i l in omega arith }

  -- the height is dropped
  pub kept_without : next < length dropped → get_or dropped next 0 ≡ height → IsKept dropped (height + 1) (next + 1) kept
  kept_without l e =
      let s = so_far.skips in
      let step : dual dropped (suc (get_or dropped next 0)) ≡ suc next = increasing-dual_next dropped up next l in
      let above : suc (get_or dropped next 0) ≡ height + 1 = omega arith in
      let stepped : dual dropped (suc (get_or dropped next 0)) ≡ next + 1 = omega arith in
      record {
        passed = sym stepped ∙ ap (λ (n : ℕ). dual dropped n) above;
        skips = record {
          increasing = s.increasing;
          below = still_below kept s.below;
          hit = λ h k. elim (cases_lt h height) [
            | inl p ↦ s.hit h p
            | inr p ↦ (let here : height ≡ h = omega arith in (
              λ c. absurd (let a : h < height = below_contained kept height h s.below c in omega arith),
              λ absent. absurd (absent (contains_at dropped next h l (e ∙ here))),
            ))
          ];
        };
        count = let c = so_far.count in omega arith;
      }

  -- the dropped heights that were passed are those below the next height too
  stays : (next < length dropped → get_or dropped next 0 ≡ height → ⊥) → dual dropped (suc height) ≡ next
  stays apart =
      let mono = increasing_mono dropped up in
      let e = so_far.passed in
      let long : dual dropped height ≤ length dropped = dual-le-length dropped height in
      dual_is dropped mono (suc height) next (omega arith)
      (λ i l. let a : get_or dropped i 0 < height = dual-lt dropped mono i height (omega arith) in omega arith)
      (λ l. elim (cases_lt (get_or dropped next 0) (suc height)) [
        | inr p ↦ p
        | inl p ↦ elim (cases_lt (get_or dropped next 0) height) [
          | inl q ↦ absurd (let a : next < dual dropped height = lt-dual dropped mono next height l q in omega arith)
          | inr q ↦ absurd (apart l (omega arith))
        ]
      ])

  -- the height is kept
  pub kept_with : (next < length dropped → get_or dropped next 0 ≡ height → ⊥) → IsKept dropped (height + 1) next (kept ++ height ∷ [])
  kept_with apart =
      let s = so_far.skips in
      let e = stays apart in
      let absent : ¬ Contains dropped height =
      missed_where_dual_stays dropped (increasing_mono dropped up) height (sym so_far.passed ∙ sym e) in
      let long = length_push kept height in
      record {
        passed = rw add-one (sym e);
        skips = record {
          increasing = increasing-push kept height s.increasing s.below;
          below = record {
            below = λ i l. elim (cases_lt i (length kept)) [
              | inl p ↦ rw (get_or_append_left kept (height ∷ []) 0 i p) (let a = s.below.below i p in omega arith)
              | inr p ↦ (let here : length kept ≡ i = omega arith in rw (get_or_push kept height 0 i here) (omega arith))
            ];
          };
          hit = λ h k. elim (cases_lt h height) [
            | inl p ↦ (
              λ c. (s.hit h p).0 (elim (Contains-push_cases kept height h c) [ inl d ↦ d | inr d ↦ absurd (omega arith) ]),
              λ absent2. Contains-append_left kept (height ∷ []) h ((s.hit h p).1 absent2),
            )
            | inr p ↦ (let here : height ≡ h = omega arith in (
              λ c. subst (λ (n : ℕ). ¬ Contains dropped n) here absent,
              λ absent2. subst (λ (n : ℕ). Contains (kept ++ height ∷ []) n) here (Contains-push kept height),
            ))
          ];
        };
        count = let c = so_far.count in omega arith;
      }

  -- all heights were gone through
  pub kept_all : (m : ℕ) → AreBelow dropped m → height ≡ m → IsSkip m dropped kept × (length kept + length dropped ≡ m)
  kept_all m b e =
      let full : dual dropped m ≡ length dropped = dual_full dropped (increasing_mono dropped up) m m b (omega arith) in
      let passed : next ≡ dual dropped m = so_far.passed ∙ ap (λ (n : ℕ). dual dropped n) e in
      let count = so_far.count in
      (subst (λ (n : ℕ). IsSkip n dropped kept) e so_far.skips, omega arith)

-- each height is kept or dropped
pub kept_or_dropped : (m : ℕ) (dropped kept : List ℕ) → IsSkip m dropped kept → (h : ℕ) → h < m → Contains kept h ⊎ Contains dropped h
kept_or_dropped m dropped kept s h l = elim (contains_or_not dropped h) [
  | inl c ↦ inr c
  | inr absent ↦ inl ((s.hit h l).1 absent)
]
