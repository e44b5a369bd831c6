-- For f : X → Y, what stands in the middle, and the parts of f: their slices and legs, by cases on the height.
use Rattle.std.proofs.Common.{◌≡◌, ℕ, suc, ◌<◌, ◌≤◌, ◌⊎◌, List, length, nat_lt, cond, refl, sym, ap, ◌∙◌, arith, inl, inr}
use Rattle.std.proofs.lemmas.Bool.{cases_lt, cond-true, cond-false, lt-ltb, le-ltb}
use Rattle.diagram_terms.specs.Family.{Dia, Arr, no_dia, no_arr, reg, sing, fwd, bwd, height, arrow_reg, arrow_sing}
use Rattle.diagram_terms.specs.Dual.{IsIncreasing, upto, tab, dual}
use Rattle.diagram_terms.specs.Composite.{comp, ident}
use Rattle.diagram_terms.specs.Valid.{ValidArrow}
use Rattle.diagram_terms.proofs.Duals.{dual_mono, length-tab, get-tab, in_fibre}
use Rattle.diagram_terms.proofs.Injections.{increasing-dual_next}
use Rattle.map_laws.proofs.ValidParts.{dual_within}

-- x where a height goes to k, and y where none does
unfoldable pub at_hit : {A : Type 0} → List ℕ → ℕ → A → A → A
at_hit hs k x y = cond (nat_lt (dual hs k) (dual hs (suc k))) x y

pub at_hit-yes : {A : Type 0} (hs : List ℕ) (k : ℕ) (x y : A) → dual hs k < dual hs (suc k) → at_hit hs k x y ≡ x
unfolding at_hit
at_hit-yes hs k x y l = cond-true (nat_lt (dual hs k) (dual hs (suc k))) x y (lt-ltb (dual hs k) (dual hs (suc k)) l)

pub at_hit-no : {A : Type 0} (hs : List ℕ) (k : ℕ) (x y : A) → dual hs (suc k) ≤ dual hs k → at_hit hs k x y ≡ y
unfolding at_hit
at_hit-no hs k x y l = cond-false (nat_lt (dual hs k) (dual hs (suc k))) x y (le-ltb (dual hs k) (dual hs (suc k)) l)

module _ (d : ℕ) (X Y : Dia (suc d)) (f : Arr (suc d)) where
  -- Y with the heights that f hits as in X, and with identities of the slices of X at the others
  unfoldable pub middle : Dia (suc d)
  middle = record {
    regs = tab (λ j. reg d X (dual f.heights j)) (suc (length Y.sings));
    sings = tab (λ k. at_hit f.heights k (sing d X (dual f.heights k)) (reg d X (dual f.heights k))) (length Y.sings);
    fwds = tab (λ k. at_hit f.heights k (fwd d X (dual f.heights k)) (ident d (reg d X (dual f.heights k)))) (length Y.sings);
    bwds = tab (λ k. at_hit f.heights k (bwd d X (dual f.heights k)) (ident d (reg d X (dual f.heights k)))) (length Y.sings);
  }

  unfoldable pub simple_part : Arr (suc d)
  simple_part = record {
    heights = f.heights;
    regs = tab (λ j. ident d (reg d X (dual f.heights j))) (suc (length Y.sings));
    sings = tab (λ i. ident d (sing d X i)) (length X.sings);
  }

  unfoldable pub parallel_part : Arr (suc d)
  parallel_part = record {
    heights = upto (length Y.sings);
    regs = f.regs;
    sings = tab (λ k. at_hit f.heights k (arrow_sing d f (dual f.heights k)) (comp d (fwd d Y k) (arrow_reg d f k))) (length Y.sings);
  }

  -- ---- the middle

  pub middle-regs_len : length middle.regs ≡ suc (length Y.sings)
  unfolding middle
  middle-regs_len = length-tab _ (suc (length Y.sings))

  pub middle-sings_len : length middle.sings ≡ length Y.sings
  unfolding middle
  middle-sings_len = length-tab _ (length Y.sings)

  pub middle-fwds_len : length middle.fwds ≡ length Y.sings
  unfolding middle
  middle-fwds_len = length-tab _ (length Y.sings)

  pub middle-bwds_len : length middle.bwds ≡ length Y.sings
  unfolding middle
  middle-bwds_len = length-tab _ (length Y.sings)

  pub middle-reg : (j : ℕ) → j ≤ length Y.sings → reg d middle j ≡ reg d X (dual f.heights j)
  unfolding middle
  middle-reg j l = get-tab (λ j. reg d X (dual f.heights j)) (suc (length Y.sings)) j (no_dia d) (omega arith)

  pub middle-sing : (k : ℕ) → k < length Y.sings
      → sing d middle k ≡ at_hit f.heights k (sing d X (dual f.heights k)) (reg d X (dual f.heights k))
  unfolding middle
  middle-sing k l = get-tab (λ k. at_hit f.heights k (sing d X (dual f.heights k)) (reg d X (dual f.heights k))) (length Y.sings) k (no_dia d) l

  pub middle-fwd : (k : ℕ) → k < length Y.sings
      → fwd d middle k ≡ at_hit f.heights k (fwd d X (dual f.heights k)) (ident d (reg d X (dual f.heights k)))
  unfolding middle
  middle-fwd k l =
      get-tab (λ k. at_hit f.heights k (fwd d X (dual f.heights k)) (ident d (reg d X (dual f.heights k)))) (length Y.sings) k (no_arr d) l

  pub middle-bwd : (k : ℕ) → k < length Y.sings
      → bwd d middle k ≡ at_hit f.heights k (bwd d X (dual f.heights k)) (ident d (reg d X (dual f.heights k)))
  unfolding middle
  middle-bwd k l =
      get-tab (λ k. at_hit f.heights k (bwd d X (dual f.heights k)) (ident d (reg d X (dual f.heights k)))) (length Y.sings) k (no_arr d) l

  -- ---- the simple part

  pub simple_part-heights : simple_part.heights ≡ f.heights
  unfolding simple_part
  simple_part-heights = refl

  pub simple_part-regs_len : length simple_part.regs ≡ suc (length Y.sings)
  unfolding simple_part
  simple_part-regs_len = length-tab _ (suc (length Y.sings))

  pub simple_part-sings_len : length simple_part.sings ≡ length X.sings
  unfolding simple_part
  simple_part-sings_len = length-tab _ (length X.sings)

  pub simple_part-reg : (j : ℕ) → j ≤ length Y.sings → arrow_reg d simple_part j ≡ ident d (reg d X (dual f.heights j))
  unfolding simple_part
  simple_part-reg j l = get-tab (λ j. ident d (reg d X (dual f.heights j))) (suc (length Y.sings)) j (no_arr d) (omega arith)

  pub simple_part-sing : (i : ℕ) → i < length X.sings → arrow_sing d simple_part i ≡ ident d (sing d X i)
  unfolding simple_part
  simple_part-sing i l = get-tab (λ i. ident d (sing d X i)) (length X.sings) i (no_arr d) l

  -- ---- the parallel part

  pub parallel_part-heights : parallel_part.heights ≡ upto (length Y.sings)
  unfolding parallel_part
  parallel_part-heights = refl

  pub parallel_part-regs : parallel_part.regs ≡ f.regs
  unfolding parallel_part
  parallel_part-regs = refl

  pub parallel_part-reg : (j : ℕ) → arrow_reg d parallel_part j ≡ arrow_reg d f j
  unfolding parallel_part
  parallel_part-reg j = refl

  pub parallel_part-sings_len : length parallel_part.sings ≡ length Y.sings
  unfolding parallel_part
  parallel_part-sings_len = length-tab _ (length Y.sings)

  pub parallel_part-sing : (k : ℕ) → k < length Y.sings
      → arrow_sing d parallel_part k ≡ at_hit f.heights k (arrow_sing d f (dual f.heights k)) (comp d (fwd d Y k) (arrow_reg d f k))
  unfolding parallel_part
  parallel_part-sing k l =
      get-tab (λ k. at_hit f.heights k (arrow_sing d f (dual f.heights k)) (comp d (fwd d Y k) (arrow_reg d f k))) (length Y.sings) k (no_arr d) l

  -- ---- a height k of Y to which a height of X goes, and one to which none goes

  pub record IsHit (k : ℕ) : Type 0 where
    pub within : dual f.heights k < length X.sings
    pub next : dual f.heights (suc k) ≡ suc (dual f.heights k)
    pub goes : height d f (dual f.heights k) ≡ k
    pub sing_is : sing d middle k ≡ sing d X (dual f.heights k)
    pub fwd_is : fwd d middle k ≡ fwd d X (dual f.heights k)
    pub bwd_is : bwd d middle k ≡ bwd d X (dual f.heights k)
    pub part_is : arrow_sing d parallel_part k ≡ arrow_sing d f (dual f.heights k)

  pub record IsMissed (k : ℕ) : Type 0 where
    pub missed : dual f.heights k ≡ dual f.heights (suc k)
    pub sing_is : sing d middle k ≡ reg d X (dual f.heights k)
    pub fwd_is : fwd d middle k ≡ ident d (reg d X (dual f.heights k))
    pub bwd_is : bwd d middle k ≡ ident d (reg d X (dual f.heights k))
    pub part_is : arrow_sing d parallel_part k ≡ comp d (fwd d Y k) (arrow_reg d f k)

  pub hit_or_missed : ValidArrow (suc d) X Y f → IsIncreasing f.heights → (k : ℕ) → k < length Y.sings → IsHit k ⊎ IsMissed k
  hit_or_missed v s k l =
      let c : ℕ = dual f.heights k in
      let up = dual_mono f.heights v.monotone k (suc k) (omega arith) in
      let top = dual_within d X Y f v (suc k) in
      elim (cases_lt c (dual f.heights (suc k))) [
        | inl p ↦ (
            let at : height d f c ≡ k = in_fibre f.heights v.monotone c k (omega arith) p in
            inl (record {
              within = omega arith;
              next = ap (λ (n : ℕ). dual f.heights (suc n)) (sym at)
                  ∙ increasing-dual_next f.heights s c (let a = v.heights_len in omega arith);
              goes = at;
              sing_is = middle-sing k l ∙ at_hit-yes f.heights k _ _ p;
              fwd_is = middle-fwd k l ∙ at_hit-yes f.heights k _ _ p;
              bwd_is = middle-bwd k l ∙ at_hit-yes f.heights k _ _ p;
              part_is = parallel_part-sing k l ∙ at_hit-yes f.heights k _ _ p;
            }))
        | inr p ↦ inr (record {
          missed = omega arith;
          sing_is = middle-sing k l ∙ at_hit-no f.heights k _ _ p;
          fwd_is = middle-fwd k l ∙ at_hit-no f.heights k _ _ p;
          bwd_is = middle-bwd k l ∙ at_hit-no f.heights k _ _ p;
          part_is = parallel_part-sing k l ∙ at_hit-no f.heights k _ _ p;
        })
      ]
