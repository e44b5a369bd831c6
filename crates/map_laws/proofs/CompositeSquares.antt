-- The squares of a composite g f, for valid arrows f : X → Y and g : Y → Z between valid diagrams.
use Rattle.std.proofs.Common.{◌≡◌, ℕ, zero, suc, ◌+◌, ◌-◌, ◌<◌, ◌≤◌, length, refl, sym, ap, ◌∙◌, arith, inl, inr}
use Rattle.std.proofs.lemmas.Bool.{cases_lt}
use Rattle.diagram_terms.specs.Family.{Dia, Arr, fwd, bwd, height, arrow_reg, arrow_sing}
use Rattle.diagram_terms.specs.Dual.{dual}
use Rattle.diagram_terms.specs.Composite.{comp}
use Rattle.diagram_terms.specs.Valid.{ValidArrow, Valid, Commutes}
use Rattle.diagram_terms.proofs.Duals.{dual_mono, dual-lt, fibre_low, fibre_high}
use Rattle.diagram_terms.proofs.MonotoneParts.{dual-ge, dual_constant}
use Rattle.diagram_terms.proofs.Parts.{comp-reg, comp-sing}
use Rattle.diagram_terms.proofs.Squares.{first_at, last_at, commutes_by}
use Rattle.map_laws.proofs.ValidParts.{dual_within, height_within, composite-dual}
use Rattle.map_laws.proofs.Associativity.{associative}

module _ (d : ℕ) (X Y Z : Dia (suc d)) (f g : Arr (suc d))
    (vX : Valid (suc d) X) (vY : Valid (suc d) Y) (vZ : Valid (suc d) Z)
    (vf : ValidArrow (suc d) X Y f) (vg : ValidArrow (suc d) Y Z g) where
  -- ---- the ways to Z through a height of Y, from its left and from its right

  unfoldable pub enter : ℕ → Arr d
  enter j = comp d (arrow_sing d g j) (comp d (fwd d Y j) (arrow_reg d f j))

  unfoldable pub leave : ℕ → Arr d
  leave j = comp d (arrow_sing d g j) (comp d (bwd d Y j) (arrow_reg d f (suc j)))

  -- two heights that follow one another and go to one height of Z
  pub leave-next : (k j : ℕ) → k < length Z.sings → dual g.heights k ≤ j → suc j < dual g.heights (suc k)
      → leave j ≡ enter (suc j)
  unfolding enter leave
  leave-next k j lk low high =
      let top : dual g.heights (suc k) ≤ length Y.sings = dual_within d Y Z g vg (suc k) in
      let r : Arr d = arrow_reg d f (suc j) in
      let vr = vf.regs (suc j) (omega arith) in
      let here : j < length Y.sings = omega arith in
      let next : suc j < length Y.sings = omega arith in
      let e1 = associative d _ _ _ _ r (bwd d Y j) (arrow_sing d g j) vr (vY.bwds j here) (vg.sings j here) in
      let e2 = (vg.squares k lk).inner j low high in
      let e3 = associative d _ _ _ _ r (fwd d Y (suc j)) (arrow_sing d g (suc j)) vr (vY.fwds (suc j) next) (vg.sings (suc j) next) in
      e1 ∙ ap (λ (t : Arr d). comp d t r) e2 ∙ sym e3

  -- a height to which no height of X goes
  pub enter-missed : (j : ℕ) → j < length Y.sings → dual f.heights j ≡ dual f.heights (suc j) → enter j ≡ leave j
  unfolding enter leave
  enter-missed j l e = ap (λ (t : Arr d). comp d (arrow_sing d g j) t) ((vf.squares j l).empty e)

  -- over heights that go to one height of Z, and to which no height of X goes
  enter_run : (n k i j : ℕ) → k < length Z.sings → j ≡ n + i → dual g.heights k ≤ i → j < dual g.heights (suc k)
      → dual f.heights i ≡ dual f.heights j → enter i ≡ enter j
  enter_run zero k i j lk e low high same = ap enter (omega arith)
  enter_run (suc n) k i j lk e low high same =
      let top : dual g.heights (suc k) ≤ length Y.sings = dual_within d Y Z g vg (suc k) in
      let m = dual_constant f.heights vf.monotone i j (suc i) same (omega arith) (omega arith) in
      enter-missed i (omega arith) (sym m) ∙ leave-next k i lk low (omega arith)
      ∙ enter_run n k (suc i) j lk (omega arith) (omega arith) high (m ∙ same)

  pub enter-same : (k i j : ℕ) → k < length Z.sings → i ≤ j → dual g.heights k ≤ i → j < dual g.heights (suc k)
      → dual f.heights i ≡ dual f.heights j → enter i ≡ enter j
  enter-same k i j lk l low high same = enter_run (j - i) k i j lk (omega arith) low high same

  pub leave-same : (k i j : ℕ) → k < length Z.sings → i ≤ j → dual g.heights k ≤ i → j < dual g.heights (suc k)
      → dual f.heights (suc i) ≡ dual f.heights (suc j) → leave i ≡ leave j
  leave-same k i j lk l low high same = elim (cases_lt i j) [
    | inr p ↦ ap leave (omega arith)
    | inl p ↦ (
        let top : dual g.heights (suc k) ≤ length Y.sings = dual_within d Y Z g vg (suc k) in
        let m = dual_constant f.heights vf.monotone (suc i) (suc j) j same (omega arith) (omega arith) in
        leave-next k i lk low (omega arith) ∙ enter-same k (suc i) j lk (omega arith) (omega arith) high (sym m)
        ∙ enter-missed j (omega arith) (m ∙ same))
  ]

  -- ---- the two outer edges of the square at a height of Z

  unfoldable pub left_edge : ℕ → Arr d
  left_edge k = comp d (fwd d Z k) (comp d (arrow_reg d g k) (arrow_reg d f (dual g.heights k)))

  unfoldable pub right_edge : ℕ → Arr d
  right_edge k = comp d (bwd d Z k) (comp d (arrow_reg d g (suc k)) (arrow_reg d f (dual g.heights (suc k))))

  pub fwd-composite : (k : ℕ) → k < length Z.sings
      → comp d (fwd d Z k) (arrow_reg d (comp (suc d) g f) k) ≡ left_edge k
  unfolding left_edge
  fwd-composite k l = ap (λ (t : Arr d). comp d (fwd d Z k) t) (comp-reg d g f k (let a = vg.regs_len in omega arith))

  pub bwd-composite : (k : ℕ) → k < length Z.sings
      → comp d (bwd d Z k) (arrow_reg d (comp (suc d) g f) (suc k)) ≡ right_edge k
  unfolding right_edge
  bwd-composite k l = ap (λ (t : Arr d). comp d (bwd d Z k) t) (comp-reg d g f (suc k) (let a = vg.regs_len in omega arith))

  -- through the first and the last height of Y that goes there
  pub left_edge-enter : (k j : ℕ) → k < length Z.sings → dual g.heights k ≡ j → j < dual g.heights (suc k)
      → left_edge k ≡ enter j
  unfolding left_edge enter
  left_edge-enter k j lk e l =
      let top : dual g.heights (suc k) ≤ length Y.sings = dual_within d Y Z g vg (suc k) in
      let lj : j < length Y.sings = omega arith in
      let r : Arr d = arrow_reg d f (dual g.heights k) in
      let vr = vf.regs (dual g.heights k) (omega arith) in
      let e1 = associative d _ _ _ _ r (arrow_reg d g k) (fwd d Z k) vr (vg.regs k (omega arith)) (vZ.fwds k lk) in
      let e2 = first_at (vg.squares k lk) j e l in
      let e3 = associative d _ _ _ _ (arrow_reg d f j) (fwd d Y j) (arrow_sing d g j) (vf.regs j (omega arith)) (vY.fwds j lj) (vg.sings j lj) in
      e1 ∙ ap (λ (t : Arr d). comp d t r) e2
      ∙ ap (λ (n : ℕ). comp d (comp d (arrow_sing d g j) (fwd d Y j)) (arrow_reg d f n)) e ∙ sym e3

  pub right_edge-leave : (k j : ℕ) → k < length Z.sings → dual g.heights k ≤ j → suc j ≡ dual g.heights (suc k)
      → right_edge k ≡ leave j
  unfolding right_edge leave
  right_edge-leave k j lk l e =
      let top : dual g.heights (suc k) ≤ length Y.sings = dual_within d Y Z g vg (suc k) in
      let lj : j < length Y.sings = omega arith in
      let r : Arr d = arrow_reg d f (dual g.heights (suc k)) in
      let vr = vf.regs (dual g.heights (suc k)) top in
      let e1 = associative d _ _ _ _ r (arrow_reg d g (suc k)) (bwd d Z k) vr (vg.regs (suc k) lk) (vZ.bwds k lk) in
      let e2 = last_at (vg.squares k lk) j l e in
      let e3 = associative d _ _ _ _ (arrow_reg d f (suc j)) (bwd d Y j) (arrow_sing d g j) (vf.regs (suc j) lj) (vY.bwds j lj) (vg.sings j lj) in
      e1 ∙ ap (λ (t : Arr d). comp d t r) e2
      ∙ ap (λ (n : ℕ). comp d (comp d (arrow_sing d g j) (bwd d Y j)) (arrow_reg d f n)) (sym e) ∙ sym e3

  -- where no height of Y goes there
  pub left_edge-missed : (k : ℕ) → k < length Z.sings → dual g.heights k ≡ dual g.heights (suc k) → left_edge k ≡ right_edge k
  unfolding left_edge right_edge
  left_edge-missed k lk e =
      let top : dual g.heights (suc k) ≤ length Y.sings = dual_within d Y Z g vg (suc k) in
      let r : Arr d = arrow_reg d f (dual g.heights k) in
      let s : Arr d = arrow_reg d f (dual g.heights (suc k)) in
      let vr = vf.regs (dual g.heights k) (omega arith) in
      let vs = vf.regs (dual g.heights (suc k)) top in
      let e1 = associative d _ _ _ _ r (arrow_reg d g k) (fwd d Z k) vr (vg.regs k (omega arith)) (vZ.fwds k lk) in
      let e2 = (vg.squares k lk).empty e in
      let e3 = associative d _ _ _ _ s (arrow_reg d g (suc k)) (bwd d Z k) vs (vg.regs (suc k) lk) (vZ.bwds k lk) in
      e1 ∙ ap (λ (t : Arr d). comp d t r) e2
      ∙ ap (λ (n : ℕ). comp d (comp d (bwd d Z k) (arrow_reg d g (suc k))) (arrow_reg d f n)) e ∙ sym e3

  -- ---- the ways to Z beside a height of X

  -- a height of X that is the first, or the last, to go where it goes
  enter-first : (i : ℕ) → i < length X.sings → dual f.heights (height d f i) ≡ i
      → enter (height d f i) ≡ comp d (arrow_sing d (comp (suc d) g f) i) (fwd d X i)
  unfolding enter
  enter-first i li e =
      let lf : i < length f.sings = let a = vf.sings_len in omega arith in
      let lh : i < length f.heights = let a = vf.heights_len in omega arith in
      let j : ℕ = height d f i in
      let lj : j < length Y.sings = height_within d X Y f vf i li in
      let e1 = first_at (vf.squares j lj) i e (fibre_high f.heights vf.monotone i j lh refl) in
      let e2 = associative d _ _ _ _ (fwd d X i) (arrow_sing d f i) (arrow_sing d g j) (vX.fwds i li) (vf.sings i li) (vg.sings j lj) in
      ap (λ (t : Arr d). comp d (arrow_sing d g j) t) e1 ∙ e2
      ∙ ap (λ (t : Arr d). comp d t (fwd d X i)) (sym (comp-sing d g f i lf))

  leave-last : (i : ℕ) → i < length X.sings → suc i ≡ dual f.heights (suc (height d f i))
      → leave (height d f i) ≡ comp d (arrow_sing d (comp (suc d) g f) i) (bwd d X i)
  unfolding leave
  leave-last i li e =
      let lf : i < length f.sings = let a = vf.sings_len in omega arith in
      let j : ℕ = height d f i in
      let lj : j < length Y.sings = height_within d X Y f vf i li in
      let e1 = last_at (vf.squares j lj) i (fibre_low f.heights vf.monotone i j refl) e in
      let e2 = associative d _ _ _ _ (bwd d X i) (arrow_sing d f i) (arrow_sing d g j) (vX.bwds i li) (vf.sings i li) (vg.sings j lj) in
      ap (λ (t : Arr d). comp d (arrow_sing d g j) t) e1 ∙ e2
      ∙ ap (λ (t : Arr d). comp d t (bwd d X i)) (sym (comp-sing d g f i lf))

  -- between two heights of X that go to one height of Y
  sing-inner : (i : ℕ) → suc i < length X.sings → height d f i ≡ height d f (suc i)
      → comp d (arrow_sing d (comp (suc d) g f) i) (bwd d X i)
      ≡ comp d (arrow_sing d (comp (suc d) g f) (suc i)) (fwd d X (suc i))
  sing-inner i li same =
      let here : i < length X.sings = omega arith in
      let lf : suc i < length f.sings = let a = vf.sings_len in omega arith in
      let lh : suc i < length f.heights = let a = vf.heights_len in omega arith in
      let j : ℕ = height d f i in
      let n : ℕ = height d f (suc i) in
      let lj : j < length Y.sings = height_within d X Y f vf i here in
      let ln : n < length Y.sings = height_within d X Y f vf (suc i) li in
      let high : suc i < dual f.heights (suc j) = fibre_high f.heights vf.monotone (suc i) j lh (sym same) in
      let e1 = (vf.squares j lj).inner i (fibre_low f.heights vf.monotone i j refl) high in
      let e2 = associative d _ _ _ _ (bwd d X i) (arrow_sing d f i) (arrow_sing d g j) (vX.bwds i here) (vf.sings i here) (vg.sings j lj) in
      let e3 = associative d _ _ _ _ (fwd d X (suc i)) (arrow_sing d f (suc i)) (arrow_sing d g n) (vX.fwds (suc i) li) (vf.sings (suc i) li) (vg.sings n ln) in
      ap (λ (t : Arr d). comp d t (bwd d X i)) (comp-sing d g f i (omega arith))
      ∙ sym e2 ∙ ap (λ (t : Arr d). comp d (arrow_sing d g j) t) e1
      ∙ ap (λ (n : ℕ). comp d (arrow_sing d g n) (comp d (arrow_sing d f (suc i)) (fwd d X (suc i)))) same
      ∙ e3 ∙ ap (λ (t : Arr d). comp d t (fwd d X (suc i))) (sym (comp-sing d g f (suc i) lf))

  -- ---- the square at a height k of Z, over the heights of X from the dual of the dual of k on

  -- the heights to which a height of X goes that lies over k
  over : (k i : ℕ) → i < length X.sings
      → dual f.heights (dual g.heights k) ≤ i → i < dual f.heights (dual g.heights (suc k))
      → (dual g.heights k ≤ height d f i) × (height d f i < dual g.heights (suc k))
      × (dual f.heights (height d f i) ≤ i) × (i < dual f.heights (suc (height d f i)))
  over k i li low high =
      let lh : i < length f.heights = let a = vf.heights_len in omega arith in (
        dual-ge f.heights vf.monotone i (dual g.heights k) low lh,
        dual-lt f.heights vf.monotone i (dual g.heights (suc k)) high,
        fibre_low f.heights vf.monotone i (height d f i) refl,
        fibre_high f.heights vf.monotone i (height d f i) lh refl,
      )

  square_empty : (k : ℕ) → k < length Z.sings
      → dual f.heights (dual g.heights k) ≡ dual f.heights (dual g.heights (suc k)) → left_edge k ≡ right_edge k
  square_empty k lk e = elim (cases_lt (dual g.heights k) (dual g.heights (suc k))) [
    | inr p ↦ left_edge-missed k lk (let m = dual_mono g.heights vg.monotone k (suc k) (omega arith) in omega arith)
    | inl p ↦ (
        let j : ℕ = dual g.heights (suc k) - 1 in
        let top : dual g.heights (suc k) ≤ length Y.sings = dual_within d Y Z g vg (suc k) in
        let s : suc j ≡ dual g.heights (suc k) = omega arith in
        let m = dual_constant f.heights vf.monotone (dual g.heights k) (dual g.heights (suc k)) j e (omega arith) (omega arith) in
        let n : dual f.heights (suc j) ≡ dual f.heights (dual g.heights (suc k)) = ap (dual f.heights) s in
        left_edge-enter k (dual g.heights k) lk refl p
        ∙ enter-same k (dual g.heights k) j lk (omega arith) (omega arith) (omega arith) (sym m)
        ∙ enter-missed j (omega arith) (m ∙ e ∙ sym n) ∙ sym (right_edge-leave k j lk (omega arith) s))
  ]

  square_first : (k i : ℕ) → k < length Z.sings
      → dual f.heights (dual g.heights k) ≡ i → i < dual f.heights (dual g.heights (suc k))
      → left_edge k ≡ comp d (arrow_sing d (comp (suc d) g f) i) (fwd d X i)
  square_first k i lk e l =
      let within = dual_within d X Y f vf (dual g.heights (suc k)) in
      let o = over k i (omega arith) (omega arith) l in
      let m = dual_mono f.heights vf.monotone (dual g.heights k) (height d f i) o.0 in
      left_edge-enter k (dual g.heights k) lk refl (omega arith)
      ∙ enter-same k (dual g.heights k) (height d f i) lk o.0 (omega arith) o.1 (omega arith)
      ∙ enter-first i (omega arith) (omega arith)

  square_last : (k i : ℕ) → k < length Z.sings
      → dual f.heights (dual g.heights k) ≤ i → suc i ≡ dual f.heights (dual g.heights (suc k))
      → right_edge k ≡ comp d (arrow_sing d (comp (suc d) g f) i) (bwd d X i)
  square_last k i lk l e =
      let within = dual_within d X Y f vf (dual g.heights (suc k)) in
      let o = over k i (omega arith) l (omega arith) in
      let j : ℕ = dual g.heights (suc k) - 1 in
      let s : suc j ≡ dual g.heights (suc k) = omega arith in
      let m = dual_mono f.heights vf.monotone (suc (height d f i)) (suc j) (omega arith) in
      let n : dual f.heights (suc j) ≡ dual f.heights (dual g.heights (suc k)) = ap (dual f.heights) s in
      right_edge-leave k j lk (omega arith) s
      ∙ sym (leave-same k (height d f i) j lk (omega arith) o.0 (omega arith) (omega arith))
      ∙ leave-last i (omega arith) (omega arith)

  square_inner : (k i : ℕ) → k < length Z.sings
      → dual f.heights (dual g.heights k) ≤ i → suc i < dual f.heights (dual g.heights (suc k))
      → comp d (arrow_sing d (comp (suc d) g f) i) (bwd d X i)
      ≡ comp d (arrow_sing d (comp (suc d) g f) (suc i)) (fwd d X (suc i))
  square_inner k i lk low high =
      let within = dual_within d X Y f vf (dual g.heights (suc k)) in
      let o = over k i (omega arith) low (omega arith) in
      let p = over k (suc i) (omega arith) (omega arith) high in
      let up = vf.monotone.rises i (suc i) (omega arith) (let a = vf.heights_len in omega arith) in
      elim (cases_lt (height d f i) (height d f (suc i))) [
        | inl q ↦ (
            let m = dual_mono f.heights vf.monotone (suc (height d f i)) (height d f (suc i)) q in
            sym (leave-last i (omega arith) (omega arith))
            ∙ leave-next k (height d f i) lk o.0 (omega arith)
            ∙ enter-same k (suc (height d f i)) (height d f (suc i)) lk q (omega arith) p.1 (omega arith)
            ∙ enter-first (suc i) (omega arith) (omega arith))
        | inr q ↦ sing-inner i (omega arith) (omega arith)
      ]

  pub composite_square : (k : ℕ) → k < length Z.sings → Commutes d X Z (comp (suc d) g f) k
  composite_square k lk =
      let low = composite-dual d X Y Z f g vf vg k in
      let high = composite-dual d X Y Z f g vf vg (suc k) in
      commutes_by d X Z (comp (suc d) g f) k
      (λ e. fwd-composite k lk ∙ square_empty k lk (omega arith) ∙ sym (bwd-composite k lk))
      (λ i e l. fwd-composite k lk ∙ square_first k i lk (omega arith) (omega arith))
      (λ i l e. bwd-composite k lk ∙ square_last k i lk (omega arith) (omega arith))
      (λ i l e. square_inner k i lk (omega arith) (omega arith))
