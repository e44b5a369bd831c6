-- The heights of a cocone over a shape: one for each rank.
use Rattle.std.proofs.Common.{◌≡◌, ℕ, suc, ◌-◌, ◌<◌, ◌≤◌, List, length, get_or, refl, sym, ap, ◌∙◌, subst, arith}
use Rattle.std.specs.List.{Contains}
use Rattle.diagram_terms.specs.declared.place.Height.TheVariants as slice
use Rattle.diagram_terms.specs.Family.{Dia, Arr, height, arrow_reg, arrow_sing}
use Rattle.diagram_terms.specs.Dual.{IsMonotone, AreBelow, dual, after, tab}
use Rattle.diagram_terms.specs.Composite.{comp}
use Rattle.diagram_terms.proofs.Duals.{length-tab, get-tab, length-after, get-after, same_numbers, dual-after}
use Rattle.diagram_terms.proofs.Injections.{mono_from_steps}
use Rattle.diagram_terms.proofs.Parts.{comp-height, comp-reg, comp-sing}
use Rattle.map_laws.proofs.Neutral.{neutral_before}
use Rattle.map_laws.proofs.ValidParts.{dual_within}
use Rattle.plain_laws.proofs.PlainEnds.{plain_arrows_unfold}
use Rattle.diagram_terms.specs.HeightClasses.{HeightMap, Member, member}
use Rattle.diagram_terms.specs.Shapes.{object, Shape, ShapeArrow, IsShape, heights_of}
use Rattle.diagram_terms.specs.Ranks.{Ranks, ranks_of, rank}
use Rattle.colimit_laws.specs.RankConditions.{AreRanks, AreSettled}
use Rattle.diagram_terms.specs.Cocones.{Cocone, leg, IsCocone}
use Rattle.diagram_terms.specs.Colimits.{first_with}
use Rattle.colimit_laws.proofs.Membership.{from_map}
use Rattle.colimit_laws.proofs.Names.{IsInPart}
use Rattle.colimit_laws.proofs.Ranked.{map_of, rows-len, row-len, row-below, of_rank-low, of_rank-high, arrow-of}
use Rattle.colimit_laws.proofs.Parts.{sing-in_part}
use Rattle.colimit_laws.proofs.PartShapes.{sing-height, sings-joined, member-in_part}
use Rattle.colimit_laws.proofs.Order.{same_where_joined}
use Rattle.colimit_laws.proofs.Connections.{same_where_connected}
use Rattle.colimit_laws.proofs.Choices.{first_with-found}

module _ (d : ℕ) (S : Shape (suc d)) (vS : IsShape (suc d) S) (r : Ranks) (ar : AreRanks (heights_of d S) r)
    (u : Cocone (suc d)) (cu : IsCocone (suc d) S u) where
  abbrev given_leg : ℕ → Arr (suc d)
  given_leg x = leg (suc d) u x

  abbrev D : Dia (suc d)
  D = u.apex

  -- ---- along an arrow of the shape

  module _ (g : ShapeArrow (suc d)) (c : Contains S.arrows g) where
    pub height-along : (i : ℕ) → i < length g.arrow.heights → height d (given_leg g.from) i ≡ height d (given_leg g.to) (height d g.arrow i)
    height-along i l = ap (λ (f : Arr (suc d)). height d f i) (sym (cu.agree g c)) ∙ comp-height d (given_leg g.to) g.arrow i l

    pub sing-along : (i : ℕ) → i < length (object (suc d) S g.from).sings
        → comp d (arrow_sing d (given_leg g.to) (height d g.arrow i)) (arrow_sing d g.arrow i) ≡ arrow_sing d (given_leg g.from) i
    sing-along i l =
        let n = (arrow-of d S vS r ar g c).valid.sings_len in
        sym (comp-sing d (given_leg g.to) g.arrow i (omega arith)) ∙ ap (λ (f : Arr (suc d)). arrow_sing d f i) (cu.agree g c)

    reg-along : (j : ℕ) → j ≤ length D.sings → arrow_reg d (given_leg g.from) j ≡ arrow_reg d (given_leg g.to) j
    reg-along j l =
        let v = arrow-of d S vS r ar g c in
        let vY = vS.valid g.to v.to_within in
        let w = cu.legs g.to v.to_within in
        let t : ℕ = dual (given_leg g.to).heights j in
        let lt : t ≤ length (object (suc d) S g.to).sings = dual_within d _ _ (given_leg g.to) w j in
        let n = w.regs_len in
        let e = plain_arrows_unfold d _ _ g.arrow (vS.valid g.from v.from_within) vY v.valid v.plain t lt in
        ap (λ (f : Arr (suc d)). arrow_reg d f j) (sym (cu.agree g c)) ∙ comp-reg d (given_leg g.to) g.arrow j (omega arith)
        ∙ ap (comp d (arrow_reg d (given_leg g.to) j)) e.1 ∙ neutral_before d _ _ (arrow_reg d (given_leg g.to) j) (vY.regs t lt) (w.regs j l)

  -- the regular slices are the same for each object
  pub one_reg : (x j : ℕ) → x < length S.objects → j ≤ length D.sings → arrow_reg d (given_leg x) j ≡ arrow_reg d (given_leg 0) j
  one_reg x j l lj = same_where_connected (suc d) S (λ (y : ℕ). arrow_reg d (given_leg y) j) (λ g c. reg-along g c j lj) x 0 (vS.connected x 0 l vS.nonempty)

  -- ---- the heights are the same for each class

  height_at : Member → ℕ
  height_at p = height d (given_leg p.object) p.height

  join-same : (m : HeightMap) → Contains (heights_of d S).maps m → (i : ℕ) → i < length m.heights
      → height_at (member m.from i) ≡ height_at (member m.to (get_or m.heights i 0))
  unfolding height_at
  join-same m c i =
      let f = from_map (map_of d S) S.arrows m c in
      subst (λ (m : HeightMap). i < length m.heights → height d (given_leg m.from) i ≡ height d (given_leg m.to) (get_or m.heights i 0)) f.2 (height-along f.0 f.1 i)

  pub one_height : (k x i y j : ℕ) → IsInPart r k x (slice.S i) → IsInPart r k y (slice.S j) → height d (given_leg x) i ≡ height d (given_leg y) j
  unfolding height_at
  one_height k x i y j p q = same_where_joined (heights_of d S) height_at join-same (member x i) (member y j) (sings-joined d S vS r ar k x i y j p q)

  -- the height to which the heights of rank k go, by the first object that has one
  unfoldable pub goes_to : ℕ → ℕ
  goes_to k = let x : ℕ = first_with r.ranks k in height d (given_leg x) (dual (ranks_of r x) k)

  member-of_rank : (x i : ℕ) → x < length S.objects → i < length (object (suc d) S x).sings → IsInPart r (rank r x i) x (slice.S i)
  member-of_rank x i l m = sing-in_part d S vS r ar (rank r x i) x i l (of_rank-low d S vS r ar x i (rank r x i) l refl)
      (of_rank-high d S vS r ar x i (rank r x i) l m refl)

  pub goes_to-from : (k x i : ℕ) → IsInPart r k x (slice.S i) → height d (given_leg x) i ≡ goes_to k
  unfolding goes_to
  goes_to-from k x i p =
      let h = p.height in
      let low = h.0 in let high = h.1 in
      let f = first_with-found r.ranks k x (p.object, omega arith) in
      let lf = f.0 in
      let n = rows-len d S vS r ar in
      one_height k x i (first_with r.ranks k) (dual (ranks_of r (first_with r.ranks k)) k) p
      (sing-in_part d S vS r ar k (first_with r.ranks k) (dual (ranks_of r (first_with r.ranks k)) k) (omega arith) (omega arith) f.1)

  pub goes_to-rank : (x i : ℕ) → x < length S.objects → i < length (object (suc d) S x).sings → height d (given_leg x) i ≡ goes_to (rank r x i)
  goes_to-rank x i l m = goes_to-from (rank r x i) x i (member-of_rank x i l m)

  pub goes_to-below : (k : ℕ) → k < r.count → goes_to k < length D.sings
  goes_to-below k l =
      let o = member-in_part d S vS r ar k l in
      let e = goes_to-from k o.0 o.1 o.3 in
      let v = cu.legs o.0 o.2 in
      let n = v.heights_len in
      let b = v.below.below o.1 (let m = sing-height d S vS r ar k o.0 o.1 o.3 in omega arith) in
      omega arith

  -- ---- the heights of the factor

  abbrev pub factor_heights : List ℕ
  factor_heights = tab goes_to r.count

  pub factor-height : (k : ℕ) → k < r.count → get_or factor_heights k 0 ≡ goes_to k
  factor-height k l = get-tab goes_to r.count k 0 l

  pub factor-below : AreBelow factor_heights (length D.sings)
  factor-below = record {
    below = λ k l. let n = length-tab goes_to r.count in rw (factor-height k (omega arith)) (goes_to-below k (omega arith));
  }

  -- each rank is forced to come before the next
  rises : AreSettled r → (k : ℕ) → suc k < r.count → goes_to k ≤ goes_to (suc k)
  rises settled k l =
      let s = settled k l in
      let x : ℕ = s.object in
      let n = rows-len d S vS r ar in
      let lo = s.within_objects in
      let lx : x < length S.objects = omega arith in
      let m = row-len d S vS r ar x lx in
      let w = s.within in
      let v = cu.legs x lx in
      let hl = v.heights_len in
      let up : height d (given_leg x) s.height ≤ height d (given_leg x) (suc s.height) = v.monotone.rises s.height (suc s.height) (omega arith) (omega arith) in
      let e1 = goes_to-rank x s.height lx (omega arith) ∙ ap goes_to s.low in
      let e2 = goes_to-rank x (suc s.height) lx (omega arith) ∙ ap goes_to s.high in
      omega arith

  pub factor-mono : AreSettled r → IsMonotone factor_heights
  factor-mono settled = mono_from_steps factor_heights (λ k some l.
      let n = length-tab goes_to r.count in
      let e : suc (k - 1) ≡ k = omega arith in
      let up = rises settled (k - 1) (omega arith) in
      rw (factor-height (k - 1) (omega arith), factor-height k (omega arith))
      (subst (λ (n : ℕ). goes_to (k - 1) ≤ goes_to n) e up))

  pub factor-after : (x : ℕ) → x < length S.objects → after factor_heights (ranks_of r x) ≡ (given_leg x).heights
  factor-after x l =
      let n = row-len d S vS r ar x l in
      let m = (cu.legs x l).heights_len in
      let e = length-after factor_heights (ranks_of r x) in
      same_numbers (after factor_heights (ranks_of r x)) (given_leg x).heights (omega arith) (λ i li.
      let lr : i < length (ranks_of r x) = omega arith in
      get-after factor_heights (ranks_of r x) i lr ∙ factor-height (rank r x i) ((row-below d S vS r ar x l).below i lr)
      ∙ sym (goes_to-rank x i l (omega arith)))

  -- so the dual of a leg is the dual of the ranks at that of the factor
  pub factor-dual : AreSettled r → (x j : ℕ) → x < length S.objects → dual (given_leg x).heights j ≡ dual (ranks_of r x) (dual factor_heights j)
  factor-dual settled x j l =
      let n = length-tab goes_to r.count in
      ap (λ (hs : List ℕ). dual hs j) (sym (factor-after x l))
      ∙ dual-after factor_heights (ranks_of r x) (factor-mono settled)
      (record { below = λ i m. let b = (row-below d S vS r ar x l).below i m in omega arith }) j
