-- The ways into the apex of a part, along the first and the last member of each object.
use Rattle.std.proofs.Common.{◌≡◌, ℕ, zero, suc, ◌+◌, ◌-◌, ◌<◌, ◌≤◌, List, length, sym, ap, ◌∙◌, subst, arith, inl, inr}
use Rattle.std.specs.List.{Contains}
use Rattle.std.proofs.lemmas.Bool.{cases_lt}
use Rattle.diagram_terms.specs.declared.place.Height.{Height}
use Rattle.diagram_terms.specs.declared.place.Height.TheVariants as slice
use Rattle.diagram_terms.specs.Family.{Dia, Arr, reg, fwd, bwd, height, arrow_reg, arrow_sing}
use Rattle.diagram_terms.specs.Dual.{dual}
use Rattle.diagram_terms.specs.Composite.{comp}
use Rattle.diagram_terms.specs.Valid.{ValidArrow}
use Rattle.diagram_terms.specs.Plain.{PlainArrow}
use Rattle.diagram_terms.proofs.Duals.{dual_mono}
use Rattle.diagram_terms.proofs.MonotoneParts.{dual_constant}
use Rattle.map_laws.proofs.Associativity.{associative}
use Rattle.map_laws.proofs.Neutral.{neutral_before}
use Rattle.plain_laws.proofs.PlainEnds.{plain_arrows_unfold}
use Rattle.diagram_terms.specs.Ranks.{Ranks, ranks_of}
use Rattle.colimit_laws.specs.RankConditions.{AreRanks}
use Rattle.diagram_terms.specs.Shapes.{Shape, ShapeArrow, IsShape, heights_of, object}
use Rattle.diagram_terms.specs.Cocones.{Cocone, leg, IsPlainCocone}
use Rattle.diagram_terms.specs.ClassParts.{place, height_slice, part}
use Rattle.diagram_terms.specs.Colimits.{cocone_at, part_leg}
use Rattle.diagram_terms.proofs.Squares.{first_at, last_at}
use Rattle.colimit_laws.proofs.Names.{IsInPart}
use Rattle.colimit_laws.proofs.Ranked.{row-dual_within, dual-along, arrow-of}
use Rattle.colimit_laws.proofs.Parts.{bwd_arrow, fwd_arrow, slice_arrow, object-at_place, sing-in_part, reg-in_part, bwd-among, fwd-among, slice-among}
use Rattle.colimit_laws.proofs.PartShapes.{sing-height, target-in_part}
use Rattle.colimit_laws.proofs.Connections.{same_where_connected}

module _ (d : ℕ) (S : Shape (suc d)) (vS : IsShape (suc d) S) (r : Ranks) (ar : AreRanks (heights_of d S) r) where
  -- the regular slice at the dual of the ranks is the same for every object
  along_arrow : (j : ℕ) (g : ShapeArrow (suc d)) → Contains S.arrows g
      → reg d (object (suc d) S g.from) (dual (ranks_of r g.from) j) ≡ reg d (object (suc d) S g.to) (dual (ranks_of r g.to) j)
  along_arrow j g c =
      let v = arrow-of d S vS r ar g c in
      ap (reg d (object (suc d) S g.from)) (dual-along d S vS r ar g c j)
      ∙ (plain_arrows_unfold d _ _ g.arrow (vS.valid g.from v.from_within) (vS.valid g.to v.to_within) v.valid v.plain
      (dual (ranks_of r g.to) j) (row-dual_within d S vS r ar g.to j v.to_within)).0

  pub regs-agree : (x j : ℕ) → x < length S.objects → reg d (object (suc d) S x) (dual (ranks_of r x) j) ≡ reg d (object (suc d) S 0) (dual (ranks_of r 0) j)
  regs-agree x j l = same_where_connected (suc d) S (λ (y : ℕ). reg d (object (suc d) S y) (dual (ranks_of r y) j)) (along_arrow j) x 0
      (vS.connected x 0 l vS.nonempty)

  -- ---- the legs of a plain arrow's target

  module _ (g : ShapeArrow (suc d)) (c : Contains S.arrows g) where
    abbrev X : Dia (suc d)
    X = object (suc d) S g.from

    abbrev Y : Dia (suc d)
    Y = object (suc d) S g.to

    fwd-past : (t : ℕ) → t < length Y.sings → comp d (fwd d Y t) (arrow_reg d g.arrow t) ≡ fwd d Y t
    fwd-past t l =
        let v = arrow-of d S vS r ar g c in
        let vY = vS.valid g.to v.to_within in
        let e = plain_arrows_unfold d _ _ g.arrow (vS.valid g.from v.from_within) vY v.valid v.plain t (omega arith) in
        ap (comp d (fwd d Y t)) e.1 ∙ neutral_before d _ _ (fwd d Y t) (vY.regs t (omega arith)) (vY.fwds t l)

    bwd-past : (t : ℕ) → t < length Y.sings → comp d (bwd d Y t) (arrow_reg d g.arrow (suc t)) ≡ bwd d Y t
    bwd-past t l =
        let v = arrow-of d S vS r ar g c in
        let vY = vS.valid g.to v.to_within in
        let e = plain_arrows_unfold d _ _ g.arrow (vS.valid g.from v.from_within) vY v.valid v.plain (suc t) l in
        ap (comp d (bwd d Y t)) e.1 ∙ neutral_before d _ _ (bwd d Y t) (vY.regs (suc t) l) (vY.bwds t l)

    -- where no height goes to t, both legs there are one arrow
    pub missed-legs : (t : ℕ) → t < length Y.sings → dual g.arrow.heights t ≡ dual g.arrow.heights (suc t) → fwd d Y t ≡ bwd d Y t
    missed-legs t l e = sym (fwd-past t l) ∙ ((arrow-of d S vS r ar g c).valid.squares t l).empty e ∙ bwd-past t l

    pub first-leg : (t i : ℕ) → t < length Y.sings → dual g.arrow.heights t ≡ i → i < dual g.arrow.heights (suc t)
        → fwd d Y t ≡ comp d (arrow_sing d g.arrow i) (fwd d X i)
    first-leg t i l e m = sym (fwd-past t l) ∙ first_at ((arrow-of d S vS r ar g c).valid.squares t l) i e m

    pub last-leg : (t i : ℕ) → t < length Y.sings → dual g.arrow.heights t ≤ i → suc i ≡ dual g.arrow.heights (suc t)
        → bwd d Y t ≡ comp d (arrow_sing d g.arrow i) (bwd d X i)
    last-leg t i l m e = sym (bwd-past t l) ∙ last_at ((arrow-of d S vS r ar g c).valid.squares t l) i m e

module _ (d : ℕ) (S : Shape (suc d)) (vS : IsShape (suc d) S) (r : Ranks) (ar : AreRanks (heights_of d S) r) (parts : List (Cocone d))
    (k : ℕ) (good : IsPlainCocone d (part d S r k) (cocone_at d parts k)) where
  abbrev apex : Dia d
  apex = (cocone_at d parts k).apex

  -- ---- the legs of the part

  pub part_leg-valid : (x : ℕ) (h : Height) → IsInPart r k x h → ValidArrow d (height_slice d (object (suc d) S x) h) apex (part_leg d S r parts k x h)
  unfolding part_leg
  part_leg-valid x h p =
      let o = object-at_place d S vS r ar k x h p in
      subst (λ (X : Dia d). ValidArrow d X apex (leg d (cocone_at d parts k) (place r k x h))) o.1 (good.cocone.legs (place r k x h) o.0)

  pub part_leg-plain : (x : ℕ) (h : Height) → IsInPart r k x h → PlainArrow d (part_leg d S r parts k x h)
  unfolding part_leg
  part_leg-plain x h p = good.plain_legs (place r k x h) (object-at_place d S vS r ar k x h p).0

  pub part_leg-bwd : (x t : ℕ) → IsInPart r k x (slice.R (suc t))
      → comp d (part_leg d S r parts k x (slice.S t)) (bwd d (object (suc d) S x) t) ≡ part_leg d S r parts k x (slice.R (suc t))
  unfolding part_leg
  part_leg-bwd x t p = good.cocone.agree (bwd_arrow d S r k x t) (bwd-among d S vS r ar k x t p)

  pub part_leg-fwd : (x t : ℕ) → IsInPart r k x (slice.R (suc t))
      → comp d (part_leg d S r parts k x (slice.S (suc t))) (fwd d (object (suc d) S x) (suc t)) ≡ part_leg d S r parts k x (slice.R (suc t))
  unfolding part_leg
  part_leg-fwd x t p = good.cocone.agree (fwd_arrow d S r k x t) (fwd-among d S vS r ar k x t p)

  pub part_leg-slice : (g : ShapeArrow (suc d)) → Contains S.arrows g → (i : ℕ) → IsInPart r k g.from (slice.S i)
      → comp d (part_leg d S r parts k g.to (slice.S (height d g.arrow i))) (arrow_sing d g.arrow i) ≡ part_leg d S r parts k g.from (slice.S i)
  unfolding part_leg
  part_leg-slice g c i p = let w = p.height in good.cocone.agree (slice_arrow d r k g i) (slice-among d S vS r ar k g c i w.0 w.1)

  -- ---- the ways into the apex through a member

  unfoldable pub enter : ℕ → ℕ → Arr d
  enter x i = comp d (part_leg d S r parts k x (slice.S i)) (fwd d (object (suc d) S x) i)

  unfoldable pub leave : ℕ → ℕ → Arr d
  leave x i = comp d (part_leg d S r parts k x (slice.S i)) (bwd d (object (suc d) S x) i)

  -- the first and the last member of x
  abbrev pub low : ℕ → ℕ
  low x = dual (ranks_of r x) k

  abbrev pub high : ℕ → ℕ
  high x = dual (ranks_of r x) (suc k)

  member_at : (x i : ℕ) → x < length S.objects → low x ≤ i → i < high x → IsInPart r k x (slice.S i)
  member_at x i l a b = sing-in_part d S vS r ar k x i l a b

  -- between two members that follow one another
  pub leave-next : (x i : ℕ) → x < length S.objects → low x ≤ i → suc i < high x → leave x i ≡ enter x (suc i)
  unfolding enter leave
  leave-next x i l a b =
      let p = reg-in_part d S vS r ar k x (suc i) l (omega arith) b in
      part_leg-bwd x i p ∙ sym (part_leg-fwd x i p)

  -- ---- along an arrow g of the shape

  module _ (g : ShapeArrow (suc d)) (c : Contains S.arrows g) where
    pub y-length : high g.to ≤ length (object (suc d) S g.to).sings
    y-length = row-dual_within d S vS r ar g.to (suc k) (arrow-of d S vS r ar g c).to_within

    heights-mono : (i j : ℕ) → i ≤ j → dual g.arrow.heights i ≤ dual g.arrow.heights j
    heights-mono i j l = dual_mono g.arrow.heights (arrow-of d S vS r ar g c).valid.monotone i j l

    -- over heights to which no height goes
    pub enter-missed : (t : ℕ) → t < high g.to → dual g.arrow.heights t ≡ dual g.arrow.heights (suc t) → enter g.to t ≡ leave g.to t
    unfolding enter leave
    enter-missed t b e =
        let n = y-length in
        ap (comp d (part_leg d S r parts k g.to (slice.S t))) (missed-legs d S vS r ar g c t (omega arith) e)

    enter_run : (n i j : ℕ) → j ≡ n + i → low g.to ≤ i → j < high g.to → dual g.arrow.heights i ≡ dual g.arrow.heights j → enter g.to i ≡ enter g.to j
    enter_run zero i j e a b same = ap (enter g.to) (omega arith)
    enter_run (suc n) i j e a b same =
        let m = dual_constant g.arrow.heights (arrow-of d S vS r ar g c).valid.monotone i j (suc i) same (omega arith) (omega arith) in
        enter-missed i (omega arith) (sym m) ∙ leave-next g.to i (arrow-of d S vS r ar g c).to_within a (omega arith)
        ∙ enter_run n (suc i) j (omega arith) (omega arith) b (m ∙ same)

    pub enter-same : (i j : ℕ) → i ≤ j → low g.to ≤ i → j < high g.to → dual g.arrow.heights i ≡ dual g.arrow.heights j → enter g.to i ≡ enter g.to j
    enter-same i j l a b same = enter_run (j - i) i j (omega arith) a b same

    pub leave-same : (i j : ℕ) → i ≤ j → low g.to ≤ i → j < high g.to → dual g.arrow.heights (suc i) ≡ dual g.arrow.heights (suc j) → leave g.to i ≡ leave g.to j
    leave-same i j l a b same = elim (cases_lt i j) [
      | inr p ↦ ap (leave g.to) (omega arith)
      | inl p ↦ (
          let m = dual_constant g.arrow.heights (arrow-of d S vS r ar g c).valid.monotone (suc i) (suc j) j same (omega arith) (omega arith) in
          leave-next g.to i (arrow-of d S vS r ar g c).to_within a (omega arith) ∙ enter-same (suc i) j (omega arith) (omega arith) b (sym m)
          ∙ enter-missed j b (m ∙ same))
    ]

    -- through the first, and through the last height that goes to t
    pub enter-first : (t i : ℕ) → IsInPart r k g.from (slice.S i) → height d g.arrow i ≡ t → t < high g.to → dual g.arrow.heights t ≡ i
        → i < dual g.arrow.heights (suc t) → enter g.to t ≡ enter g.from i
    unfolding enter
    enter-first t i p goes b e m =
        let v = arrow-of d S vS r ar g c in
        let n = y-length in
        let lt : t < length (object (suc d) S g.to).sings = omega arith in
        let q = target-in_part d S vS r ar k g c i p in
        let li = sing-height d S vS r ar k g.from i p in
        let e1 = first-leg d S vS r ar g c t i lt e m in
        let e2 = associative d _ _ _ _ (fwd d (object (suc d) S g.from) i) (arrow_sing d g.arrow i) (part_leg d S r parts k g.to (slice.S (height d g.arrow i)))
        ((vS.valid g.from v.from_within).fwds i li) (v.valid.sings i li) (part_leg-valid g.to (slice.S (height d g.arrow i)) q) in
        ap (comp d (part_leg d S r parts k g.to (slice.S t))) e1
        ∙ ap (λ (n : ℕ). comp d (part_leg d S r parts k g.to (slice.S n)) (comp d (arrow_sing d g.arrow i) (fwd d (object (suc d) S g.from) i))) (sym goes)
        ∙ e2 ∙ ap (λ (f : Arr d). comp d f (fwd d (object (suc d) S g.from) i)) (part_leg-slice g c i p)

    pub leave-last : (t i : ℕ) → IsInPart r k g.from (slice.S i) → height d g.arrow i ≡ t → t < high g.to → dual g.arrow.heights t ≤ i
        → suc i ≡ dual g.arrow.heights (suc t) → leave g.to t ≡ leave g.from i
    unfolding leave
    leave-last t i p goes b m e =
        let v = arrow-of d S vS r ar g c in
        let n = y-length in
        let lt : t < length (object (suc d) S g.to).sings = omega arith in
        let q = target-in_part d S vS r ar k g c i p in
        let li = sing-height d S vS r ar k g.from i p in
        let e1 = last-leg d S vS r ar g c t i lt m e in
        let e2 = associative d _ _ _ _ (bwd d (object (suc d) S g.from) i) (arrow_sing d g.arrow i) (part_leg d S r parts k g.to (slice.S (height d g.arrow i)))
        ((vS.valid g.from v.from_within).bwds i li) (v.valid.sings i li) (part_leg-valid g.to (slice.S (height d g.arrow i)) q) in
        ap (comp d (part_leg d S r parts k g.to (slice.S t))) e1
        ∙ ap (λ (n : ℕ). comp d (part_leg d S r parts k g.to (slice.S n)) (comp d (arrow_sing d g.arrow i) (bwd d (object (suc d) S g.from) i))) (sym goes)
        ∙ e2 ∙ ap (λ (f : Arr d). comp d f (bwd d (object (suc d) S g.from) i)) (part_leg-slice g c i p)
