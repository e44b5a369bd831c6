-- Points pulled back along arrows: their regions, and those along degeneracies.
use Rattle.std.proofs.Common.{◌≡◌, ◌⊎◌, ℕ, zero, suc, ◌<◌, ◌≤◌, List, [], ◌∷◌, length, refl, sym, ap, ◌∙◌, subst, arith, inl, inr}
use Rattle.std.proofs.lemmas.Bool.{cases_lt, cond-true, cond-false, lt-ltb, le-ltb}
use Rattle.diagram_terms.specs.declared.place.Height.{Height}
use Rattle.diagram_terms.specs.declared.place.Height.TheVariants as height_kind
use Rattle.diagram_terms.specs.Family.{Dia, Arr, reg, sing, fwd, bwd, height, arrow_reg, arrow_sing}
use Rattle.diagram_terms.specs.Dual.{dual}
use Rattle.diagram_terms.specs.Degeneracy.{DegeneracyByShape}
use Rattle.diagram_terms.specs.Valid.{ValidArrow, Valid, left_edge}
use Rattle.diagram_terms.proofs.Duals.{dual_mono, dual-le-length, in_fibre, dual-same, dual-next, dual_hits}
use Rattle.map_laws.proofs.ValidParts.{dual_within, height_within}
use Rattle.map_laws.proofs.ValidComposites.{composites_are_valid}
use Rattle.diagram_terms.specs.Regions.{Reg, reg_region, sing_region}
use Rattle.diagram_terms.specs.ClosedRegions.{IsClosedRegion}
use Rattle.diagram_terms.specs.Preimages.{preimage}
use Rattle.diagram_terms.specs.Paths.{IsPointOf, point_label}
use Rattle.diagram_terms.specs.PointRegions.{at_reg, at_sing, point_region}
use Rattle.diagram_terms.specs.Cuts.{cut_arrow, cut_diagram}
use Rattle.diagram_terms.specs.Neighbourhoods.{neighbourhood}
use Rattle.diagram_terms.specs.PulledPoints.{pulled_point}
use Rattle.region_laws.specs.PulledPoints.{IsPulledPoint}
use Rattle.region_laws.specs.Laws.{PointsPullBack, DegeneraciesPullBack, DegeneraciesOfNeighbourhoods, EveryPointIsPulled}
use Rattle.region_laws.proofs.RegionParts.{same_spans, preimage-from, preimage-to, preimage-regs_len, preimage-sings_len, preimage-sing, preimage-after, preimage-first, preimage-alone}
use Rattle.region_laws.proofs.PreimageRegions.{first_or_after}
use Rattle.region_laws.proofs.Preimages.{preimages_compose}
use Rattle.region_laws.proofs.PointRegions.{point_region-reg, point_region-sing, at_reg-reg, at_sing-sing, at_sing-before, at_sing-behind, point_regions_are_closed}
use Rattle.region_laws.proofs.CutDegeneracies.{shape_is_valid, cuts_of_degeneracies_have_shape}

-- ---- the parts

module _ (d : ℕ) (Y : Dia (suc d)) (f : Arr (suc d)) where
  pub pulled-reg : (j : ℕ) (hs : List Height)
      → pulled_point (suc d) Y f (height_kind.R j ∷ hs) ≡ height_kind.R (dual f.heights j) ∷ pulled_point d (reg d Y j) (arrow_reg d f j) hs
  unfolding pulled_point
  pulled-reg j hs = refl

  pub pulled-hit : (k : ℕ) (hs : List Height) → dual f.heights k < dual f.heights (suc k)
      → pulled_point (suc d) Y f (height_kind.S k ∷ hs)
      ≡ height_kind.S (dual f.heights k) ∷ pulled_point d (sing d Y k) (arrow_sing d f (dual f.heights k)) hs
  unfolding pulled_point
  pulled-hit k hs l = cond-true _ _ _ (lt-ltb (dual f.heights k) (dual f.heights (suc k)) l)

  pub pulled-missed : (k : ℕ) (hs : List Height) → dual f.heights k ≡ dual f.heights (suc k)
      → pulled_point (suc d) Y f (height_kind.S k ∷ hs)
      ≡ height_kind.R (dual f.heights k) ∷ pulled_point d (sing d Y k) (left_edge d Y f k) hs
  unfolding pulled_point
  pulled-missed k hs e = cond-false _ _ _ (le-ltb (dual f.heights k) (dual f.heights (suc k)) (omega arith))

-- ---- preimages of single heights

-- of a regular height alone
pub preimage_at_reg : (d : ℕ) (X : Dia (suc d)) (f : Arr (suc d)) (j : ℕ) (W : Reg d)
    → preimage (suc d) X f (at_reg d j W) ≡ at_reg d (dual f.heights j) (preimage d (reg d X (dual f.heights j)) (arrow_reg d f j) W)
preimage_at_reg d X f j W =
    let A : Reg (suc d) = at_reg d j W in
    let t : ℕ = dual f.heights j in
    let R : Reg d = preimage d (reg d X t) (arrow_reg d f j) W in
    let L : Reg (suc d) = preimage (suc d) X f A in
    let a = preimage-from d X f A in
    let b = preimage-to d X f A in
    let rl = preimage-regs_len d X f A in
    let sl = preimage-sings_len d X f A in
    let here : reg_region d L t ≡ reg_region d (at_reg d t R) t =
    preimage-alone d X f A t refl refl ∙ ap (preimage d (reg d X t) (arrow_reg d f j)) (at_reg-reg d j W) ∙ sym (at_reg-reg d t R) in
    same_spans d L (at_reg d t R) a b (omega arith) (omega arith) (omega arith) (omega arith) (omega arith)
    (λ i low high. subst (λ (n : ℕ). reg_region d L n ≡ reg_region d (at_reg d t R) n) (omega arith) here)
    (λ i low high. absurd (omega arith))

module _ (d : ℕ) (X Y : Dia (suc d)) (f : Arr (suc d)) (k : ℕ) (W : Reg d) (vX : Valid (suc d) X) (vY : Valid (suc d) Y) (vf : ValidArrow (suc d) X Y f)
    (l : k < length Y.sings) where
  -- of a singular height over which stands one
  pub preimage_at_hit : suc (dual f.heights k) ≡ dual f.heights (suc k)
      → preimage (suc d) X f (at_sing d Y k W) ≡ at_sing d X (dual f.heights k) (preimage d (sing d X (dual f.heights k)) (arrow_sing d f (dual f.heights k)) W)
  preimage_at_hit one =
      let A : Reg (suc d) = at_sing d Y k W in
      let t : ℕ = dual f.heights k in
      let R : Reg d = preimage d (sing d X t) (arrow_sing d f t) W in
      let V : Reg (suc d) = at_sing d X t R in
      let L : Reg (suc d) = preimage (suc d) X f A in
      let a = preimage-from d X f A in
      let b = preimage-to d X f A in
      let rl = preimage-regs_len d X f A in
      let sl = preimage-sings_len d X f A in
      let goes : height d f t ≡ k = in_fibre f.heights vf.monotone t k (omega arith) (omega arith) in
      let slice : sing_region d L t ≡ R =
      preimage-sing d X f A t (omega arith) (omega arith)
      ∙ ap (λ (n : ℕ). preimage d (sing d X t) (arrow_sing d f t) (sing_region d A n)) goes
      ∙ ap (preimage d (sing d X t) (arrow_sing d f t)) (at_sing-sing d Y k W) in
      let inside : sing_region d L t ≡ sing_region d V t = slice ∙ sym (at_sing-sing d X t R) in
      let before : reg_region d L t ≡ reg_region d V t =
      preimage-first d X f A t refl (omega arith) ∙ ap (preimage d (reg d X t) (fwd d X t)) slice ∙ sym (at_sing-before d X t R) in
      let behind : reg_region d L (suc t) ≡ reg_region d V (suc t) =
      preimage-after d X f A t (omega arith) (omega arith) ∙ ap (preimage d (reg d X (suc t)) (bwd d X t)) slice ∙ sym (at_sing-behind d X t R) in
      same_spans d L V a (b ∙ sym one) (omega arith) (omega arith) (omega arith) (omega arith) (omega arith)
      (λ j low up. elim (first_or_after t j (omega arith)) [
        | inl p ↦ subst (λ (n : ℕ). reg_region d L n ≡ reg_region d V n) (sym p) before
        | inr p ↦ (let pl = p.1 in let pe = p.2 in subst (λ (n : ℕ). reg_region d L n ≡ reg_region d V n) (omega arith) behind)
      ])
      (λ j low up. subst (λ (n : ℕ). sing_region d L n ≡ sing_region d V n) (omega arith) inside)

  -- of one over which stands none
  pub preimage_at_missed : IsClosedRegion d (sing d Y k) W → dual f.heights k ≡ dual f.heights (suc k)
      → preimage (suc d) X f (at_sing d Y k W) ≡ at_reg d (dual f.heights k) (preimage d (reg d X (dual f.heights k)) (left_edge d Y f k) W)
  preimage_at_missed cW none =
      let A : Reg (suc d) = at_sing d Y k W in
      let t : ℕ = dual f.heights k in
      let R : Reg d = preimage d (reg d X t) (left_edge d Y f k) W in
      let L : Reg (suc d) = preimage (suc d) X f A in
      let a = preimage-from d X f A in
      let b = preimage-to d X f A in
      let rl = preimage-regs_len d X f A in
      let sl = preimage-sings_len d X f A in
      let here : reg_region d L t ≡ reg_region d (at_reg d t R) t =
      preimage-alone d X f A t refl none ∙ ap (preimage d (reg d X t) (arrow_reg d f k)) (at_sing-before d Y k W)
      ∙ sym (preimages_compose d (reg d X t) (reg d Y k) (sing d Y k) (arrow_reg d f k) (fwd d Y k) W (vX.regs t (dual_within d X Y f vf k))
      (vY.regs k (omega arith)) (vY.sings k l) (vf.regs k (omega arith)) (vY.fwds k l) cW)
      ∙ sym (at_reg-reg d t R) in
      same_spans d L (at_reg d t R) a (b ∙ sym none) (omega arith) (omega arith) (omega arith) (omega arith) (omega arith)
      (λ i low high. subst (λ (n : ℕ). reg_region d L n ≡ reg_region d (at_reg d t R) n) (omega arith) here)
      (λ i low high. absurd (omega arith))

-- ---- a point that is pulled back

left_valid : (d : ℕ) (X Y : Dia (suc d)) (f : Arr (suc d)) → Valid (suc d) X → Valid (suc d) Y → ValidArrow (suc d) X Y f → (k : ℕ) → k < length Y.sings
    → ValidArrow d (reg d X (dual f.heights k)) (sing d Y k) (left_edge d Y f k)
left_valid d X Y f vX vY vf k l =
    composites_are_valid d (reg d X (dual f.heights k)) (reg d Y k) (sing d Y k) (arrow_reg d f k) (fwd d Y k)
    (vX.regs (dual f.heights k) (dual_within d X Y f vf k)) (vY.regs k (omega arith)) (vY.sings k l) (vf.regs k (omega arith)) (vY.fwds k l)

-- the facts of it, by an equal list of heights
pulled_along : (d : ℕ) (X Y : Dia d) (f : Arr d) (hs ps : List Height) → pulled_point d Y f hs ≡ ps → IsPointOf d X ps
    → point_region d X ps ≡ preimage d X f (point_region d Y hs) → point_label d X ps ≡ point_label d Y hs → IsPulledPoint d X Y f hs
pulled_along d X Y f hs ps e p r l = record {
  is_point = subst (IsPointOf d X) (sym e) p;
  region = ap (point_region d X) e ∙ r;
  label = ap (point_label d X) e ∙ l;
}

base : PointsPullBack zero
unfolding pulled_point
base x y f [] vx vy vf p b = record { is_point = tt; region = refl; label = sym vf.from ∙ b ∙ vf.to }
base x y f (h ∷ hs) vx vy vf p b = absurd p

pub points_pull_back : (d : ℕ) → PointsPullBack d
points_pull_back zero X Y f hs vX vY vf p b = base X Y f hs vX vY vf p b
points_pull_back (suc d) X Y f [] vX vY vf p b = absurd p
points_pull_back (suc d) X Y f (height_kind.R j ∷ hs) vX vY vf p b =
    let t : ℕ = dual f.heights j in
    let l : t ≤ length X.sings = dual_within d X Y f vf j in
    let r = points_pull_back d (reg d X t) (reg d Y j) (arrow_reg d f j) hs (vX.regs t l) (vY.regs j p.0) (vf.regs j p.0) p.1 b in
    let ps : List Height = pulled_point d (reg d Y j) (arrow_reg d f j) hs in
    pulled_along (suc d) X Y f (height_kind.R j ∷ hs) (height_kind.R t ∷ ps) (pulled-reg d Y f j hs) (l, r.is_point)
    (point_region-reg d X t ps ∙ ap (at_reg d t) r.region
    ∙ sym (preimage_at_reg d X f j (point_region d (reg d Y j) hs)) ∙ ap (preimage (suc d) X f) (sym (point_region-reg d Y j hs)))
    r.label
points_pull_back (suc d) X Y f (height_kind.S k ∷ hs) vX vY vf p b =
    let t : ℕ = dual f.heights k in
    let W : Reg d = point_region d (sing d Y k) hs in
    let top = dual_within d X Y f vf (suc k) in
    elim b [
      | inl h ↦ (
          let one = h.0 in
          let goes : height d f t ≡ k = in_fibre f.heights vf.monotone t k (omega arith) (omega arith) in
          let v : ValidArrow d (sing d X t) (sing d Y k) (arrow_sing d f t) =
          subst (λ (n : ℕ). ValidArrow d (sing d X t) (sing d Y n) (arrow_sing d f t)) goes (vf.sings t (omega arith)) in
          let r = points_pull_back d (sing d X t) (sing d Y k) (arrow_sing d f t) hs (vX.sings t (omega arith)) (vY.sings k p.0) v p.1 h.1 in
          let ps : List Height = pulled_point d (sing d Y k) (arrow_sing d f t) hs in
          let l : t < length X.sings = omega arith in
          pulled_along (suc d) X Y f (height_kind.S k ∷ hs) (height_kind.S t ∷ ps) (pulled-hit d Y f k hs (omega arith)) (l, r.is_point)
          (point_region-sing d X t ps ∙ ap (at_sing d X t) r.region
          ∙ sym (preimage_at_hit d X Y f k W vX vY vf p.0 one) ∙ ap (preimage (suc d) X f) (sym (point_region-sing d Y k hs)))
          r.label)
      | inr h ↦ (
          let l : t ≤ length X.sings = dual_within d X Y f vf k in
          let r = points_pull_back d (reg d X t) (sing d Y k) (left_edge d Y f k) hs (vX.regs t l) (vY.sings k p.0) (left_valid d X Y f vX vY vf k p.0) p.1 h.1 in
          let ps : List Height = pulled_point d (sing d Y k) (left_edge d Y f k) hs in
          pulled_along (suc d) X Y f (height_kind.S k ∷ hs) (height_kind.R t ∷ ps) (pulled-missed d Y f k hs h.0) (l, r.is_point)
          (point_region-reg d X t ps ∙ ap (at_reg d t) r.region
          ∙ sym (preimage_at_missed d X Y f k W vX vY vf p.0 (point_regions_are_closed d (sing d Y k) hs (vY.sings k p.0) p.1) h.0)
          ∙ ap (preimage (suc d) X f) (sym (point_region-sing d Y k hs)))
          r.label)
    ]

-- ---- along degeneracies

-- over a height of the target stands one height, or none
one_or_none : (d : ℕ) (X Y : Dia (suc d)) (e : Arr (suc d)) → DegeneracyByShape (suc d) X Y e → (k : ℕ)
    → (suc (dual e.heights k) ≡ dual e.heights (suc k)) ⊎ (dual e.heights k ≡ dual e.heights (suc k))
one_or_none d X Y e g k =
    let m = g.valid.monotone in
    let t : ℕ = dual e.heights k in
    let up : t ≤ dual e.heights (suc k) = dual_mono e.heights m k (suc k) (omega arith) in
    let full = dual-le-length e.heights (suc k) in
    elim (cases_lt t (dual e.heights (suc k))) [
      | inr p ↦ inr (omega arith)
      | inl p ↦ elim (cases_lt (suc t) (dual e.heights (suc k))) [
        | inr q ↦ inl (omega arith)
        | inl q ↦ absurd (
            let a : height d e t ≡ k = in_fibre e.heights m t k (omega arith) p in
            let b : height d e (suc t) ≡ k = in_fibre e.heights m (suc t) k (omega arith) q in
            let c = g.increasing.increases t (suc t) (omega arith) (omega arith) in
            omega arith)
      ]
    ]

pub degeneracies_pull_back : (d : ℕ) → DegeneraciesPullBack d
degeneracies_pull_back zero X Y e hs g p = g.1
degeneracies_pull_back (suc d) X Y e [] g p = tt
degeneracies_pull_back (suc d) X Y e (height_kind.R j ∷ hs) g p =
    degeneracies_pull_back d (reg d X (dual e.heights j)) (reg d Y j) (arrow_reg d e j) hs (g.regs j p.0) p.1
degeneracies_pull_back (suc d) X Y e (height_kind.S k ∷ hs) g p =
    let m = g.valid.monotone in
    let t : ℕ = dual e.heights k in
    elim (one_or_none d X Y e g k) [
      | inl one ↦ (
          let top = dual_within d X Y e g.valid (suc k) in
          let goes : height d e t ≡ k = in_fibre e.heights m t k (omega arith) (omega arith) in
          let s : DegeneracyByShape d (sing d X t) (sing d Y k) (arrow_sing d e t) =
          subst (λ (n : ℕ). DegeneracyByShape d (sing d X t) (sing d Y n) (arrow_sing d e t)) goes (g.sings t (omega arith)) in
          inl (one, degeneracies_pull_back d (sing d X t) (sing d Y k) (arrow_sing d e t) hs s p.1))
      | inr none ↦ inr (none, degeneracies_pull_back d (reg d X t) (sing d Y k) (left_edge d Y e k) hs (g.missed_fwds k p.0 none) p.1)
    ]

pub degeneracies_of_neighbourhoods : (d : ℕ) → DegeneraciesOfNeighbourhoods d
degeneracies_of_neighbourhoods d X Y e hs vX vY g p =
    let W : Reg d = point_region d Y hs in
    let b = points_pull_back d X Y e hs vX vY (shape_is_valid d X Y e g) p (degeneracies_pull_back d X Y e hs g p) in
    subst (λ (V : Reg d). DegeneracyByShape d (cut_diagram d X V) (neighbourhood d Y hs) (cut_arrow d e W)) (sym b.region)
    (cuts_of_degeneracies_have_shape d X Y e W vX vY g (point_regions_are_closed d Y hs vY p))

every_base : EveryPointIsPulled zero
unfolding pulled_point
every_base x y e [] g p = ([], tt, refl)
every_base x y e (h ∷ hs) g p = absurd p

module _ (d : ℕ) (Y : Dia (suc d)) (e : Arr (suc d)) (ps hs : List Height) where
  reg_pulled : (k j : ℕ) → dual e.heights k ≡ j → pulled_point d (reg d Y k) (arrow_reg d e k) ps ≡ hs
      → pulled_point (suc d) Y e (height_kind.R k ∷ ps) ≡ height_kind.R j ∷ hs
  reg_pulled k j p q = pulled-reg d Y e k ps ∙ (λ i. height_kind.R (p i) ∷ q i)

  sing_pulled : (k i : ℕ) → dual e.heights k < dual e.heights (suc k) → dual e.heights k ≡ i → pulled_point d (sing d Y k) (arrow_sing d e i) ps ≡ hs
      → pulled_point (suc d) Y e (height_kind.S k ∷ ps) ≡ height_kind.S i ∷ hs
  sing_pulled k i l p q =
      pulled-hit d Y e k ps l ∙ ap (λ (n : ℕ). height_kind.S n ∷ pulled_point d (sing d Y k) (arrow_sing d e n) ps) p
      ∙ ap (λ (qs : List Height). height_kind.S i ∷ qs) q

pub every_point_is_pulled : (d : ℕ) → EveryPointIsPulled d
every_point_is_pulled zero X Y e hs g p = every_base X Y e hs g p
every_point_is_pulled (suc d) X Y e [] g p = absurd p
every_point_is_pulled (suc d) X Y e (height_kind.R j ∷ hs) g p =
    let l = p.0 in
    let hl = g.valid.heights_len in
    let c = dual_hits e.heights g.increasing.increases (length Y.sings) g.valid.below j (omega arith) in
    let k : ℕ = c.0 in
    let q : IsPointOf d (reg d X (dual e.heights k)) hs = subst (λ (n : ℕ). IsPointOf d (reg d X n) hs) (sym c.2) p.1 in
    let r = every_point_is_pulled d (reg d X (dual e.heights k)) (reg d Y k) (arrow_reg d e k) hs (g.regs k c.1) q in
    (height_kind.R k ∷ r.0, (c.1, r.1), reg_pulled d Y e r.0 hs k j c.2 r.2)
every_point_is_pulled (suc d) X Y e (height_kind.S i ∷ hs) g p =
    let l = p.0 in
    let hl = g.valid.heights_len in
    let k : ℕ = height d e i in
    let here : dual e.heights k ≡ i = dual-same e.heights g.increasing.increases i (omega arith) in
    let next : dual e.heights (suc k) ≡ suc i = dual-next e.heights g.increasing.increases i (omega arith) in
    let r = every_point_is_pulled d (sing d X i) (sing d Y k) (arrow_sing d e i) hs (g.sings i l) p.1 in
    (height_kind.S k ∷ r.0, (height_within d X Y e g.valid i l, r.1), sing_pulled d Y e r.0 hs k i (omega arith) here r.2)
