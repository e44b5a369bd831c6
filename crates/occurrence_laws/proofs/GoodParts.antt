-- Valid plain diagrams and arrows: their slices, identities and composites, and when two of them are equal.
use Rattle.std.proofs.Common.{◌≡◌, ℕ, zero, suc, ◌<◌, ◌≤◌, length, map, sym, ◌∙◌, arith}
use Rattle.std.proofs.lemmas.List.{length-map, get_or-map, ext_get_or}
use Rattle.diagram_terms.specs.Family.{Dia, Arr, no_dia, no_arr, reg, sing, fwd, bwd, height, arrow_reg, arrow_sing}
use Rattle.diagram_terms.specs.Dual.{dual}
use Rattle.diagram_terms.specs.Composite.{comp, ident}
use Rattle.diagram_terms.specs.Valid.{Valid}
use Rattle.diagram_terms.specs.Cone.{Parallel}
use Rattle.diagram_terms.proofs.Duals.{same_numbers}
use Rattle.diagram_terms.proofs.Parts.{same_arrows, same_diagrams}
use Rattle.map_laws.proofs.Associativity.{associative}
use Rattle.map_laws.proofs.IdentityShapes.{identities_have_shape}
use Rattle.map_laws.proofs.Neutral.{neutral_after, neutral_before}
use Rattle.map_laws.proofs.PlainArrows.{identities_are_plain, plain_arrows_compose}
use Rattle.map_laws.proofs.ValidComposites.{composites_are_valid}
use Rattle.map_laws.proofs.ValidIdentities.{identities_are_valid}
use Rattle.map_laws.proofs.ValidParts.{height_within}
use Rattle.plain_laws.proofs.PlainEnds.{plain_arrows_unfold, plain_arrows_have_parallel_ends}
use Rattle.diagram_terms.specs.Good.{GoodDiagram, GoodArrow}

-- ---- identities and composites

pub good_identity : (d : ℕ) (X : Dia d) → GoodDiagram d X → GoodArrow d X X (ident d X)
good_identity d X g = record {
  source = g;
  target = g;
  valid = identities_are_valid d X g.valid;
  plain = identities_are_plain d (ident d X) (identities_have_shape d X g.valid);
}

pub good_composite : (d : ℕ) (X Y Z : Dia d) (f g : Arr d) → GoodArrow d X Y f → GoodArrow d Y Z g → GoodArrow d X Z (comp d g f)
good_composite d X Y Z f g gf gg = record {
  source = gf.source;
  target = gg.target;
  valid = composites_are_valid d X Y Z f g gf.source.valid gf.target.valid gg.target.valid gf.valid gg.valid;
  plain = plain_arrows_compose d X Y Z f g gf.valid gg.valid gf.plain gg.plain;
}

pub good_neutral_after : (d : ℕ) (X Y : Dia d) (f : Arr d) → GoodArrow d X Y f → comp d (ident d Y) f ≡ f
good_neutral_after d X Y f g = neutral_after d X Y f g.target.valid g.valid

pub good_neutral_before : (d : ℕ) (X Y : Dia d) (f : Arr d) → GoodArrow d X Y f → comp d f (ident d X) ≡ f
good_neutral_before d X Y f g = neutral_before d X Y f g.source.valid g.valid

pub good_associative : (d : ℕ) (W X Y Z : Dia d) (f g h : Arr d) → GoodArrow d W X f → GoodArrow d X Y g → GoodArrow d Y Z h
    → comp d h (comp d g f) ≡ comp d (comp d h g) f
good_associative d W X Y Z f g h gf gg gh = associative d W X Y Z f g h gf.valid gg.valid gh.valid

-- ---- slices and legs

module _ (d : ℕ) (X : Dia (suc d)) (g : GoodDiagram (suc d) X) where
  pub good_reg : (j : ℕ) → j ≤ length X.sings → GoodDiagram d (reg d X j)
  good_reg j l = record { valid = g.valid.regs j l; plain = g.plain.regs j (let a = g.valid.regs_len in omega arith) }

  pub good_sing : (i : ℕ) → i < length X.sings → GoodDiagram d (sing d X i)
  good_sing i l = record { valid = g.valid.sings i l; plain = g.plain.sings i l }

  pub good_fwd : (k : ℕ) → k < length X.sings → GoodArrow d (reg d X k) (sing d X k) (fwd d X k)
  good_fwd k l = record {
    source = good_reg k (omega arith);
    target = good_sing k l;
    valid = g.valid.fwds k l;
    plain = g.plain.fwds k (let a = g.valid.fwds_len in omega arith);
  }

  pub good_bwd : (k : ℕ) → k < length X.sings → GoodArrow d (reg d X (suc k)) (sing d X k) (bwd d X k)
  good_bwd k l = record {
    source = good_reg (suc k) l;
    target = good_sing k l;
    valid = g.valid.bwds k l;
    plain = g.plain.bwds k (let a = g.valid.bwds_len in omega arith);
  }

module _ (d : ℕ) (X Y : Dia (suc d)) (f : Arr (suc d)) (g : GoodArrow (suc d) X Y f) where
  pub good_within : (i : ℕ) → i < length X.sings → height d f i < length Y.sings
  good_within = height_within d X Y f g.valid

  pub good_arrow_sing : (i : ℕ) → i < length X.sings → GoodArrow d (sing d X i) (sing d Y (height d f i)) (arrow_sing d f i)
  good_arrow_sing i l = record {
    source = good_sing d X g.source i l;
    target = good_sing d Y g.target (height d f i) (good_within i l);
    valid = g.valid.sings i l;
    plain = g.plain.sings i (let a = g.valid.sings_len in omega arith);
  }

  pub good_unfolds : (j : ℕ) → j ≤ length Y.sings → (reg d X (dual f.heights j) ≡ reg d Y j) × (arrow_reg d f j ≡ ident d (reg d Y j))
  good_unfolds = plain_arrows_unfold d X Y f g.source.valid g.target.valid g.valid g.plain

-- the regular slices of such an arrow are the identities of those of its target
pub good_regs : (d : ℕ) (X Y : Dia (suc d)) (f : Arr (suc d)) → GoodArrow (suc d) X Y f → f.regs ≡ map (λ y. ident d y) Y.regs
good_regs d X Y f g =
    let r = g.valid.regs_len in
    let t = g.target.valid.regs_len in
    let n = length-map Y.regs (λ y. ident d y) in
    ext_get_or (no_arr d) f.regs (map (λ y. ident d y) Y.regs) (omega arith)
    (λ j h. (good_unfolds d X Y f g j (omega arith)).1
    ∙ sym (get_or-map (λ y. ident d y) Y.regs j (no_dia d) (no_arr d) (omega arith)))

-- the ends of such an arrow are parallel
pub good_ends : (d : ℕ) (X Y : Dia d) (f : Arr d) → GoodArrow d X Y f → Parallel d X Y
good_ends zero X Y f g = tt
good_ends (suc d) X Y f g = plain_arrows_have_parallel_ends d X Y f g.source.valid g.target.valid g.valid g.plain

-- ---- equality

-- two valid diagrams are equal if their slices and legs are
pub same_valid_diagrams : (d : ℕ) (X Y : Dia (suc d)) → Valid (suc d) X → Valid (suc d) Y → length X.sings ≡ length Y.sings
    → ((j : ℕ) → j ≤ length X.sings → reg d X j ≡ reg d Y j) → ((i : ℕ) → i < length X.sings → sing d X i ≡ sing d Y i)
    → ((k : ℕ) → k < length X.sings → fwd d X k ≡ fwd d Y k) → ((k : ℕ) → k < length X.sings → bwd d X k ≡ bwd d Y k)
    → X ≡ Y
same_valid_diagrams d X Y vX vY l r s f b =
    let xr = vX.regs_len in
    let yr = vY.regs_len in
    let xf = vX.fwds_len in
    let yf = vY.fwds_len in
    let xb = vX.bwds_len in
    let yb = vY.bwds_len in
    same_diagrams d X Y (omega arith) (λ j h. r j (omega arith)) l s
    (omega arith) (λ k h. f k (omega arith)) (omega arith) (λ k h. b k (omega arith))

-- two valid plain arrows between the same diagrams are equal if their heights and singular slices are
pub same_good_arrows : (d : ℕ) (X Y : Dia (suc d)) (f g : Arr (suc d)) → GoodArrow (suc d) X Y f → GoodArrow (suc d) X Y g
    → ((i : ℕ) → i < length X.sings → height d f i ≡ height d g i)
    → ((i : ℕ) → i < length X.sings → arrow_sing d f i ≡ arrow_sing d g i) → f ≡ g
same_good_arrows d X Y f g gf gg h s =
    let fh = gf.valid.heights_len in
    let gh = gg.valid.heights_len in
    let fr = gf.valid.regs_len in
    let gr = gg.valid.regs_len in
    let fs = gf.valid.sings_len in
    let gs = gg.valid.sings_len in
    same_arrows d f g (same_numbers f.heights g.heights (omega arith) (λ i l. h i (omega arith)))
    (omega arith) (λ j l. (good_unfolds d X Y f gf j (omega arith)).1 ∙ sym (good_unfolds d X Y g gg j (omega arith)).1)
    (omega arith) (λ i l. s i (omega arith))
