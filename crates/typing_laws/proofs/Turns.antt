-- Points with a regular height after singular ones: their neighbourhoods are constant, and the same is seen over a regular
-- height.
use Rattle.std.proofs.Common.{◌≡◌, ℕ, zero, suc, ◌<◌, List, [], ◌∷◌, length, false, refl, sym, ap, ◌∙◌, subst, arith}
use Rattle.std.proofs.lemmas.Bool.{true≢false}
use Rattle.diagram_terms.specs.declared.place.Height.{Height}
use Rattle.diagram_terms.specs.declared.place.Height.TheVariants as height_kind
use Rattle.diagram_terms.specs.Family.{Dia, Arr, reg, sing, fwd, bwd}
use Rattle.diagram_terms.specs.Dual.{dual}
use Rattle.diagram_terms.specs.Composite.{identity_diagram}
use Rattle.diagram_terms.specs.Plain.{PlainArrow, Plain}
use Rattle.diagram_terms.specs.Valid.{ValidArrow, Valid}
use Rattle.map_laws.proofs.ValidParts.{dual_within}
use Rattle.plain_laws.proofs.Cospans.{below_one, below_two}
use Rattle.plain_laws.proofs.PlainEnds.{plain_arrows_unfold}
use Rattle.diagram_terms.specs.Constants.{above, identity_tower, ConstantArrow, Constant}
use Rattle.diagram_terms.specs.NormalForms.{normal_diagram}
use Rattle.normal_form_laws.proofs.ConstantForms.{constants_have_one_normal_form}
use Rattle.normal_form_laws.proofs.NormalDiagrams.{identity_diagrams_keep_normal_forms}
use Rattle.diagram_terms.specs.Regions.{Reg}
use Rattle.diagram_terms.specs.Paths.{IsPointOf, point_label}
use Rattle.diagram_terms.specs.ClosedRegions.{IsClosedRegion}
use Rattle.diagram_terms.specs.PointRegions.{point_region}
use Rattle.diagram_terms.specs.Preimages.{preimage}
use Rattle.diagram_terms.specs.Cuts.{cut_arrow, cut_diagram}
use Rattle.diagram_terms.specs.Neighbourhoods.{neighbourhood, cut_height}
use Rattle.region_laws.proofs.PointRegions.{point_regions_are_closed}
use Rattle.region_laws.proofs.CutDiagrams.{cuts_of_diagrams_are_valid, cuts_of_plain_arrows_are_plain, cuts_of_plain_diagrams_are_plain}
use Rattle.region_laws.proofs.CutArrows.{cuts_of_arrows_are_valid}
use Rattle.region_laws.proofs.Preimages.{preimages_are_closed}
use Rattle.region_laws.proofs.Neighbourhoods.{regular_neighbourhoods, singular_neighbourhoods}
use Rattle.typing_laws.specs.Alike.{IsTwin}
use Rattle.diagram_terms.specs.DecidingPoints.{all_singular}
use Rattle.typing_laws.specs.Deciding.{IsTurn, beyond}
use Rattle.typing_laws.specs.Laws.{TurnsAreConstant, TurnsHaveNormalForms, TurnsHaveTwins}
use Rattle.typing_laws.proofs.ConstantSources.{constant_sources}

-- the neighbourhood of a point of a valid diagram is valid
pub neighbourhood_valid : (n : ℕ) (X : Dia n) (hs : List Height) → Valid n X → IsPointOf n X hs → Valid n (neighbourhood n X hs)
neighbourhood_valid n X hs v p = cuts_of_diagrams_are_valid n X (point_region n X hs) v (point_regions_are_closed n X hs v p)

-- the cut along a leg f : R → S at a region of S that cuts S to a constant diagram
module _ (d : ℕ) (M : Dia d) (t : ℕ) (R S : Dia (above (suc d) t)) (f : Arr (above (suc d) t)) (W : Reg (above (suc d) t))
    (vR : Valid (above (suc d) t) R) (pR : Plain (above (suc d) t) R) (vS : Valid (above (suc d) t) S)
    (vf : ValidArrow (above (suc d) t) R S f) (pf : PlainArrow (above (suc d) t) f) (cW : IsClosedRegion (above (suc d) t) S W)
    (c : Constant (suc d) (identity_diagram d M) t (cut_diagram (above (suc d) t) S W)) where
  constant_cut : Constant (suc d) (identity_diagram d M) t (cut_diagram (above (suc d) t) R (preimage (above (suc d) t) R f W))
      × ConstantArrow (suc d) (identity_diagram d M) t (cut_arrow (above (suc d) t) f W)
  constant_cut =
      let n : ℕ = above (suc d) t in
      let P : Reg n = preimage n R f W in
      let cP = preimages_are_closed n R S f W vR vS vf cW in
      constant_sources d M t (cut_diagram n R P) (cut_diagram n S W) (cut_arrow n f W)
      (cuts_of_diagrams_are_valid n R P vR cP) (cuts_of_plain_diagrams_are_plain n R P vR cP pR) (cuts_of_diagrams_are_valid n S W vS cW)
      (cuts_of_arrows_are_valid n R S f W vR vS vf cW) (cuts_of_plain_arrows_are_plain n R S f W vR vS vf cW pf) c

-- a diagram of length 1 whose parts are constant
pub constant_height : (d : ℕ) (M : Dia d) (t : ℕ) (X : Dia (suc (above d t))) (k : ℕ) (W : Reg (above d t))
    → let n : ℕ = above d t in Constant d M t (cut_diagram n (sing n X k) W)
    → Constant d M t (cut_diagram n (reg n X k) (preimage n (reg n X k) (fwd n X k) W)) × ConstantArrow d M t (cut_arrow n (fwd n X k) W)
    → Constant d M t (cut_diagram n (reg n X (suc k)) (preimage n (reg n X (suc k)) (bwd n X k) W)) × ConstantArrow d M t (cut_arrow n (bwd n X k) W)
    → Constant d M (suc t) (cut_height n X k W)
constant_height d M t X k W c a b =
    let n : ℕ = above d t in
    let H : Dia (suc n) = cut_height n X k W in
    record {
      regs = λ j l. below_two (λ j. Constant d M t (reg n H j)) a.0 b.0 j (omega arith);
      sings = below_one (λ i. Constant d M t (sing n H i)) c;
      fwds = below_one (λ i. ConstantArrow d M t (fwd n H i)) a.1;
      bwds = below_one (λ i. ConstantArrow d M t (bwd n H i)) b.1;
    }

pub turns_are_constant : (d : ℕ) → TurnsAreConstant d
turns_are_constant d t X [] v p q u = absurd u
turns_are_constant d zero X (height_kind.R j ∷ hs) v p q u = regular_neighbourhoods d X j hs
turns_are_constant d zero X (height_kind.S k ∷ hs) v p q u = absurd u
turns_are_constant d (suc t) X (height_kind.R j ∷ hs) v p q u = absurd u
turns_are_constant d (suc t) X (height_kind.S k ∷ hs) v p q u =
    let n : ℕ = above (suc d) t in
    let l = q.0 in
    let rl = v.regs_len in
    let fl = v.fwds_len in
    let bl = v.bwds_len in
    let S : Dia n = sing n X k in
    let M : Dia d = beyond d t S hs in
    let W : Reg n = point_region n S hs in
    let c = turns_are_constant d t S hs (v.sings k l) (p.sings k l) q.1 u in
    let cW = point_regions_are_closed n S hs (v.sings k l) q.1 in
    let a = constant_cut d M t (reg n X k) S (fwd n X k) W (v.regs k (omega arith)) (p.regs k (omega arith)) (v.sings k l)
    (v.fwds k l) (p.fwds k (omega arith)) cW c in
    let b = constant_cut d M t (reg n X (suc k)) S (bwd n X k) W (v.regs (suc k) l) (p.regs (suc k) (omega arith)) (v.sings k l)
    (v.bwds k l) (p.bwds k (omega arith)) cW c in
    subst (Constant (suc d) (identity_diagram d M) (suc t)) (sym (singular_neighbourhoods n X k hs))
    (constant_height (suc d) (identity_diagram d M) t X k W c a b)

-- ---- normal forms

-- what stands beyond a turn is valid
beyond_valid : (d t : ℕ) (X : Dia (above (suc d) t)) (hs : List Height) → Valid (above (suc d) t) X → IsPointOf (above (suc d) t) X hs
    → IsTurn t hs → Valid d (beyond d t X hs)
beyond_valid d t X [] v q u = absurd u
beyond_valid d zero X (height_kind.R j ∷ hs) v q u = neighbourhood_valid d (reg d X j) hs (v.regs j q.0) q.1
beyond_valid d zero X (height_kind.S k ∷ hs) v q u = absurd u
beyond_valid d (suc t) X (height_kind.R j ∷ hs) v q u = absurd u
beyond_valid d (suc t) X (height_kind.S k ∷ hs) v q u = beyond_valid d t (sing (above (suc d) t) X k) hs (v.sings k q.0) q.1 u

pub identity_valid : (d : ℕ) (M : Dia d) → Valid d M → Valid (suc d) (identity_diagram d M)
identity_valid d M v = record {
  regs_len = refl;
  fwds_len = refl;
  bwds_len = refl;
  regs = λ j l. (let z : 0 ≡ j = omega arith in subst (λ (m : ℕ). Valid d (reg d (identity_diagram d M) m)) z v);
  sings = λ i l. absurd (omega arith);
  fwds = λ k l. absurd (omega arith);
  bwds = λ k l. absurd (omega arith);
}

pub turns_have_normal_forms : (d : ℕ) → TurnsHaveNormalForms d
turns_have_normal_forms d t X hs v p q u =
    let n : ℕ = above (suc d) t in
    let M : Dia d = beyond d t X hs in
    constants_have_one_normal_form (suc d) (identity_diagram d M) t (neighbourhood n X hs)
    (identity_valid d M (beyond_valid d t X hs v q u)) (neighbourhood_valid n X hs v q) (turns_are_constant d t X hs v p q u)
    ∙ ap (λ (N : Dia (suc d)). identity_tower (suc d) N t) (identity_diagrams_keep_normal_forms d M)

tower_form : (d : ℕ) (M : Dia d) (t : ℕ) → normal_diagram (above d t) (identity_tower d M t) ≡ identity_tower d (normal_diagram d M) t
tower_form d M zero = refl
tower_form d M (suc t) = identity_diagrams_keep_normal_forms (above d t) (identity_tower d M t) ∙ ap (identity_diagram (above d t)) (tower_form d M t)

-- ---- twins

-- the point rest of the slice at the regular height first sees what the point hs of X does
record SeesSame (d t : ℕ) (X : Dia (above (suc d) t)) (hs : List Height) (first : ℕ) (rest : List Height) : Type 0 where
  is_point : IsPointOf (above (suc d) t) X (height_kind.R first ∷ rest)
  label : point_label (above (suc d) t) X (height_kind.R first ∷ rest) ≡ point_label (above (suc d) t) X hs
  neighbourhood : neighbourhood (above (suc d) t) X (height_kind.R first ∷ rest) ≡ identity_tower (suc d) (identity_diagram d (beyond d t X hs)) t

-- a point over a regular height of Y is one of X too, where a plain arrow goes from X to Y
record IsPointOfBoth (n : ℕ) (X Y : Dia n) (i : ℕ) (hs : List Height) (j : ℕ) : Type 0 where
  is_point : IsPointOf n X (height_kind.R j ∷ hs)
  label : point_label n X (height_kind.R j ∷ hs) ≡ point_label n Y (height_kind.R i ∷ hs)
  neighbourhood : neighbourhood n X (height_kind.R j ∷ hs) ≡ neighbourhood n Y (height_kind.R i ∷ hs)

same_point : (n : ℕ) (X Y : Dia n) (f : Arr n) (i : ℕ) (hs : List Height) → Valid n X → Valid n Y → ValidArrow n X Y f → PlainArrow n f
    → IsPointOf n Y (height_kind.R i ∷ hs) → (j : ℕ) × IsPointOfBoth n X Y i hs j
same_point zero X Y f i hs vX vY vf pf q = absurd q
same_point (suc n) X Y f i hs vX vY vf pf q =
    let j : ℕ = dual f.heights i in
    let same : reg n X j ≡ reg n Y i = (plain_arrows_unfold n X Y f vX vY vf pf i q.0).0 in (
      j,
      record {
        is_point = (dual_within n X Y f vf i, subst (λ (Z : Dia n). IsPointOf n Z hs) (sym same) q.1);
        label = ap (λ (Z : Dia n). point_label n Z hs) same;
        neighbourhood = regular_neighbourhoods n X j hs ∙ ap (λ (Z : Dia n). identity_diagram n (neighbourhood n Z hs)) same
            ∙ sym (regular_neighbourhoods n Y i hs);
      },
    )

module _ (d t : ℕ) (X : Dia (suc (above (suc d) t))) (k : ℕ) (hs : List Height) (v : Valid (suc (above (suc d) t)) X)
    (p : Plain (suc (above (suc d) t)) X) (l : k < length X.sings) (i : ℕ) (rest : List Height)
    (s : SeesSame d t (sing (above (suc d) t) X k) hs i rest) where
  abbrev n : ℕ
  n = above (suc d) t

  beside : (j : ℕ) × IsPointOfBoth n (reg n X k) (sing n X k) i rest j
  beside = let fl = v.fwds_len in
      same_point n (reg n X k) (sing n X k) (fwd n X k) i rest (v.regs k (omega arith)) (v.sings k l) (v.fwds k l) (p.fwds k (omega arith)) s.is_point

  beside_sees : neighbourhood (suc n) X (height_kind.R k ∷ height_kind.R beside.0 ∷ rest)
      ≡ identity_tower (suc d) (identity_diagram d (beyond d t (sing n X k) hs)) (suc t)
  beside_sees = regular_neighbourhoods n X k (height_kind.R beside.0 ∷ rest)
      ∙ ap (identity_diagram n) (beside.1.neighbourhood ∙ s.neighbourhood)

sees_same : (d t : ℕ) (X : Dia (above (suc d) t)) (hs : List Height) → Valid (above (suc d) t) X → Plain (above (suc d) t) X
    → IsPointOf (above (suc d) t) X hs → IsTurn t hs → (i : ℕ) × (rest : List Height) × SeesSame d t X hs i rest
sees_same d t X [] v p q u = absurd u
sees_same d zero X (height_kind.R j ∷ hs) v p q u =
    (j, hs, record { is_point = q; label = refl; neighbourhood = regular_neighbourhoods d X j hs })
sees_same d zero X (height_kind.S k ∷ hs) v p q u = absurd u
sees_same d (suc t) X (height_kind.R j ∷ hs) v p q u = absurd u
sees_same d (suc t) X (height_kind.S k ∷ hs) v p q u =
    let n : ℕ = above (suc d) t in
    let l = q.0 in
    let r = sees_same d t (sing n X k) hs (v.sings k l) (p.sings k l) q.1 u in
    let b = beside d t X k hs v p l r.0 r.1 r.2 in (
      k,
      height_kind.R b.0 ∷ r.1,
      record {
        is_point = (omega arith, b.1.is_point);
        label = b.1.label ∙ r.2.label;
        neighbourhood = beside_sees d t X k hs v p l r.0 r.1 r.2;
      },
    )

turn_has_twin : (d t : ℕ) (X : Dia (suc (above (suc d) t))) (k : ℕ) (hs : List Height) → Valid (suc (above (suc d) t)) X
    → Plain (suc (above (suc d) t)) X → k < length X.sings → IsPointOf (above (suc d) t) (sing (above (suc d) t) X k) hs → IsTurn t hs
    → (gs : List Height) × IsTwin (above (suc d) t) X k hs gs
turn_has_twin d t X k hs v p l q u =
    let n : ℕ = above (suc d) t in
    let I : Dia (suc d) = identity_diagram d (beyond d t (sing n X k) hs) in
    let r = sees_same d t (sing n X k) hs (v.sings k l) (p.sings k l) q u in
    let b = beside d t X k hs v p l r.0 r.1 r.2 in (
      height_kind.R b.0 ∷ r.1,
      record {
        is_point = b.1.is_point;
        label = b.1.label ∙ r.2.label;
        normal = ap (normal_diagram (suc n)) (beside_sees d t X k hs v p l r.0 r.1 r.2)
            ∙ tower_form (suc d) I (suc t)
            ∙ ap (λ (N : Dia (suc d)). identity_tower (suc d) N (suc t)) (identity_diagrams_keep_normal_forms d (beyond d t (sing n X k) hs))
            ∙ sym (turns_have_normal_forms d (suc t) X (height_kind.S k ∷ hs) v p (l, q) u);
      },
    )

-- a point of an n-diagram that is not all singular has a turn
record HasTurn (n : ℕ) (hs : List Height) : Type 0 where
  rest : ℕ
  turn : ℕ
  dims : above (suc rest) turn ≡ n
  turns : IsTurn turn hs

has_turn : (n : ℕ) (X : Dia n) (hs : List Height) → IsPointOf n X hs → all_singular hs ≡ false → HasTurn n hs
has_turn zero X [] q e = absurd (true≢false e)
has_turn zero X (h ∷ hs) q e = absurd q
has_turn (suc n) X [] q e = absurd q
has_turn (suc n) X (height_kind.R j ∷ hs) q e = record { rest = n; turn = 0; dims = refl; turns = tt }
has_turn (suc n) X (height_kind.S k ∷ hs) q e =
    let r = has_turn n (sing n X k) hs q.1 e in
    record { rest = r.rest; turn = suc r.turn; dims = ap suc r.dims; turns = r.turns }

pub turns_have_twins : (n : ℕ) → TurnsHaveTwins n
turns_have_twins n X k hs v p l q e =
    let r = has_turn n (sing n X k) hs q e in
    subst (λ (m : ℕ). (X : Dia (suc m)) → Valid (suc m) X → Plain (suc m) X → k < length X.sings → IsPointOf m (sing m X k) hs
    → (gs : List Height) × IsTwin m X k hs gs) r.dims
    (λ X v p l q. turn_has_twin r.rest r.turn X k hs v p l q r.turns) X v p l q
