-- The edges of the squares of a map of a store.
use Rattle.std.proofs.Common.{◌≡◌, ℕ, zero, suc, ◌+◌, ◌-◌, ◌<◌, ◌≤◌, ◌≢◌, ◌↔◌, List, length, nat_eq, Bool, not, true, false, true≢false, refl, sym, ap, subst, ◌∙◌, inl, inr, arith}
use Rattle.std.proofs.lemmas.Bool.{cases_lt, cases_Bool, eqb-true, eq-eqb}
use Rattle.diagram_terms.specs.Tree.{Tree, heights, regs, sings, fwds, bwds}
use Rattle.diagram_terms.specs.Dimension.{dimension_of}
use Rattle.diagram_terms.specs.Dual.{dual}
use Rattle.diagram_terms.specs.Family.{Dia, Arr}
use Rattle.diagram_terms.specs.Decoded.{dia}
use Rattle.diagram_terms.specs.Shape.{IsDiagram, IsArrow, reg_at, sing_at, fwd_at, bwd_at}
use Rattle.diagram_terms.specs.Valid.{ValidArrow}
use Rattle.diagram_terms.proofs.Dimensions.{arrow_dimension}
use Rattle.diagram_terms.proofs.Decisions.{dual_next}
use Rattle.diagram_terms.proofs.Duals.{dual-le-length}
use Rattle.diagram_terms.proofs.Glue.{dia-sings_len, dia-reg, dia-sing, dia-fwd, dia-bwd}
use Rattle.hashcons.specs.Contents.{Contents, Grows, IsStore, IsArrowOf, diagram_at, arrow_at}
use Rattle.hashcons.proofs.OneMoreTree.{Grows-refl}
use Rattle.hashcons.proofs.Growth.{Grows-trans, store-kept, diagram-kept, arrow-kept}
use Rattle.zigzag_maps.specs.declared.map.Map.{Map}
use Rattle.diagram_terms.specs.ValidTrees.{IsValidTreeAt, IsArrowBetweenAt, AreComposable}
use Rattle.zigzag_maps.specs.Visits.{FitsEnds, HasValidSlices, IsValidSlicewise, square_holds, right_edge, enter_edge}
use Rattle.zigzag_maps.proofs.SquareEdges.{EdgesAgree, edge_at, holds_at, agree_at}
use Rattle.zigzag_maps.proofs.FaultSteps.{map_at-grows, map_trees}

-- ---- a store that grew

pub slicewise-grows : (old new : Contents) (d : ℕ) (m : Map) → Grows old new → IsValidSlicewise old d m → IsValidSlicewise new d m
slicewise-grows old new d m g h = record {
  map = map_at-grows old new d m g h.map;
  above = h.above;
  slices = coe_slices h.slices;
}
  where
    coe_slices : HasValidSlices (d - 1) (diagram_at old m.source) (diagram_at old m.target) (arrow_at old m.arrow)
        → HasValidSlices (d - 1) (diagram_at new m.source) (diagram_at new m.target) (arrow_at new m.arrow)
    coe_slices s =
        let p = sym (g.diagram_trees m.source h.map.source) in
        let q = sym (g.diagram_trees m.target h.map.target) in
        let r = sym (g.arrow_trees m.arrow h.map.arrow) in
        subst (λ (u : Tree). HasValidSlices (d - 1) u (diagram_at new m.target) (arrow_at new m.arrow)) p
        (subst (λ (u : Tree). HasValidSlices (d - 1) (diagram_at old m.source) u (arrow_at new m.arrow)) q
        (subst (HasValidSlices (d - 1) (diagram_at old m.source) (diagram_at old m.target)) r s))

-- ---- what is composed

-- valid arrows that meet can be composed
meet_at : (d : ℕ) (s m t g f : Tree) → IsArrowBetweenAt d s m f → IsArrowBetweenAt d m t g → AreComposable g f
meet_at d s m t g f a b = record {
  dim = d;
  at_dim = record {
    outer = b.shape;
    inner = a.shape;
    source = dia d s;
    middle = dia d m;
    target = dia d t;
    inner_valid = a.valid;
    outer_valid = b.valid;
  };
}

same_valid : (d : ℕ) (x u : Dia d) (y v : Dia d) (f g : Arr d) → x ≡ u → y ≡ v → f ≡ g → ValidArrow d x y f → ValidArrow d u v g
same_valid d x u y v f g p q r h =
    subst (λ (z : Dia d). ValidArrow d z v g) p (subst (λ (z : Dia d). ValidArrow d x z g) q (subst (ValidArrow d x y) r h))

-- the legs of a valid diagram
pub valid_fwd : (d : ℕ) (t : Tree) (k : ℕ) → IsValidTreeAt (suc d) t → k < length (sings t) → IsArrowBetweenAt d (reg_at t k) (sing_at t k) (fwd_at t k)
valid_fwd d t k h l =
    let m : k < length (dia (suc d) t).sings = omega (arith, dia-sings_len d t) in
    let n : k ≤ length (sings t) = omega arith in
    let p = dia-reg d t h.shape k n in
    let q = dia-sing d t h.shape k l in
    let r = dia-fwd d t h.shape k l in
    record {
      source = h.shape.regs_are k n;
      target = h.shape.sings_are k l;
      shape = h.shape.fwds_are k l;
      valid = same_valid d _ _ _ _ _ _ p q r (h.valid.fwds k m);
    }

pub valid_bwd : (d : ℕ) (t : Tree) (k : ℕ) → IsValidTreeAt (suc d) t → k < length (sings t) → IsArrowBetweenAt d (reg_at t (suc k)) (sing_at t k) (bwd_at t k)
valid_bwd d t k h l =
    let m : k < length (dia (suc d) t).sings = omega (arith, dia-sings_len d t) in
    let n : suc k ≤ length (sings t) = omega arith in
    let p = dia-reg d t h.shape (suc k) n in
    let q = dia-sing d t h.shape k l in
    let r = dia-bwd d t h.shape k l in
    record {
      source = h.shape.regs_are (suc k) n;
      target = h.shape.sings_are k l;
      shape = h.shape.bwds_are k l;
      valid = same_valid d _ _ _ _ _ _ p q r (h.valid.bwds k m);
    }

-- what the calls that make an edge need to know
pub record HasEdges (n : ℕ) (s t f : Tree) : Type 0 where
  pub regs_len : length (regs f) ≡ suc (length (sings t))
  pub sings_len : length (sings f) ≡ length (heights f)
  pub heights_len : length (heights f) ≡ length (sings s)
  pub source_fwds : length (fwds s) ≡ length (sings s)
  pub source_bwds : length (bwds s) ≡ length (sings s)
  pub target_fwds : length (fwds t) ≡ length (sings t)
  pub target_bwds : length (bwds t) ≡ length (sings t)
  pub dim : dimension_of f ≡ suc n
  pub first : (k : ℕ) → k < length (sings t) → AreComposable (fwd_at t k) (reg_at f k) × (dimension_of (reg_at f k) ≡ n)
  pub last : (k : ℕ) → k < length (sings t) → AreComposable (bwd_at t k) (reg_at f (k + 1)) × (dimension_of (reg_at f (k + 1)) ≡ n)
  pub before : (i : ℕ) → i < length (heights f) → AreComposable (sing_at f i) (fwd_at s i) × (dimension_of (fwd_at s i) ≡ n)
  pub behind : (i : ℕ) → i < length (heights f) → AreComposable (sing_at f i) (bwd_at s i) × (dimension_of (bwd_at s i) ≡ n)

has_edges_at : (d : ℕ) (s t f : Tree) → IsValidTreeAt (suc d) s → IsValidTreeAt (suc d) t → IsArrow (suc d) f → HasValidSlices d s t f → HasEdges d s t f
has_edges_at d s t f hs ht hf h =
    let a = h.fits.heights_len in
    let b = h.fits.regs_len in
    record {
      regs_len = b;
      sings_len = hf.sings_len;
      heights_len = a;
      source_fwds = hs.shape.fwds_len;
      source_bwds = hs.shape.bwds_len;
      target_fwds = ht.shape.fwds_len;
      target_bwds = ht.shape.bwds_len;
      dim = arrow_dimension (suc d) f hf;
      first = λ k l. (let m : k < length (regs f) = omega arith in
          (meet_at d _ _ _ _ _ (h.regs k m) (valid_fwd d t k ht l), arrow_dimension d _ (hf.regs_are k m)));
      last = λ k l. (let m : suc k < length (regs f) = omega arith in
          let e : suc k ≡ k + 1 = omega arith in
          subst (λ j. AreComposable (bwd_at t k) (reg_at f j) × (dimension_of (reg_at f j) ≡ d)) e
          (meet_at d _ _ _ _ _ (h.regs (suc k) m) (valid_bwd d t k ht l), arrow_dimension d _ (hf.regs_are (suc k) m)));
      before = λ i l. (let m : i < length (sings s) = omega arith in
          (meet_at d _ _ _ _ _ (valid_fwd d s i hs m) (h.sings i l), arrow_dimension d _ (hs.shape.fwds_are i m)));
      behind = λ i l. (let m : i < length (sings s) = omega arith in
          (meet_at d _ _ _ _ _ (valid_bwd d s i hs m) (h.sings i l), arrow_dimension d _ (hs.shape.bwds_are i m)));
    }

has_edges_above : (n : ℕ) (s t f : Tree) → 0 < n → IsValidTreeAt n s → IsValidTreeAt n t → IsArrow n f → HasValidSlices (n - 1) s t f → HasEdges (n - 1) s t f
has_edges_above zero s t f l hs ht hf h = absurd (omega arith)
has_edges_above (suc d) s t f l hs ht hf h =
    let e : suc d - 1 ≡ d = omega arith in
    subst (λ n. HasEdges n s t f) (sym e) (has_edges_at d s t f hs ht hf (subst (λ n. HasValidSlices n s t f) e h))

pub has_edges : (c : Contents) (n : ℕ) (m : Map) → IsValidSlicewise c n m → HasEdges (n - 1) (diagram_at c m.source) (diagram_at c m.target) (arrow_at c m.arrow)
has_edges c n m h = has_edges_above n _ _ _ h.above h.map.source_valid h.map.target_valid h.map.arrow_shape h.slices

-- ---- two arrows that were read

pub composable_read : (c : Contents) (n g f : ℕ) (G F : Tree) → arrow_at c g ≡ G → arrow_at c f ≡ F → AreComposable G F × (dimension_of F ≡ n)
    → AreComposable (arrow_at c g) (arrow_at c f)
composable_read c n g f G F p q h = subst (λ (u : Tree). AreComposable u (arrow_at c f)) (sym p) (subst (AreComposable G) (sym q) h.0)

pub dim_read : (c : Contents) (n f : ℕ) (G F : Tree) → arrow_at c f ≡ F → AreComposable G F × (dimension_of F ≡ n) → n ≡ dimension_of (arrow_at c f)
dim_read c n f G F q h = sym (ap dimension_of q ∙ h.1)

pub ruleset edges = (Grows-refl, Grows-trans, store-kept, diagram-kept, arrow-kept, slicewise-grows)

-- ---- ids that were compared

module _ (c : Contents) (store : IsStore c) (a b : ℕ) (la : IsArrowOf c a) (lb : IsArrowOf c b) where
  pub equal_ids : (r : Bool) → r ≡ nat_eq a b → (r ≡ true) ↔ (arrow_at c a ≡ arrow_at c b)
  equal_ids r e = (λ h. ap (arrow_at c) (eqb-true a b (sym e ∙ h)), λ q. e ∙ eq-eqb a b (store.arrows_once a b la lb q))

  pub not_other : (r : Bool) → r ≡ not (nat_eq a b) → r ≡ false → arrow_at c a ≡ arrow_at c b
  not_other r e h = elim (cases_Bool (nat_eq a b)) [
    | inl q ↦ ap (arrow_at c) (eqb-true a b q)
    | inr q ↦ absurd (true≢false (sym (ap not q) ∙ sym e ∙ h))
  ]

  pub other : (r : Bool) → r ≡ not (nat_eq a b) → r ≡ true → arrow_at c a ≢ arrow_at c b
  other r e h q = true≢false (sym h ∙ e ∙ ap not (eq-eqb a b (store.arrows_once a b la lb q)))

-- ---- the heights of a fibre

-- one height more
pub more_from : (P : ℕ → Type 0) (from n : ℕ) → ((i : ℕ) → from ≤ i → i < n → P i) → P n → (i : ℕ) → from ≤ i → i < n + 1 → P i
more_from P from n h p i l u = elim (cases_lt i n) [
  | inl q ↦ h i l q
  | inr q ↦ (let e : n ≡ i = omega arith in subst P e p)
]

-- a fibre ends where it begins, or later
pub fibre_rises : (hs : List ℕ) (k from to : ℕ) → from ≡ dual hs k → to ≡ dual hs (k + 1) → from ≤ to
fibre_rises hs k from to p q =
    let e : k + 1 ≡ suc k = omega arith in
    let r = ap (dual hs) e in
    let l = dual_next hs k in
    omega arith

-- ---- the square

agree_above : (n : ℕ) (s t f : Tree) (k : ℕ) → 0 < n → IsDiagram n s → IsDiagram n t → IsArrow n f → FitsEnds s t f → k < length (sings t)
    → (square_holds s t f k ≡ true) ↔ EdgesAgree s t f k
agree_above zero s t f k l hs ht hf fits over = absurd (omega arith)
agree_above (suc d) s t f k l hs ht hf fits over = (agree_at d s t f hs ht hf fits k over, holds_at d s t f hs ht hf fits k over)

pub square_agrees : (c : Contents) (n : ℕ) (m : Map) (k : ℕ) → IsValidSlicewise c n m → k < length (sings (diagram_at c m.target))
    → (square_holds (diagram_at c m.source) (diagram_at c m.target) (arrow_at c m.arrow) k ≡ true)
    ↔ EdgesAgree (diagram_at c m.source) (diagram_at c m.target) (arrow_at c m.arrow) k
square_agrees c n m k h over =
    agree_above n _ _ _ k h.above h.map.source_valid.shape h.map.target_valid.shape h.map.arrow_shape h.slices.fits over

-- a height of the fibre is one of the source
pub fibre_within : (old now : Contents) (n : ℕ) (m : Map) (k e i : ℕ) → Grows old now → IsValidSlicewise old n m → e ≡ dual (heights (arrow_at old m.arrow)) k → i < e
    → i < length (heights (arrow_at now m.arrow))
fibre_within old now n m k e i g h z l =
    let a = dual-le-length (heights (arrow_at old m.arrow)) k in
    let b = map_trees (λ s t f. length (heights f)) old now n m g h.map in
    omega arith

module _ (c : Contents) (n : ℕ) (m : Map) (k from to : ℕ) (h : IsValidSlicewise c n m) (over : k < length (sings (diagram_at c m.target)))
    (from_is : from ≡ dual (heights (arrow_at c m.arrow)) k) (to_is : to ≡ dual (heights (arrow_at c m.arrow)) (k + 1)) where
  abbrev S : Tree
  S = diagram_at c m.source

  abbrev T : Tree
  T = diagram_at c m.target

  abbrev F : Tree
  F = arrow_at c m.arrow

  next : k + 1 ≡ suc k
  next = omega arith

  to_next : to ≡ dual (heights F) (suc k)
  to_next = to_is ∙ ap (dual (heights F)) next

  not_true : (square_holds S T F k ≡ true → ⊥) → false ≡ square_holds S T F k
  not_true wrong = elim (cases_Bool (square_holds S T F k)) [
    | inl e ↦ absurd (wrong e)
    | inr e ↦ sym e
  ]

  -- an edge that differs
  pub stops : (i : ℕ) → from ≤ i → i < to → edge_at S T F k from i ≢ enter_edge S F i → false ≡ square_holds S T F k
  stops i l u differ = not_true (λ e. (let agree = (square_agrees c n m k h over).0 e in
      differ (ap (λ a. edge_at S T F k a i) from_is ∙ agree.each i (omega (arith, from_is)) (omega (arith, to_next)))))

  -- all edges but the last agree: the last one decides
  pub last_decides : (r : Bool) → ((i : ℕ) → from ≤ i → i < to → edge_at S T F k from i ≡ enter_edge S F i)
      → (r ≡ true ↔ (edge_at S T F k from to ≡ right_edge T F k)) → r ≡ square_holds S T F k
  last_decides true each d = sym ((square_agrees c n m k h over).1 (record {
    each = λ i l u. ap (λ a. edge_at S T F k a i) (sym from_is) ∙ each i (omega (arith, from_is)) (omega (arith, to_next));
    last = (λ i. edge_at S T F k (sym from_is i) (sym to_next i)) ∙ d.0 refl;
  }))
  last_decides false each d = not_true (λ e. (let agree = (square_agrees c n m k h over).0 e in
      true≢false (sym (d.1 ((λ i. edge_at S T F k (from_is i) (to_next i)) ∙ agree.last)))))
