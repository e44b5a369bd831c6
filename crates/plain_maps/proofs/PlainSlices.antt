-- Plain arrows and arrows of the shape of an identity, by the slices of their trees.
use Rattle.std.proofs.Common.{◌≡◌, ℕ, zero, suc, ◌-◌, ◌<◌, List, length, get_or, Bool, true, false, IsTrue, ◌↔◌, refl, sym, ap, subst, ◌∙◌, arith}
use Rattle.std.proofs.lemmas.List.{ext_get_or}
use Rattle.diagram_terms.specs.declared.label.Label.{Label}
use Rattle.diagram_terms.specs.Tree.{Tree, ends, heights, regs, sings, from_at-ends, to_at-ends}
use Rattle.diagram_terms.specs.Dimension.{dimension_of, dimension_of-ends, IsArrowTree}
use Rattle.diagram_terms.specs.Shape.{reg_at, sing_at}
use Rattle.diagram_terms.specs.Decoded.{arr}
use Rattle.diagram_terms.specs.Dual.{upto}
use Rattle.diagram_terms.specs.Family.{Arr, arrow_reg}
use Rattle.diagram_terms.specs.Identity.{IsIdentity, IdentityZag}
use Rattle.diagram_terms.specs.Plain.{PlainArrow, PlainZag}
use Rattle.diagram_terms.proofs.Dimensions.{ArrowParts, arrow_parts_of}
use Rattle.diagram_terms.proofs.Duals.{length-upto, get-upto}
use Rattle.diagram_terms.proofs.Glue.{arr-regs_len, arr-sings_len, arr-reg, arr-sing}
use Rattle.hashcons.specs.Contents.{Contents, IsArrowOf, arrow_at}
use Rattle.plain_maps.specs.Plainness.{IsPlainTree, IsIdentityTree, HasIdentityHeights, HasIdentityRegs, HasIdentitySings, HasPlainSings, IsArrowAt}

-- ---- at the dimension of an arrow

identity_at : (d : ℕ) (t : Tree) → dimension_of t ≡ d → IsIdentityTree t ↔ IsIdentity d (arr d t)
unfolding IsIdentityTree
identity_at d t e =
    let P : ℕ → Type 0 = λ n. IsIdentity n (arr n t) in
    (λ h. subst P e h, λ h. subst P (sym e) h)

plain_at : (d : ℕ) (t : Tree) → dimension_of t ≡ d → IsPlainTree t ↔ PlainArrow d (arr d t)
unfolding IsPlainTree
plain_at d t e =
    let P : ℕ → Type 0 = λ n. PlainArrow n (arr n t) in
    (λ h. subst P e h, λ h. subst P (sym e) h)

-- ---- dimension 0

pub identity-ends : (t : Tree) (x y : Label) → t ≡ ends x y → IsIdentityTree t ↔ (x ≡ y)
identity-ends t x y e =
    let zero_dim : dimension_of (ends x y) ≡ zero = dimension_of-ends x y in
    let is = identity_at zero (ends x y) zero_dim in
    let a = from_at-ends x y in
    let b = to_at-ends x y in (
      λ h. sym a ∙ is.0 (subst IsIdentityTree e h) ∙ b,
      λ p. subst IsIdentityTree (sym e) (is.1 (a ∙ p ∙ sym b)),
    )

pub plain_zero : (t : Tree) → dimension_of t ≡ 0 → IsPlainTree t
plain_zero t e = (plain_at zero t e).1 tt

-- ---- above

-- the parts of an identity, and those of a plain arrow
record HasIdentityParts (t : Tree) : Type 0 where
  heights : HasIdentityHeights t
  regs : HasIdentityRegs t
  sings : HasIdentitySings t

record HasPlainParts (t : Tree) : Type 0 where
  regs : HasIdentityRegs t
  sings : HasPlainSings t

module _ (d : ℕ) (t : Tree) (h : ArrowParts t) (e : dimension_of t ≡ suc d) where
  abbrev F : Arr (suc d)
  F = arr (suc d) t

  reg_dim : (j : ℕ) → j < length (regs t) → dimension_of (reg_at t j) ≡ d
  reg_dim j l = omega (arith, (h.regs j l).1)

  sing_dim : (i : ℕ) → i < length (sings t) → dimension_of (sing_at t i) ≡ d
  sing_dim i l = omega (arith, (h.sings i l).1)

  abbrev IdentityRegs : Type 0
  IdentityRegs = (j : ℕ) → j < length F.regs → IsIdentity d (arrow_reg d F j)

  regs_to : HasIdentityRegs t → IdentityRegs
  regs_to p j l =
      let k : j < length (regs t) = omega (arith, arr-regs_len d t) in
      subst (IsIdentity d) (sym (arr-reg d t j k)) ((identity_at d (reg_at t j) (reg_dim j k)).0 (p j k))

  regs_from : IdentityRegs → HasIdentityRegs t
  regs_from p j l = (identity_at d (reg_at t j) (reg_dim j l)).1 (subst (IsIdentity d) (arr-reg d t j l) (p j (omega (arith, arr-regs_len d t))))

  identity_to : HasIdentityParts t → IdentityZag d (IsIdentity d) F
  identity_to p =
      let same : length (heights t) ≡ length F.sings = omega (arith, arr-sings_len d t, h.sings_len) in
      record {
        heights = p.heights.are ∙ ap upto same;
        regs_len = omega (arith, arr-regs_len d t, p.heights.regs_len);
        regs = regs_to p.regs;
        sings = λ i l. (let k : i < length (sings t) = omega (arith, arr-sings_len d t) in
            subst (IsIdentity d) (sym (arr-sing d t i k)) ((identity_at d (sing_at t i) (sing_dim i k)).0 (p.sings i k)));
      }

  identity_from : IdentityZag d (IsIdentity d) F → HasIdentityParts t
  identity_from z =
      let same : length F.sings ≡ length (heights t) = omega (arith, arr-sings_len d t, h.sings_len) in
      record {
        heights = record { are = z.heights ∙ ap upto same; regs_len = omega (arith, arr-regs_len d t, z.regs_len) };
        regs = regs_from z.regs;
        sings = λ i l. (identity_at d (sing_at t i) (sing_dim i l)).1
            (subst (IsIdentity d) (arr-sing d t i l) (z.sings i (omega (arith, arr-sings_len d t))));
      }

  plain_to : HasPlainParts t → PlainZag d (PlainArrow d) F
  plain_to p = record {
    regs = regs_to p.regs;
    sings = λ i l. (let k : i < length (sings t) = omega (arith, arr-sings_len d t) in
        subst (PlainArrow d) (sym (arr-sing d t i k)) ((plain_at d (sing_at t i) (sing_dim i k)).0 (p.sings i k)));
  }

  plain_from : PlainZag d (PlainArrow d) F → HasPlainParts t
  plain_from z = record {
    regs = regs_from z.regs;
    sings = λ i l. (plain_at d (sing_at t i) (sing_dim i l)).1
        (subst (PlainArrow d) (arr-sing d t i l) (z.sings i (omega (arith, arr-sings_len d t))));
  }

-- a test of one part that fails decides the whole
refused : (W P : Type 0) (r s : Bool) → IsTrue r ↔ P → (W → P) → r ≡ false → s ≡ false → IsTrue s ↔ W
refused W P r s decides part fails is = (λ yes. absurd (cc), λ w. absurd (let yes = decides.1 (part w) in cc))

module _ (t : Tree) (h : IsArrowTree t) (above : 0 < dimension_of t) where
  identity_parts : HasIdentityParts t ↔ IsIdentityTree t
  identity_parts =
      let d = dimension_of t - 1 in
      let e : dimension_of t ≡ suc d = omega arith in
      let parts = arrow_parts_of t h above in
      let is = identity_at (suc d) t e in
      (λ p. is.1 (identity_to d t parts e p), λ i. identity_from d t parts e (is.0 i))

  plain_parts : HasPlainParts t ↔ IsPlainTree t
  plain_parts =
      let d = dimension_of t - 1 in
      let e : dimension_of t ≡ suc d = omega arith in
      let parts = arrow_parts_of t h above in
      let is = plain_at (suc d) t e in
      (λ p. is.1 (plain_to d t parts e p), λ i. plain_from d t parts e (is.0 i))

  -- where the other parts are right, the singular slices decide
  pub identity_decides : (r : Bool) → HasIdentityHeights t → HasIdentityRegs t → IsTrue r ↔ HasIdentitySings t → IsTrue r ↔ IsIdentityTree t
  identity_decides r hs rs decides = (
    λ yes. identity_parts.0 (record { heights = hs; regs = rs; sings = decides.0 yes }),
    λ i. decides.1 (identity_parts.1 i).sings,
  )

  pub plain_decides : (r : Bool) → HasIdentityRegs t → IsTrue r ↔ HasPlainSings t → IsTrue r ↔ IsPlainTree t
  plain_decides r rs decides = (
    λ yes. plain_parts.0 (record { regs = rs; sings = decides.0 yes }),
    λ p. decides.1 (plain_parts.1 p).sings,
  )

  -- where another part is not, the answer is no
  pub identity_heights_fail : (r s : Bool) → IsTrue r ↔ HasIdentityHeights t → r ≡ false → s ≡ false → IsTrue s ↔ IsIdentityTree t
  identity_heights_fail r s decides = refused (IsIdentityTree t) (HasIdentityHeights t) r s decides (λ i. (identity_parts.1 i).heights)

  pub identity_regs_fail : (r s : Bool) → IsTrue r ↔ HasIdentityRegs t → r ≡ false → s ≡ false → IsTrue s ↔ IsIdentityTree t
  identity_regs_fail r s decides = refused (IsIdentityTree t) (HasIdentityRegs t) r s decides (λ i. (identity_parts.1 i).regs)

  pub plain_regs_fail : (r s : Bool) → IsTrue r ↔ HasIdentityRegs t → r ≡ false → s ≡ false → IsTrue s ↔ IsPlainTree t
  plain_regs_fail r s decides = refused (IsPlainTree t) (HasIdentityRegs t) r s decides (λ p. (plain_parts.1 p).regs)

-- ---- heights

pub heights_upto : (hs : List ℕ) → ((k : ℕ) → k < length hs → get_or hs k 0 ≡ k) → hs ≡ upto (length hs)
heights_upto hs h =
    let n = length-upto (length hs) in
    ext_get_or 0 hs (upto (length hs)) (sym n) (λ k l. h k l ∙ sym (get-upto (length hs) k l))

pub upto_heights : (hs : List ℕ) → hs ≡ upto (length hs) → (k : ℕ) → k < length hs → get_or hs k 0 ≡ k
upto_heights hs e k l = ap (λ us. get_or us k 0) e ∙ get-upto (length hs) k l

-- ---- a test of each part, one after the other

module _ (P : Tree → Type 0) (part : ℕ → Tree) (n : ℕ) where
  abbrev Each : Type 0
  Each = (j : ℕ) → j < n → P (part j)

  -- the answer is no where one part fails
  pub one_fails : (k : ℕ) (s : Tree) (r : Bool) → k < n → s ≡ part k → IsTrue r ↔ P s → r ≡ false → IsTrue false ↔ Each
  one_fails k s r l e decides fails = (λ h. absurd (cc), λ all. sym fails ∙ decides.1 (subst P (sym e) (all k l)))

  pub all_pass : Each → IsTrue true ↔ Each
  all_pass h = (λ yes. h, λ all. refl)

-- ---- in a store

-- an arrow above dimension 0 has a singular slice for each height
pub sings_len : (c : Contents) (n a : ℕ) → IsArrowAt c n a → 0 < n → length (sings (arrow_at c a)) ≡ length (heights (arrow_at c a))
sings_len c n a h above = (arrow_parts_of (arrow_at c a) h.shape (omega (arith, h.dim))).sings_len

-- and at least one regular slice
pub has_reg : (c : Contents) (n a : ℕ) → IsArrowAt c n a → 0 < n → 0 < length (regs (arrow_at c a))
has_reg c n a h above = (arrow_parts_of (arrow_at c a) h.shape (omega (arith, h.dim))).regs_len

module _ (c : Contents) (n a s : ℕ) (h : IsArrowAt c n a) (above : 0 < n) (slice : IsArrowOf c s) where
  slice_at : (t : Tree) → IsArrowTree t × (suc (dimension_of t) ≡ dimension_of (arrow_at c a)) → arrow_at c s ≡ t → IsArrowAt c (n - 1) s
  slice_at t p e = record {
    of_store = slice;
    shape = subst IsArrowTree (sym e) p.0;
    dim = ap dimension_of e ∙ omega (arith, p.1, h.dim);
  }

  pub arrow_reg_slice : (j : ℕ) → j < length (regs (arrow_at c a)) → arrow_at c s ≡ reg_at (arrow_at c a) j → IsArrowAt c (n - 1) s
  arrow_reg_slice j l e = slice_at (reg_at (arrow_at c a) j) ((arrow_parts_of (arrow_at c a) h.shape (omega (arith, h.dim))).regs j l) e

  pub arrow_sing_slice : (i : ℕ) → i < length (sings (arrow_at c a)) → arrow_at c s ≡ sing_at (arrow_at c a) i → IsArrowAt c (n - 1) s
  arrow_sing_slice i l e = slice_at (sing_at (arrow_at c a) i) ((arrow_parts_of (arrow_at c a) h.shape (omega (arith, h.dim))).sings i l) e
