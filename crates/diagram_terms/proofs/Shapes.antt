-- The shape of a node that is made from lists; and a tree has one kind and one dimension.
use Rattle.std.proofs.Common.{◌≡◌, ℕ, zero, suc, ◌<◌, ◌≤◌, List, map, length, get_or, refl, sym, ◌∙◌, ap, arith, subst}
use Rattle.diagram_terms.specs.declared.label.Label.{Label}
use Rattle.diagram_terms.specs.Tree.{Tree, nil, point, zig, ends, zag, kind, regs, sings, fwds, bwds, heights, label_at-point, from_at-ends, to_at-ends, heights-zag, regs-zag, sings-zag, regs-zig, sings-zig, fwds-zig, bwds-zig, kind-point, kind-zig, kind-ends, kind-zag}
use Rattle.diagram_terms.specs.Dual.{IsMonotone}
use Rattle.diagram_terms.specs.Decoded.{dia, arr}
use Rattle.diagram_terms.specs.Shape.{IsDiagram, IsArrow, reg_at}

-- ---- what a node made from lists decodes to

pub dia-point : (x : Label) → dia zero (point x) ≡ x
dia-point x = label_at-point x

pub arr-ends : (x y : Label) → arr zero (ends x y) ≡ record { from = x; to = y }
arr-ends x y = λ i. record { from = from_at-ends x y i; to = to_at-ends x y i }

pub dia-zig : (d : ℕ) (rs ss fs bs : List Tree)
    → dia (suc d) (zig rs ss fs bs)
    ≡ record { regs = map (dia d) rs; sings = map (dia d) ss; fwds = map (arr d) fs; bwds = map (arr d) bs }
dia-zig d rs ss fs bs = λ i. record {
  regs = map (dia d) (regs-zig rs ss fs bs i);
  sings = map (dia d) (sings-zig rs ss fs bs i);
  fwds = map (arr d) (fwds-zig rs ss fs bs i);
  bwds = map (arr d) (bwds-zig rs ss fs bs i);
}

pub arr-zag : (d : ℕ) (hs : List ℕ) (rs ss : List Tree)
    → arr (suc d) (zag hs rs ss) ≡ record { heights = hs; regs = map (arr d) rs; sings = map (arr d) ss }
arr-zag d hs rs ss = λ i. record {
  heights = heights-zag hs rs ss i;
  regs = map (arr d) (regs-zag hs rs ss i);
  sings = map (arr d) (sings-zag hs rs ss i);
}

-- ---- the shape of a node made from lists

pub IsDiagram-point : (x : Label) → IsDiagram zero (point x)
IsDiagram-point x = ap point (sym (label_at-point x))

pub IsArrow-ends : (x y : Label) → IsArrow zero (ends x y)
IsArrow-ends x y = λ i. ends (sym (from_at-ends x y) i) (sym (to_at-ends x y) i)

-- the parts of a diagram of dimension d + 1
pub record AreDiagramParts (d : ℕ) (rs ss fs bs : List Tree) : Type 0 where
  pub regs_len : length rs ≡ suc (length ss)
  pub fwds_len : length fs ≡ length ss
  pub bwds_len : length bs ≡ length ss
  pub regs_are : (j : ℕ) → j < length rs → IsDiagram d (get_or rs j nil)
  pub sings_are : (i : ℕ) → i < length ss → IsDiagram d (get_or ss i nil)
  pub fwds_are : (k : ℕ) → k < length fs → IsArrow d (get_or fs k nil)
  pub bwds_are : (k : ℕ) → k < length bs → IsArrow d (get_or bs k nil)

-- the parts of an arrow of dimension d + 1
pub record AreArrowParts (d : ℕ) (hs : List ℕ) (rs ss : List Tree) : Type 0 where
  pub regs_len : 0 < length rs
  pub sings_len : length ss ≡ length hs
  pub monotone : IsMonotone hs
  pub below : (i : ℕ) → i < length hs → suc (get_or hs i 0) < length rs
  pub regs_are : (j : ℕ) → j < length rs → IsArrow d (get_or rs j nil)
  pub sings_are : (i : ℕ) → i < length ss → IsArrow d (get_or ss i nil)

-- a node is read back as it was made
pub zig_again : (rs ss fs bs : List Tree)
    → zig rs ss fs bs ≡ zig (regs (zig rs ss fs bs)) (sings (zig rs ss fs bs)) (fwds (zig rs ss fs bs)) (bwds (zig rs ss fs bs))
zig_again rs ss fs bs =
    let a = regs-zig rs ss fs bs in
    let b = sings-zig rs ss fs bs in
    let e = fwds-zig rs ss fs bs in
    let f = bwds-zig rs ss fs bs in
    sym (λ i. zig (a i) (b i) (e i) (f i))

pub zag_again : (hs : List ℕ) (rs ss : List Tree)
    → zag hs rs ss ≡ zag (heights (zag hs rs ss)) (regs (zag hs rs ss)) (sings (zag hs rs ss))
zag_again hs rs ss =
    let h = heights-zag hs rs ss in
    let a = regs-zag hs rs ss in
    let b = sings-zag hs rs ss in
    sym (λ i. zag (h i) (a i) (b i))

-- a node is a diagram exactly if its parts are those of one
module _ (d : ℕ) (rs ss fs bs : List Tree) where
  pub IsDiagram-zig : AreDiagramParts d rs ss fs bs → IsDiagram (suc d) (zig rs ss fs bs)
  IsDiagram-zig p =
      let a = regs-zig rs ss fs bs in
      let b = sings-zig rs ss fs bs in
      let e = fwds-zig rs ss fs bs in
      let f = bwds-zig rs ss fs bs in
      let la = p.regs_len in
      let lf = p.fwds_len in
      let lb = p.bwds_len in
      record {
        is_zig = zig_again rs ss fs bs;
        regs_len = ap length a ∙ p.regs_len ∙ ap (λ (ts : List Tree). suc (length ts)) (sym b);
        fwds_len = ap length e ∙ p.fwds_len ∙ ap length (sym b);
        bwds_len = ap length f ∙ p.bwds_len ∙ ap length (sym b);
        regs_are = λ j l. let n = ap length b in
            subst (λ ts. IsDiagram d (get_or ts j nil)) (sym a) (p.regs_are j (omega arith));
        sings_are = λ i l. let n = ap length b in
            subst (λ ts. IsDiagram d (get_or ts i nil)) (sym b) (p.sings_are i (omega arith));
        fwds_are = λ k l. let n = ap length b in
            subst (λ ts. IsArrow d (get_or ts k nil)) (sym e) (p.fwds_are k (omega arith));
        bwds_are = λ k l. let n = ap length b in
            subst (λ ts. IsArrow d (get_or ts k nil)) (sym f) (p.bwds_are k (omega arith));
      }

  pub diagram_parts : IsDiagram (suc d) (zig rs ss fs bs) → AreDiagramParts d rs ss fs bs
  diagram_parts h =
      let a = regs-zig rs ss fs bs in
      let b = sings-zig rs ss fs bs in
      let e = fwds-zig rs ss fs bs in
      let f = bwds-zig rs ss fs bs in
      let n = ap length b in
      let rl : length rs ≡ suc (length ss) = ap length (sym a) ∙ h.regs_len ∙ ap suc n in
      let fl : length fs ≡ length ss = ap length (sym e) ∙ h.fwds_len ∙ n in
      let bl : length bs ≡ length ss = ap length (sym f) ∙ h.bwds_len ∙ n in
      record {
        regs_len = rl;
        fwds_len = fl;
        bwds_len = bl;
        regs_are = λ j l. subst (λ ts. IsDiagram d (get_or ts j nil)) a (h.regs_are j (omega arith));
        sings_are = λ i l. subst (λ ts. IsDiagram d (get_or ts i nil)) b (h.sings_are i (omega arith));
        fwds_are = λ k l. subst (λ ts. IsArrow d (get_or ts k nil)) e (h.fwds_are k (omega arith));
        bwds_are = λ k l. subst (λ ts. IsArrow d (get_or ts k nil)) f (h.bwds_are k (omega arith));
      }

-- and an arrow exactly if its parts are those of one
module _ (d : ℕ) (hs : List ℕ) (rs ss : List Tree) where
  pub IsArrow-zag : AreArrowParts d hs rs ss → IsArrow (suc d) (zag hs rs ss)
  IsArrow-zag p =
      let h = heights-zag hs rs ss in
      let a = regs-zag hs rs ss in
      let b = sings-zag hs rs ss in
      let nh = ap length h in
      let na = ap length a in
      let nb = ap length b in
      record {
        is_zag = zag_again hs rs ss;
        regs_len = let l = p.regs_len in omega arith;
        sings_len = nb ∙ p.sings_len ∙ sym nh;
        monotone = subst IsMonotone (sym h) p.monotone;
        below = λ i l.
            let q = p.below i (omega arith) in
            let e = ap (λ (ns : List ℕ). get_or ns i 0) h in omega arith;
        regs_are = λ j l. subst (λ ts. IsArrow d (get_or ts j nil)) (sym a) (p.regs_are j (omega arith));
        sings_are = λ i l. subst (λ ts. IsArrow d (get_or ts i nil)) (sym b) (p.sings_are i (omega arith));
      }

  pub arrow_parts : IsArrow (suc d) (zag hs rs ss) → AreArrowParts d hs rs ss
  arrow_parts k =
      let h = heights-zag hs rs ss in
      let a = regs-zag hs rs ss in
      let b = sings-zag hs rs ss in
      let nh = ap length h in
      let na = ap length a in
      let nb = ap length b in
      record {
        regs_len = let l = k.regs_len in omega arith;
        sings_len = sym nb ∙ k.sings_len ∙ nh;
        monotone = subst IsMonotone h k.monotone;
        below = λ i l.
            let q = k.below i (omega arith) in
            let e = ap (λ (ns : List ℕ). get_or ns i 0) h in omega arith;
        regs_are = λ j l. subst (λ ts. IsArrow d (get_or ts j nil)) a (k.regs_are j (omega arith));
        sings_are = λ i l. subst (λ ts. IsArrow d (get_or ts i nil)) b (k.sings_are i (omega arith));
      }

-- ---- kind and dimension

pub kind-diagram_zero : (t : Tree) → IsDiagram zero t → kind t ≡ 0
kind-diagram_zero t h = ap kind h ∙ kind-point _

pub kind-diagram_above : (d : ℕ) (t : Tree) → IsDiagram (suc d) t → kind t ≡ 1
kind-diagram_above d t h = ap kind h.is_zig ∙ kind-zig _ _ _ _

pub kind-arrow_zero : (t : Tree) → IsArrow zero t → kind t ≡ 2
kind-arrow_zero t h = ap kind h ∙ kind-ends _ _

pub kind-arrow_above : (d : ℕ) (t : Tree) → IsArrow (suc d) t → kind t ≡ 3
kind-arrow_above d t h = ap kind h.is_zag ∙ kind-zag _ _ _

kind-diagram : (d : ℕ) (t : Tree) → IsDiagram d t → kind t < 2
kind-diagram zero t h = omega (arith, kind-diagram_zero t h)
kind-diagram (suc d) t h = omega (arith, kind-diagram_above d t h)

kind-arrow : (d : ℕ) (t : Tree) → IsArrow d t → 2 ≤ kind t
kind-arrow zero t h = omega (arith, kind-arrow_zero t h)
kind-arrow (suc d) t h = omega (arith, kind-arrow_above d t h)

-- no tree is a diagram and an arrow
pub one_kind : (m n : ℕ) (t : Tree) → IsDiagram m t → IsArrow n t → ⊥
one_kind m n t h k =
    let a : kind t < 2 = kind-diagram m t h in
    let b : 2 ≤ kind t = kind-arrow n t k in omega arith

-- a diagram has one dimension
pub one_diagram_dimension : (m n : ℕ) (t : Tree) → IsDiagram m t → IsDiagram n t → m ≡ n
one_diagram_dimension zero zero t h k = refl
one_diagram_dimension zero (suc n) t h k = absurd (omega (arith, kind-diagram_zero t h, kind-diagram_above n t k))
one_diagram_dimension (suc m) zero t h k = absurd (omega (arith, kind-diagram_above m t h, kind-diagram_zero t k))
one_diagram_dimension (suc m) (suc n) t h k =
    ap suc (one_diagram_dimension m n (reg_at t 0) (h.regs_are 0 (omega arith)) (k.regs_are 0 (omega arith)))

-- and so has an arrow
pub one_arrow_dimension : (m n : ℕ) (t : Tree) → IsArrow m t → IsArrow n t → m ≡ n
one_arrow_dimension zero zero t h k = refl
one_arrow_dimension zero (suc n) t h k = absurd (omega (arith, kind-arrow_zero t h, kind-arrow_above n t k))
one_arrow_dimension (suc m) zero t h k = absurd (omega (arith, kind-arrow_above m t h, kind-arrow_zero t k))
one_arrow_dimension (suc m) (suc n) t h k =
    let a = h.regs_len in
    let b = k.regs_len in
    ap suc (one_arrow_dimension m n (reg_at t 0) (h.regs_are 0 (omega arith)) (k.regs_are 0 (omega arith)))
