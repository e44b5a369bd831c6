-- The plain tree and the family over the dimension say the same: decoding and its way back.
use Rattle.std.proofs.Common.{◌≡◌, ℕ, zero, suc, ◌<◌, ◌≤◌, List, [], ◌∷◌, map, length, get_or, refl, sym, ◌∙◌, ap, ap₂, arith}
use Rattle.std.proofs.lemmas.List.{get_or-map, length-map}
use Rattle.diagram_terms.specs.Tree.{Tree, nil, zig, zag, regs, sings, fwds, bwds, heights, label_at-point, from_at-ends, to_at-ends, heights-zag, regs-zag, sings-zag, regs-zig, sings-zig, fwds-zig, bwds-zig}
use Rattle.diagram_terms.specs.Family.{Dia, Arr, no_dia, no_arr, reg, sing, fwd, bwd, height, arrow_reg, arrow_sing}
use Rattle.diagram_terms.specs.Decoded.{dia, arr, dia_tree, arr_tree}
use Rattle.diagram_terms.specs.Shape.{IsDiagram, IsArrow, reg_at, sing_at, fwd_at, bwd_at}

-- ---- the four round trips

-- decoding each of a list of encoded parts gives the parts
decode_each : {X : Type 0} (encode : X → Tree) (decode : Tree → X) → ((x : X) → decode (encode x) ≡ x) → (xs : List X)
    → map decode (map encode xs) ≡ xs
decode_each encode decode e [] = refl
decode_each encode decode e (x ∷ xs) = ap₂ ◌∷◌ (e x) (decode_each encode decode e xs)

-- encoding each of a list of decoded parts gives the parts
encode_each : {X : Type 0} (encode : X → Tree) (decode : Tree → X) (ts : List Tree)
    → ((k : ℕ) → k < length ts → encode (decode (get_or ts k nil)) ≡ get_or ts k nil) → map encode (map decode ts) ≡ ts
encode_each encode decode [] e = refl
encode_each encode decode (t ∷ ts) e =
    ap₂ ◌∷◌ (e 0 (omega arith)) (encode_each encode decode ts (λ k l. e (suc k) (omega arith)))

pub arr-arr_tree : (d : ℕ) (f : Arr d) → arr d (arr_tree d f) ≡ f
arr-arr_tree zero f = λ i. record { from = from_at-ends f.from f.to i; to = to_at-ends f.from f.to i }
arr-arr_tree (suc d) f =
    let rs = map (arr_tree d) f.regs in
    let ss = map (arr_tree d) f.sings in
    let each = decode_each (arr_tree d) (arr d) (arr-arr_tree d) in
    let a = ap (map (arr d)) (regs-zag f.heights rs ss) ∙ each f.regs in
    let b = ap (map (arr d)) (sings-zag f.heights rs ss) ∙ each f.sings in
    λ i. record { heights = heights-zag f.heights rs ss i; regs = a i; sings = b i }

pub dia-dia_tree : (d : ℕ) (X : Dia d) → dia d (dia_tree d X) ≡ X
dia-dia_tree zero X = label_at-point X
dia-dia_tree (suc d) X =
    let rs = map (dia_tree d) X.regs in
    let ss = map (dia_tree d) X.sings in
    let fs = map (arr_tree d) X.fwds in
    let bs = map (arr_tree d) X.bwds in
    let slices = decode_each (dia_tree d) (dia d) (dia-dia_tree d) in
    let legs = decode_each (arr_tree d) (arr d) (arr-arr_tree d) in
    let a = ap (map (dia d)) (regs-zig rs ss fs bs) ∙ slices X.regs in
    let b = ap (map (dia d)) (sings-zig rs ss fs bs) ∙ slices X.sings in
    let e = ap (map (arr d)) (fwds-zig rs ss fs bs) ∙ legs X.fwds in
    let h = ap (map (arr d)) (bwds-zig rs ss fs bs) ∙ legs X.bwds in
    λ i. record { regs = a i; sings = b i; fwds = e i; bwds = h i }

pub arr_tree-arr : (d : ℕ) (t : Tree) → IsArrow d t → arr_tree d (arr d t) ≡ t
arr_tree-arr zero t h = sym h
arr_tree-arr (suc d) t h =
    let a = encode_each (arr_tree d) (arr d) (regs t) (λ j l. arr_tree-arr d (reg_at t j) (h.regs_are j l)) in
    let b = encode_each (arr_tree d) (arr d) (sings t) (λ i l. arr_tree-arr d (sing_at t i) (h.sings_are i l)) in
    ap₂ (zag (heights t)) a b ∙ sym h.is_zag

pub dia_tree-dia : (d : ℕ) (t : Tree) → IsDiagram d t → dia_tree d (dia d t) ≡ t
dia_tree-dia zero t h = sym h
dia_tree-dia (suc d) t h =
    let n = h.regs_len in
    let nf = h.fwds_len in
    let nb = h.bwds_len in
    let a = encode_each (dia_tree d) (dia d) (regs t) (λ j l. dia_tree-dia d (reg_at t j) (h.regs_are j (omega arith))) in
    let b = encode_each (dia_tree d) (dia d) (sings t) (λ i l. dia_tree-dia d (sing_at t i) (h.sings_are i l)) in
    let e = encode_each (arr_tree d) (arr d) (fwds t) (λ k l. arr_tree-arr d (fwd_at t k) (h.fwds_are k (omega arith))) in
    let f = encode_each (arr_tree d) (arr d) (bwds t) (λ k l. arr_tree-arr d (bwd_at t k) (h.bwds_are k (omega arith))) in
    (λ i. zig (a i) (b i) (e i) (f i)) ∙ sym h.is_zig

-- so a tree of the right shape is known by what it decodes to
pub same_dia_trees : (d : ℕ) (t u : Tree) → IsDiagram d t → IsDiagram d u → dia d t ≡ dia d u → t ≡ u
same_dia_trees d t u h k e = sym (dia_tree-dia d t h) ∙ ap (dia_tree d) e ∙ dia_tree-dia d u k

pub same_arr_trees : (d : ℕ) (t u : Tree) → IsArrow d t → IsArrow d u → arr d t ≡ arr d u → t ≡ u
same_arr_trees d t u h k e = sym (arr_tree-arr d t h) ∙ ap (arr_tree d) e ∙ arr_tree-arr d u k

-- ---- the parts of a decoded tree are its decoded parts

-- of any tree
pub dia-regs_len : (d : ℕ) (t : Tree) → length (dia (suc d) t).regs ≡ length (regs t)
dia-regs_len d t = length-map (regs t) (dia d)

pub dia-sings_len : (d : ℕ) (t : Tree) → length (dia (suc d) t).sings ≡ length (sings t)
dia-sings_len d t = length-map (sings t) (dia d)

pub dia-fwds_len : (d : ℕ) (t : Tree) → length (dia (suc d) t).fwds ≡ length (fwds t)
dia-fwds_len d t = length-map (fwds t) (arr d)

pub dia-bwds_len : (d : ℕ) (t : Tree) → length (dia (suc d) t).bwds ≡ length (bwds t)
dia-bwds_len d t = length-map (bwds t) (arr d)

pub arr-regs_len : (d : ℕ) (t : Tree) → length (arr (suc d) t).regs ≡ length (regs t)
arr-regs_len d t = length-map (regs t) (arr d)

pub arr-sings_len : (d : ℕ) (t : Tree) → length (arr (suc d) t).sings ≡ length (sings t)
arr-sings_len d t = length-map (sings t) (arr d)

pub dia-reg_below : (d : ℕ) (t : Tree) (j : ℕ) → j < length (regs t) → reg d (dia (suc d) t) j ≡ dia d (reg_at t j)
dia-reg_below d t j l = get_or-map (dia d) (regs t) j nil (no_dia d) l

pub dia-sing_below : (d : ℕ) (t : Tree) (i : ℕ) → i < length (sings t) → sing d (dia (suc d) t) i ≡ dia d (sing_at t i)
dia-sing_below d t i l = get_or-map (dia d) (sings t) i nil (no_dia d) l

pub dia-fwd_below : (d : ℕ) (t : Tree) (k : ℕ) → k < length (fwds t) → fwd d (dia (suc d) t) k ≡ arr d (fwd_at t k)
dia-fwd_below d t k l = get_or-map (arr d) (fwds t) k nil (no_arr d) l

pub dia-bwd_below : (d : ℕ) (t : Tree) (k : ℕ) → k < length (bwds t) → bwd d (dia (suc d) t) k ≡ arr d (bwd_at t k)
dia-bwd_below d t k l = get_or-map (arr d) (bwds t) k nil (no_arr d) l

pub arr-height : (d : ℕ) (t : Tree) (i : ℕ) → height d (arr (suc d) t) i ≡ get_or (heights t) i 0
arr-height d t i = refl

pub arr-reg : (d : ℕ) (t : Tree) (j : ℕ) → j < length (regs t) → arrow_reg d (arr (suc d) t) j ≡ arr d (reg_at t j)
arr-reg d t j l = get_or-map (arr d) (regs t) j nil (no_arr d) l

pub arr-sing : (d : ℕ) (t : Tree) (i : ℕ) → i < length (sings t) → arrow_sing d (arr (suc d) t) i ≡ arr d (sing_at t i)
arr-sing d t i l = get_or-map (arr d) (sings t) i nil (no_arr d) l

-- of the tree of a diagram, whose heights are counted by its singular slices
module _ (d : ℕ) (t : Tree) (h : IsDiagram (suc d) t) where
  pub dia-reg : (j : ℕ) → j ≤ length (sings t) → reg d (dia (suc d) t) j ≡ dia d (reg_at t j)
  dia-reg j l = dia-reg_below d t j (omega (arith, h.regs_len))

  pub dia-sing : (i : ℕ) → i < length (sings t) → sing d (dia (suc d) t) i ≡ dia d (sing_at t i)
  dia-sing i l = dia-sing_below d t i l

  pub dia-fwd : (k : ℕ) → k < length (sings t) → fwd d (dia (suc d) t) k ≡ arr d (fwd_at t k)
  dia-fwd k l = dia-fwd_below d t k (omega (arith, h.fwds_len))

  pub dia-bwd : (k : ℕ) → k < length (sings t) → bwd d (dia (suc d) t) k ≡ arr d (bwd_at t k)
  dia-bwd k l = dia-bwd_below d t k (omega (arith, h.bwds_len))

-- ---- the parts of an encoded diagram are its encoded parts

module _ (d : ℕ) (X : Dia (suc d)) where
  pub regs-dia_tree : regs (dia_tree (suc d) X) ≡ map (dia_tree d) X.regs
  regs-dia_tree = regs-zig _ _ _ _

  pub sings-dia_tree : sings (dia_tree (suc d) X) ≡ map (dia_tree d) X.sings
  sings-dia_tree = sings-zig _ _ _ _

  pub fwds-dia_tree : fwds (dia_tree (suc d) X) ≡ map (arr_tree d) X.fwds
  fwds-dia_tree = fwds-zig _ _ _ _

  pub bwds-dia_tree : bwds (dia_tree (suc d) X) ≡ map (arr_tree d) X.bwds
  bwds-dia_tree = bwds-zig _ _ _ _

  pub dia_tree-regs_len : length (regs (dia_tree (suc d) X)) ≡ length X.regs
  dia_tree-regs_len = ap length regs-dia_tree ∙ length-map X.regs (dia_tree d)

  pub dia_tree-sings_len : length (sings (dia_tree (suc d) X)) ≡ length X.sings
  dia_tree-sings_len = ap length sings-dia_tree ∙ length-map X.sings (dia_tree d)

  pub dia_tree-fwds_len : length (fwds (dia_tree (suc d) X)) ≡ length X.fwds
  dia_tree-fwds_len = ap length fwds-dia_tree ∙ length-map X.fwds (arr_tree d)

  pub dia_tree-bwds_len : length (bwds (dia_tree (suc d) X)) ≡ length X.bwds
  dia_tree-bwds_len = ap length bwds-dia_tree ∙ length-map X.bwds (arr_tree d)

  pub dia_tree-reg : (j : ℕ) → j < length X.regs → reg_at (dia_tree (suc d) X) j ≡ dia_tree d (reg d X j)
  dia_tree-reg j l = ap (λ (ts : List Tree). get_or ts j nil) regs-dia_tree ∙ get_or-map (dia_tree d) X.regs j (no_dia d) nil l

  pub dia_tree-sing : (i : ℕ) → i < length X.sings → sing_at (dia_tree (suc d) X) i ≡ dia_tree d (sing d X i)
  dia_tree-sing i l = ap (λ (ts : List Tree). get_or ts i nil) sings-dia_tree ∙ get_or-map (dia_tree d) X.sings i (no_dia d) nil l

  pub dia_tree-fwd : (k : ℕ) → k < length X.fwds → fwd_at (dia_tree (suc d) X) k ≡ arr_tree d (fwd d X k)
  dia_tree-fwd k l = ap (λ (ts : List Tree). get_or ts k nil) fwds-dia_tree ∙ get_or-map (arr_tree d) X.fwds k (no_arr d) nil l

  pub dia_tree-bwd : (k : ℕ) → k < length X.bwds → bwd_at (dia_tree (suc d) X) k ≡ arr_tree d (bwd d X k)
  dia_tree-bwd k l = ap (λ (ts : List Tree). get_or ts k nil) bwds-dia_tree ∙ get_or-map (arr_tree d) X.bwds k (no_arr d) nil l

module _ (d : ℕ) (f : Arr (suc d)) where
  pub heights-arr_tree : heights (arr_tree (suc d) f) ≡ f.heights
  heights-arr_tree = heights-zag _ _ _

  pub regs-arr_tree : regs (arr_tree (suc d) f) ≡ map (arr_tree d) f.regs
  regs-arr_tree = regs-zag f.heights _ _

  pub sings-arr_tree : sings (arr_tree (suc d) f) ≡ map (arr_tree d) f.sings
  sings-arr_tree = sings-zag f.heights _ _

  pub arr_tree-regs_len : length (regs (arr_tree (suc d) f)) ≡ length f.regs
  arr_tree-regs_len = ap length regs-arr_tree ∙ length-map f.regs (arr_tree d)

  pub arr_tree-sings_len : length (sings (arr_tree (suc d) f)) ≡ length f.sings
  arr_tree-sings_len = ap length sings-arr_tree ∙ length-map f.sings (arr_tree d)

  pub arr_tree-reg : (j : ℕ) → j < length f.regs → reg_at (arr_tree (suc d) f) j ≡ arr_tree d (arrow_reg d f j)
  arr_tree-reg j l = ap (λ (ts : List Tree). get_or ts j nil) regs-arr_tree ∙ get_or-map (arr_tree d) f.regs j (no_arr d) nil l

  pub arr_tree-sing : (i : ℕ) → i < length f.sings → sing_at (arr_tree (suc d) f) i ≡ arr_tree d (arrow_sing d f i)
  arr_tree-sing i l = ap (λ (ts : List Tree). get_or ts i nil) sings-arr_tree ∙ get_or-map (arr_tree d) f.sings i (no_arr d) nil l
