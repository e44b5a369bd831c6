-- An arrow over a source of length 1 is described by its own height and its own singular slice.
use Rattle.std.proofs.Common.{◌≡◌, ℕ, zero, suc, ◌<◌, List, [], ◌∷◌, length, get_or, refl, sym, ap, subst, ◌∙◌, arith}
use Rattle.diagram_terms.specs.Dimension.{dimension_of, IsArrowTree}
use Rattle.diagram_terms.specs.Dual.{AreBelow}
use Rattle.diagram_terms.specs.Shape.{IsArrow, sing_at}
use Rattle.diagram_terms.specs.Tree.{Tree, nil, zag, heights, regs, sings}
use Rattle.hashcons.specs.Contents.{Contents, IsArrowOf, IsStore, arrow_at}
use Rattle.hashcons.specs.Nodes.{described_like}

one_element : {X : Type 0} (xs : List X) (d : X) → length xs ≡ 1 → get_or xs 0 d ∷ [] ≡ xs
one_element [] d e = absurd (omega (arith, e))
one_element (x ∷ []) d e = refl
one_element (x ∷ (y ∷ ys)) d e = absurd (omega (arith, e))

-- the parts of an arrow above dimension 0
record IsOfParts (t : Tree) : Type 0 where
  is : t ≡ zag (heights t) (regs t) (sings t)
  len : length (sings t) ≡ length (heights t)

parts : (d : ℕ) (t : Tree) → 0 < d → IsArrow d t → IsOfParts t
parts zero t l h = absurd (omega (arith, l))
parts (suc d) t l h = record { is = h.is_zag; len = h.sings_len }

pub one_below : (n s : ℕ) → s < n → AreBelow (s ∷ []) n
one_below n s l = record { below = at }
  where
    at : (i : ℕ) → i < length (s ∷ []) → get_or (s ∷ []) i 0 < n
    at zero k = l
    at (suc i) k = absurd (omega (arith, k))

module _ (c : Contents) (a h s : ℕ) (store : IsStore c) (of_store : IsArrowOf c a) (above : 0 < dimension_of (arrow_at c a))
    (one : length (heights (arrow_at c a)) ≡ 1) where
  pub like_itself : h ≡ get_or (heights (arrow_at c a)) 0 0 → arrow_at c s ≡ sing_at (arrow_at c a) 0
      → IsArrowTree (described_like c a (h ∷ []) (s ∷ []))
  like_itself height slice =
      let shape : IsArrowTree (arrow_at c a) = store.arrows a of_store in
      let p = parts (dimension_of (arrow_at c a)) (arrow_at c a) above shape in
      let hs : h ∷ [] ≡ heights (arrow_at c a) = ap (λ k. k ∷ []) height ∙ one_element (heights (arrow_at c a)) 0 one in
      let ss : arrow_at c s ∷ [] ≡ sings (arrow_at c a) =
      ap (λ t. t ∷ []) slice ∙ one_element (sings (arrow_at c a)) nil (p.len ∙ one) in
      let same : described_like c a (h ∷ []) (s ∷ []) ≡ arrow_at c a = (λ i. zag (hs i) (regs (arrow_at c a)) (ss i)) ∙ sym p.is in
      subst IsArrowTree (sym same) shape
