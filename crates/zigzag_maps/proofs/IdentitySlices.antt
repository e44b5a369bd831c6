-- The tree of the identity arrow of a diagram, by its slices; and its shape.
use Rattle.std.proofs.Common.{◌≡◌, ℕ, zero, suc, ◌<◌, ◌+◌, List, map, length, get_or, [], ◌∷◌, ◌++◌, sym, ap, subst, ◌∙◌, arith, Ok}
use Rattle.std.proofs.lemmas.List.{get_or-map, length-map, map-id, ext_get_or}
use Rattle.std.proofs.lemmas.List.FromFn.{map-range_with_len_more}
use Rattle.diagram_terms.specs.declared.label.Label.{Label}
use Rattle.diagram_terms.specs.Tree.{Tree, nil, point, ends, zag, sings, label_at-point}
use Rattle.diagram_terms.specs.Dual.{upto, tab}
use Rattle.diagram_terms.specs.Family.{Dia, Arr, no_arr}
use Rattle.diagram_terms.specs.Composite.{ident}
use Rattle.diagram_terms.specs.Decoded.{dia, arr_tree}
use Rattle.diagram_terms.specs.Shape.{IsDiagram, IsArrow, reg_at, sing_at}
use Rattle.diagram_terms.specs.Dimension.{dimension_of, IsDiagramTree, IsArrowTree}
use Rattle.diagram_terms.proofs.Dimensions.{diagram_dimension, arrow_tree, length-regs, length-fwds, length-bwds, dimension_of-reg_at, dimension_of-sing_at}
use Rattle.diagram_terms.proofs.Duals.{length-upto, get-upto, length-tab, get-tab}
use Rattle.diagram_terms.proofs.Glue.{dia-regs_len, dia-sings_len, dia-reg, dia-sing}
use Rattle.diagram_terms.proofs.Parts.{ident-from, ident-to, ident-heights, ident-regs_len, ident-sings_len, ident-reg, ident-sing}
use Rattle.diagram_terms.proofs.Shapes.{IsArrow-ends, IsArrow-zag, IsDiagram-point}
use Rattle.diagram_terms.specs.Nodes.{picked}
use Rattle.hashcons.specs.Contents.{Contents, IsStore, IsDiagramOf, Grows, diagram_at}
use Rattle.hashcons.specs.Gathers.{Gathers}
use Rattle.hashcons.specs.Made.{MakesArrows}
use Rattle.smallvec.specs.SmallVec.{SmallVec}
use Rattle.hashcons.proofs.OneMoreTree.{Grows-refl}
use Rattle.hashcons.proofs.Growth.{Grows-trans, store-kept, diagram-kept, arrow-kept, diagram_at-kept, arrow_at-kept, gathers-arrows_grow, gathers-picked}
use Rattle.diagram_terms.proofs.NotionsOnTrees.{on_diagram_at}
use Rattle.diagram_terms.specs.Operations.{identity_tree}

-- of a label
pub identity_tree-point : (x : Label) → identity_tree (point x) ≡ ends x x
identity_tree-point x =
    let e = label_at-point x in
    on_diagram_at _ zero (point x) (IsDiagram-point x)
    ∙ (λ i. ends (ident-from (dia zero (point x)) i) (ident-to (dia zero (point x)) i)) ∙ (λ i. ends (e i) (e i))

-- the list of the slices' identities
pub slices_tab : {X : Type 0} (n : ℕ) (xs : List X) (none : X) (f : X → Tree) (g : ℕ → Tree) → length xs ≡ n
    → ((j : ℕ) → j < n → f (get_or xs j none) ≡ g j) → map f xs ≡ tab g n
slices_tab n xs none f g l e =
    let m = length-map xs f in
    let k = length-tab g n in
    ext_get_or nil (map f xs) (tab g n) (omega arith)
    (λ j b. get_or-map f xs j none nil (omega arith) ∙ e j (omega arith) ∙ sym (get-tab g n j nil (omega arith)))

-- one level up
pub identity_tree-above : (d : ℕ) (t : Tree) → IsDiagram (suc d) t
    → identity_tree t ≡ zag (upto (length (sings t))) (tab (λ j. identity_tree (reg_at t j)) (length (sings t) + 1))
    (tab (λ i. identity_tree (sing_at t i)) (length (sings t)))
identity_tree-above d t h =
    let X : Dia (suc d) = dia (suc d) t in
    let f : Arr (suc d) = ident (suc d) X in
    let rl = h.regs_len in
    let xr = dia-regs_len d t in
    let xs = dia-sings_len d t in
    let fr = ident-regs_len d X in
    let fs = ident-sings_len d X in
    let hs : f.heights ≡ upto (length (sings t)) = ident-heights d X ∙ ap upto xs in
    let rs : map (arr_tree d) f.regs ≡ tab (λ j. identity_tree (reg_at t j)) (length (sings t) + 1) =
    slices_tab (length (sings t) + 1) f.regs (no_arr d) (arr_tree d) (λ j. identity_tree (reg_at t j)) (omega arith)
    (λ j l. ap (arr_tree d) (ident-reg d X j (omega arith) ∙ ap (ident d) (dia-reg d t h j (omega arith))) ∙ sym
    (on_diagram_at _ d (reg_at t j) (h.regs_are j (omega arith))))
    in
    let ss : map (arr_tree d) f.sings ≡ tab (λ i. identity_tree (sing_at t i)) (length (sings t)) =
    slices_tab (length (sings t)) f.sings (no_arr d) (arr_tree d) (λ i. identity_tree (sing_at t i)) (omega arith)
    (λ i l. ap (arr_tree d) (ident-sing d X i (omega arith) ∙ ap (ident d) (dia-sing d t h i l)) ∙ sym
    (on_diagram_at _ d (sing_at t i) (h.sings_are i l)))
    in
    on_diagram_at _ (suc d) t h ∙ (λ i. zag (hs i) (rs i) (ss i))

-- its shape
pub identity_shape : (d : ℕ) (t : Tree) → IsDiagram d t → IsArrow d (identity_tree t)
identity_shape zero t h = subst (IsArrow zero) (sym (on_diagram_at _ zero t h)) (IsArrow-ends _ _)
identity_shape (suc d) t h =
    let n = length (sings t) in
    let u = length-upto n in
    let r = λ (j : ℕ). identity_tree (reg_at t j) in
    let s = λ (i : ℕ). identity_tree (sing_at t i) in
    let lr = length-tab r (n + 1) in
    let ls = length-tab s n in
    subst (IsArrow (suc d)) (sym (identity_tree-above d t h))
    (IsArrow-zag d (upto n) (tab r (n + 1)) (tab s n) (record {
      regs_len = omega arith;
      sings_len = omega arith;
      monotone = record {
        rises = λ i j l m. omega (
          arith,
          l,
          get-upto n i (omega (arith, l, m, u)),
          get-upto n j
              (omega (arith, m, u)),
        );
      };
      below = λ i l. omega (arith, get-upto n i (omega (arith, l, u)));
      regs_are = λ j l. subst (IsArrow d) (sym (get-tab r (n + 1) j nil (omega (arith, l, lr))))
          (identity_shape d (reg_at t j) (h.regs_are j (omega (arith, l, lr, h.regs_len))));
      sings_are = λ i l. subst (IsArrow d) (sym (get-tab s n i nil (omega (arith, l, ls))))
          (identity_shape d (sing_at t i) (h.sings_are i (omega (arith, l, ls))));
    }))

pub IsArrowTree-identity_tree : (t : Tree) → IsDiagramTree t → IsArrowTree (identity_tree t)
IsArrowTree-identity_tree t h = arrow_tree (dimension_of t) (identity_tree t) (identity_shape (dimension_of t) t h)

pub upto_more : (n : ℕ) → upto (n + 1) ≡ upto n ++ n ∷ []
upto_more n =
    sym (map-id (upto (n + 1))) ∙ map-range_with_len_more (λ i. i) 0 n n (omega arith)
    ∙ ap (λ hs. hs ++ n ∷ []) (map-id (upto n))

-- ---- in a store

-- the identity of a slice that a loop has put next
pub slice_identity : (old now : Contents) (d s : ℕ) (part : Tree → Tree) → Grows old now → IsDiagramOf old d
    → diagram_at now s ≡ part (diagram_at now d) → identity_tree (diagram_at now s) ≡ identity_tree (part (diagram_at old d))
slice_identity old now d s part g l e = ap identity_tree (e ∙ ap part (g.diagram_trees d l))

above_zero : (n : ℕ) (t : Tree) (rs ss : List Tree) (hs : List ℕ) → IsDiagram n t → 0 < n → hs ≡ upto (length (sings t))
    → rs ≡ tab (λ j. identity_tree (reg_at t j)) (length (sings t) + 1) → ss ≡ tab (λ i. identity_tree (sing_at t i))
    (length (sings t)) → zag hs rs ss ≡ identity_tree t
above_zero zero t rs ss hs h l p q r = absurd (omega arith)
above_zero (suc n) t rs ss hs h l p q r = (λ i. zag (p i) (q i) (r i)) ∙ sym (identity_tree-above n t h)

-- the node that is put last describes the identity
pub described_identity : {E : Type 0} (old mid new : Contents) (d : ℕ) (hs : List ℕ) (rs ss : SmallVec ℕ) → IsStore old → IsDiagramOf old d
    → 0 < dimension_of (diagram_at old d)
    → hs ≡ upto (length (sings (diagram_at old d)))
    → MakesArrows {E = E} old mid (length (sings (diagram_at old d)) + 1) (λ j. identity_tree (reg_at (diagram_at old d) j)) (Ok rs)
    → MakesArrows {E = E} mid new (length (sings (diagram_at mid d))) (λ i. identity_tree (sing_at (diagram_at mid d) i)) (Ok ss)
    → zag hs (picked new.arrows rs.items) (picked new.arrows ss.items) ≡ identity_tree (diagram_at old d)
described_identity old mid new d hs rs ss store l above p r s =
    let t = diagram_at old d in
    let r2 = gathers-arrows_grow mid new rs.items _ _ s.grows r.gathers in
    let s2 = subst (λ (u : Tree). Gathers new.arrows ss.items (length (sings u)) (λ i. identity_tree (sing_at u i)))
    (r.grows.diagram_trees d l) s.gathers in
    above_zero (dimension_of t) t (picked new.arrows rs.items) (picked new.arrows ss.items) hs (store.diagrams d l) above p
    (gathers-picked new.arrows rs.items _ _ r2) (gathers-picked new.arrows ss.items _ _ s2)

pub ruleset identifies = (Grows-refl, Grows-trans, diagram-kept, arrow-kept, diagram_at-kept, arrow_at-kept, length-regs, length-fwds, length-bwds, dimension_of-reg_at, dimension_of-sing_at)
