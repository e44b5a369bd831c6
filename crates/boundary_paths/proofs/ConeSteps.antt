-- Cones over diagrams of a store, while the store grows.
use Rattle.std.proofs.Common.{◌≡◌, ℕ, zero, suc, ◌<◌, List, [], ◌∷◌, length, get_or, replicate, Result, Ok, IfOk, refl, sym, ap, subst, ◌∙◌, arith}
use Rattle.std.proofs.lemmas.Result.{IfOk-weaker}
use Rattle.smallvec.specs.SmallVec.{SmallVec}
use Rattle.diagram_terms.specs.declared.label.Label.{Label}
use Rattle.diagram_terms.specs.Tree.{Tree, point, ends, zig, zag, sings}
use Rattle.diagram_terms.specs.ConeTrees.{cone_tree, mid_tree, type_tree}
use Rattle.diagram_terms.specs.Dimension.{IsDiagramTree}
use Rattle.diagram_terms.specs.Dual.{AreBelow, tab}
use Rattle.diagram_terms.specs.Nodes.{picked}
use Rattle.diagram_terms.specs.Operations.{identity_tree}
use Rattle.diagram_terms.specs.Shape.{IsDiagram, sing_at}
use Rattle.diagram_terms.specs.Slices.{source_tree, target_tree}
use Rattle.diagram_terms.proofs.Dimensions.{diagram_tree, diagram_dimension, diagram_dimensions}
use Rattle.diagram_terms.proofs.NotionsOnTrees.{above}
use Rattle.hashcons.specs.Contents.{Contents, Grows, IsDiagramOf, IsArrowOf, diagram_at, arrow_at}
use Rattle.hashcons.specs.Gathers.{Gathers}
use Rattle.hashcons.specs.Made.{MakesDiagram, MakesArrow, MakesArrows}
use Rattle.hashcons.proofs.OneMoreTree.{Grows-refl}
use Rattle.hashcons.proofs.Growth.{Grows-trans, store-kept, diagram-kept, arrow-kept, diagram_at-kept, arrow_at-kept, gathers-arrows_grow, gathers-picked}
use Rattle.zigzag_maps.specs.declared.map.Map.{Map}
use Rattle.zigzag_maps.specs.Found.{MakesMap}
use Rattle.zigzag_maps.specs.DiagramTests.{IsDiagramAt}
use Rattle.zigzag_maps.proofs.ValiditySteps.{is_diagram_at-grows}
use Rattle.boundary_paths.specs.declared.made.MadeCones.{MadeCones}
use Rattle.boundary_paths.specs.Cones.{IsConeOf, MakesCone, AreCones}
use Rattle.boundary_paths.proofs.ConesBySlices.{cone_tree-point, mid_tree-point, cone_tree-above, mid_tree-above, type_tree-is, type_shape, source_shape, target_shape}

-- ---- a store that grew

pub cone-grows : (old new : Contents) (x : Label) (d : ℕ) (m : Map) → Grows old new → IsConeOf old x d m → IsConeOf new x d m
cone-grows old new x d m g h = record {
  over = g.diagrams d h.over;
  source = h.source;
  target_of_store = g.diagrams m.target h.target_of_store;
  target = g.diagram_trees m.target h.target_of_store ∙ h.target ∙ ap (λ t. mid_tree t x) (sym (g.diagram_trees d h.over));
  arrow_of_store = g.arrows m.arrow h.arrow_of_store;
  arrow = g.arrow_trees m.arrow h.arrow_of_store ∙ h.arrow ∙ ap (λ t. cone_tree t x) (sym (g.diagram_trees d h.over));
}

pub cones-grow : (old new : Contents) (x : Label) (made : MadeCones) → Grows old new → AreCones old x made → AreCones new x made
cones-grow old new x made g h = record { cones = λ d m e. cone-grows old new x d m g (h.cones d m e) }

-- what was made is a map whose arrow is the cone over the tree of before
pub made_cone : {E : Type 0} (old new : Contents) (x : Label) (d : ℕ) (r : Result Map E) → IsDiagramOf old d → MakesCone old new x d r
    → MakesMap old new (cone_tree (diagram_at old d) x) r
made_cone old new x d r l h = record {
  grows = h.grows;
  of_store = IfOk-weaker r _ _ (λ m is. is.arrow_of_store) h.cone;
  tree = IfOk-weaker r _ _ (λ m is. is.arrow ∙ ap (λ t. cone_tree t x) (h.grows.diagram_trees d l)) h.cone;
}

-- ---- over a label

pub cone_over_label : {E : Type 0} (old mid new : Contents) (d m a : ℕ) (x y : Label) → IsDiagramOf old d → diagram_at old d ≡ point y
    → MakesDiagram {E = E} old mid (point x) (Ok m) → MakesArrow {E = E} mid new (ends y x) (Ok a)
    → IsConeOf new x d (record { source = d; target = m; arrow = a })
cone_over_label old mid new d m a x y l is p q =
    let g = p.grows in
    let h = q.grows in
    let d_is : diagram_at new d ≡ point y = h.diagram_trees d (g.diagrams d l) ∙ g.diagram_trees d l ∙ is in
    record {
      over = h.diagrams d (g.diagrams d l);
      source = refl;
      target_of_store = h.diagrams m p.of_store;
      target = h.diagram_trees m p.of_store ∙ p.tree ∙ sym (mid_tree-point y x) ∙ ap (λ t. mid_tree t x) (sym d_is);
      arrow_of_store = q.of_store;
      arrow = q.tree ∙ sym (cone_tree-point y x) ∙ ap (λ t. cone_tree t x) (sym d_is);
    }

-- ---- the identities of two diagrams

below_two : (n a b : ℕ) → a < n → b < n → AreBelow (a ∷ b ∷ []) n
below_two n a b p q = record { below = by }
  where
    by : (i : ℕ) → i < 2 → get_or (a ∷ b ∷ []) i 0 < n
    by zero l = p
    by (suc zero) l = q
    by (suc (suc i)) l = absurd (omega arith)

pub both_below : {E : Type 0} (mid new : Contents) (a b : ℕ) (r : Result (SmallVec ℕ) E) → IsArrowOf mid a → Grows mid new → IsArrowOf new b
    → IfOk r (λ ids. ids.items ≡ a ∷ b ∷ []) → IfOk r (λ ids. AreBelow ids.items (length new.arrows))
both_below mid new a b r p g q h = IfOk-weaker r _ _ (λ ids e. subst (λ is. AreBelow is (length new.arrows)) (sym e) (below_two _ a b (g.arrows a p) q)) h

pub both_trees : {E F : Type 0} (old mid new : Contents) (s t : ℕ) (f g : Map) (r : Result (SmallVec ℕ) E) → IsDiagramOf old t
    → MakesMap {E = F} old mid (identity_tree (diagram_at old s)) (Ok f) → MakesMap {E = F} mid new (identity_tree (diagram_at mid t)) (Ok g)
    → IfOk r (λ ids. ids.items ≡ f.arrow ∷ g.arrow ∷ [])
    → IfOk r (λ ids. picked new.arrows ids.items ≡ identity_tree (diagram_at old s) ∷ identity_tree (diagram_at old t) ∷ [])
both_trees old mid new s t f g r l p q h =
    let first = q.grows.arrow_trees f.arrow p.of_store ∙ p.tree in
    let last = q.tree ∙ ap identity_tree (p.grows.diagram_trees t l) in
    IfOk-weaker r _ _ (λ ids e. ap (picked new.arrows) e ∙ (λ i. first i ∷ last i ∷ [])) h

-- ---- one level up

above_mid : (n : ℕ) → 0 < n → (t : Tree) (x : Label) → IsDiagram n t → mid_tree t x ≡ type_tree (source_tree t) (target_tree t) x
above_mid = above _ (λ d t x h. mid_tree-above d t h x)

above_cone : (n : ℕ) → 0 < n → (t : Tree) (x : Label) → IsDiagram n t
    → cone_tree t x ≡ zag (replicate (length (sings t)) 0) (identity_tree (source_tree t) ∷ identity_tree (target_tree t) ∷ [])
    (tab (λ i. cone_tree (sing_at t i) x) (length (sings t)))
above_cone = above _ (λ d t x h. cone_tree-above d t h x)

-- the cone over a slice that a loop has made next
pub cone_of_slice : (old now new : Contents) (d s : ℕ) (x : Label) (m : Map) (part : Tree → Tree) → Grows old now → IsDiagramOf old d
    → Grows now new → IsDiagramOf now s → diagram_at now s ≡ part (diagram_at now d) → IsConeOf new x s m
    → arrow_at new m.arrow ≡ cone_tree (part (diagram_at old d)) x
cone_of_slice old now new d s x m part g l h k e cone =
    cone.arrow ∙ ap (λ t. cone_tree t x) (h.diagram_trees s k ∙ e ∙ ap part (g.diagram_trees d l))

-- the node that is put last describes the cone
pub described_cone : {E : Type 0} (old first mid new : Contents) (n d s t : ℕ) (x : Label) (hs rs : List ℕ) (ss : SmallVec ℕ) → IsDiagramAt old n d → 0 < n
    → IsDiagramOf old s → diagram_at old s ≡ source_tree (diagram_at old d) → IsDiagramOf old t → diagram_at old t ≡ target_tree (diagram_at old d)
    → hs ≡ replicate (length (sings (diagram_at old d))) 0 → Grows old first
    → MakesArrows {E = E} first mid (length (sings (diagram_at first d))) (λ i. cone_tree (sing_at (diagram_at first d) i) x) (Ok ss)
    → Grows mid new
    → picked new.arrows rs ≡ identity_tree (diagram_at mid s) ∷ identity_tree (diagram_at mid t) ∷ []
    → zag hs (picked new.arrows rs) (picked new.arrows ss.items) ≡ cone_tree (diagram_at old d) x
described_cone old first mid new n d s t x hs rs ss h l ls s_is lt t_is p a cones e r =
    let u = diagram_at old d in
    let am = Grows-trans old first mid a cones.grows in
    let s_tree = am.diagram_trees s ls ∙ s_is in
    let t_tree = am.diagram_trees t lt ∙ t_is in
    let gathered = subst (λ (v : Tree). Gathers new.arrows ss.items (length (sings v)) (λ i. cone_tree (sing_at v i) x)) (a.diagram_trees d h.of_store)
    (gathers-arrows_grow mid new ss.items _ _ e cones.gathers)
    in
    let regs_are = r ∙ (λ i. identity_tree (s_tree i) ∷ identity_tree (t_tree i) ∷ []) in
    let sings_are = gathers-picked new.arrows ss.items _ _ gathered in
    (λ i. zag (p i) (regs_are i) (sings_are i)) ∙ sym (above_cone n l u x h.shape)

-- what was made is the cone
pub cone_made : {E : Type 0} (old first new : Contents) (n d s t m a : ℕ) (x : Label) → IsDiagramAt old n d → 0 < n
    → diagram_at old s ≡ source_tree (diagram_at old d) → diagram_at old t ≡ target_tree (diagram_at old d)
    → MakesDiagram {E = E} old first (type_tree (diagram_at old s) (diagram_at old t) x) (Ok m)
    → MakesArrow {E = E} first new (cone_tree (diagram_at old d) x) (Ok a)
    → IsConeOf new x d (record { source = d; target = m; arrow = a })
cone_made old first new n d s t m a x h l s_is t_is middle arrow =
    let g = middle.grows in
    let k = arrow.grows in
    let d_is = (Grows-trans old first new g k).diagram_trees d h.of_store in
    record {
      over = k.diagrams d (g.diagrams d h.of_store);
      source = refl;
      target_of_store = k.diagrams m middle.of_store;
      target = k.diagram_trees m middle.of_store ∙ middle.tree ∙ (λ i. type_tree (s_is i) (t_is i) x)
          ∙ sym (above_mid n l (diagram_at old d) x h.shape) ∙ ap (λ v. mid_tree v x) (sym d_is);
      arrow_of_store = arrow.of_store;
      arrow = arrow.tree ∙ ap (λ v. cone_tree v x) (sym d_is);
    }

-- ---- a type

-- a node has the tree of the type
pub record DescribesType (c : Contents) (s t : Tree) (x : Label) (rs ss fs bs : List ℕ) : Type 0 where
  pub tree : zig (picked c.diagrams rs) (picked c.diagrams ss) (picked c.arrows fs) (picked c.arrows bs) ≡ type_tree s t x
  pub shape : IsDiagramTree (zig (picked c.diagrams rs) (picked c.diagrams ss) (picked c.arrows fs) (picked c.arrows bs))

pub described_type : {E : Type 0} (old mid new : Contents) (s t n : ℕ) (x : Label) (f g : Map) (rs ss fs bs : List ℕ)
    → IsDiagramAt old n s → IsDiagramAt old n t → MakesCone {E = E} old mid x s (Ok f) → MakesCone {E = E} mid new x t (Ok g)
    → rs ≡ s ∷ t ∷ [] → ss ≡ f.target ∷ [] → fs ≡ f.arrow ∷ [] → bs ≡ g.arrow ∷ []
    → DescribesType new (diagram_at old s) (diagram_at old t) x rs ss fs bs
described_type old mid new s t n x f g rs ss fs bs hs ht made_f made_g rs_are ss_are fs_are bs_are =
    let grows = Grows-trans old mid new made_f.grows made_g.grows in
    let cf = cone-grows mid new x s f made_g.grows made_f.cone in
    let s_is = grows.diagram_trees s hs.of_store in
    let t_is = grows.diagram_trees t ht.of_store in
    let m_is = cf.target ∙ ap (λ u. mid_tree u x) s_is in
    let f_is = cf.arrow ∙ ap (λ u. cone_tree u x) s_is in
    let g_is = made_g.cone.arrow ∙ ap (λ u. cone_tree u x) t_is in
    let tree : zig (picked new.diagrams rs) (picked new.diagrams ss) (picked new.arrows fs) (picked new.arrows bs) ≡ type_tree (diagram_at old s) (diagram_at old t) x =
    (λ i. zig (picked new.diagrams (rs_are i)) (picked new.diagrams (ss_are i)) (picked new.arrows (fs_are i)) (picked new.arrows (bs_are i)))
    ∙ (λ i. zig (s_is i ∷ t_is i ∷ []) (m_is i ∷ []) (f_is i ∷ []) (g_is i ∷ []))
    ∙ sym (type_tree-is n (diagram_at old s) (diagram_at old t) x hs.shape ht.shape)
    in
    record {
      tree = tree;
      shape = subst IsDiagramTree (sym tree) (diagram_tree (suc n) _ (type_shape n (diagram_at old s) (diagram_at old t) x hs.shape ht.shape));
    }

pub ruleset cones = (Grows-refl, Grows-trans, store-kept, diagram-kept, arrow-kept, diagram_at-kept, arrow_at-kept, cone-grows, cones-grow, is_diagram_at-grows, diagram_dimensions)
