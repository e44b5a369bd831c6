-- The steps of the recursion, from a key to those of its slices and back.
use Rattle.std.proofs.Common.{◌≡◌, ℕ, suc, ◌+◌, ◌-◌, ◌<◌, ◌≤◌, List, ◌∷◌, [], ◌++◌, length, nat_lt, Result, Ok, Err, IfOk, sym, ap, subst, ◌∙◌, arith}
use Rattle.std.proofs.lemmas.List.{length-append, length-map, get_or-append-add}
use Rattle.std.proofs.Math.Seq.{get_or-append_seam}
use Rattle.diagram_terms.specs.Dimension.{dimension_of, IsDiagramTree}
use Rattle.diagram_terms.specs.Shape.{reg_at, sing_at}
use Rattle.diagram_terms.specs.Tree.{Tree, nil, sings}
use Rattle.diagram_terms.proofs.Dimensions.{dimension_of-reg_at, dimension_of-sing_at, length-regs}
use Rattle.hashcons.specs.Contents.{Contents, Grows, Key, diagram_at, leg_of}
use Rattle.hashcons.specs.Gathers.{Gathers}
use Rattle.hashcons.specs.NormalTrees.{TreeLeg, tree_leg_at}
use Rattle.hashcons.proofs.Growth.{Grows-trans, gathers-diagram_more, gathers-arrow_more}
use Rattle.zigzag_maps.proofs.ValidArrows.{valid_shape}
use Rattle.degeneracy.specs.FactorTrees.{factor_tree}
use Rattle.normalise.specs.declared.parts.Forms.{Forms}
use Rattle.normalise.specs.declared.left.Left.{Left}
use Rattle.normalise.specs.declared.level.Level.{Level}
use Rattle.normalise.specs.LegSlices.{slice_trees_over}
use Rattle.normalise.specs.FormTrees.{normal_tree, reg_normal, sing_normal, fwd_way_tree, bwd_way_tree, way_trees, bwd_tree}
use Rattle.normalise.specs.StoreForms.{legs_of, IsKeyOf, IsKeyWith, IsLegWith, MakesLeg, AreForms, IsLeftOf, IsLevelWith, IsLevelOf}
use Rattle.normalise.proofs.FormsInStore.{key_before, key_after}

-- ---- the trees of a key, in a later store

module _ (old mid : Contents) (k : Key) (g : Grows old mid) (h : IsKeyOf old k) where
  pub dim_after : (n : ℕ) → n ≡ dimension_of (diagram_at old k.target) → n ≡ dimension_of (diagram_at mid k.target)
  dim_after n e = key_after old mid k g h (λ t gs. n ≡ dimension_of t) e

  pub len_after : (n : ℕ) → n ≡ length (sings (diagram_at old k.target)) → n ≡ length (sings (diagram_at mid k.target))
  len_after n e = key_after old mid k g h (λ t gs. n ≡ length (sings t)) e

  pub forms_after : (forms : Forms) → AreForms mid (diagram_at old k.target) (legs_of old k.legs) (suc (length (sings (diagram_at old k.target)))) forms
      → AreForms mid (diagram_at mid k.target) (legs_of mid k.legs) (suc (length (sings (diagram_at mid k.target)))) forms
  forms_after forms f = key_after old mid k g h (λ t gs. AreForms mid t gs (suc (length (sings t))) forms) f

  pub left_after : (left : Left) → IsLeftOf mid (diagram_at old k.target) (legs_of old k.legs) (length (sings (diagram_at old k.target))) left
      → IsLeftOf mid (diagram_at mid k.target) (legs_of mid k.legs) (length (sings (diagram_at mid k.target))) left
  left_after left f = key_after old mid k g h (λ t gs. IsLeftOf mid t gs (length (sings t)) left) f

  pub form_after : (x : ℕ × ℕ) → IsLegWith mid (normal_tree (diagram_at old k.target) (legs_of old k.legs)) x
      → IsLegWith mid (normal_tree (diagram_at mid k.target) (legs_of mid k.legs)) x
  form_after x f = key_after old mid k g h (λ t gs. IsLegWith mid (normal_tree t gs) x) f

  -- what a call made of them, seen from the earlier store
  pub makes_leg_before : {E : Type 0} (new : Contents) (r : Result (ℕ × ℕ) E) → MakesLeg mid new (normal_tree (diagram_at mid k.target) (legs_of mid k.legs)) r
      → MakesLeg old new (normal_tree (diagram_at old k.target) (legs_of old k.legs)) r
  makes_leg_before new r m =
      let n = key_before old mid k g h (λ t gs. MakesLeg mid new (normal_tree t gs) r) m in
      record { grows = Grows-trans old mid new g m.grows; leg = n.leg }

-- ---- a key with these trees

pub with_form : (c : Contents) (t : Tree) (gs : List TreeLeg) (k : Key) → IsKeyWith c t gs k → (x : ℕ × ℕ)
    → IsLegWith c (normal_tree (diagram_at c k.target) (legs_of c k.legs)) x → IsLegWith c (normal_tree t gs) x
with_form c t gs k h x f =
    subst (λ (u : Tree). IsLegWith c (normal_tree u gs) x) h.tree
    (subst (λ (hs : List TreeLeg). IsLegWith c (normal_tree (diagram_at c k.target) hs) x) h.legs.trees f)

-- the slices have one dimension less
module _ (c : Contents) (k : Key) (h : IsKeyOf c k) (n : ℕ) (dim : n ≡ dimension_of (diagram_at c k.target)) (above : 0 < n) where
  shape : IsDiagramTree (diagram_at c k.target)
  shape = valid_shape (diagram_at c k.target) h.target.valid

  pub reg_dim : (j : ℕ) → j ≤ length (sings (diagram_at c k.target)) → (u : Tree) → u ≡ reg_at (diagram_at c k.target) j → n - 1 ≡ dimension_of u
  reg_dim j l u e =
      let m = length-regs (diagram_at c k.target) shape (omega arith) in
      let d = dimension_of-reg_at (diagram_at c k.target) j shape (omega arith) in
      let q = ap dimension_of e in
      omega arith

  pub sing_dim : (i : ℕ) → i < length (sings (diagram_at c k.target)) → (u : Tree) → u ≡ sing_at (diagram_at c k.target) i → n - 1 ≡ dimension_of u
  sing_dim i l u e =
      let d = dimension_of-sing_at (diagram_at c k.target) i shape l in
      let q = ap dimension_of e in
      omega arith

-- ---- one form more

module _ (old new : Contents) (t : Tree) (gs : List TreeLeg) (n : ℕ) (x : ℕ × ℕ) (g : Grows old new) (one : IsLegWith new (reg_normal t gs n) x) where
  pub sources_more : (ids : List ℕ) → Gathers old.diagrams ids n (λ j. (reg_normal t gs j).source)
      → Gathers new.diagrams (ids ++ x.0 ∷ []) (n + 1) (λ j. (reg_normal t gs j).source)
  sources_more ids h = gathers-diagram_more old new ids n x.0 (λ j. (reg_normal t gs j).source) h g one.of_store.source (ap (λ (u : TreeLeg). u.source) one.trees)

  pub arrows_more : (ids : List ℕ) → Gathers old.arrows ids n (λ j. (reg_normal t gs j).arrow)
      → Gathers new.arrows (ids ++ x.1 ∷ []) (n + 1) (λ j. (reg_normal t gs j).arrow)
  arrows_more ids h = gathers-arrow_more old new ids n x.1 (λ j. (reg_normal t gs j).arrow) h g one.of_store.arrow (ap (λ (u : TreeLeg). u.arrow) one.trees)

-- ---- the level of a singular slice

module _ (t : Tree) (gs : List TreeLeg) (k : ℕ) where
  before_at : tree_leg_at (way_trees t gs k) (length (slice_trees_over gs k)) ≡ fwd_way_tree t gs k
  before_at = get_or-append_seam (slice_trees_over gs k) (fwd_way_tree t gs k) (bwd_way_tree t gs k ∷ []) (record { source = nil; arrow = nil })

  behind_at : tree_leg_at (way_trees t gs k) (length (slice_trees_over gs k) + 1) ≡ bwd_way_tree t gs k
  behind_at = get_or-append-add (slice_trees_over gs k) (fwd_way_tree t gs k ∷ bwd_way_tree t gs k ∷ []) 1 (record { source = nil; arrow = nil })

  module _ (c : Contents) (s : Key) (h : IsKeyWith c (sing_at t k) (way_trees t gs k) s) where
    pub ways_len : length s.legs ≡ length (slice_trees_over gs k) + 2
    ways_len =
        sym (length-map s.legs (leg_of c)) ∙ ap length h.legs.trees
        ∙ length-append (slice_trees_over gs k) (fwd_way_tree t gs k ∷ bwd_way_tree t gs k ∷ [])

    module _ (new : Contents) (n last : ℕ) (e : n ≡ length (slice_trees_over gs k)) (m : last ≡ n + 1) where
      abbrev LevelBy : Tree → List TreeLeg → ℕ → ℕ → Level → Type 0
      LevelBy u hs i j x = IsLevelWith new (normal_tree u hs) (factor_tree (normal_tree u hs).arrow (tree_leg_at hs i).arrow)
          (factor_tree (normal_tree u hs).arrow (tree_leg_at hs j).arrow) (nat_lt 0 i) x

      level_told : (x : Level) → LevelBy (diagram_at c s.target) (legs_of c s.legs) n last x → IsLevelOf new t gs k x
      level_told x v =
          let a = subst (λ (u : Tree). LevelBy u (legs_of c s.legs) n last x) h.tree v in
          let b = subst (λ (hs : List TreeLeg). LevelBy (sing_at t k) hs n last x) h.legs.trees a in
          let d = subst (λ (j : ℕ). LevelBy (sing_at t k) (way_trees t gs k) n j x) m b in
          let i = subst (λ (i : ℕ). LevelBy (sing_at t k) (way_trees t gs k) i (i + 1) x) e d in
          let p = before_at in
          let q = behind_at in
          subst (λ (f : TreeLeg). IsLevelWith new (sing_normal t gs k) (factor_tree (sing_normal t gs k).arrow f.arrow) (bwd_tree t gs k) (nat_lt 0 (length (slice_trees_over gs k))) x) p
          (subst (λ (b : TreeLeg). IsLevelWith new (sing_normal t gs k) (factor_tree (sing_normal t gs k).arrow (tree_leg_at (way_trees t gs k) (length (slice_trees_over gs k))).arrow)
          (factor_tree (sing_normal t gs k).arrow b.arrow) (nat_lt 0 (length (slice_trees_over gs k))) x) q i)

      pub levels_told : {E : Type 0} (r : Result Level E) → IfOk r (LevelBy (diagram_at c s.target) (legs_of c s.legs) n last) → IfOk r (IsLevelOf new t gs k)
      levels_told (Ok x) v = level_told x v
      levels_told (Err x) v = v
