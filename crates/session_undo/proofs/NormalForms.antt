-- What is answered of a normal form over a store is the normal form of trees.
use Rattle.std.proofs.Common.{◌≡◌, ℕ, ◌<◌, List, [], ◌∷◌, length, map, get_or, Result, Ok, Err, IfOk, refl, sym, ap, subst, ◌∙◌, arith}
use Rattle.std.proofs.lemmas.List.{get_or-map, get_or_default, length-map, same_lists}
use Rattle.diagram_terms.specs.declared.place.Keep.TheVariants as keep
use Rattle.diagram_terms.specs.Decoded.{arr, arr_tree, dia}
use Rattle.diagram_terms.specs.Dimension.{dimension_of}
use Rattle.diagram_terms.specs.Factors.{factor_leg, factor_legs, factor_through}
use Rattle.diagram_terms.specs.Family.{no_arr, no_dia}
use Rattle.diagram_terms.specs.Least.{Leg, ValidLeg, ValidLegs, leg_at}
use Rattle.diagram_terms.specs.NormalForms.{normal_form}
use Rattle.diagram_terms.specs.Tree.{Tree, nil}
use Rattle.diagram_terms.proofs.Dimensions.{diagram_dimension}
use Rattle.diagram_terms.proofs.Glue.{arr_tree-arr, dia_tree-dia}
use Rattle.normal_form_laws.proofs.Existence.{factors_are_found, least_is_normal_form}
use Rattle.hashcons.specs.Contents.{Contents, Grows, IsDiagramOf, IsNormalOf, diagram_at, leg_of}
use Rattle.hashcons.specs.NormalTrees.{IsNormalAt, IsNormalTree, TreeLeg, leg_in, tree_leg_at}
use Rattle.zigzag_maps.specs.declared.map.Map.{Map}
use Rattle.zigzag_maps.specs.Found.{IsValidMap}
use Rattle.normalise.specs.declared.normal.Normal.{Normal}
use Rattle.normalise.specs.NormalMaps.{AreMapsInto, as_leg, as_noted, key_for}
use Rattle.workspace_json.specs.NormalSteps.{NormalTrees, map_legs, normal_trees, trees_through}
use Rattle.session_undo.specs.NormalForms.{IsNormalHeld, maps_called, normal_in}
use Rattle.session_undo.proofs.LegMaps.{all_valid, called-kept}

-- the trees of legs of dimension d with a normal form for them
abbrev form_trees : (d : ℕ) → Tree → List (Leg d) → NormalTrees
form_trees d t legs = trees_through d legs (normal_form keep.Free d (dia d t) legs)

-- ---- what is noted is the normal form, with its factors

module _ (t : Tree) (gs : List TreeLeg) (s a : Tree) (fs : List Tree) (h : IsNormalTree t gs s a fs) where
  abbrev d : ℕ
  d = h.dim

  abbrev n : IsNormalAt d t gs s a fs
  n = h.at_dim

  abbrev legs : List (Leg d)
  legs = map (leg_in d) gs

  abbrev no_leg : Leg d
  no_leg = record { source = no_dia d; arrow = no_arr d }

  leg_there : (i : ℕ) → i < length gs → leg_at d legs i ≡ leg_in d (tree_leg_at gs i)
  leg_there i l = get_or-map (leg_in d) gs i (record { source = nil; arrow = nil }) no_leg l

  legs_valid : ValidLegs d (dia d t) legs
  legs_valid i l =
      let k = length-map gs (leg_in d) in
      let m : i < length gs = omega arith in
      let g = n.legs i m in
      subst (ValidLeg d (dia d t)) (sym (leg_there i m)) (record { source = g.source.valid; arrow = g.arrow.valid })

  abbrev factor_tree_of : Leg d → Tree
  factor_tree_of f = arr_tree d f.arrow

  factor_there : (i : ℕ) → i < length gs → get_or (map factor_tree_of (factor_legs d (arr d a) legs)) i nil ≡ get_or fs i nil
  factor_there i l =
      let k = length-map gs (leg_in d) in
      let j = length-map legs (factor_leg d (arr d a)) in
      let f = n.factors i l in
      let g : TreeLeg = tree_leg_at gs i in
      get_or-map factor_tree_of (factor_legs d (arr d a) legs) i no_leg nil (omega arith)
      ∙ ap factor_tree_of (get_or-map (factor_leg d (arr d a)) legs i no_leg no_leg (omega arith))
      ∙ ap (λ (x : Leg d). arr_tree d (factor_through d (arr d a) x.arrow)) (leg_there i l)
      ∙ ap (arr_tree d) (factors_are_found d (dia d g.source) (dia d s) (dia d t) (arr d g.arrow) (arr d a) (arr d (get_or fs i nil)) n.least.degeneracy f.factor)
      ∙ arr_tree-arr d (get_or fs i nil) f.shape

  factors_are : map factor_tree_of (factor_legs d (arr d a) legs) ≡ fs
  factors_are =
      let k = length-map gs (leg_in d) in
      let j = length-map legs (factor_leg d (arr d a)) in
      let q = length-map (factor_legs d (arr d a) legs) factor_tree_of in
      let c = n.count in
      let len : length (map factor_tree_of (factor_legs d (arr d a) legs)) ≡ length fs = omega arith in
      same_lists (map factor_tree_of (factor_legs d (arr d a) legs)) fs len
      (λ i x l. get_or_default (map factor_tree_of (factor_legs d (arr d a) legs)) i x nil l ∙ factor_there i (omega arith) ∙ sym (get_or_default fs i x nil (omega arith)))

  noted_at : form_trees d t legs ≡ record { source = s; arrow = a; factors = fs }
  noted_at =
      let form = least_is_normal_form d (dia d t) (dia d s) legs (arr d a) legs_valid n.least in
      let p = dia_tree-dia d s n.source.shape in
      let q = arr_tree-arr d a n.arrow in
      let x = factors_are in
      ap (trees_through d legs) (sym form)
      ∙ (λ i. let m : NormalTrees = record { source = p i; arrow = q i; factors = x i } in m)

  pub noted_trees : form_trees (dimension_of t) t (map (leg_in (dimension_of t)) gs) ≡ record { source = s; arrow = a; factors = fs }
  noted_trees =
      let same : dimension_of t ≡ d = diagram_dimension d t n.target.shape in
      ap (λ k. form_trees k t (map (leg_in k) gs)) same ∙ noted_at

-- ---- the answer

-- the legs are the maps, under any names
legs_called : (c : Contents) (d : ℕ) (names : List (List ℕ)) (ms : List Map) → length names ≡ length ms
    → map_legs d (maps_called c names ms) ≡ map (leg_in d) (map (leg_of c) (map as_leg ms))
legs_called c d [] [] e = refl
legs_called c d [] (m ∷ ms) e = absurd (let z : ⊥ = omega arith in z)
legs_called c d (name ∷ names) [] e = absurd (let z : ⊥ = omega arith in z)
legs_called c d (name ∷ names) (m ∷ ms) e =
    ap (λ (gs : List (Leg d)). leg_in d (leg_of c (as_leg m)) ∷ gs) (legs_called c d names ms (omega arith))

pub answered_trees : (c : Contents) (t : ℕ) (ms : List Map) (n : Normal) → IsNormalOf c (key_for t ms) (as_noted n)
    → (names : List (List ℕ)) → length names ≡ length ms
    → normal_in c n ≡ normal_trees (diagram_at c t) (maps_called c names ms)
unfolding normal_trees
answered_trees c t ms n h names e =
    let d : ℕ = dimension_of (diagram_at c t) in
    sym (ap (form_trees d (diagram_at c t)) (legs_called c d names ms e) ∙ noted_trees (diagram_at c t) _ _ _ _ h.normal)

-- ---- over a store that grew

pub held_answers : {E : Type 0} (c : Contents) (t : ℕ) (ms : List Map) (r : Result Normal E) → IfOk r (λ n. IsValidMap c n.map)
    → IfOk r (λ n. IsNormalOf c (key_for t ms) (as_noted n)) → IfOk r (IsNormalHeld c)
held_answers c t ms (Ok n) v h = record { map = record { source = v.source.of_store; target = v.target.of_store; arrow = v.arrow }; factors = h.factors }
held_answers c t ms (Err e) v h = v

module _ {E : Type 0} (old new : Contents) (g : Grows old new) (t : ℕ) (ms : List Map) (of_store : IsDiagramOf old t) (into : AreMapsInto old t ms) where
  pub tree_answers : (r : Result Normal E) → IfOk r (λ n. IsNormalOf new (key_for t ms) (as_noted n))
      → IfOk r (λ n. (names : List (List ℕ)) → length names ≡ length ms → normal_in new n ≡ normal_trees (diagram_at old t) (maps_called old names ms))
  tree_answers (Ok n) h =
      λ names e. answered_trees new t ms n h names e ∙ (λ i. normal_trees (g.diagram_trees t of_store i) (called-kept old new g names ms (all_valid old t ms into) i))
  tree_answers (Err e) h = h
