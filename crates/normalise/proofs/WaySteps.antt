-- The composites from the normal forms of the neighbours of a singular slice.
use Rattle.std.proofs.Common.{◌≡◌, ℕ, suc, ◌<◌, ◌≤◌, List, [], ◌∷◌, ◌++◌, length, get_or, sym, subst, ◌∙◌, arith}
use Rattle.std.proofs.lemmas.List.{append_assoc}
use Rattle.diagram_terms.specs.Dimension.{dimension_of}
use Rattle.diagram_terms.specs.Shape.{reg_at, sing_at}
use Rattle.diagram_terms.specs.Tree.{Tree, sings}
use Rattle.diagram_terms.specs.ValidTrees.{IsArrowBetween}
use Rattle.hashcons.specs.Contents.{Contents, Grows, Key, diagram_at, arrow_at, leg_of}
use Rattle.hashcons.specs.NormalTrees.{TreeLeg}
use Rattle.zigzag_maps.specs.declared.map.Map.{Map}
use Rattle.zigzag_maps.specs.Found.{IsValidMap}
use Rattle.zigzag_maps.specs.MapTrees.{IsMapWith, IsValidArrowTree}
use Rattle.zigzag_maps.proofs.KeptMaps.{valid_diagram-grows}
use Rattle.zigzag_maps.proofs.ValidArrows.{between_of}
use Rattle.normalise.specs.declared.parts.Forms.{Forms}
use Rattle.normalise.specs.LegSlices.{slice_trees_over}
use Rattle.normalise.specs.FormTrees.{reg_normal, way_tree, fwd_way_tree, bwd_way_tree, way_trees}
use Rattle.normalise.specs.StoreForms.{legs_of, IsLegInto, AreLegsWith, IsKeyOf, IsKeyWith, IsLegWith, AreForms}
use Rattle.normalise.proofs.FormsInStore.{leg_into-grows, legs_into-grow, legs_of-grow, reg_form, sing_valid}
use Rattle.normalise.proofs.LeftSteps.{legs_push}

-- ---- a form that was gathered

module _ (c : Contents) (k : Key) (h : IsKeyOf c k) (above : 0 < dimension_of (diagram_at c k.target)) (forms : Forms)
    (f : AreForms c (diagram_at c k.target) (legs_of c k.legs) (suc (length (sings (diagram_at c k.target)))) forms)
    (j : ℕ) (l : j ≤ length (sings (diagram_at c k.target))) where
  abbrev x : ℕ × ℕ
  x = (get_or forms.sources.items j 0, get_or forms.arrows.items j 0)

  pub form_with : IsLegWith c (reg_normal (diagram_at c k.target) (legs_of c k.legs) j) x
  form_with =
      let p = f.sources.are j (omega arith) in
      let q = f.arrows.are j (omega arith) in
      record {
        of_store = record { source = f.sources.of_store j (omega arith); arrow = f.arrows.of_store j (omega arith) };
        trees = λ i. record { source = p i; arrow = q i };
      }

  -- it leads into the regular slice
  pub form_inner : (t : Tree) → t ≡ reg_at (diagram_at c k.target) j → IsLegInto c t x
  form_inner t e =
      let a = subst (λ (g : TreeLeg). IsValidArrowTree g.source (reg_at (diagram_at c k.target) j) g.arrow) (sym form_with.trees) (reg_form c k h above j l) in
      record {
        source = record { of_store = form_with.of_store.source; valid = record { dim = a.dim; at_dim = a.at_dim.source } };
        arrow = form_with.of_store.arrow;
        between = subst (λ (u : Tree). IsArrowBetween (diagram_at c x.0) u (arrow_at c x.1)) (sym e) (between_of _ _ _ a);
      }

-- ---- maps while the store grows

pub map_is-grows : (old new : Contents) (s t f : Tree) (m : Map) → Grows old new → IsValidMap old m → IsMapWith old s t f m → IsMapWith new s t f m
map_is-grows old new s t f m g v h = record {
  source = g.diagram_trees m.source v.source.of_store ∙ h.source;
  target = g.diagram_trees m.target v.target.of_store ∙ h.target;
  arrow = g.arrow_trees m.arrow v.arrow ∙ h.arrow;
}

-- ---- a composite, as a leg with these trees

pub record IsWay (c : Contents) (t : Tree) (u : TreeLeg) (y : ℕ × ℕ) : Type 0 where
  pub into : IsLegInto c t y
  pub tree : leg_of c y ≡ u

pub way_is : (c d : Contents) (s t f : Tree) (outer : Map) (x y : ℕ × ℕ) (u : TreeLeg) → IsMapWith c s t f outer → IsLegWith c u x
    → IsLegInto d (diagram_at c outer.target) y → IsLegWith d (way_tree (arrow_at c outer.arrow) (leg_of c x)) y → IsWay d t (way_tree f u) y
way_is c d s t f outer x y u is form into with_trees =
    let p = is.arrow in
    let q = form.trees in
    record {
      into = subst (λ (v : Tree). IsLegInto d v y) is.target into;
      tree = with_trees.trees ∙ (λ i. way_tree (p i) (q i));
    }

pub way-grows : (old new : Contents) (t : Tree) (u : TreeLeg) (y : ℕ × ℕ) → Grows old new → IsWay old t u y → IsWay new t u y
way-grows old new t u y g h = record {
  into = leg_into-grows old new t y g h.into;
  tree = leg_of_kept ∙ h.tree;
}
  where
    leg_of_kept : leg_of new y ≡ leg_of old y
    leg_of_kept =
        let p = g.diagram_trees y.0 h.into.source.of_store in
        let q = g.arrow_trees y.1 h.into.arrow in
        λ i. record { source = p i; arrow = q i }

-- ---- what leads into a singular slice

module _ (old new : Contents) (g : Grows old new) (k : Key) (h : IsKeyOf old k) (above : 0 < dimension_of (diagram_at old k.target))
    (i : ℕ) (l : i < length (sings (diagram_at old k.target))) where
  abbrev t : Tree
  t = diagram_at old k.target

  abbrev gs : List TreeLeg
  gs = legs_of old k.legs

  pub ways_key : (target : ℕ) (xs ys : List (ℕ × ℕ)) (before behind : ℕ × ℕ) → target < length old.diagrams → diagram_at old target ≡ sing_at t i
      → AreLegsWith old (sing_at t i) (slice_trees_over gs i) xs → IsWay new (sing_at t i) (fwd_way_tree t gs i) before
      → IsWay new (sing_at t i) (bwd_way_tree t gs i) behind → ys ≡ (xs ++ before ∷ []) ++ behind ∷ []
      → IsKeyWith new (sing_at t i) (way_trees t gs i) (record { target = target; legs = ys })
  ways_key target xs ys before behind of_store e over b a is =
      let there : AreLegsWith new (sing_at t i) (slice_trees_over gs i) xs =
      record { into = legs_into-grow old new (sing_at t i) xs g over.into; trees = legs_of-grow old new (sing_at t i) xs g over.into ∙ over.trees } in
      let one = legs_push new (sing_at t i) (slice_trees_over gs i) xs before (fwd_way_tree t gs i) there b.into b.tree in
      let two = legs_push new (sing_at t i) _ _ behind (bwd_way_tree t gs i) one a.into a.tree in
      let trees = append_assoc (slice_trees_over gs i) (fwd_way_tree t gs i ∷ []) (bwd_way_tree t gs i ∷ []) in
      record {
        target = valid_diagram-grows old new target g (record { of_store = of_store; valid = sing_valid old k h above target i l e });
        tree = g.diagram_trees target of_store ∙ e;
        legs = subst (λ zs. AreLegsWith new (sing_at t i) (way_trees t gs i) zs) (sym is)
            (subst (λ us. AreLegsWith new (sing_at t i) us ((xs ++ before ∷ []) ++ behind ∷ [])) trees two);
      }
