-- Cuts of valid diagrams and valid maps are valid.
use Rattle.std.proofs.Common.{◌≡◌, ℕ, sym, ap, subst, ◌∙◌, Ok, Err, Result, IfOk}
use Rattle.diagram_terms.specs.Tree.{Tree}
use Rattle.diagram_terms.specs.Dimension.{dimension_of}
use Rattle.diagram_terms.specs.Family.{Dia, Arr}
use Rattle.diagram_terms.specs.Decoded.{dia, arr, dia_tree, arr_tree}
use Rattle.diagram_terms.specs.OnTrees.{on_diagram, on_arrow}
use Rattle.diagram_terms.specs.Shape.{IsDiagram}
use Rattle.diagram_terms.specs.Valid.{Valid, ValidArrow}
use Rattle.diagram_terms.proofs.Dimensions.{diagram_dimension, arrow_dimension}
use Rattle.diagram_terms.proofs.FamilyShapes.{diagram_shape, valid_fits, arrow_shape, valid_arrow_fits}
use Rattle.diagram_terms.proofs.Glue.{dia-dia_tree, arr-arr_tree}
use Rattle.hashcons.specs.Contents.{Contents, Grows, diagram_at, arrow_at}
use Rattle.hashcons.specs.Made.{MakesDiagram, MakesArrow}
use Rattle.hashcons.proofs.Growth.{Grows-trans}
use Rattle.zigzag_maps.specs.declared.map.Map.{Map}
use Rattle.zigzag_maps.specs.Found.{IsValidDiagram, IsValidMap}
use Rattle.diagram_terms.specs.ValidTrees.{IsValidTree, IsArrowBetween}
use Rattle.zigzag_maps.proofs.KeptMaps.{valid_diagram-grows}
use Rattle.diagram_terms.specs.Cuts.{cut_arrow, cut_diagram}
use Rattle.diagram_terms.specs.ClosedRegions.{IsClosedRegion}
use Rattle.diagram_terms.specs.Preimages.{preimage}
use Rattle.diagram_terms.specs.Regions.{Reg}
use Rattle.region_laws.proofs.CutArrows.{along, cuts_of_arrows_are_valid}
use Rattle.region_laws.proofs.CutDiagrams.{cuts_of_diagrams_are_valid}
use Rattle.region_laws.proofs.Preimages.{preimages_are_closed}
use Rattle.region_cut.specs.declared.region.Region.{Region}
use Rattle.region_cut.specs.OverRegions.{IsOverSome, HasRegion}
use Rattle.region_cut.specs.CutTrees.{cut_diagram_tree, cut_arrow_tree, cut_source_tree}
use Rattle.region_cut.specs.RegionValues.{region_of, IsClosedIn, IsPreimageOf}
use Rattle.region_cut.proofs.SlicesOver.{valid_tree}
use Rattle.region_cut.proofs.PreimageSteps.{over_between}

-- a valid diagram has its region
pub has_region : (n : ℕ) (t : Tree) (r : Region) → n ≡ dimension_of t → IsValidTree t → IsClosedIn t r → HasRegion n t (region_of n r)
unfolding on_diagram
has_region n t r e v c =
    subst (λ m. HasRegion m t (region_of m r)) (sym e) (record {
      shape = subst (λ m. IsDiagram m t) (sym (diagram_dimension v.dim t v.at_dim.shape)) v.at_dim.shape;
      valid = subst (λ (m : ℕ). Valid m (dia m t)) (sym (diagram_dimension v.dim t v.at_dim.shape)) v.at_dim.valid;
      closed = c;
    })

-- a valid diagram of the family, as a tree
valid_as_tree : (d : ℕ) (X : Dia d) → Valid d X → IsValidTree (dia_tree d X)
valid_as_tree d X v = record {
  dim = d;
  at_dim = record {
    shape = diagram_shape d X (valid_fits d X v);
    valid = subst (Valid d) (sym (dia-dia_tree d X)) v;
  };
}

pub valid_cut : {E : Type 0} (old new : Contents) (n : ℕ) (t : Tree) (W : Reg n) (a : Result ℕ E) → HasRegion n t W
    → MakesDiagram old new (dia_tree n (cut_diagram n (dia n t) W)) a → IfOk a (IsValidDiagram new)
valid_cut old new n t W (Ok x) h m = record {
  of_store = m.of_store;
  valid = subst IsValidTree (sym m.tree) (valid_as_tree n _ (cuts_of_diagrams_are_valid n (dia n t) W h.valid h.closed));
}
valid_cut old new n t W (Err x) h m = tt

pub told_at : {E : Type 0} (old new : Contents) (n : ℕ) (t : Tree) (r : Region) (a : Result ℕ E) → n ≡ dimension_of t
    → MakesDiagram old new (dia_tree n (cut_diagram n (dia n t) (region_of n r))) a → MakesDiagram old new (cut_diagram_tree t r) a
unfolding on_diagram
told_at old new n t r a e m = subst (λ k. MakesDiagram old new (dia_tree k (cut_diagram k (dia k t) (region_of k r))) a) e m

-- ---- maps

-- the arrow of a map, in a store that grew
pub over_map : (n : ℕ) (s t f u : Tree) (r : Region) → u ≡ f → n ≡ dimension_of u → IsValidTree s → IsValidTree t → IsArrowBetween s t f → IsClosedIn t r
    → IsOverSome n u (region_of n r)
over_map n s t f u r p e vs vt b c =
    let same : n ≡ dimension_of s = e ∙ ap dimension_of p ∙ arrow_dimension b.dim f b.at_dim.shape ∙ sym (diagram_dimension b.dim s b.at_dim.source) in
    subst (λ g. IsOverSome n g (region_of n r)) (sym p) (record { source = _; over = over_between n s t f r same vs vt b c })

-- the cut of a valid arrow, as trees
cut_between : (d : ℕ) (X Y : Dia d) (f : Arr d) (W : Reg d) → Valid d X → Valid d Y → ValidArrow d X Y f → IsClosedRegion d Y W
    → IsArrowBetween (dia_tree d (cut_diagram d X (preimage d X f W))) (dia_tree d (cut_diagram d Y W)) (arr_tree d (cut_arrow d f W))
cut_between d X Y f W vX vY vf cW =
    let c = preimages_are_closed d X Y f W vX vY vf cW in
    let vs = cuts_of_diagrams_are_valid d X (preimage d X f W) vX c in
    let vt = cuts_of_diagrams_are_valid d Y W vY cW in
    let va = cuts_of_arrows_are_valid d X Y f W vX vY vf cW in
    record {
      dim = d;
      at_dim = record {
        source = diagram_shape d _ (valid_fits d _ vs);
        target = diagram_shape d _ (valid_fits d _ vt);
        shape = arrow_shape d _ (valid_arrow_fits d _ _ _ va);
        valid = along d (ValidArrow d) _ _ _ _ _ _ (dia-dia_tree d _) (dia-dia_tree d _) (arr-arr_tree d _) va;
      };
    }

-- the cut of a map, made in three steps
module _ {E : Type 0} (a b c new : Contents) (f : Map) (r v : Region) (n x y z : ℕ) (m : IsValidMap a f) (closed : IsClosedIn (diagram_at a f.target) r)
    (pulled : IsPreimageOf (diagram_at a f.source) (arrow_at a f.arrow) r v)
    (s : MakesDiagram {E = E} a b (cut_diagram_tree (diagram_at a f.source) v) (Ok x)) (vs : IsValidDiagram b x)
    (t : MakesDiagram {E = E} b c (cut_diagram_tree (diagram_at b f.target) r) (Ok y)) (vt : IsValidDiagram c y)
    (e : n ≡ dimension_of (arrow_at c f.arrow))
    (g : MakesArrow {E = E} c new (arr_tree n (cut_arrow n (arr n (arrow_at c f.arrow)) (region_of n r))) (Ok z)) where
  bn : Grows b new
  bn = Grows-trans _ _ _ t.grows g.grows

  pub map_grows : Grows a new
  map_grows = Grows-trans _ _ _ s.grows bn

  abbrev sx : Tree
  sx = diagram_at a f.source

  abbrev tx : Tree
  tx = diagram_at a f.target

  abbrev fx : Tree
  fx = arrow_at a f.arrow

  d : ℕ
  d = m.between.dim

  pub source_tree : diagram_at new x ≡ cut_source_tree sx fx r
  unfolding on_diagram
  source_tree = bn.diagram_trees x s.of_store ∙ s.tree ∙ ap (λ W. dia_tree (dimension_of sx) (cut_diagram (dimension_of sx) (dia (dimension_of sx) sx) W)) pulled.region

  pub target_tree : diagram_at new y ≡ cut_diagram_tree tx r
  target_tree = g.grows.diagram_trees y t.of_store ∙ t.tree ∙ ap (λ u. cut_diagram_tree u r) (s.grows.diagram_trees f.target m.target.of_store)

  pub arrow_tree_is : arrow_at new z ≡ cut_arrow_tree fx r
  unfolding on_arrow
  arrow_tree_is =
      g.tree ∙ ap (λ k. arr_tree k (cut_arrow k (arr k (arrow_at c f.arrow)) (region_of k r))) e
      ∙ ap (λ u. cut_arrow_tree u r) ((Grows-trans _ _ _ s.grows t.grows).arrow_trees f.arrow m.arrow)

  pub map_cut : IsValidMap new (record { source = x; target = y; arrow = z })
  unfolding on_diagram on_arrow
  map_cut =
      let k = m.between.dim in
      let ds : dimension_of sx ≡ k = diagram_dimension k sx m.between.at_dim.source in
      let dt : dimension_of tx ≡ k = diagram_dimension k tx m.between.at_dim.target in
      let df : dimension_of fx ≡ k = arrow_dimension k fx m.between.at_dim.shape in
      let p = source_tree ∙ ap (λ j. dia_tree j (cut_diagram j (dia j sx) (preimage j (dia j sx) (arr j fx) (region_of j r)))) ds in
      let q = target_tree ∙ ap (λ j. dia_tree j (cut_diagram j (dia j tx) (region_of j r))) dt in
      let h = arrow_tree_is ∙ ap (λ j. arr_tree j (cut_arrow j (arr j fx) (region_of j r))) df in
      let made = cut_between k (dia k sx) (dia k tx) (arr k fx) (region_of k r) (valid_tree k sx m.between.at_dim.source m.source.valid)
      (valid_tree k tx m.between.at_dim.target m.target.valid) m.between.at_dim.valid (subst (λ j. IsClosedRegion j (dia j tx) (region_of j r)) dt closed) in
      record {
        source = valid_diagram-grows b new x bn vs;
        target = valid_diagram-grows c new y g.grows vt;
        arrow = g.of_store;
        between = rw (p, q, h) made;
      }
