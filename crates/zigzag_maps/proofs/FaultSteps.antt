-- The first fault of a map of a store, slice by slice.
use Rattle.std.proofs.Common.{◌≡◌, ℕ, zero, suc, ◌-◌, ◌<◌, ◌≤◌, length, get_or, ◌&&◌, nat_eq, Option, option_map, None, Some, sym, ap, subst, ◌∙◌, arith}
use Rattle.std.proofs.lemmas.Bool.{cond-true, and_from, eq-eqb}
use Rattle.diagram_terms.specs.declared.place.Place.{Place}
use Rattle.diagram_terms.specs.declared.place.Step.TheVariants as step
use Rattle.diagram_terms.specs.FaultsOnTrees.{arrow_fault, tests_between}
use Rattle.diagram_terms.specs.Tree.{Tree, heights, regs, sings}
use Rattle.diagram_terms.specs.Dimension.{dimension_of}
use Rattle.diagram_terms.specs.Dual.{dual}
use Rattle.diagram_terms.specs.Decoded.{dia}
use Rattle.diagram_terms.specs.Shape.{IsDiagram, IsArrow, reg_at, sing_at}
use Rattle.diagram_terms.specs.Valid.{Valid}
use Rattle.diagram_terms.specs.Places.{further_in, first_failure}
use Rattle.diagram_terms.proofs.Dimensions.{diagram_dimension, arrow_dimension, arrow_of_dimension}
use Rattle.diagram_terms.proofs.Duals.{dual-le-length}
use Rattle.diagram_terms.proofs.Glue.{dia-sings_len, dia-reg, dia-sing}
use Rattle.diagram_terms.proofs.Visiting.{first_failure-under}
use Rattle.hashcons.specs.Contents.{Contents, Grows, IsStore, IsDiagramOf, IsArrowOf, diagram_at, arrow_at}
use Rattle.zigzag_maps.specs.declared.map.Map.{Map}
use Rattle.zigzag_maps.specs.Found.{IsValidDiagram, IsValidMap}
use Rattle.diagram_terms.specs.ValidTrees.{IsValidTreeAt, IsValidTree}
use Rattle.zigzag_maps.specs.Visits.{IsMapAt, FitsEnds, reg_tests, sing_tests}
use Rattle.hashcons.proofs.OneMoreTree.{Grows-refl}
use Rattle.hashcons.proofs.Growth.{Grows-trans, store-kept, diagram-kept, arrow-kept}
use Rattle.zigzag_maps.proofs.TestsOfArrows.{between_from, between_passes, ends_place}

-- ---- a store that grew

pub map_at-grows : (old new : Contents) (d : ℕ) (m : Map) → Grows old new → IsMapAt old d m → IsMapAt new d m
map_at-grows old new d m g h = record {
  source = g.diagrams m.source h.source;
  target = g.diagrams m.target h.target;
  arrow = g.arrows m.arrow h.arrow;
  source_valid = subst (IsValidTreeAt d) (sym (g.diagram_trees m.source h.source)) h.source_valid;
  target_valid = subst (IsValidTreeAt d) (sym (g.diagram_trees m.target h.target)) h.target_valid;
  arrow_shape = subst (IsArrow d) (sym (g.arrow_trees m.arrow h.arrow)) h.arrow_shape;
}

-- what is said of the trees of a map is said of them after growth
pub map_trees : {A : Type 0} (F : Tree → Tree → Tree → A) (old new : Contents) (d : ℕ) (m : Map) → Grows old new → IsMapAt old d m
    → F (diagram_at new m.source) (diagram_at new m.target) (arrow_at new m.arrow) ≡ F (diagram_at old m.source) (diagram_at old m.target) (arrow_at old m.arrow)
map_trees F old new d m g h =
    let p = g.diagram_trees m.source h.source in
    let q = g.diagram_trees m.target h.target in
    let r = g.arrow_trees m.arrow h.arrow in
    λ i. F (p i) (q i) (r i)

pub fits-grows : (old new : Contents) (d : ℕ) (m : Map) → Grows old new → IsMapAt old d m
    → FitsEnds (diagram_at old m.source) (diagram_at old m.target) (arrow_at old m.arrow) → FitsEnds (diagram_at new m.source) (diagram_at new m.target) (arrow_at new m.arrow)
fits-grows old new d m g h f =
    let p = map_trees (λ s t f. length (heights f)) old new d m g h in
    let q = map_trees (λ s t f. length (sings s)) old new d m g h in
    let r = map_trees (λ s t f. length (regs f)) old new d m g h in
    let k = map_trees (λ s t f. length (sings t)) old new d m g h in
    let a = f.heights_len in
    let b = f.regs_len in
    record { heights_len = omega arith; regs_len = omega arith }

-- ---- the slices of a valid diagram

pub valid_reg : (d : ℕ) (t : Tree) (j : ℕ) → IsValidTreeAt (suc d) t → j ≤ length (sings t) → IsValidTreeAt d (reg_at t j)
valid_reg d t j h l =
    let m : j ≤ length (dia (suc d) t).sings = omega (arith, dia-sings_len d t) in
    record { shape = h.shape.regs_are j l; valid = subst (Valid d) (dia-reg d t h.shape j l) (h.valid.regs j m) }

pub valid_sing : (d : ℕ) (t : Tree) (i : ℕ) → IsValidTreeAt (suc d) t → i < length (sings t) → IsValidTreeAt d (sing_at t i)
valid_sing d t i h l =
    let m : i < length (dia (suc d) t).sings = omega (arith, dia-sings_len d t) in
    record { shape = h.shape.sings_are i l; valid = subst (Valid d) (dia-sing d t h.shape i l) (h.valid.sings i m) }

-- ---- the slices of a map

module _ (c : Contents) (m s : Map) (source : IsDiagramOf c s.source) (target : IsDiagramOf c s.target) (arrow : IsArrowOf c s.arrow) where
  reg_slice_at : (d j b : ℕ) → IsMapAt c (suc d) m → b ≤ length (sings (diagram_at c m.source)) → j ≤ length (sings (diagram_at c m.target)) → j < length (regs (arrow_at c m.arrow))
      → diagram_at c s.source ≡ reg_at (diagram_at c m.source) b → diagram_at c s.target ≡ reg_at (diagram_at c m.target) j → arrow_at c s.arrow ≡ reg_at (arrow_at c m.arrow) j
      → IsMapAt c d s
  reg_slice_at d j b h lb lj l p q r = record {
    source = source;
    target = target;
    arrow = arrow;
    source_valid = subst (IsValidTreeAt d) (sym p) (valid_reg d _ b h.source_valid lb);
    target_valid = subst (IsValidTreeAt d) (sym q) (valid_reg d _ j h.target_valid lj);
    arrow_shape = subst (IsArrow d) (sym r) (h.arrow_shape.regs_are j l);
  }

  pub reg_slice : (n j b : ℕ) → 0 < n → IsMapAt c n m → FitsEnds (diagram_at c m.source) (diagram_at c m.target) (arrow_at c m.arrow)
      → j ≤ length (sings (diagram_at c m.target)) → b ≡ dual (heights (arrow_at c m.arrow)) j
      → diagram_at c s.source ≡ reg_at (diagram_at c m.source) b → diagram_at c s.target ≡ reg_at (diagram_at c m.target) j → arrow_at c s.arrow ≡ reg_at (arrow_at c m.arrow) j
      → IsMapAt c (n - 1) s
  reg_slice zero j b above h fits lj e p q r = absurd (omega arith)
  reg_slice (suc d) j b above h fits lj e p q r =
      let a = fits.heights_len in
      let k = fits.regs_len in
      let l = dual-le-length (heights (arrow_at c m.arrow)) j in
      let n : d ≡ suc d - 1 = omega arith in
      subst (λ n. IsMapAt c n s) n (reg_slice_at d j b h (omega arith) lj (omega arith) p q r)

  sing_slice_at : (d i j : ℕ) → IsMapAt c (suc d) m → i < length (sings (diagram_at c m.source)) → j < length (sings (diagram_at c m.target)) → i < length (sings (arrow_at c m.arrow))
      → diagram_at c s.source ≡ sing_at (diagram_at c m.source) i → diagram_at c s.target ≡ sing_at (diagram_at c m.target) j → arrow_at c s.arrow ≡ sing_at (arrow_at c m.arrow) i
      → IsMapAt c d s
  sing_slice_at d i j h li lj l p q r = record {
    source = source;
    target = target;
    arrow = arrow;
    source_valid = subst (IsValidTreeAt d) (sym p) (valid_sing d _ i h.source_valid li);
    target_valid = subst (IsValidTreeAt d) (sym q) (valid_sing d _ j h.target_valid lj);
    arrow_shape = subst (IsArrow d) (sym r) (h.arrow_shape.sings_are i l);
  }

  pub sing_slice : (n i j : ℕ) → 0 < n → IsMapAt c n m → FitsEnds (diagram_at c m.source) (diagram_at c m.target) (arrow_at c m.arrow)
      → i < length (sings (diagram_at c m.source)) → j ≡ get_or (heights (arrow_at c m.arrow)) i 0
      → diagram_at c s.source ≡ sing_at (diagram_at c m.source) i → diagram_at c s.target ≡ sing_at (diagram_at c m.target) j → arrow_at c s.arrow ≡ sing_at (arrow_at c m.arrow) i
      → IsMapAt c (n - 1) s
  sing_slice zero i j above h fits li e p q r = absurd (omega arith)
  sing_slice (suc d) i j above h fits li e p q r =
      let a = fits.heights_len in
      let k = fits.regs_len in
      let b = h.arrow_shape.below i (omega arith) in
      let l = h.arrow_shape.sings_len in
      let n : d ≡ suc d - 1 = omega arith in
      subst (λ n. IsMapAt c n s) n (sing_slice_at d i j h li (omega arith) (omega arith) p q r)

  -- what was found in a slice
  module _ (found : Option Place) (is : found ≡ first_failure (tests_between (diagram_at c s.source) (diagram_at c s.target) (arrow_at c s.arrow))) where
    pub reg_found : (j b : ℕ) → b ≡ dual (heights (arrow_at c m.arrow)) j
        → diagram_at c s.source ≡ reg_at (diagram_at c m.source) b → diagram_at c s.target ≡ reg_at (diagram_at c m.target) j → arrow_at c s.arrow ≡ reg_at (arrow_at c m.arrow) j
        → option_map (further_in (step.R j)) found ≡ first_failure (reg_tests (diagram_at c m.source) (diagram_at c m.target) (arrow_at c m.arrow) j)
    reg_found j b e p q r =
        ap (option_map (further_in (step.R j))) (is ∙ (λ i. first_failure (tests_between (p i) (q i) (r i)))
        ∙ ap (λ n. first_failure (tests_between (reg_at (diagram_at c m.source) n) (reg_at (diagram_at c m.target) j) (reg_at (arrow_at c m.arrow) j))) e)
        ∙ sym (first_failure-under (step.R j) (tests_between (reg_at (diagram_at c m.source) (dual (heights (arrow_at c m.arrow)) j)) (reg_at (diagram_at c m.target) j) (reg_at (arrow_at c m.arrow) j)))

    pub sing_found : (i j : ℕ) → j ≡ get_or (heights (arrow_at c m.arrow)) i 0
        → diagram_at c s.source ≡ sing_at (diagram_at c m.source) i → diagram_at c s.target ≡ sing_at (diagram_at c m.target) j → arrow_at c s.arrow ≡ sing_at (arrow_at c m.arrow) i
        → option_map (further_in (step.S i)) found ≡ first_failure (sing_tests (diagram_at c m.source) (diagram_at c m.target) (arrow_at c m.arrow) i)
    sing_found i j e p q r =
        ap (option_map (further_in (step.S i))) (is ∙ (λ i. first_failure (tests_between (p i) (q i) (r i)))
        ∙ ap (λ n. first_failure (tests_between (sing_at (diagram_at c m.source) i) (sing_at (diagram_at c m.target) n) (sing_at (arrow_at c m.arrow) i))) e)
        ∙ sym (first_failure-under (step.S i) (tests_between (sing_at (diagram_at c m.source) i) (sing_at (diagram_at c m.target) (get_or (heights (arrow_at c m.arrow)) i 0)) (sing_at (arrow_at c m.arrow) i)))

-- ---- what was kept, and what is to be kept

pub valid_map_passes : (c : Contents) (m : Map) → IsValidMap c m
    → first_failure (tests_between (diagram_at c m.source) (diagram_at c m.target) (arrow_at c m.arrow)) ≡ None
valid_map_passes c m h = between_passes h.between.dim _ _ _ h.between.at_dim

pub valid_map_from : (c : Contents) (d : ℕ) (m : Map) → IsMapAt c d m
    → first_failure (tests_between (diagram_at c m.source) (diagram_at c m.target) (arrow_at c m.arrow)) ≡ None → IsValidMap c m
valid_map_from c d m h e = record {
  source = record { of_store = h.source; valid = record { dim = d; at_dim = h.source_valid } };
  target = record { of_store = h.target; valid = record { dim = d; at_dim = h.target_valid } };
  arrow = h.arrow;
  between = record { dim = d; at_dim = between_from d _ _ _ h.source_valid.shape h.target_valid.shape h.arrow_shape e };
}

-- ---- the ends

pub valid_at : (n : ℕ) (t : Tree) → IsValidTree t → dimension_of t ≡ n → IsValidTreeAt n t
valid_at n t h e = subst (λ n. IsValidTreeAt n t) (sym (diagram_dimension h.dim t h.at_dim.shape) ∙ e) h.at_dim

pub map_at_from : (c : Contents) (n : ℕ) (m : Map) → IsStore c → IsValidDiagram c m.source → IsValidDiagram c m.target → IsArrowOf c m.arrow
    → dimension_of (arrow_at c m.arrow) ≡ n → dimension_of (diagram_at c m.source) ≡ n → dimension_of (diagram_at c m.target) ≡ n → IsMapAt c n m
map_at_from c n m store s t a e p q = record {
  source = s.of_store;
  target = t.of_store;
  arrow = a;
  source_valid = valid_at n _ s.valid p;
  target_valid = valid_at n _ t.valid q;
  arrow_shape = arrow_of_dimension n _ (store.arrows m.arrow a) e;
}

pub arrow_fault-same : (s t f : Tree) → dimension_of s ≡ dimension_of f → dimension_of t ≡ dimension_of f → arrow_fault s t f ≡ first_failure (tests_between s t f)
arrow_fault-same s t f p q =
    cond-true (nat_eq (dimension_of s) (dimension_of f) && nat_eq (dimension_of t) (dimension_of f)) (first_failure (tests_between s t f)) (Some ends_place)
    (and_from (nat_eq (dimension_of s) (dimension_of f)) (nat_eq (dimension_of t) (dimension_of f)) (eq-eqb _ _ p) (eq-eqb _ _ q))

-- ---- the lengths of a map

pub record MapLengths (n : ℕ) (s t f : Tree) : Type 0 where
  pub source_regs : length (regs s) ≡ suc (length (sings s))
  pub target_regs : length (regs t) ≡ suc (length (sings t))
  pub arrow_sings : length (sings f) ≡ length (heights f)
  pub below : (i : ℕ) → i < length (heights f) → suc (get_or (heights f) i 0) < length (regs f)
  pub dim : dimension_of f ≡ n

lengths_above : (n : ℕ) (s t f : Tree) → 0 < n → IsDiagram n s → IsDiagram n t → IsArrow n f → MapLengths n s t f
lengths_above zero s t f l hs ht hf = absurd (omega arith)
lengths_above (suc d) s t f l hs ht hf = record {
  source_regs = hs.regs_len;
  target_regs = ht.regs_len;
  arrow_sings = hf.sings_len;
  below = hf.below;
  dim = arrow_dimension (suc d) f hf;
}

pub map_lengths : (c : Contents) (n : ℕ) (m : Map) → 0 < n → IsMapAt c n m → MapLengths n (diagram_at c m.source) (diagram_at c m.target) (arrow_at c m.arrow)
map_lengths c n m l h = lengths_above n _ _ _ l h.source_valid.shape h.target_valid.shape h.arrow_shape

pub ruleset faults = (Grows-refl, Grows-trans, store-kept, diagram-kept, arrow-kept, map_at-grows, fits-grows)
