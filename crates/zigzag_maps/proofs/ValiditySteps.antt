-- The first fault of a diagram of a store, slice by slice and leg by leg.
use Rattle.std.proofs.Common.{◌≡◌, ℕ, zero, suc, ◌-◌, ◌<◌, ◌≤◌, length, None, sym, subst, arith}
use Rattle.diagram_terms.specs.Tree.{Tree, sings}
use Rattle.diagram_terms.specs.Shape.{IsDiagram, IsArrow, reg_at, sing_at, fwd_at, bwd_at}
use Rattle.diagram_terms.specs.Places.{first_failure}
use Rattle.hashcons.specs.Contents.{Contents, Grows, IsDiagramOf, IsArrowOf, diagram_at, arrow_at}
use Rattle.hashcons.proofs.OneMoreTree.{Grows-refl}
use Rattle.hashcons.proofs.Growth.{Grows-trans, store-kept, diagram-kept, arrow-kept}
use Rattle.zigzag_maps.specs.declared.map.Map.{Map}
use Rattle.zigzag_maps.specs.Found.{IsValidDiagram}
use Rattle.diagram_terms.specs.ValidTrees.{IsValidTreeAt}
use Rattle.zigzag_maps.specs.Visits.{IsMapAt}
use Rattle.zigzag_maps.specs.DiagramTests.{IsDiagramAt, HasValidParts, tests_in}
use Rattle.zigzag_maps.proofs.TestsByParts.{valid_from, valid_passes}

-- ---- a store that grew

pub is_diagram_at-grows : (old new : Contents) (n d : ℕ) → Grows old new → IsDiagramAt old n d → IsDiagramAt new n d
is_diagram_at-grows old new n d g h = record {
  of_store = g.diagrams d h.of_store;
  shape = subst (IsDiagram n) (sym (g.diagram_trees d h.of_store)) h.shape;
}

pub parts-grow : (old new : Contents) (n m d : ℕ) → Grows old new → IsDiagramAt old n d → HasValidParts m (diagram_at old d) → HasValidParts m (diagram_at new d)
parts-grow old new n m d g h p = subst (HasValidParts m) (sym (g.diagram_trees d h.of_store)) p

pub ruleset diagrams = (Grows-refl, Grows-trans, store-kept, diagram-kept, arrow-kept, is_diagram_at-grows, parts-grow)

pub ruleset steps = (Grows-refl, Grows-trans, store-kept, diagram-kept, arrow-kept, is_diagram_at-grows)

-- ---- what was kept, and what is to be kept

pub kept_passes : (c : Contents) (d : ℕ) → IsValidDiagram c d → first_failure (tests_in (diagram_at c d)) ≡ None
kept_passes c d h = valid_passes h.valid.dim (diagram_at c d) h.valid.at_dim

pub valid_diagram_from : (c : Contents) (n d : ℕ) → IsDiagramAt c n d → first_failure (tests_in (diagram_at c d)) ≡ None → IsValidDiagram c d
valid_diagram_from c n d h e = record { of_store = h.of_store; valid = record { dim = n; at_dim = valid_from n (diagram_at c d) h.shape e } }

-- ---- the slices

module _ (c : Contents) (d s : ℕ) (slice : IsDiagramOf c s) where
  reg_slice_at : (n j : ℕ) → IsDiagramAt c (suc n) d → j ≤ length (sings (diagram_at c d)) → diagram_at c s ≡ reg_at (diagram_at c d) j → IsDiagramAt c n s
  reg_slice_at n j h l e = record { of_store = slice; shape = subst (IsDiagram n) (sym e) (h.shape.regs_are j l) }

  pub reg_slice : (n j : ℕ) → 0 < n → IsDiagramAt c n d → j ≤ length (sings (diagram_at c d)) → diagram_at c s ≡ reg_at (diagram_at c d) j → IsDiagramAt c (n - 1) s
  reg_slice zero j above h l e = absurd (omega arith)
  reg_slice (suc n) j above h l e = let k : n ≡ suc n - 1 = omega arith in subst (λ m. IsDiagramAt c m s) k (reg_slice_at n j h l e)

  sing_slice_at : (n i : ℕ) → IsDiagramAt c (suc n) d → i < length (sings (diagram_at c d)) → diagram_at c s ≡ sing_at (diagram_at c d) i → IsDiagramAt c n s
  sing_slice_at n i h l e = record { of_store = slice; shape = subst (IsDiagram n) (sym e) (h.shape.sings_are i l) }

  pub sing_slice : (n i : ℕ) → 0 < n → IsDiagramAt c n d → i < length (sings (diagram_at c d)) → diagram_at c s ≡ sing_at (diagram_at c d) i → IsDiagramAt c (n - 1) s
  sing_slice zero i above h l e = absurd (omega arith)
  sing_slice (suc n) i above h l e = let k : n ≡ suc n - 1 = omega arith in subst (λ m. IsDiagramAt c m s) k (sing_slice_at n i h l e)

-- ---- the legs

module _ (c : Contents) (d : ℕ) (m : Map) (source : IsDiagramOf c m.source) (target : IsDiagramOf c m.target) (arrow : IsArrowOf c m.arrow) where
  leg_at : (n k j : ℕ) (f : Tree) → IsArrow n f → HasValidParts n (diagram_at c d) → j ≤ length (sings (diagram_at c d)) → k < length (sings (diagram_at c d))
      → diagram_at c m.source ≡ reg_at (diagram_at c d) j → diagram_at c m.target ≡ sing_at (diagram_at c d) k → arrow_at c m.arrow ≡ f → IsMapAt c n m
  leg_at n k j f shape parts lj lk p q r = record {
    source = source;
    target = target;
    arrow = arrow;
    source_valid = subst (IsValidTreeAt n) (sym p) (parts.reg_slices j lj);
    target_valid = subst (IsValidTreeAt n) (sym q) (parts.sing_slices k lk);
    arrow_shape = subst (IsArrow n) (sym r) shape;
  }

  pub fwd_leg : (n k : ℕ) → 0 < n → IsDiagramAt c n d → HasValidParts (n - 1) (diagram_at c d) → k < length (sings (diagram_at c d))
      → diagram_at c m.source ≡ reg_at (diagram_at c d) k → diagram_at c m.target ≡ sing_at (diagram_at c d) k → arrow_at c m.arrow ≡ fwd_at (diagram_at c d) k
      → IsMapAt c (n - 1) m
  fwd_leg zero k above h parts l p q r = absurd (omega arith)
  fwd_leg (suc n) k above h parts l p q r =
      let e : n ≡ suc n - 1 = omega arith in
      let arrow_shape = subst (λ i. IsArrow i (fwd_at (diagram_at c d) k)) e (h.shape.fwds_are k l) in
      leg_at (suc n - 1) k k (fwd_at (diagram_at c d) k) arrow_shape parts (omega arith) l p q r

  pub bwd_leg : (n k : ℕ) → 0 < n → IsDiagramAt c n d → HasValidParts (n - 1) (diagram_at c d) → k < length (sings (diagram_at c d))
      → diagram_at c m.source ≡ reg_at (diagram_at c d) (suc k) → diagram_at c m.target ≡ sing_at (diagram_at c d) k → arrow_at c m.arrow ≡ bwd_at (diagram_at c d) k
      → IsMapAt c (n - 1) m
  bwd_leg zero k above h parts l p q r = absurd (omega arith)
  bwd_leg (suc n) k above h parts l p q r =
      let e : n ≡ suc n - 1 = omega arith in
      let arrow_shape = subst (λ i. IsArrow i (bwd_at (diagram_at c d) k)) e (h.shape.bwds_are k l) in
      leg_at (suc n - 1) k (suc k) (bwd_at (diagram_at c d) k) arrow_shape parts (omega arith) l p q r
