-- A test says yes exactly to a valid diagram, and exactly to a valid map.
use Rattle.std.proofs.Common.{◌≡◌, ◌↔◌, ℕ, None, refl, sym, ap, ◌∙◌}
use Rattle.diagram_terms.specs.declared.place.Place.{Place}
use Rattle.diagram_terms.specs.Dimension.{dimension_of}
use Rattle.diagram_terms.specs.FaultsOnTrees.{tests_between}
use Rattle.diagram_terms.specs.Places.{first_failure}
use Rattle.diagram_terms.proofs.Dimensions.{diagram_dimension, arrow_dimension}
use Rattle.hashcons.specs.Contents.{Contents, Grows, diagram_at, arrow_at}
use Rattle.zigzag_maps.specs.declared.map.Map.{Map}
use Rattle.zigzag_maps.specs.declared.outcome.SquareTest.{SquareTest}
use Rattle.zigzag_maps.specs.declared.outcome.SquareTest.TheVariants as test
use Rattle.zigzag_maps.specs.Found.{IsValidDiagram, IsValidMap}
use Rattle.zigzag_maps.specs.Visits.{IsMapAt, fault_of}
use Rattle.zigzag_maps.specs.DiagramTests.{IsDiagramAt, tests_in}
use Rattle.zigzag_maps.proofs.FaultSteps.{map_at-grows, map_trees, valid_map_from, valid_map_passes}
use Rattle.zigzag_maps.proofs.ValiditySteps.{is_diagram_at-grows, kept_passes, valid_diagram_from}

no_fault : (found : SquareTest) → fault_of found ≡ None → found ≡ test.Valid
no_fault test.Valid e = refl
no_fault (test.Fault p) e = cc

module _ (old new : Contents) (n d : ℕ) (found : SquareTest) (grown : Grows old new) (h : IsDiagramAt old n d)
    (exact : fault_of found ≡ first_failure (tests_in (diagram_at old d))) where
  same_tests : first_failure (tests_in (diagram_at new d)) ≡ fault_of found
  same_tests = ap (λ t. first_failure (tests_in t)) (grown.diagram_trees d h.of_store) ∙ sym exact

  pub yes_is_validity : (found ≡ test.Valid) ↔ IsValidDiagram new d
  yes_is_validity = (
    λ e. valid_diagram_from new n d (is_diagram_at-grows old new n d grown h) (same_tests ∙ ap fault_of e),
    λ v. no_fault found (sym same_tests ∙ kept_passes new d v),
  )

module _ (old new : Contents) (n : ℕ) (m : Map) (found : SquareTest) (grown : Grows old new) (h : IsMapAt old n m)
    (exact : fault_of found ≡ first_failure (tests_between (diagram_at old m.source) (diagram_at old m.target) (arrow_at old m.arrow))) where
  same_map_tests : first_failure (tests_between (diagram_at new m.source) (diagram_at new m.target) (arrow_at new m.arrow)) ≡ fault_of found
  same_map_tests = map_trees (λ s t f. first_failure (tests_between s t f)) old new n m grown h ∙ sym exact

  pub yes_is_valid_map : (found ≡ test.Valid) ↔ IsValidMap new m
  yes_is_valid_map = (
    λ e. valid_map_from new n m (map_at-grows old new n m grown h) (same_map_tests ∙ ap fault_of e),
    λ v. no_fault found (sym same_map_tests ∙ valid_map_passes new m v),
  )

-- the ends of a valid map have the dimension of its arrow
pub valid_map-dims : (c : Contents) (m : Map) → IsValidMap c m
    → (dimension_of (diagram_at c m.source) ≡ dimension_of (arrow_at c m.arrow))
    × (dimension_of (diagram_at c m.target) ≡ dimension_of (arrow_at c m.arrow))
valid_map-dims c m h =
    let b = h.between.at_dim in
    let d = sym (arrow_dimension h.between.dim (arrow_at c m.arrow) b.shape) in (
      diagram_dimension h.between.dim (diagram_at c m.source) b.source ∙ d,
      diagram_dimension h.between.dim (diagram_at c m.target) b.target ∙ d,
    )

pub fault_is_not_valid : (c : Contents) (m : Map) (p : Place) → (IsValidMap c m → ⊥) → (test.Fault p ≡ test.Valid) ↔ IsValidMap c m
fault_is_not_valid c m p h = (λ e. absurd (let q : ⊥ = cc in q), λ v. absurd (h v))
