-- Shapes, one map after the other.
use Rattle.std.proofs.Common.{ℕ, List, [], ◌∷◌, ◌++◌, subst, inl, inr}
use Rattle.std.proofs.lemmas.List.Elements.{Contains-append_cases}
use Rattle.diagram_terms.specs.HeightClasses.{IsHeightMap, IsHeightShape}
use Rattle.diagram_terms.specs.HeightClasses as height_classes
use Rattle.colimit_laws.proofs.Membership.{contains_none, contains_cases, contains_map, from_map}
use Rattle.height_order.specs.declared.height_map.HeightMap.{HeightMap}
use Rattle.height_order.specs.Shapes.{as_map, shape_of}

-- whether a map is one between the objects depends on the lengths alone
pub map-between : (lengths : List ℕ) (maps others : List HeightMap) (m : height_classes.HeightMap) → IsHeightMap (shape_of lengths maps) m → IsHeightMap (shape_of lengths others) m
map-between lengths maps others m h = record { from = h.from; to = h.to; heights_len = h.heights_len; below = h.below }

pub shape-none : (lengths : List ℕ) → IsHeightShape (shape_of lengths [])
shape-none lengths m c = contains_none m c

pub shape-push : (lengths : List ℕ) (maps : List HeightMap) (m : HeightMap) → IsHeightShape (shape_of lengths maps)
    → IsHeightMap (shape_of lengths []) (as_map m) → IsHeightShape (shape_of lengths (maps ++ m ∷ []))
shape-push lengths maps m v h n c =
    let f = from_map as_map (maps ++ m ∷ []) n c in
    let y : HeightMap = f.0 in
    let more : List HeightMap = maps ++ m ∷ [] in
    subst (IsHeightMap (shape_of lengths more)) f.2 (elim (Contains-append_cases maps (m ∷ []) y f.1) [
      | inl k ↦ map-between lengths maps more (as_map y) (v (as_map y) (contains_map as_map maps y k))
      | inr k ↦ elim (contains_cases m y [] k) [
        | inl e ↦ subst (λ (y : HeightMap). IsHeightMap (shape_of lengths more) (as_map y)) e (map-between lengths [] more (as_map m) h)
        | inr none ↦ contains_none y none
      ]
    ])
