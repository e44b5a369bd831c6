-- The region that a value of the program is, in each dimension.
use Rattle.std.specs.Prelude.{◌≡◌, ℕ, zero, suc, List, map, Bool, true, false, ◌&&◌}
use Rattle.std.specs.List.{list_all}
use Rattle.diagram_terms.specs.ClosedRegions.{IsClosedRegion}
use Rattle.diagram_terms.specs.Decoded.{arr}
use Rattle.diagram_terms.specs.OnTrees.{on_diagram}
use Rattle.diagram_terms.specs.Preimages.{preimage}
use Rattle.diagram_terms.specs.Regions.{Reg, no_region}
use Rattle.diagram_terms.specs.Tree.{Tree}
use Rattle.region_cut.specs.declared.region.Region.{Region}
use Rattle.region_cut.specs.declared.region.Region.TheOpen.{Region-F}
use Rattle.region_cut.specs.declared.region.Region.TheFolds.{fold-Region}

-- one level, with the region of each slice in its place; of a value of another shape it means nothing
abbrev pub region_level : Region-F ((d : ℕ) → Reg d) → (d : ℕ) → Reg d
region_level Region-F.All d = no_region d
region_level (Region-F.Span a b rs ss) zero = record {}
region_level (Region-F.Span a b rs ss) (suc d) = record {
  from = a;
  to = b;
  regs = map (λ r. r d) rs.items;
  sings = map (λ r. r d) ss.items;
}

-- the region of a diagram of dimension d that a value is
abbrev pub region_of : (d : ℕ) → Region → Reg d
region_of d r = fold-Region ((d : ℕ) → Reg d) region_level r d

-- whether one level has the shape of a region in dimension d, where those of the slices are asked one dimension below
abbrev pub shape_level : Region-F (ℕ → Bool) → ℕ → Bool
shape_level Region-F.All zero = true
shape_level Region-F.All (suc d) = false
shape_level (Region-F.Span a b rs ss) zero = false
shape_level (Region-F.Span a b rs ss) (suc d) = list_all (λ r. r d) rs.items && list_all (λ r. r d) ss.items

-- whether a value has the shape of a region of a diagram of dimension d: All in dimension 0, and a Span above, at every depth
abbrev pub has_shape : ℕ → Region → Bool
has_shape d r = fold-Region (ℕ → Bool) shape_level r d

-- v is W, the region of a diagram of dimension d
pub record IsRegionValue (d : ℕ) (W : Reg d) (v : Region) : Type 0 where
  pub shape : has_shape d v ≡ true
  pub region : region_of d v ≡ W

-- the values are these regions, in order
pub record AreRegionValues (d : ℕ) (Ws : List (Reg d)) (vs : List Region) : Type 0 where
  pub shapes : list_all (has_shape d) vs ≡ true
  pub regions : map (region_of d) vs ≡ Ws

-- r is a closed region of the diagram t
abbrev pub IsClosedIn : Tree → Region → Type 0
IsClosedIn t r = on_diagram (λ d X. IsClosedRegion d X (region_of d r)) t

-- v is the preimage of r under the arrow f out of the diagram s
abbrev pub IsPreimageOf : Tree → Tree → Region → Region → Type 0
IsPreimageOf s f r v = on_diagram (λ d X. IsRegionValue d (preimage d X (arr d f) (region_of d r)) v) s
