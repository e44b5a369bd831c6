-- The definitions at small diagrams, by computation.
use Rattle.std.proofs.Common.{◌≡◌, [], ◌∷◌, map, refl, arith, inl}
use Rattle.diagram_terms.specs.declared.label.Label.{Label}
use Rattle.diagram_terms.specs.declared.place.Height.{Height}
use Rattle.diagram_terms.specs.declared.place.Height.TheVariants as height_kind
use Rattle.diagram_terms.specs.Family.{Ends, Dia, Arr, no_dia, no_arr}
use Rattle.diagram_terms.specs.Dual.{dual}
use Rattle.diagram_terms.specs.Composite.{ident, identity_diagram}
use Rattle.diagram_terms.specs.Cone.{cospan, cone, mid, type_over}
use Rattle.diagram_terms.specs.Regions.{Reg, no_region, whole_region}
use Rattle.diagram_terms.specs.Preimages.{preimage}
use Rattle.diagram_terms.specs.PointRegions.{point_region}
use Rattle.diagram_terms.specs.Paths.{point_label}
use Rattle.diagram_terms.specs.PointOrder.{IsBefore}
use Rattle.diagram_terms.specs.Points.{Point, points}
use Rattle.diagram_terms.specs.Cuts.{cut_arrow, cut_diagram}
use Rattle.diagram_terms.specs.Neighbourhoods.{neighbourhood, identity_cospan}
use Rattle.diagram_terms.specs.CutsOfCuts.{uncut_region, cut_path}
use Rattle.diagram_terms.specs.PulledPoints.{pulled_point}

abbrev x : Label
x = record { number = 0; dim = 0 }

abbrev f : Label
f = record { number = 1; dim = 1 }

abbrev a : Label
a = record { number = 3; dim = 2 }

abbrev pair : Label → Label → Ends
pair y z = record { from = y; to = z }

abbrev r0 : Height
r0 = height_kind.R 0

abbrev r1 : Height
r1 = height_kind.R 1

abbrev s0 : Height
s0 = height_kind.S 0

abbrev s1 : Height
s1 = height_kind.S 1

abbrev whole : Reg 0
whole = record {}

-- ---- dimension 1

-- x -> x <- x -> f <- x
abbrev two_heights : Dia 1
two_heights = record { regs = x ∷ x ∷ x ∷ []; sings = x ∷ f ∷ []; fwds = pair x x ∷ pair x f ∷ []; bwds = pair x x ∷ pair x f ∷ [] }

-- x -> f <- x
abbrev loop : Dia 1
loop = cospan 0 x (pair x f) f (pair x f) x

second_region : point_region 1 two_heights (s1 ∷ []) ≡ record { from = 1; to = 2; regs = whole ∷ whole ∷ []; sings = whole ∷ [] }
second_region = unfold point_region preimage no_region in refl

second_neighbourhood : neighbourhood 1 two_heights (s1 ∷ []) ≡ loop
second_neighbourhood = unfold point_region preimage cut_diagram cut_arrow no_region no_dia no_arr in refl

regular_neighbourhood : neighbourhood 1 two_heights (r1 ∷ []) ≡ identity_diagram 0 x
regular_neighbourhood = unfold point_region preimage cut_diagram cut_arrow no_region no_dia no_arr in refl

-- its points, in order, with their labels
all_points : points 1 two_heights
    ≡ record { heights = r0 ∷ []; label = x } ∷ record { heights = s0 ∷ []; label = x } ∷ record { heights = r1 ∷ []; label = x }
    ∷ record { heights = s1 ∷ []; label = f } ∷ record { heights = height_kind.R 2 ∷ []; label = x } ∷ []
all_points = unfold no_dia in refl

second_label : point_label 1 two_heights (s1 ∷ []) ≡ f
second_label = unfold no_dia in refl

-- the point s1, in the cut at its region
second_in_cut : cut_path 1 (point_region 1 two_heights (s1 ∷ [])) (s1 ∷ []) ≡ s0 ∷ []
second_in_cut = unfold point_region preimage no_region in refl

-- the arrow out of the loop that goes to the second height: the preimage of that height's region is the whole loop, the
-- preimage of the first height's region has no singular height
abbrev second_leg : Arr 1
second_leg = record { heights = 1 ∷ []; regs = pair x x ∷ pair x x ∷ pair x x ∷ []; sings = pair f f ∷ [] }

whole_preimage : preimage 1 loop second_leg (point_region 1 two_heights (s1 ∷ [])) ≡ whole_region 1 loop
whole_preimage = unfold point_region preimage whole_region no_region dual no_dia no_arr in refl

empty_preimage : preimage 1 loop second_leg (point_region 1 two_heights (s0 ∷ [])) ≡ record { from = 0; to = 0; regs = whole ∷ []; sings = [] }
empty_preimage = unfold point_region preimage no_region dual no_dia no_arr in refl

empty_cut : cut_arrow 1 second_leg (point_region 1 two_heights (s0 ∷ [])) ≡ record { heights = []; regs = pair x x ∷ pair x x ∷ []; sings = [] }
empty_cut = unfold point_region preimage cut_arrow no_region dual no_dia no_arr in refl

full_cut : cut_arrow 1 second_leg (point_region 1 two_heights (s1 ∷ [])) ≡ record { heights = 0 ∷ []; regs = pair x x ∷ pair x x ∷ []; sings = pair f f ∷ [] }
full_cut = unfold point_region preimage cut_arrow no_region dual no_dia no_arr in refl

-- ---- dimension 2: the cell a from the loop to itself, and twice that cell

abbrev cell : Dia 2
cell = type_over 1 loop loop a

-- x -> a <- x, and the leg of the loop into it
abbrev disc : Dia 1
disc = mid 1 loop a

abbrev leg : Arr 1
leg = cone 1 loop a

abbrev twice : Dia 2
twice = record { regs = loop ∷ loop ∷ loop ∷ []; sings = disc ∷ disc ∷ []; fwds = leg ∷ leg ∷ []; bwds = leg ∷ leg ∷ [] }

second_cell : neighbourhood 2 twice (s1 ∷ s0 ∷ []) ≡ cell
second_cell = unfold point_region preimage cut_diagram cut_arrow type_over mid cone ident dual no_region no_dia no_arr in refl

-- the points of the one cell: three at each of its two regular slices, and three at the disc between them
cell_points : map (λ (p : Point). p.heights) (points 2 cell)
    ≡ (r0 ∷ r0 ∷ []) ∷ (r0 ∷ s0 ∷ []) ∷ (r0 ∷ r1 ∷ []) ∷ (s0 ∷ r0 ∷ []) ∷ (s0 ∷ s0 ∷ []) ∷ (s0 ∷ r1 ∷ [])
    ∷ (r1 ∷ r0 ∷ []) ∷ (r1 ∷ s0 ∷ []) ∷ (r1 ∷ r1 ∷ []) ∷ []
cell_points = unfold type_over mid cone ident no_dia no_arr in refl

-- the outermost height is compared first
comes_before : IsBefore (r0 ∷ s1 ∷ []) (s0 ∷ r0 ∷ [])
comes_before = inl (omega arith)

-- at the source of the disc no height is left
edge_of_cell : neighbourhood 2 twice (s1 ∷ r0 ∷ []) ≡ cospan 1 (identity_diagram 0 x) (ident 1 (identity_diagram 0 x)) (identity_diagram 0 x) (ident 1 (identity_diagram 0 x)) (identity_diagram 0 x)
edge_of_cell = unfold point_region preimage cut_diagram cut_arrow type_over mid cone ident dual no_region no_dia no_arr in refl

-- ---- dimension 3: two cells that become one

abbrev merged : Arr 2
merged = record { heights = 0 ∷ 0 ∷ []; regs = ident 1 loop ∷ ident 1 loop ∷ []; sings = ident 1 disc ∷ ident 1 disc ∷ [] }

abbrev merging : Dia 3
merging = cospan 2 twice merged cell (ident 2 cell) cell

-- the preimage of the one cell is both cells
both_cells : preimage 2 twice merged (point_region 2 cell (s0 ∷ s0 ∷ [])) ≡ whole_region 2 twice
both_cells = unfold point_region preimage whole_region type_over mid cone ident dual no_region no_dia no_arr in refl

merging_neighbourhood : neighbourhood 3 merging (s0 ∷ s0 ∷ s0 ∷ []) ≡ merging
merging_neighbourhood = unfold point_region preimage cut_diagram cut_arrow type_over mid cone ident dual no_region no_dia no_arr in refl

-- ---- a region that is not closed

-- x -> x <- x with identity legs, and its cospan V -> V <- V
abbrev V : Dia 1
V = cospan 0 x (pair x x) x (pair x x) x

abbrev first_only : Reg 1
first_only = record { from = 0; to = 0; regs = whole ∷ []; sings = [] }

-- The region of the cospan with this part at its first regular and at its singular slice, and the whole of V at the last one,
-- is not closed. Under the arrow from the identity diagram of V, which misses the one height, its two regular parts differ.
under_first : preimage 1 V (ident 1 V) first_only ≡ first_only
under_first = unfold preimage ident dual no_region no_dia no_arr in refl

under_last : preimage 1 V (ident 1 V) (whole_region 1 V) ≡ record { from = 0; to = 1; regs = whole ∷ whole ∷ []; sings = whole ∷ [] }
under_last = unfold preimage whole_region ident dual no_region no_dia no_arr in refl

-- ---- a cut of a cut

inner_cut : cut_diagram 1 (cut_diagram 1 two_heights (whole_region 1 two_heights)) (point_region 1 two_heights (s1 ∷ [])) ≡ loop
inner_cut = unfold point_region preimage whole_region cut_diagram cut_arrow no_region no_dia no_arr in refl

inner_region : uncut_region 1 (point_region 1 two_heights (s1 ∷ [])) (point_region 1 loop (r1 ∷ [])) ≡ record { from = 2; to = 2; regs = whole ∷ []; sings = [] }
inner_region = unfold point_region preimage uncut_region no_region in refl

-- ---- points pulled back, and a quiet point

-- the point of the second height is pulled back along the second leg to the loop's height, that of the first height to the
-- regular height before it
pulled_hit : pulled_point 1 two_heights second_leg (s1 ∷ []) ≡ s0 ∷ []
pulled_hit = unfold pulled_point dual no_dia no_arr in refl

pulled_missed : pulled_point 1 two_heights second_leg (s0 ∷ []) ≡ r0 ∷ []
pulled_missed = unfold pulled_point dual no_dia no_arr in refl

pulled_region : point_region 1 loop (r0 ∷ []) ≡ preimage 1 loop second_leg (point_region 1 two_heights (s0 ∷ []))
pulled_region = unfold point_region preimage no_region dual no_dia no_arr in refl

-- the first height has two identity legs: its neighbourhood is x -> x <- x
quiet_neighbourhood : neighbourhood 1 two_heights (s0 ∷ []) ≡ identity_cospan 0 x
quiet_neighbourhood = unfold point_region preimage cut_diagram cut_arrow ident no_region no_dia no_arr in refl
