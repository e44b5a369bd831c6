-- The region of each kind of value, and regions that a loop has gathered.
use Rattle.std.proofs.Common.{◌≡◌, ℕ, zero, suc, ◌+◌, List, [], ◌∷◌, ◌++◌, map, Vec, Global, Bool, true, ◌&&◌, refl, sym, ap, ◌∙◌}
use Rattle.std.specs.List.{list_all}
use Rattle.std.proofs.lemmas.List.{map_push}
use Rattle.std.proofs.lemmas.List.Folds.{list_all-append, list_all-map}
use Rattle.std.proofs.lemmas.List.FromFn.{map-range_with_len_more}
use Rattle.diagram_terms.specs.Regions.{Reg, no_region, tab_from}
use Rattle.region_cut.specs.declared.region.Region.{Region}
use Rattle.region_cut.specs.declared.region.Region.TheOpen.{Region-F}
use Rattle.region_cut.specs.declared.region.Region.TheFolds.{fold-Region, fold-roll-Region}
use Rattle.region_cut.specs.declared.region.Region.TheVariants as region
use Rattle.region_cut.specs.RegionValues.{region_level, region_of, shape_level, has_shape, IsRegionValue, AreRegionValues}

pub region_of-All : (d : ℕ) → region_of d region.All ≡ no_region d
region_of-All d = ap (region_of d) (sym region.rolls-All) ∙ ap (λ f. f d) (fold-roll-Region ((d : ℕ) → Reg d) region_level Region-F.All)

-- the regions of the slices one after the other
each : (d : ℕ) (rs : List Region) → map (λ (r : (d : ℕ) → Reg d). r d) (map (fold-Region ((d : ℕ) → Reg d) region_level) rs) ≡ map (region_of d) rs
each d [] = refl
each d (r ∷ rs) = ap (λ us. region_of d r ∷ us) (each d rs)

abbrev pub span : (d : ℕ) → ℕ → ℕ → List (Reg d) → List (Reg d) → Reg (suc d)
span d a b rs ss = record { from = a; to = b; regs = rs; sings = ss }

pub region_of-Span : (d a b : ℕ) (rs ss : Vec Region Global)
    → region_of (suc d) (region.Span a b rs ss) ≡ span d a b (map (region_of d) rs.items) (map (region_of d) ss.items)
region_of-Span d a b rs ss =
    ap (region_of (suc d)) (sym (region.rolls-Span a b rs ss))
    ∙ ap (λ f. f (suc d)) (fold-roll-Region ((d : ℕ) → Reg d) region_level (Region-F.Span a b rs ss))
    ∙ (λ i. span d a b (each d rs.items i) (each d ss.items i))

-- ---- the shapes

has_shape-All : has_shape 0 region.All ≡ true
has_shape-All = ap (has_shape 0) (sym region.rolls-All) ∙ ap (λ f. f 0) (fold-roll-Region (ℕ → Bool) shape_level Region-F.All)

each_shape : (d : ℕ) (rs : List Region) → list_all (λ (r : ℕ → Bool). r d) (map (fold-Region (ℕ → Bool) shape_level) rs) ≡ list_all (has_shape d) rs
each_shape d rs = list_all-map (λ (r : ℕ → Bool). r d) (fold-Region (ℕ → Bool) shape_level) rs

has_shape-Span : (d a b : ℕ) (rs ss : Vec Region Global)
    → has_shape (suc d) (region.Span a b rs ss) ≡ list_all (has_shape d) rs.items && list_all (has_shape d) ss.items
has_shape-Span d a b rs ss =
    ap (has_shape (suc d)) (sym (region.rolls-Span a b rs ss))
    ∙ ap (λ f. f (suc d)) (fold-roll-Region (ℕ → Bool) shape_level (Region-F.Span a b rs ss))
    ∙ (λ i. each_shape d rs.items i && each_shape d ss.items i)

-- ---- values made of regions

pub value_all : (W : Reg zero) → IsRegionValue zero W region.All
value_all W = record { shape = has_shape-All; region = refl }

pub value_span : (d a b : ℕ) (rs ss : Vec Region Global) (Rs Ss : List (Reg d)) → AreRegionValues d Rs rs.items → AreRegionValues d Ss ss.items
    → IsRegionValue (suc d) (span d a b Rs Ss) (region.Span a b rs ss)
value_span d a b rs ss Rs Ss p q = record {
  shape = has_shape-Span d a b rs ss ∙ (λ i. p.shapes i && q.shapes i);
  region = region_of-Span d a b rs ss ∙ (λ i. span d a b (p.regions i) (q.regions i));
}

-- ---- what the parts of a value are

pub all_from : (d : ℕ) (r : Region) → r ≡ region.All → 0 ≡ (region_of (suc d) r).from
unfolding no_region
all_from d r e = sym (ap (λ r. (region_of (suc d) r).from) e ∙ ap (λ (W : Reg (suc d)). W.from) (region_of-All (suc d)))

pub all_to : (d : ℕ) (r : Region) → r ≡ region.All → 0 ≡ (region_of (suc d) r).to
unfolding no_region
all_to d r e = sym (ap (λ r. (region_of (suc d) r).to) e ∙ ap (λ (W : Reg (suc d)). W.to) (region_of-All (suc d)))

pub all_regs : (d : ℕ) (r : Region) → r ≡ region.All → [] ≡ (region_of (suc d) r).regs
unfolding no_region
all_regs d r e = sym (ap (λ r. (region_of (suc d) r).regs) e ∙ ap (λ (W : Reg (suc d)). W.regs) (region_of-All (suc d)))

pub all_sings : (d : ℕ) (r : Region) → r ≡ region.All → [] ≡ (region_of (suc d) r).sings
unfolding no_region
all_sings d r e = sym (ap (λ r. (region_of (suc d) r).sings) e ∙ ap (λ (W : Reg (suc d)). W.sings) (region_of-All (suc d)))

pub span_is : (d a b : ℕ) (rs ss : Vec Region Global) (r : Region) → r ≡ region.Span a b rs ss
    → region_of (suc d) r ≡ span d a b (map (region_of d) rs.items) (map (region_of d) ss.items)
span_is d a b rs ss r e = ap (region_of (suc d)) e ∙ region_of-Span d a b rs ss

-- ---- regions that a loop has gathered

pub none_gathered : (d a : ℕ) (F : ℕ → Reg d) → AreRegionValues d (tab_from F a 0) []
none_gathered d a F = record { shapes = refl; regions = refl }

-- one more of a list
pub value_more : (d : ℕ) (Rs : List (Reg d)) (R : Reg d) (rs : List Region) (r : Region) → AreRegionValues d Rs rs → IsRegionValue d R r
    → AreRegionValues d (Rs ++ R ∷ []) (rs ++ r ∷ [])
value_more d Rs R rs r g h = record {
  shapes = list_all-append (has_shape d) rs (r ∷ []) ∙ (λ i. g.shapes i && (h.shape i && true));
  regions = map_push (region_of d) rs r ∙ (λ i. g.regions i ++ h.region i ∷ []);
}

pub one_more : (d a n k : ℕ) (F : ℕ → Reg d) (rs : List Region) (r : Region) → AreRegionValues d (tab_from F a n) rs → a + n ≡ k
    → IsRegionValue d (F k) r → AreRegionValues d (tab_from F a (n + 1)) (rs ++ r ∷ [])
one_more d a n k F rs r g e h =
    let m = value_more d (tab_from F a n) (F k) rs r g h in
    record { shapes = m.shapes; regions = m.regions ∙ sym (map-range_with_len_more F a n k e) }

pub counted : (d a n m : ℕ) (F : ℕ → Reg d) (rs : List Region) → AreRegionValues d (tab_from F a n) rs → n ≡ m → AreRegionValues d (tab_from F a m) rs
counted d a n m F rs g e = record { shapes = g.shapes; regions = g.regions ∙ ap (tab_from F a) e }
