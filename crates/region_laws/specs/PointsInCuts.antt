-- What is said of points and paths of a diagram and of its cuts.
use Rattle.std.specs.Prelude.{◌≡◌, ℕ, suc, List, ◌∷◌, ◌++◌, map}
use Rattle.diagram_terms.specs.declared.place.Height.{Height}
use Rattle.diagram_terms.specs.declared.place.Height.TheVariants as height_kind
use Rattle.diagram_terms.specs.Cuts.{cut_diagram}
use Rattle.diagram_terms.specs.CutsOfCuts.{uncut_region, cut_path, uncut_path}
use Rattle.diagram_terms.specs.Family.{Dia}
use Rattle.diagram_terms.specs.Neighbourhoods.{neighbourhood, one_height}
use Rattle.diagram_terms.specs.Paths.{IsPathOf, IsPointOf, point_label, first_height}
use Rattle.diagram_terms.specs.PointRegions.{point_region, LiesIn}
use Rattle.diagram_terms.specs.Regions.{Reg}

-- a neighbourhood over the singular height k, or over a regular height beside it, is that in the diagram of the one height k
pub record SeesOneHeight (d : ℕ) (X : Dia (suc d)) (k : ℕ) (hs : List Height) : Type 0 where
  pub before : neighbourhood (suc d) X (height_kind.R k ∷ hs) ≡ neighbourhood (suc d) (one_height d X k) (height_kind.R 0 ∷ hs)
  pub inside : neighbourhood (suc d) X (height_kind.S k ∷ hs) ≡ neighbourhood (suc d) (one_height d X k) (height_kind.S 0 ∷ hs)
  pub behind : neighbourhood (suc d) X (height_kind.R (suc k) ∷ hs) ≡ neighbourhood (suc d) (one_height d X k) (height_kind.R 1 ∷ hs)

-- a point of X that lies in W, as a point of the cut at W: its region, its neighbourhood and its label are the same
pub record IsPointInCut (d : ℕ) (X : Dia d) (W : Reg d) (hs : List Height) : Type 0 where
  pub is_point : IsPointOf d (cut_diagram d X W) (cut_path d W hs)
  pub region : point_region d X hs ≡ uncut_region d W (point_region d (cut_diagram d X W) (cut_path d W hs))
  pub neighbourhood : neighbourhood d X hs ≡ neighbourhood d (cut_diagram d X W) (cut_path d W hs)
  pub label : point_label d X hs ≡ point_label d (cut_diagram d X W) (cut_path d W hs)

-- a point of the cut of X at W is a point of X that lies in W
pub record IsPointOfCut (d : ℕ) (X : Dia d) (W : Reg d) (hs : List Height) : Type 0 where
  pub is_point : IsPointOf d X (uncut_path d W hs)
  pub lies_in : LiesIn d W (uncut_path d W hs)
  pub same : cut_path d W (uncut_path d W hs) ≡ hs

-- a path that begins with us goes on with vs in the cut at the region of us, after first heights
pub record GoesOnInCut (d : ℕ) (X : Dia d) (us vs : List Height) : Type 0 where
  pub is_path : IsPathOf d (neighbourhood d X us) (map first_height us ++ vs)
  pub region : point_region d X (us ++ vs) ≡ uncut_region d (point_region d X us) (point_region d (neighbourhood d X us) (map first_height us ++ vs))
  pub neighbourhood : neighbourhood d X (us ++ vs) ≡ neighbourhood d (neighbourhood d X us) (map first_height us ++ vs)
