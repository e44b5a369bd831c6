-- Points that are judged alike: of the same label, and with the same normal form of the neighbourhood.
use Rattle.std.specs.Prelude.{◌≡◌, ◌⊎◌, ℕ, suc, List, ◌∷◌, true}
use Rattle.diagram_terms.specs.declared.place.Height.{Height}
use Rattle.diagram_terms.specs.declared.place.Height.TheVariants as height_kind
use Rattle.diagram_terms.specs.Family.{Dia, reg, sing}
use Rattle.diagram_terms.specs.NormalForms.{normal_diagram}
use Rattle.diagram_terms.specs.PointOrder.{IsBefore}
use Rattle.diagram_terms.specs.Paths.{IsPointOf, point_label}
use Rattle.diagram_terms.specs.Neighbourhoods.{neighbourhood, one_height}
use Rattle.diagram_terms.specs.DecidingPoints.{is_deciding}

-- The normal forms of the neighbourhoods over the singular height k, and over the regular heights beside it, are those in the
-- diagram of the one height k.
pub record SeesOneNormalForm (d : ℕ) (X : Dia (suc d)) (k : ℕ) (hs : List Height) : Type 0 where
  pub before : normal_diagram (suc d) (neighbourhood (suc d) X (height_kind.R k ∷ hs))
      ≡ normal_diagram (suc d) (neighbourhood (suc d) (one_height d X k) (height_kind.R 0 ∷ hs))
  pub inside : normal_diagram (suc d) (neighbourhood (suc d) X (height_kind.S k ∷ hs))
      ≡ normal_diagram (suc d) (neighbourhood (suc d) (one_height d X k) (height_kind.S 0 ∷ hs))
  pub behind : normal_diagram (suc d) (neighbourhood (suc d) X (height_kind.R (suc k) ∷ hs))
      ≡ normal_diagram (suc d) (neighbourhood (suc d) (one_height d X k) (height_kind.R 1 ∷ hs))

-- the point gs of the regular slice before the singular height k has the label and the normal form of the point hs over k
pub record IsTwin (n : ℕ) (X : Dia (suc n)) (k : ℕ) (hs gs : List Height) : Type 0 where
  pub is_point : IsPointOf n (reg n X k) gs
  pub label : point_label n (reg n X k) gs ≡ point_label n (sing n X k) hs
  pub normal : normal_diagram (suc n) (neighbourhood (suc n) X (height_kind.R k ∷ gs))
      ≡ normal_diagram (suc n) (neighbourhood (suc n) X (height_kind.S k ∷ hs))

-- gs is the root of the point hs of X: a point of the same label and the same normal form, where regular heights come first and
-- then singular ones, and which is not later. It is hs itself if hs is so.
pub record IsRoot (d : ℕ) (X : Dia d) (hs gs : List Height) : Type 0 where
  pub is_point : IsPointOf d X gs
  pub deciding : is_deciding gs ≡ true
  pub label : point_label d X gs ≡ point_label d X hs
  pub normal : normal_diagram d (neighbourhood d X gs) ≡ normal_diagram d (neighbourhood d X hs)
  pub earlier : (gs ≡ hs) ⊎ IsBefore gs hs
  pub own : is_deciding hs ≡ true → gs ≡ hs

-- the point gs of Y has the label and the normal form of the point hs of X
pub record IsAlike (d : ℕ) (X Y : Dia d) (hs gs : List Height) : Type 0 where
  pub is_point : IsPointOf d Y gs
  pub label : point_label d Y gs ≡ point_label d X hs
  pub normal : normal_diagram d (neighbourhood d Y gs) ≡ normal_diagram d (neighbourhood d X hs)
