-- What the laws of parallel slices and of cones say.
use Rattle.std.specs.Prelude.{ℕ, suc, ◌<◌, ◌≤◌, length}
use Rattle.diagram_terms.specs.declared.label.Label.{Label}
use Rattle.diagram_terms.specs.Family.{Dia, reg, sing}
use Rattle.diagram_terms.specs.Plain.{PlainArrow, Plain}
use Rattle.diagram_terms.specs.Valid.{ValidArrow, Valid}
use Rattle.diagram_terms.specs.Cone.{Parallel, cone, mid}

-- each slice of X is parallel to S
pub record HasSlicesParallelTo (d : ℕ) (S : Dia d) (X : Dia (suc d)) : Type 0 where
  pub regs : (j : ℕ) → j ≤ length X.sings → Parallel d (reg d X j) S
  pub sings : (i : ℕ) → i < length X.sings → Parallel d (sing d X i) S

-- the cone over D with the label x is a valid plain arrow from D to a valid plain diagram that is parallel to D
pub record HasGoodCone (d : ℕ) (D : Dia d) (x : Label) : Type 0 where
  pub valid : Valid d (mid d D x)
  pub plain : Plain d (mid d D x)
  pub valid_cone : ValidArrow d D (mid d D x) (cone d D x)
  pub plain_cone : PlainArrow d (cone d D x)
  pub parallel : Parallel d D (mid d D x)
