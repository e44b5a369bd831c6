-- That a cocone may be taken from each object of its shape.
use Rattle.std.specs.Prelude.{◌≡◌, ℕ, suc, ◌<◌, ◌≤◌, length}
use Rattle.diagram_terms.specs.Family.{reg, fwd, bwd, arrow_sing}
use Rattle.diagram_terms.specs.Dual.{dual}
use Rattle.diagram_terms.specs.Composite.{comp}
use Rattle.diagram_terms.specs.Shapes.{Shape, object}
use Rattle.diagram_terms.specs.Cocones.{Cocone, leg}

-- One level of a cocone, taken from any object: the regular slices of the apex are those of the object at the dual of its
-- leg, and the legs of the apex are its own at the first and the last height that goes there, followed by the leg's slices.
pub record IsFromEachObject (d : ℕ) (S : Shape (suc d)) (c : Cocone (suc d)) : Type 0 where
  pub regs : (x j : ℕ) → x < length S.objects → j ≤ length c.apex.sings
      → reg d c.apex j ≡ reg d (object (suc d) S x) (dual (leg (suc d) c x).heights j)
  pub fwds : (x k i : ℕ) → x < length S.objects → k < length c.apex.sings
      → dual (leg (suc d) c x).heights k ≡ i → i < dual (leg (suc d) c x).heights (suc k)
      → fwd d c.apex k ≡ comp d (arrow_sing d (leg (suc d) c x) i) (fwd d (object (suc d) S x) i)
  pub bwds : (x k i : ℕ) → x < length S.objects → k < length c.apex.sings
      → dual (leg (suc d) c x).heights k ≤ i → suc i ≡ dual (leg (suc d) c x).heights (suc k)
      → bwd d c.apex k ≡ comp d (arrow_sing d (leg (suc d) c x) i) (bwd d (object (suc d) S x) i)
