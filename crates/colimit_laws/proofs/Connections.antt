-- Chains of arrows of a shape.
use Rattle.std.proofs.Common.{◌≡◌, ℕ, refl, sym, ◌∙◌}
use Rattle.std.specs.List.{Contains}
use Rattle.diagram_terms.specs.Shapes.{Shape, ShapeArrow, AreConnected, here, forth, back}

module _ (d : ℕ) (S : Shape d) where
  pub connected-trans : (x y z : ℕ) → AreConnected d S x y → AreConnected d S y z → AreConnected d S x z
  connected-trans x y z p here = p
  connected-trans x y z p (forth g c q) = forth g c (connected-trans x y g.from p q)
  connected-trans x y z p (back g c q) = back g c (connected-trans x y g.to p q)

  pub connected-sym : (x y : ℕ) → AreConnected d S x y → AreConnected d S y x
  connected-sym x y here = here
  connected-sym x y (forth g c q) = connected-trans g.to g.from x (back g c here) (connected-sym x g.from q)
  connected-sym x y (back g c q) = connected-trans g.from g.to x (forth g c here) (connected-sym x g.to q)

  -- what both ends of each arrow share, all connected objects share
  pub same_where_connected : {A : Type 0} (f : ℕ → A) → ((g : ShapeArrow d) → Contains S.arrows g → f g.from ≡ f g.to)
      → (x y : ℕ) → AreConnected d S x y → f x ≡ f y
  same_where_connected f e x y here = refl
  same_where_connected f e x y (forth g c q) = same_where_connected f e x g.from q ∙ e g c
  same_where_connected f e x y (back g c q) = same_where_connected f e x g.to q ∙ sym (e g c)
