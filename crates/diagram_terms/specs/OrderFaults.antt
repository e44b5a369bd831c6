-- What is at fault in a height order: a class that reaches itself, or two classes that nothing orders.
use Rattle.std.specs.Prelude.{◌≡◌}
use Rattle.diagram_terms.specs.declared.place.Bias.{Bias}
use Rattle.diagram_terms.specs.declared.place.Bias.TheVariants.{Unbiased}
use Rattle.diagram_terms.specs.HeightClasses.{HeightShape, Member, IsMember, IsBefore, Reaches, IsLeastMember}

-- no class reaches itself
abbrev pub IsAcyclic : HeightShape → Type 0
IsAcyclic H = (p : Member) → IsMember H p → Reaches H p p → ⊥

-- p is the least member of the least class that reaches itself
pub record IsFirstCycle (H : HeightShape) (p : Member) : Type 0 where
  pub least : IsLeastMember H p
  pub cycle : Reaches H p p
  pub first : (q : Member) → IsLeastMember H q → Reaches H q q → IsBefore q p → ⊥

-- p and q are the least members of two classes, the smaller class first, of which neither reaches the other
pub record AreApart (H : HeightShape) (p q : Member) : Type 0 where
  pub one : IsLeastMember H p
  pub other : IsLeastMember H q
  pub smaller : IsBefore p q
  pub not_up : Reaches H p q → ⊥
  pub not_down : Reaches H q p → ⊥

-- they are those of the first such pair, by the first member and then by the second
pub record IsFirstApart (H : HeightShape) (p q : Member) : Type 0 where
  pub apart : AreApart H p q
  pub first : (s t : Member) → AreApart H s t → IsBefore s p → ⊥
  pub second : (t : Member) → AreApart H p t → IsBefore t q → ⊥

-- the fault: the least member of a class that reaches itself, or those of two classes that do not reach each other
pub data OrderFault : Type 0 where
  cyclic : Member → OrderFault
  unsettled : Member → Member → OrderFault

-- a cycle is at fault under every bias; without a cycle, two classes that nothing orders are at fault where there is no bias
abbrev pub IsOrderFault : Bias → HeightShape → OrderFault → Type 0
IsOrderFault b H (cyclic p) = IsFirstCycle H p
IsOrderFault b H (unsettled p q) = (b ≡ Unbiased) × IsAcyclic H × IsFirstApart H p q
