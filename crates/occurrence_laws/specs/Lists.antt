-- What stands in the place of a part, list by list.
use Rattle.std.specs.Prelude.{◌≡◌, ℕ, suc, ◌+◌, ◌-◌, ◌++◌, length, map, take, drop}
use Rattle.diagram_terms.specs.Family.{Dia, Arr}
use Rattle.diagram_terms.specs.Dual.{upto, dual}
use Rattle.diagram_terms.specs.Composite.{ident}
use Rattle.diagram_terms.specs.Segments.{replaced}

-- X has the lists of B, with those of Q in the place of the heights from a on, before b
pub record HasListsReplaced (d : ℕ) (B : Dia (suc d)) (a b : ℕ) (Q X : Dia (suc d)) : Type 0 where
  pub regs : X.regs ≡ take a B.regs ++ Q.regs ++ drop (suc b) B.regs
  pub sings : X.sings ≡ take a B.sings ++ Q.sings ++ drop b B.sings
  pub fwds : X.fwds ≡ take a B.fwds ++ Q.fwds ++ drop b B.fwds
  pub bwds : X.bwds ≡ take a B.bwds ++ Q.bwds ++ drop b B.bwds

-- f, which goes to Y, has identity heights before a, there those of q, shifted, and behind them identity heights, shifted
-- past the n heights to which q goes; its regular slices are identities, and its singular slices are those of q and
-- identities
pub record HasListsReplacing (d : ℕ) (B : Dia (suc d)) (a b n : ℕ) (q : Arr (suc d)) (Y : Dia (suc d)) (f : Arr (suc d)) : Type 0 where
  pub heights : f.heights ≡ upto a ++ map (λ h. a + h) q.heights ++ map (λ h. a + n + h) (upto (length B.sings - b))
  pub regs : f.regs ≡ map (λ y. ident d y) Y.regs
  pub sings : f.sings ≡ map (λ x. ident d x) (take a B.sings) ++ q.sings ++ map (λ x. ident d x) (drop b B.sings)

-- f, which goes to s with Q in the place of the height i, has the heights of the leg g to s that go to no i, those behind
-- i shifted, and identity heights between them; its regular slices are identities, and its singular slices are those of g
-- and identities
pub record HasListsAround (d : ℕ) (s : Dia (suc d)) (g : Arr (suc d)) (i : ℕ) (Q : Dia (suc d)) (f : Arr (suc d)) : Type 0 where
  pub heights : f.heights
      ≡ take (dual g.heights i) g.heights ++ map (λ h. i + h) (upto (length Q.sings))
      ++ map (λ h. i + length Q.sings + (h - suc i)) (drop (dual g.heights (suc i)) g.heights)
  pub regs : f.regs ≡ map (λ y. ident d y) (replaced d s i (suc i) Q).regs
  pub sings : f.sings
      ≡ take (dual g.heights i) g.sings ++ map (λ x. ident d x) Q.sings ++ drop (dual g.heights (suc i)) g.sings
