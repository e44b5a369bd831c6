-- A contraction, list by list.
use Rattle.std.specs.Prelude.{◌≡◌, ℕ, suc, ◌+◌, ◌-◌, ◌∷◌, ◌++◌, length, map, take, drop}
use Rattle.diagram_terms.specs.Family.{Dia, Arr, fwd, bwd}
use Rattle.diagram_terms.specs.Dual.{upto}
use Rattle.diagram_terms.specs.Composite.{comp, ident}

-- X is C without the regular slice k + 1 and with P in the place of the singular slices k and k + 1, where l and m go from
-- these to P: the legs there are the outer ones, followed by l and m. f has l and m there, and identities elsewhere.
pub record HasContractedLists (d : ℕ) (C : Dia (suc d)) (k : ℕ) (P : Dia d) (l m : Arr d) (X : Dia (suc d)) (f : Arr (suc d)) : Type 0 where
  pub regs : X.regs ≡ take (suc k) C.regs ++ drop (suc (suc k)) C.regs
  pub sings : X.sings ≡ take k C.sings ++ P ∷ drop (suc (suc k)) C.sings
  pub fwds : X.fwds ≡ take k C.fwds ++ comp d l (fwd d C k) ∷ drop (suc (suc k)) C.fwds
  pub bwds : X.bwds ≡ take k C.bwds ++ comp d m (bwd d C (suc k)) ∷ drop (suc (suc k)) C.bwds
  pub heights : f.heights ≡ upto k ++ k ∷ k ∷ map (λ h. suc k + h) (upto (length C.sings - suc (suc k)))
  pub arrow_regs : f.regs ≡ map (λ y. ident d y) X.regs
  pub arrow_sings : f.sings ≡ map (λ y. ident d y) (take k C.sings) ++ l ∷ m ∷ map (λ y. ident d y) (drop (suc (suc k)) C.sings)

-- X is C with S in the place of the singular slice p, and m goes there: the legs there are followed by m. f has m there,
-- and identities elsewhere.
pub record HasSliceLists (d : ℕ) (C : Dia (suc d)) (p : ℕ) (S : Dia d) (m : Arr d) (X : Dia (suc d)) (f : Arr (suc d)) : Type 0 where
  pub regs : X.regs ≡ C.regs
  pub sings : X.sings ≡ take p C.sings ++ S ∷ drop (suc p) C.sings
  pub fwds : X.fwds ≡ take p C.fwds ++ comp d m (fwd d C p) ∷ drop (suc p) C.fwds
  pub bwds : X.bwds ≡ take p C.bwds ++ comp d m (bwd d C p) ∷ drop (suc p) C.bwds
  pub heights : f.heights ≡ upto (length C.sings)
  pub arrow_regs : f.regs ≡ map (λ y. ident d y) X.regs
  pub arrow_sings : f.sings ≡ map (λ y. ident d y) (take p C.sings) ++ m ∷ map (λ y. ident d y) (drop (suc p) C.sings)
