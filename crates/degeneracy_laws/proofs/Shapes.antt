-- A degeneracy is a valid arrow between valid diagrams, and has the shape of one.
use Rattle.std.proofs.Common.{◌≡◌, ℕ, zero, suc, ◌<◌, ◌≤◌, List, length, get_or, sym, ap, ◌∙◌, subst, arith, inl, inr}
use Rattle.diagram_terms.specs.Family.{Dia, Arr, reg, sing, fwd, bwd, height, arrow_reg, arrow_sing}
use Rattle.diagram_terms.specs.Dual.{IsIncreasing, dual}
use Rattle.diagram_terms.specs.Composite.{comp, ident}
use Rattle.diagram_terms.specs.Valid.{Valid}
use Rattle.diagram_terms.specs.Degeneracy.{SimpleArrow, ParallelArrow, SimpleOrParallel, Chain, Degeneracy, DegeneracyByShape}
use Rattle.diagram_terms.specs.Degeneracy.Chain.{none, more}
use Rattle.diagram_terms.proofs.Duals.{dual-upto, get-upto}
use Rattle.diagram_terms.proofs.Injections.{increasing-upto}
use Rattle.map_laws.proofs.ValidParts.{dual_within}
use Rattle.map_laws.proofs.ValidComposites.{composites_are_valid}
use Rattle.map_laws.proofs.ValidIdentities.{identities_are_valid}
use Rattle.map_laws.proofs.IdentityShapes.{identities_have_shape, identities_compose}
use Rattle.degeneracy_laws.specs.Laws.{DegeneraciesAreValid, DegeneraciesHaveShape}
use Rattle.degeneracy_laws.proofs.ShapeComposites.{shape_valid, identity_shape, shapes_compose}

-- ---- a degeneracy goes between valid diagrams

chain_ends : (d : ℕ) (A : Dia d → Dia d → Arr d → Type 0) (X Y : Dia d) (f : Arr d) → Chain d A X Y f → Valid d X × Valid d Y
chain_ends d A X Y f (none Z v) = (v, v)
chain_ends d A X Y f (more W Z U p q c v s) = ((chain_ends d A W Z p c).0, v)

pub degeneracy_ends : (d : ℕ) (X Y : Dia d) (e : Arr d) → Degeneracy d X Y e → Valid d X × Valid d Y
degeneracy_ends zero x y e q = (tt, tt)
degeneracy_ends (suc d) X Y e q = chain_ends (suc d) (SimpleOrParallel d (Degeneracy d)) X Y e q

-- ---- simple arrows

pub simple_shape : (d : ℕ) (X Y : Dia (suc d)) (f : Arr (suc d)) → Valid (suc d) X → Valid (suc d) Y
    → SimpleArrow d X Y f → DegeneracyByShape (suc d) X Y f
simple_shape d X Y f vX vY s =
    let v = s.valid in
    record {
      valid = v;
      increasing = s.increasing;
      regs = λ j l. identity_shape d _ _ (arrow_reg d f j) (v.regs j l) (s.regs j l);
      sings = λ i l. identity_shape d _ _ (arrow_sing d f i) (v.sings i l) (s.sings i l);
      missed_fwds = λ k l e.
          let vr = v.regs k (omega arith) in
          identity_shape d _ _ (comp d (fwd d Y k) (arrow_reg d f k))
          (composites_are_valid d _ _ _ (arrow_reg d f k) (fwd d Y k)
          (vX.regs _ (dual_within d X Y f v k)) (vY.regs k (omega arith)) (vY.sings k l) vr (vY.fwds k l))
          (identities_compose d _ _ _ (arrow_reg d f k) (fwd d Y k) vr (vY.fwds k l) (s.regs k (omega arith)) (s.missed_fwds k l e));
      missed_bwds = λ k l e.
          let vr = v.regs (suc k) l in
          identity_shape d _ _ (comp d (bwd d Y k) (arrow_reg d f (suc k)))
          (composites_are_valid d _ _ _ (arrow_reg d f (suc k)) (bwd d Y k)
          (vX.regs _ (dual_within d X Y f v (suc k))) (vY.regs (suc k) l) (vY.sings k l) vr (vY.bwds k l))
          (identities_compose d _ _ _ (arrow_reg d f (suc k)) (bwd d Y k) vr (vY.bwds k l) (s.regs (suc k) l) (s.missed_bwds k l e));
    }

-- ---- parallel arrows

module _ (d : ℕ) (G : Dia d → Dia d → Arr d → Type 0) (X Y : Dia (suc d)) (f : Arr (suc d)) (p : ParallelArrow d G X Y f) where
  pub parallel-dual : (k : ℕ) → k ≤ length X.sings → dual f.heights k ≡ k
  parallel-dual k l = ap (λ (hs : List ℕ). dual hs k) p.heights ∙ dual-upto (length X.sings) k l

  pub parallel-height : (i : ℕ) → i < length X.sings → height d f i ≡ i
  parallel-height i l = ap (λ (hs : List ℕ). get_or hs i 0) p.heights ∙ get-upto (length X.sings) i l

pub parallel_shape : (d : ℕ) → DegeneraciesHaveShape d → (X Y : Dia (suc d)) (f : Arr (suc d))
    → ParallelArrow d (Degeneracy d) X Y f → DegeneracyByShape (suc d) X Y f
parallel_shape d ih X Y f p =
    let n = p.one_length in
    let pd = parallel-dual d (Degeneracy d) X Y f p in
    let none_missed : (k : ℕ) → k < length Y.sings → dual f.heights k ≡ dual f.heights (suc k) → ⊥ =
    λ k l e. absurd (let low = pd k (omega arith) in let high = pd (suc k) (omega arith) in omega arith) in
    record {
      valid = p.valid;
      increasing = subst IsIncreasing (sym p.heights) (increasing-upto (length X.sings));
      regs = λ j l. subst (λ (m : ℕ). DegeneracyByShape d (reg d X m) (reg d Y j) (arrow_reg d f j)) (sym (pd j (omega arith)))
          (ih _ _ (arrow_reg d f j) (p.regs j l));
      sings = λ i l. subst (λ (m : ℕ). DegeneracyByShape d (sing d X i) (sing d Y m) (arrow_sing d f i))
          (sym (parallel-height d (Degeneracy d) X Y f p i l)) (ih _ _ (arrow_sing d f i) (p.sings i l));
      missed_fwds = λ k l e. absurd (none_missed k l e);
      missed_bwds = λ k l e. absurd (none_missed k l e);
    }

-- ---- their composites

chain_shape : (d : ℕ) → DegeneraciesHaveShape d → (X Y : Dia (suc d)) (f : Arr (suc d))
    → Chain (suc d) (SimpleOrParallel d (Degeneracy d)) X Y f → DegeneracyByShape (suc d) X Y f
chain_shape d ih X Y f (none Z v) =
    identity_shape (suc d) Z Z (ident (suc d) Z) (identities_are_valid (suc d) Z v) (identities_have_shape (suc d) Z v)
chain_shape d ih X Y f (more W Z U p q c v s) =
    let ends = degeneracy_ends (suc d) W Z p c in
    let vW = ends.0 in
    let vZ = ends.1 in
    shapes_compose (suc d) W Z U p q vW vZ v (chain_shape d ih W Z p c) (elim s [
      | inl a ↦ simple_shape d Z U q vZ v a
      | inr b ↦ parallel_shape d ih Z U q b
    ])

pub degeneracies_have_shape : (d : ℕ) → DegeneraciesHaveShape d
degeneracies_have_shape zero = λ x y f q. q
degeneracies_have_shape (suc d) = λ X Y f c. chain_shape d (degeneracies_have_shape d) X Y f c

pub degeneracies_are_valid : (d : ℕ) → DegeneraciesAreValid d
degeneracies_are_valid d X Y e q =
    let ends = degeneracy_ends d X Y e q in
    (ends.0, ends.1, shape_valid d X Y e (degeneracies_have_shape d X Y e q))
