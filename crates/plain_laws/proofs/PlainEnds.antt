-- The regular slices and the ends of a valid plain arrow between valid diagrams.
use Rattle.std.proofs.Common.{◌≡◌, ℕ, suc, ◌≤◌, length, sym, ap, ◌∙◌, arith}
use Rattle.diagram_terms.specs.Family.{Dia, Arr, reg, arrow_reg}
use Rattle.diagram_terms.specs.Dual.{dual}
use Rattle.diagram_terms.specs.Composite.{ident}
use Rattle.diagram_terms.specs.Valid.{ValidArrow}
use Rattle.diagram_terms.proofs.Duals.{dual-zero, dual_full}
use Rattle.map_laws.proofs.ValidParts.{dual_within}
use Rattle.map_laws.proofs.IdentityShapes.{shape_means_identity}
use Rattle.plain_laws.specs.Laws.{PlainArrowsUnfold, PlainArrowsHaveParallelEnds}

-- each regular slice is a valid arrow of the shape of an identity
pub plain_arrows_unfold : (d : ℕ) → PlainArrowsUnfold d
plain_arrows_unfold d X Y f vX vY vf pf j l =
    let i : ℕ = dual f.heights j in
    let li : i ≤ length X.sings = dual_within d X Y f vf j in
    let fl = vf.regs_len in
    let s = shape_means_identity d (reg d X i) (reg d Y j) (arrow_reg d f j) (vX.regs i li) (vY.regs j l)
    (vf.regs j l) (pf.regs j (omega arith)) in
    (s.0, s.1 ∙ ap (ident d) s.0)

-- the dual at the first regular height is the first, and at the last one the last
module _ (d : ℕ) (X Y : Dia (suc d)) (f : Arr (suc d)) (vf : ValidArrow (suc d) X Y f) where
  pub dual-source : dual f.heights 0 ≡ 0
  dual-source = dual-zero f.heights vf.monotone

  pub dual-target : dual f.heights (length Y.sings) ≡ length X.sings
  dual-target = dual_full f.heights vf.monotone (length Y.sings) (length Y.sings) vf.below (omega arith) ∙ vf.heights_len

pub plain_arrows_have_parallel_ends : (d : ℕ) → PlainArrowsHaveParallelEnds d
plain_arrows_have_parallel_ends d X Y f vX vY vf pf =
    let first = plain_arrows_unfold d X Y f vX vY vf pf 0 (omega arith) in
    let last = plain_arrows_unfold d X Y f vX vY vf pf (length Y.sings) (omega arith) in
    record {
      sources = ap (reg d X) (sym (dual-source d X Y f vf)) ∙ first.0;
      targets = ap (reg d X) (sym (dual-target d X Y f vf)) ∙ last.0;
    }
