-- Valid arrows above dimension 0: where their heights lie, and how they follow one another.
use Rattle.std.proofs.Common.{◌≡◌, ℕ, suc, ◌<◌, ◌≤◌, length, arith}
use Rattle.diagram_terms.specs.Family.{Dia, Arr, height}
use Rattle.diagram_terms.specs.Dual.{AreBelow, dual}
use Rattle.diagram_terms.specs.Composite.{comp}
use Rattle.diagram_terms.specs.Valid.{ValidArrow}
use Rattle.diagram_terms.proofs.Duals.{dual-le-length}
use Rattle.diagram_terms.proofs.Parts.{comp-dual}

-- a singular height of the source goes to one of the target
pub height_within : (d : ℕ) (X Y : Dia (suc d)) (f : Arr (suc d)) → ValidArrow (suc d) X Y f
    → (i : ℕ) → i < length X.sings → height d f i < length Y.sings
height_within d X Y f v i l = v.below.below i (let a = v.heights_len in omega arith)

-- the dual of a regular height of the target is one of the source
pub dual_within : (d : ℕ) (X Y : Dia (suc d)) (f : Arr (suc d)) → ValidArrow (suc d) X Y f
    → (k : ℕ) → dual f.heights k ≤ length X.sings
dual_within d X Y f v k = let a = dual-le-length f.heights k in let b = v.heights_len in omega arith

-- the heights of an arrow are among those of the next
pub follows : (d : ℕ) (X Y Z : Dia (suc d)) (f g : Arr (suc d)) → ValidArrow (suc d) X Y f → ValidArrow (suc d) Y Z g
    → AreBelow f.heights (length g.heights)
follows d X Y Z f g vf vg = record {
  below = λ i l. let a = vf.below.below i l in let b = vg.heights_len in omega arith;
}

-- the dual of a composite
pub composite-dual : (d : ℕ) (X Y Z : Dia (suc d)) (f g : Arr (suc d)) → ValidArrow (suc d) X Y f → ValidArrow (suc d) Y Z g
    → (k : ℕ) → dual (comp (suc d) g f).heights k ≡ dual f.heights (dual g.heights k)
composite-dual d X Y Z f g vf vg k = comp-dual d g f vg.monotone (follows d X Y Z f g vf vg) k
