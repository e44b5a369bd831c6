-- A store that grew from one with nothing.
use Rattle.std.proofs.Common.{◌≡◌, sym, subst, arith}
use Rattle.hashcons.specs.Contents.{Contents, Grows, IsStore, empty}

-- a store with nothing is one
pub empty_is_store : IsStore empty
empty_is_store = record {
  diagrams_once = λ i j l m e. absurd (omega arith);
  arrows_once = λ i j l m e. absurd (omega arith);
  diagrams = λ d l. absurd (omega arith);
  arrows = λ a l. absurd (omega arith);
  slices = λ d l. absurd (omega arith);
  legs = λ d l. absurd (omega arith);
  arrow_slices = λ a l. absurd (omega arith);
  diagram_dims = λ d l. absurd (omega arith);
  arrow_dims = λ a l. absurd (omega arith);
  notes = record { identities = λ d a e. cc; composites = λ k a e. cc; valid = λ d e. cc; valid_maps = λ k e. cc; normals = λ k m e. cc };
}

-- and so is one that grew from it
pub grown_is_store : (new grown : Contents) → new ≡ empty → Grows new grown → IsStore grown
grown_is_store new grown e grows = grows.store (subst IsStore (sym e) empty_is_store)
