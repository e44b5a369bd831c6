-- Relabelled diagrams and arrows.
use Rattle.std.specs.Prelude.{ℕ, zero, suc, ◌<◌}
use Rattle.diagram_terms.specs.declared.label.Label.{Label}
use Rattle.diagram_terms.specs.Family.{Dia, Arr}
use Rattle.diagram_terms.specs.SliceMaps.{on_slices, on_arrow_slices}

-- each label replaced by its image
unfoldable pub relabelled_arrow : (Label → Label) → (d : ℕ) → Arr d → Arr d
relabelled_arrow image zero f = record { from = image f.from; to = image f.to }
relabelled_arrow image (suc d) f = on_arrow_slices d d (relabelled_arrow image d) f

-- and of a diagram
unfoldable pub relabelled : (Label → Label) → (d : ℕ) → Dia d → Dia d
relabelled image zero x = image x
relabelled image (suc d) X = on_slices d d (relabelled image d) (relabelled_arrow image d) X

-- a map of labels under which greater dimensions stay greater
pub record RisesWithDimension (image : Label → Label) : Type 0 where
  pub rises : (x y : Label) → x.dim < y.dim → (image x).dim < (image y).dim
