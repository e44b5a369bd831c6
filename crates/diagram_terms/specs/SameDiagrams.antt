-- Whether two diagrams are the same, as a test.
use Rattle.std.specs.Prelude.{ℕ, zero, suc, Bool, ◌&&◌}
use Rattle.std.specs.Cmp.Lexicographic.{pointwise}
use Rattle.diagram_terms.specs.Family.{Dia}
use Rattle.diagram_terms.specs.Labels.{same_label}
use Rattle.diagram_terms.specs.Places.{same_arrow}

-- the same label, or the same slices and legs
abbrev pub same_diagram : (d : ℕ) → Dia d → Dia d → Bool
same_diagram zero x y = same_label x y
same_diagram (suc d) X Y =
    pointwise (same_diagram d) X.regs Y.regs && pointwise (same_diagram d) X.sings Y.sings
    && pointwise (same_arrow d) X.fwds Y.fwds && pointwise (same_arrow d) X.bwds Y.bwds
