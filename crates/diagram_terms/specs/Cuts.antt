-- Cuts of diagrams and of arrows at regions.
use Rattle.std.specs.Prelude.{ℕ, zero, suc, ◌-◌}
use Rattle.diagram_terms.specs.Dual.{dual}
use Rattle.diagram_terms.specs.Family.{Dia, Arr, reg, sing, fwd, bwd, height, arrow_reg, arrow_sing}
use Rattle.diagram_terms.specs.Regions.{tab_from, Reg, reg_region, sing_region}

-- The cut of an arrow at the region W of its target: it keeps the regular slices of the interval and the singular slices
-- whose heights go there, each cut likewise, and counts the heights from the first one on.
unfoldable pub cut_arrow : (d : ℕ) → Arr d → Reg d → Arr d
cut_arrow zero f W = f
cut_arrow (suc d) f W = record {
  heights = tab_from (λ i. height d f i - W.from) (dual f.heights W.from) (dual f.heights W.to - dual f.heights W.from);
  regs = tab_from (λ j. cut_arrow d (arrow_reg d f j) (reg_region d W j)) W.from (suc (W.to - W.from));
  sings = tab_from (λ i. cut_arrow d (arrow_sing d f i) (sing_region d W (height d f i))) (dual f.heights W.from)
      (dual f.heights W.to - dual f.heights W.from);
}

-- the cut of a diagram at a region: it keeps the heights of the interval, with each slice and each leg cut
unfoldable pub cut_diagram : (d : ℕ) → Dia d → Reg d → Dia d
cut_diagram zero x W = x
cut_diagram (suc d) X W = record {
  regs = tab_from (λ j. cut_diagram d (reg d X j) (reg_region d W j)) W.from (suc (W.to - W.from));
  sings = tab_from (λ i. cut_diagram d (sing d X i) (sing_region d W i)) W.from (W.to - W.from);
  fwds = tab_from (λ k. cut_arrow d (fwd d X k) (sing_region d W k)) W.from (W.to - W.from);
  bwds = tab_from (λ k. cut_arrow d (bwd d X k) (sing_region d W k)) W.from (W.to - W.from);
}
