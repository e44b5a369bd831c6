-- Regions and paths of a cut, as those of what was cut, and back.
use Rattle.std.specs.Prelude.{ℕ, zero, suc, ◌+◌, ◌-◌, List, [], ◌∷◌}
use Rattle.diagram_terms.specs.declared.place.Height.{Height}
use Rattle.diagram_terms.specs.declared.place.Height.TheVariants as height_kind
use Rattle.diagram_terms.specs.Regions.{tab_from, Reg, reg_region, sing_region}

-- the region V of a cut at W, as a region of what was cut
unfoldable pub uncut_region : (d : ℕ) → Reg d → Reg d → Reg d
uncut_region zero W V = record {}
uncut_region (suc d) W V = record {
  from = W.from + V.from;
  to = W.from + V.to;
  regs = tab_from (λ j. uncut_region d (reg_region d W j) (reg_region d V (j - W.from))) (W.from + V.from) (suc (V.to - V.from));
  sings = tab_from (λ i. uncut_region d (sing_region d W i) (sing_region d V (i - W.from))) (W.from + V.from) (V.to - V.from);
}

-- the heights of a path that lies in the region W, as heights of the cut at W
abbrev pub cut_path : (d : ℕ) → Reg d → List Height → List Height
cut_path zero W hs = hs
cut_path (suc d) W [] = []
cut_path (suc d) W (height_kind.R j ∷ hs) = height_kind.R (j - W.from) ∷ cut_path d (reg_region d W j) hs
cut_path (suc d) W (height_kind.S k ∷ hs) = height_kind.S (k - W.from) ∷ cut_path d (sing_region d W k) hs

-- the heights of a path of the cut at W, as heights of what was cut
abbrev pub uncut_path : (d : ℕ) → Reg d → List Height → List Height
uncut_path zero W hs = hs
uncut_path (suc d) W [] = []
uncut_path (suc d) W (height_kind.R j ∷ hs) = height_kind.R (W.from + j) ∷ uncut_path d (reg_region d W (W.from + j)) hs
uncut_path (suc d) W (height_kind.S k ∷ hs) = height_kind.S (W.from + k) ∷ uncut_path d (sing_region d W (W.from + k)) hs
