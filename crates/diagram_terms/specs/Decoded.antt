-- The diagram or arrow of dimension d that a tree stands for, and back.
use Rattle.std.specs.Prelude.{ℕ, zero, suc, map}
use Rattle.diagram_terms.specs.Family.{Dia, Arr}
use Rattle.diagram_terms.specs.Tree.{Tree, point, zig, ends, zag, label_at, from_at, to_at, regs, sings, fwds, bwds, heights}

-- total: of a tree of another shape it means nothing
abbrev pub arr : (d : ℕ) → Tree → Arr d
arr zero t = record { from = from_at t; to = to_at t }
arr (suc d) t = record { heights = heights t; regs = map (arr d) (regs t); sings = map (arr d) (sings t) }

abbrev pub dia : (d : ℕ) → Tree → Dia d
dia zero t = label_at t
dia (suc d) t = record {
  regs = map (dia d) (regs t);
  sings = map (dia d) (sings t);
  fwds = map (arr d) (fwds t);
  bwds = map (arr d) (bwds t);
}

abbrev pub arr_tree : (d : ℕ) → Arr d → Tree
arr_tree zero f = ends f.from f.to
arr_tree (suc d) f = zag f.heights (map (arr_tree d) f.regs) (map (arr_tree d) f.sings)

abbrev pub dia_tree : (d : ℕ) → Dia d → Tree
dia_tree zero x = point x
dia_tree (suc d) X = zig (map (dia_tree d) X.regs) (map (dia_tree d) X.sings) (map (arr_tree d) X.fwds) (map (arr_tree d) X.bwds)
