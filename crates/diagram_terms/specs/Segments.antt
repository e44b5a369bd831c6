-- Segments of diagrams and of arrows, and their sums: a sum pastes one thing behind another.
use Rattle.std.specs.Prelude.{ℕ, suc, ◌+◌, ◌-◌, ◌++◌, length, map, drop, slice_range}
use Rattle.diagram_terms.specs.Family.{Dia, Arr}
use Rattle.diagram_terms.specs.Dual.{dual}
use Rattle.diagram_terms.specs.Composite.{ident}

-- the segment of X from the regular height a to the regular height b: the heights of X from a on, below b
unfoldable pub segment : (d : ℕ) → Dia (suc d) → ℕ → ℕ → Dia (suc d)
segment d X a b = record {
  regs = slice_range X.regs a (suc b);
  sings = slice_range X.sings a b;
  fwds = slice_range X.fwds a b;
  bwds = slice_range X.bwds a b;
}

-- the sum of X and Y, where X ends with the regular slice with which Y begins: Y is pasted behind X, so the heights of X are
-- followed by those of Y
unfoldable pub diagram_sum : (d : ℕ) → Dia (suc d) → Dia (suc d) → Dia (suc d)
diagram_sum d X Y = record {
  regs = X.regs ++ drop 1 Y.regs;
  sings = X.sings ++ Y.sings;
  fwds = X.fwds ++ Y.fwds;
  bwds = X.bwds ++ Y.bwds;
}

-- the length of the diagram to which an arrow goes
abbrev pub target_length : (d : ℕ) → Arr (suc d) → ℕ
target_length d f = length f.regs - 1

-- the sum of f and g, where f ends with the regular slice with which g begins: the heights of g go behind those to which f
-- goes
unfoldable pub arrow_sum : (d : ℕ) → Arr (suc d) → Arr (suc d) → Arr (suc d)
arrow_sum d f g = record {
  heights = f.heights ++ map (λ h. target_length d f + h) g.heights;
  regs = f.regs ++ drop 1 g.regs;
  sings = f.sings ++ g.sings;
}

-- the segment of an arrow from the regular height a to the regular height b of its target: what goes there
unfoldable pub arrow_segment : (d : ℕ) → Arr (suc d) → ℕ → ℕ → Arr (suc d)
arrow_segment d f a b = record {
  heights = map (λ h. h - a) (slice_range f.heights (dual f.heights a) (dual f.heights b));
  regs = slice_range f.regs a (suc b);
  sings = slice_range f.sings (dual f.heights a) (dual f.heights b);
}

-- B with Q in the place of its segment from a to b
abbrev pub replaced : (d : ℕ) → Dia (suc d) → ℕ → ℕ → Dia (suc d) → Dia (suc d)
replaced d B a b Q = diagram_sum d (segment d B 0 a) (diagram_sum d Q (segment d B b (length B.sings)))

-- the arrow that is q in the place of that segment, and the identity outside
abbrev pub replacing : (d : ℕ) → Dia (suc d) → ℕ → ℕ → Arr (suc d) → Arr (suc d)
replacing d B a b q =
    arrow_sum d (ident (suc d) (segment d B 0 a)) (arrow_sum d q (ident (suc d) (segment d B b (length B.sings))))
