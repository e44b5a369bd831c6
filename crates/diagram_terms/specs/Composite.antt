-- Identity and composite.
use Rattle.std.specs.Prelude.{ℕ, [], ◌∷◌, length, map, zero, suc}
use Rattle.diagram_terms.specs.Family.{Dia, Arr, height, arrow_reg, arrow_sing}
use Rattle.diagram_terms.specs.Dual.{upto, tab, dual, after}

-- the identity arrow: identity heights and identity slices
unfoldable pub ident : (d : ℕ) → Dia d → Arr d
ident zero x = record { from = x; to = x }
ident (suc d) X = record {
  heights = upto (length X.sings);
  regs = map (λ x. ident d x) X.regs;
  sings = map (λ x. ident d x) X.sings;
}

-- the composite g f, first f and then g: its regular slice k is g's at k after f's at the dual of g at k
unfoldable pub comp : (d : ℕ) → Arr d → Arr d → Arr d
comp zero g f = record { from = f.from; to = g.to }
comp (suc d) g f = record {
  heights = after g.heights f.heights;
  regs = tab (λ k. comp d (arrow_reg d g k) (arrow_reg d f (dual g.heights k))) (length g.regs);
  sings = tab (λ i. comp d (arrow_sing d g (height d f i)) (arrow_sing d f i)) (length f.sings);
}

-- the identity diagram, with one regular slice and no heights
abbrev pub identity_diagram : (d : ℕ) → Dia d → Dia (suc d)
identity_diagram d x = record { regs = x ∷ []; sings = []; fwds = []; bwds = [] }
