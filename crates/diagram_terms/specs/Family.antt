-- Diagrams and arrows, as families over the dimension.
use Rattle.std.specs.Prelude.{ℕ, zero, suc, List, [], get_or, length}
use Rattle.diagram_terms.specs.declared.label.Label.{Label}

-- an arrow of dimension 0: a pair of labels
pub record Ends : Type 0 where
  pub from : Label
  pub to : Label

-- one level of a diagram, over slices D and legs A
pub record Zig (D A : Type 0) : Type 0 where
  pub regs : List D
  pub sings : List D
  pub fwds : List A
  pub bwds : List A

-- one level of an arrow, over slices A
pub record Zag (A : Type 0) : Type 0 where
  pub heights : List ℕ
  pub regs : List A
  pub sings : List A

-- the arrows of dimension d
abbrev pub Arr : ℕ → Type 0
Arr zero = Ends
Arr (suc d) = Zag (Arr d)

-- the diagrams of dimension d
abbrev pub Dia : ℕ → Type 0
Dia zero = Label
Dia (suc d) = Zig (Dia d) (Arr d)

abbrev pub no_label : Label
no_label = record { number = 0; dim = 0 }

-- what stands for a slice past the end of its list
unfoldable pub no_dia : (d : ℕ) → Dia d
no_dia zero = no_label
no_dia (suc d) = record { regs = []; sings = []; fwds = []; bwds = [] }

unfoldable pub no_arr : (d : ℕ) → Arr d
no_arr zero = record { from = no_label; to = no_label }
no_arr (suc d) = record { heights = []; regs = []; sings = [] }

-- the slices and legs of a diagram by their heights
abbrev pub reg : (d : ℕ) → Dia (suc d) → ℕ → Dia d
reg d X j = get_or X.regs j (no_dia d)

abbrev pub sing : (d : ℕ) → Dia (suc d) → ℕ → Dia d
sing d X i = get_or X.sings i (no_dia d)

abbrev pub fwd : (d : ℕ) → Dia (suc d) → ℕ → Arr d
fwd d X k = get_or X.fwds k (no_arr d)

abbrev pub bwd : (d : ℕ) → Dia (suc d) → ℕ → Arr d
bwd d X k = get_or X.bwds k (no_arr d)

-- the heights and slices of an arrow
abbrev pub height : (d : ℕ) → Arr (suc d) → ℕ → ℕ
height d f i = get_or f.heights i 0

abbrev pub arrow_reg : (d : ℕ) → Arr (suc d) → ℕ → Arr d
arrow_reg d f j = get_or f.regs j (no_arr d)

abbrev pub arrow_sing : (d : ℕ) → Arr (suc d) → ℕ → Arr d
arrow_sing d f i = get_or f.sings i (no_arr d)

-- the length of a diagram: how many singular heights it has
abbrev pub length_of : (d : ℕ) → Dia d → ℕ
length_of zero x = 0
length_of (suc d) X = length X.sings
