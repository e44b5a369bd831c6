-- The definitions at small shapes, by computation.
use Rattle.std.proofs.Common.{◌≡◌, ℕ, [], ◌∷◌, refl}
use Rattle.diagram_terms.specs.declared.label.Label.{Label}
use Rattle.diagram_terms.specs.declared.place.Height.TheVariants as slice
use Rattle.diagram_terms.specs.Family.{Ends, Dia, Arr}
use Rattle.diagram_terms.specs.Dual.{dual}
use Rattle.diagram_terms.specs.Composite.{comp, ident, identity_diagram}
use Rattle.diagram_terms.specs.Ranks.{Ranks}
use Rattle.diagram_terms.specs.Shapes.{Shape, heights_of}
use Rattle.diagram_terms.specs.Cocones.{Cocone}
use Rattle.diagram_terms.specs.ClassParts.{named, names, place, part}
use Rattle.diagram_terms.specs.Colimits.{part_leg, enter_class, leave_class, apex_reg, glued_apex, glued_leg, glued}

abbrev pub cell : ℕ → ℕ → Label
cell n d = record { number = n; dim = d }

abbrev pub x : Label
x = cell 0 0

abbrev pub p : Label
p = cell 7 2

abbrev pub q : Label
q = cell 8 2

abbrev pub pair : Label → Label → Ends
pair a b = record { from = a; to = b }

-- x -> l <- x
abbrev pub loop : Label → Dia 1
loop l = record { regs = x ∷ x ∷ []; sings = l ∷ []; fwds = pair x l ∷ []; bwds = pair x l ∷ [] }

-- x -> k <- x -> l <- x
abbrev pub two_loops : Label → Label → Dia 1
two_loops k l = record { regs = x ∷ x ∷ x ∷ []; sings = k ∷ l ∷ []; fwds = pair x k ∷ pair x l ∷ []; bwds = pair x k ∷ pair x l ∷ [] }

-- from the identity diagram of x to a loop
abbrev pub missing : Arr 1
missing = record { heights = []; regs = pair x x ∷ pair x x ∷ []; sings = [] }

-- ---- a loop with p and one with q, which nothing orders

abbrev pub apart : Shape 1
apart = record {
  objects = loop p ∷ identity_diagram 0 x ∷ loop q ∷ [];
  arrows = record { from = 1; to = 0; arrow = missing } ∷ record { from = 1; to = 2; arrow = missing } ∷ [];
}

apart_heights : heights_of 0 apart ≡ record {
  lengths = 1 ∷ 0 ∷ 1 ∷ [];
  maps = record { from = 1; to = 0; heights = [] } ∷ record { from = 1; to = 2; heights = [] } ∷ [];
}
apart_heights = refl

-- p first
abbrev pub earlier : Ranks
earlier = record { ranks = (0 ∷ []) ∷ [] ∷ (1 ∷ []) ∷ []; count = 2 }

apart_part : part 0 apart earlier 1 ≡ record { objects = q ∷ []; arrows = [] }
apart_part = unfold part names place dual in refl

abbrev pub one_label : Label → Cocone 0
one_label l = record { apex = l; legs = pair l l ∷ [] }

apart_glued : glued 0 apart earlier (one_label p ∷ one_label q ∷ []) ≡ record {
  apex = two_loops p q;
  legs = record { heights = 0 ∷ []; regs = pair x x ∷ pair x x ∷ pair x x ∷ []; sings = pair p p ∷ [] }
      ∷ record { heights = []; regs = pair x x ∷ pair x x ∷ pair x x ∷ []; sings = [] }
      ∷ record { heights = 1 ∷ []; regs = pair x x ∷ pair x x ∷ pair x x ∷ []; sings = pair q q ∷ [] }
      ∷ [];
}
apart_glued = unfold glued_apex glued_leg apex_reg enter_class leave_class part_leg place names dual comp ident in refl

-- and q first
abbrev pub later : Ranks
later = record { ranks = (1 ∷ []) ∷ [] ∷ (0 ∷ []) ∷ []; count = 2 }

apart_glued_later : (glued 0 apart later (one_label q ∷ one_label p ∷ [])).apex ≡ two_loops q p
apart_glued_later = unfold glued_apex glued_leg apex_reg enter_class leave_class part_leg place names dual comp ident in refl

-- ---- two heights that one arrow joins

abbrev joining : Shape 1
joining = record {
  objects = two_loops p p ∷ loop p ∷ [];
  arrows = record { from = 0; to = 1; arrow = record { heights = 0 ∷ 0 ∷ []; regs = pair x x ∷ pair x x ∷ []; sings = pair p p ∷ pair p p ∷ [] } } ∷ [];
}

abbrev one_rank : Ranks
one_rank = record { ranks = (0 ∷ 0 ∷ []) ∷ (0 ∷ []) ∷ []; count = 1 }

-- the part has the regular slice between the two, and both its legs
joining_names : names one_rank 0 ≡ named 0 (slice.S 0) ∷ named 0 (slice.R 1) ∷ named 0 (slice.S 1) ∷ named 1 (slice.S 0) ∷ []
joining_names = unfold names dual in refl

joining_part : part 0 joining one_rank 0 ≡ record {
  objects = p ∷ x ∷ p ∷ p ∷ [];
  arrows = record { from = 1; to = 0; arrow = pair x p }
      ∷ record { from = 1; to = 2; arrow = pair x p }
      ∷ record { from = 0; to = 3; arrow = pair p p }
      ∷ record { from = 2; to = 3; arrow = pair p p }
      ∷ [];
}
joining_part = unfold part names place dual in refl

-- the colimit is the target
abbrev joined_labels : Cocone 0
joined_labels = record { apex = p; legs = pair p p ∷ pair x p ∷ pair p p ∷ pair p p ∷ [] }

joining_glued : (glued 0 joining one_rank (joined_labels ∷ [])).apex ≡ loop p
joining_glued = unfold glued_apex glued_leg apex_reg enter_class leave_class part_leg place names dual comp ident in refl

-- ---- two loops in a row, of which one arrow changes the first and another the second

abbrev f : Label
f = cell 1 1

abbrev g : Label
g = cell 2 1

abbrev changes : Label → Label → Arr 1
changes k l = record { heights = 0 ∷ 1 ∷ []; regs = pair x x ∷ pair x x ∷ pair x x ∷ []; sings = pair f k ∷ pair g l ∷ [] }

abbrev changing : Shape 1
changing = record {
  objects = two_loops p g ∷ two_loops f g ∷ two_loops f q ∷ [];
  arrows = record { from = 1; to = 0; arrow = changes p g } ∷ record { from = 1; to = 2; arrow = changes f q } ∷ [];
}

abbrev in_a_row : Ranks
in_a_row = record { ranks = (0 ∷ 1 ∷ []) ∷ (0 ∷ 1 ∷ []) ∷ (0 ∷ 1 ∷ []) ∷ []; count = 2 }

changing_part : part 0 changing in_a_row 1 ≡ record {
  objects = g ∷ g ∷ q ∷ [];
  arrows = record { from = 1; to = 0; arrow = pair g g } ∷ record { from = 1; to = 2; arrow = pair g q } ∷ [];
}
changing_part = unfold part names place dual in refl

abbrev three_labels : Label → Label → Label → Label → Cocone 0
three_labels l a b c = record { apex = l; legs = pair a l ∷ pair b l ∷ pair c l ∷ [] }

-- the colimit has both changes
changing_glued : glued 0 changing in_a_row (three_labels p p f f ∷ three_labels q g g q ∷ []) ≡ record {
  apex = two_loops p q;
  legs = record { heights = 0 ∷ 1 ∷ []; regs = pair x x ∷ pair x x ∷ pair x x ∷ []; sings = pair p p ∷ pair g q ∷ [] }
      ∷ record { heights = 0 ∷ 1 ∷ []; regs = pair x x ∷ pair x x ∷ pair x x ∷ []; sings = pair f p ∷ pair g q ∷ [] }
      ∷ record { heights = 0 ∷ 1 ∷ []; regs = pair x x ∷ pair x x ∷ pair x x ∷ []; sings = pair f p ∷ pair q q ∷ [] }
      ∷ [];
}
changing_glued = unfold glued_apex glued_leg apex_reg enter_class leave_class part_leg place names dual comp ident in refl
