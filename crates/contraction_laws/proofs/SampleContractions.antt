-- Contractions at small diagrams, by computation: two heights that nothing joins, labels that clash, heights that nothing
-- orders, and a cycle.
use Rattle.std.proofs.Common.{◌≡◌, ℕ, [], ◌∷◌, refl}
use Rattle.std.specs.Prelude.{Ok, Err}
use Rattle.diagram_terms.specs.declared.label.Label.{Label}
use Rattle.diagram_terms.specs.declared.place.Bias.TheVariants.{Earlier, Later}
use Rattle.diagram_terms.specs.Family.{Dia, Arr, no_dia, no_arr}
use Rattle.diagram_terms.specs.Dual.{dual, after}
use Rattle.diagram_terms.specs.Composite.{ident, comp, identity_diagram}
use Rattle.diagram_terms.specs.Cone.{cone, mid, type_over, cospan}
use Rattle.diagram_terms.specs.Segments.{segment, diagram_sum, arrow_sum, arrow_segment}
use Rattle.diagram_terms.specs.Occurrences.{image, arrow_image, swap, put}
use Rattle.diagram_terms.specs.Attachment.{attached_at_target}
use Rattle.diagram_terms.specs.Merging.{to_one_height}
use Rattle.diagram_terms.specs.Expansion.{expanded, expanding}
use Rattle.diagram_terms.specs.HeightClasses.{member}
use Rattle.diagram_terms.specs.OrderFaults.{cyclic, unsettled}
use Rattle.diagram_terms.specs.ClassParts.{names, place, part}
use Rattle.diagram_terms.specs.Colimits.{part_leg, enter_class, leave_class, apex_reg, glued_apex, glued_leg}
use Rattle.diagram_terms.specs.ColimitRefusals.{order, clash}
use Rattle.diagram_terms.specs.RankProgram.{members_of, least_by, links_of, classes, comes_before, all_links, held, chains, first_on_cycle, is_least, are_apart, first_pair_apart, is_available, next_member, give, ranks_given, ranks_under}
use Rattle.diagram_terms.specs.ColimitProgram.{first_greatest, first_above, each_part, colimit_of}
use Rattle.diagram_terms.specs.Contraction.{no_height, refused, contract_from, contract}

abbrev pub cell : ℕ → ℕ → Label
cell n d = record { number = n; dim = d }

abbrev pub x : Label
x = cell 0 0

-- labels of loops at x
abbrev pub f : Label
f = cell 1 1

abbrev pub g : Label
g = cell 2 1

-- labels of cells: from f to f, from g to g, from f to f, and from f to f after f
abbrev pub a : Label
a = cell 3 2

abbrev pub b : Label
b = cell 4 2

abbrev pub c : Label
c = cell 5 2

abbrev m : Label
m = cell 6 2

-- labels of cells from the identity of x to itself
abbrev p : Label
p = cell 7 2

abbrev q : Label
q = cell 8 2

abbrev pub pair : Label → Label → Arr 0
pair y z = record { from = y; to = z }

-- x -> y <- x, and x -> y <- x -> z <- x
abbrev pub link : Label → Dia 1
link y = cospan 0 x (pair x y) y (pair x y) x

abbrev pub chain : Label → Label → Dia 1
chain y z = record { regs = x ∷ x ∷ x ∷ []; sings = y ∷ z ∷ []; fwds = pair x y ∷ pair x z ∷ []; bwds = pair x y ∷ pair x z ∷ [] }

abbrev point : Dia 1
point = identity_diagram 0 x

abbrev pub same : Arr 0
same = pair x x

-- an arrow between chains of length 2 that changes the labels
abbrev pub changes : Label → Label → Label → Label → Arr 1
changes y z u v = record { heights = 0 ∷ 1 ∷ []; regs = same ∷ same ∷ same ∷ []; sings = pair y u ∷ pair z v ∷ [] }

-- ---- a beside b, one after the other

-- first f becomes a, and then g becomes b
abbrev pub beside : Dia 2
beside = record {
  regs = chain f g ∷ chain f g ∷ chain f g ∷ [];
  sings = chain a g ∷ chain f b ∷ [];
  fwds = changes f g a g ∷ changes f g f b ∷ [];
  bwds = changes f g a g ∷ changes f g f b ∷ [];
}

beside_is : attached_at_target 1 (attached_at_target 1 (identity_diagram 1 (chain f g)) (0 ∷ []) (link f) (link f) a) (1 ∷ []) (link g) (link g) b ≡ beside
beside_is =
    unfold swap put image arrow_image segment diagram_sum arrow_sum arrow_segment cone mid dual after comp ident no_dia no_arr in
    refl

abbrev pub at_once : Dia 2
at_once = cospan 1 (chain f g) (changes f g a b) (chain a b) (changes f g a b) (chain f g)

abbrev pub to_at_once : Arr 2
to_at_once = record {
  heights = 0 ∷ 0 ∷ [];
  regs = changes f g f g ∷ changes f g f g ∷ [];
  sings = changes a g a b ∷ changes f b a b ∷ [];
}

-- both at once
beside_contracted : contract 2 beside [] 0 [] ≡ Ok (record { result = at_once; arrow = to_at_once })
beside_contracted =
    unfold members_of least_by links_of classes comes_before all_links held chains first_on_cycle is_least are_apart
    first_pair_apart is_available next_member give ranks_given ranks_under names place part part_leg enter_class leave_class
    apex_reg glued_apex glued_leg first_greatest first_above each_part colimit_of dual after comp ident no_dia no_arr segment
    diagram_sum arrow_sum to_one_height contract_from in refl

-- there is no height 2
beside_no_height : contract 2 beside [] 1 [] ≡ Err (no_height 0)
beside_no_height =
    unfold members_of least_by links_of classes comes_before all_links held chains first_on_cycle is_least are_apart
    first_pair_apart is_available next_member give ranks_given ranks_under names place part part_leg enter_class leave_class
    apex_reg glued_apex glued_leg first_greatest first_above each_part colimit_of dual after comp ident no_dia no_arr segment
    diagram_sum arrow_sum to_one_height contract_from in refl

-- the path leads to a diagram without the heights 1 and 2
beside_no_slice : contract 2 beside (0 ∷ []) 1 [] ≡ Err (no_height 1)
beside_no_slice =
    unfold members_of least_by links_of classes comes_before all_links held chains first_on_cycle is_least are_apart
    first_pair_apart is_available next_member give ranks_given ranks_under names place part part_leg enter_class leave_class
    apex_reg glued_apex glued_leg first_greatest first_above each_part colimit_of dual after comp ident no_dia no_arr segment
    diagram_sum arrow_sum to_one_height contract_from in refl

-- ---- in a slice: p beside f become p, and the legs go on to that

abbrev beside_loop : Arr 1
beside_loop = record { heights = 1 ∷ []; regs = same ∷ same ∷ same ∷ []; sings = pair f f ∷ [] }

abbrev becomes : Label → Arr 1
becomes y = record { heights = 0 ∷ []; regs = same ∷ same ∷ []; sings = pair y p ∷ [] }

abbrev in_between : Dia 2
in_between = cospan 1 (link f) beside_loop (chain p f) beside_loop (link f)

in_between_contracted : contract 2 in_between (0 ∷ []) 0 [] ≡ Ok (record {
  result = cospan 1 (link f) (becomes f) (link p) (becomes f) (link f);
  arrow = record {
    heights = 0 ∷ [];
    regs = record { heights = 0 ∷ []; regs = same ∷ same ∷ []; sings = pair f f ∷ [] } ∷ record { heights = 0 ∷ []; regs = same ∷ same ∷ []; sings = pair f f ∷ [] } ∷ [];
    sings = record { heights = 0 ∷ 0 ∷ []; regs = same ∷ same ∷ []; sings = pair p p ∷ pair f p ∷ [] } ∷ [];
  };
})
in_between_contracted =
    unfold members_of least_by links_of classes comes_before all_links held chains first_on_cycle is_least are_apart
    first_pair_apart is_available next_member give ranks_given ranks_under names place part part_leg enter_class leave_class
    apex_reg glued_apex glued_leg first_greatest first_above each_part colimit_of dual after comp ident no_dia no_arr segment
    diagram_sum arrow_sum to_one_height contract_from in refl

-- ---- a and then c, on one loop

abbrev stacked : Dia 2
stacked = attached_at_target 1 (type_over 1 (link f) (link f) a) (0 ∷ []) (link f) (link f) c

stacked_clashes : contract 2 stacked [] 0 [] ≡ Err (refused (record { ranks = 0 ∷ []; cause = clash a c }))
stacked_clashes =
    unfold type_over swap put image arrow_image arrow_segment cone mid members_of least_by links_of classes comes_before all_links
    held chains first_on_cycle is_least are_apart first_pair_apart is_available next_member give ranks_given ranks_under names
    place part part_leg enter_class leave_class apex_reg glued_apex glued_leg first_greatest first_above each_part colimit_of dual
    after comp ident no_dia no_arr segment diagram_sum arrow_sum to_one_height contract_from in refl

-- ---- p and then q, which nothing orders

abbrev loose : Dia 2
loose = attached_at_target 1 (type_over 1 point point p) (0 ∷ []) point point q

loose_unsettled : contract 2 loose [] 0 [] ≡ Err (refused (record { ranks = []; cause = order (unsettled (member 0 0) (member 2 0)) }))
loose_unsettled =
    unfold type_over swap put image arrow_image arrow_segment cone mid members_of least_by links_of classes comes_before all_links
    held chains first_on_cycle is_least are_apart first_pair_apart is_available next_member give ranks_given ranks_under names
    place part part_leg enter_class leave_class apex_reg glued_apex glued_leg first_greatest first_above each_part colimit_of dual
    after comp ident no_dia no_arr segment diagram_sum arrow_sum to_one_height contract_from in refl

abbrev missing : Arr 1
missing = record { heights = []; regs = same ∷ same ∷ same ∷ []; sings = [] }

abbrev placed : ℕ → Label → Arr 1
placed k y = record { heights = k ∷ []; regs = same ∷ same ∷ same ∷ []; sings = pair y y ∷ [] }

-- with the bias `earlier` p comes first, and with `later` q
loose_earlier : contract 2 loose [] 0 (Earlier ∷ []) ≡ Ok (record {
  result = cospan 1 point missing (chain p q) missing point;
  arrow = record { heights = 0 ∷ 0 ∷ []; regs = record { heights = []; regs = same ∷ []; sings = [] } ∷ record { heights = []; regs = same ∷ []; sings = [] } ∷ []; sings = placed 0 p ∷ placed 1 q ∷ [] };
})
loose_earlier =
    unfold type_over swap put image arrow_image arrow_segment cone mid members_of least_by links_of classes comes_before all_links
    held chains first_on_cycle is_least are_apart first_pair_apart is_available next_member give ranks_given ranks_under names
    place part part_leg enter_class leave_class apex_reg glued_apex glued_leg first_greatest first_above each_part colimit_of dual
    after comp ident no_dia no_arr segment diagram_sum arrow_sum to_one_height contract_from in refl

loose_later : contract 2 loose [] 0 (Later ∷ []) ≡ Ok (record {
  result = cospan 1 point missing (chain q p) missing point;
  arrow = record { heights = 0 ∷ 0 ∷ []; regs = record { heights = []; regs = same ∷ []; sings = [] } ∷ record { heights = []; regs = same ∷ []; sings = [] } ∷ []; sings = placed 1 p ∷ placed 0 q ∷ [] };
})
loose_later =
    unfold type_over swap put image arrow_image arrow_segment cone mid members_of least_by links_of classes comes_before all_links
    held chains first_on_cycle is_least are_apart first_pair_apart is_available next_member give ranks_given ranks_under names
    place part part_leg enter_class leave_class apex_reg glued_apex glued_leg first_greatest first_above each_part colimit_of dual
    after comp ident no_dia no_arr segment diagram_sum arrow_sum to_one_height contract_from in refl

-- ---- m, which parts f in two, and then q between these

abbrev winding : Dia 2
winding = attached_at_target 1 (type_over 1 (link f) (chain f f) m) (1 ∷ []) point point q

winding_cyclic : contract 2 winding [] 0 [] ≡ Err (refused (record { ranks = []; cause = order (cyclic (member 0 0)) }))
winding_cyclic =
    unfold type_over swap put image arrow_image arrow_segment cone mid members_of least_by links_of classes comes_before all_links
    held chains first_on_cycle is_least are_apart first_pair_apart is_available next_member give ranks_given ranks_under names
    place part part_leg enter_class leave_class apex_reg glued_apex glued_leg first_greatest first_above each_part colimit_of dual
    after comp ident no_dia no_arr segment diagram_sum arrow_sum to_one_height contract_from in refl

-- ---- p and then q, made one, and parted again as q and then p: what is contracted is a braid

-- both at one height, and how p and then q go there
abbrev both : Dia 2
both = cospan 1 point missing (chain p q) missing point

abbrev to_both : Arr 2
to_both = record {
  heights = 0 ∷ 0 ∷ [];
  regs = record { heights = []; regs = same ∷ []; sings = [] } ∷ record { heights = []; regs = same ∷ []; sings = [] } ∷ [];
  sings = placed 0 p ∷ placed 1 q ∷ [];
}

-- q and then p
abbrev turned : Dia 2
turned = attached_at_target 1 (type_over 1 point point q) (0 ∷ []) point point p

turned_is : expanded 0 both 0 1 ≡ turned
turned_is =
    unfold type_over swap put image arrow_image arrow_segment cone mid members_of least_by links_of classes comes_before all_links
    held chains first_on_cycle is_least are_apart first_pair_apart is_available next_member give ranks_given ranks_under names
    place part part_leg enter_class leave_class apex_reg glued_apex glued_leg first_greatest first_above each_part colimit_of dual
    after comp ident no_dia no_arr segment diagram_sum arrow_sum to_one_height contract_from in refl

-- first made one, and then parted
abbrev two_steps : Dia 3
two_steps = record {
  regs = loose ∷ both ∷ turned ∷ [];
  sings = both ∷ both ∷ [];
  fwds = to_both ∷ ident 2 both ∷ [];
  bwds = ident 2 both ∷ expanding 0 both 0 1 ∷ [];
}

braid : contract 3 two_steps [] 0 [] ≡ Ok (record {
  result = cospan 2 loose to_both both (expanding 0 both 0 1) turned;
  arrow = record { heights = 0 ∷ 0 ∷ []; regs = ident 2 loose ∷ ident 2 turned ∷ []; sings = ident 2 both ∷ ident 2 both ∷ [] };
})
braid =
    unfold type_over swap put image arrow_image arrow_segment cone mid members_of least_by links_of classes comes_before all_links
    held chains first_on_cycle is_least are_apart first_pair_apart is_available next_member give ranks_given ranks_under names
    place part part_leg enter_class leave_class apex_reg glued_apex glued_leg first_greatest first_above each_part colimit_of dual
    after comp ident no_dia no_arr segment diagram_sum arrow_sum to_one_height contract_from in refl
