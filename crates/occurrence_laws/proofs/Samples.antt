-- The definitions at small diagrams, by computation.
use Rattle.std.proofs.Common.{◌≡◌, ℕ, [], ◌∷◌, Some, None, refl}
use Rattle.std.specs.Prelude.{Ok, Err}
use Rattle.diagram_terms.specs.declared.label.Label.{Label}
use Rattle.diagram_terms.specs.Family.{Dia, Arr, no_dia, no_arr}
use Rattle.diagram_terms.specs.Dual.{dual, after}
use Rattle.diagram_terms.specs.Composite.{ident, comp, identity_diagram}
use Rattle.diagram_terms.specs.Cone.{cone, mid, type_over, cospan}
use Rattle.diagram_terms.specs.Segments.{segment, diagram_sum, arrow_sum, arrow_segment}
use Rattle.diagram_terms.specs.Occurrences.{image, arrow_image, swap, put, refused_step, matches}
use Rattle.diagram_terms.specs.Attachment.{attached_at_target, attached_at_source}
use Rattle.diagram_terms.specs.Merging.{to_one_height, merged, merging}
use Rattle.diagram_terms.specs.Expansion.{expanded, expanding, nothing_to_part, no_height, expand}

abbrev cell : ℕ → ℕ → Label
cell n d = record { number = n; dim = d }

abbrev x : Label
x = cell 0 0

-- labels of loops at x
abbrev f : Label
f = cell 1 1

abbrev g : Label
g = cell 2 1

-- labels of cells over these loops, from f to f, from g to g and from f to f after f
abbrev a : Label
a = cell 3 2

abbrev b : Label
b = cell 4 2

abbrev m : Label
m = cell 6 2

-- labels of cells from the identity of x to itself
abbrev p : Label
p = cell 7 2

abbrev q : Label
q = cell 8 2

abbrev pair : Label → Label → Arr 0
pair y z = record { from = y; to = z }

-- x -> y <- x -> z <- x, and x -> y <- x
abbrev chain : Label → Label → Dia 1
chain y z = record { regs = x ∷ x ∷ x ∷ []; sings = y ∷ z ∷ []; fwds = pair x y ∷ pair x z ∷ []; bwds = pair x y ∷ pair x z ∷ [] }

abbrev link : Label → Dia 1
link y = cospan 0 x (pair x y) y (pair x y) x

abbrev point : Dia 1
point = identity_diagram 0 x

-- ---- attachment

-- f after f
twice_is : attached_at_target 0 (link f) [] x x f ≡ chain f f
twice_is = unfold swap put segment diagram_sum cone mid no_dia no_arr in refl

-- at the source
before_is : attached_at_source 0 (link f) [] x x g ≡ chain g f
before_is = unfold swap put segment diagram_sum cone mid no_dia no_arr in refl

-- the generator m, from f to f after f, to which q is attached in the middle of the target
abbrev first_height : Dia 2
first_height = type_over 1 (link f) (chain f f) m

abbrev with_middle : Dia 1
with_middle = record {
  regs = x ∷ x ∷ x ∷ x ∷ [];
  sings = f ∷ q ∷ f ∷ [];
  fwds = pair x f ∷ pair x q ∷ pair x f ∷ [];
  bwds = pair x f ∷ pair x q ∷ pair x f ∷ [];
}

abbrev into_middle : Arr 1
into_middle = record {
  heights = 0 ∷ 2 ∷ [];
  regs = pair x x ∷ pair x x ∷ pair x x ∷ pair x x ∷ [];
  sings = pair f f ∷ pair f f ∷ [];
}

middle_is : attached_at_target 1 first_height (1 ∷ []) point point q
    ≡ diagram_sum 1 first_height (cospan 1 (chain f f) into_middle with_middle into_middle (chain f f))
middle_is =
    unfold swap put image arrow_image segment diagram_sum arrow_sum arrow_segment cone mid type_over ident no_dia no_arr in refl

-- ---- the refused step

-- the identity of x is inside f after f at each place
at_first : refused_step 1 (chain f f) (0 ∷ []) point 0 ≡ None
at_first = unfold swap put image arrow_image segment diagram_sum arrow_sum no_dia no_arr in refl

at_last : refused_step 1 (chain f f) (2 ∷ []) point 0 ≡ None
at_last = unfold swap put image arrow_image segment diagram_sum arrow_sum no_dia no_arr in refl

past_end : refused_step 1 (chain f f) (3 ∷ []) point 0 ≡ Some 0
past_end = unfold swap put image arrow_image segment diagram_sum arrow_sum no_dia no_arr in refl

all_places : matches 1 (chain f f) point ≡ (0 ∷ []) ∷ (1 ∷ []) ∷ (2 ∷ []) ∷ []
all_places = unfold swap put image arrow_image segment diagram_sum arrow_sum no_dia no_arr in refl

-- f is inside no identity, and not inside g
too_long : refused_step 1 point (0 ∷ []) (link f) 0 ≡ Some 0
too_long = unfold swap put image arrow_image segment diagram_sum arrow_sum no_dia no_arr in refl

another_label : refused_step 1 (link g) (0 ∷ []) (link f) 0 ≡ Some 0
another_label = unfold swap put image arrow_image segment diagram_sum arrow_sum no_dia no_arr in refl

-- an offset that is left over, and one that is missing
left_over : refused_step 1 (link f) (0 ∷ 0 ∷ []) (link f) 0 ≡ Some 1
left_over = unfold swap put image arrow_image segment diagram_sum arrow_sum no_dia no_arr in refl

missing : refused_step 1 (link f) [] (link f) 0 ≡ Some 0
missing = refl

-- ---- merging and expansion

-- a on f and then b on g, in f followed by g
abbrev one_by_one : Dia 2
one_by_one = attached_at_target 1 (attached_at_target 1 (identity_diagram 1 (chain f g)) (0 ∷ []) (link f) (link f) a) (1 ∷ []) (link g) (link g) b

abbrev on_chain : Label → Label → Label → Label → Arr 1
on_chain y y' z z' = record { heights = 0 ∷ 1 ∷ []; regs = pair x x ∷ pair x x ∷ pair x x ∷ []; sings = pair y y' ∷ pair z z' ∷ [] }

one_by_one_is : one_by_one ≡ record {
  regs = chain f g ∷ chain f g ∷ chain f g ∷ [];
  sings = chain a g ∷ chain f b ∷ [];
  fwds = on_chain f a g g ∷ on_chain f f g b ∷ [];
  bwds = on_chain f a g g ∷ on_chain f f g b ∷ [];
}
one_by_one_is =
    unfold swap put image arrow_image segment diagram_sum arrow_sum arrow_segment cone mid ident no_dia no_arr in refl

-- a is inside that at one place, and so is b
a_is_inside : matches 2 one_by_one (type_over 1 (link f) (link f) a) ≡ (0 ∷ 0 ∷ []) ∷ []
a_is_inside =
    unfold swap put image arrow_image segment diagram_sum arrow_sum arrow_segment cone mid type_over ident no_dia no_arr in refl

b_is_inside : matches 2 one_by_one (type_over 1 (link g) (link g) b) ≡ (1 ∷ 1 ∷ []) ∷ []
b_is_inside =
    unfold swap put image arrow_image segment diagram_sum arrow_sum arrow_segment cone mid type_over ident no_dia no_arr in refl

-- the first slices differ at the second offset, or the slices behind them
first_slice_differs : refused_step 2 one_by_one (0 ∷ 1 ∷ []) (type_over 1 (link f) (link f) a) 0 ≡ Some 1
first_slice_differs =
    unfold swap put image arrow_image segment diagram_sum arrow_sum arrow_segment cone mid type_over ident no_dia no_arr in refl

later_slice_differs : refused_step 2 one_by_one (1 ∷ 0 ∷ []) (type_over 1 (link f) (link f) a) 0 ≡ Some 0
later_slice_differs =
    unfold swap put image arrow_image segment diagram_sum arrow_sum arrow_segment cone mid type_over ident no_dia no_arr in refl

-- a in the place of two heights a and then a, and back
abbrev twice_a : Dia 2
twice_a = diagram_sum 1 (type_over 1 (link f) (link f) a) (type_over 1 (link f) (link f) a)

a_after_a : swap 2 one_by_one (0 ∷ 0 ∷ []) (type_over 1 (link f) (link f) a) twice_a ≡ record {
  regs = chain f g ∷ chain f g ∷ chain f g ∷ chain f g ∷ [];
  sings = chain a g ∷ chain a g ∷ chain f b ∷ [];
  fwds = on_chain f a g g ∷ on_chain f a g g ∷ on_chain f f g b ∷ [];
  bwds = on_chain f a g g ∷ on_chain f a g g ∷ on_chain f f g b ∷ [];
}
a_after_a =
    unfold swap put image arrow_image segment diagram_sum arrow_sum arrow_segment cone mid type_over ident no_dia no_arr in refl

-- both at once
abbrev at_once : Dia 2
at_once = merged 1 one_by_one 0 (chain a b) (on_chain a a g b) (on_chain f a b b)

at_once_is : at_once ≡ cospan 1 (chain f g) (on_chain f a g b) (chain a b) (on_chain f a g b) (chain f g)
at_once_is =
    unfold swap put image arrow_image segment diagram_sum arrow_sum arrow_segment cone mid ident comp after dual no_dia no_arr in refl

-- parted at a it is a and then b again, and parted at b it is b and then a
parted_at_first : expanded 0 (cospan 1 (chain f g) (on_chain f a g b) (chain a b) (on_chain f a g b) (chain f g)) 0 0 ≡ record {
  regs = chain f g ∷ chain f g ∷ chain f g ∷ [];
  sings = chain a g ∷ chain f b ∷ [];
  fwds = on_chain f a g g ∷ on_chain f f g b ∷ [];
  bwds = on_chain f a g g ∷ on_chain f f g b ∷ [];
}
parted_at_first = unfold segment diagram_sum arrow_sum arrow_segment ident dual no_dia no_arr in refl

parted_at_second : expanded 0 (cospan 1 (chain f g) (on_chain f a g b) (chain a b) (on_chain f a g b) (chain f g)) 0 1 ≡ record {
  regs = chain f g ∷ chain f g ∷ chain f g ∷ [];
  sings = chain f b ∷ chain a g ∷ [];
  fwds = on_chain f f g b ∷ on_chain f a g g ∷ [];
  bwds = on_chain f f g b ∷ on_chain f a g g ∷ [];
}
parted_at_second = unfold segment diagram_sum arrow_sum arrow_segment ident dual no_dia no_arr in refl

-- so the first is what was merged
parted_is_one_by_one : expanded 0 at_once 0 0 ≡ one_by_one
parted_is_one_by_one =
    unfold swap put image arrow_image segment diagram_sum arrow_sum arrow_segment cone mid ident comp after dual no_dia no_arr in refl

-- the arrow from a and then b to both at once
parting_at_first : expanding 0 (cospan 1 (chain f g) (on_chain f a g b) (chain a b) (on_chain f a g b) (chain f g)) 0 0 ≡ record {
  heights = 0 ∷ 0 ∷ [];
  regs = on_chain f f g g ∷ on_chain f f g g ∷ [];
  sings = on_chain a a g b ∷ on_chain f a b b ∷ [];
}
parting_at_first = unfold segment diagram_sum arrow_sum arrow_segment to_one_height ident dual no_dia no_arr in refl

-- which is the arrow of merging
merging_is_parting : merging 1 one_by_one 0 (on_chain a a g b) (on_chain f a b b) ≡ record {
  heights = 0 ∷ 0 ∷ [];
  regs = on_chain f f g g ∷ on_chain f f g g ∷ [];
  sings = on_chain a a g b ∷ on_chain f a b b ∷ [];
}
merging_is_parting =
    unfold swap put image arrow_image segment diagram_sum arrow_sum arrow_segment to_one_height cone mid ident dual no_dia no_arr in refl

-- p and q in one height over the identity of x, to which no height goes: parted at q they are q and then p
abbrev no_heights : Label → Label → Arr 1
no_heights y z = record { heights = []; regs = pair x x ∷ pair x x ∷ pair x x ∷ []; sings = [] }

abbrev missed : Arr 1
missed = record { heights = []; regs = pair x x ∷ pair x x ∷ []; sings = [] }

parted_in_place : expanded 0 (cospan 1 point (no_heights p q) (chain p q) (no_heights p q) point) 0 1 ≡ record {
  regs = point ∷ point ∷ point ∷ [];
  sings = link q ∷ link p ∷ [];
  fwds = missed ∷ missed ∷ [];
  bwds = missed ∷ missed ∷ [];
}
parted_in_place = unfold segment diagram_sum arrow_sum arrow_segment ident dual no_dia no_arr in refl

-- ---- what an expansion answers

-- both at once, expanded at a: a and then b, and the arrow from that
both_answered : expand 2 (cospan 1 (chain f g) (on_chain f a g b) (chain a b) (on_chain f a g b) (chain f g)) 0 0
    ≡ Ok (record { result = one_by_one; arrow = merging 1 one_by_one 0 (on_chain a a g b) (on_chain f a b b) })
both_answered =
    unfold expand swap put image arrow_image segment diagram_sum arrow_sum arrow_segment to_one_height cone mid ident dual no_dia
    no_arr in refl

-- a alone has nothing to part, and no second inner height
nothing_left : expand 2 (type_over 1 (link f) (link f) a) 0 0 ≡ Err nothing_to_part
nothing_left = unfold expand cone mid type_over ident no_dia no_arr in refl

no_inner_height : expand 2 (type_over 1 (link f) (link f) a) 0 1 ≡ Err (no_height 1)
no_inner_height = unfold expand cone mid type_over ident no_dia no_arr in refl

-- nor has it a second height; and f has no inner heights
no_outer_height : expand 2 (type_over 1 (link f) (link f) a) 1 0 ≡ Err (no_height 0)
no_outer_height = unfold expand cone mid type_over ident no_dia no_arr in refl

no_inner_heights : expand 1 (link f) 0 0 ≡ Err (no_height 1)
no_inner_heights = unfold expand no_dia no_arr in refl
