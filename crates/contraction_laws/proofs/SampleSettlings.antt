-- Settling small diagrams, by computation.
use Rattle.std.proofs.Common.{◌≡◌, Bool, true, false, [], ◌∷◌, map, refl}
use Rattle.diagram_terms.specs.Family.{Dia, no_dia, no_arr}
use Rattle.std.specs.Prelude.{Ok}
use Rattle.diagram_terms.specs.Decoded.{dia_tree, arr_tree}
use Rattle.diagram_terms.specs.Dimension.{dimension_of}
use Rattle.diagram_terms.specs.OnTrees.{on_diagram}
use Rattle.diagram_terms.specs.Tree.{point, zig, ends, zag, label_at, from_at, to_at, regs, sings, fwds, bwds, heights}
use Rattle.diagram_terms.specs.ContractionTrees.{contraction_trees}
use Rattle.diagram_terms.specs.SettlingTrees.{settling_heights}
use Rattle.diagram_terms.specs.Dual.{dual, after}
use Rattle.diagram_terms.specs.Composite.{ident, comp}
use Rattle.diagram_terms.specs.Cone.{cone, mid, cospan}
use Rattle.diagram_terms.specs.Segments.{segment, diagram_sum, arrow_sum, arrow_segment}
use Rattle.diagram_terms.specs.Occurrences.{image, arrow_image, swap, put}
use Rattle.diagram_terms.specs.Attachment.{attached_at_target}
use Rattle.diagram_terms.specs.Merging.{to_one_height}
use Rattle.diagram_terms.specs.ClassParts.{names, place, part}
use Rattle.diagram_terms.specs.Colimits.{part_leg, enter_class, leave_class, apex_reg, glued_apex, glued_leg}
use Rattle.diagram_terms.specs.RankProgram.{members_of, least_by, links_of, classes, comes_before, all_links, held, chains, first_on_cycle, is_least, are_apart, first_pair_apart, is_available, next_member, give, ranks_given, ranks_under}
use Rattle.diagram_terms.specs.ColimitProgram.{first_greatest, first_above, each_part, colimit_of}
use Rattle.diagram_terms.specs.Contraction.{contract_from}
use Rattle.diagram_terms.specs.Settling.{settled, all_steps, open_at, first_open, steps_of, settle}
use Rattle.contraction_laws.proofs.SampleContractions.{f, g, a, b, c, link, chain, changes, beside, at_once, to_at_once}

abbrev always : Dia 3 → Bool
always D = true

-- a beside b: one step at the height 0
beside_steps : settle 1 always beside ≡ record { height = 0; contraction = record { result = at_once; arrow = to_at_once } } ∷ []
beside_steps =
    unfold swap put image arrow_image arrow_segment cone mid members_of least_by links_of classes comes_before all_links held
    chains first_on_cycle is_least are_apart first_pair_apart is_available next_member give ranks_given ranks_under names place
    part part_leg enter_class leave_class apex_reg glued_apex glued_leg first_greatest first_above each_part colimit_of dual after
    comp ident no_dia no_arr segment diagram_sum arrow_sum to_one_height contract_from open_at first_open steps_of settle in refl

-- what holds the step is what is stored for it
beside_held : all_steps 2 beside (settle 1 always beside) ≡ cospan 2 beside to_at_once at_once (ident 2 at_once) at_once
beside_held =
    unfold swap put image arrow_image arrow_segment cone mid members_of least_by links_of classes comes_before all_links held
    chains first_on_cycle is_least are_apart first_pair_apart is_available next_member give ranks_given ranks_under names place
    part part_leg enter_class leave_class apex_reg glued_apex glued_leg first_greatest first_above each_part colimit_of dual after
    comp ident no_dia no_arr segment diagram_sum arrow_sum to_one_height contract_from open_at first_open steps_of settle in refl

-- where the test refuses, there is no step
beside_refused : settle 1 (λ D. false) beside ≡ []
beside_refused =
    unfold swap put image arrow_image arrow_segment cone mid members_of least_by links_of classes comes_before all_links held
    chains first_on_cycle is_least are_apart first_pair_apart is_available next_member give ranks_given ranks_under names place
    part part_leg enter_class leave_class apex_reg glued_apex glued_leg first_greatest first_above each_part colimit_of dual after
    comp ident no_dia no_arr segment diagram_sum arrow_sum to_one_height contract_from open_at first_open steps_of settle in refl

-- a beside b, and then c on the first loop: a and b are contracted, and what is left clashes in a and c
abbrev three : Dia 2
three = attached_at_target 1 beside (0 ∷ []) (link f) (link f) c

three_steps : map (λ s. s.height) (settle 1 always three) ≡ 0 ∷ []
three_steps =
    unfold swap put image arrow_image arrow_segment cone mid members_of least_by links_of classes comes_before all_links held
    chains first_on_cycle is_least are_apart first_pair_apart is_available next_member give ranks_given ranks_under names place
    part part_leg enter_class leave_class apex_reg glued_apex glued_leg first_greatest first_above each_part colimit_of dual after
    comp ident no_dia no_arr segment diagram_sum arrow_sum to_one_height contract_from open_at first_open steps_of settle in refl

three_settled : settled 2 three (settle 1 always three) ≡ record {
  regs = chain f g ∷ chain f g ∷ chain f g ∷ [];
  sings = chain a b ∷ chain c g ∷ [];
  fwds = changes f g a b ∷ changes f g c g ∷ [];
  bwds = changes f g a b ∷ changes f g c g ∷ [];
}
three_settled =
    unfold swap put image arrow_image arrow_segment cone mid members_of least_by links_of classes comes_before all_links held
    chains first_on_cycle is_least are_apart first_pair_apart is_available next_member give ranks_given ranks_under names place
    part part_leg enter_class leave_class apex_reg glued_apex glued_leg first_greatest first_above each_part colimit_of dual after
    comp ident no_dia no_arr segment diagram_sum arrow_sum to_one_height contract_from open_at first_open steps_of settle in refl

-- ---- trees

-- the trees of a beside b, contracted
beside_trees : contraction_trees (dia_tree 2 beside) [] 0 [] ≡ Ok (record {
  result = dia_tree 2 at_once;
  arrow = arr_tree 2 to_at_once;
  stored = dia_tree 3 (cospan 2 beside to_at_once at_once (ident 2 at_once) at_once);
})
beside_trees =
    unfold contraction_trees on_diagram point zig ends zag label_at from_at to_at regs sings fwds bwds heights dimension_of swap
    put image arrow_image arrow_segment cone mid members_of least_by links_of classes comes_before all_links held chains
    first_on_cycle is_least are_apart first_pair_apart is_available next_member give ranks_given ranks_under names place part
    part_leg enter_class leave_class apex_reg glued_apex glued_leg first_greatest first_above each_part colimit_of dual after comp
    ident no_dia no_arr segment diagram_sum arrow_sum to_one_height contract_from open_at first_open steps_of settle in refl

-- the height of the one step
three_heights : settling_heights (λ t. true) (dia_tree 2 three) ≡ 0 ∷ []
three_heights =
    unfold settling_heights on_diagram point zig ends zag label_at from_at to_at regs sings fwds bwds heights dimension_of swap put
    image arrow_image arrow_segment cone mid members_of least_by links_of classes comes_before all_links held chains first_on_cycle
    is_least are_apart first_pair_apart is_available next_member give ranks_given ranks_under names place part part_leg enter_class
    leave_class apex_reg glued_apex glued_leg first_greatest first_above each_part colimit_of dual after comp ident no_dia no_arr
    segment diagram_sum arrow_sum to_one_height contract_from open_at first_open steps_of settle in refl
