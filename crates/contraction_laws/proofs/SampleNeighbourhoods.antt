-- The neighbourhood of a point in the diagram that is stored for a contraction, by computation.
use Rattle.std.proofs.Common.{◌≡◌, [], ◌∷◌, refl}
use Rattle.std.specs.Prelude.{Ok}
use Rattle.diagram_terms.specs.declared.label.Label.{Label}
use Rattle.diagram_terms.specs.declared.place.Height.TheVariants as height_kind
use Rattle.diagram_terms.specs.Family.{Dia, Arr, no_dia, no_arr}
use Rattle.diagram_terms.specs.Dual.{dual, after}
use Rattle.diagram_terms.specs.Composite.{ident, comp}
use Rattle.diagram_terms.specs.Cone.{cone, mid, type_over}
use Rattle.diagram_terms.specs.Segments.{segment, diagram_sum, arrow_sum, arrow_segment}
use Rattle.diagram_terms.specs.Occurrences.{image, arrow_image, swap, put}
use Rattle.diagram_terms.specs.Attachment.{attached_at_target}
use Rattle.diagram_terms.specs.Merging.{to_one_height}
use Rattle.diagram_terms.specs.Regions.{no_region}
use Rattle.diagram_terms.specs.Preimages.{preimage}
use Rattle.diagram_terms.specs.PointRegions.{point_region}
use Rattle.diagram_terms.specs.Cuts.{cut_arrow, cut_diagram}
use Rattle.diagram_terms.specs.Neighbourhoods.{neighbourhood}
use Rattle.diagram_terms.specs.ClassParts.{names, place, part}
use Rattle.diagram_terms.specs.Colimits.{part_leg, enter_class, leave_class, apex_reg, glued_apex, glued_leg}
use Rattle.diagram_terms.specs.RankProgram.{members_of, least_by, links_of, classes, comes_before, all_links, held, chains, first_on_cycle, is_least, are_apart, first_pair_apart, is_available, next_member, give, ranks_given, ranks_under}
use Rattle.diagram_terms.specs.ColimitProgram.{first_greatest, first_above, each_part, colimit_of}
use Rattle.diagram_terms.specs.Contraction.{Contraction, stored_contraction, contract_from, contract}
use Rattle.contraction_laws.proofs.SampleContractions.{f, a, pair, link, same}

-- ---- a and then a again, on one loop

abbrev once : Dia 2
once = type_over 1 (link f) (link f) a

abbrev twice : Dia 2
twice = attached_at_target 1 once (0 ∷ []) (link f) (link f) a

abbrev changes : Label → Label → Arr 1
changes y z = record { heights = 0 ∷ []; regs = same ∷ same ∷ []; sings = pair y z ∷ [] }

-- both heights go to the one, by identities
abbrev made_one : Contraction 2
made_one = record {
  result = once;
  arrow = record { heights = 0 ∷ 0 ∷ []; regs = changes f f ∷ changes f f ∷ []; sings = changes a a ∷ changes a a ∷ [] };
}

twice_contracted : contract 2 twice [] 0 [] ≡ Ok made_one
twice_contracted =
    unfold type_over swap put image arrow_image arrow_segment cone mid members_of least_by links_of classes comes_before all_links
    held chains first_on_cycle is_least are_apart first_pair_apart is_available next_member give ranks_given ranks_under names place
    part part_leg enter_class leave_class apex_reg glued_apex glued_leg first_greatest first_above each_part colimit_of dual after comp
    ident no_dia no_arr segment diagram_sum arrow_sum to_one_height contract_from in refl

-- the contracted diagram is the type of a, but around the innermost point of what is stored there is all of it: a and then a, and
-- no identity of that type
all_around : neighbourhood 3 (stored_contraction 2 twice made_one) (height_kind.S 0 ∷ height_kind.S 0 ∷ height_kind.S 0 ∷ [])
    ≡ stored_contraction 2 twice made_one
all_around =
    unfold type_over swap put image arrow_image arrow_segment cone mid point_region preimage cut_diagram cut_arrow no_region dual ident
    no_dia no_arr segment diagram_sum arrow_sum in refl
