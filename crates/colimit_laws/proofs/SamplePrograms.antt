-- The programs at small shapes, by computation.
use Rattle.std.proofs.Common.{◌≡◌, [], ◌∷◌, refl}
use Rattle.std.specs.Prelude.{Ok, Err}
use Rattle.diagram_terms.specs.declared.place.Bias.TheVariants.{Unbiased, Earlier, Later}
use Rattle.diagram_terms.specs.HeightClasses.{HeightShape, member}
use Rattle.diagram_terms.specs.OrderFaults.{cyclic, unsettled}
use Rattle.diagram_terms.specs.Shapes.{heights_of}
use Rattle.colimit_laws.proofs.Samples.{apart, earlier, later}
use Rattle.diagram_terms.specs.RankProgram.{members_of, least_by, links_of, classes, comes_before, all_links, held, chains, first_on_cycle, is_least, are_apart, first_pair_apart, is_available, next_member, give, ranks_given, ranks_under}

-- ---- two loops that nothing orders

apart_unsettled : ranks_under Unbiased (heights_of 0 apart) ≡ Err (unsettled (member 0 0) (member 2 0))
apart_unsettled =
    unfold members_of least_by links_of classes comes_before all_links held chains first_on_cycle is_least are_apart
    first_pair_apart is_available next_member give ranks_given ranks_under in refl

apart_earlier : ranks_under Earlier (heights_of 0 apart) ≡ Ok earlier
apart_earlier =
    unfold members_of least_by links_of classes comes_before all_links held chains first_on_cycle is_least are_apart
    first_pair_apart is_available next_member give ranks_given ranks_under in refl

apart_later : ranks_under Later (heights_of 0 apart) ≡ Ok later
apart_later =
    unfold members_of least_by links_of classes comes_before all_links held chains first_on_cycle is_least are_apart
    first_pair_apart is_available next_member give ranks_given ranks_under in refl

-- ---- a class that reaches itself

abbrev winding : HeightShape
winding = record {
  lengths = 1 ∷ 2 ∷ 3 ∷ [];
  maps = record { from = 1; to = 0; heights = 0 ∷ 0 ∷ [] } ∷ record { from = 1; to = 2; heights = 0 ∷ 2 ∷ [] } ∷ [];
}

winding_cyclic : ranks_under Unbiased winding ≡ Err (cyclic (member 0 0))
winding_cyclic =
    unfold members_of least_by links_of classes comes_before all_links held chains first_on_cycle is_least are_apart
    first_pair_apart is_available next_member give ranks_given ranks_under in refl
