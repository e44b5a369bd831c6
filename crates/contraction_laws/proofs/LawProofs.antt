-- The laws, put together.
use Rattle.std.proofs.Common.{ℕ, subst}
use Rattle.diagram_terms.specs.Settling.{Settles}
use Rattle.contraction_laws.specs.Laws.{TwoHeightsAreShapes, ContractionsAreComputed, ContractionFaultsAreComputed, ContractionsMerge, ContractionsAreGood, ContractionsHaveOneBoundary, StoredContractionsAreGood, UnbiasedContractionsStay, ContractionsHaveLists, SliceContractionsHaveLists, ContractionsAreShorter, SliceContractionsAreAsLong, SettlingIsComputed, SettlingEnds, SettlingShortens, SettledIsGood, StepsAreGood, StepsHaveEnds, StepsAreSums, StepsAreSegments, StepsKeepPoints, ContractionTreesAreComputed, ContractionTreesAreRefused, ContractionTreesAreGood, ContractionTreesAreParallel, StoredTreesAreGood, SettledTreesAreGood, SettlingTreesAreGood, SettledTreesAreShorter}
use Rattle.contraction_laws.proofs.TwoHeights as merges
use Rattle.contraction_laws.proofs.ContractionProofs.{answers_contractions, answers_contraction_faults, contraction_answered, contraction_fault_answered}
use Rattle.contraction_laws.proofs.ContractionLists as lists
use Rattle.contraction_laws.proofs.Settlings as settlings
use Rattle.contraction_laws.proofs.StepPoints as step_points
use Rattle.contraction_laws.proofs.GoodTrees as trees

-- ---- programs

-- ---- contraction

pub two_heights_are_shapes : (d : ℕ) → TwoHeightsAreShapes d
two_heights_are_shapes d C k gC l = merges.two_heights-shape d C k gC l

pub contractions_are_computed : (d : ℕ) → ContractionsAreComputed d
contractions_are_computed d n C path k biases c gC =
    (contraction_answered n d C path k biases gC c, answers_contractions n d C path k biases c.result c.arrow gC)

pub contraction_faults_are_computed : (d : ℕ) → ContractionFaultsAreComputed d
contraction_faults_are_computed d n C path k biases e gC =
    (contraction_fault_answered n d C path k biases gC e, answers_contraction_faults n d C path k biases e gC)

pub contractions_merge : (d : ℕ) → ContractionsMerge d
contractions_merge d C path k biases X f gC t = merges.merges_along d C path k biases X f gC t

pub contractions_are_good : (d : ℕ) → ContractionsAreGood d
contractions_are_good d C path k biases X f gC t = merges.good_contraction d C path k biases X f gC t

pub contractions_have_one_boundary : (d : ℕ) → ContractionsHaveOneBoundary d
contractions_have_one_boundary d C path k biases X f gC t = merges.one_boundary d C path k biases X f gC t

pub stored_contractions_are_good : (d : ℕ) → StoredContractionsAreGood d
stored_contractions_are_good d C path k biases X f gC t = merges.good_stored_contraction d C path k biases X f gC t

pub unbiased_contractions_stay : (d : ℕ) → UnbiasedContractionsStay d
unbiased_contractions_stay d C path k biases X f t = merges.unbiased_contraction d C path k biases X f t

pub contractions_have_lists : (d : ℕ) → ContractionsHaveLists d
contractions_have_lists d C k biases X f gC t = lists.contraction_lists d C k biases X f gC t

pub slice_contractions_have_lists : (d : ℕ) → SliceContractionsHaveLists d
slice_contractions_have_lists d C p path k biases X f gC t = lists.slice_contraction_lists d C k biases X f gC p path t

pub contractions_are_shorter : (d : ℕ) → ContractionsAreShorter d
contractions_are_shorter d C k biases X f gC t = lists.contraction-shorter d C k biases X f gC t

pub slice_contractions_are_as_long : (d : ℕ) → SliceContractionsAreAsLong d
slice_contractions_are_as_long d C p path k biases X f gC t = lists.slice_contraction-as_long d C k biases X f gC p path t

-- ---- settling

pub settling_is_computed : (d : ℕ) → SettlingIsComputed d
settling_is_computed d accept C steps gC =
    let all = settlings.settle-settles d accept C gC in (
      λ e. subst (Settles d accept C) e all,
      λ t. settlings.one_settling d accept C _ steps gC all t,
    )

pub settling_ends : (d : ℕ) → SettlingEnds d
settling_ends d accept C steps t = settlings.settled_closed d accept C steps t

pub settling_shortens : (d : ℕ) → SettlingShortens d
settling_shortens d accept C steps gC t = settlings.settled-length d accept C steps gC t

pub settled_is_good : (d : ℕ) → SettledIsGood d
settled_is_good d accept C steps gC t = settlings.good_settled d accept C steps gC t

pub steps_are_good : (d : ℕ) → StepsAreGood d
steps_are_good d accept C steps gC t = settlings.good_steps d accept C steps gC t

pub steps_have_ends : (d : ℕ) → StepsHaveEnds d
steps_have_ends d C steps = settlings.steps-ends d C steps

pub steps_are_sums : (d : ℕ) → StepsAreSums d
steps_are_sums d C s steps = settlings.steps-sum d C s steps

pub steps_are_segments : (d : ℕ) → StepsAreSegments d
steps_are_segments d C steps i s l e = settlings.steps-segment d C steps i s l e

pub steps_keep_points : (d : ℕ) → StepsKeepPoints d
steps_keep_points d accept P C steps sure h t = step_points.settling-points d accept P sure C steps h t

-- ---- trees

pub contraction_trees_are_computed : ContractionTreesAreComputed
contraction_trees_are_computed t path k biases c g h = trees.contraction_trees-computed t g path k biases c h

pub contraction_trees_are_refused : ContractionTreesAreRefused
contraction_trees_are_refused t path k biases e g = trees.contraction_trees-refused t g path k biases e

pub contraction_trees_are_good : ContractionTreesAreGood
contraction_trees_are_good t path k biases c g e = trees.contraction_trees-good t g path k biases c e

pub contraction_trees_are_parallel : ContractionTreesAreParallel
contraction_trees_are_parallel t path k biases c g e = trees.contraction_trees-parallel t g path k biases c e

pub stored_trees_are_good : StoredTreesAreGood
stored_trees_are_good t path k biases c g e = trees.stored_tree-good t g path k biases c e

pub settled_trees_are_good : SettledTreesAreGood
settled_trees_are_good accept t g = trees.settled_tree-good t g accept

pub settling_trees_are_good : SettlingTreesAreGood
settling_trees_are_good accept t g = trees.settling_tree-good t g accept

pub settled_trees_are_shorter : SettledTreesAreShorter
settled_trees_are_shorter accept t g = trees.settled_tree-shorter t g accept
