use Rattle.std.proofs.Common.{◌<◌, length, ◌∙◌}
use Rattle.diagram_terms.specs.Dimension.{dimension_of}
use Rattle.diagram_terms.specs.Tree.{Tree, regs}
use Rattle.hashcons.specs.Gathers.{Gathers}
use Rattle.hashcons.proofs.Growth.{Grows-trans, gathers-arrows_grow}
use Rattle.zigzag_maps.proofs.KeptMaps.{valid_map-grows}
use Rattle.zigzag_maps.proofs.SliceMaps.{fact_after}
use Rattle.degeneracy.specs.SplitTrees.{simple_reg, middle_tree, simple_tree, parallel_tree}
use Rattle.degeneracy.proofs.PartsInStore.{made_parts}
use Rattle.degeneracy.proofs.parts.split.Goals as goal

pub middle-requires-clause-valid : goal.middle-requires-clause-valid
middle-requires-clause-valid c = valid_map-grows _ _ c.args.d c.in_ok-identities.ensures.grows c.requires.valid

pub middle-requires-clause-above : goal.middle-requires-clause-above
middle-requires-clause-above c =
    fact_after (λ (s t f : Tree). 0 < dimension_of f) _ _ c.args.d c.in_ok-identities.ensures.grows c.requires.valid c.requires.above

pub middle-requires-clause-identities : goal.middle-requires-clause-identities
middle-requires-clause-identities c =
    let made = c.in_ok-identities.ensures in
    fact_after (λ (s t f : Tree). Gathers c.regular_identities.new.store.arrows c.in_ok-identities.identities.items (length (regs f)) (simple_reg s f))
    _ _ c.args.d made.grows c.requires.valid made.gathers

pub simple_part-requires-clause-above : goal.simple_part-requires-clause-above
simple_part-requires-clause-above c =
    let g = Grows-trans _ _ _ c.in_ok-identities.ensures.grows c.in_ok-between.ensures.grows in
    fact_after (λ (s t f : Tree). 0 < dimension_of f) _ _ c.args.d g c.requires.valid c.requires.above

pub simple_part-requires-clause-identities : goal.simple_part-requires-clause-identities
simple_part-requires-clause-identities c =
    let made = c.in_ok-identities.ensures in
    let mid = c.in_ok-between.ensures in
    let g = Grows-trans _ _ _ made.grows mid.grows in
    fact_after (λ (s t f : Tree). Gathers c.middle.new.store.arrows c.in_ok-identities.identities.items (length (regs f)) (simple_reg s f))
    _ _ c.args.d g c.requires.valid (gathers-arrows_grow _ _ _ _ _ mid.grows made.gathers)

pub parallel_part-requires-clause-above : goal.parallel_part-requires-clause-above
parallel_part-requires-clause-above c =
    let g = Grows-trans _ _ _ (Grows-trans _ _ _ c.in_ok-identities.ensures.grows c.in_ok-between.ensures.grows) c.in_ok-simple.ensures.grows in
    fact_after (λ (s t f : Tree). 0 < dimension_of f) _ _ c.args.d g c.requires.valid c.requires.above

pub returns-clause-parts : goal.returns-clause-parts
returns-clause-parts c =
    let v = c.requires.valid in
    let d = c.args.d in
    let one = c.in_ok-identities.ensures.grows in
    let mid = c.in_ok-between.ensures in
    let first = c.in_ok-simple.ensures in
    let second = c.in_ok-parallel.ensures in
    let two = Grows-trans _ _ _ one mid.grows in
    let three = Grows-trans _ _ _ two first.grows in
    let rest = Grows-trans _ _ _ first.grows second.grows in
    made_parts c.args.store.now c.parallel_part.new.store d c.in_ok-between.between c.in_ok-simple.simple c.in_ok-parallel.parallel
    (Grows-trans _ _ _ three second.grows) v c.requires.degeneracy c.requires.above
    (rest.diagrams _ mid.of_store) (second.grows.arrows _ first.of_store) second.of_store
    (rest.diagram_trees _ mid.of_store ∙ mid.tree ∙ (λ i. middle_tree (one.diagram_trees d.source v.source.of_store i)
    (one.diagram_trees d.target v.target.of_store i) (one.arrow_trees d.arrow v.arrow i)))
    (second.grows.arrow_trees _ first.of_store ∙ first.tree ∙ (λ i. simple_tree (two.diagram_trees d.source v.source.of_store i) (two.arrow_trees d.arrow v.arrow i)))
    (second.tree ∙ (λ i. parallel_tree (three.diagram_trees d.target v.target.of_store i) (three.arrow_trees d.arrow v.arrow i)))

pub returns-in_err-between-clause-grows : goal.returns-in_err-between-clause-grows
returns-in_err-between-clause-grows c = Grows-trans _ _ _ c.in_ok-identities.ensures.grows c.in_err-between.ensures.grows

pub returns-in_err-parallel-clause-grows : goal.returns-in_err-parallel-clause-grows
returns-in_err-parallel-clause-grows c =
    let g = Grows-trans _ _ _ (Grows-trans _ _ _ c.in_ok-identities.ensures.grows c.in_ok-between.ensures.grows) c.in_ok-simple.ensures.grows in
    Grows-trans _ _ _ g c.in_err-parallel.ensures.grows

pub returns-clause-grows : goal.returns-clause-grows
returns-clause-grows c =
    let g = Grows-trans _ _ _ (Grows-trans _ _ _ c.in_ok-identities.ensures.grows c.in_ok-between.ensures.grows) c.in_ok-simple.ensures.grows in
    Grows-trans _ _ _ g c.in_ok-parallel.ensures.grows
