use Rattle.std.proofs.Common.{arith}
use Rattle.workspace_lists.proofs.DocumentEntries.{ends-within, generators-more, start-more}
use Rattle.workspace_lists.proofs.saved.generator_entries.Goals as goal

pub places_from-boundary-requires : goal.places_from-boundary-requires
places_from-boundary-requires c =
    ends-within c.args.generators.now c.loop-generator.generator-index c.loop-generator.at c.generator-item.result
    c.loop-generator-test.true c.generator-item.is c.loop-generator.invariant.0 c.args.places.now c.requires

pub overflow_add-at : goal.overflow_add-at
overflow_add-at c =
    let within = ends-within c.args.generators.now c.loop-generator.generator-index c.loop-generator.at c.generator-item.result
    c.loop-generator-test.true c.generator-item.is c.loop-generator.invariant.0 c.args.places.now c.requires in
    omega arith

pub loop-generator-preserved : goal.loop-generator-preserved
loop-generator-preserved c =
    let gs = c.args.generators.now in
    let i = c.loop-generator.generator-index in
    let g = c.generator-item.result in (
      start-more gs i c.loop-generator.at g c.loop-generator-test.true c.generator-item.is c.loop-generator.invariant.0 _ c.ends_in-at.ensures,
      λ place are. rw c.in_ok-push.ensures.items
          (generators-more place gs i c.loop-generator.at g c.args.places.now c.loop-generator.entries.items c.in_ok-name.name
          c.places_from-boundary.result c.loop-generator-test.true c.generator-item.is c.loop-generator.invariant.0 are
          (c.loop-generator.invariant.1 place are) c.in_ok-name.ensures c.places_from-boundary.ensures),
    )
