use Rattle.std.proofs.Common.{◌≡◌, ◌∷◌, [], slice_get, Some, length, take_all, sym, ap, ◌∙◌, arith}
use Rattle.block_lists.specs.Blocks.{items_of, nonempty}
use Rattle.block_lists.proofs.Distinct.{slice-from_get}
use Rattle.block_lists.proofs.Blocks.{filled-more, filled-all}
use Rattle.block_lists.proofs.lists.Lists.filled_count.Goals as goal

pub loop-at-preserved : goal.loop-at-preserved
loop-at-preserved c =
    let ks = c.as_slice-lists.result.now in
    let k = c.index-lists-at.result in
    let there : slice_get ks c.loop-at.at ≡ Some k =
    slice-from_get ks c.loop-at.at k c.loop-at-test.true ∙ ap Some (sym c.index-lists-at.is)
    in
    let more = filled-more ks c.loop-at.at k there in
    let one = c.filled-count.ensures.count ∙ ap (λ ns. length (nonempty (ns ∷ []))) c.as_slice.ensures in
    (omega (arith, c.loop-at.invariant.0), omega (arith, c.loop-at.invariant.1, c.filled-count.ensures.small))

pub returns-clause-count : goal.returns-clause-count
returns-clause-count c =
    let ks = c.as_slice-lists.result.now in
    rw (← c.self.view_is)
    (c.loop-at.invariant.0
    ∙ ap (λ vs. length (nonempty (items_of vs))) (take_all c.loop-at.at ks c.loop-at-test.false ∙ c.as_slice-lists.ensures.keys)
    ∙ filled-all c.self.inside.blocks.keys c.self.inside.lists.keys c.self.invariant)
