use Rattle.std.proofs.Common.{rules, ◌≡◌, true, take, slice_get, Some, ◌∙◌, ap}
use Rattle.smallvec.specs.SmallVec.{SmallVec}
use Rattle.block_lists.specs.Blocks.{items_of}
use Rattle.block_lists.proofs.Blocks.{puts_one, vectors_eq, vectors_keys, vector_at}
use Rattle.block_lists.proofs.lists.put_blocks.Goals as goal

pub loop-rest-preserved : goal.loop-rest-preserved
loop-rest-preserved c =
    let v = c.in_ok-from_slice.field-0 in
    let now = c.insert_full.new.self.keys in
    let n = c.in_ok-number.number in
    let s : (k : SmallVec _) × (slice_get now n ≡ Some k) × (vectors_eq v k ≡ true) = c.in_ok-number.ensures.stored in
    let cut = c.in_ok-from_slice.ensures.ok in
    rw (c.in_ok-push.ensures.ok, c.split_at.ensures.back, c.min.ensures)
    (puts_one (items_of c.args.blocks.now.keys) (items_of c.loop-rest.blocks.keys) (items_of now)
    c.loop-rest.numbers.items c.loop-rest.rest.now c.args.items.now v.items n c.loop-rest.invariant
    (search rules) (cut ∙ c.split_at.ensures.front ∙ ap (λ k. take k c.loop-rest.rest.now) c.min.ensures)
    (vectors_keys c.loop-rest.blocks.keys now v c.in_ok-number.ensures.keys) (vector_at now v s.0 n s.1 s.2))
