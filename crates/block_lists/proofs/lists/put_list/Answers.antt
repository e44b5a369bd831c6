use Rattle.std.proofs.Common.{◌≡◌, true, slice_get, Some}
use Rattle.smallvec.specs.SmallVec.{SmallVec}
use Rattle.block_lists.proofs.Blocks.{vectors_eq, vector_put}
use Rattle.block_lists.proofs.lists.put_list.Goals as goal

pub returns-clause-put : goal.returns-clause-put
returns-clause-put c =
    let v = c.in_ok-numbers.numbers in
    let n = c.in_ok-number.number in
    let now = c.insert_full.new.self.keys in
    let s : (k : SmallVec _) × (slice_get now n ≡ Some k) × (vectors_eq v k ≡ true) = c.in_ok-number.ensures.stored in
    record {
      numbers = v.items;
      are = c.in_ok-numbers.ensures.ok;
      put = vector_put c.args.lists.now.keys now v s.0 n c.in_ok-number.ensures.keys s.1 s.2;
      blocks = c.in_ok-numbers.ensures.blocks;
    }
