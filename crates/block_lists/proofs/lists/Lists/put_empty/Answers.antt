use Rattle.std.proofs.Common.{◌≡◌, [], true, slice_get, Some, refl, sym, subst}
use Rattle.smallvec.specs.SmallVec.{SmallVec}
use Rattle.block_lists.specs.Blocks.{AreBlocksOf, items_of}
use Rattle.block_lists.proofs.Blocks.{PutsIn, puts_in, no_blocks, vectors_eq, vector_put}
use Rattle.block_lists.proofs.lists.Lists.put_empty.Goals as goal
use Rattle.block_lists.proofs.lists.Lists.put_empty.Goals.{After-self-1}

puts : (c : After-self-1) → PutsIn (items_of c.self.inside.blocks.keys) (items_of c.self.inside.blocks.keys)
    (items_of c.self.inside.lists.keys) (items_of c.insert_full.new.self.keys) [] c.in_ok-number.number
puts c =
    let bs = items_of c.self.inside.blocks.keys in
    let v = c.new.result in
    let n = c.in_ok-number.number in
    let now = c.insert_full.new.self.keys in
    let s : (k : SmallVec _) × (slice_get now n ≡ Some k) × (vectors_eq v k ≡ true) = c.in_ok-number.ensures.stored in
    puts_in bs bs (items_of c.self.inside.lists.keys) (items_of now) [] n c.self.invariant (record {
      numbers = v.items;
      are = subst (λ ns. AreBlocksOf bs ns []) (sym c.new.ensures.items) (no_blocks bs);
      put = vector_put c.self.inside.lists.keys now v s.0 n c.in_ok-number.ensures.keys s.1 s.2;
      blocks = refl;
    })

pub invariant_of-self-2 : goal.invariant_of-self-2
invariant_of-self-2 c = (puts c).tables

pub returns-clause-put : goal.returns-clause-put
returns-clause-put c = rw (← c.self.view_is) (puts c).put
