use Rattle.std.proofs.Common.{◌≡◌, ◌<◌, ◌-◌, length, suc, sym, ◌∙◌, arith}
use Rattle.block_lists.proofs.Blocks.{empty_list, number_below, list_length, list_fits, last_fits}
use Rattle.block_lists.proofs.lists.Lists.len.Goals as goal

pub returns-then-len-eq0 : goal.returns-then-len-eq0
returns-then-len-eq0 c =
    rw (← c.self.view_is)
    (empty_list c.self.inside.blocks.keys c.self.inside.lists.keys c.self.invariant c.args.list c.index-numbers.result.now
    c.index-numbers.ensures (sym c.len.ensures.value ∙ c.if-len-eq0.true))

pub index-requires : goal.index-requires
index-requires c =
    let v = c.len.ensures.value in
    let w = c.len-last.ensures.value in
    let l : c.len-last.result - 1 < length c.index-numbers.result.now.items = omega (arith, c.if-len-eq0.false) in
    rw c.deref.ensures
    (number_below c.self.inside.blocks.keys c.self.inside.lists.keys c.self.invariant c.args.list c.index-numbers.result.now
    c.index-numbers.ensures (c.len-last.result - 1) l)

pub overflow_mul-result : goal.overflow_mul-result
overflow_mul-result c =
    let v = c.len.ensures.value in
    let w = c.len-last.ensures.value in
    let l : length c.index-numbers.result.now.items ≡ suc (c.len-last.result - 1) = omega (arith, c.if-len-eq0.false) in
    let f = last_fits c.self.inside.blocks.keys c.self.inside.lists.keys c.self.invariant c.args.list
    c.index-numbers.result.now c.index-numbers.ensures (c.len-last.result - 1) l in
    omega arith

pub overflow_add-result : goal.overflow_add-result
overflow_add-result c =
    let v = c.len.ensures.value in
    let w = c.len-last.ensures.value in
    let l : length c.index-numbers.result.now.items ≡ suc (c.len-last.result - 1) = omega (arith, c.if-len-eq0.false) in
    let e = list_length c.self.inside.blocks.keys c.self.inside.lists.keys c.self.invariant c.args.list
    c.index-numbers.result.now c.index-numbers.ensures (c.len-last.result - 1) c.index.result.now l
    (rw c.deref.ensures at c.index.ensures) in
    let f = list_fits c.self.inside.blocks.keys c.self.inside.lists.keys c.self.invariant c.args.list
    c.index-numbers.result.now c.index-numbers.ensures in
    let b = c.len-2.ensures.value in
    omega arith

pub returns : goal.returns
returns c =
    let v = c.len.ensures.value in
    let w = c.len-last.ensures.value in
    let l : length c.index-numbers.result.now.items ≡ suc (c.len-last.result - 1) = omega (arith, c.if-len-eq0.false) in
    let e = list_length c.self.inside.blocks.keys c.self.inside.lists.keys c.self.invariant c.args.list
    c.index-numbers.result.now c.index-numbers.ensures (c.len-last.result - 1) c.index.result.now l
    (rw c.deref.ensures at c.index.ensures) in
    rw (c.len-2.ensures.value, ← c.self.view_is) (sym e)
