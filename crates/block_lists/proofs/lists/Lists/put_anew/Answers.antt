use Rattle.std.proofs.Common.{◌≡◌, ◌∙◌, take, sym, subst, ap, ap₂}
use Rattle.std.proofs.lemmas.List.{take-map}
use Rattle.block_lists.specs.Blocks.{AreInBlocks, items_of, lists_in}
use Rattle.block_lists.proofs.Blocks.{PutsIn, puts_in}
use Rattle.block_lists.proofs.lists.Lists.put_anew.Goals as goal
use Rattle.block_lists.proofs.lists.Lists.put_anew.Goals.{After-self-1}

puts : (c : After-self-1) → PutsIn (items_of c.self.inside.blocks.keys) (items_of c.put_list.new.blocks.keys)
    (items_of c.self.inside.lists.keys) (items_of c.put_list.new.lists.keys) c.args.items.now c.in-Ok.number
puts c =
    puts_in (items_of c.self.inside.blocks.keys) (items_of c.put_list.new.blocks.keys) (items_of c.self.inside.lists.keys)
    (items_of c.put_list.new.lists.keys) c.args.items.now c.in-Ok.number c.self.invariant c.in-Ok.ensures.put

pub invariant_of-self : goal.invariant_of-self
invariant_of-self c = (puts c).tables

kept : (c : goal.After-truncate) → items_of c.truncate.new.self.keys ≡ items_of c.self.inside.blocks.keys
kept c =
    ap items_of c.truncate.ensures.keys ∙ sym (take-map (λ v. v.items) c.len-held.result c.put_list.new.blocks.keys)
    ∙ ap (λ n. take n (items_of c.put_list.new.blocks.keys)) c.len-held.ensures.len ∙ c.in-Err.ensures.grows

pub invariant_of-self-in-Err : goal.invariant_of-self-in-Err
invariant_of-self-in-Err c =
    subst (λ bs. AreInBlocks bs (items_of c.put_list.new.lists.keys)) (sym (kept c))
    (subst (AreInBlocks (items_of c.self.inside.blocks.keys)) (sym c.in-Err.ensures.unchanged) c.self.invariant)

pub returns-in-Ok-clause-put : goal.returns-in-Ok-clause-put
returns-in-Ok-clause-put c = rw (← c.self.view_is) (puts c).put

pub returns-in-Err-clause-err : goal.returns-in-Err-clause-err
returns-in-Err-clause-err c = ap₂ lists_in (kept c) c.in-Err.ensures.unchanged ∙ c.self.view_is
