use Rattle.std.proofs.Common.{◌≡◌, ℕ, List, length, take, sym, subst, ◌∙◌, ap, ap₂}
use Rattle.std.proofs.lemmas.List.{take-map}
use Rattle.block_lists.specs.Blocks.{items_of, distinct_blocks, lists_in}
use Rattle.block_lists.proofs.Blocks.{kept_tables, kept_is}
use Rattle.block_lists.proofs.lists.Lists.truncate.Goals as goal

pub invariant_of-self : goal.invariant_of-self
invariant_of-self c =
    let bks = c.self.inside.blocks.keys in
    let nks = c.self.inside.lists.keys in
    let count = subst (λ (ls : List (List ℕ)). c.args.counts.now.blocks ≡ length (distinct_blocks (take c.args.counts.now.lists ls))) (sym c.self.view_is) c.requires.blocks in
    rw (c.truncate-2.ensures.keys, c.truncate.ensures.keys, ← take-map (λ v. v.items) c.args.counts.now.blocks bks, ← take-map (λ v. v.items) c.args.counts.now.lists nks)
    (kept_tables (items_of bks) (items_of nks) c.args.counts.now.lists c.args.counts.now.blocks c.self.invariant count)

pub returns : goal.returns
returns c =
    let bks = c.self.inside.blocks.keys in
    let nks = c.self.inside.lists.keys in
    let count = subst (λ (ls : List (List ℕ)). c.args.counts.now.blocks ≡ length (distinct_blocks (take c.args.counts.now.lists ls))) (sym c.self.view_is) c.requires.blocks in
    ap₂ lists_in (ap items_of c.truncate-2.ensures.keys ∙ sym (take-map (λ v. v.items) c.args.counts.now.blocks bks))
    (ap items_of c.truncate.ensures.keys ∙ sym (take-map (λ v. v.items) c.args.counts.now.lists nks))
    ∙ kept_is (items_of bks) (items_of nks) c.args.counts.now.lists c.args.counts.now.blocks c.self.invariant count
    ∙ ap (take c.args.counts.now.lists) c.self.view_is
