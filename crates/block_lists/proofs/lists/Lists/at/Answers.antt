use Rattle.std.proofs.Common.{◌<◌, ◌/◌, List, ℕ, [], length, get_or, sym, subst}
use Rattle.block_lists.proofs.Blocks.{entry_number, number_below, entry_within, entry_is}
use Rattle.block_lists.proofs.lists.Lists.at.Goals as goal

pub bounds-deref-at : goal.bounds-deref-at
bounds-deref-at c =
    rw c.deref.ensures
    (entry_number c.self.inside.blocks.keys c.self.inside.lists.keys c.self.invariant c.args.list c.index.result.now
    c.index.ensures c.args.at
    (subst (λ (ls : List (List ℕ)). c.args.at < length (get_or ls c.args.list [])) (sym c.self.view_is) c.requires.within))

pub index-requires-2 : goal.index-requires-2
index-requires-2 c =
    rw c.deref.ensures
    (number_below c.self.inside.blocks.keys c.self.inside.lists.keys c.self.invariant c.args.list c.index.result.now
    c.index.ensures (c.args.at / 8)
    (entry_number c.self.inside.blocks.keys c.self.inside.lists.keys c.self.invariant c.args.list c.index.result.now
    c.index.ensures c.args.at
    (subst (λ (ls : List (List ℕ)). c.args.at < length (get_or ls c.args.list [])) (sym c.self.view_is) c.requires.within)))

pub bounds-deref-at-2 : goal.bounds-deref-at-2
bounds-deref-at-2 c =
    rw c.deref-2.ensures
    (entry_within c.self.inside.blocks.keys c.self.inside.lists.keys c.self.invariant c.args.list c.index.result.now
    c.index.ensures c.args.at
    (subst (λ (ls : List (List ℕ)). c.args.at < length (get_or ls c.args.list [])) (sym c.self.view_is) c.requires.within)
    c.index-2.result.now (rw c.deref.ensures at c.index-2.ensures))

pub returns : goal.returns
returns c =
    rw (c.deref-2.ensures, ← c.self.view_is)
    (entry_is c.self.inside.blocks.keys c.self.inside.lists.keys c.self.invariant c.args.list c.index.result.now
    c.index.ensures c.args.at
    (subst (λ (ls : List (List ℕ)). c.args.at < length (get_or ls c.args.list [])) (sym c.self.view_is) c.requires.within)
    c.index-2.result.now (rw c.deref.ensures at c.index-2.ensures))
