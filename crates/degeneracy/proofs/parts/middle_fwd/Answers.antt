use Rattle.std.proofs.Common.{◌≡◌, ◌+◌, ◌<◌, ℕ, List, length, get_or, refl, sym, ap, subst, ◌∙◌, rules, arith}
use Rattle.std.proofs.lemmas.List.{get_or_read_under}
use Rattle.diagram_terms.specs.Shape.{fwd_at}
use Rattle.diagram_terms.specs.Tree.{heights}
use Rattle.hashcons.specs.Contents.{IsArrowOf, arrow_at, diagram_at}
use Rattle.degeneracy.proofs.PartsInStore.{lengths_of, hit_now, missed_now}
use Rattle.degeneracy.proofs.PartsOnTrees.{middle_fwd-hit, middle_fwd-missed}
use Rattle.degeneracy.proofs.parts.middle_fwd.Goals as goal

pub fwd-requires-clause-within : goal.fwd-requires-clause-within
fwd-requires-clause-within c =
    let has = lengths_of c.args.store.now c.args.f.now c.requires.valid c.requires.above in
    let d = has.dual_in (c.args.k + 1) in
    let n = has.source_fwds in
    omega arith

pub offset_bounds-deref-k : goal.offset_bounds-deref-k
offset_bounds-deref-k c =
    let has = lengths_of c.args.store.now c.args.f.now c.requires.valid c.requires.above in
    let n = has.regs_len in
    let m = c.requires.identities.len in
    let k : c.args.k < length c.args.identities.now.items = omega arith in
    search rules

pub bounds-deref-k : goal.bounds-deref-k
bounds-deref-k c =
    let has = lengths_of c.args.store.now c.args.f.now c.requires.valid c.requires.above in
    let n = has.regs_len in
    let m = c.requires.identities.len in
    let d = ap length c.deref.ensures in
    omega arith

pub returns-then-at-dual_of-clause-tree : goal.returns-then-at-dual_of-clause-tree
returns-then-at-dual_of-clause-tree c =
    let s = diagram_at c.args.store.now c.args.f.now.source in
    let t = diagram_at c.args.store.now c.args.f.now.target in
    let f = arrow_at c.args.store.now c.args.f.now.arrow in
    let l = hit_now (heights f) c.args.k _ _ c.dual_of-at.ensures c.dual_of.ensures c.if-at-dual_of.true in
    c.fwd.ensures.tree ∙ ap (fwd_at s) c.dual_of-at.ensures ∙ sym (middle_fwd-hit s t f c.args.k l)

pub returns-else-at-dual_of-clause-of_store : goal.returns-else-at-dual_of-clause-of_store
returns-else-at-dual_of-clause-of_store c =
    let has = lengths_of c.args.store.now c.args.f.now c.requires.valid c.requires.above in
    let n = has.regs_len in
    let m = c.requires.identities.len in
    let ids = c.args.identities.now.items in
    let read : c.index-deref-k.result ≡ get_or ids c.args.k 0 =
    get_or_read_under ids c.args.k (length ids) c.index-deref-k.result 0
    (c.index-deref-k.is ∙ ap (λ (xs : List ℕ). get_or xs c.args.k c.index-deref-k.result) c.deref.ensures) (omega arith) refl in
    subst (IsArrowOf c.args.store.now) (sym read) (c.requires.identities.of_store c.args.k (omega arith))

pub returns-else-at-dual_of-clause-tree : goal.returns-else-at-dual_of-clause-tree
returns-else-at-dual_of-clause-tree c =
    let s = diagram_at c.args.store.now c.args.f.now.source in
    let t = diagram_at c.args.store.now c.args.f.now.target in
    let f = arrow_at c.args.store.now c.args.f.now.arrow in
    let has = lengths_of c.args.store.now c.args.f.now c.requires.valid c.requires.above in
    let n = has.regs_len in
    let m = c.requires.identities.len in
    let ids = c.args.identities.now.items in
    let read : c.index-deref-k.result ≡ get_or ids c.args.k 0 =
    get_or_read_under ids c.args.k (length ids) c.index-deref-k.result 0
    (c.index-deref-k.is ∙ ap (λ (xs : List ℕ). get_or xs c.args.k c.index-deref-k.result) c.deref.ensures) (omega arith) refl in
    let l = missed_now (heights f) c.args.k _ _ c.dual_of-at.ensures c.dual_of.ensures c.if-at-dual_of.false in
    ap (arrow_at c.args.store.now) read ∙ c.requires.identities.are c.args.k (omega arith) ∙ sym (middle_fwd-missed s t f c.args.k l)
