use Rattle.std.proofs.Common.{◌+◌, sym, ap, ◌∙◌, arith}
use Rattle.diagram_terms.specs.Shape.{reg_at, sing_at}
use Rattle.diagram_terms.specs.Tree.{heights}
use Rattle.hashcons.specs.Contents.{arrow_at, diagram_at}
use Rattle.degeneracy.proofs.PartsInStore.{lengths_of, hit_now, missed_now}
use Rattle.degeneracy.proofs.PartsOnTrees.{middle_sing-hit, middle_sing-missed}
use Rattle.degeneracy.proofs.parts.middle_sing.Goals as goal

pub sing-requires-clause-within : goal.sing-requires-clause-within
sing-requires-clause-within c =
    let has = lengths_of c.args.store.now c.args.f.now c.requires.valid c.requires.above in
    let d = has.dual_in (c.args.k + 1) in
    omega arith

pub reg-requires-clause-within : goal.reg-requires-clause-within
reg-requires-clause-within c =
    let has = lengths_of c.args.store.now c.args.f.now c.requires.valid c.requires.above in
    let d = has.dual_in c.args.k in
    let n = has.source_regs in
    omega arith

pub returns-then-at-dual_of-clause-tree : goal.returns-then-at-dual_of-clause-tree
returns-then-at-dual_of-clause-tree c =
    let s = diagram_at c.args.store.now c.args.f.now.source in
    let t = diagram_at c.args.store.now c.args.f.now.target in
    let f = arrow_at c.args.store.now c.args.f.now.arrow in
    let l = hit_now (heights f) c.args.k _ _ c.dual_of-at.ensures c.dual_of.ensures c.if-at-dual_of.true in
    c.sing.ensures.tree ∙ ap (sing_at s) c.dual_of-at.ensures ∙ sym (middle_sing-hit s t f c.args.k l)

pub returns-else-at-dual_of-clause-tree : goal.returns-else-at-dual_of-clause-tree
returns-else-at-dual_of-clause-tree c =
    let s = diagram_at c.args.store.now c.args.f.now.source in
    let t = diagram_at c.args.store.now c.args.f.now.target in
    let f = arrow_at c.args.store.now c.args.f.now.arrow in
    let l = missed_now (heights f) c.args.k _ _ c.dual_of-at.ensures c.dual_of.ensures c.if-at-dual_of.false in
    c.reg.ensures.tree ∙ ap (reg_at s) c.dual_of-at.ensures ∙ sym (middle_sing-missed s t f c.args.k l)
