use Rattle.std.proofs.Common.{◌≡◌, ℕ, suc, ◌+◌, ◌<◌, List, [], ◌∷◌, ◌++◌, length, get_or, refl, sym, ap, ◌∙◌, rules, arith}
use Rattle.std.proofs.lemmas.List.{get_or_read_under}
use Rattle.diagram_terms.specs.Dual.{tab}
use Rattle.diagram_terms.specs.Tree.{heights}
use Rattle.hashcons.specs.Contents.{arrow_at}
use Rattle.degeneracy.specs.FactorTrees.{height_over}
use Rattle.degeneracy.proofs.FactorsInStore.{height_below, over_height, over_last, tab_more}
use Rattle.degeneracy.proofs.factors.regulars_over.Goals as goal

pub offset_bounds-deref-height : goal.offset_bounds-deref-height
offset_bounds-deref-height c =
    let l = height_below _ (c.source_len-j-end.ensures.store.arrows c.args.e c.requires.outer) c.requires.above c.loop-j.j (omega arith) in
    let k : c.height.result < length c.args.all.now.items = omega arith in
    search rules

pub bounds-deref-height : goal.bounds-deref-height
bounds-deref-height c =
    let l = height_below _ (c.source_len-j-end.ensures.store.arrows c.args.e c.requires.outer) c.requires.above c.loop-j.j (omega arith) in
    let d = ap length c.deref.ensures in
    omega arith

pub loop-j-preserved : goal.loop-j-preserved
loop-j-preserved c =
    let e = arrow_at c.args.store.now c.args.e in
    let all = c.args.all.now.items in
    let l = height_below _ (c.source_len-j-end.ensures.store.arrows c.args.e c.requires.outer) c.requires.above c.loop-j.j (omega arith) in
    let pushed = c.in_ok-push.ensures.ok in
    let inv = c.loop-j.invariant in
    let is = c.index-deref-height.is in
    let d = c.deref.ensures in
    let read : c.index-deref-height.result ≡ get_or all (height_over e c.loop-j.j) 0 =
    get_or_read_under all c.height.result (length all) c.index-deref-height.result 0 (is ∙ ap (λ (xs : List ℕ). get_or xs c.height.result c.index-deref-height.result) d) (omega arith) refl
    ∙ ap (λ i. get_or all i 0) (c.height.ensures ∙ sym (over_height e c.loop-j.j (omega arith))) in
    pushed ∙ (λ i. inv i ++ read i ∷ []) ∙ sym (tab_more (λ j. get_or all (height_over e j) 0) c.loop-j.j)

pub returns : goal.returns
returns c =
    let e = arrow_at c.args.store.now c.args.e in
    let all = c.args.all.now.items in
    let f = λ (j : ℕ). get_or all (height_over e j) 0 in
    let n = length (heights e) in
    let last : c.loop-j.j ≡ n = omega arith in
    let over = over_last e in
    let read : c.index-deref-target_len.result ≡ f n =
    get_or_read_under all c.target_len.result (length all) c.index-deref-target_len.result 0
    (c.index-deref-target_len.is ∙ ap (λ (xs : List ℕ). get_or xs c.target_len.result c.index-deref-target_len.result) c.deref-2.ensures) (omega arith) refl
    ∙ ap (λ i. get_or all i 0) (omega arith) in
    let inv = c.loop-j.invariant ∙ ap (tab f) last in
    let one : n + 1 ≡ suc n = omega arith in
    c.in_ok-push-2.ensures.ok ∙ (λ i. inv i ++ read i ∷ []) ∙ sym (tab_more f n) ∙ ap (tab f) one
