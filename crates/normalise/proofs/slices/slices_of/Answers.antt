use Rattle.std.proofs.Common.{◌≡◌, [], ap, sym, subst, ◌∙◌, arith}
use Rattle.diagram_terms.specs.Dual.{dual}
use Rattle.diagram_terms.specs.Shape.{sing_at}
use Rattle.diagram_terms.specs.Tree.{heights}
use Rattle.hashcons.specs.Contents.{arrow_at, diagram_at}
use Rattle.normalise.specs.NormalMaps.{as_leg}
use Rattle.normalise.specs.StoreForms.{AreLegsWith}
use Rattle.normalise.proofs.FormsInStore.{map_as_leg}
use Rattle.normalise.proofs.LeftSteps.{legs_none}
use Rattle.normalise.proofs.SliceSteps.{all_slices, goes_to, no_slices, slices_push, starts_before, within}
use Rattle.normalise.proofs.slices.slices_of.Goals as goal

pub loop-i-init : goal.loop-i-init
loop-i-init c =
    let now = c.args.store.now in
    let leg = c.args.leg.now in
    let t = sing_at (diagram_at now leg.target) c.args.k in
    let none = no_slices now leg c.args.k c.requires.valid c.requires.above c.dual_of-first.result c.dual_of-first.ensures in
    rw c.new-slices.ensures.items (subst (λ gs. AreLegsWith now t gs []) (sym none) (legs_none now t))

pub sing_slice-slice-requires-clause-within : goal.sing_slice-slice-requires-clause-within
sing_slice-slice-requires-clause-within c =
    let e = c.dual_of-end.ensures in
    within c.args.store.now c.args.leg.now c.args.k c.requires.valid c.requires.above c.args.next c.loop-i.i (omega arith)

pub loop-i-preserved : goal.loop-i-preserved
loop-i-preserved c =
    let now = c.args.store.now in
    let leg = c.args.leg.now in
    let start = c.dual_of-first.ensures in
    let end = c.dual_of-end.ensures in
    let goes = goes_to now leg c.args.k c.requires.valid c.requires.above c.args.next c.loop-i.i c.requires.next (omega arith) (omega arith) in
    let is = c.sing_slice-slice.ensures.is in
    let into = map_as_leg now (sing_at (diagram_at now leg.target) c.args.k) c.sing_slice-slice.result c.sing_slice-slice.ensures.valid
    (is.target ∙ ap (sing_at (diagram_at now leg.target)) goes) in
    let p = is.source in
    let q = is.arrow in
    rw c.in_ok-push.ensures.ok
    (slices_push now c.args.k (as_leg leg) c.loop-i.i c.loop-i.slices.items _ c.loop-i.invariant (as_leg c.sing_slice-slice.result) goes into
    (λ i. record { source = p i; arrow = q i }))

pub returns : goal.returns
returns c =
    let now = c.args.store.now in
    let leg = c.args.leg.now in
    let start = c.dual_of-first.ensures in
    let end = c.dual_of-end.ensures in
    let before = starts_before now leg c.args.k c.requires.valid c.requires.above c.args.next c.requires.next in
    let last : c.loop-i.i ≡ dual (heights (arrow_at now leg.arrow)) c.args.next = omega arith in
    subst (λ gs. AreLegsWith now (sing_at (diagram_at now leg.target) c.args.k) gs c.loop-i.slices.items)
    (all_slices now leg c.args.k c.requires.valid c.requires.above c.args.next c.loop-i.i c.requires.next last) c.loop-i.invariant
