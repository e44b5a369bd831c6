use Rattle.std.proofs.Common.{◌≡◌, ◌≤◌, true≢false, sym, ◌∙◌, subst, arith}
use Rattle.diagram_terms.specs.Labels.{IsAtMost}
use Rattle.label_order.proofs.Scan.{IsScanned, scan_starts, taken_over, clashed, passed, passed_clash, none_of, some_of, scanned_all, leading_joins}
use Rattle.label_order.proofs.join.Goals as goal
use Rattle.label_order.proofs.join.Goals.{then-one-x, else-one-x+then-is_none+then-not-is_at_most, else-one-x+else-is_none, else-is_none-via-then-is_none+else-not-is_at_most, else-is_none-via-else-is_none}

pub loop-x-init : goal.loop-x-init
loop-x-init c = scan_starts c.args.labels.now c.requires

pub loop-x-preserved : goal.loop-x-preserved
loop-x-preserved c =
    let labels = c.args.labels.now in
    let i = c.loop-x.x-index in
    let left = c.loop-x-test.true in
    let old = c.loop-x.clashing in
    let so_far = c.loop-x.invariant in
    elim c.if-one-x.branch [
      | then-one-x w ↦ taken_over labels i left c.loop-x.one _ old _ so_far w.if-one-x.true w.one-is w.clashing-is
      | else-one-x+then-is_none+then-not-is_at_most w ↦ clashed labels i left c.loop-x.one _ old _ so_far
          (none_of old _ w.is_none.ensures w.if-is_none.true)
          w.if-one-x.false
          (λ h. true≢false (sym (w.is_at_most.ensures.1 h) ∙ w.if-not-is_at_most.true))
          w.one-is
          w.clashing-is
      | else-one-x+else-is_none w ↦ elim w.else-is_none.branch [
        | else-is_none-via-then-is_none+else-not-is_at_most w' ↦ passed labels i left c.loop-x.one _ old _ so_far
            (none_of old _ w.is_none.ensures w'.if-is_none.true)
            (w'.is_at_most.ensures.0 w'.if-not-is_at_most.false)
            w.one-is
            w.clashing-is
        | else-is_none-via-else-is_none w' ↦ (let some = some_of old _ w.is_none.ensures w'.if-is_none.false in
            passed_clash labels i left c.loop-x.one _ old _ so_far some.0 some.1 w.if-one-x.false w.one-is w.clashing-is)
      ]
    ]

pub returns-in-None-clause-ok : goal.returns-in-None-clause-ok
returns-in-None-clause-ok c =
    let labels = c.args.labels.now in
    let scanned = scanned_all labels c.loop-x.x-index c.loop-x.one c.loop-x.clashing c.loop-x-test.false c.loop-x.invariant in
    leading_joins labels c.loop-x.one (subst (IsScanned labels c.loop-x.one) c.in-None.is scanned)

pub returns-in-Some-clause-clash : goal.returns-in-Some-clause-clash
returns-in-Some-clause-clash c =
    let labels = c.args.labels.now in
    let scanned = scanned_all labels c.loop-x.x-index c.loop-x.one c.loop-x.clashing c.loop-x-test.false c.loop-x.invariant in
    subst (IsScanned labels c.loop-x.one) c.in-Some.is scanned
