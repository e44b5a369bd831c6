use Rattle.std.proofs.Common.{length, get_or, refl, ◌∙◌, true≢false}
use Rattle.std.proofs.lemmas.List.{get_or_default, take_more, take_all}
use Rattle.monotone_dual.proofs.Scans.{after_none, below_none, below_push, after_push, not_found, found, all_hit}
use Rattle.monotone_dual.proofs.injection.places.Goals as goal

pub loop-height-init : goal.loop-height-init
loop-height-init c = record {
  same = rw c.new-places.ensures (after_none c.args.e.now);
  below = rw c.new-places.ensures (below_none (length c.args.e.now));
}

pub returns-in-Err-clause-none : goal.returns-in-Err-clause-none
returns-in-Err-clause-none c =
    let f = c.args.f.now in
    let at = c.loop-height.height-index in
    let left = c.loop-height-test.true in
    let absent = not_found c.args.e.now (get_or f at 0) c.in-Err.field-0 c.requires c.in-Err.ensures.position in
    (λ _. (at, get_or f at 0, left, get_or_default f at (get_or f at 0) 0 left, absent), λ _. refl)

pub loop-height-preserved : goal.loop-height-preserved
loop-height-preserved c =
    let e = c.args.e.now in
    let f = c.args.f.now in
    let at = c.loop-height.height-index in
    let so_far = c.loop-height.invariant in
    let place = found e (get_or f at 0) c.in-Ok.place c.requires c.in-Ok.ensures.position in
    let pushed = c.in_ok-push-in-Ok.ensures.ok in
    let below = below_push c.loop-height.places c.in-Ok.place (length e) so_far.below place.0 in
    let more = after_push e c.loop-height.places c.in-Ok.place in
    let next = take_more f at 0 c.loop-height-test.true in
    record {
      same = (let here = place.1 in let before = so_far.same in cc);
      below = rw pushed below;
    }

pub returns-clause-none : goal.returns-clause-none
returns-clause-none c =
    let f = c.args.f.now in
    let so_far = c.loop-height.invariant in
    let same = so_far.same ∙ take_all c.loop-height.height-index f c.loop-height-test.false in
    (λ e. absurd (true≢false e), λ any. absurd (all_hit c.args.e.now c.loop-height.places f so_far.below same any))
