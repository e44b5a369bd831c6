use Rattle.std.proofs.Common.{◌≡◌, ◌+◌, suc, length, IfOk, Option, Some, sym, ap, subst, ◌∙◌, rules, arith}
use Rattle.diagram_terms.specs.declared.place.Place.{Place}
use Rattle.diagram_terms.specs.Dual.{dual}
use Rattle.diagram_terms.specs.FaultsOnTrees.{tests_between}
use Rattle.diagram_terms.specs.Places.{first_failure, at_each}
use Rattle.diagram_terms.specs.Tree.{heights, sings}
use Rattle.diagram_terms.proofs.Dimensions.{arrow_dimension}
use Rattle.diagram_terms.proofs.Duals.{dual-le-length}
use Rattle.zigzag_maps.proofs.Visiting.{visit_start, visit_fails, visit_passes, visit_last}
use Rattle.hashcons.specs.Contents.{diagram_at, arrow_at}
use Rattle.hashcons.proofs.OneMoreTree.{Grows-refl}
use Rattle.hashcons.proofs.Growth.{Grows-trans}
use Rattle.zigzag_maps.specs.Visits.{reg_tests, sing_tests, square_tests}
use Rattle.zigzag_maps.proofs.CompositeSlices.{zero_dual}
use Rattle.zigzag_maps.proofs.CompositeSteps.{dual_rises}
use Rattle.zigzag_maps.proofs.EdgeSteps.{slicewise-grows}
use Rattle.zigzag_maps.proofs.FaultSteps.{map_at-grows, map_trees, fits-grows, map_lengths, reg_slice, reg_found, sing_slice, sing_found, valid_map_passes, valid_map_from}
use Rattle.zigzag_maps.proofs.TestsOfArrows.{not_fit, fits_from, reg_fails, sing_fails, squares_decide, slices_valid}
use Rattle.zigzag_maps.proofs.faults.+faults.Goals as goal

-- ---- an arrow, worked out once

pub map_fault-returns-then-known_valid_map-clause-exact : goal.map_fault-returns-then-known_valid_map-clause-exact
map_fault-returns-then-known_valid_map-clause-exact t c =
    sym (valid_map_passes c.args.store.now c.args.f.now (c.known_valid_map.ensures.right c.if-known_valid_map.true))

pub map_fault-note_valid_map-requires : goal.map_fault-note_valid_map-requires
map_fault-note_valid_map-requires t c =
    let made = c.in_ok-place.ensures in
    valid_map_from c.fault_anew.new.store c.args.dim c.args.f.now (map_at-grows _ _ _ _ made.grows c.requires.map)
    (map_trees (λ s t f. first_failure (tests_between s t f)) _ _ _ _ made.grows c.requires.map ∙ sym made.exact ∙ c.in_default.is)

-- ---- an arrow, part by part

pub fault_anew-lengths_fit-requires-clause-above : goal.fault_anew-lengths_fit-requires-clause-above
fault_anew-lengths_fit-requires-clause-above t c =
    let is = arrow_dimension c.args.dim _ c.requires.map.arrow_shape in
    omega arith

pub fault_anew-returns-then-not-lengths_fit-clause-exact : goal.fault_anew-returns-then-not-lengths_fit-clause-exact
fault_anew-returns-then-not-lengths_fit-clause-exact t c =
    let m = c.requires.map in
    ap Some c.place_here-then-not-lengths_fit.ensures
    ∙ sym (not_fit c.args.dim _ _ _ (omega arith) m.source_valid.shape m.target_valid.shape m.arrow_shape (sym c.lengths_fit.ensures ∙ c.if-not-lengths_fit.true))

pub fault_anew-returns-in-Some-clause-exact : goal.fault_anew-returns-in-Some-clause-exact
fault_anew-returns-in-Some-clause-exact t c =
    let m = c.requires.map in
    let fits = fits_from _ _ _ (sym c.lengths_fit.ensures ∙ c.if-not-lengths_fit.false) in
    sym (reg_fails _ _ _ fits c.args.dim (omega arith) m.source_valid.shape m.target_valid.shape m.arrow_shape c.in-Some.place (sym c.in_ok-place.ensures.exact ∙ c.in-Some.is))

pub fault_anew-returns-in-Some-2-clause-exact : goal.fault_anew-returns-in-Some-2-clause-exact
fault_anew-returns-in-Some-2-clause-exact t c =
    let m = c.requires.map in
    let fits = fits_from _ _ _ (sym c.lengths_fit.ensures ∙ c.if-not-lengths_fit.false) in
    let regs_pass = sym c.in_ok-place.ensures.exact ∙ c.in_default.is in
    let same = map_trees (λ s t f. first_failure (at_each (length (sings s)) (sing_tests s t f))) c.args.store.now c.regular_fault.new.store c.args.dim c.args.f.now c.in_ok-place.ensures.grows m in
    sym (sing_fails _ _ _ fits regs_pass c.args.dim (omega arith) m.source_valid.shape m.target_valid.shape m.arrow_shape c.in-Some-2.place (sym same ∙ sym c.in_ok-place-2.ensures.exact ∙ c.in-Some-2.is))

pub fault_anew-square_fault-requires-clause-slicewise : goal.fault_anew-square_fault-requires-clause-slicewise
fault_anew-square_fault-requires-clause-slicewise t c =
    let m = c.requires.map in
    let fits = fits_from _ _ _ (sym c.lengths_fit.ensures ∙ c.if-not-lengths_fit.false) in
    let regs_pass = sym c.in_ok-place.ensures.exact ∙ c.in_default.is in
    let same = map_trees (λ s t f. first_failure (at_each (length (sings s)) (sing_tests s t f))) c.args.store.now c.regular_fault.new.store c.args.dim c.args.f.now c.in_ok-place.ensures.grows m in
    let sings_pass = sym same ∙ sym c.in_ok-place-2.ensures.exact ∙ c.in_default-2.is in
    slicewise-grows c.args.store.now c.singular_fault.new.store c.args.dim c.args.f.now (Grows-trans _ _ _ c.in_ok-place.ensures.grows c.in_ok-place-2.ensures.grows) (record {
      map = m;
      above = omega arith;
      slices = slices_valid _ _ _ fits regs_pass sings_pass c.args.dim (omega arith) m.source_valid.shape m.target_valid.shape m.arrow_shape;
    })

pub fault_anew-returns-clause-exact : goal.fault_anew-returns-clause-exact
fault_anew-returns-clause-exact t c =
    let m = c.requires.map in
    let grows = Grows-trans _ _ _ c.in_ok-place.ensures.grows c.in_ok-place-2.ensures.grows in
    let fits = fits_from _ _ _ (sym c.lengths_fit.ensures ∙ c.if-not-lengths_fit.false) in
    let regs_pass = sym c.in_ok-place.ensures.exact ∙ c.in_default.is in
    let same = map_trees (λ s t f. first_failure (at_each (length (sings s)) (sing_tests s t f))) c.args.store.now c.regular_fault.new.store c.args.dim c.args.f.now c.in_ok-place.ensures.grows m in
    let sings_pass = sym same ∙ sym c.in_ok-place-2.ensures.exact ∙ c.in_default-2.is in
    let squares = map_trees (λ s t f. first_failure (at_each (length (sings t)) (square_tests s t f))) c.args.store.now c.singular_fault.new.store c.args.dim c.args.f.now grows m in
    let decide = squares_decide _ _ _ fits regs_pass sings_pass c.args.dim (omega arith) m.source_valid.shape m.target_valid.shape m.arrow_shape in
    subst (λ (x : Option Place). IfOk c.square_fault.result (λ found. found ≡ x)) (squares ∙ sym decide) c.square_fault.ensures.exact

-- ---- regular slices

pub regular_fault-loop-j-init : goal.regular_fault-loop-j-init
regular_fault-loop-j-init t c =
    let old = c.args.store.now in
    let m = c.args.f.now in
    let lengths = map_lengths old c.args.dim m c.requires.above c.requires.map in
    record {
      grows = Grows-refl _;
      map = c.requires.map;
      below = zero_dual _ (c.requires.store.arrows _ c.requires.map.arrow) (omega (arith, lengths.dim));
      rest = visit_start (reg_tests (diagram_at old m.source) (diagram_at old m.target) (arrow_at old m.arrow)) (suc (length (sings (diagram_at old m.target))));
    }

pub regular_fault-returns-in-Some-clause-exact : goal.regular_fault-returns-in-Some-clause-exact
regular_fault-returns-in-Some-clause-exact t c =
    let old = c.args.store.now in
    let m = c.args.f.now in
    let inv = c.loop-j.invariant in
    let j = c.loop-j.j in
    let same = map_trees (λ s t f. first_failure (reg_tests s t f j)) old c.loop-j.store c.args.dim m inv.grows c.requires.map in
    sym (visit_fails (reg_tests (diagram_at old m.source) (diagram_at old m.target) (arrow_at old m.arrow)) (suc (length (sings (diagram_at old m.target)))) j c.in-Some.place (omega arith)
    (sym same ∙ sym c.in_ok-place.ensures.exact ∙ c.in-Some.is))
    ∙ inv.rest

pub regular_fault-dual_from-below-requires-clause-of_store : goal.regular_fault-dual_from-below-requires-clause-of_store
regular_fault-dual_from-below-requires-clause-of_store t c = c.in_ok-place.ensures.grows.arrows c.args.f.now.arrow c.loop-j.invariant.map.arrow

pub regular_fault-dual_from-below-requires-clause-above : goal.regular_fault-dual_from-below-requires-clause-above
regular_fault-dual_from-below-requires-clause-above t c =
    let new = c.regular_slice_fault.new.store in
    let lengths = map_lengths new c.args.dim c.args.f.now c.requires.above (map_at-grows _ _ _ _ c.in_ok-place.ensures.grows c.loop-j.invariant.map) in
    omega (arith, lengths.dim)

pub regular_fault-dual_from-below-requires-clause-within : goal.regular_fault-dual_from-below-requires-clause-within
regular_fault-dual_from-below-requires-clause-within t c =
    dual_rises c.args.store.now c.regular_slice_fault.new.store c.args.f.now.arrow c.loop-j.j c.loop-j.below (Grows-trans _ _ _ c.loop-j.invariant.grows c.in_ok-place.ensures.grows)
    c.requires.map.arrow c.loop-j.invariant.below

pub regular_fault-loop-j-preserved : goal.regular_fault-loop-j-preserved
regular_fault-loop-j-preserved t c =
    let old = c.args.store.now in
    let m = c.args.f.now in
    let inv = c.loop-j.invariant in
    let made = c.in_ok-place.ensures in
    let j = c.loop-j.j in
    let grows = Grows-trans _ _ _ inv.grows made.grows in
    let same = map_trees (λ s t f. first_failure (reg_tests s t f j)) old c.loop-j.store c.args.dim m inv.grows c.requires.map in
    record {
      grows = grows;
      map = map_at-grows _ _ _ _ grows c.requires.map;
      below = c.dual_from-below.ensures ∙ ap (λ u. dual (heights u) (j + 1)) (grows.arrow_trees m.arrow c.requires.map.arrow);
      rest = sym (visit_passes (reg_tests (diagram_at old m.source) (diagram_at old m.target) (arrow_at old m.arrow)) (suc (length (sings (diagram_at old m.target)))) j (omega arith)
          (sym same ∙ sym made.exact ∙ c.in_default.is))
          ∙ inv.rest;
    }

pub regular_fault-returns-clause-exact : goal.regular_fault-returns-clause-exact
regular_fault-returns-clause-exact t c =
    let old = c.args.store.now in
    let m = c.args.f.now in
    let inv = c.loop-j.invariant in
    let end : c.loop-j.j ≡ c.length-last.result = omega arith in
    let same = map_trees (λ s t f. first_failure (reg_tests s t f c.length-last.result)) old c.loop-j.store c.args.dim m inv.grows c.requires.map in
    let tests = reg_tests (diagram_at old m.source) (diagram_at old m.target) (arrow_at old m.arrow) in
    let last = visit_last tests (suc (length (sings (diagram_at old m.target)))) c.loop-j.j (omega arith) in
    subst (λ (x : Option Place). IfOk c.regular_slice_fault-2.result (λ found. found ≡ x)) (same ∙ ap (λ j. first_failure (tests j)) (sym end) ∙ sym last ∙ inv.rest) c.regular_slice_fault-2.ensures.exact

pub regular_slice_fault-reg-requires-clause-within : goal.regular_slice_fault-reg-requires-clause-within
regular_slice_fault-reg-requires-clause-within t c =
    let lengths = map_lengths c.args.store.now c.args.dim c.args.f.now c.requires.above c.requires.map in
    omega (arith, lengths.source_regs, c.requires.fits.heights_len, dual-le-length (heights (arrow_at c.args.store.now c.args.f.now.arrow)) c.args.j)

pub regular_slice_fault-reg-requires-2-clause-within : goal.regular_slice_fault-reg-requires-2-clause-within
regular_slice_fault-reg-requires-2-clause-within t c =
    let lengths = map_lengths c.args.store.now c.args.dim c.args.f.now c.requires.above c.requires.map in
    omega (arith, lengths.target_regs)

pub regular_slice_fault-arrow_reg-requires-clause-above : goal.regular_slice_fault-arrow_reg-requires-clause-above
regular_slice_fault-arrow_reg-requires-clause-above t c =
    let lengths = map_lengths c.args.store.now c.args.dim c.args.f.now c.requires.above c.requires.map in
    omega (arith, lengths.dim)

pub regular_slice_fault-map_fault-requires : goal.regular_slice_fault-map_fault-requires
regular_slice_fault-map_fault-requires t c = (
  search rules,
  (
    reg_slice c.args.store.now c.args.f.now (record { source = c.reg.result; target = c.reg-2.result; arrow = c.arrow_reg.result }) c.reg.ensures.of_store c.reg-2.ensures.of_store c.arrow_reg.ensures.of_store
        c.args.dim c.args.j c.args.below c.requires.above c.requires.map c.requires.fits c.requires.within c.requires.below c.reg.ensures.tree c.reg-2.ensures.tree c.arrow_reg.ensures.tree,
    c.requires.store,
  ),
)

pub regular_slice_fault-returns-clause-exact : goal.regular_slice_fault-returns-clause-exact
regular_slice_fault-returns-clause-exact t c =
    let is = reg_found c.args.store.now c.args.f.now (record { source = c.reg.result; target = c.reg-2.result; arrow = c.arrow_reg.result }) c.reg.ensures.of_store c.reg-2.ensures.of_store c.arrow_reg.ensures.of_store
    c.in_ok-found.found c.in_ok-found.ensures.exact c.args.j c.args.below c.requires.below c.reg.ensures.tree c.reg-2.ensures.tree c.arrow_reg.ensures.tree in
    subst (λ (x : Option Place). IfOk c.found_in.result (λ place. place ≡ x)) is c.found_in.ensures

-- ---- singular slices

pub singular_fault-height-requires-clause-above : goal.singular_fault-height-requires-clause-above
singular_fault-height-requires-clause-above t c =
    let lengths = map_lengths c.loop-i.store c.args.dim c.args.f.now c.requires.above c.loop-i.invariant.map in
    omega (arith, lengths.dim)

pub singular_fault-sing-requires-in-loop-i-clause-within : goal.singular_fault-sing-requires-in-loop-i-clause-within
singular_fault-sing-requires-in-loop-i-clause-within t c =
    let inv = c.loop-i.invariant in
    let fits = fits-grows _ _ _ _ inv.grows c.requires.map c.requires.fits in
    let lengths = map_lengths c.loop-i.store c.args.dim c.args.f.now c.requires.above inv.map in
    let n = ap (λ u. length (sings u)) (inv.grows.diagram_trees c.args.f.now.source c.requires.map.source) in
    omega (arith, fits.heights_len, fits.regs_len, lengths.below c.loop-i.i (omega (arith, fits.heights_len)), c.height.ensures)

pub singular_fault-arrow_sing-requires-clause-above : goal.singular_fault-arrow_sing-requires-clause-above
singular_fault-arrow_sing-requires-clause-above t c =
    let lengths = map_lengths c.loop-i.store c.args.dim c.args.f.now c.requires.above c.loop-i.invariant.map in
    omega (arith, lengths.dim)

pub singular_fault-arrow_sing-requires-clause-within : goal.singular_fault-arrow_sing-requires-clause-within
singular_fault-arrow_sing-requires-clause-within t c =
    let inv = c.loop-i.invariant in
    let fits = fits-grows _ _ _ _ inv.grows c.requires.map c.requires.fits in
    let lengths = map_lengths c.loop-i.store c.args.dim c.args.f.now c.requires.above inv.map in
    let n = ap (λ u. length (sings u)) (inv.grows.diagram_trees c.args.f.now.source c.requires.map.source) in
    omega (arith, fits.heights_len, lengths.arrow_sings)

pub singular_fault-map_fault-requires : goal.singular_fault-map_fault-requires
singular_fault-map_fault-requires t c =
    let inv = c.loop-i.invariant in
    let fits = fits-grows _ _ _ _ inv.grows c.requires.map c.requires.fits in
    let n = ap (λ u. length (sings u)) (inv.grows.diagram_trees c.args.f.now.source c.requires.map.source) in (
      search rules,
      (
        sing_slice c.loop-i.store c.args.f.now (record { source = c.sing.result; target = c.sing-in-loop-i.result; arrow = c.arrow_sing.result }) c.sing.ensures.of_store c.sing-in-loop-i.ensures.of_store c.arrow_sing.ensures.of_store
            c.args.dim c.loop-i.i c.height.result c.requires.above inv.map fits (omega arith) c.height.ensures c.sing.ensures.tree c.sing-in-loop-i.ensures.tree c.arrow_sing.ensures.tree,
        inv.grows.store c.requires.store,
      ),
    )

pub singular_fault-returns-in-Some-clause-exact : goal.singular_fault-returns-in-Some-clause-exact
singular_fault-returns-in-Some-clause-exact t c =
    let old = c.args.store.now in
    let m = c.args.f.now in
    let inv = c.loop-i.invariant in
    let i = c.loop-i.i in
    let is = sing_found c.loop-i.store m (record { source = c.sing.result; target = c.sing-in-loop-i.result; arrow = c.arrow_sing.result }) c.sing.ensures.of_store c.sing-in-loop-i.ensures.of_store c.arrow_sing.ensures.of_store
    c.in_ok-found.found c.in_ok-found.ensures.exact i c.height.result c.height.ensures c.sing.ensures.tree c.sing-in-loop-i.ensures.tree c.arrow_sing.ensures.tree in
    let same = map_trees (λ s t f. first_failure (sing_tests s t f i)) old c.loop-i.store c.args.dim m inv.grows c.requires.map in
    sym (visit_fails (sing_tests (diagram_at old m.source) (diagram_at old m.target) (arrow_at old m.arrow)) (length (sings (diagram_at old m.source))) i c.in-Some.place (omega arith)
    (sym same ∙ sym is ∙ sym c.in_ok-place.ensures ∙ c.in-Some.is))
    ∙ inv.rest

pub singular_fault-loop-i-preserved : goal.singular_fault-loop-i-preserved
singular_fault-loop-i-preserved t c =
    let old = c.args.store.now in
    let m = c.args.f.now in
    let inv = c.loop-i.invariant in
    let made = c.in_ok-found.ensures in
    let i = c.loop-i.i in
    let grows = Grows-trans _ _ _ inv.grows made.grows in
    let is = sing_found c.loop-i.store m (record { source = c.sing.result; target = c.sing-in-loop-i.result; arrow = c.arrow_sing.result }) c.sing.ensures.of_store c.sing-in-loop-i.ensures.of_store c.arrow_sing.ensures.of_store
    c.in_ok-found.found made.exact i c.height.result c.height.ensures c.sing.ensures.tree c.sing-in-loop-i.ensures.tree c.arrow_sing.ensures.tree in
    let same = map_trees (λ s t f. first_failure (sing_tests s t f i)) old c.loop-i.store c.args.dim m inv.grows c.requires.map in
    record {
      grows = grows;
      map = map_at-grows _ _ _ _ grows c.requires.map;
      rest = sym (visit_passes (sing_tests (diagram_at old m.source) (diagram_at old m.target) (arrow_at old m.arrow)) (length (sings (diagram_at old m.source))) i (omega arith)
          (sym same ∙ sym is ∙ sym c.in_ok-place.ensures ∙ c.in_default.is))
          ∙ inv.rest;
    }
