use Rattle.std.proofs.Common.{◌≡◌, ◌<◌, ℕ, length, get_or, true, false, List, sym, ap, subst, ◌∙◌, rules, arith}
use Rattle.diagram_terms.specs.Dimension.{dimension_of, IsArrowTree}
use Rattle.diagram_terms.specs.Tree.{heights, regs, sings}
use Rattle.diagram_terms.specs.Shape.{sing_at}
use Rattle.diagram_terms.proofs.Dimensions.{dimension_of-arrow_reg, dimension_of-arrow_sing}
use Rattle.hashcons.specs.Contents.{arrow_at}
use Rattle.hashcons.specs.Gathers.{Gathers}
use Rattle.hashcons.proofs.Growth.{Grows-trans, gathers-arrow_more}
use Rattle.degeneracy.specs.FactorTrees.{factor_tree, reg_factor, sing_factor}
use Rattle.degeneracy.proofs.FactorsBySlices.{has_factor_of, one_dimension, one_missing, all_there, hit_is, hit_at, no_heights_missing, regs_missing, sings_missing, none_missing, IsArrowTree-factor_tree}
use Rattle.degeneracy.proofs.FactorsInStore.{factor_kept, found_of, sings_then, described_factor, factor_children, height_place, found-none, found-some, Finds-err, into_same, reg_is, sing_is, more_there}
use Rattle.degeneracy.proofs.KeptFactors.{factors-grow}
use Rattle.degeneracy.proofs.factors.+factors.Goals as goal

pub factor_anew-factor_of_pairs-requires-clause-outer_zero : goal.factor_anew-factor_of_pairs-requires-clause-outer_zero
factor_anew-factor_of_pairs-requires-clause-outer_zero t c = one_dimension _ _ c.requires.meet ∙ sym c.requires.dim ∙ c.if-dim-eq0.true

pub factor_anew-heights_between-requires-clause-outer_above : goal.factor_anew-heights_between-requires-clause-outer_above
factor_anew-heights_between-requires-clause-outer_above t c = let d = one_dimension _ _ c.requires.meet in omega arith

pub factor_anew-returns-in_default : goal.factor_anew-returns-in_default
factor_anew-returns-in_default t c = record {
  grows = search rules;
  right = c.requires.kept;
  found = no_heights_missing _ _ c.requires.meet (omega arith) (found-none _ _ _ c.in_default.is c.in_ok-heights.ensures);
}

pub factor_anew-returns-in_default-2 : goal.factor_anew-returns-in_default-2
factor_anew-returns-in_default-2 t c =
    let hit = (found-some _ _ _ _ c.in-Some.is c.in_ok-heights.ensures).0 in
    let rs = c.in_ok-all.ensures in
    record {
      grows = rs.grows;
      right = rs.right;
      found = regs_missing _ _ c.requires.meet (omega arith) hit (found-none _ _ _ c.in_default-2.is rs.found);
    }

pub factor_anew-returns-in_default-3 : goal.factor_anew-returns-in_default-3
factor_anew-returns-in_default-3 t c =
    let hit = (found-some _ _ _ _ c.in-Some.is c.in_ok-heights.ensures).0 in
    let rs = c.in_ok-all.ensures in
    let ss = c.in_ok-sings.ensures in
    let a : 0 < dimension_of (arrow_at c.args.store.now c.args.f) = omega arith in
    record {
      grows = Grows-trans _ _ _ rs.grows ss.grows;
      right = ss.right;
      found = sings_missing _ _ c.requires.meet a hit
          (sings_then c.args.store.now _ _ c.args.e c.args.f c.requires.outer c.requires.inner c.requires.store c.requires.meet a rs.grows ss.grows false (found-none _ _ _ c.in_default-3.is ss.found));
    }

pub factor_anew-regulars_over-requires-clause-above : goal.factor_anew-regulars_over-requires-clause-above
factor_anew-regulars_over-requires-clause-above t c =
    let d = one_dimension _ _ c.requires.meet in
    let g = Grows-trans _ _ _ c.in_ok-all.ensures.grows c.in_ok-sings.ensures.grows in
    let e = ap dimension_of (g.arrow_trees c.args.e c.requires.outer) in
    omega arith

pub factor_anew-put_arrow-requires-clause-children : goal.factor_anew-put_arrow-requires-clause-children
factor_anew-put_arrow-requires-clause-children t c =
    let old = c.args.store.now in
    let hs = found-some _ _ _ _ c.in-Some.is c.in_ok-heights.ensures in
    let rs = found-some _ _ _ _ c.in-Some-2.is c.in_ok-all.ensures.found in
    let ss = found-some _ _ _ _ c.in-Some-3.is c.in_ok-sings.ensures.found in
    let r = c.in_ok-all.ensures.grows in
    let s = c.in_ok-sings.ensures.grows in
    let a : 0 < dimension_of (arrow_at old c.args.f) = omega arith in
    factor_children old _ _ c.args.e c.args.f c.requires.outer c.requires.inner c.requires.store c.requires.meet a r s c.in-Some-2.all.items c.in_ok-regs.regs.items c.in-Some-3.sings.items rs.1 c.in_ok-regs.ensures ss.1

pub factor_anew-put_arrow-requires-clause-shape : goal.factor_anew-put_arrow-requires-clause-shape
factor_anew-put_arrow-requires-clause-shape t c =
    let old = c.args.store.now in
    let hs = found-some _ _ _ _ c.in-Some.is c.in_ok-heights.ensures in
    let rs = found-some _ _ _ _ c.in-Some-2.is c.in_ok-all.ensures.found in
    let ss = found-some _ _ _ _ c.in-Some-3.is c.in_ok-sings.ensures.found in
    let r = c.in_ok-all.ensures.grows in
    let s = c.in_ok-sings.ensures.grows in
    let a : 0 < dimension_of (arrow_at old c.args.f) = omega arith in
    let has = none_missing _ _ c.requires.meet a hs.0 rs.0 (sings_then old _ _ c.args.e c.args.f c.requires.outer c.requires.inner c.requires.store c.requires.meet a r s true ss.0) in
    let is = described_factor old _ _ c.args.e c.args.f c.requires.outer c.requires.inner c.requires.store c.requires.meet a r s c.in-Some-2.all.items c.in_ok-regs.regs.items c.in-Some-3.sings.items rs.1 c.in_ok-regs.ensures ss.1 c.in-Some.heights.items hs.1 hs.0 in
    subst IsArrowTree (sym is) (IsArrowTree-factor_tree _ _ c.requires.meet has)

pub factor_anew-returns-in_err-arrow : goal.factor_anew-returns-in_err-arrow
factor_anew-returns-in_err-arrow t c =
    let ss = c.in_ok-sings.ensures in
    let made = c.in_err-arrow.ensures.made in
    Finds-err _ _ _ _ _ (Grows-trans _ _ _ (Grows-trans _ _ _ c.in_ok-all.ensures.grows ss.grows) made.grows) (factors-grow _ _ _ made.grows ss.right) c.from_residual-in_err-arrow.ensures.0

pub factor_anew-returns : goal.factor_anew-returns
factor_anew-returns t c =
    let old = c.args.store.now in
    let hs = found-some _ _ _ _ c.in-Some.is c.in_ok-heights.ensures in
    let rs = found-some _ _ _ _ c.in-Some-2.is c.in_ok-all.ensures.found in
    let ss = found-some _ _ _ _ c.in-Some-3.is c.in_ok-sings.ensures.found in
    let r = c.in_ok-all.ensures.grows in
    let s = c.in_ok-sings.ensures.grows in
    let a : 0 < dimension_of (arrow_at old c.args.f) = omega arith in
    let has = none_missing _ _ c.requires.meet a hs.0 rs.0 (sings_then old _ _ c.args.e c.args.f c.requires.outer c.requires.inner c.requires.store c.requires.meet a r s true ss.0) in
    let is = described_factor old _ _ c.args.e c.args.f c.requires.outer c.requires.inner c.requires.store c.requires.meet a r s c.in-Some-2.all.items c.in_ok-regs.regs.items c.in-Some-3.sings.items rs.1 c.in_ok-regs.ensures ss.1 c.in-Some.heights.items hs.1 hs.0 in
    let made = c.in_ok-arrow.ensures.made in
    record {
      grows = Grows-trans _ _ _ (Grows-trans _ _ _ r s) made.grows;
      right = factors-grow _ _ _ made.grows c.in_ok-sings.ensures.right;
      found = (has, record { of_store = made.of_store; tree = made.tree ∙ is });
    }

pub factor_once-returns-in_err-keep : goal.factor_once-returns-in_err-keep
factor_once-returns-in_err-keep t c =
    let one = c.in_ok-found.ensures in
    let is = found-some _ _ _ _ c.in-Some-2.is one.found in
    let right = c.keep.ensures _ one.right (factor_kept _ _ _ _ _ one.grows c.requires.outer c.requires.inner is.0 is.1) in
    Finds-err _ _ _ _ _ one.grows right c.from_residual-in_err-keep.ensures.0

pub factor_once-returns : goal.factor_once-returns
factor_once-returns t c =
    let one = c.in_ok-found.ensures in
    let is = found-some _ _ _ _ c.in-Some-2.is one.found in
    let right = c.keep.ensures _ one.right (factor_kept _ _ _ _ _ one.grows c.requires.outer c.requires.inner is.0 is.1) in
    record { grows = one.grows; right = right; found = is }

-- ---- regular slices

pub regular_factors-arrow_reg-outer-requires-clause-above : goal.regular_factors-arrow_reg-outer-requires-clause-above
regular_factors-arrow_reg-outer-requires-clause-above t c =
    let d = one_dimension _ _ c.requires.meet in
    let e = ap dimension_of (c.loop-k.invariant.grows.arrow_trees c.args.e c.requires.outer) in
    omega arith

pub regular_factors-arrow_reg-inner-requires-clause-within : goal.regular_factors-arrow_reg-inner-requires-clause-within
regular_factors-arrow_reg-inner-requires-clause-within t c =
    let old = c.args.store.now in
    let inv = c.loop-k.invariant in
    let a : 0 < dimension_of (arrow_at old c.args.f) = omega arith in
    let has = has_factor_of _ _ c.requires.meet a in
    let ne = ap (λ u. length (regs u)) (inv.grows.arrow_trees c.args.e c.requires.outer) in
    let nf = ap (λ u. length (regs u)) (inv.grows.arrow_trees c.args.f c.requires.inner) in
    let nh = ap (λ u. length (heights u)) (inv.grows.arrow_trees c.args.f c.requires.inner) in
    let l : c.loop-k.k < length (regs (arrow_at old c.args.e)) = omega arith in
    let t = has.target_len in
    omega arith

pub regular_factors-factor_once-requires : goal.regular_factors-factor_once-requires
regular_factors-factor_once-requires t c =
    let old = c.args.store.now in
    let inv = c.loop-k.invariant in
    let a : 0 < dimension_of (arrow_at old c.args.f) = omega arith in
    let has = has_factor_of _ _ c.requires.meet a in
    let ne = ap (λ u. length (regs u)) (inv.grows.arrow_trees c.args.e c.requires.outer) in
    let nf = ap (λ u. length (regs u)) (inv.grows.arrow_trees c.args.f c.requires.inner) in
    let nh = ap (λ u. length (heights u)) (inv.grows.arrow_trees c.args.f c.requires.inner) in
    let l : c.loop-k.k < length (regs (arrow_at old c.args.e)) = omega arith in
    let po = reg_is old _ c.args.e c.arrow_reg-outer.result inv.grows c.requires.outer c.loop-k.k c.arrow_reg-outer.ensures.tree in
    let pi = reg_is old _ c.args.f c.arrow_reg-inner.result inv.grows c.requires.inner c.loop-k.k c.arrow_reg-inner.ensures.tree in
    let dim = ap dimension_of pi in
    let n = dimension_of-arrow_reg (arrow_at old c.args.f) c.loop-k.k (c.requires.store.arrows c.args.f c.requires.inner) a (omega (arith, has.target_len)) in (
      search rules,
      (c.arrow_reg-outer.ensures.of_store, (c.arrow_reg-inner.ensures.of_store, (omega arith, (into_same _ _ _ _ po pi (has.regs_are c.loop-k.k l), (inv.right, inv.grows.store c.requires.store))))),
    )

pub regular_factors-returns-in_err-found : goal.regular_factors-returns-in_err-found
regular_factors-returns-in_err-found t c =
    let one = c.in_err-found.ensures in
    Finds-err _ _ _ _ _ (Grows-trans _ _ _ c.loop-k.invariant.grows one.grows) one.right c.from_residual.ensures.0

pub regular_factors-returns-in_default : goal.regular_factors-returns-in_default
regular_factors-returns-in_default t c =
    let old = c.args.store.now in
    let inv = c.loop-k.invariant in
    let a : 0 < dimension_of (arrow_at old c.args.f) = omega arith in
    let has = has_factor_of _ _ c.requires.meet a in
    let ne = ap (λ u. length (regs u)) (inv.grows.arrow_trees c.args.e c.requires.outer) in
    let nf = ap (λ u. length (regs u)) (inv.grows.arrow_trees c.args.f c.requires.inner) in
    let nh = ap (λ u. length (heights u)) (inv.grows.arrow_trees c.args.f c.requires.inner) in
    let l : c.loop-k.k < length (regs (arrow_at old c.args.e)) = omega arith in
    let po = reg_is old _ c.args.e c.arrow_reg-outer.result inv.grows c.requires.outer c.loop-k.k c.arrow_reg-outer.ensures.tree in
    let pi = reg_is old _ c.args.f c.arrow_reg-inner.result inv.grows c.requires.inner c.loop-k.k c.arrow_reg-inner.ensures.tree in
    let one = c.in_ok-found.ensures in
    record {
      grows = Grows-trans _ _ _ inv.grows one.grows;
      right = one.right;
      found = one_missing (length (regs (arrow_at old c.args.e))) _ c.loop-k.k l (found_of _ _ _ _ po pi false (found-none _ _ _ c.in_default.is one.found));
    }

pub regular_factors-returns-in_err-push : goal.regular_factors-returns-in_err-push
regular_factors-returns-in_err-push t c =
    let one = c.in_ok-found.ensures in
    Finds-err _ _ _ _ _ (Grows-trans _ _ _ c.loop-k.invariant.grows one.grows) one.right c.from_residual-in_err-push.ensures.0

pub regular_factors-loop-k-preserved : goal.regular_factors-loop-k-preserved
regular_factors-loop-k-preserved t c =
    let old = c.args.store.now in
    let inv = c.loop-k.invariant in
    let a : 0 < dimension_of (arrow_at old c.args.f) = omega arith in
    let has = has_factor_of _ _ c.requires.meet a in
    let ne = ap (λ u. length (regs u)) (inv.grows.arrow_trees c.args.e c.requires.outer) in
    let nf = ap (λ u. length (regs u)) (inv.grows.arrow_trees c.args.f c.requires.inner) in
    let nh = ap (λ u. length (heights u)) (inv.grows.arrow_trees c.args.f c.requires.inner) in
    let l : c.loop-k.k < length (regs (arrow_at old c.args.e)) = omega arith in
    let po = reg_is old _ c.args.e c.arrow_reg-outer.result inv.grows c.requires.outer c.loop-k.k c.arrow_reg-outer.ensures.tree in
    let pi = reg_is old _ c.args.f c.arrow_reg-inner.result inv.grows c.requires.inner c.loop-k.k c.arrow_reg-inner.ensures.tree in
    let one = c.in_ok-found.ensures in
    let is = found-some _ _ _ _ c.in-Some.is one.found in
    record {
      grows = Grows-trans _ _ _ inv.grows one.grows;
      right = one.right;
      has = more_there _ c.loop-k.k inv.has (found_of _ _ _ _ po pi true is.0);
      gathers = rw c.in_ok-push.ensures.ok (gathers-arrow_more _ _ _ _ _ _ inv.gathers one.grows is.1.of_store (is.1.tree ∙ (λ m. factor_tree (po m) (pi m))));
    }

pub regular_factors-returns : goal.regular_factors-returns
regular_factors-returns t c =
    let old = c.args.store.now in
    let inv = c.loop-k.invariant in
    let a : 0 < dimension_of (arrow_at old c.args.f) = omega arith in
    let has = has_factor_of _ _ c.requires.meet a in
    let ne = ap (λ u. length (regs u)) (inv.grows.arrow_trees c.args.e c.requires.outer) in
    let nf = ap (λ u. length (regs u)) (inv.grows.arrow_trees c.args.f c.requires.inner) in
    let nh = ap (λ u. length (heights u)) (inv.grows.arrow_trees c.args.f c.requires.inner) in
    let last : c.loop-k.k ≡ length (regs (arrow_at old c.args.e)) = omega arith in
    record {
      grows = inv.grows;
      right = inv.right;
      found = (
        all_there (length (regs (arrow_at old c.args.e))) _ (λ j l. inv.has j (omega arith)),
        subst (λ m. Gathers c.loop-k.store.arrows c.loop-k.ids.items m (reg_factor (arrow_at old c.args.e) (arrow_at old c.args.f))) last inv.gathers,
      );
    }

-- ---- singular slices

pub singular_factors-arrow_sing-outer-requires-clause-above : goal.singular_factors-arrow_sing-outer-requires-clause-above
singular_factors-arrow_sing-outer-requires-clause-above t c =
    let d = one_dimension _ _ c.requires.meet in
    let e = ap dimension_of (c.loop-i.invariant.grows.arrow_trees c.args.e c.requires.outer) in
    omega arith

pub singular_factors-arrow_sing-outer-requires-clause-within : goal.singular_factors-arrow_sing-outer-requires-clause-within
singular_factors-arrow_sing-outer-requires-clause-within t c =
    let old = c.args.store.now in
    let inv = c.loop-i.invariant in
    let a : 0 < dimension_of (arrow_at old c.args.f) = omega arith in
    let has = has_factor_of _ _ c.requires.meet a in
    let ne = ap (λ u. length (sings u)) (inv.grows.arrow_trees c.args.e c.requires.outer) in
    let nf = ap (λ u. length (sings u)) (inv.grows.arrow_trees c.args.f c.requires.inner) in
    let nh = ap (λ u. length (heights u)) (inv.grows.arrow_trees c.args.f c.requires.inner) in
    let l : c.loop-i.i < length (heights (arrow_at old c.args.f)) = omega arith in
    let place = height_place _ _ c.args.places.now.items c.loop-i.i c.requires.places l in
    let h = (hit_is _ _ has.outer_monotone (hit_at _ _ c.loop-i.i c.requires.hit l)).0 in
    let t = has.outer_len in
    let d = ap (λ (ids : List ℕ). get_or ids c.loop-i.i 0) c.deref.ensures in
    omega arith

pub singular_factors-arrow_sing-inner-requires-clause-within : goal.singular_factors-arrow_sing-inner-requires-clause-within
singular_factors-arrow_sing-inner-requires-clause-within t c =
    let old = c.args.store.now in
    let inv = c.loop-i.invariant in
    let a : 0 < dimension_of (arrow_at old c.args.f) = omega arith in
    let has = has_factor_of _ _ c.requires.meet a in
    let ne = ap (λ u. length (sings u)) (inv.grows.arrow_trees c.args.e c.requires.outer) in
    let nf = ap (λ u. length (sings u)) (inv.grows.arrow_trees c.args.f c.requires.inner) in
    let nh = ap (λ u. length (heights u)) (inv.grows.arrow_trees c.args.f c.requires.inner) in
    let l : c.loop-i.i < length (heights (arrow_at old c.args.f)) = omega arith in
    let place = height_place _ _ c.args.places.now.items c.loop-i.i c.requires.places l in
    let t = has.inner_len in
    omega arith

pub singular_factors-factor_once-requires : goal.singular_factors-factor_once-requires
singular_factors-factor_once-requires t c =
    let old = c.args.store.now in
    let inv = c.loop-i.invariant in
    let a : 0 < dimension_of (arrow_at old c.args.f) = omega arith in
    let has = has_factor_of _ _ c.requires.meet a in
    let ne = ap (λ u. length (sings u)) (inv.grows.arrow_trees c.args.e c.requires.outer) in
    let nf = ap (λ u. length (sings u)) (inv.grows.arrow_trees c.args.f c.requires.inner) in
    let nh = ap (λ u. length (heights u)) (inv.grows.arrow_trees c.args.f c.requires.inner) in
    let l : c.loop-i.i < length (heights (arrow_at old c.args.f)) = omega arith in
    let place = height_place _ _ c.args.places.now.items c.loop-i.i c.requires.places l in
    let po = sing_is old _ c.args.e c.arrow_sing-outer.result inv.grows c.requires.outer _ c.arrow_sing-outer.ensures.tree ∙ ap (sing_at (arrow_at old c.args.e)) (ap (λ (ids : List ℕ). get_or ids c.loop-i.i 0) c.deref.ensures ∙ place) in
    let pi = sing_is old _ c.args.f c.arrow_sing-inner.result inv.grows c.requires.inner c.loop-i.i c.arrow_sing-inner.ensures.tree in
    let dim = ap dimension_of pi in
    let n = dimension_of-arrow_sing (arrow_at old c.args.f) c.loop-i.i (c.requires.store.arrows c.args.f c.requires.inner) a (omega (arith, has.inner_len)) in (
      search rules,
      (c.arrow_sing-outer.ensures.of_store, (c.arrow_sing-inner.ensures.of_store, (omega arith, (into_same _ _ _ _ po pi (has.sings_are c.requires.hit c.loop-i.i l), (inv.right, inv.grows.store c.requires.store))))),
    )

pub singular_factors-returns-in_err-found : goal.singular_factors-returns-in_err-found
singular_factors-returns-in_err-found t c =
    let one = c.in_err-found.ensures in
    Finds-err _ _ _ _ _ (Grows-trans _ _ _ c.loop-i.invariant.grows one.grows) one.right c.from_residual.ensures.0

pub singular_factors-returns-in_default : goal.singular_factors-returns-in_default
singular_factors-returns-in_default t c =
    let old = c.args.store.now in
    let inv = c.loop-i.invariant in
    let a : 0 < dimension_of (arrow_at old c.args.f) = omega arith in
    let has = has_factor_of _ _ c.requires.meet a in
    let ne = ap (λ u. length (sings u)) (inv.grows.arrow_trees c.args.e c.requires.outer) in
    let nf = ap (λ u. length (sings u)) (inv.grows.arrow_trees c.args.f c.requires.inner) in
    let nh = ap (λ u. length (heights u)) (inv.grows.arrow_trees c.args.f c.requires.inner) in
    let l : c.loop-i.i < length (heights (arrow_at old c.args.f)) = omega arith in
    let place = height_place _ _ c.args.places.now.items c.loop-i.i c.requires.places l in
    let po = sing_is old _ c.args.e c.arrow_sing-outer.result inv.grows c.requires.outer _ c.arrow_sing-outer.ensures.tree ∙ ap (sing_at (arrow_at old c.args.e)) (ap (λ (ids : List ℕ). get_or ids c.loop-i.i 0) c.deref.ensures ∙ place) in
    let pi = sing_is old _ c.args.f c.arrow_sing-inner.result inv.grows c.requires.inner c.loop-i.i c.arrow_sing-inner.ensures.tree in
    let one = c.in_ok-found.ensures in
    record {
      grows = Grows-trans _ _ _ inv.grows one.grows;
      right = one.right;
      found = one_missing (length (heights (arrow_at old c.args.f))) _ c.loop-i.i l (found_of _ _ _ _ po pi false (found-none _ _ _ c.in_default.is one.found));
    }

pub singular_factors-returns-in_err-push : goal.singular_factors-returns-in_err-push
singular_factors-returns-in_err-push t c =
    let one = c.in_ok-found.ensures in
    Finds-err _ _ _ _ _ (Grows-trans _ _ _ c.loop-i.invariant.grows one.grows) one.right c.from_residual-in_err-push.ensures.0

pub singular_factors-loop-i-preserved : goal.singular_factors-loop-i-preserved
singular_factors-loop-i-preserved t c =
    let old = c.args.store.now in
    let inv = c.loop-i.invariant in
    let a : 0 < dimension_of (arrow_at old c.args.f) = omega arith in
    let has = has_factor_of _ _ c.requires.meet a in
    let ne = ap (λ u. length (sings u)) (inv.grows.arrow_trees c.args.e c.requires.outer) in
    let nf = ap (λ u. length (sings u)) (inv.grows.arrow_trees c.args.f c.requires.inner) in
    let nh = ap (λ u. length (heights u)) (inv.grows.arrow_trees c.args.f c.requires.inner) in
    let l : c.loop-i.i < length (heights (arrow_at old c.args.f)) = omega arith in
    let place = height_place _ _ c.args.places.now.items c.loop-i.i c.requires.places l in
    let po = sing_is old _ c.args.e c.arrow_sing-outer.result inv.grows c.requires.outer _ c.arrow_sing-outer.ensures.tree ∙ ap (sing_at (arrow_at old c.args.e)) (ap (λ (ids : List ℕ). get_or ids c.loop-i.i 0) c.deref.ensures ∙ place) in
    let pi = sing_is old _ c.args.f c.arrow_sing-inner.result inv.grows c.requires.inner c.loop-i.i c.arrow_sing-inner.ensures.tree in
    let one = c.in_ok-found.ensures in
    let is = found-some _ _ _ _ c.in-Some.is one.found in
    record {
      grows = Grows-trans _ _ _ inv.grows one.grows;
      right = one.right;
      has = more_there _ c.loop-i.i inv.has (found_of _ _ _ _ po pi true is.0);
      gathers = rw c.in_ok-push.ensures.ok (gathers-arrow_more _ _ _ _ _ _ inv.gathers one.grows is.1.of_store (is.1.tree ∙ (λ m. factor_tree (po m) (pi m))));
    }

pub singular_factors-returns : goal.singular_factors-returns
singular_factors-returns t c =
    let old = c.args.store.now in
    let inv = c.loop-i.invariant in
    let a : 0 < dimension_of (arrow_at old c.args.f) = omega arith in
    let has = has_factor_of _ _ c.requires.meet a in
    let ne = ap (λ u. length (sings u)) (inv.grows.arrow_trees c.args.e c.requires.outer) in
    let nf = ap (λ u. length (sings u)) (inv.grows.arrow_trees c.args.f c.requires.inner) in
    let nh = ap (λ u. length (heights u)) (inv.grows.arrow_trees c.args.f c.requires.inner) in
    let last : c.loop-i.i ≡ length (heights (arrow_at old c.args.f)) = omega arith in
    record {
      grows = inv.grows;
      right = inv.right;
      found = (
        all_there (length (heights (arrow_at old c.args.f))) _ (λ j l. inv.has j (omega arith)),
        subst (λ m. Gathers c.loop-i.store.arrows c.loop-i.ids.items m (sing_factor (arrow_at old c.args.e) (arrow_at old c.args.f))) last inv.gathers,
      );
    }
