use Rattle.std.proofs.Common.{◌≡◌, ℕ, length, sym, subst, arith}
use Rattle.diagram_terms.specs.Tree.{Tree}
use Rattle.hashcons.specs.NoteTables.{key_of}
use Rattle.zigzag_maps.specs.declared.map.Map.{Map}
use Rattle.zigzag_maps.specs.Found.{IsValidMap}
use Rattle.degeneracy.specs.DegeneracyTrees.{IsFactorArrow}
use Rattle.hashcons.proofs.OneMoreTree.{Grows-refl}
use Rattle.hashcons.proofs.Growth.{Grows-trans}
use Rattle.normalise.specs.StoreForms.{IsFactorOf, AreFactorsOf}
use Rattle.normalise.proofs.FormsInStore.{key-grows, form_grows, form_map, form_degenerate, form_factors, leg_map-valid, factors_none, factors_more}
use Rattle.normalise.proofs.factors.factors_of.Goals as goal

pub loop-i-init : goal.loop-i-init
loop-i-init c = record {
  grows = Grows-refl c.args.store.now;
  factors = rw c.new-factors.ensures.items (factors_none c.args.store.now (key_of c.args.key.now) (c.args.source, c.args.arrow));
}

pub factor_of-requires-clause-valid : goal.factor_of-requires-clause-valid
factor_of-requires-clause-valid c =
    let now = c.loop-i.store in
    let key = key_of c.args.key.now in
    let h = key-grows c.args.store.now now key c.loop-i.invariant.grows c.requires.key in
    subst (IsValidMap now) (sym c.leg_map-leg.ensures) (leg_map-valid now key c.loop-i.i h (omega arith))

pub factor_of-requires-clause-through : goal.factor_of-requires-clause-through
factor_of-requires-clause-through c =
    let now = c.loop-i.store in
    let key = key_of c.args.key.now in
    let g = c.loop-i.invariant.grows in
    form_map now key (key-grows c.args.store.now now key g c.requires.key) (c.args.source, c.args.arrow)
    (form_grows c.args.store.now now key g c.requires.key (c.args.source, c.args.arrow) c.requires.form)

pub factor_of-requires-clause-degeneracy : goal.factor_of-requires-clause-degeneracy
factor_of-requires-clause-degeneracy c =
    let now = c.loop-i.store in
    let key = key_of c.args.key.now in
    let g = c.loop-i.invariant.grows in
    form_degenerate now key (key-grows c.args.store.now now key g c.requires.key) (c.args.source, c.args.arrow)
    (form_grows c.args.store.now now key g c.requires.key (c.args.source, c.args.arrow) c.requires.form)

pub factor_of-requires-clause-factors : goal.factor_of-requires-clause-factors
factor_of-requires-clause-factors c =
    let now = c.loop-i.store in
    let key = key_of c.args.key.now in
    let g = c.loop-i.invariant.grows in
    subst (λ (m : Map). (t : Tree) × IsFactorArrow now m (record { source = c.args.source; target = key.target; arrow = c.args.arrow }) t) (sym c.leg_map-leg.ensures)
    (form_factors now key (key-grows c.args.store.now now key g c.requires.key) (c.args.source, c.args.arrow)
    (form_grows c.args.store.now now key g c.requires.key (c.args.source, c.args.arrow) c.requires.form) c.loop-i.i (omega arith))

pub loop-i-preserved : goal.loop-i-preserved
loop-i-preserved c =
    let old = c.args.store.now in
    let now = c.loop-i.store in
    let new = c.factor_of.new.store in
    let key = key_of c.args.key.now in
    let g = c.loop-i.invariant.grows in
    let h = key-grows old now key g c.requires.key in
    let made = c.in_ok-factor_of.ensures in
    let one = subst (λ (m : Map). IsFactorOf new m (record { source = c.args.source; target = key.target; arrow = c.args.arrow }) c.in_ok-factor_of.field-0) c.leg_map-leg.ensures made.factor in
    record {
      grows = Grows-trans old now new g made.grows;
      factors = rw c.in_ok-push.ensures.items (factors_more now new key (c.args.source, c.args.arrow) c.loop-i.i c.in_ok-factor_of.field-0 c.loop-i.factors.items made.grows h
          (form_map now key h (c.args.source, c.args.arrow) (form_grows old now key g c.requires.key (c.args.source, c.args.arrow) c.requires.form)) (omega arith) c.loop-i.invariant.factors one);
    }

pub returns-clause-factors : goal.returns-clause-factors
returns-clause-factors c =
    let n : c.loop-i.i ≡ length c.args.key.now.legs.items = omega arith in
    subst (λ (m : ℕ). AreFactorsOf c.loop-i.store (key_of c.args.key.now) (c.args.source, c.args.arrow) m c.loop-i.factors.items) n c.loop-i.invariant.factors
