use Rattle.std.proofs.Common.{◌≡◌, ℕ, ◌+◌, ◌∷◌, [], ◌++◌, sym, ap, subst, ◌∙◌, arith}
use Rattle.diagram_terms.specs.Shape.{reg_at}
use Rattle.diagram_terms.specs.Tree.{Tree}
use Rattle.hashcons.specs.Contents.{diagram_at}
use Rattle.hashcons.specs.NoteTables.{key_of}
use Rattle.hashcons.proofs.Growth.{Grows-trans}
use Rattle.zigzag_maps.proofs.KeptMaps.{valid_map-grows}
use Rattle.normalise.specs.FormTrees.{reg_normal}
use Rattle.normalise.specs.StoreForms.{IsLegInto, IsLegWith, legs_of}
use Rattle.normalise.proofs.FormsInStore.{leg_into-grows, leg_with-grows}
use Rattle.normalise.proofs.WaySteps.{form_with, form_inner, map_is-grows, way_is, way-grows, ways_key}
use Rattle.normalise.proofs.ways.singular_key.Goals as goal

pub way-requires-clause-inner : goal.way-requires-clause-inner
way-requires-clause-inner c =
    let now = c.args.store.now in
    subst (λ x. IsLegInto now (diagram_at now c.fwd_map-fwd.result.source) x) (sym c.form_at-source.ensures)
    (form_inner now (key_of c.args.key.now) c.requires.key c.requires.above c.args.forms.now c.requires.forms c.args.k (omega arith) _ c.fwd_map-fwd.ensures.is.source)

pub way-requires-2-clause-outer : goal.way-requires-2-clause-outer
way-requires-2-clause-outer c = valid_map-grows c.args.store.now c.way.new.store c.bwd_map-bwd.result c.in_ok-before.ensures.grows c.bwd_map-bwd.ensures.valid

pub way-requires-2-clause-inner : goal.way-requires-2-clause-inner
way-requires-2-clause-inner c =
    let now = c.args.store.now in
    let mid = c.way.new.store in
    let g = c.in_ok-before.ensures.grows in
    let bwd = c.bwd_map-bwd.result in
    let e = c.requires.next in
    let l = c.requires.within in
    let next : c.args.k + 1 ≡ c.args.next = omega arith in
    let there = form_inner now (key_of c.args.key.now) c.requires.key c.requires.above c.args.forms.now c.requires.forms c.args.next (omega arith) _
    (c.bwd_map-bwd.ensures.is.source ∙ ap (reg_at (diagram_at now c.args.key.now.target)) next) in
    subst (λ (t : Tree). IsLegInto mid t c.form_at-last.result) (sym (g.diagram_trees bwd.source c.bwd_map-bwd.ensures.valid.source.of_store))
    (subst (λ x. IsLegInto mid (diagram_at now bwd.source) x) (sym c.form_at-last.ensures) (leg_into-grows now mid _ _ g there))

pub returns-clause-key : goal.returns-clause-key
returns-clause-key c =
    let now = c.args.store.now in
    let mid = c.way.new.store in
    let new = c.way-2.new.store in
    let first = c.in_ok-before.ensures in
    let second = c.in_ok-behind.ensures in
    let k = c.args.k in
    let key = key_of c.args.key.now in
    let t = diagram_at now key.target in
    let gs = legs_of now key.legs in
    let fwd = c.fwd_map-fwd in
    let bwd = c.bwd_map-bwd in
    let e = c.requires.next in
    let l = c.requires.within in
    let here = subst (IsLegWith now (reg_normal t gs k)) (sym c.form_at-source.ensures)
    (form_with now key c.requires.key c.requires.above c.args.forms.now c.requires.forms k (omega arith)) in
    let next = subst (IsLegWith now (reg_normal t gs c.args.next)) (sym c.form_at-last.ensures)
    (form_with now key c.requires.key c.requires.above c.args.forms.now c.requires.forms c.args.next (omega arith)) in
    let last = subst (λ (j : ℕ). IsLegWith now (reg_normal t gs j) c.form_at-last.result) e next in
    let before = way_is now mid _ _ _ fwd.result c.form_at-source.result c.in_ok-before.before _ fwd.ensures.is here first.into first.trees in
    let behind = way_is mid new _ _ _ bwd.result c.form_at-last.result c.in_ok-behind.behind _
    (map_is-grows now mid _ _ _ bwd.result first.grows bwd.ensures.valid bwd.ensures.is) (leg_with-grows now mid _ _ first.grows last) second.into second.trees in
    let ids = c.in_ok-legs.ensures.ok ∙ c.as_slice.ensures.value ∙ c.in_ok-push-2.ensures.items ∙ ap (λ xs. xs ++ c.in_ok-behind.behind ∷ []) c.in_ok-push.ensures.items in
    ways_key now new (Grows-trans now mid new first.grows second.grows) key c.requires.key c.requires.above k c.requires.within c.sing-target.result
    c.in_ok-ways.ways.items c.in_ok-legs.legs.items c.in_ok-before.before c.in_ok-behind.behind c.sing-target.ensures.of_store c.sing-target.ensures.tree
    c.in_ok-ways.ensures (way-grows mid new _ _ _ second.grows before) behind ids
