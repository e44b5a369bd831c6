use Rattle.std.proofs.Common.{length, rules, ◌+◌, sym, subst, ◌∙◌, ap, arith}
use Rattle.diagram_terms.specs.Dimension.{dimension_of, IsArrowTree}
use Rattle.diagram_terms.specs.Tree.{sings}
use Rattle.diagram_terms.specs.Dual.{upto}
use Rattle.diagram_terms.specs.Shape.{reg_at, sing_at}
use Rattle.diagram_terms.proofs.Dimensions.{arrow_tree, dimension_of-sing_at}
use Rattle.diagram_terms.proofs.Shapes.{IsArrow-ends}
use Rattle.hashcons.specs.Contents.{diagram_at}
use Rattle.hashcons.proofs.OneMoreTree.{Grows-refl}
use Rattle.hashcons.proofs.Growth.{Grows-trans, identity-made, Makes-before, Makes-last, makes-more}
use Rattle.zigzag_maps.proofs.IdentitySlices.{identity_tree-point, described_identity, slice_identity, IsArrowTree-identity_tree}
use Rattle.zigzag_maps.proofs.identities.+identities.Goals as goal

pub identity_anew-put_arrow-requires-clause-shape :
    goal.identity_anew-put_arrow-requires-clause-shape
identity_anew-put_arrow-requires-clause-shape t c = arrow_tree 0 _ (IsArrow-ends _ _)

pub identity_anew-returns-then-dim-eq0 :
    goal.identity_anew-returns-then-dim-eq0
identity_anew-returns-then-dim-eq0 t c =
    Makes-last _ _ _ _ _ _ _ (Grows-refl _) (rw c.label-x.ensures (sym (identity_tree-point c.label-x.result))) c.put_arrow.ensures.made

pub identity_anew-put_arrow-requires-2-clause-shape :
    goal.identity_anew-put_arrow-requires-2-clause-shape
identity_anew-put_arrow-requires-2-clause-shape t c =
    let old = c.args.store.now in
    let is =
    described_identity old c.regular_identities.new.store c.singular_identities.new.store c.args.d c.in_ok-heights.heights.items _ _ c.requires.store c.requires.of_store (omega arith)
    (c.in_ok-heights.ensures ∙ ap upto c.length.ensures.length) c.in_ok-regs.ensures c.in_ok-sings.ensures
    in
    subst IsArrowTree (sym is) (IsArrowTree-identity_tree (diagram_at old c.args.d) (c.requires.store.diagrams c.args.d c.requires.of_store))

pub identity_anew-returns : goal.identity_anew-returns
identity_anew-returns t c =
    let old = c.args.store.now in
    let is =
    described_identity old c.regular_identities.new.store c.singular_identities.new.store c.args.d c.in_ok-heights.heights.items _ _ c.requires.store c.requires.of_store (omega arith)
    (c.in_ok-heights.ensures ∙ ap upto c.length.ensures.length) c.in_ok-regs.ensures c.in_ok-sings.ensures
    in
    Makes-last _ _ _ _ _ _ _ (Grows-trans _ _ _ c.in_ok-regs.ensures.grows c.in_ok-sings.ensures.grows) is c.put_arrow-2.ensures.made

pub regular_identities-loop-i-preserved : goal.regular_identities-loop-i-preserved
regular_identities-loop-i-preserved t c =
    let inv = c.loop-i.invariant in
    let made = c.in_ok-identity_arrow-2.ensures in
    record {
      grows = Grows-trans _ _ _ inv.grows made.grows;
      gathers = rw c.in_ok-push-2.ensures.ok (makes-more _ _ _ _ _ _ _ inv.gathers made
          (slice_identity c.args.store.now c.loop-i.store c.args.d c.reg-slice.result (λ u. reg_at u (c.loop-i.i + 1)) inv.grows c.requires.of_store c.reg-slice.ensures.tree));
    }

pub singular_identities-loop-i-preserved : goal.singular_identities-loop-i-preserved
singular_identities-loop-i-preserved t c =
    let inv = c.loop-i.invariant in
    let made = c.in_ok-identity_arrow.ensures in
    record {
      grows = Grows-trans _ _ _ inv.grows made.grows;
      gathers = rw c.in_ok-push.ensures.ok (makes-more _ _ _ _ _ _ _ inv.gathers made
          (slice_identity c.args.store.now c.loop-i.store c.args.d c.sing-slice.result (λ u. sing_at u c.loop-i.i) inv.grows c.requires.of_store c.sing-slice.ensures.tree));
    }

pub identity_arrow-note_identity-requires : goal.identity_arrow-note_identity-requires
identity_arrow-note_identity-requires t c = identity-made _ _ _ _ c.requires.of_store c.in_ok-arrow.ensures

pub identity_arrow-returns : goal.identity_arrow-returns
identity_arrow-returns t c = Makes-before _ _ _ _ _ _ c.in_ok-arrow.ensures c.note_identity.ensures.grows

pub singular_identities-identity_arrow-requires : goal.singular_identities-identity_arrow-requires
singular_identities-identity_arrow-requires t c =
    let inv = c.loop-i.invariant in
    let same = inv.grows.diagram_trees c.args.d c.requires.of_store in
    let shape = (inv.grows.store c.requires.store).diagrams c.args.d (inv.grows.diagrams _ c.requires.of_store) in
    let n = ap (λ u. length (sings u)) same in
    let e = ap dimension_of same in
    let below = dimension_of-sing_at (diagram_at c.loop-i.store c.args.d) c.loop-i.i shape (omega arith) in
    let s = ap dimension_of c.sing-slice.ensures.tree in
    (search rules, (c.sing-slice.ensures.of_store, omega arith))
