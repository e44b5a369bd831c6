use Rattle.std.proofs.Common.{sym, subst}
use Rattle.diagram_terms.specs.Dimension.{IsArrowTree}
use Rattle.hashcons.specs.Contents.{arrow_at, diagram_at}
use Rattle.hashcons.proofs.Growth.{Makes-last, gathers-arrows_grow, gathers-below}
use Rattle.zigzag_maps.proofs.SliceMaps.{arrow_of_map}
use Rattle.degeneracy.proofs.PartsInStore.{described_simple}
use Rattle.degeneracy.proofs.PartsOnTrees.{part_shapes}
use Rattle.degeneracy.proofs.parts.simple_part.Goals as goal

pub put_arrow-requires-clause-children : goal.put_arrow-requires-clause-children
put_arrow-requires-clause-children c =
    let made = c.in_ok-sings.ensures in
    record {
      regs = gathers-below _ _ _ _ (gathers-arrows_grow _ _ _ _ _ made.grows c.requires.identities);
      sings = gathers-below _ _ _ _ made.gathers;
    }

pub put_arrow-requires-clause-shape : goal.put_arrow-requires-clause-shape
put_arrow-requires-clause-shape c =
    let old = c.args.store.now in
    let made = c.in_ok-sings.ensures in
    let is = described_simple c.singular_identities.new.store (diagram_at old c.args.f.now.source) (arrow_at old c.args.f.now.arrow)
    c.in_ok-heights.heights.items c.args.identities.items c.in_ok-sings.sings.items c.in_ok-heights.ensures
    (gathers-arrows_grow _ _ _ _ _ made.grows c.requires.identities) made.gathers in
    subst IsArrowTree (sym is) (part_shapes _ _ _ (arrow_of_map old c.args.f.now c.requires.valid) c.requires.above).simple

pub returns : goal.returns
returns c =
    let old = c.args.store.now in
    let made = c.in_ok-sings.ensures in
    let is = described_simple c.singular_identities.new.store (diagram_at old c.args.f.now.source) (arrow_at old c.args.f.now.arrow)
    c.in_ok-heights.heights.items c.args.identities.items c.in_ok-sings.sings.items c.in_ok-heights.ensures
    (gathers-arrows_grow _ _ _ _ _ made.grows c.requires.identities) made.gathers in
    Makes-last _ _ _ _ _ _ _ made.grows is c.put_arrow.ensures.made
