use Rattle.std.proofs.Common.{rules}
use Rattle.hashcons.proofs.Growth.{Grows-trans}
use Rattle.region_cut.proofs.MapCuts.{source_tree, over_map, map_grows, arrow_tree_is, map_cut}
use Rattle.region_cut.proofs.cuts.cut_arrow.Goals as goal

pub arrow_cut-requires-clause-over : goal.arrow_cut-requires-clause-over
arrow_cut-requires-clause-over c =
    let m = c.requires.map in
    let grows = Grows-trans _ _ _ c.in_ok-source.ensures.made.grows c.in_ok-target.ensures.made.grows in
    over_map _ _ _ _ _ c.args.region.now (grows.arrow_trees c.args.f.arrow m.arrow) c.dim-dim.ensures.dim m.source.valid m.target.valid m.between c.requires.closed

pub returns-clause-made : goal.returns-clause-made
returns-clause-made c =
    let s = c.in_ok-source.ensures in
    let t = c.in_ok-target.ensures in
    record {
      grows = map_grows _ _ _ _ c.args.f c.args.region.now c.in_ok-pulled.pulled _ _ _ _ c.requires.map c.requires.closed c.in_ok-pulled.ensures.is s.made s.valid t.made t.valid c.dim-dim.ensures.dim c.in_ok-arrow.ensures;
      of_store = c.in_ok-arrow.ensures.of_store;
      tree = arrow_tree_is _ _ _ _ c.args.f c.args.region.now c.in_ok-pulled.pulled _ _ _ _ c.requires.map c.requires.closed c.in_ok-pulled.ensures.is s.made s.valid t.made t.valid c.dim-dim.ensures.dim c.in_ok-arrow.ensures;
    }

pub returns-clause-valid : goal.returns-clause-valid
returns-clause-valid c =
    let s = c.in_ok-source.ensures in
    let t = c.in_ok-target.ensures in
    map_cut _ _ _ _ c.args.f c.args.region.now c.in_ok-pulled.pulled _ _ _ _ c.requires.map c.requires.closed c.in_ok-pulled.ensures.is s.made s.valid t.made t.valid c.dim-dim.ensures.dim c.in_ok-arrow.ensures

pub returns-clause-source : goal.returns-clause-source
returns-clause-source c =
    let s = c.in_ok-source.ensures in
    let t = c.in_ok-target.ensures in
    source_tree _ _ _ _ c.args.f c.args.region.now c.in_ok-pulled.pulled _ _ _ _ c.requires.map c.requires.closed c.in_ok-pulled.ensures.is s.made s.valid t.made t.valid c.dim-dim.ensures.dim c.in_ok-arrow.ensures

pub returns-in_err-target-clause-made : goal.returns-in_err-target-clause-made
returns-in_err-target-clause-made c =
    let g = Grows-trans _ _ _ c.in_ok-source.ensures.made.grows c.in_err-target.ensures.made.grows in
    search rules

pub returns-in_err-arrow-clause-made : goal.returns-in_err-arrow-clause-made
returns-in_err-arrow-clause-made c =
    let g = Grows-trans _ _ _ (Grows-trans _ _ _ c.in_ok-source.ensures.made.grows c.in_ok-target.ensures.made.grows) c.in_err-arrow.ensures.grows in
    search rules
