use Rattle.std.proofs.Common.{◌∙◌, eqb, rules, tests}
use Rattle.std.proofs.lemmas.Iterator.{YieldsList-from_slice}
use Rattle.std.proofs.lemmas.Iterator.Search.{all_from_yields_List}
use Rattle.zigzag_maps.specs.declared.map.Map.{Map}
use Rattle.session_undo.proofs.LegMaps.{into_trees}
use Rattle.session_undo.proofs.normal_forms.are_into.Goals as goal

pub returns-clause-trees : goal.returns-clause-trees
returns-clause-trees c = λ names e.
    all_from_yields_List (λ (m : Map). eqb m.target c.args.target) _ _ _ c.all.ensures.ran (YieldsList-from_slice c.args.maps.now cc) (λ x b q k. search (rules, tests))
    ∙ into_trees c.args.store.now c.allocator-allocator.ensures c.args.target c.requires.target names c.args.maps.now e c.requires.maps
