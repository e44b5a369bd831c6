use Rattle.std.proofs.Common.{◌≡◌, ◌≤◌, ℕ, suc, map}
use Rattle.diagram_terms.specs.Composable.{AreComposableRegs, AreComposableSings}
use Rattle.diagram_terms.specs.Decoded.{arr_tree}
use Rattle.diagram_terms.specs.Dual.{dual, tab}
use Rattle.diagram_terms.specs.Family.{Arr}
use Rattle.diagram_terms.specs.Values.{trees_of_arrows}
use Rattle.diagram_terms.proofs.Composites.{made_reg, made_sing}
use Rattle.diagram_terms.proofs.composite.+composites.Given as goal

abbrev pub invariant-composite_regs-loop-k : goal.invariant-composite_regs-loop-k
invariant-composite_regs-loop-k l = (l.at ≤ dual l.heights l.k)
    × ((d : ℕ) (g f : Arr (suc d)) → AreComposableRegs d g f l.second l.first l.heights → trees_of_arrows l.made.items ≡ map (arr_tree d) (tab (made_reg d g f) l.k))

abbrev pub invariant-composite_sings-loop-i : goal.invariant-composite_sings-loop-i
invariant-composite_sings-loop-i l =
    (d : ℕ) (g f : Arr (suc d)) → AreComposableSings d g f l.second l.first l.heights → trees_of_arrows l.made.items ≡ map (arr_tree d) (tab (made_sing d g f) l.i)
