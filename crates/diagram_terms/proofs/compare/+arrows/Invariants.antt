use Rattle.std.proofs.Common.{◌≡◌, length, take}
use Rattle.diagram_terms.specs.Values.{trees_of_arrows}
use Rattle.diagram_terms.proofs.compare.+arrows.Given as goal

abbrev pub invariant-all_arrows_equal-loop-i : goal.invariant-all_arrows_equal-loop-i
invariant-all_arrows_equal-loop-i l = (length l.xs ≡ length l.ys) × (take l.i (trees_of_arrows l.xs) ≡ take l.i (trees_of_arrows l.ys))
