use Rattle.std.proofs.Common.{◌∙◌}
use Rattle.diagram_terms.proofs.ArrowLevels.{pair_answer}
use Rattle.diagram_terms.proofs.HeldArrows.{no_zig_at_zero}
use Rattle.diagram_terms.proofs.HeldDiagrams.{no_zigzag_at_zero}
use Rattle.diagram_terms.proofs.bad_arrow.leg_fits.Goals as goal

pub unreachable-requires : goal.unreachable-requires
unreachable-requires c = let r = c.requires in no_zig_at_zero r.0 _ _ _ _ c.in_default.is r.3.leg_is

pub unreachable-requires-in_default-from : goal.unreachable-requires-in_default-from
unreachable-requires-in_default-from c = let r = c.requires in no_zigzag_at_zero r.1 _ _ _ _ _ c.in_default-from.is r.3.from_is

pub unreachable-requires-in_default-to : goal.unreachable-requires-in_default-to
unreachable-requires-in_default-to c = let r = c.requires in no_zigzag_at_zero r.2 _ _ _ _ _ c.in_default-to.is r.3.to_is

pub returns : goal.returns
returns c = λ f X Y s. c.pair_fits.ensures ∙ pair_answer f X Y _ _ _ _ _ _ _ c.in-Zero.is c.in-Zero-from.is c.in-Zero-to.is s
