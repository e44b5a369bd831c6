use Rattle.std.proofs.Common.{Some, sym, ◌∙◌, ap}
use Rattle.diagram_terms.specs.declared.place.End.TheVariants as at_end
use Rattle.diagram_terms.specs.Places.{ends_hold}
use Rattle.diagram_terms.proofs.Visiting.{here_passes, here_fails}
use Rattle.diagram_terms.proofs.bad_arrow.bad_pair.Goals as goal

pub returns-then-leg_fits : goal.returns-then-leg_fits
returns-then-leg_fits c = λ f x y s. sym (here_passes at_end.Ends (ends_hold x y f) (sym (c.leg_fits.ensures f x y s) ∙ c.if-leg_fits.true))

pub returns : goal.returns
returns c = λ f x y s. ap Some c.place_here.ensures ∙ sym (here_fails at_end.Ends (ends_hold x y f) (sym (c.leg_fits.ensures f x y s) ∙ c.if-leg_fits.false))
