use Rattle.std.proofs.Common.{◌∙◌, inr, sym, ap, option_map}
use Rattle.diagram_terms.specs.Obstacles.{ill_typed}
use Rattle.typecheck.specs.Outcomes.{refusal_by}
use Rattle.typecheck.specs.Signatures.{generators_of}
use Rattle.typecheck.proofs.Fields.{dims_fit}
use Rattle.typecheck.proofs.signature.Signature.check_end.Goals as goal

pub returns-in-None-clause-exact : goal.returns-in-None-clause-exact
returns-in-None-clause-exact c =
    let fit = dims_fit c.self.inside c.args.self.now c.self.view_is c.self.invariant c.args.store.now c.requires.good in
    let found = c.in_ok-first_fault.ensures.exact (generators_of c.args.store.now c.args.self.now) (fit ∙ sym c.deref.ensures.value) in
    ap (option_map (λ f. ill_typed f)) (sym found ∙ c.in-None.is)

pub returns-in-Some-clause-exact : goal.returns-in-Some-clause-exact
returns-in-Some-clause-exact c =
    let fit = dims_fit c.self.inside c.args.self.now c.self.view_is c.self.invariant c.args.store.now c.requires.good in
    let found = c.in_ok-first_fault.ensures.exact (generators_of c.args.store.now c.args.self.now) (fit ∙ sym c.deref.ensures.value) in
    inr (ap (λ f. option_map refusal_by (option_map (λ g. ill_typed g) f)) (sym found ∙ c.in-Some.is))
