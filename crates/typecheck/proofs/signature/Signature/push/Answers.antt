use Rattle.std.proofs.Common.{◌∙◌, ◌∷◌, ◌++◌, [], ap, arith}
use Rattle.diagram_terms.specs.declared.label.Label.{Label}
use Rattle.typecheck.proofs.Fields.{count, pushed}
use Rattle.typecheck.proofs.signature.Signature.push.Goals as goal

pub invariant_of-self-2 : goal.invariant_of-self-2
invariant_of-self-2 c =
    let n = count c.self.inside c.args.self.now c.self.view_is c.self.invariant in
    let same = c.self.invariant.0 in
    let first = c.in_ok-reserve.ensures.len in
    let second = c.in_ok-reserve-2.ensures.len in (omega arith, omega arith)

pub returns-clause-label : goal.returns-clause-label
returns-clause-label c =
    let n = count c.self.inside c.args.self.now c.self.view_is c.self.invariant in
    ap (λ k. let x : Label = record { number = k; dim = c.args.dim } in x) (omega (arith, c.in_ok-reserve.ensures.len, c.len-number.ensures))

pub returns-clause-added : goal.returns-clause-added
returns-clause-added c =
    pushed c.self.inside c.args.self.now c.self.view_is c.self.invariant _ _ _ _
    (c.push_reserved.ensures.items ∙ ap (λ bs. bs ++ c.args.boundary ∷ []) c.in_ok-reserve.ensures.items)
    (c.push_reserved-2.ensures.items ∙ ap (λ ns. ns ++ c.args.dim ∷ []) c.in_ok-reserve-2.ensures.items)
