use Rattle.std.proofs.Common.{◌∙◌, ap, arith}
use Rattle.std.proofs.lemmas.List.{get_or_default}
use Rattle.diagram_terms.specs.declared.label.Label.{Label}
use Rattle.typecheck.proofs.Fields.{count, few, dim_is}
use Rattle.typecheck.proofs.signature.Signature.label.Goals as goal

pub index-dim-requires : goal.index-dim-requires
index-dim-requires c = let n = count c.self.inside c.args.self.now c.self.view_is c.self.invariant in omega arith

pub overflow_cast-result : goal.overflow_cast-result
overflow_cast-result c = let l = few c.self.inside c.args.self.now c.self.view_is c.self.invariant in omega arith

pub returns : goal.returns
returns c =
    let n = count c.self.inside c.args.self.now c.self.view_is c.self.invariant in
    let k = c.self.inside.dims.ok.0 in
    let same = c.self.invariant.0 in
    ap (λ m. let x : Label = record { number = c.args.i; dim = m } in x)
    (c.index-dim.ensures ∙ get_or_default c.self.inside.dims.items c.args.i c.index-dim.result.now 0 (omega arith)
    ∙ dim_is c.self.inside c.args.self.now c.self.view_is c.self.invariant c.args.i)
