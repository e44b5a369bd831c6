use Rattle.std.proofs.Common.{◌∙◌, None, arith}
use Rattle.std.proofs.lemmas.List.{get_or_default}
use Rattle.typecheck.proofs.Fields.{count, boundary_is}
use Rattle.typecheck.proofs.signature.Signature.boundary.Goals as goal

pub index-requires : goal.index-requires
index-requires c = let n = count c.self.inside c.args.self.now c.self.view_is c.self.invariant in omega arith

pub returns : goal.returns
returns c =
    let n = count c.self.inside c.args.self.now c.self.view_is c.self.invariant in
    let k = c.self.inside.boundaries.ok.0 in
    c.index.ensures ∙ get_or_default c.self.inside.boundaries.items c.args.i c.index.result.now None (omega arith)
    ∙ boundary_is c.self.inside c.args.self.now c.self.view_is c.self.invariant c.args.i
