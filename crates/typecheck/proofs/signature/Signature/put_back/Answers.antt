use Rattle.std.proofs.Common.{◌∙◌, ◌∷◌, ◌++◌, [], ap, arith, length-append}
use Rattle.typecheck.specs.Signatures.{Entry, entry_of}
use Rattle.typecheck.proofs.Fields.{count, pushed}
use Rattle.typecheck.proofs.signature.Signature.put_back.Goals as goal

pub invariant_of-self : goal.invariant_of-self
invariant_of-self c =
    let n = count c.self.inside c.args.self.now c.self.view_is c.self.invariant in
    let more = length-append c.args.self.now.entries (entry_of c.args.store.now c.args.boundary ∷ []) in
    let few = c.requires.good.few in
    let same = c.self.invariant.0 in (omega arith, omega arith)

pub returns-clause-entries : goal.returns-clause-entries
returns-clause-entries c =
    pushed c.self.inside c.args.self.now c.self.view_is c.self.invariant _ _ _ _ c.push_reserved.ensures.items c.push_reserved-2.ensures.items
    ∙ ap (λ n. c.args.self.now.entries ++ (let e : Entry = record { boundary = c.args.boundary; dim = n } in e) ∷ []) c.dim_of-dim.ensures
