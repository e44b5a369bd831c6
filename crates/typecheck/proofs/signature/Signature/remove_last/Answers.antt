use Rattle.std.proofs.Common.{◌≡◌, ◌∙◌, ◌-◌, ap, length, take, arith}
use Rattle.typecheck.specs.Signatures.{SignatureState}
use Rattle.typecheck.proofs.SideBySide.{entries_of-removed}
use Rattle.typecheck.proofs.signature.Signature.remove_last.Goals as goal

pub returns-clause-entries : goal.returns-clause-entries
returns-clause-entries c =
    let same : length c.take_last-boundary.new.self.items ≡ length c.take_last-dim.new.self.items =
    omega (arith, c.take_last-boundary.new.self.ok.0, c.take_last-dim.new.self.ok.0, c.self.invariant.0) in
    entries_of-removed _ _ _ _ _ _ c.take_last-boundary.ensures.items c.take_last-dim.ensures.items same
    ∙ ap (λ (s : SignatureState). take (length s.entries - 1) s.entries) c.self.view_is
