use Rattle.std.proofs.Common.{ap, sym, ◌∙◌}
use Rattle.std.specs.Map.{lookup}
use Rattle.hashcons.specs.Contents.{same_pair}
use Rattle.degeneracy.specs.FactorKeeps.{IsKeptFactor}
use Rattle.hashcons.proofs.OneMoreNote.{puts-all}
use Rattle.degeneracy.proofs.KeptFactors.{exact_pair}
use Rattle.degeneracy.proofs.factor_kept.FactorKept.keep.Goals as goal

pub returns-in_err-insert : goal.returns-in_err-insert
returns-in_err-insert c = λ s h is. record {
  factors = λ e f g n. h.factors e f g (ap (λ es. lookup (same_pair (e, f)) es) (sym c.in_err-insert.ensures.err) ∙ n);
}

pub returns : goal.returns
returns c = λ s h is. record {
  factors = λ e f g n. puts-all same_pair exact_pair _ _ _ _ c.in_ok-insert.ensures.updates.0 (λ p w. IsKeptFactor s p.0 p.1 w)
      (λ p w. h.factors p.0 p.1 w) is (e, f) g n;
}
