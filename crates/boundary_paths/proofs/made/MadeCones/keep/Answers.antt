use Rattle.std.proofs.Common.{nat_eq, sym, ap, ◌∙◌}
use Rattle.std.specs.Map.{lookup}
use Rattle.std.proofs.lemmas.Map.Views.{exact_unsigned_eq}
use Rattle.hashcons.proofs.OneMoreNote.{puts-all}
use Rattle.boundary_paths.specs.Cones.{IsConeOf}
use Rattle.boundary_paths.proofs.made.MadeCones.keep.Goals as goal

pub returns-in_err-insert : goal.returns-in_err-insert
returns-in_err-insert c = λ s x h is. record {
  cones = λ d m e. h.cones d m (ap (lookup (nat_eq d)) (sym c.in_err-insert.ensures.err) ∙ e);
}

pub returns : goal.returns
returns c = λ s x h is. record {
  cones = puts-all nat_eq exact_unsigned_eq c.args.self.now.cones.entries c.insert.new.self.entries c.args.cone.now.source c.args.cone.now
      c.in_ok-insert.ensures.updates.0 (IsConeOf s x) h.cones is;
}
