use Rattle.std.proofs.Common.{subst}
use Rattle.hashcons.proofs.Growth.{Grows-trans}
use Rattle.typecheck.specs.Signatures.{AreEndsOf, IsBoundaryOf, generators_of}
use Rattle.typecheck.proofs.GoodSignatures.{good-kept, good_generators-kept}
use Rattle.typecheck.proofs.AddAnswers.{target_tested}
use Rattle.typecheck.proofs.signature.Signature.check_ends.Goals as goal

pub check_end-requires-2-clause-good : goal.check_end-requires-2-clause-good
check_end-requires-2-clause-good c = good-kept c.args.store.now c.check_end.new.store c.args.self.now.entries c.check_end.ensures.grows c.requires.good

pub returns-clause-exact : goal.returns-clause-exact
returns-clause-exact c =
    let same = good_generators-kept c.args.store.now c.check_end.new.store c.args.self.now.entries c.check_end.ensures.grows c.requires.good in
    let ends : AreEndsOf c.args.store.now c.in-Some.ends.0 c.in-Some.ends.1 = subst (IsBoundaryOf c.args.store.now) c.in-Some.is c.requires.of_store in
    let tree = c.check_end.ensures.grows.diagram_trees c.in-Some.ends.1 ends.target in
    target_tested c.args.store.now (generators_of c.args.store.now c.args.self.now) c.args.boundary c.in-Some.ends.0 c.in-Some.ends.1
    c.in-Some.is c.check_end-2.result c.in_ok-check_end.ensures.exact
    (rw (← same, ← tree) c.check_end-2.ensures.exact)

pub returns-clause-grows : goal.returns-clause-grows
returns-clause-grows c = Grows-trans _ _ _ c.check_end.ensures.grows c.check_end-2.ensures.grows
