use Rattle.std.proofs.Common.{◌∙◌, sym}
use Rattle.typecheck.specs.Signatures.{generators_of}
use Rattle.typecheck.specs.declared.verdict.Verdict.TheVariants as verdict
use Rattle.hashcons.specs.Contents.{diagram_at}
use Rattle.typecheck.proofs.Fields.{dims_fit}
use Rattle.typecheck.proofs.GoodSignatures.{good-kept}
use Rattle.typecheck.proofs.AddAnswers.{yes_is_well_typed}
use Rattle.typecheck.proofs.signature.Signature.check.Goals as goal
use Rattle.typecheck.proofs.signature.Signature.check.Goals.{in-None, in-Some}

pub returns-in_err-first_fault-clause-good : goal.returns-in_err-first_fault-clause-good
returns-in_err-first_fault-clause-good c = good-kept c.args.store.now c.first_fault.new.store c.args.self.now.entries c.first_fault.ensures.grows c.requires.good

pub returns-clause-exact : goal.returns-clause-exact
returns-clause-exact c =
    let fit = dims_fit c.self.inside c.args.self.now c.self.view_is c.self.invariant c.args.store.now c.requires.good in
    let found = c.in_ok-first_fault.ensures.exact (generators_of c.args.store.now c.args.self.now) (fit ∙ sym c.deref.ensures.value) in
    elim c.match-branch-2.branch [
      | in-None w ↦ rw w.result-is (sym w.in-None.is ∙ found)
      | in-Some w ↦ rw w.result-is (sym w.in-Some.is ∙ found)
    ]

pub returns-clause-yes : goal.returns-clause-yes
returns-clause-yes c =
    let fit = dims_fit c.self.inside c.args.self.now c.self.view_is c.self.invariant c.args.store.now c.requires.good in
    let found = c.in_ok-first_fault.ensures.exact (generators_of c.args.store.now c.args.self.now) (fit ∙ sym c.deref.ensures.value) in
    let shape = c.allocator.ensures.diagrams c.args.d c.requires.of_store in
    let tells = yes_is_well_typed (generators_of c.args.store.now c.args.self.now) (diagram_at c.args.store.now c.args.d) in
    elim c.match-branch-2.branch [
      | in-None w ↦ rw w.result-is (tells verdict.Yes shape (sym w.in-None.is ∙ found))
      | in-Some w ↦ rw w.result-is (tells (verdict.No w.in-Some.fault) shape (sym w.in-Some.is ∙ found))
    ]

pub returns-clause-good : goal.returns-clause-good
returns-clause-good c = good-kept c.args.store.now c.first_fault.new.store c.args.self.now.entries c.first_fault.ensures.grows c.requires.good
