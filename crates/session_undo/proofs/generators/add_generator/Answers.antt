use Rattle.std.proofs.Common.{◌∙◌, ◌-◌, length, sym, subst}
use Rattle.hashcons.proofs.Growth.{Grows-trans}
use Rattle.typecheck.specs.Signatures.{AreGoodOver}
use Rattle.typecheck.proofs.GoodSignatures.{good-kept, good-take}
use Rattle.session_undo.proofs.AddedGenerators.{number_by_add, type_by_number}
use Rattle.session_undo.proofs.generators.add_generator.Goals as goal

pub returns-in-Ok-clause-good : goal.returns-in-Ok-clause-good
returns-in-Ok-clause-good c = good-kept c.add.new.store c.generator_type.new.store c.add.new.self.entries c.in-Ok.ensures.grows c.in_ok-label.ensures.good

pub returns-in-Err-clause-good : goal.returns-in-Err-clause-good
returns-in-Err-clause-good c =
    subst (AreGoodOver c.generator_type.new.store) (sym c.remove_last.ensures.entries)
    (good-take c.generator_type.new.store (length c.add.new.self.entries - 1) c.add.new.self.entries
    (good-kept c.add.new.store c.generator_type.new.store c.add.new.self.entries c.in-Err.ensures.grows c.in_ok-label.ensures.good))

pub returns-in-Ok-clause-made : goal.returns-in-Ok-clause-made
returns-in-Ok-clause-made c =
    let number = number_by_add c.args.store.now c.args.signature.now c.args.boundary c.in_ok-label.label c.in_ok-label.ensures.exact in
    record {
      grows = Grows-trans _ _ _ c.add.ensures.grows c.generator_type.ensures.grows;
      of_store = c.in-Ok.ensures.of_store;
      tree = c.in-Ok.ensures.tree
          ∙ type_by_number c.args.store.now c.add.new.store c.args.signature.now.entries c.add.new.self.entries c.args.boundary c.in_ok-label.label.number
          c.add.ensures.grows c.requires.of_store c.in_ok-label.ensures.added number;
    }

pub returns-in-Err-clause-made : goal.returns-in-Err-clause-made
returns-in-Err-clause-made c = record {
  grows = Grows-trans _ _ _ c.add.ensures.grows c.generator_type.ensures.grows;
  of_store = tt;
  tree = tt;
}
