use Rattle.std.proofs.Common.{◌≡◌, ℕ, ◌+◌, ◌-◌, ◌<◌, List, [], ◌∷◌, length, get_or, Some, ap, ◌∙◌, arith, length-append}
use Rattle.std.proofs.lemmas.List.{get_or_push}
use Rattle.typecheck.specs.Signatures.{Entry, entry_of, no_entry}
use Rattle.typecheck.proofs.Ends.{ends_at}
use Rattle.typecheck.proofs.GoodSignatures.{good-kept}
use Rattle.library_tests.proofs.signatures.next_cone.Goals as goal

-- the new generator is the last one, and its boundary is what the cone stands over
pub cone-requires : goal.cone-requires
cone-requires c =
    let i : ℕ = c.len-last.result - 1 + 1 in
    let d : ℕ = c.in_ok-d.d in
    let was : List Entry = c.args.signature.now.entries in
    let entry : Entry = entry_of c.generator_type.new.store (Some (d, d)) in
    let at_end : length was ≡ i = let n = c.len-last.ensures in let some = c.requires.some in omega arith in
    let added = c.in_ok-add.ensures.added in
    let within : i < length c.add.new.self.entries =
    let n = ap length added in let m = length-append was (entry ∷ []) in omega arith in
    let stands = ap (λ (es : List Entry). get_or es i no_entry) added ∙ get_or_push was entry no_entry i at_end in
    let ends = ends_at c.add.new.store c.add.new.self.entries i d d c.label-label.result c.add.ensures.good within c.label-label.ensures
    (ap (λ (e : Entry). e.boundary) stands) in record {
      diagram = ends.source;
      labels = ends.source_labels;
    }

pub add-requires-clause-good : goal.add-requires-clause-good
add-requires-clause-good c = good-kept _ _ c.args.signature.now.entries c.generator_type.ensures.grows c.requires.good

pub returns-in_err-d-clause-good : goal.returns-in_err-d-clause-good
returns-in_err-d-clause-good c = good-kept _ _ c.args.signature.now.entries c.generator_type.ensures.grows c.requires.good

pub returns-in_err-cone-clause-good : goal.returns-in_err-cone-clause-good
returns-in_err-cone-clause-good c =
    good-kept c.add.new.store c.cone.new.store c.add.new.self.entries c.cone.ensures.made.grows c.add.ensures.good

pub returns-clause-good : goal.returns-clause-good
returns-clause-good c =
    good-kept c.add.new.store c.cone.new.store c.add.new.self.entries c.cone.ensures.made.grows c.add.ensures.good
