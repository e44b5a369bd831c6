use Rattle.std.proofs.Common.{sym, subst}
use Rattle.hashcons.specs.Contents.{Key, IsNormalOf}
use Rattle.hashcons.specs.NoteTables.{key_of}
use Rattle.normalise.proofs.FormsInStore.{key-grows, form_grows, form_noted}
use Rattle.normalise.proofs.factors.note_with_factors.Goals as goal

pub note_normal-requires : goal.note_normal-requires
note_normal-requires c =
    let old = c.args.store.now in
    let now = c.factors_of.new.store in
    let key = key_of c.args.key.now in
    let made = c.in_ok-factors.ensures in
    subst (λ (k : Key). IsNormalOf now k (record { source = c.args.source; arrow = c.args.arrow; factors = c.in_ok-factors.factors.items })) (sym c.in_ok-copy.ensures)
    (form_noted now key (key-grows old now key made.grows c.requires.key) (c.args.source, c.args.arrow)
    (form_grows old now key made.grows c.requires.key (c.args.source, c.args.arrow) c.requires.form) c.in_ok-factors.factors.items made.factors)
