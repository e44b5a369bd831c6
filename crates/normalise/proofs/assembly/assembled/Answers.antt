use Rattle.std.proofs.Common.{◌∙◌, ap, ◌++◌, ◌∷◌, [], ℕ}
use Rattle.hashcons.specs.NoteTables.{key_of}
use Rattle.hashcons.proofs.Growth.{Grows-trans}
use Rattle.normalise.proofs.AssembledForms.{source_there, source_is, source_shape, arrow_there, arrow_is, arrow_shape, put_leg}
use Rattle.normalise.proofs.assembly.assembled.Goals as goal

pub put_diagram-requires-clause-children : goal.put_diagram-requires-clause-children
put_diagram-requires-clause-children c =
    let r = c.requires in
    let regs = c.in_ok-push.ensures.ok ∙ ap (λ (x : ℕ × ℕ). c.args.left.regs.items ++ x.0 ∷ []) c.form_at-reg.ensures in
    source_there c.args.store.now (key_of c.args.key.now) r.key r.above c.args.last r.last c.args.left c.args.forms r.forms r.left c.push.new.self.items regs

pub put_diagram-requires-clause-shape : goal.put_diagram-requires-clause-shape
put_diagram-requires-clause-shape c =
    let r = c.requires in
    let regs = c.in_ok-push.ensures.ok ∙ ap (λ (x : ℕ × ℕ). c.args.left.regs.items ++ x.0 ∷ []) c.form_at-reg.ensures in
    source_shape c.args.store.now (key_of c.args.key.now) r.key r.above c.args.last r.last c.args.left c.args.forms r.forms r.left c.push.new.self.items regs

pub put_arrow-requires-clause-children : goal.put_arrow-requires-clause-children
put_arrow-requires-clause-children c =
    let r = c.requires in
    arrow_there c.args.store.now (key_of c.args.key.now) r.key r.above c.args.last r.last c.args.left c.args.forms r.forms r.left
    c.put_diagram.new.self c.in_ok-source.ensures.made.grows

pub put_arrow-requires-clause-shape : goal.put_arrow-requires-clause-shape
put_arrow-requires-clause-shape c =
    let r = c.requires in
    arrow_shape c.args.store.now (key_of c.args.key.now) r.key r.above c.args.last r.last c.args.left c.args.forms r.forms r.left
    c.put_diagram.new.self c.in_ok-source.ensures.made.grows

pub returns : goal.returns
returns c =
    let r = c.requires in
    let old = c.args.store.now in
    let mid = c.put_diagram.new.self in
    let new = c.put_arrow.new.self in
    let source = c.in_ok-source.ensures.made in
    let arrow = c.in_ok-arrow.ensures.made in
    let regs = c.in_ok-push.ensures.ok ∙ ap (λ (x : ℕ × ℕ). c.args.left.regs.items ++ x.0 ∷ []) c.form_at-reg.ensures in
    let s = source_is old (key_of c.args.key.now) r.key r.above c.args.last r.last c.args.left c.args.forms r.forms r.left c.push.new.self.items regs in
    let a = arrow_is old (key_of c.args.key.now) r.key r.above c.args.last r.last c.args.left c.args.forms r.forms r.left mid source.grows in
    record {
      grows = Grows-trans old mid new source.grows arrow.grows;
      leg = put_leg mid new _ c.in_ok-source.source c.in_ok-arrow.arrow arrow.grows source.of_store (source.tree ∙ s) arrow.of_store (arrow.tree ∙ a);
    }
