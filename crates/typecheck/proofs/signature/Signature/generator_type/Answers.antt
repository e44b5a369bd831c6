use Rattle.std.proofs.Common.{◌∙◌, sym}
use Rattle.typecheck.proofs.Ends.{ends_at, type_alone, type_between}
use Rattle.typecheck.proofs.signature.Signature.generator_type.Goals as goal

pub type_over-requires : goal.type_over-requires
type_over-requires c =
    let ends = ends_at c.args.store.now c.args.self.now.entries c.args.i c.in-Some.ends.0 c.in-Some.ends.1 c.label-label.result
    c.requires.good c.requires.within c.label-label.ensures (sym c.boundary-boundary.ensures ∙ c.in-Some.is) in record {
      source = ends.source;
      target = ends.target;
      source_labels = ends.source_labels;
      target_labels = ends.target_labels;
      parallel = ends.parallel;
    }

pub returns-in-None : goal.returns-in-None
returns-in-None c =
    let e = type_alone c.args.store.now c.args.self.now.entries c.args.i c.label-label.result c.requires.good c.requires.within
    c.label-label.ensures (sym c.boundary-boundary.ensures ∙ c.in-None.is) in rw (← e) c.put_diagram.ensures.made

pub returns-in-Some : goal.returns-in-Some
returns-in-Some c =
    let e = type_between c.args.store.now c.args.self.now.entries c.args.i c.label-label.result c.requires.good c.requires.within
    c.label-label.ensures c.in-Some.ends.0 c.in-Some.ends.1 (sym c.boundary-boundary.ensures ∙ c.in-Some.is) in rw (← e) c.type_over.ensures.made
