use Rattle.std.proofs.Common.{sym, ap, subst, ◌∙◌}
use Rattle.hashcons.specs.Contents.{IsDiagramOf, diagram_at}
use Rattle.hashcons.specs.NoteTables.{key_of}
use Rattle.normalise.proofs.FormsInStore.{form_zero}
use Rattle.normalise.proofs.forms.whole.Goals as goal

pub returns : goal.returns
returns c =
    let h = c.in_ok-made.ensures in
    let new = c.identity.new.store in
    let g = h.made.grows in
    let s = ap (diagram_at new) h.source ∙ g.diagram_trees c.args.key.now.target c.requires.key.target.of_store in
    let a = h.made.tree in
    record {
      grows = g;
      leg = record {
        of_store = record { source = subst (IsDiagramOf new) (sym h.source) (g.diagrams _ c.requires.key.target.of_store); arrow = h.made.of_store };
        trees = (λ i. record { source = s i; arrow = a i }) ∙ sym (form_zero c.args.store.now (key_of c.args.key.now) c.requires.key c.requires.zero);
      };
    }
