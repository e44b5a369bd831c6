use Rattle.std.proofs.Common.{◌≡◌, ◌∙◌, ap, List, ℕ, length, subst}
use Rattle.diagram_terms.specs.FaultsOnTrees.{diagram_fault}
use Rattle.diagram_terms.specs.Shape.{IsDiagram}
use Rattle.diagram_terms.specs.Tree.{Tree, sings}
use Rattle.hashcons.specs.Contents.{diagram_at}
use Rattle.workspace_json.specs.declared.reply.Reply.TheVariants.{Look}
use Rattle.hom_run.proofs.Looks.{looked}
use Rattle.hom_run.proofs.look.looked_at.Goals as goal

pub dim-requires : goal.dim-requires
dim-requires c = record { of_store = c.in_ok-valid.ensures.grows.diagrams c.args.diagram c.requires.of_store }

pub returns-clause-reply : goal.returns-clause-reply
returns-clause-reply c =
    let old = c.args.store.now in
    let d = c.args.diagram in
    let t = diagram_at old d in
    let kept : diagram_at c.valid.new.store d ≡ t = c.in_ok-valid.ensures.grows.diagram_trees d c.requires.of_store in
    let fault : c.place_of-at.result ≡ diagram_fault t = c.place_of-at.ensures ∙ c.in_ok-valid.ensures.exact in
    let shape : IsDiagram c.dim.result t = subst (IsDiagram c.dim.result) kept c.dim.ensures.shape in
    let len : c.length.result ≡ length (sings t) = c.length.ensures.length ∙ ap (λ (u : Tree). length (sings u)) kept in
    let name_is : c.in_ok-name.name ≡ c.args.name.now = c.in_ok-name.ensures in
    ap (λ (name : List ℕ). Look c.dim.result c.length.result name c.place_of-at.result) name_is
    ∙ looked c.args.name.now t c.dim.result c.length.result c.place_of-at.result shape len fault
