use Rattle.std.proofs.Common.{ℕ, get_or, sym, subst, ◌∙◌}
use Rattle.std.proofs.lemmas.List.{get_or_default}
use Rattle.degeneracy.specs.FactorTrees.{factor_tree}
use Rattle.hashcons.specs.Contents.{diagram_at}
use Rattle.hashcons.specs.NormalTrees.{tree_leg_at}
use Rattle.hashcons.specs.NoteTables.{key_of, normal_of}
use Rattle.normalise.specs.FormTrees.{normal_tree}
use Rattle.normalise.specs.StoreForms.{IsArrowOut, IsArrowWith, legs_of}
use Rattle.normalise.proofs.FormsInStore.{known_len, known_factor_is, known_factor_out}
use Rattle.normalise.proofs.known.known_factor.Goals as goal

pub returns-clause-out : goal.returns-clause-out
returns-clause-out c =
    let now = c.args.store.now in
    let key = c.args.key.now in
    let right = c.in-Some.ensures.right in
    let l = known_len now (key_of key) (normal_of c.in-Some.known.now) right c.args.i c.requires.within in
    let items = c.in-Some.known.now.factors.items in
    subst (λ (a : ℕ). IsArrowOut now (get_or key.legs.items c.args.i (0, 0)).0 a)
    (get_or_default items c.args.i 0 c.index.result.now l ∙ sym c.index.ensures)
    (known_factor_out now (key_of key) (normal_of c.in-Some.known.now) right c.args.i c.requires.within c.requires.key)

pub returns-clause-factor : goal.returns-clause-factor
returns-clause-factor c =
    let now = c.args.store.now in
    let key = c.args.key.now in
    let right = c.in-Some.ensures.right in
    let l = known_len now (key_of key) (normal_of c.in-Some.known.now) right c.args.i c.requires.within in
    let items = c.in-Some.known.now.factors.items in
    subst (λ (a : ℕ). IsArrowWith now (factor_tree (normal_tree (diagram_at now key.target) (legs_of now key.legs.items)).arrow (tree_leg_at (legs_of now key.legs.items) c.args.i).arrow) a)
    (get_or_default items c.args.i 0 c.index.result.now l ∙ sym c.index.ensures)
    (known_factor_is now (key_of key) (normal_of c.in-Some.known.now) right c.args.i c.requires.within)
