-- Regular slices of an arrow of a store, beside some ids.
use Rattle.std.proofs.Common.{◌≡◌, ℕ, ◌<◌, List, length, get_or, ◌∙◌, subst}
use Rattle.std.proofs.lemmas.List.{ext_get_or}
use Rattle.diagram_terms.specs.Tree.{nil, regs}
use Rattle.diagram_terms.specs.Nodes.{picked}
use Rattle.diagram_terms.specs.Shape.{reg_at}
use Rattle.hashcons.specs.Contents.{Contents, arrow_at}
use Rattle.hashcons.proofs.TableTrees.{length-picked, get_or-picked}

pub all_same : (c : Contents) (a : ℕ) (ids : List ℕ) → length ids ≡ length (regs (arrow_at c a))
    → ((j : ℕ) → j < length ids → arrow_at c (get_or ids j 0) ≡ reg_at (arrow_at c a) j)
    → picked c.arrows ids ≡ regs (arrow_at c a)
all_same c a ids e h =
    ext_get_or nil (picked c.arrows ids) (regs (arrow_at c a)) (length-picked c.arrows ids ∙ e)
    (λ k l. let m : k < length ids = subst (λ n. k < n) (length-picked c.arrows ids) l in get_or-picked c.arrows ids k 0 m ∙ h k m)
