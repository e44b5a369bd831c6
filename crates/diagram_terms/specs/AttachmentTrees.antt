-- Occurrences and attachment, on the trees that a store holds.
use Rattle.std.specs.Prelude.{ℕ, zero, suc, List, Option}
use Rattle.diagram_terms.specs.declared.label.Label.{Label}
use Rattle.diagram_terms.specs.declared.place.Side.{Side}
use Rattle.diagram_terms.specs.declared.place.Side.TheVariants as side
use Rattle.diagram_terms.specs.Decoded.{dia, dia_tree}
use Rattle.diagram_terms.specs.Family.{Dia}
use Rattle.diagram_terms.specs.OnTrees.{on_diagram}
use Rattle.diagram_terms.specs.Tree.{Tree}
use Rattle.diagram_terms.specs.Occurrences.{refused_step, matches}
use Rattle.diagram_terms.specs.Attachment.{attached_at_target, attached_at_source}

-- the step at which s is refused inside b, which has its dimension
unfoldable pub refused_step_tree : Tree → List ℕ → Tree → Option ℕ
refused_step_tree b e s = on_diagram (λ n B. refused_step n B e (dia n s) 0) b

-- the offsets at which s is inside b, in order
unfoldable pub matches_tree : Tree → Tree → List (List ℕ)
matches_tree b s = on_diagram (λ n B. matches n B (dia n s)) b

-- D with a generator with the boundary s, t and the label x attached on a side; in dimension 0 there is none
abbrev pub attached_on : Side → (n : ℕ) → Dia n → List ℕ → Tree → Tree → Label → Dia n
attached_on end zero D e s t x = D
attached_on side.Target (suc d) D e s t x = attached_at_target d D e (dia d s) (dia d t) x
attached_on side.Source (suc d) D e s t x = attached_at_source d D e (dia d s) (dia d t) x

-- a diagram with a generator attached on a side
unfoldable pub attached_tree : Side → Tree → List ℕ → Tree → Tree → Label → Tree
attached_tree end b e s t x = on_diagram (λ n D. dia_tree n (attached_on end n D e s t x)) b
