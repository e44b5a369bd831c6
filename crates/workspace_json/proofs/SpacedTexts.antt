-- Texts with one space between them, as one more comes.
use Rattle.std.proofs.Common.{◌≡◌, ℕ, ◌<◌, List, [], ◌∷◌, ◌++◌, length, codes, refl, ap, sym, ◌∙◌, append_assoc, arith}
use Rattle.workspace_json.specs.Places.{spaced}

-- the first text comes without a space
pub spaced_first : (texts : List (List ℕ)) (next : List ℕ) → length texts ≡ 0 → spaced (texts ++ next ∷ []) ≡ spaced texts ++ next
spaced_first [] next none = refl
spaced_first (text ∷ texts) next none = absurd (omega arith)

-- each other one after a space
pub spaced_next : (texts : List (List ℕ)) (next : List ℕ) → 0 < length texts → spaced (texts ++ next ∷ []) ≡ (spaced texts ++ codes " ") ++ next
spaced_next [] next some = absurd (omega arith)
spaced_next (text ∷ []) next some = sym (append_assoc text (codes " ") next)
spaced_next (text ∷ other ∷ texts) next some =
    ap (λ rest. text ++ 32 ∷ rest) (spaced_next (other ∷ texts) next (omega arith))
    ∙ sym (append_assoc text (32 ∷ spaced (other ∷ texts) ++ codes " ") next)
    ∙ ap (λ front. front ++ next) (sym (append_assoc text (32 ∷ spaced (other ∷ texts)) (codes " ")))
