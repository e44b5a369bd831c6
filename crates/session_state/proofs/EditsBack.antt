-- Edits and those that take them back.
use Rattle.std.proofs.Common.{◌≡◌, ℕ, zero, suc, ◌-◌, ◌<◌, ◌≤◌, List, [], ◌∷◌, ◌++◌, length, take, get_or, All, refl, ap, subst, arith, ◌∙◌}
use Rattle.std.proofs.lemmas.List.{get_or_push, length_push, take_at}
use Rattle.std.proofs.lemmas.List.Edits.{get_or-insert_at, length-insert}
use Rattle.std.proofs.lemmas.List.Elements.{All-get_or}
use Rattle.std.specs.List.{insert, remove}

-- all but the last
pub front_of : {X : Type 0} (xs : List X) (x : X) → take (length (xs ++ x ∷ []) - 1) (xs ++ x ∷ []) ≡ xs
front_of xs x =
    let n = length_push xs x in
    take_at xs (x ∷ []) (length (xs ++ x ∷ []) - 1) (omega arith)

-- what was taken away goes back to its place
pub insert-remove : {X : Type 0} (xs : List X) (i : ℕ) (d : X) → i < length xs → insert (remove xs i) i (get_or xs i d) ≡ xs
insert-remove [] i d l = absurd (omega arith)
insert-remove (x ∷ xs) zero d l = refl
insert-remove (x ∷ xs) (suc i) d l = ap (λ ys. x ∷ ys) (insert-remove xs i d (omega arith))

pub back_in : {X : Type 0} (xs ys : List X) (i : ℕ) (x : X) → x ≡ get_or xs i x → ys ≡ remove xs i → i < length xs → insert ys i x ≡ xs
back_in xs ys i x e f l = (λ j. insert (f j) i (e j)) ∙ insert-remove xs i x l

-- what was put is taken away
pub remove-insert : {X : Type 0} (xs : List X) (i : ℕ) (y : X) → i ≤ length xs → remove (insert xs i y) i ≡ xs
remove-insert [] zero y l = refl
remove-insert [] (suc i) y l = absurd (omega arith)
remove-insert (x ∷ xs) zero y l = refl
remove-insert (x ∷ xs) (suc i) y l = ap (λ ys. x ∷ ys) (remove-insert xs i y (omega arith))

-- what holds of each item holds of the last one, and of one at a place
pub all_last : {X : Type 0} (P : X → Type 0) (xs : List X) (x : X) → All P (xs ++ x ∷ []) → P x
all_last P xs x h =
    let n = length_push xs x in
    subst P (get_or_push xs x x (length xs) refl) (All-get_or P (xs ++ x ∷ []) (length xs) x (omega arith) h)

pub all_put : {X : Type 0} (P : X → Type 0) (xs : List X) (i : ℕ) (y : X) → i ≤ length xs → All P (insert xs i y) → P y
all_put P xs i y l h =
    let n = length-insert xs i y l in
    subst P (get_or-insert_at xs i y y l) (All-get_or P (insert xs i y) i y (omega arith) h)
