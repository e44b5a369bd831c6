-- Entries from boundaries and dimensions, side by side.
use Rattle.std.proofs.Common.{◌≡◌, ℕ, zero, suc, ◌-◌, List, [], ◌∷◌, ◌++◌, length, get_or, map, take, Option, None, refl, sym, ap, ◌∙◌, arith, length-append}
use Rattle.std.proofs.lemmas.List.{take_at}
use Rattle.typecheck.specs.Signatures.{Entry, no_entry, entries_of}

-- a boundary and a dimension
abbrev entry : Option (ℕ × ℕ) → ℕ → Entry
entry b n = record { boundary = b; dim = n }

pub length-entries_of : (bs : List (Option (ℕ × ℕ))) (ns : List ℕ) → length bs ≡ length ns → length (entries_of bs ns) ≡ length bs
length-entries_of [] ns e = refl
length-entries_of (b ∷ bs) [] e = absurd (omega arith)
length-entries_of (b ∷ bs) (n ∷ ns) e = let same : length bs ≡ length ns = omega arith in ap suc (length-entries_of bs ns same)

pub entries_of-push : (bs : List (Option (ℕ × ℕ))) (ns : List ℕ) (b : Option (ℕ × ℕ)) (n : ℕ) → length bs ≡ length ns
    → entries_of (bs ++ b ∷ []) (ns ++ n ∷ []) ≡ entries_of bs ns ++ record { boundary = b; dim = n } ∷ []
entries_of-push [] [] b n e = refl
entries_of-push [] (m ∷ ns) b n e = absurd (omega arith)
entries_of-push (a ∷ bs) [] b n e = absurd (omega arith)
entries_of-push (a ∷ bs) (m ∷ ns) b n e =
    let same : length bs ≡ length ns = omega arith in ap (λ es. entry a m ∷ es) (entries_of-push bs ns b n same)

-- without the last of each
pub entries_of-removed : (bs rest : List (Option (ℕ × ℕ))) (ns others : List ℕ) (b : Option (ℕ × ℕ)) (n : ℕ) → bs ≡ rest ++ b ∷ []
    → ns ≡ others ++ n ∷ [] → length rest ≡ length others
    → entries_of rest others ≡ take (length (entries_of bs ns) - 1) (entries_of bs ns)
entries_of-removed bs rest ns others b n e f same =
    let whole : entries_of bs ns ≡ entries_of rest others ++ entry b n ∷ [] =
    ap (λ xs. entries_of xs ns) e ∙ ap (λ ms. entries_of (rest ++ b ∷ []) ms) f ∙ entries_of-push rest others b n same in
    let front : length (entries_of rest others) ≡ length (entries_of rest others ++ entry b n ∷ []) - 1 =
    rw length-append (omega arith) in
    sym (ap (λ es. take (length es - 1) es) whole ∙ take_at (entries_of rest others) (entry b n ∷ []) _ front)

pub boundary_at : (bs : List (Option (ℕ × ℕ))) (ns : List ℕ) (i : ℕ) → length bs ≡ length ns
    → (get_or (entries_of bs ns) i no_entry).boundary ≡ get_or bs i None
boundary_at [] ns i e = refl
boundary_at (b ∷ bs) [] i e = absurd (omega arith)
boundary_at (b ∷ bs) (n ∷ ns) zero e = refl
boundary_at (b ∷ bs) (n ∷ ns) (suc i) e = boundary_at bs ns i (omega arith)

pub dim_at : (bs : List (Option (ℕ × ℕ))) (ns : List ℕ) (i : ℕ) → length bs ≡ length ns
    → (get_or (entries_of bs ns) i no_entry).dim ≡ get_or ns i 0
dim_at [] [] i e = refl
dim_at [] (n ∷ ns) i e = absurd (omega arith)
dim_at (b ∷ bs) [] i e = absurd (omega arith)
dim_at (b ∷ bs) (n ∷ ns) zero e = refl
dim_at (b ∷ bs) (n ∷ ns) (suc i) e = dim_at bs ns i (omega arith)

pub dims-entries_of : (bs : List (Option (ℕ × ℕ))) (ns : List ℕ) → length bs ≡ length ns → map (λ e. e.dim) (entries_of bs ns) ≡ ns
dims-entries_of [] [] e = refl
dims-entries_of [] (n ∷ ns) e = absurd (omega arith)
dims-entries_of (b ∷ bs) [] e = absurd (omega arith)
dims-entries_of (b ∷ bs) (n ∷ ns) e = ap (λ ms. n ∷ ms) (dims-entries_of bs ns (omega arith))
