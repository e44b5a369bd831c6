-- Good names, and which names stand before.
use Rattle.std.specs.Prelude.{ℕ, List, length, Bool, not, ◌&&◌, ◌||◌, ◌==◌, nat_le, bytes_eq}
use Rattle.std.specs.BTreeSet.{BTreeSet, contains_by}
use Rattle.std.specs.Borrow.{Bor}
use Rattle.std.specs.Cmp.Lexicographic.{slice_cmp}
use Rattle.std.specs.List.{list_all, list_any}
use Rattle.std.specs.Ordering.{nat_cmp}
use Rattle.diagram_terms.specs.declared.limits.TheConstants.{MAX_NAME_LENGTH}

-- a byte from `!` to `~` that is none of `"`, `\` and `:`
abbrev pub is_name_byte : ℕ → Bool
is_name_byte b = nat_le 0x21 b && nat_le b 0x7E && not (b == 34) && not (b == 92) && not (b == 58)

-- such bytes, at least one and at most the greatest length of a name
abbrev pub is_good_name : List ℕ → Bool
is_good_name s = nat_le 1 (length s) && nat_le (length s) MAX_NAME_LENGTH && list_all is_name_byte s

-- a name is one of these
abbrev pub is_among : List (List ℕ) → List ℕ → Bool
is_among names name = list_any (bytes_eq name) names

-- a name that is taken, or is one of these
abbrev pub also : (List ℕ → Bool) → List (List ℕ) → List ℕ → Bool
also taken names name = taken name || is_among names name

-- the set has a name
abbrev pub has_name : BTreeSet (Bor (List ℕ)) → List ℕ → Bool
has_name names name = contains_by (λ k. slice_cmp nat_cmp name k.now) names
