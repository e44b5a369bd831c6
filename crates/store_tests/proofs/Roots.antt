-- Ids of a store that may be the roots of a listing.
use Rattle.std.proofs.Common.{◌≡◌, ℕ, ◌<◌, List, [], ◌∷◌, ◌++◌, length, slice_get, Some, sym, subst, arith, inl, inr, ◌⊎◌}
use Rattle.std.proofs.lemmas.List.{length_push, get_or_append_left, get_or_push}
use Rattle.std.proofs.lemmas.Option.{get_or_from_slice_get, slice_get_within}
use Rattle.diagram_terms.specs.Tree.{Tree}
use Rattle.hashcons.specs.declared.id.AnyId.{AnyId}
use Rattle.hashcons.specs.declared.id.AnyId.TheVariants as id
use Rattle.hashcons.specs.Contents.{Contents}
use Rattle.hashcons.specs.Ids.{IsOf, GathersIds, id_at}
use Rattle.hashcons.specs.Listing.{AreOf}

-- ids that were put
pub gathered_ids : (c : Contents) (ids : List AnyId) (n : ℕ) (f : ℕ → Tree) → GathersIds c ids n f → AreOf c ids
gathered_ids c ids n f g = record { of_store = λ i l. g.of_store i (let k = g.len in omega arith) }

pub no_ids : (c : Contents) → AreOf c []
no_ids c = record { of_store = λ i l. absurd (omega (arith, l)) }

-- an id among them
pub found_id : (c : Contents) (ids : List AnyId) (i : ℕ) (x : AnyId) → AreOf c ids → slice_get ids i ≡ Some x → IsOf c x
found_id c ids i x of is =
    let within : i < length ids = slice_get_within ids i x is in
    subst (IsOf c) (get_or_from_slice_get ids i x (id.Diagram 0) is) (of.of_store i within)

-- one id more
pub more_ids : (c : Contents) (ids : List AnyId) (x : AnyId) → AreOf c ids → IsOf c x → AreOf c (ids ++ x ∷ [])
more_ids c ids x of is = record { of_store = λ i l. by i (cut i l) }
  where
    cut : (i : ℕ) → i < length (ids ++ x ∷ []) → (i < length ids) ⊎ (length ids ≡ i)
    cut i l = let k = length_push ids x in grind (arith, k, l)

    by : (i : ℕ) → (i < length ids) ⊎ (length ids ≡ i) → IsOf c (id_at (ids ++ x ∷ []) i)
    by i (inl q) = subst (IsOf c) (sym (get_or_append_left ids (x ∷ []) (id.Diagram 0) i q)) (of.of_store i q)
    by i (inr q) = subst (IsOf c) (sym (get_or_push ids x (id.Diagram 0) i q)) is

pub ruleset root_ids = (no_ids, found_id, more_ids)
