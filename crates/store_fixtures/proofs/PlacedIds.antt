-- What stands at a place of the ids under which a store has the trees of a list of nodes.
use Rattle.std.proofs.Common.{◌≡◌, ℕ, ◌<◌, List, length, slice_get, get_or, Some, sym, ap, ◌∙◌, subst, arith}
use Rattle.std.proofs.lemmas.Option.{slice_get_within, slice_get-get_or, same_Some}
use Rattle.diagram_terms.specs.Tree.{Tree}
use Rattle.hashcons.specs.declared.id.AnyId.{AnyId}
use Rattle.hashcons.specs.declared.id.AnyId.TheVariants as id
use Rattle.hashcons.specs.Contents.{Contents}
use Rattle.hashcons.specs.Ids.{IsOf, GathersIds, id_at, tree_of}

module _ (c : Contents) (ids : List AnyId) (n : ℕ) (f : ℕ → Tree) (held : GathersIds c ids n f) (place : ℕ) (x : AnyId) where
  module _ (found : slice_get ids place ≡ Some x) where
    pub within : place < n
    within = let l = slice_get_within ids place x found in let e = held.len in omega arith

    same : id_at ids place ≡ x
    same =
        let l = slice_get_within ids place x found in
        same_Some (id_at ids place) x (sym (slice_get-get_or ids place (id.Diagram 0) l) ∙ found)

    pub id_of_store : IsOf c x
    id_of_store = subst (IsOf c) same (held.of_store place within)

    pub id_tree : tree_of c x ≡ f place
    id_tree = sym (ap (tree_of c) same) ∙ held.are place within

  -- an id that was read at a place of the list
  pub read_id_of_store : place < length ids → x ≡ get_or ids place x → IsOf c x
  read_id_of_store l is = id_of_store (slice_get-get_or ids place x l ∙ ap Some (sym is))
