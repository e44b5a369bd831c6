-- What was found out of ids is so.
use Rattle.std.specs.Prelude.{◌≡◌, ◌↔◌, true}
use Rattle.std.specs.HashSet as set
use Rattle.diagram_terms.specs.Tree.{Tree}
use Rattle.hashcons.specs.declared.id.AnyId.{AnyId}
use Rattle.hashcons.specs.Contents.{Contents}
use Rattle.hashcons.specs.EqualIds.{id_eq}
use Rattle.hashcons.specs.Ids.{IsOf, tree_of}
use Rattle.found_ids.specs.declared.FoundIds.{FoundIds}

-- it was found out of the id
abbrev pub IsFound : FoundIds → AnyId → Type 0
IsFound found x = set.contains id_eq found.ids x ≡ true

-- the two records are of the same ids
abbrev pub HoldSame : FoundIds → FoundIds → Type 0
HoldSame one other = (x : AnyId) → IsFound one x ↔ IsFound other x

-- each id that was found is of the store, and P is true of its tree
pub record HaveFound (c : Contents) (P : Tree → Type 0) (found : FoundIds) : Type 0 where
  pub of_store : (x : AnyId) → IsFound found x → IsOf c x
  pub are : (x : AnyId) → IsFound found x → P (tree_of c x)
