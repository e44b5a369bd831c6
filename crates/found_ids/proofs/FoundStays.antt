-- A record with one more id, and that what was found out of ids stays so when one more is found, and when the store grows.
use Rattle.std.proofs.Common.{◌≡◌, true, ◌⊎◌, sym, subst, ◌∙◌, inl, inr}
use Rattle.std.proofs.lemmas.Bool.{cases_Bool, cond-true}
use Rattle.std.specs.HashSet as set
use Rattle.std.specs.HashSet.{HashSet}
use Rattle.diagram_terms.specs.Tree.{Tree}
use Rattle.hashcons.specs.declared.id.AnyId.{AnyId}
use Rattle.hashcons.specs.Contents.{Contents, Grows}
use Rattle.hashcons.specs.EqualIds.{id_eq}
use Rattle.hashcons.specs.Ids.{IsOf, tree_of}
use Rattle.hashcons.proofs.IdsOfTrees.{id_decides}
use Rattle.hashcons.proofs.PlacedIds.{id-kept}
use Rattle.found_ids.specs.declared.FoundIds.{FoundIds}
use Rattle.found_ids.specs.FoundIds.{IsFound, HaveFound}

-- a record with one more id
module _ {S : Type 0} (old new : HashSet AnyId S) (k : AnyId) (up : set.Updates id_eq old new k true) where
  pub kept : (x : AnyId) → set.contains id_eq old x ≡ true → set.contains id_eq new x ≡ true
  kept x e = elim (cases_Bool (id_eq k x)) [
    | inl h ↦ up.0 x ∙ cond-true (id_eq k x) true (set.contains id_eq old x) h
    | inr h ↦ up.2 x h ∙ e
  ]

  pub others : (x : AnyId) → set.contains id_eq new x ≡ true → (x ≡ k) ⊎ (set.contains id_eq old x ≡ true)
  others x e = elim (cases_Bool (id_eq k x)) [
    | inl h ↦ inl (sym ((id_decides k x).0 h))
    | inr h ↦ inr (sym (up.2 x h) ∙ e)
  ]

module _ (c : Contents) (P : Tree → Type 0) where
  pub none_found : (found : FoundIds) → ((x : AnyId) → IsFound found x → ⊥) → HaveFound c P found
  none_found found none = record { of_store = λ x e. absurd (none x e); are = λ x e. absurd (none x e) }

  pub one_more_found : (old new : FoundIds) (k : AnyId) → HaveFound c P old → ((x : AnyId) → IsFound new x → (x ≡ k) ⊎ IsFound old x)
      → IsOf c k → P (tree_of c k) → HaveFound c P new
  one_more_found old new k h more l p = record {
    of_store = λ x e. elim (more x e) [ inl is ↦ subst (IsOf c) (sym is) l | inr was ↦ h.of_store x was ];
    are = λ x e. elim (more x e) [ inl is ↦ subst (λ y. P (tree_of c y)) (sym is) p | inr was ↦ h.are x was ];
  }

pub found-grows : (old new : Contents) (P : Tree → Type 0) (found : FoundIds) → Grows old new → HaveFound old P found → HaveFound new P found
found-grows old new P found g h = record {
  of_store = λ x e. (id-kept old new g x (h.of_store x e)).0;
  are = λ x e. subst P (sym (id-kept old new g x (h.of_store x e)).1) (h.are x e);
}
