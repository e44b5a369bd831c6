-- A store with one note more.
use Rattle.std.proofs.Common.{◌≡◌, ℕ, Bool, false, true≢false, nat_eq, cond, List, Some, sym, subst, ap, ◌∙◌}
use Rattle.std.specs.Map.{lookup}
use Rattle.std.specs.Prelude.{IsSome, is_some}
use Rattle.hashcons.specs.declared.view.ArrowView.{ArrowView}
use Rattle.hashcons.specs.declared.view.DiagramView.{DiagramView}
use Rattle.hashcons.specs.declared.notes.KnownNormal.{KnownNormal}
use Rattle.hashcons.specs.declared.notes.NormalKey.{NormalKey}
use Rattle.hashcons.specs.declared.notes.NoteTables.{NoteTables}
use Rattle.hashcons.specs.NoteTables.{notes_of, normals_of, key_of, normal_of}
use Rattle.hashcons.specs.Contents.{Contents, IsIdentityOf, IsCompositeOf, IsValidDiagram, IsValidTriple, IsNormalOf}
use Rattle.hashcons.specs.Notes.{Notes, Key, Normal, NotesMore, HasMore, same_pair, same_triple, same_key}
use Rattle.hashcons.specs.Tables.{contents_of, AreTables}
use Rattle.hashcons.proofs.OneMoreNote.{exact_number, exact_pair, exact_triple, exact_key, same_number-refl, same_pair-refl, same_key-refl, more_from, notes-all, all-stay, one_noted, noted_so, members-all, members-stay, one_identity, one_composite, Renotes, renotes}
use Rattle.hashcons.proofs.TablesOfNotes.{key_test, normals-known, normals-updates}

module _ (arrows : List ArrowView) (diagrams : List DiagramView) (notes : Notes) (tables : AreTables arrows diagrams notes) where
  abbrev here : Contents
  here = contents_of arrows diagrams notes

  module _ (d a : ℕ) (is : IsIdentityOf here d a) where
    -- it has no other note
    pub no_other_identity : (w : ℕ) → lookup (nat_eq d) notes.identities ≡ Some w → w ≡ a
    no_other_identity w e = one_identity here d w a tables.store (tables.store.notes.identities d w e) is

    module _ (ns : List (ℕ × ℕ)) (updates : (q : ℕ) → lookup (nat_eq q) ns ≡ cond (nat_eq d q) (Some a) (lookup (nat_eq q) notes.identities)) where
      pub identity_more : NotesMore nat_eq notes.identities ns d a
      identity_more = more_from nat_eq exact_number same_number-refl notes.identities ns d a no_other_identity updates

      pub identity_noted : lookup (nat_eq d) ns ≡ Some a
      identity_noted = noted_so nat_eq exact_number same_number-refl notes.identities ns d a identity_more no_other_identity

      pub identity_renotes : Renotes arrows diagrams notes (record notes { identities = ns })
      identity_renotes =
          let are = tables.store.notes in
          renotes arrows diagrams notes (record notes { identities = ns }) tables (record {
            identities = notes-all nat_eq exact_number same_number-refl notes.identities ns d a identity_more (IsIdentityOf here) are.identities is;
            composites = are.composites;
            valid = are.valid;
            valid_maps = are.valid_maps;
            normals = are.normals;
          }) (record {
            identities = all-stay nat_eq exact_number same_number-refl notes.identities ns d a identity_more;
            composites = λ k x e. e;
            valid = λ k e. e;
            valid_maps = λ k e. e;
            normals = λ k x e. e;
          })

  module _ (g f a : ℕ) (is : IsCompositeOf here g f a) where
    pub no_other_composite : (w : ℕ) → lookup (same_pair (g, f)) notes.composites ≡ Some w → w ≡ a
    no_other_composite w e = one_composite here g f w a tables.store (tables.store.notes.composites (g, f) w e) is

    module _ (ns : List ((ℕ × ℕ) × ℕ)) (updates : (q : ℕ × ℕ) → lookup (same_pair q) ns ≡ cond (same_pair (g, f) q) (Some a) (lookup (same_pair q) notes.composites)) where
      pub composite_more : NotesMore same_pair notes.composites ns (g, f) a
      composite_more = more_from same_pair exact_pair same_pair-refl notes.composites ns (g, f) a no_other_composite updates

      pub composite_noted : lookup (same_pair (g, f)) ns ≡ Some a
      composite_noted = noted_so same_pair exact_pair same_pair-refl notes.composites ns (g, f) a composite_more no_other_composite

      pub composite_renotes : Renotes arrows diagrams notes (record notes { composites = ns })
      composite_renotes =
          let are = tables.store.notes in
          renotes arrows diagrams notes (record notes { composites = ns }) tables (record {
            identities = are.identities;
            composites = notes-all same_pair exact_pair same_pair-refl notes.composites ns (g, f) a composite_more
                (λ p w. IsCompositeOf here p.0 p.1 w) are.composites is;
            valid = are.valid;
            valid_maps = are.valid_maps;
            normals = are.normals;
          }) (record {
            identities = λ k x e. e;
            composites = all-stay same_pair exact_pair same_pair-refl notes.composites ns (g, f) a composite_more;
            valid = λ k e. e;
            valid_maps = λ k e. e;
            normals = λ k x e. e;
          })

  pub valid_renotes : (d : ℕ) → IsValidDiagram here d → (ns : List ℕ) → HasMore nat_eq notes.valid ns d
      → Renotes arrows diagrams notes (record notes { valid = ns })
  valid_renotes d is ns more =
      let are = tables.store.notes in
      renotes arrows diagrams notes (record notes { valid = ns }) tables (record {
        identities = are.identities;
        composites = are.composites;
        valid = members-all nat_eq exact_number notes.valid ns d more (IsValidDiagram here) are.valid is;
        valid_maps = are.valid_maps;
        normals = are.normals;
      }) (record {
        identities = λ k x e. e;
        composites = λ k x e. e;
        valid = members-stay nat_eq exact_number notes.valid ns d more;
        valid_maps = λ k e. e;
        normals = λ k x e. e;
      })

  pub valid_map_renotes : (s t a : ℕ) → IsValidTriple here s t a → (ns : List (ℕ × ℕ × ℕ)) → HasMore same_triple notes.valid_maps ns (s, t, a)
      → Renotes arrows diagrams notes (record notes { valid_maps = ns })
  valid_map_renotes s t a is ns more =
      let are = tables.store.notes in
      renotes arrows diagrams notes (record notes { valid_maps = ns }) tables (record {
        identities = are.identities;
        composites = are.composites;
        valid = are.valid;
        valid_maps = members-all same_triple exact_triple notes.valid_maps ns (s, t, a) more (λ k. IsValidTriple here k.0 k.1 k.2) are.valid_maps is;
        normals = are.normals;
      }) (record {
        identities = λ k x e. e;
        composites = λ k x e. e;
        valid = λ k e. e;
        valid_maps = members-stay same_triple exact_triple notes.valid_maps ns (s, t, a) more;
        normals = λ k x e. e;
      })

  pub normal_renotes : (k : Key) (m : Normal) → IsNormalOf here k m → (ns : List (Key × Normal)) → NotesMore same_key notes.normals ns k m
      → Renotes arrows diagrams notes (record notes { normals = ns })
  normal_renotes k m is ns more =
      let are = tables.store.notes in
      renotes arrows diagrams notes (record notes { normals = ns }) tables (record {
        identities = are.identities;
        composites = are.composites;
        valid = are.valid;
        valid_maps = are.valid_maps;
        normals = notes-all same_key exact_key same_key-refl notes.normals ns k m more (IsNormalOf here) are.normals is;
      }) (record {
        identities = λ q x e. e;
        composites = λ q x e. e;
        valid = λ q e. e;
        valid_maps = λ q e. e;
        normals = all-stay same_key exact_key same_key-refl notes.normals ns k m more;
      })

-- a normal form that is noted for a key with none
pub record NormalNoted (arrows : List ArrowView) (diagrams : List DiagramView) (old : Notes) (ns : List (Key × Normal)) (k : Key) (m : Normal) : Type 0 where
  pub none : is_some (lookup (same_key k) old.normals) ≡ false
  pub more : NotesMore same_key old.normals ns k m
  pub noted : IsSome (lookup (same_key k) ns)
  pub renoted : Renotes arrows diagrams old (record old { normals = ns })

module _ (arrows : List ArrowView) (diagrams : List DiagramView) (table : NoteTables) (tables : AreTables arrows diagrams (notes_of table)) (k : NormalKey) (m : KnownNormal) where
  pub normal_known : (known : Bool) → known ≡ is_some (lookup (key_test k) table.normals.entries)
      → is_some (lookup (same_key (key_of k)) (notes_of table).normals) ≡ known
  normal_known known e = normals-known k table.normals.entries ∙ sym e

  pub normal_noted : (c : Contents) → contents_of arrows diagrams (notes_of table) ≡ c → IsNormalOf c (key_of k) (normal_of m)
      → (known : Bool) → known ≡ is_some (lookup (key_test k) table.normals.entries) → known ≡ false
      → (ns : List (NormalKey × KnownNormal)) → ((q : NormalKey) → lookup (key_test q) ns ≡ cond (key_test k q) (Some m) (lookup (key_test q) table.normals.entries))
      → NormalNoted arrows diagrams (notes_of table) (normals_of ns) (key_of k) (normal_of m)
  normal_noted c view is known e absent ns updates =
      let none = normal_known known e ∙ absent in
      let old = (notes_of table).normals in
      let more = more_from same_key exact_key same_key-refl old (normals_of ns) (key_of k) (normal_of m)
      (λ w f. absurd (true≢false (sym (ap is_some f) ∙ none))) (normals-updates k m table.normals.entries ns updates) in
      record {
        none = none;
        more = more;
        noted = one_noted same_key exact_key same_key-refl old (normals_of ns) (key_of k) (normal_of m) more;
        renoted = normal_renotes arrows diagrams (notes_of table) tables (key_of k) (normal_of m)
            (subst (λ s. IsNormalOf s (key_of k) (normal_of m)) (sym view) is) (normals_of ns) more;
      }
