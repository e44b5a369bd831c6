-- The notes of normal forms, by the keys of their table.
use Rattle.std.proofs.Common.{◌≡◌, List, [], ◌∷◌, cond, Bool, true, false, Bor, Option, Some, None, refl, sym, ap, ◌∙◌}
use Rattle.std.specs.Map.{lookup}
use Rattle.std.specs.Option.{option_map, option_copied}
use Rattle.std.specs.Prelude.{IfSome, is_some}
use Rattle.hashcons.specs.declared.notes.KnownNormal.{KnownNormal}
use Rattle.hashcons.specs.declared.notes.NormalKey.{NormalKey}
use Rattle.hashcons.specs.Notes.{Key, Normal, same_key}
use Rattle.hashcons.specs.NoteTables.{key_of, normal_of, normals_of}

-- the test of the keys of the table
abbrev pub key_test : NormalKey → NormalKey → Bool
key_test x y = same_key (key_of x) (key_of y)

-- a note as the table has it
pub normals-lookup : (k : Key) (ns : List (NormalKey × KnownNormal)) → lookup (same_key k) (normals_of ns) ≡ option_map normal_of (lookup (λ x. same_key k (key_of x)) ns)
normals-lookup k [] = refl
normals-lookup k (n ∷ ns) = by (same_key k (key_of n.0)) (normals-lookup k ns)
  where
    by : (b : Bool) → lookup (same_key k) (normals_of ns) ≡ option_map normal_of (lookup (λ x. same_key k (key_of x)) ns)
        → cond b (Some (normal_of n.1)) (lookup (same_key k) (normals_of ns)) ≡ option_map normal_of (cond b (Some n.1) (lookup (λ x. same_key k (key_of x)) ns))
    by true e = refl
    by false e = e

-- whether it has one
pub normals-known : (k : NormalKey) (ns : List (NormalKey × KnownNormal)) → is_some (lookup (same_key (key_of k)) (normals_of ns)) ≡ is_some (lookup (key_test k) ns)
normals-known k ns = ap is_some (normals-lookup (key_of k) ns) ∙ by (lookup (key_test k) ns)
  where
    by : (o : Option KnownNormal) → is_some (option_map normal_of o) ≡ is_some o
    by None = refl
    by (Some m) = refl

pub normals-copied : (r : Option (Bor KnownNormal)) → option_map (λ m. normal_of m.now) r ≡ option_map normal_of (option_copied r)
normals-copied None = refl
normals-copied (Some m) = refl

pub normals-right : (P : Normal → Type 0) (r : Option (Bor KnownNormal)) (o : Option Normal) → option_map (λ m. normal_of m.now) r ≡ o
    → ((m : Normal) → o ≡ Some m → P m) → IfSome r (λ m. P (normal_of m.now))
normals-right P None o e h = tt
normals-right P (Some m) o e h = h (normal_of m.now) (sym e)

-- one note more in the table is one more of them
pub normals-updates : (k : NormalKey) (m : KnownNormal) (old new : List (NormalKey × KnownNormal))
    → ((q : NormalKey) → lookup (key_test q) new ≡ cond (key_test k q) (Some m) (lookup (key_test q) old))
    → (q : Key) → lookup (same_key q) (normals_of new) ≡ cond (same_key (key_of k) q) (Some (normal_of m)) (lookup (same_key q) (normals_of old))
normals-updates k m old new updates q =
    let key : NormalKey = record { target = q.target; legs = record { items = q.legs; capacity = 0 } } in
    normals-lookup q new ∙ ap (option_map normal_of) (updates key) ∙ by (same_key (key_of k) q) (normals-lookup q old)
  where
    by : (b : Bool) → lookup (same_key q) (normals_of old) ≡ option_map normal_of (lookup (λ x. same_key q (key_of x)) old)
        → option_map normal_of (cond b (Some m) (lookup (λ x. same_key q (key_of x)) old)) ≡ cond b (Some (normal_of m)) (lookup (same_key q) (normals_of old))
    by true e = refl
    by false e = sym e
