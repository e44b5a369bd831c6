-- What is noted of the ids of a store.
use Rattle.std.specs.Prelude.{◌≡◌, ℕ, List, [], Bool, true, ◌&&◌, cond, nat_eq, Some, None, refl}
use Rattle.std.specs.Cmp.Lexicographic.{pointwise}
use Rattle.std.specs.Coded.{Coded, code_by, coded×, coded_list, coded_ℕ}
use Rattle.std.specs.List.{list_any}
use Rattle.std.specs.Map.{lookup}
use Rattle.std.specs.Option.{option_or}

-- a diagram and legs into it, each of them its source and its arrow
pub record Key : Type 0 where
  pub target : ℕ
  pub legs : List (ℕ × ℕ)

-- a map into the diagram, by its source and its arrow, and a factor of each leg through it
pub record Normal : Type 0 where
  pub source : ℕ
  pub arrow : ℕ
  pub factors : List ℕ

-- arrows by their diagrams, and by two arrows, of which the outer one comes first; valid diagrams, and valid maps by source,
-- target and arrow; and normal forms by their keys
pub record Notes : Type 0 where
  pub identities : List (ℕ × ℕ)
  pub composites : List ((ℕ × ℕ) × ℕ)
  pub valid : List ℕ
  pub valid_maps : List (ℕ × ℕ × ℕ)
  pub normals : List (Key × Normal)

abbrev pub no_notes : Notes
no_notes = record { identities = []; composites = []; valid = []; valid_maps = []; normals = [] }

-- ---- codes

abbrev coded_pair : Coded (ℕ × ℕ)
coded_pair = coded× coded_ℕ coded_ℕ

abbrev coded_triple : Coded (ℕ × ℕ × ℕ)
coded_triple = code_by ((ℕ × ℕ) × ℕ) (coded× coded_pair coded_ℕ) (λ k. ((k.0, k.1), k.2)) (λ p. (p.0.0, p.0.1, p.1)) (λ _. refl)

abbrev coded_key : Coded Key
coded_key = code_by (ℕ × List (ℕ × ℕ)) (coded× coded_ℕ (coded_list coded_pair)) (λ k. (k.target, k.legs)) (λ p. record { target = p.0; legs = p.1 }) (λ _. refl)

abbrev coded_normal : Coded Normal
coded_normal =
    code_by ((ℕ × ℕ) × List ℕ) (coded× coded_pair (coded_list coded_ℕ)) (λ m. ((m.source, m.arrow), m.factors))
    (λ p. record { source = p.0.0; arrow = p.0.1; factors = p.1 }) (λ _. refl)

abbrev pub coded_notes : Coded Notes
coded_notes =
    code_by ((List (ℕ × ℕ) × List ((ℕ × ℕ) × ℕ)) × ((List ℕ × List (ℕ × ℕ × ℕ)) × List (Key × Normal)))
    (coded× (coded× (coded_list coded_pair) (coded_list (coded× coded_pair coded_ℕ)))
    (coded× (coded× (coded_list coded_ℕ) (coded_list coded_triple)) (coded_list (coded× coded_key coded_normal))))
    (λ n. ((n.identities, n.composites), ((n.valid, n.valid_maps), n.normals)))
    (λ p. record { identities = p.0.0; composites = p.0.1; valid = p.1.0.0; valid_maps = p.1.0.1; normals = p.1.1 }) (λ _. refl)

-- ---- equal keys

abbrev pub same_pair : ℕ × ℕ → ℕ × ℕ → Bool
same_pair x y = nat_eq x.0 y.0 && nat_eq x.1 y.1

abbrev pub same_triple : ℕ × ℕ × ℕ → ℕ × ℕ × ℕ → Bool
same_triple x y = nat_eq x.0 y.0 && nat_eq x.1 y.1 && nat_eq x.2 y.2

abbrev pub same_key : Key → Key → Bool
same_key x y = nat_eq x.target y.target && pointwise same_pair x.legs y.legs

-- ---- one note more, and notes that stay

-- the second list of notes says what the first one says, and v of k where the first one says nothing of it
abbrev pub NotesMore : {K X : Type 0} → (K → K → Bool) → List (K × X) → List (K × X) → K → X → Type 0
NotesMore {K = K} eq old new k v = (q : K) → lookup (eq q) new ≡ option_or (lookup (eq q) old) (cond (eq k q) (Some v) None)

-- the second list has what the first one has, and k
abbrev pub HasMore : {K : Type 0} → (K → K → Bool) → List K → List K → K → Type 0
HasMore {K = K} eq old new k = (q : K) → list_any (eq q) new ≡ cond (eq k q) true (list_any (eq q) old)

-- each note of the first is one of the second
pub record KeepsNotes (old new : Notes) : Type 0 where
  pub identities : (d a : ℕ) → lookup (nat_eq d) old.identities ≡ Some a → lookup (nat_eq d) new.identities ≡ Some a
  pub composites : (k : ℕ × ℕ) (a : ℕ) → lookup (same_pair k) old.composites ≡ Some a → lookup (same_pair k) new.composites ≡ Some a
  pub valid : (d : ℕ) → list_any (nat_eq d) old.valid ≡ true → list_any (nat_eq d) new.valid ≡ true
  pub valid_maps : (k : ℕ × ℕ × ℕ) → list_any (same_triple k) old.valid_maps ≡ true → list_any (same_triple k) new.valid_maps ≡ true
  pub normals : (k : Key) (m : Normal) → lookup (same_key k) old.normals ≡ Some m → lookup (same_key k) new.normals ≡ Some m
