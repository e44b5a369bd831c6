-- The names that a set has, as a test of names.
use Rattle.std.proofs.Common.{◌≡◌, ℕ, List, [], ◌∷◌, ◌++◌, Bool, true, false, cond, ◌||◌, Bor, BTreeSet, bytes_eq, nat_cmp, refl, ap, sym, ◌∙◌}
use Rattle.std.proofs.lemmas.Cmp.{nat_list_eq_equiv}
use Rattle.std.proofs.lemmas.Map.Text.{is_eq-slice_cmp}
use Rattle.std.proofs.lemmas.List.Folds.{list_any-append}
use Rattle.std.proofs.Math.Bool.{or_assoc}
use Rattle.std.specs.BTreeMap.{is_at}
use Rattle.std.specs.BTreeSet.{Updates}
use Rattle.std.specs.List.{list_any}
use Rattle.std.specs.Cmp.Lexicographic.{slice_cmp}
use Rattle.serde_json.specs.Data.{Data}
use Rattle.diagram_terms.specs.declared.node.Sort.{Sort}
use Rattle.node_json.specs.Names.{is_among, also, has_name}

either_or : (a b : Bool) → cond b true a ≡ a || (b || false)
either_or true true = refl
either_or true false = refl
either_or false true = refl
either_or false false = refl

-- a set after a name went in
pub has_name-inserted : (old new : BTreeSet (Bor (List ℕ))) (key : Bor (List ℕ)) → Updates (λ x y. slice_cmp nat_cmp x.now y.now) old new key true
    → has_name new ≡ also (has_name old) (key.now ∷ [])
has_name-inserted old new key updates =
    let at : (q : List ℕ) → has_name new q ≡ also (has_name old) (key.now ∷ []) q =
    λ q. updates.0 (record { ref_ptr = (0, 0); now = q }) ∙ ap (λ b. cond b true (has_name old q)) (is_eq-slice_cmp key.now q ∙ nat_list_eq_equiv.symm key.now q) ∙ either_or (has_name old q) (bytes_eq q key.now) in
    λ i q. at q i

-- an empty set takes no name
pub has_name_empty : (names : BTreeSet (Bor (List ℕ))) → names.keys ≡ [] → has_name names ≡ is_among []
has_name_empty names empty = λ i q. list_any (is_at (λ (k : Bor (List ℕ)). slice_cmp nat_cmp q k.now)) (empty i)

pub also_is_among : (xs ys : List (List ℕ)) → also (is_among xs) ys ≡ is_among (xs ++ ys)
also_is_among xs ys =
    let at : (q : List ℕ) → also (is_among xs) ys q ≡ is_among (xs ++ ys) q = λ q. sym (list_any-append (bytes_eq q) xs ys) in
    λ i q. at q i

pub also-push : (taken : List ℕ → Bool) (xs : List (List ℕ)) (x : List ℕ) → also (also taken xs) (x ∷ []) ≡ also taken (xs ++ x ∷ [])
also-push taken xs x =
    let at : (q : List ℕ) → also (also taken xs) (x ∷ []) q ≡ also taken (xs ++ x ∷ []) q =
    λ q. or_assoc (taken q) (is_among xs q) (is_among (x ∷ []) q) ∙ ap (λ b. taken q || b) (sym (list_any-append (bytes_eq q) xs (x ∷ []))) in
    λ i q. at q i

-- the names of a first list, and of one more
pub after_first : (names : BTreeSet (Bor (List ℕ))) (new : List ℕ → Bool) (xs : List (List ℕ)) → names.keys ≡ [] → new ≡ also (has_name names) xs → new ≡ is_among xs
after_first names new xs empty after = after ∙ ap (λ t. also t xs) (has_name_empty names empty)

pub after_next : (old new : List ℕ → Bool) (xs ys : List (List ℕ)) → old ≡ is_among xs → new ≡ also old ys → new ≡ is_among (xs ++ ys)
after_next old new xs ys before after = after ∙ ap (λ t. also t ys) before ∙ also_is_among xs ys

-- the same sorts and the same names that are taken give the same answer
pub same_reading : {A : Type 0} (reader : List Sort → (List ℕ → Bool) → List Data → A) (s s' : List Sort) (t t' : List ℕ → Bool) (ds : List Data) → s ≡ s' → t ≡ t' → reader s t ds ≡ reader s' t' ds
same_reading reader s s' t t' ds p q = λ i. reader (p i) (q i) ds
