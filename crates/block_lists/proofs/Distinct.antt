-- Lists in which each element stands once: what putting one element, or many, does to them.
use Rattle.std.proofs.Common.{◌≡◌, ◌≢◌, ℕ, ◌<◌, Bool, true, false, ◌||◌, List, [], ◌∷◌, ◌++◌, length, map, get_or, slice_get, Some, refl, sym, ap, subst, ◌∙◌, arith, ◌⊎◌, inl, inr, true≢false, zero, suc, if◌then◌else◌, append_assoc, append-nil}
use Rattle.std.specs.List.{list_any}
use Rattle.std.specs.Bool.{Decides}
use Rattle.std.proofs.lemmas.List.{map_push}
use Rattle.indexmap.specs.IndexSet.{insert_key, insert_all}
use Rattle.block_lists.specs.Blocks.{IsPut, Among, StandOnce, distinct}

-- ---- places

module _ {X : Type 0} where
  pub get-from_slice : (xs : List X) (i : ℕ) (x d : X) → slice_get xs i ≡ Some x → get_or xs i d ≡ x
  get-from_slice [] i x d e = cc
  get-from_slice (y ∷ xs) zero x d e = cc
  get-from_slice (y ∷ xs) (suc i) x d e = get-from_slice xs i x d e

  pub slice-from_get : (xs : List X) (i : ℕ) (d : X) → i < length xs → slice_get xs i ≡ Some (get_or xs i d)
  slice-from_get [] i d h = absurd (omega arith)
  slice-from_get (y ∷ xs) zero d h = refl
  slice-from_get (y ∷ xs) (suc i) d h = slice-from_get xs i d (omega arith)

  pub slice-below : (xs : List X) (i : ℕ) (x : X) → slice_get xs i ≡ Some x → i < length xs
  slice-below [] i x e = cc
  slice-below (m ∷ ns) zero n e = omega arith
  slice-below (m ∷ ns) (suc i) n e = let h = slice-below ns i n e in omega arith

  pub slice-append : (xs ys : List X) (i : ℕ) (x : X) → slice_get xs i ≡ Some x → slice_get (xs ++ ys) i ≡ Some x
  slice-append [] ys i x e = cc
  slice-append (y ∷ xs) ys zero x e = e
  slice-append (y ∷ xs) ys (suc i) x e = slice-append xs ys i x e

  pub slice-push : (xs : List X) (x : X) → slice_get (xs ++ x ∷ []) (length xs) ≡ Some x
  slice-push [] x = refl
  slice-push (y ∷ xs) x = slice-push xs x

  pub slice-push_cases : (xs : List X) (x y : X) (i : ℕ) → slice_get (xs ++ x ∷ []) i ≡ Some y
      → (slice_get xs i ≡ Some y) ⊎ ((i ≡ length xs) × (x ≡ y))
  slice-push_cases [] x y zero e = inr (refl, cc)
  slice-push_cases [] x y (suc i) e = cc
  slice-push_cases (z ∷ xs) x y zero e = inl e
  slice-push_cases (z ∷ xs) x y (suc i) e = by (slice-push_cases xs x y i e)
    where
      by : (slice_get xs i ≡ Some y) ⊎ ((i ≡ length xs) × (x ≡ y))
          → (slice_get xs i ≡ Some y) ⊎ ((suc i ≡ suc (length xs)) × (x ≡ y))
      by (inl p) = inl p
      by (inr p) = inr (ap suc p.0, p.1)

  pub among-head : (x : X) (xs : List X) → Among (x ∷ xs) x
  among-head x xs = record { place = 0; there = refl }

  pub among-tail : (y : X) (xs : List X) (x : X) → Among xs x → Among (y ∷ xs) x
  among-tail y xs x a = record { place = suc a.place; there = a.there }

  pub among-left : (xs ys : List X) (x : X) → Among xs x → Among (xs ++ ys) x
  among-left xs ys x a = record { place = a.place; there = slice-append xs ys a.place x a.there }

  pub among-right : (xs ys : List X) (x : X) → Among ys x → Among (xs ++ ys) x
  among-right [] ys x a = a
  among-right (y ∷ xs) ys x a = among-tail y (xs ++ ys) x (among-right xs ys x a)

  pub any_at : (p : X → Bool) (xs : List X) (i : ℕ) (x : X) → slice_get xs i ≡ Some x → p x ≡ true → list_any p xs ≡ true
  any_at p [] i x e t = cc
  any_at p (y ∷ xs) zero x e t =
      let f : y ≡ x = cc in ap (λ b. b || list_any p xs) (ap p f ∙ t)
  any_at p (y ∷ xs) (suc i) x e t = by (p y) (any_at p xs i x e t)
    where
      by : (b : Bool) → list_any p xs ≡ true → (b || list_any p xs) ≡ true
      by true h = refl
      by false h = h

  -- an element that passes the test
  pub record Passing (p : X → Bool) (xs : List X) : Type 0 where
    pub place : ℕ
    pub item : X
    pub there : slice_get xs place ≡ Some item
    pub passes : p item ≡ true

  pub any_where : (p : X → Bool) (xs : List X) → list_any p xs ≡ true → Passing p xs
  any_where p [] a = absurd (true≢false (sym a))
  any_where p (y ∷ xs) a = by (p y) refl (any_where p xs)
    where
      by : (b : Bool) → p y ≡ b → (list_any p xs ≡ true → Passing p xs) → Passing p (y ∷ xs)
      by true q rest = record { place = 0; item = y; there = refl; passes = q }
      by false q rest =
          let r = rest (sym (ap (λ c. c || list_any p xs) q) ∙ a) in
          record { place = suc r.place; item = r.item; there = r.there; passes = r.passes }

-- ---- another reading of the elements

module _ {T X : Type 0} (eq : T → T → Bool) (same : X → X → Bool) (f : T → X) (agree : (a b : T) → eq a b ≡ same (f a) (f b)) where
  pub any-map : (v : T) (ks : List T) → list_any (eq v) ks ≡ list_any (same (f v)) (map f ks)
  any-map v [] = refl
  any-map v (k ∷ ks) = let a = agree v k in let r = any-map v ks in cc

  pub map-insert_key : (ks : List T) (v : T) → map f (insert_key eq ks v) ≡ insert_key same (map f ks) (f v)
  map-insert_key ks v = by (list_any (eq v) ks) refl (any-map v ks)
    where
      by : (b : Bool) → list_any (eq v) ks ≡ b → list_any (eq v) ks ≡ list_any (same (f v)) (map f ks)
          → map f (insert_key eq ks v) ≡ insert_key same (map f ks) (f v)
      by true e a =
          ap (λ b. map f (if b then ks else ks ++ v ∷ [])) e
          ∙ sym (ap (λ b. if b then map f ks else map f ks ++ f v ∷ []) (sym a ∙ e))
      by false e a =
          ap (λ b. map f (if b then ks else ks ++ v ∷ [])) e ∙ map_push f ks v
          ∙ sym (ap (λ b. if b then map f ks else map f ks ++ f v ∷ []) (sym a ∙ e))

  pub map-insert_all : (ks vs : List T) → map f (insert_all eq ks vs) ≡ insert_all same (map f ks) (map f vs)
  map-insert_all ks [] = refl
  map-insert_all ks (v ∷ vs) =
      map-insert_all (insert_key eq ks v) vs ∙ ap (λ ls. insert_all same ls (map f vs)) (map-insert_key ks v)

pub slice-map : {T X : Type 0} → (f : T → X) (ks : List T) (i : ℕ) (k : T) → slice_get ks i ≡ Some k
    → slice_get (map f ks) i ≡ Some (f k)
slice-map f [] i k e = cc
slice-map f (x ∷ ks) zero k e = let g : x ≡ k = cc in ap (λ y. Some (f y)) g
slice-map f (x ∷ ks) (suc i) k e = slice-map f ks i k e

-- an element of a list that was mapped is the image of one
pub record MapsFrom {T X : Type 0} (f : T → X) (ks : List T) (i : ℕ) (x : X) : Type 0 where
  pub item : T
  pub there : slice_get ks i ≡ Some item
  pub is : f item ≡ x

pub slice-unmap : {T X : Type 0} → (f : T → X) (ks : List T) (i : ℕ) (x : X) → slice_get (map f ks) i ≡ Some x
    → MapsFrom f ks i x
slice-unmap f [] i x e = cc
slice-unmap f (k ∷ ks) zero x e = record { item = k; there = refl; is = cc }
slice-unmap f (k ∷ ks) (suc i) x e =
    let r = slice-unmap f ks i x e in record { item = r.item; there = r.there; is = r.is }

-- ---- where the test decides equality

module _ {X : Type 0} (same : X → X → Bool) (decides : (x y : X) → Decides (same x y) (x ≡ y)) where
  pub put_is : (old new : List X) (x : X) (i : ℕ) (y : X) → new ≡ insert_key same old x → slice_get new i ≡ Some y
      → same x y ≡ true → IsPut old new x i
  put_is old new x i y keys at is = by (list_any (same x) old) refl
    where
      there : slice_get new i ≡ Some x
      there = at ∙ ap Some (sym ((decides x y).0 is))

      by : (b : Bool) → list_any (same x) old ≡ b → IsPut old new x i
      by true e = record { there = there; adds = inl (keys ∙ ap (λ b. if b then old else old ++ x ∷ []) e) }
      by false e = record {
        there = there;
        adds = inr (
          keys ∙ ap (λ b. if b then old else old ++ x ∷ []) e,
          λ j h. true≢false (sym (any_at (same x) old j x h ((decides x x).1 refl)) ∙ e),
        );
      }

  pub insert_present : (ks : List X) (x : X) → Among ks x → insert_key same ks x ≡ ks
  insert_present ks x a =
      ap (λ b. if b then ks else ks ++ x ∷ []) (any_at (same x) ks a.place x a.there ((decides x x).1 refl))

  -- what one more element leaves, and that it stands there then
  pub record Inserts (ks new : List X) (x : X) : Type 0 where
    pub more : List X
    pub extends : new ≡ ks ++ more
    pub has : Among new x
    pub once : StandOnce ks → StandOnce new

  once-push : (ks : List X) (x : X) → list_any (same x) ks ≡ false → StandOnce ks → StandOnce (ks ++ x ∷ [])
  once-push ks x none once i j y a b = by (slice-push_cases ks x y i a) (slice-push_cases ks x y j b)
    where
      new : (k : ℕ) → slice_get ks k ≢ Some x
      new k h = true≢false (sym (any_at (same x) ks k x h ((decides x x).1 refl)) ∙ none)

      by : (slice_get ks i ≡ Some y) ⊎ ((i ≡ length ks) × (x ≡ y)) → (slice_get ks j ≡ Some y) ⊎ ((j ≡ length ks) × (x ≡ y))
          → i ≡ j
      by (inl p) (inl q) = once i j y p q
      by (inl p) (inr q) = absurd (new i (p ∙ ap Some (sym q.1)))
      by (inr p) (inl q) = absurd (new j (q ∙ ap Some (sym p.1)))
      by (inr p) (inr q) = p.0 ∙ sym q.0

  pub inserts : (ks : List X) (x : X) → Inserts ks (insert_key same ks x) x
  inserts ks x = by (list_any (same x) ks) refl
    where
      by : (b : Bool) → list_any (same x) ks ≡ b → Inserts ks (insert_key same ks x) x
      by true e =
          let w = any_where (same x) ks e in
          subst (λ new. Inserts ks new x) (sym (ap (λ b. if b then ks else ks ++ x ∷ []) e)) (record {
            more = [];
            extends = sym (append-nil ks);
            has = record { place = w.place; there = w.there ∙ ap Some (sym ((decides x w.item).0 w.passes)) };
            once = λ o. o;
          })
      by false e =
          subst (λ new. Inserts ks new x) (sym (ap (λ b. if b then ks else ks ++ x ∷ []) e)) (record {
            more = x ∷ [];
            extends = refl;
            has = record { place = length ks; there = slice-push ks x };
            once = once-push ks x e;
          })

  -- and many
  pub record InsertsMany (ks new xs : List X) : Type 0 where
    pub more : List X
    pub extends : new ≡ ks ++ more
    pub has : (x : X) → Among xs x → Among new x
    pub once : StandOnce ks → StandOnce new
    -- and nothing else
    pub from : (x : X) → Among new x → Among ks x ⊎ Among xs x

  from_insert : (ks : List X) (x y : X) → Among (insert_key same ks x) y → Among ks y ⊎ (x ≡ y)
  from_insert ks x y = by (list_any (same x) ks)
    where
      by : (b : Bool) → Among (if b then ks else ks ++ x ∷ []) y → Among ks y ⊎ (x ≡ y)
      by true a = inl a
      by false a = which (slice-push_cases ks x y a.place a.there)
        where
          which : (slice_get ks a.place ≡ Some y) ⊎ ((a.place ≡ length ks) × (x ≡ y)) → Among ks y ⊎ (x ≡ y)
          which (inl p) = inl (record { place = a.place; there = p })
          which (inr p) = inr p.1

  pub inserts_many : (ks xs : List X) → InsertsMany ks (insert_all same ks xs) xs
  inserts_many ks [] = record {
    more = [];
    extends = sym (append-nil ks);
    has = λ x a. (let e = a.there in cc);
    once = λ o. o;
    from = λ x a. inl a;
  }
  inserts_many ks (y ∷ ys) =
      let one = inserts ks y in
      let rest = inserts_many (insert_key same ks y) ys in
      record {
        more = one.more ++ rest.more;
        extends = rest.extends ∙ ap (λ ls. ls ++ rest.more) one.extends ∙ append_assoc ks one.more rest.more;
        has = λ x a. which one rest x a.place a.there;
        once = λ o. rest.once (one.once o);
        from = λ x a. back (rest.from x a);
      }
    where
      which : Inserts ks (insert_key same ks y) y
          → InsertsMany (insert_key same ks y) (insert_all same (insert_key same ks y) ys) ys
          → (x : X) (i : ℕ) → slice_get (y ∷ ys) i ≡ Some x → Among (insert_all same (insert_key same ks y) ys) x
      which one rest x zero e =
          let f : y ≡ x = cc in
          subst (λ ls. Among ls x) (sym rest.extends)
          (among-left (insert_key same ks y) rest.more x (subst (Among (insert_key same ks y)) f one.has))
      which one rest x (suc i) e = rest.has x (record { place = i; there = e })

      back : {x : X} → Among (insert_key same ks y) x ⊎ Among ys x → Among ks x ⊎ Among (y ∷ ys) x
      back {x} (inl a) = turn (from_insert ks y x a)
        where
          turn : Among ks x ⊎ (y ≡ x) → Among ks x ⊎ Among (y ∷ ys) x
          turn (inl b) = inl b
          turn (inr e) = inr (subst (Among (y ∷ ys)) e (among-head y ys))
      back {x} (inr a) = inr (among-tail y ys x a)

  -- elements that stand there already change nothing
  pub insert_all_present : (ks xs : List X) → ((x : X) → Among xs x → Among ks x) → insert_all same ks xs ≡ ks
  insert_all_present ks [] h = refl
  insert_all_present ks (x ∷ xs) h =
      ap (λ ls. insert_all same ls xs) (insert_present ks x (h x (among-head x xs)))
      ∙ insert_all_present ks xs (λ y a. h y (among-tail x xs y a))

  once-nil : StandOnce {X = X} []
  once-nil i j x a b = cc

  pub distinct_once : (xs : List X) → StandOnce (distinct same xs)
  distinct_once xs = (inserts_many [] xs).once once-nil

  pub distinct_has : (xs : List X) (x : X) → Among xs x → Among (distinct same xs) x
  distinct_has xs x a = (inserts_many [] xs).has x a

  pub distinct_from : (xs : List X) (x : X) → Among (distinct same xs) x → Among xs x
  distinct_from xs x a = by ((inserts_many [] xs).from x a)
    where
      by : Among [] x ⊎ Among xs x → Among xs x
      by (inl b) = let e = b.there in cc
      by (inr b) = b

module _ {X : Type 0} (same : X → X → Bool) where
  pub insert_all-append : (ks xs ys : List X) → insert_all same ks (xs ++ ys) ≡ insert_all same (insert_all same ks xs) ys
  insert_all-append ks [] ys = refl
  insert_all-append ks (x ∷ xs) ys = insert_all-append (insert_key same ks x) xs ys
