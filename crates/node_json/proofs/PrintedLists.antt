-- A printed list is read back item by item.
use Rattle.std.proofs.Common.{◌≡◌, ℕ, ◌≤◌, List, [], ◌∷◌, ◌++◌, map, Bool, true, false, ◌||◌, Option, Some, None, IsSome, Result, Ok, refl, sym, ap, subst, ◌∙◌, arith, append_assoc, append-nil}
use Rattle.serde_json.specs.Data.{Data, depth, items_depth}
use Rattle.serde_json.specs.View.{items_of}
use Rattle.serde_json.specs.Written.{has_float, items_have_float}
use Rattle.std.specs.List.{All, AllByRecursion}
use Rattle.std.proofs.lemmas.List.Elements.{recursion_from_All}
use Rattle.node_json.specs.declared.fault.FormFault.{FormFault}
use Rattle.node_json.specs.Step.{◌>>=◌, when, or_fault, each}
use Rattle.node_json.specs.Json.{items_list}
use Rattle.node_json.proofs.Shapes.{items_list-items_of}
use Rattle.node_json.proofs.ReadBack.{CanReturn, ItemsCanReturn}

-- ---- steps that pass

pub tested : {A : Type 0} (b : Bool) (e : FormFault) (r : Result A FormFault) → b ≡ true → (when b e >>= λ t. r) ≡ r
tested true e r is = refl
tested false e r is = absurd (cc)

pub there : {A B : Type 0} (e : FormFault) (o : Option A) (r : Result B FormFault) → IsSome o → (or_fault e o >>= λ x. r) ≡ r
there e (Some x) r is = refl
there e None r is = absurd (cc)

-- ---- what holds of each item

pub all_front : {X : Type 0} (P : X → Type 0) (xs ys : List X) → AllByRecursion P (xs ++ ys) → AllByRecursion P xs
all_front P [] ys h = tt
all_front P (x ∷ xs) ys h = (h.0, all_front P xs ys h.1)

pub all_back : {X : Type 0} (P : X → Type 0) (xs ys : List X) → AllByRecursion P (xs ++ ys) → AllByRecursion P ys
all_back P [] ys h = h
all_back P (x ∷ xs) ys h = all_back P xs ys h.1

pub all_middle : {X : Type 0} (P : X → Type 0) (xs : List X) (y : X) (ys : List X) → AllByRecursion P (xs ++ y ∷ ys) → P y
all_middle P xs y ys h = (all_back P xs (y ∷ ys) h).0

pub fits_middle : {X : Type 0} (P : X → Type 0) (xs : List X) (y : X) (ys : List X) → All P (xs ++ y ∷ ys) → P y
fits_middle P xs y ys h = all_middle P xs y ys (recursion_from_All P (xs ++ y ∷ ys) h)

-- ---- lists

-- Where each item is read back behind those before it, all of them are.
pub each_reads : {A B : Type 0} (P : List B → Type 0) (step : List B → A → Result B FormFault) (printed : B → A)
    → ((done : List B) (y : B) (rest : List B) → P (done ++ y ∷ rest) → step done (printed y) ≡ Ok y)
    → (done ys : List B) → P (done ++ ys) → each step done (map printed ys) ≡ Ok (done ++ ys)
each_reads P step printed reads done [] holds = ap Ok (sym (append-nil done))
each_reads P step printed reads done (y ∷ ys) holds =
    ap (λ r. r >>= λ z. each step (done ++ z ∷ []) (map printed ys)) (reads done y ys holds)
    ∙ each_reads P step printed reads (done ++ y ∷ []) ys (subst P (sym (append_assoc done (y ∷ []) ys)) holds)
    ∙ ap Ok (append_assoc done (y ∷ []) ys)

pub list_reads : {B : Type 0} (P : List B → Type 0) (step : List B → Data → Result B FormFault) (printed : B → Data)
    → ((done : List B) (y : B) (rest : List B) → P (done ++ y ∷ rest) → step done (printed y) ≡ Ok y)
    → (ys : List B) → P ys → each step [] (items_list (items_of (map printed ys))) ≡ Ok ys
list_reads P step printed reads ys holds = ap (each step []) (items_list-items_of (map printed ys)) ∙ each_reads P step printed reads [] ys holds

module _ {B : Type 0} (printed : B → Data) where
  pub items_can_return : (ys : List B) → AllByRecursion (λ y. CanReturn (printed y)) ys → ItemsCanReturn (items_of (map printed ys))
  items_can_return [] h = tt
  items_can_return (y ∷ ys) h = (h.0, items_can_return ys h.1)

  pub items_shallow : (n : ℕ) → ((y : B) → depth (printed y) ≤ n) → (ys : List B) → items_depth (items_of (map printed ys)) ≤ n
  items_shallow n h [] = omega arith
  items_shallow n h (y ∷ ys) = omega (arith, h y, items_shallow n h ys)

  pub items_no_float : ((y : B) → has_float (printed y) ≡ false) → (ys : List B) → items_have_float (items_of (map printed ys)) ≡ false
  items_no_float h [] = refl
  items_no_float h (y ∷ ys) = ap (λ b. b || items_have_float (items_of (map printed ys))) (h y) ∙ items_no_float h ys
