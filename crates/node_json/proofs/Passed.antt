-- What a step that gave a value has passed.
use Rattle.std.proofs.Common.{◌≡◌, List, [], ◌∷◌, ◌++◌, Bool, true, false, Option, Some, None, Result, Ok, Err, refl, subst}
use Rattle.std.specs.Prelude.{⊤}
use Rattle.node_json.specs.declared.fault.FormFault.{FormFault}
use Rattle.node_json.specs.Step.{◌>>=◌, when, or_fault, each}

pub record Gave {A B : Type 0} (read : Result A FormFault) (f : A → Result B FormFault) (y : B) : Type 0 where
  pub value : A
  pub was : read ≡ Ok value
  pub then : f value ≡ Ok y

pub gave : {A B : Type 0} (read : Result A FormFault) (f : A → Result B FormFault) (y : B) → (read >>= f) ≡ Ok y → Gave read f y
gave (Ok x) f y e = record { value = x; was = refl; then = e }
gave (Err w) f y e = absurd (cc)

pub passed : (b : Bool) (e : FormFault) (t : ⊤) → when b e ≡ Ok t → b ≡ true
passed true e t is = refl
passed false e t is = absurd (cc)

pub found : {A : Type 0} (e : FormFault) (o : Option A) (x : A) → or_fault e o ≡ Ok x → o ≡ Some x
found e (Some y) x is = cc
found e None x is = absurd (cc)

-- What holds of the items that are done, and of one more after each step, holds of all.
pub each_keeps : {A B : Type 0} (P : List B → Type 0) (step : List B → A → Result B FormFault)
    → ((done : List B) (x : A) (y : B) → P done → step done x ≡ Ok y → P (done ++ y ∷ []))
    → (done : List B) (xs : List A) (ys : List B) → P done → each step done xs ≡ Ok ys → P ys
each_keeps P step more done [] ys holds is = let same : done ≡ ys = cc in subst P same holds
each_keeps P step more done (x ∷ xs) ys holds is =
    let g = gave (step done x) (λ y. each step (done ++ y ∷ []) xs) ys is in
    each_keeps P step more (done ++ g.value ∷ []) xs ys (more done x g.value holds g.was) g.then
