-- One step after the other, up to the first fault.
use Rattle.std.specs.Prelude.{◌≡◌, Bool, true, false, List, [], ◌∷◌, ◌++◌, Option, Some, None, Result, Ok, Err, ⊤}
use Rattle.node_json.specs.declared.fault.FormFault.{FormFault}
use Rattle.node_json.specs.declared.fault.FormFault.TheVariants as fault

infixl 10 ◌>>=◌
abbrev pub ◌>>=◌ : {A B : Type 0} → Result A FormFault
    → (A → Result B FormFault) → Result B FormFault
(Ok x) >>= f = f x
(Err e) >>= f = Err e

-- a test that has to pass
abbrev pub when : Bool → FormFault → Result ⊤ FormFault
when true e = Ok tt
when false e = Err e

-- what has to be there
abbrev pub or_fault : {A : Type 0} → FormFault → Option A → Result A FormFault
or_fault e (Some x) = Ok x
or_fault e None = Err e

-- the items in order, each read beside what was read of those before it
abbrev pub each : {A B : Type 0} → (List B → A → Result B FormFault)
    → List B → List A → Result (List B) FormFault
each step done [] = Ok done
each step done (x ∷ xs) = step done x >>= λ y. each step (done ++ y ∷ []) xs

-- The answer of a call that takes no memory is what reading gives.
abbrev pub GivesExactly : {A B : Type 0} → (A → B) → Result A FormFault → Result B FormFault → Type 0
GivesExactly view (Ok x) read = read ≡ Ok (view x)
GivesExactly view (Err e) read = read ≡ Err e

-- Want of memory may come in place of any answer.
abbrev pub Fails : {A : Type 0} → FormFault → Result A FormFault → Type 0
Fails fault.NoMemory read = Unit {0}
Fails e read = read ≡ Err e

-- The answer of a call that takes memory is what reading gives, where there was memory.
abbrev pub Gives : {A B : Type 0} → (A → B) → Result A FormFault → Result B FormFault → Type 0
Gives view (Ok x) read = read ≡ Ok (view x)
Gives view (Err e) read = Fails e read
