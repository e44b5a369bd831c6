-- What the text of an end of a map names, for callers that take the text apart.
use Rattle.std.proofs.Common.{◌≡◌, ℕ, ◌+◌, List, [], ◌∷◌, ◌++◌, length, get_or, codes, cond, Bool, true, false, Option, Some, None, option_map, refl, sym, ap, ◌∙◌, arith, length-append}
use Rattle.std.specs.Prelude.{bytes_eq}
use Rattle.std.proofs.lemmas.List.{append_cancel_right, get_or-append-add}
use Rattle.std.proofs.lemmas.Slice.Eq.{bytes_eq-Decides}
use Rattle.workspace_json.specs.Maps.{NamedMap}
use Rattle.workspace_json.specs.Workspaces.{end_named, map_named}

one_bool : (a b : Bool) → (a ≡ true → b ≡ true) → (b ≡ true → a ≡ true) → a ≡ b
one_bool true b f g = sym (f refl)
one_bool false true f g = g refl
one_bool false false f g = refl

never_true : (b : Bool) → (b ≡ true → ⊥) → b ≡ false
never_true true h = absurd (h refl)
never_true false h = refl

same_end : (s a b : List ℕ) → bytes_eq (a ++ s) (b ++ s) ≡ bytes_eq a b
same_end s a b =
    one_bool (bytes_eq (a ++ s) (b ++ s)) (bytes_eq a b)
    (λ e. (bytes_eq-Decides a b).1 (append_cancel_right a b s ((bytes_eq-Decides (a ++ s) (b ++ s)).0 e)))
    (λ e. (bytes_eq-Decides (a ++ s) (b ++ s)).1 (ap (λ c. c ++ s) ((bytes_eq-Decides a b).0 e)))

-- texts with ends of one length that differ in their second byte
other_end : (s t a b : List ℕ) → length s ≡ length t → (get_or s 1 0 ≡ get_or t 1 0 → ⊥) → bytes_eq (a ++ s) (b ++ t) ≡ false
other_end s t a b n d = never_true (bytes_eq (a ++ s) (b ++ t)) (λ e.
    let same : a ++ s ≡ b ++ t = (bytes_eq-Decides (a ++ s) (b ++ t)).0 e in
    let lengths : length a + length s ≡ length b + length t = sym (length-append a s) ∙ ap length same ∙ length-append b t in
    let at : length a ≡ length b = omega arith in
    d (sym (get_or-append-add a s 1 0) ∙ ap (λ c. get_or c (length a + 1) 0) same ∙ ap (λ k. get_or (b ++ t) (k + 1) 0) at ∙ get_or-append-add b t 1 0))

mapped : {A B : Type 0} (f : A → B) (b : Bool) (x : A) (o : Option A) → cond b (Some (f x)) (option_map f o) ≡ option_map f (cond b (Some x) o)
mapped f true x o = refl
mapped f false x o = refl

-- the text with `:source` names the source of the map of that name, and the one with `:target` its target
pub source_end : (ms : List NamedMap) (name : List ℕ) → end_named ms (name ++ codes ":source") ≡ option_map (λ m. m.source) (map_named ms name)
source_end [] name = refl
source_end (m ∷ ms) name =
    let rest = end_named ms (name ++ codes ":source") in
    ap (λ b. cond b (Some m.source) (cond (bytes_eq (m.name ++ codes ":target") (name ++ codes ":source")) (Some m.target) rest)) (same_end (codes ":source") m.name name)
    ∙ ap (λ b. cond (bytes_eq m.name name) (Some m.source) (cond b (Some m.target) rest)) (other_end (codes ":target") (codes ":source") m.name name refl (λ e. let z : ⊥ = omega arith in z))
    ∙ ap (cond (bytes_eq m.name name) (Some m.source)) (source_end ms name)
    ∙ mapped (λ (m : NamedMap). m.source) (bytes_eq m.name name) m (map_named ms name)

pub target_end : (ms : List NamedMap) (name : List ℕ) → end_named ms (name ++ codes ":target") ≡ option_map (λ m. m.target) (map_named ms name)
target_end [] name = refl
target_end (m ∷ ms) name =
    let rest = end_named ms (name ++ codes ":target") in
    ap (λ b. cond b (Some m.source) (cond (bytes_eq (m.name ++ codes ":target") (name ++ codes ":target")) (Some m.target) rest))
    (other_end (codes ":source") (codes ":target") m.name name refl (λ e. let z : ⊥ = omega arith in z))
    ∙ ap (λ b. cond b (Some m.target) rest) (same_end (codes ":target") m.name name)
    ∙ ap (cond (bytes_eq m.name name) (Some m.target)) (target_end ms name)
    ∙ mapped (λ (m : NamedMap). m.target) (bytes_eq m.name name) m (map_named ms name)

-- any other text names none
pub no_end : (ms : List NamedMap) (text : List ℕ) → ((name : List ℕ) → name ++ codes ":source" ≡ text → ⊥) → ((name : List ℕ) → name ++ codes ":target" ≡ text → ⊥)
    → end_named ms text ≡ None
no_end [] text s t = refl
no_end (m ∷ ms) text s t =
    let no_source = never_true (bytes_eq (m.name ++ codes ":source") text) (λ e. s m.name ((bytes_eq-Decides (m.name ++ codes ":source") text).0 e)) in
    let no_target = never_true (bytes_eq (m.name ++ codes ":target") text) (λ e. t m.name ((bytes_eq-Decides (m.name ++ codes ":target") text).0 e)) in
    let rest = end_named ms text in
    ap (λ b. cond b (Some m.source) (cond (bytes_eq (m.name ++ codes ":target") text) (Some m.target) rest)) no_source
    ∙ ap (λ b. cond b (Some m.target) rest) no_target ∙ no_end ms text s t
