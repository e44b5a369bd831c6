-- Words that are heights or paths, and their texts.
use Rattle.std.proofs.Common.{◌≡◌, ◌≢◌, ℕ, ◌<◌, ◌^◌, List, [], ◌∷◌, length, map, codes, true, false, eqb, Option, Some, None, refl, sym, ap, subst, ◌∙◌, inl, inr, arith, eqb-true, ne_eqb}
use Rattle.std.specs.Prelude.{bytes_eq, option_map, option_and_then}
use Rattle.std.specs.List.{All, join_with_byte}
use Rattle.std.specs.Char.{is_ascii_digit}
use Rattle.std.specs.Fmt.{decimal}
use Rattle.std.proofs.lemmas.Bool.{cases_Bool, cond-true, cond-false}
use Rattle.std.proofs.lemmas.Fmt.{digits_decimal}
use Rattle.std.proofs.lemmas.List.Elements.{All-nil, All-cons, All-head, All-tail, All-weaker}
use Rattle.std.proofs.lemmas.List.Splits.{slice_split_none, slice_split_at, length-slice_split, join_with_byte-slice_split}
use Rattle.std.proofs.lemmas.List.Sums.{AllPass-from_list_all}
use Rattle.std.proofs.lemmas.Slice.Eq.{bytes_eq-Decides}
use Rattle.diagram_terms.specs.declared.place.Height.{Height}
use Rattle.diagram_terms.specs.declared.place.Height.TheVariants as height
use Rattle.workspace_json.specs.Paths.{height_text, path_text, IsSmall, IsHeightText, IsPathText, number_in, height_in, heights_in, steps_of, path_in}
use Rattle.workspace_json.proofs.Numerals.{own, number_told, number_read}

-- ---- one height

-- a word that begins with `r`, with `s`, or with neither
pub height_in-r : (word digits : List ℕ) (n : Option ℕ) → word ≡ 114 ∷ digits → n ≡ number_in digits → height_in word ≡ option_map (λ j. height.R j) n
unfolding height_in
height_in-r word digits n is number = ap height_in is ∙ ap (option_map (λ j. height.R j)) (sym number)

pub height_in-s : (word digits : List ℕ) (n : Option ℕ) → word ≡ 115 ∷ digits → n ≡ number_in digits → height_in word ≡ option_map (λ i. height.S i) n
unfolding height_in
height_in-s word digits n is number = ap height_in is ∙ ap (option_map (λ i. height.S i)) (sym number)

pub height_in_none : (word : List ℕ) → ((digits : List ℕ) → word ≢ 114 ∷ digits) → ((digits : List ℕ) → word ≢ 115 ∷ digits) → height_in word ≡ None
unfolding height_in
height_in_none [] no_r no_s = refl
height_in_none (c ∷ digits) no_r no_s =
    let not_r : eqb c 114 ≡ false = ne_eqb c 114 (λ e. no_r digits (ap (λ b. b ∷ digits) e)) in
    let not_s : eqb c 115 ≡ false = ne_eqb c 115 (λ e. no_s digits (ap (λ b. b ∷ digits) e)) in
    rw (not_r, not_s) refl

mapped : {A B : Type 0} (f : A → B) (o : Option A) (y : B) → option_map f o ≡ Some y → (x : A) × (o ≡ Some x) × (f x ≡ y)
mapped f None y is = absurd (cc)
mapped f (Some x) y is = (x, refl, cc)

told_r : (digits : List ℕ) (h : Height) → option_map (λ j. height.R j) (number_in digits) ≡ Some h → IsHeightText (114 ∷ digits) h
told_r digits h is =
    let m = mapped (λ j. height.R j) (number_in digits) h is in
    let t = number_told digits m.0 m.1 in
    subst (IsHeightText (114 ∷ digits)) m.2 (record { small = t.small; text = ap (λ ds. 114 ∷ ds) t.text })

told_s : (digits : List ℕ) (h : Height) → option_map (λ i. height.S i) (number_in digits) ≡ Some h → IsHeightText (115 ∷ digits) h
told_s digits h is =
    let m = mapped (λ i. height.S i) (number_in digits) h is in
    let t = number_told digits m.0 m.1 in
    subst (IsHeightText (115 ∷ digits)) m.2 (record { small = t.small; text = ap (λ ds. 115 ∷ ds) t.text })

pub height_told : (word : List ℕ) (h : Height) → height_in word ≡ Some h → IsHeightText word h
unfolding height_in
height_told [] h is = absurd (cc)
height_told (c ∷ digits) h is = elim (cases_Bool (eqb c 114)) [
  | inl r ↦ rw (eqb-true c 114 r) (told_r digits h (sym (cond-true (eqb c 114) _ _ r) ∙ is))
  | inr not_r ↦ elim (cases_Bool (eqb c 115)) [
    | inl s ↦ rw (eqb-true c 115 s) (told_s digits h (sym (cond-true (eqb c 115) _ _ s) ∙ sym (cond-false (eqb c 114) _ _ not_r) ∙ is))
    | inr not_s ↦ let none : None ≡ Some h = sym (cond-false (eqb c 115) _ _ not_s) ∙ sym (cond-false (eqb c 114) _ _ not_r) ∙ is in absurd (cc)
  ]
]

pub height_read : (word : List ℕ) (h : Height) → IsHeightText word h → height_in word ≡ Some h
height_read word (height.R j) is = height_in-r word (decimal j) (Some j) is.text (sym (number_read (decimal j) j (record { small = is.small; text = refl })))
height_read word (height.S i) is = height_in-s word (decimal i) (Some i) is.text (sym (number_read (decimal i) i (record { small = is.small; text = refl })))

-- ---- several heights

-- the words are the texts of the heights
record AreTexts (words : List (List ℕ)) (path : List Height) : Type 0 where
  small : All IsSmall path
  texts : words ≡ map height_text path

-- one more word and height
one_told : (word : List ℕ) (words : List (List ℕ)) (path : List Height) (o : Option Height) → height_in word ≡ o
    → ((hs : List Height) → heights_in words ≡ Some hs → AreTexts words hs)
    → option_and_then (λ h. option_map (λ hs. h ∷ hs) (heights_in words)) o ≡ Some path → AreTexts (word ∷ words) path
one_told word words path None was more is = absurd (cc)
one_told word words path (Some h) was more is =
    let m = mapped (λ hs. h ∷ hs) (heights_in words) path is in
    let t = height_told word h was in
    let rest = more m.0 m.1 in
    subst (AreTexts (word ∷ words)) m.2 (record { small = All-cons IsSmall h m.0 t.small rest.small; texts = cc (t.text, rest.texts) })

heights_told : (words : List (List ℕ)) (path : List Height) → heights_in words ≡ Some path → AreTexts words path
heights_told [] [] is = record { small = All-nil IsSmall; texts = refl }
heights_told [] (h ∷ hs) is = absurd (cc)
heights_told (word ∷ words) path is = one_told word words path (height_in word) refl (heights_told words) is

heights_read : (path : List Height) → All IsSmall path → heights_in (map height_text path) ≡ Some path
heights_read [] small = refl
heights_read (h ∷ hs) small =
    rw (height_read (height_text h) h (record { small = All-head IsSmall h hs small; text = refl }), heights_read hs (All-tail IsSmall h hs small)) refl

-- ---- paths

not_comma : (b : ℕ) → is_ascii_digit b ≡ true → eqb b 44 ≡ false
not_comma b digit = ne_eqb b 44 (λ e. let at : is_ascii_digit b ≡ is_ascii_digit 44 = ap is_ascii_digit e in absurd (cc))

decimal_free : (n : ℕ) → n < 2 ^ 32 → All (λ b. eqb b 44 ≡ false) (decimal n)
decimal_free n small =
    All-weaker (λ b. is_ascii_digit b ≡ true) (λ b. eqb b 44 ≡ false) not_comma (decimal n)
    (AllPass-from_list_all is_ascii_digit (decimal n) (digits_decimal own n (omega arith)))

-- no comma stands in the text of a height
height_free : (h : Height) → IsSmall h → All (λ b. eqb b 44 ≡ false) (height_text h)
height_free (height.R j) small = All-cons (λ b. eqb b 44 ≡ false) 114 (decimal j) refl (decimal_free j small)
height_free (height.S i) small = All-cons (λ b. eqb b 44 ≡ false) 115 (decimal i) refl (decimal_free i small)

-- the words between the commas of a path's text are the texts of its heights
steps_of-text : (h : Height) (hs : List Height) → All IsSmall (h ∷ hs) → steps_of (path_text (h ∷ hs)) ≡ map height_text (h ∷ hs)
steps_of-text h [] small = slice_split_none (λ b. eqb b 44) (height_text h) (height_free h (All-head IsSmall h [] small))
steps_of-text h (k ∷ ks) small =
    slice_split_at (λ b. eqb b 44) (height_text h) 44 (path_text (k ∷ ks)) (height_free h (All-head IsSmall h (k ∷ ks) small)) refl
    ∙ ap (λ ws. height_text h ∷ ws) (steps_of-text k ks (All-tail IsSmall h (k ∷ ks) small))

not_empty : (h : Height) (hs : List Height) → bytes_eq (path_text (h ∷ hs)) (codes ".") ≡ false
not_empty (height.R j) [] = refl
not_empty (height.R j) (k ∷ ks) = refl
not_empty (height.S i) [] = refl
not_empty (height.S i) (k ∷ ks) = refl

pub path_read : (word : List ℕ) (path : List Height) → IsPathText word path → path_in word ≡ Some path
path_read word [] is = ap path_in is.text
path_read word (h ∷ hs) is =
    ap path_in is.text ∙ cond-false (bytes_eq (path_text (h ∷ hs)) (codes ".")) (Some []) (heights_in (steps_of (path_text (h ∷ hs)))) (not_empty h hs)
    ∙ ap heights_in (steps_of-text h hs is.small) ∙ heights_read (h ∷ hs) is.small

joined : (word : List ℕ) (path : List Height) → AreTexts (steps_of word) path → IsPathText word path
joined word [] are =
    let counted = length-slice_split (λ b. eqb b 44) word in
    let none : length (steps_of word) ≡ 0 = ap length are.texts in absurd (omega arith)
joined word (h ∷ hs) are = record {
  small = are.small;
  text = sym (join_with_byte-slice_split 44 word) ∙ ap (join_with_byte 44) are.texts;
}

pub path_told : (word : List ℕ) (path : List Height) → path_in word ≡ Some path → IsPathText word path
path_told word path is = elim (cases_Bool (bytes_eq word (codes "."))) [
  | inl dot ↦
      let same : [] ≡ path = cc (sym (cond-true (bytes_eq word (codes ".")) _ _ dot) ∙ is) in
      subst (IsPathText word) same (record { small = All-nil IsSmall; text = (bytes_eq-Decides word (codes ".")).0 dot })
  | inr steps ↦ joined word path (heights_told (steps_of word) path (sym (cond-false (bytes_eq word (codes ".")) _ _ steps) ∙ is))
]
