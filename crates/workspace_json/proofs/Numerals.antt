-- Numerals are the texts of numbers below 2^32.
use Rattle.std.proofs.Common.{◌≡◌, ℕ, zero, suc, ◌<◌, ◌^◌, List, [], ◌∷◌, length, get_or, Bool, true, false, not, ◌&&◌, ◌||◌, cond, eqb, ltb, Some, None, Result, Ok, Err, refl, sym, ap, ◌∙◌, inl, inr, arith, rules, ltb-true, lt-ltb, eqb-true, eq-eqb, ne_eqb}
use Rattle.std.proofs.lemmas.Bool.{and_parts, and_from, and_right, or_cases, or_left, or_right, not-true, not_from_false, cases_Bool, cases_eq, cond-true, cond-false, eqb-false}
use Rattle.std.proofs.lemmas.Fmt.{digits_decimal, digits_value-decimal, decimal_nonempty, decimal_digit, first_decimal, decimal-digits_value}
use Rattle.std.proofs.lemmas.Str.Parse.{IsNumeralModel, numerals_by_value, parse_digits}
use Rattle.std.specs.Prelude.{MatchResult}
use Rattle.std.specs.Char.{is_ascii_digit}
use Rattle.std.specs.Fmt.{decimal}
use Rattle.std.specs.List.{list_all}
use Rattle.std.specs.Result.{OkIff}
use Rattle.std.specs.Str.Parse.{digits_value, ParsesUnsigned}
use Rattle.workspace_json.specs.Paths.{is_numeral, number_in}

-- all are digits
abbrev pub AreDigits : List ℕ → Type 0
AreDigits ds = list_all is_ascii_digit ds ≡ true

pub own : IsNumeralModel AreDigits (digits_value 10)
own = numerals_by_value AreDigits (search rules)

-- what the test asks
pub record IsNumeral (ds : List ℕ) : Type 0 where
  pub digits : AreDigits ds
  pub some : 0 < length ds
  pub led : get_or ds 0 0 ≡ 48 → length ds ≡ 1

-- the digits are the text of the number
pub record IsNumberText (ds : List ℕ) (n : ℕ) : Type 0 where
  pub small : n < 2 ^ 32
  pub text : ds ≡ decimal n

not_leading : (d : ℕ) (ds : List ℕ) → not (eqb d 48) || eqb (length ds) 0 ≡ true → d ≡ 48 → length (d ∷ ds) ≡ 1
not_leading d ds test zero_first = elim (or_cases (not (eqb d 48)) (eqb (length ds) 0) test) [
  | inl e ↦ absurd (eqb-false d 48 (not-true (eqb d 48) e) zero_first)
  | inr e ↦ let none = eqb-true (length ds) 0 e in omega arith
]

leading : (d : ℕ) (ds : List ℕ) → (d ≡ 48 → length (d ∷ ds) ≡ 1) → not (eqb d 48) || eqb (length ds) 0 ≡ true
leading d ds led = elim (cases_eq d 48) [
  | inl e ↦ let one = led e in or_right (not (eqb d 48)) (eqb (length ds) 0) (eq-eqb (length ds) 0 (omega arith))
  | inr e ↦ or_left (not (eqb d 48)) (eqb (length ds) 0) (not_from_false (eqb d 48) (ne_eqb d 48 e))
]

pub numeral_told : (ds : List ℕ) → is_numeral ds ≡ true → IsNumeral ds
numeral_told [] is = absurd (cc)
numeral_told (d ∷ ds) is =
    let t = and_parts (list_all is_ascii_digit (d ∷ ds)) (not (eqb d 48) || eqb (length ds) 0) is in
    record { digits = t.0; some = omega arith; led = not_leading d ds t.1 }

pub numeral_tested : (ds : List ℕ) → IsNumeral ds → is_numeral ds ≡ true
numeral_tested [] is = absurd (omega (arith, is.some))
numeral_tested (d ∷ ds) is =
    and_from (list_all is_ascii_digit (d ∷ ds)) (not (eqb d 48) || eqb (length ds) 0) is.digits (leading d ds is.led)

decimal_led : (n : ℕ) → n < 2 ^ 64 → get_or (decimal n) 0 0 ≡ 48 → length (decimal n) ≡ 1
decimal_led zero small first = ap length (decimal_digit 0 (omega arith))
decimal_led (suc m) small first = absurd (omega (arith, first_decimal (suc m) (omega arith) small))

decimal_numeral : (n : ℕ) → n < 2 ^ 64 → IsNumeral (decimal n)
decimal_numeral n small = record {
  digits = digits_decimal own n small;
  some = decimal_nonempty n small;
  led = decimal_led n small;
}

numeral_text : (ds : List ℕ) → IsNumeral ds → digits_value 10 ds < 2 ^ 64 → decimal (digits_value 10 ds) ≡ ds
numeral_text ds is small = decimal-digits_value own ds is.digits is.some is.led small

chosen : (b : Bool) (v n : ℕ) → cond b (Some v) None ≡ Some n → (b ≡ true) × (v ≡ n)
chosen true v n is = (refl, cc)
chosen false v n is = absurd (cc)

-- a word that is read as a number is its text
pub number_told : (ds : List ℕ) (n : ℕ) → number_in ds ≡ Some n → IsNumberText ds n
unfolding number_in
number_told ds n is =
    let c = chosen (is_numeral ds && ltb (digits_value 10 ds) (2 ^ 32)) (digits_value 10 ds) n is in
    let t = and_parts (is_numeral ds) (ltb (digits_value 10 ds) (2 ^ 32)) c.0 in
    let small : digits_value 10 ds < 2 ^ 32 = ltb-true (digits_value 10 ds) (2 ^ 32) t.1 in
    rw (← c.1) (record { small = small; text = sym (numeral_text ds (numeral_told ds t.0) (omega arith)) })

-- the text of a number is read as the number
pub number_read : (ds : List ℕ) (n : ℕ) → IsNumberText ds n → number_in ds ≡ Some n
unfolding number_in
number_read ds n is =
    let wide : n < 2 ^ 64 = omega (arith, is.small) in
    let value : digits_value 10 ds ≡ n = ap (digits_value 10) is.text ∙ digits_value-decimal own n wide in
    let numeral : is_numeral ds ≡ true = ap is_numeral is.text ∙ numeral_tested (decimal n) (decimal_numeral n wide) in
    let small : ltb (digits_value 10 ds) (2 ^ 32) ≡ true = lt-ltb (digits_value 10 ds) (2 ^ 32) (omega (arith, is.small)) in
    cond-true (is_numeral ds && ltb (digits_value 10 ds) (2 ^ 32)) (Some (digits_value 10 ds)) None (and_from _ _ numeral small) ∙ ap (λ v. Some v) value

-- what `parse` gives of a numeral
pub number_parsed : {E : Type 0} (ds : List ℕ) (r : Result ℕ E) → is_numeral ds ≡ true → ParsesUnsigned 32 10 ds r
    → MatchResult r (λ n. number_in ds ≡ Some n) (λ _. number_in ds ≡ None)
unfolding number_in
number_parsed ds r is parses = parsed r (parse_digits own 32 ds r parses (numeral_told ds is).digits) where
  parsed : {E : Type 0} (s : Result ℕ E) → OkIff s ((0 < length ds) × (digits_value 10 ds < 2 ^ 32)) (digits_value 10 ds)
      → MatchResult s (λ n. number_in ds ≡ Some n) (λ _. number_in ds ≡ None)
  parsed (Ok n) h =
      cond-true (is_numeral ds && ltb (digits_value 10 ds) (2 ^ 32)) (Some (digits_value 10 ds)) None (and_from _ _ is (lt-ltb _ _ h.0.1)) ∙ ap (λ v. Some v) (sym h.1)
  parsed (Err e) h = elim (cases_Bool (ltb (digits_value 10 ds) (2 ^ 32))) [
    | inl e ↦ absurd (h ((numeral_told ds is).some, ltb-true (digits_value 10 ds) (2 ^ 32) e))
    | inr e ↦ cond-false (is_numeral ds && ltb (digits_value 10 ds) (2 ^ 32)) (Some (digits_value 10 ds)) None (and_right _ _ e)
  ]

-- any other word is no number
pub no_number : (ds : List ℕ) → is_numeral ds ≡ false → number_in ds ≡ None
unfolding number_in
no_number ds is = rw is refl
