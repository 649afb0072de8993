-- The number of devices that a word writes is the one whose decimal digits the word is.
use Rattle.std.proofs.Common.{◌≡◌, ℕ, zero, suc, ◌<◌, ◌≤◌, Bool, true, false, cond, List, [], ◌∷◌, length, get_or, Some, None, Result, Ok, Err, refl, sym, ap, ◌∙◌, arith}
use Rattle.std.specs.Prelude.{◌&&◌, ◌^◌, nat_le, decimal}
use Rattle.std.specs.Str.{all_ascii_digits}
use Rattle.std.specs.Str.Parse.{digits_value, ParsesUnsigned}
use Rattle.std.proofs.lemmas.Bool.{le-leb}
use Rattle.std.proofs.lemmas.Bool.Decides.{nat_tests}
use Rattle.std.proofs.lemmas.Fmt.{decimal-digits_value, decimal_digit, decimal_nonempty, first_decimal, digits_decimal, digits_value-decimal}
use Rattle.std.proofs.lemmas.Str.Parse.{IsNumeralModel, numerals_by_value, tells_all_ascii_digits, digit_at, parse_plain}
use Rattle.std.specs.Result.{OkIff}
use Rattle.std.proofs.lemmas.Result.{OkIff-at_ok, OkIff-at_err}
use Rattle.iasl_options.specs.Task.{most_devices, begins_number, count_in}

abbrev AreDigits : List ℕ → Type 0
AreDigits ds = all_ascii_digits ds ≡ true

pub own : IsNumeralModel AreDigits (digits_value 10)
own = numerals_by_value AreDigits tells_all_ascii_digits

-- a word that begins a number has a first byte, which is no 0
pub begins : (word : List ℕ) → begins_number word ≡ true → (0 < length word) × (48 < get_or word 0 0) × (get_or word 0 0 ≤ 57)
begins [] e = absurd cc
begins (c ∷ cs) e = (omega arith, grind (arith, nat_tests, e), grind (arith, nat_tests, e))

pub begins_so : (word : List ℕ) → 0 < length word → 48 < get_or word 0 0 → get_or word 0 0 ≤ 57 → begins_number word ≡ true
begins_so [] some above below = absurd (omega (arith, some))
begins_so (c ∷ cs) some above below = grind (arith, nat_tests, above, below)

not_zero : (n : ℕ) (word : List ℕ) → decimal n ≡ word → 48 < get_or word 0 0 → 1 ≤ n
not_zero zero word e above =
    let first : get_or word 0 0 ≡ 48 = sym (ap (λ ds. get_or ds 0 0) e) ∙ ap (λ ds. get_or ds 0 0) (decimal_digit 0 (omega arith)) in
    absurd (omega (arith, first, above))
not_zero (suc n) word e above = omega arith

pub counted : (word : List ℕ) (count : ℕ) → count_in word ≡ Some count → (1 ≤ count) × (count ≤ most_devices) × (word ≡ decimal count)
counted word count e = by_tests (begins_number word) refl (all_ascii_digits word) refl (nat_le (digits_value 10 word) most_devices) refl e
  where
    by_tests : (b : Bool) → begins_number word ≡ b → (c : Bool) → all_ascii_digits word ≡ c → (d : Bool) → nat_le (digits_value 10 word) most_devices ≡ d
        → cond (b && (c && d)) (Some (digits_value 10 word)) None ≡ Some count → (1 ≤ count) × (count ≤ most_devices) × (word ≡ decimal count)
    by_tests false hb c hc d hd k = absurd cc
    by_tests true hb false hc d hd k = absurd cc
    by_tests true hb true hc false hd k = absurd cc
    by_tests true hb true hc true hd k =
        let value : digits_value 10 word ≡ count = cc in
        let front = begins word hb in
        let above = front.1 in
        let few : count ≤ most_devices = grind (arith, nat_tests, hd, value) in
        let digits : decimal (digits_value 10 word) ≡ word = decimal-digits_value own word hc front.0 (λ zero_first. absurd (omega (arith, zero_first, above))) (omega (arith, few, value)) in
        let same : decimal count ≡ word = sym (ap decimal value) ∙ digits in
        (not_zero count word same above, few, sym same)

pub counting : (count : ℕ) → 1 ≤ count → count ≤ most_devices → count_in (decimal count) ≡ Some count
counting count some few =
    let small : count < 2 ^ 64 = omega (arith, few) in
    let digits : all_ascii_digits (decimal count) ≡ true = digits_decimal own count small in
    let value : digits_value 10 (decimal count) ≡ count = digits_value-decimal own count small in
    let long : 0 < length (decimal count) = decimal_nonempty count small in
    let in_range = digit_at (decimal count) 0 (own.to (decimal count) digits) long in
    let front : begins_number (decimal count) ≡ true = begins_so (decimal count) long (first_decimal count (omega (arith, some)) small) in_range.1 in
    ap (λ b. cond (b && (all_ascii_digits (decimal count) && nat_le (digits_value 10 (decimal count)) most_devices)) (Some (digits_value 10 (decimal count))) None) front
    ∙ ap (λ b. cond (b && nat_le (digits_value 10 (decimal count)) most_devices) (Some (digits_value 10 (decimal count))) None) digits
    ∙ ap (λ v. cond (nat_le v most_devices) (Some v) None) value
    ∙ ap (λ b. cond b (Some count) None) (le-leb count most_devices few)

-- ---- by `parse`

abbrev IsRead : List ℕ → Type 0
IsRead word = (all_ascii_digits word ≡ true) × (0 < length word) × (digits_value 10 word < 2 ^ 32)

read_of : {E : Type 0} (word : List ℕ) (r : Result ℕ E) → begins_number word ≡ true → ParsesUnsigned 32 10 word r → OkIff r (IsRead word) (digits_value 10 word)
read_of word r front h =
    let above = (begins word front).1 in
    parse_plain own 32 word r h (λ plus. omega (arith, plus, above))

by_digits : (word : List ℕ) → begins_number word ≡ true → all_ascii_digits word ≡ true → count_in word ≡ cond (nat_le (digits_value 10 word) most_devices) (Some (digits_value 10 word)) None
by_digits word front digits =
    ap (λ b. cond (b && (all_ascii_digits word && nat_le (digits_value 10 word) most_devices)) (Some (digits_value 10 word)) None) front
    ∙ ap (λ b. cond (b && nat_le (digits_value 10 word) most_devices) (Some (digits_value 10 word)) None) digits

of_value : (word : List ℕ) (count : ℕ) → begins_number word ≡ true → all_ascii_digits word ≡ true → count ≡ digits_value 10 word → count_in word ≡ cond (nat_le count most_devices) (Some count) None
of_value word count front digits value = by_digits word front digits ∙ ap (λ v. cond (nat_le v most_devices) (Some v) None) (sym value)

pub few_read : {E : Type 0} (word : List ℕ) (r : Result ℕ E) (count : ℕ) → begins_number word ≡ true → ParsesUnsigned 32 10 word r → r ≡ Ok count → nat_le count most_devices ≡ true → Some count ≡ count_in word
few_read word r count front h is few =
    let k = OkIff-at_ok r (IsRead word) (digits_value 10 word) count (read_of word r front h) is in
    sym (of_value word count front k.0.0 k.1 ∙ ap (λ b. cond b (Some count) None) few)

pub many_read : {E : Type 0} (word : List ℕ) (r : Result ℕ E) (count : ℕ) → begins_number word ≡ true → ParsesUnsigned 32 10 word r → r ≡ Ok count → nat_le count most_devices ≡ false → None ≡ count_in word
many_read word r count front h is many =
    let k = OkIff-at_ok r (IsRead word) (digits_value 10 word) count (read_of word r front h) is in
    sym (of_value word count front k.0.0 k.1 ∙ ap (λ b. cond b (Some count) None) many)

pub none_read : {E : Type 0} (word : List ℕ) (r : Result ℕ E) (reason : E) → begins_number word ≡ true → ParsesUnsigned 32 10 word r → r ≡ Err reason → None ≡ count_in word
none_read word r reason front h is = by_tests (begins_number word) (all_ascii_digits word) refl (nat_le (digits_value 10 word) most_devices) refl
  where
    by_tests : (b c : Bool) → all_ascii_digits word ≡ c → (d : Bool) → nat_le (digits_value 10 word) most_devices ≡ d → None ≡ cond (b && (c && d)) (Some (digits_value 10 word)) None
    by_tests false c hc d hd = refl
    by_tests true false hc d hd = refl
    by_tests true true hc false hd = refl
    by_tests true true hc true hd =
        let small : digits_value 10 word < 2 ^ 32 = grind (arith, nat_tests, hd) in
        absurd (OkIff-at_err r (IsRead word) (digits_value 10 word) reason (read_of word r front h) is (hc, (begins word front).0, small))
