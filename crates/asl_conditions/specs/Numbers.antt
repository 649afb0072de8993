-- The numbers of the language.
use Rattle.std.specs.Prelude.{ℕ, ◌+◌, ◌*◌, ◌^◌, ◌==◌, ◌&&◌, not, if◌then◌else◌, nat_lt, nat_eq, List, length, drop, codes, Option, Some}
use Rattle.std.specs.Prelude.{None, Bool}
use Rattle.std.specs.List.{fold, list_all, starts_with}
use Rattle.std.specs.Char.{digit_value, is_digit}

-- the number that digits write in a base
abbrev pub value_in : ℕ → List ℕ → ℕ
value_in base digits = fold (λ n digit. n * base + digit_value digit) 0 digits

-- at least one digit of the base, and nothing else
abbrev pub are_digits : ℕ → List ℕ → Bool
are_digits base text = not (length text == 0) && list_all (λ digit. is_digit digit base) text

-- a number in a base, where it fits 64 bits
abbrev pub numeral : ℕ → List ℕ → Option ℕ
numeral base text = if are_digits base text && nat_lt (value_in base text) (2 ^ 64) then Some (value_in base text) else None

-- a number: hexadecimal behind `0x`, octal with a leading 0, else decimal
abbrev pub number_of : List ℕ → Option ℕ
number_of text = if starts_with nat_eq text (codes "0x") then numeral 16 (drop 2 text) else
    (if starts_with nat_eq text (codes "0") then numeral 8 text else numeral 10 text)
