-- Hexadecimal digits, of either case.
use Rattle.std.specs.Prelude.{ℕ, ◌+◌, ◌*◌, List, [], drop, Some, None}
use Rattle.std.specs.declared.option.Option.{Option}
use Rattle.std.specs.Option.{option_map, unwrap_or}
use Rattle.std.specs.List.{fold, prefix_len, take_while}
use Rattle.hex.specs.Hex.{is_hex_digit, hex_digit_value}

-- the byte of two digits, where both are
abbrev pub byte_of_digits : Option ℕ → Option ℕ → Option ℕ
byte_of_digits None low = None
byte_of_digits (Some h) low = option_map (λ l. h * 16 + l) low

abbrev pub byte_of : ℕ → ℕ → Option ℕ
byte_of high low = byte_of_digits (hex_digit_value high) (hex_digit_value low)

-- the number that digits write
abbrev pub number_of : List ℕ → ℕ
number_of digits = fold (λ n digit. n * 16 + unwrap_or (hex_digit_value digit) 0) 0 digits

-- digits at the front, and what stands behind them
abbrev pub digits_of : List ℕ → List ℕ
digits_of text = take_while is_hex_digit text

abbrev pub behind_digits : List ℕ → List ℕ
behind_digits text = drop (prefix_len is_hex_digit text) text
