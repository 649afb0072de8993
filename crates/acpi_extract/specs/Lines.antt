-- The lines of a dump, and which of them are blank or begin a table.
use Rattle.std.specs.Prelude.{ℕ, Bool, not, ◌==◌, ◌&&◌, ◌||◌, cond, nat_eq, List, length, take, drop, codes, Some, None}
use Rattle.std.specs.declared.option.Option.{Option}
use Rattle.std.specs.List.{list_all, starts_with}
use Rattle.std.specs.Char.{is_ascii_graphic}
use Rattle.std.specs.Str.{bytes_eq}
use Rattle.hex.specs.Hex.{is_hex_digit}

-- a character of a signature: printable, neither a blank nor `/`
abbrev pub is_signature_byte : ℕ → Bool
is_signature_byte c = is_ascii_graphic c && not (c == 47)

-- a signature is four of these, or `RSD PTR`
abbrev pub is_signature : List ℕ → Bool
is_signature text = (length text == 4 && list_all is_signature_byte text) || bytes_eq text (codes "RSD PTR")

-- at least one hexadecimal digit, and nothing else
abbrev pub is_digits : List ℕ → Bool
is_digits text = not (length text == 0) && list_all is_hex_digit text

-- what follows the signature: ` @ 0x` and digits
abbrev pub is_address : List ℕ → Bool
is_address text = starts_with nat_eq text (codes " @ 0x") && is_digits (drop 5 text)

-- a header line with a signature of this length
abbrev pub is_header_with : ℕ → List ℕ → Bool
is_header_with len line = is_signature (take len line) && is_address (drop len line)

-- the signature of a header line; no other line has one
abbrev pub signature_of : List ℕ → Option (List ℕ)
signature_of line = cond (is_header_with 4 line) (Some (take 4 line)) (cond (is_header_with 7 line) (Some (take 7 line)) None)
