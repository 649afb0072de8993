-- What the value of a field is: a hexadecimal number, a text in quotes, or bytes as pairs of hexadecimal digits.
use Rattle.std.specs.Prelude.{◌≡◌, ◌≤◌, ◌<◌, ◌^◌, ℕ, ◌+◌, ◌*◌, not, ◌==◌, ◌&&◌, nat_lt, Bool, cond, List, [], ◌∷◌, drop, Some, None}
use Rattle.std.specs.declared.option.Option.{Option}
use Rattle.std.specs.Option.{option_map}
use Rattle.std.specs.List.{take_while, prefix_len}
use Rattle.hex_text.specs.Digits.{behind_digits, byte_of, digits_of, number_of}
use Rattle.data_text.specs.declared.values.Number.{Number}
use Rattle.data_text.specs.declared.values.Number.TheVariants as n
use Rattle.data_text.specs.declared.values.Pair.{Pair}
use Rattle.data_text.specs.declared.values.Pair.TheVariants as p
use Rattle.hex_text.specs.Blanks.{is_blank, has_blanks_alone, drop_blanks}

-- `0x` (48, 120) may stand before the digits
abbrev pub behind_prefix : List ℕ → List ℕ
behind_prefix [] = []
behind_prefix (a ∷ []) = a ∷ []
behind_prefix (a ∷ b ∷ rest) = cond (a == 48 && b == 120) rest (a ∷ b ∷ rest)

abbrev pub number_from : List ℕ → List ℕ → Option ℕ
number_from [] rest = None
number_from (digit ∷ digits) rest = cond (has_blanks_alone rest) (Some (number_of (digit ∷ digits))) None

-- the number that a value is, where it is one: digits between blanks
abbrev pub number_in : List ℕ → Option ℕ
number_in value = let text = behind_prefix (drop_blanks value) in number_from (digits_of text) (behind_digits text)

-- a byte other than a quote
abbrev pub is_inside : ℕ → Bool
is_inside c = not (c == 34)

-- what stands before the next quote, and from it on
abbrev pub before_quote : List ℕ → List ℕ
before_quote text = take_while is_inside text

abbrev pub from_quote : List ℕ → List ℕ
from_quote text = drop (prefix_len is_inside text) text

abbrev pub text_before : List ℕ → List ℕ → Option (List ℕ)
text_before inside [] = None
text_before inside (quote ∷ rest) = cond (has_blanks_alone rest) (Some inside) None

abbrev pub text_from_quote : List ℕ → Option (List ℕ)
text_from_quote [] = None
text_from_quote (c ∷ rest) = cond (c == 34) (text_before (before_quote rest) (from_quote rest)) None

-- the text that a value is, where it is one: bytes between two quotes, and blanks around them
abbrev pub text_in : List ℕ → Option (List ℕ)
text_in value = text_from_quote (drop_blanks value)

abbrev pub with_first : Option ℕ → Option (List ℕ) → Option (List ℕ)
with_first None bytes = None
with_first (Some byte) bytes = option_map (λ more. byte ∷ more) bytes

-- pairs of digits with blanks between, where so much of a pair has been read
abbrev pub bytes_at : Pair → List ℕ → Option (List ℕ)
bytes_at p.Ready [] = Some []
bytes_at p.Ready (c ∷ rest) = cond (is_blank c) (bytes_at p.Ready rest) (bytes_at (p.Half c) rest)
bytes_at (p.Half high) [] = None
bytes_at (p.Half high) (c ∷ rest) = with_first (byte_of high c) (bytes_at p.Done rest)
bytes_at p.Done [] = Some []
bytes_at p.Done (c ∷ rest) = cond (is_blank c) (bytes_at p.Ready rest) None

-- the bytes that a value is, where it is some
abbrev pub bytes_in : List ℕ → Option (List ℕ)
bytes_in value = bytes_at p.Ready value

-- what the code found is this number; one that needs more than 64 bits is not told
abbrev pub IsNumber : Number → Option ℕ → Type 0
IsNumber n.Malformed found = found ≡ None
IsNumber n.Wide found = (number : ℕ) × (found ≡ Some number) × (2 ^ 64 ≤ number)
IsNumber (n.Is number) found = (found ≡ Some number) × (number < 2 ^ 64)
