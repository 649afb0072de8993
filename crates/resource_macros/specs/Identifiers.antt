-- EISA identifiers, UUIDs, and texts of 16-bit characters.
use Rattle.std.specs.Prelude.{ℕ, ◌+◌, ◌*◌, ◌-◌, ◌^◌, ◌==◌, ◌&&◌, ◌||◌, nat_le, Bool, true, cond, List, [], ◌∷◌, length, map, slice_index}
use Rattle.std.specs.Prelude.{Some, None}
use Rattle.std.specs.Int.{to_be_bytes, from_le_bytes, w32}
use Rattle.std.specs.declared.option.Option.{Option}

abbrev pub is_between : ℕ → ℕ → ℕ → Bool
is_between first last byte = nat_le first byte && nat_le byte last

-- a letter in upper case
abbrev pub is_letter : ℕ → Bool
is_letter byte = is_between 65 90 byte

-- a hexadecimal digit of either case
abbrev pub is_digit : ℕ → Bool
is_digit byte = is_between 48 57 byte || (is_between 65 70 byte || is_between 97 102 byte)

-- its value; 0 where it is none
abbrev pub digit : ℕ → ℕ
digit byte =
    cond (is_between 48 57 byte) (byte - 48) (
    cond (is_between 65 70 byte) (byte - 55) (
    cond (is_between 97 102 byte) (byte - 87) 0))

-- ---- EISA identifiers

-- three letters, each of five bits: A is 1, Z is 26
abbrev pub letters : ℕ → ℕ → ℕ → ℕ
letters a b c = (a - 64) * 2 ^ 10 + (b - 64) * 2 ^ 5 + (c - 64)

-- four digits, each of four bits
abbrev pub digits : ℕ → ℕ → ℕ → ℕ → ℕ
digits d e f g = digit d * 2 ^ 12 + digit e * 2 ^ 8 + digit f * 2 ^ 4 + digit g

-- The letters behind a bit 0, and then the digits, are four bytes, the highest bit first. The number of an identifier
-- has these bytes, its lowest first.
unfoldable pub eisaid_of : List ℕ → Option ℕ
eisaid_of (a ∷ b ∷ c ∷ d ∷ e ∷ f ∷ g ∷ []) =
    cond (is_letter a && is_letter b && is_letter c && is_digit d && is_digit e && is_digit f && is_digit g)
    (Some (from_le_bytes w32 (to_be_bytes w32 (letters a b c * 2 ^ 16 + digits d e f g)))) None
eisaid_of _ = None

-- ---- UUIDs

-- where a hyphen stands between digits, as in aabbccdd-eeff-gghh-iijj-kkllmmnnoopp
abbrev pub is_hyphen_place : ℕ → Bool
is_hyphen_place place = place == 8 || (place == 13 || (place == 18 || place == 23))

abbrev pub is_in_form : ℕ → ℕ → Bool
is_in_form place byte = cond (is_hyphen_place place) (byte == 45) (is_digit byte)

-- whether characters from a place on are in the form
abbrev pub are_in_form : ℕ → List ℕ → Bool
are_in_form place [] = true
are_in_form place (byte ∷ bytes) = is_in_form place byte && are_in_form (place + 1) bytes

-- the two digits from a place on, as a byte
abbrev pub pair : List ℕ → ℕ → ℕ
pair text place = 16 * digit (slice_index text place) + digit (slice_index text (place + 1))

-- where the pairs of digits stand whose bytes come one after another: dd cc bb aa ff ee hh gg ii jj kk ll mm nn oo pp
abbrev pub pair_places : List ℕ
pair_places = 6 ∷ 4 ∷ 2 ∷ 0 ∷ 11 ∷ 9 ∷ 16 ∷ 14 ∷ 19 ∷ 21 ∷ 24 ∷ 26 ∷ 28 ∷ 30 ∷ 32 ∷ 34 ∷ []

-- the bytes of a UUID
unfoldable pub uuid_of : List ℕ → Option (List ℕ)
uuid_of text = cond (length text == 36 && are_in_form 0 text) (Some (map (pair text) pair_places)) None

-- ---- texts of 16-bit characters

-- each byte with a 0 behind it, and the character 0
abbrev pub utf16_of : List ℕ → List ℕ
utf16_of [] = 0 ∷ 0 ∷ []
utf16_of (byte ∷ bytes) = byte ∷ 0 ∷ utf16_of bytes
