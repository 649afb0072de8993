-- Formats of Printf and Fprintf (ACPI Specification 6.4, 19.6.52 and 19.6.109): `%o` stands for the next argument and `%%` for `%`.
use Rattle.std.specs.Prelude.{ℕ, nat_eq, Bool, true, not, ◌&&◌, if◌then◌else◌, List, [], ◌∷◌}

abbrev pub is_hole : ℕ → ℕ → Bool
is_hole c d = nat_eq c 0x25 && nat_eq d 0x6F

abbrev pub is_percent : ℕ → ℕ → Bool
is_percent c d = nat_eq c 0x25 && nat_eq d 0x25

-- a format: the text before its first argument, and the text behind each argument
abbrev pub Cut : Type 0
Cut = List ℕ × List (List ℕ)

abbrev pub with_byte : ℕ → Cut → Cut
with_byte c r = (c ∷ r.0, r.1)

abbrev pub with_hole : Cut → Cut
with_hole r = ([], r.0 ∷ r.1)

abbrev pub cut : List ℕ → Cut
cut [] = ([], [])
cut (c ∷ []) = (c ∷ [], [])
cut (c ∷ d ∷ format) = if is_hole c d then with_hole (cut format) else if is_percent c d then with_byte 0x25 (cut format) else
    with_byte c (cut (d ∷ format))

-- each `%` begins `%o` or `%%`
abbrev pub is_format : List ℕ → Bool
is_format [] = true
is_format (c ∷ []) = not (nat_eq c 0x25)
is_format (c ∷ d ∷ format) = if is_hole c d then is_format format else if is_percent c d then is_format format else not (nat_eq c 0x25)
    && is_format (d ∷ format)
