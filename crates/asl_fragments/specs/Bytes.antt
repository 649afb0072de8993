-- The kinds of bytes that a line is read by.
use Rattle.std.specs.Prelude.{ℕ, ◌==◌, ◌||◌, Bool, List}
use Rattle.std.specs.List.{list_all}
use Rattle.std.specs.Char.{is_ascii_alphabetic, is_ascii_digit}

-- a blank is a space or a tab
abbrev pub is_blank : ℕ → Bool
is_blank b = b == 32 || b == 9

-- nothing but blanks
abbrev pub is_blank_text : List ℕ → Bool
is_blank_text text = list_all is_blank text

-- a letter or `_`
abbrev pub begins_identifier : ℕ → Bool
begins_identifier b = is_ascii_alphabetic b || b == 95

-- a letter, a digit or `_`
abbrev pub in_identifier : ℕ → Bool
in_identifier b = begins_identifier b || is_ascii_digit b
