-- The forms of the directives, and of a line that includes a file. Each is read off a text whose comments are blanks.
use Rattle.std.specs.Prelude.{ℕ, ◌==◌, ◌&&◌, Bool, true, false, not, cond, List, [], ◌∷◌, length, map, codes, Some, None}
use Rattle.std.specs.declared.option.Option.{Option}
use Rattle.std.specs.Option.{option_map, option_and_then}
use Rattle.std.specs.Char.{to_ascii_lowercase}
use Rattle.std.specs.Str.{bytes_eq, is_utf8}
use Rattle.asl_fragments.specs.Bytes.{is_blank, is_blank_text}
use Rattle.asl_directives.specs.declared.forms.IncludedFile.{IncludedFile as IncludedFileByCode}
use Rattle.asl_directives.specs.Words.{past_blanks, trimmed, word_of, behind_word, is_identifier, behind_mark, split_at_mark}

-- what stands between this mark and the next of that one, where nothing but blanks stands around
abbrev pub with_nothing_behind : List ℕ × List ℕ → Option (List ℕ)
with_nothing_behind cut = cond (is_blank_text cut.1) (Some cut.0) None

abbrev pub between_marks : ℕ → ℕ → List ℕ → Option (List ℕ)
between_marks opening closing text =
    option_and_then (λ inner. option_and_then with_nothing_behind (split_at_mark closing inner)) (behind_mark opening text)

-- a string and a closing bracket: the text of the string
abbrev pub with_bracket_behind : List ℕ × List ℕ → Option (List ℕ)
with_bracket_behind cut = option_and_then (λ rest. cond (is_blank_text rest) (Some cut.0) None) (behind_mark 41 cut.1)

-- `("TEXT")`, where nothing but blanks stands around each part
abbrev pub in_brackets : List ℕ → Option (List ℕ)
in_brackets text =
    option_and_then (λ inner. option_and_then (λ string. option_and_then with_bracket_behind (split_at_mark 34 string))
    (behind_mark 34 inner)) (behind_mark 40 text)

-- `#undef NAME`, `#ifdef NAME`, `#ifndef NAME`: one identifier and nothing else
abbrev pub name_in : List ℕ → Option (List ℕ)
name_in text = cond (is_identifier (word_of text) && is_blank_text (behind_word text)) (Some (word_of text)) None

abbrev pub name_alone : List ℕ → Option (List ℕ)
name_alone text = name_in (past_blanks text)

-- a name ends at a blank or at the line's end
abbrev pub is_ended : List ℕ → Bool
is_ended [] = true
is_ended (c ∷ cs) = is_blank c

-- `#define NAME TEXT`: an identifier that is ended so, and the text without the blanks at its ends
abbrev pub definition_in : List ℕ → Option (List ℕ × List ℕ)
definition_in text = cond (is_identifier (word_of text) && is_ended (behind_word text)) (Some (word_of text, trimmed (behind_word text)))
    None

abbrev pub definition_of : List ℕ → Option (List ℕ × List ℕ)
definition_of text = definition_in (past_blanks text)

-- `#pragma message ("TEXT")`
abbrev pub message_in : List ℕ → Option (List ℕ)
message_in text = cond (bytes_eq (word_of text) (codes "message")) (in_brackets (behind_word text)) None

abbrev pub message_of : List ℕ → Option (List ℕ)
message_of text = message_in (past_blanks text)

-- a file that is asked for: its name as written, and whether it stands in quotes or else in `<` and `>`
pub record IncludedFile : Type 0 where
  pub quoted : Bool
  pub name : List ℕ

-- a name of a file is not empty, and it is UTF-8
abbrev pub is_file_name : List ℕ → Bool
is_file_name name = not (length name == 0) && is_utf8 name

abbrev pub file_name_of : List ℕ → Option (List ℕ)
file_name_of bytes = cond (is_file_name bytes) (Some bytes) None

abbrev pub included_as : Bool → List ℕ → Option IncludedFile
included_as quoted bytes = option_map (λ name. record { quoted = quoted; name = name }) (file_name_of bytes)

-- the second where there is no first
abbrev pub else_in_angles : List ℕ → Option (List ℕ) → Option IncludedFile
else_in_angles text (Some name) = included_as true name
else_in_angles text None = option_and_then (included_as false) (between_marks 60 62 text)

-- `#include "f"` or `#include <f>`
abbrev pub include_of : List ℕ → Option IncludedFile
include_of text = else_in_angles text (between_marks 34 34 text)

-- the letters of a word in lower case
abbrev pub lower : List ℕ → List ℕ
lower text = map to_ascii_lowercase text

-- `Include ("f")` as a line of its own, the word in letters of either case: the f as written
abbrev pub include_in : List ℕ → Option (List ℕ)
include_in text = cond (bytes_eq (lower (word_of text)) (codes "include")) (in_brackets (behind_word text)) None

abbrev pub include_line : List ℕ → Option (List ℕ)
include_line text = include_in (past_blanks text)

-- the code's answer as the definition's
abbrev pub included_by : IncludedFileByCode → IncludedFile
included_by asked = record { quoted = asked.quoted; name = asked.name.now }
