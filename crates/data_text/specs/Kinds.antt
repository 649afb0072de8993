-- Whether a source is the text of a data table.
use Rattle.std.specs.Prelude.{ℕ, nat_eq, ◌&&◌, ◌||◌, Bool, false, cond, List, [], ◌∷◌, codes, map, take, drop}
use Rattle.std.specs.List.{starts_with}
use Rattle.std.specs.Char.{to_ascii_lowercase}
use Rattle.std.specs.Str.{bytes_eq}
use Rattle.iasl_messages.specs.declared.place.Line.{Line}
use Rattle.data_text.specs.declared.comments.Mode.{Mode}
use Rattle.data_text.specs.declared.comments.Mode.TheVariants as m
use Rattle.hex_text.specs.Blanks.{has_blanks_alone, drop_blanks}
use Rattle.data_text.specs.Comments.{uncommented_from, mode_after, at_line_end}

-- the word `Signature` in letters of either case, blanks, and a colon
abbrev pub is_signature : List ℕ → Bool
is_signature text = bytes_eq (map to_ascii_lowercase (take 9 text)) (codes "signature") && starts_with nat_eq (drop_blanks (drop 9 text))
    (codes ":")

-- the first field of a data table, blanks before it aside
abbrev pub begins_fields : List ℕ → Bool
begins_fields bare = let text = drop_blanks bare in starts_with nat_eq text (codes "[") || is_signature text

-- whether the first of these lines that is not blank is such a field; the first byte has this mode, and comments count as blanks
abbrev pub is_data_from : Mode → List Line → Bool
is_data_from mode [] = false
is_data_from mode (line ∷ rest) =
    let bare = uncommented_from mode line.text in
    cond (has_blanks_alone bare) (is_data_from (at_line_end (mode_after mode line.text)) rest) (begins_fields bare)

-- whether these lines are the text of a data table
abbrev pub is_data_table : List Line → Bool
is_data_table lines = is_data_from m.Plain lines
