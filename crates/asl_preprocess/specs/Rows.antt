-- The rows of a file: its lines, where a directive that goes on in further lines is one row with them.
use Rattle.std.specs.Prelude.{ℕ, ◌+◌, ◌-◌, ◌&&◌, Bool, false, not, cond, List, [], ◌∷◌, ◌++◌, length, take, drop, is_some, Some, None}
use Rattle.std.specs.declared.option.Option.{Option}
use Rattle.std.specs.Option.{option_to_list}
use Rattle.std.specs.Str.{bytes_eq}
use Rattle.iasl_messages.specs.Cut.{lines_of}
use Rattle.asl_fragments.specs.Fragments.{ends_in_comment}
use Rattle.asl_directives.specs.Words.{behind_mark}

-- without the last line where that is empty
abbrev pub without_last_empty : List (List ℕ) → List (List ℕ)
without_last_empty [] = []
without_last_empty ([] ∷ []) = []
without_last_empty ((c ∷ cs) ∷ []) = (c ∷ cs) ∷ []
without_last_empty (line ∷ next ∷ rest) = line ∷ without_last_empty (next ∷ rest)

-- the lines of a file: it is cut at LF, and nothing behind the last LF is no line
abbrev pub file_lines : List ℕ → List (List ℕ)
file_lines bytes = without_last_empty (lines_of bytes)

-- A row, with the number of its first line: a directive; or any other line, which may begin inside a block comment.
pub data Row : Type 0 where
  Directive : ℕ → List ℕ → Row
  Ordinary : ℕ → Bool → List ℕ → Row

-- a directive is a line that does not begin inside a block comment and whose first byte past blanks is `#`
abbrev pub begins_directive : Bool → List ℕ → Bool
begins_directive in_comment line = not in_comment && is_some (behind_mark 35 line)

-- a text without the `\` at its end; none where it does not end so
abbrev pub continued : List ℕ → Option (List ℕ)
continued text = cond (bytes_eq (drop (length text - 1) text) (92 ∷ [])) (Some (take (length text - 1) text)) None

-- what is open between two lines: nothing, or a block comment; or a directive that goes on, by its first line's number
pub data Open : Type 0 where
  Between : Bool → Open
  Within : ℕ → List ℕ → Open

-- a row that ends with a line, if one does, and what is open behind the line
abbrev pub Turn : Type 0
Turn = Option Row × Open

abbrev pub turn_joined : ℕ → List ℕ → Option (List ℕ) → Turn
turn_joined start text (Some front) = (None, Within start front)
turn_joined start text None = (Some (Directive start text), Between false)

-- behind a directive's text so far: it goes on where it ends in `\`, and a block comment does not go on behind it
abbrev pub turn_within : ℕ → List ℕ → Turn
turn_within start text = turn_joined start text (continued text)

abbrev pub turn : Bool → Open → ℕ → List ℕ → Turn
turn enabled (Within start text) n line = turn_within start (text ++ line)
turn enabled (Between in_comment) n line =
    cond (enabled && begins_directive in_comment line) (turn_within n line)
    (Some (Ordinary n in_comment line), Between (ends_in_comment in_comment line))

-- at the end of a file; a `\` there is dropped
abbrev pub rows_at_end : Open → List Row
rows_at_end (Between in_comment) = []
rows_at_end (Within start text) = Directive start text ∷ []

-- the rows of the lines from number n on; there are directives only where they are enabled
abbrev pub rows_from : Bool → Open → ℕ → List (List ℕ) → List Row
rows_from enabled state n [] = rows_at_end state
rows_from enabled state n (line ∷ lines) =
    option_to_list (turn enabled state n line).0 ++ rows_from enabled (turn enabled state n line).1 (n + 1) lines

-- the rows of a file
abbrev pub rows_of : Bool → List ℕ → List Row
rows_of enabled bytes = rows_from enabled (Between false) 1 (file_lines bytes)
