-- What becomes of a line that is no directive.
use Rattle.std.specs.Prelude.{ℕ, ◌+◌, ◌==◌, ◌||◌, Bool, false, true, cond, nat_le, List, [], ◌∷◌, ◌++◌, Some, None, Ok}
use Rattle.std.specs.declared.option.Option.{Option}
use Rattle.std.specs.Char.{to_ascii_lowercase}
use Rattle.iasl_ports.specs.Fetched.{most_bytes}
use Rattle.iasl_messages.specs.declared.place.Place.{Place}
use Rattle.iasl_messages.specs.declared.place.Line.{Line}
use Rattle.asl_fragments.specs.Fragments.{ends_in_comment, without_comments}
use Rattle.asl_macros.specs.History.{History}
use Rattle.asl_macros.specs.Replacement.{replaced}
use Rattle.asl_macros.specs.declared.context.Within.TheVariants.{InLine}
use Rattle.asl_directives.specs.Words.{blanks_before, past_blanks}
use Rattle.asl_directives.specs.Forms.{IncludedFile, file_name_of, include_line}
use Rattle.asl_directives.specs.Branches.{is_read}
use Rattle.asl_preprocess.specs.State.{State, Pass, Outcome, at, stopped, total_size, with_lines}

-- What a row does: what is known behind it, or that a file is asked for at a place.
pub data RowEffect : Type 0 where
  Goes : Pass → RowEffect
  Asks : IncludedFile → Place → Pass → RowEffect

-- with a state in place of the former one
abbrev pub goes : Pass → State → Outcome RowEffect
goes pass state = Ok (Goes (record { state = state; branches = pass.branches }))

-- a line more, where the lines joined by LF then have at most 16 MiB; else it is the first stop, in column 1
abbrev pub with_line : Pass → Line → Outcome RowEffect
with_line pass line =
    cond (nat_le (total_size (pass.state.lines ++ line ∷ [])) (most_bytes + 1))
    (goes pass (with_lines pass.state (pass.state.lines ++ line ∷ [])))
    (stopped pass.state 6007 (at line.file line.number 1) [])

-- the text that is left of a line: its defined names replaced, where the preprocessor is enabled
abbrev pub text_left : Bool → History → Bool → List ℕ → List ℕ
text_left enabled history in_comment text = cond enabled (replaced InLine history in_comment text) text

-- A line of its own `Include ("f")`, comments aside: the f as written. A line that begins inside a block comment or
-- leaves one open is none.
abbrev pub asked_by_line : Bool → List ℕ → Option (List ℕ)
asked_by_line in_comment text = cond (in_comment || ends_in_comment in_comment text) None (include_line (without_comments false text))

-- a byte that may begin the word `Include`, or a comment before it
abbrev pub begins_include : ℕ → Bool
begins_include b = b == 47 || to_ascii_lowercase b == 105

abbrev pub may_begin_include : List ℕ → Bool
may_begin_include [] = false
may_begin_include (b ∷ bs) = begins_include b

-- whether the first byte behind blanks is one
abbrev pub may_include : List ℕ → Bool
may_include text = may_begin_include (past_blanks text)

-- the place of the word `Include`
abbrev pub word_place : ℕ → ℕ → List ℕ → Place
word_place file n text = at file n (blanks_before (without_comments false text) + 1)

abbrev pub asks_for : Place → Pass → Option (List ℕ) → Outcome RowEffect
asks_for place pass None = stopped pass.state 6003 place []
asks_for place pass (Some name) = Ok (Asks (record { quoted = true; name = name }) place pass)

abbrev pub of_asked : Bool → ℕ → ℕ → Bool → List ℕ → Pass → Option (List ℕ) → Outcome RowEffect
of_asked enabled file n in_comment text pass (Some name) = asks_for (word_place file n text) pass (file_name_of name)
of_asked enabled file n in_comment text pass None =
    with_line pass (record { file = file; number = n; text = text_left enabled pass.state.history in_comment text })

-- a line of the file with this number
abbrev pub of_line : Bool → ℕ → ℕ → Bool → List ℕ → Pass → Outcome RowEffect
of_line enabled file n in_comment text pass =
    cond (is_read pass.branches) (of_asked enabled file n in_comment text pass (asked_by_line in_comment text)) (Ok (Goes pass))
