-- Comments of a line: `//` to its end, and `/* */`, which may go over several lines. Quotes protect both.
use Rattle.std.specs.Prelude.{ℕ, ◌==◌, ◌&&◌, ◌||◌, Bool, true, false, cond, List, [], ◌∷◌}
use Rattle.data_text.specs.declared.comments.Mode.{Mode}
use Rattle.data_text.specs.declared.comments.Mode.TheVariants as m

-- what the byte behind a plain one is a part of: behind `"` a text, behind `//` and `/*` a comment
abbrev pub plain_next : ℕ → ℕ → Mode
plain_next c after =
    cond (c == 34) m.Quoted (cond (c == 47 && after == 47) m.Line (cond (c == 47 && after == 42) m.Opening m.Plain))

-- What the next byte is a part of, behind c that is a part of this mode and has `after` behind it. The byte
-- behind the first of `//` and of `/*` is a part of the comment, and so is the last of `*/`.
abbrev pub next_mode : Mode → ℕ → ℕ → Mode
next_mode m.Plain c after = plain_next c after
next_mode m.Quoted c after = cond (c == 34) m.Plain m.Quoted
next_mode m.Line c after = m.Line
next_mode m.Opening c after = m.Block
next_mode m.Block c after = cond (c == 42 && after == 47) m.Closing m.Block
next_mode m.Closing c after = m.Plain

abbrev pub is_comment : Mode → Bool
is_comment m.Plain = false
is_comment m.Quoted = false
is_comment m.Line = true
is_comment m.Opening = true
is_comment m.Block = true
is_comment m.Closing = true

-- a byte of a comment counts as a blank; that includes the first of `//` and of `/*`
abbrev pub shown : Mode → Mode → ℕ → ℕ
shown mode next c = cond (is_comment mode || is_comment next) 32 c

-- a block comment goes on in the next line, nothing else does
abbrev pub at_line_end : Mode → Mode
at_line_end m.Block = m.Block
at_line_end m.Plain = m.Plain
at_line_end m.Quoted = m.Plain
at_line_end m.Line = m.Plain
at_line_end m.Opening = m.Plain
at_line_end m.Closing = m.Plain

abbrev pub first_or_zero : List ℕ → ℕ
first_or_zero [] = 0
first_or_zero (c ∷ rest) = c

-- a line with its comments as blanks, where its first byte has this mode
abbrev pub uncommented_from : Mode → List ℕ → List ℕ
uncommented_from mode [] = []
uncommented_from mode (c ∷ rest) =
    let next = next_mode mode c (first_or_zero rest) in shown mode next c ∷ uncommented_from next rest

-- the mode behind the line's last byte
abbrev pub mode_after : Mode → List ℕ → Mode
mode_after mode [] = mode
mode_after mode (c ∷ rest) = mode_after (next_mode mode c (first_or_zero rest)) rest
