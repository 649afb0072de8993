-- What a table of lines tells.
use Rattle.std.specs.Prelude.{◌≡◌, ℕ, nat_eq, ◌&&◌, Bool, List, []}
use Rattle.std.specs.Borrow.{Bor}
use Rattle.std.specs.Option.{option_map_or}
use Rattle.std.specs.HashMap.{HashMap, get}
use Rattle.iasl_messages.specs.declared.place.Place.{Place}
use Rattle.iasl_messages.specs.declared.place.Line.{Line}
use Rattle.source_lines.specs.declared.lines.LineNumber.{LineNumber}
use Rattle.source_lines.specs.Text.{line_text}

abbrev pub is_same : LineNumber → LineNumber → Bool
is_same this other = nat_eq this.file other.file && nat_eq this.number other.number

-- the text that it has for a place; empty where it has none
abbrev pub text_for : {S : Type 0} → HashMap LineNumber (Bor (List ℕ)) S → Place → List ℕ
text_for texts place = option_map_or (λ text. text.now) (get is_same texts (record { file = place.file; number = place.line })) []

-- for every place the table has the text of its first line
pub record Tells {S : Type 0} (texts : HashMap LineNumber (Bor (List ℕ)) S) (lines : List Line) : Type 0 where
  pub text : (place : Place) → text_for texts place ≡ line_text lines place
