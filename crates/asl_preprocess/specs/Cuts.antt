-- What the code tells of the lines that it cuts.
use Rattle.std.specs.Prelude.{◌≡◌, ℕ, ◌-◌, ◌<◌, true, false, Bool, List, length, take, drop, slice_index, None}
use Rattle.asl_fragments.specs.Fragments.{ends_in_comment, is_plain, without_comments}
use Rattle.asl_directives.specs.Forms.{include_line}

-- neither a string nor a comment begins before this place
abbrev pub IsPlainBelow : ℕ → List ℕ → Type 0
IsPlainBelow place text = (k : ℕ) → k < place → is_plain (slice_index text k) ≡ true

-- a line that is plain leaves no block comment open, if it begins inside none
abbrev pub IsClosed : Bool → List ℕ → Type 0
IsClosed plain line = plain ≡ true → ends_in_comment false line ≡ false

-- and it asks for no file
abbrev pub AsksNothing : Bool → List ℕ → Type 0
AsksNothing plain line = plain ≡ true → include_line (without_comments false line) ≡ None

-- a text that another begins with
abbrev pub IsFront : List ℕ → List ℕ → Type 0
IsFront line text = line ≡ take (length line) text

-- a text that another ends with
abbrev pub IsEnd : List ℕ → List ℕ → Type 0
IsEnd rest text = rest ≡ drop (length text - length rest) text

-- a line that stands in a text behind so many bytes
abbrev pub StandsAt : List ℕ → ℕ → List ℕ → Type 0
StandsAt line start text = line ≡ take (length line) (drop start text)
