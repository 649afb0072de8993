-- The replacement of defined names by their texts.
use Rattle.std.specs.Prelude.{◌≡◌, ℕ, zero, suc, ◌<◌, ◌≤◌, ◌&&◌, Bool, true, false, not, if◌then◌else◌, List, [], ◌∷◌, ◌++◌, length, codes}
use Rattle.std.specs.Prelude.{Option, Result, Ok, Err, Vec}
use Rattle.std.specs.declared.alloc.Global.{Global}
use Rattle.std.specs.Option.{option_map_or}
use Rattle.std.specs.List.{list_any}
use Rattle.std.specs.Str.{bytes_eq}
use Rattle.asl_fragments.specs.declared.fragment.FragmentKind.{FragmentKind}
use Rattle.asl_fragments.specs.declared.fragment.FragmentKind.TheVariants.{Identifier, Comment}
use Rattle.asl_fragments.specs.Bytes.{is_blank_text}
use Rattle.asl_fragments.specs.Fragments.{Piece, fragments}
use Rattle.asl_macros.specs.declared.context.Within.{Within}
use Rattle.asl_macros.specs.declared.context.Within.TheVariants.{InLine, InCondition}
use Rattle.asl_macros.specs.declared.context.FragmentContext.{FragmentContext}
use Rattle.asl_macros.specs.declared.context.FragmentContext.TheVariants.{Anywhere, BehindDefined, BehindParenthesis}
use Rattle.asl_macros.specs.declared.names.ReplaceStop.{ReplaceStop}
use Rattle.asl_macros.specs.declared.names.ReplaceStop.TheVariants.{TooLong, Memory}
use Rattle.asl_macros.specs.History.{History, text_in}

-- ---- which fragments are names

-- the word `defined`
abbrev pub is_defined : List ℕ → Bool
is_defined text = bytes_eq text (codes "defined")

-- a fragment that stands for blanks: it is blank, or a comment
abbrev pub stands_for_blanks : FragmentKind → List ℕ → Bool
stands_for_blanks Comment text = true
stands_for_blanks _ text = is_blank_text text

abbrev pub is_parenthesis : List ℕ → Bool
is_parenthesis text = bytes_eq text (40 ∷ [])

abbrev pub is_identifier : FragmentKind → Bool
is_identifier Identifier = true
is_identifier _ = false

-- Whether a fragment is a name to be replaced. In a condition the word `defined` is none, nor is what stands
-- behind it.
abbrev pub is_name_at : Within → FragmentContext → List ℕ → Bool
is_name_at InLine context text = true
is_name_at InCondition Anywhere text = not (is_defined text)
is_name_at InCondition BehindDefined text = false
is_name_at InCondition BehindParenthesis text = false

abbrev pub is_name : Within → FragmentContext → FragmentKind → List ℕ → Bool
is_name within context kind text = is_identifier kind && is_name_at within context text

-- Where the next fragment stands: behind `defined` and blanks, behind a parenthesis there and blanks, or
-- anywhere else.
abbrev pub context_behind : FragmentContext → FragmentKind → List ℕ → FragmentContext
context_behind Anywhere kind text = if is_identifier kind && is_defined text then BehindDefined else Anywhere
context_behind BehindDefined kind text = if stands_for_blanks kind text then BehindDefined else
    (if is_parenthesis text then BehindParenthesis else Anywhere)
context_behind BehindParenthesis kind text = if stands_for_blanks kind text then BehindParenthesis else Anywhere

-- ---- replacement

abbrev pub value_or_itself : (List ℕ → List ℕ) → Bool → List ℕ → List ℕ
value_or_itself value true text = value text
value_or_itself value false text = text

-- fragments, each name with its value in its place
abbrev pub with_values : Within → (List ℕ → List ℕ) → FragmentContext → List Piece → List ℕ
with_values within value context [] = []
with_values within value context (piece ∷ pieces) =
    value_or_itself value (is_name within context piece.kind piece.text) piece.text ++ with_values within value
    (context_behind context piece.kind piece.text) pieces

-- the same of a text
unfoldable pub text_with_values : Within → (List ℕ → List ℕ) → Bool → List ℕ → List ℕ
text_with_values within value in_comment text = with_values within value Anywhere (fragments in_comment text)

-- whether a name is being replaced
abbrev pub is_active : List (List ℕ) → List ℕ → Bool
is_active active name = list_any (λ other. bytes_eq other name) active

-- The value of a name while others are being replaced, with so many levels of nesting left: its text with
-- values in place of names; the name itself where it has no text or is being replaced, or no level is left.
unfoldable pub value_of : ℕ → Within → (List ℕ → Option (List ℕ)) → List (List ℕ) → List ℕ → List ℕ
value_of zero within text_of active name = name
value_of (suc levels) within text_of active name =
    if is_active active name then name else
    option_map_or (λ text. text_with_values within (value_of levels within text_of (active ++ name ∷ [])) false text)
    (text_of name) name

-- how deep names are replaced in texts of names
abbrev pub nesting : ℕ
nesting = 32

abbrev pub replaced_by : (List ℕ → Option (List ℕ)) → Within → Bool → List ℕ → List ℕ
replaced_by text_of within in_comment text = text_with_values within (value_of nesting within text_of []) in_comment text

-- a text with its names replaced
unfoldable pub replaced : Within → History → Bool → List ℕ → List ℕ
replaced within history in_comment text = replaced_by (text_in history) within in_comment text

-- ---- what the code ensures

-- What was added to a text, which is no longer than the limit; or why not.
abbrev pub Adds : Result (Unit {0}) ReplaceStop → ℕ → List ℕ → List ℕ → List ℕ → Type 0
Adds (Ok u) limit old new more = (new ≡ old ++ more) × (length new ≤ limit)
Adds (Err TooLong) limit old new more = limit < length (old ++ more)
Adds (Err Memory) limit old new more = Unit {0}

-- the text whole, which is no longer than the limit; or why not
abbrev pub Gives : Result (Vec ℕ Global) ReplaceStop → ℕ → List ℕ → Type 0
Gives (Ok new) limit text = (new.items ≡ text) × (length new.items ≤ limit)
Gives (Err TooLong) limit text = limit < length text
Gives (Err Memory) limit text = Unit {0}
