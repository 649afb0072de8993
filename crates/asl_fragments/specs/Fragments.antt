-- A line in fragments: identifiers, numbers, strings, comments, and the bytes that stand outside these.
use Rattle.std.specs.Prelude.{ℕ, zero, suc, ◌+◌, ◌-◌, ◌==◌, ◌&&◌, Bool, true, false, not, if◌then◌else◌, List, [], ◌∷◌, length, take}
use Rattle.std.specs.Prelude.{replicate}
use Rattle.std.specs.List.{prefix_len, flat_map}
use Rattle.std.specs.Char.{is_ascii_digit}
use Rattle.asl_fragments.specs.Bytes.{begins_identifier, in_identifier}
use Rattle.asl_fragments.specs.declared.fragment.Fragment.{Fragment}
use Rattle.asl_fragments.specs.declared.fragment.FragmentKind.{FragmentKind}
use Rattle.asl_fragments.specs.declared.fragment.FragmentKind.TheVariants.{Identifier, Number, Quoted, Comment, Other}

-- How many bytes behind an opening `"` are the string's: those through the closing `"`, or all of them. The
-- first argument says whether the first byte is protected by a `\` before it.
abbrev pub quoted_length : Bool → List ℕ → ℕ
quoted_length protected [] = 0
quoted_length protected (b ∷ bs) = if not protected && b == 34 then 1 else (1 + quoted_length (not protected && b == 92) bs)

-- How many bytes inside a block comment are the comment's: those through `*/`, or all of them. The first
-- argument says whether a star of the comment stands before them.
abbrev pub block_length : Bool → List ℕ → ℕ
block_length star [] = 0
block_length star (b ∷ bs) = if star && b == 47 then 1 else (1 + block_length (b == 42) bs)

-- whether no `*/` closes it
abbrev pub block_is_open : Bool → List ℕ → Bool
block_is_open star [] = true
block_is_open star (b ∷ bs) = if star && b == 47 then false else block_is_open (b == 42) bs

abbrev pub made : FragmentKind → ℕ → Bool → Fragment
made kind length left_open = record { kind = kind; length = length; left_open = left_open }

-- what a `/` begins, by what stands behind it: a comment to the line's end, a block comment, or itself alone
unfoldable pub fragment_of_slash : List ℕ → Fragment
fragment_of_slash [] = made Other 1 false
fragment_of_slash (b ∷ bs) =
    if b == 47 then made Comment (2 + length bs) false else
    (if b == 42 then made Comment (2 + block_length false bs) (block_is_open false bs) else made Other 1 false)

-- what a byte begins, by what stands behind it
unfoldable pub fragment_of : ℕ → List ℕ → Fragment
fragment_of b bs =
    if begins_identifier b then made Identifier (1 + prefix_len in_identifier bs) false else (
    if is_ascii_digit b then made Number (1 + prefix_len in_identifier bs) false else (
    if b == 34 then made Quoted (1 + quoted_length false bs) false else (
    if b == 47 then fragment_of_slash bs else made Other 1 false)))

-- The first fragment of a text. The first argument says whether the text begins inside a block comment; then
-- its front is the comment's.
abbrev pub first_fragment : Bool → List ℕ → Fragment
first_fragment in_comment [] = made Other 0 false
first_fragment true (b ∷ bs) = made Comment (block_length false (b ∷ bs)) (block_is_open false (b ∷ bs))
first_fragment false (b ∷ bs) = fragment_of b bs

-- a fragment with its bytes
pub record Piece : Type 0 where
  pub kind : FragmentKind
  pub text : List ℕ
  -- a block comment that is left open
  pub left_open : Bool

abbrev pub piece_of : Fragment → List ℕ → Piece
piece_of fragment text = record { kind = fragment.kind; text = take fragment.length text; left_open = fragment.left_open }

-- the fragments of what stands behind so many bytes
unfoldable pub fragments_behind : ℕ → List ℕ → List Piece
fragments_behind passed [] = []
fragments_behind zero (b ∷ bs) = piece_of (fragment_of b bs) (b ∷ bs) ∷ fragments_behind ((fragment_of b bs).length - 1) bs
fragments_behind (suc passed) (b ∷ bs) = fragments_behind passed bs

-- The fragments of a line, one behind another. The first argument says whether it begins inside a block comment.
unfoldable pub fragments : Bool → List ℕ → List Piece
fragments in_comment [] = []
fragments in_comment (b ∷ bs) =
    piece_of (first_fragment in_comment (b ∷ bs)) (b ∷ bs) ∷ fragments_behind ((first_fragment in_comment (b ∷ bs)).length - 1) bs

-- ---- identifiers

abbrev pub identifier_by : FragmentKind → List ℕ → List (List ℕ)
identifier_by Identifier text = text ∷ []
identifier_by _ text = []

-- the identifiers among some fragments
abbrev pub identifiers : List Piece → List (List ℕ)
identifiers pieces = flat_map (λ (piece : Piece). identifier_by piece.kind piece.text) pieces

-- a byte that neither stands in a word nor begins a string or a comment
abbrev pub stands_alone : ℕ → Bool
stands_alone b = not (in_identifier b) && not (b == 34) && not (b == 47)

-- ---- comments

-- a byte that begins neither a string nor a comment
abbrev pub is_plain : ℕ → Bool
is_plain b = not (b == 34) && not (b == 47)

-- a comment as blanks, one for each byte; anything else as it is
abbrev pub blanked_by : FragmentKind → List ℕ → List ℕ
blanked_by Comment text = replicate (length text) 32
blanked_by _ text = text

abbrev pub blanked : Piece → List ℕ
blanked piece = blanked_by piece.kind piece.text

-- a line with a blank in place of each byte of its comments
unfoldable pub without_comments : Bool → List ℕ → List ℕ
without_comments in_comment text = flat_map blanked (fragments in_comment text)

-- whether a block comment is open behind some fragments, where it was or was not before them
abbrev pub open_behind : Bool → List Piece → Bool
open_behind before [] = before
open_behind before (piece ∷ pieces) = open_behind piece.left_open pieces

-- whether a block comment is open at a line's end
unfoldable pub ends_in_comment : Bool → List ℕ → Bool
ends_in_comment in_comment text = open_behind in_comment (fragments in_comment text)
