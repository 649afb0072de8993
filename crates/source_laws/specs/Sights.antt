-- What each byte of some lines stands in, a string, a comment or neither: as the preprocessor sees it, and as the lexer does.
use Rattle.std.specs.Prelude.{ℕ, Bool, false, if◌then◌else◌, List, [], ◌∷◌, ◌++◌}
use Rattle.std.specs.List.{flat_map}
use Rattle.iasl_messages.specs.declared.place.Line.{Line}
use Rattle.asl_fragments.specs.declared.fragment.FragmentKind.{FragmentKind}
use Rattle.asl_fragments.specs.declared.fragment.FragmentKind.TheVariants as f
use Rattle.asl_fragments.specs.Fragments.{Piece, fragments, ends_in_comment}
use Rattle.asl_lexer.specs.declared.token.TokenKind.{TokenKind}
use Rattle.asl_lexer.specs.declared.token.TokenKind.TheVariants as k
use Rattle.source_laws.specs.Parts.{Part, Blank, Comment, Whole}

pub data Sight : Type 0 where
  InString InComment Elsewhere : Sight

-- the same for each byte of some
abbrev pub each : {X : Type 0} → Sight → List X → List Sight
each sight [] = []
each sight (x ∷ xs) = sight ∷ each sight xs

-- ---- as the preprocessor sees it

abbrev pub fragment_sight : FragmentKind → Sight
fragment_sight f.Quoted = InString
fragment_sight f.Comment = InComment
fragment_sight f.Identifier = Elsewhere
fragment_sight f.Number = Elsewhere
fragment_sight f.Other = Elsewhere

abbrev pub piece_sights : Piece → List Sight
piece_sights piece = each (fragment_sight piece.kind) piece.text

-- of a line; the first argument says whether it begins inside a block comment
abbrev pub line_sights : Bool → List ℕ → List Sight
line_sights in_comment text = flat_map piece_sights (fragments in_comment text)

-- Of lines behind a line that ends inside a block comment, or not: each behind the end of the line before it.
abbrev pub sights_behind : Bool → List Line → List Sight
sights_behind in_comment [] = []
sights_behind in_comment (l ∷ ls) =
    (if in_comment then InComment else Elsewhere) ∷ line_sights in_comment l.text ++ sights_behind (ends_in_comment in_comment l.text) ls

-- of lines, with their ends between them
abbrev pub sights_of : List Line → List Sight
sights_of [] = []
sights_of (l ∷ ls) = line_sights false l.text ++ sights_behind (ends_in_comment false l.text) ls

-- ---- as the lexer sees it

abbrev pub token_sight : TokenKind → Sight
token_sight k.Text = InString
token_sight k.Word = Elsewhere
token_sight k.Path = Elsewhere
token_sight k.Number = Elsewhere
token_sight k.Symbol = Elsewhere

abbrev pub part_sights : Part → List Sight
part_sights (Blank m) = Elsewhere ∷ []
part_sights (Comment w) = each InComment w
part_sights (Whole t w) = each (token_sight t.kind) w

abbrev pub sights_in : List Part → List Sight
sights_in parts = flat_map part_sights parts
