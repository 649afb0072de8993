-- What the code looks for in a text before it cuts it into fragments: words that have a text.
use Rattle.std.specs.Prelude.{◌≡◌, ℕ, ◌&&◌, false, List, [], ◌∷◌, take, Option, ⊤}
use Rattle.asl_fragments.specs.Bytes.{in_identifier}
use Rattle.asl_fragments.specs.Fragments.{first_fragment, identifier_by}
use Rattle.asl_macros.specs.Table.{AreFree}

-- the first fragment of a text is no identifier that has a text
abbrev pub FirstIsFree : (List ℕ → Option (List ℕ)) → List ℕ → Type 0
FirstIsFree text_of text = AreFree text_of (identifier_by (first_fragment false text).kind (take (first_fragment false text).length text))

-- No word of a text has a text of its own, wherever a fragment may begin: at each byte that does not go on in the word
-- of the byte before it.
abbrev pub IsClear : (List ℕ → Option (List ℕ)) → ℕ → List ℕ → Type 0
IsClear text_of before [] = ⊤
IsClear text_of before (b ∷ bs) = ((in_identifier before && in_identifier b) ≡ false → FirstIsFree text_of (b ∷ bs)) × IsClear text_of b bs
