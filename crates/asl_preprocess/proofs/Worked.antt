-- Main files worked out by computation.
use Rattle.std.proofs.Common.{◌≡◌, ℕ, true, List, [], ◌∷◌, codes, refl}
use Rattle.std.specs.Str.{is_utf8, chars}
use lib.Utf8.{encode}
use Rattle.iasl_messages.specs.declared.place.Line.{Line}
use Rattle.asl_fragments.specs.Fragments.{fragment_of_slash, fragment_of, fragments_behind, fragments, without_comments, ends_in_comment}
use Rattle.asl_macros.specs.Replacement.{text_with_values, value_of, replaced}
use Rattle.asl_conditions.specs.Condition.{condition_of}
use Rattle.asl_conditions.specs.Operators.{pass, passes}
use Rattle.asl_conditions.specs.Reading.{step, run}
use Rattle.asl_conditions.specs.Tokens.{one_byte, two_bytes, cut_of, tokens_behind}
use Rattle.asl_directives.specs.Kinds.{kind_of}
use Rattle.asl_preprocess.specs.State.{message_at, at}
use Rattle.asl_preprocess.specs.Preprocess.{Preprocessed, Given, Stopped, preprocessed}

-- a main file alone, without words
abbrev alone : List ℕ → Preprocessed
alone text = preprocessed ((codes "t.asl", text) ∷ []) (codes "t.asl") [] [] true

abbrev line_at : ℕ → List ℕ → Line
line_at number text = record { file = 0; number = number; text = text }

abbrev lines_alone : List Line → Preprocessed
lines_alone lines = Given (codes "t.asl" ∷ []) lines []

-- a definition and a condition on it
defined : alone (codes "#define A 5\n#if A > 4\nName (X, A)\n#else\nB\n#endif\n") ≡ lines_alone (line_at 3 (codes "Name (X, 5)") ∷ [])
unfolding kind_of fragment_of_slash fragment_of fragments_behind fragments without_comments ends_in_comment text_with_values value_of replaced condition_of pass passes step run one_byte two_bytes cut_of tokens_behind
defined = refl

-- a definition of the words
by_words : preprocessed ((codes "t.asl", codes "    Name (X, A)\n") ∷ []) (codes "t.asl") [] (record { name = codes "A"; text = codes "7" } ∷ []) true ≡ lines_alone (line_at 1 (codes "    Name (X, 7)") ∷ [])
unfolding fragment_of_slash fragment_of fragments_behind fragments without_comments ends_in_comment text_with_values value_of replaced
by_words = refl

-- a file that includes itself
itself : alone (codes "#include \"t.asl\"\n") ≡ Stopped (message_at 6002 (at 0 1 1) (codes "t.asl")) (codes "t.asl" ∷ [])
unfolding kind_of fragment_of_slash fragment_of fragments_behind fragments without_comments ends_in_comment is_utf8 chars encode
itself = refl

-- an `#if` that is open, and an `#elif` behind an `#else`
left_open : alone (codes "a\n #if 1\n#if 0\n#endif\n") ≡ Stopped (message_at 6004 (at 0 2 2) []) (codes "t.asl" ∷ [])
unfolding kind_of fragment_of_slash fragment_of fragments_behind fragments without_comments ends_in_comment text_with_values value_of replaced condition_of pass passes step run one_byte two_bytes cut_of tokens_behind
left_open = refl

behind_else : alone (codes "#if 0\n#else\n#elif 1\n#endif\n") ≡ Stopped (message_at 6004 (at 0 3 1) []) (codes "t.asl" ∷ [])
unfolding kind_of fragment_of_slash fragment_of fragments_behind fragments without_comments ends_in_comment text_with_values value_of replaced condition_of pass passes step run one_byte two_bytes cut_of tokens_behind
behind_else = refl

-- directives in a comment and in other lines, and one that goes on
joined : alone (codes "/*\n#foo\n*/\n#define A 1\\\n2\nA") ≡ lines_alone (line_at 1 (codes "/*") ∷ line_at 2 (codes "#foo") ∷ line_at 3 (codes "*/") ∷ line_at 6 (codes "12") ∷ [])
unfolding kind_of fragment_of_slash fragment_of fragments_behind fragments without_comments ends_in_comment text_with_values value_of replaced
joined = refl

-- an include beside the main file, and one in a directory
abbrev two_files : Preprocessed
two_files = preprocessed ((codes "d/t.asl", codes "Include (\"a\")\n#include <a>\n") ∷ (codes "d/a", codes "x\n") ∷ (codes "i/a", codes "y\n") ∷ []) (codes "d/t.asl") (codes "i" ∷ []) [] true

searched : two_files ≡ Given (codes "d/t.asl" ∷ codes "d/a" ∷ codes "i/a" ∷ []) (record { file = 1; number = 1; text = codes "x" } ∷ record { file = 2; number = 1; text = codes "y" } ∷ []) []
unfolding kind_of fragment_of_slash fragment_of fragments_behind fragments without_comments ends_in_comment text_with_values value_of replaced is_utf8 chars encode
searched = refl
