-- The file name that a definition block states is ASCII.
use Rattle.std.proofs.Common.{◌≡◌, ℕ, ◌<◌, List, [], ◌∷◌, true, arith}
use Rattle.std.specs.Prelude.{nat_le}
use Rattle.std.specs.Str.{IsAscii}
use Rattle.std.proofs.lemmas.Bool.{leb-true}
use Rattle.std.proofs.lemmas.Str.Ascii.{IsAscii-nil, IsAscii-cons}
use Rattle.asl_syntax.specs.declared.raw.Raw.{Raw}
use Rattle.asl_syntax.specs.Written.{writtens}
use Rattle.asl_words.specs.Operators.{block_parameters}
use Rattle.term_plans.specs.Plans.{Plans, no_plans, plan, text_of, plan_at}
use Rattle.asl_words.specs.Texts.{is_all_text, is_text_byte}
use Rattle.asl_shape.specs.Forms.{errors_at, args_of}
use Rattle.program_shapes.specs.Kept.{IsKeptSource}
use Rattle.program_shapes.proofs.Words.{both_true}
use Rattle.program_shapes.proofs.Headers.{HaveForms}
use Rattle.program_shapes.proofs.Blocks.{forms_in}

byte_is_ascii : (b : ℕ) → is_text_byte b ≡ true → b < 128
byte_is_ascii b e = let within = leb-true b 127 (both_true (nat_le 1 b) (nat_le b 127) e).1 in omega (arith, within)

-- a text that a shape takes is ASCII
pub text_is_ascii : (bytes : List ℕ) → is_all_text bytes ≡ true → IsAscii bytes
text_is_ascii [] e = IsAscii-nil
text_is_ascii (b ∷ bytes) e = let both = both_true (is_text_byte b) (is_all_text bytes) e in IsAscii-cons b bytes (byte_is_ascii b both.0) (text_is_ascii bytes both.1)

first_is_ascii : (ps : Plans) → HaveForms block_parameters ps → IsAscii (text_of (plan_at ps 0))
unfolding block_parameters
first_is_ascii no_plans h = absurd h
first_is_ascii (plan place p ps) h = text_is_ascii (text_of p) h.0.bytes

-- the file name that the block of a source without errors states is ASCII
pub own_is_ascii : (items : List Raw) → errors_at items ≡ [] → IsKeptSource (writtens items) → IsAscii (text_of (plan_at (args_of (writtens items)) 0))
unfolding errors_at
own_is_ascii items e k = first_is_ascii (args_of (writtens items)) (forms_in (writtens items) e k)
