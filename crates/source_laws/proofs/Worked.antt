-- Small examples of the definitions, worked out by computation.
use Rattle.std.proofs.Common.{◌≡◌, ℕ, true, false, List, [], ◌∷◌, ◌++◌, None, Ok, codes, refl, inl, inr, arith}
use Rattle.std.specs.Str.{is_utf8, chars}
use lib.Utf8.{encode}
use Rattle.iasl_messages.specs.declared.place.Line.{Line}
use Rattle.asl_fragments.specs.Fragments.{fragment_of_slash, fragment_of, fragments_behind, fragments, without_comments, ends_in_comment}
use Rattle.asl_macros.specs.Replacement.{text_with_values, value_of, replaced}
use Rattle.asl_conditions.specs.Condition.{condition_of}
use Rattle.asl_conditions.specs.Operators.{pass, passes}
use Rattle.asl_conditions.specs.Reading.{step, run}
use Rattle.asl_conditions.specs.Tokens.{one_byte, two_bytes, cut_of, tokens_behind}
use Rattle.asl_directives.specs.Kinds.{kind_of}
use Rattle.asl_preprocess.specs.Rows.{Directive, Ordinary, rows_of}
use Rattle.asl_preprocess.specs.State.{State, Outcome, with_lines}
use Rattle.asl_preprocess.specs.Preprocess.{Setting, Given, preprocessed}
use Rattle.asl_syntax.specs.declared.sign.Sign.TheVariants as s
use Rattle.asl_syntax.specs.declared.mark.Spot.{Spot}
use Rattle.asl_syntax.specs.declared.mark.Mark.{Mark}
use Rattle.asl_syntax.specs.declared.raw.Infix.TheVariants as op
use Rattle.asl_syntax.specs.Signs.{strength}
use Rattle.asl_parser.specs.Grammar.{sign, word}
use Rattle.asl_parser.specs.Grammar as g
use Rattle.source_laws.specs.Conditionals.{RowTree, no_rows, row, conditional, no_branches, branch, listed, AreWhole, read, alone}
use Rattle.source_laws.specs.Sights.{InString, InComment, Elsewhere, each, sights_of}
use Rattle.source_laws.specs.Opens.{OpensInSource}
use Rattle.source_laws.specs.Opens as o

-- ---- conditionals

abbrev no_setting : Setting
no_setting = record { told = []; directories = []; enabled = true }

abbrev nothing : State
nothing = record { history = []; lines = []; notes = []; files = codes "t.asl" ∷ [] }

abbrev line_at : ℕ → List ℕ → Line
line_at number text = record { file = 0; number = number; text = text }

abbrev read_alone : RowTree → Outcome State
read_alone rows = read (alone None no_setting 0 (codes "t.asl")) 0 rows nothing

-- the first branch whose condition holds; the division by 0 behind it is not asked
abbrev first : List ℕ
first = codes "#if 0\na\n#elif 2 > 1\nb\n#elif 1 / 0\nc\n#else\nd\n#endif\n"

abbrev first_rows : RowTree
first_rows =
    conditional
    (branch (Directive 1 (codes "#if 0")) (row (Ordinary 2 false (codes "a")) no_rows)
    (branch (Directive 3 (codes "#elif 2 > 1")) (row (Ordinary 4 false (codes "b")) no_rows)
    (branch (Directive 5 (codes "#elif 1 / 0")) (row (Ordinary 6 false (codes "c")) no_rows) (branch (Directive 7 (codes "#else")) (row (Ordinary 8 false (codes "d")) no_rows) no_branches))))
    (Directive 9 (codes "#endif")) no_rows

first_is : rows_of true first ≡ listed first_rows
unfolding ends_in_comment fragments fragments_behind fragment_of fragment_of_slash
first_is = refl

first_whole : AreWhole first_rows
unfolding kind_of without_comments ends_in_comment fragments fragments_behind fragment_of fragment_of_slash
first_whole = ((inl (refl, refl), (tt, tt), inl ((refl, refl), (tt, tt), inl ((refl, refl), (tt, tt), inr ((refl, refl), (tt, tt), tt)))), (refl, refl), tt)

first_read : read_alone first_rows ≡ Ok (with_lines nothing (line_at 4 (codes "b") ∷ []))
unfolding kind_of fragment_of_slash fragment_of fragments_behind fragments without_comments ends_in_comment text_with_values value_of replaced condition_of pass passes step run one_byte two_bytes cut_of tokens_behind
first_read = refl

-- in a branch that is not read no condition is asked
abbrev unread_rows : RowTree
unread_rows =
    conditional
    (branch (Directive 1 (codes "#ifdef A")) (conditional (branch (Directive 2 (codes "#if 1 / 0")) no_rows (branch (Directive 3 (codes "#elif")) (row (Ordinary 4 false (codes "a")) no_rows) no_branches)) (Directive 5 (codes "#endif")) no_rows)
    no_branches)
    (Directive 6 (codes "#endif")) (row (Ordinary 7 false (codes "b")) no_rows)

unread_read : read_alone unread_rows ≡ Ok (with_lines nothing (line_at 7 (codes "b") ∷ []))
unfolding kind_of fragment_of_slash fragment_of fragments_behind fragments without_comments ends_in_comment text_with_values value_of replaced
unread_read = refl

-- ---- strings and comments

-- a string with a quote behind a backslash and with `/*` in it, a block comment over two lines with a quote in it, and one to the line's end
seen : sights_of (line_at 1 (codes "a\"\\\"/*\"/*\"") ∷ line_at 2 (codes "*/b//\"") ∷ [])
    ≡ Elsewhere ∷ InString ∷ InString ∷ InString ∷ InString ∷ InString ∷ InString ∷ InComment ∷ InComment ∷ InComment ∷ InComment ∷ InComment ∷ InComment ∷ Elsewhere ∷ InComment ∷ InComment ∷ InComment ∷ []
unfolding ends_in_comment fragments fragments_behind fragment_of fragment_of_slash
seen = refl

-- but the lines that are left are other lines: replacement may make a comment
made : preprocessed ((codes "t.asl", codes "#define D /\nA D/ B\n") ∷ []) (codes "t.asl") [] [] true ≡ Given (codes "t.asl" ∷ []) (line_at 2 (codes "A // B") ∷ []) []
unfolding kind_of fragment_of_slash fragment_of fragments_behind fragments without_comments ends_in_comment text_with_values value_of replaced
made = refl

-- and a comment that an included file leaves open goes on behind it for the lexer alone, so that `A` is not replaced here
abbrev left : List Line
left = record { file = 1; number = 1; text = codes "/*" } ∷ line_at 3 (codes "\"*/A/*\"") ∷ []

left_is : preprocessed ((codes "t.asl", codes "#define A 1\n#include \"f\"\n\"*/A/*\"\n") ∷ (codes "f", codes "/*\n") ∷ []) (codes "t.asl") [] [] true ≡ Given (codes "t.asl" ∷ codes "f" ∷ []) left []
unfolding kind_of fragment_of_slash fragment_of fragments_behind fragments without_comments ends_in_comment text_with_values value_of replaced is_utf8 chars encode
left_is = refl

left_seen : sights_of left ≡ each InComment (codes "/*\n\"*/") ++ Elsewhere ∷ each InComment (codes "/*\"")
unfolding ends_in_comment fragments fragments_behind fragment_of fragment_of_slash
left_seen = refl

-- ---- depths

abbrev at : ℕ → Spot
at n = record { token = n; place = record { file = 0; line = 1; column = n } }

abbrev name : ℕ → Mark
name n = word (at n) false (codes "A")

-- `A (! A = A`: the parenthesis and the assignment are open, and the prefix operator is not, since its operand has ended
assigned : OpensInSource (name 0 ∷ sign (at 1) s.LeftParen ∷ sign (at 2) (s.Prefix op.LogicalNot) ∷ name 3 ∷ sign (at 4) (s.Binary op.Assign) ∷ name 5 ∷ []) 2
unfolding strength
assigned =
    o.next_expression g.an_empty_row tt (o.in_item (o.in_arguments (o.next_argument g.none_before (o.an_argument
    (o.in_infix {i = op.Assign} refl (omega arith) (g.tighter {m = 2} (omega arith) (g.a_prefix (g.tighter {m = 0} (omega arith) (g.an_item g.no_arguments g.no_body))))
    (o.an_expression {m = 0} (omega arith) (omega arith) (g.an_item g.no_arguments g.no_body)))))))

-- `A (! A - A`: the parenthesis alone
subtracted : OpensInSource (name 0 ∷ sign (at 1) s.LeftParen ∷ sign (at 2) (s.Prefix op.LogicalNot) ∷ name 3 ∷ sign (at 4) (s.Binary op.Subtract) ∷ name 5 ∷ []) 1
unfolding strength
subtracted =
    o.next_expression g.an_empty_row tt (o.in_item (o.in_arguments (o.next_argument g.none_before (o.an_argument
    (o.in_infix {i = op.Subtract} refl (omega arith) (g.tighter {m = 2} (omega arith) (g.a_prefix (g.tighter {m = 0} (omega arith) (g.an_item g.no_arguments g.no_body))))
    (o.an_expression {m = 0} (omega arith) (omega arith) (g.an_item g.no_arguments g.no_body)))))))

-- `A (! A`: the parenthesis and the prefix operator
prefixed : OpensInSource (name 0 ∷ sign (at 1) s.LeftParen ∷ sign (at 2) (s.Prefix op.LogicalNot) ∷ name 3 ∷ []) 2
prefixed =
    o.next_expression g.an_empty_row tt (o.in_item (o.in_arguments (o.next_argument g.none_before (o.an_argument
    (o.in_prefix (omega arith) (o.an_expression {m = 0} (omega arith) (omega arith) (g.an_item g.no_arguments g.no_body)))))))
