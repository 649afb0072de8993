-- The tokens of marked bytes, by one step for each.
use Rattle.std.specs.Prelude.{◌≡◌, ℕ, ◌+◌, ◌*◌, ◌-◌, ◌^◌, min, Bool, true, false, ◌&&◌, ◌==◌, nat_lt, nat_le, if◌then◌else◌, List, [], ◌∷◌}
use Rattle.std.specs.Prelude.{◌++◌, length, Option, Some, None, Result, Ok, Err}
use Rattle.std.specs.Char.{digit_value, is_digit, to_ascii_uppercase}
use Rattle.iasl_messages.specs.declared.place.Place.{Place}
use Rattle.asl_lexer.specs.declared.class.Class.{Class}
use Rattle.asl_lexer.specs.declared.class.Class.TheVariants as c
use Rattle.asl_lexer.specs.declared.class.Radix.{Radix}
use Rattle.asl_lexer.specs.declared.class.Radix.TheVariants.{Octal, Decimal, Hexadecimal}
use Rattle.asl_lexer.specs.declared.token.Token.{Token}
use Rattle.asl_lexer.specs.declared.token.TokenKind.{TokenKind}
use Rattle.asl_lexer.specs.declared.token.TokenKind.TheVariants as k
use Rattle.asl_lexer.specs.declared.mode.Fault.{Fault}
use Rattle.asl_lexer.specs.declared.mode.LexerStop.{LexerStop}
use Rattle.asl_lexer.specs.declared.mode.LexerStop.TheVariants as stop
use Rattle.asl_lexer.specs.declared.mode.Mode.{Mode}
use Rattle.asl_lexer.specs.declared.mode.Mode.TheVariants as m
use Rattle.asl_lexer.specs.Class.{class_of, base_of, takes_equals, doubles, shifts}

-- a byte and its place
pub record MarkedByte : Type 0 where
  pub place : Place
  pub byte : ℕ

-- ---- faults

abbrev pub bad_character : Place → Fault
bad_character place = record { number = 6010; place = place }

abbrev pub open_string : Place → Fault
open_string place = record { number = 6011; place = place }

abbrev pub open_comment : Place → Fault
open_comment place = record { number = 6012; place = place }

abbrev pub bad_escape : Place → Fault
bad_escape place = record { number = 6013; place = place }

abbrev pub large_number : Place → Fault
large_number place = record { number = 6014; place = place }

-- ---- tokens

-- the column behind so many bytes from this one on; a column is at most 2^32 - 1
abbrev pub column_after : ℕ → ℕ → ℕ
column_after column count = min (column + count) (2 ^ 32 - 1)

-- the column behind the byte of a place
abbrev pub end_at : Place → ℕ
end_at place = column_after place.column 1

-- with one more token, which ends before the column `end` of its line
abbrev pub with : List Token → TokenKind → Place → ℕ → ℕ → List ℕ → List Token
with done kind place end number text = done ++ record { kind = kind; place = place; end = end; number = number; text = text } ∷ []

abbrev pub name_kind : Bool → TokenKind
name_kind true = k.Path
name_kind false = k.Word

-- a word or path has a byte of its line for each of its text
abbrev pub with_name : List Token → Bool → Place → List ℕ → List Token
with_name done path place text = with done (name_kind path) place (column_after place.column (length text)) 0 text

abbrev pub with_number : List Token → Place → ℕ → ℕ → List Token
with_number done place value end = with done k.Number place end value []

abbrev pub with_string : List Token → Place → ℕ → List ℕ → List Token
with_string done place end text = with done k.Text place end 0 text

-- and so has a symbol
abbrev pub with_symbol : List Token → Place → List ℕ → List Token
with_symbol done place text = with done k.Symbol place (column_after place.column (length text)) 0 text

-- a caret for each place
abbrev pub with_carets : List Token → List Place → List Token
with_carets done [] = done
with_carets done (p ∷ ps) = with_carets (with_symbol done p (94 ∷ [])) ps

-- ---- steps

abbrev pub Moved : Type 0
Moved = Result (Mode × List Token) Fault

abbrev pub begin_by : Class → Place → ℕ → List Token → Moved
begin_by c.Blank at b done = Ok (m.Between, done)
begin_by c.Break at b done = Ok (m.Between, done)
begin_by c.Letter at b done = Ok (m.Name at false (to_ascii_uppercase b ∷ []), done)
begin_by c.Underscore at b done = Ok (m.Name at false (to_ascii_uppercase b ∷ []), done)
begin_by c.Zero at b done = Ok (m.Zero at, done)
begin_by c.Digit at b done = Ok (m.Number at Decimal (digit_value b) (end_at at), done)
begin_by c.Dot at b done = Err (bad_character at)
begin_by c.Backslash at b done = Ok (m.Root at, done)
begin_by c.Caret at b done = Ok (m.Carets [] at, done)
begin_by c.Quote at b done = Ok (m.Text at [], done)
begin_by c.Slash at b done = Ok (m.Slash at, done)
begin_by c.Star at b done = Ok (m.Sign at b, done)
begin_by c.Equals at b done = Ok (m.Sign at b, done)
begin_by c.Sign at b done = Ok (m.Sign at b, done)
begin_by c.Other at b done = Err (bad_character at)

-- between tokens
unfoldable pub begin : Place → ℕ → List Token → Moved
begin at b done = begin_by (class_of b) at b done

abbrev pub name_by : Class → Place → Bool → List ℕ → Place → ℕ → List Token → Moved
name_by c.Letter from path text at b done = Ok (m.Name from path (text ++ to_ascii_uppercase b ∷ []), done)
name_by c.Underscore from path text at b done = Ok (m.Name from path (text ++ to_ascii_uppercase b ∷ []), done)
name_by c.Zero from path text at b done = Ok (m.Name from path (text ++ to_ascii_uppercase b ∷ []), done)
name_by c.Digit from path text at b done = Ok (m.Name from path (text ++ to_ascii_uppercase b ∷ []), done)
name_by c.Dot from path text at b done = Ok (m.Dot from path text at, done)
name_by _ from path text at b done = begin at b (with_name done path from text)

abbrev pub dot_by : Class → Place → List ℕ → Place → ℕ → List Token → Moved
dot_by c.Letter from text dot b done = Ok (m.Name from true ((text ++ 46 ∷ []) ++ to_ascii_uppercase b ∷ []), done)
dot_by c.Underscore from text dot b done = Ok (m.Name from true ((text ++ 46 ∷ []) ++ to_ascii_uppercase b ∷ []), done)
dot_by _ from text dot b done = Err (bad_character dot)

abbrev pub root_by : Class → Place → Place → ℕ → List Token → Moved
root_by c.Letter from at b done = Ok (m.Name from true (92 ∷ to_ascii_uppercase b ∷ []), done)
root_by c.Underscore from at b done = Ok (m.Name from true (92 ∷ to_ascii_uppercase b ∷ []), done)
root_by _ from at b done = begin at b (with_name done true from (92 ∷ []))

abbrev pub caret_text : List Place → List ℕ
caret_text [] = []
caret_text (p ∷ ps) = 94 ∷ caret_text ps

abbrev pub first_of : List Place → Place → Place
first_of [] last = last
first_of (p ∷ ps) last = p

abbrev pub carets_by : Class → List Place → Place → Place → ℕ → List Token → Moved
carets_by c.Caret before last at b done = Ok (m.Carets (before ++ last ∷ []) at, done)
carets_by c.Letter before last at b done =
    Ok (m.Name (first_of before last) true (caret_text before ++ 94 ∷ to_ascii_uppercase b ∷ []), done)
carets_by c.Underscore before last at b done =
    Ok (m.Name (first_of before last) true (caret_text before ++ 94 ∷ to_ascii_uppercase b ∷ []), done)
carets_by c.Equals before last at b done = Ok (m.Between, with_symbol (with_carets done before) last (94 ∷ 61 ∷ []))
carets_by _ before last at b done = begin at b (with_symbol (with_carets done before) last (94 ∷ []))

-- behind a number no letter and no digit may stand
abbrev pub behind_by : Class → Place → ℕ → ℕ → Place → ℕ → List Token → Moved
behind_by c.Letter from value end at b done = Err (bad_character at)
behind_by c.Zero from value end at b done = Err (bad_character at)
behind_by c.Digit from value end at b done = Err (bad_character at)
behind_by _ from value end at b done = begin at b (with_number done from value end)

abbrev pub digit_by : Bool → Place → Radix → ℕ → ℕ → List Token → Moved
digit_by true from radix value end done = Ok (m.Number from radix value end, done)
digit_by false from radix value end done = Err (large_number from)

-- the number with one more digit
abbrev pub more : ℕ → Radix → ℕ → ℕ
more value radix b = value * base_of radix + digit_value b

abbrev pub number_by : Bool → Place → Radix → ℕ → ℕ → Place → ℕ → List Token → Moved
number_by true from radix value end at b done = digit_by (nat_lt (more value radix b) (2 ^ 64)) from radix (more value radix b)
    (end_at at) done
number_by false from radix value end at b done = behind_by (class_of b) from value end at b done

abbrev pub zero_by : Bool → Bool → Place → Place → ℕ → List Token → Moved
zero_by true x from at b done = Ok (m.Number from Octal (digit_value b) (end_at at), done)
zero_by false true from at b done = Ok (m.Prefix from at, done)
zero_by false false from at b done = behind_by (class_of b) from 0 (end_at from) at b done

abbrev pub prefix_by : Bool → Place → Place → Place → ℕ → List Token → Moved
prefix_by true from x at b done = Ok (m.Number from Hexadecimal (digit_value b) (end_at at), done)
prefix_by false from x at b done = Err (bad_character x)

abbrev pub broken_by : Class → Place → Fault → List Token → Moved
broken_by c.Break from fault done = Err (open_string from)
broken_by c.Quote from fault done = Err fault
broken_by c.Backslash from fault done = Ok (m.BrokenEscape from fault, done)
broken_by _ from fault done = Ok (m.Broken from fault, done)

abbrev pub broken_escape_by : Class → Place → Fault → List Token → Moved
broken_escape_by c.Break from fault done = Err (open_string from)
broken_escape_by _ from fault done = Ok (m.Broken from fault, done)

-- a byte that may stand in a string
abbrev pub is_plain : ℕ → Bool
is_plain b = nat_le 1 b && nat_le b 127

abbrev pub plain_by : Bool → Place → List ℕ → Place → ℕ → List Token → Moved
plain_by true from text at b done = Ok (m.Text from (text ++ b ∷ []), done)
plain_by false from text at b done = Ok (m.Broken from (bad_character at), done)

abbrev pub text_by : Class → Place → List ℕ → Place → ℕ → List Token → Moved
text_by c.Break from text at b done = Err (open_string from)
text_by c.Quote from text at b done = Ok (m.Between, with_string done from (end_at at) text)
text_by c.Backslash from text at b done = Ok (m.Escape from text at, done)
text_by _ from text at b done = plain_by (is_plain b) from text at b done

-- what a letter or mark behind a backslash stands for: `\a \b \f \n \r \t \v \" \' \\`
abbrev pub escaped : ℕ → Option ℕ
escaped b =
    if b == 97 then Some 7 else (if b == 98 then Some 8 else (if b == 102 then Some 12 else (if b == 110 then Some 10 else (
    if b == 114 then Some 13 else (if b == 116 then Some 9 else (if b == 118 then Some 11 else (
    if b == 34 then Some 34 else (if b == 39 then Some 39 else (if b == 92 then Some 92 else None)))))))))

abbrev pub digits_by : Bool → Bool → Place → List ℕ → Place → ℕ → List Token → Moved
digits_by true x from text slash b done = Ok (m.Digits from text slash Octal (digit_value b) 2, done)
digits_by false true from text slash b done = Ok (m.Coded from text slash, done)
digits_by false false from text slash b done = Ok (m.Broken from (bad_escape slash), done)

abbrev pub escaped_by : Option ℕ → Place → List ℕ → Place → ℕ → List Token → Moved
escaped_by (Some x) from text slash b done = Ok (m.Text from (text ++ x ∷ []), done)
escaped_by None from text slash b done = digits_by (is_digit b 8) (b == 120) from text slash b done

abbrev pub escape_by : Class → Place → List ℕ → Place → ℕ → List Token → Moved
escape_by c.Break from text slash b done = Err (open_string from)
escape_by _ from text slash b done = escaped_by (escaped b) from text slash b done

abbrev pub coded_by : Bool → Place → List ℕ → Place → ℕ → List Token → Moved
coded_by true from text slash b done = Ok (m.Digits from text slash Hexadecimal (digit_value b) 1, done)
coded_by false from text slash b done = broken_by (class_of b) from (bad_escape slash) done

-- behind the digits of an escape
abbrev pub value_by : Bool → Place → List ℕ → Place → ℕ → Place → ℕ → List Token → Moved
value_by true from text slash value at b done = text_by (class_of b) from (text ++ value ∷ []) at b done
value_by false from text slash value at b done = broken_by (class_of b) from (bad_escape slash) done

abbrev pub escape_digit_by : Bool → Place → List ℕ → Place → Radix → ℕ → ℕ → Place → ℕ → List Token → Moved
escape_digit_by true from text slash radix value left at b done =
    Ok (m.Digits from text slash radix (min (more value radix b) 255) (left - 1), done)
escape_digit_by false from text slash radix value left at b done = value_by (is_plain value) from text slash value at b done

abbrev pub slash_by : Class → Place → Place → ℕ → List Token → Moved
slash_by c.Slash from at b done = Ok (m.Line, done)
slash_by c.Star from at b done = Ok (m.Block from, done)
slash_by c.Equals from at b done = Ok (m.Between, with_symbol done from (47 ∷ 61 ∷ []))
slash_by _ from at b done = begin at b (with_symbol done from (47 ∷ []))

abbrev pub line_by : Class → List Token → Moved
line_by c.Break done = Ok (m.Between, done)
line_by _ done = Ok (m.Line, done)

abbrev pub block_by : Class → Place → List Token → Moved
block_by c.Star from done = Ok (m.Star from, done)
block_by _ from done = Ok (m.Block from, done)

abbrev pub star_by : Class → Place → List Token → Moved
star_by c.Slash from done = Ok (m.Between, done)
star_by c.Star from done = Ok (m.Star from, done)
star_by _ from done = Ok (m.Block from, done)

abbrev pub doubled_by : Bool → Place → ℕ → List Token → Moved
doubled_by true from first done = Ok (m.Shift from first, done)
doubled_by false from first done = Ok (m.Between, with_symbol done from (first ∷ first ∷ []))

abbrev pub sign_by : Bool → Bool → Place → ℕ → Place → ℕ → List Token → Moved
sign_by true double from first at b done = Ok (m.Between, with_symbol done from (first ∷ 61 ∷ []))
sign_by false true from first at b done = doubled_by (shifts first) from first done
sign_by false false from first at b done = begin at b (with_symbol done from (first ∷ []))

abbrev pub shift_by : Bool → Place → ℕ → Place → ℕ → List Token → Moved
shift_by true from first at b done = Ok (m.Between, with_symbol done from (first ∷ first ∷ 61 ∷ []))
shift_by false from first at b done = begin at b (with_symbol done from (first ∷ first ∷ []))

abbrev pub step : Mode → Place → ℕ → List Token → Moved
step m.Between at b done = begin at b done
step (m.Name from path text) at b done = name_by (class_of b) from path text at b done
step (m.Dot from path text dot) at b done = dot_by (class_of b) from text dot b done
step (m.Root from) at b done = root_by (class_of b) from at b done
step (m.Carets before last) at b done = carets_by (class_of b) before last at b done
step (m.Zero from) at b done = zero_by (is_digit b 8) (b == 120) from at b done
step (m.Prefix from x) at b done = prefix_by (is_digit b 16) from x at b done
step (m.Number from radix value end) at b done = number_by (is_digit b (base_of radix)) from radix value end at b done
step (m.Text from text) at b done = text_by (class_of b) from text at b done
step (m.Escape from text slash) at b done = escape_by (class_of b) from text slash b done
step (m.Coded from text slash) at b done = coded_by (is_digit b 16) from text slash b done
step (m.Digits from text slash radix value left) at b done =
    escape_digit_by (nat_lt 0 left && is_digit b (base_of radix)) from text slash radix value left at b done
step (m.Broken from fault) at b done = broken_by (class_of b) from fault done
step (m.BrokenEscape from fault) at b done = broken_escape_by (class_of b) from fault done
step (m.Slash from) at b done = slash_by (class_of b) from at b done
step m.Line at b done = line_by (class_of b) done
step (m.Block from) at b done = block_by (class_of b) from done
step (m.Star from) at b done = star_by (class_of b) from done
step (m.Sign from first) at b done = sign_by (b == 61 && takes_equals first) (b == first && doubles first) from first at b done
step (m.Shift from first) at b done = shift_by (b == 61) from first at b done

-- at the end of the text
abbrev pub finish : Mode → List Token → Result (List Token) Fault
finish m.Between done = Ok done
finish (m.Name from path text) done = Ok (with_name done path from text)
finish (m.Dot from path text dot) done = Err (bad_character dot)
finish (m.Root from) done = Ok (with_name done true from (92 ∷ []))
finish (m.Carets before last) done = Ok (with_symbol (with_carets done before) last (94 ∷ []))
finish (m.Zero from) done = Ok (with_number done from 0 (end_at from))
finish (m.Prefix from x) done = Err (bad_character x)
finish (m.Number from radix value end) done = Ok (with_number done from value end)
finish (m.Text from text) done = Err (open_string from)
finish (m.Escape from text slash) done = Err (open_string from)
finish (m.Coded from text slash) done = Err (open_string from)
finish (m.Digits from text slash radix value left) done = Err (open_string from)
finish (m.Broken from fault) done = Err (open_string from)
finish (m.BrokenEscape from fault) done = Err (open_string from)
finish (m.Slash from) done = Ok (with_symbol done from (47 ∷ []))
finish m.Line done = Ok done
finish (m.Block from) done = Err (open_comment from)
finish (m.Star from) done = Err (open_comment from)
finish (m.Sign from first) done = Ok (with_symbol done from (first ∷ []))
finish (m.Shift from first) done = Ok (with_symbol done from (first ∷ first ∷ []))

-- the tokens of all marks, or the first fault
unfoldable pub scan : List MarkedByte → Mode → List Token → Result (List Token) Fault
scan [] mode done = finish mode done
scan (b ∷ bs) mode done = elim (step mode b.place b.byte done) [ Ok r ↦ scan bs r.0 r.1 | Err x ↦ Err x ]

-- ---- what the code ensures

abbrev pub Fails : {Y : Type 0} → LexerStop → Result Y Fault → Type 0
Fails stop.Memory y = Unit {0}
Fails (stop.Fault x) y = y ≡ Err x

abbrev pub Moves : Result Mode LexerStop → List Token → Moved → Type 0
Moves (Ok mode) new moved = moved ≡ Ok (mode, new)
Moves (Err x) new moved = Fails x moved

abbrev pub Gives : Result (List Token) LexerStop → Result (List Token) Fault → Type 0
Gives (Ok tokens) y = y ≡ Ok tokens
Gives (Err x) y = Fails x y
