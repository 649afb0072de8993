-- What kinds of bytes the tokens are made of.
use Rattle.std.specs.Prelude.{ℕ, Bool, ◌&&◌, ◌||◌, ◌==◌, nat_le, if◌then◌else◌, List, codes}
use Rattle.std.specs.List.{list_any}
use Rattle.asl_lexer.specs.declared.class.Class.{Class}
use Rattle.asl_lexer.specs.declared.class.Class.TheVariants as c
use Rattle.asl_lexer.specs.declared.class.Radix.{Radix}
use Rattle.asl_lexer.specs.declared.class.Radix.TheVariants.{Octal, Decimal, Hexadecimal}

-- the byte is one of these
abbrev pub is_among : List ℕ → ℕ → Bool
is_among bytes b = list_any (λ x. b == x) bytes

abbrev pub is_between : ℕ → ℕ → ℕ → Bool
is_between low high b = nat_le low b && nat_le b high

abbrev pub is_letter : ℕ → Bool
is_letter b = is_between 65 90 b || is_between 97 122 b

unfoldable pub class_of : ℕ → Class
class_of b =
    if is_among (codes " \t") b then c.Blank else (
    if b == 10 then c.Break else (
    if is_letter b then c.Letter else (
    if is_among (codes "_") b then c.Underscore else (
    if b == 48 then c.Zero else (
    if is_between 49 57 b then c.Digit else (
    if is_among (codes ".") b then c.Dot else (
    if is_among (codes "\\") b then c.Backslash else (
    if is_among (codes "^") b then c.Caret else (
    if is_among (codes "\"") b then c.Quote else (
    if is_among (codes "/") b then c.Slash else (
    if is_among (codes "*") b then c.Star else (
    if is_among (codes "=") b then c.Equals else (
    if is_among (codes "(){}[],;!~%+-<>&|") b then c.Sign else c.Other)))))))))))))

abbrev pub base_of : Radix → ℕ
base_of Octal = 8
base_of Decimal = 10
base_of Hexadecimal = 16

-- `!=`, `%=`, `&=`, `*=`, `+=`, `-=`, `<=`, `==`, `>=`, `|=`, besides `/=` and `^=`
abbrev pub takes_equals : ℕ → Bool
takes_equals b = is_among (codes "!%&*+-<=>|") b

-- `&&`, `++`, `--`, `<<`, `>>`, `||`
abbrev pub doubles : ℕ → Bool
doubles b = is_among (codes "&+-<>|") b

-- `<<=`, `>>=`
abbrev pub shifts : ℕ → Bool
shifts b = is_among (codes "<>") b
