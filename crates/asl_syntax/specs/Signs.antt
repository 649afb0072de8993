-- The symbols, how each is spelled, and how the operators bind.
use Rattle.std.specs.Prelude.{ℕ, ◌-◌, List, [], ◌∷◌, Option, Some, None, if◌then◌else◌, codes, Bool, true, false, nat_eq, ◌&&◌}
use Rattle.asl_syntax.specs.declared.raw.Infix.{Infix}
use Rattle.asl_syntax.specs.declared.raw.Infix.TheVariants as op
use Rattle.asl_syntax.specs.declared.sign.Sign.{Sign}
use Rattle.asl_syntax.specs.declared.sign.Sign.TheVariants as s
use Rattle.asl_syntax.specs.declared.sign.Strength.{Strength}

pub record SignRow : Type 0 where
  pub text : List ℕ
  pub sign : Sign

abbrev pub row : List ℕ → Sign → SignRow
row text sign = record { text = text; sign = sign }

abbrev pub same : List ℕ → List ℕ → Bool
same [] [] = true
same (a ∷ xs) (b ∷ ys) = same xs ys && nat_eq a b
same _ _ = false

abbrev pub found : List ℕ → List SignRow → Option Sign
found text [] = None
found text (r ∷ rs) = if same text r.text then Some r.sign else found text rs

abbrev pub signs : List SignRow
signs = row (codes "(") s.LeftParen ∷ row (codes ")") s.RightParen ∷ row (codes "{") s.LeftBrace ∷ row (codes "}") s.RightBrace
    ∷ row (codes "[") s.LeftBracket ∷ row (codes "]") s.RightBracket ∷ row (codes ",") s.Comma ∷ row (codes ";") s.Semicolon
    ∷ row (codes "++") (s.Postfix op.Increment) ∷ row (codes "--") (s.Postfix op.Decrement)
    ∷ row (codes "!") (s.Prefix op.LogicalNot) ∷ row (codes "~") (s.Prefix op.Not)
    ∷ row (codes "*") (s.Binary op.Multiply) ∷ row (codes "/") (s.Binary op.Divide) ∷ row (codes "%") (s.Binary op.Modulo)
    ∷ row (codes "+") (s.Binary op.Add) ∷ row (codes "-") (s.Binary op.Subtract)
    ∷ row (codes "<<") (s.Binary op.ShiftLeft) ∷ row (codes ">>") (s.Binary op.ShiftRight)
    ∷ row (codes "<") (s.Binary op.Less) ∷ row (codes ">") (s.Binary op.Greater)
    ∷ row (codes "<=") (s.Binary op.LessEqual) ∷ row (codes ">=") (s.Binary op.GreaterEqual)
    ∷ row (codes "==") (s.Binary op.Equal) ∷ row (codes "!=") (s.Binary op.NotEqual)
    ∷ row (codes "&") (s.Binary op.And) ∷ row (codes "^") (s.Binary op.Xor) ∷ row (codes "|") (s.Binary op.Or)
    ∷ row (codes "&&") (s.Binary op.LogicalAnd) ∷ row (codes "||") (s.Binary op.LogicalOr)
    ∷ row (codes "=") (s.Binary op.Assign) ∷ row (codes "+=") (s.Binary op.AddAssign) ∷ row (codes "-=") (s.Binary op.SubtractAssign)
    ∷ row (codes "*=") (s.Binary op.MultiplyAssign) ∷ row (codes "/=") (s.Binary op.DivideAssign) ∷ row (codes "%=")
    (s.Binary op.ModuloAssign)
    ∷ row (codes "<<=") (s.Binary op.ShiftLeftAssign) ∷ row (codes ">>=") (s.Binary op.ShiftRightAssign)
    ∷ row (codes "&=") (s.Binary op.AndAssign) ∷ row (codes "|=") (s.Binary op.OrAssign) ∷ row (codes "^=") (s.Binary op.XorAssign) ∷ []

-- the symbol that is spelled so
unfoldable pub sign_of : List ℕ → Option Sign
sign_of text = found text signs

-- The levels of expressions: 0 an item, 1 a postfix operator, 2 a prefix operator, 3 to 12 the operators that group to the
-- left, tightest first, 13 the assignments.
abbrev pub assignment : ℕ
assignment = 13

-- groups to the left: a left operand of its own level, a right one of the level below
abbrev pub left : ℕ → Option Strength
left level = Some (record { pull = level; level = level; room = level - 1 })

-- groups to the right: a left operand of the level below, a right one of its own level
abbrev pub right : Option Strength
right = Some (record { pull = 12; level = 13; room = 13 })

-- how an operator that stands between its operands binds
unfoldable pub strength : Infix → Option Strength
strength op.Multiply = left 3
strength op.Divide = left 3
strength op.Modulo = left 3
strength op.Add = left 4
strength op.Subtract = left 4
strength op.ShiftLeft = left 5
strength op.ShiftRight = left 5
strength op.Less = left 6
strength op.Greater = left 6
strength op.LessEqual = left 6
strength op.GreaterEqual = left 6
strength op.Equal = left 7
strength op.NotEqual = left 7
strength op.And = left 8
strength op.Xor = left 9
strength op.Or = left 10
strength op.LogicalAnd = left 11
strength op.LogicalOr = left 12
strength op.Assign = right
strength op.AddAssign = right
strength op.SubtractAssign = right
strength op.MultiplyAssign = right
strength op.DivideAssign = right
strength op.ModuloAssign = right
strength op.ShiftLeftAssign = right
strength op.ShiftRightAssign = right
strength op.AndAssign = right
strength op.OrAssign = right
strength op.XorAssign = right
strength op.Index = None
strength op.Increment = None
strength op.Decrement = None
strength op.LogicalNot = None
strength op.Not = None
