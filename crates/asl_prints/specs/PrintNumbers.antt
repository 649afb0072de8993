-- How the nodes of what prints get their numbers, while it is made from the innermost Concatenate outwards.
use Rattle.std.specs.Prelude.{◌≡◌, ℕ, zero, suc, ◌+◌, List, [], ◌∷◌, Option}
use Rattle.asl_tree.specs.declared.term.Node.{Node}
use Rattle.asl_prints.specs.declared.print.Numbers.{Numbers}
use Rattle.asl_prints.specs.declared.print.Numbered.{Numbered}
use Rattle.asl_prints.specs.Numbers.{numbers_of, number_behind, numbered, next_behind}

-- how many Concatenates join a text, and arguments with the texts behind them
abbrev pub text_joins : List ℕ → ℕ
text_joins [] = 0
text_joins (c ∷ text) = 1

abbrev pub joins : List (List ℕ) → List Node → ℕ
joins (text ∷ texts) (arg ∷ args) = suc (text_joins text) + joins texts args
joins texts args = 0

-- the number so many behind one
abbrev pub numbers_behind : ℕ → ℕ → ℕ
numbers_behind zero n = n
numbers_behind (suc k) n = number_behind (numbers_behind k n)

-- a node whose nodes have the numbers behind that of the next Concatenate, up to the next other number
abbrev pub HasNumbers : Numbers → Node → List (Option ℕ) → Type 0
HasNumbers numbers node ids =
    (numbers_of (node ∷ []) ≡ numbered (number_behind numbers.down) ids) × (numbers.up ≡ next_behind (number_behind numbers.down) ids)

-- a text whose nodes have numbers from one on, and the next number
abbrev pub IsNumberedText : ℕ → Numbered → List (Option ℕ) → Type 0
IsNumberedText id made ids = (numbers_of (made.node ∷ []) ≡ numbered id ids) × (made.next ≡ next_behind id ids)
