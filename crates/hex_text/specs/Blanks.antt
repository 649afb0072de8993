-- Blanks.
use Rattle.std.specs.Prelude.{ℕ, ◌==◌, ◌||◌, Bool, cond, List, [], ◌∷◌}
use Rattle.std.specs.List.{list_all}

-- a blank is a space or a tab
abbrev pub is_blank : ℕ → Bool
is_blank c = c == 32 || c == 9

abbrev pub has_blanks_alone : List ℕ → Bool
has_blanks_alone text = list_all is_blank text

-- a text without the blanks at its front
abbrev pub drop_blanks : List ℕ → List ℕ
drop_blanks [] = []
drop_blanks (c ∷ rest) = cond (is_blank c) (drop_blanks rest) (c ∷ rest)
