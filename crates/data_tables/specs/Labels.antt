-- A key and a label, letter by letter.
use Rattle.std.specs.Prelude.{ℕ, ◌==◌, cond, List, [], ◌∷◌, Some, None}
use Rattle.std.specs.declared.option.Option.{Option}
use Rattle.data_text.specs.Labels.{label_key}

-- what stands behind these letters in a text, where it begins with them
abbrev pub behind_key : List ℕ → List ℕ → Option (List ℕ)
behind_key text [] = Some text
behind_key [] (c ∷ key) = None
behind_key (d ∷ text) (c ∷ key) = cond (d == c) (behind_key text key) None

-- the same of the letters of a label
abbrev pub behind_label : List ℕ → List ℕ → Option (List ℕ)
behind_label text label = behind_key text (label_key label)
