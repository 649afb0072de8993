-- What a table of definitions tells.
use Rattle.std.specs.Prelude.{◌≡◌, ℕ, List, [], ◌∷◌, Option, None, ⊤}
use Rattle.std.specs.Option.{option_map}
use Rattle.std.specs.Str.{bytes_eq}
use Rattle.std.specs.HashMap.{get_by}
use Rattle.asl_macros.specs.declared.table.Macros.{Macros}
use Rattle.asl_macros.specs.History.{History, text_in}

-- the text that the table has for a name
abbrev pub text_at : Macros → List ℕ → Option (List ℕ)
text_at macros name = option_map (λ text. text.items) (get_by (λ key. bytes_eq name key.items) macros.table)

-- for every name the table has the text of the last definition
pub record Tells (macros : Macros) (history : History) : Type 0 where
  pub text : (name : List ℕ) → text_at macros name ≡ text_in history name

-- none of these names has a text
abbrev pub AreFree : (List ℕ → Option (List ℕ)) → List (List ℕ) → Type 0
AreFree text_of [] = ⊤
AreFree text_of (name ∷ names) = (text_of name ≡ None) × AreFree text_of names
