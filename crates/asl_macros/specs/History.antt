-- The definitions of names that were read so far.
use Rattle.std.specs.Prelude.{ℕ, if◌then◌else◌, List, [], ◌∷◌, Option, Some, None}
use Rattle.std.specs.Str.{bytes_eq}

-- what a directive says of a name: that it has this text, or none
pub data Definition : Type 0 where
  Defines : (name text : List ℕ) → Definition
  Undefines : (name : List ℕ) → Definition

-- the latest first
abbrev pub History : Type 0
History = List Definition

-- the text of a name: that of the last definition that speaks of it
abbrev pub text_in : History → List ℕ → Option (List ℕ)
text_in [] name = None
text_in (Defines defined text ∷ earlier) name = if bytes_eq defined name then Some text else text_in earlier name
text_in (Undefines undefined ∷ earlier) name = if bytes_eq undefined name then None else text_in earlier name
