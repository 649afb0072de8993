-- The bytes of a text of the tree.
use Rattle.std.specs.Prelude.{ℕ, List}
use Rattle.asl_syntax.specs.declared.text.TextPlace.{TextPlace}
use Rattle.asl_syntax.specs.declared.text.TextPlace.TheVariants.{Short, Long}

-- its own, or those in the arena
abbrev pub bytes_in : TextPlace → List ℕ
bytes_in (Short text) = text
bytes_in (Long bytes) = bytes.now
