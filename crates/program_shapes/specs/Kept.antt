-- What the parser keeps of its tree.
use Rattle.std.specs.Prelude.{◌≡◌, ◌<◌, ◌≤◌, ◌^◌, true, false, List, [], ◌∷◌, length}
use Rattle.std.specs.List.{All}
use Rattle.acpi_values.specs.Widths.{ones_of}
use Rattle.acpi_values.specs.declared.width.Width.TheVariants.{W64}
use Rattle.asl_lexer.specs.declared.token.Token.{Token}
use Rattle.asl_syntax.specs.declared.raw.Raw.{Raw}
use Rattle.asl_syntax.specs.Written as piece
use Rattle.asl_syntax.specs.Written.{Written, Writtens, WrittenGroup, item, apply, none, more, absent, given, writtens}
use Rattle.asl_words.specs.Operators.{parameters_of}
use Rattle.asl_terms.specs.Symbols.{symbol_of}
use Rattle.asl_shape.specs.Shapes.{is_empty, is_separator, takes}
use Rattle.asl_terms.specs.Terms as shapes
use Rattle.asl_shape.specs.Forms.{alone}

-- no argument is a comma or semicolon, a symbol has the operands that it asks for, nothing in braces is left out, and there is
-- less of all than 2^64
abbrev mutual
  pub IsKept : Written → Type 0
  IsKept (piece.text place bytes) = length bytes < ones_of W64
  IsKept (item place word args body) = AreArguments args × AreMembers body
  IsKept (apply place op args) = EachArgument args × (takes (parameters_of (symbol_of op)) args ≡ true)
  IsKept _ = Unit {0}

  pub AreArguments : WrittenGroup → Type 0
  AreArguments absent = Unit {0}
  AreArguments (given ws) = EachArgument ws

  pub EachArgument : Writtens → Type 0
  EachArgument none = Unit {0}
  EachArgument (more w ws) = IsKept w × (is_separator w ≡ false) × EachArgument ws

  pub AreMembers : WrittenGroup → Type 0
  AreMembers absent = Unit {0}
  AreMembers (given ws) = EachMember ws × (shapes.count ws ≤ ones_of W64)

  pub EachMember : Writtens → Type 0
  EachMember none = Unit {0}
  EachMember (more w ws) = IsKept w × (is_empty w ≡ false) × EachMember ws

-- a source of one block
abbrev pub IsKeptSource : Writtens → Type 0
IsKeptSource (more (item place word args body) none) = AreArguments args × AreMembers body
IsKeptSource _ = Unit {0}

-- a source of several, each of which is read alone
abbrev pub AreKeptAlone : List Raw → Type 0
AreKeptAlone [] = Unit {0}
AreKeptAlone (raw ∷ raws) = IsKeptSource (writtens (alone raw)) × AreKeptAlone raws

-- each text of a source is shorter than 2^32
abbrev pub HaveShortTexts : List Token → Type 0
HaveShortTexts tokens = All (λ token. length token.text < 2 ^ 32) tokens
