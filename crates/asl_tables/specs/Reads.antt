-- What is read of tokens before their blocks are checked.
use Rattle.std.specs.Prelude.{◌≡◌, List, [], ◌∷◌, Result, Err, ⊤}
use Rattle.iasl_messages.specs.declared.place.Line.{Line}
use Rattle.iasl_messages.specs.declared.message.Stage.{Stage}
use Rattle.iasl_messages.specs.declared.message.Stage.TheVariants as stage
use Rattle.asl_lexer.specs.declared.token.Token.{Token}
use Rattle.asl_syntax.specs.declared.raw.Raw.{Raw}
use Rattle.asl_parser.specs.Parse.{ParseOutcome, outcome, read}
use Rattle.asl_syntax.specs.Written.{writtens}
use Rattle.asl_shape.specs.Forms.{source_errors, errors_at, alone, IsBlockOf}
use Rattle.program_shapes.specs.Kept.{IsKeptSource, AreKeptAlone}
use Rattle.block_outcomes.specs.declared.outcome.Compiled.TheVariants.{Refused}
use Rattle.asl_tables.specs.declared.compile.Style.{Style}
use Rattle.asl_tables.specs.declared.compile.ReadBlock.{ReadBlock}
use Rattle.asl_tables.specs.Compiled.{literals_in, of_outcome}

-- the block that an item is, and the notes on its literals
pub record IsReadOf (item : Raw) (it : ReadBlock) : Type 0 where
  pub block : IsBlockOf (alone item) it.block
  pub literals : it.literals ≡ literals_in (alone item)

-- so it is with each
abbrev pub AreReadOf : List Raw → List ReadBlock → Type 0
AreReadOf [] [] = ⊤
AreReadOf (item ∷ items) (it ∷ its) = IsReadOf item it × AreReadOf items its
AreReadOf _ _ = ⊥

-- it is read of an item with which nothing is wrong
pub record IsRightRead (it : ReadBlock) : Type 0 where
  pub item : Raw
  pub kept : IsKeptSource (writtens (alone item))
  pub right : errors_at (alone item) ≡ []
  pub read : IsReadOf item it

abbrev pub AreRightReads : List ReadBlock → Type 0
AreRightReads [] = ⊤
AreRightReads (it ∷ its) = IsRightRead it × AreRightReads its

-- the items of a source
abbrev pub items_in : ParseOutcome → List Raw
items_in (read items) = items
items_in _ = []

-- tokens are a source of these items, with whose form nothing is wrong, and of these blocks
pub record IsSourceOf (tokens : List Token) (items : List Raw) (its : List ReadBlock) : Type 0 where
  pub tree : outcome tokens ≡ read items
  pub kept : AreKeptAlone items
  pub no_errors : source_errors items ≡ []
  pub blocks : AreReadOf items its

-- tokens come to this refusal, or memory is wanting
abbrev pub IsRefusalOf : List Token → Stage → Type 0
IsRefusalOf tokens (stage.Refused messages) =
    (style : Style) (lines : List Line) → Refused messages ≡ of_outcome style lines tokens (outcome tokens)
IsRefusalOf tokens stage.Memory = ⊤

-- this holds, unless memory is wanting
abbrev pub UnlessMemory : {A : Type 0} → Result A Stage → Type 0 → Type 0
UnlessMemory (Err stage.Memory) fact = ⊤
UnlessMemory _ fact = fact
