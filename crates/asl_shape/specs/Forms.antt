-- A source as a program: one or more definition blocks (ACPI Specification 6.4, 19.6.29), each of which is read as if it stood alone.
use Rattle.std.specs.Prelude.{◌≡◌, ℕ, ◌%◌, Bool, not, if◌then◌else◌, List, [], ◌∷◌, ◌++◌, codes, Option, Some, None, false}
use Rattle.std.specs.Str.{bytes_eq}
use Rattle.iasl_messages.specs.declared.place.Place.{Place}
use Rattle.iasl_messages.specs.declared.message.Message.{Message}
use Rattle.asl_syntax.specs.declared.raw.Raw.{Raw}
use Rattle.asl_tree.specs.declared.program.Block.{Block}
use Rattle.asl_tree.specs.declared.program.Program.{Program}
use Rattle.asl_syntax.specs.Written.{Written, Writtens, WrittenGroup, item, none, more, written, writtens}
use Rattle.acpi_values.specs.Revisions.{width_of}
use Rattle.acpi_values.specs.declared.width.Width.TheVariants.{W64}
use Rattle.asl_shape.specs.Around.{outside}
use Rattle.term_plans.specs.Plans.{Plans, no_plans, plans_of, plan_at, text_of, number_of}
use Rattle.asl_words.specs.Operators.{block_parameters}
use Rattle.asl_terms.specs.Terms.{Shaped, place_of, inside_of, is_given}
use Rattle.term_plans.specs.Places.{fault_at}
use Rattle.asl_shape.specs.Shapes.{takes, arguments, terms}
use Rattle.asl_terms.specs.AtRaw.{inside_at, is_some, place_at}
use Rattle.asl_shape.specs.AtRaw.{arguments_in_at, terms_at, takes_at}

-- the begin of the source
abbrev pub start : Place
start = record { file = 0; line = 1; column = 1 }

abbrev pub is_block_word : List ℕ → Bool
is_block_word word = bytes_eq word (codes "DEFINITIONBLOCK")

-- the first error of a block itself: its arguments, or its braces
abbrev pub block_fault : Bool → Bool → Option ℕ
block_fault has_arguments has_body = if not has_arguments then Some 6021 else (if not has_body then Some 6023 else None)

abbrev pub errors_inside : Option ℕ → Place → List Message → List Message
errors_inside (Some number) place inside = fault_at number place ∷ []
errors_inside None place inside = inside

-- its arguments, which are constants of 64 bits and strings
abbrev pub block_args : Place → WrittenGroup → Shaped Plans
block_args place args = arguments block_parameters place (outside W64) args

-- the revision that they state
abbrev pub revision_in : Plans → ℕ
revision_in args = number_of (plan_at args 2) % 256

-- its terms, where its arguments are these
abbrev pub block_terms : Plans → WrittenGroup → Shaped Plans
block_terms args body = terms (outside (width_of (revision_in args))) None (inside_of body)

abbrev pub block_errors : Place → WrittenGroup → WrittenGroup → List Message
block_errors place args body =
    errors_inside (block_fault (takes block_parameters (inside_of args)) (is_given body)) place
    ((block_args place args).faults ++ (block_terms (block_args place args).made body).faults)

abbrev pub one_error : ℕ → Place → List Message
one_error number place = fault_at number place ∷ []

abbrev pub no_block : Place → List Message
no_block place = one_error 6028 place

-- nothing stands beside a block that is read alone
abbrev pub errors_before : List Message → Writtens → List Message
errors_before errors none = errors
errors_before errors (more w ws) = no_block (place_of start w)

abbrev pub first_errors : Written → Writtens → List Message
first_errors (item place word args body) rest = if is_block_word word then errors_before (block_errors place args body) rest else
    no_block place
first_errors w rest = no_block (place_of start w)

-- all errors of an item that is read alone, in preorder
abbrev pub errors_of : Writtens → List Message
errors_of none = no_block start
errors_of (more w ws) = first_errors w ws

-- whether an item is a block
abbrev pub is_block : Written → Bool
is_block (item place word args body) = is_block_word word
is_block _ = false

-- what a block says: its place, its arguments and its terms
abbrev pub block_place : Writtens → Place
block_place (more (item place word args body) none) = place
block_place _ = start

abbrev pub args_of : Writtens → Plans
args_of (more (item place word args body) none) = (block_args place args).made
args_of _ = no_plans

abbrev pub terms_of : Writtens → Plans
terms_of (more (item place word args body) none) = (block_terms (block_args place args).made body).made
terms_of _ = no_plans

pub record IsBlock (at : Place) (args list : Plans) (block : Block) : Type 0 where
  pub place : block.place ≡ at
  pub file : block.file ≡ text_of (plan_at args 0)
  pub signature : block.signature ≡ text_of (plan_at args 1)
  pub revision : block.revision ≡ revision_in args
  pub oem_id : block.oem_id ≡ text_of (plan_at args 3)
  pub table_id : block.table_id ≡ text_of (plan_at args 4)
  pub oem_revision : block.oem_revision ≡ number_of (plan_at args 5) % 4294967296
  pub terms : plans_of block.terms.items ≡ list

unfoldable pub errors_at : List Raw → List Message
errors_at raws = errors_of (writtens raws)

unfoldable pub IsBlockOf : List Raw → Block → Type 0
IsBlockOf raws block = IsBlock (block_place (writtens raws)) (args_of (writtens raws)) (terms_of (writtens raws)) block

-- an item, alone
abbrev pub alone : Raw → List Raw
alone raw = raw ∷ []

unfoldable pub is_block_at : Raw → Bool
is_block_at raw = is_block (written raw)

-- the errors of an item, if it is a block
abbrev pub errors_in_block : Raw → List Message
errors_in_block raw = if is_block_at raw then errors_at (alone raw) else []

-- those of each block among some items, in their order
abbrev pub errors_in_blocks : List Raw → List Message
errors_in_blocks [] = []
errors_in_blocks (raw ∷ raws) = errors_in_block raw ++ errors_in_blocks raws

-- of the items that are no block the first is told of, and nothing in it is looked at
abbrev pub stray_errors : List Raw → List Message
stray_errors [] = []
stray_errors (raw ∷ raws) = if is_block_at raw then stray_errors raws else no_block (place_at start raw)

-- all errors of a source: those of its blocks, and the first item that is none, or that there is no item
abbrev pub source_errors : List Raw → List Message
source_errors [] = no_block start
source_errors (raw ∷ raws) = errors_in_blocks (raw ∷ raws) ++ stray_errors (raw ∷ raws)

-- blocks that some items are, in their order
abbrev pub AreBlocksOf : List Raw → List Block → Type 0
AreBlocksOf [] [] = Unit {0}
AreBlocksOf (raw ∷ raws) (block ∷ blocks) = IsBlockOf (alone raw) block × AreBlocksOf raws blocks
AreBlocksOf _ _ = ⊥

-- nothing is wrong with items, of which each is a block
abbrev pub AreRight : List Raw → Type 0
AreRight [] = Unit {0}
AreRight (raw ∷ raws) = (errors_at (alone raw) ≡ []) × AreRight raws

-- the block of an item is added behind others
abbrev pub AddsBlock : Raw → List Block → List Block → Type 0
AddsBlock raw old new = (block : Block) × IsBlockOf (alone raw) block × (new ≡ old ++ block ∷ [])

-- a source without errors is the program of its blocks
pub record Forms (raws : List Raw) (program : Program) : Type 0 where
  pub no_errors : source_errors raws ≡ []
  pub blocks : AreBlocksOf raws program.blocks

-- ---- the same of the tree of the syntax itself, part by part

abbrev pub args_in : Place → List Raw → Shaped Plans
args_in place args = arguments_in_at block_parameters place (outside W64) args

abbrev pub terms_in : Plans → List Raw → Shaped Plans
terms_in args body = terms_at (outside (width_of (revision_in args))) None body

unfoldable pub errors_in : Place → List Raw → List Raw → List Message
errors_in place args body = (args_in place args).faults ++ (terms_in (args_in place args).made body).faults

unfoldable pub block_errors_at : Place → Option (List Raw) → Option (List Raw) → List Message
block_errors_at place args body =
    errors_inside (block_fault (takes_at block_parameters (inside_at args)) (is_some body)) place
    (errors_in place (inside_at args) (inside_at body))
