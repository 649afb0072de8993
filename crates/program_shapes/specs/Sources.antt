-- What a block of a source says, which is read alone, and its table; and when nothing is wrong with a source of several.
use Rattle.std.specs.Prelude.{◌≡◌, ℕ, ◌%◌, Bool, List, [], ◌∷◌}
use Rattle.acpi_values.specs.Paths.{AbsolutePath}
use Rattle.acpi_values.specs.Revisions.{width_of}
use Rattle.acpi_values.specs.declared.width.Width.{Width}
use Rattle.asl_tree.specs.Tree.{Trees}
use Rattle.asl_meaning.specs.Declarations.{known_of, externals}
use Rattle.aml_code.specs.Header.{HeaderFields, table_bytes, IsHeader}
use Rattle.aml_meaning.specs.Encoded.{encoded_terms}
use Rattle.aml_meaning.specs.ByteSession.{IsFaithful}
use Rattle.named_sessions.specs.Core.{core_beside}
use Rattle.asl_lower.specs.Nodes.{named_all}
use Rattle.asl_fold.specs.Folds.{folded_where}
use Rattle.wrapped_externals.specs.Wraps.{wrapped_where}
use Rattle.asl_prints.specs.Forms.{formed_all}
use Rattle.hidden_locals.specs.Switches.{without_switches}
use Rattle.asl_syntax.specs.declared.raw.Raw.{Raw}
use Rattle.asl_syntax.specs.Written.{writtens}
use Rattle.term_plans.specs.Plans.{Plans, plan_at, text_of, number_of}
use Rattle.asl_shape.specs.Forms.{errors_at, alone, args_of, terms_of}
use Rattle.asl_numbers.specs.Numbers.{numbered_all}
use Rattle.descriptor_fields.specs.Declaring.{declaring}
use Rattle.descriptor_checks.specs.Resolved.{checked_terms, resolved_terms, described_paths, names_of, mentions_of}
use Rattle.name_notes.specs.Notes.{mentioned_notes}
use Rattle.descriptor_checks.specs.Told.{names_told, kinds_told, owners_of}
use Rattle.iasl_messages.specs.declared.message.Message.{Message}
use Rattle.statement_checks.specs.Statements.{errors_of_statements}
use Rattle.field_checks.specs.Lists.{all_errors}
use Rattle.region_checks.specs.Regions.{region_errors}
use Rattle.type_checks.specs.Types.{wrong_types}
use Rattle.type_checks.specs.Sizes.{long_lists}
use Rattle.switch_checks.specs.Repeats.{repeated_values}
use Rattle.switch_checks.specs.Locals.{few_locals}

-- its terms as they are written
abbrev pub source_in : List Raw → Plans
source_in items = terms_of (writtens items)

-- what is wrong with the names in them, those of its resource descriptors among these
abbrev pub names_in : List Raw → List Message
names_in items = names_told (source_in items)

-- and with the kinds of what its names stand for
abbrev pub uses_in : List Raw → List Message
uses_in items = kinds_told (source_in items)

-- its terms with those that declare its resource descriptors, and with the fields of these as constants
abbrev pub checked_in : List Raw → Plans
checked_in items = checked_terms (source_in items)

-- these, each node with its number: what is asked of names is asked of them
abbrev pub program_in : List Raw → Trees
program_in items = numbered_all 0 (checked_in items)

-- its terms with the fields of its descriptors as constants
abbrev pub plans_in : List Raw → Plans
plans_in items = resolved_terms (source_in items)

-- these, each node with its number
abbrev pub terms_in : List Raw → Trees
terms_in items = numbered_all 0 (plans_in items)

-- what is wrong with its statements
abbrev pub statements_in : List Raw → List Message
statements_in items = errors_of_statements (plans_in items)

-- what is wrong with the lists of its fields
abbrev pub layouts_in : List Raw → List Message
layouts_in items = all_errors (plans_in items)

-- what the arguments of a definition block say of the table's header (ACPI Specification 6.4, 19.6.29)
abbrev pub stated_by : Plans → HeaderFields
stated_by args = record {
  signature = text_of (plan_at args 1);
  revision = number_of (plan_at args 2) % 256;
  oem_id = text_of (plan_at args 3);
  table_id = text_of (plan_at args 4);
  oem_revision = number_of (plan_at args 5) % 4294967296;
}

abbrev pub fields_in : List Raw → HeaderFields
fields_in items = stated_by (args_of (writtens items))

-- the width of its integers, which the header's revision gives
abbrev pub width_in : List Raw → Width
width_in items = width_of (fields_in items).revision

-- what is wrong with the accesses of its fields to their regions
abbrev pub regions_in : List Raw → List Message
regions_in items = region_errors (width_in items) (program_in items) (checked_in items)

-- what is wrong with the kinds of its arguments
abbrev pub types_in : List Raw → List Message
types_in items = wrong_types (program_in items) (checked_in items)

-- its lists that are longer than their sizes
abbrev pub sizes_in : List Raw → List Message
sizes_in items = long_lists (width_in items) (plans_in items)

-- the values of its Cases that an earlier one of their Switch has
abbrev pub values_in : List Raw → List Message
values_in items = repeated_values (width_in items) (plans_in items)

-- its Switches for which too few Locals are free
abbrev pub locals_in : List Raw → List Message
locals_in items = few_locals (terms_in items) (plans_in items)

-- the notes on its names; a use of a descriptor's field is a use of the descriptor
abbrev pub notes_in : List Raw → List Message
notes_in items = mentioned_notes (names_of (checked_in items)) (owners_of (declaring (source_in items))) (mentions_of (checked_in items))

-- the program lowered: what stands for its Fors and for what prints, loops for its Switches, its symbols named, and its
-- constants folded where that is asked for
abbrev pub lowered_in : Bool → List Raw → Trees
lowered_in fold items = folded_where fold (width_in items) (named_all (without_switches (formed_all (terms_in items))))

-- its core, before its names are spelled: lowered, with its Externals in Ifs where that is asked for
abbrev pub core_in : (wrap fold : Bool) → List Raw → Trees
core_in wrap fold items = wrapped_where wrap (lowered_in fold items)

-- the paths of its descriptors, which stand in the way of its names
abbrev pub described_in : List Raw → AbsolutePath → Bool
described_in items = described_paths (source_in items)

-- its core with its names spelled, shortened or not
abbrev pub spelled_in : (wrap fold shorten : Bool) → List Raw → Trees
spelled_in wrap fold shorten items = core_beside shorten (described_in items) (core_in wrap fold items)

-- its table: the header, and the bytes of its core with its names spelled; whether Externals stand in Ifs, whether
-- constants are folded, whether 0, 1 and all ones have a byte of their own, and whether names are shortened, is the
-- caller's choice
abbrev pub table_in : (wrap fold short shorten : Bool) → List Raw → List ℕ
table_in wrap fold short shorten items =
    table_bytes (fields_in items) (encoded_terms (width_in items) short (spelled_in wrap fold shorten items))

-- nothing is wrong with its form, its names, those of its resource descriptors among these, how many arguments its
-- calls have, its statements, the lists of its fields and their accesses, the kinds of its arguments, the lengths of
-- its lists, the values of its Cases, and the Locals that are free for its Switches
pub record IsRight (items : List Raw) : Type 0 where
  pub form : errors_at items ≡ []
  pub names : names_in items ≡ []
  pub uses : uses_in items ≡ []
  pub statements : statements_in items ≡ []
  pub layouts : layouts_in items ≡ []
  pub regions : regions_in items ≡ []
  pub types : types_in items ≡ []
  pub sizes : sizes_in items ≡ []
  pub values : values_in items ≡ []
  pub locals : locals_in items ≡ []

-- nothing is wrong with any of some blocks
abbrev pub EachRight : List Raw → Type 0
EachRight [] = Unit {0}
EachRight (raw ∷ raws) = IsRight (alone raw) × EachRight raws

-- nothing is wrong with a source: there are items, and each is a block with which nothing is wrong, in a namespace of its own
pub record IsRightSource (items : List Raw) : Type 0 where
  pub some : items ≡ [] → ⊥
  pub blocks : EachRight items

-- for every bound, answers and calls that may be asked, whatever other tables are there, every session over the bytes is the program's at
-- this width
abbrev pub DoesAs : Width → Trees → List ℕ → Type 0
DoesAs width program bytes = IsFaithful width (known_of program) (externals program) program bytes

-- bytes that begin with the header that the source states, and that do what it says
pub record IsTableOfSource (items : List Raw) (bytes : List ℕ) : Type 0 where
  pub header : IsHeader bytes (fields_in items)
  pub faithful : DoesAs (width_in items) (terms_in items) bytes
