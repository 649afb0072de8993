-- The descriptors that the terms of a block declare, and the fields of these that it uses, which become constants (ACPI
-- Specification 6.4, 19.2.8).
use Rattle.std.specs.Prelude.{ℕ, Bool, false, List, [], ◌∷◌, ◌++◌, Option, is_some}
use Rattle.acpi_values.specs.Paths.{AbsolutePath}
use Rattle.acpi_state.specs.Objects.{lookup}
use Rattle.acpi_state.specs.Outcomes.{choose}
use Rattle.iasl_messages.specs.declared.message.Message.{Message}
use Rattle.asl_tree.specs.Names.{declared_path}
use Rattle.asl_tree.specs.Tree.{At}
use Rattle.asl_tree.specs.declared.term.NamedDescriptor.{NamedDescriptor}
use Rattle.asl_meaning.specs.Declarations.{is_named, nothing_declared, declarations as all_declared}
use Rattle.acpi_names.specs.Mentions.{Mention, Used', Sought, Declares, block_mentions}
use Rattle.asl_numbers.specs.Numbers.{numbered_all}
use Rattle.term_plans.specs.Plans.{Plans}
use Rattle.descriptor_fields.specs.Constants.{resolved_from, broken_from}
use Rattle.descriptor_fields.specs.Declaring.{declaring, stripped}
use Rattle.descriptor_fields.specs.Nodes.{at_node, named_from}
use Rattle.descriptor_fields.specs.Values.{OfCall}
use Rattle.descriptor_checks.specs.Senses.{Sense, AField, sense_of}

-- ---- the descriptors, each at its path, which the mention of its name has
abbrev pub described_by : List (ℕ × NamedDescriptor) → Mention → List (AbsolutePath × NamedDescriptor)
described_by named (Declares at name as' scope) =
    choose (at_node named at.id) [] (λ descriptor. (declared_path name scope, descriptor) ∷ [])
described_by named m = []

abbrev pub described : List (ℕ × NamedDescriptor) → List Mention → List (AbsolutePath × NamedDescriptor)
described named [] = []
described named (m ∷ ms) = described_by named m ++ described named ms

-- ---- a block: its mentions, its names and its descriptors
abbrev pub mentions_of : Plans → List Mention
mentions_of ps = block_mentions (numbered_all 0 ps) [] nothing_declared

abbrev pub names_of : Plans → AbsolutePath → Bool
names_of ps = is_named (all_declared (numbered_all 0 ps))

abbrev pub table_of : Plans → AbsolutePath → Option NamedDescriptor
table_of ps = lookup (described (named_from 0 ps) (mentions_of ps))

-- ---- the fields that are used, each by its node with its lowest bit in the template
abbrev pub field_at : At → Sense → List (ℕ × ℕ)
field_at at (AField bit) = (at.id, bit) ∷ []
field_at at s = []

module _ (has : AbsolutePath → Bool) (look : AbsolutePath → Option NamedDescriptor) where
  -- a field that is called or opened as a scope is no value
  abbrev pub fields_by : Mention → List (ℕ × ℕ)
  fields_by (Used' asked at name scope) = field_at at (sense_of has look name scope)
  fields_by (Sought at name scope) = field_at at (sense_of has look name scope)
  fields_by m = []

  abbrev pub fields_in : List Mention → List (ℕ × ℕ)
  fields_in [] = []
  fields_in (m ∷ ms) = fields_by m ++ fields_in ms

abbrev pub fields_of : Plans → List (ℕ × ℕ)
fields_of ps = fields_in (names_of ps) (table_of ps) (mentions_of ps)

-- ---- the terms of a block with those that declare its descriptors, in which fields are constants
abbrev pub checked_terms : Plans → Plans
checked_terms ps = let all = declaring ps in resolved_from (fields_of all) OfCall 0 false 0 all

abbrev pub broken_fields : Plans → List Message
broken_fields ps = let all = declaring ps in broken_from (fields_of all) OfCall 0 false 0 all

-- the terms that are compiled
abbrev pub resolved_terms : Plans → Plans
resolved_terms ps = stripped (checked_terms ps)

-- the paths of the descriptors, which a search of a name meets, and at which nothing stands when the block runs
abbrev pub described_paths : Plans → AbsolutePath → Bool
described_paths ps path = is_some (table_of (checked_terms ps) path)
