-- What is told of the names of a block where descriptors have names, mention by mention (ACPI Specification 6.4, 19.2.8).
use Rattle.std.specs.Prelude.{ℕ, Bool, true, false, not, if◌then◌else◌, List, [], ◌∷◌, ◌++◌, map, filter, Option, is_some}
use Rattle.acpi_values.specs.Paths.{AbsolutePath}
use Rattle.iasl_messages.specs.declared.message.Message.{Message}
use Rattle.iasl_messages.specs.declared.place.Place.{Place}
use Rattle.asl_tree.specs.Names.{declared_path}
use Rattle.asl_tree.specs.Tree.{At, Trees}
use Rattle.asl_tree.specs.declared.path.Path.{Path}
use Rattle.asl_tree.specs.declared.term.NamedDescriptor.{NamedDescriptor}
use Rattle.asl_meaning.specs.Declarations.{nothing_declared}
use Rattle.acpi_names.specs.Errors.{NameError, Missing, NoContainer, whole_of, Asked, Anything, AValue, unless, step_errors}
use Rattle.acpi_names.specs.Mentions.{Mention, Used', Sought, Called, Declares, Opens, all_errors, all_types}
use Rattle.asl_numbers.specs.Numbers.{numbered_all}
use Rattle.term_plans.specs.Plans.{Plans}
use Rattle.name_checks.specs.Messages.{message_of, name_text}
use Rattle.descriptor_checks.specs.Senses.{Sense, Nothing, AField, outer_path, sense_of}
use Rattle.descriptor_fields.specs.Declaring.{declaring}
use Rattle.descriptor_checks.specs.Resolved.{checked_terms, broken_fields, mentions_of, names_of, table_of}

-- ---- one mention

abbrev pub is_nothing : Sense → Bool
is_nothing Nothing = true
is_nothing s = false

abbrev pub is_field_sense : Sense → Bool
is_field_sense (AField bit) = true
is_field_sense s = false

-- what is told of a descriptor or a field where a value or a place is asked for; where an object is
abbrev pub fault : ℕ → Place → List ℕ → List Message
fault number place name = record { number = number; place = place; name = name } ∷ []

abbrev pub wrong_value : At → List Message
wrong_value at = fault 6050 at.place []

abbrev pub wrong_object : At → Path → List Message
wrong_object at name = fault 6054 at.place (name_text name)

abbrev pub fault_asked : Asked → At → Path → List Message
fault_asked Anything at name = wrong_value at
fault_asked AValue at name = wrong_value at
fault_asked asked at name = wrong_object at name

-- a descriptor and a field are no value, no place, no object of any kind, and no method
abbrev pub fault_of : Mention → List Message
fault_of (Used' asked at name scope) = fault_asked asked at name
fault_of (Sought at name scope) = wrong_value at
fault_of (Called asked at name args scope) = fault 6051 at.place (name_text name)
fault_of (Opens here at name scope inner) = wrong_object at name
fault_of m = []

-- of the class of names: a field by a path that leaves the root, and a Scope of one, which is no container
abbrev pub field_errors : Mention → List NameError
field_errors (Used' asked at name scope) = step_errors at name scope
field_errors (Sought at name scope) = step_errors at name scope
field_errors (Called asked at name args scope) = step_errors at name scope
field_errors (Opens here at name scope inner) = step_errors at name scope ++ NoContainer here name ∷ []
field_errors m = []

-- the path of the descriptor whose field is used
abbrev pub owner_of : Mention → List AbsolutePath
owner_of (Used' asked at name scope) = declared_path (outer_path name) scope ∷ []
owner_of (Sought at name scope) = declared_path (outer_path name) scope ∷ []
owner_of (Called asked at name args scope) = declared_path (outer_path name) scope ∷ []
owner_of (Opens here at name scope inner) = declared_path (outer_path name) scope ∷ []
owner_of m = []

module _ (look : AbsolutePath → Option NamedDescriptor) where
  -- a descriptor has nothing below it but its fields
  abbrev pub is_below : AbsolutePath → Bool
  is_below [] = false
  is_below (segment ∷ outer) = is_some (look outer)

  abbrev pub declared_below : At → Path → AbsolutePath → List NameError
  declared_below at name scope = unless (not (is_below (declared_path name scope))) (Missing at name)

  abbrev pub below_errors : Mention → List NameError
  below_errors (Declares at name as' scope) = declared_below at name scope
  below_errors m = []

  abbrev pub all_below : List Mention → List NameError
  all_below [] = []
  all_below (m ∷ ms) = below_errors m ++ all_below ms

module _ (has : AbsolutePath → Bool) (look : AbsolutePath → Option NamedDescriptor) where
  abbrev pub sense_in : Mention → Sense
  sense_in (Used' asked at name scope) = sense_of has look name scope
  sense_in (Sought at name scope) = sense_of has look name scope
  sense_in (Called asked at name args scope) = sense_of has look name scope
  sense_in (Opens here at name scope inner) = sense_of has look name scope
  sense_in m = Nothing

  -- ---- some mentions

  abbrev pub is_no_field : Mention → Bool
  is_no_field m = not (is_field_sense (sense_in m))

  abbrev pub is_of_no_descriptor : Mention → Bool
  is_of_no_descriptor m = is_nothing (sense_in m)

  abbrev pub all_field_errors : List Mention → List NameError
  all_field_errors [] = []
  all_field_errors (m ∷ ms) = (if is_no_field m then [] else field_errors m) ++ all_field_errors ms

  -- of the class of kinds: of a descriptor and of a field nothing else is told
  abbrev pub use_faults : Mention → List Message
  use_faults m = if is_of_no_descriptor m then [] else fault_of m

  abbrev pub all_use_faults : List Mention → List Message
  all_use_faults [] = []
  all_use_faults (m ∷ ms) = use_faults m ++ all_use_faults ms

  -- the descriptors whose fields are used
  abbrev pub field_owners : List Mention → List AbsolutePath
  field_owners [] = []
  field_owners (m ∷ ms) = (if is_no_field m then [] else owner_of m) ++ field_owners ms

-- ---- a block, whose terms stand with those that declare its descriptors

-- of its mentions that are no fields, and below its descriptors
abbrev pub names_wrong : Plans → List NameError
names_wrong ps =
    all_errors (whole_of (numbered_all 0 ps)) (filter (is_no_field (names_of ps) (table_of ps)) (mentions_of ps)) nothing_declared
    ++ all_below (table_of ps) (mentions_of ps)

abbrev pub fields_wrong : Plans → List NameError
fields_wrong ps = all_field_errors (names_of ps) (table_of ps) (mentions_of ps)

abbrev pub kinds_wrong : Plans → List Message
kinds_wrong ps =
    map message_of (all_types (whole_of (numbered_all 0 ps)) (filter (is_of_no_descriptor (names_of ps) (table_of ps)) (mentions_of ps)))
    ++ all_use_faults (names_of ps) (table_of ps) (mentions_of ps)

-- the descriptors whose fields are used, once for each use
abbrev pub owners_of : Plans → List AbsolutePath
owners_of ps = field_owners (names_of ps) (table_of ps) (mentions_of ps)

-- the terms with those that declare descriptors, as a tree
abbrev pub checked_trees : Plans → Trees
checked_trees ps = numbered_all 0 (checked_terms ps)

-- of names: declared twice or nowhere, of a Scope, of an External and of steps up; the fields are those of the terms in which they
-- are not constants yet
abbrev pub names_told : Plans → List Message
names_told ps = map message_of (names_wrong (checked_terms ps) ++ fields_wrong (declaring ps))

-- of kinds and counts
abbrev pub kinds_told : Plans → List Message
kinds_told ps = kinds_wrong (checked_terms ps) ++ broken_fields ps
