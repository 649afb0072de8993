-- What is told of a block: of its names, of all else that is wrong with its terms, and the notes on its names.
use Rattle.std.specs.Prelude.{ℕ, nat_eq, Bool, ◌||◌, if◌then◌else◌, List, [], ◌∷◌, ◌++◌}
use Rattle.iasl_messages.specs.declared.message.Message.{Message}
use Rattle.acpi_values.specs.declared.width.Width.{Width}
use Rattle.term_plans.specs.Plans.{Plans}
use Rattle.name_notes.specs.Notes.{mentioned_notes}
use Rattle.descriptor_fields.specs.Declaring.{declaring}
use Rattle.descriptor_checks.specs.Resolved.{checked_terms, mentions_of, names_of, resolved_terms}
use Rattle.descriptor_checks.specs.Told.{checked_trees, names_told, kinds_told, owners_of}
use Rattle.statement_checks.specs.Statements.{errors_of_statements}
use Rattle.field_checks.specs.Lists.{all_errors}
use Rattle.region_checks.specs.Regions.{region_errors}
use Rattle.type_checks.specs.Types.{wrong_types}
use Rattle.type_checks.specs.Sizes.{long_lists}
use Rattle.switch_checks.specs.Repeats.{repeated_values}
use Rattle.block_outcomes.specs.Joined.{first_told}

-- what is told of the names of terms, those of resource descriptors among these, or where nothing is, of what names stand
-- for
abbrev pub told_of_names : Plans → List Message
told_of_names written = first_told (names_told written) (kinds_told written)

-- what is wrong with the statements of some plans, then with their lists of fields and the accesses of these, and then
-- with the kinds of arguments, the lengths of lists and the values of Cases, at a width
abbrev pub others_of : Width → Plans → (regions types : List Message) → List Message
others_of width ps regions types =
    errors_of_statements ps ++ all_errors ps ++ regions ++ types ++ long_lists width ps ++ repeated_values width ps

-- the same of terms as they are written: regions and arguments ask for names, so for the terms that declare descriptors
abbrev pub errors_beside_names : Width → Plans → List Message
errors_beside_names width written =
    others_of width (resolved_terms written) (region_errors width (checked_trees written) (checked_terms written))
    (wrong_types (checked_trees written) (checked_terms written))

-- the notes on the names of terms as they are written
abbrev pub noted_of : Plans → List Message
noted_of ps = mentioned_notes (names_of (checked_terms ps)) (owners_of (declaring ps)) (mentions_of (checked_terms ps))

-- the numbers of the errors of names that are of the class of kinds
abbrev pub is_of_kinds : ℕ → Bool
is_of_kinds number = nat_eq number 6051 || (nat_eq number 6054 || (nat_eq number 6050 || nat_eq number 6056))

-- the errors of statements and of the lists of fields are of the class of kinds: they come behind these, and not where names are
-- wrong
abbrev pub with_others : List Message → List Message → List Message
with_others [] others = others
with_others (m ∷ ms) others = if is_of_kinds m.number then (m ∷ ms) ++ others else m ∷ ms
