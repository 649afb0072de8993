-- Where nothing is told of the names and the kinds of a source, the terms that are compiled have no error of names and kinds, and what is
-- found of the terms with those that declare descriptors serves for them.
use Rattle.std.proofs.Common.{◌≡◌, ℕ, Bool, true, false, List, [], get_or, Option, None}
use Rattle.std.specs.Prelude.{is_some, if◌then◌else◌}
use Rattle.acpi_values.specs.Paths.{AbsolutePath}
use Rattle.asl_tree.specs.declared.term.NamedDescriptor.{NamedDescriptor}
use Rattle.asl_meaning.specs.Declarations.{declarations}
use Rattle.acpi_names.specs.Errors.{whole_of, name_errors, type_errors}
use Rattle.acpi_names.specs.Parts.{Agrees}
use Rattle.acpi_names.specs.Tables.{Tabled}
use Rattle.acpi_names.specs.Terms.{are_terms}
use Rattle.asl_syntax.specs.declared.raw.Raw.{Raw}
use Rattle.asl_syntax.specs.Written.{writtens}
use Rattle.asl_shape.specs.Forms.{errors_at}
use Rattle.asl_numbers.specs.Numbers.{numbered_all}
use Rattle.named_sessions.specs.Shaped.{AreFormed, AreNamed}
use Rattle.descriptor_checks.specs.Resolved.{table_of}
use Rattle.descriptor_shapes.proofs.Blocks.{checked_are_terms, resolved_names, resolved_kinds, resolved_calls, resolved_index}
use Rattle.program_shapes.specs.Kept.{IsKeptSource}
use Rattle.program_shapes.specs.Sources.{source_in, names_in, uses_in, checked_in, program_in, terms_in, IsRight}
use Rattle.program_shapes.proofs.Blocks.{terms_as}

pub source_formed : (items : List Raw) → errors_at items ≡ [] → IsKeptSource (writtens items) → AreFormed (Unit {0}) AreNamed (Unit {0}) (Unit {0}) (numbered_all 0 (source_in items))
unfolding errors_at
source_formed items e k = terms_as (writtens items) e k 0

-- what is checked are terms
pub program_terms : (items : List Raw) → errors_at items ≡ [] → IsKeptSource (writtens items) → are_terms (program_in items) ≡ true
program_terms items e k = checked_are_terms 0 (source_in items) (source_formed items e k)

module _ (items : List Raw) (form : errors_at items ≡ []) (kept : IsKeptSource (writtens items)) (names : names_in items ≡ []) (uses : uses_in items ≡ []) where
  pub no_names : name_errors (terms_in items) ≡ []
  no_names = resolved_names 0 (source_in items) (source_formed items form kept) names uses

  pub no_kinds : type_errors (terms_in items) ≡ []
  no_kinds = resolved_kinds 0 (source_in items) (source_formed items form kept) names uses

  pub same_calls : (whole_of (terms_in items)).calls ≡ (whole_of (program_in items)).calls
  same_calls = resolved_calls 0 (source_in items) (source_formed items form kept) names uses

  pub left_index : (paths : List AbsolutePath) (flags left : List Bool) (table : List (Option NamedDescriptor)) → Agrees paths flags (declarations (program_in items)) → Tabled paths table (table_of (checked_in items))
      → ((n : ℕ) → get_or left n false ≡ (if is_some (get_or table n None) then false else get_or flags n false)) → Agrees paths left (declarations (terms_in items))
  left_index = resolved_index 0 (source_in items) (source_formed items form kept) names uses

-- of a source in which nothing is wrong
pub right_names : (items : List Raw) → IsRight items → IsKeptSource (writtens items) → name_errors (terms_in items) ≡ []
right_names items right kept = no_names items right.form kept right.names right.uses

pub right_kinds : (items : List Raw) → IsRight items → IsKeptSource (writtens items) → type_errors (terms_in items) ≡ []
right_kinds items right kept = no_kinds items right.form kept right.names right.uses
