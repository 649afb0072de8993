-- Calls from outside: of methods of other tables with too few and too many arguments, and of what is no method. Worked by hand from the
-- ACPI Specification 6.4, 19.6 (External, Method).
use Rattle.std.proofs.Common.{◌≡◌, ℕ, false, List, [], ◌∷◌, ◌++◌, Some, None, refl}
use Rattle.acpi_values.specs.declared.width.Width.TheVariants.{W64}
use Rattle.acpi_values.specs.declared.fault.Fault.TheVariants as Fault
use Rattle.acpi_state.specs.Objects as E
use Rattle.acpi_state.specs.Objects.{Device}
use Rattle.acpi_state.specs.Outcomes.{Normal, Done}
use Rattle.acpi_state.specs.Sessions.{present_ones}
use Rattle.asl_tree.specs.Tree.{Return, External, Method, Container', Trees, no_trees}
use Rattle.asl_meaning.specs.Declarations.{externals}
use Rattle.aml_meaning.specs.Codes.{code_front}
use Rattle.aml_code.specs.Header.{table_bytes}
use Rattle.acpi_names.specs.Errors.{name_errors, type_errors}
use Rattle.meaning_rows.proofs.Rows.{at, fields}
use Rattle.meaning_rows.proofs.Outside.{hex, number, at_root, call, Asked, Told, gives, faults, of_bytes, of_source, written_whole, terms}
use Rattle.meaning_rows.proofs.Outside.{one, arg}

-- counts of arguments
-- External (XM, MethodObj, , {IntObj, IntObj}) External (XI, IntObj) Method (M, 1) { Return (Arg0) } Device (D) {}
abbrev counts_of_arguments : Trees
counts_of_arguments = (terms ((External at at (one "XM__") 8 (Some 2)) ∷ (External at at (one "XI__") 1 None) ∷ (Method at (one "M___") 1 (terms ((Return (arg 0)) ∷ []))) ∷ (Container' Device at (one "D___") no_trees) ∷ []))

abbrev counts_of_arguments_table : List ℕ
counts_of_arguments_table =
    table_bytes fields (hex "15 58 4D 5F 5F 08 02 15 58 49 5F 5F 01 00 14 08 4D 5F 5F 5F 01 A4 68 5B 82 05 44 5F 5F 5F")

abbrev counts_of_arguments_asked : Asked
counts_of_arguments_asked = record {
  there = present_ones (externals counts_of_arguments) ((at_root "XM__") ∷ (at_root "XI__") ∷ []);
  bound = 8;
  answers = ((number 9) ∷ []);
  calls = (call (at_root "XM__") ((number 1) ∷ (number 2) ∷ []) ∷ call (at_root "XM__") ((number 1) ∷ []) ∷ call (at_root "XM__") ((number 1) ∷ (number 2) ∷ (number 3) ∷ []) ∷ call (at_root "M___") ((number 4) ∷ []) ∷ call (at_root "M___") [] ∷ call (at_root "M___") ((number 4) ∷ (number 5) ∷ []) ∷ call (at_root "XI__") [] ∷ call (at_root "D___") [] ∷ call (at_root "N___") [] ∷ []);
  paths = ([]);
}

abbrev counts_of_arguments_told : Told
counts_of_arguments_told = record {
  results = ((Done (Normal false)) ∷ (gives (number 9)) ∷ (faults Fault.WrongType) ∷ (faults Fault.WrongType) ∷ (gives (number 4)) ∷ (faults Fault.WrongType) ∷ (faults Fault.WrongType) ∷ (faults Fault.WrongType) ∷ (faults Fault.WrongType) ∷ (faults Fault.NotFound) ∷ []);
  events = ((E.Call (at_root "XM__") ((number 1) ∷ (number 2) ∷ [])) ∷ []);
  left = ([]);
  values = ([]);
}

counts_of_arguments_encoded : written_whole W64 fields counts_of_arguments ≡ counts_of_arguments_table
counts_of_arguments_encoded = refl

counts_of_arguments_right : name_errors counts_of_arguments ++ type_errors counts_of_arguments ≡ []
counts_of_arguments_right = refl

counts_of_arguments_by_source : of_source W64 counts_of_arguments counts_of_arguments_asked ≡ counts_of_arguments_told
counts_of_arguments_by_source = refl

counts_of_arguments_by_bytes : of_bytes counts_of_arguments_table counts_of_arguments_asked ≡ counts_of_arguments_told
unfolding code_front
counts_of_arguments_by_bytes = refl
