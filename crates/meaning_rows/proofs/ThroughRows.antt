-- Sessions that store through References: to Locals and Args of methods that have ended, and References into Args. Worked by hand from
-- the ACPI Specification 6.4, 19.3.5 and 19.6 (RefOf, DerefOf, Store).
use Rattle.std.proofs.Common.{◌≡◌, ℕ, false, List, [], ◌∷◌, ◌++◌, Some, refl}
use Rattle.acpi_values.specs.declared.width.Width.TheVariants.{W64}
use Rattle.acpi_values.specs.declared.fault.Fault.TheVariants as Fault
use Rattle.acpi_values.specs.declared.operator.DataOp.TheVariants as DataOp
use Rattle.acpi_values.specs.declared.operator.Plain.TheVariants as Plain
use Rattle.acpi_state.specs.Outcomes.{Normal, Done}
use Rattle.acpi_state.specs.Sessions.{present_ones}
use Rattle.asl_tree.specs.Tree.{Integer, Use, Call, Apply, Assigned, Return, Name, Method, Trees, no_trees}
use Rattle.asl_meaning.specs.Declarations.{externals}
use Rattle.aml_meaning.specs.Codes.{code_front}
use Rattle.aml_code.specs.Header.{table_bytes}
use Rattle.acpi_names.specs.Errors.{name_errors, type_errors}
use Rattle.meaning_rows.proofs.Rows.{at, fields}
use Rattle.meaning_rows.proofs.Outside.{hex, number, at_root, call, Asked, Told, gives, faults, of_bytes, of_source, written_whole, terms}
use Rattle.meaning_rows.proofs.Outside.{one, local, arg}

-- A Local and an Arg are gone with their method
-- Method (K) { Local0 = 1 Return (RefOf (Local0)) } Method (L, 1) { Return (RefOf (Arg0)) } Method (T, 1) { Arg0 = 3 Return (1) } Method
-- (A) { Local0 = K () DerefOf (Local0) = 3 } Method (B) { Return (T (K ())) } Method (C) { Return (T (L (5))) }
abbrev ended_methods : Trees
ended_methods = (terms ((Method at (one "K___") 0 (terms ((Assigned (local 0) (Integer 1)) ∷ (Return (Apply (Plain.Data DataOp.RefOf) (terms ((local 0) ∷ [])) no_trees)) ∷ []))) ∷ (Method at (one "L___") 1 (terms ((Return (Apply (Plain.Data DataOp.RefOf) (terms ((arg 0) ∷ [])) no_trees)) ∷ []))) ∷ (Method at (one "T___") 1 (terms ((Assigned (arg 0) (Integer 3)) ∷ (Return (Integer 1)) ∷ []))) ∷ (Method at (one "A___") 0 (terms ((Assigned (local 0) (Call at (one "K___") no_trees)) ∷ (Assigned (Apply (Plain.Data DataOp.DerefOf) (terms ((local 0) ∷ [])) no_trees) (Integer 3)) ∷ []))) ∷ (Method at (one "B___") 0 (terms ((Return (Call at (one "T___") (terms ((Call at (one "K___") no_trees) ∷ [])))) ∷ []))) ∷ (Method at (one "C___") 0 (terms ((Return (Call at (one "T___") (terms ((Call at (one "L___") (terms ((Integer 5) ∷ []))) ∷ [])))) ∷ []))) ∷ []))

abbrev ended_methods_table : List ℕ
ended_methods_table =
    table_bytes fields (hex "14 0C 4B 5F 5F 5F 00 70 01 60 A4 71 60 14 09 4C 5F 5F 5F 01 A4 71 68 14 0C 54 5F 5F 5F 01 70 0A 03 68 A4 01 14 11 41 5F"
    ++ hex "5F 5F 00 70 4B 5F 5F 5F 60 70 0A 03 83 60 14 0F 42 5F 5F 5F 00 A4 54 5F 5F 5F 4B 5F 5F 5F 14 11 43 5F 5F 5F 00 A4 54 5F"
    ++ hex "5F 5F 4C 5F 5F 5F 0A 05")

abbrev ended_methods_asked : Asked
ended_methods_asked = record {
  there = present_ones (externals ended_methods) ([]);
  bound = 8;
  answers = ([]);
  calls = (call (at_root "A___") [] ∷ call (at_root "B___") [] ∷ call (at_root "C___") [] ∷ []);
  paths = ([]);
}

abbrev ended_methods_told : Told
ended_methods_told = record {
  results = ((Done (Normal false)) ∷ (faults Fault.NotFound) ∷ (faults Fault.NotFound) ∷ (faults Fault.NotFound) ∷ []);
  events = ([]);
  left = ([]);
  values = ([]);
}

ended_methods_encoded : written_whole W64 fields ended_methods ≡ ended_methods_table
ended_methods_encoded = refl

ended_methods_right : name_errors ended_methods ++ type_errors ended_methods ≡ []
ended_methods_right = refl

ended_methods_by_source : of_source W64 ended_methods ended_methods_asked ≡ ended_methods_told
ended_methods_by_source = refl

ended_methods_by_bytes : of_bytes ended_methods_table ended_methods_asked ≡ ended_methods_told
unfolding code_front
ended_methods_by_bytes = refl

-- An Arg that a Reference leads to is replaced, also by a Reference
-- Name (X, 7) Method (S, 2) { Arg0 = Arg1 } Method (K, 1) { S (RefOf (Arg0), RefOf (X)) Return (DerefOf (Arg0)) } Method (M) { Return (K
-- (5)) }
abbrev references_into_args : Trees
references_into_args = (terms ((Name at (one "X___") (Integer 7)) ∷ (Method at (one "S___") 2 (terms ((Assigned (arg 0) (arg 1)) ∷ []))) ∷ (Method at (one "K___") 1 (terms ((Call at (one "S___") (terms ((Apply (Plain.Data DataOp.RefOf) (terms ((arg 0) ∷ [])) no_trees) ∷ (Apply (Plain.Data DataOp.RefOf) (terms ((Use at (one "X___")) ∷ [])) no_trees) ∷ []))) ∷ (Return (Apply (Plain.Data DataOp.DerefOf) (terms ((arg 0) ∷ [])) no_trees)) ∷ []))) ∷ (Method at (one "M___") 0 (terms ((Return (Call at (one "K___") (terms ((Integer 5) ∷ [])))) ∷ []))) ∷ []))

abbrev references_into_args_table : List ℕ
references_into_args_table =
    table_bytes fields (hex "08 58 5F 5F 5F 0A 07 14 09 53 5F 5F 5F 02 70 69 68 14 14 4B 5F 5F 5F 01 53 5F 5F 5F 71 68 71 58 5F 5F 5F A4 83 68 14 0D"
    ++ hex "4D 5F 5F 5F 00 A4 4B 5F 5F 5F 0A 05")

abbrev references_into_args_asked : Asked
references_into_args_asked = record {
  there = present_ones (externals references_into_args) ([]);
  bound = 8;
  answers = ([]);
  calls = (call (at_root "M___") [] ∷ []);
  paths = ((at_root "X___") ∷ []);
}

abbrev references_into_args_told : Told
references_into_args_told = record {
  results = ((Done (Normal false)) ∷ (gives (number 7)) ∷ []);
  events = ([]);
  left = ([]);
  values = (Some (number 7) ∷ []);
}

references_into_args_encoded : written_whole W64 fields references_into_args ≡ references_into_args_table
references_into_args_encoded = refl

references_into_args_right : name_errors references_into_args ++ type_errors references_into_args ≡ []
references_into_args_right = refl

references_into_args_by_source : of_source W64 references_into_args references_into_args_asked ≡ references_into_args_told
references_into_args_by_source = refl

references_into_args_by_bytes : of_bytes references_into_args_table references_into_args_asked ≡ references_into_args_told
unfolding code_front
references_into_args_by_bytes = refl
