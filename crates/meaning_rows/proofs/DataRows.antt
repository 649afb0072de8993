-- Sessions of operators on Strings, Buffers and Packages, and of their elements. Another implementation gives the values.
use Rattle.std.proofs.Common.{◌≡◌, ℕ, true, false, List, [], ◌∷◌, ◌++◌, Some, refl}
use Rattle.std.specs.Prelude.{codes}
use Rattle.acpi_values.specs.declared.width.Width.TheVariants.{W64}
use Rattle.acpi_values.specs.declared.fault.Fault.TheVariants as Fault
use Rattle.acpi_values.specs.declared.operator.DataOp.TheVariants as DataOp
use Rattle.acpi_values.specs.declared.operator.EventOp.TheVariants as EventOp
use Rattle.acpi_values.specs.declared.operator.Plain.TheVariants as Plain
use Rattle.acpi_values.specs.Values as V
use Rattle.acpi_values.specs.Values.{Value, Data, no_elements, uninitialized, element, Named, LocalOf, ArgOf, ElementAt, ElementOf}
use Rattle.acpi_state.specs.Objects as E
use Rattle.acpi_state.specs.Objects.{Device, ThermalZone, PowerResource, Processor}
use Rattle.acpi_state.specs.Outcomes.{Normal, NoValue, Done}
use Rattle.acpi_state.specs.Sessions.{present_ones}
use Rattle.asl_tree.specs.declared.term.Literal.TheVariants as Literal
use Rattle.asl_tree.specs.Tree.{Integer, Constant, String, Debug as DebugTerm, Omitted, Raw, Use, Apply, Operated, Assigned}
use Rattle.asl_tree.specs.Tree.{Buffer, Package, VarPackage, Return, Name, Method}
use Rattle.asl_tree.specs.Tree.{Container'}
use Rattle.asl_tree.specs.Tree.{Trees, no_trees}
use Rattle.asl_meaning.specs.Declarations.{externals}
use Rattle.aml_meaning.specs.Codes.{code_front}
use Rattle.aml_code.specs.Header.{table_bytes}
use Rattle.acpi_names.specs.Errors.{name_errors, type_errors}
use Rattle.meaning_rows.proofs.Rows.{at, fields}
use Rattle.meaning_rows.proofs.Outside.{hex, number, reference, call, Asked, Told, gives, faults, of_bytes, of_source, written_whole, terms, path, one, local, arg}

-- match
-- Method (M, 6) { Return (Match (Arg0, MEQ, Arg1, MTR, 0, Arg2)) } Method (N, 3) { Return (Match (Arg0, MGE, Arg1, MLT, Arg2, 0)) } Method
-- (O, 2) { Return (Match (Arg0, MGT, Arg1, MLE, 5, 1)) }
abbrev match : Trees
match = (terms ((Method at (one "M___") 6 (terms ((Return (Apply (Plain.Data DataOp.Match) (terms ((arg 0) ∷ (Raw 1 1) ∷ (arg 1) ∷ (Raw 1 0) ∷ (Integer 0) ∷ (arg 2) ∷ [])) no_trees)) ∷ []))) ∷ (Method at (one "N___") 3 (terms ((Return (Apply (Plain.Data DataOp.Match) (terms ((arg 0) ∷ (Raw 1 4) ∷ (arg 1) ∷ (Raw 1 3) ∷ (arg 2) ∷ (Integer 0) ∷ [])) no_trees)) ∷ []))) ∷ (Method at (one "O___") 2 (terms ((Return (Apply (Plain.Data DataOp.Match) (terms ((arg 0) ∷ (Raw 1 5) ∷ (arg 1) ∷ (Raw 1 2) ∷ (Integer 5) ∷ (Integer 1) ∷ [])) no_trees)) ∷ []))) ∷ []))

abbrev match_table : List ℕ
match_table =
    table_bytes fields (hex "14 0E 4D 5F 5F 5F 06 A4 89 68 01 69 00 00 6A 14 0E 4E 5F 5F 5F 03 A4 89 68 04 69 03 6A 00 14 0F 4F 5F 5F 5F 02 A4 89 68"
    ++ hex "05 69 02 0A 05 01")

abbrev match_asked : Asked
match_asked = record {
  there = present_ones (externals match) ([]);
  bound = 8;
  answers = ([]);
  calls = (call (codes "M___" ∷ []) ((V.Package (element (number 1) (element (Data (V.String (53 ∷ []))) (element (number 5) (element (Data (V.Buffer (5 ∷ []))) (uninitialized (element (V.Package no_elements) no_elements))))))) ∷ (number 5) ∷ (number 0) ∷ (number 0) ∷ (number 0) ∷ (number 0) ∷ []) ∷ call (codes "M___" ∷ []) ((V.Package (element (number 1) (element (Data (V.String (53 ∷ []))) (element (number 5) no_elements)))) ∷ (number 5) ∷ (number 2) ∷ (number 0) ∷ (number 0) ∷ (number 0) ∷ []) ∷ call (codes "M___" ∷ []) ((V.Package (element (number 1) (element (number 5) no_elements))) ∷ (number 5) ∷ (number 2) ∷ (number 0) ∷ (number 0) ∷ (number 0) ∷ []) ∷ call (codes "M___" ∷ []) ((V.Package (element (number 1) (element (number 5) no_elements))) ∷ (Data (V.String (53 ∷ []))) ∷ (number 0) ∷ (number 0) ∷ (number 0) ∷ (number 0) ∷ []) ∷ call (codes "M___" ∷ []) ((V.Package (element (Data (V.String (97 ∷ []))) (element (number 5) no_elements))) ∷ (Data (V.Buffer ([]))) ∷ (number 0) ∷ (number 0) ∷ (number 0) ∷ (number 0) ∷ []) ∷ call (codes "M___" ∷ []) ((V.Package (element (number 1) no_elements)) ∷ (Data (V.Buffer ([]))) ∷ (number 0) ∷ (number 0) ∷ (number 0) ∷ (number 0) ∷ []) ∷ call (codes "M___" ∷ []) ((number 5) ∷ (number 5) ∷ (number 0) ∷ (number 0) ∷ (number 0) ∷ (number 0) ∷ []) ∷ call (codes "M___" ∷ []) ((V.Package no_elements) ∷ (V.Package no_elements) ∷ (number 0) ∷ (number 0) ∷ (number 0) ∷ (number 0) ∷ []) ∷ call (codes "N___" ∷ []) ((V.Package (element (number 1) (element (number 2) (element (number 3) no_elements)))) ∷ (number 2) ∷ (number 3) ∷ []) ∷ call (codes "N___" ∷ []) ((V.Package (element (number 1) (element (number 2) (element (number 3) no_elements)))) ∷ (number 3) ∷ (number 3) ∷ []) ∷ call (codes "N___" ∷ []) ((V.Package (element (number 3) (element (number 2) no_elements))) ∷ (number 2) ∷ (Data (V.Buffer ([]))) ∷ []) ∷ call (codes "N___" ∷ []) ((V.Package (element (number 1) no_elements)) ∷ (number 2) ∷ (Data (V.Buffer ([]))) ∷ []) ∷ call (codes "O___" ∷ []) ((V.Package (element (number 9) (element (number 3) (element (number 6) no_elements)))) ∷ (number 2) ∷ []) ∷ []);
  paths = ([]);
}

abbrev match_told : Told
match_told = record {
  results = ((Done (Normal false)) ∷ (gives (number 2)) ∷ (gives (number 2)) ∷ (gives (number 0xFFFFFFFFFFFFFFFF)) ∷ (gives (number 1)) ∷ (faults Fault.EmptyValue) ∷ (faults Fault.EmptyValue) ∷ (faults Fault.WrongType) ∷ (faults Fault.WrongType) ∷ (gives (number 1)) ∷ (gives (number 0xFFFFFFFFFFFFFFFF)) ∷ (faults Fault.EmptyValue) ∷ (gives (number 0xFFFFFFFFFFFFFFFF)) ∷ (gives (number 1)) ∷ []);
  events = ([]);
  left = ([]);
  values = ([]);
}

match_encoded : written_whole W64 fields match ≡ match_table
match_encoded = refl

match_right : name_errors match ++ type_errors match ≡ []
match_right = refl

match_by_source : of_source W64 match match_asked ≡ match_told
match_by_source = refl

match_by_bytes : of_bytes match_table match_asked ≡ match_told
unfolding code_front
match_by_bytes = refl

-- concat res
-- Method (M, 2) { Return (ConcatenateResTemplate (Arg0, Arg1)) }
abbrev concat_res : Trees
concat_res = (terms ((Method at (one "M___") 2 (terms ((Return (Apply (Plain.Data DataOp.ConcatenateResTemplate) (terms ((arg 0) ∷ (arg 1) ∷ [])) (terms (Omitted ∷ [])))) ∷ []))) ∷ []))

abbrev concat_res_table : List ℕ
concat_res_table =
    table_bytes fields (hex "14 0B 4D 5F 5F 5F 02 A4 84 68 69 00")

abbrev concat_res_asked : Asked
concat_res_asked = record {
  there = present_ones (externals concat_res) ([]);
  bound = 8;
  answers = ([]);
  calls = (call (codes "M___" ∷ []) ((Data (V.Buffer (1 ∷ 121 ∷ 0 ∷ []))) ∷ (Data (V.Buffer (2 ∷ 3 ∷ 121 ∷ 9 ∷ []))) ∷ []) ∷ call (codes "M___" ∷ []) ((Data (V.Buffer (121 ∷ 0 ∷ []))) ∷ (Data (V.Buffer (121 ∷ 5 ∷ []))) ∷ []) ∷ call (codes "M___" ∷ []) ((Data (V.Buffer ([]))) ∷ (Data (V.Buffer (121 ∷ 0 ∷ []))) ∷ []) ∷ call (codes "M___" ∷ []) ((Data (V.Buffer (121 ∷ []))) ∷ (Data (V.Buffer (121 ∷ 0 ∷ []))) ∷ []) ∷ call (codes "M___" ∷ []) ((Data (V.Buffer (121 ∷ 0 ∷ []))) ∷ (Data (V.Buffer (120 ∷ 0 ∷ []))) ∷ []) ∷ call (codes "M___" ∷ []) ((Data (V.String (121 ∷ 48 ∷ []))) ∷ (Data (V.Buffer (121 ∷ 0 ∷ []))) ∷ []) ∷ call (codes "M___" ∷ []) ((Data (V.Buffer (121 ∷ 0 ∷ []))) ∷ (number 5) ∷ []) ∷ []);
  paths = ([]);
}

abbrev concat_res_told : Told
concat_res_told = record {
  results = ((Done (Normal false)) ∷ (gives (Data (V.Buffer (1 ∷ 2 ∷ 3 ∷ 121 ∷ 0 ∷ [])))) ∷ (gives (Data (V.Buffer (121 ∷ 0 ∷ [])))) ∷ (faults Fault.WrongType) ∷ (faults Fault.WrongType) ∷ (faults Fault.WrongType) ∷ (faults Fault.WrongType) ∷ (faults Fault.WrongType) ∷ []);
  events = ([]);
  left = ([]);
  values = ([]);
}

concat_res_encoded : written_whole W64 fields concat_res ≡ concat_res_table
concat_res_encoded = refl

concat_res_right : name_errors concat_res ++ type_errors concat_res ≡ []
concat_res_right = refl

concat_res_by_source : of_source W64 concat_res concat_res_asked ≡ concat_res_told
concat_res_by_source = refl

concat_res_by_bytes : of_bytes concat_res_table concat_res_asked ≡ concat_res_told
unfolding code_front
concat_res_by_bytes = refl

-- tostring
-- Method (M, 2) { Return (ToString (Arg0, Arg1)) } Method (N, 1) { Return (ToString (Arg0)) }
abbrev tostring : Trees
tostring = (terms ((Method at (one "M___") 2 (terms ((Return (Apply (Plain.Data DataOp.ToString) (terms ((arg 0) ∷ (arg 1) ∷ [])) (terms (Omitted ∷ [])))) ∷ []))) ∷ (Method at (one "N___") 1 (terms ((Return (Apply (Plain.Data DataOp.ToString) (terms ((arg 0) ∷ (Constant Literal.Ones) ∷ [])) (terms (Omitted ∷ [])))) ∷ []))) ∷ []))

abbrev tostring_table : List ℕ
tostring_table =
    table_bytes fields (hex "14 0B 4D 5F 5F 5F 02 A4 9C 68 69 00 14 0B 4E 5F 5F 5F 01 A4 9C 68 FF 00")

abbrev tostring_asked : Asked
tostring_asked = record {
  there = present_ones (externals tostring) ([]);
  bound = 8;
  answers = ([]);
  calls = (call (codes "M___" ∷ []) ((Data (V.Buffer (65 ∷ 66 ∷ 0 ∷ 67 ∷ []))) ∷ (number 1) ∷ []) ∷ call (codes "M___" ∷ []) ((Data (V.Buffer (65 ∷ 66 ∷ 0 ∷ 67 ∷ []))) ∷ (number 9) ∷ []) ∷ call (codes "M___" ∷ []) ((Data (V.Buffer ([]))) ∷ (number 2) ∷ []) ∷ call (codes "M___" ∷ []) ((Data (V.Buffer (0 ∷ []))) ∷ (number 2) ∷ []) ∷ call (codes "M___" ∷ []) ((Data (V.Buffer (65 ∷ []))) ∷ (number 0) ∷ []) ∷ call (codes "M___" ∷ []) ((Data (V.String (97 ∷ 98 ∷ 99 ∷ []))) ∷ (number 2) ∷ []) ∷ call (codes "M___" ∷ []) ((number 5) ∷ (number 2) ∷ []) ∷ call (codes "M___" ∷ []) ((Data (V.Buffer (65 ∷ []))) ∷ (Data (V.String ([]))) ∷ []) ∷ call (codes "M___" ∷ []) ((Data (V.Buffer (65 ∷ []))) ∷ (Data (V.Buffer ([]))) ∷ []) ∷ call (codes "N___" ∷ []) ((Data (V.Buffer (65 ∷ 66 ∷ []))) ∷ []) ∷ call (codes "N___" ∷ []) ((V.Package no_elements) ∷ []) ∷ []);
  paths = ([]);
}

abbrev tostring_told : Told
tostring_told = record {
  results = ((Done (Normal false)) ∷ (gives (Data (V.String (65 ∷ [])))) ∷ (gives (Data (V.String (65 ∷ 66 ∷ [])))) ∷ (gives (Data (V.String ([])))) ∷ (gives (Data (V.String ([])))) ∷ (gives (Data (V.String ([])))) ∷ (faults Fault.WrongType) ∷ (faults Fault.WrongType) ∷ (gives (Data (V.String ([])))) ∷ (faults Fault.EmptyValue) ∷ (gives (Data (V.String (65 ∷ 66 ∷ [])))) ∷ (faults Fault.WrongType) ∷ []);
  events = ([]);
  left = ([]);
  values = ([]);
}

tostring_encoded : written_whole W64 fields tostring ≡ tostring_table
tostring_encoded = refl

tostring_right : name_errors tostring ++ type_errors tostring ≡ []
tostring_right = refl

tostring_by_source : of_source W64 tostring tostring_asked ≡ tostring_told
tostring_by_source = refl

tostring_by_bytes : of_bytes tostring_table tostring_asked ≡ tostring_told
unfolding code_front
tostring_by_bytes = refl

-- mid
-- Method (M, 3) { Return (Mid (Arg0, Arg1, Arg2)) }
abbrev mid : Trees
mid = (terms ((Method at (one "M___") 3 (terms ((Return (Apply (Plain.Data DataOp.Mid) (terms ((arg 0) ∷ (arg 1) ∷ (arg 2) ∷ [])) (terms (Omitted ∷ [])))) ∷ []))) ∷ []))

abbrev mid_table : List ℕ
mid_table =
    table_bytes fields (hex "14 0C 4D 5F 5F 5F 03 A4 9E 68 69 6A 00")

abbrev mid_asked : Asked
mid_asked = record {
  there = present_ones (externals mid) ([]);
  bound = 8;
  answers = ([]);
  calls = (call (codes "M___" ∷ []) ((Data (V.String (97 ∷ 98 ∷ 99 ∷ 100 ∷ 101 ∷ []))) ∷ (number 0) ∷ (number 2) ∷ []) ∷ call (codes "M___" ∷ []) ((Data (V.String (97 ∷ 98 ∷ 99 ∷ 100 ∷ 101 ∷ []))) ∷ (number 1) ∷ (number 9) ∷ []) ∷ call (codes "M___" ∷ []) ((Data (V.String (97 ∷ 98 ∷ 99 ∷ 100 ∷ 101 ∷ []))) ∷ (number 3) ∷ (number 1) ∷ []) ∷ call (codes "M___" ∷ []) ((Data (V.String (97 ∷ 98 ∷ 99 ∷ 100 ∷ 101 ∷ []))) ∷ (number 5) ∷ (number 1) ∷ []) ∷ call (codes "M___" ∷ []) ((Data (V.String (97 ∷ 98 ∷ 99 ∷ 100 ∷ 101 ∷ []))) ∷ (number 9) ∷ (number 9) ∷ []) ∷ call (codes "M___" ∷ []) ((Data (V.String (97 ∷ 98 ∷ 99 ∷ 100 ∷ 101 ∷ []))) ∷ (number 2) ∷ (number 0) ∷ []) ∷ call (codes "M___" ∷ []) ((Data (V.Buffer (1 ∷ 2 ∷ 3 ∷ []))) ∷ (number 0) ∷ (number 2) ∷ []) ∷ call (codes "M___" ∷ []) ((Data (V.Buffer (1 ∷ 2 ∷ 3 ∷ []))) ∷ (number 1) ∷ (number 9) ∷ []) ∷ call (codes "M___" ∷ []) ((Data (V.Buffer (1 ∷ 2 ∷ 3 ∷ []))) ∷ (number 3) ∷ (number 1) ∷ []) ∷ call (codes "M___" ∷ []) ((Data (V.Buffer (1 ∷ 2 ∷ 3 ∷ []))) ∷ (number 5) ∷ (number 1) ∷ []) ∷ call (codes "M___" ∷ []) ((Data (V.Buffer (1 ∷ 2 ∷ 3 ∷ []))) ∷ (number 9) ∷ (number 9) ∷ []) ∷ call (codes "M___" ∷ []) ((Data (V.Buffer (1 ∷ 2 ∷ 3 ∷ []))) ∷ (number 2) ∷ (number 0) ∷ []) ∷ call (codes "M___" ∷ []) ((number 5) ∷ (number 0) ∷ (number 1) ∷ []) ∷ call (codes "M___" ∷ []) ((V.Package no_elements) ∷ (number 0) ∷ (number 1) ∷ []) ∷ call (codes "M___" ∷ []) ((Data (V.String (97 ∷ []))) ∷ (Data (V.Buffer ([]))) ∷ (number 1) ∷ []) ∷ call (codes "M___" ∷ []) ((Data (V.String (97 ∷ []))) ∷ (number 0) ∷ (Data (V.Buffer ([]))) ∷ []) ∷ call (codes "M___" ∷ []) ((reference (Named (codes "M___" ∷ []))) ∷ (number 0) ∷ (number 1) ∷ []) ∷ []);
  paths = ([]);
}

abbrev mid_told : Told
mid_told = record {
  results = ((Done (Normal false)) ∷ (gives (Data (V.String (97 ∷ 98 ∷ [])))) ∷ (gives (Data (V.String (98 ∷ 99 ∷ 100 ∷ 101 ∷ [])))) ∷ (gives (Data (V.String (100 ∷ [])))) ∷ (gives (Data (V.String ([])))) ∷ (gives (Data (V.String ([])))) ∷ (gives (Data (V.String ([])))) ∷ (gives (Data (V.Buffer (1 ∷ 2 ∷ [])))) ∷ (gives (Data (V.Buffer (2 ∷ 3 ∷ [])))) ∷ (gives (Data (V.Buffer ([])))) ∷ (gives (Data (V.Buffer ([])))) ∷ (gives (Data (V.Buffer ([])))) ∷ (gives (Data (V.Buffer ([])))) ∷ (faults Fault.WrongType) ∷ (faults Fault.WrongType) ∷ (faults Fault.EmptyValue) ∷ (faults Fault.EmptyValue) ∷ (faults Fault.WrongType) ∷ []);
  events = ([]);
  left = ([]);
  values = ([]);
}

mid_encoded : written_whole W64 fields mid ≡ mid_table
mid_encoded = refl

mid_right : name_errors mid ++ type_errors mid ≡ []
mid_right = refl

mid_by_source : of_source W64 mid mid_asked ≡ mid_told
mid_by_source = refl

mid_by_bytes : of_bytes mid_table mid_asked ≡ mid_told
unfolding code_front
mid_by_bytes = refl

-- package var count
-- Method (M, 1) { Local0 = Package (Arg0) {1, 2} Return (SizeOf (Local0)) } Method (N) { Return (Package (Timer) {"x", Buffer (Timer) {}})
-- }
abbrev package_var_count : Trees
package_var_count = (terms ((Method at (one "M___") 1 (terms ((Assigned (local 0) (VarPackage (arg 0) (terms ((Integer 1) ∷ (Integer 2) ∷ [])))) ∷ (Return (Apply (Plain.Data DataOp.SizeOf) (terms ((local 0) ∷ [])) no_trees)) ∷ []))) ∷ (Method at (one "N___") 0 (terms ((Return (VarPackage (Apply (Plain.Event EventOp.Timer) no_trees no_trees) (terms ((String (codes "x")) ∷ (Buffer (Apply (Plain.Event EventOp.Timer) no_trees no_trees) ([])) ∷ [])))) ∷ []))) ∷ []))

abbrev package_var_count_table : List ℕ
package_var_count_table =
    table_bytes fields (hex "14 11 4D 5F 5F 5F 01 70 13 05 68 01 0A 02 60 A4 87 60 14 12 4E 5F 5F 5F 00 A4 13 0A 5B 33 0D 78 00 11 03 5B 33")

abbrev package_var_count_asked : Asked
package_var_count_asked = record {
  there = present_ones (externals package_var_count) ([]);
  bound = 8;
  answers = ((number 3) ∷ (number 9) ∷ []);
  calls = (call (codes "M___" ∷ []) ((number 0) ∷ []) ∷ call (codes "M___" ∷ []) ((number 2) ∷ []) ∷ call (codes "M___" ∷ []) ((number 5) ∷ []) ∷ call (codes "M___" ∷ []) ((Data (V.String (53 ∷ []))) ∷ []) ∷ call (codes "M___" ∷ []) ((Data (V.Buffer ([]))) ∷ []) ∷ call (codes "M___" ∷ []) ((number 0x1000001) ∷ []) ∷ call (codes "N___" ∷ []) ([]) ∷ []);
  paths = ([]);
}

abbrev package_var_count_told : Told
package_var_count_told = record {
  results = ((Done (Normal false)) ∷ (gives (number 2)) ∷ (gives (number 2)) ∷ (gives (number 5)) ∷ (gives (number 5)) ∷ (faults Fault.EmptyValue) ∷ (faults Fault.Size) ∷ (gives (V.Package (element (Data (V.String (120 ∷ []))) (element (Data (V.Buffer (0 ∷ 0 ∷ 0 ∷ 0 ∷ 0 ∷ 0 ∷ 0 ∷ 0 ∷ 0 ∷ []))) (uninitialized no_elements))))) ∷ []);
  events = (E.Timer ∷ E.Timer ∷ []);
  left = ([]);
  values = ([]);
}

package_var_count_encoded : written_whole W64 fields package_var_count ≡ package_var_count_table
package_var_count_encoded = refl

package_var_count_right : name_errors package_var_count ++ type_errors package_var_count ≡ []
package_var_count_right = refl

package_var_count_by_source : of_source W64 package_var_count package_var_count_asked ≡ package_var_count_told
package_var_count_by_source = refl

package_var_count_by_bytes : of_bytes package_var_count_table package_var_count_asked ≡ package_var_count_told
unfolding code_front
package_var_count_by_bytes = refl

-- buffer var size
-- Method (M, 1) { Local0 = Buffer (Arg0) {1, 2} Return (SizeOf (Local0)) } Method (N, 1) { Return (Buffer (Arg0) {"ab"}) }
abbrev buffer_var_size : Trees
buffer_var_size = (terms ((Method at (one "M___") 1 (terms ((Assigned (local 0) (Buffer (arg 0) (1 ∷ 2 ∷ []))) ∷ (Return (Apply (Plain.Data DataOp.SizeOf) (terms ((local 0) ∷ [])) no_trees)) ∷ []))) ∷ (Method at (one "N___") 1 (terms ((Return (Buffer (arg 0) (97 ∷ 98 ∷ 0 ∷ []))) ∷ []))) ∷ []))

abbrev buffer_var_size_table : List ℕ
buffer_var_size_table =
    table_bytes fields (hex "14 10 4D 5F 5F 5F 01 70 11 04 68 01 02 60 A4 87 60 14 0D 4E 5F 5F 5F 01 A4 11 05 68 61 62 00")

abbrev buffer_var_size_asked : Asked
buffer_var_size_asked = record {
  there = present_ones (externals buffer_var_size) ([]);
  bound = 8;
  answers = ([]);
  calls = (call (codes "M___" ∷ []) ((number 0) ∷ []) ∷ call (codes "M___" ∷ []) ((number 5) ∷ []) ∷ call (codes "M___" ∷ []) ((number 0x1000001) ∷ []) ∷ call (codes "M___" ∷ []) ((Data (V.Buffer ([]))) ∷ []) ∷ call (codes "N___" ∷ []) ((number 0) ∷ []) ∷ call (codes "N___" ∷ []) ((number 5) ∷ []) ∷ []);
  paths = ([]);
}

abbrev buffer_var_size_told : Told
buffer_var_size_told = record {
  results = ((Done (Normal false)) ∷ (gives (number 2)) ∷ (gives (number 5)) ∷ (faults Fault.Size) ∷ (faults Fault.EmptyValue) ∷ (gives (Data (V.Buffer (97 ∷ 98 ∷ 0 ∷ [])))) ∷ (gives (Data (V.Buffer (97 ∷ 98 ∷ 0 ∷ 0 ∷ 0 ∷ [])))) ∷ []);
  events = ([]);
  left = ([]);
  values = ([]);
}

buffer_var_size_encoded : written_whole W64 fields buffer_var_size ≡ buffer_var_size_table
buffer_var_size_encoded = refl

buffer_var_size_right : name_errors buffer_var_size ++ type_errors buffer_var_size ≡ []
buffer_var_size_right = refl

buffer_var_size_by_source : of_source W64 buffer_var_size buffer_var_size_asked ≡ buffer_var_size_told
buffer_var_size_by_source = refl

buffer_var_size_by_bytes : of_bytes buffer_var_size_table buffer_var_size_asked ≡ buffer_var_size_told
unfolding code_front
buffer_var_size_by_bytes = refl

-- index of value nowhere
-- Method (M) { Local0 = Index (Package () {1, 2}, 1) Debug = DerefOf (Local0) DerefOf (Local0) = 7 Debug = DerefOf (Local0) Return
-- (Local0) } Method (N) { Index ("ab", 0) = 5 Return (DerefOf (Index ("ab", 1))) } Method (O) { Local0 = Index (Package (2) {1}, 1) Return
-- (DerefOf (Local0)) } Method (Q) { Local0 = Index (Package (2) {1}, 1) Return (ObjectType (Local0)) }
abbrev index_of_value_nowhere : Trees
index_of_value_nowhere = (terms ((Method at (one "M___") 0 (terms ((Assigned (local 0) (Apply (Plain.Data DataOp.Index) (terms ((Package 2 (terms ((Integer 1) ∷ (Integer 2) ∷ []))) ∷ (Integer 1) ∷ [])) (terms (Omitted ∷ [])))) ∷ (Assigned DebugTerm (Apply (Plain.Data DataOp.DerefOf) (terms ((local 0) ∷ [])) no_trees)) ∷ (Assigned (Apply (Plain.Data DataOp.DerefOf) (terms ((local 0) ∷ [])) no_trees) (Integer 7)) ∷ (Assigned DebugTerm (Apply (Plain.Data DataOp.DerefOf) (terms ((local 0) ∷ [])) no_trees)) ∷ (Return (local 0)) ∷ []))) ∷ (Method at (one "N___") 0 (terms ((Assigned (Apply (Plain.Data DataOp.Index) (terms ((String (codes "ab")) ∷ (Integer 0) ∷ [])) (terms (Omitted ∷ []))) (Integer 5)) ∷ (Return (Apply (Plain.Data DataOp.DerefOf) (terms ((Apply (Plain.Data DataOp.Index) (terms ((String (codes "ab")) ∷ (Integer 1) ∷ [])) (terms (Omitted ∷ []))) ∷ [])) no_trees)) ∷ []))) ∷ (Method at (one "O___") 0 (terms ((Assigned (local 0) (Apply (Plain.Data DataOp.Index) (terms ((Package 2 (terms ((Integer 1) ∷ []))) ∷ (Integer 1) ∷ [])) (terms (Omitted ∷ [])))) ∷ (Return (Apply (Plain.Data DataOp.DerefOf) (terms ((local 0) ∷ [])) no_trees)) ∷ []))) ∷ (Method at (one "Q___") 0 (terms ((Assigned (local 0) (Apply (Plain.Data DataOp.Index) (terms ((Package 2 (terms ((Integer 1) ∷ []))) ∷ (Integer 1) ∷ [])) (terms (Omitted ∷ [])))) ∷ (Return (Apply (Plain.Data DataOp.ObjectType) (terms ((local 0) ∷ [])) no_trees)) ∷ []))) ∷ []))

abbrev index_of_value_nowhere_table : List ℕ
index_of_value_nowhere_table =
    table_bytes fields (hex "14 22 4D 5F 5F 5F 00 70 88 12 05 02 01 0A 02 01 00 60 70 83 60 5B 31 70 0A 07 83 60 70 83 60 5B 31 A4 60 14 19 4E 5F 5F"
    ++ hex "5F 00 70 0A 05 88 0D 61 62 00 00 00 A4 83 88 0D 61 62 00 01 00 14 12 4F 5F 5F 5F 00 70 88 12 03 02 01 01 00 60 A4 83 60"
    ++ hex "14 12 51 5F 5F 5F 00 70 88 12 03 02 01 01 00 60 A4 8E 60")

abbrev index_of_value_nowhere_asked : Asked
index_of_value_nowhere_asked = record {
  there = present_ones (externals index_of_value_nowhere) ([]);
  bound = 8;
  answers = ([]);
  calls = (call (codes "M___" ∷ []) ([]) ∷ call (codes "N___" ∷ []) ([]) ∷ call (codes "O___" ∷ []) ([]) ∷ call (codes "Q___" ∷ []) ([]) ∷ []);
  paths = ([]);
}

abbrev index_of_value_nowhere_told : Told
index_of_value_nowhere_told = record {
  results = ((Done (Normal false)) ∷ (gives (reference (ElementOf (V.Package (element (number 1) (element (number 2) no_elements))) 1))) ∷ (gives (number 98)) ∷ (faults Fault.Uninitialized) ∷ (gives (number 0)) ∷ []);
  events = ((E.Debug (number 2)) ∷ (E.Debug (number 2)) ∷ []);
  left = ([]);
  values = ([]);
}

index_of_value_nowhere_encoded : written_whole W64 fields index_of_value_nowhere ≡ index_of_value_nowhere_table
index_of_value_nowhere_encoded = refl

index_of_value_nowhere_right : name_errors index_of_value_nowhere ++ type_errors index_of_value_nowhere ≡ []
index_of_value_nowhere_right = refl

index_of_value_nowhere_by_source : of_source W64 index_of_value_nowhere index_of_value_nowhere_asked ≡ index_of_value_nowhere_told
index_of_value_nowhere_by_source = refl

index_of_value_nowhere_by_bytes : of_bytes index_of_value_nowhere_table index_of_value_nowhere_asked ≡ index_of_value_nowhere_told
unfolding code_front
index_of_value_nowhere_by_bytes = refl

-- element stores
-- Name (B, Buffer () {1,2}) Name (S, "ab") Method (M) { B [0] = "1FF" S [1] = 0x141 B [1] = Buffer () {0x99, 1}Debug = B Debug = S }
-- Method (N) { B [0] = Buffer () {} } Method (O) { B [0] = Package () {} } Method (Q) { S[0] = 0 Return (SizeOf (S)) }
abbrev element_stores : Trees
element_stores = (terms ((Name at (one "B___") (Buffer (Integer 2) (1 ∷ 2 ∷ []))) ∷ (Name at (one "S___") (String (codes "ab"))) ∷ (Method at (one "M___") 0 (terms ((Assigned (Operated (Plain.Data DataOp.Index) (terms ((Use at (one "B___")) ∷ (Integer 0) ∷ []))) (String (codes "1FF"))) ∷ (Assigned (Operated (Plain.Data DataOp.Index) (terms ((Use at (one "S___")) ∷ (Integer 1) ∷ []))) (Integer 0x141)) ∷ (Assigned (Operated (Plain.Data DataOp.Index) (terms ((Use at (one "B___")) ∷ (Integer 1) ∷ []))) (Buffer (Integer 2) (153 ∷ 1 ∷ []))) ∷ (Assigned DebugTerm (Use at (one "B___"))) ∷ (Assigned DebugTerm (Use at (one "S___"))) ∷ []))) ∷ (Method at (one "N___") 0 (terms ((Assigned (Operated (Plain.Data DataOp.Index) (terms ((Use at (one "B___")) ∷ (Integer 0) ∷ []))) (Buffer (Integer 0) ([]))) ∷ []))) ∷ (Method at (one "O___") 0 (terms ((Assigned (Operated (Plain.Data DataOp.Index) (terms ((Use at (one "B___")) ∷ (Integer 0) ∷ []))) (Package 0 no_trees)) ∷ []))) ∷ (Method at (one "Q___") 0 (terms ((Assigned (Operated (Plain.Data DataOp.Index) (terms ((Use at (one "S___")) ∷ (Integer 0) ∷ []))) (Integer 0)) ∷ (Return (Apply (Plain.Data DataOp.SizeOf) (terms ((Use at (one "S___")) ∷ [])) no_trees)) ∷ []))) ∷ []))

abbrev element_stores_table : List ℕ
element_stores_table =
    table_bytes fields (hex "08 42 5F 5F 5F 11 05 0A 02 01 02 08 53 5F 5F 5F 0D 61 62 00 14 3A 4D 5F 5F 5F 00 70 0D 31 46 46 00 88 42 5F 5F 5F 00 00"
    ++ hex "70 0B 41 01 88 53 5F 5F 5F 01 00 70 11 05 0A 02 99 01 88 42 5F 5F 5F 01 00 70 42 5F 5F 5F 5B 31 70 53 5F 5F 5F 5B 31 14"
    ++ hex "11 4E 5F 5F 5F 00 70 11 02 00 88 42 5F 5F 5F 00 00 14 11 4F 5F 5F 5F 00 70 12 02 00 88 42 5F 5F 5F 00 00 14 15 51 5F 5F"
    ++ hex "5F 00 70 00 88 53 5F 5F 5F 00 00 A4 87 53 5F 5F 5F")

abbrev element_stores_asked : Asked
element_stores_asked = record {
  there = present_ones (externals element_stores) ([]);
  bound = 8;
  answers = ([]);
  calls = (call (codes "M___" ∷ []) ([]) ∷ call (codes "N___" ∷ []) ([]) ∷ call (codes "O___" ∷ []) ([]) ∷ call (codes "Q___" ∷ []) ([]) ∷ []);
  paths = ((codes "S___" ∷ []) ∷ (codes "B___" ∷ []) ∷ []);
}

abbrev element_stores_told : Told
element_stores_told = record {
  results = ((Done (Normal false)) ∷ (Done NoValue) ∷ (faults Fault.EmptyValue) ∷ (faults Fault.WrongType) ∷ (gives (number 2)) ∷ []);
  events = ((E.Debug (Data (V.Buffer (255 ∷ 153 ∷ [])))) ∷ (E.Debug (Data (V.String (97 ∷ 65 ∷ [])))) ∷ []);
  left = ([]);
  values = (Some (Data (V.String (0 ∷ 65 ∷ []))) ∷ Some (Data (V.Buffer (255 ∷ 153 ∷ []))) ∷ []);
}

element_stores_encoded : written_whole W64 fields element_stores ≡ element_stores_table
element_stores_encoded = refl

element_stores_right : name_errors element_stores ++ type_errors element_stores ≡ []
element_stores_right = refl

element_stores_by_source : of_source W64 element_stores element_stores_asked ≡ element_stores_told
element_stores_by_source = refl

element_stores_by_bytes : of_bytes element_stores_table element_stores_asked ≡ element_stores_told
unfolding code_front
element_stores_by_bytes = refl

-- package name elements
-- Device (D) { Name (X, 1) Name (P1, Package () {X, ^D, LATE, \D.X}) Method (M) { Debug = P1 Debug = DerefOf (P1 [0]) Debug = DerefOf
-- (DerefOf (P1 [0])) Debug = ObjectType (P1 [0]) Debug = ObjectType (P1 [1]) Debug = DerefOf (DerefOf (P1 [2])) } Name (LATE, 7) }
abbrev package_name_elements : Trees
package_name_elements = (terms ((Container' Device at (one "D___") (terms ((Name at (one "X___") (Integer 1)) ∷ (Name at (one "P1__") (Package 4 (terms ((Use at (one "X___")) ∷ (Use at (path false 1 (codes "D___" ∷ []))) ∷ (Use at (one "LATE")) ∷ (Use at (path true 0 (codes "D___" ∷ codes "X___" ∷ []))) ∷ [])))) ∷ (Method at (one "M___") 0 (terms ((Assigned DebugTerm (Use at (one "P1__"))) ∷ (Assigned DebugTerm (Apply (Plain.Data DataOp.DerefOf) (terms ((Operated (Plain.Data DataOp.Index) (terms ((Use at (one "P1__")) ∷ (Integer 0) ∷ []))) ∷ [])) no_trees)) ∷ (Assigned DebugTerm (Apply (Plain.Data DataOp.DerefOf) (terms ((Apply (Plain.Data DataOp.DerefOf) (terms ((Operated (Plain.Data DataOp.Index) (terms ((Use at (one "P1__")) ∷ (Integer 0) ∷ []))) ∷ [])) no_trees) ∷ [])) no_trees)) ∷ (Assigned DebugTerm (Apply (Plain.Data DataOp.ObjectType) (terms ((Operated (Plain.Data DataOp.Index) (terms ((Use at (one "P1__")) ∷ (Integer 0) ∷ []))) ∷ [])) no_trees)) ∷ (Assigned DebugTerm (Apply (Plain.Data DataOp.ObjectType) (terms ((Operated (Plain.Data DataOp.Index) (terms ((Use at (one "P1__")) ∷ (Integer 1) ∷ []))) ∷ [])) no_trees)) ∷ (Assigned DebugTerm (Apply (Plain.Data DataOp.DerefOf) (terms ((Apply (Plain.Data DataOp.DerefOf) (terms ((Operated (Plain.Data DataOp.Index) (terms ((Use at (one "P1__")) ∷ (Integer 2) ∷ []))) ∷ [])) no_trees) ∷ [])) no_trees)) ∷ []))) ∷ (Name at (one "LATE") (Integer 7)) ∷ []))) ∷ []))

abbrev package_name_elements_table : List ℕ
package_name_elements_table =
    table_bytes fields (hex "5B 82 47 08 44 5F 5F 5F 08 58 5F 5F 5F 01 08 50 31 5F 5F 12 25 04 5C 2E 44 5F 5F 5F 58 5F 5F 5F 5E 44 5F 5F 5F 5C 2E 44"
    ++ hex "5F 5F 5F 4C 41 54 45 5C 2E 44 5F 5F 5F 58 5F 5F 5F 14 48 04 4D 5F 5F 5F 00 70 50 31 5F 5F 5B 31 70 83 88 50 31 5F 5F 00"
    ++ hex "00 5B 31 70 83 83 88 50 31 5F 5F 00 00 5B 31 70 8E 88 50 31 5F 5F 00 00 5B 31 70 8E 88 50 31 5F 5F 01 00 5B 31 70 83 83"
    ++ hex "88 50 31 5F 5F 0A 02 00 5B 31 08 4C 41 54 45 0A 07")

abbrev package_name_elements_asked : Asked
package_name_elements_asked = record {
  there = present_ones (externals package_name_elements) ([]);
  bound = 8;
  answers = ([]);
  calls = (call (codes "M___" ∷ codes "D___" ∷ []) ([]) ∷ []);
  paths = ((codes "LATE" ∷ codes "D___" ∷ []) ∷ (codes "P1__" ∷ codes "D___" ∷ []) ∷ (codes "X___" ∷ codes "D___" ∷ []) ∷ []);
}

abbrev package_name_elements_told : Told
package_name_elements_told = record {
  results = ((Done (Normal false)) ∷ (Done NoValue) ∷ []);
  events = ((E.Debug (V.Package (element (reference (Named (codes "X___" ∷ codes "D___" ∷ []))) (element (reference (Named (codes "D___" ∷ []))) (element (reference (Named (codes "LATE" ∷ codes "D___" ∷ []))) (element (reference (Named (codes "X___" ∷ codes "D___" ∷ []))) no_elements)))))) ∷ (E.Debug (number 1)) ∷ (E.Debug (number 1)) ∷ (E.Debug (number 1)) ∷ (E.Debug (number 6)) ∷ (E.Debug (number 7)) ∷ []);
  left = ([]);
  values = (Some (number 7) ∷ Some (V.Package (element (reference (Named (codes "X___" ∷ codes "D___" ∷ []))) (element (reference (Named (codes "D___" ∷ []))) (element (reference (Named (codes "LATE" ∷ codes "D___" ∷ []))) (element (reference (Named (codes "X___" ∷ codes "D___" ∷ []))) no_elements))))) ∷ Some (number 1) ∷ []);
}

package_name_elements_encoded : written_whole W64 fields package_name_elements ≡ package_name_elements_table
package_name_elements_encoded = refl

package_name_elements_right : name_errors package_name_elements ++ type_errors package_name_elements ≡ []
package_name_elements_right = refl

package_name_elements_by_source : of_source W64 package_name_elements package_name_elements_asked ≡ package_name_elements_told
package_name_elements_by_source = refl

package_name_elements_by_bytes : of_bytes package_name_elements_table package_name_elements_asked ≡ package_name_elements_told
unfolding code_front
package_name_elements_by_bytes = refl
