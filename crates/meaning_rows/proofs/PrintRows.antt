-- Sessions that print: the order of what is evaluated, conversions, and where the text goes. Another implementation gives the values.
use Rattle.std.proofs.Common.{◌≡◌, ℕ, false, List, [], ◌∷◌, ◌++◌, Some, refl}
use Rattle.std.specs.Prelude.{codes}
use Rattle.acpi_values.specs.declared.width.Width.TheVariants.{W64}
use Rattle.acpi_values.specs.declared.fault.Fault.TheVariants as Fault
use Rattle.acpi_values.specs.declared.operator.DataOp.TheVariants as DataOp
use Rattle.acpi_values.specs.declared.operator.EventOp.TheVariants as EventOp
use Rattle.acpi_values.specs.declared.operator.Plain.TheVariants as Plain
use Rattle.acpi_values.specs.Values as V
use Rattle.acpi_values.specs.Values.{Value, Data, no_elements, uninitialized, element, Named, LocalOf, ArgOf, ElementAt, ElementOf}
use Rattle.acpi_state.specs.Objects as E
use Rattle.acpi_state.specs.Objects.{Device, ThermalZone, PowerResource, Processor}
use Rattle.acpi_state.specs.FieldUnits.{ToResource}
use Rattle.acpi_state.specs.Outcomes.{Normal, NoValue, Done}
use Rattle.acpi_state.specs.Sessions.{present_ones}
use Rattle.asl_tree.specs.FieldItems.{ConnectionItem, ToBytes}
use Rattle.asl_tree.specs.Tree.{Integer, String, Debug as DebugTerm, Use, Call, Apply, Operated, Assigned}
use Rattle.asl_tree.specs.Tree.{Package, Return, Name, Method}
use Rattle.asl_tree.specs.Tree.{Print}
use Rattle.asl_tree.specs.Tree.{OperationRegion, Field, Trees, no_trees}
use Rattle.asl_meaning.specs.Declarations.{externals}
use Rattle.aml_meaning.specs.Codes.{code_front}
use Rattle.aml_code.specs.Header.{table_bytes}
use Rattle.acpi_names.specs.Errors.{name_errors, type_errors}
use Rattle.meaning_rows.proofs.Rows.{at, fields}
use Rattle.meaning_rows.proofs.Outside.{hex, number, reference, call, Asked, Told, gives, faults, of_bytes, of_source, written_whole, terms, one, local, arg, unit}

-- printf order
-- Method (A, 1) { Debug = Arg0 Return (Arg0) } Method (M) { Printf ("%o-%o%%", A (1), A ("x")) }
abbrev printf_order : Trees
printf_order = (terms ((Method at (one "A___") 1 (terms ((Assigned DebugTerm (arg 0)) ∷ (Return (arg 0)) ∷ []))) ∷ (Method at (one "M___") 0 (terms ((Print DebugTerm (codes "%o-%o%%") (terms ((Call at (one "A___") (terms ((Integer 1) ∷ []))) ∷ (Call at (one "A___") (terms ((String (codes "x")) ∷ []))) ∷ []))) ∷ []))) ∷ []))

abbrev printf_order_table : List ℕ
printf_order_table =
    table_bytes fields (hex "14 0C 41 5F 5F 5F 01 70 68 5B 31 A4 68 14 25 4D 5F 5F 5F 00 70 73 73 73 73 0D 00 41 5F 5F 5F 01 00 0D 2D 00 00 41 5F 5F"
    ++ hex "5F 0D 78 00 00 0D 25 00 00 5B 31")

abbrev printf_order_asked : Asked
printf_order_asked = record {
  there = present_ones (externals printf_order) ([]);
  bound = 8;
  answers = ([]);
  calls = (call (codes "M___" ∷ []) ([]) ∷ []);
  paths = ([]);
}

abbrev printf_order_told : Told
printf_order_told = record {
  results = ((Done (Normal false)) ∷ (Done NoValue) ∷ []);
  events = ((E.Debug (number 1)) ∷ (E.Debug (Data (V.String (120 ∷ [])))) ∷ (E.Debug (Data (V.String (48 ∷ 48 ∷ 48 ∷ 48 ∷ 48 ∷ 48 ∷ 48 ∷ 48 ∷ 48 ∷ 48 ∷ 48 ∷ 48 ∷ 48 ∷ 48 ∷ 48 ∷ 49 ∷ 45 ∷ 120 ∷ 37 ∷ [])))) ∷ []);
  left = ([]);
  values = ([]);
}

printf_order_encoded : written_whole W64 fields printf_order ≡ printf_order_table
printf_order_encoded = refl

printf_order_right : name_errors printf_order ++ type_errors printf_order ≡ []
printf_order_right = refl

printf_order_by_source : of_source W64 printf_order printf_order_asked ≡ printf_order_told
printf_order_by_source = refl

printf_order_by_bytes : of_bytes printf_order_table printf_order_asked ≡ printf_order_told
unfolding code_front
printf_order_by_bytes = refl

-- printf error second
-- Method (A, 1) { Debug = Arg0 Return (Arg0) } Method (M) { Printf ("%o %o", A (1), A (Package () {1})) Debug ="no" }
abbrev printf_error_second : Trees
printf_error_second = (terms ((Method at (one "A___") 1 (terms ((Assigned DebugTerm (arg 0)) ∷ (Return (arg 0)) ∷ []))) ∷ (Method at (one "M___") 0 (terms ((Print DebugTerm (codes "%o %o") (terms ((Call at (one "A___") (terms ((Integer 1) ∷ []))) ∷ (Call at (one "A___") (terms ((Package 1 (terms ((Integer 1) ∷ []))) ∷ []))) ∷ []))) ∷ (Assigned DebugTerm (String (codes "no"))) ∷ []))) ∷ []))

abbrev printf_error_second_table : List ℕ
printf_error_second_table =
    table_bytes fields (hex "14 0C 41 5F 5F 5F 01 70 68 5B 31 A4 68 14 28 4D 5F 5F 5F 00 70 73 73 73 0D 00 41 5F 5F 5F 01 00 0D 20 00 00 41 5F 5F 5F"
    ++ hex "12 03 01 01 00 5B 31 70 0D 6E 6F 00 5B 31")

abbrev printf_error_second_asked : Asked
printf_error_second_asked = record {
  there = present_ones (externals printf_error_second) ([]);
  bound = 8;
  answers = ([]);
  calls = (call (codes "M___" ∷ []) ([]) ∷ []);
  paths = ([]);
}

abbrev printf_error_second_told : Told
printf_error_second_told = record {
  results = ((Done (Normal false)) ∷ (faults Fault.WrongType) ∷ []);
  events = ((E.Debug (number 1)) ∷ (E.Debug (V.Package (element (number 1) no_elements))) ∷ []);
  left = ([]);
  values = ([]);
}

printf_error_second_encoded : written_whole W64 fields printf_error_second ≡ printf_error_second_table
printf_error_second_encoded = refl

printf_error_second_right : name_errors printf_error_second ++ type_errors printf_error_second ≡ []
printf_error_second_right = refl

printf_error_second_by_source : of_source W64 printf_error_second printf_error_second_asked ≡ printf_error_second_told
printf_error_second_by_source = refl

printf_error_second_by_bytes : of_bytes printf_error_second_table printf_error_second_asked ≡ printf_error_second_told
unfolding code_front
printf_error_second_by_bytes = refl

-- printf first conversion before second arg
-- Method (M, 1) { Printf ("%o %o", Arg0, Timer) }
abbrev printf_first_conversion_before_second_arg : Trees
printf_first_conversion_before_second_arg = (terms ((Method at (one "M___") 1 (terms ((Print DebugTerm (codes "%o %o") (terms ((arg 0) ∷ (Apply (Plain.Event EventOp.Timer) no_trees no_trees) ∷ []))) ∷ []))) ∷ []))

abbrev printf_first_conversion_before_second_arg_table : List ℕ
printf_first_conversion_before_second_arg_table =
    table_bytes fields (hex "14 17 4D 5F 5F 5F 01 70 73 73 73 0D 00 68 00 0D 20 00 00 5B 33 00 5B 31")

abbrev printf_first_conversion_before_second_arg_asked : Asked
printf_first_conversion_before_second_arg_asked = record {
  there = present_ones (externals printf_first_conversion_before_second_arg) ([]);
  bound = 8;
  answers = ((number 1) ∷ []);
  calls = (call (codes "M___" ∷ []) ((V.Package no_elements) ∷ []) ∷ call (codes "M___" ∷ []) ((number 1) ∷ []) ∷ []);
  paths = ([]);
}

abbrev printf_first_conversion_before_second_arg_told : Told
printf_first_conversion_before_second_arg_told = record {
  results = ((Done (Normal false)) ∷ (faults Fault.WrongType) ∷ (Done NoValue) ∷ []);
  events = (E.Timer ∷ (E.Debug (Data (V.String (48 ∷ 48 ∷ 48 ∷ 48 ∷ 48 ∷ 48 ∷ 48 ∷ 48 ∷ 48 ∷ 48 ∷ 48 ∷ 48 ∷ 48 ∷ 48 ∷ 48 ∷ 49 ∷ 32 ∷ 48 ∷ 48 ∷ 48 ∷ 48 ∷ 48 ∷ 48 ∷ 48 ∷ 48 ∷ 48 ∷ 48 ∷ 48 ∷ 48 ∷ 48 ∷ 48 ∷ 48 ∷ 49 ∷ [])))) ∷ []);
  left = ([]);
  values = ([]);
}

printf_first_conversion_before_second_arg_encoded : written_whole W64 fields printf_first_conversion_before_second_arg ≡ printf_first_conversion_before_second_arg_table
printf_first_conversion_before_second_arg_encoded = refl

printf_first_conversion_before_second_arg_right : name_errors printf_first_conversion_before_second_arg ++ type_errors printf_first_conversion_before_second_arg ≡ []
printf_first_conversion_before_second_arg_right = refl

printf_first_conversion_before_second_arg_by_source : of_source W64 printf_first_conversion_before_second_arg printf_first_conversion_before_second_arg_asked ≡ printf_first_conversion_before_second_arg_told
printf_first_conversion_before_second_arg_by_source = refl

printf_first_conversion_before_second_arg_by_bytes : of_bytes printf_first_conversion_before_second_arg_table printf_first_conversion_before_second_arg_asked ≡ printf_first_conversion_before_second_arg_told
unfolding code_front
printf_first_conversion_before_second_arg_by_bytes = refl

-- printf kinds
-- Method (M, 1) { Printf ("%o", Arg0) }
abbrev printf_kinds : Trees
printf_kinds = (terms ((Method at (one "M___") 1 (terms ((Print DebugTerm (codes "%o") (terms ((arg 0) ∷ []))) ∷ []))) ∷ []))

abbrev printf_kinds_table : List ℕ
printf_kinds_table =
    table_bytes fields (hex "14 0E 4D 5F 5F 5F 01 70 73 0D 00 68 00 5B 31")

abbrev printf_kinds_asked : Asked
printf_kinds_asked = record {
  there = present_ones (externals printf_kinds) ([]);
  bound = 8;
  answers = ([]);
  calls = (call (codes "M___" ∷ []) ((number 5) ∷ []) ∷ call (codes "M___" ∷ []) ((Data (V.String (113 ∷ []))) ∷ []) ∷ call (codes "M___" ∷ []) ((Data (V.Buffer (1 ∷ 171 ∷ []))) ∷ []) ∷ call (codes "M___" ∷ []) ((Data (V.Buffer ([]))) ∷ []) ∷ call (codes "M___" ∷ []) ((V.Package no_elements) ∷ []) ∷ call (codes "M___" ∷ []) ((reference (Named (codes "M___" ∷ []))) ∷ []) ∷ call (codes "M___" ∷ []) ((reference (Named (codes "ZZZ_" ∷ []))) ∷ []) ∷ []);
  paths = ([]);
}

abbrev printf_kinds_told : Told
printf_kinds_told = record {
  results = ((Done (Normal false)) ∷ (Done NoValue) ∷ (Done NoValue) ∷ (Done NoValue) ∷ (Done NoValue) ∷ (faults Fault.WrongType) ∷ (faults Fault.WrongType) ∷ (faults Fault.NotFound) ∷ []);
  events = ((E.Debug (Data (V.String (48 ∷ 48 ∷ 48 ∷ 48 ∷ 48 ∷ 48 ∷ 48 ∷ 48 ∷ 48 ∷ 48 ∷ 48 ∷ 48 ∷ 48 ∷ 48 ∷ 48 ∷ 53 ∷ [])))) ∷ (E.Debug (Data (V.String (113 ∷ [])))) ∷ (E.Debug (Data (V.String (48 ∷ 49 ∷ 32 ∷ 65 ∷ 66 ∷ [])))) ∷ (E.Debug (Data (V.String ([])))) ∷ []);
  left = ([]);
  values = ([]);
}

printf_kinds_encoded : written_whole W64 fields printf_kinds ≡ printf_kinds_table
printf_kinds_encoded = refl

printf_kinds_right : name_errors printf_kinds ++ type_errors printf_kinds ≡ []
printf_kinds_right = refl

printf_kinds_by_source : of_source W64 printf_kinds printf_kinds_asked ≡ printf_kinds_told
printf_kinds_by_source = refl

printf_kinds_by_bytes : of_bytes printf_kinds_table printf_kinds_asked ≡ printf_kinds_told
unfolding code_front
printf_kinds_by_bytes = refl

-- printf no args
-- Method (M) { Printf ("") Printf ("abc") Printf ("%%") Printf ("a%%%%b") }
abbrev printf_no_args : Trees
printf_no_args = (terms ((Method at (one "M___") 0 (terms ((Print DebugTerm (codes "") no_trees) ∷ (Print DebugTerm (codes "abc") no_trees) ∷ (Print DebugTerm (codes "%%") no_trees) ∷ (Print DebugTerm (codes "a%%%%b") no_trees) ∷ []))) ∷ []))

abbrev printf_no_args_table : List ℕ
printf_no_args_table =
    table_bytes fields (hex "14 22 4D 5F 5F 5F 00 70 0D 00 5B 31 70 0D 61 62 63 00 5B 31 70 0D 25 00 5B 31 70 0D 61 25 25 62 00 5B 31")

abbrev printf_no_args_asked : Asked
printf_no_args_asked = record {
  there = present_ones (externals printf_no_args) ([]);
  bound = 8;
  answers = ([]);
  calls = (call (codes "M___" ∷ []) ([]) ∷ []);
  paths = ([]);
}

abbrev printf_no_args_told : Told
printf_no_args_told = record {
  results = ((Done (Normal false)) ∷ (Done NoValue) ∷ []);
  events = ((E.Debug (Data (V.String ([])))) ∷ (E.Debug (Data (V.String (97 ∷ 98 ∷ 99 ∷ [])))) ∷ (E.Debug (Data (V.String (37 ∷ [])))) ∷ (E.Debug (Data (V.String (97 ∷ 37 ∷ 37 ∷ 98 ∷ [])))) ∷ []);
  left = ([]);
  values = ([]);
}

printf_no_args_encoded : written_whole W64 fields printf_no_args ≡ printf_no_args_table
printf_no_args_encoded = refl

printf_no_args_right : name_errors printf_no_args ++ type_errors printf_no_args ≡ []
printf_no_args_right = refl

printf_no_args_by_source : of_source W64 printf_no_args printf_no_args_asked ≡ printf_no_args_told
printf_no_args_by_source = refl

printf_no_args_by_bytes : of_bytes printf_no_args_table printf_no_args_asked ≡ printf_no_args_told
unfolding code_front
printf_no_args_by_bytes = refl

-- fprintf place last
-- Name (X, "") Name (P1, Package () {1, 2}) Method (I) { Debug = "i" Return (1) } Method (A) { Debug = "a" Return (2) } Method (M) {
-- Fprintf (X, "%o", A ()) Fprintf (P1 [I ()], "v%o", A ()) Return (P1) }
abbrev fprintf_place_last : Trees
fprintf_place_last = (terms ((Name at (one "X___") (String (codes ""))) ∷ (Name at (one "P1__") (Package 2 (terms ((Integer 1) ∷ (Integer 2) ∷ [])))) ∷ (Method at (one "I___") 0 (terms ((Assigned DebugTerm (String (codes "i"))) ∷ (Return (Integer 1)) ∷ []))) ∷ (Method at (one "A___") 0 (terms ((Assigned DebugTerm (String (codes "a"))) ∷ (Return (Integer 2)) ∷ []))) ∷ (Method at (one "M___") 0 (terms ((Print (Use at (one "X___")) (codes "%o") (terms ((Call at (one "A___") no_trees) ∷ []))) ∷ (Print (Operated (Plain.Data DataOp.Index) (terms ((Use at (one "P1__")) ∷ (Call at (one "I___") no_trees) ∷ []))) (codes "v%o") (terms ((Call at (one "A___") no_trees) ∷ []))) ∷ (Return (Use at (one "P1__"))) ∷ []))) ∷ []))

abbrev fprintf_place_last_table : List ℕ
fprintf_place_last_table =
    table_bytes fields (hex "08 58 5F 5F 5F 0D 00 08 50 31 5F 5F 12 05 02 01 0A 02 14 0E 49 5F 5F 5F 00 70 0D 69 00 5B 31 A4 01 14 0F 41 5F 5F 5F 00"
    ++ hex "70 0D 61 00 5B 31 A4 0A 02 14 2C 4D 5F 5F 5F 00 70 73 0D 00 41 5F 5F 5F 00 58 5F 5F 5F 70 73 0D 76 00 41 5F 5F 5F 00 88"
    ++ hex "50 31 5F 5F 49 5F 5F 5F 00 A4 50 31 5F 5F")

abbrev fprintf_place_last_asked : Asked
fprintf_place_last_asked = record {
  there = present_ones (externals fprintf_place_last) ([]);
  bound = 8;
  answers = ([]);
  calls = (call (codes "M___" ∷ []) ([]) ∷ []);
  paths = ((codes "P1__" ∷ []) ∷ (codes "X___" ∷ []) ∷ []);
}

abbrev fprintf_place_last_told : Told
fprintf_place_last_told = record {
  results = ((Done (Normal false)) ∷ (gives (V.Package (element (number 1) (element (Data (V.String (118 ∷ 48 ∷ 48 ∷ 48 ∷ 48 ∷ 48 ∷ 48 ∷ 48 ∷ 48 ∷ 48 ∷ 48 ∷ 48 ∷ 48 ∷ 48 ∷ 48 ∷ 48 ∷ 50 ∷ []))) no_elements)))) ∷ []);
  events = ((E.Debug (Data (V.String (97 ∷ [])))) ∷ (E.Debug (Data (V.String (97 ∷ [])))) ∷ (E.Debug (Data (V.String (105 ∷ [])))) ∷ []);
  left = ([]);
  values = (Some (V.Package (element (number 1) (element (Data (V.String (118 ∷ 48 ∷ 48 ∷ 48 ∷ 48 ∷ 48 ∷ 48 ∷ 48 ∷ 48 ∷ 48 ∷ 48 ∷ 48 ∷ 48 ∷ 48 ∷ 48 ∷ 48 ∷ 50 ∷ []))) no_elements))) ∷ Some (Data (V.String (48 ∷ 48 ∷ 48 ∷ 48 ∷ 48 ∷ 48 ∷ 48 ∷ 48 ∷ 48 ∷ 48 ∷ 48 ∷ 48 ∷ 48 ∷ 48 ∷ 48 ∷ 50 ∷ []))) ∷ []);
}

fprintf_place_last_encoded : written_whole W64 fields fprintf_place_last ≡ fprintf_place_last_table
fprintf_place_last_encoded = refl

fprintf_place_last_right : name_errors fprintf_place_last ++ type_errors fprintf_place_last ≡ []
fprintf_place_last_right = refl

fprintf_place_last_by_source : of_source W64 fprintf_place_last fprintf_place_last_asked ≡ fprintf_place_last_told
fprintf_place_last_by_source = refl

fprintf_place_last_by_bytes : of_bytes fprintf_place_last_table fprintf_place_last_asked ≡ fprintf_place_last_told
unfolding code_front
fprintf_place_last_by_bytes = refl

-- fprintf bad place after args
-- Method (A) { Debug = "a" Return (2) } Method (M) { Local0 = 5 Fprintf (DerefOf (Local0), "%o", A ()) }
abbrev fprintf_bad_place_after_args : Trees
fprintf_bad_place_after_args = (terms ((Method at (one "A___") 0 (terms ((Assigned DebugTerm (String (codes "a"))) ∷ (Return (Integer 2)) ∷ []))) ∷ (Method at (one "M___") 0 (terms ((Assigned (local 0) (Integer 5)) ∷ (Print (Apply (Plain.Data DataOp.DerefOf) (terms ((local 0) ∷ [])) no_trees) (codes "%o") (terms ((Call at (one "A___") no_trees) ∷ []))) ∷ []))) ∷ []))

abbrev fprintf_bad_place_after_args_table : List ℕ
fprintf_bad_place_after_args_table =
    table_bytes fields (hex "14 0F 41 5F 5F 5F 00 70 0D 61 00 5B 31 A4 0A 02 14 15 4D 5F 5F 5F 00 70 0A 05 60 70 73 0D 00 41 5F 5F 5F 00 83 60")

abbrev fprintf_bad_place_after_args_asked : Asked
fprintf_bad_place_after_args_asked = record {
  there = present_ones (externals fprintf_bad_place_after_args) ([]);
  bound = 8;
  answers = ([]);
  calls = (call (codes "M___" ∷ []) ([]) ∷ []);
  paths = ([]);
}

abbrev fprintf_bad_place_after_args_told : Told
fprintf_bad_place_after_args_told = record {
  results = ((Done (Normal false)) ∷ (faults Fault.WrongType) ∷ []);
  events = ((E.Debug (Data (V.String (97 ∷ [])))) ∷ []);
  left = ([]);
  values = ([]);
}

fprintf_bad_place_after_args_encoded : written_whole W64 fields fprintf_bad_place_after_args ≡ fprintf_bad_place_after_args_table
fprintf_bad_place_after_args_encoded = refl

fprintf_bad_place_after_args_right : name_errors fprintf_bad_place_after_args ++ type_errors fprintf_bad_place_after_args ≡ []
fprintf_bad_place_after_args_right = refl

fprintf_bad_place_after_args_by_source : of_source W64 fprintf_bad_place_after_args fprintf_bad_place_after_args_asked ≡ fprintf_bad_place_after_args_told
fprintf_bad_place_after_args_by_source = refl

fprintf_bad_place_after_args_by_bytes : of_bytes fprintf_bad_place_after_args_table fprintf_bad_place_after_args_asked ≡ fprintf_bad_place_after_args_told
unfolding code_front
fprintf_bad_place_after_args_by_bytes = refl

-- fprintf arg local ref
-- Name (X, 0) Method (T, 1) { Fprintf (Arg0, "%o", "12") } Method (M) { T (RefOf (X)) Local0 = 1 T (RefOf (Local0)) Debug = Local0 Return
-- (X) }
abbrev fprintf_arg_local_ref : Trees
fprintf_arg_local_ref = (terms ((Name at (one "X___") (Integer 0)) ∷ (Method at (one "T___") 1 (terms ((Print (arg 0) (codes "%o") (terms ((String (codes "12")) ∷ []))) ∷ []))) ∷ (Method at (one "M___") 0 (terms ((Call at (one "T___") (terms ((Apply (Plain.Data DataOp.RefOf) (terms ((Use at (one "X___")) ∷ [])) no_trees) ∷ []))) ∷ (Assigned (local 0) (Integer 1)) ∷ (Call at (one "T___") (terms ((Apply (Plain.Data DataOp.RefOf) (terms ((local 0) ∷ [])) no_trees) ∷ []))) ∷ (Assigned DebugTerm (local 0)) ∷ (Return (Use at (one "X___"))) ∷ []))) ∷ []))

abbrev fprintf_arg_local_ref_table : List ℕ
fprintf_arg_local_ref_table =
    table_bytes fields (hex "08 58 5F 5F 5F 00 14 10 54 5F 5F 5F 01 70 73 0D 00 0D 31 32 00 00 68 14 21 4D 5F 5F 5F 00 54 5F 5F 5F 71 58 5F 5F 5F 70"
    ++ hex "01 60 54 5F 5F 5F 71 60 70 60 5B 31 A4 58 5F 5F 5F")

abbrev fprintf_arg_local_ref_asked : Asked
fprintf_arg_local_ref_asked = record {
  there = present_ones (externals fprintf_arg_local_ref) ([]);
  bound = 8;
  answers = ([]);
  calls = (call (codes "M___" ∷ []) ([]) ∷ []);
  paths = ((codes "X___" ∷ []) ∷ []);
}

abbrev fprintf_arg_local_ref_told : Told
fprintf_arg_local_ref_told = record {
  results = ((Done (Normal false)) ∷ (gives (number 18)) ∷ []);
  events = ((E.Debug (Data (V.String (49 ∷ 50 ∷ [])))) ∷ []);
  left = ([]);
  values = (Some (number 18) ∷ []);
}

fprintf_arg_local_ref_encoded : written_whole W64 fields fprintf_arg_local_ref ≡ fprintf_arg_local_ref_table
fprintf_arg_local_ref_encoded = refl

fprintf_arg_local_ref_right : name_errors fprintf_arg_local_ref ++ type_errors fprintf_arg_local_ref ≡ []
fprintf_arg_local_ref_right = refl

fprintf_arg_local_ref_by_source : of_source W64 fprintf_arg_local_ref fprintf_arg_local_ref_asked ≡ fprintf_arg_local_ref_told
fprintf_arg_local_ref_by_source = refl

fprintf_arg_local_ref_by_bytes : of_bytes fprintf_arg_local_ref_table fprintf_arg_local_ref_asked ≡ fprintf_arg_local_ref_told
unfolding code_front
fprintf_arg_local_ref_by_bytes = refl

-- fprintf buffer unit
-- OperationRegion (R, GenericSerialBus, 0, 8) Field (R, BufferAcc, NoLock, Preserve) { Connection (I2cSerialBusV2 (0x50,
-- ControllerInitiated, 400000, AddressingMode7Bit, "\\A")), F, 32 } Method (M) { Fprintf (F, "A%o", F) }
abbrev fprintf_buffer_unit : Trees
fprintf_buffer_unit = (terms ((OperationRegion at (one "R___") 9 (terms ((Integer 0) ∷ (Integer 8) ∷ []))) ∷ (Field at at (one "R___") 5 ((ConnectionItem (ToBytes (142 ∷ 18 ∷ 0 ∷ 2 ∷ 0 ∷ 1 ∷ 2 ∷ 0 ∷ 0 ∷ 1 ∷ 6 ∷ 0 ∷ 128 ∷ 26 ∷ 6 ∷ 0 ∷ 80 ∷ 0 ∷ 92 ∷ 65 ∷ 0 ∷ 121 ∷ 0 ∷ []))) ∷ (unit "F___" 32) ∷ [])) ∷ (Method at (one "M___") 0 (terms ((Print (Use at (one "F___")) (codes "A%o") (terms ((Use at (one "F___")) ∷ []))) ∷ []))) ∷ []))

abbrev fprintf_buffer_unit_table : List ℕ
fprintf_buffer_unit_table =
    table_bytes fields (hex "5B 80 52 5F 5F 5F 09 00 0A 08 5B 81 27 52 5F 5F 5F 05 02 11 1A 0A 17 8E 12 00 02 00 01 02 00 00 01 06 00 80 1A 06 00 50"
    ++ hex "00 5C 41 00 79 00 46 5F 5F 5F 20 14 14 4D 5F 5F 5F 00 70 73 0D 41 00 46 5F 5F 5F 00 46 5F 5F 5F")

abbrev fprintf_buffer_unit_asked : Asked
fprintf_buffer_unit_asked = record {
  there = present_ones (externals fprintf_buffer_unit) ([]);
  bound = 8;
  answers = ((Data (V.Buffer (1 ∷ 2 ∷ []))) ∷ (Data (V.Buffer (9 ∷ []))) ∷ []);
  calls = (call (codes "M___" ∷ []) ([]) ∷ []);
  paths = ([]);
}

abbrev fprintf_buffer_unit_told : Told
fprintf_buffer_unit_told = record {
  results = ((Done (Normal false)) ∷ (Done NoValue) ∷ []);
  events = ((E.Receive (codes "R___" ∷ []) 9 0 0 0 (ToResource (142 ∷ 18 ∷ 0 ∷ 2 ∷ 0 ∷ 1 ∷ 2 ∷ 0 ∷ 0 ∷ 1 ∷ 6 ∷ 0 ∷ 128 ∷ 26 ∷ 6 ∷ 0 ∷ 80 ∷ 0 ∷ 92 ∷ 65 ∷ 0 ∷ 121 ∷ 0 ∷ []))) ∷ (E.Transfer (codes "R___" ∷ []) 9 0 0 0 (ToResource (142 ∷ 18 ∷ 0 ∷ 2 ∷ 0 ∷ 1 ∷ 2 ∷ 0 ∷ 0 ∷ 1 ∷ 6 ∷ 0 ∷ 128 ∷ 26 ∷ 6 ∷ 0 ∷ 80 ∷ 0 ∷ 92 ∷ 65 ∷ 0 ∷ 121 ∷ 0 ∷ [])) (65 ∷ 48 ∷ 49 ∷ 32 ∷ 48 ∷ 50 ∷ 0 ∷ [])) ∷ []);
  left = ([]);
  values = ([]);
}

fprintf_buffer_unit_encoded : written_whole W64 fields fprintf_buffer_unit ≡ fprintf_buffer_unit_table
fprintf_buffer_unit_encoded = refl

fprintf_buffer_unit_right : name_errors fprintf_buffer_unit ++ type_errors fprintf_buffer_unit ≡ []
fprintf_buffer_unit_right = refl

fprintf_buffer_unit_by_source : of_source W64 fprintf_buffer_unit fprintf_buffer_unit_asked ≡ fprintf_buffer_unit_told
fprintf_buffer_unit_by_source = refl

fprintf_buffer_unit_by_bytes : of_bytes fprintf_buffer_unit_table fprintf_buffer_unit_asked ≡ fprintf_buffer_unit_told
unfolding code_front
fprintf_buffer_unit_by_bytes = refl
