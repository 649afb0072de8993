-- Sessions of Ifs, ElseIfs, Switches, and of And and Or. Another implementation gives the values.
use Rattle.std.proofs.Common.{◌≡◌, ℕ, false, List, [], ◌∷◌, ◌++◌, Some, None, refl}
use Rattle.std.specs.Prelude.{codes}
use Rattle.acpi_values.specs.declared.width.Width.TheVariants.{W64}
use Rattle.acpi_values.specs.declared.fault.Fault.TheVariants as Fault
use Rattle.acpi_values.specs.declared.operator.IntOp.TheVariants as IntOp
use Rattle.acpi_values.specs.declared.operator.DataOp.TheVariants as DataOp
use Rattle.acpi_values.specs.declared.operator.EventOp.TheVariants as EventOp
use Rattle.acpi_values.specs.declared.operator.Plain.TheVariants as Plain
use Rattle.acpi_values.specs.Values as V
use Rattle.acpi_values.specs.Values.{Value, Data, no_elements, uninitialized, element, Named, LocalOf, ArgOf, ElementAt, ElementOf}
use Rattle.acpi_state.specs.Objects as E
use Rattle.acpi_state.specs.Objects.{Device, ThermalZone, PowerResource, Processor}
use Rattle.acpi_state.specs.Outcomes.{Normal, NoValue, Done}
use Rattle.acpi_state.specs.Sessions.{present_ones}
use Rattle.asl_tree.specs.Tree.{Integer, String, Debug as DebugTerm, Use, Apply, Operated, Assigned}
use Rattle.asl_tree.specs.Tree.{Buffer, Package, Return, Name, External, Method}
use Rattle.asl_tree.specs.Tree.{If, ElseIf, Else, Switch, Case, Default, Break}
use Rattle.asl_tree.specs.Tree.{Trees, no_trees}
use Rattle.asl_meaning.specs.Declarations.{externals}
use Rattle.aml_meaning.specs.Codes.{code_front}
use Rattle.aml_code.specs.Header.{table_bytes}
use Rattle.acpi_names.specs.Errors.{name_errors, type_errors}
use Rattle.meaning_rows.proofs.Rows.{at, fields}
use Rattle.meaning_rows.proofs.Outside.{hex, number, reference, call, Asked, Told, gives, faults, of_bytes, of_source, written_whole, terms, one, local, arg}

-- switch string cases
-- Method (M, 1) { Switch (Arg0) { Case ("A") { Return (1) } Case (0x42) { Return (2) } Case (Buffer () {0x43}) { Return (3) } Case
-- (Package () {"D", 5, Buffer (2) {1}}) { Return (4) } Default { Return (5) } } }
abbrev switch_string_cases : Trees
switch_string_cases = (terms ((Method at (one "M___") 1 (terms ((Switch (arg 0) (terms ((Case (String (codes "A")) (terms ((Return (Integer 1)) ∷ []))) ∷ (Case (Integer 66) (terms ((Return (Integer 2)) ∷ []))) ∷ (Case (Buffer (Integer 1) (67 ∷ [])) (terms ((Return (Integer 3)) ∷ []))) ∷ (Case (Package 3 (terms ((String (codes "D")) ∷ (Integer 5) ∷ (Buffer (Integer 2) (1 ∷ [])) ∷ []))) (terms ((Return (Integer 4)) ∷ []))) ∷ (Default (terms ((Return (Integer 5)) ∷ []))) ∷ []))) ∷ []))) ∷ []))

abbrev switch_string_cases_table : List ℕ
switch_string_cases_table =
    table_bytes fields (hex "14 4E 04 4D 5F 5F 5F 01 A2 46 04 01 70 68 60 A0 08 93 60 0D 41 00 A4 01 A1 35 A0 08 93 60 0A 42 A4 0A 02 A1 2A A0 0A 93"
    ++ hex "60 11 03 01 43 A4 0A 03 A1 1D A0 16 91 91 93 60 0D 44 00 93 60 0A 05 93 60 11 04 0A 02 01 A4 0A 04 A1 04 A4 0A 05 A5")

abbrev switch_string_cases_asked : Asked
switch_string_cases_asked = record {
  there = present_ones (externals switch_string_cases) ([]);
  bound = 8;
  answers = ([]);
  calls = (call (codes "M___" ∷ []) ((Data (V.String (65 ∷ []))) ∷ []) ∷ call (codes "M___" ∷ []) ((number 66) ∷ []) ∷ call (codes "M___" ∷ []) ((Data (V.Buffer (67 ∷ []))) ∷ []) ∷ call (codes "M___" ∷ []) ((Data (V.Buffer (68 ∷ 0 ∷ []))) ∷ []) ∷ call (codes "M___" ∷ []) ((number 5) ∷ []) ∷ call (codes "M___" ∷ []) ((Data (V.String (53 ∷ []))) ∷ []) ∷ call (codes "M___" ∷ []) ((Data (V.Buffer (1 ∷ 0 ∷ []))) ∷ []) ∷ call (codes "M___" ∷ []) ((Data (V.String ([]))) ∷ []) ∷ call (codes "M___" ∷ []) ((Data (V.Buffer ([]))) ∷ []) ∷ call (codes "M___" ∷ []) ((V.Package (element (number 1) no_elements)) ∷ []) ∷ call (codes "M___" ∷ []) ((number 10) ∷ []) ∷ []);
  paths = ([]);
}

abbrev switch_string_cases_told : Told
switch_string_cases_told = record {
  results = ((Done (Normal false)) ∷ (gives (number 1)) ∷ (gives (number 2)) ∷ (gives (number 3)) ∷ (gives (number 4)) ∷ (gives (number 4)) ∷ (gives (number 5)) ∷ (gives (number 4)) ∷ (gives (number 5)) ∷ (gives (number 5)) ∷ (faults Fault.WrongType) ∷ (gives (number 1)) ∷ []);
  events = ([]);
  left = ([]);
  values = ([]);
}

switch_string_cases_encoded : written_whole W64 fields switch_string_cases ≡ switch_string_cases_table
switch_string_cases_encoded = refl

switch_string_cases_right : name_errors switch_string_cases ++ type_errors switch_string_cases ≡ []
switch_string_cases_right = refl

switch_string_cases_by_source : of_source W64 switch_string_cases switch_string_cases_asked ≡ switch_string_cases_told
switch_string_cases_by_source = refl

switch_string_cases_by_bytes : of_bytes switch_string_cases_table switch_string_cases_asked ≡ switch_string_cases_told
unfolding code_front
switch_string_cases_by_bytes = refl

-- switch default first falls after cases
-- Method (M, 1) { Switch (Arg0) { Default { Return (9) } Case (1) { Return (1) } } Return (0) }
abbrev switch_default_first_falls_after_cases : Trees
switch_default_first_falls_after_cases = (terms ((Method at (one "M___") 1 (terms ((Switch (arg 0) (terms ((Default (terms ((Return (Integer 9)) ∷ []))) ∷ (Case (Integer 1) (terms ((Return (Integer 1)) ∷ []))) ∷ []))) ∷ (Return (Integer 0)) ∷ []))) ∷ []))

abbrev switch_default_first_falls_after_cases_table : List ℕ
switch_default_first_falls_after_cases_table =
    table_bytes fields (hex "14 1B 4D 5F 5F 5F 01 A2 12 01 70 68 60 A0 06 93 60 01 A4 01 A1 04 A4 0A 09 A5 A4 00")

abbrev switch_default_first_falls_after_cases_asked : Asked
switch_default_first_falls_after_cases_asked = record {
  there = present_ones (externals switch_default_first_falls_after_cases) ([]);
  bound = 8;
  answers = ([]);
  calls = (call (codes "M___" ∷ []) ((number 1) ∷ []) ∷ call (codes "M___" ∷ []) ((number 2) ∷ []) ∷ []);
  paths = ([]);
}

abbrev switch_default_first_falls_after_cases_told : Told
switch_default_first_falls_after_cases_told = record {
  results = ((Done (Normal false)) ∷ (gives (number 1)) ∷ (gives (number 9)) ∷ []);
  events = ([]);
  left = ([]);
  values = ([]);
}

switch_default_first_falls_after_cases_encoded : written_whole W64 fields switch_default_first_falls_after_cases ≡ switch_default_first_falls_after_cases_table
switch_default_first_falls_after_cases_encoded = refl

switch_default_first_falls_after_cases_right : name_errors switch_default_first_falls_after_cases ++ type_errors switch_default_first_falls_after_cases ≡ []
switch_default_first_falls_after_cases_right = refl

switch_default_first_falls_after_cases_by_source : of_source W64 switch_default_first_falls_after_cases switch_default_first_falls_after_cases_asked ≡ switch_default_first_falls_after_cases_told
switch_default_first_falls_after_cases_by_source = refl

switch_default_first_falls_after_cases_by_bytes : of_bytes switch_default_first_falls_after_cases_table switch_default_first_falls_after_cases_asked ≡ switch_default_first_falls_after_cases_told
unfolding code_front
switch_default_first_falls_after_cases_by_bytes = refl

-- switch ref changes in between
-- External (E, IntObj) Method (M) { Local0 = RefOf (E) Switch (Local0) { Case (Package () {1, 2}) { Return (1) } Case (3) { Return (3) } }
-- Return (0) }
abbrev switch_ref_changes_in_between : Trees
switch_ref_changes_in_between = (terms ((External at at (one "E___") 1 None) ∷ (Method at (one "M___") 0 (terms ((Assigned (local 0) (Apply (Plain.Data DataOp.RefOf) (terms ((Use at (one "E___")) ∷ [])) no_trees)) ∷ (Switch (local 0) (terms ((Case (Package 2 (terms ((Integer 1) ∷ (Integer 2) ∷ []))) (terms ((Return (Integer 1)) ∷ []))) ∷ (Case (Integer 3) (terms ((Return (Integer 3)) ∷ []))) ∷ []))) ∷ (Return (Integer 0)) ∷ []))) ∷ []))

abbrev switch_ref_changes_in_between_table : List ℕ
switch_ref_changes_in_between_table =
    table_bytes fields (hex "15 45 5F 5F 5F 01 00 14 2D 4D 5F 5F 5F 00 70 71 45 5F 5F 5F 60 A2 1D 01 70 60 61 A0 0B 91 93 61 01 93 61 0A 02 A4 01 A1"
    ++ hex "0A A0 08 93 61 0A 03 A4 0A 03 A5 A4 00")

abbrev switch_ref_changes_in_between_asked : Asked
switch_ref_changes_in_between_asked = record {
  there = present_ones (externals switch_ref_changes_in_between) ((codes "E___" ∷ []) ∷ []);
  bound = 8;
  answers = ((number 9) ∷ (number 8) ∷ (number 3) ∷ (number 7) ∷ []);
  calls = (call (codes "M___" ∷ []) ([]) ∷ []);
  paths = ([]);
}

abbrev switch_ref_changes_in_between_told : Told
switch_ref_changes_in_between_told = record {
  results = ((Done (Normal false)) ∷ (gives (number 3)) ∷ []);
  events = ((E.ReadExternal (codes "E___" ∷ [])) ∷ (E.ReadExternal (codes "E___" ∷ [])) ∷ (E.ReadExternal (codes "E___" ∷ [])) ∷ []);
  left = ((number 7) ∷ []);
  values = ([]);
}

switch_ref_changes_in_between_encoded : written_whole W64 fields switch_ref_changes_in_between ≡ switch_ref_changes_in_between_table
switch_ref_changes_in_between_encoded = refl

switch_ref_changes_in_between_right : name_errors switch_ref_changes_in_between ++ type_errors switch_ref_changes_in_between ≡ []
switch_ref_changes_in_between_right = refl

switch_ref_changes_in_between_by_source : of_source W64 switch_ref_changes_in_between switch_ref_changes_in_between_asked ≡ switch_ref_changes_in_between_told
switch_ref_changes_in_between_by_source = refl

switch_ref_changes_in_between_by_bytes : of_bytes switch_ref_changes_in_between_table switch_ref_changes_in_between_asked ≡ switch_ref_changes_in_between_told
unfolding code_front
switch_ref_changes_in_between_by_bytes = refl

-- switch outside method
-- Name (X, 0) Switch (Timer) { Case (1) { X = 1 } Case (Package () {2, 3}) { X = 2 Break X = 4 } Default { X = 3 } } Method (M) { Return
-- (X) }
abbrev switch_outside_method : Trees
switch_outside_method = (terms ((Name at (one "X___") (Integer 0)) ∷ (Switch (Apply (Plain.Event EventOp.Timer) no_trees no_trees) (terms ((Case (Integer 1) (terms ((Assigned (Use at (one "X___")) (Integer 1)) ∷ []))) ∷ (Case (Package 2 (terms ((Integer 2) ∷ (Integer 3) ∷ []))) (terms ((Assigned (Use at (one "X___")) (Integer 2)) ∷ Break ∷ (Assigned (Use at (one "X___")) (Integer 4)) ∷ []))) ∷ (Default (terms ((Assigned (Use at (one "X___")) (Integer 3)) ∷ []))) ∷ []))) ∷ (Method at (one "M___") 0 (terms ((Return (Use at (one "X___"))) ∷ []))) ∷ []))

abbrev switch_outside_method_table : List ℕ
switch_outside_method_table =
    table_bytes fields (hex "08 58 5F 5F 5F 00 A2 37 01 70 5B 33 60 A0 0A 93 60 01 70 01 58 5F 5F 5F A1 24 A0 19 91 93 60 0A 02 93 60 0A 03 70 0A 02"
    ++ hex "58 5F 5F 5F A5 70 0A 04 58 5F 5F 5F A1 08 70 0A 03 58 5F 5F 5F A5 14 0B 4D 5F 5F 5F 00 A4 58 5F 5F 5F")

abbrev switch_outside_method_asked : Asked
switch_outside_method_asked = record {
  there = present_ones (externals switch_outside_method) ([]);
  bound = 8;
  answers = ((number 3) ∷ []);
  calls = (call (codes "M___" ∷ []) ([]) ∷ []);
  paths = ((codes "X___" ∷ []) ∷ []);
}

abbrev switch_outside_method_told : Told
switch_outside_method_told = record {
  results = ((Done (Normal false)) ∷ (gives (number 2)) ∷ []);
  events = (E.Timer ∷ []);
  left = ([]);
  values = (Some (number 2) ∷ []);
}

switch_outside_method_encoded : written_whole W64 fields switch_outside_method ≡ switch_outside_method_table
switch_outside_method_encoded = refl

switch_outside_method_right : name_errors switch_outside_method ++ type_errors switch_outside_method ≡ []
switch_outside_method_right = refl

switch_outside_method_by_source : of_source W64 switch_outside_method switch_outside_method_asked ≡ switch_outside_method_told
switch_outside_method_by_source = refl

switch_outside_method_by_bytes : of_bytes switch_outside_method_table switch_outside_method_asked ≡ switch_outside_method_told
unfolding code_front
switch_outside_method_by_bytes = refl

-- elseif evaluation order
-- Method (M) { If (Timer) { Debug = 1 } ElseIf (Timer) { Debug = 2 } ElseIf (Timer) { Debug = 3 } Else { Debug = 4 } }
abbrev elseif_evaluation_order : Trees
elseif_evaluation_order = (terms ((Method at (one "M___") 0 (terms ((If (Apply (Plain.Event EventOp.Timer) no_trees no_trees) (terms ((Assigned DebugTerm (Integer 1)) ∷ []))) ∷ (ElseIf (Apply (Plain.Event EventOp.Timer) no_trees no_trees) (terms ((Assigned DebugTerm (Integer 2)) ∷ []))) ∷ (ElseIf (Apply (Plain.Event EventOp.Timer) no_trees no_trees) (terms ((Assigned DebugTerm (Integer 3)) ∷ []))) ∷ (Else (terms ((Assigned DebugTerm (Integer 4)) ∷ []))) ∷ []))) ∷ []))

abbrev elseif_evaluation_order_table : List ℕ
elseif_evaluation_order_table =
    table_bytes fields (hex "14 2B 4D 5F 5F 5F 00 A0 07 5B 33 70 01 5B 31 A1 1C A0 08 5B 33 70 0A 02 5B 31 A1 11 A0 08 5B 33 70 0A 03 5B 31 A1 06 70"
    ++ hex "0A 04 5B 31")

abbrev elseif_evaluation_order_asked : Asked
elseif_evaluation_order_asked = record {
  there = present_ones (externals elseif_evaluation_order) ([]);
  bound = 8;
  answers = ((number 1) ∷ (number 0) ∷ (number 1) ∷ (number 0) ∷ (number 0) ∷ (number 1) ∷ (number 0) ∷ (number 0) ∷ (number 0) ∷ []);
  calls = (call (codes "M___" ∷ []) ([]) ∷ call (codes "M___" ∷ []) ([]) ∷ call (codes "M___" ∷ []) ([]) ∷ call (codes "M___" ∷ []) ([]) ∷ []);
  paths = ([]);
}

abbrev elseif_evaluation_order_told : Told
elseif_evaluation_order_told = record {
  results = ((Done (Normal false)) ∷ (Done NoValue) ∷ (Done NoValue) ∷ (Done NoValue) ∷ (Done NoValue) ∷ []);
  events = (E.Timer ∷ (E.Debug (number 1)) ∷ E.Timer ∷ E.Timer ∷ (E.Debug (number 2)) ∷ E.Timer ∷ E.Timer ∷ E.Timer ∷ (E.Debug (number 3)) ∷ E.Timer ∷ E.Timer ∷ E.Timer ∷ (E.Debug (number 4)) ∷ []);
  left = ([]);
  values = ([]);
}

elseif_evaluation_order_encoded : written_whole W64 fields elseif_evaluation_order ≡ elseif_evaluation_order_table
elseif_evaluation_order_encoded = refl

elseif_evaluation_order_right : name_errors elseif_evaluation_order ++ type_errors elseif_evaluation_order ≡ []
elseif_evaluation_order_right = refl

elseif_evaluation_order_by_source : of_source W64 elseif_evaluation_order elseif_evaluation_order_asked ≡ elseif_evaluation_order_told
elseif_evaluation_order_by_source = refl

elseif_evaluation_order_by_bytes : of_bytes elseif_evaluation_order_table elseif_evaluation_order_asked ≡ elseif_evaluation_order_told
unfolding code_front
elseif_evaluation_order_by_bytes = refl

-- if on string/buffer
-- Method (M, 1) { If (Arg0) { Return (1) } Return (2) }
abbrev if_on_string_buffer : Trees
if_on_string_buffer = (terms ((Method at (one "M___") 1 (terms ((If (arg 0) (terms ((Return (Integer 1)) ∷ []))) ∷ (Return (Integer 2)) ∷ []))) ∷ []))

abbrev if_on_string_buffer_table : List ℕ
if_on_string_buffer_table =
    table_bytes fields (hex "14 0E 4D 5F 5F 5F 01 A0 04 68 A4 01 A4 0A 02")

abbrev if_on_string_buffer_asked : Asked
if_on_string_buffer_asked = record {
  there = present_ones (externals if_on_string_buffer) ([]);
  bound = 8;
  answers = ([]);
  calls = (call (codes "M___" ∷ []) ((Data (V.String ([]))) ∷ []) ∷ call (codes "M___" ∷ []) ((Data (V.String (122 ∷ 122 ∷ []))) ∷ []) ∷ call (codes "M___" ∷ []) ((Data (V.String (48 ∷ 48 ∷ 70 ∷ []))) ∷ []) ∷ call (codes "M___" ∷ []) ((Data (V.Buffer ([]))) ∷ []) ∷ call (codes "M___" ∷ []) ((Data (V.Buffer (0 ∷ []))) ∷ []) ∷ call (codes "M___" ∷ []) ((Data (V.Buffer (0 ∷ 0 ∷ 0 ∷ 0 ∷ 0 ∷ 0 ∷ 0 ∷ 0 ∷ 1 ∷ []))) ∷ []) ∷ call (codes "M___" ∷ []) ((Data (V.Buffer (0 ∷ 1 ∷ []))) ∷ []) ∷ call (codes "M___" ∷ []) ((V.Package (element (number 1) no_elements)) ∷ []) ∷ call (codes "M___" ∷ []) ((reference (Named (codes "M___" ∷ []))) ∷ []) ∷ []);
  paths = ([]);
}

abbrev if_on_string_buffer_told : Told
if_on_string_buffer_told = record {
  results = ((Done (Normal false)) ∷ (gives (number 2)) ∷ (gives (number 2)) ∷ (gives (number 1)) ∷ (faults Fault.EmptyValue) ∷ (gives (number 2)) ∷ (gives (number 2)) ∷ (gives (number 1)) ∷ (faults Fault.WrongType) ∷ (faults Fault.WrongType) ∷ []);
  events = ([]);
  left = ([]);
  values = ([]);
}

if_on_string_buffer_encoded : written_whole W64 fields if_on_string_buffer ≡ if_on_string_buffer_table
if_on_string_buffer_encoded = refl

if_on_string_buffer_right : name_errors if_on_string_buffer ++ type_errors if_on_string_buffer ≡ []
if_on_string_buffer_right = refl

if_on_string_buffer_by_source : of_source W64 if_on_string_buffer if_on_string_buffer_asked ≡ if_on_string_buffer_told
if_on_string_buffer_by_source = refl

if_on_string_buffer_by_bytes : of_bytes if_on_string_buffer_table if_on_string_buffer_asked ≡ if_on_string_buffer_told
unfolding code_front
if_on_string_buffer_by_bytes = refl

-- lor both sides
-- Method (M) { Return (Timer || Timer) } Method (N) { Return (Timer && Timer) } Method (O, 1) { Return (1 || Arg0) }
abbrev lor_both_sides : Trees
lor_both_sides = (terms ((Method at (one "M___") 0 (terms ((Return (Operated (Plain.Number IntOp.LOr) (terms ((Apply (Plain.Event EventOp.Timer) no_trees no_trees) ∷ (Apply (Plain.Event EventOp.Timer) no_trees no_trees) ∷ [])))) ∷ []))) ∷ (Method at (one "N___") 0 (terms ((Return (Operated (Plain.Number IntOp.LAnd) (terms ((Apply (Plain.Event EventOp.Timer) no_trees no_trees) ∷ (Apply (Plain.Event EventOp.Timer) no_trees no_trees) ∷ [])))) ∷ []))) ∷ (Method at (one "O___") 1 (terms ((Return (Operated (Plain.Number IntOp.LOr) (terms ((Integer 1) ∷ (arg 0) ∷ [])))) ∷ []))) ∷ []))

abbrev lor_both_sides_table : List ℕ
lor_both_sides_table =
    table_bytes fields (hex "14 0C 4D 5F 5F 5F 00 A4 91 5B 33 5B 33 14 0C 4E 5F 5F 5F 00 A4 90 5B 33 5B 33 14 0A 4F 5F 5F 5F 01 A4 91 01 68")

abbrev lor_both_sides_asked : Asked
lor_both_sides_asked = record {
  there = present_ones (externals lor_both_sides) ([]);
  bound = 8;
  answers = ((number 1) ∷ (number 1) ∷ (number 0) ∷ (number 1) ∷ []);
  calls = (call (codes "M___" ∷ []) ([]) ∷ call (codes "N___" ∷ []) ([]) ∷ call (codes "O___" ∷ []) ((V.Package no_elements) ∷ []) ∷ []);
  paths = ([]);
}

abbrev lor_both_sides_told : Told
lor_both_sides_told = record {
  results = ((Done (Normal false)) ∷ (gives (number 0xFFFFFFFFFFFFFFFF)) ∷ (gives (number 0)) ∷ (faults Fault.WrongType) ∷ []);
  events = (E.Timer ∷ E.Timer ∷ E.Timer ∷ E.Timer ∷ []);
  left = ([]);
  values = ([]);
}

lor_both_sides_encoded : written_whole W64 fields lor_both_sides ≡ lor_both_sides_table
lor_both_sides_encoded = refl

lor_both_sides_right : name_errors lor_both_sides ++ type_errors lor_both_sides ≡ []
lor_both_sides_right = refl

lor_both_sides_by_source : of_source W64 lor_both_sides lor_both_sides_asked ≡ lor_both_sides_told
lor_both_sides_by_source = refl

lor_both_sides_by_bytes : of_bytes lor_both_sides_table lor_both_sides_asked ≡ lor_both_sides_told
unfolding code_front
lor_both_sides_by_bytes = refl
