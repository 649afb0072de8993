-- Sessions of Fors: their steps, Continues and Breaks, and Switches and loops in them. Another implementation gives the values.
use Rattle.std.proofs.Common.{◌≡◌, ℕ, false, List, [], ◌∷◌, ◌++◌, refl}
use Rattle.std.specs.Prelude.{codes}
use Rattle.acpi_values.specs.declared.width.Width.TheVariants.{W64}
use Rattle.acpi_values.specs.declared.fault.Fault.TheVariants as Fault
use Rattle.acpi_values.specs.declared.operator.IntOp.TheVariants as IntOp
use Rattle.acpi_values.specs.declared.operator.DataOp.TheVariants as DataOp
use Rattle.acpi_values.specs.declared.operator.EventOp.TheVariants as EventOp
use Rattle.acpi_values.specs.declared.operator.Plain.TheVariants as Plain
use Rattle.acpi_values.specs.Values as V
use Rattle.acpi_values.specs.Values.{Value, Data, no_elements, uninitialized, element, Named, LocalOf, ArgOf, ElementAt, ElementOf}
use Rattle.acpi_state.specs.Objects as E
use Rattle.acpi_state.specs.Objects.{Device, ThermalZone, PowerResource, Processor}
use Rattle.acpi_state.specs.Outcomes.{Normal, Unfinished, Done, Stopped}
use Rattle.acpi_state.specs.Sessions.{present_ones}
use Rattle.asl_tree.specs.declared.term.Compound.TheVariants as Compound
use Rattle.asl_tree.specs.Tree.{Integer, String, Debug as DebugTerm, Call, Apply, Operated, Assigned}
use Rattle.asl_tree.specs.Tree.{AssignedBy, Return, Name, Method}
use Rattle.asl_tree.specs.Tree.{If, ElseIf, Else, While, For, Switch, Case, Default, Break}
use Rattle.asl_tree.specs.Tree.{Continue, Trees, no_trees}
use Rattle.asl_meaning.specs.Declarations.{externals}
use Rattle.aml_meaning.specs.Codes.{code_front}
use Rattle.aml_code.specs.Header.{table_bytes}
use Rattle.acpi_names.specs.Errors.{name_errors, type_errors}
use Rattle.meaning_rows.proofs.Rows.{at, fields}
use Rattle.meaning_rows.proofs.Outside.{hex, number, call, Asked, Told, gives, faults, of_bytes, of_source, written_whole, terms, one, local}

-- for-continue-nested-switch n=3
-- Method (M) { For (Local0 = 0, Local0 < 3, Local0++) { Switch (Local0) { Case (1) { Switch (Local1) { Case (0) { Continue } Default {
-- Break } } Debug = "in" } Default { Debug = Local0 } } Local1 = Local0 Debug = "end" } Return (Local1) }
abbrev for_continue_nested_switch_n_3 : Trees
for_continue_nested_switch_n_3 = (terms ((Method at (one "M___") 0 (terms ((For (Assigned (local 0) (Integer 0)) (Operated (Plain.Number IntOp.LLess) (terms ((local 0) ∷ (Integer 3) ∷ []))) (Operated (Plain.Data DataOp.Increment) (terms ((local 0) ∷ []))) (terms ((Switch (local 0) (terms ((Case (Integer 1) (terms ((Switch (local 1) (terms ((Case (Integer 0) (terms (Continue ∷ []))) ∷ (Default (terms (Break ∷ []))) ∷ []))) ∷ (Assigned DebugTerm (String (codes "in"))) ∷ []))) ∷ (Default (terms ((Assigned DebugTerm (local 0)) ∷ []))) ∷ []))) ∷ (Assigned (local 1) (local 0)) ∷ (Assigned DebugTerm (String (codes "end"))) ∷ []))) ∷ (Return (local 1)) ∷ []))) ∷ []))

abbrev for_continue_nested_switch_n_3_table : List ℕ
for_continue_nested_switch_n_3_table =
    table_bytes fields (hex "14 4C 05 4D 5F 5F 5F 00 70 00 60 A2 4F 04 95 60 0A 03 70 00 64 A2 31 01 70 60 62 A0 24 93 62 01 A2 14 01 70 61 63 A0 0A"
    ++ hex "93 63 00 75 60 70 01 64 A5 A1 02 A5 A5 A0 03 64 A5 70 0D 69 6E 00 5B 31 A1 05 70 60 5B 31 A5 A0 06 64 70 00 64 9F 70 60"
    ++ hex "61 70 0D 65 6E 64 00 5B 31 75 60 A4 61")

abbrev for_continue_nested_switch_n_3_asked : Asked
for_continue_nested_switch_n_3_asked = record {
  there = present_ones (externals for_continue_nested_switch_n_3) ([]);
  bound = 3;
  answers = ([]);
  calls = (call (codes "M___" ∷ []) ([]) ∷ []);
  paths = ([]);
}

abbrev for_continue_nested_switch_n_3_told : Told
for_continue_nested_switch_n_3_told = record {
  results = ((Done (Normal false)) ∷ (gives (number 2)) ∷ []);
  events = ((E.Debug (number 0)) ∷ (E.Debug (Data (V.String (101 ∷ 110 ∷ 100 ∷ [])))) ∷ (E.Debug (number 2)) ∷ (E.Debug (Data (V.String (101 ∷ 110 ∷ 100 ∷ [])))) ∷ []);
  left = ([]);
  values = ([]);
}

for_continue_nested_switch_n_3_encoded : written_whole W64 fields for_continue_nested_switch_n_3 ≡ for_continue_nested_switch_n_3_table
for_continue_nested_switch_n_3_encoded = refl

for_continue_nested_switch_n_3_right : name_errors for_continue_nested_switch_n_3 ++ type_errors for_continue_nested_switch_n_3 ≡ []
for_continue_nested_switch_n_3_right = refl

for_continue_nested_switch_n_3_by_source : of_source W64 for_continue_nested_switch_n_3 for_continue_nested_switch_n_3_asked ≡ for_continue_nested_switch_n_3_told
for_continue_nested_switch_n_3_by_source = refl

for_continue_nested_switch_n_3_by_bytes : of_bytes for_continue_nested_switch_n_3_table for_continue_nested_switch_n_3_asked ≡ for_continue_nested_switch_n_3_told
unfolding code_front
for_continue_nested_switch_n_3_by_bytes = refl

-- for-continue-nested-switch n=2
-- Method (M) { For (Local0 = 0, Local0 < 3, Local0++) { Switch (Local0) { Case (1) { Switch (Local1) { Case (0) { Continue } Default {
-- Break } } Debug = "in" } Default { Debug = Local0 } } Local1 = Local0 Debug = "end" } Return (Local1) }
abbrev for_continue_nested_switch_n_2 : Trees
for_continue_nested_switch_n_2 = (terms ((Method at (one "M___") 0 (terms ((For (Assigned (local 0) (Integer 0)) (Operated (Plain.Number IntOp.LLess) (terms ((local 0) ∷ (Integer 3) ∷ []))) (Operated (Plain.Data DataOp.Increment) (terms ((local 0) ∷ []))) (terms ((Switch (local 0) (terms ((Case (Integer 1) (terms ((Switch (local 1) (terms ((Case (Integer 0) (terms (Continue ∷ []))) ∷ (Default (terms (Break ∷ []))) ∷ []))) ∷ (Assigned DebugTerm (String (codes "in"))) ∷ []))) ∷ (Default (terms ((Assigned DebugTerm (local 0)) ∷ []))) ∷ []))) ∷ (Assigned (local 1) (local 0)) ∷ (Assigned DebugTerm (String (codes "end"))) ∷ []))) ∷ (Return (local 1)) ∷ []))) ∷ []))

abbrev for_continue_nested_switch_n_2_table : List ℕ
for_continue_nested_switch_n_2_table =
    table_bytes fields (hex "14 4C 05 4D 5F 5F 5F 00 70 00 60 A2 4F 04 95 60 0A 03 70 00 64 A2 31 01 70 60 62 A0 24 93 62 01 A2 14 01 70 61 63 A0 0A"
    ++ hex "93 63 00 75 60 70 01 64 A5 A1 02 A5 A5 A0 03 64 A5 70 0D 69 6E 00 5B 31 A1 05 70 60 5B 31 A5 A0 06 64 70 00 64 9F 70 60"
    ++ hex "61 70 0D 65 6E 64 00 5B 31 75 60 A4 61")

abbrev for_continue_nested_switch_n_2_asked : Asked
for_continue_nested_switch_n_2_asked = record {
  there = present_ones (externals for_continue_nested_switch_n_2) ([]);
  bound = 2;
  answers = ([]);
  calls = (call (codes "M___" ∷ []) ([]) ∷ []);
  paths = ([]);
}

abbrev for_continue_nested_switch_n_2_told : Told
for_continue_nested_switch_n_2_told = record {
  results = ((Done (Normal false)) ∷ (Stopped Unfinished) ∷ []);
  events = ((E.Debug (number 0)) ∷ (E.Debug (Data (V.String (101 ∷ 110 ∷ 100 ∷ [])))) ∷ []);
  left = ([]);
  values = ([]);
}

for_continue_nested_switch_n_2_encoded : written_whole W64 fields for_continue_nested_switch_n_2 ≡ for_continue_nested_switch_n_2_table
for_continue_nested_switch_n_2_encoded = refl

for_continue_nested_switch_n_2_right : name_errors for_continue_nested_switch_n_2 ++ type_errors for_continue_nested_switch_n_2 ≡ []
for_continue_nested_switch_n_2_right = refl

for_continue_nested_switch_n_2_by_source : of_source W64 for_continue_nested_switch_n_2 for_continue_nested_switch_n_2_asked ≡ for_continue_nested_switch_n_2_told
for_continue_nested_switch_n_2_by_source = refl

for_continue_nested_switch_n_2_by_bytes : of_bytes for_continue_nested_switch_n_2_table for_continue_nested_switch_n_2_asked ≡ for_continue_nested_switch_n_2_told
unfolding code_front
for_continue_nested_switch_n_2_by_bytes = refl

-- for-break-in-switch n=5
-- Method (M) { For (Local0 = 0, Local0 < 4, Local0++) { Switch (Local0) { Case (2) { Break } } Debug = Local0 If (Local0 == 2) { Break } }
-- Return (Local0) }
abbrev for_break_in_switch_n_5 : Trees
for_break_in_switch_n_5 = (terms ((Method at (one "M___") 0 (terms ((For (Assigned (local 0) (Integer 0)) (Operated (Plain.Number IntOp.LLess) (terms ((local 0) ∷ (Integer 4) ∷ []))) (Operated (Plain.Data DataOp.Increment) (terms ((local 0) ∷ []))) (terms ((Switch (local 0) (terms ((Case (Integer 2) (terms (Break ∷ []))) ∷ []))) ∷ (Assigned DebugTerm (local 0)) ∷ (If (Operated (Plain.Number IntOp.LEqual) (terms ((local 0) ∷ (Integer 2) ∷ []))) (terms (Break ∷ []))) ∷ []))) ∷ (Return (local 0)) ∷ []))) ∷ []))

abbrev for_break_in_switch_n_5_table : List ℕ
for_break_in_switch_n_5_table =
    table_bytes fields (hex "14 2C 4D 5F 5F 5F 00 70 00 60 A2 20 95 60 0A 04 A2 0D 01 70 60 61 A0 06 93 61 0A 02 A5 A5 70 60 5B 31 A0 06 93 60 0A 02"
    ++ hex "A5 75 60 A4 60")

abbrev for_break_in_switch_n_5_asked : Asked
for_break_in_switch_n_5_asked = record {
  there = present_ones (externals for_break_in_switch_n_5) ([]);
  bound = 5;
  answers = ([]);
  calls = (call (codes "M___" ∷ []) ([]) ∷ []);
  paths = ([]);
}

abbrev for_break_in_switch_n_5_told : Told
for_break_in_switch_n_5_told = record {
  results = ((Done (Normal false)) ∷ (gives (number 2)) ∷ []);
  events = ((E.Debug (number 0)) ∷ (E.Debug (number 1)) ∷ (E.Debug (number 2)) ∷ []);
  left = ([]);
  values = ([]);
}

for_break_in_switch_n_5_encoded : written_whole W64 fields for_break_in_switch_n_5 ≡ for_break_in_switch_n_5_table
for_break_in_switch_n_5_encoded = refl

for_break_in_switch_n_5_right : name_errors for_break_in_switch_n_5 ++ type_errors for_break_in_switch_n_5 ≡ []
for_break_in_switch_n_5_right = refl

for_break_in_switch_n_5_by_source : of_source W64 for_break_in_switch_n_5 for_break_in_switch_n_5_asked ≡ for_break_in_switch_n_5_told
for_break_in_switch_n_5_by_source = refl

for_break_in_switch_n_5_by_bytes : of_bytes for_break_in_switch_n_5_table for_break_in_switch_n_5_asked ≡ for_break_in_switch_n_5_told
unfolding code_front
for_break_in_switch_n_5_by_bytes = refl

-- for-step-call-no-value n=3
-- Method (S) { Debug = "s" } Method (M) { For (S (), Timer, S ()) { If (Timer == 2) { Continue } Debug = "b" } Return (7) }
abbrev for_step_call_no_value_n_3 : Trees
for_step_call_no_value_n_3 = (terms ((Method at (one "S___") 0 (terms ((Assigned DebugTerm (String (codes "s"))) ∷ []))) ∷ (Method at (one "M___") 0 (terms ((For (Call at (one "S___") no_trees) (Apply (Plain.Event EventOp.Timer) no_trees no_trees) (Call at (one "S___") no_trees) (terms ((If (Operated (Plain.Number IntOp.LEqual) (terms ((Apply (Plain.Event EventOp.Timer) no_trees no_trees) ∷ (Integer 2) ∷ []))) (terms (Continue ∷ []))) ∷ (Assigned DebugTerm (String (codes "b"))) ∷ []))) ∷ (Return (Integer 7)) ∷ []))) ∷ []))

abbrev for_step_call_no_value_n_3_table : List ℕ
for_step_call_no_value_n_3_table =
    table_bytes fields (hex "14 0C 53 5F 5F 5F 00 70 0D 73 00 5B 31 14 27 4D 5F 5F 5F 00 53 5F 5F 5F A2 19 5B 33 A0 0B 93 5B 33 0A 02 53 5F 5F 5F 9F"
    ++ hex "70 0D 62 00 5B 31 53 5F 5F 5F A4 0A 07")

abbrev for_step_call_no_value_n_3_asked : Asked
for_step_call_no_value_n_3_asked = record {
  there = present_ones (externals for_step_call_no_value_n_3) ([]);
  bound = 3;
  answers = ((number 1) ∷ (number 2) ∷ (number 1) ∷ (number 0) ∷ (number 0) ∷ (number 5) ∷ []);
  calls = (call (codes "M___" ∷ []) ([]) ∷ []);
  paths = ([]);
}

abbrev for_step_call_no_value_n_3_told : Told
for_step_call_no_value_n_3_told = record {
  results = ((Done (Normal false)) ∷ (gives (number 7)) ∷ []);
  events = ((E.Debug (Data (V.String (115 ∷ [])))) ∷ E.Timer ∷ E.Timer ∷ (E.Debug (Data (V.String (115 ∷ [])))) ∷ E.Timer ∷ E.Timer ∷ (E.Debug (Data (V.String (98 ∷ [])))) ∷ (E.Debug (Data (V.String (115 ∷ [])))) ∷ E.Timer ∷ []);
  left = ((number 5) ∷ []);
  values = ([]);
}

for_step_call_no_value_n_3_encoded : written_whole W64 fields for_step_call_no_value_n_3 ≡ for_step_call_no_value_n_3_table
for_step_call_no_value_n_3_encoded = refl

for_step_call_no_value_n_3_right : name_errors for_step_call_no_value_n_3 ++ type_errors for_step_call_no_value_n_3 ≡ []
for_step_call_no_value_n_3_right = refl

for_step_call_no_value_n_3_by_source : of_source W64 for_step_call_no_value_n_3 for_step_call_no_value_n_3_asked ≡ for_step_call_no_value_n_3_told
for_step_call_no_value_n_3_by_source = refl

for_step_call_no_value_n_3_by_bytes : of_bytes for_step_call_no_value_n_3_table for_step_call_no_value_n_3_asked ≡ for_step_call_no_value_n_3_told
unfolding code_front
for_step_call_no_value_n_3_by_bytes = refl

-- for in for continue n=3
-- Method (M) { For (Local0 = 0, Local0 < 2, Local0++) { For (Local1 = 0, Local1 < 2, Local1 += 1) { Switch (Local1) { Case (0) { Continue
-- } } Debug = Local1 } Switch (Local0) { Case (0) { Continue } } Debug = Local0 } Return (Local0) }
abbrev for_in_for_continue_n_3 : Trees
for_in_for_continue_n_3 = (terms ((Method at (one "M___") 0 (terms ((For (Assigned (local 0) (Integer 0)) (Operated (Plain.Number IntOp.LLess) (terms ((local 0) ∷ (Integer 2) ∷ []))) (Operated (Plain.Data DataOp.Increment) (terms ((local 0) ∷ []))) (terms ((For (Assigned (local 1) (Integer 0)) (Operated (Plain.Number IntOp.LLess) (terms ((local 1) ∷ (Integer 2) ∷ []))) (AssignedBy Compound.Add (local 1) (Integer 1)) (terms ((Switch (local 1) (terms ((Case (Integer 0) (terms (Continue ∷ []))) ∷ []))) ∷ (Assigned DebugTerm (local 1)) ∷ []))) ∷ (Switch (local 0) (terms ((Case (Integer 0) (terms (Continue ∷ []))) ∷ []))) ∷ (Assigned DebugTerm (local 0)) ∷ []))) ∷ (Return (local 0)) ∷ []))) ∷ []))

abbrev for_in_for_continue_n_3_table : List ℕ
for_in_for_continue_n_3_table =
    table_bytes fields (hex "14 44 06 4D 5F 5F 5F 00 70 00 60 A2 47 05 95 60 0A 02 70 00 61 A2 2B 95 61 0A 02 70 00 63 A2 13 01 70 61 62 A0 0C 93 62"
    ++ hex "00 72 61 01 61 70 01 63 A5 A5 A0 06 63 70 00 63 9F 70 61 5B 31 72 61 01 61 70 00 63 A2 11 01 70 60 62 A0 0A 93 62 00 75"
    ++ hex "60 70 01 63 A5 A5 A0 06 63 70 00 63 9F 70 60 5B 31 75 60 A4 60")

abbrev for_in_for_continue_n_3_asked : Asked
for_in_for_continue_n_3_asked = record {
  there = present_ones (externals for_in_for_continue_n_3) ([]);
  bound = 3;
  answers = ([]);
  calls = (call (codes "M___" ∷ []) ([]) ∷ []);
  paths = ([]);
}

abbrev for_in_for_continue_n_3_told : Told
for_in_for_continue_n_3_told = record {
  results = ((Done (Normal false)) ∷ (gives (number 2)) ∷ []);
  events = ((E.Debug (number 1)) ∷ (E.Debug (number 1)) ∷ (E.Debug (number 1)) ∷ []);
  left = ([]);
  values = ([]);
}

for_in_for_continue_n_3_encoded : written_whole W64 fields for_in_for_continue_n_3 ≡ for_in_for_continue_n_3_table
for_in_for_continue_n_3_encoded = refl

for_in_for_continue_n_3_right : name_errors for_in_for_continue_n_3 ++ type_errors for_in_for_continue_n_3 ≡ []
for_in_for_continue_n_3_right = refl

for_in_for_continue_n_3_by_source : of_source W64 for_in_for_continue_n_3 for_in_for_continue_n_3_asked ≡ for_in_for_continue_n_3_told
for_in_for_continue_n_3_by_source = refl

for_in_for_continue_n_3_by_bytes : of_bytes for_in_for_continue_n_3_table for_in_for_continue_n_3_asked ≡ for_in_for_continue_n_3_told
unfolding code_front
for_in_for_continue_n_3_by_bytes = refl

-- while in switch in for n=2
-- Method (M) { For (Local0 = 0, Local0 < 2, Local0++) { Switch (Local0) { Case (0) { Local2 = 0 While (Local2 < 2) { Local2++ Switch
-- (Local2) { Case (1) { Continue } } Debug = Local2 } Continue } Default { Debug = 9 } } Debug = 8 } Return (Local0) }
abbrev while_in_switch_in_for_n_2 : Trees
while_in_switch_in_for_n_2 = (terms ((Method at (one "M___") 0 (terms ((For (Assigned (local 0) (Integer 0)) (Operated (Plain.Number IntOp.LLess) (terms ((local 0) ∷ (Integer 2) ∷ []))) (Operated (Plain.Data DataOp.Increment) (terms ((local 0) ∷ []))) (terms ((Switch (local 0) (terms ((Case (Integer 0) (terms ((Assigned (local 2) (Integer 0)) ∷ (While (Operated (Plain.Number IntOp.LLess) (terms ((local 2) ∷ (Integer 2) ∷ []))) (terms ((Operated (Plain.Data DataOp.Increment) (terms ((local 2) ∷ []))) ∷ (Switch (local 2) (terms ((Case (Integer 1) (terms (Continue ∷ []))) ∷ []))) ∷ (Assigned DebugTerm (local 2)) ∷ []))) ∷ Continue ∷ []))) ∷ (Default (terms ((Assigned DebugTerm (Integer 9)) ∷ []))) ∷ []))) ∷ (Assigned DebugTerm (Integer 8)) ∷ []))) ∷ (Return (local 0)) ∷ []))) ∷ []))

abbrev while_in_switch_in_for_n_2_table : List ℕ
while_in_switch_in_for_n_2_table =
    table_bytes fields (hex "14 47 06 4D 5F 5F 5F 00 70 00 60 A2 4A 05 95 60 0A 02 70 00 64 A2 42 04 01 70 60 61 A0 33 93 61 00 70 00 62 A2 25 95 62"
    ++ hex "0A 02 75 62 70 00 64 A2 0F 01 70 62 63 A0 08 93 63 01 70 01 64 A5 A5 A0 06 64 70 00 64 9F 70 62 5B 31 75 60 70 01 64 A5"
    ++ hex "A1 06 70 0A 09 5B 31 A5 A0 06 64 70 00 64 9F 70 0A 08 5B 31 75 60 A4 60")

abbrev while_in_switch_in_for_n_2_asked : Asked
while_in_switch_in_for_n_2_asked = record {
  there = present_ones (externals while_in_switch_in_for_n_2) ([]);
  bound = 2;
  answers = ([]);
  calls = (call (codes "M___" ∷ []) ([]) ∷ []);
  paths = ([]);
}

abbrev while_in_switch_in_for_n_2_told : Told
while_in_switch_in_for_n_2_told = record {
  results = ((Done (Normal false)) ∷ (gives (number 2)) ∷ []);
  events = ((E.Debug (number 2)) ∷ (E.Debug (number 9)) ∷ (E.Debug (number 8)) ∷ []);
  left = ([]);
  values = ([]);
}

while_in_switch_in_for_n_2_encoded : written_whole W64 fields while_in_switch_in_for_n_2 ≡ while_in_switch_in_for_n_2_table
while_in_switch_in_for_n_2_encoded = refl

while_in_switch_in_for_n_2_right : name_errors while_in_switch_in_for_n_2 ++ type_errors while_in_switch_in_for_n_2 ≡ []
while_in_switch_in_for_n_2_right = refl

while_in_switch_in_for_n_2_by_source : of_source W64 while_in_switch_in_for_n_2 while_in_switch_in_for_n_2_asked ≡ while_in_switch_in_for_n_2_told
while_in_switch_in_for_n_2_by_source = refl

while_in_switch_in_for_n_2_by_bytes : of_bytes while_in_switch_in_for_n_2_table while_in_switch_in_for_n_2_asked ≡ while_in_switch_in_for_n_2_told
unfolding code_front
while_in_switch_in_for_n_2_by_bytes = refl

-- for name in body twice
-- Method (M) { For (Local0 = 0, Local0 < 2, Local0++) { Name (X, 1) } Return (1) }
abbrev for_name_in_body_twice : Trees
for_name_in_body_twice = (terms ((Method at (one "M___") 0 (terms ((For (Assigned (local 0) (Integer 0)) (Operated (Plain.Number IntOp.LLess) (terms ((local 0) ∷ (Integer 2) ∷ []))) (Operated (Plain.Data DataOp.Increment) (terms ((local 0) ∷ []))) (terms ((Name at (one "X___") (Integer 1)) ∷ []))) ∷ (Return (Integer 1)) ∷ []))) ∷ []))

abbrev for_name_in_body_twice_table : List ℕ
for_name_in_body_twice_table =
    table_bytes fields (hex "14 19 4D 5F 5F 5F 00 70 00 60 A2 0D 95 60 0A 02 08 58 5F 5F 5F 01 75 60 A4 01")

abbrev for_name_in_body_twice_asked : Asked
for_name_in_body_twice_asked = record {
  there = present_ones (externals for_name_in_body_twice) ([]);
  bound = 8;
  answers = ([]);
  calls = (call (codes "M___" ∷ []) ([]) ∷ []);
  paths = ([]);
}

abbrev for_name_in_body_twice_told : Told
for_name_in_body_twice_told = record {
  results = ((Done (Normal false)) ∷ (faults Fault.AlreadyExists) ∷ []);
  events = ([]);
  left = ([]);
  values = ([]);
}

for_name_in_body_twice_encoded : written_whole W64 fields for_name_in_body_twice ≡ for_name_in_body_twice_table
for_name_in_body_twice_encoded = refl

for_name_in_body_twice_right : name_errors for_name_in_body_twice ++ type_errors for_name_in_body_twice ≡ []
for_name_in_body_twice_right = refl

for_name_in_body_twice_by_source : of_source W64 for_name_in_body_twice for_name_in_body_twice_asked ≡ for_name_in_body_twice_told
for_name_in_body_twice_by_source = refl

for_name_in_body_twice_by_bytes : of_bytes for_name_in_body_twice_table for_name_in_body_twice_asked ≡ for_name_in_body_twice_told
unfolding code_front
for_name_in_body_twice_by_bytes = refl

-- for continue in else-if
-- Method (M) { For (Local0 = 0, Local0 < 5, Local0++) { If (Local0 == 1) { Continue } ElseIf (Local0 == 2) { Debug = 22 } ElseIf (Local0
-- == 3) { Break } Else { Debug = "e" Continue } Debug = Local0 } Return (Local0) }
abbrev for_continue_in_else_if : Trees
for_continue_in_else_if = (terms ((Method at (one "M___") 0 (terms ((For (Assigned (local 0) (Integer 0)) (Operated (Plain.Number IntOp.LLess) (terms ((local 0) ∷ (Integer 5) ∷ []))) (Operated (Plain.Data DataOp.Increment) (terms ((local 0) ∷ []))) (terms ((If (Operated (Plain.Number IntOp.LEqual) (terms ((local 0) ∷ (Integer 1) ∷ []))) (terms (Continue ∷ []))) ∷ (ElseIf (Operated (Plain.Number IntOp.LEqual) (terms ((local 0) ∷ (Integer 2) ∷ []))) (terms ((Assigned DebugTerm (Integer 22)) ∷ []))) ∷ (ElseIf (Operated (Plain.Number IntOp.LEqual) (terms ((local 0) ∷ (Integer 3) ∷ []))) (terms (Break ∷ []))) ∷ (Else (terms ((Assigned DebugTerm (String (codes "e"))) ∷ Continue ∷ []))) ∷ (Assigned DebugTerm (local 0)) ∷ []))) ∷ (Return (local 0)) ∷ []))) ∷ []))

abbrev for_continue_in_else_if_table : List ℕ
for_continue_in_else_if_table =
    table_bytes fields (hex "14 41 04 4D 5F 5F 5F 00 70 00 60 A2 34 95 60 0A 05 A0 07 93 60 01 75 60 9F A1 20 A0 0A 93 60 0A 02 70 0A 16 5B 31 A1 13"
    ++ hex "A0 06 93 60 0A 03 A5 A1 0A 70 0D 65 00 5B 31 75 60 9F 70 60 5B 31 75 60 A4 60")

abbrev for_continue_in_else_if_asked : Asked
for_continue_in_else_if_asked = record {
  there = present_ones (externals for_continue_in_else_if) ([]);
  bound = 8;
  answers = ([]);
  calls = (call (codes "M___" ∷ []) ([]) ∷ []);
  paths = ([]);
}

abbrev for_continue_in_else_if_told : Told
for_continue_in_else_if_told = record {
  results = ((Done (Normal false)) ∷ (gives (number 3)) ∷ []);
  events = ((E.Debug (Data (V.String (101 ∷ [])))) ∷ (E.Debug (number 22)) ∷ (E.Debug (number 2)) ∷ []);
  left = ([]);
  values = ([]);
}

for_continue_in_else_if_encoded : written_whole W64 fields for_continue_in_else_if ≡ for_continue_in_else_if_table
for_continue_in_else_if_encoded = refl

for_continue_in_else_if_right : name_errors for_continue_in_else_if ++ type_errors for_continue_in_else_if ≡ []
for_continue_in_else_if_right = refl

for_continue_in_else_if_by_source : of_source W64 for_continue_in_else_if for_continue_in_else_if_asked ≡ for_continue_in_else_if_told
for_continue_in_else_if_by_source = refl

for_continue_in_else_if_by_bytes : of_bytes for_continue_in_else_if_table for_continue_in_else_if_asked ≡ for_continue_in_else_if_told
unfolding code_front
for_continue_in_else_if_by_bytes = refl
