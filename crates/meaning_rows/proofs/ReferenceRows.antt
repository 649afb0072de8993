-- Sessions of References: to Locals, Args, names and elements, stored, copied, and gone. Another implementation gives the values.
use Rattle.std.proofs.Common.{◌≡◌, ℕ, false, List, [], ◌∷◌, ◌++◌, Some, refl}
use Rattle.std.specs.Prelude.{codes}
use Rattle.acpi_values.specs.declared.width.Width.TheVariants.{W64}
use Rattle.acpi_values.specs.declared.fault.Fault.TheVariants as Fault
use Rattle.acpi_values.specs.declared.operator.DataOp.TheVariants as DataOp
use Rattle.acpi_values.specs.declared.operator.EventOp.TheVariants as EventOp
use Rattle.acpi_values.specs.declared.operator.Plain.TheVariants as Plain
use Rattle.acpi_values.specs.Values as V
use Rattle.acpi_values.specs.Values.{Value, Data, no_elements, uninitialized, element, Named, LocalOf, ArgOf, ElementAt, ElementOf}
use Rattle.acpi_state.specs.Objects as E
use Rattle.acpi_state.specs.Objects.{Device, ThermalZone, PowerResource, Processor}
use Rattle.acpi_state.specs.Outcomes.{Normal, NoValue, Done}
use Rattle.acpi_state.specs.Sessions.{present_ones}
use Rattle.asl_tree.specs.Tree.{Integer, String, Debug as DebugTerm, Omitted, Use, Call, Apply, Operated, Assigned}
use Rattle.asl_tree.specs.Tree.{Buffer, Package, CondRefOf, Return, Name, Alias, Method}
use Rattle.asl_tree.specs.Tree.{Trees, no_trees}
use Rattle.asl_meaning.specs.Declarations.{externals}
use Rattle.aml_meaning.specs.Codes.{code_front}
use Rattle.aml_code.specs.Header.{table_bytes}
use Rattle.acpi_names.specs.Errors.{name_errors, type_errors}
use Rattle.meaning_rows.proofs.Rows.{at, fields}
use Rattle.meaning_rows.proofs.Outside.{hex, number, reference, call, Asked, Told, gives, faults, of_bytes, of_source, written_whole, terms, one, local, arg}

-- copyobject
-- Name (X, 5) Name (S, "a") Method (T, 1) { CopyObject ("q", Arg0) Return (Arg0) } Method (M) { CopyObject (RefOf (S), X) Debug =
-- ObjectType (X) Debug = DerefOf (X) CopyObject (Package () {1}, S) Debug = S T (RefOf (X)) Debug = X } Method (N) { Return (CopyObject
-- (5, Local0)) } Method (O) { X = 6 }
abbrev copyobject : Trees
copyobject = (terms ((Name at (one "X___") (Integer 5)) ∷ (Name at (one "S___") (String (codes "a"))) ∷ (Method at (one "T___") 1 (terms ((Apply (Plain.Data DataOp.CopyObject) (terms ((String (codes "q")) ∷ (arg 0) ∷ [])) no_trees) ∷ (Return (arg 0)) ∷ []))) ∷ (Method at (one "M___") 0 (terms ((Apply (Plain.Data DataOp.CopyObject) (terms ((Apply (Plain.Data DataOp.RefOf) (terms ((Use at (one "S___")) ∷ [])) no_trees) ∷ (Use at (one "X___")) ∷ [])) no_trees) ∷ (Assigned DebugTerm (Apply (Plain.Data DataOp.ObjectType) (terms ((Use at (one "X___")) ∷ [])) no_trees)) ∷ (Assigned DebugTerm (Apply (Plain.Data DataOp.DerefOf) (terms ((Use at (one "X___")) ∷ [])) no_trees)) ∷ (Apply (Plain.Data DataOp.CopyObject) (terms ((Package 1 (terms ((Integer 1) ∷ []))) ∷ (Use at (one "S___")) ∷ [])) no_trees) ∷ (Assigned DebugTerm (Use at (one "S___"))) ∷ (Call at (one "T___") (terms ((Apply (Plain.Data DataOp.RefOf) (terms ((Use at (one "X___")) ∷ [])) no_trees) ∷ []))) ∷ (Assigned DebugTerm (Use at (one "X___"))) ∷ []))) ∷ (Method at (one "N___") 0 (terms ((Return (Apply (Plain.Data DataOp.CopyObject) (terms ((Integer 5) ∷ (local 0) ∷ [])) no_trees)) ∷ []))) ∷ (Method at (one "O___") 0 (terms ((Assigned (Use at (one "X___")) (Integer 6)) ∷ []))) ∷ []))

abbrev copyobject_table : List ℕ
copyobject_table =
    table_bytes fields (hex "08 58 5F 5F 5F 0A 05 08 53 5F 5F 5F 0D 61 00 14 0D 54 5F 5F 5F 01 9D 0D 71 00 68 A4 68 14 41 04 4D 5F 5F 5F 00 9D 71 53"
    ++ hex "5F 5F 5F 58 5F 5F 5F 70 8E 58 5F 5F 5F 5B 31 70 83 58 5F 5F 5F 5B 31 9D 12 03 01 01 53 5F 5F 5F 70 53 5F 5F 5F 5B 31 54"
    ++ hex "5F 5F 5F 71 58 5F 5F 5F 70 58 5F 5F 5F 5B 31 14 0B 4E 5F 5F 5F 00 A4 9D 0A 05 60 14 0D 4F 5F 5F 5F 00 70 0A 06 58 5F 5F"
    ++ hex "5F")

abbrev copyobject_asked : Asked
copyobject_asked = record {
  there = present_ones (externals copyobject) ([]);
  bound = 8;
  answers = ([]);
  calls = (call (codes "M___" ∷ []) ([]) ∷ call (codes "N___" ∷ []) ([]) ∷ call (codes "O___" ∷ []) ([]) ∷ []);
  paths = ((codes "S___" ∷ []) ∷ (codes "X___" ∷ []) ∷ []);
}

abbrev copyobject_told : Told
copyobject_told = record {
  results = ((Done (Normal false)) ∷ (Done NoValue) ∷ (gives (number 5)) ∷ (faults Fault.WrongType) ∷ []);
  events = ((E.Debug (number 2)) ∷ (E.Debug (Data (V.String (97 ∷ [])))) ∷ (E.Debug (V.Package (element (number 1) no_elements))) ∷ (E.Debug (V.Package (element (number 1) no_elements))) ∷ []);
  left = ([]);
  values = (Some (V.Package (element (number 1) no_elements)) ∷ Some (reference (Named (codes "S___" ∷ []))) ∷ []);
}

copyobject_encoded : written_whole W64 fields copyobject ≡ copyobject_table
copyobject_encoded = refl

copyobject_right : name_errors copyobject ++ type_errors copyobject ≡ []
copyobject_right = refl

copyobject_by_source : of_source W64 copyobject copyobject_asked ≡ copyobject_told
copyobject_by_source = refl

copyobject_by_bytes : of_bytes copyobject_table copyobject_asked ≡ copyobject_told
unfolding code_front
copyobject_by_bytes = refl

-- condrefof
-- Name (X, 5) Method (Z) { Return (1) } Method (M) { Debug = CondRefOf (X, Local0) Debug = DerefOf (Local0) Debug = CondRefOf (Z, Local1)
-- Debug = CondRefOf (Local7, Local2) Debug = CondRefOf (NOPE, Local3) Debug = ObjectType (Local3) Debug = CondRefOf (X, X) Debug =
-- ObjectType (Local2) } Method (N) { Return (CondRefOf (NOPE, DerefOf (5))) } Method (O) { Return (CondRefOf (DerefOf (5), Local0)) }
-- Method (Q) { Return (CondRefOf (Debug)) } Method (T) { Return (CondRefOf (NOPE, Index (Buffer () {}, Timer))) }
abbrev condrefof : Trees
condrefof = (terms ((Name at (one "X___") (Integer 5)) ∷ (Method at (one "Z___") 0 (terms ((Return (Integer 1)) ∷ []))) ∷ (Method at (one "M___") 0 (terms ((Assigned DebugTerm (CondRefOf (Use at (one "X___")) (local 0))) ∷ (Assigned DebugTerm (Apply (Plain.Data DataOp.DerefOf) (terms ((local 0) ∷ [])) no_trees)) ∷ (Assigned DebugTerm (CondRefOf (Use at (one "Z___")) (local 1))) ∷ (Assigned DebugTerm (CondRefOf (local 7) (local 2))) ∷ (Assigned DebugTerm (CondRefOf (Use at (one "NOPE")) (local 3))) ∷ (Assigned DebugTerm (Apply (Plain.Data DataOp.ObjectType) (terms ((local 3) ∷ [])) no_trees)) ∷ (Assigned DebugTerm (CondRefOf (Use at (one "X___")) (Use at (one "X___")))) ∷ (Assigned DebugTerm (Apply (Plain.Data DataOp.ObjectType) (terms ((local 2) ∷ [])) no_trees)) ∷ []))) ∷ (Method at (one "N___") 0 (terms ((Return (CondRefOf (Use at (one "NOPE")) (Apply (Plain.Data DataOp.DerefOf) (terms ((Integer 5) ∷ [])) no_trees))) ∷ []))) ∷ (Method at (one "O___") 0 (terms ((Return (CondRefOf (Apply (Plain.Data DataOp.DerefOf) (terms ((Integer 5) ∷ [])) no_trees) (local 0))) ∷ []))) ∷ (Method at (one "Q___") 0 (terms ((Return (CondRefOf DebugTerm Omitted)) ∷ []))) ∷ (Method at (one "T___") 0 (terms ((Return (CondRefOf (Use at (one "NOPE")) (Apply (Plain.Data DataOp.Index) (terms ((Buffer (Integer 0) ([])) ∷ (Apply (Plain.Event EventOp.Timer) no_trees no_trees) ∷ [])) (terms (Omitted ∷ []))))) ∷ []))) ∷ []))

abbrev condrefof_table : List ℕ
condrefof_table =
    table_bytes fields (hex "08 58 5F 5F 5F 0A 05 14 08 5A 5F 5F 5F 00 A4 01 14 48 04 4D 5F 5F 5F 00 70 5B 12 58 5F 5F 5F 60 5B 31 70 83 60 5B 31 70"
    ++ hex "5B 12 5A 5F 5F 5F 61 5B 31 70 5B 12 67 62 5B 31 70 5B 12 4E 4F 50 45 63 5B 31 70 8E 63 5B 31 70 5B 12 58 5F 5F 5F 58 5F"
    ++ hex "5F 5F 5B 31 70 8E 62 5B 31 14 10 4E 5F 5F 5F 00 A4 5B 12 4E 4F 50 45 83 0A 05 14 0D 4F 5F 5F 5F 00 A4 5B 12 83 0A 05 60"
    ++ hex "14 0C 51 5F 5F 5F 00 A4 5B 12 5B 31 00 14 14 54 5F 5F 5F 00 A4 5B 12 4E 4F 50 45 88 11 02 00 5B 33 00")

abbrev condrefof_asked : Asked
condrefof_asked = record {
  there = present_ones (externals condrefof) ([]);
  bound = 8;
  answers = ((number 1) ∷ []);
  calls = (call (codes "M___" ∷ []) ([]) ∷ call (codes "N___" ∷ []) ([]) ∷ call (codes "O___" ∷ []) ([]) ∷ call (codes "Q___" ∷ []) ([]) ∷ call (codes "T___" ∷ []) ([]) ∷ []);
  paths = ((codes "X___" ∷ []) ∷ []);
}

abbrev condrefof_told : Told
condrefof_told = record {
  results = ((Done (Normal false)) ∷ (Done NoValue) ∷ (faults Fault.WrongType) ∷ (faults Fault.WrongType) ∷ (faults Fault.WrongType) ∷ (faults Fault.OutOfRange) ∷ []);
  events = ((E.Debug (number 0xFFFFFFFFFFFFFFFF)) ∷ (E.Debug (number 5)) ∷ (E.Debug (number 0xFFFFFFFFFFFFFFFF)) ∷ (E.Debug (number 0xFFFFFFFFFFFFFFFF)) ∷ (E.Debug (number 0)) ∷ (E.Debug (number 0)) ∷ (E.Debug (number 0xFFFFFFFFFFFFFFFF)) ∷ (E.Debug (number 0)) ∷ E.Timer ∷ []);
  left = ([]);
  values = (Some (number 5) ∷ []);
}

condrefof_encoded : written_whole W64 fields condrefof ≡ condrefof_table
condrefof_encoded = refl

condrefof_right : name_errors condrefof ++ type_errors condrefof ≡ []
condrefof_right = refl

condrefof_by_source : of_source W64 condrefof condrefof_asked ≡ condrefof_told
condrefof_by_source = refl

condrefof_by_bytes : of_bytes condrefof_table condrefof_asked ≡ condrefof_told
unfolding code_front
condrefof_by_bytes = refl

-- refs of locals
-- Method (S1, 2) { Arg0 = Arg1 Return (Arg0) } Method (M) { Local0 = 1 S1 (RefOf (Local0), Package () {2}) Debug = Local0 S1 (RefOf
-- (Local0), RefOf (Local0)) Return (ObjectType (Local0)) } Method (N, 1) { S1 (RefOf (Arg0), 5) Return (Arg0) } Method (O) { Local0 =
-- RefOf (Local0) Return (DerefOf (Local0)) } Method (Q) { Local0 = RefOf (Local1) Return (DerefOf (Local0)) }
abbrev refs_of_locals : Trees
refs_of_locals = (terms ((Method at (one "S1__") 2 (terms ((Assigned (arg 0) (arg 1)) ∷ (Return (arg 0)) ∷ []))) ∷ (Method at (one "M___") 0 (terms ((Assigned (local 0) (Integer 1)) ∷ (Call at (one "S1__") (terms ((Apply (Plain.Data DataOp.RefOf) (terms ((local 0) ∷ [])) no_trees) ∷ (Package 1 (terms ((Integer 2) ∷ []))) ∷ []))) ∷ (Assigned DebugTerm (local 0)) ∷ (Call at (one "S1__") (terms ((Apply (Plain.Data DataOp.RefOf) (terms ((local 0) ∷ [])) no_trees) ∷ (Apply (Plain.Data DataOp.RefOf) (terms ((local 0) ∷ [])) no_trees) ∷ []))) ∷ (Return (Apply (Plain.Data DataOp.ObjectType) (terms ((local 0) ∷ [])) no_trees)) ∷ []))) ∷ (Method at (one "N___") 1 (terms ((Call at (one "S1__") (terms ((Apply (Plain.Data DataOp.RefOf) (terms ((arg 0) ∷ [])) no_trees) ∷ (Integer 5) ∷ []))) ∷ (Return (arg 0)) ∷ []))) ∷ (Method at (one "O___") 0 (terms ((Assigned (local 0) (Apply (Plain.Data DataOp.RefOf) (terms ((local 0) ∷ [])) no_trees)) ∷ (Return (Apply (Plain.Data DataOp.DerefOf) (terms ((local 0) ∷ [])) no_trees)) ∷ []))) ∷ (Method at (one "Q___") 0 (terms ((Assigned (local 0) (Apply (Plain.Data DataOp.RefOf) (terms ((local 1) ∷ [])) no_trees)) ∷ (Return (Apply (Plain.Data DataOp.DerefOf) (terms ((local 0) ∷ [])) no_trees)) ∷ []))) ∷ []))

abbrev refs_of_locals_table : List ℕ
refs_of_locals_table =
    table_bytes fields (hex "14 0B 53 31 5F 5F 02 70 69 68 A4 68 14 23 4D 5F 5F 5F 00 70 01 60 53 31 5F 5F 71 60 12 04 01 0A 02 70 60 5B 31 53 31 5F"
    ++ hex "5F 71 60 71 60 A4 8E 60 14 10 4E 5F 5F 5F 01 53 31 5F 5F 71 68 0A 05 A4 68 14 0D 4F 5F 5F 5F 00 70 71 60 60 A4 83 60 14"
    ++ hex "0D 51 5F 5F 5F 00 70 71 61 60 A4 83 60")

abbrev refs_of_locals_asked : Asked
refs_of_locals_asked = record {
  there = present_ones (externals refs_of_locals) ([]);
  bound = 8;
  answers = ([]);
  calls = (call (codes "M___" ∷ []) ([]) ∷ call (codes "N___" ∷ []) ((number 1) ∷ []) ∷ call (codes "O___" ∷ []) ([]) ∷ call (codes "Q___" ∷ []) ([]) ∷ []);
  paths = ([]);
}

abbrev refs_of_locals_told : Told
refs_of_locals_told = record {
  results = ((Done (Normal false)) ∷ (faults Fault.WrongType) ∷ (gives (number 5)) ∷ (gives (reference (LocalOf 6 0))) ∷ (faults Fault.Uninitialized) ∷ []);
  events = ((E.Debug (V.Package (element (number 2) no_elements))) ∷ []);
  left = ([]);
  values = ([]);
}

refs_of_locals_encoded : written_whole W64 fields refs_of_locals ≡ refs_of_locals_table
refs_of_locals_encoded = refl

refs_of_locals_right : name_errors refs_of_locals ++ type_errors refs_of_locals ≡ []
refs_of_locals_right = refl

refs_of_locals_by_source : of_source W64 refs_of_locals refs_of_locals_asked ≡ refs_of_locals_told
refs_of_locals_by_source = refl

refs_of_locals_by_bytes : of_bytes refs_of_locals_table refs_of_locals_asked ≡ refs_of_locals_told
unfolding code_front
refs_of_locals_by_bytes = refl

-- arg refs to arg
-- Method (S, 2) { Arg0 = Arg1 } Method (K, 1) { S (RefOf (Arg0), "new") Return (Arg0) } Method (M) { Return (K (5)) } Method (N) { Name
-- (X, 3) K (RefOf (X)) Return (X) }
abbrev arg_refs_to_arg : Trees
arg_refs_to_arg = (terms ((Method at (one "S___") 2 (terms ((Assigned (arg 0) (arg 1)) ∷ []))) ∷ (Method at (one "K___") 1 (terms ((Call at (one "S___") (terms ((Apply (Plain.Data DataOp.RefOf) (terms ((arg 0) ∷ [])) no_trees) ∷ (String (codes "new")) ∷ []))) ∷ (Return (arg 0)) ∷ []))) ∷ (Method at (one "M___") 0 (terms ((Return (Call at (one "K___") (terms ((Integer 5) ∷ [])))) ∷ []))) ∷ (Method at (one "N___") 0 (terms ((Name at (one "X___") (Integer 3)) ∷ (Call at (one "K___") (terms ((Apply (Plain.Data DataOp.RefOf) (terms ((Use at (one "X___")) ∷ [])) no_trees) ∷ []))) ∷ (Return (Use at (one "X___"))) ∷ []))) ∷ []))

abbrev arg_refs_to_arg_table : List ℕ
arg_refs_to_arg_table =
    table_bytes fields (hex "14 09 53 5F 5F 5F 02 70 69 68 14 13 4B 5F 5F 5F 01 53 5F 5F 5F 71 68 0D 6E 65 77 00 A4 68 14 0D 4D 5F 5F 5F 00 A4 4B 5F"
    ++ hex "5F 5F 0A 05 14 1B 4E 5F 5F 5F 00 08 58 5F 5F 5F 0A 03 4B 5F 5F 5F 71 58 5F 5F 5F A4 58 5F 5F 5F")

abbrev arg_refs_to_arg_asked : Asked
arg_refs_to_arg_asked = record {
  there = present_ones (externals arg_refs_to_arg) ([]);
  bound = 8;
  answers = ([]);
  calls = (call (codes "M___" ∷ []) ([]) ∷ call (codes "N___" ∷ []) ([]) ∷ []);
  paths = ([]);
}

abbrev arg_refs_to_arg_told : Told
arg_refs_to_arg_told = record {
  results = ((Done (Normal false)) ∷ (gives (Data (V.String (110 ∷ 101 ∷ 119 ∷ [])))) ∷ (gives (number 3)) ∷ []);
  events = ([]);
  left = ([]);
  values = ([]);
}

arg_refs_to_arg_encoded : written_whole W64 fields arg_refs_to_arg ≡ arg_refs_to_arg_table
arg_refs_to_arg_encoded = refl

arg_refs_to_arg_right : name_errors arg_refs_to_arg ++ type_errors arg_refs_to_arg ≡ []
arg_refs_to_arg_right = refl

arg_refs_to_arg_by_source : of_source W64 arg_refs_to_arg arg_refs_to_arg_asked ≡ arg_refs_to_arg_told
arg_refs_to_arg_by_source = refl

arg_refs_to_arg_by_bytes : of_bytes arg_refs_to_arg_table arg_refs_to_arg_asked ≡ arg_refs_to_arg_told
unfolding code_front
arg_refs_to_arg_by_bytes = refl

-- uninitialized args/locals
-- Method (F, 1) { Return (Arg0) } Method (M) { F (Local0) } Method (N) { Local1 = Local0 } Method (O) { Return (SizeOf (Local0)) } Method
-- (Q) { Return (ObjectType (Local0)) } Method (T) { Local0 [0] = 1 } Method (U) { Local1 = RefOf (Local0) Return (DerefOf (Local1)) }
-- Method (W) { Local1 = RefOf (Local0) Name (X, 1) X = Local1 }
abbrev uninitialized_args_locals : Trees
uninitialized_args_locals = (terms ((Method at (one "F___") 1 (terms ((Return (arg 0)) ∷ []))) ∷ (Method at (one "M___") 0 (terms ((Call at (one "F___") (terms ((local 0) ∷ []))) ∷ []))) ∷ (Method at (one "N___") 0 (terms ((Assigned (local 1) (local 0)) ∷ []))) ∷ (Method at (one "O___") 0 (terms ((Return (Apply (Plain.Data DataOp.SizeOf) (terms ((local 0) ∷ [])) no_trees)) ∷ []))) ∷ (Method at (one "Q___") 0 (terms ((Return (Apply (Plain.Data DataOp.ObjectType) (terms ((local 0) ∷ [])) no_trees)) ∷ []))) ∷ (Method at (one "T___") 0 (terms ((Assigned (Operated (Plain.Data DataOp.Index) (terms ((local 0) ∷ (Integer 0) ∷ []))) (Integer 1)) ∷ []))) ∷ (Method at (one "U___") 0 (terms ((Assigned (local 1) (Apply (Plain.Data DataOp.RefOf) (terms ((local 0) ∷ [])) no_trees)) ∷ (Return (Apply (Plain.Data DataOp.DerefOf) (terms ((local 1) ∷ [])) no_trees)) ∷ []))) ∷ (Method at (one "W___") 0 (terms ((Assigned (local 1) (Apply (Plain.Data DataOp.RefOf) (terms ((local 0) ∷ [])) no_trees)) ∷ (Name at (one "X___") (Integer 1)) ∷ (Assigned (Use at (one "X___")) (local 1)) ∷ []))) ∷ []))

abbrev uninitialized_args_locals_table : List ℕ
uninitialized_args_locals_table =
    table_bytes fields (hex "14 08 46 5F 5F 5F 01 A4 68 14 0B 4D 5F 5F 5F 00 46 5F 5F 5F 60 14 09 4E 5F 5F 5F 00 70 60 61 14 09 4F 5F 5F 5F 00 A4 87"
    ++ hex "60 14 09 51 5F 5F 5F 00 A4 8E 60 14 0C 54 5F 5F 5F 00 70 01 88 60 00 00 14 0D 55 5F 5F 5F 00 70 71 60 61 A4 83 61 14 16"
    ++ hex "57 5F 5F 5F 00 70 71 60 61 08 58 5F 5F 5F 01 70 61 58 5F 5F 5F")

abbrev uninitialized_args_locals_asked : Asked
uninitialized_args_locals_asked = record {
  there = present_ones (externals uninitialized_args_locals) ([]);
  bound = 8;
  answers = ([]);
  calls = (call (codes "M___" ∷ []) ([]) ∷ call (codes "N___" ∷ []) ([]) ∷ call (codes "O___" ∷ []) ([]) ∷ call (codes "Q___" ∷ []) ([]) ∷ call (codes "T___" ∷ []) ([]) ∷ call (codes "U___" ∷ []) ([]) ∷ call (codes "W___" ∷ []) ([]) ∷ []);
  paths = ([]);
}

abbrev uninitialized_args_locals_told : Told
uninitialized_args_locals_told = record {
  results = ((Done (Normal false)) ∷ (faults Fault.Uninitialized) ∷ (faults Fault.Uninitialized) ∷ (faults Fault.WrongType) ∷ (gives (number 0)) ∷ (faults Fault.Uninitialized) ∷ (faults Fault.Uninitialized) ∷ (faults Fault.Uninitialized) ∷ []);
  events = ([]);
  left = ([]);
  values = ([]);
}

uninitialized_args_locals_encoded : written_whole W64 fields uninitialized_args_locals ≡ uninitialized_args_locals_table
uninitialized_args_locals_encoded = refl

uninitialized_args_locals_right : name_errors uninitialized_args_locals ++ type_errors uninitialized_args_locals ≡ []
uninitialized_args_locals_right = refl

uninitialized_args_locals_by_source : of_source W64 uninitialized_args_locals uninitialized_args_locals_asked ≡ uninitialized_args_locals_told
uninitialized_args_locals_by_source = refl

uninitialized_args_locals_by_bytes : of_bytes uninitialized_args_locals_table uninitialized_args_locals_asked ≡ uninitialized_args_locals_told
unfolding code_front
uninitialized_args_locals_by_bytes = refl

-- stores of refs
-- Name (X, 5) Name (P1, Package () {1, 2}) Name (Y, 0) Method (M) { Y = RefOf (X) Debug = Y P1 [0] = RefOf (X) Debug = P1 Local0 = RefOf
-- (Local1) Y = Local0 } Method (N) { Local1 = RefOf (X) Local0 = RefOf (Local1) P1 [1] = Local0 Debug = P1 Y = Local0 }
abbrev stores_of_refs : Trees
stores_of_refs = (terms ((Name at (one "X___") (Integer 5)) ∷ (Name at (one "P1__") (Package 2 (terms ((Integer 1) ∷ (Integer 2) ∷ [])))) ∷ (Name at (one "Y___") (Integer 0)) ∷ (Method at (one "M___") 0 (terms ((Assigned (Use at (one "Y___")) (Apply (Plain.Data DataOp.RefOf) (terms ((Use at (one "X___")) ∷ [])) no_trees)) ∷ (Assigned DebugTerm (Use at (one "Y___"))) ∷ (Assigned (Operated (Plain.Data DataOp.Index) (terms ((Use at (one "P1__")) ∷ (Integer 0) ∷ []))) (Apply (Plain.Data DataOp.RefOf) (terms ((Use at (one "X___")) ∷ [])) no_trees)) ∷ (Assigned DebugTerm (Use at (one "P1__"))) ∷ (Assigned (local 0) (Apply (Plain.Data DataOp.RefOf) (terms ((local 1) ∷ [])) no_trees)) ∷ (Assigned (Use at (one "Y___")) (local 0)) ∷ []))) ∷ (Method at (one "N___") 0 (terms ((Assigned (local 1) (Apply (Plain.Data DataOp.RefOf) (terms ((Use at (one "X___")) ∷ [])) no_trees)) ∷ (Assigned (local 0) (Apply (Plain.Data DataOp.RefOf) (terms ((local 1) ∷ [])) no_trees)) ∷ (Assigned (Operated (Plain.Data DataOp.Index) (terms ((Use at (one "P1__")) ∷ (Integer 1) ∷ []))) (local 0)) ∷ (Assigned DebugTerm (Use at (one "P1__"))) ∷ (Assigned (Use at (one "Y___")) (local 0)) ∷ []))) ∷ []))

abbrev stores_of_refs_table : List ℕ
stores_of_refs_table =
    table_bytes fields (hex "08 58 5F 5F 5F 0A 05 08 50 31 5F 5F 12 05 02 01 0A 02 08 59 5F 5F 5F 00 14 35 4D 5F 5F 5F 00 70 71 58 5F 5F 5F 59 5F 5F"
    ++ hex "5F 70 59 5F 5F 5F 5B 31 70 71 58 5F 5F 5F 88 50 31 5F 5F 00 00 70 50 31 5F 5F 5B 31 70 71 61 60 70 60 59 5F 5F 5F 14 27"
    ++ hex "4E 5F 5F 5F 00 70 71 58 5F 5F 5F 61 70 71 61 60 70 60 88 50 31 5F 5F 01 00 70 50 31 5F 5F 5B 31 70 60 59 5F 5F 5F")

abbrev stores_of_refs_asked : Asked
stores_of_refs_asked = record {
  there = present_ones (externals stores_of_refs) ([]);
  bound = 8;
  answers = ([]);
  calls = (call (codes "M___" ∷ []) ([]) ∷ call (codes "N___" ∷ []) ([]) ∷ []);
  paths = ((codes "Y___" ∷ []) ∷ (codes "P1__" ∷ []) ∷ (codes "X___" ∷ []) ∷ []);
}

abbrev stores_of_refs_told : Told
stores_of_refs_told = record {
  results = ((Done (Normal false)) ∷ (faults Fault.Uninitialized) ∷ (faults Fault.WrongType) ∷ []);
  events = ((E.Debug (number 5)) ∷ (E.Debug (V.Package (element (number 5) (element (number 2) no_elements)))) ∷ (E.Debug (V.Package (element (number 5) (element (reference (Named (codes "X___" ∷ []))) no_elements)))) ∷ []);
  left = ([]);
  values = (Some (number 5) ∷ Some (V.Package (element (number 5) (element (reference (Named (codes "X___" ∷ []))) no_elements))) ∷ Some (number 5) ∷ []);
}

stores_of_refs_encoded : written_whole W64 fields stores_of_refs ≡ stores_of_refs_table
stores_of_refs_encoded = refl

stores_of_refs_right : name_errors stores_of_refs ++ type_errors stores_of_refs ≡ []
stores_of_refs_right = refl

stores_of_refs_by_source : of_source W64 stores_of_refs stores_of_refs_asked ≡ stores_of_refs_told
stores_of_refs_by_source = refl

stores_of_refs_by_bytes : of_bytes stores_of_refs_table stores_of_refs_asked ≡ stores_of_refs_told
unfolding code_front
stores_of_refs_by_bytes = refl

-- args stores local copy
-- Name (B, Buffer () {1,2}) Method (T, 1) { Arg0 [0] = 9 Return (Arg0) } Method (M) { Debug = T (B) Debug = T (RefOf (B)) Return (B) }
abbrev args_stores_local_copy : Trees
args_stores_local_copy = (terms ((Name at (one "B___") (Buffer (Integer 2) (1 ∷ 2 ∷ []))) ∷ (Method at (one "T___") 1 (terms ((Assigned (Operated (Plain.Data DataOp.Index) (terms ((arg 0) ∷ (Integer 0) ∷ []))) (Integer 9)) ∷ (Return (arg 0)) ∷ []))) ∷ (Method at (one "M___") 0 (terms ((Assigned DebugTerm (Call at (one "T___") (terms ((Use at (one "B___")) ∷ [])))) ∷ (Assigned DebugTerm (Call at (one "T___") (terms ((Apply (Plain.Data DataOp.RefOf) (terms ((Use at (one "B___")) ∷ [])) no_trees) ∷ [])))) ∷ (Return (Use at (one "B___"))) ∷ []))) ∷ []))

abbrev args_stores_local_copy_table : List ℕ
args_stores_local_copy_table =
    table_bytes fields (hex "08 42 5F 5F 5F 11 05 0A 02 01 02 14 0F 54 5F 5F 5F 01 70 0A 09 88 68 00 00 A4 68 14 22 4D 5F 5F 5F 00 70 54 5F 5F 5F 42"
    ++ hex "5F 5F 5F 5B 31 70 54 5F 5F 5F 71 42 5F 5F 5F 5B 31 A4 42 5F 5F 5F")

abbrev args_stores_local_copy_asked : Asked
args_stores_local_copy_asked = record {
  there = present_ones (externals args_stores_local_copy) ([]);
  bound = 8;
  answers = ([]);
  calls = (call (codes "M___" ∷ []) ([]) ∷ []);
  paths = ((codes "B___" ∷ []) ∷ []);
}

abbrev args_stores_local_copy_told : Told
args_stores_local_copy_told = record {
  results = ((Done (Normal false)) ∷ (gives (Data (V.Buffer (9 ∷ 2 ∷ [])))) ∷ []);
  events = ((E.Debug (Data (V.Buffer (9 ∷ 2 ∷ [])))) ∷ (E.Debug (Data (V.Buffer (9 ∷ 2 ∷ [])))) ∷ []);
  left = ([]);
  values = (Some (Data (V.Buffer (9 ∷ 2 ∷ []))) ∷ []);
}

args_stores_local_copy_encoded : written_whole W64 fields args_stores_local_copy ≡ args_stores_local_copy_table
args_stores_local_copy_encoded = refl

args_stores_local_copy_right : name_errors args_stores_local_copy ++ type_errors args_stores_local_copy ≡ []
args_stores_local_copy_right = refl

args_stores_local_copy_by_source : of_source W64 args_stores_local_copy args_stores_local_copy_asked ≡ args_stores_local_copy_told
args_stores_local_copy_by_source = refl

args_stores_local_copy_by_bytes : of_bytes args_stores_local_copy_table args_stores_local_copy_asked ≡ args_stores_local_copy_told
unfolding code_front
args_stores_local_copy_by_bytes = refl

-- load local refs
-- Local0 = 5 Name (RL, Package () {1}) RL [0] = RefOf (Local0) CopyObject (RefOf (Local0), RL) Method (M) { Return (DerefOf (RL)) } Method
-- (N) { DerefOf (RL) = 6 Return (DerefOf (RL)) }
abbrev load_local_refs : Trees
load_local_refs = (terms ((Assigned (local 0) (Integer 5)) ∷ (Name at (one "RL__") (Package 1 (terms ((Integer 1) ∷ [])))) ∷ (Assigned (Operated (Plain.Data DataOp.Index) (terms ((Use at (one "RL__")) ∷ (Integer 0) ∷ []))) (Apply (Plain.Data DataOp.RefOf) (terms ((local 0) ∷ [])) no_trees)) ∷ (Apply (Plain.Data DataOp.CopyObject) (terms ((Apply (Plain.Data DataOp.RefOf) (terms ((local 0) ∷ [])) no_trees) ∷ (Use at (one "RL__")) ∷ [])) no_trees) ∷ (Method at (one "M___") 0 (terms ((Return (Apply (Plain.Data DataOp.DerefOf) (terms ((Use at (one "RL__")) ∷ [])) no_trees)) ∷ []))) ∷ (Method at (one "N___") 0 (terms ((Assigned (Apply (Plain.Data DataOp.DerefOf) (terms ((Use at (one "RL__")) ∷ [])) no_trees) (Integer 6)) ∷ (Return (Apply (Plain.Data DataOp.DerefOf) (terms ((Use at (one "RL__")) ∷ [])) no_trees)) ∷ []))) ∷ []))

abbrev load_local_refs_table : List ℕ
load_local_refs_table =
    table_bytes fields (hex "70 0A 05 60 08 52 4C 5F 5F 12 03 01 01 70 71 60 88 52 4C 5F 5F 00 00 9D 71 60 52 4C 5F 5F 14 0C 4D 5F 5F 5F 00 A4 83 52"
    ++ hex "4C 5F 5F 14 14 4E 5F 5F 5F 00 70 0A 06 83 52 4C 5F 5F A4 83 52 4C 5F 5F")

abbrev load_local_refs_asked : Asked
load_local_refs_asked = record {
  there = present_ones (externals load_local_refs) ([]);
  bound = 8;
  answers = ([]);
  calls = (call (codes "M___" ∷ []) ([]) ∷ call (codes "N___" ∷ []) ([]) ∷ []);
  paths = ((codes "RL__" ∷ []) ∷ []);
}

abbrev load_local_refs_told : Told
load_local_refs_told = record {
  results = ((Done (Normal false)) ∷ (gives (number 5)) ∷ (gives (number 6)) ∷ []);
  events = ([]);
  left = ([]);
  values = (Some (reference (LocalOf 0 0)) ∷ []);
}

load_local_refs_encoded : written_whole W64 fields load_local_refs ≡ load_local_refs_table
load_local_refs_encoded = refl

load_local_refs_right : name_errors load_local_refs ++ type_errors load_local_refs ≡ []
load_local_refs_right = refl

load_local_refs_by_source : of_source W64 load_local_refs load_local_refs_asked ≡ load_local_refs_told
load_local_refs_by_source = refl

load_local_refs_by_bytes : of_bytes load_local_refs_table load_local_refs_asked ≡ load_local_refs_told
unfolding code_front
load_local_refs_by_bytes = refl

-- element of gone local
-- Method (K) { Local0 = Package () {1} Return (Local0 [0]) } Method (M) { Local0 = K () Return (DerefOf (Local0)) } Method (N) { Local0 =
-- K () DerefOf (Local0) = 3 }
abbrev element_of_gone_local : Trees
element_of_gone_local = (terms ((Method at (one "K___") 0 (terms ((Assigned (local 0) (Package 1 (terms ((Integer 1) ∷ [])))) ∷ (Return (Operated (Plain.Data DataOp.Index) (terms ((local 0) ∷ (Integer 0) ∷ [])))) ∷ []))) ∷ (Method at (one "M___") 0 (terms ((Assigned (local 0) (Call at (one "K___") no_trees)) ∷ (Return (Apply (Plain.Data DataOp.DerefOf) (terms ((local 0) ∷ [])) no_trees)) ∷ []))) ∷ (Method at (one "N___") 0 (terms ((Assigned (local 0) (Call at (one "K___") no_trees)) ∷ (Assigned (Apply (Plain.Data DataOp.DerefOf) (terms ((local 0) ∷ [])) no_trees) (Integer 3)) ∷ []))) ∷ []))

abbrev element_of_gone_local_table : List ℕ
element_of_gone_local_table =
    table_bytes fields (hex "14 11 4B 5F 5F 5F 00 70 12 03 01 01 60 A4 88 60 00 00 14 0F 4D 5F 5F 5F 00 70 4B 5F 5F 5F 60 A4 83 60 14 11 4E 5F 5F 5F"
    ++ hex "00 70 4B 5F 5F 5F 60 70 0A 03 83 60")

abbrev element_of_gone_local_asked : Asked
element_of_gone_local_asked = record {
  there = present_ones (externals element_of_gone_local) ([]);
  bound = 8;
  answers = ([]);
  calls = (call (codes "M___" ∷ []) ([]) ∷ call (codes "N___" ∷ []) ([]) ∷ []);
  paths = ([]);
}

abbrev element_of_gone_local_told : Told
element_of_gone_local_told = record {
  results = ((Done (Normal false)) ∷ (faults Fault.NotFound) ∷ (faults Fault.NotFound) ∷ []);
  events = ([]);
  left = ([]);
  values = ([]);
}

element_of_gone_local_encoded : written_whole W64 fields element_of_gone_local ≡ element_of_gone_local_table
element_of_gone_local_encoded = refl

element_of_gone_local_right : name_errors element_of_gone_local ++ type_errors element_of_gone_local ≡ []
element_of_gone_local_right = refl

element_of_gone_local_by_source : of_source W64 element_of_gone_local element_of_gone_local_asked ≡ element_of_gone_local_told
element_of_gone_local_by_source = refl

element_of_gone_local_by_bytes : of_bytes element_of_gone_local_table element_of_gone_local_asked ≡ element_of_gone_local_told
unfolding code_front
element_of_gone_local_by_bytes = refl

-- alias in callee
-- Name (G, 1) Method (M) { Alias (G, H) H = 5 Debug = H Debug = CondRefOf (H, Local0) Debug = DerefOf (Local0) } Method (N) { Return (G) }
abbrev alias_in_callee : Trees
alias_in_callee = (terms ((Name at (one "G___") (Integer 1)) ∷ (Method at (one "M___") 0 (terms ((Alias at (one "G___") at (one "H___")) ∷ (Assigned (Use at (one "H___")) (Integer 5)) ∷ (Assigned DebugTerm (Use at (one "H___"))) ∷ (Assigned DebugTerm (CondRefOf (Use at (one "H___")) (local 0))) ∷ (Assigned DebugTerm (Apply (Plain.Data DataOp.DerefOf) (terms ((local 0) ∷ [])) no_trees)) ∷ []))) ∷ (Method at (one "N___") 0 (terms ((Return (Use at (one "G___"))) ∷ []))) ∷ []))

abbrev alias_in_callee_table : List ℕ
alias_in_callee_table =
    table_bytes fields (hex "08 47 5F 5F 5F 01 14 2C 4D 5F 5F 5F 00 06 47 5F 5F 5F 48 5F 5F 5F 70 0A 05 48 5F 5F 5F 70 48 5F 5F 5F 5B 31 70 5B 12 48"
    ++ hex "5F 5F 5F 60 5B 31 70 83 60 5B 31 14 0B 4E 5F 5F 5F 00 A4 47 5F 5F 5F")

abbrev alias_in_callee_asked : Asked
alias_in_callee_asked = record {
  there = present_ones (externals alias_in_callee) ([]);
  bound = 8;
  answers = ([]);
  calls = (call (codes "M___" ∷ []) ([]) ∷ call (codes "N___" ∷ []) ([]) ∷ []);
  paths = ((codes "G___" ∷ []) ∷ []);
}

abbrev alias_in_callee_told : Told
alias_in_callee_told = record {
  results = ((Done (Normal false)) ∷ (Done NoValue) ∷ (gives (number 5)) ∷ []);
  events = ((E.Debug (number 5)) ∷ (E.Debug (number 0xFFFFFFFFFFFFFFFF)) ∷ (E.Debug (number 5)) ∷ []);
  left = ([]);
  values = (Some (number 5) ∷ []);
}

alias_in_callee_encoded : written_whole W64 fields alias_in_callee ≡ alias_in_callee_table
alias_in_callee_encoded = refl

alias_in_callee_right : name_errors alias_in_callee ++ type_errors alias_in_callee ≡ []
alias_in_callee_right = refl

alias_in_callee_by_source : of_source W64 alias_in_callee alias_in_callee_asked ≡ alias_in_callee_told
alias_in_callee_by_source = refl

alias_in_callee_by_bytes : of_bytes alias_in_callee_table alias_in_callee_asked ≡ alias_in_callee_told
unfolding code_front
alias_in_callee_by_bytes = refl
