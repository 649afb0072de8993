-- Sessions that make regions and fields of Buffers: the sizes of the latter, wrong operands, and a path that is taken. Worked by hand
-- from the ACPI Specification 6.4, 19.6 (CreateBitField and the others, OperationRegion).
use Rattle.std.proofs.Common.{◌≡◌, ℕ, false, List, [], ◌∷◌, ◌++◌, Some, refl}
use Rattle.acpi_values.specs.declared.width.Width.TheVariants.{W64}
use Rattle.acpi_values.specs.declared.fault.Fault.TheVariants as Fault
use Rattle.acpi_values.specs.declared.operator.IntOp.TheVariants as IntOp
use Rattle.acpi_values.specs.declared.operator.DataOp.TheVariants as DataOp
use Rattle.acpi_values.specs.declared.operator.Plain.TheVariants as Plain
use Rattle.acpi_values.specs.Values.{Named}
use Rattle.acpi_state.specs.Objects as E
use Rattle.acpi_state.specs.FieldActs.{OneBit, OneByte, OneWord, OneDWord, OneQWord, SomeBits}
use Rattle.acpi_state.specs.Outcomes.{Normal, NoValue, Done}
use Rattle.acpi_state.specs.Sessions.{present_ones}
use Rattle.asl_tree.specs.Tree.{Integer, Debug as DebugTerm, Omitted, Use, Apply, Operated, Assigned, Buffer, Return, Name, Method, While}
use Rattle.asl_tree.specs.Tree.{OperationRegion, CreateField, Trees}
use Rattle.asl_meaning.specs.Declarations.{externals}
use Rattle.aml_meaning.specs.Codes.{code_front}
use Rattle.aml_code.specs.Header.{table_bytes}
use Rattle.acpi_names.specs.Errors.{name_errors, type_errors}
use Rattle.meaning_rows.proofs.Rows.{at, fields}
use Rattle.meaning_rows.proofs.Outside.{hex, number, buffer, packaged, at_root, reference, call, Asked, Told, gives, faults, of_bytes}
use Rattle.meaning_rows.proofs.Outside.{of_source, written_whole, terms, one, local, arg}

-- Each ends with the Buffer's last bit
-- Name (B, Buffer () { 0xFF, 0xFF, 0xFF, 0xFF, 0xFF, 0xFF, 0xFF, 0xFF, 0xFF }) CreateBitField (B, 71, F0) CreateByteField (B, 8, F1)
-- CreateWordField (B, 7, F2) CreateDWordField (B, 5, F4) CreateQWordField (B, 1, F8) Method (M) { Debug = F0 Debug = F1 Debug = F2 Debug
-- = F4 Debug = F8 }
abbrev sizes_of_fields : Trees
sizes_of_fields = (terms ((Name at (one "B___") (Buffer (Integer 9) (255 ∷ 255 ∷ 255 ∷ 255 ∷ 255 ∷ 255 ∷ 255 ∷ 255 ∷ 255 ∷ []))) ∷ (CreateField OneBit (terms ((Use at (one "B___")) ∷ (Integer 71) ∷ [])) at (one "F0__")) ∷ (CreateField OneByte (terms ((Use at (one "B___")) ∷ (Integer 8) ∷ [])) at (one "F1__")) ∷ (CreateField OneWord (terms ((Use at (one "B___")) ∷ (Integer 7) ∷ [])) at (one "F2__")) ∷ (CreateField OneDWord (terms ((Use at (one "B___")) ∷ (Integer 5) ∷ [])) at (one "F4__")) ∷ (CreateField OneQWord (terms ((Use at (one "B___")) ∷ (Integer 1) ∷ [])) at (one "F8__")) ∷ (Method at (one "M___") 0 (terms ((Assigned DebugTerm (Use at (one "F0__"))) ∷ (Assigned DebugTerm (Use at (one "F1__"))) ∷ (Assigned DebugTerm (Use at (one "F2__"))) ∷ (Assigned DebugTerm (Use at (one "F4__"))) ∷ (Assigned DebugTerm (Use at (one "F8__"))) ∷ []))) ∷ []))

abbrev sizes_of_fields_table : List ℕ
sizes_of_fields_table =
    table_bytes fields (hex "08 42 5F 5F 5F 11 0C 0A 09 FF FF FF FF FF FF FF FF FF 8D 42 5F 5F 5F 0A 47 46 30 5F 5F 8C 42 5F 5F 5F 0A 08 46 31 5F 5F"
    ++ hex "8B 42 5F 5F 5F 0A 07 46 32 5F 5F 8A 42 5F 5F 5F 0A 05 46 34 5F 5F 8F 42 5F 5F 5F 01 46 38 5F 5F 14 29 4D 5F 5F 5F 00 70"
    ++ hex "46 30 5F 5F 5B 31 70 46 31 5F 5F 5B 31 70 46 32 5F 5F 5B 31 70 46 34 5F 5F 5B 31 70 46 38 5F 5F 5B 31")

abbrev sizes_of_fields_asked : Asked
sizes_of_fields_asked = record {
  there = present_ones (externals sizes_of_fields) ([]);
  bound = 8;
  answers = ([]);
  calls = (call (at_root "M___") [] ∷ []);
  paths = ([]);
}

abbrev sizes_of_fields_told : Told
sizes_of_fields_told = record {
  results = ((Done (Normal false)) ∷ (Done NoValue) ∷ []);
  events = ((E.Debug (number 1)) ∷ (E.Debug (number 255)) ∷ (E.Debug (number 0xFFFF)) ∷ (E.Debug (number 0xFFFFFFFF)) ∷ (E.Debug (number 0xFFFFFFFFFFFFFFFF)) ∷ []);
  left = ([]);
  values = ([]);
}

sizes_of_fields_encoded : written_whole W64 fields sizes_of_fields ≡ sizes_of_fields_table
sizes_of_fields_encoded = refl

sizes_of_fields_right : name_errors sizes_of_fields ++ type_errors sizes_of_fields ≡ []
sizes_of_fields_right = refl

sizes_of_fields_by_source : of_source W64 sizes_of_fields sizes_of_fields_asked ≡ sizes_of_fields_told
sizes_of_fields_by_source = refl

sizes_of_fields_by_bytes : of_bytes sizes_of_fields_table sizes_of_fields_asked ≡ sizes_of_fields_told
unfolding code_front
sizes_of_fields_by_bytes = refl

-- The first operand's fault is told
-- Name (B, Buffer (2) {}) Method (A, 2) { OperationRegion (R, SystemIO, Arg0, Arg1) } Method (C, 2) { CreateField (B, Arg0, Arg1, F) }
abbrev faults_in_making : Trees
faults_in_making = (terms ((Name at (one "B___") (Buffer (Integer 2) ([]))) ∷ (Method at (one "A___") 2 (terms ((OperationRegion at (one "R___") 1 (terms ((arg 0) ∷ (arg 1) ∷ []))) ∷ []))) ∷ (Method at (one "C___") 2 (terms ((CreateField SomeBits (terms ((Use at (one "B___")) ∷ (arg 0) ∷ (arg 1) ∷ [])) at (one "F___")) ∷ []))) ∷ []))

abbrev faults_in_making_table : List ℕ
faults_in_making_table =
    table_bytes fields (hex "08 42 5F 5F 5F 11 03 0A 02 14 0F 41 5F 5F 5F 02 5B 80 52 5F 5F 5F 01 68 69 14 12 43 5F 5F 5F 02 5B 13 42 5F 5F 5F 68 69"
    ++ hex "46 5F 5F 5F")

abbrev faults_in_making_asked : Asked
faults_in_making_asked = record {
  there = present_ones (externals faults_in_making) ([]);
  bound = 8;
  answers = ([]);
  calls = (call (at_root "A___") ((packaged ((number 1) ∷ [])) ∷ (reference (Named (at_root "NONE"))) ∷ []) ∷ call (at_root "A___") ((reference (Named (at_root "NONE"))) ∷ (packaged ((number 1) ∷ [])) ∷ []) ∷ call (at_root "C___") ((packaged ((number 1) ∷ [])) ∷ (reference (Named (at_root "NONE"))) ∷ []) ∷ call (at_root "C___") ((reference (Named (at_root "NONE"))) ∷ (packaged ((number 1) ∷ [])) ∷ []) ∷ []);
  paths = ([]);
}

abbrev faults_in_making_told : Told
faults_in_making_told = record {
  results = ((Done (Normal false)) ∷ (faults Fault.WrongType) ∷ (faults Fault.NotFound) ∷ (faults Fault.WrongType) ∷ (faults Fault.NotFound) ∷ []);
  events = ([]);
  left = ([]);
  values = ([]);
}

faults_in_making_encoded : written_whole W64 fields faults_in_making ≡ faults_in_making_table
faults_in_making_encoded = refl

faults_in_making_right : name_errors faults_in_making ++ type_errors faults_in_making ≡ []
faults_in_making_right = refl

faults_in_making_by_source : of_source W64 faults_in_making faults_in_making_asked ≡ faults_in_making_told
faults_in_making_by_source = refl

faults_in_making_by_bytes : of_bytes faults_in_making_table faults_in_making_asked ≡ faults_in_making_told
unfolding code_front
faults_in_making_by_bytes = refl

-- The field of the first turn keeps its own Buffer
-- Method (M) { Return (F) } Local0 = 0 While (Local0 < 2) { Local0++ CreateByteField (ToBuffer (Local0), 0, F) }
abbrev made_twice : Trees
made_twice = (terms ((Method at (one "M___") 0 (terms ((Return (Use at (one "F___"))) ∷ []))) ∷ (Assigned (local 0) (Integer 0)) ∷ (While (Operated (Plain.Number IntOp.LLess) (terms ((local 0) ∷ (Integer 2) ∷ []))) (terms ((Operated (Plain.Data DataOp.Increment) (terms ((local 0) ∷ []))) ∷ (CreateField OneByte (terms ((Apply (Plain.Data DataOp.ToBuffer) (terms ((local 0) ∷ [])) (terms ((Omitted) ∷ []))) ∷ (Integer 0) ∷ [])) at (one "F___")) ∷ []))) ∷ []))

abbrev made_twice_table : List ℕ
made_twice_table =
    table_bytes fields (hex "14 0B 4D 5F 5F 5F 00 A4 46 5F 5F 5F 70 00 60 A2 10 95 60 0A 02 75 60 8C 96 60 00 00 46 5F 5F 5F")

abbrev made_twice_asked : Asked
made_twice_asked = record {
  there = present_ones (externals made_twice) ([]);
  bound = 8;
  answers = ([]);
  calls = (call (at_root "M___") [] ∷ []);
  paths = ((at_root "F___") ∷ []);
}

abbrev made_twice_told : Told
made_twice_told = record {
  results = ((faults Fault.AlreadyExists) ∷ (gives (number 1)) ∷ []);
  events = ([]);
  left = ([]);
  values = (Some (buffer "01 00 00 00 00 00 00 00") ∷ []);
}

made_twice_encoded : written_whole W64 fields made_twice ≡ made_twice_table
made_twice_encoded = refl

made_twice_right : name_errors made_twice ++ type_errors made_twice ≡ []
made_twice_right = refl

made_twice_by_source : of_source W64 made_twice made_twice_asked ≡ made_twice_told
made_twice_by_source = refl

made_twice_by_bytes : of_bytes made_twice_table made_twice_asked ≡ made_twice_told
unfolding code_front
made_twice_by_bytes = refl
