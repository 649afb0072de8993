-- Sessions that end in faults, and the order in which operands are asked. Another implementation gives the values.
use Rattle.std.proofs.Common.{◌≡◌, ℕ, false, List, [], ◌∷◌, ◌++◌, None, refl}
use Rattle.std.specs.Prelude.{codes}
use Rattle.acpi_values.specs.declared.width.Width.TheVariants.{W64}
use Rattle.acpi_values.specs.declared.operator.IntOp.TheVariants as IntOp
use Rattle.acpi_values.specs.declared.operator.DataOp.TheVariants as DataOp
use Rattle.acpi_values.specs.declared.fault.Fault.TheVariants as Fault
use Rattle.acpi_values.specs.Values.{Named}
use Rattle.acpi_state.specs.Objects.{ExternalObject, ExternalData}
use Rattle.acpi_state.specs.Outcomes.{NoValue, Normal, Done}
use Rattle.acpi_state.specs.Sessions.{present_ones}
use Rattle.asl_tree.specs.Tree.{Integer, String, Omitted, Raw, Call, Buffer, Return, Name, External, Method, If, While, Assigned, Trees, no_trees}
use Rattle.asl_meaning.specs.Declarations.{externals}
use Rattle.aml_meaning.specs.Codes.{code_front}
use Rattle.acpi_names.specs.Errors.{name_errors, type_errors}
use Rattle.meaning_rows.proofs.Rows.{at}
use Rattle.meaning_rows.proofs.Outside.{hex, table, at_root, number, reference, call, gives, faults, Asked, Told, of_bytes, of_source, written, one, terms, local, arg, symbol, data_op, deref_of, element_of, increment}

-- Each call ends in another way: a name that is declared twice by a call inside a call and by a second turn, too
-- Method (A) { Return (B () + 1) }
-- Method (B) { }
-- Method (C) { Return (ToInteger ("")) }
-- Method (D) { Return (Buffer () {} + 1) }
-- Method (E) { Return (ToInteger ("0x10000000000000000")) }
-- Method (F) { Local0 = Buffer (0x1000001) {} }
-- Method (G) { Local0 = "abc" Return (Local0 [3]) }
-- Method (H, 1) { Name (X, 1) If (Arg0) { H (0) } Return (2) }
-- Method (I) { Local0 = 0 While (Local0 < 2) { Local0++ Name (Y, 1) } }
-- Method (J) { Return (DerefOf ("A")) }
abbrev faulted : Trees
faulted =
    terms
    (Method at (one "A___") 0 (terms (Return (symbol IntOp.Add (Call at (one "B___") no_trees ∷ Integer 1 ∷ [])) ∷ []))
    ∷ Method at (one "B___") 0 no_trees
    ∷ Method at (one "C___") 0 (terms (Return (data_op DataOp.ToInteger (String [] ∷ []) (Omitted ∷ [])) ∷ []))
    ∷ Method at (one "D___") 0 (terms (Return (symbol IntOp.Add (Buffer (Integer 0) [] ∷ Integer 1 ∷ [])) ∷ []))
    ∷ Method at (one "E___") 0
    (terms (Return (data_op DataOp.ToInteger (String (codes "0x10000000000000000") ∷ []) (Omitted ∷ [])) ∷ []))
    ∷ Method at (one "F___") 0 (terms (Assigned (local 0) (Buffer (Integer 0x1000001) []) ∷ []))
    ∷ Method at (one "G___") 0
    (terms (Assigned (local 0) (String (codes "abc")) ∷ Return (element_of (local 0) (Integer 3)) ∷ []))
    ∷ Method at (one "H___") 1
    (terms
    (Name at (one "X___") (Integer 1)
    ∷ If (arg 0) (terms (Call at (one "H___") (terms (Integer 0 ∷ [])) ∷ []))
    ∷ Return (Integer 2) ∷ []))
    ∷ Method at (one "I___") 0
    (terms
    (Assigned (local 0) (Integer 0)
    ∷ While (symbol IntOp.LLess (local 0 ∷ Integer 2 ∷ []))
    (terms (increment (local 0) ∷ Name at (one "Y___") (Integer 1) ∷ [])) ∷ []))
    ∷ Method at (one "J___") 0 (terms (Return (deref_of (String (codes "A"))) ∷ [])) ∷ [])

abbrev faulted_table : List ℕ
faulted_table =
    table "D3 00 00 00 02 0C"
    (hex "14 0E 41 5F 5F 5F 00 A4 72 42 5F 5F 5F 01 00"
    ++ hex "14 06 42 5F 5F 5F 00"
    ++ hex "14 0B 43 5F 5F 5F 00 A4 99 0D 00 00"
    ++ hex "14 0D 44 5F 5F 5F 00 A4 72 11 02 00 01 00"
    ++ hex "14 1E 45 5F 5F 5F 00 A4 99 0D 30 78 31 30 30 30 30 30 30 30 30 30 30 30 30 30 30 30 30 00 00"
    ++ hex "14 0F 46 5F 5F 5F 00 70 11 06 0C 01 00 00 01 60"
    ++ hex "14 13 47 5F 5F 5F 00 70 0D 61 62 63 00 60 A4 88 60 0A 03 00"
    ++ hex "14 17 48 5F 5F 5F 01 08 58 5F 5F 5F 01 A0 07 68 48 5F 5F 5F 00 A4 0A 02"
    ++ hex "14 17 49 5F 5F 5F 00 70 00 60 A2 0D 95 60 0A 02 75 60 08 59 5F 5F 5F 01"
    ++ hex "14 0B 4A 5F 5F 5F 00 A4 83 0D 41 00")

abbrev faulted_asked : Asked
faulted_asked = record {
  there = [];
  bound = 8;
  answers = [];
  calls = call (at_root "A___") [] ∷ call (at_root "B___") [] ∷ call (at_root "C___") [] ∷ call (at_root "D___") []
      ∷ call (at_root "E___") [] ∷ call (at_root "F___") [] ∷ call (at_root "G___") [] ∷ call (at_root "H___") (number 1 ∷ [])
      ∷ call (at_root "H___") (number 0 ∷ []) ∷ call (at_root "I___") [] ∷ call (at_root "J___") [] ∷ [];
  paths = [];
}

abbrev faulted_told : Told
faulted_told = record {
  results = Done (Normal false) ∷ faults Fault.NoValue ∷ Done NoValue ∷ faults Fault.EmptyValue ∷ faults Fault.EmptyValue
      ∷ faults Fault.Size ∷ faults Fault.Size ∷ faults Fault.OutOfRange ∷ faults Fault.AlreadyExists ∷ gives (number 2)
      ∷ faults Fault.AlreadyExists ∷ faults Fault.WrongType ∷ [];
  events = [];
  left = [];
  values = [];
}

faulted_encoded : written faulted ≡ faulted_table
faulted_encoded = refl

faulted_right : name_errors faulted ++ type_errors faulted ≡ []
faulted_right = refl

faulted_by_source : of_source W64 faulted faulted_asked ≡ faulted_told
faulted_by_source = refl

faulted_by_bytes : of_bytes faulted_table faulted_asked ≡ faulted_told
unfolding code_front
faulted_by_bytes = refl

-- The kind of the first operand is asked before another is converted: nothing is read, and both answers are left
-- External (E1, IntObj)
-- Method (A, 2) { Return (Mid (Arg0, Arg1, 1)) }
-- Method (B, 2) { Return (Match (Arg0, MEQ, Arg1, MTR, 0, 0)) }
abbrev asked_first : Trees
asked_first =
    terms
    (External at at (one "E1__") 1 None
    ∷ Method at (one "A___") 2 (terms (Return (data_op DataOp.Mid (arg 0 ∷ arg 1 ∷ Integer 1 ∷ []) (Omitted ∷ [])) ∷ []))
    ∷ Method at (one "B___") 2
    (terms (Return (data_op DataOp.Match (arg 0 ∷ Raw 1 1 ∷ arg 1 ∷ Raw 1 0 ∷ Integer 0 ∷ Integer 0 ∷ []) []) ∷ [])) ∷ [])

abbrev asked_first_table : List ℕ
asked_first_table =
    table "47 00 00 00 02 08"
    (hex "15 45 31 5F 5F 01 00"
    ++ hex "14 0C 41 5F 5F 5F 02 A4 9E 68 69 01 00"
    ++ hex "14 0E 42 5F 5F 5F 02 A4 89 68 01 69 00 00 00")

abbrev asked_first_asked : Asked
asked_first_asked = record {
  there = (at_root "E1__", ExternalObject (ExternalData 1)) ∷ [];
  bound = 8;
  answers = number 1 ∷ number 2 ∷ [];
  calls = call (at_root "A___") (number 5 ∷ reference (Named (at_root "E1__")) ∷ [])
      ∷ call (at_root "B___") (number 5 ∷ reference (Named (at_root "E1__")) ∷ []) ∷ [];
  paths = [];
}

abbrev asked_first_told : Told
asked_first_told = record {
  results = Done (Normal false) ∷ faults Fault.WrongType ∷ faults Fault.WrongType ∷ [];
  events = [];
  left = number 1 ∷ number 2 ∷ [];
  values = [];
}

asked_first_encoded : written asked_first ≡ asked_first_table
asked_first_encoded = refl

asked_first_right : name_errors asked_first ++ type_errors asked_first ≡ []
asked_first_right = refl

asked_first_present : present_ones (externals asked_first) (at_root "E1__" ∷ []) ≡ (at_root "E1__", ExternalObject (ExternalData 1)) ∷ []
asked_first_present = refl

asked_first_by_source : of_source W64 asked_first asked_first_asked ≡ asked_first_told
asked_first_by_source = refl

asked_first_by_bytes : of_bytes asked_first_table asked_first_asked ≡ asked_first_told
unfolding code_front
asked_first_by_bytes = refl

-- The same of Index, worked by hand
-- External (E1, IntObj)
-- Method (C, 2) { Return (Arg0 [Arg1]) }
abbrev index_first : Trees
index_first =
    terms
    (External at at (one "E1__") 1 None ∷ Method at (one "C___") 2 (terms (Return (element_of (arg 0) (arg 1)) ∷ [])) ∷ [])

abbrev index_first_table : List ℕ
index_first_table =
    table "37 00 00 00 02 B0"
    (hex "15 45 31 5F 5F 01 00"
    ++ hex "14 0B 43 5F 5F 5F 02 A4 88 68 69 00")

abbrev index_first_asked : Asked
index_first_asked = record {
  there = (at_root "E1__", ExternalObject (ExternalData 1)) ∷ [];
  bound = 8;
  answers = number 1 ∷ [];
  calls = call (at_root "C___") (number 5 ∷ reference (Named (at_root "E1__")) ∷ []) ∷ [];
  paths = [];
}

abbrev index_first_told : Told
index_first_told = record {
  results = Done (Normal false) ∷ faults Fault.WrongType ∷ [];
  events = [];
  left = number 1 ∷ [];
  values = [];
}

index_first_encoded : written index_first ≡ index_first_table
index_first_encoded = refl

index_first_by_source : of_source W64 index_first index_first_asked ≡ index_first_told
index_first_by_source = refl

index_first_by_bytes : of_bytes index_first_table index_first_asked ≡ index_first_told
unfolding code_front
index_first_by_bytes = refl
