-- Sessions of the six tests of Match, alone and two together, and of comparisons of Strings and Buffers. ACPICA's interpreter gives the
-- values.
use Rattle.std.proofs.Common.{◌≡◌, ℕ, false, List, [], ◌∷◌, ◌++◌, refl}
use Rattle.acpi_values.specs.declared.width.Width.TheVariants.{W64}
use Rattle.acpi_values.specs.declared.operator.IntOp.TheVariants as IntOp
use Rattle.acpi_values.specs.declared.operator.DataOp.TheVariants as DataOp
use Rattle.acpi_values.specs.declared.operator.Plain.TheVariants as Plain
use Rattle.acpi_state.specs.Objects as E
use Rattle.acpi_state.specs.Outcomes.{Normal, NoValue, Done}
use Rattle.acpi_state.specs.Sessions.{present_ones}
use Rattle.asl_tree.specs.Tree.{Integer, Debug as DebugTerm, Raw, Use, Apply, Operated, Assigned, Package, Name, Method, Trees, no_trees}
use Rattle.asl_meaning.specs.Declarations.{externals}
use Rattle.aml_meaning.specs.Codes.{code_front}
use Rattle.aml_code.specs.Header.{table_bytes}
use Rattle.acpi_names.specs.Errors.{name_errors, type_errors}
use Rattle.meaning_rows.proofs.Rows.{at, fields}
use Rattle.meaning_rows.proofs.Outside.{hex, number, text, buffer, at_root, call, Asked, Told, of_bytes, of_source, written_whole, terms}
use Rattle.meaning_rows.proofs.Outside.{one, arg}

-- tests of match
-- Name (P, Package () { 4, 5, 6 }) Method (M) { Debug = Match (P, MTR, 5, MTR, 0, 0) Debug = Match (P, MEQ, 5, MTR, 0, 0) Debug = Match
-- (P, MLE, 5, MTR, 0, 0) Debug = Match (P, MLT, 5, MTR, 0, 0) Debug = Match (P, MGE, 5, MTR, 0, 0) Debug = Match (P, MGT, 5, MTR, 0, 0)
-- Debug = Match (P, MTR, 0, MEQ, 5, 1) Debug = Match (P, MTR, 0, MEQ, 5, 2) Debug = Match (P, MTR, 0, MLE, 5, 1) Debug = Match (P, MTR,
-- 0, MLE, 5, 2) Debug = Match (P, MTR, 0, MLT, 5, 1) Debug = Match (P, MTR, 0, MLT, 5, 2) Debug = Match (P, MTR, 0, MGE, 5, 1) Debug =
-- Match (P, MTR, 0, MGE, 5, 2) Debug = Match (P, MTR, 0, MGT, 5, 1) Debug = Match (P, MTR, 0, MGT, 5, 2) Debug = Match (P, MGT, 4, MLT,
-- 6, 0) }
abbrev tests_of_match : Trees
tests_of_match = (terms ((Name at (one "P___") (Package 3 (terms ((Integer 4) ∷ (Integer 5) ∷ (Integer 6) ∷ [])))) ∷ (Method at (one "M___") 0 (terms ((Assigned DebugTerm (Apply (Plain.Data DataOp.Match) (terms ((Use at (one "P___")) ∷ (Raw 1 0) ∷ (Integer 5) ∷ (Raw 1 0) ∷ (Integer 0) ∷ (Integer 0) ∷ [])) no_trees)) ∷ (Assigned DebugTerm (Apply (Plain.Data DataOp.Match) (terms ((Use at (one "P___")) ∷ (Raw 1 1) ∷ (Integer 5) ∷ (Raw 1 0) ∷ (Integer 0) ∷ (Integer 0) ∷ [])) no_trees)) ∷ (Assigned DebugTerm (Apply (Plain.Data DataOp.Match) (terms ((Use at (one "P___")) ∷ (Raw 1 2) ∷ (Integer 5) ∷ (Raw 1 0) ∷ (Integer 0) ∷ (Integer 0) ∷ [])) no_trees)) ∷ (Assigned DebugTerm (Apply (Plain.Data DataOp.Match) (terms ((Use at (one "P___")) ∷ (Raw 1 3) ∷ (Integer 5) ∷ (Raw 1 0) ∷ (Integer 0) ∷ (Integer 0) ∷ [])) no_trees)) ∷ (Assigned DebugTerm (Apply (Plain.Data DataOp.Match) (terms ((Use at (one "P___")) ∷ (Raw 1 4) ∷ (Integer 5) ∷ (Raw 1 0) ∷ (Integer 0) ∷ (Integer 0) ∷ [])) no_trees)) ∷ (Assigned DebugTerm (Apply (Plain.Data DataOp.Match) (terms ((Use at (one "P___")) ∷ (Raw 1 5) ∷ (Integer 5) ∷ (Raw 1 0) ∷ (Integer 0) ∷ (Integer 0) ∷ [])) no_trees)) ∷ (Assigned DebugTerm (Apply (Plain.Data DataOp.Match) (terms ((Use at (one "P___")) ∷ (Raw 1 0) ∷ (Integer 0) ∷ (Raw 1 1) ∷ (Integer 5) ∷ (Integer 1) ∷ [])) no_trees)) ∷ (Assigned DebugTerm (Apply (Plain.Data DataOp.Match) (terms ((Use at (one "P___")) ∷ (Raw 1 0) ∷ (Integer 0) ∷ (Raw 1 1) ∷ (Integer 5) ∷ (Integer 2) ∷ [])) no_trees)) ∷ (Assigned DebugTerm (Apply (Plain.Data DataOp.Match) (terms ((Use at (one "P___")) ∷ (Raw 1 0) ∷ (Integer 0) ∷ (Raw 1 2) ∷ (Integer 5) ∷ (Integer 1) ∷ [])) no_trees)) ∷ (Assigned DebugTerm (Apply (Plain.Data DataOp.Match) (terms ((Use at (one "P___")) ∷ (Raw 1 0) ∷ (Integer 0) ∷ (Raw 1 2) ∷ (Integer 5) ∷ (Integer 2) ∷ [])) no_trees)) ∷ (Assigned DebugTerm (Apply (Plain.Data DataOp.Match) (terms ((Use at (one "P___")) ∷ (Raw 1 0) ∷ (Integer 0) ∷ (Raw 1 3) ∷ (Integer 5) ∷ (Integer 1) ∷ [])) no_trees)) ∷ (Assigned DebugTerm (Apply (Plain.Data DataOp.Match) (terms ((Use at (one "P___")) ∷ (Raw 1 0) ∷ (Integer 0) ∷ (Raw 1 3) ∷ (Integer 5) ∷ (Integer 2) ∷ [])) no_trees)) ∷ (Assigned DebugTerm (Apply (Plain.Data DataOp.Match) (terms ((Use at (one "P___")) ∷ (Raw 1 0) ∷ (Integer 0) ∷ (Raw 1 4) ∷ (Integer 5) ∷ (Integer 1) ∷ [])) no_trees)) ∷ (Assigned DebugTerm (Apply (Plain.Data DataOp.Match) (terms ((Use at (one "P___")) ∷ (Raw 1 0) ∷ (Integer 0) ∷ (Raw 1 4) ∷ (Integer 5) ∷ (Integer 2) ∷ [])) no_trees)) ∷ (Assigned DebugTerm (Apply (Plain.Data DataOp.Match) (terms ((Use at (one "P___")) ∷ (Raw 1 0) ∷ (Integer 0) ∷ (Raw 1 5) ∷ (Integer 5) ∷ (Integer 1) ∷ [])) no_trees)) ∷ (Assigned DebugTerm (Apply (Plain.Data DataOp.Match) (terms ((Use at (one "P___")) ∷ (Raw 1 0) ∷ (Integer 0) ∷ (Raw 1 5) ∷ (Integer 5) ∷ (Integer 2) ∷ [])) no_trees)) ∷ (Assigned DebugTerm (Apply (Plain.Data DataOp.Match) (terms ((Use at (one "P___")) ∷ (Raw 1 5) ∷ (Integer 4) ∷ (Raw 1 3) ∷ (Integer 6) ∷ (Integer 0) ∷ [])) no_trees)) ∷ []))) ∷ []))

abbrev tests_of_match_table : List ℕ
tests_of_match_table =
    table_bytes fields (hex "08 50 5F 5F 5F 12 08 03 0A 04 0A 05 0A 06 14 4B 0F 4D 5F 5F 5F 00 70 89 50 5F 5F 5F 00 0A 05 00 00 00 5B 31 70 89 50 5F"
    ++ hex "5F 5F 01 0A 05 00 00 00 5B 31 70 89 50 5F 5F 5F 02 0A 05 00 00 00 5B 31 70 89 50 5F 5F 5F 03 0A 05 00 00 00 5B 31 70 89"
    ++ hex "50 5F 5F 5F 04 0A 05 00 00 00 5B 31 70 89 50 5F 5F 5F 05 0A 05 00 00 00 5B 31 70 89 50 5F 5F 5F 00 00 01 0A 05 01 5B 31"
    ++ hex "70 89 50 5F 5F 5F 00 00 01 0A 05 0A 02 5B 31 70 89 50 5F 5F 5F 00 00 02 0A 05 01 5B 31 70 89 50 5F 5F 5F 00 00 02 0A 05"
    ++ hex "0A 02 5B 31 70 89 50 5F 5F 5F 00 00 03 0A 05 01 5B 31 70 89 50 5F 5F 5F 00 00 03 0A 05 0A 02 5B 31 70 89 50 5F 5F 5F 00"
    ++ hex "00 04 0A 05 01 5B 31 70 89 50 5F 5F 5F 00 00 04 0A 05 0A 02 5B 31 70 89 50 5F 5F 5F 00 00 05 0A 05 01 5B 31 70 89 50 5F"
    ++ hex "5F 5F 00 00 05 0A 05 0A 02 5B 31 70 89 50 5F 5F 5F 05 0A 04 03 0A 06 00 5B 31")

abbrev tests_of_match_asked : Asked
tests_of_match_asked = record {
  there = present_ones (externals tests_of_match) ([]);
  bound = 8;
  answers = ([]);
  calls = (call (at_root "M___") [] ∷ []);
  paths = ([]);
}

abbrev tests_of_match_told : Told
tests_of_match_told = record {
  results = ((Done (Normal false)) ∷ (Done NoValue) ∷ []);
  events = ((E.Debug (number 0)) ∷ (E.Debug (number 1)) ∷ (E.Debug (number 0)) ∷ (E.Debug (number 0)) ∷ (E.Debug (number 1)) ∷ (E.Debug (number 2)) ∷ (E.Debug (number 1)) ∷ (E.Debug (number 0xFFFFFFFFFFFFFFFF)) ∷ (E.Debug (number 1)) ∷ (E.Debug (number 0xFFFFFFFFFFFFFFFF)) ∷ (E.Debug (number 0xFFFFFFFFFFFFFFFF)) ∷ (E.Debug (number 0xFFFFFFFFFFFFFFFF)) ∷ (E.Debug (number 1)) ∷ (E.Debug (number 2)) ∷ (E.Debug (number 2)) ∷ (E.Debug (number 2)) ∷ (E.Debug (number 1)) ∷ []);
  left = ([]);
  values = ([]);
}

tests_of_match_encoded : written_whole W64 fields tests_of_match ≡ tests_of_match_table
tests_of_match_encoded = refl

tests_of_match_right : name_errors tests_of_match ++ type_errors tests_of_match ≡ []
tests_of_match_right = refl

tests_of_match_by_source : of_source W64 tests_of_match tests_of_match_asked ≡ tests_of_match_told
tests_of_match_by_source = refl

tests_of_match_by_bytes : of_bytes tests_of_match_table tests_of_match_asked ≡ tests_of_match_told
unfolding code_front
tests_of_match_by_bytes = refl

-- orders of texts
-- Method (M, 2) { Debug = (Arg0 < Arg1) Debug = (Arg0 == Arg1) Debug = (Arg0 > Arg1) }
abbrev orders_of_texts : Trees
orders_of_texts = (terms ((Method at (one "M___") 2 (terms ((Assigned DebugTerm (Operated (Plain.Number IntOp.LLess) (terms ((arg 0) ∷ (arg 1) ∷ [])))) ∷ (Assigned DebugTerm (Operated (Plain.Number IntOp.LEqual) (terms ((arg 0) ∷ (arg 1) ∷ [])))) ∷ (Assigned DebugTerm (Operated (Plain.Number IntOp.LGreater) (terms ((arg 0) ∷ (arg 1) ∷ [])))) ∷ []))) ∷ []))

abbrev orders_of_texts_table : List ℕ
orders_of_texts_table =
    table_bytes fields (hex "14 18 4D 5F 5F 5F 02 70 95 68 69 5B 31 70 93 68 69 5B 31 70 94 68 69 5B 31")

abbrev orders_of_texts_asked : Asked
orders_of_texts_asked = record {
  there = present_ones (externals orders_of_texts) ([]);
  bound = 8;
  answers = ([]);
  calls = (call (at_root "M___") ((text "ab") ∷ (text "ba") ∷ []) ∷ call (at_root "M___") ((text "ba") ∷ (text "ab") ∷ []) ∷ call (at_root "M___") ((text "ab") ∷ (text "abc") ∷ []) ∷ call (at_root "M___") ((buffer "01 02") ∷ (buffer "01 02") ∷ []) ∷ []);
  paths = ([]);
}

abbrev orders_of_texts_told : Told
orders_of_texts_told = record {
  results = ((Done (Normal false)) ∷ (Done NoValue) ∷ (Done NoValue) ∷ (Done NoValue) ∷ (Done NoValue) ∷ []);
  events = ((E.Debug (number 0xFFFFFFFFFFFFFFFF)) ∷ (E.Debug (number 0)) ∷ (E.Debug (number 0)) ∷ (E.Debug (number 0)) ∷ (E.Debug (number 0)) ∷ (E.Debug (number 0xFFFFFFFFFFFFFFFF)) ∷ (E.Debug (number 0xFFFFFFFFFFFFFFFF)) ∷ (E.Debug (number 0)) ∷ (E.Debug (number 0)) ∷ (E.Debug (number 0)) ∷ (E.Debug (number 0xFFFFFFFFFFFFFFFF)) ∷ (E.Debug (number 0)) ∷ []);
  left = ([]);
  values = ([]);
}

orders_of_texts_encoded : written_whole W64 fields orders_of_texts ≡ orders_of_texts_table
orders_of_texts_encoded = refl

orders_of_texts_right : name_errors orders_of_texts ++ type_errors orders_of_texts ≡ []
orders_of_texts_right = refl

orders_of_texts_by_source : of_source W64 orders_of_texts orders_of_texts_asked ≡ orders_of_texts_told
orders_of_texts_by_source = refl

orders_of_texts_by_bytes : of_bytes orders_of_texts_table orders_of_texts_asked ≡ orders_of_texts_told
unfolding code_front
orders_of_texts_by_bytes = refl
