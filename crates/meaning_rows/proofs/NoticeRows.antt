-- Sessions of Notify: each kind of object that takes notices, of this table and of others, and such as take none. The ACPI Specification
-- 6.4, 19.6 (Notify), gives the values.
use Rattle.std.proofs.Common.{◌≡◌, ℕ, false, List, [], ◌∷◌, ◌++◌, None, refl}
use Rattle.acpi_values.specs.declared.width.Width.TheVariants.{W64}
use Rattle.acpi_values.specs.declared.fault.Fault.TheVariants as Fault
use Rattle.acpi_values.specs.declared.operator.EventOp.TheVariants as EventOp
use Rattle.acpi_values.specs.declared.operator.Plain.TheVariants as Plain
use Rattle.acpi_values.specs.Values.{Named}
use Rattle.acpi_state.specs.Objects as E
use Rattle.acpi_state.specs.Objects.{ThermalZone, PowerResource, Processor}
use Rattle.acpi_state.specs.Outcomes.{Normal, NoValue, Done}
use Rattle.acpi_state.specs.Sessions.{present_ones}
use Rattle.asl_tree.specs.Tree.{Integer, Use, Apply, External, Method, Container', Trees, no_trees}
use Rattle.asl_meaning.specs.Declarations.{externals}
use Rattle.aml_meaning.specs.Codes.{code_front}
use Rattle.aml_code.specs.Header.{table_bytes}
use Rattle.acpi_names.specs.Errors.{name_errors, type_errors}
use Rattle.meaning_rows.proofs.Rows.{at, fields}
use Rattle.meaning_rows.proofs.Outside.{hex, number, at_root, reference, call, Asked, Told, faults, of_bytes, of_source, written_whole}
use Rattle.meaning_rows.proofs.Outside.{terms, one, arg}

-- notices
-- External (XD, DeviceObj) External (XP, ProcessorObj) External (XT, ThermalZoneObj) External (XW, PowerResObj) Processor (CP, 1, 0x410,
-- 6) {} ThermalZone (TZ) {} PowerResource (PR, 0, 0) {} Method (M) { Notify (CP, 1) Notify (TZ, 2) Notify (XD, 3) Notify (XP, 4) Notify
-- (XT, 5) } Method (N, 1) { Notify (Arg0, 6) }
abbrev notices : Trees
notices = (terms ((External at at (one "XD__") 6 None) ∷ (External at at (one "XP__") 12 None) ∷ (External at at (one "XT__") 13 None) ∷ (External at at (one "XW__") 11 None) ∷ (Container' (Processor 1 0x410 6) at (one "CP__") no_trees) ∷ (Container' ThermalZone at (one "TZ__") no_trees) ∷ (Container' (PowerResource 0 0) at (one "PR__") no_trees) ∷ (Method at (one "M___") 0 (terms ((Apply (Plain.Event EventOp.Notify) (terms ((Use at (one "CP__")) ∷ (Integer 1) ∷ [])) no_trees) ∷ (Apply (Plain.Event EventOp.Notify) (terms ((Use at (one "TZ__")) ∷ (Integer 2) ∷ [])) no_trees) ∷ (Apply (Plain.Event EventOp.Notify) (terms ((Use at (one "XD__")) ∷ (Integer 3) ∷ [])) no_trees) ∷ (Apply (Plain.Event EventOp.Notify) (terms ((Use at (one "XP__")) ∷ (Integer 4) ∷ [])) no_trees) ∷ (Apply (Plain.Event EventOp.Notify) (terms ((Use at (one "XT__")) ∷ (Integer 5) ∷ [])) no_trees) ∷ []))) ∷ (Method at (one "N___") 1 (terms ((Apply (Plain.Event EventOp.Notify) (terms ((arg 0) ∷ (Integer 6) ∷ [])) no_trees) ∷ []))) ∷ []))

abbrev notices_table : List ℕ
notices_table =
    table_bytes fields (hex "15 58 44 5F 5F 06 00 15 58 50 5F 5F 0C 00 15 58 54 5F 5F 0D 00 15 58 57 5F 5F 0B 00 5B 83 0B 43 50 5F 5F 01 10 04 00 00"
    ++ hex "06 5B 85 05 54 5A 5F 5F 5B 84 08 50 52 5F 5F 00 00 00 14 28 4D 5F 5F 5F 00 86 43 50 5F 5F 01 86 54 5A 5F 5F 0A 02 86 58"
    ++ hex "44 5F 5F 0A 03 86 58 50 5F 5F 0A 04 86 58 54 5F 5F 0A 05 14 0A 4E 5F 5F 5F 01 86 68 0A 06")

abbrev notices_asked : Asked
notices_asked = record {
  there = present_ones (externals notices) ((at_root "XD__") ∷ (at_root "XP__") ∷ (at_root "XT__") ∷ (at_root "XW__") ∷ []);
  bound = 8;
  answers = ([]);
  calls = (call (at_root "M___") [] ∷ call (at_root "N___") ((reference (Named (at_root "CP__"))) ∷ []) ∷ call (at_root "N___") ((reference (Named (at_root "PR__"))) ∷ []) ∷ call (at_root "N___") ((reference (Named (at_root "XW__"))) ∷ []) ∷ call (at_root "N___") ((reference (Named (at_root "XD__"))) ∷ []) ∷ call (at_root "N___") ((number 5) ∷ []) ∷ []);
  paths = ([]);
}

abbrev notices_told : Told
notices_told = record {
  results = ((Done (Normal false)) ∷ (Done NoValue) ∷ (Done NoValue) ∷ (faults Fault.WrongType) ∷ (faults Fault.WrongType) ∷ (Done NoValue) ∷ (faults Fault.WrongType) ∷ []);
  events = ((E.Notify (at_root "CP__") 1) ∷ (E.Notify (at_root "TZ__") 2) ∷ (E.Notify (at_root "XD__") 3) ∷ (E.Notify (at_root "XP__") 4) ∷ (E.Notify (at_root "XT__") 5) ∷ (E.Notify (at_root "CP__") 6) ∷ (E.Notify (at_root "XD__") 6) ∷ []);
  left = ([]);
  values = ([]);
}

notices_encoded : written_whole W64 fields notices ≡ notices_table
notices_encoded = refl

notices_right : name_errors notices ++ type_errors notices ≡ []
notices_right = refl

notices_by_source : of_source W64 notices notices_asked ≡ notices_told
notices_by_source = refl

notices_by_bytes : of_bytes notices_table notices_asked ≡ notices_told
unfolding code_front
notices_by_bytes = refl
