-- What a program declares, and what it calls: worked by hand from its text (ACPI Specification 6.4, 5.3).
use Rattle.std.proofs.Common.{◌≡◌, true, [], ◌∷◌, ◌++◌, Some, None, refl}
use Rattle.std.specs.Prelude.{codes}
use Rattle.acpi_values.specs.declared.operator.IntOp.TheVariants as IntOp
use Rattle.acpi_values.specs.declared.operator.DataOp.TheVariants as DataOp
use Rattle.acpi_values.specs.declared.operator.Plain.TheVariants as Plain
use Rattle.acpi_state.specs.Objects.{Device, ThermalZone}
use Rattle.acpi_state.specs.FieldActs.{OneByte, SomeBits}
use Rattle.asl_tree.specs.declared.term.Literal.TheVariants as Literal
use Rattle.asl_tree.specs.declared.term.Compound.TheVariants as Compound
use Rattle.asl_tree.specs.FieldItems.{SkipItem}
use Rattle.asl_tree.specs.Tree.{Integer, Constant, Debug as DebugTerm, Omitted, Use, Call, Apply, Operated, Assigned, AssignedBy, Buffer}
use Rattle.asl_tree.specs.Tree.{Package, VarPackage, CondRefOf, Return, Name, Alias, External, Method, Mutex, Event as EventTerm}
use Rattle.asl_tree.specs.Tree.{Container', Scope, If, ElseIf, Else, While, For, Print, Switch, Case, Default, OperationRegion, Field}
use Rattle.asl_tree.specs.Tree.{IndexField, BankField, CreateField, Trees, no_trees}
use Rattle.asl_meaning.specs.Declarations.{externals}
use Rattle.acpi_names.specs.Errors.{name_errors, type_errors}
use Rattle.meaning_rows.proofs.Rows.{at}
use Rattle.meaning_rows.proofs.Outside.{at_root, terms, path, one, local, unit}
use Rattle.acpi_names.specs.Errors.{Missing}
use Rattle.acpi_state.specs.Objects.{DataObject, MethodObject, ContainerObject, MutexObject, EventObject, ExternalObject, ExternalMethod}
use Rattle.acpi_state.specs.Objects.{ExternalData, ExternalOther, RegionObject, UnitObject, BufferFieldObject}
use Rattle.acpi_state.specs.FieldUnits.{OfOtherTable, OverItsOwn}
use Rattle.asl_meaning.specs.Declarations.{Declared, As, AliasOf, declarations, nothing_declared, is_named, calls_all, called}

-- Each declaring term, alone and inside others. The last comes first; of an External the first counts, and one of a path of the root counts not.
-- External (XE, IntObj) External (XE, StrObj) External (\_OS, StrObj) Name (NA, 1) Device (D) { Name (NA, 2) Mutex (MX, 3) } Event (EV)
-- Method (ME, 1) { Name (LO, 0) Alias (NA, AL) } If (Zero) { Name (I1, 0) } ElseIf (Zero) { Name (I2, 0) } Else { Name (I3, 0) } While
-- (Zero) { Name (W1, 0) } For (, Zero, ) { Name (W2, 0) } Switch (Zero) { Case (One) { Name (S1, 0) } Default { Name (S2, 0) } }
-- OperationRegion (RG, SystemIO, 8, 4) Field (RG, ByteAcc, NoLock, Preserve) { U1, 8, , 8, U2, 4 } IndexField (U1, U2, ByteAcc, NoLock,
-- Preserve) { U3, 1 } BankField (RG, U1, 0, ByteAcc, NoLock, Preserve) { U4, 1 } CreateByteField (NA, 0, CF) Scope (D) { Name (SC, 0) }
-- Scope (\_SB) { ThermalZone (TZ) {} } Scope (NOPE) { Name (SN, 0) } Method (M2) { Scope (D) { Name (DD, 0) } }
abbrev declaring : Trees
declaring = (terms ((External at at (one "XE__") 1 None) ∷ (External at at (one "XE__") 2 None) ∷ (External at at (path true 0 (codes "_OS_" ∷ [])) 2 None) ∷ (Name at (one "NA__") (Integer 1)) ∷ (Container' Device at (one "D___") (terms ((Name at (one "NA__") (Integer 2)) ∷ (Mutex at (one "MX__") 3) ∷ []))) ∷ (EventTerm at (one "EV__")) ∷ (Method at (one "ME__") 1 (terms ((Name at (one "LO__") (Integer 0)) ∷ (Alias at (one "NA__") at (one "AL__")) ∷ []))) ∷ (If (Constant Literal.Zero) (terms ((Name at (one "I1__") (Integer 0)) ∷ []))) ∷ (ElseIf (Constant Literal.Zero) (terms ((Name at (one "I2__") (Integer 0)) ∷ []))) ∷ (Else (terms ((Name at (one "I3__") (Integer 0)) ∷ []))) ∷ (While (Constant Literal.Zero) (terms ((Name at (one "W1__") (Integer 0)) ∷ []))) ∷ (For Omitted (Constant Literal.Zero) Omitted (terms ((Name at (one "W2__") (Integer 0)) ∷ []))) ∷ (Switch (Constant Literal.Zero) (terms ((Case (Constant Literal.One) (terms ((Name at (one "S1__") (Integer 0)) ∷ []))) ∷ (Default (terms ((Name at (one "S2__") (Integer 0)) ∷ []))) ∷ []))) ∷ (OperationRegion at (one "RG__") 1 (terms ((Integer 8) ∷ (Integer 4) ∷ []))) ∷ (Field at at (one "RG__") 1 ((unit "U1__" 8) ∷ (SkipItem 8) ∷ (unit "U2__" 4) ∷ [])) ∷ (IndexField at at (one "U1__") at (one "U2__") 1 ((unit "U3__" 1) ∷ [])) ∷ (BankField at at (one "RG__") at (one "U1__") (Integer 0) 1 ((unit "U4__" 1) ∷ [])) ∷ (CreateField OneByte (terms ((Use at (one "NA__")) ∷ (Integer 0) ∷ [])) at (one "CF__")) ∷ (Scope at at (one "D___") (terms ((Name at (one "SC__") (Integer 0)) ∷ []))) ∷ (Scope at at (path true 0 (codes "_SB_" ∷ [])) (terms ((Container' ThermalZone at (one "TZ__") no_trees) ∷ []))) ∷ (Scope at at (one "NOPE") (terms ((Name at (one "SN__") (Integer 0)) ∷ []))) ∷ (Method at (one "M2__") 0 (terms ((Scope at at (one "D___") (terms ((Name at (one "DD__") (Integer 0)) ∷ []))) ∷ []))) ∷ []))

abbrev unit_there : Declared
unit_there = As (UnitObject (OfOtherTable []))

declared_paths : (declarations declaring).declared
    ≡ ((codes "DD__" ∷ codes "D___" ∷ []), As DataObject) ∷ (at_root "M2__", As (MethodObject 0)) ∷ ((codes "SN__" ∷ codes "NOPE" ∷ []), As DataObject) ∷ ((codes "TZ__" ∷ codes "_SB_" ∷ []), As (ContainerObject ThermalZone)) ∷ ((codes "SC__" ∷ codes "D___" ∷ []), As DataObject) ∷ (at_root "CF__", As (BufferFieldObject (record { source = OverItsOwn; at = 0; bits = 0 }))) ∷ (at_root "U4__", unit_there) ∷ (at_root "U3__", unit_there) ∷ (at_root "U2__", unit_there) ∷ (at_root "U1__", unit_there) ∷ (at_root "RG__", As (RegionObject 1 0 0)) ∷ (at_root "S2__", As DataObject) ∷ (at_root "S1__", As DataObject) ∷ (at_root "W2__", As DataObject) ∷ (at_root "W1__", As DataObject) ∷ (at_root "I3__", As DataObject) ∷ (at_root "I2__", As DataObject) ∷ (at_root "I1__", As DataObject) ∷ ((codes "AL__" ∷ codes "ME__" ∷ []), AliasOf (one "NA__") (at_root "ME__")) ∷ ((codes "LO__" ∷ codes "ME__" ∷ []), As DataObject) ∷ (at_root "ME__", As (MethodObject 1)) ∷ (at_root "EV__", As EventObject) ∷ ((codes "MX__" ∷ codes "D___" ∷ []), As (MutexObject 3)) ∷ ((codes "NA__" ∷ codes "D___" ∷ []), As DataObject) ∷ (at_root "D___", As (ContainerObject Device)) ∷ (at_root "NA__", As DataObject) ∷ []
declared_paths = refl

external_paths : (declarations declaring).external ≡ (at_root "XE__", record { type = 1; parameters = None }) ∷ []
external_paths = refl

-- Calls in each place where one may stand, in their order; a name that denotes nothing is called by nobody.
-- Method (G, 2) {} Method (M) { Add (F01 (), F02 (), Index (F03 (), 0)) F04 () + F05 () F40 () [0] = F06 () F07 () [0] += F08 () Buffer
-- (F09 ()) {} Package () { Buffer (F10 ()) {} } Package (F11 ()) { Buffer (F12 ()) {} } CondRefOf (F13 () [0], F14 () [0]) If (F15 ()) {
-- F16 () } ElseIf (F17 ()) { F18 () } Else { F19 () } While (F20 ()) { F21 () } For (F22 (), F23 (), F24 ()) { F25 () } Printf ("%o",
-- F26 ()) Switch (F27 ()) { Case (1) { F28 () } Default { F29 () } } OperationRegion (RG, SystemIO, F30 (), F31 ()) BankField (RG, BK,
-- F32 (), ByteAcc, NoLock, Preserve) { UN, 1 } CreateField (Local0, F33 (), F34 (), CF) Name (NA, F35 ()) Device (DV) { G (F36 (), F37
-- ()) MISS (F38 ()) } Scope (DV) { LATE (1) } Scope (\) { Method (MM) { Return (F39 ()) } } } Method (LATE, 1) {}
abbrev calling : Trees
calling = (terms ((External at at (one "XF__") 0 None) ∷ (Method at (one "F01_") 0 no_trees) ∷ (Method at (one "F02_") 0 no_trees) ∷ (Method at (one "F03_") 0 no_trees) ∷ (Method at (one "F04_") 0 no_trees) ∷ (Method at (one "F05_") 0 no_trees) ∷ (Method at (one "F06_") 0 no_trees) ∷ (Method at (one "F07_") 0 no_trees) ∷ (Method at (one "F08_") 0 no_trees) ∷ (Method at (one "F09_") 0 no_trees) ∷ (Method at (one "F10_") 0 no_trees) ∷ (Method at (one "F11_") 0 no_trees) ∷ (Method at (one "F12_") 0 no_trees) ∷ (Method at (one "F13_") 0 no_trees) ∷ (Method at (one "F14_") 0 no_trees) ∷ (Method at (one "F15_") 0 no_trees) ∷ (Method at (one "F16_") 0 no_trees) ∷ (Method at (one "F17_") 0 no_trees) ∷ (Method at (one "F18_") 0 no_trees) ∷ (Method at (one "F19_") 0 no_trees) ∷ (Method at (one "F20_") 0 no_trees) ∷ (Method at (one "F21_") 0 no_trees) ∷ (Method at (one "F22_") 0 no_trees) ∷ (Method at (one "F23_") 0 no_trees) ∷ (Method at (one "F24_") 0 no_trees) ∷ (Method at (one "F25_") 0 no_trees) ∷ (Method at (one "F26_") 0 no_trees) ∷ (Method at (one "F27_") 0 no_trees) ∷ (Method at (one "F28_") 0 no_trees) ∷ (Method at (one "F29_") 0 no_trees) ∷ (Method at (one "F30_") 0 no_trees) ∷ (Method at (one "F31_") 0 no_trees) ∷ (Method at (one "F32_") 0 no_trees) ∷ (Method at (one "F33_") 0 no_trees) ∷ (Method at (one "F34_") 0 no_trees) ∷ (Method at (one "F35_") 0 no_trees) ∷ (Method at (one "F36_") 0 no_trees) ∷ (Method at (one "F37_") 0 no_trees) ∷ (Method at (one "F38_") 0 no_trees) ∷ (Method at (one "F39_") 0 no_trees) ∷ (Method at (one "F40_") 0 no_trees) ∷ (Method at (one "G___") 2 no_trees) ∷ (Method at (one "M___") 0 (terms ((Apply (Plain.Number IntOp.Add) (terms ((Call at (one "F01_") no_trees) ∷ (Call at (one "F02_") no_trees) ∷ [])) (terms ((Apply (Plain.Data DataOp.Index) (terms ((Call at (one "F03_") no_trees) ∷ (Integer 0) ∷ [])) (terms ((Omitted) ∷ []))) ∷ []))) ∷ (Operated (Plain.Number IntOp.Add) (terms ((Call at (one "F04_") no_trees) ∷ (Call at (one "F05_") no_trees) ∷ []))) ∷ (Assigned (Operated (Plain.Data DataOp.Index) (terms ((Call at (one "F40_") no_trees) ∷ (Integer 0) ∷ []))) (Call at (one "F06_") no_trees)) ∷ (AssignedBy Compound.Add (Operated (Plain.Data DataOp.Index) (terms ((Call at (one "F07_") no_trees) ∷ (Integer 0) ∷ []))) (Call at (one "F08_") no_trees)) ∷ (Buffer (Call at (one "F09_") no_trees) ([])) ∷ (Package 1 (terms ((Buffer (Call at (one "F10_") no_trees) ([])) ∷ []))) ∷ (VarPackage (Call at (one "F11_") no_trees) (terms ((Buffer (Call at (one "F12_") no_trees) ([])) ∷ []))) ∷ (CondRefOf (Operated (Plain.Data DataOp.Index) (terms ((Call at (one "F13_") no_trees) ∷ (Integer 0) ∷ []))) (Operated (Plain.Data DataOp.Index) (terms ((Call at (one "F14_") no_trees) ∷ (Integer 0) ∷ [])))) ∷ (If (Call at (one "F15_") no_trees) (terms ((Call at (one "F16_") no_trees) ∷ []))) ∷ (ElseIf (Call at (one "F17_") no_trees) (terms ((Call at (one "F18_") no_trees) ∷ []))) ∷ (Else (terms ((Call at (one "F19_") no_trees) ∷ []))) ∷ (While (Call at (one "F20_") no_trees) (terms ((Call at (one "F21_") no_trees) ∷ []))) ∷ (For (Call at (one "F22_") no_trees) (Call at (one "F23_") no_trees) (Call at (one "F24_") no_trees) (terms ((Call at (one "F25_") no_trees) ∷ []))) ∷ (Print DebugTerm (codes "%o") (terms ((Call at (one "F26_") no_trees) ∷ []))) ∷ (Switch (Call at (one "F27_") no_trees) (terms ((Case (Integer 1) (terms ((Call at (one "F28_") no_trees) ∷ []))) ∷ (Default (terms ((Call at (one "F29_") no_trees) ∷ []))) ∷ []))) ∷ (OperationRegion at (one "RG__") 1 (terms ((Call at (one "F30_") no_trees) ∷ (Call at (one "F31_") no_trees) ∷ []))) ∷ (BankField at at (one "RG__") at (one "BK__") (Call at (one "F32_") no_trees) 1 ((unit "UN__" 1) ∷ [])) ∷ (CreateField SomeBits (terms ((local 0) ∷ (Call at (one "F33_") no_trees) ∷ (Call at (one "F34_") no_trees) ∷ [])) at (one "CF__")) ∷ (Name at (one "NA__") (Call at (one "F35_") no_trees)) ∷ (Container' Device at (one "DV__") (terms ((Call at (one "G___") (terms ((Call at (one "F36_") no_trees) ∷ (Call at (one "F37_") no_trees) ∷ []))) ∷ (Call at (one "MISS") (terms ((Call at (one "F38_") no_trees) ∷ []))) ∷ []))) ∷ (Scope at at (one "DV__") (terms ((Call at (one "LATE") (terms ((Integer 1) ∷ []))) ∷ []))) ∷ (Scope at at (path true 0 ([])) (terms ((Method at (one "MM__") 0 (terms ((Return (Call at (one "F39_") no_trees)) ∷ []))) ∷ []))) ∷ []))) ∷ (Method at (one "LATE") 1 no_trees) ∷ []))

calls_in_order : called (calls_all (is_named (declarations calling)) calling [] nothing_declared)
    ≡ (at_root "F01_", 0) ∷ (at_root "F02_", 0) ∷ (at_root "F03_", 0) ∷ (at_root "F04_", 0) ∷ (at_root "F05_", 0) ∷ (at_root "F06_", 0) ∷ (at_root "F40_", 0) ∷ (at_root "F07_", 0) ∷ (at_root "F08_", 0) ∷ (at_root "F09_", 0) ∷ (at_root "F10_", 0) ∷ (at_root "F11_", 0) ∷ (at_root "F12_", 0) ∷ (at_root "F13_", 0) ∷ (at_root "F14_", 0) ∷ (at_root "F15_", 0) ∷ (at_root "F16_", 0) ∷ (at_root "F17_", 0) ∷ (at_root "F18_", 0) ∷ (at_root "F19_", 0) ∷ (at_root "F20_", 0) ∷ (at_root "F21_", 0) ∷ (at_root "F22_", 0) ∷ (at_root "F23_", 0) ∷ (at_root "F24_", 0) ∷ (at_root "F25_", 0) ∷ (at_root "F26_", 0) ∷ (at_root "F27_", 0) ∷ (at_root "F28_", 0) ∷ (at_root "F29_", 0) ∷ (at_root "F30_", 0) ∷ (at_root "F31_", 0) ∷ (at_root "F32_", 0) ∷ (at_root "F33_", 0) ∷ (at_root "F34_", 0) ∷ (at_root "F35_", 0) ∷ (at_root "G___", 2) ∷ (at_root "F36_", 0) ∷ (at_root "F37_", 0) ∷ (at_root "F38_", 0) ∷ (at_root "LATE", 1) ∷ (at_root "F39_", 0) ∷ []
calls_in_order = refl

-- Objects of other tables, the last first: data are values, units and what has no stated type; what has none and is called is a method. A count that is written stands before that of a call, which is wrong then.
-- External (X0) External (C0) External (C1) External (M0, MethodObj) External (M1, MethodObj) External (M2, MethodObj, , {IntObj,
-- IntObj}) External (M3, UnknownObj, , {IntObj}) External (Y0, IntObj) External (Y1, StrObj) External (Y2, BuffObj) External (Y3,
-- PkgObj) External (Y4, FieldUnitObj) External (Y5, DeviceObj) External (Y6, EventObj) External (Y7, MutexObj) External (Y8,
-- OpRegionObj) External (Y9, PowerResObj) External (YA, ProcessorObj) External (YB, ThermalZoneObj) External (YC, BuffFieldObj) Method
-- (M) { C0 () C1 (1, C0 ()) M1 (1, 2, 3) M2 (1) M3 (1, 2) Return (X0) }
abbrev declaring_others : Trees
declaring_others = (terms ((External at at (one "X0__") 0 None) ∷ (External at at (one "C0__") 0 None) ∷ (External at at (one "C1__") 0 None) ∷ (External at at (one "M0__") 8 None) ∷ (External at at (one "M1__") 8 None) ∷ (External at at (one "M2__") 8 (Some 2)) ∷ (External at at (one "M3__") 0 (Some 1)) ∷ (External at at (one "Y0__") 1 None) ∷ (External at at (one "Y1__") 2 None) ∷ (External at at (one "Y2__") 3 None) ∷ (External at at (one "Y3__") 4 None) ∷ (External at at (one "Y4__") 5 None) ∷ (External at at (one "Y5__") 6 None) ∷ (External at at (one "Y6__") 7 None) ∷ (External at at (one "Y7__") 9 None) ∷ (External at at (one "Y8__") 10 None) ∷ (External at at (one "Y9__") 11 None) ∷ (External at at (one "YA__") 12 None) ∷ (External at at (one "YB__") 13 None) ∷ (External at at (one "YC__") 14 None) ∷ (Method at (one "M___") 0 (terms ((Call at (one "C0__") no_trees) ∷ (Call at (one "C1__") (terms ((Integer 1) ∷ (Call at (one "C0__") no_trees) ∷ []))) ∷ (Call at (one "M1__") (terms ((Integer 1) ∷ (Integer 2) ∷ (Integer 3) ∷ []))) ∷ (Call at (one "M2__") (terms ((Integer 1) ∷ []))) ∷ (Call at (one "M3__") (terms ((Integer 1) ∷ (Integer 2) ∷ []))) ∷ (Return (Use at (one "X0__"))) ∷ []))) ∷ []))

objects_of_others : externals declaring_others
    ≡ (at_root "YC__", ExternalObject (ExternalData 14)) ∷ (at_root "YB__", ExternalObject (ExternalOther 13)) ∷ (at_root "YA__", ExternalObject (ExternalOther 12)) ∷ (at_root "Y9__", ExternalObject (ExternalOther 11)) ∷ (at_root "Y8__", ExternalObject (ExternalOther 10)) ∷ (at_root "Y7__", ExternalObject (ExternalOther 9)) ∷ (at_root "Y6__", ExternalObject (ExternalOther 7)) ∷ (at_root "Y5__", ExternalObject (ExternalOther 6)) ∷ (at_root "Y4__", ExternalObject (ExternalData 5)) ∷ (at_root "Y3__", ExternalObject (ExternalData 4)) ∷ (at_root "Y2__", ExternalObject (ExternalData 3)) ∷ (at_root "Y1__", ExternalObject (ExternalData 2)) ∷ (at_root "Y0__", ExternalObject (ExternalData 1)) ∷ (at_root "M3__", ExternalObject (ExternalMethod 1)) ∷ (at_root "M2__", ExternalObject (ExternalMethod 2)) ∷ (at_root "M1__", ExternalObject (ExternalMethod 3)) ∷ (at_root "M0__", ExternalObject (ExternalMethod 0)) ∷ (at_root "C1__", ExternalObject (ExternalMethod 2)) ∷ (at_root "C0__", ExternalObject (ExternalMethod 0)) ∷ (at_root "X0__", ExternalObject (ExternalData 0)) ∷ []
objects_of_others = refl

-- An alias of a name that denotes nothing: this is told once, where the name stands (5.3).
-- Alias (NOPE, AL) Method (M) { Return (AL) }
abbrev alias_of_nothing : Trees
alias_of_nothing = (terms ((Alias at (one "NOPE") at (one "AL__")) ∷ (Method at (one "M___") 0 (terms ((Return (Use at (one "AL__"))) ∷ []))) ∷ []))

missing_source : name_errors alias_of_nothing ++ type_errors alias_of_nothing ≡ Missing at (one "NOPE") ∷ []
missing_source = refl
