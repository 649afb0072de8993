-- Random programs: their errors, their bytes, and what their sessions do, as another implementation says.
use Rattle.std.proofs.Common.{◌≡◌, ℕ, Bool, true, false, List, [], ◌∷◌, ◌++◌, Some, refl}
use Rattle.std.specs.Prelude.{codes}
use Rattle.acpi_values.specs.declared.width.Width.TheVariants.{W32, W64}
use Rattle.acpi_values.specs.declared.operator.IntOp.TheVariants as IntOp
use Rattle.acpi_values.specs.declared.operator.DataOp.TheVariants as DataOp
use Rattle.acpi_values.specs.declared.operator.EventOp.TheVariants as EventOp
use Rattle.acpi_values.specs.declared.operator.Plain.TheVariants as Plain
use Rattle.acpi_values.specs.declared.fault.Fault.TheVariants as Fault
use Rattle.acpi_values.specs.Paths.{NameSeg, AbsolutePath}
use Rattle.acpi_values.specs.Values as V
use Rattle.acpi_values.specs.Values.{Value, Data, no_elements, uninitialized, element}
use Rattle.acpi_state.specs.Objects.{Device, ThermalZone, Event}
use Rattle.acpi_state.specs.Objects as E
use Rattle.acpi_state.specs.FieldActs.{OneByte, SomeBits}
use Rattle.acpi_state.specs.Forms.{LocalSlot, ArgSlot}
use Rattle.acpi_state.specs.Outcomes.{Flow, Gives, Normal, Unfinished, Result, Done, Stopped, Faulted}
use Rattle.acpi_state.specs.Sessions.{Report, Request, present_ones}
use Rattle.asl_tree.specs.declared.path.Path.{Path}
use Rattle.asl_tree.specs.declared.term.Literal.TheVariants as Literal
use Rattle.asl_tree.specs.FieldItems.{UnitItem, SkipItem, OffsetItem}
use Rattle.asl_tree.specs.Tree.{At, UnitName, Tree, Integer, Constant, String, InSlot, Debug as DebugTerm, Omitted, Raw, Use, Call, Apply, Buffer, Package, CondRefOf, Return, Name, Alias, External, Method, Mutex, Event as EventTerm, Container', If, Else, While, Break, OperationRegion, Field, IndexField, BankField, CreateField, Trees, no_trees, tree}
use Rattle.asl_meaning.specs.Declarations.{known_of, externals}
use Rattle.asl_meaning.specs.SourceSession.{source_session}
use Rattle.aml_meaning.specs.Encoded.{encoded_terms}
use Rattle.aml_code.specs.Header.{table_bytes}
use Rattle.acpi_names.specs.Errors.{name_errors, type_errors}
use Rattle.named_sessions.specs.Core.{core_of}

abbrev seg : ℕ → ℕ → ℕ → ℕ → NameSeg
seg a b c d = a ∷ b ∷ c ∷ d ∷ []

abbrev path : Bool → ℕ → List NameSeg → Path
path root up segs = record { root = root; up = up; segs = segs }

abbrev at_root : List NameSeg → AbsolutePath
at_root segs = segs

abbrev at : At
at = record { id = 0; place = record { file = 0; line = 0; column = 0 } }

abbrev unit : NameSeg → UnitName
unit segment = record { at = at; segment = segment }

abbrev trees : List Tree → Trees
trees [] = no_trees
trees (t ∷ ts) = tree t (trees ts)

abbrev call_of : AbsolutePath → List Value → Request
call_of path args = record { path = path; args = args }

abbrev table : ℕ → List ℕ → List ℕ
table revision content = table_bytes (record { signature = codes "SSDT"; revision = revision; oem_id = codes "OEMX00"; table_id = codes "TABLE001"; oem_revision = 1 }) content

abbrev results : List Report → List (Result Flow)
results [] = []
results (r ∷ rs) = r.result ∷ results rs

abbrev last_events : List Report → List Event
last_events [] = []
last_events (r ∷ []) = r.events
last_events (r ∷ s ∷ rs) = last_events (s ∷ rs)

abbrev seen : List Report → List (Result Flow) × List Event
seen rs = (results rs, last_events rs)

abbrev p0 : Trees
p0 =
    (trees ((External at at (path false 0 (seg 69 48 95 95 ∷ [])) 1 (Some 0)) ∷ (Name at (path false 0 (seg 88 95 95 95 ∷ [])) (Integer 0))
    ∷ (Name at (path false 0 (seg 89 95 95 95 ∷ [])) (Package 0 (trees ([]))))
    ∷ (Name at (path false 0 (seg 90 95 95 95 ∷ [])) (Integer 0)) ∷ (Method at (path false 0 (seg 77 48 95 95 ∷ [])) 1
    (trees ((Apply (Plain.Data DataOp.Store) (trees ((String (50 ∷ [])) ∷ (InSlot (LocalSlot 0)) ∷ [])) (trees ([])))
    ∷ (Apply (Plain.Data DataOp.Store) (trees ((Integer 1) ∷ (InSlot (LocalSlot 1)) ∷ [])) (trees ([])))
    ∷ (Apply (Plain.Data DataOp.Store) (trees ((Buffer (Integer 4) (112 ∷ 159 ∷ [])) ∷ (InSlot (LocalSlot 2)) ∷ [])) (trees ([])))
    ∷ (Apply (Plain.Data DataOp.Store) (trees ((Apply (Plain.Data DataOp.Concatenate)
    (trees ((Apply (Plain.Data DataOp.Concatenate) (trees ((Apply (Plain.Data DataOp.Concatenate)
    (trees ((String (97 ∷ [])) ∷ (Apply (Plain.Number IntOp.Not) (trees ((Integer 270) ∷ [])) (trees (Omitted ∷ []))) ∷ []))
    (trees (Omitted ∷ []))) ∷ (String (66 ∷ 37 ∷ [])) ∷ [])) (trees (Omitted ∷ [])))
    ∷ (Apply (Plain.Data DataOp.DerefOf) (trees ((Apply (Plain.Data DataOp.Index)
    (trees ((Use at (path false 1 (seg 88 95 95 95 ∷ []))) ∷ (Integer 1) ∷ [])) (trees (Omitted ∷ []))) ∷ [])) (trees ([]))) ∷ []))
    (trees (Omitted ∷ []))) ∷ DebugTerm ∷ [])) (trees ([]))) ∷ (Apply (Plain.Number IntOp.Add) (trees ((Integer 2) ∷ (Integer 3) ∷ []))
    (trees ((InSlot (ArgSlot 0)) ∷ []))) ∷ (Apply (Plain.Data DataOp.Store) (trees ((Integer 0) ∷ (InSlot (LocalSlot 1)) ∷ []))
    (trees ([]))) ∷ (While (Apply (Plain.Number IntOp.LLess) (trees
    ((Apply (Plain.Data DataOp.Increment) (trees ((InSlot (LocalSlot 1)) ∷ [])) (trees ([]))) ∷ (Integer 1) ∷ [])) (trees ([])))
    (trees ([]))) ∷ (While (Constant Literal.One) (trees ((Apply (Plain.Data DataOp.Store)
    (trees ((Apply (Plain.Data DataOp.ToHexString) (trees ((InSlot (LocalSlot 0)) ∷ [])) (trees ((InSlot (LocalSlot 2)) ∷ [])))
    ∷ (InSlot (LocalSlot 3)) ∷ [])) (trees ([]))) ∷ (If (Apply (Plain.Number IntOp.LOr)
    (trees ((Apply (Plain.Number IntOp.LEqual) (trees ((InSlot (LocalSlot 3)) ∷ (Integer 3) ∷ [])) (trees ([])))
    ∷ (Apply (Plain.Number IntOp.LEqual) (trees ((InSlot (LocalSlot 3)) ∷ (Integer 0) ∷ [])) (trees ([]))) ∷ [])) (trees ([])))
    (trees ((Name at (path false 0 (seg 88 95 95 95 ∷ [])) (Buffer (Integer 5) (142 ∷ 45 ∷ 196 ∷ 111 ∷ []))) ∷ [])))
    ∷ (Else (trees ((If (Apply (Plain.Number IntOp.LEqual) (trees ((InSlot (LocalSlot 3)) ∷ (Integer 5) ∷ [])) (trees ([])))
    (trees (Break ∷ []))) ∷ []))) ∷ Break ∷ []))) ∷ (Apply (Plain.Data DataOp.Store)
    (trees ((Constant Literal.Zero) ∷ (InSlot (LocalSlot 2)) ∷ [])) (trees ([])))
    ∷ (Return (Package 4 (trees ((String (122 ∷ 122 ∷ [])) ∷ (Integer 0) ∷ (Buffer (Integer 3) (212 ∷ 187 ∷ 125 ∷ [])) ∷ [])))) ∷ [])))
    ∷ (Container' Device at (path false 0 (seg 68 48 95 95 ∷ [])) (trees
    ((Name at (path false 0 (seg 88 95 95 95 ∷ [])) (Constant Literal.Ones))
    ∷ (Container' Device at (path false 0 (seg 68 50 95 95 ∷ [])) (trees
    ((External at at (path false 0 (seg 77 48 95 95 ∷ [])) 8 (Some 0))
    ∷ (Name at (path false 0 (seg 89 95 95 95 ∷ [])) (Buffer (Integer 3) (17 ∷ 215 ∷ 199 ∷ [])))
    ∷ (Name at (path false 0 (seg 90 95 95 95 ∷ [])) (Integer 3)) ∷ [])))
    ∷ (Alias at (path false 0 (seg 77 48 95 95 ∷ [])) at (path false 0 (seg 65 52 95 95 ∷ []))) ∷ [])))
    ∷ (Container' Device at (path false 0 (seg 68 49 95 95 ∷ [])) (trees
    ((Name at (path false 0 (seg 88 95 95 95 ∷ [])) (Package 5 (trees
    ((Package 2 (trees ((Integer 1) ∷ (Integer 2) ∷ []))) ∷ (Package 2 (trees ((Integer 1) ∷ (Integer 2) ∷ [])))
    ∷ (Use at (path true 0 (seg 70 52 95 95 ∷ []))) ∷ (String (50 ∷ [])) ∷ []))))
    ∷ (Name at (path false 0 (seg 89 95 95 95 ∷ [])) (Package 4 (trees
    ((Use at (path false 1 (seg 89 95 95 95 ∷ []))) ∷ (Use at (path true 0 (seg 69 48 95 95 ∷ []))) ∷ (Integer 0) ∷ []))))
    ∷ (Name at (path false 0 (seg 87 95 95 95 ∷ [])) (Package 1 (trees ((Integer 18446744073709551615) ∷ [])))) ∷ [])))
    ∷ (OperationRegion at (path false 0 (seg 82 71 95 95 ∷ [])) 1 (trees ((Integer 16) ∷ (Integer 32) ∷ [])))
    ∷ (Field at at (path false 0 (seg 82 71 95 95 ∷ [])) 67 (UnitItem (unit (seg 70 48 95 95)) 3 ∷ UnitItem (unit (seg 70 49 95 95)) 10
    ∷ OffsetItem 4 ∷ UnitItem (unit (seg 70 50 95 95)) 28 ∷ OffsetItem 16 ∷ UnitItem (unit (seg 73 88 95 95)) 8
    ∷ UnitItem (unit (seg 68 84 95 95)) 8 ∷ UnitItem (unit (seg 66 75 95 95)) 4 ∷ []))
    ∷ (IndexField at at (path false 0 (seg 73 88 95 95 ∷ [])) at (path false 0 (seg 68 84 95 95 ∷ [])) 1
    (SkipItem 5 ∷ UnitItem (unit (seg 70 51 95 95)) 9 ∷ [])) ∷ (BankField at at (path false 0 (seg 82 71 95 95 ∷ [])) at
    (path false 0 (seg 66 75 95 95 ∷ [])) (Constant Literal.Ones) 1 (OffsetItem 20 ∷ UnitItem (unit (seg 70 52 95 95)) 12 ∷ []))
    ∷ (Name at (path false 0 (seg 82 66 95 95 ∷ [])) (Buffer (Integer 36)
    (71 ∷ 1 ∷ 1 ∷ 0 ∷ 2 ∷ 0 ∷ 3 ∷ 4 ∷ 135 ∷ 23 ∷ 0 ∷ 0 ∷ 1 ∷ 1 ∷ 0 ∷ 0 ∷ 0 ∷ 0 ∷ 1 ∷ 0 ∷ 0 ∷ 0 ∷ 2 ∷ 0 ∷ 0 ∷ 0 ∷ 3 ∷ 0 ∷ 0 ∷ 0 ∷ 4 ∷ 0
    ∷ 0 ∷ 0 ∷ 121 ∷ 0 ∷ []))) ∷ (Mutex at (path false 0 (seg 77 84 88 95 ∷ [])) 0)
    ∷ (EventTerm at (path false 0 (seg 69 86 84 95 ∷ []))) ∷ (Alias at (path false 0 (seg 88 95 95 95 ∷ [])) at
    (path false 0 (seg 65 48 95 95 ∷ []))) ∷ (Alias at (path false 0 (seg 77 48 95 95 ∷ [])) at (path false 0 (seg 65 51 95 95 ∷ [])))
    ∷ []))

e0 : name_errors p0 ++ type_errors p0 ≡ []
e0 = refl

b0 : encoded_terms W64 false (core_of false p0)
    ≡ 21 ∷ 69 ∷ 48 ∷ 95 ∷ 95 ∷ 1 ∷ 0 ∷ 8 ∷ 88 ∷ 95 ∷ 95 ∷ 95 ∷ 10 ∷ 0 ∷ 8 ∷ 89 ∷ 95 ∷ 95 ∷ 95 ∷ 18 ∷ 2 ∷ 0 ∷ 8 ∷ 90 ∷ 95 ∷ 95 ∷ 95 ∷ 10 ∷ 0
    ∷ 20 ∷ 70 ∷ 8 ∷ 77 ∷ 48 ∷ 95 ∷ 95 ∷ 1 ∷ 112 ∷ 13 ∷ 50 ∷ 0 ∷ 96 ∷ 112 ∷ 10 ∷ 1 ∷ 97 ∷ 112 ∷ 17 ∷ 5 ∷ 10 ∷ 4 ∷ 112 ∷ 159 ∷ 98 ∷ 112
    ∷ 115 ∷ 115 ∷ 115 ∷ 13 ∷ 97 ∷ 0 ∷ 128 ∷ 11 ∷ 14 ∷ 1 ∷ 0 ∷ 0 ∷ 13 ∷ 66 ∷ 37 ∷ 0 ∷ 0 ∷ 131 ∷ 136 ∷ 94 ∷ 88 ∷ 95 ∷ 95 ∷ 95 ∷ 10 ∷ 1 ∷ 0
    ∷ 0 ∷ 91 ∷ 49 ∷ 114 ∷ 10 ∷ 2 ∷ 10 ∷ 3 ∷ 104 ∷ 112 ∷ 10 ∷ 0 ∷ 97 ∷ 162 ∷ 6 ∷ 149 ∷ 117 ∷ 97 ∷ 10 ∷ 1 ∷ 162 ∷ 41 ∷ 1 ∷ 112 ∷ 152 ∷ 96
    ∷ 98 ∷ 99 ∷ 160 ∷ 23 ∷ 145 ∷ 147 ∷ 99 ∷ 10 ∷ 3 ∷ 147 ∷ 99 ∷ 10 ∷ 0 ∷ 8 ∷ 88 ∷ 95 ∷ 95 ∷ 95 ∷ 17 ∷ 7 ∷ 10 ∷ 5 ∷ 142 ∷ 45 ∷ 196 ∷ 111
    ∷ 161 ∷ 8 ∷ 160 ∷ 6 ∷ 147 ∷ 99 ∷ 10 ∷ 5 ∷ 165 ∷ 165 ∷ 112 ∷ 0 ∷ 98 ∷ 164 ∷ 18 ∷ 15 ∷ 4 ∷ 13 ∷ 122 ∷ 122 ∷ 0 ∷ 10 ∷ 0 ∷ 17 ∷ 6 ∷ 10
    ∷ 3 ∷ 212 ∷ 187 ∷ 125 ∷ 91 ∷ 130 ∷ 53 ∷ 68 ∷ 48 ∷ 95 ∷ 95 ∷ 8 ∷ 88 ∷ 95 ∷ 95 ∷ 95 ∷ 255 ∷ 91 ∷ 130 ∷ 31 ∷ 68 ∷ 50 ∷ 95 ∷ 95 ∷ 21
    ∷ 77 ∷ 48 ∷ 95 ∷ 95 ∷ 8 ∷ 0 ∷ 8 ∷ 89 ∷ 95 ∷ 95 ∷ 95 ∷ 17 ∷ 6 ∷ 10 ∷ 3 ∷ 17 ∷ 215 ∷ 199 ∷ 8 ∷ 90 ∷ 95 ∷ 95 ∷ 95 ∷ 10 ∷ 3 ∷ 6 ∷ 77
    ∷ 48 ∷ 95 ∷ 95 ∷ 65 ∷ 52 ∷ 95 ∷ 95 ∷ 91 ∷ 130 ∷ 73 ∷ 4 ∷ 68 ∷ 49 ∷ 95 ∷ 95 ∷ 8 ∷ 88 ∷ 95 ∷ 95 ∷ 95 ∷ 18 ∷ 24 ∷ 5 ∷ 18 ∷ 6 ∷ 2 ∷ 10
    ∷ 1 ∷ 10 ∷ 2 ∷ 18 ∷ 6 ∷ 2 ∷ 10 ∷ 1 ∷ 10 ∷ 2 ∷ 92 ∷ 70 ∷ 52 ∷ 95 ∷ 95 ∷ 13 ∷ 50 ∷ 0 ∷ 8 ∷ 89 ∷ 95 ∷ 95 ∷ 95 ∷ 18 ∷ 14 ∷ 4 ∷ 94 ∷ 89
    ∷ 95 ∷ 95 ∷ 95 ∷ 92 ∷ 69 ∷ 48 ∷ 95 ∷ 95 ∷ 10 ∷ 0 ∷ 8 ∷ 87 ∷ 95 ∷ 95 ∷ 95 ∷ 18 ∷ 11 ∷ 1 ∷ 14 ∷ 255 ∷ 255 ∷ 255 ∷ 255 ∷ 255 ∷ 255
    ∷ 255 ∷ 255 ∷ 91 ∷ 128 ∷ 82 ∷ 71 ∷ 95 ∷ 95 ∷ 1 ∷ 10 ∷ 16 ∷ 10 ∷ 32 ∷ 91 ∷ 129 ∷ 41 ∷ 82 ∷ 71 ∷ 95 ∷ 95 ∷ 67 ∷ 70 ∷ 48 ∷ 95 ∷ 95 ∷ 3
    ∷ 70 ∷ 49 ∷ 95 ∷ 95 ∷ 10 ∷ 0 ∷ 19 ∷ 70 ∷ 50 ∷ 95 ∷ 95 ∷ 28 ∷ 0 ∷ 68 ∷ 4 ∷ 73 ∷ 88 ∷ 95 ∷ 95 ∷ 8 ∷ 68 ∷ 84 ∷ 95 ∷ 95 ∷ 8 ∷ 66 ∷ 75
    ∷ 95 ∷ 95 ∷ 4 ∷ 91 ∷ 134 ∷ 17 ∷ 73 ∷ 88 ∷ 95 ∷ 95 ∷ 68 ∷ 84 ∷ 95 ∷ 95 ∷ 1 ∷ 0 ∷ 5 ∷ 70 ∷ 51 ∷ 95 ∷ 95 ∷ 9 ∷ 91 ∷ 135 ∷ 19 ∷ 82 ∷ 71
    ∷ 95 ∷ 95 ∷ 66 ∷ 75 ∷ 95 ∷ 95 ∷ 255 ∷ 1 ∷ 0 ∷ 64 ∷ 10 ∷ 70 ∷ 52 ∷ 95 ∷ 95 ∷ 12 ∷ 8 ∷ 82 ∷ 66 ∷ 95 ∷ 95 ∷ 17 ∷ 39 ∷ 10 ∷ 36 ∷ 71 ∷ 1
    ∷ 1 ∷ 0 ∷ 2 ∷ 0 ∷ 3 ∷ 4 ∷ 135 ∷ 23 ∷ 0 ∷ 0 ∷ 1 ∷ 1 ∷ 0 ∷ 0 ∷ 0 ∷ 0 ∷ 1 ∷ 0 ∷ 0 ∷ 0 ∷ 2 ∷ 0 ∷ 0 ∷ 0 ∷ 3 ∷ 0 ∷ 0 ∷ 0 ∷ 4 ∷ 0 ∷ 0 ∷ 0
    ∷ 121 ∷ 0 ∷ 91 ∷ 1 ∷ 77 ∷ 84 ∷ 88 ∷ 95 ∷ 0 ∷ 91 ∷ 2 ∷ 69 ∷ 86 ∷ 84 ∷ 95 ∷ 6 ∷ 88 ∷ 95 ∷ 95 ∷ 95 ∷ 65 ∷ 48 ∷ 95 ∷ 95 ∷ 6 ∷ 77 ∷ 48
    ∷ 95 ∷ 95 ∷ 65 ∷ 51 ∷ 95 ∷ 95 ∷ []
b0 = refl

s0 : seen (source_session W64 (known_of p0) p0 (present_ones (externals p0) ((at_root (seg 77 48 95 95 ∷ seg 68 50 95 95 ∷ seg 68 48 95 95 ∷ [])) ∷ (at_root (seg 69 48 95 95 ∷ [])) ∷ [])) 1 ([]) (call_of (at_root (seg 65 51 95 95 ∷ [])) ((Data (V.Integer 0)) ∷ []) ∷ [])) ≡ (Done (Normal false) ∷ Stopped (Faulted Fault.WrongType) ∷ [], [])
s0 = refl

abbrev p1 : Trees
p1 =
    (trees ((External at at (path false 0 (seg 69 48 95 95 ∷ [])) 1 (Some 0))
    ∷ (External at at (path false 0 (seg 69 49 95 95 ∷ [])) 8 (Some 1)) ∷ (Name at (path false 0 (seg 88 95 95 95 ∷ [])) (Integer 0))
    ∷ (Name at (path false 0 (seg 89 95 95 95 ∷ [])) (Integer 1)) ∷ (Name at (path false 0 (seg 90 95 95 95 ∷ [])) (Integer 278))
    ∷ (Name at (path false 0 (seg 87 95 95 95 ∷ [])) (Integer 98))
    ∷ (Method at (path false 0 (seg 77 48 95 95 ∷ [])) 1 (trees ((Apply (Plain.Data DataOp.Store)
    (trees ((Use at (path false 0 (seg 66 75 95 95 ∷ []))) ∷ (InSlot (LocalSlot 0)) ∷ [])) (trees ([])))
    ∷ (Apply (Plain.Data DataOp.Store) (trees ((Integer 4294967295) ∷ (InSlot (LocalSlot 1)) ∷ [])) (trees ([])))
    ∷ (Apply (Plain.Data DataOp.Store) (trees ((Integer 0) ∷ (InSlot (LocalSlot 2)) ∷ [])) (trees ([])))
    ∷ (Name at (path false 0 (seg 84 48 95 95 ∷ [])) (Apply (Plain.Event EventOp.Acquire)
    (trees ((Use at (path false 0 (seg 77 84 88 95 ∷ []))) ∷ (Raw 2 10) ∷ [])) (trees ([]))))
    ∷ (Name at (path false 0 (seg 89 95 95 95 ∷ [])) (CondRefOf (InSlot (LocalSlot 2)) (InSlot (LocalSlot 0))))
    ∷ (While (Constant Literal.One) (trees ((Apply (Plain.Data DataOp.Store)
    (trees ((Apply (Plain.Number IntOp.Multiply) (trees ((Constant Literal.One) ∷ (InSlot (LocalSlot 0)) ∷ [])) (trees (Omitted ∷ [])))
    ∷ (InSlot (LocalSlot 3)) ∷ [])) (trees ([]))) ∷ (If (Apply (Plain.Number IntOp.LEqual)
    (trees ((InSlot (LocalSlot 3)) ∷ (Constant Literal.Ones) ∷ [])) (trees ([])))
    (trees ((Apply (Plain.Data DataOp.Store) (trees ((Integer 0) ∷ (Use at (path true 0 (seg 70 50 95 95 ∷ []))) ∷ [])) (trees ([])))
    ∷ (Apply (Plain.Data DataOp.Store) (trees ((Integer 18446744073709551615) ∷ (InSlot (ArgSlot 0)) ∷ [])) (trees ([]))) ∷ [])))
    ∷ (Else (trees ((If (Apply (Plain.Number IntOp.LEqual) (trees ((InSlot (LocalSlot 3)) ∷ (Integer 1) ∷ [])) (trees ([])))
    (trees ((Call at (path false 1 (seg 77 48 95 95 ∷ [])) (trees ((Apply (Plain.Number IntOp.And)
    (trees ((Integer 3) ∷ (InSlot (LocalSlot 0)) ∷ [])) (trees (Omitted ∷ []))) ∷ [])))
    ∷ (If (Constant Literal.Ones) (trees ((Return (Integer 256)) ∷ []))) ∷ [])))
    ∷ (Else (trees ((If (Apply (Plain.Number IntOp.LEqual) (trees ((InSlot (LocalSlot 3)) ∷ (Integer 3) ∷ [])) (trees ([])))
    (trees ((Name at (path false 0 (seg 88 95 95 95 ∷ [])) (Integer 0))
    ∷ (Apply (Plain.Data DataOp.Store) (trees ((Integer 0) ∷ (InSlot (LocalSlot 1)) ∷ [])) (trees ([])))
    ∷ (Apply (Plain.Number IntOp.Multiply) (trees ((InSlot (LocalSlot 1)) ∷ (CondRefOf (InSlot (LocalSlot 0)) Omitted) ∷ []))
    (trees ((InSlot (LocalSlot 1)) ∷ []))) ∷ []))) ∷ []))) ∷ []))) ∷ Break ∷ [])))
    ∷ (Call at (path false 0 (seg 77 48 95 95 ∷ [])) (trees ((InSlot (ArgSlot 0)) ∷ [])))
    ∷ (Return (Apply (Plain.Number IntOp.ShiftLeft) (trees ((Constant Literal.Zero) ∷ (InSlot (ArgSlot 0)) ∷ []))
    (trees (Omitted ∷ [])))) ∷ []))) ∷ (Method at (path false 0 (seg 77 49 95 95 ∷ [])) 2
    (trees ((Apply (Plain.Data DataOp.Store) (trees ((Integer 0) ∷ (InSlot (LocalSlot 0)) ∷ [])) (trees ([])))
    ∷ (Apply (Plain.Data DataOp.Store) (trees ((Integer 4294967295) ∷ (InSlot (LocalSlot 1)) ∷ [])) (trees ([])))
    ∷ (Apply (Plain.Data DataOp.Store) (trees ((Integer 0) ∷ (InSlot (LocalSlot 2)) ∷ [])) (trees ([])))
    ∷ (Apply (Plain.Data DataOp.Store) (trees ((Integer 1) ∷ (InSlot (LocalSlot 2)) ∷ [])) (trees ([])))
    ∷ (Name at (path false 0 (seg 89 95 95 95 ∷ [])) (Integer 18446744073709551615))
    ∷ (While (Constant Literal.One) (trees ((Apply (Plain.Data DataOp.Store)
    (trees ((Constant Literal.Zero) ∷ (InSlot (LocalSlot 3)) ∷ [])) (trees ([]))) ∷ Break ∷ []))) ∷ (Return (InSlot (ArgSlot 1)))
    ∷ []))) ∷ (Container' Device at (path false 0 (seg 68 48 95 95 ∷ []))
    (trees ((External at at (path false 0 (seg 69 48 95 95 ∷ [])) 0 (Some 0))
    ∷ (Name at (path false 0 (seg 88 95 95 95 ∷ [])) (Constant Literal.One))
    ∷ (Name at (path false 0 (seg 89 95 95 95 ∷ [])) (Constant Literal.Ones))
    ∷ (Name at (path false 0 (seg 90 95 95 95 ∷ [])) (Integer 1077248525760))
    ∷ (Name at (path false 0 (seg 87 95 95 95 ∷ [])) (Integer 255))
    ∷ (Container' Device at (path false 0 (seg 68 50 95 95 ∷ [])) (trees
    ((Name at (path false 0 (seg 88 95 95 95 ∷ [])) (Buffer (Integer 0) ([])))
    ∷ (Name at (path false 0 (seg 89 95 95 95 ∷ [])) (Integer 233))
    ∷ (Name at (path false 0 (seg 90 95 95 95 ∷ [])) (Integer 4294967295))
    ∷ (Name at (path false 0 (seg 87 95 95 95 ∷ [])) (Constant Literal.Ones))
    ∷ (Method at (path false 0 (seg 77 48 95 95 ∷ [])) 0 (trees ((Apply (Plain.Data DataOp.Store)
    (trees ((Integer 0) ∷ (InSlot (LocalSlot 0)) ∷ [])) (trees ([])))
    ∷ (Apply (Plain.Data DataOp.Store) (trees ((Integer 4294967295) ∷ (InSlot (LocalSlot 1)) ∷ [])) (trees ([])))
    ∷ (Apply (Plain.Data DataOp.Store) (trees ((Integer 256) ∷ (InSlot (LocalSlot 2)) ∷ [])) (trees ([])))
    ∷ (Apply (Plain.Number IntOp.Subtract) (trees ((Use at (path false 3 (seg 68 49 95 95 ∷ seg 90 95 95 95 ∷ [])))
    ∷ (Apply (Plain.Data DataOp.Store) (trees ((InSlot (LocalSlot 0))
    ∷ (Use at (path true 0 (seg 68 48 95 95 ∷ seg 68 50 95 95 ∷ seg 88 95 95 95 ∷ []))) ∷ [])) (trees ([]))) ∷ []))
    (trees ((Use at (path false 3 (seg 68 49 95 95 ∷ seg 90 95 95 95 ∷ []))) ∷ [])))
    ∷ (Name at (path false 0 (seg 84 48 95 95 ∷ [])) (Integer 1)) ∷ (Return (Integer 0)) ∷ []))) ∷ []))) ∷ [])))
    ∷ (Container' Device at (path false 0 (seg 68 49 95 95 ∷ [])) (trees
    ((External at at (path false 0 (seg 87 95 95 95 ∷ [])) 4 (Some 0)) ∷ (Name at (path false 0 (seg 88 95 95 95 ∷ [])) (Integer 0))
    ∷ (Name at (path false 0 (seg 89 95 95 95 ∷ [])) (Integer 18446744073709551615))
    ∷ (Name at (path false 0 (seg 90 95 95 95 ∷ [])) (Integer 255)) ∷ [])))
    ∷ (OperationRegion at (path false 0 (seg 82 71 95 95 ∷ [])) 1 (trees ((Integer 20) ∷ (Integer 32) ∷ [])))
    ∷ (Field at at (path false 0 (seg 82 71 95 95 ∷ [])) 34 (UnitItem (unit (seg 70 48 95 95)) 4 ∷ UnitItem (unit (seg 70 49 95 95)) 3
    ∷ OffsetItem 4 ∷ UnitItem (unit (seg 70 50 95 95)) 47 ∷ OffsetItem 16 ∷ UnitItem (unit (seg 73 88 95 95)) 8
    ∷ UnitItem (unit (seg 68 84 95 95)) 8 ∷ UnitItem (unit (seg 66 75 95 95)) 4 ∷ []))
    ∷ (IndexField at at (path false 0 (seg 73 88 95 95 ∷ [])) at (path false 0 (seg 68 84 95 95 ∷ [])) 1
    (SkipItem 5 ∷ UnitItem (unit (seg 70 51 95 95)) 9 ∷ [])) ∷ (BankField at at (path false 0 (seg 82 71 95 95 ∷ [])) at
    (path false 0 (seg 66 75 95 95 ∷ [])) (Constant Literal.Ones) 1 (OffsetItem 20 ∷ UnitItem (unit (seg 70 52 95 95)) 12 ∷ []))
    ∷ (Mutex at (path false 0 (seg 77 84 88 95 ∷ [])) 0) ∷ (EventTerm at (path false 0 (seg 69 86 84 95 ∷ [])))
    ∷ (Alias at (path false 0 (seg 88 95 95 95 ∷ [])) at (path false 0 (seg 65 48 95 95 ∷ [])))
    ∷ (Alias at (path false 0 (seg 68 48 95 95 ∷ [])) at (path false 0 (seg 65 50 95 95 ∷ []))) ∷ []))

e1 : name_errors p1 ++ type_errors p1 ≡ []
e1 = refl

b1 : encoded_terms W64 true (core_of false p1)
    ≡ 21 ∷ 69 ∷ 48 ∷ 95 ∷ 95 ∷ 1 ∷ 0 ∷ 21 ∷ 69 ∷ 49 ∷ 95 ∷ 95 ∷ 8 ∷ 1 ∷ 8 ∷ 88 ∷ 95 ∷ 95 ∷ 95 ∷ 0 ∷ 8 ∷ 89 ∷ 95 ∷ 95 ∷ 95 ∷ 1 ∷ 8 ∷ 90 ∷ 95
    ∷ 95 ∷ 95 ∷ 11 ∷ 22 ∷ 1 ∷ 8 ∷ 87 ∷ 95 ∷ 95 ∷ 95 ∷ 10 ∷ 98 ∷ 20 ∷ 65 ∷ 8 ∷ 77 ∷ 48 ∷ 95 ∷ 95 ∷ 1 ∷ 112 ∷ 66 ∷ 75 ∷ 95 ∷ 95 ∷ 96 ∷ 112
    ∷ 12 ∷ 255 ∷ 255 ∷ 255 ∷ 255 ∷ 97 ∷ 112 ∷ 0 ∷ 98 ∷ 8 ∷ 84 ∷ 48 ∷ 95 ∷ 95 ∷ 91 ∷ 35 ∷ 77 ∷ 84 ∷ 88 ∷ 95 ∷ 10 ∷ 0 ∷ 8 ∷ 89 ∷ 95 ∷ 95
    ∷ 95 ∷ 91 ∷ 18 ∷ 98 ∷ 96 ∷ 162 ∷ 73 ∷ 4 ∷ 1 ∷ 112 ∷ 119 ∷ 1 ∷ 96 ∷ 0 ∷ 99 ∷ 160 ∷ 14 ∷ 147 ∷ 99 ∷ 255 ∷ 112 ∷ 0 ∷ 92 ∷ 70 ∷ 50 ∷ 95
    ∷ 95 ∷ 112 ∷ 255 ∷ 104 ∷ 161 ∷ 47 ∷ 160 ∷ 21 ∷ 147 ∷ 99 ∷ 1 ∷ 94 ∷ 77 ∷ 48 ∷ 95 ∷ 95 ∷ 123 ∷ 10 ∷ 3 ∷ 96 ∷ 0 ∷ 160 ∷ 6 ∷ 255 ∷ 164
    ∷ 11 ∷ 0 ∷ 1 ∷ 161 ∷ 23 ∷ 160 ∷ 21 ∷ 147 ∷ 99 ∷ 10 ∷ 3 ∷ 8 ∷ 88 ∷ 95 ∷ 95 ∷ 95 ∷ 0 ∷ 112 ∷ 0 ∷ 97 ∷ 119 ∷ 97 ∷ 91 ∷ 18 ∷ 96 ∷ 0 ∷ 97
    ∷ 165 ∷ 77 ∷ 48 ∷ 95 ∷ 95 ∷ 104 ∷ 164 ∷ 121 ∷ 0 ∷ 104 ∷ 0 ∷ 20 ∷ 37 ∷ 77 ∷ 49 ∷ 95 ∷ 95 ∷ 2 ∷ 112 ∷ 0 ∷ 96 ∷ 112 ∷ 12 ∷ 255 ∷ 255
    ∷ 255 ∷ 255 ∷ 97 ∷ 112 ∷ 0 ∷ 98 ∷ 112 ∷ 1 ∷ 98 ∷ 8 ∷ 89 ∷ 95 ∷ 95 ∷ 95 ∷ 255 ∷ 162 ∷ 6 ∷ 1 ∷ 112 ∷ 0 ∷ 99 ∷ 165 ∷ 164 ∷ 105 ∷ 91
    ∷ 130 ∷ 78 ∷ 9 ∷ 68 ∷ 48 ∷ 95 ∷ 95 ∷ 21 ∷ 69 ∷ 48 ∷ 95 ∷ 95 ∷ 0 ∷ 0 ∷ 8 ∷ 88 ∷ 95 ∷ 95 ∷ 95 ∷ 1 ∷ 8 ∷ 89 ∷ 95 ∷ 95 ∷ 95 ∷ 255 ∷ 8
    ∷ 90 ∷ 95 ∷ 95 ∷ 95 ∷ 14 ∷ 192 ∷ 5 ∷ 4 ∷ 209 ∷ 250 ∷ 0 ∷ 0 ∷ 0 ∷ 8 ∷ 87 ∷ 95 ∷ 95 ∷ 95 ∷ 10 ∷ 255 ∷ 91 ∷ 130 ∷ 78 ∷ 6 ∷ 68 ∷ 50 ∷ 95
    ∷ 95 ∷ 8 ∷ 88 ∷ 95 ∷ 95 ∷ 95 ∷ 17 ∷ 2 ∷ 0 ∷ 8 ∷ 89 ∷ 95 ∷ 95 ∷ 95 ∷ 10 ∷ 233 ∷ 8 ∷ 90 ∷ 95 ∷ 95 ∷ 95 ∷ 12 ∷ 255 ∷ 255 ∷ 255 ∷ 255
    ∷ 8 ∷ 87 ∷ 95 ∷ 95 ∷ 95 ∷ 255 ∷ 20 ∷ 72 ∷ 4 ∷ 77 ∷ 48 ∷ 95 ∷ 95 ∷ 0 ∷ 112 ∷ 0 ∷ 96 ∷ 112 ∷ 12 ∷ 255 ∷ 255 ∷ 255 ∷ 255 ∷ 97 ∷ 112
    ∷ 11 ∷ 0 ∷ 1 ∷ 98 ∷ 116 ∷ 94 ∷ 94 ∷ 94 ∷ 46 ∷ 68 ∷ 49 ∷ 95 ∷ 95 ∷ 90 ∷ 95 ∷ 95 ∷ 95 ∷ 112 ∷ 96 ∷ 92 ∷ 47 ∷ 3 ∷ 68 ∷ 48 ∷ 95 ∷ 95
    ∷ 68 ∷ 50 ∷ 95 ∷ 95 ∷ 88 ∷ 95 ∷ 95 ∷ 95 ∷ 94 ∷ 94 ∷ 94 ∷ 46 ∷ 68 ∷ 49 ∷ 95 ∷ 95 ∷ 90 ∷ 95 ∷ 95 ∷ 95 ∷ 8 ∷ 84 ∷ 48 ∷ 95 ∷ 95 ∷ 1
    ∷ 164 ∷ 0 ∷ 91 ∷ 130 ∷ 31 ∷ 68 ∷ 49 ∷ 95 ∷ 95 ∷ 21 ∷ 87 ∷ 95 ∷ 95 ∷ 95 ∷ 4 ∷ 0 ∷ 8 ∷ 88 ∷ 95 ∷ 95 ∷ 95 ∷ 0 ∷ 8 ∷ 89 ∷ 95 ∷ 95 ∷ 95
    ∷ 255 ∷ 8 ∷ 90 ∷ 95 ∷ 95 ∷ 95 ∷ 10 ∷ 255 ∷ 91 ∷ 128 ∷ 82 ∷ 71 ∷ 95 ∷ 95 ∷ 1 ∷ 10 ∷ 20 ∷ 10 ∷ 32 ∷ 91 ∷ 129 ∷ 40 ∷ 82 ∷ 71 ∷ 95 ∷ 95
    ∷ 34 ∷ 70 ∷ 48 ∷ 95 ∷ 95 ∷ 4 ∷ 70 ∷ 49 ∷ 95 ∷ 95 ∷ 3 ∷ 0 ∷ 25 ∷ 70 ∷ 50 ∷ 95 ∷ 95 ∷ 47 ∷ 0 ∷ 49 ∷ 73 ∷ 88 ∷ 95 ∷ 95 ∷ 8 ∷ 68 ∷ 84
    ∷ 95 ∷ 95 ∷ 8 ∷ 66 ∷ 75 ∷ 95 ∷ 95 ∷ 4 ∷ 91 ∷ 134 ∷ 17 ∷ 73 ∷ 88 ∷ 95 ∷ 95 ∷ 68 ∷ 84 ∷ 95 ∷ 95 ∷ 1 ∷ 0 ∷ 5 ∷ 70 ∷ 51 ∷ 95 ∷ 95 ∷ 9
    ∷ 91 ∷ 135 ∷ 19 ∷ 82 ∷ 71 ∷ 95 ∷ 95 ∷ 66 ∷ 75 ∷ 95 ∷ 95 ∷ 255 ∷ 1 ∷ 0 ∷ 64 ∷ 10 ∷ 70 ∷ 52 ∷ 95 ∷ 95 ∷ 12 ∷ 91 ∷ 1 ∷ 77 ∷ 84 ∷ 88
    ∷ 95 ∷ 0 ∷ 91 ∷ 2 ∷ 69 ∷ 86 ∷ 84 ∷ 95 ∷ 6 ∷ 88 ∷ 95 ∷ 95 ∷ 95 ∷ 65 ∷ 48 ∷ 95 ∷ 95 ∷ 6 ∷ 68 ∷ 48 ∷ 95 ∷ 95 ∷ 65 ∷ 50 ∷ 95 ∷ 95 ∷ []
b1 = refl

s1 : seen (source_session W64 (known_of p1) p1 (present_ones (externals p1)
    ((at_root (seg 87 95 95 95 ∷ seg 68 49 95 95 ∷ [])) ∷ (at_root (seg 69 48 95 95 ∷ seg 68 48 95 95 ∷ []))
    ∷ (at_root (seg 69 48 95 95 ∷ [])) ∷ [])) 1 ((Data (V.Integer 3772636123)) ∷ (Data (V.Integer 2815662003))
    ∷ (Data (V.Integer 613580641)) ∷ []) (call_of (at_root (seg 77 48 95 95 ∷ seg 68 50 95 95 ∷ seg 68 48 95 95 ∷ [])) ([])
    ∷ call_of (at_root (seg 77 49 95 95 ∷ [])) ((Data (V.Integer 5)) ∷ (Data (V.Integer 3)) ∷ [])
    ∷ call_of (at_root (seg 77 48 95 95 ∷ [])) ((Data (V.Integer 255)) ∷ [])
    ∷ call_of (at_root (seg 77 48 95 95 ∷ seg 68 50 95 95 ∷ seg 68 48 95 95 ∷ [])) ([]) ∷ []))
    ≡ (
      Done (Normal false) ∷ Done (Gives (Data (V.Integer 0))) ∷ Done (Gives (Data (V.Integer 3))) ∷ Stopped Unfinished ∷ [],
      (E.Read (at_root (seg 82 71 95 95 ∷ [])) 1 38 2) ∷ (E.Acquire (at_root (seg 77 84 88 95 ∷ [])) 10) ∷ [],
    )
s1 = refl

abbrev p2 : Trees
p2 =
    (trees ((External at at (path false 0 (seg 69 48 95 95 ∷ [])) 1 (Some 0))
    ∷ (Name at (path false 0 (seg 88 95 95 95 ∷ [])) (Integer 4294967295)) ∷ (Name at (path false 0 (seg 89 95 95 95 ∷ [])) (Integer 1))
    ∷ (Name at (path false 0 (seg 90 95 95 95 ∷ [])) (Integer 1)) ∷ (Method at (path false 0 (seg 77 48 95 95 ∷ [])) 1
    (trees ((Apply (Plain.Data DataOp.Store) (trees ((InSlot (LocalSlot 0)) ∷ (InSlot (LocalSlot 0)) ∷ [])) (trees ([])))
    ∷ (Apply (Plain.Data DataOp.Store) (trees ((Integer 1) ∷ (InSlot (LocalSlot 1)) ∷ [])) (trees ([])))
    ∷ (Apply (Plain.Data DataOp.Store) (trees ((Integer 0) ∷ (InSlot (LocalSlot 2)) ∷ [])) (trees ([])))
    ∷ (Apply (Plain.Data DataOp.Store) (trees ((Apply (Plain.Data DataOp.Increment) (trees ((InSlot (LocalSlot 0)) ∷ [])) (trees ([])))
    ∷ (InSlot (ArgSlot 0)) ∷ [])) (trees ([]))) ∷ (While (Constant Literal.One)
    (trees ((Apply (Plain.Data DataOp.Store) (trees ((Integer 0) ∷ (InSlot (LocalSlot 3)) ∷ [])) (trees ([]))) ∷ Break ∷ Break ∷ [])))
    ∷ (CreateField OneByte (trees ((Buffer (Integer 8) (1 ∷ 2 ∷ 3 ∷ [])) ∷ (Integer 0) ∷ [])) at (path false 0 (seg 66 48 95 95 ∷ [])))
    ∷ (Apply (Plain.Data DataOp.Store) (trees ((Integer 0) ∷ (InSlot (LocalSlot 2)) ∷ [])) (trees ([])))
    ∷ (While (Apply (Plain.Number IntOp.LLess) (trees ((Apply (Plain.Data DataOp.Increment) (trees ((InSlot (LocalSlot 2)) ∷ []))
    (trees ([]))) ∷ (Integer 1) ∷ [])) (trees ([]))) (trees ([])))
    ∷ (While (Constant Literal.One) (trees ((Apply (Plain.Data DataOp.Store)
    (trees ((Apply (Plain.Data DataOp.ObjectType) (trees ((InSlot (LocalSlot 1)) ∷ [])) (trees ([]))) ∷ (InSlot (LocalSlot 3)) ∷ []))
    (trees ([]))) ∷ (If (Apply (Plain.Number IntOp.LEqual) (trees ((InSlot (LocalSlot 3)) ∷ (Integer 2) ∷ [])) (trees ([])))
    (trees ([]))) ∷ (Else (trees ((Apply (Plain.Data DataOp.Store)
    (trees ((Apply (Plain.Data DataOp.Concatenate) (trees ((String ([]))
    ∷ (Apply (Plain.Event EventOp.Revision) (trees ([])) (trees ([]))) ∷ [])) (trees (Omitted ∷ []))) ∷ (InSlot (LocalSlot 0)) ∷ []))
    (trees ([]))) ∷ Break ∷ []))) ∷ Break ∷ []))) ∷ (Return (Call at (path false 1 (seg 68 48 95 95 ∷ seg 77 48 95 95 ∷ []))
    (trees ((Use at (path false 0 (seg 70 49 95 95 ∷ []))) ∷ (Use at (path false 1 (seg 68 49 95 95 ∷ seg 87 95 95 95 ∷ []))) ∷ []))))
    ∷ []))) ∷ (Method at (path false 0 (seg 77 49 95 95 ∷ [])) 1 (trees
    ((Apply (Plain.Data DataOp.Store) (trees ((Integer 18446744073709551615) ∷ (InSlot (LocalSlot 0)) ∷ [])) (trees ([])))
    ∷ (Apply (Plain.Data DataOp.Store) (trees ((Constant Literal.Zero) ∷ (InSlot (LocalSlot 1)) ∷ [])) (trees ([])))
    ∷ (Apply (Plain.Data DataOp.Store) (trees ((Integer 0) ∷ (InSlot (LocalSlot 2)) ∷ [])) (trees ([])))
    ∷ (Apply (Plain.Data DataOp.Store) (trees ((InSlot (ArgSlot 0)) ∷ (InSlot (LocalSlot 0)) ∷ [])) (trees ([])))
    ∷ (Name at (path false 0 (seg 89 95 95 95 ∷ [])) (Integer 4294967295))
    ∷ (Call at (path false 1 (seg 68 48 95 95 ∷ seg 68 50 95 95 ∷ seg 77 48 95 95 ∷ [])) (trees ([])))
    ∷ (Return (Apply (Plain.Data DataOp.ToDecimalString) (trees ((Integer 4294967295) ∷ []))
    (trees ((Use at (path true 0 (seg 68 48 95 95 ∷ seg 68 50 95 95 ∷ seg 87 95 95 95 ∷ []))) ∷ [])))) ∷ [])))
    ∷ (Method at (path false 0 (seg 77 50 95 95 ∷ [])) 0 (trees ((Apply (Plain.Data DataOp.Store)
    (trees ((Integer 292) ∷ (InSlot (LocalSlot 0)) ∷ [])) (trees ([])))
    ∷ (Apply (Plain.Data DataOp.Store) (trees ((Integer 0) ∷ (InSlot (LocalSlot 1)) ∷ [])) (trees ([])))
    ∷ (Apply (Plain.Data DataOp.Store) (trees ((Integer 0) ∷ (InSlot (LocalSlot 2)) ∷ [])) (trees ([])))
    ∷ (Apply (Plain.Data DataOp.Store) (trees ((Use at (path false 1 (seg 68 48 95 95 ∷ seg 68 50 95 95 ∷ seg 87 95 95 95 ∷ [])))
    ∷ (Use at (path true 0 (seg 68 48 95 95 ∷ seg 68 50 95 95 ∷ seg 87 95 95 95 ∷ []))) ∷ [])) (trees ([])))
    ∷ (Call at (path true 0 (seg 68 48 95 95 ∷ seg 77 48 95 95 ∷ [])) (trees ((Integer 41) ∷ (Integer 18446744073709551615) ∷ [])))
    ∷ (Apply (Plain.Number IntOp.Add) (trees ((InSlot (LocalSlot 1))
    ∷ (Apply (Plain.Data DataOp.ObjectType) (trees ((Use at (path false 0 (seg 88 95 95 95 ∷ []))) ∷ [])) (trees ([]))) ∷ []))
    (trees ((InSlot (LocalSlot 1)) ∷ []))) ∷ (Return (CondRefOf (Use at (path false 1 (seg 88 95 95 95 ∷ []))) Omitted)) ∷ [])))
    ∷ (Container' Device at (path false 0 (seg 68 48 95 95 ∷ [])) (trees
    ((Name at (path false 0 (seg 89 95 95 95 ∷ [])) (Integer 1)) ∷ (Method at (path false 0 (seg 77 48 95 95 ∷ [])) 2
    (trees ((Apply (Plain.Data DataOp.Store) (trees ((Integer 1) ∷ (InSlot (LocalSlot 0)) ∷ [])) (trees ([])))
    ∷ (Apply (Plain.Data DataOp.Store) (trees ((Integer 1) ∷ (InSlot (LocalSlot 1)) ∷ [])) (trees ([])))
    ∷ (Apply (Plain.Data DataOp.Store) (trees ((Integer 2) ∷ (InSlot (LocalSlot 2)) ∷ [])) (trees ([])))
    ∷ (If (Constant Literal.Zero) (trees ([]))) ∷ (Else (trees ((If (InSlot (ArgSlot 0)) (trees ([])))
    ∷ (Else (trees ((If (Integer 3) (trees ((Apply (Plain.Event EventOp.Fatal)
    (trees ((Raw 1 1) ∷ (Raw 4 2) ∷ (InSlot (ArgSlot 0)) ∷ [])) (trees ([]))) ∷ []))) ∷ []))) ∷ [])))
    ∷ (Return (Apply (Plain.Data DataOp.Store) (trees ((Constant Literal.Ones) ∷ (InSlot (LocalSlot 0)) ∷ [])) (trees ([])))) ∷ [])))
    ∷ (Container' Device at (path false 0 (seg 68 50 95 95 ∷ [])) (trees
    ((External at at (path false 0 (seg 77 48 95 95 ∷ [])) 8 (Some 0))
    ∷ (Name at (path false 0 (seg 87 95 95 95 ∷ [])) (Constant Literal.One)) ∷ []))) ∷ [])))
    ∷ (Container' Device at (path false 0 (seg 68 49 95 95 ∷ [])) (trees
    ((External at at (path false 0 (seg 87 95 95 95 ∷ [])) 4 (Some 0)) ∷ (Name at (path false 0 (seg 89 95 95 95 ∷ [])) (Integer 0))
    ∷ []))) ∷ (OperationRegion at (path false 0 (seg 82 71 95 95 ∷ [])) 1 (trees ((Integer 16) ∷ (Integer 32) ∷ [])))
    ∷ (Field at at (path false 0 (seg 82 71 95 95 ∷ [])) 64 (UnitItem (unit (seg 70 48 95 95)) 1 ∷ UnitItem (unit (seg 70 49 95 95)) 10
    ∷ OffsetItem 4 ∷ UnitItem (unit (seg 70 50 95 95)) 10 ∷ OffsetItem 16 ∷ UnitItem (unit (seg 73 88 95 95)) 8
    ∷ UnitItem (unit (seg 68 84 95 95)) 8 ∷ UnitItem (unit (seg 66 75 95 95)) 4 ∷ []))
    ∷ (IndexField at at (path false 0 (seg 73 88 95 95 ∷ [])) at (path false 0 (seg 68 84 95 95 ∷ [])) 1
    (SkipItem 5 ∷ UnitItem (unit (seg 70 51 95 95)) 9 ∷ [])) ∷ (BankField at at (path false 0 (seg 82 71 95 95 ∷ [])) at
    (path false 0 (seg 66 75 95 95 ∷ [])) (Constant Literal.Ones) 1 (OffsetItem 20 ∷ UnitItem (unit (seg 70 52 95 95)) 12 ∷ []))
    ∷ (Mutex at (path false 0 (seg 77 84 88 95 ∷ [])) 0) ∷ (EventTerm at (path false 0 (seg 69 86 84 95 ∷ []))) ∷ []))

e2 : name_errors p2 ++ type_errors p2 ≡ []
e2 = refl

b2 : encoded_terms W64 true (core_of false p2)
    ≡ 21 ∷ 69 ∷ 48 ∷ 95 ∷ 95 ∷ 1 ∷ 0 ∷ 8 ∷ 88 ∷ 95 ∷ 95 ∷ 95 ∷ 12 ∷ 255 ∷ 255 ∷ 255 ∷ 255 ∷ 8 ∷ 89 ∷ 95 ∷ 95 ∷ 95 ∷ 1 ∷ 8 ∷ 90 ∷ 95 ∷ 95
    ∷ 95 ∷ 1 ∷ 20 ∷ 68 ∷ 6 ∷ 77 ∷ 48 ∷ 95 ∷ 95 ∷ 1 ∷ 112 ∷ 96 ∷ 96 ∷ 112 ∷ 1 ∷ 97 ∷ 112 ∷ 0 ∷ 98 ∷ 112 ∷ 117 ∷ 96 ∷ 104 ∷ 162 ∷ 7 ∷ 1
    ∷ 112 ∷ 0 ∷ 99 ∷ 165 ∷ 165 ∷ 140 ∷ 17 ∷ 6 ∷ 10 ∷ 8 ∷ 1 ∷ 2 ∷ 3 ∷ 0 ∷ 66 ∷ 48 ∷ 95 ∷ 95 ∷ 112 ∷ 0 ∷ 98 ∷ 162 ∷ 5 ∷ 149 ∷ 117 ∷ 98 ∷ 1
    ∷ 162 ∷ 24 ∷ 1 ∷ 112 ∷ 142 ∷ 97 ∷ 99 ∷ 160 ∷ 5 ∷ 147 ∷ 99 ∷ 10 ∷ 2 ∷ 161 ∷ 10 ∷ 112 ∷ 115 ∷ 13 ∷ 0 ∷ 91 ∷ 48 ∷ 0 ∷ 96 ∷ 165 ∷ 165
    ∷ 164 ∷ 94 ∷ 46 ∷ 68 ∷ 48 ∷ 95 ∷ 95 ∷ 77 ∷ 48 ∷ 95 ∷ 95 ∷ 70 ∷ 49 ∷ 95 ∷ 95 ∷ 94 ∷ 46 ∷ 68 ∷ 49 ∷ 95 ∷ 95 ∷ 87 ∷ 95 ∷ 95 ∷ 95 ∷ 20
    ∷ 66 ∷ 4 ∷ 77 ∷ 49 ∷ 95 ∷ 95 ∷ 1 ∷ 112 ∷ 255 ∷ 96 ∷ 112 ∷ 0 ∷ 97 ∷ 112 ∷ 0 ∷ 98 ∷ 112 ∷ 104 ∷ 96 ∷ 8 ∷ 89 ∷ 95 ∷ 95 ∷ 95 ∷ 12 ∷ 255
    ∷ 255 ∷ 255 ∷ 255 ∷ 94 ∷ 47 ∷ 3 ∷ 68 ∷ 48 ∷ 95 ∷ 95 ∷ 68 ∷ 50 ∷ 95 ∷ 95 ∷ 77 ∷ 48 ∷ 95 ∷ 95 ∷ 164 ∷ 151 ∷ 12 ∷ 255 ∷ 255 ∷ 255 ∷ 255
    ∷ 92 ∷ 47 ∷ 3 ∷ 68 ∷ 48 ∷ 95 ∷ 95 ∷ 68 ∷ 50 ∷ 95 ∷ 95 ∷ 87 ∷ 95 ∷ 95 ∷ 95 ∷ 20 ∷ 79 ∷ 4 ∷ 77 ∷ 50 ∷ 95 ∷ 95 ∷ 0 ∷ 112 ∷ 11 ∷ 36 ∷ 1
    ∷ 96 ∷ 112 ∷ 0 ∷ 97 ∷ 112 ∷ 0 ∷ 98 ∷ 112 ∷ 94 ∷ 47 ∷ 3 ∷ 68 ∷ 48 ∷ 95 ∷ 95 ∷ 68 ∷ 50 ∷ 95 ∷ 95 ∷ 87 ∷ 95 ∷ 95 ∷ 95 ∷ 92 ∷ 47 ∷ 3
    ∷ 68 ∷ 48 ∷ 95 ∷ 95 ∷ 68 ∷ 50 ∷ 95 ∷ 95 ∷ 87 ∷ 95 ∷ 95 ∷ 95 ∷ 92 ∷ 46 ∷ 68 ∷ 48 ∷ 95 ∷ 95 ∷ 77 ∷ 48 ∷ 95 ∷ 95 ∷ 10 ∷ 41 ∷ 255 ∷ 114
    ∷ 97 ∷ 142 ∷ 88 ∷ 95 ∷ 95 ∷ 95 ∷ 97 ∷ 164 ∷ 91 ∷ 18 ∷ 94 ∷ 88 ∷ 95 ∷ 95 ∷ 95 ∷ 0 ∷ 91 ∷ 130 ∷ 75 ∷ 4 ∷ 68 ∷ 48 ∷ 95 ∷ 95 ∷ 8 ∷ 89
    ∷ 95 ∷ 95 ∷ 95 ∷ 1 ∷ 20 ∷ 42 ∷ 77 ∷ 48 ∷ 95 ∷ 95 ∷ 2 ∷ 112 ∷ 1 ∷ 96 ∷ 112 ∷ 1 ∷ 97 ∷ 112 ∷ 10 ∷ 2 ∷ 98 ∷ 160 ∷ 2 ∷ 0 ∷ 161 ∷ 18
    ∷ 160 ∷ 2 ∷ 104 ∷ 161 ∷ 13 ∷ 160 ∷ 11 ∷ 10 ∷ 3 ∷ 91 ∷ 50 ∷ 1 ∷ 2 ∷ 0 ∷ 0 ∷ 0 ∷ 104 ∷ 164 ∷ 112 ∷ 255 ∷ 96 ∷ 91 ∷ 130 ∷ 18 ∷ 68 ∷ 50
    ∷ 95 ∷ 95 ∷ 21 ∷ 77 ∷ 48 ∷ 95 ∷ 95 ∷ 8 ∷ 0 ∷ 8 ∷ 87 ∷ 95 ∷ 95 ∷ 95 ∷ 1 ∷ 91 ∷ 130 ∷ 18 ∷ 68 ∷ 49 ∷ 95 ∷ 95 ∷ 21 ∷ 87 ∷ 95 ∷ 95 ∷ 95
    ∷ 4 ∷ 0 ∷ 8 ∷ 89 ∷ 95 ∷ 95 ∷ 95 ∷ 0 ∷ 91 ∷ 128 ∷ 82 ∷ 71 ∷ 95 ∷ 95 ∷ 1 ∷ 10 ∷ 16 ∷ 10 ∷ 32 ∷ 91 ∷ 129 ∷ 41 ∷ 82 ∷ 71 ∷ 95 ∷ 95 ∷ 64
    ∷ 70 ∷ 48 ∷ 95 ∷ 95 ∷ 1 ∷ 70 ∷ 49 ∷ 95 ∷ 95 ∷ 10 ∷ 0 ∷ 21 ∷ 70 ∷ 50 ∷ 95 ∷ 95 ∷ 10 ∷ 0 ∷ 70 ∷ 5 ∷ 73 ∷ 88 ∷ 95 ∷ 95 ∷ 8 ∷ 68 ∷ 84
    ∷ 95 ∷ 95 ∷ 8 ∷ 66 ∷ 75 ∷ 95 ∷ 95 ∷ 4 ∷ 91 ∷ 134 ∷ 17 ∷ 73 ∷ 88 ∷ 95 ∷ 95 ∷ 68 ∷ 84 ∷ 95 ∷ 95 ∷ 1 ∷ 0 ∷ 5 ∷ 70 ∷ 51 ∷ 95 ∷ 95 ∷ 9
    ∷ 91 ∷ 135 ∷ 19 ∷ 82 ∷ 71 ∷ 95 ∷ 95 ∷ 66 ∷ 75 ∷ 95 ∷ 95 ∷ 255 ∷ 1 ∷ 0 ∷ 64 ∷ 10 ∷ 70 ∷ 52 ∷ 95 ∷ 95 ∷ 12 ∷ 91 ∷ 1 ∷ 77 ∷ 84 ∷ 88
    ∷ 95 ∷ 0 ∷ 91 ∷ 2 ∷ 69 ∷ 86 ∷ 84 ∷ 95 ∷ []
b2 = refl

s2 : seen (source_session W64 (known_of p2) p2 (present_ones (externals p2)
    ((at_root (seg 77 48 95 95 ∷ seg 68 50 95 95 ∷ seg 68 48 95 95 ∷ [])) ∷ (at_root (seg 87 95 95 95 ∷ seg 68 49 95 95 ∷ []))
    ∷ (at_root (seg 69 48 95 95 ∷ [])) ∷ [])) 1 ((Data (V.Integer 5)) ∷ (Data (V.Integer 1770586349)) ∷ (Data (V.Buffer (233 ∷ 40 ∷ [])))
    ∷ []) (call_of (at_root (seg 77 48 95 95 ∷ [])) ((Data (V.Integer 4294967295)) ∷ []) ∷ call_of (at_root (seg 77 50 95 95 ∷ [])) ([])
    ∷ []))
    ≡ (Done (Normal false) ∷ Stopped (Faulted Fault.Uninitialized) ∷ Stopped Unfinished ∷ [], [])
s2 = refl

abbrev p3 : Trees
p3 =
    (trees ((External at at (path false 0 (seg 69 48 95 95 ∷ [])) 1 (Some 0))
    ∷ (External at at (path false 0 (seg 69 49 95 95 ∷ [])) 8 (Some 1))
    ∷ (Name at (path false 0 (seg 88 95 95 95 ∷ [])) (Constant Literal.Zero))
    ∷ (Name at (path false 0 (seg 89 95 95 95 ∷ [])) (Package 2 (trees
    ((Package 2 (trees ((Integer 1) ∷ (Integer 2) ∷ []))) ∷ (String ([])) ∷ []))))
    ∷ (Name at (path false 0 (seg 90 95 95 95 ∷ [])) (String (122 ∷ 122 ∷ [])))
    ∷ (Method at (path false 0 (seg 77 48 95 95 ∷ [])) 0 (trees ((Apply (Plain.Data DataOp.Store)
    (trees ((Integer 0) ∷ (InSlot (LocalSlot 0)) ∷ [])) (trees ([])))
    ∷ (Apply (Plain.Data DataOp.Store) (trees ((Integer 3) ∷ (InSlot (LocalSlot 1)) ∷ [])) (trees ([])))
    ∷ (Apply (Plain.Data DataOp.Store) (trees ((Integer 0) ∷ (InSlot (LocalSlot 2)) ∷ [])) (trees ([])))
    ∷ (Apply (Plain.Data DataOp.Store) (trees ((Constant Literal.Ones) ∷ (InSlot (LocalSlot 3)) ∷ [])) (trees ([])))
    ∷ (Name at (path false 0 (seg 84 48 95 95 ∷ [])) (Apply (Plain.Data DataOp.Store)
    (trees ((Integer 4294967295) ∷ (Use at (path true 0 (seg 68 48 95 95 ∷ seg 68 50 95 95 ∷ seg 88 95 95 95 ∷ []))) ∷ []))
    (trees ([])))) ∷ (Return (Integer 18446744073709551359)) ∷ [])))
    ∷ (Container' Device at (path false 0 (seg 68 48 95 95 ∷ [])) (trees
    ((External at at (path false 0 (seg 69 48 95 95 ∷ [])) 0 (Some 0))
    ∷ (Name at (path false 0 (seg 89 95 95 95 ∷ [])) (String (122 ∷ 122 ∷ [])))
    ∷ (Name at (path false 0 (seg 90 95 95 95 ∷ [])) (Integer 1)) ∷ (Name at (path false 0 (seg 87 95 95 95 ∷ [])) (Integer 2))
    ∷ (Container' Device at (path false 0 (seg 68 50 95 95 ∷ [])) (trees
    ((External at at (path false 0 (seg 77 48 95 95 ∷ [])) 8 (Some 0))
    ∷ (Name at (path false 0 (seg 88 95 95 95 ∷ [])) (Buffer (Integer 2) (96 ∷ 133 ∷ []))) ∷ []))) ∷ [])))
    ∷ (Container' Device at (path false 0 (seg 68 49 95 95 ∷ [])) (trees
    ((Name at (path false 0 (seg 87 95 95 95 ∷ [])) (Package 2 (trees ((String (49 ∷ 70 ∷ [])) ∷ [])))) ∷ [])))
    ∷ (Mutex at (path false 0 (seg 77 84 88 95 ∷ [])) 0) ∷ (EventTerm at (path false 0 (seg 69 86 84 95 ∷ []))) ∷ []))

e3 : name_errors p3 ++ type_errors p3 ≡ []
e3 = refl

b3 : encoded_terms W64 false (core_of false p3)
    ≡ 21 ∷ 69 ∷ 48 ∷ 95 ∷ 95 ∷ 1 ∷ 0 ∷ 21 ∷ 69 ∷ 49 ∷ 95 ∷ 95 ∷ 8 ∷ 1 ∷ 8 ∷ 88 ∷ 95 ∷ 95 ∷ 95 ∷ 0 ∷ 8 ∷ 89 ∷ 95 ∷ 95 ∷ 95 ∷ 18 ∷ 11 ∷ 2 ∷ 18
    ∷ 6 ∷ 2 ∷ 10 ∷ 1 ∷ 10 ∷ 2 ∷ 13 ∷ 0 ∷ 8 ∷ 90 ∷ 95 ∷ 95 ∷ 95 ∷ 13 ∷ 122 ∷ 122 ∷ 0 ∷ 20 ∷ 57 ∷ 77 ∷ 48 ∷ 95 ∷ 95 ∷ 0 ∷ 112 ∷ 10 ∷ 0
    ∷ 96 ∷ 112 ∷ 10 ∷ 3 ∷ 97 ∷ 112 ∷ 10 ∷ 0 ∷ 98 ∷ 112 ∷ 255 ∷ 99 ∷ 8 ∷ 84 ∷ 48 ∷ 95 ∷ 95 ∷ 112 ∷ 12 ∷ 255 ∷ 255 ∷ 255 ∷ 255 ∷ 92 ∷ 47
    ∷ 3 ∷ 68 ∷ 48 ∷ 95 ∷ 95 ∷ 68 ∷ 50 ∷ 95 ∷ 95 ∷ 88 ∷ 95 ∷ 95 ∷ 95 ∷ 164 ∷ 14 ∷ 255 ∷ 254 ∷ 255 ∷ 255 ∷ 255 ∷ 255 ∷ 255 ∷ 255 ∷ 91
    ∷ 130 ∷ 60 ∷ 68 ∷ 48 ∷ 95 ∷ 95 ∷ 21 ∷ 69 ∷ 48 ∷ 95 ∷ 95 ∷ 0 ∷ 0 ∷ 8 ∷ 89 ∷ 95 ∷ 95 ∷ 95 ∷ 13 ∷ 122 ∷ 122 ∷ 0 ∷ 8 ∷ 90 ∷ 95 ∷ 95 ∷ 95
    ∷ 10 ∷ 1 ∷ 8 ∷ 87 ∷ 95 ∷ 95 ∷ 95 ∷ 10 ∷ 2 ∷ 91 ∷ 130 ∷ 23 ∷ 68 ∷ 50 ∷ 95 ∷ 95 ∷ 21 ∷ 77 ∷ 48 ∷ 95 ∷ 95 ∷ 8 ∷ 0 ∷ 8 ∷ 88 ∷ 95 ∷ 95
    ∷ 95 ∷ 17 ∷ 5 ∷ 10 ∷ 2 ∷ 96 ∷ 133 ∷ 91 ∷ 130 ∷ 17 ∷ 68 ∷ 49 ∷ 95 ∷ 95 ∷ 8 ∷ 87 ∷ 95 ∷ 95 ∷ 95 ∷ 18 ∷ 6 ∷ 2 ∷ 13 ∷ 49 ∷ 70 ∷ 0 ∷ 91
    ∷ 1 ∷ 77 ∷ 84 ∷ 88 ∷ 95 ∷ 0 ∷ 91 ∷ 2 ∷ 69 ∷ 86 ∷ 84 ∷ 95 ∷ []
b3 = refl

s3 : seen (source_session W64 (known_of p3) p3 (present_ones (externals p3)
    ((at_root (seg 77 48 95 95 ∷ seg 68 50 95 95 ∷ seg 68 48 95 95 ∷ [])) ∷ (at_root (seg 69 49 95 95 ∷ []))
    ∷ (at_root (seg 69 48 95 95 ∷ seg 68 48 95 95 ∷ [])) ∷ (at_root (seg 69 48 95 95 ∷ [])) ∷ [])) 3 ([])
    (call_of (at_root (seg 77 48 95 95 ∷ [])) ([]) ∷ call_of (at_root (seg 77 48 95 95 ∷ [])) ([]) ∷ []))
    ≡ (Done (Normal false) ∷ Done (Gives (Data (V.Integer 18446744073709551359))) ∷ Done (Gives (Data (V.Integer 18446744073709551359))) ∷ [], [])
s3 = refl

abbrev p4 : Trees
p4 =
    (trees ((IndexField at at (path false 0 (seg 73 88 95 95 ∷ [])) at (path false 0 (seg 68 84 95 95 ∷ [])) 1
    (SkipItem 5 ∷ UnitItem (unit (seg 70 51 95 95)) 9 ∷ [])) ∷ (Name at (path false 0 (seg 88 95 95 95 ∷ [])) (Package 1 (trees ([]))))
    ∷ (Method at (path false 0 (seg 77 48 95 95 ∷ [])) 2 (trees ((Apply (Plain.Data DataOp.Store)
    (trees ((Apply (Plain.Data DataOp.RefOf) (trees ((InSlot (ArgSlot 0)) ∷ [])) (trees ([]))) ∷ (InSlot (LocalSlot 0)) ∷ []))
    (trees ([]))) ∷ (Apply (Plain.Data DataOp.Store) (trees ((Integer 4294967295) ∷ (InSlot (LocalSlot 1)) ∷ [])) (trees ([])))
    ∷ (Apply (Plain.Data DataOp.Store) (trees ((Integer 0) ∷ (InSlot (LocalSlot 2)) ∷ [])) (trees ([])))
    ∷ (While (Constant Literal.One) (trees ((Apply (Plain.Data DataOp.Store)
    (trees ((InSlot (LocalSlot 1)) ∷ (InSlot (LocalSlot 3)) ∷ [])) (trees ([])))
    ∷ (If (Apply (Plain.Number IntOp.LEqual) (trees ((InSlot (LocalSlot 3)) ∷ (Buffer (Integer 1) (1 ∷ [])) ∷ [])) (trees ([])))
    (trees ((While (Constant Literal.One) (trees ((Apply (Plain.Data DataOp.Store)
    (trees ((Apply (Plain.Data DataOp.ObjectType) (trees ((Use at (path false 1 (seg 68 48 95 95 ∷ seg 65 49 95 95 ∷ []))) ∷ []))
    (trees ([]))) ∷ (InSlot (LocalSlot 4)) ∷ [])) (trees ([]))) ∷ (While (Constant Literal.One)
    (trees ((Call at (path false 0 (seg 77 48 95 95 ∷ [])) (trees ((Apply (Plain.Data DataOp.Decrement)
    (trees ((Use at (path true 0 (seg 68 48 95 95 ∷ seg 65 49 95 95 ∷ []))) ∷ [])) (trees ([])))
    ∷ (Apply (Plain.Number IntOp.Multiply) (trees ((Integer 0) ∷ (InSlot (LocalSlot 0)) ∷ [])) (trees (Omitted ∷ []))) ∷ [])))
    ∷ (If (Apply (Plain.Number IntOp.LGreater) (trees ((InSlot (LocalSlot 2)) ∷ (Integer 2) ∷ [])) (trees ([]))) (trees (Break ∷ [])))
    ∷ (Call at (path false 1 (seg 68 48 95 95 ∷ seg 77 48 95 95 ∷ [])) (trees ((Integer 256) ∷ []))) ∷ []))) ∷ Break ∷ [])))
    ∷ (Apply (Plain.Number IntOp.Xor) (trees ((InSlot (LocalSlot 2))
    ∷ (Apply (Plain.Number IntOp.FindSetLeftBit) (trees ((Use at (path true 0 (seg 70 52 95 95 ∷ []))) ∷ []))
    (trees ((InSlot (LocalSlot 2)) ∷ []))) ∷ [])) (trees ((InSlot (LocalSlot 2)) ∷ []))) ∷ [])))
    ∷ (Else (trees ((While (Apply (Plain.Number IntOp.LLess) (trees ((InSlot (LocalSlot 1)) ∷ (Integer 3) ∷ [])) (trees ([])))
    (trees ((Call at (path false 0 (seg 77 48 95 95 ∷ [])) (trees ((InSlot (ArgSlot 0)) ∷ (Integer 255) ∷ []))) ∷ [])))
    ∷ (CreateField SomeBits (trees ((Use at (path false 1 (seg 68 49 95 95 ∷ seg 87 95 95 95 ∷ []))) ∷ (Integer 3) ∷ (Integer 11) ∷ []))
    at (path false 0 (seg 66 48 95 95 ∷ []))) ∷ (While (Constant Literal.One)
    (trees ((Apply (Plain.Data DataOp.Store) (trees ((Apply (Plain.Data DataOp.ObjectType)
    (trees ((Use at (path false 1 (seg 87 95 95 95 ∷ []))) ∷ [])) (trees ([]))) ∷ (InSlot (LocalSlot 4)) ∷ [])) (trees ([]))) ∷ Break
    ∷ []))) ∷ []))) ∷ Break ∷ []))) ∷ (Apply (Plain.Data DataOp.Store)
    (trees ((Apply (Plain.Number IntOp.LNot) (trees ((Call at (path true 0 (seg 68 48 95 95 ∷ seg 77 48 95 95 ∷ []))
    (trees ((Use at (path false 0 (seg 73 88 95 95 ∷ []))) ∷ []))) ∷ [])) (trees ([])))
    ∷ (Apply (Plain.Data DataOp.Index) (trees ((InSlot (LocalSlot 0)) ∷ (Integer 0) ∷ [])) (trees (Omitted ∷ []))) ∷ [])) (trees ([])))
    ∷ (Return (Buffer (Integer 2) (202 ∷ 241 ∷ []))) ∷ []))) ∷ (Name at (path false 0 (seg 90 95 95 95 ∷ [])) (Package 0 (trees ([]))))
    ∷ (Alias at (path false 0 (seg 88 95 95 95 ∷ [])) at (path false 0 (seg 65 48 95 95 ∷ [])))
    ∷ (Name at (path false 0 (seg 87 95 95 95 ∷ [])) (String (48 ∷ [])))
    ∷ (Container' Device at (path false 0 (seg 68 48 95 95 ∷ [])) (trees
    ((Name at (path false 0 (seg 89 95 95 95 ∷ [])) (Constant Literal.Ones))
    ∷ (Method at (path false 0 (seg 77 48 95 95 ∷ [])) 1 (trees ((Apply (Plain.Data DataOp.Store)
    (trees ((Buffer (Integer 1) (60 ∷ [])) ∷ (InSlot (LocalSlot 0)) ∷ [])) (trees ([])))
    ∷ (Apply (Plain.Data DataOp.Store) (trees ((Integer 1) ∷ (InSlot (LocalSlot 1)) ∷ [])) (trees ([])))
    ∷ (Apply (Plain.Data DataOp.Store) (trees ((Constant Literal.Ones) ∷ (InSlot (LocalSlot 2)) ∷ [])) (trees ([])))
    ∷ (Apply (Plain.Data DataOp.CopyObject) (trees ((Apply (Plain.Data DataOp.RefOf) (trees ((InSlot (LocalSlot 0)) ∷ [])) (trees ([])))
    ∷ (Use at (path false 1 (seg 89 95 95 95 ∷ []))) ∷ [])) (trees ([])))
    ∷ (Apply (Plain.Data DataOp.Store) (trees ((InSlot (ArgSlot 0)) ∷ (InSlot (LocalSlot 2)) ∷ [])) (trees ([])))
    ∷ (Apply (Plain.Data DataOp.Store) (trees ((Call at (path false 2 (seg 77 48 95 95 ∷ []))
    (trees ((Apply (Plain.Number IntOp.LOr) (trees ((InSlot (LocalSlot 0)) ∷ (InSlot (ArgSlot 0)) ∷ [])) (trees ([])))
    ∷ (Apply (Plain.Data DataOp.SizeOf) (trees ((Use at (path false 2 (seg 68 49 95 95 ∷ seg 87 95 95 95 ∷ []))) ∷ [])) (trees ([])))
    ∷ []))) ∷ (InSlot (LocalSlot 1)) ∷ [])) (trees ([]))) ∷ (Apply (Plain.Data DataOp.Store)
    (trees ((Apply (Plain.Data DataOp.ToHexString) (trees ((Integer 906069314834) ∷ [])) (trees ((InSlot (LocalSlot 1)) ∷ [])))
    ∷ (InSlot (LocalSlot 0)) ∷ [])) (trees ([]))) ∷ (Return (InSlot (LocalSlot 2))) ∷ [])))
    ∷ (Container' Device at (path false 0 (seg 68 50 95 95 ∷ [])) (trees
    ((Name at (path false 0 (seg 89 95 95 95 ∷ [])) (Buffer (Integer 1) (38 ∷ []))) ∷ [])))
    ∷ (Alias at (path true 0 (seg 89 95 95 95 ∷ [])) at (path false 0 (seg 65 49 95 95 ∷ [])))
    ∷ (Alias at (path true 0 (seg 77 48 95 95 ∷ [])) at (path false 0 (seg 65 52 95 95 ∷ []))) ∷ [])))
    ∷ (Name at (path false 0 (seg 89 95 95 95 ∷ [])) (String (49 ∷ 70 ∷ []))) ∷ (Mutex at (path false 0 (seg 77 84 88 95 ∷ [])) 0)
    ∷ (EventTerm at (path false 0 (seg 69 86 84 95 ∷ []))) ∷ (Field at at (path false 0 (seg 82 71 95 95 ∷ [])) 64
    (UnitItem (unit (seg 70 48 95 95)) 5 ∷ UnitItem (unit (seg 70 49 95 95)) 1 ∷ OffsetItem 4 ∷ UnitItem (unit (seg 70 50 95 95)) 38
    ∷ OffsetItem 16 ∷ UnitItem (unit (seg 73 88 95 95)) 8 ∷ UnitItem (unit (seg 68 84 95 95)) 8 ∷ UnitItem (unit (seg 66 75 95 95)) 4
    ∷ [])) ∷ (Container' Device at (path false 0 (seg 68 49 95 95 ∷ []))
    (trees ((Name at (path false 0 (seg 88 95 95 95 ∷ [])) (String (122 ∷ 122 ∷ [])))
    ∷ (Name at (path false 0 (seg 87 95 95 95 ∷ [])) (Integer 32))
    ∷ (Method at (path false 0 (seg 77 48 95 95 ∷ [])) 1 (trees ((Apply (Plain.Event EventOp.Timer) (trees ([])) (trees ([])))
    ∷ (While (Constant Literal.One) (trees ((Apply (Plain.Data DataOp.Store)
    (trees ((Apply (Plain.Number IntOp.FindSetLeftBit) (trees ((Integer 0) ∷ [])) (trees (Omitted ∷ []))) ∷ (InSlot (LocalSlot 0))
    ∷ [])) (trees ([]))) ∷ (Apply (Plain.Data DataOp.Store) (trees ((Integer 0) ∷ (InSlot (LocalSlot 2)) ∷ [])) (trees ([])))
    ∷ (While (Apply (Plain.Number IntOp.LLess) (trees ((Apply (Plain.Data DataOp.Increment) (trees ((InSlot (LocalSlot 2)) ∷ []))
    (trees ([]))) ∷ (Integer 3) ∷ [])) (trees ([]))) (trees ([]))) ∷ Break ∷ Break ∷ [])))
    ∷ (CreateField OneByte (trees ((InSlot (LocalSlot 1)) ∷ (Integer 1) ∷ [])) at (path false 0 (seg 66 48 95 95 ∷ [])))
    ∷ (Return (Call at (path true 0 (seg 77 48 95 95 ∷ [])) (trees
    ((Use at (path false 2 (seg 90 95 95 95 ∷ []))) ∷ (Package 5 (trees
    ((Package 2 (trees ((Integer 1) ∷ (Integer 2) ∷ []))) ∷ (Package 2 (trees ((Integer 1) ∷ (Integer 2) ∷ [])))
    ∷ (String (122 ∷ 122 ∷ [])) ∷ (Package 2 (trees ((Integer 1) ∷ (Integer 2) ∷ []))) ∷ []))) ∷ [])))) ∷ []))) ∷ [])))
    ∷ (BankField at at (path false 0 (seg 82 71 95 95 ∷ [])) at (path false 0 (seg 66 75 95 95 ∷ [])) (Integer 1) 1
    (OffsetItem 20 ∷ UnitItem (unit (seg 70 52 95 95)) 12 ∷ [])) ∷ (OperationRegion at (path false 0 (seg 82 71 95 95 ∷ [])) 1
    (trees ((Integer 16) ∷ (Integer 32) ∷ []))) ∷ (Alias at (path false 0 (seg 77 48 95 95 ∷ [])) at
    (path false 0 (seg 65 51 95 95 ∷ []))) ∷ []))

e4 : name_errors p4 ++ type_errors p4 ≡ []
e4 = refl

b4 : encoded_terms W64 true (core_of false p4)
    ≡ 91 ∷ 134 ∷ 17 ∷ 73 ∷ 88 ∷ 95 ∷ 95 ∷ 68 ∷ 84 ∷ 95 ∷ 95 ∷ 1 ∷ 0 ∷ 5 ∷ 70 ∷ 51 ∷ 95 ∷ 95 ∷ 9 ∷ 8 ∷ 88 ∷ 95 ∷ 95 ∷ 95 ∷ 18 ∷ 2 ∷ 1 ∷ 20
    ∷ 69 ∷ 11 ∷ 77 ∷ 48 ∷ 95 ∷ 95 ∷ 2 ∷ 112 ∷ 113 ∷ 104 ∷ 96 ∷ 112 ∷ 12 ∷ 255 ∷ 255 ∷ 255 ∷ 255 ∷ 97 ∷ 112 ∷ 0 ∷ 98 ∷ 162 ∷ 68 ∷ 8 ∷ 1
    ∷ 112 ∷ 97 ∷ 99 ∷ 160 ∷ 77 ∷ 4 ∷ 147 ∷ 99 ∷ 17 ∷ 3 ∷ 1 ∷ 1 ∷ 162 ∷ 58 ∷ 1 ∷ 112 ∷ 142 ∷ 94 ∷ 46 ∷ 68 ∷ 48 ∷ 95 ∷ 95 ∷ 65 ∷ 49 ∷ 95
    ∷ 95 ∷ 100 ∷ 162 ∷ 41 ∷ 1 ∷ 77 ∷ 48 ∷ 95 ∷ 95 ∷ 118 ∷ 92 ∷ 46 ∷ 68 ∷ 48 ∷ 95 ∷ 95 ∷ 65 ∷ 49 ∷ 95 ∷ 95 ∷ 119 ∷ 0 ∷ 96 ∷ 0 ∷ 160 ∷ 6
    ∷ 148 ∷ 98 ∷ 10 ∷ 2 ∷ 165 ∷ 94 ∷ 46 ∷ 68 ∷ 48 ∷ 95 ∷ 95 ∷ 77 ∷ 48 ∷ 95 ∷ 95 ∷ 11 ∷ 0 ∷ 1 ∷ 165 ∷ 127 ∷ 98 ∷ 129 ∷ 92 ∷ 70 ∷ 52 ∷ 95
    ∷ 95 ∷ 98 ∷ 98 ∷ 161 ∷ 46 ∷ 162 ∷ 12 ∷ 149 ∷ 97 ∷ 10 ∷ 3 ∷ 77 ∷ 48 ∷ 95 ∷ 95 ∷ 104 ∷ 10 ∷ 255 ∷ 91 ∷ 19 ∷ 94 ∷ 46 ∷ 68 ∷ 49 ∷ 95
    ∷ 95 ∷ 87 ∷ 95 ∷ 95 ∷ 95 ∷ 10 ∷ 3 ∷ 10 ∷ 11 ∷ 66 ∷ 48 ∷ 95 ∷ 95 ∷ 162 ∷ 11 ∷ 1 ∷ 112 ∷ 142 ∷ 94 ∷ 87 ∷ 95 ∷ 95 ∷ 95 ∷ 100 ∷ 165
    ∷ 165 ∷ 112 ∷ 146 ∷ 92 ∷ 46 ∷ 68 ∷ 48 ∷ 95 ∷ 95 ∷ 77 ∷ 48 ∷ 95 ∷ 95 ∷ 73 ∷ 88 ∷ 95 ∷ 95 ∷ 136 ∷ 96 ∷ 0 ∷ 0 ∷ 164 ∷ 17 ∷ 5 ∷ 10 ∷ 2
    ∷ 202 ∷ 241 ∷ 8 ∷ 90 ∷ 95 ∷ 95 ∷ 95 ∷ 18 ∷ 2 ∷ 0 ∷ 6 ∷ 88 ∷ 95 ∷ 95 ∷ 95 ∷ 65 ∷ 48 ∷ 95 ∷ 95 ∷ 8 ∷ 87 ∷ 95 ∷ 95 ∷ 95 ∷ 13 ∷ 48 ∷ 0
    ∷ 91 ∷ 130 ∷ 69 ∷ 7 ∷ 68 ∷ 48 ∷ 95 ∷ 95 ∷ 8 ∷ 89 ∷ 95 ∷ 95 ∷ 95 ∷ 255 ∷ 20 ∷ 68 ∷ 4 ∷ 77 ∷ 48 ∷ 95 ∷ 95 ∷ 1 ∷ 112 ∷ 17 ∷ 3 ∷ 1 ∷ 60
    ∷ 96 ∷ 112 ∷ 1 ∷ 97 ∷ 112 ∷ 255 ∷ 98 ∷ 157 ∷ 113 ∷ 96 ∷ 94 ∷ 89 ∷ 95 ∷ 95 ∷ 95 ∷ 112 ∷ 104 ∷ 98 ∷ 112 ∷ 94 ∷ 94 ∷ 77 ∷ 48 ∷ 95 ∷ 95
    ∷ 145 ∷ 96 ∷ 104 ∷ 135 ∷ 94 ∷ 94 ∷ 46 ∷ 68 ∷ 49 ∷ 95 ∷ 95 ∷ 87 ∷ 95 ∷ 95 ∷ 95 ∷ 97 ∷ 112 ∷ 152 ∷ 14 ∷ 18 ∷ 141 ∷ 240 ∷ 245 ∷ 210 ∷ 0
    ∷ 0 ∷ 0 ∷ 97 ∷ 96 ∷ 164 ∷ 98 ∷ 91 ∷ 130 ∷ 14 ∷ 68 ∷ 50 ∷ 95 ∷ 95 ∷ 8 ∷ 89 ∷ 95 ∷ 95 ∷ 95 ∷ 17 ∷ 3 ∷ 1 ∷ 38 ∷ 6 ∷ 92 ∷ 89 ∷ 95 ∷ 95
    ∷ 95 ∷ 65 ∷ 49 ∷ 95 ∷ 95 ∷ 6 ∷ 92 ∷ 77 ∷ 48 ∷ 95 ∷ 95 ∷ 65 ∷ 52 ∷ 95 ∷ 95 ∷ 8 ∷ 89 ∷ 95 ∷ 95 ∷ 95 ∷ 13 ∷ 49 ∷ 70 ∷ 0 ∷ 91 ∷ 1 ∷ 77
    ∷ 84 ∷ 88 ∷ 95 ∷ 0 ∷ 91 ∷ 2 ∷ 69 ∷ 86 ∷ 84 ∷ 95 ∷ 91 ∷ 129 ∷ 40 ∷ 82 ∷ 71 ∷ 95 ∷ 95 ∷ 64 ∷ 70 ∷ 48 ∷ 95 ∷ 95 ∷ 5 ∷ 70 ∷ 49 ∷ 95 ∷ 95
    ∷ 1 ∷ 0 ∷ 26 ∷ 70 ∷ 50 ∷ 95 ∷ 95 ∷ 38 ∷ 0 ∷ 58 ∷ 73 ∷ 88 ∷ 95 ∷ 95 ∷ 8 ∷ 68 ∷ 84 ∷ 95 ∷ 95 ∷ 8 ∷ 66 ∷ 75 ∷ 95 ∷ 95 ∷ 4 ∷ 91 ∷ 130
    ∷ 64 ∷ 6 ∷ 68 ∷ 49 ∷ 95 ∷ 95 ∷ 8 ∷ 88 ∷ 95 ∷ 95 ∷ 95 ∷ 13 ∷ 122 ∷ 122 ∷ 0 ∷ 8 ∷ 87 ∷ 95 ∷ 95 ∷ 95 ∷ 10 ∷ 32 ∷ 20 ∷ 73 ∷ 4 ∷ 77 ∷ 48
    ∷ 95 ∷ 95 ∷ 1 ∷ 91 ∷ 51 ∷ 162 ∷ 19 ∷ 1 ∷ 112 ∷ 129 ∷ 0 ∷ 0 ∷ 96 ∷ 112 ∷ 0 ∷ 98 ∷ 162 ∷ 6 ∷ 149 ∷ 117 ∷ 98 ∷ 10 ∷ 3 ∷ 165 ∷ 165 ∷ 140
    ∷ 97 ∷ 1 ∷ 66 ∷ 48 ∷ 95 ∷ 95 ∷ 164 ∷ 92 ∷ 77 ∷ 48 ∷ 95 ∷ 95 ∷ 94 ∷ 94 ∷ 90 ∷ 95 ∷ 95 ∷ 95 ∷ 18 ∷ 24 ∷ 5 ∷ 18 ∷ 5 ∷ 2 ∷ 1 ∷ 10 ∷ 2
    ∷ 18 ∷ 5 ∷ 2 ∷ 1 ∷ 10 ∷ 2 ∷ 13 ∷ 122 ∷ 122 ∷ 0 ∷ 18 ∷ 5 ∷ 2 ∷ 1 ∷ 10 ∷ 2 ∷ 91 ∷ 135 ∷ 19 ∷ 82 ∷ 71 ∷ 95 ∷ 95 ∷ 66 ∷ 75 ∷ 95 ∷ 95 ∷ 1
    ∷ 1 ∷ 0 ∷ 64 ∷ 10 ∷ 70 ∷ 52 ∷ 95 ∷ 95 ∷ 12 ∷ 91 ∷ 128 ∷ 82 ∷ 71 ∷ 95 ∷ 95 ∷ 1 ∷ 10 ∷ 16 ∷ 10 ∷ 32 ∷ 6 ∷ 77 ∷ 48 ∷ 95 ∷ 95 ∷ 65 ∷ 51
    ∷ 95 ∷ 95 ∷ []
b4 = refl

s4 : seen (source_session W64 (known_of p4) p4 (present_ones (externals p4) ([])) 1 ([]) (call_of (at_root (seg 65 52 95 95 ∷ seg 68 48 95 95 ∷ [])) ((Data (V.Integer 0)) ∷ (Data (V.Integer 2)) ∷ []) ∷ [])) ≡ (Stopped (Faulted Fault.NotFound) ∷ Stopped (Faulted Fault.NotFound) ∷ [], [])
s4 = refl

abbrev p5 : Trees
p5 =
    (trees ((External at at (path false 0 (seg 69 48 95 95 ∷ [])) 1 (Some 0))
    ∷ (Name at (path false 0 (seg 88 95 95 95 ∷ [])) (Integer 255)) ∷ (Name at (path false 0 (seg 89 95 95 95 ∷ [])) (Integer 30))
    ∷ (Name at (path false 0 (seg 90 95 95 95 ∷ [])) (Constant Literal.Zero))
    ∷ (Name at (path false 0 (seg 87 95 95 95 ∷ [])) (Integer 4294967295))
    ∷ (Method at (path false 0 (seg 77 48 95 95 ∷ [])) 2 (trees ((Apply (Plain.Data DataOp.Store)
    (trees ((Integer 1) ∷ (InSlot (LocalSlot 0)) ∷ [])) (trees ([])))
    ∷ (Apply (Plain.Data DataOp.Store) (trees ((Integer 1) ∷ (InSlot (LocalSlot 1)) ∷ [])) (trees ([])))
    ∷ (Apply (Plain.Data DataOp.Store) (trees ((Integer 1) ∷ (InSlot (LocalSlot 2)) ∷ [])) (trees ([])))
    ∷ (Apply (Plain.Data DataOp.Store) (trees ((Integer 0) ∷ (InSlot (LocalSlot 3)) ∷ [])) (trees ([])))
    ∷ (While (Integer 22) (trees ([]))) ∷ (Apply (Plain.Data DataOp.Store)
    (trees ((Use at (path false 0 (seg 66 75 95 95 ∷ []))) ∷ (Use at (path false 0 (seg 70 52 95 95 ∷ []))) ∷ [])) (trees ([])))
    ∷ (Name at (path false 0 (seg 89 95 95 95 ∷ [])) (Integer 3)) ∷ (Return
    (Apply (Plain.Number IntOp.LNot) (trees ((InSlot (ArgSlot 1)) ∷ [])) (trees ([])))) ∷ [])))
    ∷ (Container' Device at (path false 0 (seg 68 48 95 95 ∷ [])) (trees
    ((External at at (path false 0 (seg 69 48 95 95 ∷ [])) 0 (Some 0))
    ∷ (Name at (path false 0 (seg 88 95 95 95 ∷ [])) (Constant Literal.Ones))
    ∷ (Method at (path false 0 (seg 77 48 95 95 ∷ [])) 1 (trees ((Apply (Plain.Data DataOp.Store)
    (trees ((Integer 4294967295) ∷ (InSlot (LocalSlot 0)) ∷ [])) (trees ([])))
    ∷ (Apply (Plain.Data DataOp.Store) (trees ((Constant Literal.Zero) ∷ (InSlot (LocalSlot 1)) ∷ [])) (trees ([])))
    ∷ (Apply (Plain.Data DataOp.Store) (trees ((Integer 0) ∷ (InSlot (LocalSlot 2)) ∷ [])) (trees ([])))
    ∷ (Apply (Plain.Data DataOp.Store) (trees ((InSlot (LocalSlot 0)) ∷ (InSlot (LocalSlot 3)) ∷ [])) (trees ([])))
    ∷ (Apply (Plain.Data DataOp.Store) (trees ((Apply (Plain.Data DataOp.Concatenate)
    (trees ((Apply (Plain.Data DataOp.Concatenate) (trees ((Apply (Plain.Data DataOp.Concatenate)
    (trees ((String (97 ∷ [])) ∷ (CondRefOf (InSlot (LocalSlot 1)) (InSlot (LocalSlot 1))) ∷ [])) (trees (Omitted ∷ [])))
    ∷ (String (66 ∷ 37 ∷ [])) ∷ [])) (trees (Omitted ∷ []))) ∷ (Call at (path false 1 (seg 68 50 95 95 ∷ seg 77 48 95 95 ∷ []))
    (trees ([]))) ∷ [])) (trees (Omitted ∷ []))) ∷ DebugTerm ∷ [])) (trees ([])))
    ∷ (Name at (path false 0 (seg 89 95 95 95 ∷ [])) (Constant Literal.One))
    ∷ (Apply (Plain.Data DataOp.Store) (trees ((Apply (Plain.Data DataOp.Concatenate)
    (trees ((Apply (Plain.Data DataOp.Concatenate) (trees ((Apply (Plain.Data DataOp.Concatenate)
    (trees ((String (97 ∷ [])) ∷ (Constant Literal.Ones) ∷ [])) (trees (Omitted ∷ []))) ∷ (String (66 ∷ 37 ∷ [])) ∷ []))
    (trees (Omitted ∷ []))) ∷ (Integer 4294967295) ∷ [])) (trees (Omitted ∷ []))) ∷ DebugTerm ∷ [])) (trees ([])))
    ∷ (Name at (path false 0 (seg 88 95 95 95 ∷ [])) (Integer 102))
    ∷ (Apply (Plain.Data DataOp.Store) (trees ((Use at (path false 0 (seg 70 51 95 95 ∷ []))) ∷ (InSlot (LocalSlot 0)) ∷ []))
    (trees ([]))) ∷ (Return (Integer 4294967295)) ∷ []))) ∷ (Container' Device at (path false 0 (seg 68 50 95 95 ∷ []))
    (trees ((External at at (path false 0 (seg 77 48 95 95 ∷ [])) 8 (Some 0))
    ∷ (Name at (path false 0 (seg 89 95 95 95 ∷ [])) (Integer 4294967295))
    ∷ (Name at (path false 0 (seg 87 95 95 95 ∷ [])) (Constant Literal.Ones)) ∷ []))) ∷ [])))
    ∷ (Container' Device at (path false 0 (seg 68 49 95 95 ∷ [])) (trees
    ((External at at (path false 0 (seg 87 95 95 95 ∷ [])) 4 (Some 0)) ∷ (Name at (path false 0 (seg 88 95 95 95 ∷ [])) (Integer 30))
    ∷ []))) ∷ (OperationRegion at (path false 0 (seg 82 71 95 95 ∷ [])) 1 (trees ((Integer 16) ∷ (Integer 32) ∷ [])))
    ∷ (Field at at (path false 0 (seg 82 71 95 95 ∷ [])) 34 (UnitItem (unit (seg 70 48 95 95)) 7 ∷ UnitItem (unit (seg 70 49 95 95)) 2
    ∷ OffsetItem 4 ∷ UnitItem (unit (seg 70 50 95 95)) 37 ∷ OffsetItem 16 ∷ UnitItem (unit (seg 73 88 95 95)) 8
    ∷ UnitItem (unit (seg 68 84 95 95)) 8 ∷ UnitItem (unit (seg 66 75 95 95)) 4 ∷ []))
    ∷ (IndexField at at (path false 0 (seg 73 88 95 95 ∷ [])) at (path false 0 (seg 68 84 95 95 ∷ [])) 1
    (SkipItem 5 ∷ UnitItem (unit (seg 70 51 95 95)) 9 ∷ [])) ∷ (BankField at at (path false 0 (seg 82 71 95 95 ∷ [])) at
    (path false 0 (seg 66 75 95 95 ∷ [])) (Constant Literal.Ones) 1 (OffsetItem 20 ∷ UnitItem (unit (seg 70 52 95 95)) 12 ∷ []))
    ∷ (Name at (path false 0 (seg 82 66 95 95 ∷ [])) (Buffer (Integer 36)
    (71 ∷ 1 ∷ 1 ∷ 0 ∷ 2 ∷ 0 ∷ 3 ∷ 4 ∷ 135 ∷ 23 ∷ 0 ∷ 0 ∷ 1 ∷ 1 ∷ 0 ∷ 0 ∷ 0 ∷ 0 ∷ 1 ∷ 0 ∷ 0 ∷ 0 ∷ 2 ∷ 0 ∷ 0 ∷ 0 ∷ 3 ∷ 0 ∷ 0 ∷ 0 ∷ 4 ∷ 0
    ∷ 0 ∷ 0 ∷ 121 ∷ 0 ∷ []))) ∷ (Mutex at (path false 0 (seg 77 84 88 95 ∷ [])) 0)
    ∷ (EventTerm at (path false 0 (seg 69 86 84 95 ∷ []))) ∷ (Alias at (path false 0 (seg 88 95 95 95 ∷ [])) at
    (path false 0 (seg 65 48 95 95 ∷ []))) ∷ []))

e5 : name_errors p5 ++ type_errors p5 ≡ []
e5 = refl

b5 : encoded_terms W32 true (core_of false p5)
    ≡ 21 ∷ 69 ∷ 48 ∷ 95 ∷ 95 ∷ 1 ∷ 0 ∷ 8 ∷ 88 ∷ 95 ∷ 95 ∷ 95 ∷ 10 ∷ 255 ∷ 8 ∷ 89 ∷ 95 ∷ 95 ∷ 95 ∷ 10 ∷ 30 ∷ 8 ∷ 90 ∷ 95 ∷ 95 ∷ 95 ∷ 0 ∷ 8
    ∷ 87 ∷ 95 ∷ 95 ∷ 95 ∷ 255 ∷ 20 ∷ 41 ∷ 77 ∷ 48 ∷ 95 ∷ 95 ∷ 2 ∷ 112 ∷ 1 ∷ 96 ∷ 112 ∷ 1 ∷ 97 ∷ 112 ∷ 1 ∷ 98 ∷ 112 ∷ 0 ∷ 99 ∷ 162 ∷ 3
    ∷ 10 ∷ 22 ∷ 112 ∷ 66 ∷ 75 ∷ 95 ∷ 95 ∷ 70 ∷ 52 ∷ 95 ∷ 95 ∷ 8 ∷ 89 ∷ 95 ∷ 95 ∷ 95 ∷ 10 ∷ 3 ∷ 164 ∷ 146 ∷ 105 ∷ 91 ∷ 130 ∷ 70 ∷ 8 ∷ 68
    ∷ 48 ∷ 95 ∷ 95 ∷ 21 ∷ 69 ∷ 48 ∷ 95 ∷ 95 ∷ 0 ∷ 0 ∷ 8 ∷ 88 ∷ 95 ∷ 95 ∷ 95 ∷ 255 ∷ 20 ∷ 72 ∷ 5 ∷ 77 ∷ 48 ∷ 95 ∷ 95 ∷ 1 ∷ 112 ∷ 255 ∷ 96
    ∷ 112 ∷ 0 ∷ 97 ∷ 112 ∷ 0 ∷ 98 ∷ 112 ∷ 96 ∷ 99 ∷ 112 ∷ 115 ∷ 115 ∷ 115 ∷ 13 ∷ 97 ∷ 0 ∷ 91 ∷ 18 ∷ 97 ∷ 97 ∷ 0 ∷ 13 ∷ 66 ∷ 37 ∷ 0 ∷ 0
    ∷ 94 ∷ 46 ∷ 68 ∷ 50 ∷ 95 ∷ 95 ∷ 77 ∷ 48 ∷ 95 ∷ 95 ∷ 0 ∷ 91 ∷ 49 ∷ 8 ∷ 89 ∷ 95 ∷ 95 ∷ 95 ∷ 1 ∷ 112 ∷ 115 ∷ 115 ∷ 115 ∷ 13 ∷ 97 ∷ 0
    ∷ 255 ∷ 0 ∷ 13 ∷ 66 ∷ 37 ∷ 0 ∷ 0 ∷ 255 ∷ 0 ∷ 91 ∷ 49 ∷ 8 ∷ 88 ∷ 95 ∷ 95 ∷ 95 ∷ 10 ∷ 102 ∷ 112 ∷ 70 ∷ 51 ∷ 95 ∷ 95 ∷ 96 ∷ 164 ∷ 255
    ∷ 91 ∷ 130 ∷ 24 ∷ 68 ∷ 50 ∷ 95 ∷ 95 ∷ 21 ∷ 77 ∷ 48 ∷ 95 ∷ 95 ∷ 8 ∷ 0 ∷ 8 ∷ 89 ∷ 95 ∷ 95 ∷ 95 ∷ 255 ∷ 8 ∷ 87 ∷ 95 ∷ 95 ∷ 95 ∷ 255
    ∷ 91 ∷ 130 ∷ 19 ∷ 68 ∷ 49 ∷ 95 ∷ 95 ∷ 21 ∷ 87 ∷ 95 ∷ 95 ∷ 95 ∷ 4 ∷ 0 ∷ 8 ∷ 88 ∷ 95 ∷ 95 ∷ 95 ∷ 10 ∷ 30 ∷ 91 ∷ 128 ∷ 82 ∷ 71 ∷ 95
    ∷ 95 ∷ 1 ∷ 10 ∷ 16 ∷ 10 ∷ 32 ∷ 91 ∷ 129 ∷ 40 ∷ 82 ∷ 71 ∷ 95 ∷ 95 ∷ 34 ∷ 70 ∷ 48 ∷ 95 ∷ 95 ∷ 7 ∷ 70 ∷ 49 ∷ 95 ∷ 95 ∷ 2 ∷ 0 ∷ 23 ∷ 70
    ∷ 50 ∷ 95 ∷ 95 ∷ 37 ∷ 0 ∷ 59 ∷ 73 ∷ 88 ∷ 95 ∷ 95 ∷ 8 ∷ 68 ∷ 84 ∷ 95 ∷ 95 ∷ 8 ∷ 66 ∷ 75 ∷ 95 ∷ 95 ∷ 4 ∷ 91 ∷ 134 ∷ 17 ∷ 73 ∷ 88 ∷ 95
    ∷ 95 ∷ 68 ∷ 84 ∷ 95 ∷ 95 ∷ 1 ∷ 0 ∷ 5 ∷ 70 ∷ 51 ∷ 95 ∷ 95 ∷ 9 ∷ 91 ∷ 135 ∷ 19 ∷ 82 ∷ 71 ∷ 95 ∷ 95 ∷ 66 ∷ 75 ∷ 95 ∷ 95 ∷ 255 ∷ 1 ∷ 0
    ∷ 64 ∷ 10 ∷ 70 ∷ 52 ∷ 95 ∷ 95 ∷ 12 ∷ 8 ∷ 82 ∷ 66 ∷ 95 ∷ 95 ∷ 17 ∷ 39 ∷ 10 ∷ 36 ∷ 71 ∷ 1 ∷ 1 ∷ 0 ∷ 2 ∷ 0 ∷ 3 ∷ 4 ∷ 135 ∷ 23 ∷ 0 ∷ 0
    ∷ 1 ∷ 1 ∷ 0 ∷ 0 ∷ 0 ∷ 0 ∷ 1 ∷ 0 ∷ 0 ∷ 0 ∷ 2 ∷ 0 ∷ 0 ∷ 0 ∷ 3 ∷ 0 ∷ 0 ∷ 0 ∷ 4 ∷ 0 ∷ 0 ∷ 0 ∷ 121 ∷ 0 ∷ 91 ∷ 1 ∷ 77 ∷ 84 ∷ 88 ∷ 95 ∷ 0
    ∷ 91 ∷ 2 ∷ 69 ∷ 86 ∷ 84 ∷ 95 ∷ 6 ∷ 88 ∷ 95 ∷ 95 ∷ 95 ∷ 65 ∷ 48 ∷ 95 ∷ 95 ∷ []
b5 = refl

s5 : seen (source_session W32 (known_of p5) p5 (present_ones (externals p5)
    ((at_root (seg 77 48 95 95 ∷ seg 68 50 95 95 ∷ seg 68 48 95 95 ∷ [])) ∷ (at_root (seg 87 95 95 95 ∷ seg 68 49 95 95 ∷ []))
    ∷ (at_root (seg 69 48 95 95 ∷ seg 68 48 95 95 ∷ [])) ∷ [])) 2 ([])
    (call_of (at_root (seg 77 48 95 95 ∷ seg 68 48 95 95 ∷ [])) ((Data (V.Integer 2)) ∷ [])
    ∷ call_of (at_root (seg 77 48 95 95 ∷ [])) ((Data (V.Integer 4294967295)) ∷ (Data (V.Integer 255)) ∷ [])
    ∷ call_of (at_root (seg 77 48 95 95 ∷ seg 68 48 95 95 ∷ [])) ((Data (V.Integer 647237459)) ∷ [])
    ∷ call_of (at_root (seg 77 48 95 95 ∷ seg 68 48 95 95 ∷ [])) ((Data (V.Integer 1)) ∷ []) ∷ []))
    ≡ (Done (Normal false) ∷ Stopped Unfinished ∷ [], (E.Call (at_root (seg 77 48 95 95 ∷ seg 68 50 95 95 ∷ seg 68 48 95 95 ∷ [])) ([])) ∷ [])
s5 = refl
