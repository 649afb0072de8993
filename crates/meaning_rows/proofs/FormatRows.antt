-- Sessions with Printf, Fprintf and For, computed from the source, from its core and from the bytes of its table.
use Rattle.std.proofs.Common.{◌≡◌, ℕ, false, true, List, [], ◌∷◌, refl}
use Rattle.std.specs.Prelude.{codes}
use Rattle.acpi_values.specs.declared.width.Width.{Width}
use Rattle.acpi_values.specs.declared.width.Width.TheVariants.{W32, W64}
use Rattle.acpi_values.specs.declared.operator.IntOp.TheVariants as IntOp
use Rattle.acpi_values.specs.declared.operator.DataOp.TheVariants as DataOp
use Rattle.acpi_values.specs.declared.operator.Plain.TheVariants as Plain
use Rattle.acpi_values.specs.Values.{Value}
use Rattle.acpi_state.specs.Objects as E
use Rattle.acpi_state.specs.Objects.{Event}
use Rattle.acpi_state.specs.Outcomes.{Flow, Normal, Gives, Unfinished, Result, Done, Stopped}
use Rattle.acpi_state.specs.Forms.{ArgSlot}
use Rattle.acpi_state.specs.Sessions.{Report, Request}
use Rattle.asl_tree.specs.Tree.{Tree, Integer, InSlot, Debug, If, Return, For, Print, Switch, Case, Continue, Operated, Assigned, Trees}
use Rattle.asl_meaning.specs.Declarations.{known_of}
use Rattle.asl_meaning.specs.SourceSession.{source_session}
use Rattle.aml_meaning.specs.Encoded.{encoded_terms}
use Rattle.aml_meaning.specs.Codes.{code_front}
use Rattle.aml_meaning.specs.ByteSession.{byte_session}
use Rattle.aml_code.specs.Header.{HeaderFields, table_bytes}
use Rattle.named_sessions.specs.Core.{core_of}
use Rattle.asl_lower.specs.Nodes.{named_all}
use Rattle.asl_prints.specs.Forms.{formed_all}
use Rattle.hidden_locals.specs.Switches.{without_switches}
use Rattle.meaning_rows.proofs.Rows.{fields, narrow_fields, results}
use Rattle.meaning_rows.proofs.Outside.{hex, text}
use Rattle.meaning_rows.proofs.SwitchRows.{list_of, local, number, method, call_of}

abbrev core_from : Trees → Trees
core_from program = core_of false (named_all (without_switches (formed_all program)))

abbrev bytes_of : Width → Trees → List ℕ
bytes_of width program = encoded_terms width true (core_from program)

abbrev of_source : Width → ℕ → List Request → Trees → List Report
of_source width n calls program = source_session width (known_of program) program [] n [] calls

abbrev of_core : Width → ℕ → List Request → Trees → List Report
of_core width n calls program = of_source width n calls (core_from program)

abbrev of_table : HeaderFields → ℕ → List Request → List ℕ → List Report
of_table header n calls content = byte_session (table_bytes header content) [] n [] calls

abbrev events_of : List Report → List (List Event)
events_of [] = []
events_of (r ∷ rs) = r.events ∷ events_of rs

-- Method (P, 1) {Printf ("X=%o", Arg0)}
abbrev printing : Trees
printing = method 0x50 1 (Print Debug (codes "X=%o") (list_of (InSlot (ArgSlot 0) ∷ [])) ∷ [])

abbrev printing_bytes : List ℕ
printing_bytes = hex "14 10 50 5F 5F 5F 01 70 73 0D 58 3D 00 68 00 5B 31"

abbrev print_1F : List Request
print_1F = call_of 0x50 (number 0x1F ∷ [])

abbrev told_once : Value → List (List Event)
told_once value = [] ∷ (E.Debug value ∷ []) ∷ []

printing_written : bytes_of W64 printing ≡ printing_bytes
printing_written = refl

printing_told : events_of (of_source W64 1 print_1F printing) ≡ told_once (text "X=000000000000001F")
printing_told = refl

printing_core_told : events_of (of_core W64 1 print_1F printing) ≡ told_once (text "X=000000000000001F")
printing_core_told = refl

printing_table_told : events_of (of_table fields 1 print_1F printing_bytes) ≡ told_once (text "X=000000000000001F")
unfolding code_front
printing_table_told = refl

-- in a table of revision 1 a number has eight digits
narrow_printing_told : events_of (of_source W32 1 print_1F printing) ≡ told_once (text "X=0000001F")
narrow_printing_told = refl

narrow_printing_table_told : events_of (of_table narrow_fields 1 print_1F printing_bytes) ≡ told_once (text "X=0000001F")
unfolding code_front
narrow_printing_table_told = refl

-- Method (Q, 1) {Fprintf (Local0, "%o%%", Arg0) Return (Local0)}
abbrev printing_into : Trees
printing_into = method 0x51 1 (Print (local 0) (codes "%o%%") (list_of (InSlot (ArgSlot 0) ∷ [])) ∷ Return (local 0) ∷ [])

abbrev printing_into_bytes : List ℕ
printing_into_bytes = hex "14 14 51 5F 5F 5F 01 70 73 73 0D 00 68 00 0D 25 00 00 60 A4 60"

abbrev gives_after_load : Value → List (Result Flow)
gives_after_load value = Done (Normal false) ∷ Done (Gives value) ∷ []

printing_into_written : bytes_of W64 printing_into ≡ printing_into_bytes
printing_into_written = refl

printing_into_gives : results (of_source W64 1 (call_of 0x51 (text "42" ∷ [])) printing_into) ≡ gives_after_load (text "42%")
printing_into_gives = refl

printing_into_table_gives : results (of_table fields 1 (call_of 0x51 (text "42" ∷ [])) printing_into_bytes) ≡ gives_after_load (text "42%")
unfolding code_front
printing_into_table_gives = refl

-- For (Local0 = 0, Local0 < 2, Local0++) {..} Return (Local1)
abbrev twice : ℕ → List Tree → Trees
twice letter body =
    method letter 0
    (For (Assigned (local 0) (Integer 0)) (Operated (Plain.Number IntOp.LLess) (list_of (local 0 ∷ Integer 2 ∷ [])))
    (Operated (Plain.Data DataOp.Increment) (list_of (local 0 ∷ []))) (list_of body)
    ∷ Return (local 1) ∷ [])

abbrev cut_off : List (Result Flow)
cut_off = Done (Normal false) ∷ Stopped Unfinished ∷ []

-- Method (F) {For (..) {If (Local0 == 0) {Continue} Local1 = Local0} Return (Local1)}
abbrev counting : Trees
counting =
    twice 0x46
    (If (Operated (Plain.Number IntOp.LEqual) (list_of (local 0 ∷ Integer 0 ∷ []))) (list_of (Continue ∷ []))
    ∷ Assigned (local 1) (local 0) ∷ [])

abbrev counting_bytes : List ℕ
counting_bytes = hex "14 1E 46 5F 5F 5F 00 70 00 60 A2 12 95 60 0A 02 A0 07 93 60 00 75 60 9F 70 60 61 75 60 A4 61"

counting_written : bytes_of W64 counting ≡ counting_bytes
counting_written = refl

counting_cut_off : results (of_source W64 1 (call_of 0x46 []) counting) ≡ cut_off
counting_cut_off = refl

counting_table_cut_off : results (of_table fields 1 (call_of 0x46 []) counting_bytes) ≡ cut_off
unfolding code_front
counting_table_cut_off = refl

counting_gives : results (of_source W64 2 (call_of 0x46 []) counting) ≡ gives_after_load (number 1)
counting_gives = refl

counting_core_gives : results (of_core W64 2 (call_of 0x46 []) counting) ≡ gives_after_load (number 1)
counting_core_gives = refl

counting_table_gives : results (of_table fields 2 (call_of 0x46 []) counting_bytes) ≡ gives_after_load (number 1)
unfolding code_front
counting_table_gives = refl

-- Method (W) {For (..) {Switch (Local0) {Case (0) {Continue}} Local1 = Local0} Return (Local1)}: the step runs before the flag is set
abbrev crossing : Trees
crossing =
    twice 0x57 (Switch (local 0) (list_of (Case (Integer 0) (list_of (Continue ∷ [])) ∷ [])) ∷ Assigned (local 1) (local 0) ∷ [])

abbrev crossing_bytes : List ℕ
crossing_bytes =
    hex "14 32 57 5F 5F 5F 00 70 00 60 A2 26 95 60 0A 02 70 00 63 A2 11 01 70 60 62 A0 0A 93 62 00 75 60 70 01 63 A5 A5 A0 06 63 70 00 63 9F 70 60 61 75 60 A4 61"

crossing_written : bytes_of W64 crossing ≡ crossing_bytes
crossing_written = refl

crossing_cut_off : results (of_source W64 1 (call_of 0x57 []) crossing) ≡ cut_off
crossing_cut_off = refl

crossing_table_cut_off : results (of_table fields 1 (call_of 0x57 []) crossing_bytes) ≡ cut_off
unfolding code_front
crossing_table_cut_off = refl

crossing_gives : results (of_source W64 2 (call_of 0x57 []) crossing) ≡ gives_after_load (number 1)
crossing_gives = refl

crossing_table_gives : results (of_table fields 2 (call_of 0x57 []) crossing_bytes) ≡ gives_after_load (number 1)
unfolding code_front
crossing_table_gives = refl
