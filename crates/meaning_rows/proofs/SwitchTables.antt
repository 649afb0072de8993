-- A session with a Continue that leaves two Switches, computed from the source, from its core and from the bytes of its table.
use Rattle.std.proofs.Common.{◌≡◌, ℕ, false, true, List, [], ◌∷◌, refl}
use Rattle.std.specs.Prelude.{codes}
use Rattle.acpi_values.specs.declared.width.Width.TheVariants.{W64}
use Rattle.acpi_values.specs.declared.operator.IntOp.TheVariants as IntOp
use Rattle.acpi_values.specs.declared.operator.DataOp.TheVariants as DataOp
use Rattle.acpi_values.specs.declared.operator.Plain.TheVariants as Plain
use Rattle.acpi_state.specs.Outcomes.{Flow, Normal, Gives, Unfinished, Result, Done, Stopped}
use Rattle.asl_tree.specs.Tree.{Integer, Return, While, Switch, Case, Default, Continue, Operated, Assigned, Trees}
use Rattle.asl_meaning.specs.Declarations.{known_of}
use Rattle.asl_meaning.specs.SourceSession.{source_session}
use Rattle.aml_meaning.specs.Encoded.{encoded_terms}
use Rattle.aml_meaning.specs.Codes.{code_front}
use Rattle.aml_meaning.specs.ByteSession.{byte_session}
use Rattle.aml_code.specs.Header.{HeaderFields, table_bytes}
use Rattle.named_sessions.specs.Core.{core_of}
use Rattle.asl_lower.specs.Nodes.{named_all}
use Rattle.hidden_locals.specs.Switches.{without_switches}
use Rattle.meaning_rows.proofs.Rows.{results}
use Rattle.meaning_rows.proofs.SwitchRows.{list_of, local, number, method, call_of}

-- Method (T, 0) {Local0 = 0 While (Local0 < 2) {Local0++ Switch (Local0) {Case (1) {Switch (Local0) {Default {Continue}}}} Local1 = Local0} Return (Local1)}
abbrev program : Trees
program =
    method 0x54 0
    (Assigned (local 0) (Integer 0)
    ∷ While (Operated (Plain.Number IntOp.LLess) (list_of (local 0 ∷ Integer 2 ∷ [])))
    (list_of (Operated (Plain.Data DataOp.Increment) (list_of (local 0 ∷ []))
    ∷ Switch (local 0) (list_of (Case (Integer 1) (list_of (Switch (local 0) (list_of (Default (list_of (Continue ∷ [])) ∷ [])) ∷ [])) ∷ []))
    ∷ Assigned (local 1) (local 0) ∷ []))
    ∷ Return (local 1) ∷ [])

abbrev core : Trees
core = core_of false (named_all (without_switches program))

abbrev fields : HeaderFields
fields = record { signature = codes "SSDT"; revision = 2; oem_id = codes "OEMX00"; table_id = codes "TABLE001"; oem_revision = 1 }

abbrev content : List ℕ
content =
    0x14 ∷ 0x3B ∷ 0x54 ∷ 0x5F ∷ 0x5F ∷ 0x5F ∷ 0x00
    ∷ 0x70 ∷ 0x00 ∷ 0x60
    ∷ 0xA2 ∷ 0x2F ∷ 0x95 ∷ 0x60 ∷ 0x0A ∷ 0x02
    ∷ 0x75 ∷ 0x60
    ∷ 0x70 ∷ 0x00 ∷ 0x64
    ∷ 0xA2 ∷ 0x1A ∷ 0x01 ∷ 0x70 ∷ 0x60 ∷ 0x62
    ∷ 0xA0 ∷ 0x13 ∷ 0x93 ∷ 0x62 ∷ 0x01
    ∷ 0xA2 ∷ 0x0A ∷ 0x01 ∷ 0x70 ∷ 0x60 ∷ 0x63 ∷ 0x70 ∷ 0x01 ∷ 0x64 ∷ 0xA5 ∷ 0xA5
    ∷ 0xA0 ∷ 0x03 ∷ 0x64 ∷ 0xA5
    ∷ 0xA5
    ∷ 0xA0 ∷ 0x06 ∷ 0x64 ∷ 0x70 ∷ 0x00 ∷ 0x64 ∷ 0x9F
    ∷ 0x70 ∷ 0x60 ∷ 0x61
    ∷ 0xA4 ∷ 0x61 ∷ []

bytes_are : encoded_terms W64 true core ≡ content
bytes_are = refl

abbrev table : List ℕ
table = table_bytes fields content

abbrev source_results : ℕ → List (Result Flow)
source_results n = results (source_session W64 (known_of program) program [] n [] (call_of 0x54 []))

abbrev core_results : ℕ → List (Result Flow)
core_results n = results (source_session W64 (known_of core) core [] n [] (call_of 0x54 []))

abbrev byte_results : ℕ → List (Result Flow)
byte_results n = results (byte_session table [] n [] (call_of 0x54 []))

abbrev cut_off : List (Result Flow)
cut_off = Done (Normal false) ∷ Stopped Unfinished ∷ []

abbrev gives_two : List (Result Flow)
gives_two = Done (Normal false) ∷ Done (Gives (number 2)) ∷ []

source_at_one : source_results 1 ≡ cut_off
source_at_one = refl

core_at_one : core_results 1 ≡ cut_off
core_at_one = refl

bytes_at_one : byte_results 1 ≡ cut_off
unfolding code_front
bytes_at_one = refl

source_at_two : source_results 2 ≡ gives_two
source_at_two = refl

core_at_two : core_results 2 ≡ gives_two
core_at_two = refl

bytes_at_two : byte_results 2 ≡ gives_two
unfolding code_front
bytes_at_two = refl
