-- Worked tables and a worked session, computed from the definitions alone.
use Rattle.std.proofs.Common.{◌≡◌, ℕ, true, false, List, [], ◌∷◌, ◌++◌, Some, None, refl}
use Rattle.std.specs.Prelude.{codes}
use Rattle.acpi_values.specs.declared.width.Width.TheVariants.{W32, W64}
use Rattle.acpi_values.specs.declared.operator.IntOp.{IntOp}
use Rattle.acpi_values.specs.declared.operator.Plain.TheVariants as Plain
use Rattle.acpi_values.specs.declared.fault.Fault.TheVariants as Fault
use Rattle.acpi_values.specs.Values as V
use Rattle.acpi_values.specs.Values.{Value, Data}
use Rattle.acpi_state.specs.Outcomes.{Flow, Gives, Normal, Result, Done, Stopped, Faulted}
use Rattle.acpi_state.specs.Sessions.{Report, Request}
use Rattle.asl_tree.specs.declared.path.Path.{Path}
use Rattle.asl_tree.specs.Tree.{At, Integer, Omitted, Apply, Return, Name, Method, Trees, no_trees, tree}
use Rattle.asl_meaning.specs.Declarations.{known_of}
use Rattle.asl_meaning.specs.SourceSession.{source_session}
use Rattle.aml_code.specs.Fronts.{name_front, package_length_front}
use Rattle.aml_code.specs.Encoding.{package_length_bytes}
use Rattle.aml_meaning.specs.Encoded.{encoded_terms}
use Rattle.aml_code.specs.Header.{HeaderFields, table_bytes}
use Rattle.aml_meaning.specs.ByteSession.{byte_session}
use Rattle.aml_meaning.specs.Codes.{code_front}

abbrev pub one_segment : ℕ → Path
one_segment letter = record { root = false; up = 0; segs = (letter ∷ 0x5F ∷ 0x5F ∷ 0x5F ∷ []) ∷ [] }

-- which node a term is makes no difference here
abbrev pub at : At
at = record { id = 0; place = record { file = 0; line = 0; column = 0 } }

abbrev pub fields : HeaderFields
fields = record { signature = codes "SSDT"; revision = 2; oem_id = codes "OEMX00"; table_id = codes "TABLE001"; oem_revision = 1 }

-- Name (X, 5)
one_name : table_bytes fields (encoded_terms W64 true (tree (Name at (one_segment 0x58) (Integer 5)) no_trees))
    ≡ 0x53 ∷ 0x53 ∷ 0x44 ∷ 0x54 ∷ 0x2B ∷ 0x00 ∷ 0x00 ∷ 0x00 ∷ 0x02 ∷ 0xF8 ∷ 0x4F ∷ 0x45 ∷ 0x4D ∷ 0x58 ∷ 0x30 ∷ 0x30 ∷ 0x54 ∷ 0x41 ∷ 0x42 ∷ 0x4C ∷ 0x45 ∷ 0x30
    ∷ 0x30 ∷ 0x31 ∷ 0x01 ∷ 0x00 ∷ 0x00 ∷ 0x00 ∷ 0x49 ∷ 0x4E ∷ 0x54 ∷ 0x4C ∷ 0x05 ∷ 0x01 ∷ 0x21 ∷ 0x20 ∷ 0x08 ∷ 0x58 ∷ 0x5F ∷ 0x5F ∷ 0x5F ∷ 0x0A ∷ 0x05 ∷ []
one_name = refl

-- Name (X, 0x1FFFFFFFF) in a table of revision 1, whose integers have 32 bits
abbrev pub narrow_fields : HeaderFields
narrow_fields = record { signature = codes "SSDT"; revision = 1; oem_id = codes "OEMX00"; table_id = codes "TABLE001"; oem_revision = 1 }

cut_name : table_bytes narrow_fields (encoded_terms W32 true (tree (Name at (one_segment 0x58) (Integer 0x1FFFFFFFF)) no_trees))
    ≡ 0x53 ∷ 0x53 ∷ 0x44 ∷ 0x54 ∷ 0x2A ∷ 0x00 ∷ 0x00 ∷ 0x00 ∷ 0x01 ∷ 0x0A ∷ 0x4F ∷ 0x45 ∷ 0x4D ∷ 0x58 ∷ 0x30 ∷ 0x30 ∷ 0x54 ∷ 0x41 ∷ 0x42 ∷ 0x4C ∷ 0x45 ∷ 0x30
    ∷ 0x30 ∷ 0x31 ∷ 0x01 ∷ 0x00 ∷ 0x00 ∷ 0x00 ∷ 0x49 ∷ 0x4E ∷ 0x54 ∷ 0x4C ∷ 0x05 ∷ 0x01 ∷ 0x21 ∷ 0x20 ∷ 0x08 ∷ 0x58 ∷ 0x5F ∷ 0x5F ∷ 0x5F ∷ 0xFF ∷ []
cut_name = refl

-- Method (M, 0) {Return (1)}
one_method : encoded_terms W64 true (tree (Method at (one_segment 0x4D) 0 (tree (Return (Integer 1)) no_trees)) no_trees) ≡ 0x14 ∷ 0x08 ∷ 0x4D ∷ 0x5F ∷ 0x5F ∷ 0x5F ∷ 0x00 ∷ 0xA4 ∷ 0x01 ∷ []
one_method = refl

lengths : package_length_bytes 62 ++ package_length_bytes 63 ++ package_length_bytes 4093 ++ package_length_bytes 4094 ≡ 0x3F ∷ 0x41 ∷ 0x04 ∷ 0x4F ∷ 0xFF ∷ 0x81 ∷ 0x00 ∷ 0x01 ∷ []
lengths = refl

-- bits 4 and 5 of the first of several bytes are 0, and a length counts its own bytes
no_lengths : package_length_front (0x51 ∷ 0x04 ∷ []) ∷ package_length_front (0x00 ∷ []) ∷ package_length_front (0x40 ∷ 0x00 ∷ []) ∷ [] ≡ None ∷ None ∷ None ∷ []
no_lengths = refl

-- ^^A.B with its two segments, and \ alone
names : name_front (0x5E ∷ 0x5E ∷ 0x2E ∷ 0x41 ∷ 0x5F ∷ 0x5F ∷ 0x5F ∷ 0x42 ∷ 0x5F ∷ 0x5F ∷ 0x5F ∷ 0x07 ∷ [])
    ≡ Some (record { root = false; up = 2; segs = (0x41 ∷ 0x5F ∷ 0x5F ∷ 0x5F ∷ []) ∷ (0x42 ∷ 0x5F ∷ 0x5F ∷ 0x5F ∷ []) ∷ [] }, 0x07 ∷ [])
names = refl

root_name : name_front (0x5C ∷ 0x00 ∷ []) ≡ Some (record { root = true; up = 0; segs = [] }, [])
root_name = refl

-- Name (X, 5)  Method (M, 0) {Return (1)}  Name (X, 6), of which the last is a fault, with the calls M (), M (1), \_OSI (7) and Q ()
abbrev block : Trees
block =
    tree (Name at (one_segment 0x58) (Integer 5))
    (tree (Method at (one_segment 0x4D) 0 (tree (Return (Integer 1)) no_trees))
    (tree (Name at (one_segment 0x58) (Integer 6)) no_trees))

abbrev requests : List Request
requests =
    record { path = (0x4D ∷ 0x5F ∷ 0x5F ∷ 0x5F ∷ []) ∷ []; args = [] }
    ∷ record { path = (0x4D ∷ 0x5F ∷ 0x5F ∷ 0x5F ∷ []) ∷ []; args = Data (V.Integer 1) ∷ [] }
    ∷ record { path = (0x5F ∷ 0x4F ∷ 0x53 ∷ 0x49 ∷ []) ∷ []; args = Data (V.Integer 7) ∷ [] }
    ∷ record { path = (0x51 ∷ 0x5F ∷ 0x5F ∷ 0x5F ∷ []) ∷ []; args = [] } ∷ []

abbrev pub results : List Report → List (Result Flow)
results [] = []
results (r ∷ rs) = r.result ∷ results rs

abbrev table : List ℕ
table = table_bytes fields (encoded_terms W64 true block)

same_runs : byte_session table [] 1 (Data (V.Integer 9) ∷ []) requests ≡ source_session W64 (known_of block) block [] 1 (Data (V.Integer 9) ∷ []) requests
unfolding code_front
same_runs = refl

seen : results (byte_session table [] 1 (Data (V.Integer 9) ∷ []) requests)
    ≡ Stopped (Faulted Fault.AlreadyExists) ∷ Done (Gives (Data (V.Integer 1))) ∷ Stopped (Faulted Fault.WrongType) ∷ Done (Gives (Data (V.Integer 9))) ∷ Stopped (Faulted Fault.NotFound) ∷ []
unfolding code_front
seen = refl

-- Method (M, 0) {Return (0xFFFFFFFF + 0x200000002)}
abbrev sums : Trees
sums = tree (Method at (one_segment 0x4D) 0 (tree (Return (Apply (Plain.Number IntOp.Add) (tree (Integer 0xFFFFFFFF) (tree (Integer 0x200000002) no_trees)) (tree Omitted no_trees))) no_trees)) no_trees

abbrev sum : List Request
sum = record { path = (0x4D ∷ 0x5F ∷ 0x5F ∷ 0x5F ∷ []) ∷ []; args = [] } ∷ []

-- in a table of revision 1 the literals and their sum are taken modulo 2 ^ 32
narrow_sum : results (byte_session (table_bytes narrow_fields (encoded_terms W32 true sums)) [] 1 [] sum) ≡ Done (Normal false) ∷ Done (Gives (Data (V.Integer 1))) ∷ []
unfolding code_front
narrow_sum = refl

narrow_same : byte_session (table_bytes narrow_fields (encoded_terms W32 true sums)) [] 1 [] sum ≡ source_session W32 (known_of sums) sums [] 1 [] sum
unfolding code_front
narrow_same = refl

-- and in one of revision 2 modulo 2 ^ 64
wide_sum : results (byte_session (table_bytes fields (encoded_terms W64 true sums)) [] 1 [] sum) ≡ Done (Normal false) ∷ Done (Gives (Data (V.Integer 0x300000001))) ∷ []
unfolding code_front
wide_sum = refl
