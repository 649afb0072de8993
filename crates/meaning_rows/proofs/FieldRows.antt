-- Worked fields: their bytes, and sessions over them, computed from the definitions alone.
use Rattle.std.proofs.Common.{◌≡◌, ℕ, true, false, List, [], ◌∷◌, ◌++◌, refl}
use Rattle.std.specs.Prelude.{codes}
use Rattle.acpi_values.specs.Paths.{NameSeg, AbsolutePath}
use Rattle.acpi_values.specs.declared.width.Width.TheVariants.{W64}
use Rattle.acpi_values.specs.declared.operator.DataOp.TheVariants as DataOp
use Rattle.acpi_values.specs.declared.operator.Plain.TheVariants as Plain
use Rattle.acpi_values.specs.Values as V
use Rattle.acpi_values.specs.Values.{Value, Data}
use Rattle.acpi_state.specs.Objects.{Event, Read, Write}
use Rattle.acpi_state.specs.Outcomes.{Flow, Normal, Gives, Result, Done}
use Rattle.acpi_state.specs.Sessions.{Report, Request}
use Rattle.asl_tree.specs.declared.path.Path.{Path}
use Rattle.asl_tree.specs.FieldItems.{FieldItem, UnitItem, SkipItem, OffsetItem}
use Rattle.asl_tree.specs.Tree.{At, UnitName, Tree, Integer, Use, Apply, Return, Method, OperationRegion, Field, IndexField, BankField, Trees, no_trees, tree}
use Rattle.asl_meaning.specs.Declarations.{known_of}
use Rattle.asl_meaning.specs.SourceSession.{source_session}
use Rattle.aml_code.specs.Encoding.{bit_count_bytes}
use Rattle.aml_meaning.specs.Encoded.{encoded, encoded_terms}
use Rattle.aml_code.specs.Header.{HeaderFields, table_bytes}
use Rattle.aml_meaning.specs.ByteSession.{byte_session}
use Rattle.aml_meaning.specs.Codes.{code_front}

-- which node a term is makes no difference here
abbrev here : At
here = record { id = 0; place = record { file = 0; line = 0; column = 0 } }

abbrev unit_of : NameSeg → ℕ → FieldItem UnitName
unit_of segment bits = UnitItem (record { at = here; segment = segment }) bits

abbrev region_of : Path → ℕ → Tree → Tree → Tree
region_of name space offset size = OperationRegion here name space (tree offset (tree size no_trees))

abbrev field_of : Path → ℕ → List (FieldItem UnitName) → Tree
field_of region flags items = Field here here region flags items

abbrev index_field_of : Path → Path → ℕ → List (FieldItem UnitName) → Tree
index_field_of index register flags items = IndexField here here index here register flags items

abbrev bank_field_of : Path → Path → Tree → ℕ → List (FieldItem UnitName) → Tree
bank_field_of region bank value flags items = BankField here here region here bank value flags items

abbrev store_of : Tree → Path → Tree
store_of value name = Apply (Plain.Data DataOp.Store) (tree value (tree (Use here name) no_trees)) no_trees

abbrev segment : ℕ → NameSeg
segment letter = letter ∷ 0x5F ∷ 0x5F ∷ 0x5F ∷ []

abbrev name : ℕ → Path
name letter = record { root = false; up = 0; segs = segment letter ∷ [] }

abbrev named : NameSeg → Path
named seg = record { root = false; up = 0; segs = seg ∷ [] }

abbrev at : ℕ → AbsolutePath
at letter = segment letter ∷ []

abbrev fields : HeaderFields
fields = record { signature = codes "SSDT"; revision = 2; oem_id = codes "OEMX00"; table_id = codes "TABLE001"; oem_revision = 1 }

abbrev table : Trees → List ℕ
table terms = table_bytes fields (encoded_terms W64 true terms)

abbrev call : List Request
call = record { path = at 0x4D; args = [] } ∷ []

abbrev numbers : List ℕ → List Value
numbers [] = []
numbers (n ∷ ns) = Data (V.Integer n) ∷ numbers ns

-- the results, and the last events
abbrev results : List Report → List (Result Flow)
results [] = []
results (r ∷ rs) = r.result ∷ results rs

abbrev events : List Report → List Event
events [] = []
events (r ∷ []) = r.events
events (r ∷ rs) = events rs

-- region_of (R, SystemIO, 0x80, 4)
abbrev region : Tree
region = region_of (name 0x52) 1 (Integer 0x80) (Integer 4)

region_bytes : encoded W64 true region ≡ 0x5B ∷ 0x80 ∷ 0x52 ∷ 0x5F ∷ 0x5F ∷ 0x5F ∷ 0x01 ∷ 0x0A ∷ 0x80 ∷ 0x0A ∷ 0x04 ∷ []
region_bytes = refl

-- field_of (R, WordAcc, NoLock, Preserve) { A, 12, B, 8, C, 12 }, or with other flags
abbrev words : ℕ → Tree
words flags = field_of (name 0x52) flags (unit_of (segment 0x41) 12 ∷ unit_of (segment 0x42) 8 ∷ unit_of (segment 0x43) 12 ∷ [])

words_bytes : encoded W64 true (words 0x02)
    ≡ 0x5B ∷ 0x81 ∷ 0x15 ∷ 0x52 ∷ 0x5F ∷ 0x5F ∷ 0x5F ∷ 0x02 ∷ 0x41 ∷ 0x5F ∷ 0x5F ∷ 0x5F ∷ 0x0C ∷ 0x42 ∷ 0x5F ∷ 0x5F ∷ 0x5F ∷ 0x08 ∷ 0x43 ∷ 0x5F ∷ 0x5F ∷ 0x5F ∷ 0x0C ∷ []
words_bytes = refl

-- Method here (M) { B = 0xA5 }
abbrev writes : ℕ → Trees
writes flags = tree region (tree (words flags) (tree (Method here (name 0x4D) 0 (tree (store_of (Integer 0xA5) (name 0x42)) no_trees)) no_trees))

abbrev r : AbsolutePath
r = at 0x52

preserved : events (byte_session (table (writes 0x02)) [] 3 (numbers (0x1234 ∷ 0xABCD ∷ [])) call)
    ≡ Read r 1 0x80 2 ∷ Write r 1 0x80 2 0x5234 ∷ Read r 1 0x82 2 ∷ Write r 1 0x82 2 0xABCA ∷ []
unfolding code_front
preserved = refl

preserved_source : source_session W64 (known_of (writes 0x02)) (writes 0x02) [] 3 (numbers (0x1234 ∷ 0xABCD ∷ [])) call ≡ byte_session (table (writes 0x02)) [] 3 (numbers (0x1234 ∷ 0xABCD ∷ [])) call
unfolding code_front
preserved_source = refl

ones : events (byte_session (table (writes 0x22)) [] 3 [] call) ≡ Write r 1 0x80 2 0x5FFF ∷ Write r 1 0x82 2 0xFFFA ∷ []
unfolding code_front
ones = refl

-- region_of (P, SystemIO, 0x70, 2)  field_of (P, ByteAcc, NoLock, Preserve) { IX, 8, DT, 8 }
-- index_field_of (IX, DT, ByteAcc, NoLock, Preserve) { , 16, V, 8 }  Method here (M) { Return (V) }
abbrev ix : NameSeg
ix = 0x49 ∷ 0x58 ∷ 0x5F ∷ 0x5F ∷ []

abbrev dt : NameSeg
dt = 0x44 ∷ 0x54 ∷ 0x5F ∷ 0x5F ∷ []

abbrev indexed : Tree
indexed = index_field_of (named ix) (named dt) 1 (SkipItem 16 ∷ unit_of (segment 0x56) 8 ∷ [])

indexed_bytes : encoded W64 true indexed
    ≡ 0x5B ∷ 0x86 ∷ 0x11 ∷ 0x49 ∷ 0x58 ∷ 0x5F ∷ 0x5F ∷ 0x44 ∷ 0x54 ∷ 0x5F ∷ 0x5F ∷ 0x01 ∷ 0x00 ∷ 0x10 ∷ 0x56 ∷ 0x5F ∷ 0x5F ∷ 0x5F ∷ 0x08 ∷ []
indexed_bytes = refl

abbrev reads : Trees
reads =
    tree (region_of (name 0x50) 1 (Integer 0x70) (Integer 2))
    (tree (field_of (name 0x50) 1 (unit_of ix 8 ∷ unit_of dt 8 ∷ [])) (tree indexed
    (tree (Method here (name 0x4D) 0 (tree (Return (Use here (name 0x56))) no_trees)) no_trees)))

read : results (byte_session (table reads) [] 3 (numbers (0x5A ∷ [])) call) ≡ Done (Normal false) ∷ Done (Gives (Data (V.Integer 0x5A))) ∷ []
unfolding code_front
read = refl

read_events : events (byte_session (table reads) [] 3 (numbers (0x5A ∷ [])) call) ≡ Write (at 0x50) 1 0x70 1 0x02 ∷ Read (at 0x50) 1 0x71 1 ∷ []
unfolding code_front
read_events = refl

read_source : source_session W64 (known_of reads) reads [] 3 (numbers (0x5A ∷ [])) call ≡ byte_session (table reads) [] 3 (numbers (0x5A ∷ [])) call
unfolding code_front
read_source = refl

-- an Offset at the next bit writes nothing, and any other one the gap that it makes
offsets : encoded W64 true (field_of (name 0x52) 0 (unit_of (segment 0x41) 8 ∷ OffsetItem 1 ∷ unit_of (segment 0x42) 4 ∷ OffsetItem 0x10 ∷ unit_of (segment 0x43) 1 ∷ []))
    ≡ 0x5B ∷ 0x81 ∷ 0x18 ∷ 0x52 ∷ 0x5F ∷ 0x5F ∷ 0x5F ∷ 0x00 ∷ 0x41 ∷ 0x5F ∷ 0x5F ∷ 0x5F ∷ 0x08 ∷ 0x42 ∷ 0x5F ∷ 0x5F ∷ 0x5F ∷ 0x04 ∷ 0x00 ∷ 0x44 ∷ 0x07 ∷ 0x43 ∷ 0x5F ∷ 0x5F ∷ 0x5F ∷ 0x01 ∷ []
offsets = refl

counts : bit_count_bytes 63 ++ bit_count_bytes 64 ++ bit_count_bytes 4095 ++ bit_count_bytes 4096 ++ bit_count_bytes 268435455
    ≡ 0x3F ∷ 0x40 ∷ 0x04 ∷ 0x4F ∷ 0xFF ∷ 0x80 ∷ 0x00 ∷ 0x01 ∷ 0xCF ∷ 0xFF ∷ 0xFF ∷ 0xFF ∷ []
counts = refl
