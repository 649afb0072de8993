-- Which fields the parts of tables have: none of those behind the header changes what comes next but a type and a number
-- of localities, and each structure states its own length.
use Rattle.std.proofs.Common.{◌≡◌, ◌<◌, ◌++◌, ◌==◌, ◌&&◌, ℕ, Bool, true, false, cond, List, [], ◌∷◌, Option, Some, None, refl, sym, subst, arith}
use Rattle.std.specs.Prelude.{nat_lt}
use Rattle.std.specs.List.{list_all}
use Rattle.std.proofs.lemmas.Bool.{and_parts}
use Rattle.std.proofs.lemmas.Bool.Decides.{nat_tests}
use Rattle.std.proofs.lemmas.Grind.{common_steps}
use Rattle.data_layout.specs.declared.row.Row.{Row}
use Rattle.data_layout.specs.declared.row.Kind.{Kind}
use Rattle.data_layout.specs.declared.row.Kind.TheVariants as k
use Rattle.data_layout.specs.declared.row.Behind.{Behind}
use Rattle.data_layout.specs.declared.row.Behind.TheVariants as b
use Rattle.data_layout.specs.declared.table.Table.{Table}
use Rattle.data_layout.specs.Layouts.{Layout}
use Rattle.data_layout.specs.Layout.{layout_of, knows_revision, fixed_rows, behind_of, entry_rows, type_rows, structure_rows}
use Rattle.data_layout.proofs.Lookup.{of_each, fixed_are, of_known, of_structure, of_typed}
use Rattle.data_tables.specs.Fields.{has_room, width_fault, revision_fault}
use Rattle.data_tables.specs.Reading.{size_of, IsKnownRevision}

abbrev pub is_plain : Kind → ℕ → Bool
is_plain k.Number width = true
is_plain k.Text width = true
is_plain k.Bytes width = true
is_plain k.Guid width = true
is_plain k.Reserved width = true
is_plain k.TableLength width = false
is_plain k.Checksum width = false
is_plain k.CompilerId width = false
is_plain k.CompilerRevision width = false
is_plain (k.Length size) width = has_room width size
is_plain k.Revision width = false
is_plain k.StructureType width = false
is_plain k.Localities width = false
is_plain (k.Locality n) width = false

abbrev pub are_plain : List Row → Bool
are_plain [] = true
are_plain (row ∷ rows) = is_plain row.kind row.width && are_plain rows

-- each length that a structure states is its own
abbrev pub states : ℕ → Kind → Bool
states size k.Number = true
states size k.Text = true
states size k.Bytes = true
states size k.Guid = true
states size k.Reserved = true
states size k.TableLength = true
states size k.Checksum = true
states size k.CompilerId = true
states size k.CompilerRevision = true
states size (k.Length stated) = stated == size
states size k.Revision = true
states size k.StructureType = true
states size k.Localities = true
states size (k.Locality n) = true

abbrev pub states_size : ℕ → List Row → Bool
states_size size rows = list_all (λ (row : Row). states size row.kind) rows

pub structure_plain : (table : Table) (n : ℕ) (found : List Row) → structure_rows table n ≡ Some found → are_plain found ≡ true
structure_plain table n found e = of_structure are_plain refl table n found e

pub structure_states : (table : Table) (n : ℕ) (found : List Row) → structure_rows table n ≡ Some found → states_size (size_of (type_rows table ++ found)) (type_rows table ++ found) ≡ true
structure_states table n found e = of_typed (λ (types rows : List Row). states_size (size_of (types ++ rows)) (types ++ rows)) refl table n found e

pub plain_first : (row : Row) (rows : List Row) → are_plain (row ∷ rows) ≡ true → (is_plain row.kind row.width ≡ true) × (are_plain rows ≡ true)
plain_first row rows e =
    elim (is_plain row.kind row.width) as (λ b. (b && are_plain rows) ≡ true → (b ≡ true) × (are_plain rows ≡ true)) [
      | true ↦ λ f. (refl, f)
      | false ↦ λ f. absurd cc
    ] e

-- there is a first field, and all are plain
pub record IsPlainPart (rows : List Row) : Type 0 where
  pub first : Row
  pub others : List Row
  pub are : rows ≡ first ∷ others
  pub plain : are_plain rows ≡ true

abbrev is_some_rows : List Row → Bool
is_some_rows [] = false
is_some_rows (row ∷ rows) = true

plain_part : (rows : List Row) → (is_some_rows rows && are_plain rows) ≡ true → IsPlainPart rows
plain_part [] e = absurd cc
plain_part (row ∷ rows) e = record { first = row; others = rows; are = refl; plain = e }

-- the fields of an entry, where there is one, are plain
pub entries_plain : (table : Table) → are_plain (entry_rows table) ≡ true
entries_plain table = of_each (λ (l : Layout). are_plain l.entries) refl table

abbrev is_part : List Row → Bool
is_part rows = is_some_rows rows && are_plain rows

-- one field: the number of localities
abbrev is_localities : Kind → ℕ → Bool
is_localities k.Number width = false
is_localities k.Text width = false
is_localities k.Bytes width = false
is_localities k.Guid width = false
is_localities k.Reserved width = false
is_localities k.TableLength width = false
is_localities k.Checksum width = false
is_localities k.CompilerId width = false
is_localities k.CompilerRevision width = false
is_localities (k.Length size) width = false
is_localities k.Revision width = false
is_localities k.StructureType width = false
is_localities k.Localities width = width == 8
is_localities (k.Locality n) width = false

abbrev is_count : List Row → Bool
is_count [] = false
is_count (row ∷ []) = is_localities row.kind row.width
is_count (row ∷ other ∷ rows) = false

-- the fixed part of a table is plain, or the number of localities behind it
abbrev fixed_by : Behind → Layout → Bool
fixed_by b.Nothing layout = fixed_are is_part layout
fixed_by b.Entries layout = fixed_are is_part layout
fixed_by b.Structures layout = fixed_are is_part layout
fixed_by b.Localities layout = fixed_are is_count layout

fixed_sound : (table : Table) → fixed_by (behind_of table) (layout_of table) ≡ true
fixed_sound table = of_each (λ (l : Layout). fixed_by l.behind l) refl table

-- of a revision without fault
faultless : (table : Table) (w n : ℕ) → revision_fault table w n ≡ None → (knows_revision table n ≡ true) × (width_fault w n ≡ None)
faultless table w n e =
    elim (knows_revision table n) as (λ b. cond {A = Option ℕ} b (width_fault w n) (Some 6093) ≡ None → (b ≡ true) × (width_fault w n ≡ None)) [
      | true ↦ λ f. (refl, f)
      | false ↦ λ f. absurd cc
    ] e

-- it is one that the reading knows
pub known_revision : (table : Table) (n : ℕ) → revision_fault table 1 n ≡ None → IsKnownRevision table n
known_revision table n e = let f = faultless table 1 n e in f.0

pub narrow_revision : (table : Table) (n : ℕ) → revision_fault table 1 n ≡ None → width_fault 1 n ≡ None
narrow_revision table n e = let f = faultless table 1 n e in f.1

-- no localities stand behind it
abbrev pub IsOther : Behind → Type 0
IsOther b.Nothing = Unit {0}
IsOther b.Entries = Unit {0}
IsOther b.Structures = Unit {0}
IsOther b.Localities = ⊥

other_part : (behind : Behind) (layout : Layout) → IsOther behind → fixed_by behind layout ≡ true → fixed_are is_part layout ≡ true
other_part b.Nothing layout o h = h
other_part b.Entries layout o h = h
other_part b.Structures layout o h = h
other_part b.Localities layout o h = absurd o

pub fixed_plain : (table : Table) (n : ℕ) → IsOther (behind_of table) → revision_fault table 1 n ≡ None → IsPlainPart (fixed_rows table n)
unfolding fixed_rows
fixed_plain table n o e =
    let h = other_part (behind_of table) (layout_of table) o (fixed_sound table) in
    plain_part (fixed_rows table n) (of_known is_part (layout_of table) n h (known_revision table n e))

-- the one field of a part: its kind and its width
pub record IsOne (rows : List Row) (kind : Kind) (width : ℕ) : Type 0 where
  pub first : Row
  pub are : rows ≡ first ∷ []
  pub kind_is : first.kind ≡ kind
  pub width_is : first.width ≡ width

-- one field: the type of a structure
abbrev is_type_of : Kind → Bool
is_type_of k.Number = false
is_type_of k.Text = false
is_type_of k.Bytes = false
is_type_of k.Guid = false
is_type_of k.Reserved = false
is_type_of k.TableLength = false
is_type_of k.Checksum = false
is_type_of k.CompilerId = false
is_type_of k.CompilerRevision = false
is_type_of (k.Length size) = false
is_type_of k.Revision = false
is_type_of k.StructureType = true
is_type_of k.Localities = false
is_type_of (k.Locality n) = false

abbrev pub is_type : List Row → Bool
is_type [] = false
is_type (row ∷ []) = is_type_of row.kind && nat_lt 0 row.width
is_type (row ∷ other ∷ rows) = false

type_kind : (kind : Kind) → is_type_of kind ≡ true → kind ≡ k.StructureType
type_kind k.Number e = absurd cc
type_kind k.Text e = absurd cc
type_kind k.Bytes e = absurd cc
type_kind k.Guid e = absurd cc
type_kind k.Reserved e = absurd cc
type_kind k.TableLength e = absurd cc
type_kind k.Checksum e = absurd cc
type_kind k.CompilerId e = absurd cc
type_kind k.CompilerRevision e = absurd cc
type_kind (k.Length size) e = absurd cc
type_kind k.Revision e = absurd cc
type_kind k.StructureType e = refl
type_kind k.Localities e = absurd cc
type_kind (k.Locality n) e = absurd cc

pub record IsType (rows : List Row) : Type 0 where
  pub first : Row
  pub are : rows ≡ first ∷ []
  pub kind_is : first.kind ≡ k.StructureType
  pub some : 0 < first.width

pub type_one : (rows : List Row) → is_type rows ≡ true → IsType rows
type_one [] e = absurd cc
type_one (row ∷ []) e =
    let each = and_parts (is_type_of row.kind) (nat_lt 0 row.width) e in
    let some : 0 < row.width = let f = each.1 in grind (arith, nat_tests) in
    record { first = row; are = refl; kind_is = type_kind row.kind each.0; some = some }
type_one (row ∷ other ∷ rows) e = absurd cc

-- where there is a field, it is such
abbrev type_or_none : List Row → Bool
type_or_none [] = true
type_or_none (row ∷ rows) = is_type (row ∷ rows)

types_sound : (table : Table) → type_or_none (type_rows table) ≡ true
types_sound table = of_each (λ (l : Layout). type_or_none l.types) refl table

pub first_type : (table : Table) (row : Row) (rows : List Row) → type_rows table ≡ row ∷ rows → is_type (type_rows table) ≡ true
first_type table row rows e =
    let sound = types_sound table in
    subst (λ (rs : List Row). is_type rs ≡ true) (sym e) (subst (λ (rs : List Row). type_or_none rs ≡ true) e sound)

one_count : (rows : List Row) → is_count rows ≡ true → IsOne rows k.Localities 8
one_count [] e = absurd cc
one_count (row ∷ []) e = by row.kind refl e
  where
    by : (kind : Kind) → row.kind ≡ kind → is_localities kind row.width ≡ true → IsOne (row ∷ []) k.Localities 8
    by k.Number is f = absurd cc
    by k.Text is f = absurd cc
    by k.Bytes is f = absurd cc
    by k.Guid is f = absurd cc
    by k.Reserved is f = absurd cc
    by k.TableLength is f = absurd cc
    by k.Checksum is f = absurd cc
    by k.CompilerId is f = absurd cc
    by k.CompilerRevision is f = absurd cc
    by (k.Length size) is f = absurd cc
    by k.Revision is f = absurd cc
    by k.StructureType is f = absurd cc
    by k.Localities is f = let w : row.width ≡ 8 = grind (arith, common_steps) in record { first = row; are = refl; kind_is = is; width_is = w }
    by (k.Locality n) is f = absurd cc
one_count (row ∷ other ∷ rows) e = absurd cc

pub fixed_count : (table : Table) (n : ℕ) → behind_of table ≡ b.Localities → revision_fault table 1 n ≡ None → IsOne (fixed_rows table n) k.Localities 8
unfolding fixed_rows
fixed_count table n e f =
    let h : fixed_are is_count (layout_of table) ≡ true = subst (λ (behind : Behind). fixed_by behind (layout_of table) ≡ true) e (fixed_sound table) in
    one_count (fixed_rows table n) (of_known is_count (layout_of table) n h (known_revision table n f))
