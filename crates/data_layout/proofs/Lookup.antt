-- What holds of each layout holds of that of each table.
use Rattle.std.proofs.Common.{◌≡◌, ℕ, ◌-◌, ◌==◌, ◌&&◌, Bool, true, false, cond, List, [], ◌∷◌, Some, subst}
use Rattle.std.specs.Option.{is_some}
use Rattle.std.specs.List.{list_all}
use Rattle.std.specs.Str.{bytes_eq}
use Rattle.std.proofs.lemmas.Bool.{and_parts}
use Rattle.data_layout.specs.declared.row.Row.{Row}
use Rattle.data_layout.specs.declared.row.Size.{Size}
use Rattle.data_layout.specs.declared.table.Table.{Table}
use Rattle.data_layout.specs.Layouts.{Layout, Structure, layouts, slit_layout}
use Rattle.data_layout.specs.Layout.{find_table, table_of, signature_of, find_layout, layout_of, bytes_in, knows_by, first_bytes, rows_of_size, rows_by, fixed_rows, find_structure, structure_rows, type_rows}

module _ (p : Layout → Bool) where
  found : p slit_layout ≡ true → (signature : List ℕ) (others : List Layout) → list_all p others ≡ true → p (find_layout signature others) ≡ true
  found first signature [] h = first
  found first signature (layout ∷ others) h =
      let each = and_parts (p layout) (list_all p others) h in
      by (bytes_eq signature layout.signature) each.0 (found first signature others each.1)
    where
      by : (b : Bool) → p layout ≡ true → p (find_layout signature others) ≡ true → p (cond b layout (find_layout signature others)) ≡ true
      by true h k = h
      by false h k = k

  pub of_each : list_all p layouts ≡ true → (table : Table) → p (layout_of table) ≡ true
  unfolding layout_of
  of_each h table = let first = and_parts (p slit_layout) _ h in found first.0 (signature_of table) layouts h

-- ---- of the fields of a fixed part

-- so of all fields, and of those that each revision chooses
abbrev pub fixed_are : (List Row → Bool) → Layout → Bool
fixed_are p layout = p layout.fixed && list_all (λ (size : Size). p (first_bytes (size.bytes - 36) layout.fixed)) layout.sizes

module _ (p : List Row → Bool) where
  sized : (fixed : List Row) (revision : ℕ) (sizes : List Size) → list_all (λ (size : Size). p (first_bytes (size.bytes - 36) fixed)) sizes ≡ true → is_some (bytes_in revision sizes) ≡ true → p (rows_of_size fixed (bytes_in revision sizes)) ≡ true
  sized fixed revision [] h k = absurd cc
  sized fixed revision (size ∷ sizes) h k =
      let each = and_parts (p (first_bytes (size.bytes - 36) fixed)) _ h in
      by (revision == size.revision) each.0 (sized fixed revision sizes each.1) k
    where
      by : (b : Bool) → p (first_bytes (size.bytes - 36) fixed) ≡ true → (is_some (bytes_in revision sizes) ≡ true → p (rows_of_size fixed (bytes_in revision sizes)) ≡ true) → is_some (cond b (Some size.bytes) (bytes_in revision sizes)) ≡ true
          → p (rows_of_size fixed (cond b (Some size.bytes) (bytes_in revision sizes))) ≡ true
      by true first others k = first
      by false first others k = others k

  chosen : (fixed : List Row) (revision : ℕ) (sizes : List Size) → p [] ≡ true → list_all (λ (size : Size). p (first_bytes (size.bytes - 36) fixed)) sizes ≡ true → p (rows_of_size fixed (bytes_in revision sizes)) ≡ true
  chosen fixed revision [] none h = none
  chosen fixed revision (size ∷ sizes) none h =
      let each = and_parts (p (first_bytes (size.bytes - 36) fixed)) _ h in
      by (revision == size.revision) each.0 (chosen fixed revision sizes none each.1)
    where
      by : (b : Bool) → p (first_bytes (size.bytes - 36) fixed) ≡ true → p (rows_of_size fixed (bytes_in revision sizes)) ≡ true → p (rows_of_size fixed (cond b (Some size.bytes) (bytes_in revision sizes))) ≡ true
      by true first others = first
      by false first others = others

  -- where the revision is known
  pub of_known : (layout : Layout) (revision : ℕ) → fixed_are p layout ≡ true → knows_by layout.sizes revision ≡ true → p (rows_by layout.sizes layout.fixed revision) ≡ true
  of_known layout revision h known =
      let parts = and_parts (p layout.fixed) _ h in
      by layout.sizes parts.1 known
    where
      by : (sizes : List Size) → list_all (λ (size : Size). p (first_bytes (size.bytes - 36) layout.fixed)) sizes ≡ true → knows_by sizes revision ≡ true → p (rows_by sizes layout.fixed revision) ≡ true
      by [] g k = let parts = and_parts (p layout.fixed) _ h in parts.0
      by (size ∷ sizes) g k = sized layout.fixed revision (size ∷ sizes) g k

  -- in each revision, where it holds of no fields too
  pub of_fixed : list_all (fixed_are p) layouts ≡ true → p [] ≡ true → (table : Table) (revision : ℕ) → p (fixed_rows table revision) ≡ true
  unfolding fixed_rows
  of_fixed all none table revision =
      let h = of_each (fixed_are p) all table in
      let parts = and_parts (p (layout_of table).fixed) _ h in
      by (layout_of table).sizes parts.0 parts.1
    where
      by : (sizes : List Size) → p (layout_of table).fixed ≡ true → list_all (λ (size : Size). p (first_bytes (size.bytes - 36) (layout_of table).fixed)) sizes ≡ true → p (rows_by sizes (layout_of table).fixed revision) ≡ true
      by [] f g = f
      by (size ∷ sizes) f g = chosen (layout_of table).fixed revision (size ∷ sizes) none g

-- ---- of the fields of a structure

abbrev pub structures_are : (List Row → Bool) → Layout → Bool
structures_are p layout = list_all (λ (structure : Structure). p structure.rows) layout.structures

module _ (p : List Row → Bool) where
  picked : (number : ℕ) (structures : List Structure) (rows : List Row) → list_all (λ (structure : Structure). p structure.rows) structures ≡ true → find_structure number structures ≡ Some rows → p rows ≡ true
  picked number [] rows h e = absurd cc
  picked number (structure ∷ structures) rows h e =
      let each = and_parts (p structure.rows) _ h in
      by (number == structure.number) each.0 (picked number structures rows each.1) e
    where
      by : (b : Bool) → p structure.rows ≡ true → (find_structure number structures ≡ Some rows → p rows ≡ true) → cond b (Some structure.rows) (find_structure number structures) ≡ Some rows → p rows ≡ true
      by true first others e = let same : structure.rows ≡ rows = cc in subst (λ (rs : List Row). p rs ≡ true) same first
      by false first others e = others e

pub of_structure : (p : List Row → Bool) → list_all (structures_are p) layouts ≡ true → (table : Table) (number : ℕ) (rows : List Row) → structure_rows table number ≡ Some rows → p rows ≡ true
of_structure p all table number rows e = picked p number (layout_of table).structures rows (of_each (structures_are p) all table) e

-- the same with what the structure begins with
pub of_typed : (p : List Row → List Row → Bool) → list_all (λ (layout : Layout). structures_are (p layout.types) layout) layouts ≡ true → (table : Table) (number : ℕ) (rows : List Row) → structure_rows table number ≡ Some rows → p (type_rows table) rows ≡ true
of_typed p all table number rows e =
    picked (p (type_rows table)) number (layout_of table).structures rows (of_each (λ (layout : Layout). structures_are (p layout.types) layout) all table) e

-- ---- of the tables of all signatures

module _ (q : Table → Bool) where
  known : (signature : List ℕ) (table : Table) (others : List Layout) → list_all (λ (layout : Layout). q layout.table) others ≡ true → find_table signature others ≡ Some table → q table ≡ true
  known signature table [] h e = absurd cc
  known signature table (layout ∷ others) h e =
      let each = and_parts (q layout.table) _ h in
      by (bytes_eq signature layout.signature) each.0 (known signature table others each.1) e
    where
      by : (b : Bool) → q layout.table ≡ true → (find_table signature others ≡ Some table → q table ≡ true) → cond b (Some layout.table) (find_table signature others) ≡ Some table → q table ≡ true
      by true first rest e = let same : layout.table ≡ table = cc in subst (λ (t : Table). q t ≡ true) same first
      by false first rest e = rest e

  pub of_table : list_all (λ (layout : Layout). q layout.table) layouts ≡ true → (signature : List ℕ) (table : Table) → table_of signature ≡ Some table → q table ≡ true
  of_table all signature table e = known signature table layouts all e
