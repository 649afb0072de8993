-- Which numbers have room.
use Rattle.std.proofs.Common.{◌≡◌, ℕ, ◌*◌, ◌%◌, ◌^◌, ◌<◌, ◌≤◌, ◌==◌, ◌||◌, Bool, true, false, cond, nat_lt, List, [], ◌∷◌, Option, Some, None, refl, ap, arith}
use Rattle.std.specs.Prelude.{not}
use Rattle.std.specs.List.{list_all}
use Rattle.std.proofs.lemmas.Bool.{and_parts}
use Rattle.std.proofs.lemmas.Bool.Decides.{nat_tests}
use Rattle.std.proofs.Math.Pow.{pow_mono}
use Rattle.std.proofs.Math.Nat.{mod-eq_of_lt}
use Rattle.data_layout.specs.declared.row.Size.{Size}
use Rattle.data_layout.specs.declared.table.Table.{Table}
use Rattle.data_layout.specs.Layouts.{Layout}
use Rattle.data_layout.specs.Layout.{layout_of, bytes_in, is_empty, knows_revision, is_sized}
use Rattle.data_layout.proofs.Lookup.{of_each}
use Rattle.data_tables.specs.Fields.{has_room, width_fault, revision_fault}

-- every number of 64 bits has room in 8 bytes and more
pub all_room : (width number : ℕ) → 8 ≤ width → number < 2 ^ 64 → has_room width number ≡ true
all_room width number w h =
    let p : 2 ^ 64 ≤ 2 ^ (8 * width) = pow_mono {i = 64} {j = 8 * width} (omega arith) in
    let a : nat_lt number (2 ^ 64) ≡ true = grind arith in
    let b : nat_lt number (2 ^ (8 * width)) ≡ true = grind arith in
    rw (a, b) refl

pub one_bit : (k : ℕ) → k < 64 → 1 * 2 ^ k % 18446744073709551616 ≡ 2 ^ k
one_bit k h =
    let p : 2 ^ k ≤ 2 ^ 63 = pow_mono {i = k} {j = 63} (omega arith) in
    let e : 1 * 2 ^ k ≡ 2 ^ k = omega arith in
    let l : 2 ^ k < 18446744073709551616 = omega arith in
    rw e (mod-eq_of_lt l)

-- no larger number has
pub no_room : (width number : ℕ) → 2 ^ 64 ≤ number → has_room width number ≡ false
no_room width number h = let a : nat_lt number (2 ^ 64) ≡ false = grind arith in rw a refl

-- nor is it a revision that chooses how many bytes a table has
abbrev is_small : Size → Bool
is_small size = nat_lt size.revision 256

none_in : (number : ℕ) (sizes : List Size) → 2 ^ 64 ≤ number → list_all is_small sizes ≡ true → bytes_in number sizes ≡ None
none_in number [] h s = refl
none_in number (size ∷ sizes) h s =
    let each = and_parts (is_small size) (list_all is_small sizes) s in
    let small : size.revision < 256 = let e = each.0 in grind (arith, nat_tests) in
    let other : (number == size.revision) ≡ false = grind arith in
    rw other (none_in number sizes h each.1)

unknown : (table : Table) (number : ℕ) → 2 ^ 64 ≤ number → knows_revision table number ≡ is_empty (layout_of table).sizes
unknown table number h =
    let none = none_in number (layout_of table).sizes h (of_each (λ (l : Layout). list_all is_small l.sizes) refl table) in
    rw none (by (is_empty (layout_of table).sizes))
  where
    by : (b : Bool) → (b || false) ≡ b
    by true = refl
    by false = refl

pub no_revision : (table : Table) (width number : ℕ) → 2 ^ 64 ≤ number → is_sized table ≡ true → revision_fault table width number ≡ Some 6093
no_revision table width number h s = by (knows_revision table number) (is_empty (layout_of table).sizes) (unknown table number h) s
  where
    by : (b c : Bool) → b ≡ c → not c ≡ true → cond {A = Option ℕ} b (width_fault width number) (Some 6093) ≡ Some 6093
    by true true e f = absurd cc
    by true false e f = absurd cc
    by false c e f = refl

pub any_revision : (table : Table) (width number : ℕ) → 2 ^ 64 ≤ number → is_sized table ≡ false → revision_fault table width number ≡ Some 6094
any_revision table width number h s = by (knows_revision table number) (is_empty (layout_of table).sizes) (unknown table number h) s
  where
    by : (b c : Bool) → b ≡ c → not c ≡ false → cond {A = Option ℕ} b (width_fault width number) (Some 6093) ≡ Some 6094
    by true c e f = ap (λ (x : Bool). cond {A = Option ℕ} x None (Some 6094)) (no_room width number h)
    by false true e f = absurd cc
    by false false e f = absurd cc

pub not_zero : (number : ℕ) → 2 ^ 64 ≤ number → (number == 0) ≡ false
not_zero number h = grind arith

pub not_that : (number bits : ℕ) → 2 ^ 64 ≤ number → bits < 2 ^ 64 → (number == bits) ≡ false
not_that number bits h l = grind arith
