-- What an operator gives on integers of a width is one.
use Rattle.std.proofs.Common.{◌≡◌, ℕ, zero, suc, ◌+◌, ◌-◌, ◌*◌, ◌/◌, ◌%◌, ◌^◌, ◌<◌, ◌≤◌, Bool, true, false, arith, refl}
use Rattle.std.specs.Prelude.{nat_eq, nat_le, nat_lt, if◌then◌else◌, Result, Ok, Err, bit_and, bit_or, bit_xor}
use Rattle.std.proofs.lemmas.Bool.Decides.{nat_tests}
use Rattle.std.proofs.lemmas.Nat.{and_le_l, xor_lt}
use Rattle.std.proofs.Math.Nat.{div-le_self, mod-le, mod-lt, mod-eq_of_lt}
use Rattle.acpi_values.specs.declared.width.Width.{Width}
use Rattle.acpi_values.specs.declared.width.Width.TheVariants.{W32, W64}
use Rattle.acpi_values.specs.declared.fault.Fault.{Fault}
use Rattle.acpi_values.specs.declared.fault.Fault.TheVariants.{DivideByZero, BadDigit}
use Rattle.acpi_values.specs.declared.operator.IntOp.{IntOp}
use Rattle.acpi_values.specs.Widths.{ones_of}
use Rattle.acpi_values.specs.Integers.{wrapped, truth, complement, bits_of, shifted_left, shifted_right, highest_bit, lowest_bit, after_digit, from_bcd, to_bcd, largest_bcd, applied}
use Rattle.acpi_values.proofs.Bits.{or_fits}

pub wrapped_fits : (width : Width) (n : ℕ) → wrapped width n ≤ ones_of width
wrapped_fits W32 n = let lt : n % 2 ^ 32 < 2 ^ 32 = mod-lt n (omega arith) in omega (arith, lt)
wrapped_fits W64 n = let lt : n % 2 ^ 64 < 2 ^ 64 = mod-lt n (omega arith) in omega (arith, lt)

pub wrapped_same : (width : Width) (n : ℕ) → n ≤ ones_of width → wrapped width n ≡ n
wrapped_same W32 n le = let lt : n < 2 ^ 32 = omega (arith, le) in mod-eq_of_lt lt
wrapped_same W64 n le = let lt : n < 2 ^ 64 = omega (arith, le) in mod-eq_of_lt lt

-- nothing is asked of a fault
abbrev pub IsBelow : ℕ → Result ℕ Fault → Type 0
IsBelow bound (Ok n) = n < bound
IsBelow bound (Err f) = Unit {0}

abbrev pub IsFit : Width → Result ℕ Fault → Type 0
IsFit width (Ok n) = n ≤ ones_of width
IsFit width (Err f) = Unit {0}

truth_fits : (width : Width) (b : Bool) → truth width b ≤ ones_of width
truth_fits width true = omega arith
truth_fits width false = omega arith

complement_fits : (width : Width) (n : ℕ) → complement width n ≤ ones_of width
complement_fits width n = omega arith

few_fit : (width : Width) (n : ℕ) → n ≤ 65 → n ≤ ones_of width
few_fit W32 n le = omega (arith, le)
few_fit W64 n le = omega (arith, le)

xor_fits : (width : Width) (a b : ℕ) → a ≤ ones_of width → b ≤ ones_of width → bit_xor a b ≤ ones_of width
xor_fits W32 a b x y = let h = xor_lt 32 a b (omega (arith, x)) (omega (arith, y)) in omega (arith, h)
xor_fits W64 a b x y = let h = xor_lt 64 a b (omega (arith, x)) (omega (arith, y)) in omega (arith, h)

and_fits : (width : Width) (a b : ℕ) → a ≤ ones_of width → bit_and a b ≤ ones_of width
and_fits width a b x = let h = and_le_l a b in omega (arith, h, x)

shifted_left_fits : (width : Width) (a b : ℕ) → shifted_left width a b ≤ ones_of width
shifted_left_fits width a b = by_less (nat_lt b (bits_of width))
  where
    by_less : (c : Bool) → (if c then wrapped width (a * 2 ^ b) else 0) ≤ ones_of width
    by_less true = wrapped_fits width (a * 2 ^ b)
    by_less false = omega arith

shifted_right_fits : (width : Width) (a b : ℕ) → a ≤ ones_of width → shifted_right width a b ≤ ones_of width
shifted_right_fits width a b x = by_less (nat_lt b (bits_of width))
  where
    by_less : (c : Bool) → (if c then a / 2 ^ b else 0) ≤ ones_of width
    by_less true = let h = div-le_self a (2 ^ b) in omega (arith, h, x)
    by_less false = omega arith

unless_zero : (width : Width) (b n : ℕ) → n ≤ ones_of width → IsFit width (if nat_eq b 0 then Err DivideByZero else Ok n)
unless_zero width b n h = by_zero (nat_eq b 0)
  where
    by_zero : (c : Bool) → IsFit width (if c then Err DivideByZero else Ok n)
    by_zero true = tt
    by_zero false = h

highest_few : (k n : ℕ) → highest_bit k n ≤ k
highest_few zero n = omega arith
highest_few (suc k) n = by_top (nat_le (2 ^ k) n) (highest_few k n)
  where
    by_top : (c : Bool) → highest_bit k n ≤ k → (if c then suc k else highest_bit k n) ≤ suc k
    by_top true h = omega arith
    by_top false h = omega (arith, h)

lowest_few : (k place n : ℕ) → lowest_bit k place n ≤ place + k
lowest_few zero place n = omega arith
lowest_few (suc k) place n = by_set (nat_eq (n % 2) 1) (lowest_few k (suc place) (n / 2))
  where
    by_set : (c : Bool) → lowest_bit k (suc place) (n / 2) ≤ suc place + k → (if c then place else lowest_bit k (suc place) (n / 2)) ≤ place + suc k
    by_set true h = omega arith
    by_set false h = omega (arith, h)

-- a number of j hexadecimal digits that are decimal ones
pub from_bcd_below : (k j n : ℕ) → n < 16 ^ j → IsBelow (10 ^ j) (from_bcd k n)
from_bcd_below zero zero n lt = omega arith
from_bcd_below zero (suc j) n lt = let h = from_bcd_below zero j 0 (omega (arith, power j)) in let more : 10 ^ suc j ≡ 10 * 10 ^ j = grind arith in omega (arith, h, more)
  where
    power : (j : ℕ) → 0 < 16 ^ j
    power zero = omega arith
    power (suc j) = let h = power j in let more : 16 ^ suc j ≡ 16 * 16 ^ j = grind arith in omega (arith, h, more)
from_bcd_below (suc k) j n lt = by_digit (nat_lt 9 (n % 16)) refl (λ i. from_bcd_below k i (n / 16))
  where
    behind : (j : ℕ) → n < 16 ^ j → n % 16 ≤ 9 → (r : Result ℕ Fault) → ((i : ℕ) → n / 16 < 16 ^ i → IsBelow (10 ^ i) r) → IsBelow (10 ^ j) (after_digit (n % 16) r)
    behind j lt le (Err f) h = tt
    behind zero lt le (Ok m) h =
        let none : n ≡ 0 = omega (arith, lt) in
        let small : m < 10 ^ 0 = h zero (omega (arith, none)) in omega (arith, none, small)
    behind (suc j) lt le (Ok m) h =
        let more : 16 ^ suc j ≡ 16 * 16 ^ j = grind arith in
        let wide : 10 ^ suc j ≡ 10 * 10 ^ j = grind arith in
        let small : m < 10 ^ j = h j (omega (arith, lt, more)) in omega (arith, small, wide, le)

    by_digit : (c : Bool) → nat_lt 9 (n % 16) ≡ c → ((i : ℕ) → n / 16 < 16 ^ i → IsBelow (10 ^ i) (from_bcd k (n / 16))) → IsBelow (10 ^ j) (if c then Err BadDigit else after_digit (n % 16) (from_bcd k (n / 16)))
    by_digit true e h = tt
    by_digit false e h = let le : n % 16 ≤ 9 = grind (arith, nat_tests, e) in behind j lt le (from_bcd k (n / 16)) h

-- a number of j decimal digits
pub to_bcd_below : (k j n : ℕ) → n < 10 ^ j → to_bcd k n < 16 ^ j
to_bcd_below zero zero n lt = omega arith
to_bcd_below zero (suc j) n lt = let h = to_bcd_below zero j 0 (power j) in let more : 16 ^ suc j ≡ 16 * 16 ^ j = grind arith in omega (arith, h, more)
  where
    power : (j : ℕ) → 0 < 10 ^ j
    power zero = omega arith
    power (suc j) = let h = power j in let more : 10 ^ suc j ≡ 10 * 10 ^ j = grind arith in omega (arith, h, more)
to_bcd_below (suc k) zero n lt =
    let none : n ≡ 0 = omega (arith, lt) in
    let h : to_bcd k (n / 10) < 16 ^ 0 = to_bcd_below k zero (n / 10) (omega (arith, none)) in omega (arith, none, h)
to_bcd_below (suc k) (suc j) n lt =
    let more : 16 ^ suc j ≡ 16 * 16 ^ j = grind arith in
    let wide : 10 ^ suc j ≡ 10 * 10 ^ j = grind arith in
    let h : to_bcd k (n / 10) < 16 ^ j = to_bcd_below k j (n / 10) (omega (arith, lt, wide)) in omega (arith, h, more)

from_bcd_fits : (width : Width) (a : ℕ) → a ≤ ones_of width → IsFit width (from_bcd 16 a)
from_bcd_fits W32 a x = by_result (from_bcd 16 a) (from_bcd_below 16 8 a (omega (arith, x)))
  where
    by_result : (r : Result ℕ Fault) → IsBelow (10 ^ 8) r → IsFit W32 r
    by_result (Ok n) h = omega (arith, h)
    by_result (Err f) h = tt
from_bcd_fits W64 a x = by_result (from_bcd 16 a) (from_bcd_below 16 16 a (omega (arith, x)))
  where
    by_result : (r : Result ℕ Fault) → IsBelow (10 ^ 16) r → IsFit W64 r
    by_result (Ok n) h = omega (arith, h)
    by_result (Err f) h = tt

to_bcd_fits : (width : Width) (a : ℕ) → a ≤ largest_bcd width → to_bcd 16 a ≤ ones_of width
to_bcd_fits W32 a x = let h = to_bcd_below 16 8 a (omega (arith, x)) in omega (arith, h)
to_bcd_fits W64 a x = let h = to_bcd_below 16 16 a (omega (arith, x)) in omega (arith, h)

bcd_fits : (width : Width) (a : ℕ) → IsFit width (if nat_lt (largest_bcd width) a then Err BadDigit else Ok (to_bcd 16 a))
bcd_fits width a = by_large (nat_lt (largest_bcd width) a) refl
  where
    by_large : (c : Bool) → nat_lt (largest_bcd width) a ≡ c → IsFit width (if c then Err BadDigit else Ok (to_bcd 16 a))
    by_large true e = tt
    by_large false e = to_bcd_fits width a (grind (arith, nat_tests, e))

pub applied_fits : (op : IntOp) (width : Width) (a b : ℕ) → a ≤ ones_of width → b ≤ ones_of width → IsFit width (applied op width a b)
applied_fits IntOp.Add width a b x y = wrapped_fits width (a + b)
applied_fits IntOp.Subtract width a b x y = wrapped_fits width (a + (ones_of width + 1 - b))
applied_fits IntOp.Multiply width a b x y = wrapped_fits width (a * b)
applied_fits IntOp.ShiftLeft width a b x y = shifted_left_fits width a b
applied_fits IntOp.ShiftRight width a b x y = shifted_right_fits width a b x
applied_fits IntOp.And width a b x y = and_fits width a b x
applied_fits IntOp.Nand width a b x y = complement_fits width (bit_and a b)
applied_fits IntOp.Or width a b x y = or_fits width a b x y
applied_fits IntOp.Nor width a b x y = complement_fits width (bit_or a b)
applied_fits IntOp.Xor width a b x y = xor_fits width a b x y
applied_fits IntOp.Mod width a b x y = unless_zero width b (a % b) (let h = mod-le a b in omega (arith, h, x))
applied_fits IntOp.Divide width a b x y = unless_zero width b (a / b) (let h = div-le_self a b in omega (arith, h, x))
applied_fits IntOp.Not width a b x y = complement_fits width a
applied_fits IntOp.FindSetLeftBit width a b x y = few_fit width (highest_bit 64 a) (let h = highest_few 64 a in omega (arith, h))
applied_fits IntOp.FindSetRightBit width a b x y = few_fit width (lowest_bit 64 1 a) (let h = lowest_few 64 1 a in omega (arith, h))
applied_fits IntOp.FromBcd width a b x y = from_bcd_fits width a x
applied_fits IntOp.ToBcd width a b x y = bcd_fits width a
applied_fits IntOp.LAnd width a b x y = truth_fits width _
applied_fits IntOp.LOr width a b x y = truth_fits width _
applied_fits IntOp.LNot width a b x y = truth_fits width _
applied_fits IntOp.LEqual width a b x y = truth_fits width _
applied_fits IntOp.LGreater width a b x y = truth_fits width _
applied_fits IntOp.LLess width a b x y = truth_fits width _
applied_fits IntOp.LNotEqual width a b x y = truth_fits width _
applied_fits IntOp.LLessEqual width a b x y = truth_fits width _
applied_fits IntOp.LGreaterEqual width a b x y = truth_fits width _
