-- Bits beyond a number of 64 bits.
use Rattle.std.proofs.Common.{◌≡◌, ℕ, ◌*◌, ◌/◌, ◌%◌, ◌^◌, ◌<◌, ◌≤◌, arith}
use Rattle.std.proofs.Math.Pow.{pow_mono}
use Rattle.std.proofs.Math.Nat.{div-eq_of_lt, mod-eq_of_lt}

beyond : (n k : ℕ) → n < 2 ^ 64 → 64 ≤ k → n < 2 ^ k
beyond n k l h = let p : 2 ^ 64 ≤ 2 ^ k = pow_mono {i = 64} {j = k} h in omega arith

pub none_left : (n k : ℕ) → n < 2 ^ 64 → 64 ≤ k → n / 2 ^ k ≡ 0
none_left n k l h = div-eq_of_lt (beyond n k l h)

pub all_below : (n k : ℕ) → n < 2 ^ 64 → 64 ≤ k → n % 2 ^ k ≡ n
all_below n k l h = mod-eq_of_lt (beyond n k l h)

pub one_bit : (k : ℕ) → k < 64 → 1 * 2 ^ k % 18446744073709551616 ≡ 2 ^ k
one_bit k h =
    let p : 2 ^ k ≤ 2 ^ 63 = pow_mono {i = k} {j = 63} (omega arith) in
    let e : 1 * 2 ^ k ≡ 2 ^ k = omega arith in
    let l : 2 ^ k < 18446744073709551616 = omega arith in
    rw e (mod-eq_of_lt l)
