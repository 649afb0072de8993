-- Sizes that are counted no further than a `usize` goes.
use Rattle.std.proofs.Common.{inl, inr, ◌≡◌, ℕ, ◌+◌, length, ap, arith}
use Rattle.std.proofs.lemmas.Bool.{cases_lt}
use Rattle.byteorder.specs.Endian.{little_bytes}
use Rattle.byteorder.specs.Numbers.{length-bytes_low_first}
use Rattle.aml_sizes.specs.Capped.{capped}

-- a number of bytes that rests on a size, with that size
pub capped_whole : (f : ℕ → ℕ) (size : ℕ) → capped (f (capped size) + capped size) ≡ capped (f size + size)
capped_whole f size =
    elim (cases_lt size 18446744073709551616) [
      | inl few ↦ let itself : capped size ≡ size = omega (arith, few) in ap (λ (n : ℕ). capped (f n + n)) itself
      | inr many ↦
          let all : capped size ≡ 18446744073709551615 = omega (arith, many) in
          omega (arith, all, many)
    ]

-- how many bytes a number of so many has
pub low_length : (count number : ℕ) → length (little_bytes count number) ≡ count
low_length count number = length-bytes_low_first 0 count number
