-- Numbers as bytes, the lowest first.
use Rattle.std.proofs.Common.{◌≡◌, ◌+◌, ◌-◌, ◌*◌, ◌/◌, ◌%◌, ◌^◌, ◌<◌, ℕ, zero, suc, List, [], ◌∷◌, ◌++◌, length, take, replicate, inl, inr, refl, sym, ap, subst, ◌∙◌, append-nil, zero-add, arith}
use Rattle.std.proofs.Math.Nat.{div-eq_of_lt, div-one, pow-suc}
use Rattle.std.proofs.lemmas.Bool.{cases_lt}
use Rattle.std.proofs.lemmas.List.{take_all}
use Rattle.std.specs.Int.{byte_at, bytes_low_first}
use Rattle.byteorder.specs.Endian.{little_bytes, little_number}
use Rattle.byteorder.specs.Numbers.{length-bytes_low_first, little_number-reads_back}
use Rattle.byteorder.proofs.Bytes.{pow256, take-bytes_low_first}
use Rattle.aml_code.specs.Header.{filled}
use Rattle.data_tables.specs.Reading.{number_of}

byte_by_power : (i n : ℕ) → byte_at i n ≡ n / 256 ^ i % 256
byte_by_power zero n = ap (λ (q : ℕ). q % 256) (sym (div-one n))
byte_by_power (suc i) n = refl

-- the bytes above a number are 0
byte_above : (i n : ℕ) → n < 256 ^ i → byte_at i n ≡ 0
byte_above i n h = byte_by_power i n ∙ ap (λ (q : ℕ). q % 256) (div-eq_of_lt h)

bytes_above : (i k n : ℕ) → n < 256 ^ i → bytes_low_first i k n ≡ replicate k 0
bytes_above i zero n h = refl
bytes_above i (suc k) n h =
    let power : 256 ^ suc i ≡ 256 ^ i * 256 = pow-suc 256 i in
    let more : n < 256 ^ suc i = omega (arith, power, h) in
    ap (λ (b : ℕ). b ∷ bytes_low_first (suc i) k n) (byte_above i n h) ∙ ap (λ (bs : List ℕ). 0 ∷ bs) (bytes_above (suc i) k n more)

-- so a number of m bytes has zeros behind them
filled_from : (i m k n : ℕ) → n < 256 ^ (i + m) → bytes_low_first i m n ++ replicate k 0 ≡ bytes_low_first i (m + k) n
filled_from i zero k n h =
    let small : n < 256 ^ i = subst (λ (j : ℕ). n < 256 ^ j) (omega arith) h in
    sym (bytes_above i k n small) ∙ ap (λ (j : ℕ). bytes_low_first i j n) (sym (zero-add k))
filled_from i (suc m) k n h =
    let small : n < 256 ^ (suc i + m) = subst (λ (j : ℕ). n < 256 ^ j) (omega arith) h in
    let count : suc (m + k) ≡ suc m + k = omega arith in
    ap (λ (bs : List ℕ). byte_at i n ∷ bs) (filled_from (suc i) m k n small) ∙ ap (λ (j : ℕ). bytes_low_first i j n) count

-- the first bytes of a number of 8 bytes, filled with zeros, are its lowest
pub filled_bytes : (width n : ℕ) (bytes : List ℕ) → n < 2 ^ 64 → bytes ≡ little_bytes 8 n ++ [] → filled width bytes ≡ little_bytes width n
filled_bytes width n bytes h e =
    let is : bytes ≡ little_bytes 8 n = e ∙ append-nil (little_bytes 8 n) in
    let eight : length bytes ≡ 8 = ap length is ∙ length-bytes_low_first 0 8 n in
    elim (cases_lt 8 width) [
      | inl more ↦
          let count : width - length bytes ≡ width - 8 = ap (λ (k : ℕ). width - k) eight in
          let all : take width bytes ≡ bytes = take_all width bytes (omega (arith, eight, more)) in
          let whole : 8 + (width - 8) ≡ width = omega (arith, more) in
          ap (λ (bs : List ℕ). bs ++ replicate (width - length bytes) 0) all ∙ ap (λ (bs : List ℕ). bs ++ replicate (width - length bytes) 0) is ∙ ap (λ (k : ℕ). little_bytes 8 n ++ replicate k 0) count
          ∙ filled_from 0 8 (width - 8) n h ∙ ap (λ (k : ℕ). little_bytes k n) whole
      | inr few ↦
          let none : width - length bytes ≡ 0 = omega (arith, eight, few) in
          ap (λ (k : ℕ). take width bytes ++ replicate k 0) none ∙ append-nil (take width bytes) ∙ ap (take width) is ∙ take-bytes_low_first 0 8 width n few
    ]

pub little_length : (w n : ℕ) → length (little_bytes w n) ≡ w
little_length w n = length-bytes_low_first 0 w n

-- the bytes of a number are that number
pub little_back : (w n : ℕ) → n < 2 ^ (8 * w) → number_of (little_bytes w n) ≡ n
little_back w n h =
    let power = pow256 w in
    let small : n < 256 ^ w = omega (arith, power, h) in
    ap (λ (k : ℕ). little_number k (little_bytes w n)) (little_length w n) ∙ ap (little_number w) (sym (append-nil (little_bytes w n))) ∙ little_number-reads_back w n [] small
