-- The lines of generated devices are short, they are few, and all stand in one file.
use Rattle.std.proofs.Common.{◌≡◌, ℕ, zero, suc, ◌+◌, ◌*◌, ◌≤◌, List, [], ◌∷◌, ◌++◌, length, refl, sym, subst, arith}
use Rattle.std.specs.Prelude.{◌^◌, All, codes}
use Rattle.std.specs.List.{sum_by}
use Rattle.std.proofs.lemmas.List.Elements.{All-nil, All-cons, All-append}
use Rattle.std.proofs.lemmas.List.Sums.{sum_by-cons}
use Rattle.iasl_messages.specs.declared.place.Line.{Line}
use Rattle.generated_lines.specs.Generated.{device_text, block_text, line_at, devices_from, generated_lines}

abbrev IsSmall : Line → Type 0
IsSmall line = (length line.text ≤ 100) × (line.file ≡ 0)

device_length : (number : ℕ) → length (device_text number) ≡ 79
device_length number = refl

block_length : length block_text ≡ 55
block_length = refl

small_at : (number : ℕ) (text : List ℕ) → length text ≤ 100 → IsSmall (line_at number text)
small_at number text few = (few, refl)

small_devices : (first count : ℕ) → All IsSmall (devices_from first count)
small_devices first zero = All-nil IsSmall
small_devices first (suc count) =
    let size = device_length first in
    All-cons IsSmall (line_at (first + 3) (device_text first)) (devices_from (first + 1) count) (small_at (first + 3) (device_text first) (omega (arith, size))) (small_devices (first + 1) count)

small_lines : (count : ℕ) → All IsSmall (generated_lines count)
small_lines count =
    let close = All-cons IsSmall (line_at (count + 3) (codes "}")) [] (small_at (count + 3) (codes "}") (omega arith)) (All-nil IsSmall) in
    let behind = All-append IsSmall (devices_from 0 count) (line_at (count + 3) (codes "}") ∷ []) (small_devices 0 count) close in
    let block = block_length in
    All-cons IsSmall (line_at 1 block_text) (line_at 2 (codes "{") ∷ (devices_from 0 count ++ line_at (count + 3) (codes "}") ∷ [])) (small_at 1 block_text (omega (arith, block)))
    (All-cons IsSmall (line_at 2 (codes "{")) (devices_from 0 count ++ line_at (count + 3) (codes "}") ∷ []) (small_at 2 (codes "{") (omega arith)) behind)

pub each_small : (list : List Line) (count : ℕ) → list ≡ generated_lines count → All (λ line. (length line.text ≤ 100) × (line.file ≡ 0)) list
each_small list count e = subst (All IsSmall) (sym e) (small_lines count)

-- ---- the bytes of all lines, with an LF behind each

abbrev total : List Line → ℕ
total lines = sum_by (λ line. length line.text + 1) lines

total_devices : (first count : ℕ) (rest : List Line) → total (devices_from first count ++ rest) ≡ 80 * count + total rest
total_devices first zero rest = omega arith
total_devices first (suc count) rest =
    let size = device_length first in
    let one : total (line_at (first + 3) (device_text first) ∷ (devices_from (first + 1) count ++ rest)) ≡ (length (device_text first) + 1) + total (devices_from (first + 1) count ++ rest) =
    sum_by-cons (λ (line : Line). length line.text + 1) (line_at (first + 3) (device_text first)) (devices_from (first + 1) count ++ rest) in
    let others = total_devices (first + 1) count rest in
    omega (arith, size, one, others)

pub few_bytes : (count : ℕ) → count ≤ 4096 → total (generated_lines count) ≤ 2 ^ 25
few_bytes count le =
    let block = block_length in
    let close = line_at (count + 3) (codes "}") in
    let one = sum_by-cons (λ (line : Line). length line.text + 1) (line_at 1 block_text) (line_at 2 (codes "{") ∷ (devices_from 0 count ++ close ∷ [])) in
    let two = sum_by-cons (λ (line : Line). length line.text + 1) (line_at 2 (codes "{")) (devices_from 0 count ++ close ∷ []) in
    let last = sum_by-cons (λ (line : Line). length line.text + 1) close [] in
    let devices = total_devices 0 count (close ∷ []) in
    omega (arith, block, one, two, last, devices)
