-- Bytes that are put before others.
use Rattle.std.proofs.Common.{◌≡◌, ℕ, ◌+◌, ◌-◌, ◌≤◌, false, List, [], ◌∷◌, ◌++◌, length, take, drop, set, replicate, sym, ap, ◌∙◌, refl, arith, append_assoc}
use Rattle.std.specs.Prelude.{nat_le, if◌then◌else◌}
use Rattle.std.proofs.lemmas.List.{drop_at, drop-drop, length-take-le, drop-set}
use Rattle.byteorder.specs.Endian.{little_bytes}
use Rattle.byteorder.proofs.Bytes.{take-bytes_low_first}
use Rattle.acpi_values.specs.Paths.{NameSeg}
use Rattle.asl_tree.specs.declared.path.Path.{Path}
use Rattle.aml_code.specs.Encoding.{prefix_bytes, name_path_bytes}
use Rattle.aml_sizes.specs.declared.style.IntegerStyle.{IntegerStyle}
use Rattle.aml_sizes.specs.TermBytes.{nodes_bytes}
use Rattle.aml_sizes.specs.Items.{written_name}

pub byte_put : (out : List ℕ) (to at byte : ℕ) → to + 1 ≡ at → at ≤ length out → drop to (set out to byte) ≡ byte ∷ drop at out
byte_put out to at byte e le = drop-set out to byte (omega (arith, e, le)) ∙ ap (λ n. byte ∷ drop n out) e

pub pasted : (out bytes : List ℕ) (to at : ℕ) → to + length bytes ≡ at → at ≤ length out → drop to (take to out ++ bytes ++ drop (to + length bytes) out) ≡ bytes ++ drop at out
pasted out bytes to at e le =
    ap (drop to) (append_assoc (take to out) bytes (drop (to + length bytes) out))
    ∙ drop_at (take to out) (bytes ++ drop (to + length bytes) out) to (length-take-le to out (omega (arith, e, le)))
    ∙ ap (λ n. bytes ++ drop n out) e

pub named : (out bytes : List ℕ) (to at : ℕ) → to + length bytes ≡ at → at ≤ length out → drop to (take to out ++ (bytes ++ drop (length bytes) (drop to out))) ≡ bytes ++ drop at out
named out bytes to at e le =
    drop_at (take to out) (bytes ++ drop (length bytes) (drop to out)) to (length-take-le to out (omega (arith, e, le)))
    ∙ ap (λ rest. bytes ++ rest) (drop-drop (length bytes) to out ∙ ap (λ n. drop n out) e)

-- the first bytes of a number in eight
pub low_bytes : (count number : ℕ) → count ≤ 8 → take count (little_bytes 8 number) ≡ little_bytes count number
low_bytes count number le = take-bytes_low_first 0 8 count number le

-- how many bytes stand before a place
pub before_it : (to size at : ℕ) → to + size ≡ at → at - to ≡ size
before_it to size at e = omega (arith, e)

-- bytes that were put before others
pub both_put : (first second out out1 out2 : List ℕ) → out1 ≡ second ++ out → out2 ≡ first ++ out1 → out2 ≡ (first ++ second) ++ out
both_put first second out out1 out2 e1 e2 = e2 ∙ ap (λ bs. first ++ bs) e1 ∙ sym (append_assoc first second out)

-- a name of one segment without a prefix is that segment
pub single_name : (path : Path) (segment : NameSeg) → path.root ≡ false → path.up ≤ 0 → path.segs ≡ segment ∷ [] → written_name path ≡ segment
single_name path segment er eu es =
    let none : path.up ≡ 0 = omega (arith, eu) in
    ap (λ segs. if nat_le (length segs) 255 then prefix_bytes path ++ name_path_bytes segs else []) es
    ∙ ap (λ root. (if root then 0x5C ∷ [] else replicate path.up 0x5E) ++ segment) er
    ∙ ap (λ (n : ℕ). replicate n 0x5E ++ segment) none

-- no nodes have no bytes
pub no_bytes : (style : IntegerStyle) → nodes_bytes style [] [] ≡ []
unfolding nodes_bytes
no_bytes style = refl
