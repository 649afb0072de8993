-- A format, byte by byte.
use Rattle.std.proofs.Common.{◌≡◌, ℕ, Bool, true, false, List, [], ◌∷◌, refl, arith}
use Rattle.std.specs.Prelude.{nat_eq, not, ◌&&◌, if◌then◌else◌}
use Rattle.asl_tree.specs.Formats.{is_hole, is_percent, is_format}

-- a byte that is no `%` stands for itself
pub plain_byte : (c : ℕ) (format : List ℕ) → nat_eq c 0x25 ≡ false → is_format (c ∷ format) ≡ is_format format
plain_byte c [] e = by (nat_eq c 0x25) e
  where
    by : (b : Bool) → b ≡ false → not b ≡ true
    by false e = refl
    by true e = absurd (grind arith)
plain_byte c (d ∷ format) e = by (nat_eq c 0x25) e
  where
    by : (b : Bool) → b ≡ false → (if b && nat_eq d 0x6F then is_format format else if b && nat_eq d 0x25 then is_format format else not b && is_format (d ∷ format)) ≡ is_format (d ∷ format)
    by false e = refl
    by true e = absurd (grind arith)

-- `%o` and `%%`
pub good_mark : (format : List ℕ) → (is_format (0x25 ∷ 0x6F ∷ format) ≡ is_format format) × (is_format (0x25 ∷ 0x25 ∷ format) ≡ is_format format)
good_mark format = (refl, refl)

-- any other byte behind a `%`
pub bad_mark : (d : ℕ) (format : List ℕ) → nat_eq d 0x6F ≡ false → nat_eq d 0x25 ≡ false → is_format (0x25 ∷ d ∷ format) ≡ false
bad_mark d format e f = by (nat_eq d 0x6F) (nat_eq d 0x25) e f
  where
    by : (b p : Bool) → b ≡ false → p ≡ false → (if b then is_format format else if p then is_format format else false) ≡ false
    by false false e f = refl
    by true p e f = absurd (grind arith)
    by false true e f = absurd (grind arith)
