-- A text that is UTF-8 tests so, and no other does.
use Rattle.std.proofs.Common.{◌≡◌, ℕ, true, false, List, refl}
use Rattle.std.specs.Str.{is_utf8, IsUtf8}
use Rattle.std.proofs.lemmas.Str.{IsUtf8-from_is_utf8, is_utf8-from_IsUtf8}

pub tests_utf8 : (bytes : List ℕ) → IsUtf8 bytes → is_utf8 bytes ≡ true
tests_utf8 bytes h = is_utf8-from_IsUtf8 bytes h

pub tests_other : (bytes : List ℕ) → ¬ (IsUtf8 bytes) → is_utf8 bytes ≡ false
tests_other bytes h = elim (is_utf8 bytes) as (λ b. is_utf8 bytes ≡ b → b ≡ false) [
  | true ↦ λ e. absurd (h (IsUtf8-from_is_utf8 bytes e))
  | false ↦ λ e. refl
] refl
