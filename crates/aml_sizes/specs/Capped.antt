-- Sizes that are counted no further than a `usize` goes.
use Rattle.std.specs.Prelude.{ℕ, ◌+◌, min, Bool, if◌then◌else◌, length}
use Rattle.aml_code.specs.Encoding.{package_length_bytes}

abbrev pub capped : ℕ → ℕ
capped size = min size 18446744073709551615

-- an opcode of so many bytes and a content of so many, which may be a package
abbrev pub framed : ℕ → Bool → ℕ → ℕ
framed opcode packed content = capped (opcode + (if packed then length (package_length_bytes content) + content else content))
