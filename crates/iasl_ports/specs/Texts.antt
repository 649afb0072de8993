-- The bytes of a text.
use Rattle.std.specs.Prelude.{ℕ, List, take, drop}
use Rattle.iasl_ports.specs.declared.list.Bytes.{Bytes}
use Rattle.iasl_ports.specs.declared.list.Bytes.TheVariants.{Inline, Boxed, Vector, Whole, Part}

-- the first so many of its own or of its box, those of its vector, or so many of shared bytes behind the first of them
abbrev pub bytes_of : Bytes → List ℕ
bytes_of (Inline bytes count) = take count bytes
bytes_of (Boxed count bytes) = take count bytes.value
bytes_of (Vector bytes) = bytes.value.items
bytes_of (Whole bytes) = bytes
bytes_of (Part count start bytes) = take count (drop start bytes)
