-- What a reading is.
use Rattle.std.specs.Prelude.{◌≡◌, ◌<◌, ◌≤◌, ℕ, List, length, ⊤}
use Rattle.std.specs.declared.option.Option.{Option}
use Rattle.std.specs.Option.{ForSome}
use Rattle.iasl_ports.specs.Fetched.{most_bytes}
use Rattle.host_ports.specs.declared.whole.Reading.{Reading}
use Rattle.host_ports.specs.declared.whole.Reading.TheVariants.{Whole, Longer, Failed, Memory}

-- All the bytes that a reader gives, where these are known, and at most 16 MiB; or they are more. Of a reading that failed nothing
-- is said.
abbrev pub IsReadingOf : Option (List ℕ) → Reading → Type 0
IsReadingOf given (Whole bytes) = (length bytes.items ≤ most_bytes) × ForSome given (λ all. bytes.items ≡ all)
IsReadingOf given Longer = ForSome given (λ all. most_bytes < length all)
IsReadingOf given Failed = ⊤
IsReadingOf given Memory = ⊤
