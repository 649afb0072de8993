-- What a fetch answers.
use Rattle.std.specs.Prelude.{◌≡◌, ℕ, ◌<◌, List, [], ◌∷◌, length, ⊤, None, Some, Bool, cond, nat_eq}
use Rattle.std.specs.declared.option.Option.{Option}
use Rattle.std.specs.Cmp.Lexicographic.{pointwise}
use Rattle.iasl_ports.specs.Counts.{Rose}
use Rattle.iasl_ports.specs.Gained.{Named}
use Rattle.iasl_ports.specs.declared.files.FetchFault.{FetchFault}
use Rattle.iasl_ports.specs.declared.files.FetchFault.TheVariants.{Absent, TooLarge, Failed, Memory}

-- 16 MiB
abbrev pub most_bytes : ℕ
most_bytes = 16777216

abbrev pub same_name : List ℕ → List ℕ → Bool
same_name a b = pointwise nat_eq a b

-- the bytes under a name: those of its first pair
abbrev pub find_file : List Named → List ℕ → Option (List ℕ)
find_file [] name = None
find_file (file ∷ rest) name = cond (same_name file.0 name) (Some file.1) (find_file rest name)

-- a refusal, and what stands under the name
abbrev pub RefusedAt : FetchFault → Option (List ℕ) → Type 0
RefusedAt Absent found = found ≡ None
RefusedAt TooLarge found = (bytes : List ℕ) × (found ≡ Some bytes) × (most_bytes < length bytes)
RefusedAt Failed found = ⊤
RefusedAt Memory found = ⊤

-- which counts a refusal raised
abbrev pub RefusedCounts : FetchFault → ℕ → ℕ → ℕ → ℕ → ℕ → ℕ → Type 0
RefusedCounts Absent faults faults' absents absents' larges larges' = (faults' ≡ faults) × Rose absents absents'
RefusedCounts TooLarge faults faults' absents absents' larges larges' = (faults' ≡ faults) × Rose larges larges'
RefusedCounts Failed faults faults' absents absents' larges larges' = Rose faults faults'
RefusedCounts Memory faults faults' absents absents' larges larges' = faults' ≡ faults
