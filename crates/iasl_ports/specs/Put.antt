-- What a put, a write and their refusals leave.
use Rattle.std.specs.Prelude.{◌≡◌, ℕ, List, [], ◌∷◌, ◌⊎◌, take}
use Rattle.std.specs.declared.option.Option.{Option}
use Rattle.iasl_ports.specs.Counts.{Rose}
use Rattle.iasl_ports.specs.Gained.{Gains, Named}
use Rattle.iasl_ports.specs.declared.outputs.PutFault.{PutFault}
use Rattle.iasl_ports.specs.declared.outputs.PutFault.TheVariants.{Failed, Memory}

-- nothing, or the pair with some first bytes
abbrev pub GainsPart : Option (List Named) → Option (List Named) → Named → Type 0
GainsPart old new file = Gains old new [] ⊎ ((n : ℕ) × Gains old new ((file.0, take n file.1) ∷ []))

abbrev pub PutRefused : PutFault → Option (List Named) → Option (List Named) → List ℕ → List ℕ → Type 0
PutRefused Failed old new name bytes = GainsPart old new (name, bytes)
PutRefused Memory old new name bytes = Gains old new []

abbrev pub PutCounts : PutFault → ℕ → ℕ → Type 0
PutCounts Failed before now = Rose before now
PutCounts Memory before now = now ≡ before
