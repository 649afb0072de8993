-- The senses of the code.
use Rattle.std.specs.Prelude.{◌≡◌, Result, MatchResult}
use Rattle.descriptor_checks.specs.declared.sense.Sense.{Sense as CodeSense}
use Rattle.descriptor_checks.specs.Senses.{Sense, Nothing, ADescriptor, AField, IsTooFar}

abbrev pub sense_as : CodeSense → Sense
sense_as CodeSense.Nothing = Nothing
sense_as CodeSense.Descriptor = ADescriptor
sense_as (CodeSense.Field bit) = AField bit

-- what code answers for a sense: this, or an error for a field that is too far
abbrev pub IsSense : {E : Type 0} → Result CodeSense E → Sense → Type 0
IsSense answer sense = MatchResult answer (λ found. sense_as found ≡ sense) (λ e. IsTooFar sense)
