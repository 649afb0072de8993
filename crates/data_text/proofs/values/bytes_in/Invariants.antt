use Rattle.std.proofs.Common.{◌≡◌, ◌++◌, drop}
use Rattle.std.specs.Option.{option_map}
use Rattle.data_text.specs.declared.values.Pair.TheVariants.{Ready}
use Rattle.data_text.specs.Values.{bytes_at}
use Rattle.data_text.proofs.values.bytes_in.Given as goal

abbrev pub invariant-loop-byte : goal.invariant-loop-byte
invariant-loop-byte l = option_map (λ more. l.bytes.items ++ more) (bytes_at l.pair (drop l.byte-index l.value)) ≡ bytes_at Ready l.value
